-- The limits of a geometry, as a test and as a fact; numbers that stop at a greatest one meet them all the same.
use Rattle.std.proofs.Common.{◌-◌, ◌^◌, Option, Some, None, List, sym, lit≤, ◌≡◌, ℕ, ◌≤◌, min, Bool, true, false, refl, ap, ◌∙◌, arith}
use Rattle.std.specs.Prelude.{if◌then◌else◌}
use Rattle.std.proofs.lemmas.Bool.Decides.{nat_tests}
use Rattle.mc_model.specs.declared.geometry.Geometry.{Geometry}
use Rattle.mc_model.specs.Server.{IsValid}
use Rattle.sei_script.specs.Says.{is_in_limits, geometry_numbers, geometry_words}
use Rattle.sei_script.specs.Lines.{Part, part, first_number, IsCapped}
use Rattle.sei_script.specs.declared.line.ScriptLine.TheVariants.{Geometry as GeometryLine}
use Rattle.sei_script.specs.declared.line.Why.TheVariants.{GeometryOutOfLimits}
use Rattle.sei_script.specs.declared.line.Said.{Said}
use Rattle.sei_script.specs.declared.line.Said.TheVariants.{Line, Wrong}

pub valid_in_limits : (g : Geometry) → is_in_limits g ≡ true → IsValid g
valid_in_limits g e =
    record {
      some_buckets = grind (arith, nat_tests);
      few_buckets = grind (arith, nat_tests);
      some_slots = grind (arith, nat_tests);
      few_slots = grind (arith, nat_tests);
      some_words = grind (arith, nat_tests);
      few_words = grind (arith, nat_tests);
    }

pub in_limits_valid : (g : Geometry) → IsValid g → is_in_limits g ≡ true
in_limits_valid g h = grind (arith, nat_tests)

abbrev geometry_by : Bool → Geometry → Said
geometry_by t g = if t then Line (GeometryLine g) else Wrong GeometryOutOfLimits

abbrev geometry : ℕ → ℕ → ℕ → Geometry
geometry b s w = record { buckets = b; slots = s; value_words = w }

capped_by : (m b s w : ℕ) (t u : Bool) → 1025 ≤ m → is_in_limits (geometry (min b m) (min s m) (min w m)) ≡ t → is_in_limits (geometry b s w) ≡ u
    → geometry_by t (geometry (min b m) (min s m) (min w m)) ≡ geometry_by u (geometry b s w)
capped_by m b s w true true h p q =
    let v : IsValid (geometry b s w) = valid_in_limits (geometry b s w) q in
    let eb : min b m ≡ b = omega arith in
    let es : min s m ≡ s = omega arith in
    let ew : min w m ≡ w = omega arith in
    rw (eb, es, ew) refl
capped_by m b s w true false h p q =
    let v : IsValid (geometry (min b m) (min s m) (min w m)) = valid_in_limits (geometry (min b m) (min s m) (min w m)) p in
    let u : IsValid (geometry b s w) = record { some_buckets = omega arith; few_buckets = omega arith; some_slots = omega arith; few_slots = omega arith; some_words = omega arith; few_words = omega arith } in
    let r : is_in_limits (geometry b s w) ≡ true = in_limits_valid (geometry b s w) u in
    cc
capped_by m b s w false true h p q =
    let v : IsValid (geometry b s w) = valid_in_limits (geometry b s w) q in
    let u : IsValid (geometry (min b m) (min s m) (min w m)) = record { some_buckets = omega arith; few_buckets = omega arith; some_slots = omega arith; few_slots = omega arith; some_words = omega arith; few_words = omega arith } in
    let r : is_in_limits (geometry (min b m) (min s m) (min w m)) ≡ true = in_limits_valid (geometry (min b m) (min s m) (min w m)) u in
    cc
capped_by m b s w false false h p q = refl

-- numbers past the last u64 are out of limits, as that is
pub capped_numbers : (m b s w : ℕ) → 1025 ≤ m → geometry_numbers (min b m) (min s m) (min w m) ≡ geometry_numbers b s w
capped_numbers m b s w h = capped_by m b s w (is_in_limits (geometry (min b m) (min s m) (min w m))) (is_in_limits (geometry b s w)) h refl refl

-- a number that was found, as the code has it
pub record IsFound (first : Option Part) (n : ℕ) (rest : Option (List ℕ)) : Type 0 where
  pub number : ℕ
  pub is : first ≡ Some (part number rest)
  pub capped : min number (2 ^ 64 - 1) ≡ n

pub found_number : (first : Option Part) (n : ℕ) (rest : Option (List ℕ)) → IsCapped (Some (part n rest)) first → IsFound first n rest
found_number None n rest e = cc
found_number (Some p) n rest e =
    let same : part n rest ≡ part (min p.number (2 ^ 64 - 1)) p.rest = cc in
    record {
      number = p.number;
      is = ap (λ (r : Option (List ℕ)). Some (part p.number r)) (sym (ap (λ (q : Part). q.rest) same));
      capped = sym (ap (λ (q : Part). q.number) same);
    }

words_by : (rest first second third : Option (List ℕ)) (b s w : ℕ) → IsFound (first_number rest) b first → IsFound (first_number first) s second → IsFound (first_number second) w third
    → third ≡ None → geometry_words rest ≡ geometry_numbers b s w
words_by rest first second third b s w fb fs fw e =
    rw (fb.is, fs.is, fw.is, e) (sym (capped_numbers (2 ^ 64 - 1) fb.number fs.number fw.number (lit≤ tt)) ∙ rw (fb.capped, fs.capped, fw.capped) refl)

-- three numbers and no more
pub words_found : (rest first second third : Option (List ℕ)) (b s w : ℕ) → IsCapped (Some (part b first)) (first_number rest) → IsCapped (Some (part s second)) (first_number first)
    → IsCapped (Some (part w third)) (first_number second) → third ≡ None → geometry_words rest ≡ geometry_numbers b s w
words_found rest first second third b s w fb fs fw e = words_by rest first second third b s w (found_number _ b first fb) (found_number _ s second fs) (found_number _ w third fw) e

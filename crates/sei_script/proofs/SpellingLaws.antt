-- A line is read exactly as it is spelled, and each cause is told exactly where it stands.
use Rattle.std.proofs.Common.{◌≡◌, ◌≢◌, ℕ, ◌<◌, ◌≤◌, ◌^◌, Bool, true, false, List, ◌∷◌, ◌++◌, Option, Some, None, refl, ap, sym, ◌∙◌, subst, arith, append-nil, ◌⊎◌, inl, inr, ⊎_elim}
use Rattle.std.specs.Prelude.{if◌then◌else◌, ◌==◌, nat_le, nat_lt, codes, IsSome, All}
use Rattle.std.specs.Fmt.{decimal}
use Rattle.std.specs.Str.{bytes_eq}
use Rattle.std.specs.Str.Lines.{strip_carriage_return}
use Rattle.std.proofs.lemmas.Bool.Decides.{nat_tests}
use Rattle.std.proofs.lemmas.Slice.Eq.{bytes_eq-Decides}
use Rattle.mc_model.specs.declared.geometry.Geometry.{Geometry}
use Rattle.mc_model.specs.Server.{IsValid}
use Rattle.sei_code.specs.declared.modes.Mode.{Mode}
use Rattle.sei_code.specs.declared.modes.Mode.TheVariants.{Plain, Coded}
use Rattle.sei_fault.specs.declared.plan.Planned.{Planned}
use Rattle.sei_script.specs.Escapes.{unescaped}
use Rattle.sei_script.specs.Context.{context_of}
use Rattle.sei_script.specs.Effects.{connection_of}
use Rattle.sei_script.specs.Faults.{is_planned, is_second_line, once}
use Rattle.sei_script.specs.Causes.{HasKind, OfGeometry, OfOpen, OfSay, OfHex, OfDrain, OfClock, OfFault, MayStand, IsBad, NotSpelled, Second, NeedsUnknown, IsCause, IsSaid, PlansAgain, IsSaidOnce}
use Rattle.sei_script.specs.Fit.{IsWellPlaced}
use Rattle.sei_script.specs.Hexadecimal.{unhexed}
use Rattle.sei_script.specs.Limits.{most_connections}
use Rattle.sei_script.specs.Lines.{word_of, behind_word, first_number, first_exact, last_exact}
use Rattle.sei_script.specs.Plans.{plan_of}
use Rattle.sei_script.specs.Says.{with_part, at_end, is_in_limits, geometry_words, geometry_says, behind_geometry, open_number, open_says, of_open, say_says, hex_says, drain_says, clock_says, fault_says, other_says, kind_says, is_skipped, text_says, line_says}
use Rattle.sei_script.specs.Spelling.{numeral, hex_text, plan_text, IsSelect, IsKind, SpellsLine}
use Rattle.sei_script.specs.Unescapes.{Unescapes}
use Rattle.sei_script.specs.declared.line.Context.{Context}
use Rattle.sei_script.specs.declared.line.ScriptLine.{ScriptLine}
use Rattle.sei_script.specs.declared.line.ScriptLine.TheVariants.{Geometry as GeometryLine, Open, Say, Hex, Drain, Clock, Fault}
use Rattle.sei_script.specs.declared.line.Why.{Why}
use Rattle.sei_script.specs.declared.line.Why.TheVariants.{GeometryMissing, UnknownLine, BadLine, GeometryOutOfLimits, TooManyConnections, WrongNumber, UnknownConnection, UnfinishedLine, SecondFault, TooBig}
use Rattle.sei_script.specs.declared.line.Said.{Said}
use Rattle.sei_script.specs.declared.line.Said.TheVariants.{Nothing, Line, Wrong}
use Rattle.sei_script.proofs.Limits.{valid_in_limits, in_limits_valid}
use Rattle.sei_script.proofs.HexLaws.{unhexed-hex_text, HexIn, hex_cut}
use Rattle.sei_script.proofs.PlanLaws.{by_word, plan_read, PlanIn, plan_cut}
use Rattle.sei_script.proofs.UnescapeLaws.{stands_unescaped, unescaped_stands}
use Rattle.sei_script.proofs.WordLaws.{tail, cut, is_word, word_front, word_behind, first_spelled, exact_spelled, last_spelled, first_cut, IsExact, exact_cut, IsLast, last_cut}

-- what a spelled line is told by its place, once the geometry stands where it has to
abbrev pub placed : Context → ScriptLine → Said
placed x (GeometryLine g) = if is_in_limits g then Line (GeometryLine g) else Wrong GeometryOutOfLimits
placed x (Open c mode) = if nat_le most_connections c then Wrong TooManyConnections else (if c == x.opens then Line (Open c mode) else Wrong WrongNumber)
placed x (Say c bytes) = of_open x c (Say c bytes)
placed x (Hex c bytes) = of_open x c (Hex c bytes)
placed x Drain = Line Drain
placed x (Clock now) = Line (Clock now)
placed x (Fault c t plan) = of_open x c (Fault c t plan)

-- a geometry that is the first
abbrev pub first_geometry : Option Geometry → Said → Said
first_geometry None said = said
first_geometry (Some g) said = Wrong BadLine

-- what a spelled line is told
abbrev pub told : Context → ScriptLine → Said
told x (GeometryLine g) = first_geometry x.geometry (placed x (GeometryLine g))
told x (Open c mode) = behind_geometry x.geometry (placed x (Open c mode))
told x (Say c bytes) = behind_geometry x.geometry (placed x (Say c bytes))
told x (Hex c bytes) = behind_geometry x.geometry (placed x (Hex c bytes))
told x Drain = behind_geometry x.geometry (placed x Drain)
told x (Clock now) = behind_geometry x.geometry (placed x (Clock now))
told x (Fault c t plan) = behind_geometry x.geometry (placed x (Fault c t plan))

-- a line of a kind says what its kind and its rest say
kind_read : (x : Context) (kind : List ℕ) (t : Option (List ℕ)) → is_word kind ≡ true → is_skipped (kind ++ tail t) ≡ false → text_says x (kind ++ tail t) ≡ kind_says x kind t
kind_read x kind t h s =
    ap (λ (skipped : Bool). if skipped then Nothing else kind_says x (word_of (kind ++ tail t)) (behind_word (kind ++ tail t))) s
    ∙ ap (λ (w : List ℕ). kind_says x w (behind_word (kind ++ tail t))) (word_front kind t h) ∙ ap (kind_says x kind) (word_behind kind t h)

geometry_read : (o : Option Geometry) (g : Geometry)
    → geometry_says o (Some (numeral g.buckets ++ tail (Some (numeral g.slots ++ tail (Some (numeral g.value_words ++ tail None)))))) ≡ first_geometry o (if is_in_limits g then Line (GeometryLine g) else Wrong GeometryOutOfLimits)
geometry_read (Some h) g = refl
geometry_read None g =
    rw (first_spelled g.buckets (Some (numeral g.slots ++ tail (Some (numeral g.value_words ++ tail None)))), first_spelled g.slots (Some (numeral g.value_words ++ tail None)), first_spelled g.value_words None) refl

open_read : (x : Context) (c : ℕ) → open_says x (Some (numeral c ++ tail (Some (codes "plain")))) ≡ open_number x c
open_read x c = rw (first_spelled c (Some (codes "plain"))) refl

say_read : (x : Context) (c : ℕ) (text bytes : List ℕ) → Unescapes text bytes → say_says x (Some (numeral c ++ tail (Some text))) ≡ of_open x c (Say c bytes)
say_read x c text bytes h = rw (first_spelled c (Some text), stands_unescaped text bytes h) refl

hex_read : (x : Context) (c : ℕ) (bytes : List ℕ) → All (λ b. b < 256) bytes → hex_says x (Some (numeral c ++ tail (Some (hex_text bytes)))) ≡ of_open x c (Hex c bytes)
hex_read x c bytes h = rw (first_spelled c (Some (hex_text bytes)), unhexed-hex_text bytes h) refl

clock_read : (now : ℕ) → now < 2 ^ 64 → clock_says (Some (decimal now)) ≡ Line (Clock now)
clock_read now h = rw (last_spelled now h) refl

fault_read : (x : Context) (c t : ℕ) (plan : Planned) → t < 2 ^ 64 → IsSelect plan.select → IsKind plan.kind
    → fault_says x (Some (numeral c ++ tail (Some (decimal t ++ tail (Some (plan_text plan)))))) ≡ of_open x c (Fault c t plan)
fault_read x c t plan h s k = rw (first_spelled c (Some (decimal t ++ tail (Some (plan_text plan)))), exact_spelled t (Some (plan_text plan)) h, plan_read plan s k) refl

-- what a spelled line says
pub spelled_says : (x : Context) (text : List ℕ) (s : ScriptLine) → SpellsLine text s → text_says x text ≡ told x s
spelled_says x text (GeometryLine g) h =
    let t : Option (List ℕ) = Some (numeral g.buckets ++ tail (Some (numeral g.slots ++ tail (Some (numeral g.value_words ++ tail None))))) in
    let is : text ≡ codes "geometry" ++ tail t = h ∙ ap (λ (w : List ℕ). codes "geometry" ++ 32 ∷ (numeral g.buckets ++ 32 ∷ (numeral g.slots ++ 32 ∷ w))) (sym (append-nil (numeral g.value_words))) in
    ap (text_says x) is ∙ kind_read x (codes "geometry") t refl refl ∙ geometry_read x.geometry g
spelled_says x text (Open c Coded) h = absurd h
spelled_says x text (Open c Plain) h =
    let t : Option (List ℕ) = Some (numeral c ++ tail (Some (codes "plain"))) in
    let is : text ≡ codes "open" ++ tail t = h in
    ap (text_says x) is ∙ kind_read x (codes "open") t refl refl ∙ ap (behind_geometry x.geometry) (open_read x c)
spelled_says x text (Say c bytes) h =
    let t : Option (List ℕ) = Some (numeral c ++ tail (Some h.escaped)) in
    let is : text ≡ codes "say" ++ tail t = h.spelled in
    ap (text_says x) is ∙ kind_read x (codes "say") t refl refl ∙ ap (behind_geometry x.geometry) (say_read x c h.escaped bytes h.stands)
spelled_says x text (Hex c bytes) h =
    let t : Option (List ℕ) = Some (numeral c ++ tail (Some (hex_text bytes))) in
    let is : text ≡ codes "hex" ++ tail t = h.spelled in
    ap (text_says x) is ∙ kind_read x (codes "hex") t refl refl ∙ ap (behind_geometry x.geometry) (hex_read x c bytes h.small)
spelled_says x text Drain h = ap (text_says x) h
spelled_says x text (Clock now) h =
    let is : text ≡ codes "clock" ++ tail (Some (decimal now)) = h.spelled in
    ap (text_says x) is ∙ kind_read x (codes "clock") (Some (decimal now)) refl refl ∙ ap (behind_geometry x.geometry) (clock_read now h.small)
spelled_says x text (Fault c t plan) h =
    let r : Option (List ℕ) = Some (numeral c ++ tail (Some (decimal t ++ tail (Some (plan_text plan))))) in
    let is : text ≡ codes "fault" ++ tail r = h.spelled in
    ap (text_says x) is ∙ kind_read x (codes "fault") r refl refl ∙ ap (behind_geometry x.geometry) (fault_read x c t plan h.number h.select h.kind)

-- what is known of a line of some kind: it is spelled, or said to be bad
data Known (text : List ℕ) (said : Said) : Type 0 where
  Bad : said ≡ Wrong BadLine → Known text said
  Spelled : (s : ScriptLine) → SpellsLine text s → Known text said

module _ (P : Said → Type 0) (bad : P (Wrong BadLine)) where
  by_part : {A : Type 0} (o : Option A) (f : A → Said) → ((a : A) → o ≡ Some a → P (f a)) → P (with_part o f)
  by_part None f h = bad
  by_part (Some a) f h = h a refl

  by_end : (rest : Option (List ℕ)) (said : Said) → (rest ≡ None → P said) → P (at_end rest said)
  by_end None said h = h refl
  by_end (Some rest) said h = bad

module _ (x : Context) (text : List ℕ) (rest : Option (List ℕ)) where
  abbrev K : Said → Type 0
  K = Known text

  bad : K (Wrong BadLine)
  bad = Bad refl

  geometry_known : text ≡ codes "geometry" ++ tail rest → K (geometry_words rest)
  geometry_known is =
      by_part K bad (first_number rest) _ (λ b e. by_part K bad (first_number b.rest) _ (λ s f. by_part K bad (first_number s.rest) _ (λ w g.
      by_end K bad w.rest _ (λ h. Spelled (GeometryLine (record { buckets = b.number; slots = s.number; value_words = w.number }))
      (is ∙ ap (λ (r : Option (List ℕ)). codes "geometry" ++ tail r) (first_cut rest b e)
      ∙ ap (λ (r : Option (List ℕ)). codes "geometry" ++ 32 ∷ (numeral b.number ++ tail r)) (first_cut b.rest s f)
      ∙ ap (λ (r : Option (List ℕ)). codes "geometry" ++ 32 ∷ (numeral b.number ++ 32 ∷ (numeral s.number ++ tail r))) (first_cut s.rest w g)
      ∙ ap (λ (r : Option (List ℕ)). codes "geometry" ++ 32 ∷ (numeral b.number ++ 32 ∷ (numeral s.number ++ 32 ∷ (numeral w.number ++ tail r)))) h
      ∙ ap (λ (r : List ℕ). codes "geometry" ++ 32 ∷ (numeral b.number ++ 32 ∷ (numeral s.number ++ 32 ∷ r))) (append-nil (numeral w.number)))))))

  open_known : text ≡ codes "open" ++ tail rest → K (open_says x rest)
  open_known is =
      by_part K bad (first_number rest) _ (λ c e. by_part K bad c.rest _ (λ mode f.
      by_word K mode (codes "plain") _ _ (λ g. Spelled (Open c.number Plain)
      (is ∙ ap (λ (r : Option (List ℕ)). codes "open" ++ tail r) (first_cut rest c e)
      ∙ ap (λ (r : Option (List ℕ)). codes "open" ++ 32 ∷ (numeral c.number ++ tail r)) f
      ∙ ap (λ (m : List ℕ). codes "open" ++ 32 ∷ (numeral c.number ++ 32 ∷ m)) g)) (λ _. bad)))

  say_known : text ≡ codes "say" ++ tail rest → K (say_says x rest)
  say_known is =
      by_part K bad (first_number rest) _ (λ c e. by_part K bad c.rest _ (λ escaped f. by_part K bad (unescaped escaped) _ (λ bytes g.
      Spelled (Say c.number bytes) (record {
        escaped = escaped;
        spelled = is ∙ ap (λ (r : Option (List ℕ)). codes "say" ++ tail r) (first_cut rest c e) ∙ ap (λ (r : Option (List ℕ)). codes "say" ++ 32 ∷ (numeral c.number ++ tail r)) f;
        stands = unescaped_stands escaped bytes g;
      }))))

  hex_known : text ≡ codes "hex" ++ tail rest → K (hex_says x rest)
  hex_known is =
      by_part K bad (first_number rest) _ (λ c e. by_part K bad c.rest _ (λ digits f. by_part K bad (unhexed digits) _ (λ bytes g.
      let h : HexIn digits bytes = hex_cut digits bytes g in
      Spelled (Hex c.number bytes) (record {
        spelled = is ∙ ap (λ (r : Option (List ℕ)). codes "hex" ++ tail r) (first_cut rest c e) ∙ ap (λ (r : Option (List ℕ)). codes "hex" ++ 32 ∷ (numeral c.number ++ tail r)) f
            ∙ ap (λ (d : List ℕ). codes "hex" ++ 32 ∷ (numeral c.number ++ 32 ∷ d)) h.is;
        small = h.small;
      }))))

  drain_known : text ≡ codes "drain" ++ tail rest → K (drain_says rest)
  drain_known is = by_end K bad rest _ (λ h. Spelled Drain (is ∙ ap (λ (r : Option (List ℕ)). codes "drain" ++ tail r) h))

  clock_known : text ≡ codes "clock" ++ tail rest → K (clock_says rest)
  clock_known is =
      by_part K bad (last_exact rest) _ (λ now e.
      let h : IsLast rest now = last_cut rest now e in
      Spelled (Clock now) (record { spelled = is ∙ ap (λ (r : Option (List ℕ)). codes "clock" ++ tail r) h.text; small = h.small }))

  fault_known : text ≡ codes "fault" ++ tail rest → K (fault_says x rest)
  fault_known is =
      by_part K bad (first_number rest) _ (λ c e. by_part K bad (first_exact c.rest) _ (λ t f. by_part K bad (plan_of t.rest) _ (λ plan g.
      let h : IsExact c.rest t = exact_cut c.rest t f in
      let p : PlanIn t.rest plan = plan_cut t.rest plan g in
      Spelled (Fault c.number t.number plan) (record {
        spelled = is ∙ ap (λ (r : Option (List ℕ)). codes "fault" ++ tail r) (first_cut rest c e) ∙ ap (λ (r : Option (List ℕ)). codes "fault" ++ 32 ∷ (numeral c.number ++ tail r)) h.text
            ∙ ap (λ (r : Option (List ℕ)). codes "fault" ++ 32 ∷ (numeral c.number ++ 32 ∷ (decimal t.number ++ tail r))) p.is;
        number = h.small;
        select = p.select;
        kind = p.kind;
      }))))

-- kinds

word_at : (text kind : List ℕ) (t : Option (List ℕ)) → is_word kind ≡ true → text ≡ kind ++ tail t → word_of text ≡ kind
word_at text kind t h is = ap word_of is ∙ word_front kind t h

spelled_kind : (text : List ℕ) (s : ScriptLine) → SpellsLine text s → HasKind text
spelled_kind text (GeometryLine g) h = OfGeometry (word_at text (codes "geometry") (Some _) refl h)
spelled_kind text (Open c Coded) h = absurd h
spelled_kind text (Open c Plain) h = OfOpen (word_at text (codes "open") (Some _) refl h)
spelled_kind text (Say c bytes) h = OfSay (word_at text (codes "say") (Some _) refl h.spelled)
spelled_kind text (Hex c bytes) h = OfHex (word_at text (codes "hex") (Some _) refl h.spelled)
spelled_kind text Drain h = OfDrain (ap word_of h)
spelled_kind text (Clock now) h = OfClock (word_at text (codes "clock") (Some _) refl h.spelled)
spelled_kind text (Fault c t plan) h = OfFault (word_at text (codes "fault") (Some _) refl h.spelled)

-- of another kind than a geometry
abbrev IsOther : List ℕ → Type 0
IsOther text = word_of text ≢ codes "geometry"

other : (text kind : List ℕ) → bytes_eq kind (codes "geometry") ≡ false → word_of text ≡ kind → IsOther text
other text kind f e g = let h : true ≡ false = sym (ap (λ w. bytes_eq w (codes "geometry")) (sym e ∙ g)) ∙ f in cc

not_skipped : (text : List ℕ) (s : ScriptLine) → SpellsLine text s → is_skipped text ≡ false
not_skipped text (GeometryLine g) h = ap is_skipped h
not_skipped text (Open c Coded) h = absurd h
not_skipped text (Open c Plain) h = ap is_skipped h
not_skipped text (Say c bytes) h = ap is_skipped h.spelled
not_skipped text (Hex c bytes) h = ap is_skipped h.spelled
not_skipped text Drain h = ap is_skipped h
not_skipped text (Clock now) h = ap is_skipped h.spelled
not_skipped text (Fault c t plan) h = ap is_skipped h.spelled

-- what a line of a kind says
at_kind : (x : Context) (text kind : List ℕ) → is_skipped text ≡ false → word_of text ≡ kind → text_says x text ≡ kind_says x kind (behind_word text)
at_kind x text kind s e = ap (λ (skipped : Bool). if skipped then Nothing else kind_says x (word_of text) (behind_word text)) s ∙ ap (λ (w : List ℕ). kind_says x w (behind_word text)) e

not_word : (w k : List ℕ) → w ≢ k → bytes_eq w k ≡ false
not_word w k n = by (bytes_eq w k) refl
  where
    by : (t : Bool) → bytes_eq w k ≡ t → t ≡ false
    by true e = absurd (n ((bytes_eq-Decides w k).0 e))
    by false e = refl

at_other : (x : Context) (text : List ℕ) → is_skipped text ≡ false → IsOther text → text_says x text ≡ behind_geometry x.geometry (other_says x (word_of text) (behind_word text))
at_other x text s n =
    at_kind x text (word_of text) s refl
    ∙ ap (λ (t : Bool). if t then geometry_says x.geometry (behind_word text) else behind_geometry x.geometry (other_says x (word_of text) (behind_word text))) (not_word (word_of text) (codes "geometry") n)

text_at : (text kind : List ℕ) → word_of text ≡ kind → text ≡ kind ++ tail (behind_word text)
text_at text kind e = cut text ∙ ap (λ (w : List ℕ). w ++ tail (behind_word text)) e

known_geometry : (x : Context) (text : List ℕ) (o : Option Geometry) → word_of text ≡ codes "geometry" → Known text (geometry_says o (behind_word text))
known_geometry x text None e = geometry_known x text (behind_word text) (text_at text (codes "geometry") e)
known_geometry x text (Some g) e = Bad refl

known_behind : (text : List ℕ) (o : Option Geometry) (said : Said) → IsSome o → Known text said → Known text (behind_geometry o said)
known_behind text None said h k = let none : false ≡ true = h in cc
known_behind text (Some g) said h k = k

-- a line that may stand is no geometry, so the geometry stands before it
some_geometry : (x : Context) (text : List ℕ) → IsOther text → MayStand x text → IsSome x.geometry
some_geometry x text n (inl h) = h
some_geometry x text n (inr e) = absurd (n e)

known_text : (x : Context) (text : List ℕ) → is_skipped text ≡ false → HasKind text → MayStand x text → Known text (text_says x text)
known_text x text s (OfGeometry e) m = subst (Known text) (sym (at_kind x text (codes "geometry") s e)) (known_geometry x text x.geometry e)
known_text x text s (OfOpen e) m =
    subst (Known text) (sym (at_kind x text (codes "open") s e)) (known_behind text x.geometry _ (some_geometry x text (other text (codes "open") refl e) m) (open_known x text (behind_word text) (text_at text (codes "open") e)))
known_text x text s (OfSay e) m =
    subst (Known text) (sym (at_kind x text (codes "say") s e)) (known_behind text x.geometry _ (some_geometry x text (other text (codes "say") refl e) m) (say_known x text (behind_word text) (text_at text (codes "say") e)))
known_text x text s (OfHex e) m =
    subst (Known text) (sym (at_kind x text (codes "hex") s e)) (known_behind text x.geometry _ (some_geometry x text (other text (codes "hex") refl e) m) (hex_known x text (behind_word text) (text_at text (codes "hex") e)))
known_text x text s (OfDrain e) m =
    subst (Known text) (sym (at_kind x text (codes "drain") s e)) (known_behind text x.geometry _ (some_geometry x text (other text (codes "drain") refl e) m) (drain_known x text (behind_word text) (text_at text (codes "drain") e)))
known_text x text s (OfClock e) m =
    subst (Known text) (sym (at_kind x text (codes "clock") s e)) (known_behind text x.geometry _ (some_geometry x text (other text (codes "clock") refl e) m) (clock_known x text (behind_word text) (text_at text (codes "clock") e)))
known_text x text s (OfFault e) m =
    subst (Known text) (sym (at_kind x text (codes "fault") s e)) (known_behind text x.geometry _ (some_geometry x text (other text (codes "fault") refl e) m) (fault_known x text (behind_word text) (text_at text (codes "fault") e)))

-- from what is said of a line to what the reader says

told_first : (o : Option Geometry) (said : Said) → o ≡ None → first_geometry o said ≡ said
told_first None said e = refl
told_first (Some g) said e = cc

told_behind : (o : Option Geometry) (said : Said) → IsSome o → behind_geometry o said ≡ said
told_behind None said h = let none : false ≡ true = h in cc
told_behind (Some g) said h = refl

in_limits : (g : Geometry) (t : Bool) → is_in_limits g ≡ t → (if t then Line (GeometryLine g) else Wrong GeometryOutOfLimits) ≡ (if is_in_limits g then Line (GeometryLine g) else Wrong GeometryOutOfLimits)
in_limits g t e = ap (λ (u : Bool). if u then Line (GeometryLine g) else Wrong GeometryOutOfLimits) (sym e)

out_of_limits : (g : Geometry) → ¬ (IsValid g) → is_in_limits g ≡ false
out_of_limits g n = by (is_in_limits g) refl
  where
    by : (t : Bool) → is_in_limits g ≡ t → t ≡ false
    by true e = absurd (n (valid_in_limits g e))
    by false e = refl

opened_by : (x : Context) (c : ℕ) (mode : Mode) (big next : Bool) → nat_le most_connections c ≡ big → (c == x.opens) ≡ next
    → placed x (Open c mode) ≡ (if big then Wrong TooManyConnections else (if next then Line (Open c mode) else Wrong WrongNumber))
opened_by x c mode big next p q = rw (p, q) refl

below_open : (x : Context) (c : ℕ) (line : ScriptLine) → c < x.opens → of_open x c line ≡ Line line
below_open x c line h = ap (λ (t : Bool). if t then Line line else Wrong UnknownConnection) {x = nat_lt c x.opens} {y = true} (grind (arith, nat_tests))

past_open : (x : Context) (c : ℕ) (line : ScriptLine) → x.opens ≤ c → of_open x c line ≡ Wrong UnknownConnection
past_open x c line h = ap (λ (t : Bool). if t then Line line else Wrong UnknownConnection) {x = nat_lt c x.opens} {y = false} (grind (arith, nat_tests))

told_placed : (x : Context) (s : ScriptLine) → IsWellPlaced x s → told x s ≡ Line s
told_placed x (GeometryLine g) h = told_first x.geometry _ h.0 ∙ sym (in_limits g true (in_limits_valid g h.1))
told_placed x (Open c mode) h = told_behind x.geometry _ h.0 ∙ opened_by x c mode false true (grind (arith, nat_tests)) (grind (arith, nat_tests))
told_placed x (Say c bytes) h = told_behind x.geometry _ h.0 ∙ below_open x c (Say c bytes) h.1
told_placed x (Hex c bytes) h = told_behind x.geometry _ h.0 ∙ below_open x c (Hex c bytes) h.1
told_placed x Drain h = told_behind x.geometry _ h
told_placed x (Clock now) h = told_behind x.geometry _ h
told_placed x (Fault c t plan) h = told_behind x.geometry _ h.0 ∙ below_open x c (Fault c t plan) h.1

told_unknown : (x : Context) (s : ScriptLine) (c : ℕ) → IsSome x.geometry → connection_of s ≡ Some c → x.opens ≤ c → told x s ≡ Wrong UnknownConnection
told_unknown x (GeometryLine g) c some e past = cc
told_unknown x (Open d mode) c some e past = cc
told_unknown x (Say d bytes) c some e past = let same : d ≡ c = cc in told_behind x.geometry _ some ∙ past_open x d (Say d bytes) (omega arith)
told_unknown x (Hex d bytes) c some e past = let same : d ≡ c = cc in told_behind x.geometry _ some ∙ past_open x d (Hex d bytes) (omega arith)
told_unknown x Drain c some e past = cc
told_unknown x (Clock now) c some e past = cc
told_unknown x (Fault d t plan) c some e past = let same : d ≡ c = cc in told_behind x.geometry _ some ∙ past_open x d (Fault d t plan) (omega arith)

missing : (o : Option Geometry) (said : Said) → o ≡ None → behind_geometry o said ≡ Wrong GeometryMissing
missing None said e = refl
missing (Some g) said e = cc

second : (o : Option Geometry) (rest : Option (List ℕ)) → IsSome o → geometry_says o rest ≡ Wrong BadLine
second None rest h = let none : false ≡ true = h in cc
second (Some g) rest h = refl

unknown : (x : Context) (text : List ℕ) → ¬ (HasKind text) → other_says x (word_of text) (behind_word text) ≡ Wrong UnknownLine
unknown x text n =
    let w : List ℕ = word_of text in
    by_word (λ said. said ≡ Wrong UnknownLine) w (codes "open") _ _ (λ e. absurd (n (OfOpen e))) (λ _. by_word (λ said. said ≡ Wrong UnknownLine) w (codes "say") _ _ (λ e. absurd (n (OfSay e))) (λ _.
    by_word (λ said. said ≡ Wrong UnknownLine) w (codes "hex") _ _ (λ e. absurd (n (OfHex e))) (λ _. by_word (λ said. said ≡ Wrong UnknownLine) w (codes "drain") _ _ (λ e. absurd (n (OfDrain e))) (λ _.
    by_word (λ said. said ≡ Wrong UnknownLine) w (codes "clock") _ _ (λ e. absurd (n (OfClock e))) (λ _. by_word (λ said. said ≡ Wrong UnknownLine) w (codes "fault") _ _ (λ e. absurd (n (OfFault e))) (λ _. refl))))))

bad_says : (x : Context) (text : List ℕ) → is_skipped text ≡ false → MayStand x text → HasKind text → IsBad x text → text_says x text ≡ Wrong BadLine
bad_says x text s m k (Second some e) = at_kind x text (codes "geometry") s e ∙ second x.geometry (behind_word text) some
bad_says x text s m k (NotSpelled n) = elim (known_text x text s k m) [ Bad e ↦ e | Spelled line h ↦ absurd (n line h) ]

cause_says : (x : Context) (text : List ℕ) (why : Why) → is_skipped text ≡ false → IsCause x text why → text_says x text ≡ Wrong why
cause_says x text UnfinishedLine s h = absurd h
cause_says x text GeometryMissing s h = at_other x text s h.1 ∙ missing x.geometry _ h.0
cause_says x text UnknownLine s h = at_other x text s (λ e. h.1 (OfGeometry e)) ∙ told_behind x.geometry _ h.0 ∙ unknown x text h.1
cause_says x text BadLine s h = bad_says x text s h.0 h.1 h.2
cause_says x text GeometryOutOfLimits s h =
    spelled_says x text (GeometryLine h.1.0) h.1.1 ∙ told_first x.geometry _ h.0 ∙ sym (in_limits h.1.0 false (out_of_limits h.1.0 h.1.2))
cause_says x text TooManyConnections s h = let big : nat_le most_connections h.1.0 ≡ true = grind (arith, nat_tests, h.1.3) in
    spelled_says x text (Open h.1.0 h.1.1) h.1.2 ∙ told_behind x.geometry _ h.0 ∙ opened_by x h.1.0 h.1.1 true _ big refl
cause_says x text WrongNumber s h =
    let big : nat_le most_connections h.1.0 ≡ false = grind (arith, nat_tests, h.1.3) in
    let next : (h.1.0 == x.opens) ≡ false = grind (arith, nat_tests, h.1.4) in
    spelled_says x text (Open h.1.0 h.1.1) h.1.2 ∙ told_behind x.geometry _ h.0 ∙ opened_by x h.1.0 h.1.1 false false big next
cause_says x text UnknownConnection s h =
    let n : NeedsUnknown x text = h.1 in
    spelled_says x text n.line n.spelled ∙ told_unknown x n.line n.connection h.0 n.needs n.unknown
cause_says x text SecondFault s h = absurd h
cause_says x text TooBig s h = absurd h

pub said_told : (x : Context) (text : List ℕ) (said : Said) → IsSaid x text said → text_says x text ≡ said
said_told x text Nothing h = ap (λ (skipped : Bool). if skipped then Nothing else kind_says x (word_of text) (behind_word text)) h
said_told x text (Line s) h = spelled_says x text s h.0 ∙ told_placed x s h.1
said_told x text (Wrong why) h = cause_says x text why h.0 h.1

-- something is said of each line

abbrev Something : Context → List ℕ → Type 0
Something x text = (said : Said) × IsSaid x text said

is_some : (o : Option Geometry) (g : Geometry) → o ≡ Some g → IsSome o
is_some o g e = subst (λ (p : Option Geometry). IsSome p) (sym e) refl

geometry_by : (x : Context) (text : List ℕ) (g : Geometry) (o : Option Geometry) (t : Bool) → SpellsLine text (GeometryLine g) → x.geometry ≡ o → is_in_limits g ≡ t → Something x text
geometry_by x text g (Some f) t h e p =
    let some : IsSome x.geometry = is_some x.geometry f e in
    (Wrong BadLine, (not_skipped text (GeometryLine g) h, (inl some, spelled_kind text (GeometryLine g) h, Second some (word_at text (codes "geometry") (Some _) refl h))))
geometry_by x text g None true h e p = (Line (GeometryLine g), (h, (e, valid_in_limits g p)))
geometry_by x text g None false h e p = (Wrong GeometryOutOfLimits, (not_skipped text (GeometryLine g) h, (e, (g, h, λ v. let q : true ≡ false = sym (in_limits_valid g v) ∙ p in cc))))

open_by : (x : Context) (text : List ℕ) (c : ℕ) (mode : Mode) (big next : Bool) → SpellsLine text (Open c mode) → IsSome x.geometry → nat_le most_connections c ≡ big → (c == x.opens) ≡ next → Something x text
open_by x text c mode true next h some p q = (Wrong TooManyConnections, (not_skipped text (Open c mode) h, (some, (c, mode, h, grind (arith, nat_tests)))))
open_by x text c mode false true h some p q = (Line (Open c mode), (h, (some, grind (arith, nat_tests), grind (arith, nat_tests))))
open_by x text c mode false false h some p q = (Wrong WrongNumber, (not_skipped text (Open c mode) h, (some, (c, mode, h, grind (arith, nat_tests), grind (arith, nat_tests)))))

needs_by : (x : Context) (text : List ℕ) (s : ScriptLine) (c : ℕ) (known : Bool) → SpellsLine text s → IsSome x.geometry → connection_of s ≡ Some c → nat_lt c x.opens ≡ known → (c < x.opens → IsWellPlaced x s) → Something x text
needs_by x text s c true h some e p f = (Line s, (h, f (grind (arith, nat_tests))))
needs_by x text s c false h some e p f =
    (Wrong UnknownConnection, (not_skipped text s h, (some, record { line = s; spelled = h; connection = c; needs = e; unknown = grind (arith, nat_tests) })))

spelled_said : (x : Context) (text : List ℕ) (s : ScriptLine) → MayStand x text → SpellsLine text s → Something x text
spelled_said x text (GeometryLine g) m h = geometry_by x text g x.geometry (is_in_limits g) h refl refl
spelled_said x text (Open c Coded) m h = absurd h
spelled_said x text (Open c Plain) m h =
    open_by x text c Plain (nat_le most_connections c) (c == x.opens) h (some_geometry x text (other text (codes "open") refl (word_at text (codes "open") (Some _) refl h)) m) refl refl
spelled_said x text (Say c bytes) m h =
    let some : IsSome x.geometry = some_geometry x text (other text (codes "say") refl (word_at text (codes "say") (Some _) refl h.spelled)) m in
    needs_by x text (Say c bytes) c (nat_lt c x.opens) h some refl refl (λ l. (some, l))
spelled_said x text (Hex c bytes) m h =
    let some : IsSome x.geometry = some_geometry x text (other text (codes "hex") refl (word_at text (codes "hex") (Some _) refl h.spelled)) m in
    needs_by x text (Hex c bytes) c (nat_lt c x.opens) h some refl refl (λ l. (some, l))
spelled_said x text Drain m h = (Line Drain, (h, some_geometry x text (other text (codes "drain") refl (ap word_of h)) m))
spelled_said x text (Clock now) m h = (Line (Clock now), (h, some_geometry x text (other text (codes "clock") refl (word_at text (codes "clock") (Some _) refl h.spelled)) m))
spelled_said x text (Fault c t plan) m h =
    let some : IsSome x.geometry = some_geometry x text (other text (codes "fault") refl (word_at text (codes "fault") (Some _) refl h.spelled)) m in
    needs_by x text (Fault c t plan) c (nat_lt c x.opens) h some refl refl (λ l. (some, l))

-- words that are equal or not
same_or_not : (w k : List ℕ) → (w ≡ k) ⊎ (w ≢ k)
same_or_not w k = by (bytes_eq w k) refl
  where
    by : (t : Bool) → bytes_eq w k ≡ t → (w ≡ k) ⊎ (w ≢ k)
    by true e = inl ((bytes_eq-Decides w k).0 e)
    by false e = inr (λ s. let h : true ≡ false = sym ((bytes_eq-Decides w k).1 s) ∙ e in cc)

kind_or_not : (text : List ℕ) → HasKind text ⊎ ¬ (HasKind text)
kind_or_not text =
    let w : List ℕ = word_of text in
    ⊎_elim (λ e. inl (OfGeometry e)) (λ g. ⊎_elim (λ e. inl (OfOpen e)) (λ o. ⊎_elim (λ e. inl (OfSay e)) (λ s. ⊎_elim (λ e. inl (OfHex e)) (λ h.
    ⊎_elim (λ e. inl (OfDrain e)) (λ d. ⊎_elim (λ e. inl (OfClock e)) (λ c. ⊎_elim (λ e. inl (OfFault e)) (λ f.
    inr (λ k. elim k [ OfGeometry e ↦ g e | OfOpen e ↦ o e | OfSay e ↦ s e | OfHex e ↦ h e | OfDrain e ↦ d e | OfClock e ↦ c e | OfFault e ↦ f e ]))
    (same_or_not w (codes "fault"))) (same_or_not w (codes "clock"))) (same_or_not w (codes "drain"))) (same_or_not w (codes "hex"))) (same_or_not w (codes "say"))) (same_or_not w (codes "open"))) (same_or_not w (codes "geometry"))

-- a line that is said to be bad and is no second geometry is not spelled
unspelled : (x : Context) (text : List ℕ) → MayStand x text → text_says x text ≡ Wrong BadLine → (IsSome x.geometry → word_of text ≡ codes "geometry" → ⊥) → (s : ScriptLine) → ¬ (SpellsLine text s)
unspelled x text m b first s h =
    let q : Something x text = spelled_said x text s m h in
    let r : IsSaid x text (Wrong BadLine) = subst (IsSaid x text) (sym (said_told x text q.0 q.1) ∙ b) q.1 in
    elim (r.1.2) [ NotSpelled n ↦ n s h | Second some e ↦ first some e ]

bad_by : (x : Context) (text : List ℕ) (o : Option Geometry) → x.geometry ≡ o → (word_of text ≡ codes "geometry") ⊎ (word_of text ≢ codes "geometry") → MayStand x text → text_says x text ≡ Wrong BadLine → IsBad x text
bad_by x text None e w m b = NotSpelled (unspelled x text m b (λ some g. let none : false ≡ true = subst (λ (o : Option Geometry). IsSome o) e some in cc))
bad_by x text (Some g) e (inl w) m b = Second (is_some x.geometry g e) w
bad_by x text (Some g) e (inr n) m b = NotSpelled (unspelled x text m b (λ some w. n w))

standing : (x : Context) (text : List ℕ) → is_skipped text ≡ false → HasKind text → MayStand x text → Something x text
standing x text s k m = elim (known_text x text s k m) [
  | Bad b ↦ (Wrong BadLine, (s, (m, k, bad_by x text x.geometry refl (same_or_not (word_of text) (codes "geometry")) m b)))
  | Spelled line h ↦ spelled_said x text line m h
]

kind_by : (x : Context) (text : List ℕ) (o : Option Geometry) → x.geometry ≡ o → is_skipped text ≡ false → (word_of text ≡ codes "geometry") ⊎ (word_of text ≢ codes "geometry") → HasKind text ⊎ ¬ (HasKind text) → Something x text
kind_by x text None e s (inl w) k = standing x text s (OfGeometry w) (inr w)
kind_by x text None e s (inr n) k = (Wrong GeometryMissing, (s, (e, n)))
kind_by x text (Some g) e s w (inl k) = standing x text s k (inl (is_some x.geometry g e))
kind_by x text (Some g) e s w (inr n) = (Wrong UnknownLine, (s, (is_some x.geometry g e, n)))

something_by : (x : Context) (text : List ℕ) (skipped : Bool) → is_skipped text ≡ skipped → Something x text
something_by x text true e = (Nothing, e)
something_by x text false e = kind_by x text x.geometry refl e (same_or_not (word_of text) (codes "geometry")) (kind_or_not text)

-- what the reader says is said of the line
pub said_only : (x : Context) (text : List ℕ) (said : Said) → text_says x text ≡ said → IsSaid x text said
said_only x text said e = let q : Something x text = something_by x text (is_skipped text) refl in subst (IsSaid x text) (sym (said_told x text q.0 q.1) ∙ e) q.1

-- behind the lines of a script

once_told : (script : List ScriptLine) (text : List ℕ) (said : Said) → IsSaidOnce script text said → once script (text_says (context_of script) text) ≡ said
once_told script text Nothing h = ap (once script) (said_told (context_of script) text Nothing h)
once_told script text (Line s) h =
    ap (once script) (said_told (context_of script) text (Line s) h.0) ∙ ap (λ (second : Bool). if second then Wrong SecondFault else Line s) h.1
once_told script text (Wrong why) (inl h) = ap (once script) (said_told (context_of script) text (Wrong why) h)
once_told script text (Wrong why) (inr h) =
    let p : PlansAgain script text = h.0 in
    ap (once script) (said_told (context_of script) text (Line p.line) (p.spelled, p.placed))
    ∙ ap (λ (second : Bool). if second then Wrong SecondFault else Line p.line) p.again ∙ ap (λ (w : Why). Wrong w) (sym h.1)

abbrev SomethingOnce : List ScriptLine → List ℕ → Type 0
SomethingOnce script text = (said : Said) × IsSaidOnce script text said

line_once : (script : List ScriptLine) (text : List ℕ) (s : ScriptLine) (second : Bool) → IsSaid (context_of script) text (Line s) → is_second_line (is_planned script) s ≡ second → SomethingOnce script text
line_once script text s true h e = (Wrong SecondFault, inr (record { line = s; spelled = h.0; placed = h.1; again = e }, refl))
line_once script text s false h e = (Line s, (h, e))

something_once : (script : List ScriptLine) (text : List ℕ) (said : Said) → IsSaid (context_of script) text said → SomethingOnce script text
something_once script text Nothing h = (Nothing, h)
something_once script text (Line s) h = line_once script text s (is_second_line (is_planned script) s) h refl
something_once script text (Wrong why) h = (Wrong why, inl h)

once_only : (script : List ScriptLine) (text : List ℕ) (said : Said) → once script (text_says (context_of script) text) ≡ said → IsSaidOnce script text said
once_only script text said e =
    let x : Context = context_of script in
    let h : IsSaid x text (text_says x text) = said_only x text (text_says x text) refl in
    let q : SomethingOnce script text = something_once script text (text_says x text) h in
    subst (IsSaidOnce script text) (sym (once_told script text q.0 q.1) ∙ e) q.1

-- the same of a whole line, whose CR is dropped

pub line_told : (script : List ScriptLine) (line : List ℕ) (said : Said) → IsSaidOnce script (strip_carriage_return line) said → once script (line_says (context_of script) line) ≡ said
line_told script line said h = once_told script (strip_carriage_return line) said h

pub line_only : (script : List ScriptLine) (line : List ℕ) (said : Said) → once script (line_says (context_of script) line) ≡ said → IsSaidOnce script (strip_carriage_return line) said
line_only script line said h = once_only script (strip_carriage_return line) said h

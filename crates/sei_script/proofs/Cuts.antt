-- The lines of a text, by where its first LF stands.
use Rattle.std.proofs.Common.{◌≡◌, ℕ, zero, suc, ◌+◌, ◌<◌, ◌≤◌, Bool, true, false, List, [], ◌∷◌, length, take, drop, get_or, refl, ap, sym, ◌∙◌, arith, Some, None, Option, cond}
use Rattle.std.specs.Prelude.{if◌then◌else◌, ◌==◌, nat_lt, not}
use Rattle.std.specs.List.{position_or_len, position}
use Rattle.std.proofs.lemmas.Bool.Decides.{nat_tests}
use Rattle.memchr.specs.Find.{IsFirstByte, is_byte}
use Rattle.sei_script.specs.Lines.{lines_in, onto_first_line}
use Rattle.sei_script.specs.Context.{context_of}
use Rattle.sei_script.specs.Faults.{once}
use Rattle.sei_script.specs.Says.{line_says}
use Rattle.sei_script.specs.Reading.{Reading, Fails, reading_from, reading_of, goes_on}
use Rattle.sei_script.specs.declared.line.Context.{Context}
use Rattle.sei_script.specs.declared.line.ScriptLine.{ScriptLine}
use Rattle.sei_script.specs.declared.line.Why.TheVariants.{TooBig}
use Rattle.sei_script.specs.declared.line.Said.{Said}

not_true : (t : Bool) → (t ≡ true → ⊥) → t ≡ false
not_true true h = absurd (h refl)
not_true false h = refl

first_place : (p : ℕ → Bool) (bs : List ℕ) (k : ℕ) → k < length bs → p (get_or bs k 0) ≡ true → ((j : ℕ) → j < k → p (get_or bs j 0) ≡ true → ⊥)
    → position_or_len p bs ≡ k
first_place p [] k l e h = absurd (omega (arith, l))
first_place p (b ∷ bs) zero l e h = ap (λ t. cond (not t) (1 + position_or_len p bs) 0) e
first_place p (b ∷ bs) (suc k) l e h =
    let later : position_or_len p bs ≡ k = first_place p bs k (omega arith) e (λ j i. h (suc j) (omega arith)) in
    ap (λ t. cond (not t) (1 + position_or_len p bs) 0) (not_true (p b) (h 0 (omega arith))) ∙ omega arith

no_place : (p : ℕ → Bool) (bs : List ℕ) → ((k : ℕ) → k < length bs → p (get_or bs k 0) ≡ true → ⊥) → position_or_len p bs ≡ length bs
no_place p [] h = refl
no_place p (b ∷ bs) h =
    let later : position_or_len p bs ≡ length bs = no_place p bs (λ k l. h (suc k) (omega arith)) in
    ap (λ t. cond (not t) (1 + position_or_len p bs) 0) (not_true (p b) (h 0 (omega arith))) ∙ omega arith

position_is : (n k m : ℕ) (t : Bool) → nat_lt n m ≡ t → n ≡ k → k < m → cond t (Some n) None ≡ Some k
position_is n k m true q e l = ap (λ (x : ℕ). Some x) e
position_is n k m false q e l = absurd (grind (arith, nat_tests))

position_none : (n m : ℕ) (t : Bool) → nat_lt n m ≡ t → n ≡ m → cond t (Some n) None ≡ None
position_none n m true q e = absurd (grind (arith, nat_tests))
position_none n m false q e = refl

-- what a search for a byte finds
pub position_found : (b : ℕ) (bs : List ℕ) (r : Option ℕ) → IsFirstByte (is_byte b) bs r → r ≡ position (λ x. x == b) bs
position_found b bs None h =
    let p : ℕ → Bool = λ x. x == b in
    sym (position_none (position_or_len p bs) (length bs) _ refl (no_place p bs (λ k l e. h k (omega arith) l e)))
position_found b bs (Some k) h =
    let p : ℕ → Bool = λ x. x == b in
    let first : position_or_len p bs ≡ k = first_place p bs k h.0.high h.1 (λ j l e. h.0.before j (omega arith) l e) in
    sym (position_is (position_or_len p bs) k (length bs) _ refl first h.0.high)

-- where the first LF stands
abbrev first_lf : List ℕ → ℕ
first_lf bs = position_or_len (λ b. b == 10) bs

-- a first line up to a place, and what the bytes behind that place are
abbrev cut_at : ℕ → List ℕ → List (List ℕ) × List ℕ
cut_at end bs = (take end bs ∷ (lines_in (drop (end + 1) bs)).0, (lines_in (drop (end + 1) bs)).1)

later : (b n : ℕ) (bs : List ℕ) → onto_first_line b (cut_at n bs) ≡ cut_at (1 + n) (b ∷ bs)
later b n bs =
    let one : suc n ≡ 1 + n = omega arith in
    let two : suc (n + 1) ≡ suc n + 1 = omega arith in
    ap (λ (k : ℕ). ((b ∷ take n bs) ∷ (lines_in (drop k (b ∷ bs))).0, (lines_in (drop k (b ∷ bs))).1)) two
    ∙ ap (λ (m : ℕ). cut_at m (b ∷ bs)) one

lines_at_by : (b n : ℕ) (bs : List ℕ) (t : Bool) → (n < length bs → lines_in bs ≡ cut_at n bs) → cond (not t) (1 + n) 0 < suc (length bs)
    → (if t then ([] ∷ (lines_in bs).0, (lines_in bs).1) else onto_first_line b (lines_in bs)) ≡ cut_at (cond (not t) (1 + n) 0) (b ∷ bs)
lines_at_by b n bs true step h = refl
lines_at_by b n bs false step h = ap (onto_first_line b) (step (omega (arith, h))) ∙ later b n bs

pub lines_at : (bs : List ℕ) → first_lf bs < length bs → lines_in bs ≡ cut_at (first_lf bs) bs
lines_at [] h = absurd (omega (arith, h))
lines_at (b ∷ bs) h = lines_at_by b (first_lf bs) bs (b == 10) (lines_at bs) h

lines_none_by : (b n : ℕ) (bs : List ℕ) (t : Bool) → (length bs ≤ n → lines_in bs ≡ ([], bs)) → suc (length bs) ≤ cond (not t) (1 + n) 0
    → (if t then ([] ∷ (lines_in bs).0, (lines_in bs).1) else onto_first_line b (lines_in bs)) ≡ ([], b ∷ bs)
lines_none_by b n bs true step h = absurd (omega (arith, h))
lines_none_by b n bs false step h = ap (onto_first_line b) (step (omega (arith, h)))

pub lines_none : (bs : List ℕ) → length bs ≤ first_lf bs → lines_in bs ≡ ([], bs)
lines_none [] h = refl
lines_none (b ∷ bs) h = lines_none_by b (first_lf bs) bs (b == 10) (lines_none bs) h

found_by : (bs : List ℕ) (end : ℕ) (t : Bool) → nat_lt (first_lf bs) (length bs) ≡ t → cond t (Some (first_lf bs)) None ≡ Some end → (end ≡ first_lf bs) × (first_lf bs < length bs)
found_by bs end true q e = (cc, grind (arith, nat_tests))
found_by bs end false q e = cc

-- a first line, where an LF was found
pub found : (bs : List ℕ) (end : ℕ) → position (λ b. b == 10) bs ≡ Some end → lines_in bs ≡ cut_at end bs
found bs end e =
    let f = found_by bs end (nat_lt (first_lf bs) (length bs)) refl e in
    lines_at bs f.1 ∙ ap (λ (n : ℕ). cut_at n bs) (sym f.0)

not_found_by : (bs : List ℕ) (t : Bool) → nat_lt (first_lf bs) (length bs) ≡ t → cond t (Some (first_lf bs)) None ≡ None → length bs ≤ first_lf bs
not_found_by bs true q e = cc
not_found_by bs false q e = grind (arith, nat_tests)

-- no line, where none was found
pub not_found : (bs : List ℕ) → position (λ b. b == 10) bs ≡ None → lines_in bs ≡ ([], bs)
not_found bs e = lines_none bs (not_found_by bs (nat_lt (first_lf bs) (length bs)) refl e)

-- what is left to read, in whole lines and a rest
abbrev pub reading_rest : List ScriptLine → ℕ → List ℕ → Reading
reading_rest script number bytes = reading_from script number (lines_in bytes).0 (lines_in bytes).1

-- one line on
pub one_line : (script : List ScriptLine) (number end : ℕ) (rest : List ℕ) → position (λ b. b == 10) rest ≡ Some end
    → reading_rest script number rest ≡ goes_on script number (once script (line_says (context_of script) (take end rest))) (λ more. reading_rest more (number + 1) (drop (end + 1) rest))
one_line script number end rest e = ap (λ (parts : List (List ℕ) × List ℕ). reading_from script number parts.0 parts.1) (found rest end e)

-- no line on
pub no_line : (script : List ScriptLine) (number : ℕ) (rest : List ℕ) → position (λ b. b == 10) rest ≡ None → reading_rest script number rest ≡ reading_from script number [] rest
no_line script number rest e = ap (λ (parts : List (List ℕ) × List ℕ). reading_from script number parts.0 parts.1) (not_found rest e)

-- the code's line says what the definition's does
pub line_led : (script : List ScriptLine) (number end : ℕ) (x : Context) (rest : List ℕ) (said : Said) → position (λ b. b == 10) rest ≡ Some end
    → x ≡ context_of script → said ≡ once script (line_says x (take end rest))
    → reading_rest script number rest ≡ goes_on script number said (λ more. reading_rest more (number + 1) (drop (end + 1) rest))
line_led script number end x rest said e o s =
    one_line script number end rest e
    ∙ ap (λ (s : Said). goes_on script number s (λ more. reading_rest more (number + 1) (drop (end + 1) rest)))
    (sym (s ∙ ap (λ (y : Context). once script (line_says y (take end rest))) o))

starts_by : (limit : ℕ) (bytes : List ℕ) (big : Bool) → nat_lt limit (length bytes) ≡ big → length bytes ≤ limit
    → (if big then Fails 0 TooBig else reading_rest [] 1 bytes) ≡ reading_rest [] 1 bytes
starts_by limit bytes true q h = absurd (grind (arith, nat_tests))
starts_by limit bytes false q h = refl

-- a text that is not too big
pub starts : (limit : ℕ) (bytes : List ℕ) → length bytes ≤ limit → reading_of limit bytes ≡ reading_rest [] 1 bytes
starts limit bytes h = starts_by limit bytes (nat_lt limit (length bytes)) refl h

-- a place that was found is within the text
pub inside : (bs : List ℕ) (end : ℕ) → position (λ b. b == 10) bs ≡ Some end → end < length bs
inside bs end e =
    let f = found_by bs end (nat_lt (first_lf bs) (length bs)) refl e in
    omega (arith, f.0, f.1)

-- no place was found
pub nowhere : (o : Option ℕ) (bs : List ℕ) → o ≡ position (λ b. b == 10) bs → ((x : ℕ) → o ≡ Some x → ⊥) → position (λ b. b == 10) bs ≡ None
nowhere None bs e h = sym e
nowhere (Some x) bs e h = absurd (h x refl)

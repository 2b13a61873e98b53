-- A text is its first word and what stands behind it, in one way.
use Rattle.std.proofs.Common.{◌≡◌, ℕ, suc, ◌+◌, ◌<◌, ◌^◌, Bool, true, false, cond, List, [], ◌∷◌, ◌++◌, length, take, drop, get_or, Option, Some, None, refl, ap, sym, ◌∙◌, subst, arith, append-nil, length-append}
use Rattle.std.specs.Prelude.{◌&&◌, not, ◌==◌, nat_lt, if◌then◌else◌}
use Rattle.std.specs.Fmt.{decimal}
use Rattle.std.specs.List.{position_or_len, after_first}
use Rattle.std.specs.Option.{option_map}
use Rattle.std.proofs.lemmas.Bool.Decides.{nat_tests}
use Rattle.std.proofs.lemmas.List.{drop_all, take-append-drop}
use Rattle.std.proofs.lemmas.List.Sums.{split_at_first, passes_at_first}
use Rattle.std.proofs.Math.Seq.{take-append_seam}
use Rattle.sei_script.specs.Lines.{Part, part, word_of, behind_word, first_number, first_exact, last_exact}
use Rattle.sei_script.specs.Numbers.{number_of, exact_of}
use Rattle.sei_script.specs.Spelling.{numeral}
use Rattle.sei_script.proofs.Numerals.{by_digits, number_of-numeral, numeral-number_of, numeral-decimal, exact_of-decimal, IsDecimal, decimal-exact_of}

-- a space and what stands behind it, or nothing
abbrev pub tail : Option (List ℕ) → List ℕ
tail None = []
tail (Some rest) = 32 ∷ rest

abbrev is_space : ℕ → Bool
is_space b = b == 32

-- where the first space stands
abbrev place : List ℕ → ℕ
place text = position_or_len is_space text

space_at : (text : List ℕ) → place text < length text → get_or text (place text) 0 ≡ 32
space_at text h = let passes : (get_or text (place text) 0 == 32) ≡ true = passes_at_first is_space text 0 h in grind (arith, nat_tests)

-- a text by its first word
pub cut : (text : List ℕ) → text ≡ word_of text ++ tail (behind_word text)
cut text = by (nat_lt (place text) (length text)) refl
  where
    by : (t : Bool) → nat_lt (place text) (length text) ≡ t → text ≡ word_of text ++ tail (if t then Some (after_first is_space text) else None)
    by true e =
        let inside : place text < length text = grind (arith, nat_tests) in
        split_at_first is_space text 0 inside ∙ ap (λ (b : ℕ). word_of text ++ b ∷ after_first is_space text) (space_at text inside)
    by false e =
        let none : drop (place text) text ≡ [] = drop_all (place text) text (grind (arith, nat_tests)) in
        sym (take-append-drop (place text) text) ∙ ap (λ (r : List ℕ). word_of text ++ r) none

-- a word without a space
abbrev pub is_word : List ℕ → Bool
is_word [] = true
is_word (b ∷ bs) = not (b == 32) && is_word bs

place_behind : (w : List ℕ) (t : Option (List ℕ)) → is_word w ≡ true → place (w ++ tail t) ≡ length w
place_behind [] None h = refl
place_behind [] (Some rest) h = refl
place_behind (b ∷ w) t h = by (b == 32) refl (λ k. place_behind w t k) h
  where
    by : (space : Bool) → (b == 32) ≡ space → (is_word w ≡ true → place (w ++ tail t) ≡ length w) → (not space && is_word w) ≡ true → cond (not (b == 32)) (1 + place (w ++ tail t)) 0 ≡ suc (length w)
    by true e later k = cc
    by false e later k = let rest : place (w ++ tail t) ≡ length w = later k in ap (λ (x : Bool). cond (not x) (1 + place (w ++ tail t)) 0) e ∙ omega arith

pub word_front : (w : List ℕ) (t : Option (List ℕ)) → is_word w ≡ true → word_of (w ++ tail t) ≡ w
word_front w t h = ap (λ (n : ℕ). take n (w ++ tail t)) (place_behind w t h) ∙ take-append_seam w (tail t)

pub word_behind : (w : List ℕ) (t : Option (List ℕ)) → is_word w ≡ true → behind_word (w ++ tail t) ≡ t
word_behind w t h = ap (λ (n : ℕ). if nat_lt n (length (w ++ tail t)) then Some (drop (n + 1) (w ++ tail t)) else None) (place_behind w t h) ∙ by t (nat_lt (length w) (length (w ++ tail t))) refl
  where
    by : (t : Option (List ℕ)) (inside : Bool) → nat_lt (length w) (length (w ++ tail t)) ≡ inside → (if inside then Some (drop (length w + 1) (w ++ tail t)) else None) ≡ t
    by None true e = let same : length (w ++ []) ≡ length w = ap length (append-nil w) in absurd (grind (arith, nat_tests))
    by None false e = refl
    by (Some rest) true e = ap (λ (r : List ℕ). Some r) (behind w)
      where
        behind : (w : List ℕ) → drop (length w + 1) (w ++ 32 ∷ rest) ≡ rest
        behind [] = refl
        behind (b ∷ w) = ap (λ (n : ℕ). drop n (b ∷ w ++ 32 ∷ rest)) {x = suc (length w) + 1} {y = suc (length w + 1)} (omega arith) ∙ behind w
    by (Some rest) false e = let more : length (w ++ 32 ∷ rest) ≡ length w + suc (length rest) = length-append w (32 ∷ rest) in absurd (grind (arith, nat_tests))

-- numbers have no space

word_push : (x : ℕ) (w : List ℕ) → is_word w ≡ true → (x == 32) ≡ false → is_word (w ++ x ∷ []) ≡ true
word_push x [] h e = ap (λ (t : Bool). not t && true) e
word_push x (b ∷ w) h e = by (b == 32) (λ k. word_push x w k e) h
  where
    by : (space : Bool) → (is_word w ≡ true → is_word (w ++ x ∷ []) ≡ true) → (not space && is_word w) ≡ true → (not space && is_word (w ++ x ∷ [])) ≡ true
    by true later k = cc
    by false later k = later k

no_space : (d : ℕ) → d < 10 → (48 + d == 32) ≡ false
no_space d h = grind (arith, nat_tests)

pub numeral_word : (n : ℕ) → is_word (numeral n) ≡ true
numeral_word n = by_digits (λ n w. is_word w ≡ true) (λ d l. word_push (48 + d) [] refl (no_space d l)) (λ m d w some l h. word_push (48 + d) w h (no_space d l)) n

pub decimal_word : (n : ℕ) → n < 2 ^ 64 → is_word (decimal n) ≡ true
decimal_word n h = ap is_word (sym (numeral-decimal n h)) ∙ numeral_word n

-- numbers at the front of a text

pub first_spelled : (n : ℕ) (t : Option (List ℕ)) → first_number (Some (numeral n ++ tail t)) ≡ Some (part n t)
first_spelled n t = rw (word_front (numeral n) t (numeral_word n), word_behind (numeral n) t (numeral_word n), number_of-numeral n) refl

pub exact_spelled : (n : ℕ) (t : Option (List ℕ)) → n < 2 ^ 64 → first_exact (Some (decimal n ++ tail t)) ≡ Some (part n t)
exact_spelled n t h = rw (word_front (decimal n) t (decimal_word n h), word_behind (decimal n) t (decimal_word n h), exact_of-decimal n h) refl

pub last_spelled : (n : ℕ) → n < 2 ^ 64 → last_exact (Some (decimal n)) ≡ Some n
last_spelled n h = exact_of-decimal n h

-- and the text that a number was found in

some_same : {A : Type 0} (a b : A) → Some a ≡ Some b → a ≡ b
some_same a b e = cc

pub first_cut : (rest : Option (List ℕ)) (p : Part) → first_number rest ≡ Some p → rest ≡ Some (numeral p.number ++ tail p.rest)
first_cut None p e = cc
first_cut (Some text) p e = by (number_of (word_of text)) refl e
  where
    by : (o : Option ℕ) → number_of (word_of text) ≡ o → option_map (λ n. part n (behind_word text)) o ≡ Some p → Some text ≡ Some (numeral p.number ++ tail p.rest)
    by None f g = cc
    by (Some n) f g =
        let same : part n (behind_word text) ≡ p = some_same _ _ g in
        ap (λ (x : List ℕ). Some x) (cut text ∙ ap (λ (w : List ℕ). w ++ tail (behind_word text)) (numeral-number_of (word_of text) n f)
        ∙ ap (λ (q : Part). numeral q.number ++ tail q.rest) same)

pub record IsExact (rest : Option (List ℕ)) (p : Part) : Type 0 where
  pub text : rest ≡ Some (decimal p.number ++ tail p.rest)
  pub small : p.number < 2 ^ 64

pub exact_cut : (rest : Option (List ℕ)) (p : Part) → first_exact rest ≡ Some p → IsExact rest p
exact_cut None p e = cc
exact_cut (Some text) p e = by (exact_of (word_of text)) refl e
  where
    by : (o : Option ℕ) → exact_of (word_of text) ≡ o → option_map (λ n. part n (behind_word text)) o ≡ Some p → IsExact (Some text) p
    by None f g = cc
    by (Some n) f g =
        let same : part n (behind_word text) ≡ p = some_same _ _ g in
        let d : IsDecimal (word_of text) n = decimal-exact_of (word_of text) n f in
        subst (IsExact (Some text)) same (record { text = ap (λ (x : List ℕ). Some x) (cut text ∙ ap (λ (w : List ℕ). w ++ tail (behind_word text)) d.spelled); small = d.small })

pub record IsLast (rest : Option (List ℕ)) (n : ℕ) : Type 0 where
  pub text : rest ≡ Some (decimal n)
  pub small : n < 2 ^ 64

pub last_cut : (rest : Option (List ℕ)) (n : ℕ) → last_exact rest ≡ Some n → IsLast rest n
last_cut None n e = cc
last_cut (Some text) n e =
    let d : IsDecimal text n = decimal-exact_of text n e in
    record { text = ap (λ (x : List ℕ). Some x) d.spelled; small = d.small }

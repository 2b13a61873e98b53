-- Decimal digits of a number of any size, and that they are how a script's numbers are read.
use Rattle.std.proofs.Common.{◌≡◌, ◌≢◌, ℕ, zero, suc, ◌+◌, ◌-◌, ◌*◌, ◌/◌, ◌%◌, ◌<◌, ◌≤◌, ◌^◌, Bool, true, false, List, [], ◌∷◌, ◌++◌, length, Option, Some, None, refl, ap, sym, ◌∙◌, subst, arith, append_assoc, append-nil, ◌⊎◌, inl, inr, ⊎_elim}
use Rattle.std.specs.Prelude.{◌&&◌, ◌||◌, not, ◌==◌, nat_lt, if◌then◌else◌}
use Rattle.std.specs.Fmt.{decimal, digit_glyph, digits_onto}
use Rattle.std.specs.List.{list_all}
use Rattle.std.proofs.lemmas.Bool.Decides.{nat_tests}
use Rattle.std.proofs.lemmas.Fmt.{decimal_step_wide, decimal_digit}
use Rattle.mc_model.specs.Numbers.{is_digit}
use Rattle.sei_script.specs.Numbers.{digits_after, number_of, in_word, exact_of}
use Rattle.sei_script.specs.Spelling.{numeral}

-- digits of n, at most k of them, before others
abbrev onto : ℕ → ℕ → List ℕ → List ℕ
onto k n acc = digits_onto k 10 false n acc

glyph : (d : ℕ) → d < 10 → digit_glyph false d ≡ 48 + d
glyph d h = by (nat_lt d 10) refl
  where
    by : (t : Bool) → nat_lt d 10 ≡ t → (if t then 48 + d else (if false then 55 + d else 87 + d)) ≡ 48 + d
    by true e = refl
    by false e = absurd (grind (arith, nat_tests))

onto_last : (k n : ℕ) (acc : List ℕ) → n < 10 → onto (suc k) n acc ≡ (48 + n) ∷ acc
onto_last k n acc h =
    let zero_ : (n / 10 == 0) ≡ true = grind (arith, nat_tests) in
    let same : n % 10 ≡ n = omega arith in
    ap (λ (t : Bool). if t then digit_glyph false (n % 10) ∷ acc else onto k (n / 10) (digit_glyph false (n % 10) ∷ acc)) zero_
    ∙ ap (λ (d : ℕ). digit_glyph false d ∷ acc) same ∙ ap (λ (d : ℕ). d ∷ acc) (glyph n h)

onto_next : (k n : ℕ) (acc : List ℕ) → 10 ≤ n → onto (suc k) n acc ≡ onto k (n / 10) ((48 + n % 10) ∷ acc)
onto_next k n acc h =
    let more : (n / 10 == 0) ≡ false = grind (arith, nat_tests) in
    ap (λ (t : Bool). if t then digit_glyph false (n % 10) ∷ acc else onto k (n / 10) (digit_glyph false (n % 10) ∷ acc)) more
    ∙ ap (λ (d : ℕ). onto k (n / 10) (d ∷ acc)) (glyph (n % 10) (omega arith))

small_or_not : (n : ℕ) → (n < 10) ⊎ (10 ≤ n)
small_or_not n = by (nat_lt n 10) refl
  where
    by : (t : Bool) → nat_lt n 10 ≡ t → (n < 10) ⊎ (10 ≤ n)
    by true e = inl (grind (arith, nat_tests))
    by false e = inr (grind (arith, nat_tests))

-- what stands behind them stays there
onto_append : (k n : ℕ) (acc : List ℕ) → onto k n acc ≡ onto k n [] ++ acc
onto_append zero n acc = refl
onto_append (suc k) n acc = ⊎_elim
    (λ l. onto_last k n acc l ∙ ap (λ (x : List ℕ). x ++ acc) (sym (onto_last k n [] l)))
    (λ l. onto_next k n acc l ∙ onto_append k (n / 10) ((48 + n % 10) ∷ acc) ∙ sym (append_assoc (onto k (n / 10) []) ((48 + n % 10) ∷ []) acc)
    ∙ ap (λ (x : List ℕ). x ++ acc) (sym (onto_next k n [] l ∙ onto_append k (n / 10) ((48 + n % 10) ∷ []))))
    (small_or_not n)

-- enough digits are all digits
onto_enough : (j k n : ℕ) (acc : List ℕ) → n < j → n < k → onto j n acc ≡ onto k n acc
onto_enough zero k n acc p q = absurd (omega arith)
onto_enough (suc j) zero n acc p q = absurd (omega arith)
onto_enough (suc j) (suc k) n acc p q = ⊎_elim
    (λ l. onto_last j n acc l ∙ sym (onto_last k n acc l))
    (λ l. onto_next j n acc l ∙ onto_enough j k (n / 10) ((48 + n % 10) ∷ acc) (omega arith) (omega arith) ∙ sym (onto_next k n acc l))
    (small_or_not n)

pub numeral_digit : (n : ℕ) → n < 10 → numeral n ≡ (48 + n) ∷ []
unfolding numeral
numeral_digit n h = onto_last n n [] h

pub numeral_step : (n : ℕ) → 10 ≤ n → numeral n ≡ numeral (n / 10) ++ (48 + n % 10) ∷ []
unfolding numeral
numeral_step n h = onto_next n n [] h ∙ onto_enough n (suc (n / 10)) (n / 10) ((48 + n % 10) ∷ []) (omega arith) (omega arith) ∙ onto_append (suc (n / 10)) (n / 10) ((48 + n % 10) ∷ [])

-- a digit more behind a number
pub numeral_more : (m d : ℕ) → 0 < m → d < 10 → numeral (m * 10 + d) ≡ numeral m ++ (48 + d) ∷ []
numeral_more m d some small =
    let front : (m * 10 + d) / 10 ≡ m = omega arith in
    let last : (m * 10 + d) % 10 ≡ d = omega arith in
    numeral_step (m * 10 + d) (omega arith) ∙ ap (λ (x : ℕ). numeral x ++ (48 + (m * 10 + d) % 10) ∷ []) front ∙ ap (λ (x : ℕ). numeral m ++ (48 + x) ∷ []) last

-- what holds of digits, and of a number with one more
module _ (P : ℕ → List ℕ → Type 0) (one : (d : ℕ) → d < 10 → P d ((48 + d) ∷ [])) (more : (m d : ℕ) (w : List ℕ) → 0 < m → d < 10 → P m w → P (m * 10 + d) (w ++ (48 + d) ∷ [])) where
  by_digits_from : (k n : ℕ) → n < k → P n (numeral n)
  by_digits_from zero n l = absurd (omega arith)
  by_digits_from (suc k) n l = ⊎_elim
      (λ h. subst (P n) (sym (numeral_digit n h)) (one n h))
      (λ h.
      let whole : n / 10 * 10 + n % 10 ≡ n = omega arith in
      subst (P n) (sym (numeral_step n h)) (subst (λ (x : ℕ). P x (numeral (n / 10) ++ (48 + n % 10) ∷ [])) whole
      (more (n / 10) (n % 10) (numeral (n / 10)) (omega arith) (omega arith) (by_digits_from k (n / 10) (omega arith)))))
      (small_or_not n)

  pub by_digits : (n : ℕ) → P n (numeral n)
  by_digits n = by_digits_from (suc n) n (omega arith)

-- below 2^64 they are std's
pub numeral-decimal : (n : ℕ) → n < 2 ^ 64 → numeral n ≡ decimal n
numeral-decimal n small = by_digits (λ n w. n < 2 ^ 64 → w ≡ decimal n) (λ d l h. sym (decimal_digit d l)) more n small
  where
    more : (m d : ℕ) (w : List ℕ) → 0 < m → d < 10 → (m < 2 ^ 64 → w ≡ decimal m) → m * 10 + d < 2 ^ 64 → w ++ (48 + d) ∷ [] ≡ decimal (m * 10 + d)
    more m d w some l h s =
        let front : (m * 10 + d) / 10 ≡ m = omega arith in
        let last : (m * 10 + d) % 10 ≡ d = omega arith in
        ap (λ (x : List ℕ). x ++ (48 + d) ∷ []) (h (omega arith))
        ∙ sym (decimal_step_wide (m * 10 + d) (omega arith) (omega arith) ∙ ap (λ (x : ℕ). decimal x ++ (48 + (m * 10 + d) % 10) ∷ []) front ∙ ap (λ (x : ℕ). decimal m ++ (48 + x) ∷ []) last)

-- how they are read

digits_push : (n x : ℕ) (w : List ℕ) → digits_after n (w ++ x ∷ []) ≡ digits_after n w * 10 + (x - 48)
digits_push n x [] = refl
digits_push n x (b ∷ w) = digits_push (n * 10 + (b - 48)) x w

digit_of : (d : ℕ) → d < 10 → is_digit (48 + d) ≡ true
digit_of d h = grind (arith, nat_tests)

all_push : (x : ℕ) (w : List ℕ) → list_all is_digit w ≡ true → is_digit x ≡ true → list_all is_digit (w ++ x ∷ []) ≡ true
all_push x [] h e = ap (λ (t : Bool). t && true) e
all_push x (b ∷ w) h e = both (is_digit b) (list_all is_digit w) (list_all is_digit (w ++ x ∷ [])) h (λ k. all_push x w k e)
  where
    both : (p q r : Bool) → (p && q) ≡ true → (q ≡ true → r ≡ true) → (p && r) ≡ true
    both true q r h k = k h
    both false q r h k = cc

-- what is known of the digits of a number
record IsRead (n : ℕ) (w : List ℕ) : Type 0 where
  all : list_all is_digit w ≡ true
  value : digits_after 0 w ≡ n
  first : ℕ
  rest : List ℕ
  whole : w ≡ first ∷ rest
  lead : 0 < n → first ≢ 48
  alone : n ≡ 0 → rest ≡ []

one_read : (d : ℕ) → d < 10 → IsRead d ((48 + d) ∷ [])
one_read d h =
    record {
      all = ap (λ (t : Bool). t && true) (digit_of d h);
      value = omega arith;
      first = 48 + d;
      rest = [];
      whole = refl;
      lead = λ some e. absurd (omega arith);
      alone = λ e. refl;
    }

more_read : (m d : ℕ) (w : List ℕ) → 0 < m → d < 10 → IsRead m w → IsRead (m * 10 + d) (w ++ (48 + d) ∷ [])
more_read m d w some h r =
    record {
      all = all_push (48 + d) w r.all (digit_of d h);
      value = digits_push 0 (48 + d) w ∙ omega (arith, r.value);
      first = r.first;
      rest = r.rest ++ (48 + d) ∷ [];
      whole = ap (λ (x : List ℕ). x ++ (48 + d) ∷ []) r.whole;
      lead = λ more. r.lead some;
      alone = λ e. absurd (omega arith);
    }

is_read : (n : ℕ) → IsRead n (numeral n)
is_read n = by_digits IsRead one_read more_read n

number_by : (n first : ℕ) (rest w : List ℕ) → w ≡ first ∷ rest → list_all is_digit w ≡ true → (not (first == 48) || (length rest == 0)) ≡ true → digits_after 0 w ≡ n → number_of w ≡ Some n
number_by n first rest w whole all lead value = rw whole (by (list_all is_digit (first ∷ rest)) (not (first == 48) || (length rest == 0)) (sym (ap (list_all is_digit) whole) ∙ all) lead ∙ ap (λ (x : ℕ). Some x) (sym (ap (digits_after 0) whole) ∙ value))
  where
    by : (p q : Bool) → p ≡ true → q ≡ true → (if p && q then Some (digits_after 0 (first ∷ rest)) else None) ≡ Some (digits_after 0 (first ∷ rest))
    by true true e h = refl
    by true false e h = cc
    by false q e h = cc

lead_by : (n first : ℕ) (rest : List ℕ) → (0 < n → first ≢ 48) → (n ≡ 0 → rest ≡ []) → (t : Bool) → (first == 48) ≡ t → (not t || (length rest == 0)) ≡ true
lead_by n first rest lead alone false e = refl
lead_by n first rest lead alone true e = ⊎_elim
    (λ (none : n ≡ 0). ap (λ (r : List ℕ). length r == 0) (alone none))
    (λ (some : 0 < n). let same : first ≡ 48 = grind (arith, nat_tests) in absurd (lead some same))
    (none_or_some n)
  where
    none_or_some : (n : ℕ) → (n ≡ 0) ⊎ (0 < n)
    none_or_some zero = inl refl
    none_or_some (suc n) = inr (omega arith)

pub number_of-numeral : (n : ℕ) → number_of (numeral n) ≡ Some n
number_of-numeral n =
    let r = is_read n in
    number_by n r.first r.rest (numeral n) r.whole r.all (lead_by n r.first r.rest r.lead r.alone (r.first == 48) refl) r.value

-- digits behind a number other than 0
behind_digits : (m : ℕ) (w : List ℕ) → 0 < m → list_all is_digit w ≡ true → numeral m ++ w ≡ numeral (digits_after m w)
behind_digits m [] some all = append-nil (numeral m)
behind_digits m (b ∷ w) some all = by (is_digit b) refl (λ l h. behind_digits (m * 10 + (b - 48)) w l h) all
  where
    by : (t : Bool) → is_digit b ≡ t → (0 < m * 10 + (b - 48) → list_all is_digit w ≡ true → numeral (m * 10 + (b - 48)) ++ w ≡ numeral (digits_after (m * 10 + (b - 48)) w)) → (t && list_all is_digit w) ≡ true
        → numeral m ++ b ∷ w ≡ numeral (digits_after (m * 10 + (b - 48)) w)
    by false e later h = cc
    by true e later h =
        let small : b - 48 < 10 = grind (arith, nat_tests) in
        let byte : 48 + (b - 48) ≡ b = grind (arith, nat_tests) in
        ap (λ (x : ℕ). numeral m ++ x ∷ w) (sym byte)
        ∙ sym (append_assoc (numeral m) ((48 + (b - 48)) ∷ []) w)
        ∙ ap (λ (x : List ℕ). x ++ w) (sym (numeral_more m (b - 48) some small))
        ∙ later (omega arith) h

no_more : (w : List ℕ) → (length w == 0) ≡ true → w ≡ []
no_more [] h = refl
no_more (b ∷ w) h = absurd (grind (arith, nat_tests))

pub numeral-number_of : (w : List ℕ) (n : ℕ) → number_of w ≡ Some n → w ≡ numeral n
numeral-number_of [] n e = cc
numeral-number_of (b ∷ w) n e = by (is_digit b) (list_all is_digit w) (b == 48) refl refl refl e
  where
    value : digits_after (0 * 10 + (b - 48)) w ≡ digits_after (b - 48) w
    value = ap (λ (x : ℕ). digits_after x w) (omega arith)

    by : (p q z : Bool) → is_digit b ≡ p → list_all is_digit w ≡ q → (b == 48) ≡ z
        → (if (p && q) && (not z || (length w == 0)) then Some (digits_after (0 * 10 + (b - 48)) w) else None) ≡ Some n → b ∷ w ≡ numeral n
    by false q z f g h e = cc
    by true false z f g h e = cc
    by true true false f g h e =
        let small : b - 48 < 10 = grind (arith, nat_tests) in
        let some : 0 < b - 48 = grind (arith, nat_tests) in
        let byte : 48 + (b - 48) ≡ b = grind (arith, nat_tests) in
        let same : digits_after (0 * 10 + (b - 48)) w ≡ n = cc in
        ap (λ (x : ℕ). x ∷ w) (sym byte) ∙ ap (λ (x : List ℕ). x ++ w) (sym (numeral_digit (b - 48) small)) ∙ behind_digits (b - 48) w some g ∙ ap numeral (sym value ∙ same)
    by true true true f g h e = alone (length w == 0) refl e
      where
        alone : (t : Bool) → (length w == 0) ≡ t → (if t then Some (digits_after (0 * 10 + (b - 48)) w) else None) ≡ Some n → b ∷ w ≡ numeral n
        alone false k e = cc
        alone true k e =
            let empty : w ≡ [] = no_more w k in
            let small : b - 48 < 10 = grind (arith, nat_tests) in
            let byte : 48 + (b - 48) ≡ b = grind (arith, nat_tests) in
            let same : digits_after (0 * 10 + (b - 48)) w ≡ n = cc in
            ap (λ (x : List ℕ). b ∷ x) empty ∙ ap (λ (x : ℕ). x ∷ []) (sym byte) ∙ sym (numeral_digit (b - 48) small)
            ∙ ap numeral (sym (ap (digits_after (b - 48)) empty) ∙ sym value ∙ same)

-- numbers of 64 bits

pub exact_of-decimal : (n : ℕ) → n < 2 ^ 64 → exact_of (decimal n) ≡ Some n
exact_of-decimal n small = ap (λ (w : List ℕ). exact_of w) (sym (numeral-decimal n small)) ∙ ap in_word (number_of-numeral n) ∙ by (nat_lt n (2 ^ 64)) refl
  where
    by : (t : Bool) → nat_lt n (2 ^ 64) ≡ t → (if t then Some n else None) ≡ Some n
    by true e = refl
    by false e = absurd (grind (arith, nat_tests))

-- a word that is read as a number of 64 bits
pub record IsDecimal (w : List ℕ) (n : ℕ) : Type 0 where
  pub spelled : w ≡ decimal n
  pub small : n < 2 ^ 64

pub decimal-exact_of : (w : List ℕ) (n : ℕ) → exact_of w ≡ Some n → IsDecimal w n
decimal-exact_of w n e = by (number_of w) refl e
  where
    small_by : (m : ℕ) (t : Bool) → number_of w ≡ Some m → nat_lt m (2 ^ 64) ≡ t → (if t then Some m else None) ≡ Some n → IsDecimal w n
    small_by m false f g h = cc
    small_by m true f g h =
        let same : m ≡ n = cc in
        let small : m < 2 ^ 64 = grind (arith, nat_tests) in
        subst (IsDecimal w) same (record { spelled = numeral-number_of w m f ∙ numeral-decimal m small; small = small })

    by : (o : Option ℕ) → number_of w ≡ o → in_word o ≡ Some n → IsDecimal w n
    by None f g = cc
    by (Some m) f g = small_by m (nat_lt m (2 ^ 64)) f refl g

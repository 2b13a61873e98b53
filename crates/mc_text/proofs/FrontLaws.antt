-- The first request is the one whose spelling begins the bytes.
use Rattle.std.proofs.Common.{◌≡◌, ◌≢◌, ℕ, zero, suc, ◌+◌, ◌-◌, ◌≤◌, ◌<◌, Bool, true, false, cond, List, [], ◌∷◌, ◌++◌, length, take, drop, get_or, refl, sym, ap, ◌∙◌, subst, arith, append_assoc, eqb, ltb, Option, Some, None, ◌⊎◌, inl, inr}
use Rattle.std.specs.Prelude.{slice_range, replicate}
use Rattle.std.proofs.lemmas.List.{take_at, drop_at, take_all, take-append-drop, append-nil, length-replicate}
use Rattle.std.proofs.lemmas.Bool.Decides.{nat_tests}
use Rattle.std.proofs.Math.ListN.{length-take, length-drop, length-append}
use Rattle.memchr.specs.Find.{IsFirstByte, is_byte}
use Rattle.mc_model.specs.Call.{Call}
use Rattle.mc_text.specs.declared.limits.Limits.{Limits}
use Rattle.mc_text.specs.declared.request.Request.{Request}
use Rattle.mc_text.specs.Bounds.{longest_line}
use Rattle.mc_text.specs.Meaning.{Meaning, calls_of}
use Rattle.mc_text.specs.Lines.{LineMeaning, Ends, Wants}
use Rattle.mc_text.specs.Spells.{lf, one_behind, IsLine, line_says, too_long, finished, Spells, TooLong, OneLine, WithBlock, Begins, Completed}
use Rattle.mc_text.specs.declared.reader.ReadRequest.TheVariants.{Whole, More}
use Rattle.mc_text.specs.Reads.{Reads, BeginsSome}
use Rattle.mc_text.specs.Front.{front, front_at, front_says}
use Rattle.mc_text.specs.Parsed.{meaning_of, IsTemplateOf}
use Rattle.mc_text.specs.Words.{words}
use Rattle.mc_text.specs.Reading.{meaning_at, front_of, buckets_of, IsOf, StandsInside, BeginsAs}

-- behind a line without LF stands the first one
lf_line : (line more : List ℕ) (n : ℕ) → length line < n → lf line ≡ None → lf (take n (line ++ 10 ∷ more)) ≡ Some (length line)
lf_line line more zero h e = absurd (omega arith)
lf_line [] more (suc n) h e = refl
lf_line (b ∷ bs) more (suc n) h e = by_test (eqb b 10) e (lf_line bs more n (omega arith))
  where
    none : (o : Option ℕ) → one_behind o ≡ None → o ≡ None
    none None e = refl
    none (Some k) e = cc

    by_test : (t : Bool) → cond t (Some 0) (one_behind (lf bs)) ≡ None → (lf bs ≡ None → lf (take n (bs ++ 10 ∷ more)) ≡ Some (length bs)) → cond t (Some 0) (one_behind (lf (take n (bs ++ 10 ∷ more)))) ≡ Some (suc (length bs))
    by_test true e f = cc
    by_test false e f = ap one_behind (f (none (lf bs) e))

nat_lt_false : (a b : ℕ) → b ≤ a → ltb a b ≡ false
nat_lt_false a b h = grind (arith, nat_tests)

slice_mid : (a b c : List ℕ) (i j : ℕ) → length a ≡ i → i + length b ≡ j → slice_range (a ++ (b ++ c)) i j ≡ b
slice_mid a b c i j e f = ap (take (j - i)) (drop_at a (b ++ c) i e) ∙ take_at b c (j - i) (omega arith)

behind_line : (line block ending more : List ℕ) → line ++ 10 ∷ (block ++ ending ++ more) ≡ (line ++ 10 ∷ []) ++ (block ++ (ending ++ more))
behind_line line block ending more = ap (λ x. line ++ 10 ∷ x) (append_assoc block ending more) ∙ sym (append_assoc line (10 ∷ []) (block ++ (ending ++ more)))

-- what is spelled is read, whatever follows
pub front_spelled : (l : Limits) (text more : List ℕ) (r : Meaning) → Spells l text r → front l (text ++ more) ≡ Some (length text, r)
unfolding front
front_spelled l text more r (TooLong long none is) =
    ap (front_at l (text ++ more)) (ap lf (take_at text more longest_line long) ∙ none)
    ∙ simp (nat_lt_false (length (text ++ more)) longest_line (omega (arith, length-append text more))) (let e = long in cc)
front_spelled l text more r (OneLine line is t e) =
    let whole : text ++ more ≡ line ++ 10 ∷ more = ap (λ x. x ++ more) t ∙ append_assoc line (10 ∷ []) more in
    let size : length text ≡ length line + 1 = ap length t ∙ length-append line (10 ∷ []) in
    ap (λ x. front_at l x (lf (take longest_line x))) whole
    ∙ ap (front_at l (line ++ 10 ∷ more)) (lf_line line more longest_line is.short is.one)
    ∙ ap (front_says l (line ++ 10 ∷ more) (length line)) (ap line_says (take_at line (10 ∷ more) (length line) refl) ∙ e)
    ∙ ap (λ n. Some (n, r)) (sym size)
front_spelled l text more r (WithBlock line block ending c keys is t e two result) =
    let rest = block ++ ending ++ more in
    let whole : text ++ more ≡ line ++ 10 ∷ rest = ap (λ x. x ++ more) t ∙ append_assoc line (10 ∷ (block ++ ending)) more in
    let bytes = line ++ 10 ∷ rest in
    let n = length block in
    let k = length line in
    let size : length text ≡ k + 1 + n + 2 = ap length t ∙ length-append line (10 ∷ (block ++ ending)) ∙ omega (arith, length-append block ending) in
    let total : length bytes ≡ k + 1 + n + 2 + length more = length-append line (10 ∷ rest) ∙ omega (arith, length-append (block ++ ending) more, length-append block ending) in
    let first : slice_range bytes (k + 1) (k + 1 + n) ≡ block = ap (λ x. slice_range x (k + 1) (k + 1 + n)) (behind_line line block ending more) ∙ slice_mid (line ++ 10 ∷ []) block (ending ++ more) (k + 1) (k + 1 + n) (length-append line (10 ∷ [])) refl in
    let second : slice_range bytes (k + 1 + n) (k + 1 + n + 2) ≡ ending = ap (λ x. slice_range x (k + 1 + n) (k + 1 + n + 2)) (behind_line line block ending more ∙ sym (append_assoc (line ++ 10 ∷ []) block (ending ++ more)))
    ∙ slice_mid ((line ++ 10 ∷ []) ++ block) ending more (k + 1 + n) (k + 1 + n + 2) (omega (arith, length-append (line ++ 10 ∷ []) block, length-append line (10 ∷ []))) (omega arith) in
    ap (λ x. front_at l x (lf (take longest_line x))) whole
    ∙ ap (front_at l bytes) (lf_line line rest longest_line is.short is.one)
    ∙ ap (front_says l bytes k) (ap line_says (take_at line (10 ∷ rest) k refl) ∙ e)
    ∙ simp (nat_lt_false (length bytes) (k + 1 + n + 2) (omega arith), first, second) (let e1 = size in cc)

-- where the first LF stands
pub record LfAt (bytes : List ℕ) (k : ℕ) : Type 0 where
  pub within : k < length bytes
  pub one : lf (take k bytes) ≡ None
  pub split : bytes ≡ take k bytes ++ 10 ∷ drop (k + 1) bytes

lf_at_suc : (b : ℕ) (bs : List ℕ) (k : ℕ) → eqb b 10 ≡ false → LfAt bs k → LfAt (b ∷ bs) (suc k)
lf_at_suc b bs k e h = record {
  within = omega (arith, h.within);
  one = simp (e, h.one);
  split = ap (λ (x : List ℕ). b ∷ x) h.split ∙ (let e2 : suc (k + 1) ≡ suc k + 1 = omega arith in ap (λ n. b ∷ (take k bs ++ 10 ∷ drop n (b ∷ bs))) e2);
}

pub lf_found : (n : ℕ) (bytes : List ℕ) (k : ℕ) → lf (take n bytes) ≡ Some k → (k < n) × LfAt bytes k
lf_found zero bytes k e = cc
lf_found (suc n) [] k e = cc
lf_found (suc n) (b ∷ bs) k e = by_test (eqb b 10) refl k e (lf_found n bs)
  where
    ten : (b : ℕ) → eqb b 10 ≡ true → b ≡ 10
    ten b h = grind (arith, nat_tests)

    by_rest : (o : Option ℕ) (k : ℕ) → eqb b 10 ≡ false → one_behind o ≡ Some k → ((j : ℕ) → o ≡ Some j → (j < n) × LfAt bs j) → (k < suc n) × LfAt (b ∷ bs) k
    by_rest None k t e f = cc
    by_rest (Some j) k t e f =
        let at = f j refl in
        let same : suc j ≡ k = cc in
        let P : ℕ → Type 0 = λ i. (i < suc n) × LfAt (b ∷ bs) i in
        subst P same (omega (arith, at.0), lf_at_suc b bs j t at.1)

    by_test : (t : Bool) → eqb b 10 ≡ t → (k : ℕ) → cond t (Some 0) (one_behind (lf (take n bs))) ≡ Some k → ((j : ℕ) → lf (take n bs) ≡ Some j → (j < n) × LfAt bs j) → (k < suc n) × LfAt (b ∷ bs) k
    by_test true t k e f =
        let same : 0 ≡ k = cc in
        let P : ℕ → Type 0 = λ i. (i < suc n) × LfAt (b ∷ bs) i in
        subst P same (omega arith, record { within = omega arith; one = refl; split = ap (λ x. x ∷ bs) (ten b t) })
    by_test false t k e f = by_rest (lf (take n bs)) k t e f

length_to : (k : ℕ) (bytes : List ℕ) → k ≤ length bytes → length (take k bytes) ≡ k
length_to k bytes h = omega (arith, length-take k bytes)

-- two parts of a text, one behind the other
parts : (bytes : List ℕ) (i j : ℕ) → i ≤ j → take j bytes ≡ take i bytes ++ slice_range bytes i j
parts [] zero j h = let e : j ≡ j - 0 = omega arith in ap (λ n. take n []) e
parts [] (suc i) zero h = absurd (omega arith)
parts [] (suc i) (suc j) h = nothing (suc j - suc i)
  where
    nothing : (n : ℕ) → ◌≡◌ {A = List ℕ} [] (take n [])
    nothing zero = refl
    nothing (suc n) = refl
parts (b ∷ bs) zero j h = let e : j ≡ j - 0 = omega arith in ap (λ n. take n (b ∷ bs)) e
parts (b ∷ bs) (suc i) zero h = absurd (omega arith)
parts (b ∷ bs) (suc i) (suc j) h = ap (λ (x : List ℕ). b ∷ x) (parts bs i j (omega arith) ∙ ap (λ n. take i bs ++ take n (drop i bs)) (omega arith))

cond_none : {A : Type 0} (b : Bool) (x : A) (y : A) → cond b None (Some x) ≡ Some y → (b ≡ false) × (x ≡ y)
cond_none true x y e = cc
cond_none false x y e = (refl, cc)

not_below : (a b : ℕ) → ltb a b ≡ false → b ≤ a
not_below a b h = grind (arith, nat_tests)

-- a line and its LF
to_line : (bytes : List ℕ) (k : ℕ) → LfAt bytes k → take (k + 1) bytes ≡ take k bytes ++ 10 ∷ []
to_line bytes k at =
    let n : length (take k bytes) ≡ k = length_to k bytes (omega (arith, at.within)) in
    ap (take (k + 1)) (at.split ∙ sym (append_assoc (take k bytes) (10 ∷ []) (drop (k + 1) bytes)))
    ∙ take_at (take k bytes ++ 10 ∷ []) (drop (k + 1) bytes) (k + 1) (length-append (take k bytes) (10 ∷ []) ∙ omega arith)

read_says : (l : Limits) (bytes : List ℕ) (k : ℕ) (s : LineMeaning) (n : ℕ) (r : Meaning) → k < longest_line → LfAt bytes k → line_says (take k bytes) ≡ s → front_says l bytes k s ≡ Some (n, r) → Begins l bytes n r
read_says l bytes k (Ends q) n r h at e f =
    let both : ◌≡◌ {A = ℕ × Meaning} (k + 1, q) (n, r) = cc in
    let same : k + 1 ≡ n = ap (λ p. p.0) both in
    let made : q ≡ r = ap (λ p. p.1) both in
    let long : length (take k bytes) ≡ k = length_to k bytes (omega (arith, at.within)) in
    let line : IsLine (take k bytes) = record { short = omega arith; one = at.one } in
    record {
      within = omega (arith, at.within);
      spelled = OneLine (take k bytes) line (ap (λ i. take i bytes) (sym same) ∙ to_line bytes k at) (e ∙ ap Ends made);
    }
read_says l bytes k (Wants c keys m) n r h at e f =
    let block = slice_range bytes (k + 1) (k + 1 + m) in
    let ending = slice_range bytes (k + 1 + m) (k + 1 + m + 2) in
    let test = cond_none (ltb (length bytes) (k + 1 + m + 2)) (k + 1 + m + 2, finished l c keys block ending) (n, r) f in
    let room : k + 1 + m + 2 ≤ length bytes = not_below (length bytes) (k + 1 + m + 2) test.0 in
    let same : k + 1 + m + 2 ≡ n = ap (λ p. p.0) test.1 in
    let made : finished l c keys block ending ≡ r = ap (λ p. p.1) test.1 in
    let long : length (take k bytes) ≡ k = length_to k bytes (omega (arith, at.within)) in
    let line : IsLine (take k bytes) = record { short = omega arith; one = at.one } in
    let block_long : length block ≡ m = omega (arith, length-take (k + 1 + m - (k + 1)) (drop (k + 1) bytes), length-drop (k + 1) bytes) in
    let ending_long : length ending ≡ 2 = omega (arith, length-take (k + 1 + m + 2 - (k + 1 + m)) (drop (k + 1 + m) bytes), length-drop (k + 1 + m) bytes) in
    record {
      within = omega arith;
      spelled = WithBlock (take k bytes) block ending c keys line
          (ap (λ i. take i bytes) (sym same) ∙ parts bytes (k + 1 + m) (k + 1 + m + 2) (omega arith)
          ∙ ap (λ x. x ++ ending) (parts bytes (k + 1) (k + 1 + m) (omega arith) ∙ ap (λ x. x ++ block) (to_line bytes k at))
          ∙ append_assoc (take k bytes ++ 10 ∷ []) block ending ∙ append_assoc (take k bytes) (10 ∷ []) (block ++ ending))
          (e ∙ ap (Wants c keys) (sym block_long)) ending_long (sym made);
    }

read_at : (l : Limits) (bytes : List ℕ) (o : Option ℕ) (n : ℕ) (r : Meaning) → lf (take longest_line bytes) ≡ o → front_at l bytes o ≡ Some (n, r) → Begins l bytes n r
read_at l bytes None n r e f =
    let test = cond_none (ltb (length bytes) longest_line) (longest_line, too_long) (n, r) f in
    let room : longest_line ≤ length bytes = not_below (length bytes) longest_line test.0 in
    let same : longest_line ≡ n = ap (λ p. p.0) test.1 in
    let made : too_long ≡ r = ap (λ p. p.1) test.1 in
    record {
      within = omega arith;
      spelled = TooLong (length_to n bytes (omega arith) ∙ sym same) (ap (λ i. lf (take i bytes)) (sym same) ∙ e) (sym made);
    }
read_at l bytes (Some k) n r e f = let at = lf_found longest_line bytes k e in read_says l bytes k (line_says (take k bytes)) n r at.0 at.1 refl f

-- what is read is spelled so
pub front_reads : (l : Limits) (bytes : List ℕ) (n : ℕ) (r : Meaning) → front l bytes ≡ Some (n, r) → Begins l bytes n r
unfolding front
front_reads l bytes n r e = read_at l bytes (lf (take longest_line bytes)) n r refl e

-- and what begins the bytes is read
pub begins_front : (l : Limits) (bytes : List ℕ) (n : ℕ) (r : Meaning) → Begins l bytes n r → front l bytes ≡ Some (n, r)
begins_front l bytes n r b =
    ap (front l) (sym (take-append-drop n bytes)) ∙ front_spelled l (take n bytes) (drop n bytes) r b.spelled ∙ ap (λ (i : ℕ). Some (i, r)) (length_to n bytes b.within)

-- no spelling is a proper prefix of another
pub one_spelling : (l : Limits) (text more : List ℕ) (q r : Meaning) → Spells l text q → Spells l (text ++ more) r → (more ≡ []) × (q ≡ r)
one_spelling l text more q r a b =
    let first = front_spelled l text more q a in
    let whole : front l (text ++ more) ≡ Some (length (text ++ more), r) = ap (front l) (sym (append-nil (text ++ more))) ∙ front_spelled l (text ++ more) [] r b in
    let both : ◌≡◌ {A = Option (ℕ × Meaning)} (Some (length text, q)) (Some (length (text ++ more), r)) = sym first ∙ whole in
    let pairs : ◌≡◌ {A = ℕ × Meaning} (length text, q) (length (text ++ more), r) = cc in
    (empty more (omega (arith, ap (λ (p : ℕ × Meaning). p.0) pairs, length-append text more)), ap (λ p. p.1) pairs)
  where
    empty : (xs : List ℕ) → length xs ≡ 0 → xs ≡ []
    empty [] e = refl
    empty (x ∷ xs) e = absurd (omega arith)

fill : (l : Limits) (line rest : List ℕ) (c : Call) (keys : List (List ℕ)) (n : ℕ) → IsLine line → line_says line ≡ Wants c keys n → length rest ≤ n + 2 → Completed l (line ++ 10 ∷ rest)
fill l line rest c keys n is e h =
    let zeros = replicate (n + 2 - length rest) 0 in
    let whole = rest ++ zeros in
    let long : length whole ≡ n + 2 = omega (arith, length-append rest zeros, length-replicate {A = ℕ} (n + 2 - length rest) 0) in
    let block : length (take n whole) ≡ n = length_to n whole (omega arith) in
    record {
      tail = zeros;
      request = finished l c keys (take n whole) (drop n whole);
      spelled = WithBlock line (take n whole) (drop n whole) c keys is
          (append_assoc line (10 ∷ rest) zeros ∙ ap (λ x. line ++ 10 ∷ x) (sym (take-append-drop n whole)))
          (e ∙ ap (Wants c keys) (sym block)) (omega (arith, length-drop n whole)) refl;
    }

complete_line : (l : Limits) (line : List ℕ) (s : LineMeaning) → IsLine line → line_says line ≡ s → Completed l line
complete_line l line (Ends r) is e = record { tail = 10 ∷ []; request = r; spelled = OneLine line is refl e }
complete_line l line (Wants c keys n) is e =
    let filled = fill l line [] c keys n is e (omega arith) in
    record {
      tail = 10 ∷ filled.tail;
      request = filled.request;
      spelled = subst (λ x. Spells l x filled.request) (append_assoc line (10 ∷ []) filled.tail) filled.spelled;
    }

complete_says : (l : Limits) (bytes : List ℕ) (k : ℕ) (s : LineMeaning) → k < longest_line → LfAt bytes k → line_says (take k bytes) ≡ s → front_says l bytes k s ≡ None → Completed l bytes
complete_says l bytes k (Ends r) h at e f = cc
complete_says l bytes k (Wants c keys n) h at e f =
    let short : length bytes < k + 1 + n + 2 = below (ltb (length bytes) (k + 1 + n + 2)) refl f in
    let long : length (take k bytes) ≡ k = length_to k bytes (omega (arith, at.within)) in
    let filled = fill l (take k bytes) (drop (k + 1) bytes) c keys n (record { short = omega arith; one = at.one }) e (omega (arith, length-drop (k + 1) bytes)) in
    subst (Completed l) (sym at.split) filled
  where
    test_below : (a b : ℕ) → ltb a b ≡ true → a < b
    test_below a b t = grind (arith, nat_tests)

    below : (t : Bool) → ltb (length bytes) (k + 1 + n + 2) ≡ t → ◌≡◌ {A = Option (ℕ × Meaning)} (cond t None (Some (k + 1 + n + 2, finished l c keys (slice_range bytes (k + 1) (k + 1 + n)) (slice_range bytes (k + 1 + n) (k + 1 + n + 2))))) None → length bytes < k + 1 + n + 2
    below true t g = test_below (length bytes) (k + 1 + n + 2) t
    below false t g = cc

complete_at : (l : Limits) (bytes : List ℕ) (o : Option ℕ) → lf (take longest_line bytes) ≡ o → front_at l bytes o ≡ None → Completed l bytes
complete_at l bytes None e f =
    let short : length bytes < longest_line = below (ltb (length bytes) longest_line) refl f in
    let none : lf bytes ≡ None = ap lf (sym (take_all longest_line bytes (omega arith))) ∙ e in
    complete_line l bytes (line_says bytes) (record { short = short; one = none }) refl
  where
    test_below : (a b : ℕ) → ltb a b ≡ true → a < b
    test_below a b t = grind (arith, nat_tests)

    below : (t : Bool) → ltb (length bytes) longest_line ≡ t → ◌≡◌ {A = Option (ℕ × Meaning)} (cond t None (Some (longest_line, too_long))) None → length bytes < longest_line
    below true t g = test_below (length bytes) longest_line t
    below false t g = cc
complete_at l bytes (Some k) e f = let at = lf_found longest_line bytes k e in complete_says l bytes k (line_says (take k bytes)) at.0 at.1 refl f

-- bytes that no spelling begins are the beginning of one
pub front_none : (l : Limits) (bytes : List ℕ) → front l bytes ≡ None → Completed l bytes
unfolding front
front_none l bytes e = complete_at l bytes (lf (take longest_line bytes)) refl e

-- the first LF, as a search tells it
lf_none : (bytes : List ℕ) → ((k : ℕ) → k < length bytes → get_or bytes k 0 ≢ 10) → lf bytes ≡ None
lf_none [] h = refl
lf_none (b ∷ bs) h = simp (other (h 0 (omega arith)), lf_none bs (λ k l. h (suc k) (omega arith)))
  where
    other : b ≢ 10 → eqb b 10 ≡ false
    other n = grind (arith, nat_tests)

lf_some : (bytes : List ℕ) (k : ℕ) → k < length bytes → get_or bytes k 0 ≡ 10 → ((j : ℕ) → j < k → get_or bytes j 0 ≢ 10) → lf bytes ≡ Some k
lf_some [] k l e h = absurd (omega arith)
lf_some (b ∷ bs) zero l e h = simp e
lf_some (b ∷ bs) (suc k) l e h = simp (other (h 0 (omega arith)), lf_some bs k (omega arith) e (λ j i. h (suc j) (omega arith)))
  where
    other : b ≢ 10 → eqb b 10 ≡ false
    other n = grind (arith, nat_tests)

is_ten : (b : ℕ) → b ≡ 10 → eqb b 10 ≡ true
is_ten b h = grind (arith, nat_tests)

ten_is : (b : ℕ) → eqb b 10 ≡ true → b ≡ 10
ten_is b h = grind (arith, nat_tests)

pub lf_from_search : (bytes : List ℕ) (r : Option ℕ) → IsFirstByte (is_byte 10) bytes r → r ≡ lf bytes
lf_from_search bytes None h = sym (lf_none bytes (λ k l e. h k (omega arith) l (is_ten (get_or bytes k 0) e)))
lf_from_search bytes (Some k) h = sym (lf_some bytes k h.0.high (ten_is (get_or bytes k 0) h.1) (λ j l e. h.0.before j (omega arith) l (is_ten (get_or bytes j 0) e)))

-- what `read_request` and `parse` say
pub reads_whole : (l : Limits) (bytes : List ℕ) (n : ℕ) (r : Meaning) → Some (n, r) ≡ front l bytes → Reads l bytes (Whole n)
reads_whole l bytes n r e =
    record {
      request = r;
      begins = front_reads l bytes n r (sym e);
      only = λ j q b. let both : ◌≡◌ {A = Option (ℕ × Meaning)} (Some (j, q)) (Some (n, r)) = sym (begins_front l bytes j q b) ∙ sym e in
          let pairs : ◌≡◌ {A = ℕ × Meaning} (j, q) (n, r) = cc in (ap (λ (p : ℕ × Meaning). p.0) pairs, ap (λ (p : ℕ × Meaning). p.1) pairs);
    }

pub reads_more : (l : Limits) (bytes : List ℕ) → None ≡ front l bytes → Reads l bytes More
reads_more l bytes e =
    record {
      none = λ j q b. let both : ◌≡◌ {A = Option (ℕ × Meaning)} (Some (j, q)) None = sym (begins_front l bytes j q b) ∙ sym e in cc;
      completed = front_none l bytes (sym e);
    }

pub spells_whole : (l : Limits) (bytes : List ℕ) (n : ℕ) (r : Meaning) → Some (n, r) ≡ front l bytes → n ≡ length bytes → Spells l bytes r
spells_whole l bytes n r e same =
    let b = front_reads l bytes n r (sym e) in
    subst (λ x. Spells l x r) (ap (λ i. take i bytes) same ∙ take_all (length bytes) bytes (omega arith)) b.spelled

front_whole : (l : Limits) (bytes : List ℕ) (r : Meaning) → Spells l bytes r → front l bytes ≡ Some (length bytes, r)
front_whole l bytes r s = ap (front l) (sym (append-nil bytes)) ∙ front_spelled l bytes [] r s

pub spells_not : (l : Limits) (bytes : List ℕ) (n : ℕ) (q r : Meaning) → Some (n, q) ≡ front l bytes → n ≢ length bytes → Spells l bytes r → ⊥
spells_not l bytes n q r e other s =
    let both : ◌≡◌ {A = Option (ℕ × Meaning)} (Some (n, q)) (Some (length bytes, r)) = e ∙ front_whole l bytes r s in
    let pairs : ◌≡◌ {A = ℕ × Meaning} (n, q) (length bytes, r) = cc in other (ap (λ (p : ℕ × Meaning). p.0) pairs)

pub spells_nothing : (l : Limits) (bytes : List ℕ) (r : Meaning) → None ≡ front l bytes → Spells l bytes r → ⊥
spells_nothing l bytes r e s = let both : ◌≡◌ {A = Option (ℕ × Meaning)} None (Some (length bytes, r)) = e ∙ front_whole l bytes r s in cc

pub begins_or_completed : (l : Limits) (bytes : List ℕ) → BeginsSome l bytes ⊎ Completed l bytes
begins_or_completed l bytes = by_front (front l bytes) refl
  where
    by_front : (o : Option (ℕ × Meaning)) → front l bytes ≡ o → BeginsSome l bytes ⊎ Completed l bytes
    by_front None e = inr (front_none l bytes e)
    by_front (Some p) e = inl (record { length = p.0; request = p.1; begins = front_reads l bytes p.0 p.1 e })

pub spells_only : (l : Limits) (bytes : List ℕ) (n : ℕ) (q r : Meaning) → Some (n, q) ≡ front l bytes → Spells l bytes r → r ≡ q
spells_only l bytes n q r e s =
    let both : ◌≡◌ {A = Option (ℕ × Meaning)} (Some (length bytes, r)) (Some (n, q)) = sym (front_whole l bytes r s) ∙ sym e in
    let pairs : ◌≡◌ {A = ℕ × Meaning} (length bytes, r) (n, q) = cc in ap (λ (p : ℕ × Meaning). p.1) pairs

-- What stands at the front is read from it alone.

take_front : (i n : ℕ) (xs : List ℕ) → i ≤ n → take i (take n xs) ≡ take i xs
take_front zero n xs h = refl
take_front (suc i) zero xs h = absurd (omega arith)
take_front (suc i) (suc n) [] h = refl
take_front (suc i) (suc n) (x ∷ xs) h = ap (λ ys. x ∷ ys) (take_front i n xs (omega (arith, h)))

range_front : (a c n : ℕ) (xs : List ℕ) → a + c ≤ n → take c (drop a (take n xs)) ≡ take c (drop a xs)
range_front zero c n xs h = take_front c n xs (omega (arith, h))
range_front (suc a) c zero xs h = absurd (omega arith)
range_front (suc a) c (suc n) [] h = refl
range_front (suc a) c (suc n) (x ∷ xs) h = range_front a c n xs (omega (arith, h))

pub front_begins : (l : Limits) (bytes : List ℕ) (r : Request) → Some (front_of bytes r) ≡ front l bytes → IsOf bytes r → StandsInside r → buckets_of r ≡ l.buckets → BeginsAs l bytes r
front_begins l bytes r found of inside buckets =
    let b = front_reads l bytes r.length (meaning_at bytes r) (sym found) in
    let own = take r.length bytes in
    let block : slice_range own r.block.from r.block.to ≡ slice_range bytes r.block.from r.block.to = range_front r.block.from (r.block.to - r.block.from) r.length bytes (omega (arith, of.block_order, inside.block)) in
    let line : take r.line own ≡ take r.line bytes = take_front r.line r.length bytes inside.line in
    let same : meaning_at own r ≡ meaning_at bytes r =
    ap (λ (bs : List ℕ). meaning_of bs (words (take r.line own)) r.template) block ∙ ap (λ (ls : List ℕ). meaning_of (slice_range bytes r.block.from r.block.to) (words ls) r.template) line in
    let whole : Some (length own, meaning_at own r) ≡ front l own = sym (front_whole l own (meaning_at own r) (subst (Spells l own) (sym same) b.spelled)) in
    record {
      within = b.within;
      reading = record {
        spelled = subst (Spells l own) (sym same) b.spelled;
        only = λ m s. spells_only l own (length own) (meaning_at own r) m whole s;
        buckets = buckets;
        calls = ap (λ n. calls_of n (meaning_at own r)) buckets;
        of = record {
          some_buckets = of.some_buckets;
          line = omega (arith, inside.line, length_to r.length bytes b.within);
          template = subst (λ (ls : List ℕ). IsTemplateOf (words ls) r.template) (sym line) of.template;
          block_order = of.block_order;
          block_end = omega (arith, inside.block, length_to r.length bytes b.within);
        };
      };
    }

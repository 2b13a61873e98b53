-- Planned faults are read as they are spelled.
use Rattle.std.proofs.Common.{◌≡◌, ◌≢◌, ℕ, ◌<◌, ◌^◌, Bool, true, false, List, [], ◌∷◌, ◌++◌, Option, Some, None, refl, ap, sym, ◌∙◌, subst, arith, append_assoc}
use Rattle.std.specs.Prelude.{nat_le, if◌then◌else◌, codes}
use Rattle.std.specs.Fmt.{decimal}
use Rattle.std.specs.Option.{option_map}
use Rattle.std.specs.Str.{bytes_eq}
use Rattle.std.proofs.lemmas.Bool.Decides.{nat_tests}
use Rattle.std.proofs.lemmas.Slice.Eq.{bytes_eq-Decides}
use Rattle.sei_fault.specs.declared.place.Phase.{Phase}
use Rattle.sei_fault.specs.declared.place.Phase.TheVariants.{Guard, Take, First, Restore, Second, Compare, Verify, Enter, Give, Send, Done}
use Rattle.sei_fault.specs.declared.plan.Select.{Select}
use Rattle.sei_fault.specs.declared.plan.Select.TheVariants.{Index, Load, Store, Now, Alloc, Parse, Render, Halt}
use Rattle.sei_fault.specs.declared.plan.Kind.{Kind}
use Rattle.sei_fault.specs.declared.plan.Kind.TheVariants.{Read, Write, Skip, Repeat, Jump, Flip}
use Rattle.sei_fault.specs.declared.plan.Planned.{Planned}
use Rattle.sei_script.specs.AbortLines.{phase_text}
use Rattle.sei_script.specs.Lines.{Part, word_of, behind_word, first_exact, last_exact}
use Rattle.sei_script.specs.Plans.{phase_of, Selected, selected, numbered, select_words, select_of, some_mask, mask_of, read_of, alone, jump_to, jump_of, kind_words, kind_of, planned, plan_of}
use Rattle.sei_script.specs.Spelling.{select_text, kind_text, plan_text, IsSelect, IsMask, IsKind}
use Rattle.sei_script.proofs.WordLaws.{tail, cut, is_word, word_front, word_behind, exact_spelled, last_spelled, IsExact, exact_cut, IsLast, last_cut}

same_of : {A : Type 0} (a b : A) → Some a ≡ Some b → a ≡ b
same_of a b e = cc

-- a choice by a word
pub by_word : {A : Type 0} (P : A → Type 0) (w k : List ℕ) (a b : A) → (w ≡ k → P a) → (w ≢ k → P b) → P (if bytes_eq w k then a else b)
by_word P w k a b f g = by (bytes_eq w k) refl
  where
    by : (t : Bool) → bytes_eq w k ≡ t → P (if t then a else b)
    by true e = f ((bytes_eq-Decides w k).0 e)
    by false e = g (λ s. let h : true ≡ false = sym ((bytes_eq-Decides w k).1 s) ∙ e in cc)

-- phases

phase_word : (p : Phase) → is_word (phase_text p) ≡ true
phase_word Guard = refl
phase_word Take = refl
phase_word First = refl
phase_word Restore = refl
phase_word Second = refl
phase_word Compare = refl
phase_word Verify = refl
phase_word Enter = refl
phase_word Give = refl
phase_word Send = refl
phase_word Done = refl

phase_read : (p : Phase) → phase_of (phase_text p) ≡ Some p
phase_read Guard = refl
phase_read Take = refl
phase_read First = refl
phase_read Restore = refl
phase_read Second = refl
phase_read Compare = refl
phase_read Verify = refl
phase_read Enter = refl
phase_read Give = refl
phase_read Send = refl
phase_read Done = refl

module _ (w : List ℕ) (p : Phase) where
  abbrev Spelled : Option Phase → Type 0
  Spelled o = o ≡ Some p → w ≡ phase_text p

  named : (q : Phase) → w ≡ phase_text q → Spelled (Some q)
  named q e h = e ∙ ap phase_text (same_of q p h)

  pub phase_cut : phase_of w ≡ Some p → w ≡ phase_text p
  phase_cut =
      by_word Spelled w (codes "guard") _ _ (named Guard) (λ _. by_word Spelled w (codes "take") _ _ (named Take) (λ _. by_word Spelled w (codes "first") _ _ (named First) (λ _.
      by_word Spelled w (codes "restore") _ _ (named Restore) (λ _. by_word Spelled w (codes "second") _ _ (named Second) (λ _. by_word Spelled w (codes "compare") _ _ (named Compare) (λ _.
      by_word Spelled w (codes "verify") _ _ (named Verify) (λ _. by_word Spelled w (codes "enter") _ _ (named Enter) (λ _. by_word Spelled w (codes "give") _ _ (named Give) (λ _.
      by_word Spelled w (codes "send") _ _ (named Send) (λ _. by_word Spelled w (codes "done") _ _ (named Done) (λ _ (e : None ≡ Some p). cc)))))))))))

-- what selects a step

words_read : (word : List ℕ) (t : Option (List ℕ)) → is_word word ≡ true → select_of (Some (word ++ tail t)) ≡ select_words word t
words_read word t h = ap (λ (w : List ℕ). select_words w (behind_word (word ++ tail t))) (word_front word t h) ∙ ap (select_words word) (word_behind word t h)

-- with a number
number_read : (word : List ℕ) (n : ℕ) (t : Option (List ℕ)) → is_word word ≡ true → n < 2 ^ 64 → (f : ℕ → Select)
    → ((rest : Option (List ℕ)) → select_words word rest ≡ numbered f (first_exact rest)) → select_of (Some (word ++ tail (Some (decimal n ++ tail t)))) ≡ Some (selected (f n) t)
number_read word n t h small f e = words_read word (Some (decimal n ++ tail t)) h ∙ e (Some (decimal n ++ tail t)) ∙ ap (numbered f) (exact_spelled n t small)

pub select_read : (s : Select) (t : Option (List ℕ)) → IsSelect s → select_of (Some (select_text s ++ tail t)) ≡ Some (selected s t)
select_read (Index n) t h = number_read (codes "at") n t refl h (λ n. Index n) (λ rest. refl)
select_read (Load n) t h = number_read (codes "load") n t refl h (λ n. Load n) (λ rest. refl)
select_read (Store n) t h = number_read (codes "store") n t refl h (λ n. Store n) (λ rest. refl)
select_read Now t h = words_read (codes "now") t refl
select_read Alloc t h = words_read (codes "alloc") t refl
select_read Parse t h = words_read (codes "parse") t refl
select_read Render t h = words_read (codes "render") t refl
select_read Halt t h = words_read (codes "halt") t refl

-- a text that selects a step, and what stands behind it
record IsSelected (text : List ℕ) (s : Selected) : Type 0 where
  is : text ≡ select_text s.select ++ tail s.rest
  fits : IsSelect s.select

module _ (w : List ℕ) (rest : Option (List ℕ)) (s : Selected) where
  abbrev Selects : Option Selected → Type 0
  Selects o = o ≡ Some s → IsSelected (w ++ tail rest) s

  with_number : (f : ℕ → Select) (k : List ℕ) → ((n : ℕ) → n < 2 ^ 64 → IsSelect (f n)) → ((n : ℕ) → select_text (f n) ≡ k ++ 32 ∷ decimal n) → w ≡ k → Selects (numbered f (first_exact rest))
  with_number f k fits text e = by (first_exact rest) refl
    where
      by : (o : Option Part) → first_exact rest ≡ o → numbered f o ≡ Some s → IsSelected (w ++ tail rest) s
      by None q h = cc
      by (Some n) q h =
          let x : IsExact rest n = exact_cut rest n q in
          let same : selected (f n.number) n.rest ≡ s = same_of _ _ h in
          subst (IsSelected (w ++ tail rest)) same (record {
            is = ap (λ (v : List ℕ). v ++ tail rest) e ∙ ap (λ (r : Option (List ℕ)). k ++ tail r) x.text ∙ sym (ap (λ (v : List ℕ). v ++ tail n.rest) (text n.number) ∙ append_assoc k (32 ∷ decimal n.number) (tail n.rest));
            fits = fits n.number x.small;
          })

  without : (q : Select) → IsSelect q → w ≡ select_text q → Selects (Some (selected q rest))
  without q fits e h = subst (IsSelected (w ++ tail rest)) (same_of (selected q rest) s h) (record { is = ap (λ (v : List ℕ). v ++ tail rest) e; fits = fits })

  words_cut : select_words w rest ≡ Some s → IsSelected (w ++ tail rest) s
  words_cut =
      by_word Selects w (codes "at") _ _ (with_number (λ n. Index n) (codes "at") (λ n h. h) (λ n. refl)) (λ _.
      by_word Selects w (codes "load") _ _ (with_number (λ n. Load n) (codes "load") (λ n h. h) (λ n. refl)) (λ _.
      by_word Selects w (codes "store") _ _ (with_number (λ n. Store n) (codes "store") (λ n h. h) (λ n. refl)) (λ _.
      by_word Selects w (codes "now") _ _ (without Now tt) (λ _. by_word Selects w (codes "alloc") _ _ (without Alloc tt) (λ _. by_word Selects w (codes "parse") _ _ (without Parse tt) (λ _.
      by_word Selects w (codes "render") _ _ (without Render tt) (λ _. by_word Selects w (codes "halt") _ _ (without Halt tt) (λ _ (e : None ≡ Some s). cc))))))))

-- what was found to select a step
record SelectedIn (rest : Option (List ℕ)) (s : Selected) : Type 0 where
  is : rest ≡ Some (select_text s.select ++ tail s.rest)
  fits : IsSelect s.select

select_cut : (rest : Option (List ℕ)) (s : Selected) → select_of rest ≡ Some s → SelectedIn rest s
select_cut None s e = cc
select_cut (Some text) s e =
    let h : IsSelected (word_of text ++ tail (behind_word text)) s = words_cut (word_of text) (behind_word text) s e in
    record { is = ap (λ (x : List ℕ). Some x) (cut text ∙ h.is); fits = h.fits }

-- kinds

mask_read : (n : ℕ) → IsMask n → mask_of (Some (decimal n)) ≡ Some n
mask_read n h = ap some_mask (last_spelled n h.1) ∙ by (nat_le 1 n) refl
  where
    by : (t : Bool) → nat_le 1 n ≡ t → (if t then Some n else None) ≡ Some n
    by true e = refl
    by false e = absurd (grind (arith, nat_tests))

acts_read : (word : List ℕ) (t : Option (List ℕ)) → is_word word ≡ true → kind_of (Some (word ++ tail t)) ≡ kind_words word t
acts_read word t h = ap (λ (w : List ℕ). kind_words w (behind_word (word ++ tail t))) (word_front word t h) ∙ ap (kind_words word) (word_behind word t h)

jump_read : (p : Phase) (n : ℕ) → n < 2 ^ 64 → jump_of (Some (phase_text p ++ tail (Some (decimal n)))) ≡ Some (Jump (record { phase = p; index = n }))
jump_read p n h =
    let t : Option (List ℕ) = Some (decimal n) in
    ap (λ (w : List ℕ). jump_to (phase_of w) (last_exact (behind_word (phase_text p ++ tail t)))) (word_front (phase_text p) t (phase_word p))
    ∙ ap (λ (r : Option (List ℕ)). jump_to (phase_of (phase_text p)) (last_exact r)) (word_behind (phase_text p) t (phase_word p))
    ∙ ap (λ (o : Option Phase). jump_to o (last_exact t)) (phase_read p) ∙ ap (jump_to (Some p)) (last_spelled n h)

pub kind_read : (k : Kind) → IsKind k → kind_of (Some (kind_text k)) ≡ Some k
kind_read (Read nth mask) h =
    acts_read (codes "read") (Some (decimal nth ++ tail (Some (decimal mask)))) refl
    ∙ ap read_of (exact_spelled nth (Some (decimal mask)) h.0) ∙ ap (option_map (λ m. Read nth m)) (mask_read mask h.1)
kind_read (Write mask) h = acts_read (codes "write") (Some (decimal mask)) refl ∙ ap (option_map (λ m. Write m)) (mask_read mask h)
kind_read Skip h = refl
kind_read Repeat h = refl
kind_read (Jump to) h = acts_read (codes "jump") (Some (phase_text to.phase ++ tail (Some (decimal to.index)))) refl ∙ jump_read to.phase to.index h
kind_read Flip h = refl

record KindIn (text : List ℕ) (k : Kind) : Type 0 where
  is : text ≡ kind_text k
  fits : IsKind k

record MaskIn (rest : Option (List ℕ)) (mask : ℕ) : Type 0 where
  is : rest ≡ Some (decimal mask)
  fits : IsMask mask

mask_cut : (rest : Option (List ℕ)) (mask : ℕ) → mask_of rest ≡ Some mask → MaskIn rest mask
mask_cut rest mask e = by (last_exact rest) refl e
  where
    some_by : (n : ℕ) (t : Bool) → last_exact rest ≡ Some n → nat_le 1 n ≡ t → (if t then Some n else None) ≡ Some mask → MaskIn rest mask
    some_by n false f g h = cc
    some_by n true f g h = let x : IsLast rest n = last_cut rest n f in subst (MaskIn rest) (same_of n mask h) (record { is = x.text; fits = (grind (arith, nat_tests), x.small) })

    by : (o : Option ℕ) → last_exact rest ≡ o → some_mask o ≡ Some mask → MaskIn rest mask
    by None f h = cc
    by (Some n) f h = some_by n (nat_le 1 n) f refl h

module _ (w : List ℕ) (rest : Option (List ℕ)) (k : Kind) where
  abbrev Acts : Option Kind → Type 0
  Acts o = o ≡ Some k → KindIn (w ++ tail rest) k

  reads_cut : w ≡ codes "read" → Acts (read_of (first_exact rest))
  reads_cut e = by (first_exact rest) refl
    where
      mask_by : (n : Part) (o : Option ℕ) → first_exact rest ≡ Some n → mask_of n.rest ≡ o → option_map (λ mask. Read n.number mask) o ≡ Some k → KindIn (w ++ tail rest) k
      mask_by n None f g h = cc
      mask_by n (Some mask) f g h =
          let x : IsExact rest n = exact_cut rest n f in
          let y : MaskIn n.rest mask = mask_cut n.rest mask g in
          subst (KindIn (w ++ tail rest)) (same_of (Read n.number mask) k h) (record {
            is = ap (λ (v : List ℕ). v ++ tail rest) e ∙ ap (λ (r : Option (List ℕ)). codes "read" ++ tail r) x.text ∙ ap (λ (r : Option (List ℕ)). codes "read" ++ 32 ∷ (decimal n.number ++ tail r)) y.is;
            fits = (x.small, y.fits);
          })

      by : (o : Option Part) → first_exact rest ≡ o → read_of o ≡ Some k → KindIn (w ++ tail rest) k
      by None f h = cc
      by (Some n) f h = mask_by n (mask_of n.rest) f refl h

  writes_cut : w ≡ codes "write" → Acts (option_map (λ mask. Write mask) (mask_of rest))
  writes_cut e = by (mask_of rest) refl
    where
      by : (o : Option ℕ) → mask_of rest ≡ o → option_map (λ mask. Write mask) o ≡ Some k → KindIn (w ++ tail rest) k
      by None f h = cc
      by (Some mask) f h =
          let y : MaskIn rest mask = mask_cut rest mask f in
          subst (KindIn (w ++ tail rest)) (same_of (Write mask) k h) (record { is = ap (λ (v : List ℕ). v ++ tail rest) e ∙ ap (λ (r : Option (List ℕ)). codes "write" ++ tail r) y.is; fits = y.fits })

  alone_cut : (q : Kind) → IsKind q → w ++ [] ≡ kind_text q → Acts (alone rest q)
  alone_cut q fits e = by rest refl
    where
      by : (o : Option (List ℕ)) → rest ≡ o → alone o q ≡ Some k → KindIn (w ++ tail rest) k
      by (Some text) f h = cc
      by None f h = subst (KindIn (w ++ tail rest)) (same_of q k h) (record { is = ap (λ (r : Option (List ℕ)). w ++ tail r) f ∙ e; fits = fits })

  jumps_cut : w ≡ codes "jump" → Acts (jump_of rest)
  jumps_cut e = by rest refl
    where
      to_by : (text : List ℕ) (p : Option Phase) (n : Option ℕ) → rest ≡ Some text → phase_of (word_of text) ≡ p → last_exact (behind_word text) ≡ n → jump_to p n ≡ Some k → KindIn (w ++ tail rest) k
      to_by text None n f g i h = cc
      to_by text (Some p) None f g i h = cc
      to_by text (Some p) (Some n) f g i h =
          let x : IsLast (behind_word text) n = last_cut (behind_word text) n i in
          let whole : text ≡ phase_text p ++ 32 ∷ decimal n =
          cut text ∙ ap (λ (v : List ℕ). v ++ tail (behind_word text)) (phase_cut (word_of text) p g) ∙ ap (λ (r : Option (List ℕ)). phase_text p ++ tail r) x.text in
          subst (KindIn (w ++ tail rest)) (same_of (Jump (record { phase = p; index = n })) k h) (record {
            is = ap (λ (v : List ℕ). v ++ tail rest) e ∙ ap (λ (r : Option (List ℕ)). codes "jump" ++ tail r) f ∙ ap (λ (v : List ℕ). codes "jump" ++ 32 ∷ v) whole;
            fits = x.small;
          })

      by : (o : Option (List ℕ)) → rest ≡ o → jump_of o ≡ Some k → KindIn (w ++ tail rest) k
      by None f h = cc
      by (Some text) f h = to_by text (phase_of (word_of text)) (last_exact (behind_word text)) f refl refl h

  acts_cut : kind_words w rest ≡ Some k → KindIn (w ++ tail rest) k
  acts_cut =
      by_word Acts w (codes "read") _ _ reads_cut (λ _. by_word Acts w (codes "write") _ _ writes_cut (λ _.
      by_word Acts w (codes "skip") _ _ (λ e. alone_cut Skip tt (ap (λ (v : List ℕ). v ++ []) e)) (λ _.
      by_word Acts w (codes "repeat") _ _ (λ e. alone_cut Repeat tt (ap (λ (v : List ℕ). v ++ []) e)) (λ _.
      by_word Acts w (codes "flip") _ _ (λ e. alone_cut Flip tt (ap (λ (v : List ℕ). v ++ []) e)) (λ _.
      by_word Acts w (codes "jump") _ _ jumps_cut (λ _ (e : None ≡ Some k). cc))))))

-- plans

pub plan_read : (p : Planned) → IsSelect p.select → IsKind p.kind → plan_of (Some (plan_text p)) ≡ Some p
plan_read p s k =
    let rest : Option (List ℕ) = Some (kind_text p.kind) in
    let t : Option (List ℕ) = Some (select_text p.select ++ tail rest) in
    let plan : Kind → Planned = λ kind. record { phase = p.phase; select = p.select; kind = kind } in
    ap (λ (w : List ℕ). planned (phase_of w) (select_of (behind_word (phase_text p.phase ++ tail t)))) (word_front (phase_text p.phase) t (phase_word p.phase))
    ∙ ap (λ (r : Option (List ℕ)). planned (phase_of (phase_text p.phase)) (select_of r)) (word_behind (phase_text p.phase) t (phase_word p.phase))
    ∙ ap (λ (o : Option Phase). planned o (select_of t)) (phase_read p.phase)
    ∙ ap (planned (Some p.phase)) (select_read p.select rest s)
    ∙ ap (λ (o : Option Kind). option_map plan o) (kind_read p.kind k)

-- a text that spells a plan
pub record PlanIn (rest : Option (List ℕ)) (p : Planned) : Type 0 where
  pub is : rest ≡ Some (plan_text p)
  pub select : IsSelect p.select
  pub kind : IsKind p.kind

pub plan_cut : (rest : Option (List ℕ)) (p : Planned) → plan_of rest ≡ Some p → PlanIn rest p
plan_cut None p e = cc
plan_cut (Some text) p e = by (phase_of (word_of text)) (select_of (behind_word text)) refl refl e
  where
    kind_by : (q : Phase) (s : Selected) (o : Option Kind) → phase_of (word_of text) ≡ Some q → select_of (behind_word text) ≡ Some s → kind_of s.rest ≡ o
        → option_map (λ kind. record { phase = q; select = s.select; kind = kind }) o ≡ Some p → PlanIn (Some text) p
    kind_by q s None f g i h = cc
    kind_by q s (Some k) f g i h = rest_by s.rest refl i
      where
        rest_by : (r : Option (List ℕ)) → s.rest ≡ r → kind_of r ≡ Some k → PlanIn (Some text) p
        rest_by None j m = cc
        rest_by (Some words) j m =
            let x : SelectedIn (behind_word text) s = select_cut (behind_word text) s g in
            let y : KindIn (word_of words ++ tail (behind_word words)) k = acts_cut (word_of words) (behind_word words) k m in
            let plan : Planned = record { phase = q; select = s.select; kind = k } in
            let whole : text ≡ plan_text plan =
            cut text ∙ ap (λ (v : List ℕ). v ++ tail (behind_word text)) (phase_cut (word_of text) q f) ∙ ap (λ (r : Option (List ℕ)). phase_text q ++ tail r) x.is
            ∙ ap (λ (r : Option (List ℕ)). phase_text q ++ 32 ∷ (select_text s.select ++ tail r)) j ∙ ap (λ (v : List ℕ). phase_text q ++ 32 ∷ (select_text s.select ++ 32 ∷ v)) (cut words ∙ y.is) in
            subst (PlanIn (Some text)) (same_of plan p h) (record { is = ap (λ (v : List ℕ). Some v) whole; select = x.fits; kind = y.fits })

    by : (a : Option Phase) (b : Option Selected) → phase_of (word_of text) ≡ a → select_of (behind_word text) ≡ b → planned a b ≡ Some p → PlanIn (Some text) p
    by None b f g h = cc
    by (Some q) None f g h = cc
    by (Some q) (Some s) f g h = kind_by q s (kind_of s.rest) f g refl h

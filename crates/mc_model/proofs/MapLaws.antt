-- Lookup and count after each change of a map.
use Rattle.std.proofs.Common.{◌≡◌, ◌≢◌, ℕ, zero, suc, ◌+◌, Bool, true, false, cond, List, [], ◌∷◌, length, refl, sym, ap, ◌∙◌, subst, arith, Option, Some, None}
use Rattle.std.specs.Prelude.{filter, is_some, slice_get}
use Rattle.std.specs.Str.{bytes_eq}
use Rattle.std.proofs.lemmas.Slice.Eq.{bytes_eq-Decides}
use Rattle.mc_model.specs.declared.call.Room.{Room}
use Rattle.mc_model.specs.Bucket.{Item, Entries, Bucket, arrived, lookup, put, without, is_live, live_entries, IsMap, if_live}
use Rattle.mc_model.specs.Call.{Call}
use Rattle.mc_model.specs.Answer.{answer, items_after, outcome_in}
use Rattle.mc_model.specs.declared.outcome.Change.{Change}
use Rattle.mc_model.specs.declared.outcome.Change.TheVariants.{Keep, Put, Draw, Make, Remove, Clear}

pub data KeyCases (a b : List ℕ) (r : Bool) : Type 0 where
  Same : a ≡ b → r ≡ true → KeyCases a b r
  Other : a ≢ b → r ≡ false → KeyCases a b r

cases_from : (a b : List ℕ) (r : Bool) → (r ≡ true → a ≡ b) → (a ≡ b → r ≡ true) → KeyCases a b r
cases_from a b true f g = Same (f refl) refl
cases_from a b false f g = Other (λ e. let h : false ≡ true = g e in cc) refl

pub key_cases : (a b : List ℕ) → KeyCases a b (bytes_eq a b)
key_cases a b = cases_from a b (bytes_eq a b) (bytes_eq-Decides a b).0 (bytes_eq-Decides a b).1

cond_twice : {A : Type 0} (b : Bool) (x y z : A) → cond b x (cond b y z) ≡ cond b x z
cond_twice true x y z = refl
cond_twice false x y z = refl

cond_turned : {A : Type 0} (b c : Bool) (x y z : A) → (b ≡ true → c ≡ true → ⊥) → cond b x (cond c y z) ≡ cond c y (cond b x z)
cond_turned true true x y z n = absurd (n refl refl)
cond_turned true false x y z n = refl
cond_turned false true x y z n = refl
cond_turned false false x y z n = refl

test_true : (a b : List ℕ) → bytes_eq a b ≡ true → a ≡ b
test_true a b = (bytes_eq-Decides a b).0

test_false : (a b : List ℕ) → a ≢ b → bytes_eq a b ≡ false
test_false a b n = elim (key_cases a b) [ Same s t ↦ absurd (n s) | Other s t ↦ t ]

pub lookup-put : (q k : List ℕ) (x : Item) (es : Entries) → lookup q (put k x es) ≡ cond (bytes_eq q k) (Some x) (lookup q es)
lookup-put q k x [] = refl
lookup-put q k x (e ∷ es) = by_key (bytes_eq k e.0) (key_cases k e.0) (lookup-put q k x es)
  where
    by_key : (b : Bool) → KeyCases k e.0 b → lookup q (put k x es) ≡ cond (bytes_eq q k) (Some x) (lookup q es) → lookup q (cond b ((k, x) ∷ es) (e ∷ put k x es)) ≡ cond (bytes_eq q k) (Some x) (cond (bytes_eq q e.0) (Some e.1) (lookup q es))
    by_key true (Same s t) h = sym (cond_twice (bytes_eq q k) (Some x) (Some e.1) (lookup q es)) ∙ ap (λ (w : List ℕ). cond (bytes_eq q k) (Some x) (cond (bytes_eq q w) (Some e.1) (lookup q es))) s
    by_key true (Other s t) h = cc
    by_key false (Same s t) h = cc
    by_key false (Other s t) h =
        ap (λ (w : Option Item). cond (bytes_eq q e.0) (Some e.1) w) h
        ∙ cond_turned (bytes_eq q e.0) (bytes_eq q k) (Some e.1) (Some x) (lookup q es) (λ u v. s (sym (test_true q k v) ∙ test_true q e.0 u))

pub length-put : (k : List ℕ) (x : Item) (es : Entries) → length (put k x es) ≡ cond (is_some (lookup k es)) (length es) (length es + 1)
length-put k x [] = refl
length-put k x (e ∷ es) = by_key (bytes_eq k e.0) (length-put k x es)
  where
    more : (b : Bool) (n : ℕ) → suc (cond b n (n + 1)) ≡ cond b (suc n) (suc n + 1)
    more true n = refl
    more false n = omega arith

    by_key : (b : Bool) → length (put k x es) ≡ cond (is_some (lookup k es)) (length es) (length es + 1) → length (cond b ((k, x) ∷ es) (e ∷ put k x es)) ≡ cond (is_some (cond b (Some e.1) (lookup k es))) (suc (length es)) (suc (length es) + 1)
    by_key true h = refl
    by_key false h = ap suc h ∙ more (is_some (lookup k es)) (length es)

pub lookup-without : (q k : List ℕ) (es : Entries) → IsMap es → lookup q (without k es) ≡ cond (bytes_eq q k) None (lookup q es)
lookup-without q k [] m = same (bytes_eq q k)
  where
    same : (b : Bool) → ◌≡◌ {A = Option Item} None (cond b None None)
    same true = refl
    same false = refl
lookup-without q k (e ∷ es) m = by_key (bytes_eq k e.0) (key_cases k e.0) (bytes_eq q k) (key_cases q k) m.0 (lookup-without q k es m.1)
  where
    by_key : (b : Bool) → KeyCases k e.0 b → (c : Bool) → KeyCases q k c → lookup e.0 es ≡ None → lookup q (without k es) ≡ cond c None (lookup q es) → lookup q (cond b es (e ∷ without k es)) ≡ cond c None (cond (bytes_eq q e.0) (Some e.1) (lookup q es))
    by_key true (Same s t) true (Same u v) n h = ap (λ (w : List ℕ). lookup w es) (u ∙ s) ∙ n
    by_key true (Same s t) false (Other u v) n h = sym (simp (test_false q e.0 (λ z. u (z ∙ sym s))))
    by_key false (Other s t) c d n h =
        ap (λ (w : Option Item). cond (bytes_eq q e.0) (Some e.1) w) h ∙ apart c d
      where
        apart : (c : Bool) → KeyCases q k c → cond (bytes_eq q e.0) (Some e.1) (cond c None (lookup q es)) ≡ cond c None (cond (bytes_eq q e.0) (Some e.1) (lookup q es))
        apart c d = cond_turned (bytes_eq q e.0) c (Some e.1) None (lookup q es) (λ f g. elim d [ Same a b ↦ s (sym a ∙ test_true q e.0 f) | Other a b ↦ cc ])
    by_key true (Other s t) c d n h = cc
    by_key false (Same s t) c d n h = cc
    by_key true (Same s t) true (Other u v) n h = cc
    by_key true (Same s t) false (Same u v) n h = cc

if_live_none : (m : ℕ) (o : Option Item) → o ≡ None → if_live m o ≡ None
if_live_none m o e = ap (if_live m) e

pub lookup-live : (m : ℕ) (q : List ℕ) (es : Entries) → IsMap es → lookup q (live_entries m es) ≡ if_live m (lookup q es)
lookup-live m q [] h = refl
lookup-live m q (e ∷ es) h = by_key (is_live m e.1) refl (key_cases q e.0) h.0 (lookup-live m q es h.1)
  where
    by_key : (l : Bool) → is_live m e.1 ≡ l → KeyCases q e.0 (bytes_eq q e.0) → lookup e.0 es ≡ None → lookup q (live_entries m es) ≡ if_live m (lookup q es) → lookup q (cond l (e ∷ live_entries m es) (live_entries m es)) ≡ if_live m (cond (bytes_eq q e.0) (Some e.1) (lookup q es))
    by_key true l (Same s t) n h = simp (t, l)
    by_key true l (Other s t) n h = simp t h
    by_key false l (Same s t) n h = h ∙ ap (λ (w : List ℕ). if_live m (lookup w es)) s ∙ if_live_none m (lookup e.0 es) n ∙ sym (simp (t, l))
    by_key false l (Other s t) n h = simp t h

pub length-without : (k : List ℕ) (es : Entries) → length (without k es) + cond (is_some (lookup k es)) 1 0 ≡ length es
length-without k [] = refl
length-without k (e ∷ es) = by_key (bytes_eq k e.0) (length-without k es)
  where
    by_key : (b : Bool) → length (without k es) + cond (is_some (lookup k es)) 1 0 ≡ length es → length (cond b es (e ∷ without k es)) + cond (is_some (cond b (Some e.1) (lookup k es))) 1 0 ≡ suc (length es)
    by_key true h = omega arith
    by_key false h = omega arith

-- what is a map stays one
absent_put : (q k : List ℕ) (x : Item) (es : Entries) → q ≢ k → lookup q es ≡ None → lookup q (put k x es) ≡ None
absent_put q k x es n h = lookup-put q k x es ∙ simp (test_false q k n, h)

pub IsMap-put : (k : List ℕ) (x : Item) (es : Entries) → IsMap es → IsMap (put k x es)
IsMap-put k x [] m = (refl, tt)
IsMap-put k x (e ∷ es) m = by_key (bytes_eq k e.0) (key_cases k e.0) (IsMap-put k x es m.1)
  where
    by_key : (b : Bool) → KeyCases k e.0 b → IsMap (put k x es) → IsMap (cond b ((k, x) ∷ es) (e ∷ put k x es))
    by_key true (Same s t) h = (ap (λ (w : List ℕ). lookup w es) s ∙ m.0, m.1)
    by_key true (Other s t) h = absurd (let f : true ≡ false = t in cc)
    by_key false (Same s t) h = absurd (let f : false ≡ true = t in cc)
    by_key false (Other s t) h = (absent_put e.0 k x es (λ z. s (sym z)) m.0, h)

pub IsMap-without : (k : List ℕ) (es : Entries) → IsMap es → IsMap (without k es)
IsMap-without k [] m = tt
IsMap-without k (e ∷ es) m = by_key (bytes_eq k e.0) (IsMap-without k es m.1)
  where
    gone : (c : Bool) → cond c None (lookup e.0 es) ≡ None
    gone true = refl
    gone false = m.0

    by_key : (b : Bool) → IsMap (without k es) → IsMap (cond b es (e ∷ without k es))
    by_key true h = m.1
    by_key false h = (lookup-without e.0 k es m.1 ∙ gone (bytes_eq e.0 k), h)

none_filter : (p : List ℕ × Item → Bool) (q : List ℕ) (es : Entries) → lookup q es ≡ None → lookup q (filter p es) ≡ None
none_filter p q [] h = refl
none_filter p q (e ∷ es) h = by_test (p e) (bytes_eq q e.0) refl h (none_filter p q es)
  where
    by_test : (l b : Bool) → bytes_eq q e.0 ≡ b → cond b (Some e.1) (lookup q es) ≡ None → (lookup q es ≡ None → lookup q (filter p es) ≡ None) → lookup q (cond l (e ∷ filter p es) (filter p es)) ≡ None
    by_test l true t h f = cc
    by_test true false t h f = simp t (f h)
    by_test false false t h f = f h

pub IsMap-filter : (p : List ℕ × Item → Bool) (es : Entries) → IsMap es → IsMap (filter p es)
IsMap-filter p [] m = tt
IsMap-filter p (e ∷ es) m = by_test (p e) (IsMap-filter p es m.1)
  where
    by_test : (l : Bool) → IsMap (filter p es) → IsMap (cond l (e ∷ filter p es) (filter p es))
    by_test true h = (none_filter p e.0 es m.0, h)
    by_test false h = h

pub IsMap-live : (t : ℕ) (es : Entries) → IsMap es → IsMap (live_entries t es)
IsMap-live t es m = IsMap-filter (λ e. is_live t e.1) es m

pub map_after : (key : List ℕ) (d : Change) (es : Entries) → IsMap es → IsMap (items_after key d es)
map_after key Keep es m = m
map_after key (Put x) es m = IsMap-put key x es m
map_after key (Draw x) es m = IsMap-put key x es m
map_after key (Make x) es m = IsMap-put key x es m
map_after key Remove es m = IsMap-without key es m
map_after key Clear es m = tt

-- an answer leaves a map
pub answer_map : (room : Room) (b : Bucket) (now : ℕ) (c : Call) → IsMap b.items → IsMap ((answer room b now c).0).items
unfolding answer
answer_map room b now c m =
    let a = arrived now b in
    let d = (outcome_in room a c).change in
    IsMap-live a.moment (items_after c.key d a.items) (map_after c.key d a.items (IsMap-live a.moment b.items m))

-- an entry is what its key has
pub entry_lookup : (es : Entries) (i : ℕ) (k : List ℕ) (x : Item) → IsMap es → slice_get es i ≡ Some (k, x) → lookup k es ≡ Some x
entry_lookup [] i k x m e = cc
entry_lookup (y ∷ es) zero k x m e =
    let same : ◌≡◌ {A = List ℕ × Item} y (k, x) = cc in
    subst (λ z. lookup k (z ∷ es) ≡ Some x) (sym same) (simp (test_same k))
  where
    test_same : (k : List ℕ) → bytes_eq k k ≡ true
    test_same k = (bytes_eq-Decides k k).1 refl
entry_lookup (y ∷ es) (suc i) k x m e = by_key (key_cases k y.0) (entry_lookup es i k x m.1 e) m.0
  where
    by_key : KeyCases k y.0 (bytes_eq k y.0) → lookup k es ≡ Some x → lookup y.0 es ≡ None → cond (bytes_eq k y.0) (Some y.1) (lookup k es) ≡ Some x
    by_key (Same s t) h n = let both : ◌≡◌ {A = Option Item} (Some x) None = sym h ∙ ap (λ (w : List ℕ). lookup w es) s ∙ n in cc
    by_key (Other s t) h n = simp t h

-- what a key has is an entry
pub lookup_entry : (es : Entries) (k : List ℕ) (x : Item) → lookup k es ≡ Some x → (i : ℕ) × (slice_get es i ≡ Some (k, x))
lookup_entry [] k x e = cc
lookup_entry (y ∷ es) k x e = by_key (bytes_eq k y.0) (key_cases k y.0) e (lookup_entry es k x)
  where
    by_key : (b : Bool) → KeyCases k y.0 b → cond b (Some y.1) (lookup k es) ≡ Some x → (lookup k es ≡ Some x → (i : ℕ) × (slice_get es i ≡ Some (k, x))) → (i : ℕ) × (slice_get (y ∷ es) i ≡ Some (k, x))
    by_key true (Same s t) h f = (0, let v : y.1 ≡ x = cc in ap (λ (w : List ℕ). Some (w, y.1)) (sym s) ∙ ap (λ (w : Item). Some (k, w)) v)
    by_key true (Other s t) h f = absurd (let g : true ≡ false = t in cc)
    by_key false d h f = let r = f h in (suc r.0, r.1)

-- However a stream is cut, its requests are the same.
use Rattle.std.proofs.Common.{◌≡◌, ℕ, zero, suc, ◌≤◌, ◌<◌, Bool, true, false, cond, List, [], ◌∷◌, ◌++◌, length, take, drop, refl, sym, ap, ◌∙◌, subst, arith, append_assoc, Option, Some, None}
use Rattle.std.specs.List.{flat_map}
use Rattle.std.proofs.lemmas.List.{drop_at, take-append-drop, append-nil}
use Rattle.std.proofs.lemmas.Grind.{flat_map-append}
use Rattle.std.proofs.Math.ListN.{length-take, length-drop, length-append}
use Rattle.mc_text.specs.declared.limits.Limits.{Limits}
use Rattle.mc_text.specs.Meaning.{Meaning, calls_of, ends_connection}
use Rattle.mc_text.specs.Spells.{Spells, TooLong, OneLine, WithBlock}
use Rattle.mc_text.specs.Front.{front}
use Rattle.mc_text.specs.Stream.{NoneBegins, Takes, Splits, with_front, split_in, requests, rest_of, up_to_end, StaysOpen, own_calls, IsPrefixOf}
use Rattle.mc_text.proofs.FrontLaws.{front_spelled, front_reads, begins_front}

-- a spelling is not empty
pub spelled_some : (l : Limits) (text : List ℕ) (m : Meaning) → Spells l text m → 0 < length text
spelled_some l text m (TooLong long none is) = omega (arith, long)
spelled_some l text m (OneLine line is t e) = omega (arith, ap length t, length-append line (10 ∷ []))
spelled_some l text m (WithBlock line block ending c keys is t e two result) = omega (arith, ap length t, length-append line (10 ∷ (block ++ ending)))

-- the request at the front is within the bytes
pub front_length : (l : Limits) (bytes : List ℕ) (n : ℕ) (m : Meaning) → front l bytes ≡ Some (n, m) → (0 < n) × (n ≤ length bytes)
front_length l bytes n m e =
    let b = front_reads l bytes n m e in
    (omega (arith, spelled_some l (take n bytes) m b.spelled, length-take n bytes), b.within)

-- it stays the same, whatever follows
pub front_more : (l : Limits) (bytes more : List ℕ) (n : ℕ) (m : Meaning) → front l bytes ≡ Some (n, m) → front l (bytes ++ more) ≡ Some (n, m)
front_more l bytes more n m e =
    let b = front_reads l bytes n m e in
    let long : length (take n bytes) ≡ n = omega (arith, length-take n bytes, b.within) in
    ap (λ x. front l (x ++ more)) (sym (take-append-drop n bytes)) ∙ ap (front l) (append_assoc (take n bytes) (drop n bytes) more)
    ∙ front_spelled l (take n bytes) (drop n bytes ++ more) m b.spelled ∙ ap (λ (i : ℕ). Some (i, m)) long

front_nothing : (l : Limits) (bytes : List ℕ) → NoneBegins l bytes → front l bytes ≡ None
front_nothing l bytes n = by_front (front l bytes) refl
  where
    by_front : (o : Option (ℕ × Meaning)) → front l bytes ≡ o → o ≡ None
    by_front None e = refl
    by_front (Some p) e = absurd (n p.0 p.1 (front_reads l bytes p.0 p.1 e))

pub nothing_front : (l : Limits) (bytes : List ℕ) → front l bytes ≡ None → NoneBegins l bytes
nothing_front l bytes e k m b = let both : ◌≡◌ {A = Option (ℕ × Meaning)} None (Some (k, m)) = sym e ∙ begins_front l bytes k m b in cc

-- bytes behind what was read
pub takes_more : (l : Limits) (a b : List ℕ) (ms : List Meaning) (held : List ℕ) → Takes l a ms held → Takes l (a ++ b) ms (held ++ b)
takes_more l a b [] held t = ap (λ x. x ++ b) t
takes_more l a b (m ∷ ms) held t = (t.0, t.1 ++ b, t.2, ap (λ x. x ++ b) t.3 ∙ append_assoc t.0 t.1 b, takes_more l t.1 b ms held t.4)

-- what is read of the rest
pub takes_then : (l : Limits) (bytes : List ℕ) (ms ns : List Meaning) (held rest : List ℕ) → Takes l bytes ms held → Takes l held ns rest → Takes l bytes (ms ++ ns) rest
takes_then l bytes [] ns held rest t u = let P : List ℕ → Type 0 = λ x. Takes l x ns rest in subst P (sym t) u
takes_then l bytes (m ∷ ms) ns held rest t u = (t.0, t.1, t.2, t.3, takes_then l t.1 ms ns held rest t.4 u)

-- one request more
pub takes_push : (l : Limits) (bytes : List ℕ) (ms : List Meaning) (rest : List ℕ) (n : ℕ) (m : Meaning) → Takes l bytes ms rest → front l rest ≡ Some (n, m) → Takes l bytes (ms ++ m ∷ []) (drop n rest)
takes_push l bytes ms rest n m t e =
    let b = front_reads l rest n m e in
    takes_then l bytes ms (m ∷ []) rest (drop n rest) t (take n rest, drop n rest, b.spelled, sym (take-append-drop n rest), refl)

pub takes_length : (l : Limits) (bytes : List ℕ) (ms : List Meaning) (rest : List ℕ) → Takes l bytes ms rest → length rest ≤ length bytes
takes_length l bytes [] rest t = omega (arith, ap length t)
takes_length l bytes (m ∷ ms) rest t = omega (arith, takes_length l t.1 ms rest t.4, ap length t.3, length-append t.0 t.1)

-- the function finds each split
split_is : (l : Limits) (n : ℕ) (bytes : List ℕ) (ms : List Meaning) (rest : List ℕ) → length bytes ≤ n → Takes l bytes ms rest → NoneBegins l rest → split_in l n bytes ≡ (ms, rest)
split_is l zero bytes [] rest h t none = ap (λ (x : List ℕ). ([], x)) t
split_is l (suc n) bytes [] rest h t none =
    let nothing : front l bytes ≡ None = ap (front l) t ∙ front_nothing l rest none in
    ap (λ o. with_front bytes o (λ k. split_in l n (drop k bytes))) nothing ∙ ap (λ (x : List ℕ). ([], x)) t
split_is l zero bytes (m ∷ ms) rest h t none = absurd (omega (arith, spelled_some l t.0 m t.2, ap length t.3, length-append t.0 t.1))
split_is l (suc n) bytes (m ∷ ms) rest h t none =
    let found : front l bytes ≡ Some (length t.0, m) = ap (front l) t.3 ∙ front_spelled l t.0 t.1 m t.2 in
    let back : drop (length t.0) bytes ≡ t.1 = ap (drop (length t.0)) t.3 ∙ drop_at t.0 t.1 (length t.0) refl in
    let later : split_in l n t.1 ≡ (ms, rest) = split_is l n t.1 ms rest (omega (arith, spelled_some l t.0 m t.2, ap length t.3, length-append t.0 t.1)) t.4 none in
    ap (λ o. with_front bytes o (λ k. split_in l n (drop k bytes))) found
    ∙ ap (λ x. (m ∷ (split_in l n x).0, (split_in l n x).1)) back
    ∙ ap (λ (p : List Meaning × List ℕ). (m ∷ p.0, p.1)) later

-- and what it finds is a split
split_splits : (l : Limits) (n : ℕ) (bytes : List ℕ) → length bytes ≤ n → Splits l bytes (split_in l n bytes).0 (split_in l n bytes).1
split_splits l zero [] h = (refl, λ k m b. let e = spelled_some l (take k []) m b.spelled in absurd (omega (arith, length-take {A = ℕ} k [])))
split_splits l zero (x ∷ xs) h = absurd (omega arith)
split_splits l (suc n) bytes h = by_front (front l bytes) refl (split_splits l n)
  where
    by_front : (o : Option (ℕ × Meaning)) → front l bytes ≡ o → ((more : List ℕ) → length more ≤ n → Splits l more (split_in l n more).0 (split_in l n more).1)
        → Splits l bytes (with_front bytes o (λ k. split_in l n (drop k bytes))).0 (with_front bytes o (λ k. split_in l n (drop k bytes))).1
    by_front None e f = (refl, nothing_front l bytes e)
    by_front (Some p) e f =
        let b = front_reads l bytes p.0 p.1 e in
        let some = spelled_some l (take p.0 bytes) p.1 b.spelled in
        let later = f (drop p.0 bytes) (omega (arith, length-drop p.0 bytes, length-take p.0 bytes)) in
        ((take p.0 bytes, drop p.0 bytes, b.spelled, sym (take-append-drop p.0 bytes), later.0), later.1)

-- `requests` and `rest_of` are a split
pub is_split : (l : Limits) (bytes : List ℕ) → Splits l bytes (requests l bytes) (rest_of l bytes)
unfolding requests rest_of
is_split l bytes = split_splits l (length bytes) bytes (omega arith)

-- and the only one
pub splits_are : (l : Limits) (bytes : List ℕ) (ms : List Meaning) (rest : List ℕ) → Splits l bytes ms rest → (requests l bytes ≡ ms) × (rest_of l bytes ≡ rest)
unfolding requests rest_of
splits_are l bytes ms rest s =
    let same = split_is l (length bytes) bytes ms rest (omega arith) s.0 s.1 in
    (ap (λ (p : List Meaning × List ℕ). p.0) same, ap (λ (p : List Meaning × List ℕ). p.1) same)

pub one_split : (l : Limits) (bytes : List ℕ) (ms ns : List Meaning) (a b : List ℕ) → Splits l bytes ms a → Splits l bytes ns b → (ms ≡ ns) × (a ≡ b)
one_split l bytes ms ns a b s t =
    let one = splits_are l bytes ms a s in
    let two = splits_are l bytes ns b t in
    (sym one.0 ∙ two.0, sym one.1 ∙ two.1)

-- what was read of a first piece, and then of its rest and a second one, is what is read of both
pub split_more : (l : Limits) (a b : List ℕ) (ms ns : List Meaning) (held rest : List ℕ) → Splits l a ms held → Splits l (held ++ b) ns rest → Splits l (a ++ b) (ms ++ ns) rest
split_more l a b ms ns held rest s t = (takes_then l (a ++ b) ms ns (held ++ b) rest (takes_more l a b ms held s.0) t.0, t.1)

-- what is read of the rest is what is left of the whole
takes_split : (l : Limits) (bytes : List ℕ) (ms : List Meaning) (rest : List ℕ) → Takes l bytes ms rest → (requests l bytes ≡ ms ++ requests l rest) × (rest_of l bytes ≡ rest_of l rest)
takes_split l bytes ms rest t =
    let s = is_split l rest in
    splits_are l bytes (ms ++ requests l rest) (rest_of l rest) (takes_then l bytes ms (requests l rest) rest (rest_of l rest) t s.0, s.1)

pub takes_requests : (l : Limits) (bytes : List ℕ) (ms : List Meaning) (rest : List ℕ) → Takes l bytes ms rest → requests l bytes ≡ ms ++ requests l rest
takes_requests l bytes ms rest t = (takes_split l bytes ms rest t).0

pub takes_rest : (l : Limits) (bytes : List ℕ) (ms : List Meaning) (rest : List ℕ) → Takes l bytes ms rest → rest_of l bytes ≡ rest_of l rest
takes_rest l bytes ms rest t = (takes_split l bytes ms rest t).1

pub no_requests : (l : Limits) (bytes : List ℕ) → front l bytes ≡ None → requests l bytes ≡ []
no_requests l bytes e = (splits_are l bytes [] bytes (refl, nothing_front l bytes e)).0

pub all_rest : (l : Limits) (bytes : List ℕ) → front l bytes ≡ None → rest_of l bytes ≡ bytes
all_rest l bytes e = (splits_are l bytes [] bytes (refl, nothing_front l bytes e)).1

-- one request, and those behind it
pub requests_step : (l : Limits) (bytes : List ℕ) (n : ℕ) (m : Meaning) → front l bytes ≡ Some (n, m) → requests l bytes ≡ m ∷ requests l (drop n bytes)
requests_step l bytes n m e = takes_requests l bytes (m ∷ []) (drop n bytes) (takes_push l bytes [] bytes n m refl e)

-- the requests of a front are the first ones of the whole
pub requests_more : (l : Limits) (a b : List ℕ) → IsPrefixOf (requests l a) (requests l (a ++ b))
requests_more l a b =
    let held = rest_of l a in
    (requests l (held ++ b), takes_requests l (a ++ b) (requests l a) (held ++ b) (takes_more l a b (requests l a) held (is_split l a).0))

-- as long as none of them ends the connection
pub up_to_end-append : (ms ns : List Meaning) → StaysOpen ms → up_to_end (ms ++ ns) ≡ ms ++ up_to_end ns
up_to_end-append [] ns stays = refl
up_to_end-append (m ∷ ms) ns stays =
    ap (λ (b : Bool). m ∷ cond b [] (up_to_end (ms ++ ns))) stays.0 ∙ ap (λ (x : List Meaning). m ∷ x) (up_to_end-append ms ns stays.1)

-- and behind the one that does
pub up_to_end-end : (ms : List Meaning) (m : Meaning) (ns : List Meaning) → StaysOpen ms → ends_connection m ≡ true → up_to_end (ms ++ m ∷ ns) ≡ ms ++ m ∷ []
up_to_end-end ms m ns stays e =
    up_to_end-append ms (m ∷ ns) stays ∙ ap (λ (b : Bool). ms ++ m ∷ cond b [] (up_to_end ns)) e

pub up_to_end-stays : (ms : List Meaning) → StaysOpen ms → up_to_end ms ≡ ms
up_to_end-stays ms stays = ap up_to_end (sym (append-nil ms)) ∙ up_to_end-append ms [] stays ∙ append-nil ms

pub stays_open-push : (ms : List Meaning) (m : Meaning) → StaysOpen ms → ends_connection m ≡ false → StaysOpen (ms ++ m ∷ [])
stays_open-push [] m stays e = (e, tt)
stays_open-push (x ∷ ms) m stays e = (stays.0, stays_open-push ms m stays.1 e)

-- more requests only add to it
up_to_end-more : (ms ns : List Meaning) → IsPrefixOf (up_to_end ms) (up_to_end (ms ++ ns))
up_to_end-more [] ns = (up_to_end ns, refl)
up_to_end-more (m ∷ ms) ns = by_end (ends_connection m) (up_to_end-more ms ns)
  where
    by_end : (b : Bool) → IsPrefixOf (up_to_end ms) (up_to_end (ms ++ ns)) → IsPrefixOf (m ∷ cond b [] (up_to_end ms)) (m ∷ cond b [] (up_to_end (ms ++ ns)))
    by_end true later = ([], refl)
    by_end false later = (later.0, ap (λ (x : List Meaning). m ∷ x) later.1)

-- and so with its calls
pub own_more : (l : Limits) (a b : List ℕ) → IsPrefixOf (own_calls l a) (own_calls l (a ++ b))
own_more l a b =
    let more = requests_more l a b in
    let own = up_to_end-more (requests l a) more.0 in
    let calls = calls_of l.buckets in
    (flat_map calls own.0, ap (λ x. flat_map calls (up_to_end x)) more.1 ∙ ap (flat_map calls) own.1 ∙ flat_map-append calls (up_to_end (requests l a)) own.0)

-- What calls leave at a key, and what they show of it.
use Rattle.std.proofs.Common.{◌≡◌, ◌≢◌, ℕ, ◌≤◌, ◌⊎◌, inl, inr, Bool, true, false, cond, List, [], ◌∷◌, ◌++◌, length, refl, sym, ap, ◌∙◌, subst, arith, Option, Some, None}
use Rattle.std.specs.Prelude.{◌||◌, ◌==◌, nat_lt, nat_le, max, codes, All, ⊤}
use Rattle.std.specs.Str.{bytes_eq}
use Rattle.std.proofs.lemmas.Bool.Decides.{nat_tests}
use Rattle.std.proofs.lemmas.Slice.Eq.{bytes_eq-Decides}
use Rattle.std.proofs.lemmas.List.{get_or-set_other}
use Rattle.std.proofs.lemmas.List.Elements.{All-head, All-tail}
use Rattle.mc_model.specs.declared.call.Room.{Room}
use Rattle.mc_model.specs.declared.call.Verb.{Verb}
use Rattle.mc_model.specs.declared.call.Verb.TheVariants.{Set, Add, Replace, Append, Prepend, Cas, Get, Gets, Gat, Gats, Touch, Delete, Incr, Decr, Flush, Fixed}
use Rattle.mc_model.specs.declared.outcome.Seen.{Seen}
use Rattle.mc_model.specs.declared.outcome.Change.{Change}
use Rattle.mc_model.specs.declared.outcome.Change.TheVariants.{Keep, Put, Draw, Make, Remove, Clear}
use Rattle.mc_model.specs.Texts.{line}
use Rattle.mc_model.specs.Bucket.{Item, Entries, Bucket, IsBucket, IsMap, lookup, purged, arrived, is_live, live_entries, if_live}
use Rattle.mc_model.specs.Call.{Call, Placed}
use Rattle.mc_model.specs.Items.{item_of_call}
use Rattle.mc_model.specs.Replies.{value_text, end_text}
use Rattle.mc_model.specs.Outcome.{Outcome, outcome_of, adding, comparing, joining, counting}
use Rattle.mc_model.specs.Answer.{answer, bucket_after, items_after, outcome_in, seen_in}
use Rattle.mc_model.specs.Server.{Server, bucket_at, server_answer}
use Rattle.mc_model.specs.Found.{left_by, left_by_all, reply_to, moment_in, found, IsUnexpired, StoresBlock, HasStored, LeavesKey, AtOtherKey, OnlyReads, Asks, own_item, shown, LaterGet, bucket_then, GetsStored}
use Rattle.mc_model.proofs.MapLaws.{lookup-put, lookup-without, lookup-live, map_after, IsMap-live}
use Rattle.mc_model.proofs.PublicBuckets.{same_test, other_test, answer_is_bucket}

if_live_twice : (m : ℕ) (o : Option Item) → if_live m (if_live m o) ≡ if_live m o
if_live_twice m None = refl
if_live_twice m (Some x) = by_test (is_live m x) refl
  where
    by_test : (t : Bool) → is_live m x ≡ t → if_live m (cond t (Some x) None) ≡ cond t (Some x) None
    by_test true e = simp e
    by_test false e = refl

live_test : (e m : ℕ) → IsUnexpired e m → (e == 0 || nat_lt m e) ≡ true
live_test e m (inl z) = simp z
live_test e m (inr lt) = by_test (e == 0)
  where
    small : nat_lt m e ≡ true
    small = grind (arith, nat_tests)

    by_test : (t : Bool) → (t || nat_lt m e) ≡ true
    by_test true = refl
    by_test false = small

if_live_some : (m : ℕ) (x : Item) → IsUnexpired x.expiry m → if_live m (Some x) ≡ Some x
if_live_some m x h = simp (live_test x.expiry m h)

-- the items after a call are those that its change leaves, but for the expired ones
after_change : (room : Room) (b : Bucket) (now : ℕ) (c : Call) (q : List ℕ) → IsBucket b
    → lookup q (left_by room b now c).items ≡ if_live (moment_in now b) (lookup q (items_after c.key (outcome_in room (arrived now b) c).change (arrived now b).items))
unfolding answer
after_change room b now c q h =
    let a : Bucket = arrived now b in
    let d : Change = (outcome_in room a c).change in
    lookup-live a.moment q (items_after c.key d a.items) (map_after c.key d a.items (IsMap-live a.moment b.items h.map))

pub found_is : (now : ℕ) (b : Bucket) (q : List ℕ) → IsBucket b → found now b q ≡ if_live (moment_in now b) (lookup q b.items)
found_is now b q h = lookup-live (moment_in now b) q b.items h.map

live_twice : (m : ℕ) (es : Entries) → live_entries m (live_entries m es) ≡ live_entries m es
live_twice m [] = refl
live_twice m (e ∷ es) = by_test (is_live m e.1) refl (live_twice m es)
  where
    by_test : (t : Bool) → is_live m e.1 ≡ t → live_entries m (live_entries m es) ≡ live_entries m es → live_entries m (cond t (e ∷ live_entries m es) (live_entries m es)) ≡ cond t (e ∷ live_entries m es) (live_entries m es)
    by_test true h more = simp (h, more)
    by_test false h more = more

-- nothing leaves but what has expired
kept_as_arrived : (room : Room) (b : Bucket) (now : ℕ) (c : Call) → (outcome_in room (arrived now b) c).change ≡ Keep → left_by room b now c ≡ arrived now b
unfolding answer
kept_as_arrived room b now c e =
    let a : Bucket = arrived now b in
    ap (λ (d : Change). purged (bucket_after c.key d a)) e
    ∙ ap (λ (es : Entries). record { items = es; moment = a.moment; counter = a.counter }) (live_twice a.moment b.items)

-- a change of another key

abbrev LeavesOthers : Change → Type 0
LeavesOthers Clear = ⊥
LeavesOthers _ = ⊤

others_after : (q key : List ℕ) (d : Change) (es : Entries) → IsMap es → key ≢ q → LeavesOthers d → lookup q (items_after key d es) ≡ lookup q es
others_after q key Keep es m n h = refl
others_after q key (Put x) es m n h = lookup-put q key x es ∙ simp (other_test q key (λ e. n (sym e)))
others_after q key (Draw x) es m n h = lookup-put q key x es ∙ simp (other_test q key (λ e. n (sym e)))
others_after q key (Make x) es m n h = lookup-put q key x es ∙ simp (other_test q key (λ e. n (sym e)))
others_after q key Remove es m n h = lookup-without q key es m ∙ simp (other_test q key (λ e. n (sym e)))
others_after q key Clear es m n h = absurd h

choice : (t : Bool) (p q : Outcome) → LeavesOthers p.change → LeavesOthers q.change → LeavesOthers (cond t p q).change
choice true p q f g = f
choice false p q f g = g

adding_leaves : (s : Seen) (c : Call) → LeavesOthers (adding s c).change
adding_leaves s c = choice (nat_lt s.count s.room.slots) _ _ tt tt

joining_leaves : (s : Seen) (x : Item) (value : List ℕ) → LeavesOthers (joining s x value).change
joining_leaves s x value = choice (nat_le (length value) s.room.value_bytes) _ _ tt tt

counting_leaves : (s : Seen) (x : Item) (o : Option ℕ) → LeavesOthers (counting s x o).change
counting_leaves s x None = tt
counting_leaves s x (Some n) = tt

leaves_others : (s : Seen) (c : Call) (v : Verb) (o : Option Item) → v ≢ Flush → LeavesOthers (outcome_of s c v o).change
leaves_others s c Set None n = adding_leaves s c
leaves_others s c Set (Some x) n = tt
leaves_others s c Add None n = adding_leaves s c
leaves_others s c Add (Some x) n = tt
leaves_others s c Replace None n = tt
leaves_others s c Replace (Some x) n = tt
leaves_others s c Append None n = tt
leaves_others s c Append (Some x) n = joining_leaves s x _
leaves_others s c Prepend None n = tt
leaves_others s c Prepend (Some x) n = joining_leaves s x _
leaves_others s c Cas None n = tt
leaves_others s c Cas (Some x) n = choice (x.unique == c.unique) _ _ tt tt
leaves_others s c Get None n = tt
leaves_others s c Get (Some x) n = tt
leaves_others s c Gets None n = tt
leaves_others s c Gets (Some x) n = tt
leaves_others s c Gat None n = tt
leaves_others s c Gat (Some x) n = tt
leaves_others s c Gats None n = tt
leaves_others s c Gats (Some x) n = tt
leaves_others s c Touch None n = tt
leaves_others s c Touch (Some x) n = tt
leaves_others s c Delete None n = tt
leaves_others s c Delete (Some x) n = tt
leaves_others s c Incr None n = tt
leaves_others s c Incr (Some x) n = counting_leaves s x _
leaves_others s c Decr None n = tt
leaves_others s c Decr (Some x) n = counting_leaves s x _
leaves_others s c Flush o n = absurd (n refl)
leaves_others s c Fixed None n = tt
leaves_others s c Fixed (Some x) n = tt

reading_keeps : (s : Seen) (c : Call) (v : Verb) (o : Option Item) → (v ≡ Get) ⊎ (v ≡ Gets) → (outcome_of s c v o).change ≡ Keep
reading_keeps s c v None (inl e) = ap (λ (w : Verb). (outcome_of s c w None).change) e
reading_keeps s c v (Some x) (inl e) = ap (λ (w : Verb). (outcome_of s c w (Some x)).change) e
reading_keeps s c v None (inr e) = ap (λ (w : Verb). (outcome_of s c w None).change) e
reading_keeps s c v (Some x) (inr e) = ap (λ (w : Verb). (outcome_of s c w (Some x)).change) e

key_after : (room : Room) (a : Bucket) (c : Call) (q : List ℕ) → IsBucket a → LeavesKey q c → lookup q (items_after c.key (outcome_in room a c).change a.items) ≡ lookup q a.items
key_after room a c q h (AtOtherKey n f) = others_after q c.key (outcome_in room a c).change a.items h.map n (leaves_others (seen_in room a) c c.verb (lookup c.key a.items) f)
key_after room a c q h (OnlyReads r) = ap (λ (d : Change). lookup q (items_after c.key d a.items)) (reading_keeps (seen_in room a) c c.verb (lookup c.key a.items) r)

pub key_stays : (room : Room) (b : Bucket) (now : ℕ) (c : Call) (key : List ℕ) → IsBucket b → LeavesKey key c → lookup key (left_by room b now c).items ≡ if_live (moment_in now b) (lookup key b.items)
key_stays room b now c key h l =
    after_change room b now c key h
    ∙ ap (if_live (moment_in now b)) (key_after room (arrived now b) c key (record { map = IsMap-live (moment_in now b) b.items h.map }) l ∙ found_is now b key h)
    ∙ if_live_twice (moment_in now b) (lookup key b.items)

pub reading_stays : (room : Room) (b : Bucket) (now : ℕ) (c : Call) → (c.verb ≡ Get) ⊎ (c.verb ≡ Gets) → left_by room b now c ≡ arrived now b
reading_stays room b now c r = kept_as_arrived room b now c (reading_keeps (seen_in room (arrived now b)) c c.verb (found now b c.key) r)

pub other_bucket_stays : (s : Server) (now : ℕ) (p : Placed) (other : ℕ) → other ≢ p.bucket → bucket_at (server_answer s now p).0 other ≡ bucket_at s other
other_bucket_stays s now p other n = get_or-set_other s.buckets p.bucket other _ _ n

pub moment_is : (room : Room) (b : Bucket) (now : ℕ) (c : Call) → (left_by room b now c).moment ≡ max 1 (max b.moment now)
unfolding answer
moment_is room b now c = refl

-- a block that is stored

clash : {A : Type 0} (a b : List ℕ) → a ≡ b → bytes_eq a b ≡ false → A
clash a b e n = absurd (let t : bytes_eq a b ≡ true = (bytes_eq-Decides a b).1 e in cc)

has_item : (key : List ℕ) (x : Item) (es : Entries) (d : Change) → (d ≡ Make x) ⊎ (d ≡ Draw x) → lookup key (items_after key d es) ≡ Some x
has_item key x es d (inl e) = ap (λ (w : Change). lookup key (items_after key w es)) e ∙ lookup-put key key x es ∙ simp (same_test key)
has_item key x es d (inr e) = ap (λ (w : Change). lookup key (items_after key w es)) e ∙ lookup-put key key x es ∙ simp (same_test key)

abbrev Stored : Seen → Call → Outcome → Type 0
Stored s c o = o.reply ≡ line (codes "STORED") → (o.change ≡ Make (item_of_call s c)) ⊎ (o.change ≡ Draw (item_of_call s c))

adding_stores : (s : Seen) (c : Call) → Stored s c (adding s c)
adding_stores s c = by_test (nat_lt s.count s.room.slots)
  where
    by_test : (t : Bool) → Stored s c (cond t (record { change = Make (item_of_call s c); reply = line (codes "STORED") }) (record { change = Keep; reply = line (codes "SERVER_ERROR out of memory storing object") }))
    by_test true e = inl refl
    by_test false e = clash _ _ e refl

comparing_stores : (s : Seen) (c : Call) (x : Item) → Stored s c (comparing s c x)
comparing_stores s c x = by_test (x.unique == c.unique)
  where
    by_test : (t : Bool) → Stored s c (cond t (record { change = Draw (item_of_call s c); reply = line (codes "STORED") }) (record { change = Keep; reply = line (codes "EXISTS") }))
    by_test true e = inr refl
    by_test false e = clash _ _ e refl

block_is_stored : (s : Seen) (c : Call) (v : Verb) (o : Option Item) → StoresBlock v → Stored s c (outcome_of s c v o)
block_is_stored s c Set None h = adding_stores s c
block_is_stored s c Set (Some x) h = λ e. inr refl
block_is_stored s c Add None h = adding_stores s c
block_is_stored s c Add (Some x) h = λ e. clash _ _ e refl
block_is_stored s c Replace None h = λ e. clash _ _ e refl
block_is_stored s c Replace (Some x) h = λ e. inr refl
block_is_stored s c Cas None h = λ e. clash _ _ e refl
block_is_stored s c Cas (Some x) h = comparing_stores s c x
block_is_stored s c _ o h = absurd h

loud : (silent : Bool) (reply text : List ℕ) (x : ℕ) → cond silent [] reply ≡ x ∷ text → reply ≡ x ∷ text
loud true reply text x e = cc
loud false reply text x e = e

pub stored_item : (room : Room) (b : Bucket) (now : ℕ) (c : Call) → IsBucket b → HasStored room b now c
    → lookup c.key (left_by room b now c).items ≡ if_live (moment_in now b) (Some (own_item room b now c))
unfolding answer
stored_item room b now c h s =
    let a : Bucket = arrived now b in
    let o : Outcome = outcome_in room a c in
    after_change room b now c c.key h
    ∙ ap (if_live a.moment) (has_item c.key (item_of_call (seen_in room a) c) a.items o.change
    (block_is_stored (seen_in room a) c c.verb (lookup c.key a.items) s.verb (loud c.noreply o.reply _ _ s.reply)))

-- calls that leave the key

moment_grows : (room : Room) (b : Bucket) (cs : List (ℕ × Call)) (later : ℕ) → b.moment ≤ moment_in later (left_by_all room b cs)
unfolding answer
moment_grows room b [] later = omega arith
moment_grows room b (c ∷ cs) later = omega (arith, moment_grows room (left_by room b c.0 c.1) cs later)

sooner : (e m n : ℕ) → m ≤ n → IsUnexpired e n → IsUnexpired e m
sooner e m n le (inl z) = inl z
sooner e m n le (inr lt) = inr (omega arith)

still_there : (room : Room) (b : Bucket) (cs : List (ℕ × Call)) (later : ℕ) (key : List ℕ) (x : Item) → IsBucket b → All (λ o. LeavesKey key o.1) cs
    → lookup key b.items ≡ Some x → IsUnexpired x.expiry (moment_in later (left_by_all room b cs)) → found later (left_by_all room b cs) key ≡ Some x
still_there room b [] later key x h l e u = found_is later b key h ∙ ap (if_live (moment_in later b)) e ∙ if_live_some (moment_in later b) x u
still_there room b (c ∷ cs) later key x h l e u =
    let next : Bucket = left_by room b c.0 c.1 in
    let grows : next.moment ≤ moment_in later (left_by_all room next cs) = moment_grows room next cs later in
    let soon : IsUnexpired x.expiry (moment_in c.0 b) = sooner x.expiry (moment_in c.0 b) (moment_in later (left_by_all room next cs)) (subst (λ m. m ≤ moment_in later (left_by_all room next cs)) (moment_is room b c.0 c.1) grows) u in
    still_there room next cs later key x (answer_is_bucket room b c.0 c.1 h) (All-tail (λ o. LeavesKey key o.1) c cs l)
    (key_stays room b c.0 c.1 key h (All-head (λ o. LeavesKey key o.1) c cs l) ∙ ap (if_live (moment_in c.0 b)) e ∙ if_live_some (moment_in c.0 b) x soon) u

get_reply : (room : Room) (b : Bucket) (now : ℕ) (c : Call) (x : Item) → Asks Get c → found now b c.key ≡ Some x → reply_to room b now c ≡ value_text false c.key x ++ end_text c.last
unfolding answer
get_reply room b now c x is e = simp (is.verb, is.reply, e)

pub gets_reply : (room : Room) (b : Bucket) (now : ℕ) (c : Call) (x : Item) → Asks Gets c → found now b c.key ≡ Some x → reply_to room b now c ≡ value_text true c.key x ++ end_text c.last
unfolding answer
gets_reply room b now c x is e = simp (is.verb, is.reply, e)

pub later_get_shows : (s : LaterGet) → GetsStored s → reply_to s.room (bucket_then s) s.later s.get ≡ shown s.call.key s.call.flags s.call.block s.get.last
later_get_shows s h =
    let next : Bucket = left_by s.room s.bucket s.now s.call in
    let x : Item = own_item s.room s.bucket s.now s.call in
    let m : ℕ = moment_in s.later (bucket_then s) in
    let grows : next.moment ≤ m = moment_grows s.room next s.others s.later in
    let soon : IsUnexpired x.expiry (moment_in s.now s.bucket) = sooner x.expiry (moment_in s.now s.bucket) m (subst (λ n. n ≤ m) (moment_is s.room s.bucket s.now s.call) grows) h.unexpired in
    let there : lookup s.call.key next.items ≡ Some x = stored_item s.room s.bucket s.now s.call h.bucket h.stored ∙ if_live_some (moment_in s.now s.bucket) x soon in
    let still : found s.later (bucket_then s) s.call.key ≡ Some x = still_there s.room next s.others s.later s.call.key x (answer_is_bucket s.room s.bucket s.now s.call h.bucket) h.left there h.unexpired in
    let here : found s.later (bucket_then s) s.get.key ≡ Some x = ap (found s.later (bucket_then s)) h.key ∙ still in
    get_reply s.room (bucket_then s) s.later s.get x h.asks here ∙ ap (λ (k : List ℕ). value_text false k x ++ end_text s.get.last) h.key

-- cas

both_are : {A B : Type 0} (p : A × B) (a : A) (b : B) → p.0 ≡ a → p.1 ≡ b → p ≡ (a, b)
both_are {A} {B} p a b e f = ap (λ (x : A). let q : A × B = (x, p.1) in q) e ∙ ap (λ (y : B). let q : A × B = (a, y) in q) f

pub cas_of_absent : (room : Room) (b : Bucket) (now : ℕ) (c : Call) → Asks Cas c → found now b c.key ≡ None → answer room b now c ≡ (arrived now b, line (codes "NOT_FOUND"))
unfolding answer
cas_of_absent room b now c is e =
    both_are (answer room b now c) (arrived now b) (line (codes "NOT_FOUND")) (kept_as_arrived room b now c (simp (is.verb, e))) (simp (is.verb, is.reply, e))

same_number : (m n : ℕ) → m ≡ n → (m == n) ≡ true
same_number m n e = grind (arith, nat_tests)

other_number : (m n : ℕ) → m ≢ n → (m == n) ≡ false
other_number m n e = grind (arith, nat_tests)

pub cas_stores : (room : Room) (b : Bucket) (now : ℕ) (c : Call) (x : Item) → Asks Cas c → found now b c.key ≡ Some x → x.unique ≡ c.unique → reply_to room b now c ≡ line (codes "STORED")
unfolding answer
cas_stores room b now c x is e u = simp (is.verb, is.reply, e, same_number x.unique c.unique u)

pub cas_refuses : (room : Room) (b : Bucket) (now : ℕ) (c : Call) (x : Item) → Asks Cas c → found now b c.key ≡ Some x → x.unique ≢ c.unique → answer room b now c ≡ (arrived now b, line (codes "EXISTS"))
unfolding answer
cas_refuses room b now c x is e u =
    let other : (x.unique == c.unique) ≡ false = other_number x.unique c.unique u in
    both_are (answer room b now c) (arrived now b) (line (codes "EXISTS")) (kept_as_arrived room b now c (simp (is.verb, e, other))) (simp (is.verb, is.reply, e, other))

-- noreply

quiet : (s : Seen) (c : Call) (v : Verb) (o : Option Item) (one two : Bool) → outcome_of s (record c { noreply = one }) v o ≡ outcome_of s (record c { noreply = two }) v o
quiet s c Set None one two = refl
quiet s c Set (Some x) one two = refl
quiet s c Add None one two = refl
quiet s c Add (Some x) one two = refl
quiet s c Replace None one two = refl
quiet s c Replace (Some x) one two = refl
quiet s c Append None one two = refl
quiet s c Append (Some x) one two = refl
quiet s c Prepend None one two = refl
quiet s c Prepend (Some x) one two = refl
quiet s c Cas None one two = refl
quiet s c Cas (Some x) one two = refl
quiet s c Get None one two = refl
quiet s c Get (Some x) one two = refl
quiet s c Gets None one two = refl
quiet s c Gets (Some x) one two = refl
quiet s c Gat None one two = refl
quiet s c Gat (Some x) one two = refl
quiet s c Gats None one two = refl
quiet s c Gats (Some x) one two = refl
quiet s c Touch None one two = refl
quiet s c Touch (Some x) one two = refl
quiet s c Delete None one two = refl
quiet s c Delete (Some x) one two = refl
quiet s c Incr None one two = refl
quiet s c Incr (Some x) one two = refl
quiet s c Decr None one two = refl
quiet s c Decr (Some x) one two = refl
quiet s c Flush None one two = refl
quiet s c Flush (Some x) one two = refl
quiet s c Fixed None one two = refl
quiet s c Fixed (Some x) one two = refl

pub noreply_is_quiet : (room : Room) (b : Bucket) (now : ℕ) (c : Call) → answer room b now (record c { noreply = true }) ≡ (left_by room b now (record c { noreply = false }), [])
unfolding answer
noreply_is_quiet room b now c =
    let a : Bucket = arrived now b in
    ap (λ (o : Outcome). (purged (bucket_after c.key o.change a), [])) (quiet (seen_in room a) c c.verb (lookup c.key a.items) true false)

-- An answer leaves a bucket within its room.
use Rattle.std.proofs.Common.{◌≡◌, ℕ, suc, ◌+◌, ◌-◌, ◌%◌, ◌^◌, ◌<◌, ◌≤◌, Bool, true, false, cond, List, [], ◌∷◌, ◌++◌, length, refl, arith, Option, Some, None}
use Rattle.std.specs.Prelude.{All, filter, is_some, nat_lt, nat_le, ◌==◌, IfSome}
use Rattle.std.specs.Option.{option_map}
use Rattle.std.specs.Str.{bytes_eq}
use Rattle.std.proofs.lemmas.Bool.{ltb-true, leb-true}
use Rattle.std.proofs.lemmas.Fmt.{length-decimal-le}
use Rattle.std.proofs.lemmas.List.Elements.{All-nil, All-cons, All-head, All-tail, All-filter}
use Rattle.mc_model.specs.declared.geometry.Geometry.{Geometry}
use Rattle.mc_model.specs.declared.call.Room.{Room}
use Rattle.mc_model.specs.declared.call.Verb.{Verb}
use Rattle.mc_model.specs.declared.call.Verb.TheVariants.{Set, Add, Replace, Append, Prepend, Cas, Get, Gets, Gat, Gats, Touch, Delete, Incr, Decr, Flush, Fixed}
use Rattle.mc_model.specs.declared.outcome.Seen.{Seen}
use Rattle.mc_model.specs.declared.outcome.Change.{Change}
use Rattle.mc_model.specs.declared.outcome.Change.TheVariants.{Keep, Put, Draw, Make, Remove, Clear}
use Rattle.mc_model.specs.Numbers.{number_upto, counter_value}
use Rattle.mc_model.specs.Bucket.{Item, Entries, Bucket, empty_bucket, lookup, put, without, arrived, is_live}
use Rattle.mc_model.specs.Call.{Call}
use Rattle.mc_model.specs.Outcome.{Outcome, outcome_of, adding, comparing, joining, counting}
use Rattle.mc_model.specs.Answer.{answer, items_after, outcome_in, seen_in}
use Rattle.mc_model.specs.Server.{IsValid, room_of}
use Rattle.mc_model.specs.Within.{IsWithin}
use Rattle.mc_model.proofs.NumberLaws.{number_within}
use Rattle.mc_model.proofs.MapLaws.{length-put, length-without, answer_map}

-- the number of a counter fits a word
abbrev IsWord : Option ℕ → Type 0
IsWord o = IfSome o (λ n. n < 2 ^ 64)

number_word : (bs : List ℕ) → IsWord (number_upto (2 ^ 64 - 1) bs)
number_word bs = by_value (number_upto (2 ^ 64 - 1) bs) (number_within (2 ^ 64 - 1) bs)
  where
    by_value : (o : Option ℕ) → ((n : ℕ) → o ≡ Some n → n ≤ 2 ^ 64 - 1) → IsWord o
    by_value None h = tt
    by_value (Some n) h = omega (arith, h n refl)

counter_word : (v : List ℕ) → IsWord (counter_value v)
counter_word v = by_test (nat_le (length v) 20)
  where
    by_test : (t : Bool) → IsWord (cond t (number_upto (2 ^ 64 - 1) v) None)
    by_test true = number_word v
    by_test false = tt

sum_word : (by : ℕ) (o : Option ℕ) → IsWord (option_map (λ n. (n + by) % 2 ^ 64) o)
sum_word by None = tt
sum_word by (Some n) = omega arith

difference_word : (by : ℕ) (o : Option ℕ) → IsWord o → IsWord (option_map (λ n. n - by) o)
difference_word by None h = tt
difference_word by (Some n) h = omega (arith, h)

-- a change of a bucket, where this is the item at the key, that keeps the room
abbrev Suits : Seen → Option Item → Change → Type 0
Suits s o Keep = Unit {0}
Suits s o (Put x) = (is_some o ≡ true) × (length x.value ≤ s.room.value_bytes)
Suits s o (Draw x) = (is_some o ≡ true) × (length x.value ≤ s.room.value_bytes)
Suits s o (Make x) = (s.count < s.room.slots) × (length x.value ≤ s.room.value_bytes)
Suits s o Remove = Unit {0}
Suits s o Clear = Unit {0}

choice_suits : (s : Seen) (o : Option Item) (t : Bool) (p q : Outcome) → (t ≡ true → Suits s o p.change) → Suits s o q.change → Suits s o (cond t p q).change
choice_suits s o true p q f g = f refl
choice_suits s o false p q f g = g

adding_suits : (s : Seen) (c : Call) → length c.block ≤ s.room.value_bytes → Suits s None (adding s c).change
adding_suits s c h = choice_suits s None (nat_lt s.count s.room.slots) _ _ (λ e. (ltb-true _ _ e, h)) tt

comparing_suits : (s : Seen) (c : Call) (x : Item) → length c.block ≤ s.room.value_bytes → Suits s (Some x) (comparing s c x).change
comparing_suits s c x h = choice_suits s (Some x) (x.unique == c.unique) _ _ (λ e. (refl, h)) tt

joining_suits : (s : Seen) (x : Item) (value : List ℕ) → Suits s (Some x) (joining s x value).change
joining_suits s x value = choice_suits s (Some x) (nat_le (length value) s.room.value_bytes) _ _ (λ e. (refl, leb-true _ _ e)) tt

counting_suits : (s : Seen) (x : Item) (o : Option ℕ) → 20 ≤ s.room.value_bytes → IsWord o → Suits s (Some x) (counting s x o).change
counting_suits s x None l h = tt
counting_suits s x (Some n) l h = (refl, omega (arith, length-decimal-le 20 n (omega arith) (omega (arith, h)) h))

outcome_suits : (s : Seen) (c : Call) (v : Verb) (o : Option Item) → 20 ≤ s.room.value_bytes → length c.block ≤ s.room.value_bytes
    → IfSome o (λ x. length x.value ≤ s.room.value_bytes) → Suits s o (outcome_of s c v o).change
outcome_suits s c Set None l b h = adding_suits s c b
outcome_suits s c Set (Some x) l b h = (refl, b)
outcome_suits s c Add None l b h = adding_suits s c b
outcome_suits s c Add (Some x) l b h = tt
outcome_suits s c Replace None l b h = tt
outcome_suits s c Replace (Some x) l b h = (refl, b)
outcome_suits s c Append None l b h = tt
outcome_suits s c Append (Some x) l b h = joining_suits s x (x.value ++ c.block)
outcome_suits s c Prepend None l b h = tt
outcome_suits s c Prepend (Some x) l b h = joining_suits s x (c.block ++ x.value)
outcome_suits s c Cas None l b h = tt
outcome_suits s c Cas (Some x) l b h = comparing_suits s c x b
outcome_suits s c Get None l b h = tt
outcome_suits s c Get (Some x) l b h = tt
outcome_suits s c Gets None l b h = tt
outcome_suits s c Gets (Some x) l b h = tt
outcome_suits s c Gat None l b h = tt
outcome_suits s c Gat (Some x) l b h = (refl, h)
outcome_suits s c Gats None l b h = tt
outcome_suits s c Gats (Some x) l b h = (refl, h)
outcome_suits s c Touch None l b h = tt
outcome_suits s c Touch (Some x) l b h = (refl, h)
outcome_suits s c Delete None l b h = tt
outcome_suits s c Delete (Some x) l b h = tt
outcome_suits s c Incr None l b h = tt
outcome_suits s c Incr (Some x) l b h = counting_suits s x _ l (sum_word c.value (counter_value x.value))
outcome_suits s c Decr None l b h = tt
outcome_suits s c Decr (Some x) l b h = counting_suits s x _ l (difference_word c.value (counter_value x.value) (counter_word x.value))
outcome_suits s c Flush None l b h = tt
outcome_suits s c Flush (Some x) l b h = tt
outcome_suits s c Fixed None l b h = tt
outcome_suits s c Fixed (Some x) l b h = tt

-- each value is at most so long
abbrev IsShort : ℕ → List ℕ × Item → Type 0
IsShort limit e = length e.1.value ≤ limit

short-lookup : (limit : ℕ) (key : List ℕ) (es : Entries) → All (IsShort limit) es → IfSome (lookup key es) (λ x. length x.value ≤ limit)
short-lookup limit key [] h = tt
short-lookup limit key (e ∷ es) h = by_test (bytes_eq key e.0) (short-lookup limit key es (All-tail (IsShort limit) e es h))
  where
    by_test : (t : Bool) → IfSome (lookup key es) (λ x. length x.value ≤ limit) → IfSome (cond t (Some e.1) (lookup key es)) (λ x. length x.value ≤ limit)
    by_test true more = All-head (IsShort limit) e es h
    by_test false more = more

short-put : (limit : ℕ) (key : List ℕ) (x : Item) (es : Entries) → length x.value ≤ limit → All (IsShort limit) es → All (IsShort limit) (put key x es)
short-put limit key x [] p h = All-cons (IsShort limit) (key, x) [] p h
short-put limit key x (e ∷ es) p h = by_test (bytes_eq key e.0) (short-put limit key x es p (All-tail (IsShort limit) e es h))
  where
    by_test : (t : Bool) → All (IsShort limit) (put key x es) → All (IsShort limit) (cond t ((key, x) ∷ es) (e ∷ put key x es))
    by_test true more = All-cons (IsShort limit) (key, x) es p (All-tail (IsShort limit) e es h)
    by_test false more = All-cons (IsShort limit) e (put key x es) (All-head (IsShort limit) e es h) more

short-without : (limit : ℕ) (key : List ℕ) (es : Entries) → All (IsShort limit) es → All (IsShort limit) (without key es)
short-without limit key [] h = h
short-without limit key (e ∷ es) h = by_test (bytes_eq key e.0) (short-without limit key es (All-tail (IsShort limit) e es h))
  where
    by_test : (t : Bool) → All (IsShort limit) (without key es) → All (IsShort limit) (cond t es (e ∷ without key es))
    by_test true more = All-tail (IsShort limit) e es h
    by_test false more = All-cons (IsShort limit) e (without key es) (All-head (IsShort limit) e es h) more

few_filter : {X : Type 0} (p : X → Bool) (xs : List X) → length (filter p xs) ≤ length xs
few_filter p [] = omega arith
few_filter p (x ∷ xs) = by_test (p x) (few_filter p xs)
  where
    by_test : (t : Bool) → length (filter p xs) ≤ length xs → length (cond t (x ∷ filter p xs) (filter p xs)) ≤ suc (length xs)
    by_test true h = omega arith
    by_test false h = omega arith

few_after : (s : Seen) (key : List ℕ) (d : Change) (es : Entries) → s.count ≡ length es → length es ≤ s.room.slots → Suits s (lookup key es) d → length (items_after key d es) ≤ s.room.slots
few_after s key Keep es n h f = h
few_after s key (Put x) es n h f = rw (length-put, f.0) h
few_after s key (Draw x) es n h f = rw (length-put, f.0) h
few_after s key (Make x) es n h f = rw length-put (by_test (is_some (lookup key es)))
  where
    by_test : (t : Bool) → cond t (length es) (length es + 1) ≤ s.room.slots
    by_test true = h
    by_test false = omega (arith, f.0)
few_after s key Remove es n h f = omega (arith, few_without es)
  where
    few_without : (es : Entries) → length (without key es) ≤ length es
    few_without es = omega (arith, length-without key es)
few_after s key Clear es n h f = omega arith

short_after : (s : Seen) (o : Option Item) (key : List ℕ) (d : Change) (es : Entries) → All (IsShort s.room.value_bytes) es → Suits s o d → All (IsShort s.room.value_bytes) (items_after key d es)
short_after s o key Keep es h f = h
short_after s o key (Put x) es h f = short-put s.room.value_bytes key x es f.1 h
short_after s o key (Draw x) es h f = short-put s.room.value_bytes key x es f.1 h
short_after s o key (Make x) es h f = short-put s.room.value_bytes key x es f.1 h
short_after s o key Remove es h f = short-without s.room.value_bytes key es h
short_after s o key Clear es h f = All-nil (IsShort s.room.value_bytes)

pub empty_within : (room : Room) → IsWithin room empty_bucket
empty_within room = record { map = tt; few = omega arith; short = All-nil (IsShort room.value_bytes) }

pub answer_within : (g : Geometry) (b : Bucket) (now : ℕ) (c : Call) → IsValid g → IsWithin (room_of g) b → length c.block ≤ (room_of g).value_bytes → IsWithin (room_of g) (answer (room_of g) b now c).0
unfolding answer
answer_within g b now c v w k =
    let room = room_of g in
    let a = arrived now b in
    let s = seen_in room a in
    let live = λ (e : List ℕ × Item). is_live a.moment e.1 in
    let d = (outcome_in room a c).change in
    let few : length a.items ≤ room.slots = omega (arith, few_filter live b.items, w.few) in
    let short : All (IsShort room.value_bytes) a.items = All-filter live (IsShort room.value_bytes) b.items w.short in
    let suits : Suits s (lookup c.key a.items) d = outcome_suits s c c.verb (lookup c.key a.items) (omega (arith, v.some_words)) k (short-lookup room.value_bytes c.key a.items short) in
    record {
      map = answer_map room b now c w.map;
      few = omega (arith, few_after s c.key d a.items refl few suits, few_filter live (items_after c.key d a.items));
      short = All-filter live (IsShort room.value_bytes) (items_after c.key d a.items) (short_after s (lookup c.key a.items) c.key d a.items short suits);
    }

-- An answer leaves a bucket whose numbers are of 64 bits.
use Rattle.std.proofs.Common.{ℕ, ◌+◌, ◌-◌, ◌^◌, ◌<◌, Bool, true, false, cond, List, [], ◌∷◌, length, arith, max, min, Option, Some, None}
use Rattle.std.specs.Prelude.{All, IfSome, nat_lt, nat_le, ◌==◌}
use Rattle.std.specs.Str.{bytes_eq}
use Rattle.std.proofs.lemmas.List.Elements.{All-nil, All-cons, All-head, All-tail, All-filter}
use Rattle.mc_model.specs.declared.call.Room.{Room}
use Rattle.mc_model.specs.declared.call.Verb.{Verb}
use Rattle.mc_model.specs.declared.call.Verb.TheVariants.{Set, Add, Replace, Append, Prepend, Cas, Get, Gets, Gat, Gats, Touch, Delete, Incr, Decr, Flush, Fixed}
use Rattle.mc_model.specs.declared.outcome.Seen.{Seen}
use Rattle.mc_model.specs.declared.outcome.Change.{Change}
use Rattle.mc_model.specs.declared.outcome.Change.TheVariants.{Keep, Put, Draw, Make, Remove, Clear}
use Rattle.mc_model.specs.Answer.{answer, items_after, counter_after, bucket_after, outcome_in, seen_in}
use Rattle.mc_model.specs.Bucket.{Item, Entries, Bucket, lookup, put, without, purged, arrived, is_live}
use Rattle.mc_model.specs.Call.{Call}
use Rattle.mc_model.specs.Items.{thirty_days, expiry_of, item_of_call, item_with_value, item_with_expiry}
use Rattle.mc_model.specs.Outcome.{Outcome, outcome_of, adding, comparing, joining, counting}
use Rattle.tab_find.specs.Answers.{HasNumbersOf64, IsBounded}
use Rattle.tab_find.proofs.PublicFinding.{numbered_lookup}

-- the numbers of an entry's item
abbrev HasNumbers : List ℕ × Item → Type 0
HasNumbers e = HasNumbersOf64 e.1

-- The entries behind each change.

numbered_put : (key : List ℕ) (x : Item) (es : Entries) → HasNumbersOf64 x → All HasNumbers es → All HasNumbers (put key x es)
numbered_put key x [] p h = All-cons HasNumbers (key, x) [] p h
numbered_put key x (e ∷ es) p h = by_test (bytes_eq key e.0) (numbered_put key x es p (All-tail HasNumbers e es h))
  where
    by_test : (t : Bool) → All HasNumbers (put key x es) → All HasNumbers (cond t ((key, x) ∷ es) (e ∷ put key x es))
    by_test true more = All-cons HasNumbers (key, x) es p (All-tail HasNumbers e es h)
    by_test false more = All-cons HasNumbers e (put key x es) (All-head HasNumbers e es h) more

numbered_without : (key : List ℕ) (es : Entries) → All HasNumbers es → All HasNumbers (without key es)
numbered_without key [] h = h
numbered_without key (e ∷ es) h = by_test (bytes_eq key e.0) (numbered_without key es (All-tail HasNumbers e es h))
  where
    by_test : (t : Bool) → All HasNumbers (without key es) → All HasNumbers (cond t es (e ∷ without key es))
    by_test true more = All-tail HasNumbers e es h
    by_test false more = All-cons HasNumbers e (without key es) (All-head HasNumbers e es h) more

-- The items that calls make.

expiry_small : (m : ℕ) (n : Bool) (x : ℕ) → x < 2 ^ 64 → expiry_of m n x < 2 ^ 64
expiry_small m n x lt = by_test (x == 0) n (nat_le x thirty_days)
  where
    by_test : (z n l : Bool) → cond z 0 (cond n 1 (cond l (min (m + x) (2 ^ 64 - 1)) x)) < 2 ^ 64
    by_test true n l = omega arith
    by_test false true l = omega arith
    by_test false false true = omega arith
    by_test false false false = omega (arith, lt)

call_numbered : (s : Seen) (c : Call) → c.flags < 2 ^ 64 → c.exptime < 2 ^ 64 → HasNumbersOf64 (item_of_call s c)
call_numbered s c f x = record { flags = f; expiry = expiry_small s.moment c.negative c.exptime x; unique = omega arith }

value_numbered : (s : Seen) (x : Item) (value : List ℕ) → HasNumbersOf64 x → HasNumbersOf64 (item_with_value s x value)
value_numbered s x value h = record { flags = h.flags; expiry = h.expiry; unique = omega arith }

expiry_numbered : (s : Seen) (c : Call) (x : Item) → c.exptime < 2 ^ 64 → HasNumbersOf64 x → HasNumbersOf64 (item_with_expiry s c x)
expiry_numbered s c x e h = record { flags = h.flags; expiry = expiry_small s.moment c.negative c.exptime e; unique = h.unique }

-- The changes.

abbrev Suits : Change → Type 0
Suits Keep = Unit {0}
Suits (Put x) = HasNumbersOf64 x
Suits (Draw x) = HasNumbersOf64 x
Suits (Make x) = HasNumbersOf64 x
Suits Remove = Unit {0}
Suits Clear = Unit {0}

choice_suits : (t : Bool) (p q : Outcome) → Suits p.change → Suits q.change → Suits (cond t p q).change
choice_suits true p q f g = f
choice_suits false p q f g = g

counting_suits : (s : Seen) (x : Item) (o : Option ℕ) → HasNumbersOf64 x → Suits (counting s x o).change
counting_suits s x None h = tt
counting_suits s x (Some n) h = value_numbered s x _ h

module _ (s : Seen) (c : Call) (flags : c.flags < 2 ^ 64) (exptime : c.exptime < 2 ^ 64) where
  stored : HasNumbersOf64 (item_of_call s c)
  stored = call_numbered s c flags exptime

  adding_suits : Suits (adding s c).change
  adding_suits = choice_suits (nat_lt s.count s.room.slots) _ _ stored tt

  comparing_suits : (x : Item) → Suits (comparing s c x).change
  comparing_suits x = choice_suits (x.unique == c.unique) _ _ stored tt

  joining_suits : (x : Item) (value : List ℕ) → HasNumbersOf64 x → Suits (joining s x value).change
  joining_suits x value h = choice_suits (nat_le (length value) s.room.value_bytes) _ _ (value_numbered s x value h) tt

  touched : (x : Item) → HasNumbersOf64 x → HasNumbersOf64 (item_with_expiry s c x)
  touched x h = expiry_numbered s c x exptime h

  outcome_suits : (v : Verb) (o : Option Item) → IfSome o HasNumbersOf64 → Suits (outcome_of s c v o).change
  outcome_suits Set None h = adding_suits
  outcome_suits Set (Some x) h = stored
  outcome_suits Add None h = adding_suits
  outcome_suits Add (Some x) h = tt
  outcome_suits Replace None h = tt
  outcome_suits Replace (Some x) h = stored
  outcome_suits Append None h = tt
  outcome_suits Append (Some x) h = joining_suits x _ h
  outcome_suits Prepend None h = tt
  outcome_suits Prepend (Some x) h = joining_suits x _ h
  outcome_suits Cas None h = tt
  outcome_suits Cas (Some x) h = comparing_suits x
  outcome_suits Get None h = tt
  outcome_suits Get (Some x) h = tt
  outcome_suits Gets None h = tt
  outcome_suits Gets (Some x) h = tt
  outcome_suits Gat None h = tt
  outcome_suits Gat (Some x) h = touched x h
  outcome_suits Gats None h = tt
  outcome_suits Gats (Some x) h = touched x h
  outcome_suits Touch None h = tt
  outcome_suits Touch (Some x) h = touched x h
  outcome_suits Delete None h = tt
  outcome_suits Delete (Some x) h = tt
  outcome_suits Incr None h = tt
  outcome_suits Incr (Some x) h = counting_suits s x _ h
  outcome_suits Decr None h = tt
  outcome_suits Decr (Some x) h = counting_suits s x _ h
  outcome_suits Flush None h = tt
  outcome_suits Flush (Some x) h = tt
  outcome_suits Fixed None h = tt
  outcome_suits Fixed (Some x) h = tt

items_numbered : (key : List ℕ) (d : Change) (es : Entries) → Suits d → All HasNumbers es → All HasNumbers (items_after key d es)
items_numbered key Keep es f h = h
items_numbered key (Put x) es f h = numbered_put key x es f h
items_numbered key (Draw x) es f h = numbered_put key x es f h
items_numbered key (Make x) es f h = numbered_put key x es f h
items_numbered key Remove es f h = numbered_without key es h
items_numbered key Clear es f h = All-nil HasNumbers

counter_small : (d : Change) (n : ℕ) → Suits d → n < 2 ^ 64 → counter_after d n < 2 ^ 64
counter_small Keep n f h = h
counter_small (Put x) n f h = h
counter_small (Draw x) n f h = f.unique
counter_small (Make x) n f h = f.unique
counter_small Remove n f h = h
counter_small Clear n f h = h

-- The bucket.

pub purged_bounded : (b : Bucket) → IsBounded b → IsBounded (purged b)
purged_bounded b h = record { moment = h.moment; counter = h.counter; items = All-filter (λ e. is_live b.moment e.1) HasNumbers b.items h.items }

pub arrived_bounded : (now : ℕ) (b : Bucket) → now < 2 ^ 64 → IsBounded b → IsBounded (arrived now b)
arrived_bounded now b lt h =
    purged_bounded (record b { moment = max 1 (max b.moment now) }) (record { moment = omega (arith, lt, h.moment); counter = h.counter; items = h.items })

pub answer_bounded : (room : Room) (b : Bucket) (now : ℕ) (c : Call) → now < 2 ^ 64 → c.flags < 2 ^ 64 → c.exptime < 2 ^ 64 → IsBounded b → IsBounded (answer room b now c).0
unfolding answer
answer_bounded room b now c lt flags exptime h =
    let a = arrived now b in
    let ha = arrived_bounded now b lt h in
    let d = (outcome_in room a c).change in
    let suits = outcome_suits (seen_in room a) c flags exptime c.verb (lookup c.key a.items) (numbered_lookup c.key a.items ha.items) in
    purged_bounded (bucket_after c.key d a) (record { moment = ha.moment; counter = counter_small d a.counter suits ha.counter; items = items_numbered c.key d a.items suits ha.items })

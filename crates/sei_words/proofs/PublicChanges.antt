-- Words that stand for a bucket, and what they stand for after each kind of change. No law here says where a
-- value stands.
use Rattle.std.proofs.Common.{◌≡◌, ◌≢◌, ℕ, ◌+◌, ◌<◌, inl, inr, Bool, true, false, cond, List, Option, Some, None, refl, sym, ap, ◌∙◌, subst, arith, get_or-set_other, get_or-set_same}
use Rattle.std.proofs.Math.ListN.{length-set}
use Rattle.std.specs.Prelude.{slice_set, slice_index}
use Rattle.mc_model.specs.declared.geometry.Geometry.{Geometry}
use Rattle.mc_model.specs.declared.outcome.Change.TheVariants.{Keep, Remove, Clear}
use Rattle.mc_model.specs.Bucket.{Item, Bucket, IsBucket, lookup, put, purged, is_live, if_live}
use Rattle.mc_model.specs.Packed.{AreBytes, pack}
use Rattle.mc_model.specs.Answer.{bucket_after}
use Rattle.mc_model.proofs.PublicBuckets.{same_key, same_test, other_test, lookup-put, lookup-without, lookup-live, put_is_bucket, remove_is_bucket, clear_is_bucket, counter_is_bucket, purge_is_bucket}
use Rattle.sei_words.specs.Layout.{moment_address, counter_address, first_slot, slot_at, field, used_offset}
use Rattle.sei_words.specs.Free.{IsTaken}
use Rattle.sei_words.specs.Holds.{Holds}
use Rattle.sei_words.specs.Value.{HasValue, OthersStay}
use Rattle.sei_words.specs.Stands.{Reads, StandsFor}
use Rattle.sei_words.specs.Changes.{HasHead, HeadStored, Moved, OnlyFields, ValueStored, AllUnused, HasFields, WasThere, IsThere}
use Rattle.sei_words.proofs.PublicLayout.{slot_floor}
use Rattle.sei_words.proofs.PublicSlots.{slot_stays, one_key, stay_on, fields_others, fields_head, own_value, has_same, fields_read, fields_same, head_fields, head_values, head_rest, same_holds, unused_rest, taken_live, live_taken, dead_free, unused_is_free, field_stored, field_is}
use Rattle.sei_words.proofs.HoldsLaws.{one_change}
pub use Rattle.sei_words.proofs.MomentLaws.{later, moved_head}
pub use Rattle.sei_words.proofs.FullLaws.{not_full, full}
pub use Rattle.sei_words.proofs.FreshLaws.{fresh_stands}

-- The one law of a slot that changes.

pub at_slot : (g : Geometry) (ws t : List ℕ) (b b' : Bucket) (i : ℕ) (k : List ℕ) → i < g.slots → StandsFor g ws b → OthersStay g b.moment ws t i → HasHead t b' → b'.moment ≡ b.moment →
    WasThere g ws b i k → IsThere g t b.moment i k b'.items → IsBucket b' → ((q : List ℕ) → q ≢ k → lookup q b'.items ≡ lookup q b.items) → StandsFor g t b'
at_slot g ws t b b' i k lt h o head still was is model same =
    record {
      size = o.size ∙ h.size;
      moment = head.moment;
      counter = head.counter;
      model = model;
      rest = o.rest h.rest;
      holds = subst (λ m. Holds g.slots (IsTaken g t m) (Reads g t) (λ q. lookup q b'.items)) (sym still)
          (one_change g.slots (IsTaken g ws b.moment) (IsTaken g t b.moment) (Reads g ws) (Reads g t) (λ q. lookup q b.items) (λ q. lookup q b'.items) i k h.holds (record {
            within = lt;
            before = was;
            after = is;
            off = λ j lj ne. slot_stays g b.moment ws t i j o lj ne;
            same = same;
            key = one_key g ws;
            key' = one_key g t i;
            test = λ q. same_key q k;
          }));
    }

-- The words before the first slot.

pub head_of : (g : Geometry) (ws : List ℕ) (b : Bucket) → StandsFor g ws b → HasHead ws b
head_of g ws b h = record { moment = h.moment; counter = h.counter }

pub head_same : (ws t : List ℕ) (b : Bucket) → ((a : ℕ) → a < first_slot → slice_index t a ≡ slice_index ws a) → HasHead ws b → HasHead t b
head_same ws t b same h = record { moment = same moment_address (omega arith) ∙ h.moment; counter = same counter_address (omega arith) ∙ h.counter }

-- the counter is another one, and all slots stay
pub counter_stored : (g : Geometry) (ws t : List ℕ) (b : Bucket) (counter : ℕ) → StandsFor g ws b → HeadStored ws t → HasHead t (record b { counter = counter }) → StandsFor g t (record b { counter = counter })
counter_stored g ws t b counter h o head =
    record {
      size = o.size ∙ h.size;
      moment = head.moment;
      counter = head.counter;
      model = counter_is_bucket counter b h.model;
      rest = head_rest g ws t o h.rest;
      holds = same_holds g ws t b.moment (λ k. lookup k b.items) (head_fields g ws t o) (head_values g ws t o) h.holds;
    }

-- one of them is stored

pub counter_set : (ws : List ℕ) (counter : ℕ) → HeadStored ws (slice_set ws counter_address counter)
counter_set ws counter =
    record {
      size = length-set ws counter_address counter;
      off = λ a le. get_or-set_other ws counter_address a counter 0 (omega (arith, le));
    }

pub counter_set_head : (g : Geometry) (ws : List ℕ) (b : Bucket) (counter : ℕ) → StandsFor g ws b → HasHead (slice_set ws counter_address counter) (record b { counter = counter })
counter_set_head g ws b counter h =
    record {
      moment = get_or-set_other ws counter_address moment_address counter 0 (omega arith) ∙ h.moment;
      counter = get_or-set_same ws counter_address counter 0 (omega (arith, h.size, slot_floor g g.slots));
    }

pub moment_set : (g : Geometry) (ws : List ℕ) (b : Bucket) (moment : ℕ) → StandsFor g ws b → Moved ws (slice_set ws moment_address moment) moment
moment_set g ws b moment h =
    record {
      size = length-set ws moment_address moment;
      first = get_or-set_same ws moment_address moment 0 (omega (arith, h.size, slot_floor g g.slots));
      others = λ a ne. get_or-set_other ws moment_address a moment 0 ne;
    }

-- Nothing changes.

-- the items that words stand for are live
pub all_live : (g : Geometry) (ws : List ℕ) (b : Bucket) (q : List ℕ) (x : Item) → StandsFor g ws b → lookup q b.items ≡ Some x → is_live b.moment x ≡ true
all_live g ws b q x h is =
    let o = h.holds.every q x is in
    taken_live g ws b.moment o.0 x o.3.expiry o.2

-- a bucket that words stand for is purged
pub stands_purged : (g : Geometry) (ws : List ℕ) (b : Bucket) → StandsFor g ws b → StandsFor g ws (purged b)
stands_purged g ws b h = later g ws ws b b.moment h (omega arith) (record { size = refl; first = h.moment; others = λ a ne. refl })

pub kept : (g : Geometry) (ws : List ℕ) (b : Bucket) (k : List ℕ) → StandsFor g ws b → StandsFor g ws (purged (bucket_after k Keep b))
kept g ws b k h = stands_purged g ws b h

-- An item is stored.

stays_live : (m : ℕ) (o : Option Item) → ((x : Item) → o ≡ Some x → is_live m x ≡ true) → if_live m o ≡ o
stays_live m None live = refl
stays_live m (Some x) live = simp (live x refl)

module _ (g : Geometry) (ws t : List ℕ) (b : Bucket) (i : ℕ) (k : List ℕ) (x : Item) (counter : ℕ) (h : StandsFor g ws b) where
  abbrev after : Bucket
  after = purged (record b { items = put k x b.items; counter = counter })

  put_bucket : IsBucket (record b { items = put k x b.items; counter = counter })
  put_bucket = put_is_bucket k x (record b { counter = counter }) (counter_is_bucket counter b h.model)

  elsewhere : (q : List ℕ) → q ≢ k → lookup q after.items ≡ lookup q b.items
  elsewhere q ne =
      let put_is : lookup q (put k x b.items) ≡ lookup q b.items = lookup-put q k x b.items ∙ simp (other_test q k ne) in
      lookup-live b.moment q (put k x b.items) put_bucket.map ∙ ap (if_live b.moment) put_is ∙ stays_live b.moment (lookup q b.items) (λ y is. all_live g ws b q y h is)

  here : lookup k after.items ≡ if_live b.moment (Some x)
  here =
      let put_is : lookup k (put k x b.items) ≡ Some x = lookup-put k k x b.items ∙ simp (same_test k) in
      lookup-live b.moment k (put k x b.items) put_bucket.map ∙ ap (if_live b.moment) put_is

  there : (l : Bool) → is_live b.moment x ≡ l → field g t i used_offset ≢ 0 → Reads g t i k x → lookup k after.items ≡ cond l (Some x) None → IsThere g t b.moment i k after.items
  there true live used reads is = inl (live_taken g t b.moment i x reads.expiry used live, (x, reads, is))
  there false dead used reads is = inr (dead_free g t b.moment i x reads.expiry dead, is)

  -- the slot reads as the key and the item. One that has expired already is gone at once
  pub put_stands : i < g.slots → OthersStay g b.moment ws t i → HasHead t (record b { counter = counter }) → WasThere g ws b i k → field g t i used_offset ≢ 0 → Reads g t i k x → StandsFor g t (purged (record b { items = put k x b.items; counter = counter }))
  put_stands lt o head was used reads =
      at_slot g ws t b after i k lt h o (record { moment = head.moment; counter = head.counter }) refl was (there (is_live b.moment x) refl used reads here) (purge_is_bucket (record b { items = put k x b.items; counter = counter }) put_bucket) elsewhere

  -- its fields were stored before, and then its value
  pub stored : (u : List ℕ) → i < g.slots → OthersStay g b.moment ws u i → HasHead u (record b { counter = counter }) → WasThere g ws b i k → field g u i used_offset ≢ 0 → HasFields g u i k x → AreBytes x.value → ValueStored g b.moment u t i (pack x.value) → StandsFor g t (purged (record b { items = put k x b.items; counter = counter }))
  stored u lt o head was used fields bytes v =
      put_stands lt (stay_on g b.moment ws u t i o v.others) (head_same u t (record b { counter = counter }) v.head head) was (λ z. used (sym (v.fields used_offset (omega arith)) ∙ z))
      (fields_read g t i k x (fields_same g u t i k x v.fields fields) bytes v.value)

  -- its fields alone were stored: the item in the slot keeps its value
  pub fields_only : (old : Item) → i < g.slots → OnlyFields g ws t i → IsTaken g ws b.moment i → Reads g ws i k old → counter ≡ b.counter → field g t i used_offset ≢ 0 → HasFields g t i k x → x.value ≡ old.value → StandsFor g t (purged (record b { items = put k x b.items; counter = counter }))
  fields_only old lt o taken was still used fields same =
      let value = subst (λ v. HasValue g t i (pack v)) (sym same) (has_same g ws t i (pack old.value) (own_value g ws t i o) was.value) in
      let bytes = subst AreBytes (sym same) was.value_bytes in
      let head : HasHead t b = head_same ws t b (fields_head g ws t i o) (head_of g ws b h) in
      put_stands lt (fields_others g b.moment ws t i o) (record { moment = head.moment; counter = head.counter ∙ sym still }) (inl (taken, (old, was))) used (fields_read g t i k x fields bytes value)

-- An item is removed.

-- used became 0
pub removed : (g : Geometry) (ws t : List ℕ) (b : Bucket) (i : ℕ) (k : List ℕ) (old : Item) → i < g.slots → StandsFor g ws b → OnlyFields g ws t i → IsTaken g ws b.moment i → Reads g ws i k old → field g t i used_offset ≡ 0 → StandsFor g t (purged (bucket_after k Remove b))
removed g ws t b i k old lt h o taken was unused =
    let head = head_same ws t b (fields_head g ws t i o) (head_of g ws b h) in
    let without_is = λ (q : List ℕ). lookup-without q k b.items h.model.map in
    stands_purged g t (bucket_after k Remove b)
    (at_slot g ws t b (bucket_after k Remove b) i k lt h (fields_others g b.moment ws t i o) (record { moment = head.moment; counter = head.counter }) refl (inl (taken, (old, was)))
    (inr (unused_is_free g t b.moment i unused, without_is k ∙ simp (same_test k)))
    (remove_is_bucket k b h.model)
    (λ q ne. without_is q ∙ simp (other_test q k ne)))

pub unused_set : (g : Geometry) (ws : List ℕ) (b : Bucket) (i : ℕ) (k : List ℕ) (old : Item) → i < g.slots → StandsFor g ws b → IsTaken g ws b.moment i → Reads g ws i k old → StandsFor g (slice_set ws (slot_at g i + used_offset) 0) (purged (bucket_after k Remove b))
unused_set g ws b i k old lt h taken was =
    removed g ws (slice_set ws (slot_at g i + used_offset) 0) b i k old lt h (field_stored g ws i used_offset 0 (omega arith)) taken was
    (field_is g ws i used_offset 0 h.size lt (omega arith))

-- All items are removed.

-- used became 0 in each slot
pub emptied : (g : Geometry) (ws t : List ℕ) (b : Bucket) (k : List ℕ) → StandsFor g ws b → AllUnused g ws t → StandsFor g t (purged (bucket_after k Clear b))
emptied g ws t b k h o =
    let head = head_same ws t b (λ a lt. o.off a (λ j lj e. absurd (omega (arith, e, lt, slot_floor g j)))) (head_of g ws b h) in
    record {
      size = o.size ∙ h.size;
      moment = head.moment;
      counter = head.counter;
      model = clear_is_bucket b h.model;
      rest = unused_rest g ws t o h.rest;
      holds = record {
        each = λ j lj taken. absurd (unused_is_free g t b.moment j (o.unused j lj) taken);
        every = λ q x is. absurd (no_item is);
        one = λ i j li lj ti tj. absurd (unused_is_free g t b.moment i (o.unused i li) ti);
      };
    }
  where
    no_item : {x : Item} → ◌≡◌ {A = Option Item} None (Some x) → ⊥
    no_item e = absurd (cc)

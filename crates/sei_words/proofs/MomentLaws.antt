-- A later moment: what has expired by then is in no taken slot, and no more in the bucket.
use Rattle.std.proofs.Common.{◌≡◌, ℕ, ◌≤◌, Bool, true, false, cond, not, ◌&&◌, ◌||◌, List, Option, Some, None, refl, sym, ap, ◌∙◌, arith}
use Rattle.std.specs.Prelude.{nat_le, nat_lt, ◌==◌}
use Rattle.mc_model.specs.declared.geometry.Geometry.{Geometry}
use Rattle.mc_model.specs.Bucket.{Item, Bucket, lookup, purged, is_live, if_live}
use Rattle.mc_model.proofs.PublicBuckets.{lookup-live, purge_is_bucket, moment_is_bucket}
use Rattle.sei_words.specs.Layout.{counter_address, field, used_offset, expiry_offset}
use Rattle.sei_words.specs.Free.{IsTaken}
use Rattle.sei_words.specs.Value.{FieldsSame, SameValue}
use Rattle.sei_words.specs.Stands.{Reads, StandsFor}
use Rattle.sei_words.specs.Changes.{HeadStored, Moved}
use Rattle.sei_words.proofs.PublicSlots.{fields_back, value_back, head_fields, head_values, head_rest, free_same, reads_same}

-- what stood at the later moment stood before
sooner : (u z p q : Bool) → (q ≡ true → p ≡ true) → (u || (not z && p)) ≡ false → (u || (not z && q)) ≡ false
sooner true z p q f e = absurd (cc)
sooner false true p q f e = refl
sooner false false p true f e = let h : p ≡ true = f refl in absurd (cc)
sooner false false p false f e = refl

at_most_later : (e m m' : ℕ) → m ≤ m' → nat_le e m ≡ true → nat_le e m' ≡ true
at_most_later e m m' le h = grind arith

below_is : (m e : ℕ) → nat_lt m e ≡ not (nat_le e m)
below_is m e = grind arith

-- a taken slot's item is live
live_from : (u z p : Bool) → (u || (not z && p)) ≡ false → (z || not p) ≡ true
live_from true z p e = absurd (cc)
live_from false true p e = refl
live_from false false true e = absurd (cc)
live_from false false false e = refl

-- and a slot whose item is live stays taken
taken_from : (u z p q : Bool) → (u || (not z && p)) ≡ false → (z || not q) ≡ true → (u || (not z && q)) ≡ false
taken_from true z p q e f = absurd (cc)
taken_from false true p q e f = refl
taken_from false false p true e f = absurd (cc)
taken_from false false p false e f = refl

if_live_some : (m : ℕ) (o : Option Item) (x : Item) → if_live m o ≡ Some x → (o ≡ Some x) × (is_live m x ≡ true)
if_live_some m None x e = absurd (cc)
if_live_some m (Some y) x e = by_test (is_live m y) refl e
  where
    by_test : (t : Bool) → is_live m y ≡ t → cond t (Some y) None ≡ Some x → (Some y ≡ Some x) × (is_live m x ≡ true)
    by_test true l f = (f, (let same : y ≡ x = cc in sym (ap (is_live m) same) ∙ l))
    by_test false l f = absurd (cc)

-- the moment stands before all slots
pub moved_head : (ws t : List ℕ) (moment : ℕ) → Moved ws t moment → HeadStored ws t
moved_head ws t moment o = record { size = o.size; off = λ a le. o.others a (λ e. absurd (omega (arith, e, le))) }

pub later : (g : Geometry) (ws t : List ℕ) (b : Bucket) (moment : ℕ) → StandsFor g ws b → b.moment ≤ moment → Moved ws t moment → StandsFor g t (purged (record b { moment = moment }))
later g ws t b moment h le o =
    record {
      size = o.size ∙ h.size;
      moment = o.first;
      counter = o.others counter_address (λ e. absurd (omega (arith, e))) ∙ h.counter;
      model = purge_is_bucket (record b { moment = moment }) (moment_is_bucket moment b h.model);
      rest = head_rest g ws t (moved_head ws t moment o) h.rest;
      holds = record {
        each = λ i lt taken.
            let before = h.holds.each i lt (was_taken i taken) in
            let reads = reads_same g ws t i before.0 before.1 (same i) (value i) before.2 in
            let live : is_live moment before.1 ≡ true = is_live_there i before.0 before.1 reads taken in
            (before.0, before.1, reads, lookup-live moment before.0 b.items h.model.map ∙ ap (if_live moment) before.3 ∙ rw live refl);
        every = λ k x e.
            let there = if_live_some moment (lookup k b.items) x (sym (lookup-live moment k b.items h.model.map) ∙ e) in
            let before = h.holds.every k x there.0 in
            let reads = reads_same g ws t before.0 k x (same before.0) (value before.0) before.3 in
            (before.0, before.1, stays_taken before.0 k x reads before.2 there.1, reads);
        one = λ i j li lj ti tj k x y ri rj. h.holds.one i j li lj (was_taken i ti) (was_taken j tj) k x y (back i k x ri) (back j k y rj);
      };
    }
  where
    same : (i : ℕ) → FieldsSame g ws t i
    same i = head_fields g ws t (moved_head ws t moment o) i

    value : (i : ℕ) → SameValue g ws t i
    value i = head_values g ws t (moved_head ws t moment o) i

    back : (i : ℕ) (k : List ℕ) (x : Item) → Reads g t i k x → Reads g ws i k x
    back i k x r = reads_same g t ws i k x (fields_back g ws t i (same i)) (value_back g ws t i (value i)) r

    was_taken : (i : ℕ) → IsTaken g t moment i → IsTaken g ws b.moment i
    was_taken i taken = sym (free_same g ws t b.moment i (same i))
        ∙ sooner (field g t i used_offset == 0) (field g t i expiry_offset == 0) (nat_le (field g t i expiry_offset) moment) (nat_le (field g t i expiry_offset) b.moment) (at_most_later (field g t i expiry_offset) b.moment moment le) taken

    is_live_there : (i : ℕ) (k : List ℕ) (x : Item) → Reads g t i k x → IsTaken g t moment i → is_live moment x ≡ true
    is_live_there i k x r taken = rw (below_is moment x.expiry, ← r.expiry) (live_from (field g t i used_offset == 0) (field g t i expiry_offset == 0) (nat_le (field g t i expiry_offset) moment) taken)

    stays_taken : (i : ℕ) (k : List ℕ) (x : Item) → Reads g t i k x → IsTaken g ws b.moment i → is_live moment x ≡ true → IsTaken g t moment i
    stays_taken i k x r taken live =
        taken_from (field g t i used_offset == 0) (field g t i expiry_offset == 0) (nat_le (field g t i expiry_offset) b.moment) (nat_le (field g t i expiry_offset) moment)
        (free_same g ws t b.moment i (same i) ∙ taken) (rw (← below_is moment (field g t i expiry_offset), r.expiry) live)

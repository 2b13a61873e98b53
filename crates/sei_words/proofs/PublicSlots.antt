-- Slots: when one is taken, what stays of it, and the one key that it has.
use Rattle.std.proofs.Common.{◌≡◌, ◌≢◌, ℕ, ◌+◌, ◌<◌, ◌≤◌, ◌⊎◌, inl, inr, true, false, ◌||◌, List, length, Option, refl, sym, ap, ◌∙◌, subst, arith, get_or-set_other, get_or-set_same}
use Rattle.std.specs.Prelude.{slice_index, slice_set, nat_lt, ◌==◌}
use Rattle.std.proofs.Math.ListN.{length-set}
use Rattle.std.proofs.lemmas.Bool.Decides.{nat_tests}
use Rattle.mc_model.specs.declared.geometry.Geometry.{Geometry}
use Rattle.mc_model.specs.Bucket.{Item, is_live}
use Rattle.mc_model.specs.Packed.{AreBytes, words_for, pack}
use Rattle.mc_model.proofs.PublicPacking.{length_pack, pack_apart}
use Rattle.sei_words.specs.Layout.{first_slot, slot_at, word_count, field, used_offset, hash_offset, key_length_offset, flags_offset, expiry_offset, unique_offset, value_length_offset, key_offset, value_offset}
use Rattle.sei_words.specs.Free.{is_free, has_expired, IsFree, IsTaken}
use Rattle.sei_words.specs.Value.{HasValue, RestIsSound, FieldsSame, SameValue, OthersStay}
use Rattle.sei_words.specs.Holds.{Holds}
use Rattle.sei_words.specs.Stands.{Reads}
use Rattle.sei_words.specs.Changes.{HeadStored, OnlyFields, OnlySlot, AllUnused, HasFields, KeepsKey, HasItem}
use Rattle.sei_words.proofs.PublicLayout.{slot_floor, width_is, off_slot, key_word, field_within}
use Rattle.sei_words.proofs.HoldsLaws.{Stays}

-- When a slot is taken, by its two words.

word_taken : (used expiry m : ℕ) → used ≢ 0 → ((expiry ≡ 0) ⊎ (m < expiry)) → (used == 0 || has_expired m expiry) ≡ false
word_taken used expiry m u (inl e) = grind (arith, nat_tests)
word_taken used expiry m u (inr lt) = grind (arith, nat_tests)

word_unused : (used expiry m : ℕ) → used ≡ 0 → (used == 0 || has_expired m expiry) ≡ false → ⊥
word_unused used expiry m u e = grind (arith, nat_tests)

word_expired : (used expiry m : ℕ) → expiry ≢ 0 → expiry ≤ m → (used == 0 || has_expired m expiry) ≡ false → ⊥
word_expired used expiry m x le e = grind (arith, nat_tests)

word_live : (used expiry m : ℕ) → (used == 0 || has_expired m expiry) ≡ false → (expiry == 0 || nat_lt m expiry) ≡ true
word_live used expiry m e = grind (arith, nat_tests)

live_word : (used expiry m : ℕ) → used ≢ 0 → (expiry == 0 || nat_lt m expiry) ≡ true → (used == 0 || has_expired m expiry) ≡ false
live_word used expiry m u e = grind (arith, nat_tests)

dead_word : (used expiry m : ℕ) → (expiry == 0 || nat_lt m expiry) ≡ false → (used == 0 || has_expired m expiry) ≡ false → ⊥
dead_word used expiry m d e = grind (arith, nat_tests)

module _ (g : Geometry) (words : List ℕ) (m i : ℕ) where
  pub taken_is : field g words i used_offset ≢ 0 → ((field g words i expiry_offset ≡ 0) ⊎ (m < field g words i expiry_offset)) → IsTaken g words m i
  taken_is = word_taken (field g words i used_offset) (field g words i expiry_offset) m

  pub unused_is_free : field g words i used_offset ≡ 0 → IsTaken g words m i → ⊥
  unused_is_free = word_unused (field g words i used_offset) (field g words i expiry_offset) m

  pub expired_is_free : field g words i expiry_offset ≢ 0 → field g words i expiry_offset ≤ m → IsTaken g words m i → ⊥
  expired_is_free = word_expired (field g words i used_offset) (field g words i expiry_offset) m

  pub taken_used : IsTaken g words m i → field g words i used_offset ≢ 0
  taken_used taken z = unused_is_free z taken

  -- the item of a taken slot is live, and a slot whose item is not is free
  pub taken_live : (x : Item) → field g words i expiry_offset ≡ x.expiry → IsTaken g words m i → is_live m x ≡ true
  taken_live x is taken = subst (λ n. (n == 0 || nat_lt m n) ≡ true) is (word_live (field g words i used_offset) (field g words i expiry_offset) m taken)

  pub live_taken : (x : Item) → field g words i expiry_offset ≡ x.expiry → field g words i used_offset ≢ 0 → is_live m x ≡ true → IsTaken g words m i
  live_taken x is used live = live_word (field g words i used_offset) (field g words i expiry_offset) m used (subst (λ n. (n == 0 || nat_lt m n) ≡ true) (sym is) live)

  pub dead_free : (x : Item) → field g words i expiry_offset ≡ x.expiry → is_live m x ≡ false → IsTaken g words m i → ⊥
  dead_free x is dead taken = dead_word (field g words i used_offset) (field g words i expiry_offset) m (subst (λ n. (n == 0 || nat_lt m n) ≡ false) (sym is) dead) taken

  pub free_not_taken : IsFree g words m i → IsTaken g words m i → ⊥
  free_not_taken f t = absurd (cc)

-- What stays of a slot.

-- the value stays where its words do
pub value_back : (g : Geometry) (ws t : List ℕ) (j : ℕ) → SameValue g ws t j → SameValue g t ws j
value_back g ws t j s n lt = sym (s n lt)

pub fields_back : (g : Geometry) (ws t : List ℕ) (j : ℕ) → FieldsSame g ws t j → FieldsSame g t ws j
fields_back g ws t j s n lt = sym (s n lt)

pub has_same : (g : Geometry) (ws t : List ℕ) (j : ℕ) (vs : List ℕ) → SameValue g ws t j → HasValue g ws j vs → HasValue g t j vs
has_same g ws t j vs s h = record { fits = h.fits; stored = λ n lt. s n (omega (arith, lt, h.fits)) ∙ h.stored n lt }

pub free_same : (g : Geometry) (ws t : List ℕ) (m i : ℕ) → FieldsSame g ws t i → is_free g t m i ≡ is_free g ws m i
free_same g ws t m i s = rw (s used_offset (omega arith), s expiry_offset (omega arith)) refl

-- what a slot reads as, by its fields and its value

pub fields_read : (g : Geometry) (t : List ℕ) (i : ℕ) (k : List ℕ) (x : Item) → HasFields g t i k x → AreBytes x.value → HasValue g t i (pack x.value) → Reads g t i k x
fields_read g t i k x f bytes v =
    record {
      hash = f.hash;
      key_length = f.key_length;
      flags = f.flags;
      expiry = f.expiry;
      unique = f.unique;
      value_length = f.value_length;
      key_bytes = f.key_bytes;
      key_fits = f.key_fits;
      key = f.key;
      value_bytes = bytes;
      value = v;
    }

pub reads_fields : (g : Geometry) (t : List ℕ) (i : ℕ) (k : List ℕ) (x : Item) → Reads g t i k x → HasFields g t i k x
reads_fields g t i k x r =
    record {
      hash = r.hash;
      key_length = r.key_length;
      flags = r.flags;
      expiry = r.expiry;
      unique = r.unique;
      value_length = r.value_length;
      key_bytes = r.key_bytes;
      key_fits = r.key_fits;
      key = r.key;
    }

-- a slot that kept its key has the fields of the key and of the new item
pub key_kept : (g : Geometry) (ws t : List ℕ) (i : ℕ) (k : List ℕ) (old x : Item) → HasFields g ws i k old → KeepsKey g ws t i → HasItem g t i x → HasFields g t i k x
key_kept g ws t i k old x f kept s =
    record {
      hash = kept.hash ∙ f.hash;
      key_length = kept.key_length ∙ f.key_length;
      flags = s.flags;
      expiry = s.expiry;
      unique = s.unique;
      value_length = s.value_length;
      key_bytes = f.key_bytes;
      key_fits = f.key_fits;
      key = λ j lt. sym (key_word g t i j) ∙ kept.key j (omega (arith, lt, f.key_fits, length_pack k)) ∙ key_word g ws i j ∙ f.key j lt;
    }

pub fields_same : (g : Geometry) (ws t : List ℕ) (i : ℕ) (k : List ℕ) (x : Item) → FieldsSame g ws t i → HasFields g ws i k x → HasFields g t i k x
fields_same g ws t i k x s f =
    key_kept g ws t i k x x f
    (record { hash = s hash_offset (omega arith); key_length = s key_length_offset (omega arith); key = λ j lt. s (key_offset + j) (omega (arith, lt)) })
    (record {
      flags = s flags_offset (omega arith) ∙ f.flags;
      expiry = s expiry_offset (omega arith) ∙ f.expiry;
      unique = s unique_offset (omega arith) ∙ f.unique;
      value_length = s value_length_offset (omega arith) ∙ f.value_length;
    })

pub reads_same : (g : Geometry) (ws t : List ℕ) (i : ℕ) (k : List ℕ) (x : Item) → FieldsSame g ws t i → SameValue g ws t i → Reads g ws i k x → Reads g t i k x
reads_same g ws t i k x s v r = fields_read g t i k x (fields_same g ws t i k x s (reads_fields g ws i k x r)) r.value_bytes (has_same g ws t i (pack x.value) v r.value)

-- a slot has one key
pub one_key : (g : Geometry) (ws : List ℕ) (i : ℕ) (p q : List ℕ) (x y : Item) → Reads g ws i p x → Reads g ws i q y → p ≡ q
one_key g ws i p q x y rp rq =
    let len = sym rp.key_length ∙ rq.key_length in
    let packed : length (pack p) ≡ length (pack q) = length_pack p ∙ ap words_for len ∙ sym (length_pack q) in
    pack_apart p q rp.key_bytes rq.key_bytes len (λ j lt. sym (rp.key j lt) ∙ rq.key j (subst (λ n. j < n) packed lt))

-- What stays of the other slots.

pub slot_stays : (g : Geometry) (m : ℕ) (ws t : List ℕ) (i j : ℕ) → OthersStay g m ws t i → j < g.slots → j ≢ i → Stays (IsTaken g ws m) (IsTaken g t m) (Reads g ws) (Reads g t) j
slot_stays g m ws t i j o lj ne =
    let same = free_same g ws t m j (o.fields j lj ne) in
    record {
      taken = λ taken. same ∙ taken;
      was_taken = λ taken. sym same ∙ taken;
      has = λ q x taken r. reads_same g ws t j q x (o.fields j lj ne) (o.values j lj ne taken) r;
      had = λ q x taken r. reads_same g t ws j q x (fields_back g ws t j (o.fields j lj ne)) (value_back g ws t j (o.values j lj ne (sym same ∙ taken))) r;
    }

-- one change of the slot after another
pub stay_on : (g : Geometry) (m : ℕ) (ws u t : List ℕ) (i : ℕ) → OthersStay g m ws u i → OthersStay g m u t i → OthersStay g m ws t i
stay_on g m ws u t i p q =
    record {
      size = q.size ∙ p.size;
      fields = λ j lj ne n ln. q.fields j lj ne n ln ∙ p.fields j lj ne n ln;
      values = λ j lj ne taken n ln. q.values j lj ne (free_same g ws u m j (p.fields j lj ne) ∙ taken) n ln ∙ p.values j lj ne taken n ln;
      rest = λ s. q.rest (p.rest s);
    }

pub slot_others : (g : Geometry) (m : ℕ) (ws t : List ℕ) (i : ℕ) → OnlySlot g ws t i → OthersStay g m ws t i
slot_others g m ws t i o =
    record {
      size = o.size;
      fields = λ j lj ne n ln. o.off (slot_at g j + n) (off_slot g i j n ne (omega (arith, ln, width_is g)));
      values = λ j lj ne taken n ln.
          let e : slot_at g j + (value_offset + n) ≡ slot_at g j + value_offset + n = omega arith in
          subst (λ b. slice_index t b ≡ slice_index ws b) e (o.off (slot_at g j + (value_offset + n)) (off_slot g i j (value_offset + n) ne (omega (arith, ln, width_is g))));
      rest = λ s. s;
    }

pub fields_others : (g : Geometry) (m : ℕ) (ws t : List ℕ) (i : ℕ) → OnlyFields g ws t i → OthersStay g m ws t i
fields_others g m ws t i o =
    slot_others g m ws t i (record { size = o.size; off = λ a out. o.off a (elim out [ inl lt ↦ inl lt | inr le ↦ inr (omega (arith, le, width_is g)) ]) })

-- the value of the slot itself stays too
pub own_value : (g : Geometry) (ws t : List ℕ) (i : ℕ) → OnlyFields g ws t i → SameValue g ws t i
own_value g ws t i o n lt = o.off (slot_at g i + value_offset + n) (inr (omega arith))

pub fields_head : (g : Geometry) (ws t : List ℕ) (i : ℕ) → OnlyFields g ws t i → (a : ℕ) → a < first_slot → slice_index t a ≡ slice_index ws a
fields_head g ws t i o a lt = o.off a (inl (omega (arith, slot_floor g i, lt)))

-- words before the first slot leave all slots
pub head_fields : (g : Geometry) (ws t : List ℕ) → HeadStored ws t → (j : ℕ) → FieldsSame g ws t j
head_fields g ws t o j n ln = o.off (slot_at g j + n) (omega (arith, slot_floor g j))

pub head_values : (g : Geometry) (ws t : List ℕ) → HeadStored ws t → (j : ℕ) → SameValue g ws t j
head_values g ws t o j n ln = o.off (slot_at g j + value_offset + n) (omega (arith, slot_floor g j))

pub head_rest : (g : Geometry) (ws t : List ℕ) → HeadStored ws t → RestIsSound g ws → RestIsSound g t
head_rest g ws t o s = s

pub head_others : (g : Geometry) (m : ℕ) (ws t : List ℕ) (i : ℕ) → HeadStored ws t → OthersStay g m ws t i
head_others g m ws t i o = record { size = o.size; fields = λ j lj ne. head_fields g ws t o j; values = λ j lj ne taken. head_values g ws t o j; rest = head_rest g ws t o }

-- and so do the first words of slots what holds beyond the map
pub unused_rest : (g : Geometry) (ws t : List ℕ) → AllUnused g ws t → RestIsSound g ws → RestIsSound g t
unused_rest g ws t o s = s

-- slots whose fields and values stay hold the same map
pub same_holds : (g : Geometry) (ws t : List ℕ) (m : ℕ) (f : List ℕ → Option Item) → ((j : ℕ) → FieldsSame g ws t j) → ((j : ℕ) → SameValue g ws t j) → Holds g.slots (IsTaken g ws m) (Reads g ws) f → Holds g.slots (IsTaken g t m) (Reads g t) f
same_holds g ws t m f fields values h =
    record {
      each = λ i lt taken. let o = h.each i lt (was i taken) in (o.0, o.1, reads_same g ws t i o.0 o.1 (fields i) (values i) o.2, o.3);
      every = λ k x is. let o = h.every k x is in (o.0, o.1, free_same g ws t m o.0 (fields o.0) ∙ o.2, reads_same g ws t o.0 k x (fields o.0) (values o.0) o.3);
      one = λ i j li lj ti tj k x y ri rj. h.one i j li lj (was i ti) (was j tj) k x y (back i k x ri) (back j k y rj);
    }
  where
    was : (i : ℕ) → IsTaken g t m i → IsTaken g ws m i
    was i taken = sym (free_same g ws t m i (fields i)) ∙ taken

    back : (i : ℕ) (k : List ℕ) (x : Item) → Reads g t i k x → Reads g ws i k x
    back i k x r = reads_same g t ws i k x (fields_back g ws t i (fields i)) (value_back g ws t i (values i)) r

-- One word of a slot is stored.

pub field_stored : (g : Geometry) (ws : List ℕ) (i n v : ℕ) → n < value_offset → OnlyFields g ws (slice_set ws (slot_at g i + n) v) i
field_stored g ws i n v lt =
    record {
      size = length-set ws (slot_at g i + n) v;
      off = λ a out. get_or-set_other ws (slot_at g i + n) a v 0 (elim out [ inl below ↦ omega (arith, below) | inr above ↦ omega (arith, above, lt) ]);
    }

pub field_is : (g : Geometry) (ws : List ℕ) (i n v : ℕ) → length ws ≡ word_count g → i < g.slots → n < value_offset → field g (slice_set ws (slot_at g i + n) v) i n ≡ v
field_is g ws i n v size lt ln = get_or-set_same ws (slot_at g i + n) v 0 (omega (arith, size, field_within g i n lt ln))

pub field_other : (g : Geometry) (ws : List ℕ) (i n p v : ℕ) → p ≢ n → field g (slice_set ws (slot_at g i + n) v) i p ≡ field g ws i p
field_other g ws i n p v ne = get_or-set_other ws (slot_at g i + n) (slot_at g i + p) v 0 (omega (arith, ne))

pub fields_on : (g : Geometry) (ws u t : List ℕ) (i : ℕ) → OnlyFields g ws u i → OnlyFields g u t i → OnlyFields g ws t i
fields_on g ws u t i p q = record { size = q.size ∙ p.size; off = λ a out. q.off a out ∙ p.off a out }

-- What the programs of a slot's fields leave: the fields of the item, and a value that can follow.
use Rattle.std.proofs.Common.{◌≡◌, ◌≢◌, ℕ, ◌+◌, ◌<◌, ◌≤◌, ◌⊎◌, inl, inr, List, length, refl, sym, ap, ◌∙◌, arith}
use Rattle.std.specs.Prelude.{slice_index}
use Rattle.mc_model.specs.declared.geometry.Geometry.{Geometry}
use Rattle.mc_model.specs.Bucket.{Item, Bucket}
use Rattle.mc_model.specs.Packed.{pack}
use Rattle.mc_model.specs.Server.{IsValid}
use Rattle.mc_model.proofs.PublicPacking.{length_pack}
use Rattle.sei_words.specs.Layout.{first_slot, used_offset, hash_offset, key_length_offset, flags_offset, expiry_offset, unique_offset, value_length_offset, key_offset, value_offset, slot_at, word_count, field}
use Rattle.sei_words.specs.Free.{IsTaken}
use Rattle.sei_words.specs.Value.{OthersStay}
use Rattle.sei_words.specs.Stands.{Reads}
use Rattle.sei_words.specs.Changes.{HasHead, HeadStored, OnlyFields, HasFields}
use Rattle.sei_words.proofs.PublicChanges.{head_same}
use Rattle.sei_words.proofs.PublicLayout.{slot_floor, slot_within, width_is, few_words}
use Rattle.sei_words.proofs.PublicSlots.{taken_used, stay_on, fields_others, fields_head, head_fields, head_others, fields_same, reads_fields, key_kept}
use Rattle.sei_stmt.specs.Order.{is_parsed}
use Rattle.sei_stmt.specs.Runs.{Given, RunState}
use Rattle.sei_stmt.specs.Programs.{Ends, IsParsed}
use Rattle.sei_stmt.proofs.Public.{then_so}
use Rattle.tab_find.specs.Registers.{r_zero, r_one, r_place, r_unique, r_value_words}
use Rattle.tab_find.specs.StorePrograms.{replace_fields}
use Rattle.tab_find.proofs.Copy.{put_all, put_all_size, put_all_off, put_all_stored}
use Rattle.tab_find.proofs.FieldStores.{fielder, fields_of, Stored, replace_fields_end}
use Rattle.tab_find.specs.Copies.{CanStoreIn, HasLoaded}
use Rattle.tab_find.proofs.ItemEnds.{FieldsStored}

-- before the fields: the counter alone was stored, and the registers have all that goes into slot i
pub record CanStoreFields (g : Geometry) (e : Given) (ws : List ℕ) (b : Bucket) (counter i index w : ℕ) (x : Item) (u : RunState) : Type 0 where
  pub valid : IsValid g
  pub within : i < g.slots
  pub size : length u.words ≡ word_count g
  pub parsed : IsParsed u.stage
  pub low : u.floor ≤ first_slot
  pub none : u.regs r_zero ≡ 0
  pub one : u.regs r_one ≡ 1
  pub place : u.regs r_place ≡ slot_at g i
  pub unique : u.regs r_unique ≡ x.unique
  pub loaded : HasLoaded e.input index w g x u
  pub before : HeadStored ws u.words
  pub head : HasHead u.words (record b { counter = counter })

module _ (g : Geometry) (e : Given) (ws : List ℕ) (b : Bucket) (counter i index w : ℕ) (k : List ℕ) (x : Item) (u : RunState) (can : CanStoreFields g e ws b counter i index w x u) where
  -- the value can follow a program that stored fields alone, and left these registers
  pub value_follows : (t : RunState) → t.stage ≡ u.stage → t.regs r_zero ≡ u.regs r_zero → t.regs r_one ≡ u.regs r_one → t.regs r_place ≡ u.regs r_place → t.regs r_value_words ≡ u.regs r_value_words → OnlyFields g u.words t.words i →
      t.floor ≤ slot_at g i + value_offset → CanStoreIn g e index i (pack x.value) t
  value_follows t stage r0 r2 r10 r22 o low =
      let long = length_pack x.value in
      let l = can.loaded in
      record {
        valid = can.valid;
        within = can.within;
        size = o.size ∙ can.size;
        parsed = ap is_parsed stage ∙ can.parsed;
        low = low;
        none = r0 ∙ can.none;
        one = r2 ∙ can.one;
        place = r10 ∙ can.place;
        count = r22 ∙ l.value_words ∙ sym long;
        fits = omega (arith, l.fits, long);
        few = l.near;
        there = omega (arith, l.room, long);
        stored = l.stored;
      }

  pub others_stay : (t : List ℕ) → OnlyFields g u.words t i → OthersStay g b.moment ws t i
  others_stay t o = stay_on g b.moment ws u.words t i (head_others g b.moment ws u.words i can.before) (fields_others g b.moment u.words t i o)

  pub head_stays : (t : List ℕ) → OnlyFields g u.words t i → HasHead t (record b { counter = counter })
  head_stays t o = head_same u.words t (record b { counter = counter }) (fields_head g u.words t i o) can.head

  -- the item in the slot keeps its key
  module _ (old : Item) (taken : IsTaken g ws b.moment i) (was : Reads g ws i k old) where
    -- the words t after its fields were stored
    module _ (t : List ℕ) (is : t ≡ put_all u.words (slot_at g i + flags_offset) (fields_of u)) where
      kept_off : (c : ℕ) → (c < slot_at g i + flags_offset) ⊎ (slot_at g i + key_offset ≤ c) → slice_index t c ≡ slice_index u.words c
      kept_off c out = ap (λ l. slice_index l c) is ∙ put_all_off (fields_of u) u.words (slot_at g i + flags_offset) c (elim out [ inl lt ↦ inl lt | inr le ↦ inr (omega (arith, le)) ])

      only_fields : OnlyFields g u.words t i
      only_fields =
          record {
            size = ap length is ∙ put_all_size (fields_of u) u.words (slot_at g i + flags_offset);
            off = λ c out. kept_off c (elim out [ inl lt ↦ inl (omega (arith, lt)) | inr le ↦ inr (omega (arith, le)) ]);
          }

      field_at : (n q : ℕ) → n < 4 → flags_offset + n ≡ q → field g t i q ≡ slice_index (fields_of u) n
      field_at n q lt e' =
          let place : slot_at g i + q ≡ slot_at g i + flags_offset + n = omega (arith, e') in
          ap (slice_index t) place ∙ ap (λ l. slice_index l (slot_at g i + flags_offset + n)) is
          ∙ put_all_stored (fields_of u) u.words (slot_at g i + flags_offset) (omega (arith, slot_within g i can.within, width_is g, can.size)) n (omega (arith, lt))

      fields_are : HasFields g t i k x
      fields_are =
          let low = λ (n : ℕ) (lt : n < flags_offset). kept_off (slot_at g i + n) (inl (omega (arith, lt))) in
          key_kept g u.words t i k old x (fields_same g ws u.words i k old (head_fields g ws u.words can.before i) (reads_fields g ws i k old was))
          (record { hash = low hash_offset (omega arith); key_length = low key_length_offset (omega arith); key = λ j lt. kept_off (slot_at g i + (key_offset + j)) (inr (omega arith)) })
          (record {
            flags = field_at 0 flags_offset (omega arith) refl ∙ can.loaded.flags;
            expiry = field_at 1 expiry_offset (omega arith) refl ∙ can.loaded.expiry;
            unique = field_at 2 unique_offset (omega arith) refl ∙ can.unique;
            value_length = field_at 3 value_length_offset (omega arith) refl ∙ can.loaded.value_length;
          })

      still_used : field g t i used_offset ≢ 0
      still_used z =
          taken_used g ws b.moment i taken (sym (head_fields g ws u.words can.before i used_offset (omega arith)) ∙ sym (kept_off (slot_at g i + used_offset) (inl (omega arith))) ∙ z)

    pub replace_ends : u.stores + 4 ≤ e.log_room → Ends e replace_fields u (FieldsStored g e ws b counter i index k x (u.steps + 9) (u.stores + 4))
    replace_ends logs =
        let room : slot_at g i + value_offset ≤ length u.words = omega (arith, can.size, slot_within g i can.within, width_is g) in
        then_so e fielder replace_fields u (Stored u u.words (slot_at g i + flags_offset) (fields_of u) 9) (FieldsStored g e ws b counter i index k x (u.steps + 9) (u.stores + 4)) refl
        (λ t f d.
        let o = only_fields t.words d.words in
        record {
          steps = d.steps;
          stores = d.stores;
          others = others_stay t.words o;
          head = head_stays t.words o;
          used = still_used t.words d.words;
          fields = fields_are t.words d.words;
          can = value_follows t (f.stage refl) (f.regs r_zero refl) (f.regs r_one refl) (f.regs r_place refl) (f.regs r_value_words refl) o (omega (arith, d.floor));
        })
        (replace_fields_end e u (slot_at g i) can.one can.place (omega (arith, can.low, slot_floor g i)) (omega (arith, room)) (omega (arith, few_words g can.valid, can.size)) logs)

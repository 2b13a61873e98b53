-- What the program of a new item's fields and key leaves.
use Rattle.std.proofs.Common.{◌≡◌, ◌≢◌, ℕ, ◌+◌, ◌^◌, ◌<◌, ◌≤◌, inl, inr, List, length, refl, ap, ◌∙◌, arith}
use Rattle.std.specs.Prelude.{slice_index, true, false, nat_eq, ◌||◌, [], ◌∷◌}
use Rattle.mc_model.specs.declared.geometry.Geometry.{Geometry}
use Rattle.mc_model.specs.Bucket.{Item, Bucket}
use Rattle.mc_model.specs.Packed.{pack}
use Rattle.mc_model.proofs.PublicPacking.{length_pack}
use Rattle.sei_words.specs.Layout.{used_offset, hash_offset, key_length_offset, flags_offset, expiry_offset, unique_offset, value_length_offset, key_offset, key_room, value_offset, slot_at, field}
use Rattle.sei_words.specs.Changes.{OnlyFields, HasFields}
use Rattle.sei_words.proofs.PublicLayout.{slot_floor, slot_within, width_is, few_words}
use Rattle.sei_stmt.specs.Order.{is_parsed}
use Rattle.sei_stmt.specs.Runs.{Given, RunState}
use Rattle.sei_stmt.specs.declared.stmt.Stmt.TheVariants.{Add}
use Rattle.sei_stmt.specs.Programs.{Prog, Block, Seq, Ends}
use Rattle.sei_stmt.specs.Touch.{Touch}
use Rattle.sei_stmt.proofs.Public.{seq, then_so}
use Rattle.tab_find.specs.Calls.{HasKey}
use Rattle.tab_find.specs.Found.{HasKeyLoaded}
use Rattle.tab_find.specs.Inputs.{key_index}
use Rattle.tab_find.specs.Registers.{r_zero, r_one, r_key_words, r_place, r_index, r_limit, r_value_words}
use Rattle.tab_find.specs.StorePrograms.{new_head, new_fields, copy_run}
use Rattle.tab_find.specs.Copies.{IsCopied, Copied}
use Rattle.tab_find.proofs.Copy.{put_all, put_all_size, put_all_off, put_all_stored, copier, copy_run_ends}
use Rattle.tab_find.proofs.FieldStores.{fielder, head_of, Headed, new_head_end}
use Rattle.tab_find.proofs.ItemEnds.{FieldsStored}
use Rattle.tab_find.proofs.MachineLaws.{sum_is}
use Rattle.tab_find.proofs.FieldEnds.{CanStoreFields, value_follows, others_stay, head_stays}

-- the copy of the key, with its limit
abbrev key_copy : Prog
key_copy = Seq (Block (Add r_limit r_index r_key_words ∷ [])) (copy_run r_limit)

abbrev key_copier : Touch
key_copier = record { regs = λ r. nat_eq r r_limit || copier.regs r; words = true; out = false; stage = false }

module _ (g : Geometry) (e : Given) (ws : List ℕ) (b : Bucket) (counter i index w : ℕ) (k : List ℕ) (x : Item) (u : RunState) (can : CanStoreFields g e ws b counter i index w x u) (key : HasKey e.input k) (some : 1 ≤ length k) (loaded : HasKeyLoaded k u) where
  -- the words of slot i after its head and its key were stored, which come to t and then to y
  module _ (t y : List ℕ) (is : t ≡ put_all u.words (slot_at g i) (head_of u)) (c : IsCopied (pack k) t (slot_at g i + key_offset) (length (pack k)) y) where
    whole_slot : slot_at g i + value_offset ≤ length u.words
    whole_slot = omega (arith, can.size, slot_within g i can.within, width_is g)

    short : length (pack k) ≤ key_room
    short = omega (arith, length_pack k, key.fits)

    only_fields : OnlyFields g u.words y i
    only_fields =
        record {
          size = c.size ∙ ap length is ∙ put_all_size (head_of u) u.words (slot_at g i);
          off = λ q out. c.off q (elim out [ inl lt ↦ inl (omega (arith, lt)) | inr le ↦ inr (omega (arith, le, short)) ]) ∙ ap (λ l. slice_index l q) is
              ∙ put_all_off (head_of u) u.words (slot_at g i) q (elim out [ inl lt ↦ inl lt | inr le ↦ inr (omega (arith, le)) ]);
        }

    head_at : (q : ℕ) → q < key_offset → field g y i q ≡ slice_index (head_of u) q
    head_at q lt =
        c.off (slot_at g i + q) (inl (omega (arith, lt))) ∙ ap (λ l. slice_index l (slot_at g i + q)) is
        ∙ put_all_stored (head_of u) u.words (slot_at g i) (omega (arith, whole_slot)) q (omega (arith, lt))

    fields_are : HasFields g y i k x
    fields_are =
        record {
          hash = head_at hash_offset (omega arith) ∙ loaded.hash;
          key_length = head_at key_length_offset (omega arith) ∙ loaded.key_length;
          flags = head_at flags_offset (omega arith) ∙ can.loaded.flags;
          expiry = head_at expiry_offset (omega arith) ∙ can.loaded.expiry;
          unique = head_at unique_offset (omega arith) ∙ can.unique;
          value_length = head_at value_length_offset (omega arith) ∙ can.loaded.value_length;
          key_bytes = key.bytes;
          key_fits = key.fits;
          key = c.there;
        }

    now_used : field g y i used_offset ≢ 0
    now_used z = absurd (omega (arith, head_at used_offset (omega arith) ∙ can.one, z))

  -- the statements and the stores of the head and of the longest key
  pub new_ends : u.stores + value_offset ≤ e.log_room → Ends e new_fields u (FieldsStored g e ws b counter i index k x (u.steps + 180) (u.stores + value_offset))
  new_ends logs =
      let room : slot_at g i + value_offset ≤ length u.words = omega (arith, can.size, slot_within g i can.within, width_is g) in
      let little : length u.words < 2 ^ 32 = omega (arith, few_words g can.valid, can.size) in
      let long = length_pack k in
      let fits = key.fits in
      let Done = FieldsStored g e ws b counter i index k x (u.steps + 180) (u.stores + value_offset) in
      seq e fielder new_head key_copy u (Headed u (u.regs r_place)) Done refl
      (new_head_end e u can.one (omega (arith, can.low, slot_floor g i, can.place)) (omega (arith, can.place, room)) little (omega (arith, logs)))
      (λ t f d.
      let is : t.words ≡ put_all u.words (slot_at g i) (head_of u) = d.words ∙ ap (λ q. put_all u.words q (head_of u)) can.place in
      let size : length t.words ≡ length u.words = f.size in
      then_so e key_copier key_copy t (Copied (pack k) t.words (slot_at g i + key_offset) (u.steps + 180) (u.stores + value_offset)) Done refl
      (λ y fy c.
      let o = only_fields t.words y.words is c.copied in
      let still = λ (r : ℕ) (h : key_copier.regs r ≡ false) (h' : fielder.regs r ≡ false). fy.regs r h ∙ f.regs r h' in
      record {
        steps = c.steps;
        stores = c.stores;
        others = others_stay g e ws b counter i index w k x u can y.words o;
        head = head_stays g e ws b counter i index w k x u can y.words o;
        used = now_used t.words y.words is c.copied;
        fields = fields_are t.words y.words is c.copied;
        can = value_follows g e ws b counter i index w k x u can y (fy.stage refl ∙ f.stage refl) (still r_zero refl refl) (still r_one refl refl) (still r_place refl refl) (still r_value_words refl refl) o (omega (arith, c.floor, long, fits));
      }) (
        key_index + length (pack k),
        sum_is _ _ _ (omega (arith, d.index, f.regs r_key_words refl, loaded.key_words, long)) (omega (arith, long, fits)),
        copy_run_ends e r_limit key_index (pack k) t.words (slot_at g i + key_offset) (u.steps + 180) (u.stores + value_offset) _
            (record {
              some = omega (arith, long, some);
              same = refl;
              parsed = ap is_parsed (f.stage refl) ∙ can.parsed;
              low = omega (arith, d.floor, can.place);
              one = f.regs r_one refl ∙ can.one;
              address = omega (arith, d.address, can.place);
              begins = d.index;
              ends = refl;
              room = omega (arith, size, room, long, fits);
              small = omega (arith, size, little);
              few = omega (arith, long, fits);
              there = omega (arith, long, fits, key.room);
              stored = key.words;
            }) logs refl (omega (arith, d.stores, long, fits)) (omega (arith, d.steps, long, fits)),
      ))

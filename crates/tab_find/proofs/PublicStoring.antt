-- The laws of the programs that change a bucket, each from words that stand for it to words that stand for it changed.
use Rattle.std.proofs.Common.{◌≡◌, ◌≢◌, ℕ, ◌+◌, ◌*◌, ◌<◌, ◌≤◌, inl, inr, List, length, None, refl, sym, ap, ◌∙◌, subst, arith}
use Rattle.std.specs.Prelude.{slice_set, slice_index, true}
use Rattle.mc_model.specs.declared.geometry.Geometry.{Geometry}
use Rattle.mc_model.specs.declared.outcome.Change.TheVariants.{Keep, Put, Draw, Make, Remove}
use Rattle.mc_model.specs.Answer.{bucket_after}
use Rattle.mc_model.specs.Bucket.{Item, Bucket, lookup, purged}
use Rattle.mc_model.specs.Server.{IsValid}
use Rattle.mc_model.proofs.PublicPacking.{length_pack}
use Rattle.sei_words.specs.Layout.{used_offset, hash_offset, key_length_offset, flags_offset, expiry_offset, unique_offset, value_length_offset, key_offset, value_offset, slot_at, word_count}
use Rattle.sei_words.specs.Stands.{StandsFor, Reads}
use Rattle.sei_words.specs.Changes.{HasFields, WasThere}
use Rattle.sei_words.proofs.PublicChanges.{head_of, head_same, kept, fields_only, removed}
use Rattle.sei_words.proofs.PublicLayout.{slot_floor, field_within, few_words}
use Rattle.sei_words.proofs.PublicSlots.{taken_used, free_not_taken, reads_fields, key_kept, field_stored, field_is, field_other}
use Rattle.sei_stmt.specs.Order.{is_parsed}
use Rattle.sei_stmt.specs.Runs.{Given, RunState}
use Rattle.sei_stmt.specs.Programs.{Seq, Ends, IsParsed, Prog}
use Rattle.sei_stmt.specs.Touch.{Touch, within, Framed}
use Rattle.sei_stmt.proofs.Public.{seq, then_so}
use Rattle.tab_find.specs.Answers.{HasConstants}
use Rattle.tab_find.specs.Calls.{HasKey}
use Rattle.tab_find.specs.Found.{IsPresent, IsGiven, HasKeyLoaded, Changed}
use Rattle.tab_find.specs.Registers.{r_zero, r_one, r_key_length, r_hash, r_key_words, r_place, r_flags, r_expiry, r_unique, r_value_length, r_value_words}
use Rattle.tab_find.specs.StorePrograms.{draw, replace_fields, new_fields, store_value, keep_program, put_program, put_expiry_program, draw_program, make_program, remove_program}
use Rattle.tab_find.proofs.FieldEnds.{CanStoreFields, replace_ends}
use Rattle.tab_find.proofs.FieldStores.{fielder}
use Rattle.tab_find.proofs.NewEnds.{new_ends}
use Rattle.tab_find.proofs.ItemEnds.{ItemStored}
use Rattle.tab_find.proofs.MachineLaws.{sum_is}
pub use Rattle.tab_find.specs.Copies.{IsCopied, Copied, CanCopy}
pub use Rattle.tab_find.proofs.Copy.{copier, copy_run_ends}
pub use Rattle.tab_find.proofs.CounterEnds.{drawer, drawn, Drawn, counter_ends}
pub use Rattle.tab_find.specs.Copies.{store_steps, store_stores, CanStoreValue, CanStoreIn, HasStored, Loaded, HasLoaded}
pub use Rattle.tab_find.proofs.StoreValue.{value_registers, storer, store_value_ends}
pub use Rattle.tab_find.proofs.ItemEnds.{FieldsStored, item_ends}
pub use Rattle.tab_find.proofs.ClearEnds.{clear_ends}
pub use Rattle.tab_find.proofs.ExpiryEnds.{loader, CallLoaded, load_call_ends, dater, Dated, expiry_ends}

-- nothing changes

pub keep_ends : (g : Geometry) (e : Given) (ws : List ℕ) (b : Bucket) (key : List ℕ) → StandsFor g ws b → (s : RunState) (bound most : ℕ) → s.words ≡ ws → s.stores ≤ most → s.steps ≤ bound → Ends e keep_program s (Changed g key Keep b bound most)
keep_ends g e ws b key h s bound most same stores steps =
    record { steps = steps; stores = stores; stands = subst (λ l. StandsFor g l (purged (bucket_after key Keep b))) (sym same) (kept g ws b key h) }

-- the key's item is removed

pub remove_ends : (g : Geometry) (e : Given) (ws : List ℕ) (b : Bucket) (key : List ℕ) (old : Item) → StandsFor g ws b → (s : RunState) (bound most : ℕ) → IsPresent g ws b key old (s.regs r_place) → s.words ≡ ws → HasConstants g b.moment s → s.floor ≤ 1 →
    s.stores + 1 ≤ most → most ≤ e.log_room → s.steps + 1 ≤ bound → Ends e remove_program s (Changed g key Remove b bound most)
remove_ends g e ws b key old h s bound most was same constants floor stores logs steps =
    let i = was.slot in
    let place : s.regs r_place ≡ slot_at g i + used_offset = omega (arith, was.begins) in
    let inside : s.regs r_place < length s.words = omega (arith, place, field_within g i used_offset was.within (omega arith), h.size, ap length same) in
    let is : slice_set s.words (s.regs r_place) (s.regs r_zero) ≡ slice_set ws (slot_at g i + used_offset) 0 =
    ap (λ l. slice_set l (s.regs r_place) (s.regs r_zero)) same ∙ ap (λ a. slice_set ws a (s.regs r_zero)) place ∙ ap (slice_set ws (slot_at g i + used_offset)) constants.none in (
      inside,
      omega (arith, floor, was.begins, slot_floor g i),
      omega (arith, stores, logs),
      record {
        steps = omega (arith, steps);
        stores = omega (arith, stores);
        stands = subst (λ l. StandsFor g l (purged (bucket_after key Remove b))) (sym is)
            (removed g ws _ b i key old was.within h (field_stored g ws i used_offset 0 (omega arith)) was.taken was.reads (field_is g ws i used_offset 0 h.size was.within (omega arith)));
      },
    )

-- the key's item gets another expiry

expiry_fields : (g : Geometry) (ws : List ℕ) (i expiry : ℕ) (key : List ℕ) (old : Item) → length ws ≡ word_count g → i < g.slots → Reads g ws i key old → HasFields g (slice_set ws (slot_at g i + expiry_offset) expiry) i key (record old { expiry = expiry })
expiry_fields g ws i expiry key old size lt was =
    let still = λ (n : ℕ) (ne : n ≢ expiry_offset). field_other g ws i expiry_offset n expiry ne in
    key_kept g ws (slice_set ws (slot_at g i + expiry_offset) expiry) i key old (record old { expiry = expiry }) (reads_fields g ws i key old was)
    (record { hash = still hash_offset (omega arith); key_length = still key_length_offset (omega arith); key = λ j lj. still (key_offset + j) (omega arith) })
    (record {
      flags = still flags_offset (omega arith) ∙ was.flags;
      expiry = field_is g ws i expiry_offset expiry size lt (omega arith);
      unique = still unique_offset (omega arith) ∙ was.unique;
      value_length = still value_length_offset (omega arith) ∙ was.value_length;
    })

pub put_expiry_ends : (g : Geometry) (e : Given) (ws : List ℕ) (b : Bucket) (key : List ℕ) (old : Item) (expiry : ℕ) → IsValid g → StandsFor g ws b → (s : RunState) (bound most : ℕ) → IsPresent g ws b key old (s.regs r_place) → s.regs r_expiry ≡ expiry → s.words ≡ ws →
    HasConstants g b.moment s → s.floor ≤ 1 → s.stores + 1 ≤ most → most ≤ e.log_room → s.steps + 2 ≤ bound → Ends e put_expiry_program s (Changed g key (Put (record old { expiry = expiry })) b bound most)
put_expiry_ends g e ws b key old expiry valid h s bound most was loaded same constants floor stores logs steps =
    let i = was.slot in
    let a = slot_at g i + expiry_offset in
    let inside = field_within g i expiry_offset was.within (omega arith) in
    let is : slice_set s.words a (s.regs r_expiry) ≡ slice_set ws a expiry = ap (λ l. slice_set l a (s.regs r_expiry)) same ∙ ap (slice_set ws a) loaded in (
      a,
      sum_is _ _ _ (omega (arith, was.begins, constants.to_expiry)) (omega (arith, inside, few_words g valid)),
      (
        omega (arith, inside, h.size, ap length same),
        omega (arith, floor, slot_floor g i),
        omega (arith, stores, logs),
        record {
          steps = omega (arith, steps);
          stores = omega (arith, stores);
          stands = subst (λ l. StandsFor g l (purged (bucket_after key (Put (record old { expiry = expiry })) b))) (sym is)
              (fields_only g ws _ b i key (record old { expiry = expiry }) b.counter h old was.within (field_stored g ws i expiry_offset expiry (omega arith)) was.taken was.reads refl
              (λ z. taken_used g ws b.moment i was.taken (sym (field_other g ws i expiry_offset used_offset expiry (omega arith)) ∙ z)) (expiry_fields g ws i expiry key old h.size was.within was.reads) refl);
        },
      ),
    )

-- the key's item is replaced by one that is loaded
pub put_ends : (g : Geometry) (e : Given) (ws : List ℕ) (b : Bucket) (key : List ℕ) (old x : Item) (index w : ℕ) → IsValid g → StandsFor g ws b → (s : RunState) (bound most : ℕ) → IsPresent g ws b key old (s.regs r_place) → HasLoaded e.input index w g x s →
    s.regs r_unique ≡ x.unique → IsParsed s.stage → s.words ≡ ws → HasConstants g b.moment s → s.floor ≤ 1 → s.stores + 4 + w ≤ most → most ≤ e.log_room → s.steps + 5 * w + 15 ≤ bound → Ends e (put_program index) s (Changed g key (Put x) b bound most)
put_ends g e ws b key old x index w valid h s bound most was loaded unique parsed same constants floor stores logs steps =
    let i = was.slot in
    let long = length_pack x.value in
    let can : CanStoreFields g e ws b b.counter i index w x s = record {
      valid = valid;
      within = was.within;
      size = ap length same ∙ h.size;
      parsed = parsed;
      low = omega (arith, floor);
      none = constants.none;
      one = constants.one;
      place = was.begins;
      unique = unique;
      loaded = loaded;
      before = record { size = ap length same; off = λ a le. ap (λ l. slice_index l a) same };
      head = head_same ws s.words b (λ a lt. ap (λ l. slice_index l a) same) (head_of g ws b h);
    } in
    then_so e storer (put_program index) s (ItemStored g b b.counter key x bound most) (Changed g key (Put x) b bound most) refl
    (λ t f d. record { steps = d.steps; stores = d.stores; stands = d.stands })
    (item_ends g e s ws b b.counter i index key x replace_fields fielder (s.steps + 9) bound (s.stores + 4) most was.within h (inl (was.taken, (old, was.reads))) loaded.bytes refl
    (replace_ends g e ws b b.counter i index w key x s can old was.taken was.reads (omega (arith, stores, logs)))
    (omega (arith, steps, long, loaded.few)) (omega (arith, stores, long, loaded.few)) logs)

-- a unique is drawn, and an item stored with it

module _ (g : Geometry) (e : Given) (ws : List ℕ) (b : Bucket) (key : List ℕ) (x : Item) (index w : ℕ) (valid : IsValid g) (h : StandsFor g ws b) (s : RunState) (loaded : HasLoaded e.input index w g x s) (unique : x.unique ≡ drawn b.counter) (parsed : IsParsed s.stage) (same : s.words ≡ ws) (constants : HasConstants g b.moment s) where
  -- after the draw the fields of slot i can be stored
  can_store : (i : ℕ) → i < g.slots → s.regs r_place ≡ slot_at g i → (bound most : ℕ) (u : RunState) → Framed drawer s u → Drawn ws b bound most u → CanStoreFields g e ws b x.unique i index w x u
  can_store i lt begins bound most u f d =
      record {
        valid = valid;
        within = lt;
        size = d.before.size ∙ h.size;
        parsed = ap is_parsed (f.stage refl) ∙ parsed;
        low = d.floor;
        none = f.regs r_zero refl ∙ constants.none;
        one = f.regs r_one refl ∙ constants.one;
        place = f.regs r_place refl ∙ begins;
        unique = d.unique ∙ sym unique;
        loaded = record {
          flags = f.regs r_flags refl ∙ loaded.flags;
          expiry = f.regs r_expiry refl ∙ loaded.expiry;
          value_length = f.regs r_value_length refl ∙ loaded.value_length;
          value_words = f.regs r_value_words refl ∙ loaded.value_words;
          bytes = loaded.bytes;
          fits = loaded.fits;
          few = loaded.few;
          stored = loaded.stored;
          room = loaded.room;
          near = loaded.near;
        };
        before = d.before;
        head = record { moment = d.head.moment; counter = d.head.counter ∙ sym unique };
      }

  -- any program of fields after the draw, of so many statements and stores at most, and then the value
  drawn_ends : (i : ℕ) → i < g.slots → s.regs r_place ≡ slot_at g i → WasThere g ws b i key → (p : Prog) (touch : Touch) → within touch p ≡ true → (made few : ℕ) →
      ((u : RunState) → Framed drawer s u → CanStoreFields g e ws b x.unique i index w x u → u.stores ≤ s.stores + 1 → Ends e p u (FieldsStored g e ws b x.unique i index key x (u.steps + made) (u.stores + few))) →
      (bound most : ℕ) → s.floor ≤ 1 → s.stores + 1 + few + w ≤ most → most ≤ e.log_room → s.steps + 9 + made + 5 * w ≤ bound → Ends e (Seq draw (Seq p (store_value index))) s (ItemStored g b x.unique key x bound most)
  drawn_ends i lt begins was p touch ok made few fields bound most floor stores logs steps =
      let long = length_pack x.value in
      seq e drawer draw (Seq p (store_value index)) s (Drawn ws b (s.steps + 3) (s.stores + 1)) (ItemStored g b x.unique key x bound most) refl
      (counter_ends g e s ws b (s.steps + 3) (s.stores + 1) h same constants.one floor (omega arith) (omega (arith, stores, logs)) (omega arith))
      (λ u f d.
      item_ends g e u ws b x.unique i index key x p touch (u.steps + made) bound (u.stores + few) most lt h was loaded.bytes ok
      (fields u f (can_store i lt begins (s.steps + 3) (s.stores + 1) u f d) d.stores)
      (omega (arith, d.steps, steps, long, loaded.few)) (omega (arith, d.stores, stores, long, loaded.few)) logs)

-- the item at the key is replaced
pub draw_ends : (g : Geometry) (e : Given) (ws : List ℕ) (b : Bucket) (key : List ℕ) (old x : Item) (index w : ℕ) → IsValid g → StandsFor g ws b → (s : RunState) (bound most : ℕ) → IsPresent g ws b key old (s.regs r_place) → HasLoaded e.input index w g x s →
    x.unique ≡ drawn b.counter → IsParsed s.stage → s.words ≡ ws → HasConstants g b.moment s → s.floor ≤ 1 → s.stores + 5 + w ≤ most → most ≤ e.log_room → s.steps + 5 * w + 30 ≤ bound → Ends e (draw_program index) s (Changed g key (Draw x) b bound most)
draw_ends g e ws b key old x index w valid h s bound most was loaded unique parsed same constants floor stores logs steps =
    then_so e storer (draw_program index) s (ItemStored g b x.unique key x bound most) (Changed g key (Draw x) b bound most) refl
    (λ t f d. record { steps = d.steps; stores = d.stores; stands = d.stands })
    (drawn_ends g e ws b key x index w valid h s loaded unique parsed same constants was.slot was.within was.begins (inl (was.taken, (old, was.reads))) replace_fields fielder refl 9 4
    (λ u f can few. replace_ends g e ws b x.unique was.slot index w key x u can old was.taken was.reads (omega (arith, few, stores, logs)))
    bound most floor (omega (arith, stores)) logs (omega (arith, steps)))

-- a new item is made at a key that has none
pub make_ends : (g : Geometry) (e : Given) (ws : List ℕ) (b : Bucket) (key : List ℕ) (x : Item) (index w : ℕ) → IsValid g → StandsFor g ws b → HasKey e.input key → 1 ≤ length key → lookup key b.items ≡ None → (s : RunState) (bound most : ℕ) →
    IsGiven g ws b.moment (s.regs r_place) → HasKeyLoaded key s → HasLoaded e.input index w g x s → x.unique ≡ drawn b.counter → IsParsed s.stage → s.words ≡ ws → HasConstants g b.moment s → s.floor ≤ 1 → s.stores + 40 + w ≤ most → most ≤ e.log_room →
    s.steps + 5 * w + 200 ≤ bound → Ends e (make_program index) s (Changed g key (Make x) b bound most)
make_ends g e ws b key x index w valid h call some none s bound most given key_loaded loaded unique parsed same constants floor stores logs steps =
    then_so e storer (make_program index) s (ItemStored g b x.unique key x bound most) (Changed g key (Make x) b bound most) refl
    (λ t f d. record { steps = d.steps; stores = d.stores; stands = d.stands })
    (drawn_ends g e ws b key x index w valid h s loaded unique parsed same constants given.slot given.within given.begins (inr (free_not_taken g ws b.moment given.slot given.free, none)) new_fields storer refl 180 value_offset
    (λ u f can few.
    let key_still : HasKeyLoaded key u = record {
      key_length = f.regs r_key_length refl ∙ key_loaded.key_length;
      hash = f.regs r_hash refl ∙ key_loaded.hash;
      key_words = f.regs r_key_words refl ∙ key_loaded.key_words;
    } in
    new_ends g e ws b x.unique given.slot index w key x u can call some key_still (omega (arith, few, stores, logs)))
    bound most floor (omega (arith, stores)) logs (omega (arith, steps)))

-- What the programs do that read an item and make output words.
use Rattle.std.specs.Prelude.{slice_index}
use Rattle.std.proofs.Common.{◌≡◌, ℕ, ◌+◌, ◌*◌, ◌%◌, ◌^◌, ◌<◌, ◌≤◌, Bool, true, false, List, [], ◌∷◌, ◌++◌, length, refl, sym, ap, ◌∙◌, subst, arith, append_assoc}
use Rattle.mc_model.specs.declared.geometry.Geometry.{Geometry}
use Rattle.mc_model.specs.Bucket.{Item, Bucket}
use Rattle.mc_model.specs.Call.{Call}
use Rattle.mc_model.specs.Packed.{words_for, pack}
use Rattle.mc_model.specs.Server.{IsValid}
use Rattle.mc_model.proofs.PublicPacking.{length_pack}
use Rattle.sei_words.specs.Layout.{slot_at, word_count, field, flags_offset, expiry_offset, unique_offset, value_length_offset, key_offset, value_offset}
use Rattle.sei_words.specs.Stands.{StandsFor}
use Rattle.sei_words.specs.Stored.{StoredAt}
use Rattle.sei_words.specs.Value.{HasValue}
use Rattle.sei_words.proofs.PublicLayout.{slot_within, width_is, field_within, few_words}
use Rattle.sei_stmt.specs.Runs.{Given, RunState, tick, write}
use Rattle.sei_stmt.specs.Programs.{Prog, RepeatLt, Ends, HasWord, IsParsed, Post}
use Rattle.sei_stmt.proofs.Public.{then_so}
use Rattle.tab_find.specs.Answers.{HasConstants}
use Rattle.tab_find.specs.Calls.{IsCall, mark}
use Rattle.tab_find.specs.Found.{IsPresent, HasKeyLoaded}
use Rattle.tab_find.specs.Inputs.{unique_index}
use Rattle.tab_find.specs.Registers.{r_zero, r_one, r_place, r_address, r_word, r_other, r_limit, r_passed, r_flags, r_unique, r_value_length, r_noreply, r_eight}
use Rattle.tab_find.specs.ShowPrograms.{Sink, Out, read_run, load_item, load_uniques, read_value, say, if_wanted}
use Rattle.tab_find.proofs.MachineLaws.{sum_is, word_is}
use Rattle.tab_find.proofs.ReadLoops.{Told, Made, MayTell, tell_same, value_turn, told_tick, runner, value_turn_within, none_read, all_read, run_ends, pass_ends}
pub use Rattle.tab_find.proofs.ReadLoops.{told, told_count, told_room, is_output, Told, Made, CanTell, MayTell, reader, runner, item_loader, uniques_loader, sayer, run_within, value_within}

-- A text, and what is said if a reply is wanted.

pub say_ends : (e : Given) (s : RunState) (said : List ℕ) (n bound most : ℕ) → s.regs r_zero ≡ 0 → MayTell Out e said 2 most s → s.steps + 3 ≤ bound → Ends e (say n) s (Made (said ++ 0 ∷ n ∷ []) bound most)
say_ends e s said n bound most none m steps = (
  m.stage,
  omega (arith, m.few, m.fits),
  (
    m.stage,
    omega (arith, m.few, m.fits),
    record { steps = omega (arith, steps); emitted = omega (arith, m.few); made = append_assoc s.out (s.regs r_zero ∷ []) (n ∷ []) ∙ ap (λ l. l ++ s.regs r_zero ∷ n ∷ []) m.made ∙ ap (λ z. said ++ z ∷ n ∷ []) none },
  ),
)

pub if_wanted_ends : (e : Given) (p : Prog) (s : RunState) (Q : Post) (quiet : Bool) → s.regs r_noreply ≡ mark quiet → s.regs r_zero ≡ 0 →
    (quiet ≡ false → Ends e p (tick s) Q) → (quiet ≡ true → Q (tick (tick s))) → Ends e (if_wanted p) s Q
if_wanted_ends e p s Q true is none loud still = (λ h. absurd (omega (arith, h, is, none)), λ h. still refl)
if_wanted_ends e p s Q false is none loud still = (λ h. loud refl, λ h. absurd (h (is ∙ sym none)))

-- Runs of words.

-- these words stand from one address up to another
pub record IsRun (ws vs : List ℕ) (from to : ℕ) : Type 0 where
  pub stored : StoredAt ws from vs
  pub some : 1 ≤ length vs
  pub ends : to ≡ from + length vs
  pub inside : to ≤ length ws
  pub few : length ws < 2 ^ 32

-- a run
pub read_run_ends : (k : Sink) (e : Given) (ws vs said : List ℕ) (s : RunState) (bound most : ℕ) → IsRun ws vs (s.regs r_address) (s.regs r_limit) → s.words ≡ ws → s.regs r_one ≡ 1 → MayTell k e said (length vs) most s →
    s.steps + 4 * length vs ≤ bound → Ends e (read_run k) s (Told k (said ++ vs) bound most)
read_run_ends k e ws vs said s bound most run same one m steps =
    run_ends e ws vs said (s.regs r_address) most run.stored (omega (arith, run.ends, run.inside)) run.few k s bound run.some refl run.ends same one m steps

-- The value of a slot.

-- the statements that it takes to read so many words, at most
abbrev pub read_steps : ℕ → ℕ
read_steps count = 5 * count + 6

-- so many bytes, whose words these are
pub read_value_ends : (k : Sink) (g : Geometry) (e : Given) (i n : ℕ) (vs said : List ℕ) (s : RunState) (bound most : ℕ) → IsValid g → i < g.slots → length s.words ≡ word_count g → HasValue g s.words i vs → length vs ≡ words_for n →
    s.regs r_zero ≡ 0 → s.regs r_one ≡ 1 → s.regs r_place ≡ slot_at g i → s.regs r_value_length ≡ n → MayTell k e said (length vs) most s → s.steps + read_steps (length vs) ≤ bound →
    Ends e (read_value k) s (Told k (said ++ vs) bound most)
read_value_ends k g e i n vs said s bound most valid lt size has count none one place long m steps =
    let a = slot_at g i + value_offset in
    let inside : a + length vs ≤ length s.words = omega (arith, size, slot_within g i lt, width_is g, has.fits) in
    let few : length s.words < 2 ^ 32 = omega (arith, size, few_words g valid) in
    let t = write (write (write (write s r_address value_offset) r_address a) r_passed (s.regs r_zero)) r_eight 8 in (
      a,
      sum_is _ _ _ (omega (arith, place)) (omega (arith, inside, few)),
      (
        λ is.
            let empty : length vs ≡ 0 = omega (arith, is, long, none, count) in
            all_read e s.words vs said a most has.stored inside few k 0 bound (tick t)
            (none_read e s.words vs said a most has.stored inside few k (tick t) refl (tell_same k e said (length vs) most s (tick t) refl refl refl m)) (omega (arith, empty)) (omega (arith, steps)),
        λ ne.
            then_so e (runner k) (RepeatLt r_passed r_value_length (value_turn k)) (tick t) (Told k (said ++ vs) (s.steps + 5 * length vs + 5) most) (λ u. Told k (said ++ vs) bound most (tick u)) (value_turn_within k)
            (λ u f d. told_tick k (said ++ vs) (s.steps + 5 * length vs + 5) bound most u d (omega (arith, steps)))
            (pass_ends e s.words vs said a most has.stored inside few k n (tick t) (s.steps + 5 * length vs + 5) (omega (arith, ne, long, none)) count long none refl refl refl one
            (tell_same k e said (length vs) most s (tick t) refl refl refl m) (omega arith)),
      ),
    )

-- A field of a slot.

module _ (g : Geometry) (valid : IsValid g) (ws : List ℕ) (size : length ws ≡ word_count g) (i : ℕ) (within : i < g.slots) where
  field_small : (n : ℕ) → n < value_offset → slot_at g i + n < 2 ^ 64
  field_small n lt = omega (arith, field_within g i n within lt, few_words g valid)

  -- the address goes on to the next one
  field_next : (n next one : ℕ) → one ≡ 1 → n + 1 ≡ next → next < value_offset → (slot_at g i + n + one) % 2 ^ 64 ≡ slot_at g i + next
  field_next n next one is_one is lt = sum_is (slot_at g i + n) one (slot_at g i + next) (omega (arith, is, is_one)) (field_small next lt)

  field_word : (words : List ℕ) (n v : ℕ) → words ≡ ws → field g ws i n ≡ v → n < value_offset → HasWord words (slot_at g i + n) v
  field_word words n v same is lt = subst (λ l. HasWord l (slot_at g i + n) v) (sym same) (subst (λ w. HasWord ws (slot_at g i + n) w) is (word_is ws (slot_at g i + n) (slot_at g i + n) refl (omega (arith, size, field_within g i n within lt))))

-- Of the item that was found.

module _ (g : Geometry) (e : Given) (ws : List ℕ) (b : Bucket) (key : List ℕ) (x : Item) (valid : IsValid g) (stands : StandsFor g ws b) where
  -- its fields are in the registers, and the run of its key's words
  pub record ItemLoaded (bound : ℕ) (t : RunState) : Type 0 where
    pub steps : t.steps ≤ bound
    pub flags : t.regs r_flags ≡ x.flags
    pub unique : t.regs r_unique ≡ x.unique
    pub value_length : t.regs r_value_length ≡ length x.value
    pub key_words : IsRun ws (pack key) (t.regs r_address) (t.regs r_limit)

  -- its cas unique and the one that the call names are in the registers
  pub record UniquesLoaded (c : Call) (bound : ℕ) (t : RunState) : Type 0 where
    pub steps : t.steps ≤ bound
    pub of_item : t.regs r_word ≡ x.unique
    pub of_call : t.regs r_other ≡ c.unique

  pub load_uniques_ends : (s : RunState) (c : Call) (bound : ℕ) → IsPresent g ws b key x (s.regs r_place) → IsCall e.input c → IsParsed s.stage → s.words ≡ ws → s.steps + 5 ≤ bound → Ends e load_uniques s (UniquesLoaded c bound)
  load_uniques_ends s c bound p call parsed same steps = (
    slot_at g p.slot + unique_offset,
    sum_is _ _ _ (omega (arith, p.begins)) (field_small g valid ws stands.size p.slot p.within unique_offset (omega arith)),
    (
      x.unique,
      field_word g valid ws stands.size p.slot p.within s.words unique_offset x.unique same p.reads.unique (omega arith),
      (
        parsed,
        slice_index e.input unique_index,
        word_is e.input unique_index unique_index refl (omega (arith, call.block.room)),
        record { steps = omega (arith, steps); of_item = refl; of_call = call.unique },
      ),
    ),
  )

  pub load_item_ends : (s : RunState) (bound : ℕ) → IsPresent g ws b key x (s.regs r_place) → 1 ≤ length key → HasKeyLoaded key s → HasConstants g b.moment s → s.words ≡ ws → s.steps + 10 ≤ bound → Ends e load_item s (ItemLoaded bound)
  load_item_ends s bound p some loaded constants same steps = (
    slot_at g p.slot + flags_offset,
    sum_is _ _ _ (omega (arith, p.begins)) (field_small g valid ws stands.size p.slot p.within flags_offset (omega arith)),
    (
      x.flags,
      field_word g valid ws stands.size p.slot p.within s.words flags_offset x.flags same p.reads.flags (omega arith),
      (
        slot_at g p.slot + expiry_offset,
        field_next g valid ws stands.size p.slot p.within flags_offset expiry_offset (s.regs r_one) constants.one (omega arith) (omega arith),
        (
          slot_at g p.slot + unique_offset,
          field_next g valid ws stands.size p.slot p.within expiry_offset unique_offset (s.regs r_one) constants.one (omega arith) (omega arith),
          (
            x.unique,
            field_word g valid ws stands.size p.slot p.within s.words unique_offset x.unique same p.reads.unique (omega arith),
            (
              slot_at g p.slot + value_length_offset,
              field_next g valid ws stands.size p.slot p.within unique_offset value_length_offset (s.regs r_one) constants.one (omega arith) (omega arith),
              (
                length x.value,
                field_word g valid ws stands.size p.slot p.within s.words value_length_offset (length x.value) same p.reads.value_length (omega arith),
                (
                  slot_at g p.slot + key_offset,
                  field_next g valid ws stands.size p.slot p.within value_length_offset key_offset (s.regs r_one) constants.one (omega arith) (omega arith),
                  (
                    slot_at g p.slot + key_offset + words_for (length key),
                    sum_is _ _ _ (omega (arith, loaded.key_words)) (omega (arith, p.reads.key_fits, slot_within g p.slot p.within, width_is g, few_words g valid)),
                    record {
                      steps = omega (arith, steps);
                      flags = refl;
                      unique = refl;
                      value_length = refl;
                      key_words = record {
                        stored = p.reads.key;
                        some = omega (arith, length_pack key, some);
                        ends = ap (λ n. slot_at g p.slot + key_offset + n) (sym (length_pack key));
                        inside = omega (arith, p.reads.key_fits, slot_within g p.slot p.within, width_is g, stands.size);
                        few = omega (arith, stands.size, few_words g valid);
                      };
                    },
                  ),
                ),
              ),
            ),
          ),
        ),
      ),
    ),
  )

  -- its value, whose length was loaded
  pub read_item_ends : (k : Sink) (said : List ℕ) (s : RunState) (bound most : ℕ) → IsPresent g ws b key x (s.regs r_place) → HasConstants g b.moment s → s.words ≡ ws → s.regs r_value_length ≡ length x.value →
      MayTell k e said (words_for (length x.value)) most s → s.steps + read_steps (words_for (length x.value)) ≤ bound → Ends e (read_value k) s (Told k (said ++ pack x.value) bound most)
  read_item_ends k said s bound most p constants same long m steps =
      let count = length_pack x.value in
      read_value_ends k g e p.slot (length x.value) (pack x.value) said s bound most valid p.within (ap length same ∙ stands.size) (subst (λ l. HasValue g l p.slot (pack x.value)) (sym same) p.reads.value) count
      constants.none constants.one p.begins long (subst (λ n. MayTell k e said n most s) (sym count) m) (omega (arith, steps, count))

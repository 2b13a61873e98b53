-- What the program that frees all slots does.
use Rattle.std.proofs.Common.{◌≡◌, ◌≢◌, ℕ, zero, suc, ◌+◌, ◌-◌, ◌*◌, ◌<◌, ◌≤◌, List, length, refl, sym, ap, ◌∙◌, subst, arith, below_more, get_or-set_other}
use Rattle.std.specs.Prelude.{slice_set, slice_index}
use Rattle.std.proofs.Math.ListN.{length-set}
use Rattle.mc_model.specs.declared.geometry.Geometry.{Geometry}
use Rattle.mc_model.specs.declared.outcome.Change.TheVariants.{Clear}
use Rattle.mc_model.specs.Bucket.{Bucket}
use Rattle.mc_model.specs.Server.{IsValid}
use Rattle.sei_words.specs.Layout.{used_offset, width, slot_at, word_count, field}
use Rattle.sei_words.specs.Stands.{StandsFor}
use Rattle.sei_words.specs.Changes.{AllUnused}
use Rattle.sei_words.proofs.PublicChanges.{emptied}
use Rattle.sei_words.proofs.PublicLayout.{slot_first, slot_next, slot_apart, slot_within, field_within, width_is, few_words}
use Rattle.sei_words.proofs.PublicSlots.{field_is}
use Rattle.sei_stmt.specs.Runs.{Given, RunState, tick}
use Rattle.sei_stmt.specs.Programs.{Block, Ends}
use Rattle.sei_stmt.proofs.Public.{repeat}
use Rattle.tab_find.specs.Answers.{HasConstants}
use Rattle.tab_find.specs.Found.{Changed}
use Rattle.tab_find.specs.Registers.{r_zero, r_width, r_end, r_address}
use Rattle.tab_find.specs.StorePrograms.{clear_turn, clear_program}
use Rattle.tab_find.proofs.MachineLaws.{sum_is}
use Rattle.tab_find.proofs.StoreValue.{storer}

-- the first words of the first n slots became 0, and all other words are as before
record UnusedBelow (g : Geometry) (ws : List ℕ) (n : ℕ) (t : List ℕ) : Type 0 where
  size : length t ≡ length ws
  off : (a : ℕ) → ((j : ℕ) → j < n → a ≢ slot_at g j + used_offset) → slice_index t a ≡ slice_index ws a
  unused : (j : ℕ) → j < n → field g t j used_offset ≡ 0

-- and so did that of the next slot
unused_more : (g : Geometry) (ws t : List ℕ) (n : ℕ) → length ws ≡ word_count g → n < g.slots → UnusedBelow g ws n t → UnusedBelow g ws (n + 1) (slice_set t (slot_at g n + used_offset) 0)
unused_more g ws t n size lt u =
    let a = slot_at g n + used_offset in
    record {
      size = length-set t a 0 ∙ u.size;
      off = λ c out. get_or-set_other t a c 0 0 (out n (omega arith)) ∙ u.off c (λ j lj. out j (omega (arith, lj)));
      unused = below_more (λ j. field g (slice_set t a 0) j used_offset ≡ 0) n
          (λ j lj. let ne : slot_at g j + used_offset ≢ a = omega (arith, slot_apart g j n lj, width_is g) in get_or-set_other t a (slot_at g j + used_offset) 0 0 ne ∙ u.unused j lj)
          (field_is g t n used_offset 0 (u.size ∙ size) lt (omega arith));
    }

all_unused : (g : Geometry) (ws t : List ℕ) (n : ℕ) → n ≡ g.slots → UnusedBelow g ws n t → AllUnused g ws t
all_unused g ws t n all u =
    let u' = subst (λ k. UnusedBelow g ws k t) all u in
    record { size = u'.size; off = u'.off; unused = u'.unused }

module _ (g : Geometry) (e : Given) (ws : List ℕ) (valid : IsValid g) (size : length ws ≡ word_count g) (bound most : ℕ) (logs : most ≤ e.log_room) where
  -- after a turn: so many slots became free, and as many as `left` are left
  record Clearing (left : ℕ) (t : RunState) : Type 0 where
    passed : ℕ
    all : passed + left ≡ g.slots
    steps : t.steps + 3 * left + 1 ≤ bound
    stores : t.stores + left ≤ most
    floor : t.floor ≤ slot_at g passed
    address : t.regs r_address ≡ slot_at g passed
    unused : UnusedBelow g ws passed t.words

  turn : (u : RunState) (passed left : ℕ) → passed + suc left ≡ g.slots → u.regs r_zero ≡ 0 → u.regs r_width ≡ width g → u.regs r_address ≡ slot_at g passed → u.floor ≤ slot_at g passed → u.stores + suc left ≤ most → u.steps + 3 * suc left ≤ bound →
      UnusedBelow g ws passed u.words → Ends e (Block clear_turn) u (Clearing left)
  turn u passed left all none wide address floor stores steps so_far =
      let lt : passed < g.slots = omega (arith, all) in
      let on = slot_next g passed in
      let place : u.regs r_address ≡ slot_at g passed + used_offset = omega (arith, address) in
      let is : slice_set u.words (u.regs r_address) (u.regs r_zero) ≡ slice_set u.words (slot_at g passed + used_offset) 0 =
      ap (λ a. slice_set u.words a (u.regs r_zero)) place ∙ ap (slice_set u.words (slot_at g passed + used_offset)) none in (
        omega (arith, place, so_far.size, size, field_within g passed used_offset lt (omega arith)),
        omega (arith, floor, address),
        omega (arith, stores, logs),
        (
          slot_at g (passed + 1),
          sum_is _ _ _ (omega (arith, address, wide, on)) (omega (arith, on, slot_within g passed lt, few_words g valid)),
          record {
            passed = passed + 1;
            all = omega (arith, all);
            steps = omega (arith, steps);
            stores = omega (arith, stores);
            floor = omega (arith, address, on, width_is g);
            address = refl;
            unused = subst (UnusedBelow g ws (passed + 1)) (sym is) (unused_more g ws u.words passed size lt so_far);
          },
        ),
      )

  next : (left : ℕ) (t : RunState) → t.regs r_zero ≡ 0 → t.regs r_width ≡ width g → t.regs r_end ≡ word_count g → Clearing left t → t.regs r_address < t.regs r_end → (k : ℕ) × (suc k ≡ left) × Ends e (Block clear_turn) (tick t) (Clearing k)
  next zero t none wide ends c lt = let all : c.passed ≡ g.slots = omega (arith, c.all) in absurd (omega (arith, lt, c.address, ends, ap (slot_at g) all))
  next (suc k) t none wide ends c lt = (k, refl, turn (tick t) c.passed k c.all none wide c.address c.floor c.stores (omega (arith, c.steps)) c.unused)

  -- at the end of all slots none is left
  passed_all : (left : ℕ) (t : RunState) → Clearing left t → word_count g ≤ t.regs r_address → left ≡ 0
  passed_all zero t c le = refl
  passed_all (suc k) t c le = absurd (omega (arith, le, c.address, slot_within g c.passed (omega (arith, c.all)), width_is g))

pub clear_ends : (g : Geometry) (e : Given) (ws : List ℕ) (b : Bucket) (key : List ℕ) → IsValid g → StandsFor g ws b → (s : RunState) (bound most : ℕ) → s.words ≡ ws → HasConstants g b.moment s → s.floor ≤ 1 → s.stores + g.slots ≤ most → most ≤ e.log_room →
    s.steps + 3 * g.slots + 1 ≤ bound → Ends e clear_program s (Changed g key Clear b bound most)
clear_ends g e ws b key valid h s bound most same constants floor stores logs steps =
    let more : suc (g.slots - 1) ≡ g.slots = omega (arith, valid.some_slots) in
    let begins = slot_first g in
    repeat e storer r_address r_end (Block clear_turn) _ (Clearing g e ws valid h.size bound most logs) (Changed g key Clear b bound most) refl
    (λ left t f c lt. next g e ws valid h.size bound most logs left t (f.regs r_zero refl ∙ constants.none) (f.regs r_width refl ∙ constants.wide) (f.regs r_end refl ∙ constants.ends) c lt)
    (λ left t f c le.
    let none : left ≡ 0 = passed_all g e ws valid h.size bound most logs left t c (omega (arith, le, f.regs r_end refl, constants.ends)) in
    record {
      steps = omega (arith, c.steps);
      stores = omega (arith, c.stores);
      stands = emptied g ws t.words b key h (all_unused g ws t.words c.passed (omega (arith, c.all, none)) c.unused);
    })
    (g.slots - 1)
    (turn g e ws valid h.size bound most logs _ 0 (g.slots - 1) (omega (arith, more)) constants.none constants.wide (sym begins) (omega (arith, floor, begins)) (omega (arith, stores, more)) (omega (arith, steps, more))
    (record { size = ap length same; off = λ a out. ap (λ l. slice_index l a) same; unused = λ j lj. absurd (omega (arith, lj)) }))

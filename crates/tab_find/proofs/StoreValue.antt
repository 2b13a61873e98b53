-- What the program that stores a value does.
use Rattle.std.proofs.Common.{◌≡◌, ℕ, ◌+◌, ◌*◌, ◌^◌, ◌<◌, ◌≤◌, Bool, inl, inr, List, length, refl, arith}
use Rattle.std.specs.Prelude.{false, true, nat_lt, ◌&&◌, ◌||◌}
use Rattle.mc_model.specs.declared.geometry.Geometry.{Geometry}
use Rattle.sei_words.specs.Layout.{value_offset, slot_at}
use Rattle.sei_words.specs.Changes.{ValueStored}
use Rattle.sei_words.proofs.PublicLayout.{slot_floor, slot_within, width_is, few_words}
use Rattle.sei_words.proofs.PublicSlots.{slot_others}
use Rattle.sei_stmt.specs.Runs.{Given, RunState, tick}
use Rattle.sei_stmt.specs.Programs.{Ends}
use Rattle.sei_stmt.specs.Touch.{Touch}
use Rattle.sei_stmt.proofs.Public.{then_so}
use Rattle.tab_find.specs.Copies.{IsCopied, Copied, CanStoreIn, HasStored, store_steps, store_stores}
use Rattle.tab_find.specs.Registers.{r_limit}
use Rattle.tab_find.specs.StorePrograms.{copy_run, store_value}
use Rattle.tab_find.proofs.MachineLaws.{sum_is}
use Rattle.tab_find.proofs.Copy.{copier, copy_run_ends}

-- the registers of the programs that store and read a value: 12 to 21, and 28 to 31. Nothing that follows such a program
-- relies on what they hold
abbrev pub value_registers : ℕ → Bool
value_registers r = (nat_lt 11 r && nat_lt r 22) || (nat_lt 27 r && nat_lt r 32)

-- those registers, and words
abbrev pub storer : Touch
storer = record { regs = value_registers; words = true; out = false; stage = false }

value_stored : (g : Geometry) (m : ℕ) (vs ws t : List ℕ) (i : ℕ) → length vs ≤ g.value_words → IsCopied vs ws (slot_at g i + value_offset) (length vs) t → ValueStored g m ws t i vs
value_stored g m vs ws t i fits c =
    record {
      value = record { fits = fits; stored = c.there };
      others = slot_others g m ws t i (record { size = c.size; off = λ a out. c.off a (elim out [ inl lt ↦ inl (omega (arith, lt)) | inr le ↦ inr (omega (arith, le, width_is g, fits)) ]) });
      fields = λ n lt. c.off (slot_at g i + n) (inl (omega (arith, lt)));
      head = λ a lt. c.off a (inl (omega (arith, lt, slot_floor g i)));
    }

-- no words were copied
none_copied : (vs ws : List ℕ) (a : ℕ) → length vs ≡ 0 → IsCopied vs ws a (length vs) ws
none_copied vs ws a none = record { size = refl; there = λ j lt. absurd (omega (arith, lt, none)); off = λ b out. refl }

pub store_value_ends : (g : Geometry) (e : Given) (s : RunState) (m index i : ℕ) (vs : List ℕ) (bound most : ℕ) → CanStoreIn g e index i vs s → s.stores + store_stores (length vs) ≤ most → most ≤ e.log_room → s.steps + store_steps (length vs) ≤ bound →
    Ends e (store_value index) s (HasStored g m s.words i vs bound most)
store_value_ends g e s m index i vs bound most can stores logs steps =
    let a = slot_at g i + value_offset in
    let room : a + length vs ≤ length s.words = omega (arith, can.size, slot_within g i can.within, width_is g, can.fits) in
    let small : length s.words < 2 ^ 32 = omega (arith, few_words g can.valid, can.size) in
    let few : index + length vs < 2 ^ 64 = omega (arith, can.few, room, small) in (
      a,
      sum_is _ _ _ (omega (arith, can.place)) (omega (arith, room, small)),
      (
        index + length vs,
        sum_is _ _ _ (omega (arith, can.count)) few,
        (
          λ none. record { steps = omega (arith, steps); stores = omega (arith, stores); value = value_stored g m vs s.words s.words i can.fits (none_copied vs s.words a (omega (arith, none, can.count, can.none))) },
          λ some. then_so e copier (copy_run r_limit) _ (Copied vs s.words a (s.steps + 5 + 5 * length vs) most) (λ t. HasStored g m s.words i vs bound most (tick t)) refl
              (λ t f d. record { steps = omega (arith, d.steps, steps); stores = d.stores; value = value_stored g m vs s.words t.words i can.fits d.copied })
              (copy_run_ends e r_limit index vs s.words a (s.steps + 5 + 5 * length vs) most _
              (record {
                some = omega (arith, can.count, can.none, some);
                same = refl;
                parsed = can.parsed;
                low = can.low;
                one = can.one;
                address = refl;
                begins = refl;
                ends = refl;
                room = room;
                small = small;
                few = few;
                there = can.there;
                stored = can.stored;
              }) logs refl stores (omega arith)),
        ),
      ),
    )

-- What the draw of a cas unique does.
use Rattle.std.proofs.Common.{◌≡◌, ◌≢◌, ℕ, ◌+◌, ◌%◌, ◌^◌, ◌<◌, ◌≤◌, List, length, refl, sym, ap, ◌∙◌, subst, arith, get_or-set_other, get_or-set_same}
use Rattle.std.specs.Prelude.{slice_set, slice_index, true, false, nat_eq}
use Rattle.std.proofs.Math.ListN.{length-set}
use Rattle.mc_model.specs.declared.geometry.Geometry.{Geometry}
use Rattle.mc_model.specs.Bucket.{Bucket}
use Rattle.sei_words.specs.Layout.{moment_address, counter_address, first_slot}
use Rattle.sei_words.specs.Stands.{StandsFor}
use Rattle.sei_words.specs.Changes.{HasHead, HeadStored}
use Rattle.sei_words.proofs.PublicLayout.{slot_floor}
use Rattle.sei_stmt.specs.Runs.{Given, RunState}
use Rattle.sei_stmt.specs.Programs.{Ends}
use Rattle.sei_stmt.specs.Touch.{Touch}
use Rattle.tab_find.specs.Registers.{r_one, r_unique}
use Rattle.tab_find.specs.StorePrograms.{draw}
use Rattle.tab_find.proofs.MachineLaws.{word_is}

-- the register of the cas unique, and words
abbrev pub drawer : Touch
drawer = record { regs = λ r. nat_eq r r_unique; words = true; out = false; stage = false }

-- the counter after a draw
abbrev pub drawn : ℕ → ℕ
drawn counter = (counter + 1) % 2 ^ 64

-- the counter is another word, and all slots are as before
pub record Drawn (ws : List ℕ) (b : Bucket) (bound most : ℕ) (t : RunState) : Type 0 where
  pub steps : t.steps ≤ bound
  pub stores : t.stores ≤ most
  pub floor : t.floor ≤ first_slot
  pub unique : t.regs r_unique ≡ drawn b.counter
  pub before : HeadStored ws t.words
  pub head : HasHead t.words (record b { counter = drawn b.counter })

counter_written : (g : Geometry) (ws : List ℕ) (b : Bucket) (c : ℕ) → StandsFor g ws b → HeadStored ws (slice_set ws counter_address c) × HasHead (slice_set ws counter_address c) (record b { counter = c })
counter_written g ws b c h =
    let room : first_slot ≤ length ws = omega (arith, h.size, slot_floor g g.slots) in
    let apart : moment_address ≢ counter_address = omega arith in (
      record { size = length-set ws counter_address c; off = λ a low. let ne : a ≢ counter_address = omega (arith, low) in get_or-set_other ws counter_address a c 0 ne },
      record { moment = get_or-set_other ws counter_address moment_address c 0 apart ∙ h.moment; counter = get_or-set_same ws counter_address c 0 (omega (arith, room)) },
    )

pub counter_ends : (g : Geometry) (e : Given) (s : RunState) (ws : List ℕ) (b : Bucket) (bound most : ℕ) → StandsFor g ws b → s.words ≡ ws → s.regs r_one ≡ 1 → s.floor ≤ 1 → s.stores < most → most ≤ e.log_room → s.steps + 3 ≤ bound →
    Ends e draw s (Drawn ws b bound most)
counter_ends g e s ws b bound most h same one floor few logs steps =
    let room : first_slot ≤ length ws = omega (arith, h.size, slot_floor g g.slots) in
    let size : length s.words ≡ length ws = ap length same in
    let c = drawn b.counter in
    let is : slice_set s.words (s.regs r_one) c ≡ slice_set ws counter_address c = ap (λ l. slice_set l (s.regs r_one) c) same ∙ ap (λ a. slice_set ws a c) one in
    let was : slice_index s.words counter_address ≡ b.counter = ap (λ l. slice_index l counter_address) same ∙ h.counter in
    let written = counter_written g ws b c h in (
      slice_index s.words counter_address,
      word_is s.words (s.regs r_one) counter_address one (omega (arith, size, room)),
      (
        c,
        ap (λ n. (n + s.regs r_one) % 2 ^ 64) was ∙ ap (λ n. (b.counter + n) % 2 ^ 64) one,
        (
          omega (arith, one, size, room),
          omega (arith, floor, one),
          omega (arith, few, logs),
          record {
            steps = omega (arith, steps);
            stores = omega (arith, few);
            floor = omega (arith, one);
            unique = refl;
            before = subst (HeadStored ws) (sym is) written.0;
            head = subst (λ l. HasHead l (record b { counter = c })) (sym is) written.1;
          },
        ),
      ),
    )

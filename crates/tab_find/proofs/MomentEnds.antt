-- What the moment's program does.
use Rattle.std.proofs.Common.{◌≡◌, ℕ, ◌+◌, ◌<◌, ◌≤◌, List, length, refl, ap, ◌∙◌, subst, sym, arith, max, get_or-set_other, get_or-set_same}
use Rattle.std.specs.Prelude.{slice_set, slice_index, true, false, nat_lt, nat_eq, ◌||◌}
use Rattle.std.proofs.Math.ListN.{length-set}
use Rattle.mc_model.specs.declared.geometry.Geometry.{Geometry}
use Rattle.mc_model.specs.Bucket.{Bucket}
use Rattle.sei_words.specs.Layout.{moment_address}
use Rattle.sei_words.specs.Stands.{StandsFor}
use Rattle.sei_words.specs.Changes.{Moved}
use Rattle.sei_words.proofs.PublicLayout.{slot_floor}
use Rattle.sei_words.proofs.PublicChanges.{later}
use Rattle.sei_stmt.specs.Order.{parsed, timed}
use Rattle.sei_stmt.specs.Runs.{Given, RunState}
use Rattle.sei_stmt.specs.Programs.{Ends}
use Rattle.sei_stmt.specs.Touch.{Touch}
use Rattle.sei_stmt.proofs.Public.{then_so}
use Rattle.tab_find.specs.Answers.{HasConstants}
use Rattle.tab_find.specs.FindPrograms.{moment_program}
use Rattle.tab_find.specs.Found.{Arrived}
use Rattle.tab_find.specs.Registers.{r_zero, r_end, r_word}
use Rattle.tab_find.proofs.MachineLaws.{word_is}

-- the constants and a word of scratch, words, and the stage
abbrev pub mover : Touch
mover = record { regs = λ r. nat_lt r (r_end + 1) || nat_eq r r_word; words = true; out = false; stage = true }

-- the new moment as a word
abbrev latest : ℕ → ℕ → ℕ
latest old now = max 1 (max old now)

record Stored (g : Geometry) (ws : List ℕ) (m bound most : ℕ) (t : RunState) : Type 0 where
  steps : t.steps ≤ bound
  stores : t.stores ≤ most
  floor : t.floor ≡ 1
  stage : t.stage ≡ timed
  constants : HasConstants g m t
  words : t.words ≡ slice_set ws moment_address m

moment_ends : (g : Geometry) (e : Given) (s : RunState) (bound most : ℕ) → 0 < length s.words → s.stage ≡ parsed → s.regs r_zero ≡ 0 → s.floor ≡ 0 → s.stores < most → most ≤ e.log_room → s.steps + 20 ≤ bound →
    Ends e (moment_program g) s (Stored g s.words (latest (slice_index s.words moment_address) e.now) bound most)
moment_ends g e s bound most long stage none floor few room steps =
    let w = slice_index s.words moment_address in
    let there : s.regs r_zero < length s.words = omega (arith, none, long) in
    let low : s.floor ≤ s.regs r_zero = omega (arith, floor) in
    let logs : s.stores < e.log_room = omega (arith, few, room) in
    let is = λ (v : ℕ) (h : v ≡ latest w e.now). ap (λ a. slice_set s.words a v) none ∙ ap (slice_set s.words moment_address) h in (
      stage,
      (
        w,
        word_is s.words (s.regs r_zero) moment_address none long,
        (
          λ a. (there, low, logs, record { steps = omega (arith, steps); stores = omega (arith, few); floor = omega (arith, none); stage = refl; constants = record { none = none; moment = omega (arith, a); one = refl; to_expiry = refl; wide = refl; ends = refl }; words = is w (omega (arith, a)) }),
          λ a. (
            λ b. (there, low, logs, record { steps = omega (arith, steps); stores = omega (arith, few); floor = omega (arith, none); stage = refl; constants = record { none = none; moment = omega (arith, a, b, none); one = refl; to_expiry = refl; wide = refl; ends = refl }; words = is e.now (omega (arith, a, b, none)) }),
            λ b. (there, low, logs, record { steps = omega (arith, steps); stores = omega (arith, few); floor = omega (arith, none); stage = refl; constants = record { none = none; moment = omega (arith, a, b, none); one = refl; to_expiry = refl; wide = refl; ends = refl }; words = is 1 (omega (arith, a, b, none)) }),
          ),
        ),
      ),
    )

-- word 0 was written
moved : (ws : List ℕ) (m : ℕ) → 0 < length ws → Moved ws (slice_set ws moment_address m) m
moved ws m long =
    record { size = length-set ws moment_address m; first = get_or-set_same ws moment_address m 0 long; others = λ a ne. get_or-set_other ws moment_address a m 0 ne }

pub moment_stands : (g : Geometry) (e : Given) (s : RunState) (b : Bucket) (bound most : ℕ) → StandsFor g s.words b → s.stage ≡ parsed → s.regs r_zero ≡ 0 → s.floor ≡ 0 → s.stores < most → most ≤ e.log_room → s.steps + 20 ≤ bound → Ends e (moment_program g) s (Arrived g e.now b bound most)
moment_stands g e s b bound most h stage none floor few room steps =
    let long : 0 < length s.words = omega (arith, h.size, slot_floor g g.slots) in
    let m = latest b.moment e.now in
    let was : latest (slice_index s.words moment_address) e.now ≡ m = ap (λ n. latest n e.now) h.moment in
    then_so e mover (moment_program g) s (Stored g s.words (latest (slice_index s.words moment_address) e.now) bound most) (Arrived g e.now b bound most) refl
    (λ t f d.
    let words : t.words ≡ slice_set s.words moment_address m = d.words ∙ ap (slice_set s.words moment_address) was in
    record {
      steps = d.steps;
      stores = d.stores;
      floor = d.floor;
      stage = d.stage;
      constants = subst (λ n. HasConstants g n t) was d.constants;
      stands = later g s.words t.words b m h (omega arith) (subst (λ l. Moved s.words l m) (sym words) (moved s.words m long));
    })
    (moment_ends g e s bound most long stage none floor few room steps)

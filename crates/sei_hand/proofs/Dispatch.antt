-- What the choice among the commands does: each command of requests has its program, which answers.
use Rattle.std.proofs.Common.{◌≡◌, ◌≢◌, ℕ, suc, ◌+◌, ◌-◌, ◌*◌, ◌^◌, ◌<◌, ◌≤◌, List, [], length, Some, refl, sym, ap, ◌∙◌, subst, arith}
use Rattle.std.specs.Prelude.{slice_get}
use Rattle.mc_model.specs.declared.geometry.Geometry.{Geometry}
use Rattle.mc_model.specs.declared.call.Verb.{Verb}
use Rattle.mc_model.specs.declared.call.Verb.TheVariants as verbs
use Rattle.mc_model.specs.Bucket.{Bucket}
use Rattle.mc_model.specs.Call.{Call, verb_number}
use Rattle.mc_text.specs.Commands.{IsReadVerb}
use Rattle.mc_text.specs.Fits.{HasKey}
use Rattle.mc_text.proofs.PublicCommands.{read_verb_is}
use Rattle.sei_stmt.specs.Order.{timed, is_parsed}
use Rattle.sei_stmt.specs.Runs.{Given, RunState, tick}
use Rattle.sei_stmt.specs.Programs.{Seq, Ends, HasWord}
use Rattle.sei_stmt.proofs.PublicPrograms.{Chosen, halves_ends}
use Rattle.tab_find.specs.Answers.{CanAnswer, HasConstants, HasBegun, Answered, AnswersCalls}
use Rattle.tab_find.specs.Inputs.{verb_index, noreply_index}
use Rattle.tab_find.specs.Registers.{r_zero, r_moment, r_one, r_expiry_offset, r_width, r_end, r_verb, r_noreply, r_number}
use Rattle.tab_find.proofs.PublicAnswers.{input_word}
use Rattle.tab_store.specs.declared.commands.Part.TheVariants as store_part
use Rattle.tab_store.proofs.PublicStore as storing
use Rattle.tab_read.specs.declared.commands.Part.TheVariants as read_part
use Rattle.tab_read.proofs.PublicRead as reading
use Rattle.sei_hand.specs.Commands.{rows, program_in, programs, load_marks, dispatch}
use Rattle.sei_hand.specs.Served.{IsOffered}

-- the calls of a command, at a key if it has one
abbrev OfCommand : Verb → Call → Type 0
OfCommand v c = (c.verb ≡ v) × (HasKey v → 1 ≤ length c.key)

-- the command's program is the one of its number, and answers
pub record IsServed (v : Verb) : Type 0 where
  pub few : verb_number v < 2 ^ 4
  pub there : slice_get programs (verb_number v) ≡ Some (program_in rows (verb_number v))
  pub answers : AnswersCalls (OfCommand v) (program_in rows (verb_number v))

-- one for each command

set_served : IsServed verbs.Set
set_served = record { few = omega arith; there = refl; answers = λ g e ws b c w can of. storing.parts_answer store_part.Set g e ws b c w can (of.0, of.1 tt) }

add_served : IsServed verbs.Add
add_served = record { few = omega arith; there = refl; answers = λ g e ws b c w can of. storing.parts_answer store_part.Add g e ws b c w can (of.0, of.1 tt) }

replace_served : IsServed verbs.Replace
replace_served = record { few = omega arith; there = refl; answers = λ g e ws b c w can of. storing.parts_answer store_part.Replace g e ws b c w can (of.0, of.1 tt) }

cas_served : IsServed verbs.Cas
cas_served = record { few = omega arith; there = refl; answers = λ g e ws b c w can of. storing.parts_answer store_part.Cas g e ws b c w can (of.0, of.1 tt) }

get_served : IsServed verbs.Get
get_served = record { few = omega arith; there = refl; answers = λ g e ws b c w can of. reading.parts_answer read_part.Get g e ws b c w can (of.0, of.1 tt) }

gets_served : IsServed verbs.Gets
gets_served = record { few = omega arith; there = refl; answers = λ g e ws b c w can of. reading.parts_answer read_part.Gets g e ws b c w can (of.0, of.1 tt) }

gat_served : IsServed verbs.Gat
gat_served = record { few = omega arith; there = refl; answers = λ g e ws b c w can of. reading.parts_answer read_part.Gat g e ws b c w can (of.0, of.1 tt) }

gats_served : IsServed verbs.Gats
gats_served = record { few = omega arith; there = refl; answers = λ g e ws b c w can of. reading.parts_answer read_part.Gats g e ws b c w can (of.0, of.1 tt) }

touch_served : IsServed verbs.Touch
touch_served = record { few = omega arith; there = refl; answers = λ g e ws b c w can of. reading.parts_answer read_part.Touch g e ws b c w can (of.0, of.1 tt) }

delete_served : IsServed verbs.Delete
delete_served = record { few = omega arith; there = refl; answers = λ g e ws b c w can of. reading.parts_answer read_part.Delete g e ws b c w can (of.0, of.1 tt) }

flush_served : IsServed verbs.Flush
flush_served = record { few = omega arith; there = refl; answers = λ g e ws b c w can of. reading.parts_answer read_part.Flush g e ws b c w can of.0 }

fixed_served : IsServed verbs.Fixed
fixed_served = record { few = omega arith; there = refl; answers = λ g e ws b c w can of. reading.parts_answer read_part.Fixed g e ws b c w can of.0 }

-- one row for each command that requests may ask for, in their order
pub served : (v : Verb) → IsReadVerb v → IsServed v
served v read = read_verb_is IsServed v (set_served, (add_served, (replace_served, (cas_served, (get_served, (gets_served, (gat_served, (gats_served, (touch_served, (delete_served, (flush_served, (fixed_served, tt)))))))))))) read

-- after the moment: all of a command's beginning but its marks
pub record Timed (g : Geometry) (ws : List ℕ) (b : Bucket) (s : RunState) : Type 0 where
  pub same : s.words ≡ ws
  pub time : s.stage ≡ timed
  pub low : s.floor ≤ 1
  pub few : s.stores ≤ 1
  pub silent : s.emitted ≡ 0
  pub empty : s.out ≡ []
  pub constants : HasConstants g b.moment s

module _ (g : Geometry) (e : Given) (ws : List ℕ) (b : Bucket) (c : Call) (w : ℕ) (can : CanAnswer g e ws b c w) (offered : IsOffered c) where
  -- the choice keeps where a command begins
  begun_chosen : (cost : ℕ) (s u : RunState) → Chosen e r_number cost s u → HasBegun g ws b c s → HasBegun g ws b c u
  begun_chosen cost s u h begun =
      let k = λ (r : ℕ) (ne : r ≢ r_number). h.regs r ne in
      let m = begun.constants in
      record {
        same = h.words ∙ begun.same;
        time = h.stage ∙ begun.time;
        low = omega (arith, h.floor, begun.low);
        few = omega (arith, h.stores, begun.few);
        silent = h.emitted ∙ begun.silent;
        empty = h.out ∙ begun.empty;
        constants = record {
          none = k r_zero (omega arith) ∙ m.none;
          moment = k r_moment (omega arith) ∙ m.moment;
          one = k r_one (omega arith) ∙ m.one;
          to_expiry = k r_expiry_offset (omega arith) ∙ m.to_expiry;
          wide = k r_width (omega arith) ∙ m.wide;
          ends = k r_end (omega arith) ∙ m.ends;
        };
        noreply = k r_noreply (omega arith) ∙ begun.noreply;
      }

  later : (low m : ℕ) (u : RunState) → Answered g b c w (low + m) u → Answered g b c w (low + suc m) u
  later low m u a = record { steps = omega (arith, a.steps); stage = a.stage; stands = a.stands; reply = a.reply }

  later_tick : (low m : ℕ) (u : RunState) → Answered g b c w (low + m) u → Answered g b c w (low + suc m) (tick u)
  later_tick low m u a = record { steps = omega (arith, a.steps); stage = a.stage; stands = a.stands; reply = a.reply }

  dispatch_ends : (s : RunState) (bound : ℕ) → HasBegun g ws b c s → s.regs r_verb ≡ verb_number c.verb → s.steps + 310 * g.slots + 20 * w + 612 ≤ bound → bound ≤ e.budget → Ends e dispatch s (Answered g b c w bound)
  dispatch_ends s bound begun verb steps within =
      let row = served c.verb offered.verb in
      let low = bound - 4 in
      let same : low + 4 ≡ bound = omega (arith, steps) in
      subst (λ n. Ends e dispatch s (Answered g b c w n)) same
      (halves_ends e r_verb r_number (omega arith) 4 0 (verb_number c.verb) programs (program_in rows (verb_number c.verb)) s (λ m. Answered g b c w (low + m)) row.few row.there (omega (arith, verb))
      (later low) (later_tick low)
      (λ u h. row.answers g e ws b c w can (refl, offered.key) u (low + 0) (begun_chosen 8 s u h begun) (omega (arith, h.steps, steps)) (omega (arith, within))))

  -- with the marks of the call
  pub marked_ends : (s : RunState) (bound : ℕ) → Timed g ws b s → s.steps + 310 * g.slots + 20 * w + 620 ≤ bound → bound ≤ e.budget → Ends e (Seq load_marks dispatch) s (Answered g b c w bound)
  marked_ends s bound h steps within = (
    ap is_parsed h.time,
    verb_number c.verb,
    subst (λ i. HasWord e.input i (verb_number c.verb)) (sym h.constants.none) (input_word e.input c verb_index (verb_number c.verb) can.call (omega arith) can.call.verb),
    (
      ap is_parsed h.time,
      _,
      input_word e.input c noreply_index _ can.call (omega arith) can.call.noreply,
      dispatch_ends _ bound (record {
        same = h.same;
        time = h.time;
        low = h.low;
        few = h.few;
        silent = h.silent;
        empty = h.empty;
        constants = record { none = h.constants.none; moment = h.constants.moment; one = h.constants.one; to_expiry = h.constants.to_expiry; wide = h.constants.wide; ends = h.constants.ends };
        noreply = refl;
      }) refl (omega (arith, steps)) within,
    ),
  )

-- Each pass of the table serves: the first, which asks the clock and takes the lowest free slot, and the second, which reads its notes.
use Rattle.std.proofs.Common.{◌≡◌, ℕ, ◌*◌, ◌^◌, ◌<◌, List, Option, Some, refl, sym, ap, ◌∙◌}
use Rattle.std.specs.Prelude.{slice_get}
use Rattle.mc_model.specs.declared.geometry.Geometry.{Geometry}
use Rattle.mc_model.specs.Answer.{answer}
use Rattle.mc_model.specs.Bucket.{Bucket}
use Rattle.mc_model.specs.Call.{Call}
use Rattle.mc_model.specs.Packed.{AreBytes}
use Rattle.mc_model.specs.Server.{IsValid, room_of}
use Rattle.mc_render.specs.Rendering.{rendered}
use Rattle.sei_log.specs.declared.notes.Notes as noting
use Rattle.sei_stmt.specs.declared.stmt.Stmt.{Stmt}
use Rattle.sei_stmt.specs.Given.{Answers}
use Rattle.sei_stmt.specs.Given.Answers.{Made, Noted}
use Rattle.sei_stmt.specs.Handling.{Parsed}
use Rattle.sei_stmt.specs.Machine.{Setting}
use Rattle.sei_stmt.specs.Passes.{beginning, IsPassOf, IsServed, IsTold}
use Rattle.sei_stmt.specs.Passes.IsTold.{ByClock, ByNotes}
use Rattle.sei_stmt.specs.Slots.{lowest_free}
use Rattle.sei_stmt.specs.Sound.{Serves, IsSound}
use Rattle.sei_stmt.specs.Table.{HasRegisters}
use Rattle.sei_stmt.proofs.Public.{serves}
use Rattle.sei_hand.specs.HandsBehavior.{hands_behavior}
use Rattle.sei_hand.specs.Commands.{hands_program, hands_table}
use Rattle.sei_hand.specs.Requests.{parsed_call}
use Rattle.sei_hand.specs.Served.{Stands, Asks, space_for}
use Rattle.sei_pass.specs.Spaces.{rooms_of, space_of}
use Rattle.sei_hand.proofs.BytesLaws.{rendered_bytes}
use Rattle.sei_hand.proofs.TableLaws.{has_registers}
use Rattle.sei_hand.proofs.Whole.{hands_ends}

module _ (g : Geometry) (valid : IsValid g) (setting : Setting) (pass : IsPassOf (hands_table g) (rendered (8 * g.value_words)) (space_of g) setting)
    (p : Parsed) (served : IsServed setting p) (c : Call) (is_call : Asks g p.words c) (now : ℕ) (small : now < 2 ^ 64) (words : List ℕ) (b : Bucket) (h : Stands g words b) where
  bytes : (ws bs : List ℕ) → setting.rendered ws ≡ Some bs → AreBytes bs
  bytes ws bs is = rendered_bytes (8 * g.value_words) ws bs (sym (ap (λ f. f ws) pass.rendered_are) ∙ is)

  registers : (i : ℕ) (s : Stmt) → slice_get setting.statements i ≡ Some s → HasRegisters s
  registers i s is = has_registers g i s (sym (ap (λ l. slice_get l i) pass.statements_are) ∙ is)

  answered : (slot : List ℕ → ℕ → ℕ) (notes : noting.Notes) → Answers setting now slot notes →
      Serves setting (λ ws. Stands g ws (answer (room_of g) b now c).0) (answer (room_of g) b now c).1 (beginning (rooms_of g) words notes)
  unfolding hands_table
  answered slot notes answers =
      serves setting (rooms_of g) p now slot served bytes registers (hands_program g) pass.statements_are words notes answers
      (λ ws. Stands g ws (answer (room_of g) b now c).0) (answer (room_of g) b now c).1
      (hands_ends g valid setting pass p.words c is_call now small slot words b h)

  pub hands_serve : (notes : noting.Notes) → IsTold setting now notes →
      Serves setting (λ ws. Stands g ws (answer (room_of g) b now c).0) (answer (room_of g) b now c).1 (beginning (rooms_of g) words notes)
  hands_serve notes (ByClock first is) = answered (lowest_free setting) notes (Made first is refl)
  hands_serve notes (ByNotes second slot is) = answered (λ words moment. slot) notes (Noted slot second refl is)

-- a handler that makes the input words of calls is sound
pub hands_sound : (g : Geometry) → IsValid g → (call_of : List ℕ → ℕ → Call) →
    ((input : List ℕ) (nth : ℕ) (p : Parsed) → AreBytes input → parsed_call g input nth ≡ Some p → Asks g p.words (call_of input nth)) →
    IsSound (hands_behavior g) (space_for g) (Stands g) (Stands g) (λ input nth b now. answer (room_of g) b now (call_of input nth))
hands_sound g valid call_of asks = record {
  serves = λ input bytes nth p is setting pass served words b h now small notes told. hands_serve g valid setting pass p served (call_of input nth) (asks input nth p bytes is) now small words b h notes told;
}

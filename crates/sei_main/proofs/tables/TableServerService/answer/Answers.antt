use Rattle.std.proofs.Common.{◌≤◌, ap, sym, subst, arith, length}
use Rattle.mc_model.specs.declared.geometry.Geometry.{Geometry}
use Rattle.mc_model.specs.Views.{placed_of}
use Rattle.sei_stmt.specs.Handling.{parsed_words}
use Rattle.sei_pass.specs.declared.given.Sealed.{Sealed}
use Rattle.sei_pass.specs.Setting.{sealed_call}
use Rattle.sei_pass.specs.Spaces.{input_room}
use Rattle.sei_hand.specs.Requests.{parsed_call}
use Rattle.sei_main.specs.Tables.{Tables}
use Rattle.sei_main.proofs.TableCalls.{bytes_of, asked_of, sealed_is, words_go_in}
use Rattle.sei_main.proofs.tables.TableServerService.answer.Goals as goal

pub traverse-requires-clause-room : goal.traverse-requires-clause-room
traverse-requires-clause-room c =
    let g = c.self.inside.geometry in
    let text = c.args.text.now in
    let p = placed_of text c.args._call.now in
    let nth = c.sealed_for-sealed.result.nth in
    let a = asked_of c.args.self.now.geometry g text c.args.nth p (sym (ap (λ (x : Tables). x.geometry) c.self.view_is)) c.self.invariant.1.valid (bytes_of text (λ i. omega (arith, c.type_inv.text i))) c.requires.call in
    subst (λ (x : Geometry). length (parsed_words (sealed_call (parsed_call x text) nth)) ≤ input_room x) (sym c.self.invariant.0)
    (words_go_in g p text nth (sealed_is g text c.args.nth nth p (ap (λ (s : Sealed). s.nth) c.sealed_for-sealed.ensures) a.call) a.good.read)

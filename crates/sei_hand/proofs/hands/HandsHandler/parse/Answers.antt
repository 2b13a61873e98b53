use Rattle.std.proofs.Common.{◌≤◌, subst, sym}
use Rattle.mc_model.specs.declared.geometry.Geometry.{Geometry}
use Rattle.mc_model.specs.Views.{placed_of}
use Rattle.sei_pass.specs.Spaces.{input_room}
use Rattle.sei_hand.proofs.ReadLaws.{room_needed}
use Rattle.sei_hand.proofs.hands.HandsHandler.parse.Goals as goal

pub fill-requires-clause-room : goal.fill-requires-clause-room
fill-requires-clause-room c =
    let P : Geometry → Type 0 = λ g. input_room g ≤ c.args.into.now.room in
    subst P (sym c.self.view_is) (room_needed c.args.self.now c.args.input.now c.args.nth c.args.into.now.room (placed_of c.args.input.now c.in-Some.call) c.in-Some.ensures.value c.in-Some.ensures.read c.requires.room)

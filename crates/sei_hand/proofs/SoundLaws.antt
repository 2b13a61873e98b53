-- The hands of a valid geometry are a sound handler.
use Rattle.std.proofs.Common.{◌*◌}
use Rattle.mc_model.specs.declared.geometry.Geometry.{Geometry}
use Rattle.mc_model.specs.Server.{IsValid}
use Rattle.mc_render.specs.Rendering.{rendered}
use Rattle.sei_stmt.specs.Sound.{IsSoundHandler}
use Rattle.sei_hand.specs.HandsBehavior.{hands_behavior}
use Rattle.sei_hand.specs.Commands.{hands_table}
use Rattle.sei_hand.specs.Requests.{limits_of, call_in, call_or_blank, count_of_calls, parsed_call}
use Rattle.sei_hand.specs.Served.{Stands, answer_of, space_for}
use Rattle.sei_hand.proofs.CountedLaws.{counted, found, buckets, parses}
use Rattle.sei_hand.proofs.HandsLaws.{parsed_is_asked}
use Rattle.sei_hand.proofs.Serving.{hands_sound}

pub sound_hands : (g : Geometry) → IsValid g →
    IsSoundHandler (hands_behavior g) (space_for g) g.buckets (Stands g) (Stands g) (answer_of g)
sound_hands g valid = record {
  sound = hands_sound g valid (λ input nth. call_or_blank (call_in (limits_of g) input nth)) (λ input nth p bytes is. parsed_is_asked g valid input nth p bytes is);
  parses = parses g;
  counted = counted g;
  found = found g;
  there = λ input nth p e. buckets g input nth p valid.some_buckets e;
}

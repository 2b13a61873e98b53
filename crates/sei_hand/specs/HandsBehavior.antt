-- What the handler does with inputs and outputs.
use Rattle.std.specs.Prelude.{◌*◌}
use Rattle.mc_model.specs.declared.geometry.Geometry.{Geometry}
use Rattle.mc_render.specs.Rendering.{rendered}
use Rattle.sei_stmt.specs.Handling.{Behavior}
use Rattle.sei_hand.specs.Commands.{hands_table}
use Rattle.sei_hand.specs.Requests.{count_of_calls, parsed_call}

-- the handler of a geometry: its table, the requests that it reads, and the replies that it renders
abbrev pub hands_behavior : Geometry → Behavior
hands_behavior g = record { statements = hands_table g; calls = count_of_calls g; parsed = parsed_call g; rendered = rendered (8 * g.value_words) }

use Rattle.std.proofs.Common.{◌∙◌, ap, sym, List, ℕ, Bor}
use Rattle.std.specs.Option.{option_map}
use Rattle.sei_script.proofs.CappedWords.{hex_found}
use Rattle.sei_script.proofs.says.hex_says.Goals as goal

pub returns-in-Some-2 : goal.returns-in-Some-2
returns-in-Some-2 c =
    let text = option_map {T = Bor (List ℕ)} {U = List ℕ} (λ x. x.now) in
    c.of_open.ensures ∙ rw c.connection-c.ensures (hex_found c.args.context (text c.args.rest) (text c.in-Some.c.rest) c.in-Some.c.number c.in-Some-rest.text.now c.in-Some-2.bytes c.requires c.in-Some.ensures (ap text c.in-Some-rest.is)
    (sym c.in-Some-2.is ∙ c.in_ok-unhex.ensures))

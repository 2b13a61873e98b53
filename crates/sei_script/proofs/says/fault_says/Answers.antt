use Rattle.std.proofs.Common.{◌∙◌, List, ℕ, Bor}
use Rattle.std.specs.Option.{option_map}
use Rattle.sei_script.proofs.CappedWords.{fault_found}
use Rattle.sei_script.proofs.says.fault_says.Goals as goal

pub returns-in-Some-plan_of : goal.returns-in-Some-plan_of
returns-in-Some-plan_of c =
    let text = option_map {T = Bor (List ℕ)} {U = List ℕ} (λ x. x.now) in
    let n = c.in-Some.c in
    let t = c.in-Some-first_exact.t in
    c.of_open.ensures ∙ rw c.connection-c.ensures (fault_found c.args.context (text c.args.rest) (text n.rest) n.number t.number c.in-Some-plan_of.plan (text t.rest) c.requires c.in-Some.ensures c.in-Some-first_exact.ensures c.in-Some-plan_of.ensures)

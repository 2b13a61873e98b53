use Rattle.std.proofs.Common.{ap, sym, ◌∙◌, ℕ, List, Bor}
use Rattle.std.specs.Option.{option_map}
use Rattle.sei_script.proofs.Limits.{words_found}
use Rattle.sei_script.proofs.says.geometry_words.Goals as goal

pub returns-in-None : goal.returns-in-None
returns-in-None c =
    let text = option_map {T = Bor (List ℕ)} {U = List ℕ} (λ x. x.now) in
    let b = c.in-Some.buckets in
    let s = c.in-Some-first_number.slots in
    let w = c.in-Some-first_number-2.value_words in
    c.geometry_numbers.ensures
    ∙ sym (words_found (text c.args.rest) (text b.rest) (text s.rest) (text w.rest) b.number s.number w.number
    c.in-Some.ensures c.in-Some-first_number.ensures c.in-Some-first_number-2.ensures (ap text c.in-None.is))

-- A core whose answers are a function of its state, as under a planned fault.
use Rattle.std.specs.Prelude.{◌≡◌}
use Rattle.sei_fault.specs.Question.{Question, Answer}
use Rattle.sei_fault.specs.Tree.{Tree}
use Rattle.sei_fault.specs.Tree.Tree.{Done, Ask}

-- the relation of a core whose answers and next states are these functions
abbrev pub function_core : {S : Type 0} → (S → (q : Question) → Answer q) → (S → Question → S) → S → (q : Question) → Answer q → S → Type 0
function_core answer next s q a t = (a ≡ answer s q) × (t ≡ next s q)

-- the end of the work under these functions, and the core's state then
abbrev pub scripted : {S R : Type 0} → (S → (q : Question) → Answer q) → (S → Question → S) → Tree R → S → R × S
scripted answer next (Done r) s = (r, s)
scripted answer next (Ask q k) s = scripted answer next (k (answer s q)) (next s q)

-- The questions that a core is asked, and their answers. A further question is one more case of each of the three.
-- The kinds of fault are those of "Scalable Error Isolation for Distributed Systems" (NSDI 2015). That a step asks for each of
-- its effects is this project's own form of them.
use Rattle.std.specs.Prelude.{ℕ, Bool}
use Rattle.sei_fault.specs.declared.place.Place.{Place}
use Rattle.sei_fault.specs.declared.place.Site.{Site}
use Rattle.sei_fault.specs.declared.place.Times.{Times}
use Rattle.sei_fault.specs.declared.place.Times.TheVariants.{Once}

-- the questions of `value`, `written`, `test`, `times` and `next`, with their arguments
pub data Question : Type 0 where
  Value : ℕ → Question
  Written : ℕ → Question
  Test : Bool → Question
  Often : Site → Question
  Goes : Place → Question

abbrev pub Answer : Question → Type 0
Answer (Value h) = ℕ
Answer (Written h) = ℕ
Answer (Test h) = Bool
Answer (Often site) = Times
Answer (Goes h) = Place

abbrev pub honestly_to : (q : Question) → Answer q
honestly_to (Value h) = h
honestly_to (Written h) = h
honestly_to (Test h) = h
honestly_to (Often site) = Once
honestly_to (Goes h) = h

-- Which step a planned fault fits, and which answers it alters there.
use Rattle.std.specs.Prelude.{ℕ, ◌+◌, ◌-◌, ◌^◌, min, Bool, true, false, not, ◌&&◌, ◌==◌, if◌then◌else◌, Option, Some, None, bit_xor}
use Rattle.sei_fault.specs.declared.place.Act.{Act}
use Rattle.sei_fault.specs.declared.place.Act.TheVariants as act
use Rattle.sei_fault.specs.declared.place.Phase.{Phase}
use Rattle.sei_fault.specs.declared.place.Place.{Place}
use Rattle.sei_fault.specs.declared.place.Site.{Site}
use Rattle.sei_fault.specs.declared.place.Times.TheVariants as times
use Rattle.sei_fault.specs.declared.plan.Kind.{Kind}
use Rattle.sei_fault.specs.declared.plan.Kind.TheVariants.{Read, Write, Skip, Repeat, Jump, Flip}
use Rattle.sei_fault.specs.declared.plan.Planned.{Planned}
use Rattle.sei_fault.specs.declared.plan.Select.{Select}
use Rattle.sei_fault.specs.declared.plan.Select.TheVariants.{Index, Load, Store, Now, Alloc, Parse, Render, Halt}
use Rattle.sei_fault.specs.declared.plan.StepCounts.{StepCounts}
use Rattle.sei_fault.specs.Phases.{phase_number}
use Rattle.sei_fault.specs.Question.{Question, Answer}
use Rattle.sei_fault.specs.Question.Question.{Value, Written, Test, Often, Goes}

abbrev pub same_phase : Phase → Phase → Bool
same_phase a b = phase_number a == phase_number b

abbrev pub same_place : Place → Place → Bool
same_place a b = same_phase a.phase b.phase && a.index == b.index

-- a step with this index and this act is selected
abbrev pub selects : Select → ℕ → Act → Bool
selects (Index i) index a = index == i
selects (Load address) index (act.Load at) = at == address
selects (Store address) index (act.Store at) = at == address
selects Now index act.Now = true
selects Alloc index act.Alloc = true
selects Parse index act.Parse = true
selects Render index act.Render = true
selects Halt index act.Halt = true
selects select index a = false

-- the step at the site is of the plan's phase, and is selected
abbrev pub fits : Planned → Site → Bool
fits plan site = same_phase plan.phase site.place.phase && selects plan.select site.place.index site.act

-- no answer was counted in the step yet
abbrev pub none_yet : StepCounts
none_yet = record { value = 0 }

-- one value more was read in the step; at the last value of a u64 the count does not change
abbrev pub one_value_more : StepCounts → StepCounts
one_value_more so_far = record so_far { value = min (so_far.value + 1) (2 ^ 64 - 1) }

-- what a fault of this kind answers in its step, if it alters the answer: after these counted answers of
-- the step, of which none was altered. A mask of 0 alters nothing, nor does a jump to the place to which
-- the step leads anyway
abbrev pub fault : Kind → StepCounts → (q : Question) → Option (Answer q)
fault (Read nth mask) so_far (Value h) = if so_far.value == nth && not (mask == 0) then Some (bit_xor h mask) else None
fault (Write mask) so_far (Written h) = if mask == 0 then None else Some (bit_xor h mask)
fault Flip so_far (Test h) = Some (not h)
fault Skip so_far (Often site) = Some times.Skip
fault Repeat so_far (Often site) = Some times.Twice
fault (Jump to) so_far (Goes h) = if same_place to h then None else Some to
fault kind so_far q = None

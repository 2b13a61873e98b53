-- The phases of a traversal, in their order.
use Rattle.std.specs.Prelude.{ℕ}
use Rattle.sei_fault.specs.declared.place.Phase.{Phase}
use Rattle.sei_fault.specs.declared.place.Phase.TheVariants.{Guard, Take, First, Restore, Second, Compare, Verify, Enter, Give, Send, Done}

-- how many phases come before this one
abbrev pub phase_number : Phase → ℕ
phase_number Guard = 0
phase_number Take = 1
phase_number First = 2
phase_number Restore = 3
phase_number Second = 4
phase_number Compare = 5
phase_number Verify = 6
phase_number Enter = 7
phase_number Give = 8
phase_number Send = 9
phase_number Done = 10

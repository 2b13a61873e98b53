-- Where a traversal that nothing struck stands says no more of fewer steps or of another want, and bounds the number of its steps.
use Rattle.std.proofs.Common.{ℕ, ◌+◌, ◌*◌, ◌<◌, ◌≤◌, List, length, Option, Some, None, arith, refl, subst}
use Rattle.sei_fault.specs.declared.place.Phase.{Phase}
use Rattle.sei_fault.specs.declared.place.Phase.TheVariants.{Guard, Take, First, Restore, Second, Compare, Verify, Enter, Give, Send, Done}
use Rattle.sei_stmt.specs.Machine.{Machine, After}
use Rattle.sei_stmt.specs.Honest.{after}
use Rattle.sei_traverse.specs.declared.turned.Want.{Want}
use Rattle.sei_traverse.specs.declared.workspace.Workspace.{Workspace}
use Rattle.sei_traverse.specs.Comes.{at_time}
use Rattle.sei_traverse.specs.CallContext.{CallContext, IsFitContext, Whole, first_setting, first_start}
use Rattle.sei_traverse.specs.Unstruck.{IsOf, FirstIsNew, SecondIsNew, FirstIsDone, SecondIsDone, before_enter, FirstAt, InBoth, HasOutput, CleanIn, IsFinished}
use Rattle.sei_traverse.proofs.LogLaws.{room_kept}
use Rattle.sei_traverse.proofs.TimeLaws.{ends_so}

-- Fewer steps and another want.

-- the workspace that wants this
abbrev wanting : Workspace → Want → Workspace
wanting w n = record w { want = n }

is_of : (e : CallContext) (w : Workspace) (n : Want) (p : Phase) → IsOf e w p → IsOf e (wanting w n) p
is_of e w n p is = record { sealed = is.sealed; gate = is.gate }

first_new : (e : CallContext) (w : Workspace) (n : Want) → FirstIsNew e w → FirstIsNew e (wanting w n)
first_new e w n x = record { first = x.first; first_log = x.first_log; notes = x.notes }

second_new : (e : CallContext) (w : Workspace) (n : Want) → SecondIsNew e w → SecondIsNew e (wanting w n)
second_new e w n x = record { second = x.second; second_log = x.second_log }

first_done : (e : CallContext) (w : Workspace) (n : Want) (end : Machine) → FirstIsDone e w end → FirstIsDone e (wanting w n) end
first_done e w n end x = record { first = x.first; first_log = x.first_log; notes = x.notes }

second_done : (e : CallContext) (w : Workspace) (n : Want) (end : Machine) → SecondIsDone e w end → SecondIsDone e (wanting w n) end
second_done e w n end x = record { second = x.second; second_log = x.second_log }

first_at : (e : CallContext) (w : Workspace) (n : Want) (lent : Option (List ℕ)) (s t asked : ℕ) → s ≤ t → FirstAt e w lent t asked → FirstAt e (wanting w n) lent s asked
first_at e w n None s t asked le x = record { index = x.index; first = first_new e w n x.first; number = omega (arith, le, x.number); questions = x.questions }
first_at e w n (Some words) s t asked le x = record { space = x.space; made = x.made; comes = x.comes; told = x.told; number = omega (arith, le, x.number) }

in_both : (e : CallContext) (w : Workspace) (n : Want) (lent : Option (List ℕ)) (time made : ℕ) (end : Machine) (asked : ℕ) → InBoth e w lent time made end asked →
    InBoth e (wanting w n) lent time made end asked
in_both e w n lent time made end asked x =
    record { whole = x.whole; first = first_done e w n end x.first; second = second_done e w n end x.second; words = x.words; questions = x.questions }

is_answered : (e : CallContext) (w : Workspace) (n : Want) (time made : ℕ) (end : Machine) (asked : ℕ) → HasOutput e w time made end asked → HasOutput e (wanting w n) time made end asked
is_answered e w n time made end asked x = record { whole = x.whole; second = second_done e w n end x.second; notes = x.notes; copy = x.copy; questions = x.questions }

-- where a traversal stands after some steps, it stands by any smaller number too, whatever it wants
pub settles : (e : CallContext) (w : Workspace) (n : Want) (lent : Option (List ℕ)) (s t asked : ℕ) (p : Phase) → s ≤ t → CleanIn e w lent t asked p →
    CleanIn e (record w { want = n }) lent s asked p
settles e w n lent s t asked Guard le c = record {
  is = is_of e w n Guard c.is;
  index = c.index;
  first = first_new e w n c.first;
  second = second_new e w n c.second;
  number = omega (arith, le, c.number);
  questions = c.questions;
}
settles e w n lent s t asked Take le c = record {
  is = is_of e w n Take c.is;
  index = c.index;
  wanted = c.wanted;
  first = first_new e w n c.first;
  second = second_new e w n c.second;
  number = omega (arith, le, c.number);
  questions = c.questions;
}
settles e w n lent s t asked First le c = record {
  is = is_of e w n First c.is;
  second = second_new e w n c.second;
  at = first_at e w n lent s t asked le c.at;
}
settles e w n lent s t asked Restore le c = record {
  is = is_of e w n Restore c.is;
  time = c.time;
  made = c.made;
  end = c.end;
  whole = c.whole;
  first = first_done e w n c.end c.first;
  second = second_new e w n c.second;
  index = c.index;
  words = c.words;
  number = omega (arith, le, c.number);
  questions = c.questions;
}
settles e w n lent s t asked Second le c = record {
  is = is_of e w n Second c.is;
  time = c.time;
  made = c.made;
  end = c.end;
  whole = c.whole;
  first = first_done e w n c.end c.first;
  space = c.space;
  words = c.words;
  lent_are = c.lent_are;
  n = c.n;
  within = c.within;
  comes = c.comes;
  number = omega (arith, le, c.number);
  questions = c.questions;
}
settles e w n lent s t asked Compare le c = record {
  is = is_of e w n Compare c.is;
  time = c.time;
  made = c.made;
  end = c.end;
  both = in_both e w n lent c.time c.made c.end asked c.both;
  index = c.index;
  number = omega (arith, le, c.number);
}
settles e w n lent s t asked Verify le c = record {
  is = is_of e w n Verify c.is;
  time = c.time;
  made = c.made;
  end = c.end;
  both = in_both e w n lent c.time c.made c.end asked c.both;
  index = c.index;
  copy = c.copy;
  number = omega (arith, le, c.number);
}
settles e w n lent s t asked Enter le c = record {
  is = is_of e w n Enter c.is;
  time = c.time;
  made = c.made;
  end = c.end;
  both = in_both e w n lent c.time c.made c.end asked c.both;
  index = c.index;
  copy = c.copy;
  number = omega (arith, le, c.number);
}
settles e w n lent s t asked Give le c = record {
  is = is_of e w n Give c.is;
  time = c.time;
  made = c.made;
  end = c.end;
  both = in_both e w n lent c.time c.made c.end asked c.both;
  index = c.index;
  copy = c.copy;
  number = omega (arith, le, c.number);
}
settles e w n lent s t asked Send le c = record {
  is = is_of e w n Send c.is;
  time = c.time;
  made = c.made;
  end = c.end;
  answered = is_answered e w n c.time c.made c.end asked c.answered;
  index = c.index;
  words = c.words;
  number = omega (arith, le, c.number);
}
settles e w n lent s t asked Done le c = record {
  is = is_of e w n Done c.is;
  time = c.time;
  made = c.made;
  end = c.end;
  answered = is_answered e w n c.time c.made c.end asked c.answered;
  index = c.index;
  number = omega (arith, le, c.number);
}

-- the same at its end
pub settles_end : (e : CallContext) (w : Workspace) (n : Want) (s t asked : ℕ) → s ≤ t → IsFinished e w t asked → IsFinished e (record w { want = n }) s asked
settles_end e w n s t asked le x = record {
  place = x.place;
  gate = x.gate;
  time = x.time;
  made = x.made;
  end = x.end;
  answered = is_answered e w n x.time x.made x.end asked x.answered;
  number = omega (arith, le, x.number);
}

-- How many steps there are.

-- the log of a whole first pass fits into its room
pub whole_logs : (e : CallContext) (time made : ℕ) (end : Machine) → Whole e time made end → length end.log.items ≤ e.space.log
whole_logs e time made end whole =
    let g = at_time (first_setting e) time in
    let rooms = room_kept g (first_start e) made in
    let fits : length (after g (first_start e) made).machine.log.items ≤ (after g (first_start e) made).machine.log.room = rooms.log_fits (omega arith) in
    let below : length (after g (first_start e) made).machine.log.items ≤ e.space.log =
    subst (λ (room : ℕ). length (after g (first_start e) made).machine.log.items ≤ room) rooms.log fits in
    subst (λ (x : After). length x.machine.log.items ≤ e.space.log) whole.run.halts below

-- a number of steps up to the end is within the bound, where the first pass is whole
at_most : (e : CallContext) (time made : ℕ) (end : Machine) (s : ℕ) → Whole e time made end → s ≤ before_enter made (length end.log.items) + 4 →
    s ≤ 2 * e.space.budget + 3 * e.space.log + 11
at_most e time made end s whole h =
    let within : made < e.space.budget = whole.within in
    let logs = whole_logs e time made end whole in
    sums s made (length end.log.items) e.space.budget e.space.log within logs h
  where
    sums : (s made k budget room : ℕ) → made < budget → k ≤ room → s ≤ before_enter made k + 4 → s ≤ 2 * budget + 3 * room + 11
    sums s made k budget room within logs h = omega (arith, within, logs, h)

bounded_first : (e : CallContext) → IsFitContext e → (w : Workspace) (lent : Option (List ℕ)) (s asked : ℕ) → FirstAt e w lent s asked →
    s ≤ 2 * e.space.budget + 3 * e.space.log + 11
bounded_first e is w None s asked x = omega (arith, x.number)
bounded_first e is w (Some words) s asked x =
    let made : ℕ = x.made in
    let within : made < e.space.budget = (ends_so (first_setting e) (first_start e) is.ends made asked _ x.comes).within w.place.index refl in
    omega (arith, within, x.number)

-- a traversal that nothing struck stands nowhere behind so many steps
pub bounded : (e : CallContext) → IsFitContext e → (w : Workspace) (lent : Option (List ℕ)) (s asked : ℕ) (p : Phase) → CleanIn e w lent s asked p →
    s ≤ 2 * e.space.budget + 3 * e.space.log + 11
bounded e is w lent s asked Guard c = omega (arith, c.number)
bounded e is w lent s asked Take c = omega (arith, c.number, c.index)
bounded e is w lent s asked First c = bounded_first e is w lent s asked c.at
bounded e is w lent s asked Restore c = at_most e c.time c.made c.end s c.whole (omega (arith, c.number, c.index))
bounded e is w lent s asked Second c = at_most e c.time c.made c.end s c.whole (omega (arith, c.number, c.within))
bounded e is w lent s asked Compare c = at_most e c.time c.made c.end s c.both.whole (omega (arith, c.number, c.index))
bounded e is w lent s asked Verify c = at_most e c.time c.made c.end s c.both.whole (omega (arith, c.number, c.index))
bounded e is w lent s asked Enter c = at_most e c.time c.made c.end s c.both.whole (omega (arith, c.number))
bounded e is w lent s asked Give c = at_most e c.time c.made c.end s c.both.whole (omega (arith, c.number))
bounded e is w lent s asked Send c = at_most e c.time c.made c.end s c.answered.whole (omega (arith, c.number))
bounded e is w lent s asked Done c = at_most e c.time c.made c.end s c.answered.whole (omega (arith, c.number))

-- and it has ended after so many
pub bounded_end : (e : CallContext) (w : Workspace) (s asked : ℕ) → IsFinished e w s asked → s ≤ 2 * e.space.budget + 3 * e.space.log + 11
bounded_end e w s asked x = at_most e x.time x.made x.end s x.answered.whole x.number

-- What was asked.

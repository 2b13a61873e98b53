-- Planned faults of an object in memory.
use Rattle.std.specs.Prelude.{ℕ, List, Bool, ◌==◌, if◌then◌else◌}
use Rattle.std.specs.List.{list_any}
use Rattle.sei_outside.specs.Faults.{counted}

-- the calls made so far, those that failed, and the numbers of the calls that are to fail
pub record Plan : Type 0 where
  pub made : ℕ
  pub faults : ℕ
  pub failing : List ℕ

-- before the first call
abbrev pub first_call : List ℕ → Plan
first_call failing = record { made = 0; faults = 0; failing = failing }

-- is the next call to fail?
abbrev pub is_due : Plan → Bool
is_due plan = list_any (λ n. n == plan.made) plan.failing

-- one call more, and one fault more if it failed
abbrev pub after_call : Bool → Plan → Plan
after_call failed plan = record {
  made = counted plan.made;
  faults = if failed then counted plan.faults else plan.faults;
  failing = plan.failing;
}

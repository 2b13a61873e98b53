-- The core that carries out one planned fault, by its plan and the plan's stage.
use Rattle.std.specs.Prelude.{ℕ, ◌-◌, Bool, true, false, if◌then◌else◌, Option, Some, None, is_some, unwrap_or}
use Rattle.sei_fault.specs.declared.place.Site.{Site}
use Rattle.sei_fault.specs.declared.plan.Planned.{Planned}
use Rattle.sei_fault.specs.declared.script.Stage.{Stage}
use Rattle.sei_fault.specs.declared.script.Stage.TheVariants.{Waiting, Armed, Struck, Over}
use Rattle.sei_fault.specs.Counts.{Counts, counted}
use Rattle.sei_fault.specs.Plans.{fits, none_yet, one_value_more, fault}
use Rattle.sei_fault.specs.Question.{Question, Answer, honestly_to}
use Rattle.sei_fault.specs.Question.Question.{Value, Often}

-- how many questions were asked, the plan, and its stage. The plan waits for its step; or its step is being made, and
-- the answers in it are counted; or it has struck; or its step is over
pub record ScriptState : Type 0 where
  pub asked : ℕ
  pub plan : Option Planned
  pub stage : Stage

-- a plan that waits, and no question yet
abbrev pub script_begin : Option Planned → ScriptState
script_begin plan = record { asked = 0; plan = plan; stage = Waiting }

-- a plan that waits is armed if it fits the site
abbrev pub waited : Option Planned → Site → Stage
waited None site = Waiting
waited (Some p) site = if fits p site then Armed none_yet else Waiting

-- a step begins at the site
abbrev pub begun : Option Planned → Stage → Site → Stage
begun plan Waiting site = waited plan site
begun plan (Armed so_far) site = Over
begun plan Struck site = Struck
begun plan Over site = Over

-- the stage in which a question is answered: a step begins with the question how often its act is done
abbrev pub stage_at : Option Planned → Stage → Question → Stage
stage_at plan stage (Often site) = begun plan stage site
stage_at plan stage q = stage

-- what the plan answers in a stage, if it alters the answer
abbrev pub altered_in : Option Planned → Stage → (q : Question) → Option (Answer q)
altered_in (Some p) (Armed so_far) q = fault p.kind so_far q
altered_in plan stage q = None

-- the same, once the question has come
abbrev pub altered : ScriptState → (q : Question) → Option (Answer q)
altered s q = altered_in s.plan (stage_at s.plan s.stage q) q

-- what the plan answers, and else the honest answer
abbrev pub script_answer : ScriptState → (q : Question) → Answer q
script_answer s q = unwrap_or (altered s q) (honestly_to q)

-- a plan that has altered an answer has struck
abbrev pub settled : Stage → Bool → Stage
settled stage true = Struck
settled stage false = stage

-- one value more was read in the plan's step
abbrev pub read_more : Stage → Stage
read_more (Armed so_far) = Armed (one_value_more so_far)
read_more stage = stage

-- the stage after a question, by whether its answer was altered
abbrev pub stage_after : Stage → Bool → Question → Stage
stage_after stage is_altered (Value h) = read_more (settled stage is_altered)
stage_after stage is_altered q = settled stage is_altered

-- one question more, and the stage after it
abbrev pub script_next : ScriptState → Question → ScriptState
script_next s q = record {
  asked = counted s.asked;
  plan = s.plan;
  stage = stage_after (stage_at s.plan s.stage q) (is_some (altered s q)) q;
}

-- how many strikes there were
abbrev pub fallen : Stage → ℕ
fallen Struck = 1
fallen stage = 0

-- one strike can come until the plan has struck, and none from then on
abbrev pub script_counts : ScriptState → Counts
script_counts s = record { asked = s.asked; struck = fallen s.stage; room = Some (1 - fallen s.stage) }

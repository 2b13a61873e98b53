-- What one step of a pass does with what it is given and what it works on.
use Rattle.std.specs.Prelude.{ℕ, List, Option}
use Rattle.sei_fault.specs.Counts.{Counts}
use Rattle.sei_fault.specs.Question.{Question, Answer}
use Rattle.sei_fault.specs.Tree.{Runs}
use Rattle.sei_log.specs.declared.notes.Notes.{Notes}
use Rattle.sei_stmt.specs.Handling.{Behavior, parsed_words}
use Rattle.sei_stmt.specs.Machine.{Setting}
use Rattle.sei_stmt.specs.Statements.{statement_tree, step_tree}
use Rattle.sei_words.specs.Words.{BucketWords}
use Rattle.sei_words.specs.LentBucket.{bucket_of}
use Rattle.sei_pass.specs.declared.frame.Frame.{Frame}
use Rattle.sei_pass.specs.declared.frame.PassStep.{PassStep}
use Rattle.sei_pass.specs.declared.given.Given.{Given}
use Rattle.sei_pass.specs.declared.given.Sealed.{Sealed}
use Rattle.sei_pass.specs.declared.given.Turn.{Turn}
use Rattle.sei_pass.specs.declared.given.Which.{Which}
use Rattle.sei_pass.specs.declared.spaces.PassSpace.{PassSpace}
use Rattle.sei_pass.specs.Setting.{sealed_call, setting_of}
use Rattle.sei_pass.specs.State.{PassState}
use Rattle.sei_pass.specs.Frames.{outcome_of}
use Rattle.sei_pass.specs.Steps.{IsAnswer, Stepped}
use Rattle.sei_pass.specs.Work.{Work, frame_machine, frame_after, pass_machine}

-- the setting of a step, by what is lent and the space
abbrev pub setting_by : Which → Behavior → List ℕ → Sealed → Option BucketWords → PassSpace → ℕ → Setting
setting_by which h input sealed lent space now = setting_of which h input sealed (bucket_of lent) space now

-- the setting of a step that is given this, on what is lent, in this space, if the clock answers so
abbrev pub setting_given : {H C : Type 0} → (H → Behavior) → Given H C → Option BucketWords → PassSpace → ℕ → Setting
setting_given behavior given lent space now =
    setting_of given.which (behavior given.hands.now) given.input.now given.sealed.now (bucket_of lent) space now

-- the input words of the call that is given
abbrev pub words_given : {H C : Type 0} → (H → Behavior) → Given H C → List ℕ
words_given behavior given = parsed_words (sealed_call ((behavior given.hands.now).parsed given.input.now) given.sealed.now.nth)

-- a pass that is given this makes its step, from this work and these notes to those
abbrev pub StepsOn : {L H C S : Type 0} → (S → (q : Question) → Answer q → S → Type 0) → (S → Counts) → (L → Option BucketWords) → (H → Behavior) → (C → Option ℕ) → Given H C → Work PassState L S → Notes → Work PassState L S → Notes → PassStep → Type 0
StepsOn gives counts lent_bucket behavior told given x notes y later step =
    Stepped gives counts (told given.clock.now) (setting_given behavior given (lent_bucket x.lent) x.pass.space)
    given.index (pass_machine lent_bucket x notes) (pass_machine lent_bucket y later) (outcome_of step) x.core y.core

-- the same of a frame in a space: for some answer of the clock the step's tree runs
abbrev pub Steps : {L H C S : Type 0} → (S → (q : Question) → Answer q → S → Type 0) → (L → Option BucketWords) → (H → Behavior) → (C → Option ℕ) → Given H C → PassSpace → Work Frame L S → Notes → Work Frame L S → Notes → PassStep → Type 0
Steps gives lent_bucket behavior told given space x notes y later step =
    (now : ℕ) × IsAnswer (told given.clock.now) now
    × Runs gives (step_tree (setting_given behavior given (lent_bucket x.lent) space now) given.index (frame_machine lent_bucket x notes))
    x.core y.core (frame_after lent_bucket y later step)

-- the statement whose turn it is runs in such a step
abbrev pub Makes : {L H C S : Type 0} → (S → (q : Question) → Answer q → S → Type 0) → (L → Option BucketWords) → (H → Behavior) → Given H C → Turn → Work Frame L S → Notes → Work Frame L S → Notes → PassStep → Type 0
Makes gives lent_bucket behavior given turn x notes y later step =
    Runs gives (statement_tree (setting_given behavior given (lent_bucket x.lent) turn.space.now turn.time) given.index (frame_machine lent_bucket x notes) turn.statement)
    x.core y.core (frame_after lent_bucket y later step)

-- a pass makes its step by this setting, which is given what is lent and the space, from this work and these notes to those
abbrev pub StepsBy : {S : Type 0} → (S → (q : Question) → Answer q → S → Type 0) → (S → Counts) → Option ℕ → (Option BucketWords → PassSpace → ℕ → Setting) → ℕ → Work PassState (Option BucketWords) S → Notes → Work PassState (Option BucketWords) S → Notes → PassStep → Type 0
StepsBy gives counts told setting index x notes y later step =
    Stepped gives counts told (setting x.lent x.pass.space) index (pass_machine (λ l. l) x notes) (pass_machine (λ l. l) y later) (outcome_of step) x.core y.core

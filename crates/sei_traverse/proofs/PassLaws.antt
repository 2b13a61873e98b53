-- An act of a pass, from the step of the pass and what comes behind it.
use Rattle.std.proofs.Common.{◌≡◌, ℕ, List, Option, sym, ap, subst}
use Rattle.sei_code.specs.Kept.{Kept}
use Rattle.sei_fault.specs.Counts.{Counts}
use Rattle.sei_fault.specs.Question.{Question, Answer}
use Rattle.sei_fault.specs.Tree.{Runs}
use Rattle.sei_fault.proofs.Public.{runs_bound}
use Rattle.sei_log.specs.declared.log.Change.{Change}
use Rattle.sei_log.specs.declared.notes.Notes.{Notes}
use Rattle.sei_stmt.specs.Handling.{Behavior}
use Rattle.sei_stmt.specs.Statements.{step_tree}
use Rattle.sei_words.specs.LentBucket.{words_of, bucket_of}
use Rattle.sei_words.specs.Words.{BucketWords}
use Rattle.sei_pass.specs.declared.frame.PassStep.{PassStep}
use Rattle.sei_pass.specs.declared.given.Which.{Which}
use Rattle.sei_pass.specs.declared.given.Which.TheVariants.{Making, Reading}
use Rattle.sei_pass.specs.declared.spaces.PassSpace.{PassSpace}
use Rattle.sei_pass.specs.Frames.{outcome_of}
use Rattle.sei_pass.specs.State.{PassState}
use Rattle.sei_pass.specs.Setting.{setting_of}
use Rattle.sei_pass.specs.Steps.{machine_of, Stepped}
use Rattle.sei_traverse.specs.declared.workspace.Workspace.{Workspace}
use Rattle.sei_traverse.specs.Acts.{Acted}
use Rattle.sei_traverse.specs.PassActs.{pass_of, machine_in, pass_from, pass_to, pass_tree}
use Rattle.sei_traverse.specs.Given.{given_of, setting_in}
use Rattle.sei_traverse.specs.Step.{Timed}
use Rattle.sei_traverse.specs.Work.{Work, work, StepsIn}

-- a pass of the same space is known by its machine
pub pass_again : (p q : PassState) (words : List ℕ) (log : Kept Change) (notes : Notes) → q.space ≡ p.space → pass_of p (machine_of q words log notes) ≡ q
pass_again p q words log notes e = ap (λ (g : PassSpace). let r : PassState = record q { space = g } in r) (sym e)

-- the step of the first pass, or of the second, as the code makes it
module _ {S : Type 0} (gives : S → (q : Question) → Answer q → S → Type 0) (counts : S → Counts) (told : Option ℕ) (behavior : Behavior) (input : List ℕ) (space : PassSpace)
    (w : Workspace) (lent_bucket left : Option BucketWords) (q : PassState) (log : Kept Change) (notes : Notes) (step : PassStep) (s t : S) where
  pub making_steps : w.first.space ≡ space → q.space ≡ w.first.space →
      Stepped gives counts told (setting_of Making behavior input w.sealed (bucket_of lent_bucket) w.first.space) w.place.index (machine_in Making w (words_of lent_bucket)) (machine_of q (words_of left) log notes) (outcome_of step) s t →
      StepsIn gives counts told behavior input space Making (work w lent_bucket s) (work (record w { first = q; first_log = log; notes = notes }) left t) step
  making_steps here same st = record {
    stepped = subst (λ (k : PassSpace). Stepped gives counts told (setting_of Making behavior input w.sealed (bucket_of lent_bucket) k) w.place.index (machine_in Making w (words_of lent_bucket)) (machine_of q (words_of left) log notes) (outcome_of step) s t) here st;
    rest = ap (λ (p : PassState). let v : Workspace = record w { first = p; first_log = log; notes = notes } in v) (pass_again w.first q (words_of left) log notes same);
  }

  pub reading_steps : w.second.space ≡ space → q.space ≡ w.second.space →
      Stepped gives counts told (setting_of Reading behavior input w.sealed (bucket_of lent_bucket) w.second.space) w.place.index (machine_in Reading w (words_of lent_bucket)) (machine_of q (words_of left) log notes) (outcome_of step) s t →
      StepsIn gives counts told behavior input space Reading (work w lent_bucket s) (work (record w { second = q; second_log = log; notes = notes }) left t) step
  reading_steps here same st = record {
    stepped = subst (λ (k : PassSpace). Stepped gives counts told (setting_of Reading behavior input w.sealed (bucket_of lent_bucket) k) w.place.index (machine_in Reading w (words_of lent_bucket)) (machine_of q (words_of left) log notes) (outcome_of step) s t) here st;
    rest = ap (λ (p : PassState). let v : Workspace = record w { second = p; second_log = log; notes = notes } in v) (pass_again w.second q (words_of left) log notes same);
  }

-- an act of a pass is its step, and what comes after it
module _ {S : Type 0} (gives : S → (q : Question) → Answer q → S → Type 0) (counts : S → Counts) (told : Option ℕ) (behavior : Behavior) (input : List ℕ) (space : PassSpace) (which : Which) (x y : Work S) (step : PassStep) where
  pub pass_runs : (u : S) (z : Acted) → StepsIn gives counts told behavior input space which x y step → Runs gives (pass_from which y.workspace (words_of y.lent) (outcome_of step)) y.core u z →
      Timed gives told (λ now. pass_tree which (given_of behavior input space (bucket_of x.lent)) now x.workspace.place.index x.workspace (words_of x.lent)) x.core u z
  pass_runs u z st r = record {
    now = st.stepped.now;
    answer = st.stepped.answer;
    runs = runs_bound gives (step_tree (setting_in (given_of behavior input space (bucket_of x.lent)) which x.workspace.sealed st.stepped.now) x.workspace.place.index (machine_in which x.workspace (words_of x.lent))) (pass_to which x.workspace) x.core y.core u
        (record { machine = machine_in which y.workspace (words_of y.lent); outcome = outcome_of step }) z st.stepped.runs
        (subst (λ (v : Workspace). Runs gives (pass_from which v (words_of y.lent) (outcome_of step)) y.core u z) (sym st.rest) r);
  }

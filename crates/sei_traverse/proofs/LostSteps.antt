-- A step of a lost traversal, in which no strike falls, closes nothing and wants nothing, and it stays lost.
use Rattle.std.proofs.Common.{◌≡◌, ◌≢◌, ℕ, Bool, true, false, List, Option, Some, None, sym, ap, ◌∙◌, subst, refl}
use Rattle.std.specs.Prelude.{◌==◌, if◌then◌else◌}
use Rattle.sei_fault.specs.declared.cause.AbortCause.TheVariants.{Gate}
use Rattle.sei_fault.specs.declared.place.Place.{Place}
use Rattle.sei_fault.specs.declared.place.Act.{Act}
use Rattle.sei_fault.specs.declared.place.Phase.{Phase}
use Rattle.sei_fault.specs.declared.place.Phase.TheVariants.{Guard, Done}
use Rattle.sei_fault.specs.Phases.{phase_number}
use Rattle.sei_fault.specs.Tree.{honest}
use Rattle.sei_fault.proofs.Public.{honest_bound}
use Rattle.sei_words.specs.LentBucket.{words_of}
use Rattle.sei_words.specs.Words.{BucketWords}
use Rattle.sei_traverse.specs.declared.turned.State.TheVariants.{Went, Finished}
use Rattle.sei_traverse.specs.declared.turned.Want.TheVariants.{Nothing}
use Rattle.sei_traverse.specs.declared.workspace.Ending.{Ending}
use Rattle.sei_traverse.specs.declared.workspace.Ending.TheVariants.{Leads, Refuses, Aborts}
use Rattle.sei_traverse.specs.declared.workspace.Workspace.{Workspace}
use Rattle.sei_traverse.specs.Acts.{Acted}
use Rattle.sei_traverse.specs.CallContext.{CallContext}
use Rattle.sei_traverse.specs.Step.{StepResult, aborted, is_end, arrival, act_tree, goes_from, goes_on, step_at}
use Rattle.sei_traverse.specs.Trusted.{PassesGuard}
use Rattle.sei_traverse.proofs.Onward.{given_with}
use Rattle.sei_traverse.proofs.PhaseLaws.{PhaseLaws}
use Rattle.sei_traverse.proofs.StepEnds.{same_phase, end_number, StaysIn}
use Rattle.sei_traverse.proofs.StepLaws.{LostLaw, StaysOpen, never_on}
use Rattle.sei_traverse.proofs.StruckSteps.{stays_open}

pub record StaysLost (done : ℕ) (x : StepResult) : Type 0 where
  pub want : x.workspace.want ≡ Nothing
  pub gate : x.workspace.gate.done ≡ done
  pub lost : x.state ≡ Went → x.workspace.gate.done ≢ phase_number x.workspace.place.phase
  pub unfinished : x.state ≡ Finished → ⊥

-- only at the end a step finishes
never_finished : (phase : Phase) (to : Place) (done : ℕ) → (is_end to ≡ true → ⊥) → arrival phase to done ≡ Finished → ⊥
never_finished phase to done never = by_end (is_end to) refl
  where
    by_end : (b : Bool) → is_end to ≡ b → (if b then (if done == 11 then Finished else aborted phase (Gate done)) else Went) ≡ Finished → ⊥
    by_end true h finished = never h
    by_end false h finished = let z : ⊥ = cc in z

-- from where its act ended; in the last phase it leads nowhere
lost_from : (done : ℕ) (p : Phase) (u : Workspace) (words : List ℕ) (ending : Ending) → u.want ≡ Nothing → u.gate.done ≡ done → done ≢ phase_number p → StaysIn p ending → (p ≡ Done → (to : Place) → ending ≡ Leads to → ⊥) →
    StaysLost done (honest (goes_from u words ending))
lost_from done p u words (Leads to) none gate wrong stays never = record {
  want = none;
  gate = gate;
  lost = λ went same. wrong (sym gate ∙ same ∙ ap phase_number stays);
  unfinished = never_finished u.place.phase to u.gate.done (λ end. never (same_phase p Done (ap phase_number (sym stays) ∙ end_number to end)) to refl);
}
lost_from done p u words Refuses none gate wrong stays never = absurd stays
lost_from done p u words (Aborts cause) none gate wrong stays never =
    record { want = none; gate = gate; lost = λ went same. let z : ⊥ = cc in z; unfinished = λ finished. let z : ⊥ = cc in z }

module _ (e : CallContext) (laws : (phase : Phase) → (phase ≡ Guard → ⊥) → PhaseLaws e phase) (lost : LostLaw) (now later : ℕ) (lent_bucket : Option BucketWords) (w : Workspace) (nothing : w.want ≡ Nothing)
    (sealed : w.sealed ≡ e.sealed) (wrong : w.gate.done ≢ phase_number w.place.phase) (fit : w.place.phase ≡ Guard → PassesGuard e) where
  abbrev its_end : Acted
  its_end = honest (act_tree (given_with e lent_bucket) now w (words_of lent_bucket))

  open_still : StaysOpen w.place.phase w its_end
  open_still = stays_open e laws lent_bucket now w (words_of lent_bucket) lost wrong fit sealed

  pub stays_lost : (site : Option Act) → StaysLost w.gate.done (honest (step_at site (given_with e lent_bucket) now later w (words_of lent_bucket)))
  stays_lost None = record { want = nothing; gate = refl; lost = λ went same. let z : ⊥ = cc in z; unfinished = λ finished. let z : ⊥ = cc in z }
  stays_lost (Some act) =
      subst (StaysLost w.gate.done) (sym (honest_bound (act_tree (given_with e lent_bucket) now w (words_of lent_bucket)) goes_on))
      (lost_from w.gate.done w.place.phase its_end.workspace its_end.words its_end.ending (open_still.want ∙ nothing) open_still.gate wrong open_still.ends
      (never_on (given_with e lent_bucket) now w.place.phase w.place.index w (words_of lent_bucket) wrong))

-- One strike is isolated: the laws of all phases put together.
use Rattle.std.proofs.Common.{◌≡◌, ℕ, ◌+◌, ◌≤◌, List, Option, refl, ap, sym, ◌∙◌, arith}
use Rattle.sei_fault.specs.Counts.{Counts, Answered}
use Rattle.sei_fault.specs.declared.place.Phase.{Phase}
use Rattle.sei_fault.specs.declared.place.Phase.TheVariants.{Guard, Take, First, Restore, Second, Compare, Verify, Enter, Give, Send, Done}
use Rattle.sei_fault.specs.Question.{Question, Answer, honestly_to}
use Rattle.sei_fault.specs.Tree.{honest}
use Rattle.sei_gate.specs.declared.Gate.{Gate}
use Rattle.sei_pass.specs.State.{PassState}
use Rattle.sei_words.specs.LentBucket.{words_of, bucket_of, place_of}
use Rattle.sei_words.specs.Words.{BucketWords}
use Rattle.sei_traverse.specs.declared.turned.State.{State}
use Rattle.sei_traverse.specs.declared.workspace.Ending.{Ending}
use Rattle.sei_traverse.specs.declared.workspace.Ending.TheVariants.{Leads, Refuses, Aborts}
use Rattle.sei_traverse.specs.CallContext.{CallContext}
use Rattle.sei_traverse.specs.FaultInvariant.{FaultInvariant, LendsWanted, Isolates}
use Rattle.sei_traverse.specs.OnWay.{lent_words, TellsAs}
use Rattle.sei_traverse.specs.Phases.{reply_of}
use Rattle.sei_traverse.specs.Given.{given_of}
use Rattle.sei_stmt.specs.Handling.{Behavior}
use Rattle.sei_traverse.specs.State.{TraversalState, one_more}
use Rattle.sei_traverse.specs.Step.{act_in, step_result, traversal_step, TimedTwice}
use Rattle.sei_traverse.specs.Trusted.{IsTrusted}
use Rattle.sei_traverse.proofs.CleanAnswers.{answers_whole, answers_clean}
use Rattle.sei_traverse.proofs.Isolation.{isolates_given}
use Rattle.sei_traverse.proofs.LostActs.{LostEnds, lost_on}
use Rattle.sei_traverse.proofs.PhaseLaws.{PhaseLaws}
use Rattle.sei_traverse.proofs.StepEnds.{StaysIn}
use Rattle.sei_traverse.proofs.StepLaws.{LostLaw, AnsweredLaw}
use Rattle.sei_traverse.proofs.StruckCompare.{compare_laws}
use Rattle.sei_traverse.proofs.StruckEdges.{guard_struck, take_laws, enter_laws, give_laws, send_laws, done_laws}
use Rattle.sei_traverse.proofs.StruckFirst.{first_laws}
use Rattle.sei_traverse.proofs.StruckRestore.{restore_laws}
use Rattle.sei_traverse.proofs.StruckSecond.{second_laws}
use Rattle.sei_traverse.proofs.StruckVerify.{verify_laws}

-- the laws of each phase but Guard
phase_laws : (e : CallContext) → IsTrusted e → (phase : Phase) → (phase ≡ Guard → ⊥) → PhaseLaws e phase
phase_laws e trusted Guard n = absurd (n refl)
phase_laws e trusted Take n = take_laws e trusted
phase_laws e trusted First n = first_laws e trusted
phase_laws e trusted Restore n = restore_laws e trusted
phase_laws e trusted Second n = second_laws e trusted
phase_laws e trusted Compare n = compare_laws e trusted
phase_laws e trusted Verify n = verify_laws e trusted
phase_laws e trusted Enter n = enter_laws e trusted
phase_laws e trusted Give n = give_laws e trusted
phase_laws e trusted Send n = send_laws e trusted
phase_laws e trusted Done n = done_laws e trusted

ends_in : (phase : Phase) (ending : Ending) → LostEnds phase ending → StaysIn phase ending
ends_in phase (Leads to) h = h
ends_in phase Refuses h = h
ends_in phase (Aborts cause) h = h

lost_law : LostLaw
lost_law = λ g now phase w words gate fit.
    let y = honest (act_in g now phase w.place.index w words) in
    let h = lost_on g now phase w words gate fit in
    record { want = h.want; gate = ap (λ (x : Gate). x.done) h.gate; ends = ends_in phase y.ending h.ends }

answered_law : (e : CallContext) → IsTrusted e → AnsweredLaw e
answered_law e trusted = λ w time made end asked aimed i.
    let reply : reply_of w ≡ end.bytes.items = ap (λ (p : PassState). p.bytes.items) i.second.second in
    record {
      words = end.words;
      answered = record {
        answers = answers_whole e time made end i.whole trusted w end.words asked aimed i.notes refl reply (omega (arith, i.questions));
        wire = i.copy ∙ sym reply;
      };
    }

-- what is known of a traversal that at most one strike struck is known behind each step, under any core that keeps its
-- law and any clock that is the call context's
pub isolates_one : {S : Type 0} (gives : S → (q : Question) → Answer q → S → Type 0) (counts : S → Counts) →
    ((s : S) (q : Question) (a : Answer q) (t : S) → gives s q a t → Answered (a ≡ honestly_to q) (counts s) (counts t)) →
    (told : Option ℕ) (e : CallContext) (begin : Counts) (old new : TraversalState) (lent_bucket left : Option BucketWords) (state : State) (s t : S) (behavior : Behavior) (input : List ℕ) →
    e.behavior ≡ behavior → e.input ≡ input →
    TimedTwice gives told (λ now later. traversal_step (given_of behavior input old.space (bucket_of lent_bucket)) now later old.workspace (words_of lent_bucket)) s t (step_result new.workspace (words_of left) state) →
    place_of left ≡ place_of lent_bucket → new.space ≡ old.space → new.steps ≡ one_more old.steps → new.workspace.sealed ≡ old.workspace.sealed →
    IsTrusted e → TellsAs e.clock told → LendsWanted old.workspace lent_bucket → FaultInvariant e old (lent_words lent_bucket) begin (counts s) → (counts t).struck ≤ begin.struck + 1 →
    Isolates e old new lent_bucket left begin (counts t) new.workspace.want state
isolates_one gives counts law told e begin old new lent_bucket left state s t behavior input f h turned place space steps sealed trusted tells lends facts few =
    isolates_given e trusted (phase_laws e trusted) (guard_struck e) lost_law (answers_clean e trusted) (answered_law e trusted) gives counts law told begin old new lent_bucket left state s t behavior input f h turned
    place space steps sealed tells lends facts few

-- Laws of what is known of a traversal: where it begins, where its bucket is lent, and where that is given back.
use Rattle.std.proofs.Common.{◌≡◌, ℕ, List, Option, Some, None, sym, ap, ◌∙◌, subst, arith}
use Rattle.sei_code.specs.Kept.{Kept}
use Rattle.sei_fault.specs.Counts.{Counts}
use Rattle.sei_fault.specs.declared.place.Phase.{Phase}
use Rattle.sei_fault.specs.Phases.{phase_number}
use Rattle.sei_fault.specs.declared.place.Phase.TheVariants.{First, Send}
use Rattle.sei_log.specs.Changes.{undone}
use Rattle.sei_log.specs.declared.log.Change.{Change}
use Rattle.sei_log.specs.declared.notes.Notes.{Notes}
use Rattle.sei_traverse.specs.declared.workspace.Workspace.{Workspace}
use Rattle.sei_traverse.specs.CallContext.{CallContext}
use Rattle.sei_traverse.specs.FaultInvariant.{StruckCase, FaultInvariant}
use Rattle.sei_traverse.specs.FaultInvariant.StruckCase.{Right, Lost}
use Rattle.sei_traverse.specs.OnWay.{OnWay}
use Rattle.sei_traverse.specs.State.{TraversalState, begun_traversal}
use Rattle.sei_traverse.specs.Struck.{IsNoted, FirstStruck, StruckIn}
use Rattle.sei_traverse.specs.Struck.FirstStruck.{Restorable}
use Rattle.sei_traverse.specs.Trusted.{IsTrusted}
use Rattle.sei_traverse.specs.Unstruck.{FirstIsNew, CleanIn}
use Rattle.sei_traverse.proofs.WayLaws.{way_begins}
use Rattle.sei_traverse.proofs.EdgeActs.{lends}
use Rattle.sei_traverse.proofs.StepEnds.{same_phase, clean_gate}

pub invariant_begin : (e : CallContext) (c : Counts) → FaultInvariant e (begun_traversal e.space e.sealed) None c c
invariant_begin e c = record {
  later = omega arith;
  unstruck = λ u. record {
    clean = (way_begins e c).clean u;
    knows = tt;
  };
  struck = λ s. absurd (omega (arith, s));
}

-- what is lent may be other words, where its phase says so
relent : (e : CallContext) (t : TraversalState) (old new : Option (List ℕ)) (begin now : Counts) (p : Phase) → t.workspace.gate.done ≡ phase_number p →
    ((steps asked : ℕ) → CleanIn e t.workspace old steps asked p → CleanIn e t.workspace new steps asked p) →
    ((asked : ℕ) → StruckIn e t.workspace old asked p → StruckIn e t.workspace new asked p) → FaultInvariant e t old begin now → FaultInvariant e t new begin now
relent e t old new begin now p gate clean struck facts = record {
  later = facts.later;
  unstruck = λ u.
      let f = facts.unstruck u in
      let is : t.workspace.place.phase ≡ p = here (clean_gate e t.workspace old t.steps f.clean.asked t.workspace.place.phase f.clean.clean.in_phase) in
      record {
        clean = record {
          space = f.clean.space;
          asked = f.clean.asked;
          clean = record {
            in_phase = subst (λ (q : Phase). CleanIn e t.workspace new t.steps f.clean.asked q) (sym is)
                (clean t.steps f.clean.asked (subst (λ (q : Phase). CleanIn e t.workspace old t.steps f.clean.asked q) is f.clean.clean.in_phase));
          };
          counted = f.clean.counted;
        };
        knows = f.knows;
      };
  struck = λ s.
      let f = facts.struck s in
      record { space = f.space; sealed = f.sealed; asked = f.asked; case = by_case f.asked f.case; counted = f.counted };
}
  where
    here : t.workspace.gate.done ≡ phase_number t.workspace.place.phase → t.workspace.place.phase ≡ p
    here right = same_phase t.workspace.place.phase p (sym right ∙ gate)

    by_case : (asked : ℕ) → StruckCase e t.workspace old asked → StruckCase e t.workspace new asked
    by_case asked (Right right stands) =
        let is : t.workspace.place.phase ≡ p = here right in
        Right right (subst (λ (q : Phase). StruckIn e t.workspace new asked q) (sym is) (struck asked (subst (λ (q : Phase). StruckIn e t.workspace old asked q) is stands)))
    by_case asked (Lost wrong fit) = Lost wrong fit

-- an empty log undoes nothing
undoes_none : (e : CallContext) (w : Workspace) (asked : ℕ) → FirstIsNew e w → FirstStruck e w e.taken asked
undoes_none e w asked new = Restorable (subst (λ (n : Notes). IsNoted e n.now) (sym new.notes) (λ c v is reads. absurd (let z : ⊥ = cc in z))) (ap (λ (log : Kept Change). undone log.items e.taken) new.first_log)

pub invariant_lent : (e : CallContext) (t : TraversalState) (begin now : Counts) → IsTrusted e → t.workspace.gate.done ≡ 2 → FaultInvariant e t None begin now → FaultInvariant e t (Some e.taken) begin now
invariant_lent e t begin now trusted gate facts =
    relent e t None (Some e.taken) begin now First gate
    (λ steps asked i. record { is = i.is; second = i.second; at = lends e t.workspace steps asked trusted.clock i.at })
    (λ asked i. record { space = i.space; second = i.second; stands = undoes_none e t.workspace asked i.stands }) facts

pub invariant_given : (e : CallContext) (t : TraversalState) (words : List ℕ) (begin now : Counts) → t.workspace.gate.done ≡ 9 → FaultInvariant e t (Some words) begin now → FaultInvariant e t None begin now
invariant_given e t words begin now gate facts =
    relent e t (Some words) None begin now Send gate
    (λ steps asked i. record { is = i.is; time = i.time; made = i.made; end = i.end; answered = i.answered; index = i.index; words = tt; number = i.number })
    (λ asked i. i) facts

-- what is known without a strike is that it is on its way
pub known_are_on_their_way : (e : CallContext) (t : TraversalState) (lent : Option (List ℕ)) (begin now : Counts) → FaultInvariant e t lent begin now → OnWay e t lent begin now
known_are_on_their_way e t lent begin now facts = record { later = facts.later; clean = λ none. (facts.unstruck none).clean }

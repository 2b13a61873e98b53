-- A whole step without a strike, from what its act does.
use Rattle.std.proofs.Common.{◌≡◌, ℕ, suc, ◌+◌, ◌-◌, ◌^◌, ◌<◌, ◌≤◌, Bool, false, List, Option, Some, refl, ap, ◌∙◌, arith}
use Rattle.std.specs.Prelude.{◌==◌, ◌&&◌, if◌then◌else◌}
use Rattle.sei_fault.specs.Counts.{Counts}
use Rattle.sei_fault.specs.declared.place.Act.{Act}
use Rattle.sei_fault.specs.declared.place.Phase.{Phase}
use Rattle.sei_fault.specs.declared.place.Phase.TheVariants.{Guard, Take, First, Restore, Second, Compare, Verify, Enter, Give, Send, Done}
use Rattle.sei_fault.specs.declared.place.Place.{Place}
use Rattle.sei_fault.specs.Phases.{phase_number}
use Rattle.sei_fault.specs.Tree.{Tree, Runs, any_core, honest}
use Rattle.sei_fault.specs.Weights.{weighed}
use Rattle.sei_fault.proofs.Public.{honest_bound, weighed_bound, Counted, count}
use Rattle.sei_fault.proofs.PublicStruckRuns.Counted.{Clean as NoStrike, Once as OneFell, More}
use Rattle.sei_traverse.specs.declared.turned.State.TheVariants.{Went, Finished, Refused}
use Rattle.sei_traverse.specs.declared.turned.Want.TheVariants.{Nothing}
use Rattle.sei_traverse.specs.declared.workspace.Ending.TheVariants.{Leads, Refuses}
use Rattle.sei_traverse.specs.declared.workspace.Workspace.{Workspace}
use Rattle.sei_traverse.specs.Acts.{Acted, acted, at}
use Rattle.sei_traverse.specs.CallContext.{CallContext}
use Rattle.sei_traverse.specs.Given.{Given}
use Rattle.sei_traverse.specs.Step.{act_tree, site_of, StepResult, step_result, is_end, arrival, goes_on, step_at, traversal_step}
use Rattle.sei_traverse.specs.Unstruck.{CleanIn}
use Rattle.sei_traverse.proofs.EdgeActs.{Finishes}
use Rattle.sei_traverse.proofs.GoesOn.{GoesOn}

no_end : (e : CallContext) (w : Workspace) (lent : Option (List ℕ)) (steps asked : ℕ) (phase : Phase) → CleanIn e w lent steps asked phase → (phase_number phase == 10 && w.place.index == 1) ≡ false
no_end e w lent steps asked Guard i = refl
no_end e w lent steps asked Take i = refl
no_end e w lent steps asked First i = refl
no_end e w lent steps asked Restore i = refl
no_end e w lent steps asked Second i = refl
no_end e w lent steps asked Compare i = refl
no_end e w lent steps asked Verify i = refl
no_end e w lent steps asked Enter i = refl
no_end e w lent steps asked Give i = refl
no_end e w lent steps asked Send i = refl
no_end e w lent steps asked Done i = ap (λ (index : ℕ). phase_number Done == 10 && index == 1) i.index

-- a traversal that is clean stands at no end
pub clean_no_end : (e : CallContext) (w : Workspace) (lent : Option (List ℕ)) (steps asked : ℕ) → CleanIn e w lent steps asked w.place.phase → is_end w.place ≡ false
clean_no_end e w lent steps asked i = no_end e w lent steps asked w.place.phase i

arrives : (phase : Phase) (p : Place) (done : ℕ) → is_end p ≡ false → arrival phase p done ≡ Went
arrives phase p done h = ap (λ (b : Bool). if b then arrival phase (at Done 1) done else Went) h

arrives_last : (phase : Phase) (done : ℕ) → done ≡ 11 → arrival phase (at Done 1) done ≡ Finished
arrives_last phase done h = ap (arrival phase (at Done 1)) h

-- where nothing struck, a run is the honest one
unstruck : {R : Type 0} (tree : Tree R) (x : R) (c d : Counts) → d.struck ≡ c.struck → Counted tree x c d → (x ≡ honest tree) × (d.asked < 2 ^ 128 - 1 → c.asked + weighed tree ≤ d.asked)
unstruck tree x c d none (NoStrike e s a) = (e, a)
unstruck tree x c d none (OneFell n run s a) = absurd (omega (arith, none, s))
unstruck tree x c d none (More s) = absurd (omega (arith, none, s))

-- a step wants nothing before its act
abbrev pub unwanting : Workspace → Workspace
unwanting w = record w { want = Nothing }

module _ (g : Given) (now later : ℕ) (w : Workspace) (words : List ℕ) where
  -- the act is made once
  honest_whole_step : (act : Act) (x : Acted) → site_of g.behavior (unwanting w) ≡ Some act → honest (act_tree g now (unwanting w) words) ≡ x → honest (traversal_step g now later w words) ≡ honest (goes_on x)
  honest_whole_step act x site acts =
      ap (λ (o : Option Act). honest (step_at o g now later (unwanting w) words)) site
      ∙ honest_bound (act_tree g now (unwanting w) words) goes_on
      ∙ ap (λ (y : Acted). honest (goes_on y)) acts

  step_weighed : (act : Act) (x : Acted) → site_of g.behavior (unwanting w) ≡ Some act → honest (act_tree g now (unwanting w) words) ≡ x →
      weighed (traversal_step g now later w words) ≡ 0 + (weighed (act_tree g now (unwanting w) words) + weighed (goes_on x))
  step_weighed act x site acts =
      ap (λ (o : Option Act). weighed (step_at o g now later (unwanting w) words)) site
      ∙ ap (λ (n : ℕ). 0 + n) (weighed_bound (act_tree g now (unwanting w) words) goes_on ∙ ap (λ (y : Acted). weighed (act_tree g now (unwanting w) words) + weighed (goes_on y)) acts)

  -- where the act leads to a place, the step goes there
  pub leads_in_step : (act : Act) (u : Workspace) (left : List ℕ) (to : Place) → site_of g.behavior (unwanting w) ≡ Some act → honest (act_tree g now (unwanting w) words) ≡ acted u left (Leads to) →
      (honest (traversal_step g now later w words) ≡ step_result (record u { place = to }) left (arrival u.place.phase to u.gate.done)) × (weighed (act_tree g now (unwanting w) words) ≡ weighed (traversal_step g now later w words))
  leads_in_step act u left to site acts =
      (honest_whole_step act (acted u left (Leads to)) site acts, omega (arith, step_weighed act (acted u left (Leads to)) site acts))

  -- where the act refuses, so does the step
  pub refuses_step : (act : Act) (u : Workspace) (left : List ℕ) → site_of g.behavior (unwanting w) ≡ Some act → honest (act_tree g now (unwanting w) words) ≡ acted u left Refuses →
      (honest (traversal_step g now later w words) ≡ step_result u left Refused) × (weighed (act_tree g now (unwanting w) words) ≡ weighed (traversal_step g now later w words))
  refuses_step act u left site acts =
      (honest_whole_step act (acted u left Refuses) site acts, omega (arith, step_weighed act (acted u left Refuses) site acts))

  -- a step whose act goes on leads to its place
  pub clean_whole_step : (e : CallContext) (after : List ℕ → Option (List ℕ)) (steps asked : ℕ) (a : GoesOn e g now w.place.phase (unwanting w) words after steps asked) →
      honest (traversal_step g now later w words) ≡ step_result (record a.workspace { place = a.to }) a.left Went
  clean_whole_step e after steps asked a =
      let there : is_end a.to ≡ false = clean_no_end e (record a.workspace { place = a.to }) (after a.left) (suc steps) (asked + a.more) a.clean in
      (leads_in_step a.act a.workspace a.left a.to a.site a.acts).0
      ∙ ap (step_result (record a.workspace { place = a.to }) a.left) (arrives a.workspace.place.phase a.to a.workspace.gate.done there)

  -- a step whose act finishes leads to the end
  pub finish_step : (e : CallContext) (steps asked : ℕ) (a : Finishes e g now w.place.phase (unwanting w) words steps asked) →
      honest (traversal_step g now later w words) ≡ step_result (record a.workspace { place = at Done 1 }) a.left Finished
  finish_step e steps asked a =
      (leads_in_step a.act a.workspace a.left (at Done 1) a.site a.acts).0
      ∙ ap (step_result (record a.workspace { place = at Done 1 }) a.left) (arrives_last a.workspace.place.phase a.workspace.gate.done a.finished.gate)

  -- a run of a step in which nothing struck is the honest one, and what its questions weigh was counted
  pub clean_run : (c d : Counts) (x : StepResult) → Runs any_core (traversal_step g now later w words) c d x → d.struck ≡ c.struck →
      (x ≡ honest (traversal_step g now later w words)) × (d.asked < 2 ^ 128 - 1 → c.asked + weighed (traversal_step g now later w words) ≤ d.asked)
  clean_run c d x r none = unstruck (traversal_step g now later w words) x c d none (count (traversal_step g now later w words) c d x r)

-- What a step leaves as it is, whatever is answered.
use Rattle.std.proofs.Common.{◌≡◌, ℕ, ◌≤◌, List, Option, Some, None, sym, ◌∙◌, subst, refl, arith}
use Rattle.sei_fault.specs.declared.place.Act.{Act}
use Rattle.sei_fault.specs.declared.place.Phase.{Phase}
use Rattle.sei_fault.specs.declared.place.Phase.TheVariants.{Guard, Take, First, Restore, Second, Compare, Verify, Enter, Give, Send, Done}
use Rattle.sei_fault.specs.declared.place.Place.{Place}
use Rattle.sei_fault.specs.declared.place.Times.{Times}
use Rattle.sei_fault.specs.declared.place.Times.TheVariants.{Once, Skip, Twice}
use Rattle.sei_fault.specs.Phases.{phase_number}
use Rattle.sei_fault.specs.Tree.{Tree, Always, bound}
use Rattle.sei_fault.specs.Tree.Tree.{Done as Ended, Ask}
use Rattle.sei_gate.specs.Closing.{risen}
use Rattle.sei_traverse.specs.declared.turned.Want.{Want}
use Rattle.sei_traverse.specs.declared.turned.Want.TheVariants.{Nothing, Enter as WantEnter, Give as WantGive}
use Rattle.sei_traverse.specs.declared.workspace.Ending.{Ending}
use Rattle.sei_traverse.specs.declared.workspace.Ending.TheVariants.{Leads, Refuses, Aborts}
use Rattle.sei_traverse.specs.declared.workspace.Workspace.{Workspace}
use Rattle.sei_traverse.specs.Acts.{Acted, ends, at, closes}
use Rattle.sei_traverse.specs.FaultInvariant.{IsLikeWorkspace}
use Rattle.sei_traverse.specs.Phases.{reply_of, send_want}
use Rattle.sei_traverse.specs.Given.{Given}
use Rattle.sei_traverse.specs.Step.{StepResult, act_in, act_tree, site_of, goes_from, goes_on, once, twice, twice_from, step_as, step_at, traversal_step}
use Rattle.sei_traverse.proofs.ActKeeps.{IsNoStore, Keeps, keeps, closing_always}

-- Pieces of work.

-- behind ends of which something is known
always_when : {A B : Type 0} (Q : A → Type 0) (P : B → Type 0) (t : Tree A) (f : A → Tree B) → Always Q t → ((x : A) → Q x → Always P (f x)) → Always P (bound t f)
always_when Q P (Ended r) f q h = h r q
always_when Q P (Ask question k) f q h = λ a. always_when Q P (k a) f (q a) h

always_map : {A : Type 0} (Q P : A → Type 0) (t : Tree A) → Always Q t → ((x : A) → Q x → P x) → Always P t
always_map Q P (Ended r) q h = h r q
always_map Q P (Ask question k) q h = λ a. always_map Q P (k a) (q a) h

-- A step keeps what each act of its place keeps, and each move.

-- the act leaves the place, and keeps this of the workspace and the words
abbrev pub KeepsAt : (Workspace → List ℕ → Type 0) → Place → Acted → Type 0
KeepsAt P place y = (y.workspace.place ≡ place) × P y.workspace y.words

module _ (P : Workspace → List ℕ → Type 0) (g : Given) (w : Workspace) (moved : (u : Workspace) (left : List ℕ) (to : Place) → P u left → P (record u { place = to }) left)
    (acts : (clock : ℕ) (u : Workspace) (left : List ℕ) → u.place ≡ w.place → P u left → Always (KeepsAt P w.place) (act_in g clock w.place.phase w.place.index u left)) where
  abbrev Ends : StepResult → Type 0
  Ends x = P x.workspace x.words

  act_there : (clock : ℕ) (u : Workspace) (left : List ℕ) → u.place ≡ w.place → P u left → Always (KeepsAt P w.place) (act_tree g clock u left)
  act_there clock u left same h = subst (λ (r : Place). Always (KeepsAt P w.place) (act_in g clock r.phase r.index u left)) (sym same) (acts clock u left same h)

  on_from : (u : Workspace) (left : List ℕ) (ending : Ending) → P u left → Always Ends (goes_from u left ending)
  on_from u left (Leads to) h = λ p. moved u left p h
  on_from u left Refuses h = h
  on_from u left (Aborts cause) h = h

  once_keeps : (clock : ℕ) (u : Workspace) (left : List ℕ) → u.place ≡ w.place → P u left → Always Ends (once g clock u left)
  once_keeps clock u left same h = always_when (KeepsAt P w.place) Ends (act_tree g clock u left) goes_on (act_there clock u left same h) (λ y k. on_from y.workspace y.words y.ending k.1)

  again_keeps : (later : ℕ) (u : Workspace) (left : List ℕ) (ending : Ending) → u.place ≡ w.place → P u left → Always Ends (twice_from g later u left ending)
  again_keeps later u left (Leads to) same h = once_keeps later u left same h
  again_keeps later u left Refuses same h = h
  again_keeps later u left (Aborts cause) same h = h

  as_often : (now later : ℕ) (u : Workspace) (left : List ℕ) (act : Act) → u.place ≡ w.place → P u left → (times : Times) → Always Ends (step_as g now later u left act times)
  as_often now later u left act same h Once = once_keeps now u left same h
  as_often now later u left act same h Skip = λ p. moved u left p h
  as_often now later u left act same h Twice = always_when (KeepsAt P w.place) Ends (act_tree g now u left) (twice g later) (act_there now u left same h) (λ y k. again_keeps later y.workspace y.words y.ending k.0 k.1)

  at_site : (now later : ℕ) (u : Workspace) (left : List ℕ) → u.place ≡ w.place → P u left → (site : Option Act) → Always Ends (step_at site g now later u left)
  at_site now later u left same h None = h
  at_site now later u left same h (Some act) = λ times. as_often now later u left act same h times

  pub step_result_keeps : (now later : ℕ) (words : List ℕ) → P (record w { want = Nothing }) words → Always Ends (traversal_step g now later w words)
  step_result_keeps now later words h = at_site now later (record w { want = Nothing }) words refl h (site_of g.behavior (record w { want = Nothing }))

-- The wanted bucket.

pub wanted_step : (g : Given) (now later : ℕ) (w : Workspace) (words : List ℕ) → IsNoStore w.place.phase w.place.index → Always (λ (x : StepResult). x.workspace.wanted ≡ w.wanted) (traversal_step g now later w words)
wanted_step g now later w words n =
    step_result_keeps (λ u left. u.wanted ≡ w.wanted) g w (λ u left to h. h)
    (λ clock u left same h. always_map (Keeps u) (KeepsAt (λ v more. v.wanted ≡ w.wanted) w.place) (act_in g clock w.place.phase w.place.index u left) (keeps g clock u left w.place.phase w.place.index n)
    (λ y k. (k.place ∙ same, k.wanted ∙ h))) now later words refl

-- From Enter on, an act only closes its phase.

-- all but the place, the gate and the want is as it was
abbrev pub Untouched : Workspace → List ℕ → Workspace → List ℕ → Type 0
Untouched w words u left = IsLikeWorkspace w u × (left ≡ words)

like_gated : (w u : Workspace) (done : ℕ) (want : Want) → IsLikeWorkspace w u → IsLikeWorkspace w (record u { gate = record { done = done }; want = want })
like_gated w u done want l = record { sealed = l.sealed; wanted = l.wanted; first = l.first; second = l.second; first_log = l.first_log; second_log = l.second_log; notes = l.notes; wire = l.wire }

like_moved : (w u : Workspace) (to : Place) → IsLikeWorkspace w u → IsLikeWorkspace w (record u { place = to })
like_moved w u to l = record { sealed = l.sealed; wanted = l.wanted; first = l.first; second = l.second; first_log = l.first_log; second_log = l.second_log; notes = l.notes; wire = l.wire }

like_itself : (w : Workspace) → IsLikeWorkspace w (record w { want = Nothing })
like_itself w = record { sealed = refl; wanted = refl; first = refl; second = refl; first_log = refl; second_log = refl; notes = refl; wire = refl }

module _ (g : Given) (clock : ℕ) (w : Workspace) (words : List ℕ) (place : Place) (u : Workspace) (left : List ℕ) (same : u.place ≡ place) (h : Untouched w words u left) where
  closes_untouched : (phase : Phase) (want : Want) (to : Place) → Always (KeepsAt (Untouched w words) place) (closes phase u left want to)
  closes_untouched phase want to = closing_always (KeepsAt (Untouched w words) place) phase u left (λ v. ends (record v { want = want }) left (Leads to))
      (same, (like_gated w u (risen u.gate.done) want h.0, h.1))
      (same, (like_gated w u u.gate.done u.want h.0, h.1))

  edge_act : (p : Phase) (index : ℕ) → 7 ≤ phase_number p → Always (KeepsAt (Untouched w words) place) (act_in g clock p index u left)
  edge_act Guard index le = absurd (omega (arith, le))
  edge_act Take index le = absurd (omega (arith, le))
  edge_act First index le = absurd (omega (arith, le))
  edge_act Restore index le = absurd (omega (arith, le))
  edge_act Second index le = absurd (omega (arith, le))
  edge_act Compare index le = absurd (omega (arith, le))
  edge_act Verify index le = absurd (omega (arith, le))
  edge_act Enter index le = closes_untouched Enter WantEnter (at Give 0)
  edge_act Give index le = closes_untouched Give WantGive (at Send 0)
  edge_act Send index le = closes_untouched Send (send_want (reply_of u)) (at Done 0)
  edge_act Done index le = closes_untouched Done Nothing (at Done 1)

-- and so a step there leaves the rest as it is
pub edge_whole_step : (g : Given) (now later : ℕ) (w : Workspace) (words : List ℕ) → 7 ≤ phase_number w.place.phase → Always (λ (x : StepResult). Untouched w words x.workspace x.words) (traversal_step g now later w words)
edge_whole_step g now later w words le =
    step_result_keeps (Untouched w words) g w (λ u left to h. (like_moved w u to h.0, h.1))
    (λ clock u left same h. edge_act g clock w words w.place u left same h w.place.phase w.place.index le) now later words (like_itself w, refl)

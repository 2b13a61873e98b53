-- What is shown of each act without a strike.
use Rattle.std.proofs.Common.{◌≡◌, ℕ, suc, ◌+◌, ◌≤◌, List, Option, Some}
use Rattle.sei_fault.specs.declared.place.Act.{Act}
use Rattle.sei_fault.specs.declared.place.Phase.{Phase}
use Rattle.sei_fault.specs.declared.place.Place.{Place}
use Rattle.sei_fault.specs.Tree.{honest}
use Rattle.sei_fault.specs.Weights.{weighed}
use Rattle.sei_traverse.specs.declared.workspace.Ending.TheVariants.{Leads}
use Rattle.sei_traverse.specs.declared.workspace.Workspace.{Workspace}
use Rattle.sei_traverse.specs.Acts.{acted}
use Rattle.sei_traverse.specs.CallContext.{CallContext}
use Rattle.sei_traverse.specs.Given.{Given}
use Rattle.sei_traverse.specs.Step.{site_in, act_in}
use Rattle.sei_traverse.specs.Unstruck.{want_in, NextIn, CleanIn}

-- the act leads on to a place where the traversal is clean, behind so many more questions; `after` makes of the words
-- that it leaves what is lent then
pub record GoesOn (e : CallContext) (g : Given) (now : ℕ) (phase : Phase) (w : Workspace) (words : List ℕ) (after : List ℕ → Option (List ℕ)) (steps asked : ℕ) : Type 0 where
  pub act : Act
  pub site : site_in g.behavior w phase w.place.index ≡ Some act
  pub workspace : Workspace
  pub left : List ℕ
  pub to : Place
  pub next : NextIn phase w.place.index to.phase
  pub acts : honest (act_in g now phase w.place.index w words) ≡ acted workspace left (Leads to)
  pub want : workspace.want ≡ want_in e w phase
  pub more : ℕ
  pub asks : more ≤ weighed (act_in g now phase w.place.index w words)
  pub clean : CleanIn e (record workspace { place = to }) (after left) (suc steps) (asked + more) to.phase

-- What the acts of Guard, Take, Enter, Give, Send and Done do without a strike.
use Rattle.std.proofs.Common.{◌≡◌, ◌⊎◌, inl, inr, ℕ, zero, suc, ◌+◌, ◌<◌, ◌≤◌, Bool, true, false, List, Option, Some, None, refl, sym, ap, ◌∙◌, subst, arith}
use Rattle.std.specs.Prelude.{if◌then◌else◌}
use Rattle.sei_code.specs.Kept.{Kept}
use Rattle.sei_log.specs.declared.log.Change.{Change}
use Rattle.sei_log.specs.declared.notes.Notes.{Notes}
use Rattle.sei_fault.specs.declared.cause.AbortCause.TheVariants.{Range}
use Rattle.sei_fault.specs.declared.place.Act.{Act}
use Rattle.sei_fault.specs.declared.place.Act.TheVariants.{Plain}
use Rattle.sei_fault.specs.declared.place.Phase.{Phase}
use Rattle.sei_fault.specs.declared.place.Phase.TheVariants.{Guard, Take, First, Enter, Give, Send, Done}
use Rattle.sei_fault.specs.declared.place.Place.{Place}
use Rattle.sei_fault.specs.Phases.{phase_number}
use Rattle.sei_fault.specs.Tree.{honest}
use Rattle.sei_gate.specs.Closing.{risen}
use Rattle.sei_stmt.specs.Handling.{Parsed, parsed_bucket}
use Rattle.sei_stmt.specs.Machine.{Machine, Setting, After}
use Rattle.sei_stmt.specs.Machine.Outcome.{Next}
use Rattle.sei_pass.specs.declared.given.Sealed.{Sealed}
use Rattle.sei_pass.specs.Setting.{is_intact}
use Rattle.sei_pass.specs.State.{PassState, new_pass}
use Rattle.sei_pass.specs.Steps.{machine_of}
use Rattle.sei_traverse.specs.declared.turned.Want.{Want}
use Rattle.sei_traverse.specs.declared.turned.Want.TheVariants.{Nothing, Take as WantTake, Enter as WantEnter, Give as WantGive}
use Rattle.sei_traverse.specs.declared.workspace.Ending.TheVariants.{Leads, Refuses, Aborts}
use Rattle.sei_traverse.specs.declared.workspace.Workspace.{Workspace}
use Rattle.sei_traverse.specs.Acts.{acted, ends, at, closes}
use Rattle.sei_traverse.specs.Comes.{Agrees, Comes}
use Rattle.sei_traverse.specs.CallContext.{CallContext, TellsTime, Follows, IsFitContext, given_in, first_setting, first_start}
use Rattle.sei_pass.specs.declared.given.Which.TheVariants.{Making}
use Rattle.sei_traverse.specs.PassActs.{machine_in}
use Rattle.sei_traverse.specs.Phases.{guard_tree, guard_call, take_tree, take_wanted, send_want}
use Rattle.sei_traverse.specs.Given.{Given, given_of, has_sealed_call, bucket_of_call, bucket_or_zero}
use Rattle.sei_traverse.specs.Step.{act_in, site_in, plain_below}
use Rattle.sei_traverse.specs.Unstruck.{take_want, NextIn, IsOf, FirstIsNew, SecondIsNew, SecondIsDone, InGuard, InTake, WantedAt, FirstWaits, FirstRuns, InBoth, InEnter, InGive, HasOutput, InSend, InDone, IsFinished}
use Rattle.sei_traverse.proofs.Branches.{below}
use Rattle.sei_traverse.proofs.Closes.{closed_workspace, closes_then, only_closes}
use Rattle.sei_traverse.proofs.GoesOn.{GoesOn}
use Rattle.sei_traverse.proofs.TimeLaws.{comes_start}

-- what a step is given where this bucket is lent
abbrev lending : CallContext → Option ℕ → Given
lending e bucket = given_of e.behavior e.input e.space bucket

abbrev behind : Workspace → Want → Place → Workspace
behind w want to = record w { gate = record { done = risen w.gate.done }; want = want; place = to }

-- What stays through such an act.

is_next : (e : CallContext) (w : Workspace) (want : Want) (to : Place) (phase next : Phase) → risen (phase_number phase) ≡ phase_number next → IsOf e w phase → IsOf e (behind w want to) next
is_next e w want to phase next more is = record { sealed = is.sealed; gate = ap risen is.gate ∙ more }

first_new : (e : CallContext) (w : Workspace) (want : Want) (to : Place) → FirstIsNew e w → FirstIsNew e (behind w want to)
first_new e w want to new = record { first = new.first; first_log = new.first_log; notes = new.notes }

second_new : (e : CallContext) (w : Workspace) (want : Want) (to : Place) → SecondIsNew e w → SecondIsNew e (behind w want to)
second_new e w want to new = record { second = new.second; second_log = new.second_log }

second_done : (e : CallContext) (w : Workspace) (want : Want) (to : Place) (end : Machine) → SecondIsDone e w end → SecondIsDone e (behind w want to) end
second_done e w want to end done = record { second = done.second; second_log = done.second_log }

none_more : (asked : ℕ) → asked + 0 ≡ asked
none_more asked = omega arith

both_stay : (e : CallContext) (w : Workspace) (lent : Option (List ℕ)) (want : Want) (to : Place) (time made : ℕ) (end : Machine) (asked : ℕ) → InBoth e w lent time made end asked → InBoth e (behind w want to) lent time made end (asked + 0)
both_stay e w lent want to time made end asked both = record {
  whole = both.whole;
  first = record { first = both.first.first; first_log = both.first.first_log; notes = both.first.notes };
  second = second_done e w want to end both.second;
  words = both.words;
  questions = omega (arith, both.questions);
}

answered_stays : (e : CallContext) (w : Workspace) (want : Want) (to : Place) (time made : ℕ) (end : Machine) (asked : ℕ) → HasOutput e w time made end asked → HasOutput e (behind w want to) time made end asked
answered_stays e w want to time made end asked answered = record {
  whole = answered.whole;
  second = second_done e w want to end answered.second;
  notes = answered.notes;
  copy = answered.copy;
  questions = answered.questions;
}

-- the only step of its phase
plain_first : (index : ℕ) → index ≡ 0 → plain_below 1 index ≡ Some Plain
plain_first index h = ap (plain_below 1) h

-- Guard

guard_passes : (g : Given) (w : Workspace) (words : List ℕ) → is_intact w.sealed g.input ≡ true → has_sealed_call g w.sealed ≡ true → w.gate.done ≡ 0 →
    honest (guard_tree g w words) ≡ acted (record (closed_workspace w) { want = Nothing }) words (Leads (at Take 0))
guard_passes g w words intact has gate =
    ap (λ (yes : Bool). honest (if yes then guard_call g w words else ends w words Refuses)) intact
    ∙ ap (λ (yes : Bool). honest (if yes then closes Guard w words Nothing (at Take 0) else ends w words Refuses)) has
    ∙ closes_then Guard w words (λ v. ends (record v { want = Nothing }) words (Leads (at Take 0))) gate

-- Guard lets a call of the sealed input pass
pub guard_on : (e : CallContext) (ie : IsFitContext e) (now : ℕ) (bucket : Option ℕ) (w : Workspace) (words : List ℕ) (steps asked : ℕ) → InGuard e w steps asked →
    GoesOn e (given_of e.behavior e.input e.space bucket) now Guard w words (λ left. None) steps asked
guard_on e ie now bucket w words steps asked i = record {
  act = Plain;
  site = plain_first w.place.index i.index;
  workspace = record (closed_workspace w) { want = Nothing };
  left = words;
  to = at Take 0;
  next = refl;
  acts = guard_passes (lending e bucket) w words (ap (λ (s : Sealed). is_intact s e.input) i.is.sealed ∙ ie.intact) (ap (λ (s : Sealed). has_sealed_call (lending e bucket) s) i.is.sealed ∙ ie.has) i.is.gate;
  want = refl;
  more = 0;
  asks = omega arith;
  clean = record {
    is = is_next e w Nothing (at Take 0) Guard Take refl i.is;
    index = omega arith;
    wanted = search;
    first = first_new e w Nothing (at Take 0) i.first;
    second = second_new e w Nothing (at Take 0) i.second;
    number = omega (arith, i.number);
    questions = none_more asked ∙ i.questions;
  };
}

refuses_second : (b : Bool) (g : Given) (w : Workspace) (words : List ℕ) → has_sealed_call g w.sealed ≡ false → honest (if b then guard_call g w words else ends w words Refuses) ≡ acted w words Refuses
refuses_second true g w words h = ap (λ (yes : Bool). honest (if yes then closes Guard w words Nothing (at Take 0) else ends w words Refuses)) h
refuses_second false g w words h = refl

refuses : (g : Given) (w : Workspace) (words : List ℕ) → (is_intact w.sealed g.input ≡ false) ⊎ (has_sealed_call g w.sealed ≡ false) → honest (guard_tree g w words) ≡ acted w words Refuses
refuses g w words (inl h) = ap (λ (yes : Bool). honest (if yes then guard_call g w words else ends w words Refuses)) h
refuses g w words (inr h) = refuses_second (is_intact w.sealed g.input) g w words h

-- Guard refuses an input that is not the sealed one, or that doesn't have the sealed call
pub refused : (g : Given) (w : Workspace) (words : List ℕ) → w.place.index ≡ 0 → (is_intact w.sealed g.input ≡ false) ⊎ (has_sealed_call g w.sealed ≡ false) →
    (site_in g.behavior w Guard w.place.index ≡ Some Plain) × (honest (guard_tree g w words) ≡ acted w words Refuses)
refused g w words index h = (plain_first w.place.index index, refuses g w words h)

-- Take

take_takes : (g : Given) (w : Workspace) (words : List ℕ) (index : ℕ) → index ≡ 0 → honest (take_tree g index w words) ≡ acted (record w { wanted = bucket_of_call g w.sealed }) words (Leads (at Take 1))
take_takes g w words index h = ap (λ (n : ℕ). honest (take_tree g n w words)) h

take_wants : (g : Given) (w : Workspace) (words : List ℕ) (index : ℕ) → index ≡ 1 → w.gate.done ≡ 1 → w.wanted < g.space.geometry.buckets →
    honest (take_tree g index w words) ≡ acted (record (closed_workspace w) { want = WantTake w.wanted }) words (Leads (at First 0))
take_wants g w words index h gate small =
    ap (λ (n : ℕ). honest (take_tree g n w words)) h
    ∙ closes_then Take w words (take_wanted g.space.geometry words) gate
    ∙ ap (λ (yes : Bool). honest (if yes then ends (record (closed_workspace w) { want = WantTake w.wanted }) words (Leads (at First 0)) else ends (closed_workspace w) words (Aborts (Range w.wanted))))
    (below w.wanted g.space.geometry.buckets small)

module _ (e : CallContext) (ie : IsFitContext e) (now : ℕ) (bucket : Option ℕ) (w : Workspace) (words : List ℕ) (steps asked : ℕ) (nothing : w.want ≡ Nothing) (i : InTake e w steps asked) where
  call_bucket : bucket_of_call (lending e bucket) w.sealed ≡ e.call.bucket
  call_bucket = ap (λ (s : Sealed). bucket_of_call (lending e bucket) s) i.is.sealed ∙ ap (λ (o : Option Parsed). bucket_or_zero (parsed_bucket o)) ie.called

  take_zero : w.place.index ≡ 0 → GoesOn e (lending e bucket) now Take w words (λ left. None) steps asked
  take_zero h = record {
    act = Plain;
    site = ap (plain_below 2) h;
    workspace = record w { wanted = bucket_of_call (lending e bucket) w.sealed };
    left = words;
    to = at Take 1;
    next = subst (λ (n : ℕ). NextIn Take n Take) (sym h) refl;
    acts = take_takes (lending e bucket) w words w.place.index h;
    want = nothing ∙ sym (ap (take_want e) h);
    more = 0;
    asks = omega arith;
    clean = record {
      is = record { sealed = i.is.sealed; gate = i.is.gate };
      index = omega arith;
      wanted = call_bucket;
      first = record { first = i.first.first; first_log = i.first.first_log; notes = i.first.notes };
      second = record { second = i.second.second; second_log = i.second.second_log };
      number = omega (arith, i.number, h);
      questions = none_more asked ∙ i.questions;
    };
  }

  take_one : w.place.index ≡ 1 → GoesOn e (lending e bucket) now Take w words (λ left. None) steps asked
  take_one h =
      let is_call : w.wanted ≡ e.call.bucket = subst (λ (n : ℕ). WantedAt e n w.wanted) h i.wanted in
      record {
        act = Plain;
        site = ap (plain_below 2) h;
        workspace = record (closed_workspace w) { want = WantTake w.wanted };
        left = words;
        to = at First 0;
        next = subst (λ (n : ℕ). NextIn Take n First) (sym h) refl;
        acts = take_wants (lending e bucket) w words w.place.index h i.is.gate (subst (λ (n : ℕ). n < e.space.geometry.buckets) (sym is_call) ie.bucket);
        want = ap WantTake is_call ∙ sym (ap (take_want e) h);
        more = 0;
        asks = omega arith;
        clean = record {
          is = is_next e w (WantTake w.wanted) (at First 0) Take First refl i.is;
          second = second_new e w (WantTake w.wanted) (at First 0) i.second;
          at = record {
            index = refl;
            first = first_new e w (WantTake w.wanted) (at First 0) i.first;
            number = omega (arith, i.number, h);
            questions = none_more asked ∙ i.questions;
          };
        };
      }

  by_index : (index : ℕ) → w.place.index ≡ index → index ≤ 1 → GoesOn e (lending e bucket) now Take w words (λ left. None) steps asked
  by_index zero h le = take_zero h
  by_index (suc zero) h le = take_one h
  by_index (suc (suc n)) h le = absurd (omega (arith, le))

  -- Take stores the bucket of the call, and then wants it
  pub take_on : GoesOn e (given_of e.behavior e.input e.space bucket) now Take w words (λ left. None) steps asked
  take_on = by_index w.place.index refl i.index

-- First

abbrev next_at : Machine → ℕ → After
next_at m index = record { machine = m; outcome = Next index }

-- before its first statement a pass agrees with each time
record Started (clock : Option ℕ) (g : Setting) (start : Machine) (x : After) (q : ℕ) : Type 0 where
  comes : Comes g start 0 x q
  told : Follows clock comes.time

start_at : (clock : Option ℕ) (g : Setting) (start : Machine) → start.notes.now ≡ None → TellsTime clock → Comes g start 0 (next_at start 0) 0 → Started clock g start (next_at start 0) 0
start_at None g start blank fits c = record { comes = c; told = search }
start_at (Some t) g start blank fits c = record { comes = record { time = t; agrees = subst (λ o. Agrees o t) (sym blank) fits; run = c.run; asked = c.asked }; told = refl }

-- a traversal that waits there may be lent the words that were taken
pub lends : (e : CallContext) (w : Workspace) (steps asked : ℕ) → TellsTime e.clock → FirstWaits e w steps asked → FirstRuns e w e.taken steps asked
lends e w steps asked fits i =
    let machine : machine_in Making w e.taken ≡ first_start e =
    ap (λ (p : PassState). machine_of p e.taken w.first_log w.notes) i.first.first
    ∙ ap (λ (log : Kept Change). machine_of (new_pass e.space) e.taken log w.notes) i.first.first_log
    ∙ ap (λ (notes : Notes). machine_of (new_pass e.space) e.taken (first_start e).log notes) i.first.notes in
    let there : next_at (first_start e) 0 ≡ next_at (machine_in Making w e.taken) w.place.index =
    ap (λ (m : Machine). next_at m 0) (sym machine) ∙ ap (next_at (machine_in Making w e.taken)) (sym i.index) in
    let started = start_at e.clock (first_setting e) (first_start e) refl fits (comes_start (first_setting e) (first_start e) refl) in
    let moved = subst (λ (x : After). Started e.clock (first_setting e) (first_start e) x asked) there (subst (Started e.clock (first_setting e) (first_start e) (next_at (first_start e) 0)) (sym i.questions) started) in
    record {
      space = ap (λ (p : PassState). p.space) i.first.first;
      made = 0;
      comes = moved.comes;
      told = moved.told;
      number = omega (arith, i.number);
    }

some_one : (a b : List ℕ) → Some a ≡ Some b → a ≡ b
some_one a b h = ap (λ (o : Option (List ℕ)). elim o [ None ↦ a | Some x ↦ x ]) h

-- Enter, Give, Send and Done

module _ (e : CallContext) (now : ℕ) (w : Workspace) (words : List ℕ) (steps asked : ℕ) where
  -- Enter wants the call to be entered
  pub enter_on : InEnter e w (Some words) steps asked → GoesOn e (given_in e) now Enter w words (λ left. Some left) steps asked
  enter_on i = record {
    act = Plain;
    site = plain_first w.place.index i.index;
    workspace = record (closed_workspace w) { want = WantEnter };
    left = words;
    to = at Give 0;
    next = tt;
    acts = only_closes Enter w words i.is.gate;
    want = refl;
    more = 0;
    asks = omega arith;
    clean = record {
      is = is_next e w WantEnter (at Give 0) Enter Give refl i.is;
      time = i.time;
      made = i.made;
      end = i.end;
      both = both_stay e w (Some words) WantEnter (at Give 0) i.time i.made i.end asked i.both;
      index = refl;
      copy = i.copy;
      number = omega (arith, i.number);
    };
  }

  -- Give wants the bucket to be given back
  pub give_on : InGive e w (Some words) steps asked → GoesOn e (given_in e) now Give w words (λ left. Some left) steps asked
  give_on i = record {
    act = Plain;
    site = plain_first w.place.index i.index;
    workspace = record (closed_workspace w) { want = WantGive };
    left = words;
    to = at Send 0;
    next = refl;
    acts = only_closes Give w words i.is.gate;
    want = refl;
    more = 0;
    asks = omega arith;
    clean = record {
      is = is_next e w WantGive (at Send 0) Give Send refl i.is;
      time = i.time;
      made = i.made;
      end = i.end;
      answered = record {
        whole = i.both.whole;
        second = second_done e w WantGive (at Send 0) i.end i.both.second;
        notes = i.both.first.notes;
        copy = i.copy;
        questions = omega (arith, i.both.questions);
      };
      words = some_one words i.end.words i.both.words;
      index = refl;
      number = omega (arith, i.number);
    };
  }

  -- Send wants a reply that is not empty to be sent
  pub send_on : (bucket : Option ℕ) → InSend e w None steps asked → GoesOn e (given_of e.behavior e.input e.space bucket) now Send w words (λ left. None) steps asked
  send_on bucket i =
      let want : Want = send_want w.second.bytes.items in
      record {
        act = Plain;
        site = plain_first w.place.index i.index;
        workspace = record (closed_workspace w) { want = want };
        left = words;
        to = at Done 0;
        next = refl;
        acts = only_closes Send w words i.is.gate;
        want = refl;
        more = 0;
        asks = omega arith;
        clean = record {
          is = is_next e w want (at Done 0) Send Done refl i.is;
          time = i.time;
          made = i.made;
          end = i.end;
          answered = subst (λ (q : ℕ). HasOutput e (behind w want (at Done 0)) i.time i.made i.end q) (sym (none_more asked)) (answered_stays e w want (at Done 0) i.time i.made i.end asked i.answered);
          index = refl;
          number = omega (arith, i.number);
        };
      }

-- the act leads to the end, where the traversal is finished
pub record Finishes (e : CallContext) (g : Given) (now : ℕ) (phase : Phase) (w : Workspace) (words : List ℕ) (steps asked : ℕ) : Type 0 where
  pub act : Act
  pub site : site_in g.behavior w phase w.place.index ≡ Some act
  pub workspace : Workspace
  pub left : List ℕ
  pub acts : honest (act_in g now phase w.place.index w words) ≡ acted workspace left (Leads (at Done 1))
  pub want : workspace.want ≡ Nothing
  pub finished : IsFinished e (record workspace { place = at Done 1 }) (suc steps) asked

-- Done leads to the end
pub done_on : (e : CallContext) (now : ℕ) (bucket : Option ℕ) (w : Workspace) (words : List ℕ) (steps asked : ℕ) → InDone e w steps asked →
    Finishes e (given_of e.behavior e.input e.space bucket) now Done w words steps asked
done_on e now bucket w words steps asked i = record {
  act = Plain;
  site = plain_first w.place.index i.index;
  workspace = record (closed_workspace w) { want = Nothing };
  left = words;
  acts = only_closes Done w words i.is.gate;
  want = refl;
  finished = record {
    place = refl;
    gate = ap risen i.is.gate;
    time = i.time;
    made = i.made;
    end = i.end;
    answered = answered_stays e w Nothing (at Done 1) i.time i.made i.end asked i.answered;
    number = omega (arith, i.number);
  };
}

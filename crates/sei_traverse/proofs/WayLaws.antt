-- Laws of traversals that are on their way.
use Rattle.std.proofs.Common.{◌≡◌, ℕ, ◌+◌, ◌*◌, ◌-◌, ◌^◌, ◌<◌, ◌≤◌, List, Option, Some, None, refl, sym, ap, ◌∙◌, subst, arith}
use Rattle.sei_code.specs.Coded.{sealed}
use Rattle.sei_fault.specs.Counts.{Counts}
use Rattle.sei_fault.specs.declared.place.Phase.{Phase}
use Rattle.sei_fault.specs.declared.place.Phase.TheVariants.{First, Give, Send, Done}
use Rattle.sei_pass.specs.State.{PassState}
use Rattle.sei_log.specs.declared.notes.Notes.{Notes}
use Rattle.sei_stmt.specs.Machine.{Machine}
use Rattle.sei_traverse.specs.declared.workspace.Workspace.{Workspace}
use Rattle.sei_traverse.specs.CallContext.{CallContext, IsFitContext, Whole, first_setting, first_start}
use Rattle.sei_traverse.specs.OnWay.{IsClean, OnWay, AtEnd}
use Rattle.sei_traverse.specs.Served.{HasReply, IsServed}
use Rattle.sei_traverse.specs.State.{TraversalState, begun_traversal}
use Rattle.sei_traverse.specs.Unstruck.{SecondIsDone, CleanIn, InGive, InSend, InDone, HasOutput}
use Rattle.sei_traverse.proofs.EdgeActs.{lends}
use Rattle.sei_traverse.proofs.Settled.{bounded, bounded_end}
use Rattle.sei_traverse.proofs.TimedLaws.{time_is_noted}

pub way_begins : (e : CallContext) (c : Counts) → OnWay e (begun_traversal e.space e.sealed) None c c
way_begins e c = record {
  later = omega arith;
  clean = λ u. record {
    space = refl;
    asked = 0;
    clean = record {
      in_phase = record {
        is = record { sealed = refl; gate = refl };
        index = refl;
        first = record { first = refl; first_log = refl; notes = refl };
        second = record { second = refl; second_log = refl };
        number = omega arith;
        questions = refl;
      };
    };
    counted = λ m. omega arith;
  };
}

-- a clean traversal in this phase
in_this : (e : CallContext) (t : TraversalState) (lent : Option (List ℕ)) (begin now : Counts) (p : Phase) → t.workspace.place.phase ≡ p → (c : IsClean e t lent begin now) → CleanIn e t.workspace lent t.steps c.asked p
in_this e t lent begin now p is c = subst (λ (q : Phase). CleanIn e t.workspace lent t.steps c.asked q) is c.clean.in_phase

-- what is lent may be other words, where its phase says so
relent : (e : CallContext) (t : TraversalState) (old new : Option (List ℕ)) (begin now : Counts) (p : Phase) → t.workspace.place.phase ≡ p →
    ((steps asked : ℕ) → CleanIn e t.workspace old steps asked p → CleanIn e t.workspace new steps asked p) → OnWay e t old begin now → OnWay e t new begin now
relent e t old new begin now p is f way = record {
  later = way.later;
  clean = λ u.
      let c = way.clean u in
      record {
        space = c.space;
        asked = c.asked;
        clean = record { in_phase = subst (λ (q : Phase). CleanIn e t.workspace new t.steps c.asked q) (sym is) (f t.steps c.asked (in_this e t old begin now p is c)) };
        counted = c.counted;
      };
}

pub way_lends : (e : CallContext) (t : TraversalState) (begin now : Counts) → IsFitContext e → t.workspace.place.phase ≡ First → OnWay e t None begin now → OnWay e t (Some e.taken) begin now
way_lends e t begin now ie is way =
    relent e t None (Some e.taken) begin now First is (λ steps asked i. record { is = i.is; second = i.second; at = lends e t.workspace steps asked ie.clock i.at }) way

pub way_gives : (e : CallContext) (t : TraversalState) (words : List ℕ) (begin now : Counts) → t.workspace.place.phase ≡ Send → OnWay e t (Some words) begin now → OnWay e t None begin now
way_gives e t words begin now is way = relent e t (Some words) None begin now Send is
    (λ steps asked i. record { is = i.is; time = i.time; made = i.made; end = i.end; answered = i.answered; index = i.index; words = search; number = i.number }) way

pub way_ends : (e : CallContext) (t : TraversalState) (lent : Option (List ℕ)) (begin now : Counts) → IsFitContext e → OnWay e t lent begin now → now.struck ≡ begin.struck →
    t.steps ≤ 2 * e.space.budget + 3 * e.space.log + 11
way_ends e t lent begin now ie way u = let c = way.clean u in bounded e ie t.workspace lent t.steps c.asked t.workspace.place.phase c.clean.in_phase

pub end_ends : (e : CallContext) (t : TraversalState) (begin now : Counts) → AtEnd e t begin now → now.struck ≡ begin.struck → t.steps ≤ 2 * e.space.budget + 3 * e.space.log + 11
end_ends e t begin now way u = let c = way.clean u in bounded_end e t.workspace t.steps c.asked c.finished

reply_is : (e : CallContext) (w : Workspace) (end : Machine) → SecondIsDone e w end → w.second.bytes.items ≡ end.bytes.items
reply_is e w end h = ap (λ (p : PassState). p.bytes.items) h.second

-- a whole first pass has noted its time
whole_noted : (e : CallContext) (time made : ℕ) (end : Machine) (notes : Notes) → Whole e time made end → notes ≡ end.notes → notes.now ≡ Some (sealed time)
whole_noted e time made end notes whole is =
    ap (λ (n : Notes). n.now) is ∙ time_is_noted (first_setting e) refl time (first_start e) made end whole.run whole.ordered

has_reply : (e : CallContext) (t : TraversalState) (begin now : Counts) (time made asked : ℕ) (end : Machine) → HasOutput e t.workspace time made end asked →
    (now.asked < 2 ^ 128 - 1 → begin.asked + asked ≤ now.asked) → HasReply e t begin now
has_reply e t begin now time made asked end a counted = record {
  time = time;
  made = made;
  end = end;
  whole = a.whole;
  noted = whole_noted e time made end t.workspace.notes a.whole a.notes;
  reply = reply_is e t.workspace end a.second;
  wire = a.copy;
  twice = λ m. omega (arith, counted m, a.questions);
}

pub way_entered : (e : CallContext) (t : TraversalState) (lent : Option (List ℕ)) (begin now : Counts) → t.workspace.place.phase ≡ Give → OnWay e t lent begin now → now.struck ≡ begin.struck → IsServed e t lent begin now
way_entered e t lent begin now is way u =
    let c = way.clean u in
    let i : InGive e t.workspace lent t.steps c.asked = in_this e t lent begin now Give is c in
    record {
      reply = record {
        time = i.time;
        made = i.made;
        end = i.end;
        whole = i.both.whole;
        noted = whole_noted e i.time i.made i.end t.workspace.notes i.both.whole i.both.first.notes;
        reply = reply_is e t.workspace i.end i.both.second;
        wire = i.copy;
        twice = λ m. omega (arith, c.counted m, i.both.questions);
      };
      words = i.both.words;
    }

pub way_given : (e : CallContext) (t : TraversalState) (lent : Option (List ℕ)) (begin now : Counts) → t.workspace.place.phase ≡ Send → OnWay e t lent begin now → now.struck ≡ begin.struck → HasReply e t begin now
way_given e t lent begin now is way u =
    let c = way.clean u in
    let i : InSend e t.workspace lent t.steps c.asked = in_this e t lent begin now Send is c in
    has_reply e t begin now i.time i.made c.asked i.end i.answered c.counted

pub way_still : (e : CallContext) (t : TraversalState) (words : List ℕ) (begin now : Counts) → t.workspace.place.phase ≡ Send → OnWay e t (Some words) begin now → now.struck ≡ begin.struck → IsServed e t (Some words) begin now
unfolding has_reply
way_still e t words begin now is way u =
    let c = way.clean u in
    let i : InSend e t.workspace (Some words) t.steps c.asked = in_this e t (Some words) begin now Send is c in
    record { reply = has_reply e t begin now i.time i.made c.asked i.end i.answered c.counted; words = ap (λ (ws : List ℕ). let o : Option (List ℕ) = Some ws in o) i.words }

pub way_sent : (e : CallContext) (t : TraversalState) (lent : Option (List ℕ)) (begin now : Counts) → t.workspace.place.phase ≡ Done → OnWay e t lent begin now → now.struck ≡ begin.struck → HasReply e t begin now
way_sent e t lent begin now is way u =
    let c = way.clean u in
    let i : InDone e t.workspace t.steps c.asked = in_this e t lent begin now Done is c in
    has_reply e t begin now i.time i.made c.asked i.end i.answered c.counted

pub end_finished : (e : CallContext) (t : TraversalState) (begin now : Counts) → AtEnd e t begin now → now.struck ≡ begin.struck → HasReply e t begin now
end_finished e t begin now way u =
    let c = way.clean u in
    has_reply e t begin now c.finished.time c.finished.made c.asked c.finished.end c.finished.answered c.counted

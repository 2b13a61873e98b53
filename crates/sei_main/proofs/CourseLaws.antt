-- What a call under one planned fault does: exactly what the plain server does, or it is struck and ends without harm.
use Rattle.std.proofs.Common.{◌≡◌, ◌⊎◌, inl, inr, ℕ, ◌+◌, ◌^◌, ◌<◌, true, List, [], length, Option, Some, None, refl, sym, ap, ◌∙◌, subst, arith}
use Rattle.std.specs.Prelude.{slice_set}
use Rattle.std.proofs.lemmas.Bool.{cases_eq, both_ways, eq-eqb}
use Rattle.std.proofs.lemmas.List.{length-set, get_or-set_same}
use Rattle.std.proofs.lemmas.Option.{same_Some}
use Rattle.mc_model.specs.declared.call.Room.{Room}
use Rattle.mc_model.specs.declared.geometry.Geometry.{Geometry}
use Rattle.mc_model.specs.Answer.{answer}
use Rattle.mc_model.specs.Bucket.{Bucket, empty_bucket}
use Rattle.mc_model.specs.Call.{Placed}
use Rattle.mc_model.specs.Packed.{AreBytes}
use Rattle.mc_model.specs.Server.{IsValid, Server, bucket_at, server_answer}
use Rattle.sei_code.specs.Codes.{message_code}
use Rattle.sei_code.specs.Coded.{sealed as seal}
use Rattle.sei_fault.specs.declared.plan.Planned.{Planned}
use Rattle.sei_fault.specs.Script.{ScriptState, script_begin, script_counts, fallen}
use Rattle.sei_words.specs.Words.{BucketWords}
use Rattle.sei_pass.specs.declared.given.Sealed.{Sealed}
use Rattle.sei_pass.specs.Setting.{sealed_call, is_intact}
use Rattle.sei_hand.specs.Requests.{limits_of, call_in, parsed_of, parsed_call}
use Rattle.sei_hand.specs.Served.{Stands}
use Rattle.sei_hand.proofs.PublicHands.{found_bytes}
use Rattle.sei_hand.proofs.PublicHands.{found_call}
use Rattle.sei_traverse.specs.declared.turned.Abort.{Abort}
use Rattle.sei_traverse.specs.declared.turned.State.{State}
use Rattle.sei_traverse.specs.declared.turned.State.TheVariants.{Went, Finished, Refused, Aborted}
use Rattle.sei_pass.specs.Spaces.{pass_space}
use Rattle.sei_traverse.specs.Bounds.{most_steps}
use Rattle.sei_traverse.specs.CallContext.{given_in}
use Rattle.sei_traverse.specs.FaultInvariant.{FaultInvariantAfter, IsUnfitInput, IsAborted}
use Rattle.sei_traverse.specs.Given.{has_sealed_call}
use Rattle.sei_main.specs.declared.world.service.Entered.{Entered}
use Rattle.sei_main.specs.declared.world.service.Numbers.{Numbers}
use Rattle.sei_main.specs.Course.{Course, course_begun, course_of}
use Rattle.sei_main.specs.TableAnswers.{sealed_for}
use Rattle.sei_main.specs.Tables.{Tables, AreServer}
use Rattle.sei_main.proofs.CourseKept.{whole_course, course_ends, unplanned_from}
use Rattle.sei_main.proofs.CourseShape.{Shape, IsLacking, IsEntered, IsGiven, Known, context_at, next_bucket, reply_now}
use Rattle.sei_main.proofs.CourseShape.Shape.{Before, Lacking, Lent, Entry, Given}
use Rattle.sei_main.proofs.CourseStep.{traversal, none_asked}
use Rattle.sei_main.proofs.HandsTrusted.{IsSealedCall}
use Rattle.sei_main.proofs.ScriptedRuns.{one_falls}
use Rattle.sei_main.proofs.TableCalls.{sealed_is, has_it}
use Rattle.sei_main.proofs.TableLaws.{IsGood, next_each}

module _ (g : Geometry) (valid : IsValid g) (text : List ℕ) (bytes : AreBytes text) (now : ℕ) (small : now < 2 ^ 64) (buckets : List BucketWords) (s : Server) (are : AreServer (record { geometry = g; buckets = buckets }) s)
    (nth : ℕ) (p : Placed) (call : call_in (limits_of g) text nth ≡ Some p) (numbers : Numbers) (plan : Option Planned) where
  abbrev sealed : Sealed
  sealed = sealed_for text nth numbers

  -- the course of the call
  abbrev c : Course
  c = course_of g text now buckets sealed plan

  -- the entry and the reply of the plain server
  abbrev reply : List ℕ
  reply = (server_answer s now p).1

  abbrev entry : Entered
  entry = record { now = now; reply = reply }

  good : IsGood g p
  good = record { read = found_call g text nth p valid.some_buckets call; bytes = found_bytes g text nth p bytes call }

  called : sealed_call (parsed_call g text) sealed.nth ≡ Some (parsed_of g p)
  called = sealed_is g text nth (seal nth) p refl call

  is_call : IsSealedCall g text sealed p
  is_call x e = same_Some (parsed_of g p) x (sym called ∙ e)

  made : ℕ
  made = (whole_course g text now buckets s sealed p valid bytes small good is_call are plan).0

  shape : Shape g text now buckets s sealed p c made
  unfolding made
  shape = (whole_course g text now buckets s sealed p valid bytes small good is_call are plan).1.shape

  -- the reply in the room of the geometry
  reply_is : reply_now g text now buckets s sealed p ≡ reply
  reply_is = ap (λ (r : Room). (answer r (bucket_at s p.bucket) now p.call).1) (sym are.room)

  -- it ends
  pub ended : c.served.state ≡ Went → ⊥
  ended = course_ends g text now buckets s sealed p valid bytes small good is_call are plan

  -- Where it finishes.

  -- what is known where it turned out so
  known_so : (k : ℕ) (lent : Option (List ℕ)) (state : State) → c.served.state ≡ state → Known g text now buckets s sealed p c made k lent →
      FaultInvariantAfter (context_at g text now buckets s sealed p k) (traversal g c.workspace made) lent none_asked (script_counts c.core) state
  known_so k lent state e h = subst (λ (o : State). FaultInvariantAfter (context_at g text now buckets s sealed p k) (traversal g c.workspace made) lent none_asked (script_counts c.core) o) e h

  aborts_only : (state : State) → c.served.state ≡ state → (IsAborted state → ⊥) → IsLacking g text now buckets s sealed p c → ⊥
  aborts_only state e not h = not (subst IsAborted e h.aborted)

  some_bucket : 0 < g.buckets
  some_bucket = omega (arith, valid.some_buckets)

  -- words of the call's bucket that stand for what its answer leaves
  are_next : (w : BucketWords) → w.bucket ≡ p.bucket → w.geometry ≡ g → Stands g w.words (next_bucket g text now buckets s sealed p) → AreServer (record { geometry = g; buckets = slice_set buckets p.bucket w }) (server_answer s now p).0
  are_next w bucket laid_out stands =
      let t : Tables = record { geometry = g; buckets = buckets } in
      let x : Bucket = (answer s.room (bucket_at s p.bucket) now p.call).0 in
      let inside : p.bucket < length s.buckets = omega (arith, are.buckets, good.read.bucket) in
      let there : bucket_at (record s { buckets = slice_set s.buckets p.bucket x }) p.bucket ≡ x = get_or-set_same s.buckets p.bucket x empty_bucket inside in
      let held : Stands g w.words x = subst (λ (r : Room). Stands g w.words (answer r (bucket_at s p.bucket) now p.call).0) (sym are.room) stands in
      record {
        valid = valid;
        room = are.room;
        tables = length-set buckets p.bucket w ∙ are.tables;
        buckets = length-set s.buckets p.bucket x ∙ are.buckets;
        each = next_each g t s p w x refl good.read.bucket are (record { bucket = bucket; geometry = laid_out; stands = subst (Stands g w.words) (sym there) held });
      }

  -- what the plain server does
  pub record IsPlain : Type 0 where
    pub entered : c.served.entered ≡ Some entry
    pub message : c.served.message ≡ reply
    pub server : AreServer (record { geometry = g; buckets = c.buckets }) (server_answer s now p).0

  entry_of : IsEntered g text now buckets s sealed p c → c.served.entered ≡ Some entry
  entry_of i = i.entered ∙ ap (λ (r : List ℕ). let o : Option Entered = Some (record { now = now; reply = r }) in o) reply_is

  plain_given : (k : ℕ) (w : BucketWords) → IsGiven g text now buckets s sealed p c made k w → c.workspace.gate.done ≡ 11 → IsPlain
  plain_given k w v gate = record {
    entered = entry_of v.entered;
    message = v.sent (omega (arith, gate)) ∙ reply_is;
    server =
        subst (λ (b : List BucketWords). AreServer (record { geometry = g; buckets = b }) (server_answer s now p).0) (sym (v.set ∙ ap (λ (n : ℕ). slice_set buckets n w) v.mine))
        (are_next w (v.bucket ∙ v.mine) v.laid_out v.stands);
  }

  -- where it finishes it did exactly what the plain server does
  pub finishes_right : c.served.state ≡ Finished → IsPlain
  finishes_right e = by_shape shape
    where
      by_shape : Shape g text now buckets s sealed p c made → IsPlain
      by_shape (Before b) = absurd (omega (arith, b.gate, (known_so 0 None Finished e (b.known 0 some_bucket)).gate))
      by_shape (Lacking l) = absurd (aborts_only Finished e (λ h. h) l)
      by_shape (Lent k w low high l none) = absurd (omega (arith, high, (known_so k (Some w.words) Finished e l.known).gate))
      by_shape (Entry k w gate mine l i) = absurd (omega (arith, gate, (known_so k (Some w.words) Finished e l.known).gate))
      by_shape (Given k w v) = plain_given k w v (known_so k None Finished e v.known).gate

  -- Whatever becomes of it.

  -- it is entered with the right reply and time, or not at all
  pub enters_right : (c.served.entered ≡ None) ⊎ (c.served.entered ≡ Some entry)
  enters_right = by_shape shape
    where
      by_shape : Shape g text now buckets s sealed p c made → (c.served.entered ≡ None) ⊎ (c.served.entered ≡ Some entry)
      by_shape (Before b) = inl b.untouched.entered
      by_shape (Lacking l) = inl l.untouched.entered
      by_shape (Lent k w low high l none) = inl none
      by_shape (Entry k w gate mine l i) = inr (entry_of i)
      by_shape (Given k w v) = inr (entry_of v.entered)

  -- the message is the reply of its entry, or nothing is sent
  pub sends_right : (c.served.message ≡ []) ⊎ ((c.served.entered ≡ Some entry) × (c.served.message ≡ reply))
  sends_right = by_shape shape
    where
      by_gate : (k : ℕ) (w : BucketWords) → IsGiven g text now buckets s sealed p c made k w → (c.workspace.gate.done ≡ 9) ⊎ (c.workspace.gate.done ≡ 9 → ⊥) → (c.served.message ≡ []) ⊎ ((c.served.entered ≡ Some entry) × (c.served.message ≡ reply))
      by_gate k w v (inl nine) = inl (v.unsent (omega (arith, nine)))
      by_gate k w v (inr not) = inr (entry_of v.entered, v.sent (grind (arith, v.gate, not)) ∙ reply_is)

      by_shape : Shape g text now buckets s sealed p c made → (c.served.message ≡ []) ⊎ ((c.served.entered ≡ Some entry) × (c.served.message ≡ reply))
      by_shape (Before b) = inl b.untouched.message
      by_shape (Lacking l) = inl l.untouched.message
      by_shape (Lent k w low high l none) = inl l.message
      by_shape (Entry k w gate mine l i) = inl l.message
      by_shape (Given k w v) = by_gate k w v (cases_eq c.workspace.gate.done 9)

  -- Where it does not finish, it was struck.

  struck_once : 0 < fallen c.core.stage → fallen c.core.stage ≡ 1
  struck_once h = omega (arith, h, one_falls c.core.stage)

  pub aborts_struck : (abort : Abort) → c.served.state ≡ Aborted abort → fallen c.core.stage ≡ 1
  aborts_struck abort e = by_shape shape
    where
      by_shape : Shape g text now buckets s sealed p c made → fallen c.core.stage ≡ 1
      by_shape (Before b) = struck_once (known_so 0 None (Aborted abort) e (b.known 0 some_bucket))
      by_shape (Lacking l) = struck_once l.struck
      by_shape (Lent k w low high l none) = struck_once (known_so k (Some w.words) (Aborted abort) e l.known)
      by_shape (Entry k w gate mine l i) = struck_once (known_so k (Some w.words) (Aborted abort) e l.known)
      by_shape (Given k w v) = struck_once (known_so k None (Aborted abort) e v.known)

  -- the input passes the tests of Guard
  intact : is_intact sealed text ≡ true
  intact = eq-eqb (message_code sealed.number text) sealed.code refl

  has : (k : ℕ) → has_sealed_call (given_in (context_at g text now buckets s sealed p k)) sealed ≡ true
  has k = has_it g text nth (seal nth) p refl call

  by_strike : (k : ℕ) → IsUnfitInput (context_at g text now buckets s sealed p k) ⊎ (none_asked.struck < (script_counts c.core).struck) → fallen c.core.stage ≡ 1
  by_strike k (inl (inl altered)) = absurd (both_ways (is_intact sealed text) altered intact)
  by_strike k (inl (inr without)) = absurd (both_ways (has_sealed_call (given_in (context_at g text now buckets s sealed p k)) sealed) without (has k))
  by_strike k (inr h) = struck_once h

  -- nothing was done for it
  pub record IsRefusal : Type 0 where
    pub struck : fallen c.core.stage ≡ 1
    pub entered : c.served.entered ≡ None
    pub message : c.served.message ≡ []
    pub buckets_are : c.buckets ≡ buckets

  pub refuses_struck : c.served.state ≡ Refused → IsRefusal
  refuses_struck e = by_shape shape
    where
      by_shape : Shape g text now buckets s sealed p c made → IsRefusal
      by_shape (Before b) = record {
        struck = by_strike 0 (known_so 0 None Refused e (b.known 0 some_bucket)).cause;
        entered = b.untouched.entered;
        message = b.untouched.message;
        buckets_are = b.untouched.same;
      }
      by_shape (Lacking l) = absurd (aborts_only Refused e (λ h. h) l)
      by_shape (Lent k w low high l none) = absurd (omega (arith, low, (known_so k (Some w.words) Refused e l.known).gate))
      by_shape (Entry k w gate mine l i) = absurd (omega (arith, gate, (known_so k (Some w.words) Refused e l.known).gate))
      by_shape (Given k w v) = absurd (omega (arith, v.gate, (known_so k None Refused e v.known).gate))

  -- Without a plan.

  never_struck : plan ≡ None → fallen c.core.stage ≡ 1 → ⊥
  never_struck none struck =
      let rest = unplanned_from g text now (most_steps (pass_space g) + 1) (course_begun g buckets sealed plan) 0 (ap script_begin none) in
      omega (arith, struck, ap (λ (x : ScriptState). fallen x.stage) rest.1)

  -- what was struck has a plan
  pub struck_planned : fallen c.core.stage ≡ 1 → (q : Planned) × (plan ≡ Some q)
  struck_planned struck = by_plan plan refl
    where
      by_plan : (o : Option Planned) → plan ≡ o → (q : Planned) × (plan ≡ Some q)
      by_plan None e = absurd (never_struck e struck)
      by_plan (Some q) e = (q, e)

-- How a server as words answers a call under one planned fault at most: as the plain server does, or the fault struck.
use Rattle.std.proofs.Common.{◌≡◌, ℕ, ◌^◌, ◌<◌, List, [], Option, Some, None, refl, sym, ap, ◌∙◌, subst, arith}
use Rattle.mc_model.specs.Packed.{AreBytes}
use Rattle.mc_model.specs.Server.{Server}
use Rattle.sei_fault.specs.Script.{fallen}
use Rattle.sei_words.specs.Words.{BucketWords}
use Rattle.sei_hand.specs.Requests.{limits_of, call_in}
use Rattle.sei_traverse.specs.declared.turned.State.{State}
use Rattle.sei_traverse.specs.declared.turned.State.TheVariants.{Went, Finished, Refused, Aborted}
use Rattle.sei_main.specs.declared.world.service.Entered.{Entered}
use Rattle.sei_main.specs.declared.world.service.Served.{Served}
use Rattle.sei_main.specs.Answering.{Asked, CallResult}
use Rattle.sei_main.specs.Course.{course_of}
use Rattle.sei_main.specs.TableAnswers.{sealed_for, table_answering}
use Rattle.sei_main.specs.Tables.{Tables, AreServer}
use Rattle.sei_main.proofs.CourseLaws.{ended, finishes_right, enters_right, sends_right, aborts_struck, refuses_struck, struck_planned}
use Rattle.sei_main.specs.Outcomes.{CallOutcome, IsAsThere, IsHarmless, PlannedFaultStruck, reply, entry}
use Rattle.sei_main.specs.Outcomes.CallOutcome.{AsThere, TurnedAway, Stopped}
use Rattle.sei_main.specs.Tables.{AreServerOf}

-- what became of a call, by its parts
served_is : (s : Served) (entered : Option Entered) (message : List ℕ) (state : State) → s.entered ≡ entered → s.message ≡ message → s.state ≡ state → s ≡ record { entered = entered; message = message; state = state }
served_is s entered message state a b d =
    ap (λ (x : Option Entered). let r : Served = record { entered = x; message = s.message; state = s.state } in r) a
    ∙ ap (λ (x : List ℕ). let r : Served = record { entered = entered; message = x; state = s.state } in r) b
    ∙ ap (λ (x : State). let r : Served = record { entered = entered; message = message; state = x } in r) d

module _ (t : Tables) (s : Server) (are : AreServer t s) (a : Asked) (bytes : AreBytes a.text) (small : a.now < 2 ^ 64) (call : call_in (limits_of t.geometry) a.text a.nth ≡ Some a.placed) where
  abbrev x : CallResult Tables
  x = table_answering t a

  abbrev T : Tables → Server → Type 0
  T = AreServerOf t.geometry

  -- whatever becomes of it
  harmless : IsHarmless T s a x
  harmless = record {
    enters = enters_right t.geometry are.valid a.text bytes a.now small t.buckets s are a.nth a.placed call a.numbers a.plan;
    sends = sends_right t.geometry are.valid a.text bytes a.now small t.buckets s are a.nth a.placed call a.numbers a.plan;
  }

  as_there : x.served.state ≡ Finished → IsAsThere T s a x
  as_there e =
      let plain = finishes_right t.geometry are.valid a.text bytes a.now small t.buckets s are a.nth a.placed call a.numbers a.plan e in
      record {
        same = served_is x.served (Some (entry T s a x)) (reply T s a x) Finished plain.entered plain.message e;
        server = record { geometry = refl; are = plain.server };
      }

  struck_by : fallen (course_of t.geometry a.text a.now t.buckets (sealed_for a.text a.nth a.numbers) a.plan).core.stage ≡ 1 → PlannedFaultStruck T s a x
  struck_by e = record { struck = omega (arith, e); planned = struck_planned t.geometry are.valid a.text bytes a.now small t.buckets s are a.nth a.placed call a.numbers a.plan e }

  by_state : (state : State) → x.served.state ≡ state → CallOutcome T s a x
  by_state Went e = absurd (ended t.geometry are.valid a.text bytes a.now small t.buckets s are a.nth a.placed call a.numbers a.plan e)
  by_state Finished e = AsThere (as_there e)
  by_state Refused e =
      let r = refuses_struck t.geometry are.valid a.text bytes a.now small t.buckets s are a.nth a.placed call a.numbers a.plan e in
      TurnedAway (served_is x.served None [] Refused r.entered r.message e)
      (record { geometry = refl; are = subst (λ (b : List BucketWords). AreServer (record t { buckets = b }) s) (sym r.buckets_are) are })
      (struck_by r.struck)
  by_state (Aborted abort) e =
      Stopped abort e harmless (struck_by (aborts_struck t.geometry are.valid a.text bytes a.now small t.buckets s are a.nth a.placed call a.numbers a.plan abort e))

  -- each call has one of the outcomes
  pub outcome : CallOutcome T s a x
  outcome = by_state x.served.state refl

-- What is wanted to be entered is the answer to the call.
use Rattle.std.proofs.Common.{◌≡◌, ℕ, ◌+◌, ◌^◌, ◌<◌, List, Option, Some, refl, sym, ap, ◌∙◌, subst, arith}
use Rattle.mc_model.specs.declared.geometry.Geometry.{Geometry}
use Rattle.mc_model.specs.Answer.{answer}
use Rattle.mc_model.specs.Bucket.{Bucket}
use Rattle.mc_model.specs.Call.{Placed}
use Rattle.mc_model.specs.Server.{IsValid, room_of}
use Rattle.sei_code.specs.Coded.{sealed as seal}
use Rattle.sei_code.specs.declared.coded.Coded.{Coded}
use Rattle.sei_fault.specs.declared.cause.AbortCause.TheVariants.{Notes as NoNotes}
use Rattle.sei_stmt.specs.Honest.{HonestRun}
use Rattle.sei_stmt.specs.Machine.{Machine, After}
use Rattle.sei_stmt.specs.Passes.{notes_of}
use Rattle.sei_stmt.specs.Passes.IsTold.{ByNotes}
use Rattle.sei_stmt.specs.Sound.{Serves}
use Rattle.sei_stmt.specs.Sound.Serves.{Well, Unfit}
use Rattle.sei_stmt.proofs.Public.{still_halted, halts_or_aborts}
use Rattle.sei_pass.specs.declared.given.Sealed.{Sealed}
use Rattle.sei_hand.specs.Requests.{parsed_of}
use Rattle.sei_hand.specs.Served.{Stands}
use Rattle.sei_hand.proofs.PublicHands.{call_is_asked}
use Rattle.sei_hand.proofs.PublicHands.{hands_serve}
use Rattle.sei_traverse.specs.declared.workspace.Workspace.{Workspace}
use Rattle.sei_traverse.specs.Comes.{renoted}
use Rattle.sei_traverse.specs.CallContext.{CallContext, first_start}
use Rattle.sei_traverse.specs.Phases.{reply_of}
use Rattle.sei_traverse.specs.Struck.{IsHonestResult}
use Rattle.sei_traverse.specs.Trusted.{PassesGuard, second_setting}
use Rattle.sei_main.specs.CallContexts.{context_for}
use Rattle.sei_main.proofs.TableLaws.{IsGood}

-- the words stand for the bucket behind the call, the reply is its reply, and its time is noted
pub record IsAnswer (g : Geometry) (now : ℕ) (p : Placed) (b : Bucket) (words : List ℕ) (w : Workspace) : Type 0 where
  pub stands : Stands g words (answer (room_of g) b now p.call).0
  pub reply : reply_of w ≡ (answer (room_of g) b now p.call).1
  pub noted : w.notes.now ≡ Some (seal now)

module _ (g : Geometry) (valid : IsValid g) (text : List ℕ) (now : ℕ) (small : now < 2 ^ 64) (sealed : Sealed) (p : Placed) (good : IsGood g p)
    (taken : List ℕ) (b : Bucket) (held : Stands g taken b) where
  abbrev e : CallContext
  e = context_for g text sealed p taken now

  -- the second pass by notes of this time
  serves : PassesGuard e → (slot : ℕ) →
      Serves (second_setting e) (λ ws. Stands g ws (answer (room_of g) b now p.call).0) (answer (room_of g) b now p.call).1 (renoted (notes_of now slot) (first_start e))
  serves fit slot =
      hands_serve g valid (second_setting e) (record { statements_are = refl; rendered_are = refl; budget_is = refl; slots_are = refl; free_are = refl })
      (parsed_of g p) (record { intact = fit.intact; parsed = fit.called; lent = refl }) p.call (call_is_asked g p good.read good.bytes) now small taken b held (notes_of now slot) (ByNotes refl slot refl)

  -- by an honest run on the words that were taken
  pub is_answer : (w : Workspace) (words : List ℕ) (asked : ℕ) → IsHonestResult e w words asked → IsAnswer g now p b words w
  is_answer w words asked a = by_end (serves a.aimed.fit a.slot)
    where
      time : (a.time ≡ now) × (w.notes.now ≡ Some (seal now))
      time = (a.told, a.noted ∙ ap (λ (t : ℕ). let o : Option Coded = Some (seal t) in o) a.told)

      start : Machine
      start = renoted (notes_of now a.slot) (first_start e)

      run : HonestRun (second_setting e) start a.end a.made
      run = subst (λ (t : ℕ). HonestRun (second_setting e) (renoted (notes_of t a.slot) (first_start e)) a.end a.made) time.0 a.run

      by_end : Serves (second_setting e) (λ ws. Stands g ws (answer (room_of g) b now p.call).0) (answer (room_of g) b now p.call).1 start → IsAnswer g now p b words w
      by_end (Well last steps ends) =
          let one = still_halted (second_setting e) start a.end a.made (a.made + steps) (omega arith) run.halts in
          let other = still_halted (second_setting e) start last steps (a.made + steps) (omega arith) ends.run.halts in
          let same : a.end ≡ last = ap (λ (x : After). x.machine) (sym one ∙ other) in
          record {
            stands = subst (λ ws. Stands g ws (answer (room_of g) b now p.call).0) (sym (a.words_are ∙ ap (λ (m : Machine). m.words) same)) ends.held;
            reply = a.reply ∙ ap (λ (m : Machine). m.bytes.items) same ∙ ends.replied;
            noted = time.1;
          }
      by_end (Unfit second m n bad) = absurd (halts_or_aborts (second_setting e) start m a.end NoNotes n a.made bad run.halts)

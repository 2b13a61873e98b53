-- What the one program of all commands does: it answers.
use Rattle.std.proofs.Common.{ℕ, ◌-◌, ◌*◌, ◌^◌, ◌<◌, List, [], ◌∷◌, refl, ap, ◌∙◌, arith}
use Rattle.mc_model.specs.declared.geometry.Geometry.{Geometry}
use Rattle.mc_model.specs.Answer.{answer}
use Rattle.mc_model.specs.Bucket.{Bucket, arrived}
use Rattle.mc_model.specs.Call.{Call}
use Rattle.mc_model.specs.Server.{IsValid, room_of}
use Rattle.mc_model.proofs.PublicPacking.{length_pack}
use Rattle.mc_render.specs.Rendering.{rendered}
use Rattle.sei_stmt.specs.Machine.{Setting}
use Rattle.sei_stmt.specs.declared.stmt.Stmt.TheVariants.{Render}
use Rattle.sei_stmt.specs.Runs.{Given, RunState, start, parse}
use Rattle.sei_stmt.specs.Given.{given_of}
use Rattle.sei_stmt.specs.Passes.{IsPassOf}
use Rattle.sei_stmt.specs.Programs.{Block, Seq, Ends}
use Rattle.sei_stmt.specs.Touch.{anything}
use Rattle.sei_stmt.proofs.Public.{seq, any_program, Ended}
use Rattle.tab_find.specs.Answers.{IsBounded, CanAnswer, reply_at, Answered}
use Rattle.tab_find.specs.FindPrograms.{moment_program}
use Rattle.tab_find.specs.Found.{Arrived}
use Rattle.tab_find.proofs.PublicFinding.{mover, moment_stands}
use Rattle.sei_hand.specs.Commands.{load_marks, dispatch, hands_program, hands_table}
use Rattle.sei_hand.specs.Served.{Stands, Asks}
use Rattle.sei_pass.specs.Spaces.{rooms_of, space_of, budget_of}
use Rattle.sei_hand.proofs.BoundedLaws.{arrived_bounded, answer_bounded}
use Rattle.sei_hand.proofs.FitLaws.{fit_is_answer}
use Rattle.sei_hand.proofs.Dispatch.{Timed, marked_ends}

module _ (g : Geometry) (valid : IsValid g) (setting : Setting) (pass : IsPassOf (hands_table g) (rendered (8 * g.value_words)) (space_of g) setting)
    (input : List ℕ) (c : Call) (is_call : Asks g input c) (now : ℕ) (small : now < 2 ^ 64) (slot : List ℕ → ℕ → ℕ) where
  abbrev given : Given
  given = given_of setting (rooms_of g) input now slot

  abbrev after : Bucket → Bucket
  after b = (answer (room_of g) b now c).0

  abbrev reply : Bucket → List ℕ
  reply b = (answer (room_of g) b now c).1

  can : (ws : List ℕ) (b : Bucket) → Stands g ws b → CanAnswer g given ws b c g.value_words
  can ws b h = record {
    valid = valid;
    stands = h.stands;
    bounded = h.bounded;
    asked = is_call.asked;
    call = is_call.call;
    fit = fit_is_answer g setting pass.slots_are pass.free_are;
    few = valid.some_words;
    block = omega (arith, is_call.asked.block_short);
    value = λ x is. omega (arith, (h.stands.holds.every c.key x is).3.value.fits, length_pack x.value);
    out_room = omega arith;
    log_room = omega arith;
  }

  -- all statements of the budget but ten
  abbrev most : ℕ
  most = budget_of g - 10

  rendered_ends : (b : Bucket) (t : RunState) → IsBounded b → Answered g (arrived now b) c g.value_words most t → Ends given (Block (Render ∷ [])) t (Ended setting (λ ws. Stands g ws (after b)) (reply b))
  unfolding answer
  rendered_ends b t bounded a = (
    a.stage,
    reply_at g (arrived now b) c,
    ap (λ f. f t.out) pass.rendered_are ∙ a.reply.is,
    omega (arith, a.reply.short),
    record {
      stage = refl;
      steps = omega (arith, a.steps, pass.budget_is);
      held = record { stands = a.stands; bounded = answer_bounded (room_of g) b now c small is_call.asked.flags is_call.asked.exptime bounded };
      reply_is = refl;
    },
  )

  pub hands_ends : (words : List ℕ) (b : Bucket) → Stands g words b → Ends given (hands_program g) (start (λ r. 0) words) (Ended setting (λ ws. Stands g ws (after b)) (reply b))
  hands_ends words b h =
      let Q = Ended setting (λ ws. Stands g ws (after b)) (reply b) in
      let s = parse (start (λ r. 0) words) in
      let last = Block (Render ∷ []) in (
        refl,
        seq given mover (moment_program g) (Seq load_marks (Seq dispatch last)) s (Arrived g now b 30 1) Q refl
            (moment_stands g given s b 30 1 h.stands refl refl refl (omega arith) (omega arith) (omega arith))
            (λ t f a.
            let can' = can t.words (arrived now b) (record { stands = a.stands; bounded = arrived_bounded now b small h.bounded }) in
            let timed : Timed g t.words (arrived now b) t = record { same = refl; time = a.stage; low = omega (arith, a.floor); few = a.stores; silent = f.emitted refl; empty = f.out refl; constants = a.constants } in
            seq given anything (Seq load_marks dispatch) last t (Answered g (arrived now b) c g.value_words most) Q (any_program (Seq load_marks dispatch))
            (marked_ends g given t.words (arrived now b) c g.value_words can' is_call.offered t most timed (omega (arith, a.steps)) (omega (arith, pass.budget_is)))
            (λ u fu d. rendered_ends b u h.bounded d)),
      )

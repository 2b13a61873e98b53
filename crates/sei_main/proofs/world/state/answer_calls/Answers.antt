use Rattle.std.proofs.Common.{◌≡◌, ◌+◌, ◌∙◌, refl, sym, ap, subst, arith, None}
use Rattle.std.specs.Option.{option_map}
use Rattle.std.specs.Prelude.{slice_get}
use Rattle.mc_model.specs.Views.{placed_of}
use Rattle.mc_text.specs.Reading.{calls_at}
use Rattle.mc_text.specs.declared.limits.Limits.{Limits}
use Rattle.sei_traverse.specs.declared.turned.State.TheVariants.{Finished}
use Rattle.sei_main.specs.Asked.{IsCallAt}
use Rattle.sei_main.specs.Becomes.{asking_of}
use Rattle.sei_main.proofs.Asked.{call_at}
use Rattle.sei_main.proofs.Calls.{few_calls}
use Rattle.sei_main.proofs.CallsSoFar.{CallsSoFar, calls_start, call_more, call_part, stop_server, stop_answered, stop_all, call_is_there, none_of, unfinished, finished_is}
use Rattle.sei_main.proofs.NoFault.{still}
use Rattle.sei_main.proofs.world.state.answer_calls.Goals as goal
use Rattle.sei_main.proofs.world.state.answer_calls.Goals.{in-Some+in_ok-answered+else-is_stopped, in_default}

pub loop-nth-init : goal.loop-nth-init
loop-nth-init g c = record {
  calls = calls_start g.S.Service.answering (asking_of c.args.asking c.args.text.now c.args.plans.now) c.args.reporter.history (g.K.Sink.written c.args.sink.now) c.args.server.now (calls_at c.args.text.now c.args.request.now);
  finished = refl;
  limits = refl;
  at = c.cursor-cursor.ensures.at;
  place = c.cursor-cursor.ensures.first;
  end = c.calls-nth-end.ensures c.args.text.now c.requires.reading.of;
  quiet = refl;
}

pub answer_call-requires-clause-call : goal.answer_call-requires-clause-call
answer_call-requires-clause-call g c =
    subst (λ (l : Limits). IsCallAt l c.args.text.now c.loop-nth.nth (placed_of c.args.text.now c.in-Some.call)) (sym c.loop-nth.invariant.limits)
    (call_at (g.S.Service.limits c.args.server.now) c.args.text.now c.args.request.now c.loop-nth.nth (placed_of c.args.text.now c.in-Some.call) c.requires.reading
    (c.in-Some.ensures.value ∙ ap (slice_get (calls_at c.args.text.now c.args.request.now)) c.loop-nth.invariant.place))

pub answer_call-requires-clause-few : goal.answer_call-requires-clause-few
answer_call-requires-clause-few g c = omega (arith, c.loop-nth.invariant.end, few_calls c.args.text.now c.args.request.now c.requires.some (omega (arith, c.requires.reading.buckets, c.requires.buckets)), c.requires.few)

pub returns-in_err-answered-clause-part : goal.returns-in_err-answered-clause-part
returns-in_err-answered-clause-part g c =
    let calls = calls_at c.args.text.now c.args.request.now in
    call_part g.S.Service.answering (asking_of c.args.asking c.args.text.now c.args.plans.now) c.args.reporter.history _ _ _ c.loop-nth.nth c.loop-nth.answered.messages c.args.server.now c.loop-nth.server calls (placed_of c.args.text.now c.in-Some.call)
    c.loop-nth.invariant.calls (c.in-Some.ensures.value ∙ ap (slice_get calls) c.loop-nth.invariant.place) c.answer_call.ensures.part

pub returns-then-is_stopped-clause-server : goal.returns-then-is_stopped-clause-server
returns-then-is_stopped-clause-server g c =
    let calls = calls_at c.args.text.now c.args.request.now in
    stop_server g.S.Service.answering (asking_of c.args.asking c.args.text.now c.args.plans.now) c.args.reporter.history (g.K.Sink.written c.args.sink.now) (g.K.Sink.written c.loop-nth.sink) (g.K.Sink.written c.answer_call.new.sink) c.loop-nth.nth c.loop-nth.answered.messages c.args.server.now c.loop-nth.server calls (placed_of c.args.text.now c.in-Some.call)
    c.loop-nth.invariant.calls (c.in-Some.ensures.value ∙ ap (slice_get calls) c.loop-nth.invariant.place)
    c.answer_call.new.server c.in_ok-answered.ensures.server (λ f. unfinished c.in_ok-answered.answered.state (sym c.is_stopped.ensures ∙ c.if-is_stopped.true) (c.in_ok-answered.ensures.answered.state ∙ f))

pub returns-then-is_stopped-clause-answered : goal.returns-then-is_stopped-clause-answered
returns-then-is_stopped-clause-answered g c =
    let calls = calls_at c.args.text.now c.args.request.now in
    stop_answered g.S.Service.answering (asking_of c.args.asking c.args.text.now c.args.plans.now) c.args.reporter.history (g.K.Sink.written c.args.sink.now) (g.K.Sink.written c.loop-nth.sink) (g.K.Sink.written c.answer_call.new.sink) c.loop-nth.nth c.loop-nth.answered.messages c.args.server.now c.loop-nth.server calls (placed_of c.args.text.now c.in-Some.call)
    c.loop-nth.invariant.calls (c.in-Some.ensures.value ∙ ap (slice_get calls) c.loop-nth.invariant.place)
    c.in_ok-answered.answered c.in_ok-answered.ensures.answered (λ f. unfinished c.in_ok-answered.answered.state (sym c.is_stopped.ensures ∙ c.if-is_stopped.true) (c.in_ok-answered.ensures.answered.state ∙ f))

pub returns-then-is_stopped-clause-all : goal.returns-then-is_stopped-clause-all
returns-then-is_stopped-clause-all g c =
    let calls = calls_at c.args.text.now c.args.request.now in
    stop_all g.S.Service.answering (asking_of c.args.asking c.args.text.now c.args.plans.now) c.args.reporter.history (g.K.Sink.written c.args.sink.now) (g.K.Sink.written c.loop-nth.sink) (g.K.Sink.written c.answer_call.new.sink) c.loop-nth.nth c.loop-nth.answered.messages c.args.server.now c.loop-nth.server calls (placed_of c.args.text.now c.in-Some.call)
    c.loop-nth.invariant.calls (c.in-Some.ensures.value ∙ ap (slice_get calls) c.loop-nth.invariant.place)
    c.in_ok-answered.ensures.all (λ f. unfinished c.in_ok-answered.answered.state (sym c.is_stopped.ensures ∙ c.if-is_stopped.true) (c.in_ok-answered.ensures.answered.state ∙ f))

pub returns-then-is_stopped-clause-part : goal.returns-then-is_stopped-clause-part
returns-then-is_stopped-clause-part g c =
    let calls = calls_at c.args.text.now c.args.request.now in
    call_part g.S.Service.answering (asking_of c.args.asking c.args.text.now c.args.plans.now) c.args.reporter.history _ _ _ c.loop-nth.nth c.loop-nth.answered.messages c.args.server.now c.loop-nth.server calls (placed_of c.args.text.now c.in-Some.call)
    c.loop-nth.invariant.calls (c.in-Some.ensures.value ∙ ap (slice_get calls) c.loop-nth.invariant.place)
    c.answer_call.ensures.part

pub loop-nth-preserved : goal.loop-nth-preserved
loop-nth-preserved g c =
    let calls = calls_at c.args.text.now c.args.request.now in
    let l = c.loop-nth in
    elim c.match-next.branch [
      | in-Some+in_ok-answered+else-is_stopped w ↦
          let q = asking_of c.args.asking c.args.text.now c.args.plans.now in
          let finished : w.in_ok-answered.answered.state ≡ Finished = finished_is w.in_ok-answered.answered.state (sym w.is_stopped.ensures ∙ w.if-is_stopped.false) in
          let more : CallsSoFar g.S.Service.answering q c.args.reporter.history (g.K.Sink.written c.args.sink.now) (g.K.Sink.written w.answer_call.new.sink) (l.nth + 1) w.in_ok-answered.answered.messages c.args.server.now w.answer_call.new.server calls =
          call_more g.S.Service.answering (asking_of c.args.asking c.args.text.now c.args.plans.now) c.args.reporter.history (g.K.Sink.written c.args.sink.now) (g.K.Sink.written l.sink) (g.K.Sink.written w.answer_call.new.sink) l.nth l.answered.messages c.args.server.now l.server calls (placed_of c.args.text.now w.in-Some.call)
          l.invariant.calls (w.in-Some.ensures.value ∙ ap (slice_get calls) l.invariant.place)
          w.answer_call.new.server w.in_ok-answered.answered w.in_ok-answered.ensures.server w.in_ok-answered.ensures.answered w.in_ok-answered.ensures.few finished w.in_ok-answered.ensures.all in
          record {
            calls = rw (w.server-is, w.sink-is, w.answered-is) more;
            finished = rw w.answered-is finished;
            limits = rw w.server-is (w.answer_call.ensures.limits ∙ l.invariant.limits);
            at = w.in-Some.ensures.at;
            place = w.in-Some.ensures.next ∙ ap (λ n. n + 1) l.invariant.place;
            end = l.invariant.end;
            quiet = rw w.sink-is (still _ _ _ _ w.in_ok-answered.was w.answer_call.ensures.later w.answer_call.ensures.told ∙ l.invariant.quiet);
          }
      | in_default w ↦
          let none : c.next.result ≡ None = none_of c.next.result w.in_default.not-Some in
          absurd (call_is_there calls l.nth (omega (arith, l.invariant.end)) (sym (ap (option_map (placed_of c.args.text.now)) none) ∙ c.next.ensures.value ∙ ap (slice_get calls) l.invariant.place))
    ]

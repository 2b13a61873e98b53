use Rattle.sei_main.specs.Headline.{WhenQuiet, IsPlain, PlansFault, IsLegalRun, IsNumberedRun, SendsRepliesRun, NothingAfterAbortRun, OnlyStruckAbortsRun, AnswersAllRun}
use Rattle.sei_main.proofs.Laws.{legal, numbered, sent, nothing_after_abort, only_struck, all_answered}
use Rattle.sei_main.proofs.Headline.{law_of, law_of_aborted, quiet_part, complete}
use Rattle.sei_main.proofs.TableRuns.{plain_run, plans_fault}
use Rattle.sei_main.proofs.replay.replay.Goals as goal

pub returns-clause-legal : goal.returns-clause-legal
returns-clause-legal g c = law_of IsLegalRun legal _ _ _ _ _ c.replay_all.ensures.answer

pub returns-clause-numbered : goal.returns-clause-numbered
returns-clause-numbered g c = law_of IsNumberedRun numbered _ _ _ _ _ c.replay_all.ensures.answer

pub returns-clause-sent : goal.returns-clause-sent
returns-clause-sent g c = law_of SendsRepliesRun sent _ _ _ _ _ c.replay_all.ensures.answer

pub returns-clause-nothing_after_abort : goal.returns-clause-nothing_after_abort
returns-clause-nothing_after_abort g c = law_of NothingAfterAbortRun nothing_after_abort _ _ _ _ _ c.replay_all.ensures.answer

pub returns-clause-only_struck_aborts : goal.returns-clause-only_struck_aborts
returns-clause-only_struck_aborts g c = law_of OnlyStruckAbortsRun only_struck _ _ _ _ _ c.replay_all.ensures.answer

pub returns-clause-all_answered : goal.returns-clause-all_answered
returns-clause-all_answered g c = law_of AnswersAllRun all_answered _ _ _ _ _ c.replay_all.ensures.answer

pub returns-clause-complete : goal.returns-clause-complete
returns-clause-complete g c =
    λ read write. complete _ _ _ _ c.replay_all.result (λ e. read (c.replay_all.ensures.read_fault e)) (λ e. write (c.replay_all.ensures.write_fault e)) c.replay_all.ensures.answer

pub returns-clause-quiet : goal.returns-clause-quiet
returns-clause-quiet g c =
    law_of (WhenQuiet (IsPlain c.args.history)) (λ script r q. plain_run c.args.history script r.valid r.says q) _ _ _ _ _ c.replay_all.ensures.answer

pub returns-clause-planned : goal.returns-clause-planned
returns-clause-planned g c = law_of_aborted PlansFault (λ script r aborted. plans_fault script r.valid r.says aborted) _ _ _ _ _ c.replay_all.ensures.answer

pub returns-clause-quiet_part : goal.returns-clause-quiet_part
returns-clause-quiet_part g c = quiet_part _ _ _ _ _ c.replay_all.ensures.answer

use Rattle.std.proofs.Common.{refl, sym, ◌∙◌, take, []}
use Rattle.std.specs.Prelude.{slice_range}
use Rattle.mc_model.specs.Views.{call_with}
use Rattle.mc_text.specs.Words.{words}
use Rattle.mc_text.specs.Meaning.{calls_of}
use Rattle.mc_text.proofs.CallLaws.{some_calls, length-bucket_calls}
use Rattle.mc_text.proofs.request.Request.calls.Goals as goal

pub returns-in-Each : goal.returns-in-Each
unfolding calls_of
returns-in-Each c bytes is =
    let r = c.args.self.now in
    some_calls r.buckets (call_with [] (slice_range bytes r.block.from r.block.to) r.template.call) (words (take r.line bytes)) r.template.first r.template.count is.template.keys
    ∙ rw c.in-Each.is refl

pub returns-in-Everywhere : goal.returns-in-Everywhere
unfolding calls_of
returns-in-Everywhere c bytes is =
    let r = c.args.self.now in
    sym (length-bucket_calls (call_with [] (slice_range bytes r.block.from r.block.to) r.template.call) 0 r.buckets)
    ∙ rw c.in-Everywhere.is refl

use Rattle.mc_text.proofs.FrontLaws.{lf_from_search}
use Rattle.mc_text.proofs.reader.line_feed.Goals as goal

pub returns-clause-place : goal.returns-clause-place
returns-clause-place c = lf_from_search c.args.bytes.now c.memchr.result c.memchr.ensures

use Rattle.mc_text.specs.Reading.{meaning_at}
use Rattle.mc_text.proofs.FrontLaws.{reads_whole, reads_more}
use Rattle.mc_text.proofs.reader.read_request.Goals as goal

pub returns-in-None : goal.returns-in-None
returns-in-None c = reads_more c.args.limits.now c.args.bytes.now c.in-None.ensures.request

pub returns-in-Some : goal.returns-in-Some
returns-in-Some c = reads_whole c.args.limits.now c.args.bytes.now c.in-Some.request.length (meaning_at c.args.bytes.now c.in-Some.request) c.in-Some.ensures.request

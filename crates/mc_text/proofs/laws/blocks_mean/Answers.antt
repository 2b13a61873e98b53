use Rattle.mc_text.proofs.FormLaws.{long_line, bad_chunk, too_large, whole_block}
use Rattle.mc_text.proofs.laws.blocks_mean.Goals as goal

pub returns : goal.returns
returns c = record { long_line = long_line; bad_chunk = bad_chunk; too_large = too_large; whole = whole_block }

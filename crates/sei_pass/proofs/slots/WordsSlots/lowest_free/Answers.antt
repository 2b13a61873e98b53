use Rattle.sei_pass.proofs.FreeLaws.{found_is_lowest, full_is_behind}
use Rattle.sei_pass.proofs.slots.WordsSlots.lowest_free.Goals as goal

pub returns-in-Some : goal.returns-in-Some
returns-in-Some c = found_is_lowest c.args.self.now.geometry c.args.g.now c.args.self.now.words c.args.moment c.in-Some.slot c.requires c.in-Some.ensures.lowest

pub returns-in-None : goal.returns-in-None
returns-in-None c = full_is_behind c.args.self.now.geometry c.args.g.now c.args.self.now.words c.args.moment c.requires c.in-None.ensures.none

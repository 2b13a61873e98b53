use Rattle.std.proofs.Common.{◌≡◌, drop}
use Rattle.mc_model.specs.Bucket.{lookup, live_entries}
use Rattle.mc_model.proofs.entries.find_live.Given as goal

abbrev pub invariant-loop-entry : goal.invariant-loop-entry
invariant-loop-entry l = lookup l.key (live_entries l.moment (drop l.entry-index l.entries)) ≡ lookup l.key (live_entries l.moment l.entries)

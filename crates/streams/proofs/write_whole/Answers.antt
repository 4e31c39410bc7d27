-- `streams::write_whole` meets its contract, and ends: what one more write took comes behind what
-- was written before.
use Rattle.std.proofs.Common.{take-add, rules}
use Rattle.std.proofs.lemmas.Slice.{between_to_end}
use Rattle.std.proofs.KnownBytes.{Appends-trans}
use Rattle.streams.proofs.write_whole.Goals as goal

pub loop-written-preserved-in_default-1 : goal.loop-written-preserved-in_default-1
loop-written-preserved-in_default-1 g c = search (rules, take-add, between_to_end, Appends-trans)

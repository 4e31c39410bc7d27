-- `streams::read_whole` meets its contract, and ends: what one more read gave comes behind what was
-- filled before.
use Rattle.std.proofs.Common.{rules}
use Rattle.std.proofs.Math.Seq.{take-append-add, take-append-le}
use Rattle.std.proofs.KnownBytes.{Consumes-trans}
use Rattle.streams.proofs.read_whole.Goals as goal

pub loop-filled-preserved-in-Some : goal.loop-filled-preserved-in-Some
loop-filled-preserved-in-Some g c = search (rules, take-append-add, take-append-le, Consumes-trans)

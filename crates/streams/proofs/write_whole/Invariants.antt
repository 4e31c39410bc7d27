-- What is written is what the writer took, and each turn leaves fewer bytes or less patience.
use Rattle.std.proofs.Common.{◌+◌, ◌-◌, ◌≤◌, length, take}
use Rattle.std.specs.Io.KnownBytes.{Appends}
use Rattle.streams.proofs.write_whole.Given as goal

abbrev pub invariant-loop-written : goal.invariant-loop-written
invariant-loop-written g l = (l.written ≤ length l.text) × Appends (g.W.Write.contents l.initial.writer) (g.W.Write.contents l.writer) (take l.written l.text)

abbrev pub decreases-loop-written : goal.decreases-loop-written
decreases-loop-written g l = (length l.text - l.written) + l.patience.left

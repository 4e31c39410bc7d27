-- The rows from stage k on, set in the indicators as they are, give what all rows give of the lent
-- ones.
use Rattle.std.proofs.Common.{drop}
use Rattle.words.specs.Bits.{set_bit}
use Rattle.geometry.specs.Stages.{rows_of}
use Rattle.cover.specs.Change.{change}
use Rattle.update.proofs.RowsChanged.{Left}
use Rattle.update.proofs.Target.set_rows.Given as goal

abbrev pub invariant-loop-k : goal.invariant-loop-k
invariant-loop-k l =
    let g = l.self.layout.geometry in
    let all = change set_bit g l.set (rows_of g l.pattern) l.initial.indicators in
    Left set_bit g l.set (drop l.k (rows_of g l.pattern)) all l.indicators

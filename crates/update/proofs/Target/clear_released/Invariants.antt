-- The released rows from stage k on, cleared in the indicators as they are, give what all of them
-- give of the lent ones.
use Rattle.std.proofs.Common.{drop, filter}
use Rattle.words.specs.Bits.{clear_bit}
use Rattle.geometry.specs.Stages.{rows_of}
use Rattle.cover.specs.Change.{change}
use Rattle.update.specs.Targets.{is_released_in}
use Rattle.update.proofs.RowsChanged.{Left}
use Rattle.update.proofs.Target.clear_released.Given as goal

abbrev pub invariant-loop-k : goal.invariant-loop-k
invariant-loop-k l =
    let g = l.self.layout.geometry in
    let released = filter (is_released_in l.self l.next) in
    let all = change clear_bit g l.set (released (rows_of g l.pattern)) l.initial.indicators in
    Left clear_bit g l.set (released (drop l.k (rows_of g l.pattern))) all l.indicators

-- `update::Target::set_rows` meets its contract. The invariant: the rows from stage k on, set in
-- the indicators as they are, make what all rows make of them as they were.
use Rattle.std.proofs.Common.{rules}
use Rattle.geometry.proofs.Stages.{rows_over}
use Rattle.cover.specs.Change.{change}
use Rattle.reference.specs.Image.{entry_rows}
use Rattle.update.proofs.RowsChanged.{bit_there, rows_first, change_first, change_end}
use Rattle.update.proofs.Target.set_rows.Goals as goal

pub returns-in_default : goal.returns-in_default
unfolding entry_rows change
returns-in_default c = rw c.in_default.is

pub put_bit-requires : goal.put_bit-requires
put_bit-requires c = bit_there c.args.self.now c.set-set.ensures c.in-Some.pattern c.requires c.loop-k.auto.indicators c.loop-k-test.true c.row.ensures

pub loop-k-preserved : goal.loop-k-preserved
loop-k-preserved c = change_first c.loop-k.invariant c.args.self.now.layout.sized (rows_first _ _ _ c.row.ensures (search rules)) c.put_bit.ensures

pub returns : goal.returns
unfolding entry_rows
returns c = rw (c.in-Some.is, ← c.set-set.ensures) (change_end c.loop-k.invariant (rows_over _ _ c.loop-k.k (search rules)))

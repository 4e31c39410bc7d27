-- `update::Target::clear_released` meets its contract. The invariant: the released rows from stage
-- k on, cleared in the indicators as they are, make what all released rows make of them as they
-- were.
use Rattle.std.proofs.Common.{◌∙◌, rules}
use Rattle.geometry.proofs.Stages.{rows_over}
use Rattle.cover.specs.Change.{change}
use Rattle.reference.specs.Image.{entry_rows}
use Rattle.update.proofs.RowsChanged.{bit_there, rows_first, change_first, change_none, change_end, filter_first, filter_others, filter_end}
use Rattle.update.proofs.Target.clear_released.Goals as goal
use Rattle.update.proofs.Target.clear_released.Goals.{then-is_released, else-is_released}

pub returns-in_default : goal.returns-in_default
unfolding entry_rows change
returns-in_default c = rw c.in_default.is

pub put_bit-requires : goal.put_bit-requires
put_bit-requires c = bit_there c.args.self.now c.set-set.ensures c.in-Some.pattern c.requires c.loop-k.auto.indicators c.loop-k-test.true c.row-row.ensures

pub loop-k-preserved : goal.loop-k-preserved
loop-k-preserved c =
    let h = c.loop-k.invariant in
    let cut = rows_first _ _ _ c.row-row.ensures (search rules) in
    elim c.if-is_released.branch [
      | then-is_released w ↦
          change_first h c.args.self.now.layout.sized (filter_first _ cut c.is_released.ensures w.if-is_released.true) (w.indicators-is ∙ w.put_bit.ensures)
      | else-is_released w ↦ change_none h (filter_others _ cut c.is_released.ensures w.if-is_released.false) w.indicators-is
    ]

pub returns : goal.returns
unfolding entry_rows
returns c =
    rw (c.in-Some.is, ← c.set-set.ensures)
    (change_end c.loop-k.invariant (filter_end _ (rows_over _ _ c.loop-k.k (search rules))))

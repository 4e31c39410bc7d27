-- `stale::Row::number` meets its contract: no row has a number that is too large.
use Rattle.std.proofs.Common.{arith}
use Rattle.stale.proofs.RowWords.{row_few}
use Rattle.stale.proofs.Row.number.Goals as goal

pub overflow_mul-result : goal.overflow_mul-result
overflow_mul-result c = omega (arith, row_few c.args.self.now)

pub overflow_add-result : goal.overflow_add-result
overflow_add-result c = omega (arith, row_few c.args.self.now)

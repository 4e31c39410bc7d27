-- `update::replace` meets its contract, by its two ways: refusal 5, and the tables that its three
-- steps leave.
use Rattle.checks.proofs.Acceptance.{handed_on}
use Rattle.calls.specs.Answers.{entry_for}
use Rattle.update.proofs.RowsChanged.{replace_refused, replace_done}
use Rattle.update.proofs.replace.Goals as goal

pub returns-in_err-previous : goal.returns-in_err-previous
returns-in_err-previous c =
    rw (handed_on c.in_err-previous.field-0.0 c.from_residual.result c.from_residual.ensures)
    (replace_refused _ c.args.store.now c.args.indicators.now _ _ (c.in_err-previous.ensures c.args.indicators.now))

pub returns : goal.returns
returns c =
    replace_done _ c.args.store.now c.args.indicators.now _ (entry_for c.args.next) c.in_ok-previous.previous (c.in_ok-previous.ensures c.args.indicators.now)
    c.set_rows.ensures c.clear_released.ensures c.word.ensures c.put.ensures

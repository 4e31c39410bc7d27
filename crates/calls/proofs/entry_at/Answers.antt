-- `calls::entry_at` meets its contract: row 5 as it is tested, then the entry.
use Rattle.checks.proofs.Acceptance.{handed_on}
use Rattle.calls.proofs.Tested.{entry_refused, entry_given}
use Rattle.calls.proofs.entry_at.Goals as goal

pub returns-in_err-row : goal.returns-in_err-row
returns-in_err-row c indicators =
    rw (handed_on c.in_err-row.field-0.0 c.from_residual.result c.from_residual.ensures)
    (entry_refused c.args.layout.sized c.args.store.now indicators _ _ c.word-word.ensures c.is_sound.ensures c.in_err-row.ensures)

pub returns : goal.returns
returns c indicators =
    entry_given c.args.layout.sized c.args.store.now indicators _ _ c.word-word.ensures c.is_sound.ensures c.in_ok-row.ensures c.entry_of.result c.entry_of.ensures

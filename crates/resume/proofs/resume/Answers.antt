-- `resume::resume` meets its contract: rows 1 and 2 by the check, row 10 by both looks.
use Rattle.checks.proofs.Acceptance.{handed_on}
use Rattle.resume.proofs.Outcomes.{resumption_for_refused, resumption_for_passed}
use Rattle.resume.proofs.resume.Goals as goal

pub returns-in_err-tables : goal.returns-in_err-tables
returns-in_err-tables c =
    rw (handed_on c.in_err-tables.field-0.0 c.from_residual.result c.from_residual.ensures) (resumption_for_refused _ c.args.store c.args.indicators c.in_err-tables.ensures.given)

pub returns : goal.returns
returns c =
    let known = c.in_ok-tables.ensures in
    rw c.row.ensures (resumption_for_passed _ _ _ c.in_ok-tables.tables known.given known.its_own known.lends c.are_bad.ensures)

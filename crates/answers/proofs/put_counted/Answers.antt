-- `answers::put_counted` meets its contract: the counts come after what was found.
use Rattle.figures.specs.Sheet.{sheet}
use Rattle.figures.proofs.Printing.{both}
use Rattle.answers.proofs.put_counted.Goals as goal

pub returns : goal.returns
returns c = rw (← c.from.ensures, ← c.from-2.ensures) (both (sheet c.args.page.now) _ _ c.print.ensures c.print-2.ensures)

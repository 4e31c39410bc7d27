-- `job::run` meets its contract: its arrays have the lengths that `run_within` asks for, and the
-- page is the front of the buffer.
use Rattle.std.proofs.Common.{arith}
use Rattle.figures.proofs.Printing.{appended}
use Rattle.job.proofs.Bound.{output_short}
use Rattle.job.proofs.run.Goals as goal

pub returns-clause-ran : goal.returns-clause-ran
returns-clause-ran c =
    let ran = c.run_within.ensures in
    let bytes = appended _ _ _ c.new-page.result c.run_within.new.page c.new-page.ensures ran.printed (omega (arith, output_short c.args.file.now)) in
    record { bytes = rw c.len.ensures bytes; tables = ran.tables }

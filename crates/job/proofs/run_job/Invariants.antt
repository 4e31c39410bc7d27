-- By the turns of Running, one for each command; the tables keep their lengths.
use Rattle.std.proofs.Common.{◌≡◌, ◌+◌, ◌*◌, length}
use Rattle.calls.specs.Answers.{tables}
use Rattle.job.proofs.Running.{Progress}
use Rattle.job.proofs.run_job.Given as goal

abbrev pub invariant-loop-k : goal.invariant-loop-k
invariant-loop-k l =
    Progress l.file l.initial.matches l.fn.page (tables l.store l.indicators) l.matches l.page (l.fn.header.offset + 12 * l.k) l.k
    × ((length l.store ≡ length l.initial.store) × (length l.indicators ≡ length l.initial.indicators))

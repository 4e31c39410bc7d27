-- `resume::are_bad` meets its contract: both looks together are the test of row 10.
use Rattle.geometry.proofs.Facts.{facts}
use Rattle.calls.specs.Answers.{tables_in}
use Rattle.resume.proofs.Looks.{looks_tell}
use Rattle.resume.proofs.are_bad.Goals as goal

pub returns-then-any_is_amiss : goal.returns-then-any_is_amiss
returns-then-any_is_amiss c =
    let t = c.args.tables.now in
    rw (looks_tell t.layout.geometry (facts _ t.layout.sized.valid) (tables_in t) t.lent.words, ← c.any_is_amiss.ensures, c.if-any_is_amiss.true)

pub returns-else-any_is_amiss : goal.returns-else-any_is_amiss
returns-else-any_is_amiss c =
    let t = c.args.tables.now in
    rw (looks_tell t.layout.geometry (facts _ t.layout.sized.valid) (tables_in t) t.lent.words, ← c.any_is_amiss.ensures, c.if-any_is_amiss.false) c.any_is_stale.ensures

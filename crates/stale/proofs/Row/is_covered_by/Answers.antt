-- `stale::Row::is_covered_by` meets its contract, by its two ways.
use Rattle.geometry.proofs.Facts.{facts}
use Rattle.stale.proofs.Covered.{value_same, value_other}
use Rattle.stale.proofs.Row.is_covered_by.Goals as goal

pub returns-then-stage-self : goal.returns-then-stage-self
returns-then-stage-self c =
    let r = c.args.self.now in
    let z = r.tables.now.layout.sized in
    rw z.same_patterns (value_same _ (facts _ z.valid) _ _ _ r.is_stage r.is_value c.stage.ensures c.if-stage-self.true)

pub returns-else-stage-self : goal.returns-else-stage-self
returns-else-stage-self c =
    let r = c.args.self.now in
    value_other _ (facts _ r.tables.now.layout.sized.valid) _ _ _ r.is_stage r.is_value c.stage.ensures c.if-stage-self.false

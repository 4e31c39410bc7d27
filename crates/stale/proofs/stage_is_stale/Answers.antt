-- `stale::stage_is_stale` meets its contract: it asks the row of each value.
use Rattle.std.proofs.Common.{◌+◌, ◌*◌, ◌^◌, rules, tests}
use Rattle.words.proofs.Chains.{any_of_items, numbers_below}
use Rattle.geometry.specs.Stages.{stage_width}
use Rattle.calls.specs.Answers.{tables_in}
use Rattle.stale.specs.Stale.{row_is_stale, stage_is_stale}
use Rattle.stale.proofs.stage_is_stale.Goals as goal

pub returns : goal.returns
unfolding stage_is_stale
returns c =
    let t = c.args.tables.now in
    let g = t.layout.geometry in
    let each = numbers_below c.stage_rows.ensures in
    any_of_items (2 ^ stage_width g c.args.stage) each (λ x. row_is_stale g (tables_in t) (512 * c.args.stage + x)) _ _ _ c.any.ensures.ran (λ x b q found. search (rules, tests))

-- `stale::any_is_stale` meets its contract: it asks each stage.
use Rattle.std.proofs.Common.{rules, tests}
use Rattle.words.proofs.Chains.{any_of_items, numbers_below}
use Rattle.geometry.specs.Stages.{stages}
use Rattle.calls.specs.Answers.{tables_in}
use Rattle.stale.specs.Stale.{stage_is_stale, any_is_stale}
use Rattle.stale.proofs.any_is_stale.Goals as goal

pub returns : goal.returns
unfolding any_is_stale
returns c =
    let t = c.args.tables.now in
    let g = t.layout.geometry in
    let each = numbers_below t.lent.sized.same_stages in
    any_of_items (stages g) each (stage_is_stale g (tables_in t)) _ _ _ c.any.ensures.ran (λ k b q found. search (rules, tests))

-- `amiss::lacks_bit` meets its contract: it asks each stage.
use Rattle.std.proofs.Common.{rules, tests}
use Rattle.words.proofs.Chains.{any_of_items, numbers_below}
use Rattle.geometry.specs.Stages.{stages}
use Rattle.amiss.specs.Amiss.{lacks, is_missing}
use Rattle.amiss.proofs.lacks_bit.Goals as goal

pub returns : goal.returns
unfolding lacks
returns c =
    let t = c.args.tables.now in
    let g = t.layout.geometry in
    let each = numbers_below t.lent.sized.same_stages in
    any_of_items (stages g) each (is_missing g t.indicators.now c.args.set c.args.held) _ _ _ c.any.ensures.ran (λ k b q found. search (rules, tests))

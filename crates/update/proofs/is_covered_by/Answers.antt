-- `update::is_covered_by` meets its contract: a row is among a pattern's exactly when it is that of
-- one of the stages.
use Rattle.std.proofs.Common.{eqb, sym, ◌∙◌, rules, tests}
use Rattle.words.specs.Rules.{member}
use Rattle.words.proofs.Chains.{any_of_items, numbers_below}
use Rattle.words.proofs.Rules.{member-tabulate}
use Rattle.geometry.specs.Stages.{stages, row_of, rows_of}
use Rattle.reference.specs.Image.{entry_rows, covers}
use Rattle.update.proofs.is_covered_by.Goals as goal

pub returns-in_default : goal.returns-in_default
unfolding covers entry_rows member
returns-in_default c = rw c.in_default.is

pub returns : goal.returns
unfolding covers entry_rows rows_of
returns c =
    let g = c.args.layout.geometry in
    let items = numbers_below c.args.layout.sized.same_stages in
    rw c.in-Some.is
    (any_of_items _ items (λ k. eqb c.args.row (row_of g c.in-Some.pattern k)) _ _ _ c.any.ensures.ran (λ x b q k. search (rules, tests))
    ∙ sym (member-tabulate c.args.row (stages g) (row_of g c.in-Some.pattern)))

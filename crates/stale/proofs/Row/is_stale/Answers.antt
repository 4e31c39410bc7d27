-- `stale::Row::is_stale` meets its contract: it asks each word of the row.
use Rattle.std.proofs.Common.{rules, tests}
use Rattle.words.proofs.Chains.{any_of_items, each_item}
use Rattle.geometry.specs.Sizes.{row_words}
use Rattle.places.proofs.Walking.{walk_items}
use Rattle.calls.specs.Answers.{tables_in}
use Rattle.stale.specs.Stale.{word_is_stale, row_is_stale}
use Rattle.stale.specs.Rows.{geometry_of, number}
use Rattle.stale.proofs.Row.is_stale.Goals as goal

pub any-requires-clause-callable : goal.any-requires-clause-callable
any-requires-clause-callable c =
    let r = c.args.self.now in
    each_item (row_words (geometry_of r)) (walk_items _ _ _ _ _ _ c.all.ensures r.tables.now.layout.sized.same_words)
    (λ x q k. search rules) (λ x h. search rules)

pub returns : goal.returns
unfolding row_is_stale
returns c =
    let r = c.args.self.now in
    any_of_items (row_words (geometry_of r)) (walk_items _ _ _ _ _ _ c.all.ensures r.tables.now.layout.sized.same_words)
    (word_is_stale (geometry_of r) (tables_in r.tables.now) (number r)) _ _ _ c.any.ensures.ran (λ x b q k. search (rules, tests))

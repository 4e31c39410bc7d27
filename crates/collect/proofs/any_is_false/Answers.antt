-- `collect::any_is_false` meets its contract: `any` goes through the row words.
use Rattle.std.proofs.Common.{sym, ◌∙◌, rules, tests}
use Rattle.words.proofs.Chains.{any_of_items, each_item}
use Rattle.geometry.specs.Sizes.{row_words}
use Rattle.geometry.proofs.Facts.{facts}
use Rattle.places.proofs.Walking.{walk_items}
use Rattle.calls.specs.Answers.{tables_in}
use Rattle.search.proofs.Seeking.{kind_other}
use Rattle.collect.proofs.FalseSets.{none_false, false_in, by_words}
use Rattle.collect.proofs.any_is_false.Goals as goal

pub any-requires-clause-callable : goal.any-requires-clause-callable
any-requires-clause-callable c =
    let t = c.args.tables.now in
    each_item (row_words t.layout.geometry) (walk_items _ _ _ _ _ _ c.all.ensures t.lent.sized.same_words)
    (λ x q r. search rules) (λ x h. search (rules, h))

pub returns-then-eq : goal.returns-then-eq
returns-then-eq c =
    let t = c.args.tables.now in
    let g = t.layout.geometry in
    any_of_items (row_words g) (walk_items _ _ _ _ _ _ c.all.ensures t.lent.sized.same_words) (false_in g (tables_in t) c.args.key)
    _ _ _ c.any.ensures.ran (λ x b q k. search (rules, tests))
    ∙ sym (by_words g (tables_in t) c.args.key (facts g t.lent.sized.valid))

pub returns-else-eq : goal.returns-else-eq
returns-else-eq c =
    let t = c.args.tables.now in
    c.if-eq.false ∙ sym (none_false t.layout.geometry (tables_in t) c.args.key (kind_other t.layout (search rules)))

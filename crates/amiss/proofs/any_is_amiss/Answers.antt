-- `amiss::any_is_amiss` meets its contract: it asks each address.
use Rattle.std.proofs.Common.{refl, rules, tests}
use Rattle.words.proofs.Chains.{any_of_items, each_item}
use Rattle.places.proofs.Walking.{walk_items}
use Rattle.calls.specs.Answers.{tables_in}
use Rattle.amiss.specs.Amiss.{is_amiss}
use Rattle.amiss.proofs.any_is_amiss.Goals as goal

pub any-requires-clause-callable : goal.any-requires-clause-callable
any-requires-clause-callable c =
    each_item c.args.tables.now.layout.geometry.depth (walk_items _ _ _ _ _ _ c.all.ensures refl) (λ x q r. search rules) (λ x h. search rules)

pub returns : goal.returns
returns c =
    let t = c.args.tables.now in
    any_of_items t.layout.geometry.depth (walk_items _ _ _ _ _ _ c.all.ensures refl) (is_amiss t.layout.geometry (tables_in t)) _ _ _ c.any.ensures.ran
    (λ x b q k. search (rules, tests))

-- `collect::word_is_false` meets its contract: `any` goes through the sets of the word, which are
-- the geometry's.
use Rattle.std.proofs.Common.{◌∙◌, arith, rules, tests}
use Rattle.geometry.proofs.Facts.{facts}
use Rattle.geometry.proofs.Bounds.{words_few}
use Rattle.calls.specs.Answers.{tables_in}
use Rattle.collect.proofs.Walk.{all_left, each_set, any_of_sets}
use Rattle.collect.proofs.FalseSets.{set_is_false}
use Rattle.collect.proofs.word_is_false.Goals as goal

pub sets-requires : goal.sets-requires
sets-requires c = omega (arith, words_few _ (facts _ c.args.tables.now.lent.sized.valid))

pub any-requires-clause-callable : goal.any-requires-clause-callable
any-requires-clause-callable c =
    let t = c.args.tables.now in
    each_set _ _ _ t.layout.geometry c.args.j (λ x q r. search rules) (λ x h. search (rules, h, c.requires.segmented)) _ c.sets.ensures.1
    (all_left _ (tables_in t) c.args.key _ (c.sets.ensures.0 ∙ c.joined.ensures t.store.now))

pub returns : goal.returns
returns c =
    let t = c.args.tables.now in
    let g = t.layout.geometry in
    any_of_sets _ _ _ g c.args.j (set_is_false g (tables_in t) c.args.key) _ _ _ (λ x b q k. search (rules, tests)) _ c.sets.ensures.1
    (all_left _ (tables_in t) c.args.key _ (c.sets.ensures.0 ∙ c.joined.ensures t.store.now)) c.any.ensures.ran
    ∙ rw (c.sets.ensures.0, c.joined.ensures t.store.now)

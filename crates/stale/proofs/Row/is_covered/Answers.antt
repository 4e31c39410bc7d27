-- `stale::Row::is_covered` meets its contract: it asks each offset of the set.
use Rattle.std.proofs.Common.{sym, rules, tests}
use Rattle.words.proofs.Chains.{any_of_items, each_item}
use Rattle.words.proofs.Rules.{outside_past, outside_below}
use Rattle.geometry.specs.Sizes.{address_of, set_length}
use Rattle.geometry.proofs.Facts.{facts}
use Rattle.cover.specs.Image.{is_covered}
use Rattle.cover.proofs.Image.{uncovered}
use Rattle.places.proofs.Walking.{walk_items}
use Rattle.stale.specs.Rows.{geometry_of, number, cover_of}
use Rattle.stale.proofs.Row.is_covered.Goals as goal

pub returns-then-is_outside : goal.returns-then-is_outside
returns-then-is_outside c =
    let z = c.args.self.now.tables.now.layout.sized in
    sym (uncovered _ (facts _ z.valid) _ _ _ (outside_past c.is_outside.ensures z.same_sets c.if-is_outside.true))

pub any-requires-clause-callable : goal.any-requires-clause-callable
any-requires-clause-callable c =
    let r = c.args.self.now in
    let is_set = outside_below c.is_outside.ensures r.tables.now.layout.sized.same_sets c.if-is_outside.false in
    each_item (set_length (geometry_of r) c.args.set) (walk_items _ _ _ _ _ _ c.offsets.ensures c.length.ensures)
    (λ x q k. search rules) (λ x h. search rules)

pub returns : goal.returns
unfolding is_covered
returns c =
    let r = c.args.self.now in
    any_of_items (set_length (geometry_of r) c.args.set) (walk_items _ _ _ _ _ _ c.offsets.ensures c.length.ensures)
    (λ o. cover_of r (address_of (geometry_of r) c.args.set o) (number r)) _ _ _ c.any.ensures.ran (λ x b q k. search (rules, tests))

-- `update::Target::others_cover` meets its contract: the offsets of the set are asked one by one,
-- and each is that of an address of the store.
use Rattle.std.proofs.Common.{◌∙◌, arith, rules, tests}
use Rattle.words.proofs.Chains.{any_of_items, each_item}
use Rattle.geometry.specs.Sizes.{set_length}
use Rattle.places.proofs.Walking.{walk_items}
use Rattle.update.proofs.RowsChanged.{set_there, address_there, other_covers, all_others}
use Rattle.update.proofs.Target.others_cover.Goals as goal

pub length-requires : goal.length-requires
length-requires c = set_there c.args.self.now c.set-set.ensures

pub any-requires-clause-callable : goal.any-requires-clause-callable
any-requires-clause-callable c =
    let t = c.args.self.now in
    let length = set_length t.layout.geometry c.set-set.result in
    each_item length (walk_items _ _ _ _ _ _ c.offsets.ensures c.length.ensures) (λ x q r. search rules)
    (λ x h. grind (arith, address_there t c.set-set.ensures x h))

pub returns : goal.returns
returns c =
    let t = c.args.self.now in
    let length = set_length t.layout.geometry c.set-set.result in
    any_of_items length (walk_items _ _ _ _ _ _ c.offsets.ensures c.length.ensures) (other_covers t c.set-set.ensures c.args.row)
    _ _ _ c.any.ensures.ran (λ x b q k. (search rules, search (rules, tests)))
    ∙ all_others t c.set-set.ensures c.args.row

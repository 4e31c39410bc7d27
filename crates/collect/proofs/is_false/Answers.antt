-- `collect::is_false` meets its contract: `any` goes through the offsets of the set, whose
-- addresses are in the store.
use Rattle.std.proofs.Common.{◌≡◌, ℕ, ◌<◌, not, length, sym, ap, ◌∙◌, arith, rules, tests}
use Rattle.words.proofs.Chains.{any_of_items, each_item}
use Rattle.geometry.specs.Sizes.{address_of, set_length}
use Rattle.geometry.proofs.Facts.{facts}
use Rattle.geometry.proofs.Places.{address-lt}
use Rattle.checks.specs.declared.lent.Tables.{Tables}
use Rattle.places.proofs.Walking.{walk_items}
use Rattle.reference.proofs.Searched.{equal_at}
use Rattle.calls.specs.Answers.{tables_in}
use Rattle.search.proofs.Seeking.{kind_segmented}
use Rattle.collect.proofs.FalseSets.{set_false}
use Rattle.collect.proofs.is_false.Goals as goal

-- the entry of a set at an offset is in the store
stored : (t : Tables) (s o : ℕ) → o < set_length t.layout.geometry s → (a : ℕ) → a ≡ address_of t.layout.geometry s o
    → a < length t.store.now
stored t s o offset a e =
    omega (arith, t.lent.entries, address-lt t.layout.geometry (facts t.layout.geometry t.lent.sized.valid) s o offset)

pub any-requires-clause-callable : goal.any-requires-clause-callable
any-requires-clause-callable c =
    let t = c.args.tables.now in
    each_item (set_length t.layout.geometry c.args.set) (walk_items _ _ _ _ _ _ c.offsets.ensures c.length.ensures)
    (λ x q r. search rules) (λ x h. grind (arith, stored t c.args.set _ h))

pub returns : goal.returns
returns c =
    let t = c.args.tables.now in
    let equal = equal_at t.layout.geometry (tables_in t) c.args.key c.args.set in
    ap not
    (any_of_items (set_length t.layout.geometry c.args.set) (walk_items _ _ _ _ _ _ c.offsets.ensures c.length.ensures) equal _ _ _ c.any.ensures.ran
    (λ x b q k. search (rules, tests)))
    ∙ sym (set_false t.layout.geometry (tables_in t) c.args.key (kind_segmented t.layout c.requires.segmented) c.args.set)

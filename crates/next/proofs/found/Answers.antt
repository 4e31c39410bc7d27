-- `next::found` meets its contract: at an equal entry of the own set, and behind that set by the
-- search from the next one on.
use Rattle.std.proofs.Common.{◌≡◌, ◌+◌, ◌<◌, refl, ◌∙◌, add-one, arith, rules}
use Rattle.geometry.specs.Sizes.{sets, offset_of}
use Rattle.geometry.proofs.Facts.{facts}
use Rattle.geometry.proofs.Places.{set_of-lt, offset_lt, address-lt}
use Rattle.calls.specs.declared.Search.{Search}
use Rattle.checks.specs.Checks.{result_map}
use Rattle.calls.specs.Answers.{tables_in}
use Rattle.next.proofs.Behind.{own_start, own_on, own_found, own_over, uncounted}
use Rattle.next.proofs.found.Goals as goal
use Rattle.next.proofs.found.Goals.{After-set-own, In-Some}

-- the own set is one of the sets
own_set : (c : After-set-own) → c.set-own.result < sets c.args.tables.now.layout.geometry
own_set c = rw c.set-own.ensures (set_of-lt _ (facts _ c.args.tables.now.lent.sized.valid) _ c.requires)

pub length-requires : goal.length-requires
length-requires c = own_set c

pub offsets_above-at-items-requires : goal.offsets_above-at-items-requires
offsets_above-at-items-requires c =
    rw (c.offset.ensures, c.length.ensures, c.set-own.ensures) (offset_lt _ (facts _ c.args.tables.now.lent.sized.valid) _ c.requires)

pub loop-at-init : goal.loop-at-init
loop-at-init c =
    let x = c.args in
    let start = c.offsets_above-at-items.ensures in
    let from_offset : c.offsets_above-at-items.result.next ≡ offset_of x.tables.now.layout.geometry x.address.0 + 1 = rw (start.0, c.offset.ensures) refl in
    rw c.into_iter-at-iterator.ensures.into_iter_gives
    (tt, tt, rw (start.1, c.length.ensures, c.set-own.ensures), omega (arith, start.0, c.offset.ensures), own_start x.tables.now.layout.geometry (tables_in x.tables.now) x.address.0 x.key _ (from_offset ∙ add-one _))

pub address-other-requires : goal.address-other-requires
address-other-requires c = rw c.set-own.ensures (omega (arith, c.in-Some.ensures.steps, c.loop-at.invariant.2))

pub word-requires : goal.word-requires
word-requires c =
    let t = c.args.tables.now in
    let inside = address-other-requires (goal.at.word-requires c).In-Some in
    omega (arith, c.address-other.ensures, t.lent.entries, address-lt _ (facts _ t.lent.sized.valid) _ _ inside)

pub returns-then-word-key : goal.returns-then-word-key
returns-then-word-key c =
    let t = c.args.tables.now in
    let step = c.in-Some.ensures.steps in
    own_found t.layout.geometry (tables_in t) c.args.address.0 c.args.key c.in-Some.at (omega (arith, step, c.loop-at.invariant.3))
    (omega (arith, step, c.loop-at.invariant.2)) (rw (← step.1) at c.loop-at.invariant.4) _ _ (rw c.set-own.ensures at c.address-other.ensures) c.word.ensures c.if-word-key.true

pub loop-at-preserved : goal.loop-at-preserved
loop-at-preserved c =
    let t = c.args.tables.now in
    let step = c.in-Some.ensures.steps in
    rw (step.2, ← step.1) (
      tt,
      tt,
      step.3 ∙ c.loop-at.invariant.2,
      omega (arith, step, c.loop-at.invariant.3),
      own_on t.layout.geometry (tables_in t) c.args.address.0 c.args.key c.in-Some.at (rw (← step.1) at c.loop-at.invariant.4)
          _ _ (rw c.set-own.ensures at c.address-other.ensures) c.word.ensures c.if-word-key.false,
    )

pub next-requires-2 : goal.next-requires-2
next-requires-2 c = own_set (goal.at.next-requires-2 c).After-set-own

pub returns : goal.returns
returns c =
    let g = c.args.tables.now.layout.geometry in
    let is : c.map.result ≡ result_map (λ (s : Search). s.address) c.from_set.result = search rules in
    rw (own_over g _ _ _ _ (omega (arith, c.in-None.ensures.steps, c.loop-at.invariant.2)) c.loop-at.invariant.4, is)
    (uncounted c.from_set.result _ (rw (c.next-2.ensures, c.set-own.ensures, add-one) at c.from_set.ensures))

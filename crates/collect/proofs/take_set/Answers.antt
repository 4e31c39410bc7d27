-- `collect::take_set` meets its contract: the bit of an address is set, where the kind is another
-- or its entry the key, or else is not.
use Rattle.std.proofs.Common.{◌≡◌, ◌/◌, ◌%◌, ◌<◌, Bool, true, false, cond, length, ◌∙◌, arith, rules, eq-eqb, ne_eqb}
use Rattle.words.specs.Bits.{set_bit, change_bit}
use Rattle.geometry.proofs.Facts.{facts}
use Rattle.geometry.proofs.Places.{address-lt, matches_most}
use Rattle.reference.specs.Search.{is_chosen}
use Rattle.calls.specs.Answers.{tables_in}
use Rattle.search.proofs.Seeking.{kind_segmented, kind_other}
use Rattle.collect.specs.Marks.{marked_words}
use Rattle.collect.proofs.Marking.{is_taken_before, is_chosen_all, is_chosen_equal, set_start, set_step, set_end}
use Rattle.collect.proofs.take_set.Goals as goal
use Rattle.collect.proofs.take_set.Goals.{After-address-address, then-ne-via-then-ne, then-ne-via-else-ne+then-word-key}

pub loop-at-init : goal.loop-at-init
loop-at-init c =
    rw c.into_iter-at-iterator.ensures.into_iter_gives
    (tt, tt, c.offsets-at-items.ensures.1 ∙ c.length.ensures, set_start _ _ _ _ _ _ c.offsets-at-items.ensures.0)

-- the address is one
below : (c : After-address-address) → c.address-address.result.0 < c.args.tables.now.layout.geometry.depth
below c =
    let f = facts _ c.args.tables.now.lent.sized.valid in
    omega (arith, address-lt _ f c.args.set c.in-Some.at (omega (arith, c.in-Some.ensures.steps)), c.address-address.ensures)

pub word-requires : goal.word-requires
word-requires c = omega (arith, below (goal.at.word-requires c).After-address-address, c.args.tables.now.lent.entries)

marks : (c : After-address-address) → c.address-address.result.0 / 64 < length c.loop-at.matches
marks c =
    omega (arith, below c, matches_most _ (facts _ c.args.tables.now.lent.sized.valid), c.loop-at.auto.matches, c.requires.whole)

pub mark-requires : goal.mark-requires
mark-requires c = marks (goal.at.mark-requires c).After-address-address

-- a turn, where a test says whether the address is taken
turn : (c : After-address-address) (test : Bool) → let t = c.args.tables.now in let a = c.address-address.result.0 in
    is_chosen t.layout.geometry (tables_in t) c.args.key a ≡ test
    → cond test (change_bit set_bit c.loop-at.matches (a / 64) (a % 64)) c.loop-at.matches
    ≡ marked_words (is_taken_before t.layout.geometry (tables_in t) c.args.key c.args.set c.next.new.self.next) c.args.matches.now
turn c test is =
    let t = c.args.tables.now in
    let step = c.in-Some.ensures.steps in
    let at = rw step.1 at c.address-address.ensures in
    rw step.2
    (set_step t.layout.geometry (tables_in t) c.args.key c.args.set _ (facts _ t.lent.sized.valid) _ _ at (omega arith) _ (marks c) c.loop-at.invariant.3
    test is)

pub loop-at-preserved-in-loop-at : goal.loop-at-preserved-in-loop-at
loop-at-preserved-in-loop-at c =
    let t = c.args.tables.now in
    let at = (goal.at.loop-at-preserved-in-loop-at c).After-address-address in
    let all = is_chosen_all t.layout.geometry (tables_in t) c.args.key _ (below at) in
    let equal = is_chosen_equal t.layout.geometry (tables_in t) c.args.key _ (below at) in
    rw c.mark.ensures (
      tt,
      tt,
      c.in-Some.ensures.steps.3 ∙ c.loop-at.invariant.2,
      turn at true
          (elim c.then-ne.branch [
            | then-ne-via-then-ne w ↦ all (kind_other t.layout (search rules))
            | then-ne-via-else-ne+then-word-key w ↦ equal (kind_segmented t.layout (search rules)) _ w.word.ensures ∙ eq-eqb _ _ w.if-word-key.true
          ]),
    )

pub loop-at-preserved : goal.loop-at-preserved
loop-at-preserved c =
    let t = c.args.tables.now in
    let at = (goal.at.loop-at-preserved c).After-address-address in
    let equal = is_chosen_equal t.layout.geometry (tables_in t) c.args.key _ (below at) in (
      tt,
      tt,
      c.in-Some.ensures.steps.3 ∙ c.loop-at.invariant.2,
      turn at false (equal (kind_segmented t.layout (search rules)) _ c.word.ensures ∙ ne_eqb _ _ c.if-word-key.false),
    )

pub returns : goal.returns
returns c =
    c.loop-at.invariant.3 ∙ set_end _ _ _ _ _ (facts _ c.args.tables.now.lent.sized.valid) _ (omega (arith, c.in-None.ensures.steps))

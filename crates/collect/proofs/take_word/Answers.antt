-- `collect::take_word` meets its contract, by its invariant; the walk over the sets gives those of
-- the geometry.
use Rattle.std.proofs.Common.{refl, ◌∙◌, arith}
use Rattle.geometry.proofs.Facts.{facts}
use Rattle.geometry.proofs.Bounds.{words_few}
use Rattle.calls.specs.Answers.{tables_in}
use Rattle.collect.proofs.Walk.{Turn, all_left, turn}
use Rattle.collect.proofs.Marking.{word_step, word_end}
use Rattle.collect.proofs.take_word.Goals as goal
use Rattle.collect.proofs.take_word.Goals.{In-Some}

pub sets-set-items-requires : goal.sets-set-items-requires
sets-set-items-requires c = omega (arith, c.requires.in_row, words_few _ (facts _ c.args.tables.now.lent.sized.valid))

pub loop-set-init : goal.loop-set-init
loop-set-init c =
    let t = c.args.tables.now in
    let items = c.sets-set-items.ensures in
    rw (c.into_iter-set-iterator.ensures.into_iter_gives, items.0)
    (tt, tt, refl, items.1, all_left t.layout.geometry (tables_in t) c.args.key c.args.j c.requires.joined)

turned : (c : In-Some) → Turn c.args.tables.now.layout.geometry c.args.j c.loop-set.set-iterator.rest c.in-Some.set
turned c =
    let step = c.in-Some.ensures.steps in
    turn _ _ _ c.loop-set.invariant.4 step.0 _ (rw c.loop-set.invariant.3 at step.1)

pub take_set-requires : goal.take_set-requires
take_set-requires c = record {
  whole = c.loop-set.auto.matches ∙ c.requires.whole;
  is_set = (turned (goal.at.take_set-requires c).In-Some).within;
}

pub loop-set-preserved : goal.loop-set-preserved
loop-set-preserved c =
    let step = c.in-Some.ensures.steps in
    let t = turned (goal.at.loop-set-preserved c).In-Some in
    rw step.2
    (tt, tt, word_step _ _ _ _ _ _ _ t.here (omega arith) t.whole _ _ c.take_set.ensures ∙ c.loop-set.invariant.2, step.3 ∙ c.loop-set.invariant.3, t.after)

pub returns : goal.returns
returns c = word_end _ _ _ _ _ _ c.in-None.ensures.steps.0 _ _ c.loop-set.invariant.2

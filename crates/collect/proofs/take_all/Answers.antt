-- `collect::take_all` meets its contract, by its invariant.
use Rattle.std.proofs.Common.{◌≡◌, ◌∙◌, arith}
use Rattle.geometry.proofs.Facts.{facts}
use Rattle.calls.specs.Answers.{tables_in}
use Rattle.collect.specs.Marks.{marked_words}
use Rattle.collect.proofs.Marking.{is_taken_below, all_start, all_step, zero_step, all_end}
use Rattle.collect.proofs.take_all.Goals as goal
use Rattle.collect.proofs.take_all.Goals.{In-Some}

pub loop-j-init : goal.loop-j-init
loop-j-init c =
    let items = c.all-j-items.ensures in
    rw c.into_iter-j-iterator.ensures.into_iter_gives
    (tt, tt, items.1 ∙ c.args.tables.now.lent.sized.same_words, all_start _ _ _ _ _ items.0)

before : (c : In-Some) → let t = c.args.tables.now in
    c.loop-j.matches ≡ marked_words (is_taken_below t.layout.geometry (tables_in t) c.args.key c.in-Some.j) c.args.matches.now
before c = rw c.in-Some.ensures.steps.1 c.loop-j.invariant.3

pub loop-j-preserved-then-word-ne0 : goal.loop-j-preserved-then-word-ne0
loop-j-preserved-then-word-ne0 c =
    let step = c.in-Some.ensures.steps in
    let at = before (goal.at.loop-j-preserved-then-word-ne0 c).In-Some in
    rw (step.2, ← step.1) (tt, tt, step.3 ∙ c.loop-j.invariant.2, all_step _ _ _ _ _ _ (c.joined-word.ensures c.args.tables.now.store.now) _ at _ c.take_word.ensures)

pub loop-j-preserved : goal.loop-j-preserved
loop-j-preserved c =
    let step = c.in-Some.ensures.steps in
    let at = before (goal.at.loop-j-preserved c).In-Some in
    rw (step.2, ← step.1) (tt, tt, step.3 ∙ c.loop-j.invariant.2, zero_step _ _ _ _ _ _ (c.joined-word.ensures c.args.tables.now.store.now) _ at c.if-word-ne0.false)

pub returns : goal.returns
returns c =
    c.loop-j.invariant.3 ∙ all_end _ _ _ _ (facts _ c.args.tables.now.lent.sized.valid) _ (omega (arith, c.in-None.ensures.steps))

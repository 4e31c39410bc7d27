-- The sets of the bits that are left, marked in what is marked already, give what those of the
-- whole word give.
use Rattle.std.proofs.Common.{◌≡◌}
use Rattle.calls.specs.Answers.{tables_in}
use Rattle.collect.specs.Marks.{marked_words}
use Rattle.collect.proofs.Walk.{Left}
use Rattle.collect.proofs.Marking.{is_taken_in}
use Rattle.collect.proofs.take_word.Given as goal

abbrev pub invariant-loop-set : goal.invariant-loop-set
invariant-loop-set l =
    let g = l.tables.layout.geometry in
    let t = tables_in l.tables in
    (goal.iterator-loop-set).can_next l.set-iterator
    × (goal.iterator-loop-set).is_finite l.set-iterator
    × (marked_words (is_taken_in g t l.key l.set-iterator.rest l.fn.j) l.matches ≡ marked_words (is_taken_in g t l.key l.word l.fn.j) l.initial.matches)
    × (l.set-iterator.at ≡ l.fn.j)
    × Left g l.fn.j l.set-iterator.rest

-- Of the sets of the row words before the next one, what is taken is marked.
use Rattle.std.proofs.Common.{◌≡◌}
use Rattle.geometry.specs.Sizes.{row_words}
use Rattle.calls.specs.Answers.{tables_in}
use Rattle.collect.specs.Marks.{marked_words}
use Rattle.collect.proofs.Marking.{is_taken_below}
use Rattle.collect.proofs.take_all.Given as goal

abbrev pub invariant-loop-j : goal.invariant-loop-j
invariant-loop-j l =
    let g = l.tables.layout.geometry in
    (goal.iterator-loop-j).can_next l.j-iterator
    × (goal.iterator-loop-j).is_finite l.j-iterator
    × (l.j-iterator.end ≡ row_words g)
    × (l.matches ≡ marked_words (is_taken_below g (tables_in l.tables) l.key l.j-iterator.next) l.initial.matches)

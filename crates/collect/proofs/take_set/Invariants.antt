-- The addresses of the set before the offset are marked.
use Rattle.std.proofs.Common.{◌≡◌}
use Rattle.geometry.specs.Sizes.{set_length}
use Rattle.calls.specs.Answers.{tables_in}
use Rattle.collect.specs.Marks.{marked_words}
use Rattle.collect.proofs.Marking.{is_taken_before}
use Rattle.collect.proofs.take_set.Given as goal

abbrev pub invariant-loop-at : goal.invariant-loop-at
invariant-loop-at l =
    let g = l.tables.layout.geometry in
    (goal.iterator-loop-at).can_next l.at-iterator
    × (goal.iterator-loop-at).is_finite l.at-iterator
    × (l.at-iterator.end ≡ set_length g l.set)
    × (l.matches ≡ marked_words (is_taken_before g (tables_in l.tables) l.key l.set l.at-iterator.next) l.initial.matches)

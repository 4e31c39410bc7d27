-- The search of the row words that are left ends as the whole one does, and of the line's entries
-- none before an offset is the key.
use Rattle.std.proofs.Common.{◌≡◌, ◌+◌, ◌/◌}
use Rattle.words.specs.Rules.{Nowhere}
use Rattle.geometry.specs.Sizes.{row_words, set_length}
use Rattle.reference.specs.Search.{seek_word}
use Rattle.reference.proofs.Searched.{equal_at}
use Rattle.calls.specs.Answers.{tables_in}
use Rattle.search.proofs.Seeking.{words_from}
use Rattle.search.proofs.from_set.Given as goal

abbrev pub invariant-words : goal.invariant-words
invariant-words l =
    let g = l.tables.layout.geometry in
    let t = tables_in l.tables in
    (goal.iterator-words).can_next l.row_words
    × (goal.iterator-words).is_finite l.row_words
    × (l.row_words.end ≡ row_words g)
    × (l.words_read + l.first / 64 ≡ l.row_words.next)
    × (words_from g t l.key l.first l.row_words.next l.words_read ≡ seek_word g t l.key l.first)

abbrev pub invariant-loop-at : goal.invariant-loop-at
invariant-loop-at l =
    let g = l.tables.layout.geometry in
    let t = tables_in l.tables in
    (goal.iterator-loop-at).can_next l.at-iterator
    × (goal.iterator-loop-at).is_finite l.at-iterator
    × (l.at-iterator.end ≡ set_length g l.set)
    × Nowhere l.at-iterator.next (equal_at g t l.key l.set)

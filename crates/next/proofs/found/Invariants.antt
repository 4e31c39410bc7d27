-- Of the own set no entry before an offset and above the address is the key.
use Rattle.std.proofs.Common.{◌≡◌, ◌<◌}
use Rattle.words.specs.Rules.{Nowhere}
use Rattle.geometry.specs.Sizes.{set_of, offset_of, set_length}
use Rattle.reference.proofs.Searched.{own}
use Rattle.calls.specs.Answers.{tables_in}
use Rattle.next.proofs.found.Given as goal

abbrev pub invariant-loop-at : goal.invariant-loop-at
invariant-loop-at l =
    let g = l.tables.layout.geometry in
    let t = tables_in l.tables in
    (goal.iterator-loop-at).can_next l.at-iterator
    × (goal.iterator-loop-at).is_finite l.at-iterator
    × (l.at-iterator.end ≡ set_length g (set_of g l.fn.address.0))
    × (offset_of g l.fn.address.0 < l.at-iterator.next)
    × Nowhere l.at-iterator.next (own g t l.fn.address.0 l.key)

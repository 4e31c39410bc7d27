-- `words::put_bit` meets its contract: the word that it stores has the bit set, or cleared.
use Rattle.words.specs.Bits.{change_bit}
use Rattle.words.proofs.Machine.{set_is}
use Rattle.words.proofs.put_bit.Goals as goal
use Rattle.words.proofs.put_bit.Goals.{then-value, else-value}

pub returns : goal.returns
unfolding change_bit
returns c =
    elim c.if-value.branch [
      | then-value w ↦ rw (w.if-value.true, w.words-is) (rw (set_is 64 _ _ c.requires.is_bit))
      | else-value w ↦ rw (w.if-value.false, w.words-is, w.without_bit.ensures)
    ]

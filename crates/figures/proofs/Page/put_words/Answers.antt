-- `Page::put_words` meets its contract: a word takes as much room as any other.
use Rattle.figures.specs.Pieces.{spaced_word}
use Rattle.figures.proofs.Lengths.{hexadecimal_long}
use Rattle.figures.proofs.Printing.{room_here}
use Rattle.figures.proofs.Page.put_words.Goals as goal

pub put_word-requires : goal.put_word-requires
put_word-requires c =
    rw hexadecimal_long (rw hexadecimal_long at (room_here spaced_word c.args.words.now c.loop-word.invariant 0 c.loop-word-test.true))

-- What is printed and the words that are left make the whole, and there is room for these.
use Rattle.figures.specs.Pieces.{spaced_word}
use Rattle.figures.specs.Sheet.{sheet}
use Rattle.figures.proofs.Printing.{Before}
use Rattle.figures.proofs.Page.put_words.Given as goal

abbrev pub invariant-loop-word : goal.invariant-loop-word
invariant-loop-word l = Before spaced_word l.words (sheet l.initial.self) (sheet l.self) l.word-index

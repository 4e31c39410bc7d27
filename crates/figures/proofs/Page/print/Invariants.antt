-- What is printed and the pieces that are left make the whole, and there is room for these.
use Rattle.figures.specs.Pieces.{piece_bytes}
use Rattle.figures.specs.Sheet.{sheet}
use Rattle.figures.proofs.Printing.{Before}
use Rattle.figures.proofs.Page.print.Given as goal

abbrev pub invariant-loop-piece : goal.invariant-loop-piece
invariant-loop-piece l = Before piece_bytes l.pieces (sheet l.initial.self) (sheet l.self) l.piece-index

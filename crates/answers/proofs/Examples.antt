-- The examples hold: antt computes how each line goes on.
use Rattle.std.proofs.Common.{◌≡◌, map, codes, refl}
use Rattle.std.specs.Fmt.{digits}
use Rattle.figures.specs.Figures.{hexadecimal}
use Rattle.answers.specs.Items.{line_end, answer_items}
use Rattle.answers.specs.Examples.{Example, lines}

pub lines_hold : map (λ (e : Example). line_end (answer_items e.answer)) lines ≡ map (λ (e : Example). codes e.rest) lines
unfolding digits hexadecimal lines
lines_hold = refl

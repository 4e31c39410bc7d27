-- How long what is printed can be: a line whose figures are small, by adding up.
use Rattle.std.proofs.Common.{◌≡◌, ℕ, ◌+◌, ◌*◌, ◌^◌, ◌<◌, ◌≤◌, List, [], ◌∷◌, map, length, Some, None, refl, arith, length-append}
use Rattle.std.proofs.lemmas.Fmt.{length-decimal-le}
use Rattle.geometry.specs.declared.Geometry.{Geometry}
use Rattle.reference.specs.Entry.{Entry, empty, pattern}
use Rattle.reference.specs.Calls.{Answer, refused, cleared, held, at, none, next, matched}
use Rattle.figures.specs.Figures.{hexadecimal}
use Rattle.figures.proofs.Lengths.{hexadecimal_long}
use Rattle.answers.specs.Items.{line_end, entry_text, answer_items}
use Rattle.report.specs.Lines.{answer_line, first_line, stop_line}

words_long : (ws : List ℕ) → length (line_end (map hexadecimal ws)) ≡ 17 * length ws + 1
words_long [] = refl
words_long (w ∷ ws) = omega (arith, length-append (hexadecimal w) (line_end (map hexadecimal ws)), hexadecimal_long w, words_long ws)

-- An answer whose figures leave its line short.
abbrev pub Small : Answer → Type 0
Small (refused n) = n < 10
Small cleared = Unit
Small (held e) = (p : ℕ) → e ≡ pattern p → p < 10 ^ 10
Small (at a w c) = (a < 10 ^ 4) × (w < 10 ^ 4) × (c < 10 ^ 4)
Small (none w c) = (w < 10 ^ 4) × (c < 10 ^ 4)
Small (next (Some a)) = a < 10 ^ 4
Small (next None) = Unit
Small (matched ws hits) = (length ws ≤ 16) × (hits < 10 ^ 4)

entry_most : (e : Entry) → Small (held e) → length (entry_text e) ≤ 10
entry_most empty s = omega arith
entry_most (pattern p) s = length-decimal-le 10 p (omega arith) (s p refl) (omega (arith, s p refl))

items_most : (x : Answer) → Small x → length (line_end (answer_items x)) ≤ 283
items_most (refused n) s = simp length-append (omega (arith, length-decimal-le 1 n))
items_most cleared s = omega arith
items_most (held e) s = simp length-append (omega (arith, entry_most e s))
items_most (at a w c) s = simp length-append (omega (arith, length-decimal-le 4 a, length-decimal-le 4 w, length-decimal-le 4 c))
items_most (none w c) s = simp length-append (omega (arith, length-decimal-le 4 w, length-decimal-le 4 c))
items_most (next (Some a)) s = simp length-append (omega (arith, length-decimal-le 4 a))
items_most (next None) s = omega arith
items_most (matched ws hits) s = simp length-append (omega (arith, length-decimal-le 4 hits, words_long ws))

pub answer_line_most : (k : ℕ) (x : Answer) → k < 10 ^ 4 → Small x → length (answer_line k x) ≤ 287
answer_line_most k x h s = simp length-append (omega (arith, length-decimal-le 4 k, items_most x s))

pub stop_line_most : (n : ℕ) → n < 10 → length (stop_line n) ≤ 9
unfolding stop_line
stop_line_most n h = simp length-append (omega (arith, length-decimal-le 1 n))

pub first_line_most : (g : Geometry) → g.kind < 10 → g.depth < 10 ^ 4 → g.pattern_width < 100 → g.set_width < 100 → length (first_line g) ≤ 34
unfolding first_line
first_line_most g k d p w =
    simp length-append (omega (arith, length-decimal-le 1 g.kind, length-decimal-le 4 g.depth, length-decimal-le 2 g.pattern_width, length-decimal-le 2 g.set_width))

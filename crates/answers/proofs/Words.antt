-- The items of a match word and the newline are its words, each with its space, and the newline.
use Rattle.std.proofs.Common.{◌≡◌, ℕ, List, [], ◌∷◌, ◌++◌, map, codes, refl, sym, ap, ◌∙◌, append_assoc}
use Rattle.figures.specs.Figures.{Bytes, hexadecimal}
use Rattle.figures.specs.Pieces.{spaced_words}
use Rattle.answers.specs.Items.{line_end}

pub words_ended : (words : List ℕ) → line_end (map hexadecimal words) ≡ spaced_words words ++ codes "\n"
words_ended [] = refl
words_ended (w ∷ ws) = ap (λ (rest : Bytes). 32 ∷ rest) (ap (λ (rest : Bytes). hexadecimal w ++ rest) (words_ended ws) ∙ sym (append_assoc (hexadecimal w) (spaced_words ws) (10 ∷ [])))

-- The items of an answer, and how a line goes on after an item (docs/MEMORY.md, section 14).
use Rattle.std.specs.Prelude.{ℕ, List, [], ◌∷◌, ◌++◌, map, Some, None, codes, decimal}
use Rattle.reference.specs.Entry.{Entry, empty, pattern}
use Rattle.reference.specs.Calls.{Answer, refused, cleared, held, at, none, next, matched}
use Rattle.figures.specs.declared.Piece.{Piece}
use Rattle.figures.specs.Figures.{Bytes, hexadecimal}
use Rattle.figures.specs.Pieces.{all_bytes}

-- What comes after an item: a space and the next one, or the newline that ends the line (rule
-- 14.3).
abbrev pub line_end : List Bytes → Bytes
line_end [] = codes "\n"
line_end (item ∷ items) = codes " " ++ (item ++ line_end items)

-- An entry as an item (rule 14.2).
abbrev pub entry_text : Entry → Bytes
entry_text empty = codes "-"
entry_text (pattern p) = decimal p

-- The counts of a first-match as items (rule 14.2).
abbrev pub counts : (words_read entries_compared : ℕ) → List Bytes
counts w c = codes "w" ∷ decimal w ∷ codes "c" ∷ decimal c ∷ []

-- The end of a first-match's line: what was found, and behind it the counts.
abbrev pub counted_bytes : (found : List Piece) → (words_read entries_compared : ℕ) → Bytes
counted_bytes found w c = all_bytes found ++ line_end (counts w c)

-- The items of an answer; a next-match has no counts (rule 14.2).
abbrev pub answer_items : Answer → List Bytes
answer_items (refused n) = codes "no" ∷ decimal n ∷ []
answer_items cleared = codes "clear" ∷ []
answer_items (held e) = codes "was" ∷ entry_text e ∷ []
answer_items (at a w c) = codes "at" ∷ decimal a ∷ counts w c
answer_items (none w c) = codes "none" ∷ counts w c
answer_items (next (Some a)) = codes "at" ∷ decimal a ∷ []
answer_items (next None) = codes "none" ∷ []
answer_items (matched ws hits) = codes "hits" ∷ decimal hits ∷ map hexadecimal ws

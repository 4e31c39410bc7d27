-- What is printed, as bytes, and the figures of a match word.
use Rattle.std.specs.Prelude.{ℕ, List}
use Rattle.io.specs.Digits.{last_digits}

-- Bytes as contracts see them.
abbrev pub Bytes : Type 0
Bytes = List ℕ

-- A word of a match word (rule 14.3 of docs/MEMORY.md): all sixteen digits, in small letters.
unfoldable pub hexadecimal : (word : ℕ) → Bytes
hexadecimal w = last_digits 16 16 w

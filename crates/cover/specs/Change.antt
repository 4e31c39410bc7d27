-- How the indicators change when the entry of an address comes to cover other rows: the bits of its
-- set follow (rule 8.2 of docs/MEMORY.md).
use Rattle.std.specs.Prelude.{ℕ, ◌+◌, ◌*◌, ◌/◌, ◌%◌, Bool, not, ◌&&◌, List, [], ◌∷◌, ◌==◌, filter}
use Rattle.words.specs.Rules.{any, member}
use Rattle.words.specs.Bits.{set_bit, clear_bit, change_bit}
use Rattle.geometry.specs.declared.Geometry.{Geometry}
use Rattle.geometry.specs.Sizes.{row_words, set_of, address_of, set_length}
use Rattle.cover.specs.Image.{Cover}

-- The indicators with the bits of some rows in one set changed, by set_bit or by clear_bit.
unfoldable pub change : (ℕ → ℕ → ℕ) → Geometry → (set : ℕ) → (rows ind : List ℕ) → List ℕ
change f g s [] ind = ind
change f g s (r ∷ rs) ind = change f g s rs (change_bit f ind (row_words g * r + s / 64) (s % 64))

-- Whether address b is another one than a, and covers the row.
abbrev pub another_covers : Cover → (a b row : ℕ) → Bool
another_covers cover a b r = not (b == a) && cover b r

-- Whether another address of a's set covers the row.
unfoldable pub others_cover : Geometry → Cover → (a row : ℕ) → Bool
others_cover g cover a r =
    any (set_length g (set_of g a)) (λ o. another_covers cover a (address_of g (set_of g a) o) r)

-- Whether neither the next rows of address a nor another address of its set cover the row.
abbrev pub is_released : Geometry → Cover → (a : ℕ) → (next : List ℕ) → (row : ℕ) → Bool
is_released g cover a next r = not (member r next) && not (others_cover g cover a r)

-- The former rows that are released.
abbrev pub released_rows : Geometry → Cover → (a : ℕ) → (former next : List ℕ) → List ℕ
released_rows g cover a former next = filter (is_released g cover a next) former

-- Address a, whose entry covered the rows `former`, comes to cover `next`: those are set in its
-- set, and the released rows are cleared.
unfoldable pub moved_indicators : Geometry → Cover → (a : ℕ) → (former next ind : List ℕ) → List ℕ
moved_indicators g cover a former next ind =
    change clear_bit g (set_of g a) (released_rows g cover a former next)
    (change set_bit g (set_of g a) next ind)

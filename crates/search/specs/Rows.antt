-- What a joined row word is known to be.
use Rattle.std.specs.Prelude.{◌≡◌, ℕ, ◌+◌, ◌*◌, ◌<◌, true}
use Rattle.words.specs.Bits.{bit}
use Rattle.geometry.specs.declared.Geometry.{Geometry}
use Rattle.geometry.specs.Sizes.{sets}

-- Every bit of row word j, which is w, belongs to a set.
abbrev pub IsInSets : Geometry → (w j : ℕ) → Type 0
IsInSets g w j = (b : ℕ) → bit w b ≡ true → 64 * j + b < sets g

-- The tests of refusals that the plain array and the steps share (rule 9.1 of docs/MEMORY.md).
use Rattle.std.specs.Prelude.{ℕ, Bool, nat_le}
use Rattle.geometry.specs.declared.Geometry.{Geometry}
use Rattle.geometry.specs.Sizes.{patterns}

-- Refusal 3: the address is not below the depth.
unfoldable pub bad_address : Geometry → ℕ → Bool
bad_address g a = nat_le g.depth a

-- Refusal 4, of a key too: it is no pattern.
unfoldable pub bad_pattern : Geometry → ℕ → Bool
bad_pattern g p = nat_le (patterns g) p

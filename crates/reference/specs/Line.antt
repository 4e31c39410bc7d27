-- A set's line: its words of the store, from the first address of the set on (rule 11.1 of
-- docs/MEMORY.md).
use Rattle.std.specs.Prelude.{ℕ, Bool, ◌&&◌, List, [], length, take, drop, if◌then◌else◌, nat_lt, ◌==◌}
use Rattle.geometry.specs.declared.Geometry.{Geometry}
use Rattle.geometry.specs.Valid.{is_valid}
use Rattle.geometry.specs.Sizes.{sets, address_of, set_length}

-- Whether there is such a line (rule 11.2).
abbrev pub has_line : Geometry → (store : List ℕ) → (set : ℕ) → Bool
has_line g store s = is_valid g && length store == g.depth && nat_lt s (sets g)

-- Empty where there is none (rule 11.2).
unfoldable pub line : Geometry → (store : List ℕ) → (set : ℕ) → List ℕ
line g store s =
    if has_line g store s then take (set_length g s) (drop (address_of g s 0) store) else []

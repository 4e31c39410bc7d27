-- Which kind a number stands for, and which number a kind has (rule 2.2 of docs/MEMORY.md).
use Rattle.std.specs.Prelude.{ℕ, if◌then◌else◌, ◌==◌, Ok, Err, Result}
use Rattle.geometry.specs.declared.Kind.{Kind}
use Rattle.geometry.specs.declared.Kind.TheVariants.{Transposed, Cascaded, Segmented}
use Rattle.geometry.specs.declared.UnknownKind.{UnknownKind}
use Rattle.geometry.specs.Valid.{transposed, cascaded, segmented}

-- The number of a kind.
abbrev pub number_of : Kind → ℕ
number_of Transposed = transposed
number_of Cascaded = cascaded
number_of Segmented = segmented

-- A number as one that no kind has.
abbrev pub no_kind : ℕ → UnknownKind
no_kind n = record { 0 = n }

-- The kind that has the number, or that none has.
abbrev pub kind_of : (number : ℕ) → Result Kind UnknownKind
kind_of n =
    if n == transposed then Ok Transposed
    else if n == cascaded then Ok Cascaded
    else if n == segmented then Ok Segmented else Err (no_kind n)

-- Job files: their fields, and what stops a whole file (docs/MEMORY.md, section 13).
use Rattle.std.specs.Prelude.{ℕ, zero, suc, ◌+◌, ◌*◌, Bool, not, ◌||◌, List, [], ◌∷◌, length, nat_lt, slice_index, Option}
use Rattle.machines.specs.Refusals.{RefusalRow, ◌given_when◌, first_refusal}
use Rattle.geometry.specs.declared.Geometry.{Geometry}
use Rattle.geometry.specs.Valid.{is_valid}
use Rattle.geometry.specs.Stages.{indicator_words}
use Rattle.figures.specs.Figures.{Bytes}
use Rattle.jobfile.specs.declared.Header.{Header}
use Rattle.jobfile.specs.declared.Command.{Command}

-- A byte of the file. Past its end it is 0, which counts for nothing: 7 stops a file that lacks a
-- field.
abbrev pub byte_at : Bytes → ℕ → ℕ
byte_at file i = slice_index file i

-- The field that begins at byte `at` (rule 13.1).
unfoldable pub field : (file : Bytes) → (at : ℕ) → ℕ
field file i =
    byte_at file i
    + 256 * (byte_at file (i + 1) + 256 * (byte_at file (i + 2) + 256 * byte_at file (i + 3)))

-- The six fields of the header (rule 13.2).
unfoldable pub header_of : Bytes → Header
header_of file = record {
  geometry = record {
    kind = field file 0;
    depth = field file 4;
    pattern_width = field file 8;
    set_width = field file 12;
  };
  commands = field file 16;
  offset = field file 20;
}

-- The geometry in the header.
abbrev pub geometry_of : Bytes → Geometry
geometry_of file = (header_of file).geometry

-- The three fields of a command (rule 13.3).
unfoldable pub command_at : (file : Bytes) → (at : ℕ) → Command
command_at file i = record {
  operation = field file i;
  address = field file (i + 4);
  pattern = field file (i + 8);
}

-- Commands in a row, the first of them at `at` (rule 13.3).
unfoldable pub commands_from : (file : Bytes) → (count at : ℕ) → List Command
commands_from file zero i = []
commands_from file (suc n) i = command_at file i ∷ commands_from file n (i + 12)

-- The commands of the file, as the header tells their number and place.
abbrev pub commands_of : Bytes → List Command
commands_of file = commands_from file (header_of file).commands (header_of file).offset

-- Stop 7 by the commands: they begin in the header, or end past a file of this length. The sum does
-- not wrap (rule 13.6).
unfoldable pub commands_outside : Header → (length : ℕ) → Bool
commands_outside h n = nat_lt h.offset 24 || nat_lt n (h.offset + 12 * h.commands)

-- Stop 7 by the file's length: it has no header, or is too long.
abbrev pub is_bad_length : (length : ℕ) → Bool
is_bad_length n = nat_lt n 24 || nat_lt 16384 n

-- Stop 7, by either.
abbrev pub bad_file : Bytes → Bool
bad_file file = is_bad_length (length file) || commands_outside (header_of file) (length file)

-- Stop 9: the depth, or the words of the indicators.
abbrev pub too_large : Geometry → Bool
too_large g = nat_lt 1024 g.depth || nat_lt 4096 (indicator_words g)

-- The stops in their order (rule 13.6): those of the geometry, and all.
abbrev pub geometry_stops : Geometry → List RefusalRow
geometry_stops g = 1 given_when not (is_valid g) ∷ 9 given_when too_large g ∷ []

abbrev pub file_stops : Bytes → List RefusalRow
file_stops file = 7 given_when bad_file file ∷ geometry_stops (geometry_of file)

-- The number that stops a file, if one does.
abbrev pub file_stop : Bytes → Option ℕ
file_stop file = first_refusal (file_stops file)

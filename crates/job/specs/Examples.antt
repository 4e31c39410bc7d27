-- Job files and what they print, as rows of one table: that of examples/listing.txt; each operation
-- and each stray field; figures, counts and match words; the whole-file stops on both sides of
-- their limits, and their order. proofs/Examples.antt computes them all.
use Rattle.std.specs.Prelude.{ℕ, ◌-◌, ◌/◌, ◌%◌, List, [], ◌∷◌, ◌++◌, map, length, take, replicate, flat_map, codes}
use Prim.Native.String.{String}
use Rattle.figures.specs.Figures.{Bytes}

-- A file, and what is printed of it.
pub record Example : Type 0 where
  pub file : Bytes
  pub prints : Bytes

-- The bytes of some fields, the low byte of each first.
unfoldable pub bytes_of : (fields : List ℕ) → Bytes
bytes_of [] = []
bytes_of (n ∷ ns) = n % 256 ∷ n / 256 % 256 ∷ n / 65536 % 256 ∷ n / 16777216 % 256 ∷ bytes_of ns

-- Lines, each with its newline.
unfoldable pub lines_of : List String → Bytes
lines_of [] = []
lines_of (l ∷ ls) = codes l ++ codes "\n" ++ lines_of ls

abbrev pub ◌prints◌ : Bytes → List String → Example
file prints lines = record { file = file; prints = lines_of lines }

infix 68 ◌prints◌
-- A command and its line.
pub record Turn : Type 0 where
  pub asks : Bytes
  pub line : String

abbrev pub ◌gives◌ : Bytes → String → Turn
asks gives line = record { asks = asks; line = line }

infix 68 ◌gives◌
-- The bytes of a command.
abbrev pub command : (operation address pattern : ℕ) → Bytes
command operation address pattern = bytes_of (operation ∷ address ∷ pattern ∷ [])

-- The six fields of a header.
abbrev pub header : (kind depth width set commands offset : ℕ) → Bytes
header kind depth width set commands offset =
    bytes_of (kind ∷ depth ∷ width ∷ set ∷ commands ∷ offset ∷ [])

-- A job with this geometry, its commands behind its header, and its first line.
abbrev pub job : (kind depth width set : ℕ) → String → List Turn → Example
job kind depth width set first turns =
    (header kind depth width set (length turns) 24 ++ flat_map (λ (t : Turn). t.asks) turns)
    prints (first ∷ map (λ (t : Turn). t.line) turns)

-- S: the geometry of examples/listing.txt, with its first line.
abbrev pub first_s : String
first_s = "kind 2 depth 8 width 2 set 2"

abbrev pub job_s : List Turn → Example
job_s = job 2 8 2 2 first_s

-- S with this offset and number of commands, and no more than its header.
abbrev pub header_s : (commands offset : ℕ) → Bytes
header_s = header 2 8 2 2

-- A job of no commands with this geometry.
abbrev pub alone : (kind depth width set : ℕ) → Bytes
alone kind depth width set = header kind depth width set 0 24

unfoldable pub examples : List Example
examples =
    -- examples/listing.txt
    job_s
    (command 1 3 1 gives "0 was -"
    ∷ command 1 2 1 gives "1 was -"
    ∷ command 1 3 2 gives "2 was 1"
    ∷ command 3 0 1 gives "3 at 2 w 1 c 2"
    ∷ command 3 0 2 gives "4 at 3 w 1 c 2"
    ∷ command 4 0 1 gives "5 hits 1 0000000000000004"
    ∷ command 2 2 0 gives "6 was 1"
    ∷ command 3 0 1 gives "7 none w 1 c 0"
    ∷ command 1 8 0 gives "8 no 3"
    ∷ command 3 0 4 gives "9 no 4"
    ∷ [])
    -- each operation, and a clear in mid-run
    ∷ job_s
    (command 1 5 3 gives "0 was -"
    ∷ command 1 6 0 gives "1 was -"
    ∷ command 5 5 0 gives "2 was 3"
    ∷ command 5 6 0 gives "3 was 0"
    ∷ command 3 0 3 gives "4 at 5 w 1 c 2"
    ∷ command 4 0 3 gives "5 hits 1 0000000000000020"
    ∷ command 2 5 0 gives "6 was 3"
    ∷ command 5 5 0 gives "7 was -"
    ∷ command 6 0 0 gives "8 clear"
    ∷ command 5 6 0 gives "9 was -"
    ∷ command 4 0 0 gives "10 hits 0 0000000000000000"
    ∷ [])
    -- each stray field, its high byte too; other operations, all bits of them; the array is kept
    ∷ job_s
    (command 1 5 3 gives "0 was -"
    ∷ command 2 5 1 gives "1 no 8"
    ∷ command 2 5 16777216 gives "2 no 8"
    ∷ command 3 5 3 gives "3 no 8"
    ∷ command 4 5 3 gives "4 no 8"
    ∷ command 5 5 3 gives "5 no 8"
    ∷ command 6 5 0 gives "6 no 8"
    ∷ command 6 16777216 0 gives "7 no 8"
    ∷ command 6 0 3 gives "8 no 8"
    ∷ command 0 0 0 gives "9 no 8"
    ∷ command 7 0 0 gives "10 no 8"
    ∷ command 257 5 2 gives "11 no 8"
    ∷ command 16777217 5 2 gives "12 no 8"
    ∷ command 5 5 0 gives "13 was 3"
    ∷ [])
    -- the last address and pattern; 3 and 4, by any byte, and 3 before 4; the array is kept
    ∷ job_s
    (command 1 7 3 gives "0 was -"
    ∷ command 1 8 1 gives "1 no 3"
    ∷ command 1 263 1 gives "2 no 3"
    ∷ command 2 8 0 gives "3 no 3"
    ∷ command 5 8 0 gives "4 no 3"
    ∷ command 1 7 4 gives "5 no 4"
    ∷ command 1 7 257 gives "6 no 4"
    ∷ command 3 0 4 gives "7 no 4"
    ∷ command 4 0 4 gives "8 no 4"
    ∷ command 1 8 4 gives "9 no 3"
    ∷ command 4 0 3 gives "10 hits 1 0000000000000080"
    ∷ [])
    -- 8 before 3 and 4
    ∷ job_s
    (command 2 8 1 gives "0 no 8"
    ∷ command 3 1 4 gives "1 no 8"
    ∷ command 4 1 4 gives "2 no 8"
    ∷ command 5 8 1 gives "3 no 8"
    ∷ command 7 8 4 gives "4 no 8"
    ∷ [])
    -- two match words that differ, with letters; a hit past the first row word, and none after two
    ∷ job 0 70 3 1 "kind 0 depth 70 width 3 set 1"
    (command 1 0 5 gives "0 was -"
    ∷ command 1 1 5 gives "1 was -"
    ∷ command 1 2 5 gives "2 was -"
    ∷ command 1 3 5 gives "3 was -"
    ∷ command 1 5 5 gives "4 was -"
    ∷ command 1 7 5 gives "5 was -"
    ∷ command 1 63 5 gives "6 was -"
    ∷ command 1 66 5 gives "7 was -"
    ∷ command 1 67 5 gives "8 was -"
    ∷ command 1 69 5 gives "9 was -"
    ∷ command 1 68 6 gives "10 was -"
    ∷ command 4 0 5 gives "11 hits 10 80000000000000af 000000000000002c"
    ∷ command 3 0 6 gives "12 at 68 w 2 c 0"
    ∷ command 3 0 7 gives "13 none w 2 c 0"
    ∷ [])
    -- an address, a w and a c that differ; of two equal entries in a line the lower is the hit, and
    -- c is the same
    ∷ job 2 195 2 3 "kind 2 depth 195 width 2 set 3"
    (command 1 194 2 gives "0 was -"
    ∷ command 3 0 2 gives "1 at 194 w 2 c 3"
    ∷ command 3 0 1 gives "2 none w 2 c 0"
    ∷ command 1 193 2 gives "3 was -"
    ∷ command 3 0 2 gives "4 at 193 w 2 c 3"
    ∷ command 4 0 2
    gives "5 hits 2 0000000000000000 0000000000000000 0000000000000000 0000000000000006"
    ∷ [])
    -- figures of one digit to nine; the four bytes of a pattern, least first, written out once
    ∷ job 1 3 27 1 "kind 1 depth 3 width 27 set 1"
    (command 1 2 9 gives "0 was -"
    ∷ command 1 2 10 gives "1 was 9"
    ∷ command 1 2 99 gives "2 was 10"
    ∷ command 1 2 100 gives "3 was 99"
    ∷ (bytes_of (1 ∷ 2 ∷ []) ++ (21 ∷ 205 ∷ 91 ∷ 7 ∷ [])) gives "4 was 100"
    ∷ command 1 2 134217727 gives "5 was 123456789"
    ∷ command 3 0 134217727 gives "6 at 2 w 1 c 0"
    ∷ command 3 0 134217726 gives "7 none w 1 c 0"
    ∷ command 3 0 134217728 gives "8 no 4"
    ∷ [])
    -- an offset of two bytes; what stands before and after the commands does not count
    ∷ (header_s 2 300 ++ replicate (300 - 24) 9 ++ command 1 5 3 ++ command 5 5 0 ++ replicate 5 9)
    prints (first_s ∷ "0 was -" ∷ "1 was 3" ∷ [])
    -- under 24 bytes, and 24
    ∷ take 23 (header_s 0 24) prints ("job no 7" ∷ [])
    ∷ header_s 0 24 prints (first_s ∷ [])
    -- 16,384 bytes, and more
    ∷ (header_s 0 24 ++ replicate (16384 - 24) 1) prints (first_s ∷ [])
    ∷ (header_s 0 24 ++ replicate (16385 - 24) 1) prints ("job no 7" ∷ [])
    -- the offset under 24, and past the end
    ∷ header_s 0 23 prints ("job no 7" ∷ [])
    ∷ header_s 0 25 prints ("job no 7" ∷ [])
    -- commands that the file holds, and some that it lacks a byte of
    ∷ (header_s 2 24 ++ command 6 0 0 ++ command 5 7 0)
    prints (first_s ∷ "0 clear" ∷ "1 was -" ∷ [])
    ∷ take 47 (header_s 2 24 ++ command 6 0 0 ++ command 5 7 0) prints ("job no 7" ∷ [])
    ∷ take 35 (header_s 1 24 ++ command 6 0 0) prints ("job no 7" ∷ [])
    -- commands whose end is past 32 bits, by their number and by the offset
    ∷ (header_s 357913942 24 ++ command 6 0 0) prints ("job no 7" ∷ [])
    ∷ (header_s 1 4294967295 ++ command 6 0 0) prints ("job no 7" ∷ [])
    -- a bad geometry; the largest; one too large by its depth, and one by its indicators, 4,104
    -- words (none has 4,097 to 4,103)
    ∷ alone 3 8 2 2 prints ("job no 1" ∷ [])
    ∷ alone 0 1024 8 1 prints ("kind 0 depth 1024 width 8 set 1" ∷ [])
    ∷ alone 0 1025 1 1 prints ("job no 9" ∷ [])
    ∷ alone 1 256 19 1 prints ("job no 9" ∷ [])
    -- the order: 7 before 1, 1 before 9
    ∷ header 3 8 2 2 1 24 prints ("job no 7" ∷ [])
    ∷ alone 3 1025 2 2 prints ("job no 1" ∷ [])
    ∷ []

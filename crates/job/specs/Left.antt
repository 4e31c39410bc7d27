-- What a job leaves in the tables that are lent to it, and what its run asks of them.
use Rattle.std.specs.Prelude.{◌≡◌, ℕ, ◌≤◌, List, [], ◌∷◌, ◌++◌, length, take, drop, Some, None, Option}
use Rattle.machines.specs.Machine.{after}
use Rattle.geometry.specs.declared.Geometry.{Geometry}
use Rattle.geometry.specs.Sizes.{match_words}
use Rattle.geometry.specs.Stages.{indicator_words}
use Rattle.reference.specs.Calls.{Answer, matches_after}
use Rattle.reference.specs.Array.{Array, empty_array}
use Rattle.reference.specs.Tables.{Tables}
use Rattle.reference.specs.Image.{tables_of}
use Rattle.figures.specs.Figures.{Bytes}
use Rattle.figures.specs.declared.Page.{Page}
use Rattle.figures.specs.Sheet.{sheet, HasRoom, Prints}
use Rattle.figures.specs.Appended.{Appended}
use Rattle.jobfile.specs.declared.Header.{Header}
use Rattle.jobfile.specs.declared.Command.{Command}
use Rattle.jobfile.specs.Files.{header_of, geometry_of, commands_of, file_stop}
use Rattle.job.specs.Output.{command_machine, answers_of, report, output}

-- The array after some commands.
abbrev pub array_left : Geometry → Array → List Command → Array
array_left g = after (command_machine g)

-- The array that a job leaves: its memory begins empty (rule 13.5 of docs/MEMORY.md).
abbrev pub job_array : Bytes → Array
job_array file = array_left (geometry_of file) (empty_array (geometry_of file)) (commands_of file)

-- The match word after some answers: the one in the last of them that has one.
unfoldable pub matches_left : List Answer → (lent : List ℕ) → List ℕ
matches_left [] m = m
matches_left (x ∷ xs) m = matches_left xs (matches_after x m)

-- The match word that a job leaves in the words that are its own of a lent one.
abbrev pub job_matches : Bytes → (lent : List ℕ) → List ℕ
job_matches file m = matches_left (answers_of file) (take (match_words (geometry_of file)) m)

-- The store, the indicators and the match word that are lent to a job.
pub record LentTables : Type 0 where
  pub store : List ℕ
  pub indicators : List ℕ
  pub matches : List ℕ

-- The three as one value.
abbrev pub lent_tables : (store indicators matches : List ℕ) → LentTables
lent_tables s i m = record { store = s; indicators = i; matches = m }

-- A job that nothing stops, with tables and a match word of its own lengths, and room for its
-- report.
pub record IsReady (file : Bytes) (header : Header) (lent : LentTables) (page : Page) : Type 0 where
  pub unstopped : file_stop file ≡ None
  pub same_header : header ≡ header_of file
  pub entries : length lent.store ≡ (geometry_of file).depth
  pub words : length lent.indicators ≡ indicator_words (geometry_of file)
  pub match_word : length lent.matches ≡ match_words (geometry_of file)
  pub room : HasRoom page (report file)

-- What a job leaves that runs on tables and a match word of its own lengths.
pub record Runs (file : Bytes) (after : Tables) (lent matches : List ℕ) (page page_after : Page)
    : Type 0 where
  pub printed : Prints page page_after (report file)
  pub tables : after ≡ tables_of (geometry_of file) (job_array file)
  pub match_word : matches ≡ matches_left (answers_of file) lent

-- Tables and a match word that are long enough for any job that nothing stops, and room for any
-- output.
pub record IsAmple (lent : LentTables) (page : Page) : Type 0 where
  pub entries : 1024 ≤ length lent.store
  pub words : 4096 ≤ length lent.indicators
  pub match_word : 16 ≤ length lent.matches
  pub room : 391215 ≤ length (sheet page).rest

-- A lent table of which the first words are used.
abbrev pub overlaid_table : (used lent : List ℕ) → List ℕ
overlaid_table used lent = used ++ drop (length used) lent

-- A job that runs leaves the tables of its array, and the words of a lent table past its own as
-- lent. A stop leaves all.
unfoldable pub tables_left : Bytes → Option ℕ → LentTables → LentTables
tables_left file (Some n) before = before
tables_left file None before =
    let t = tables_of (geometry_of file) (job_array file) in
    record {
      store = overlaid_table t.store before.store;
      indicators = overlaid_table t.indicators before.indicators;
      matches = overlaid_table (job_matches file before.matches) before.matches;
    }

-- Of any job on a page: its output is printed, and the tables are those that it leaves.
pub record Works (file : Bytes) (before after : LentTables) (page page_after : Page)
    : Type 0 where
  pub printed : Prints page page_after (output file)
  pub tables : after ≡ tables_left file (file_stop file) before

-- Of any job: the first bytes of the buffer, so many, are its output, the others are as lent, and
-- the tables are those that it leaves.
pub record Ran (file : Bytes) (before after : LentTables) (out out_after : Bytes) (many : ℕ)
    : Type 0 where
  pub bytes : Appended out out_after 0 many (output file)
  pub tables : after ≡ tables_left file (file_stop file) before

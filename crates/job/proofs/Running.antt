-- The run of a job, command by command: what has been printed and what the commands that are left
-- will print make all its lines, and the tables are always those of an array.
use Rattle.std.proofs.Common.{◌≡◌, ℕ, suc, ◌+◌, ◌-◌, ◌*◌, ◌<◌, ◌≤◌, true, List, ◌++◌, length, refl, ap, ◌∙◌, arith}
use Rattle.machines.specs.Machine as machine
use Rattle.geometry.specs.declared.Geometry.{Geometry}
use Rattle.geometry.specs.Valid.{is_valid}
use Rattle.geometry.specs.Sizes.{match_words}
use Rattle.geometry.specs.Stages.{indicator_words}
use Rattle.reference.specs.Calls.{Answer, clear, matches_after}
use Rattle.reference.specs.Array.{Array, empty_array, ArrayOutcome, IsSound}
use Rattle.reference.specs.Tables.{Tables}
use Rattle.reference.specs.Image.{tables_of}
use Rattle.reference.specs.Steps.{bad_matches, own_refusals, refusals, step}
use Rattle.reference.proofs.Limits.{lengths_pass}
use Rattle.reference.proofs.Emptied.{empty_array_sound}
use Rattle.reference.proofs.Agreement.{Agrees}
use Rattle.reference.proofs.History.{passed_empties}
use Rattle.figures.specs.Figures.{Bytes}
use Rattle.figures.specs.declared.Page.{Page}
use Rattle.figures.specs.Sheet.{sheet, HasRoom, Prints}
use Rattle.figures.proofs.Printing.{Left, begin, room_next, all_printed}
use Rattle.figures.proofs.Printing as printing
use Rattle.report.specs.Lines.{answer_line, first_line}
use Rattle.jobfile.specs.Files.{header_of, geometry_of, command_at, commands_from}
use Rattle.commands.specs.Commands.{command_outcome, Obeys}
use Rattle.job.specs.Output.{array_command, answers, answers_of, numbered_lines, report}
use Rattle.job.specs.Left.{array_left, job_array, matches_left, Runs}
use Rattle.job.proofs.Obeying.{command_agrees, command_matches}

abbrev pub all_lines : Bytes → Bytes
all_lines file = numbered_lines 0 (answers_of file)

-- Before command k, which stands at byte `from`; `left` commands are still to run. The report began
-- on page₀.
pub record Progress (file : Bytes) (lent : List ℕ) (page₀ : Page) (t : Tables) (matches : List ℕ) (page : Page) (from k : ℕ) : Type 0 where
  pub left : ℕ
  pub array : Array
  pub counted : k + left ≡ (header_of file).commands
  pub place : from ≡ (header_of file).offset + 12 * k
  pub lines : Left (sheet page₀) (sheet page) (report file) (numbered_lines k (answers (geometry_of file) array (commands_from file left from)))
  pub sound : IsSound (geometry_of file) array
  pub tables : t ≡ tables_of (geometry_of file) array
  pub to_hold : array_left (geometry_of file) array (commands_from file left from) ≡ job_array file
  pub long : length matches ≡ match_words (geometry_of file)
  pub to_match : matches_left (answers (geometry_of file) array (commands_from file left from)) matches ≡ matches_left (answers_of file) lent

-- the place, put otherwise
pub moved : {file : Bytes} {lent : List ℕ} {page₀ page : Page} {t : Tables} {m : List ℕ} {from to k : ℕ}
    → Progress file lent page₀ t m page from k → from ≡ to → Progress file lent page₀ t m page to k
moved p e = rw e at p

-- ---- the first clear

clear_leaves : (g : Geometry) (t : Tables) → is_valid g ≡ true → length t.store ≡ g.depth → length t.indicators ≡ indicator_words g
    → (step g t clear).tables ≡ tables_of g (empty_array g)
unfolding refusals own_refusals bad_matches
clear_leaves g t ok entries words = passed_empties g t (rw ok, (rw ((lengths_pass g t).1 (entries, words)), tt))

-- ---- the turns

-- after the clear and the first line
pub progress_start : {file : Bytes} {lent : List ℕ} {page₀ page : Page} (t : Tables) {u : Tables} → is_valid (geometry_of file) ≡ true
    → length t.store ≡ (geometry_of file).depth → length t.indicators ≡ indicator_words (geometry_of file) → length lent ≡ match_words (geometry_of file)
    → u ≡ (step (geometry_of file) t clear).tables → length (report file) ≤ length (sheet page₀).rest → Prints page₀ page (first_line (geometry_of file))
    → Progress file lent page₀ u lent page (header_of file).offset 0
unfolding report
progress_start {file} {lent} t {u} ok entries words long cleared room first = record {
  left = (header_of file).commands;
  array = empty_array (geometry_of file);
  counted = omega arith;
  place = omega arith;
  lines = printing.next (begin room) (first_line (geometry_of file)) (all_lines file) refl first;
  sound = empty_array_sound (geometry_of file);
  tables = cleared ∙ clear_leaves (geometry_of file) t ok entries words;
  to_hold = refl;
  long = long;
  to_match = refl;
}

module _ {file : Bytes} {lent : List ℕ} {page₀ page : Page} {t : Tables} {m : List ℕ} {from k : ℕ}
    (ok : is_valid (geometry_of file) ≡ true) (p : Progress file lent page₀ t m page from k) where
  abbrev g : Geometry
  g = geometry_of file

  -- ---- where a command is left

  abbrev next : ArrayOutcome
  next = array_command g p.array (command_at file from)

  agreed : Agrees g (command_outcome g t m (command_at file from)) next
  agreed = rw p.tables (command_agrees g ok p.array p.sound (command_at file from) m p.long)

  module _ (more : k < (header_of file).commands) where
    one_left : p.left ≡ suc (p.left - 1)
    one_left = omega (arith, more, p.counted)

    -- it stands in the file
    pub inside : (header_of file).offset + 12 * (header_of file).commands ≤ length file → from + 12 ≤ length file
    inside h = omega (arith, h, more, p.place)

    abbrev later : Bytes
    later = numbered_lines (k + 1) (answers g next.array (commands_from file (p.left - 1) (from + 12)))

    -- its line, and the lines after it
    line_next : numbered_lines k (answers g p.array (commands_from file p.left from)) ≡ answer_line k next.answer ++ later
    unfolding commands_from machine.run numbered_lines
    line_next = ap (λ (n : ℕ). numbered_lines k (answers g p.array (commands_from file n from))) one_left

    pub room : HasRoom page (answer_line k (command_outcome g t m (command_at file from)).answer)
    room = rw agreed.answer (room_next p.lines (answer_line k next.answer) later line_next)

    pub progress_next : {page' : Page} {t' : Tables} {m' : List ℕ} → Obeys (command_outcome g t m (command_at file from)) k t' m' page page'
        → length m' ≡ length m → Progress file lent page₀ t' m' page' (from + 12) (k + 1)
    unfolding commands_from machine.run machine.after matches_left
    progress_next o same = record {
      left = p.left - 1;
      array = next.array;
      counted = omega (arith, more, p.counted);
      place = omega (arith, p.place);
      lines = printing.next p.lines (answer_line k next.answer) later line_next (rw agreed.answer at o.line);
      sound = agreed.sound;
      tables = o.tables_after ∙ agreed.tables;
      to_hold = rw one_left at p.to_hold;
      long = same ∙ p.long;
      to_match =
          ap (matches_left (answers g next.array (commands_from file (p.left - 1) (from + 12)))) (o.match_word ∙ command_matches g t m (command_at file from) ∙ ap (λ (x : Answer). matches_after x m) agreed.answer)
          ∙ (rw one_left at p.to_match);
    }

  -- ---- where none is left

  pub finished : (header_of file).commands ≤ k → Runs file t lent m page₀ page
  unfolding commands_from machine.run machine.after numbered_lines matches_left
  finished none_left =
      let zero_left : p.left ≡ 0 = omega (arith, p.counted) in
      record {
        printed = all_printed p.lines (rw zero_left);
        tables = p.tables ∙ ap (tables_of g) (rw zero_left at p.to_hold);
        match_word = rw zero_left at p.to_match;
      }

-- A job on tables that are larger than its own: its parts of them are long enough, and what it
-- leaves in them is as said.
use Rattle.std.proofs.Common.{◌≡◌, ℕ, ◌≤◌, List, ◌++◌, length, take, drop, None, Ok, Err, Result, sym, ap, ◌∙◌, arith, length-take-le}
use Rattle.geometry.specs.Sizes.{match_words}
use Rattle.geometry.specs.Stages.{indicator_words}
use Rattle.geometry.proofs.Facts.{facts}
use Rattle.geometry.proofs.Places.{matches_least}
use Rattle.reference.specs.Tables.{Tables}
use Rattle.sizes.specs.declared.Sizes.{Sizes}
use Rattle.calls.specs.Answers.{tables}
use Rattle.figures.specs.Figures.{Bytes}
use Rattle.figures.specs.declared.Page.{Page}
use Rattle.figures.specs.Sheet.{HasRoom, Prints}
use Rattle.report.specs.Lines.{stop_line}
use Rattle.jobfile.specs.declared.Header.{Header}
use Rattle.jobfile.specs.declared.Stop.{Stop}
use Rattle.jobfile.specs.declared.Job.{Job}
use Rattle.jobfile.specs.Files.{header_of, geometry_of, file_stops, file_stop}
use Rattle.jobfile.specs.Read.{stop_number, OpensAs, Opens}
use Rattle.jobfile.proofs.Unstopped.{unstopped}
use Rattle.job.specs.Output.{answers_of, printed_bytes, output}
use Rattle.job.specs.Left.{matches_left, LentTables, IsReady, Runs, IsAmple, lent_tables, overlaid_table, tables_left, Works}
use Rattle.job.proofs.Bound.{output_short}

-- ---- a stop

module _ (file : Bytes) (o : Result Job Stop) (stop : Stop) (is : o ≡ Err stop) (opens : Opens (file_stops file) (header_of file) o) where
  stopped_prints : output file ≡ stop_line (stop_number stop)
  unfolding output printed_bytes
  stopped_prints = rw (rw is at opens)

  pub stop_room : {t : LentTables} {page : Page} → IsAmple t page → HasRoom page (stop_line (stop_number stop))
  stop_room ample = omega (arith, ample.room, output_short file, ap length stopped_prints)

  pub stop_works : (s i m : List ℕ) {page page' : Page} → Prints page page' (stop_line (stop_number stop)) → Works file (lent_tables s i m) (lent_tables s i m) page page'
  unfolding tables_left
  stop_works s i m line = record { printed = rw stopped_prints line; tables = rw (rw is at opens) }

-- ---- a job that runs

-- What is known of its header and its sizes.
pub record Runnable (file : Bytes) (h : Header) (z : Sizes) : Type 0 where
  pub unstopped : file_stop file ≡ None
  pub same_header : h ≡ header_of file
  pub same_words : z.indicator_words ≡ indicator_words (geometry_of file)
  pub same_matches : z.match_words ≡ match_words (geometry_of file)
  pub entries : h.geometry.depth ≤ 1024
  pub words : z.indicator_words ≤ 4096
  pub match_word : z.match_words ≤ 16

pub runnable : (file : Bytes) (o : Result Job Stop) (j : Job) → o ≡ Ok j → Opens (file_stops file) (header_of file) o → Runnable file j.header j.layout.sizes
runnable file o j is opens =
    let known : OpensAs (file_stops file) (header_of file) j = rw is at opens in
    let u = unstopped file known.unstopped in
    let least = matches_least _ (facts _ u.valid) in
    let z = rw known.geometry at j.layout.sized in
    record {
      unstopped = known.unstopped;
      same_header = known.header;
      same_words = z.same_indicators;
      same_matches = z.same_matches;
      entries = rw known.header u.shallow;
      words = rw z.same_indicators u.few_words;
      match_word = rw z.same_matches (omega (arith, least, u.shallow));
    }

-- Its parts are in the lent tables, and have its own lengths; so it is ready to run on them.
module _ {file : Bytes} {h : Header} {z : Sizes} (f : Runnable file h z) {t : LentTables} {page : Page} (ample : IsAmple t page) where
  pub entries_within : h.geometry.depth ≤ length t.store
  entries_within = omega (arith, f.entries, ample.entries)

  pub words_within : z.indicator_words ≤ length t.indicators
  words_within = omega (arith, f.words, ample.words)

  pub matches_within : z.match_words ≤ length t.matches
  matches_within = omega (arith, f.match_word, ample.match_word)

  pub entries_long : length (take h.geometry.depth t.store) ≡ h.geometry.depth
  entries_long = length-take-le _ _ entries_within

  pub words_long : length (take z.indicator_words t.indicators) ≡ z.indicator_words
  words_long = length-take-le _ _ words_within

  pub matches_long : length (take z.match_words t.matches) ≡ z.match_words
  matches_long = length-take-le _ _ matches_within

  pub ready : IsReady file h (lent_tables (take h.geometry.depth t.store) (take z.indicator_words t.indicators) (take z.match_words t.matches)) page
  unfolding output printed_bytes
  ready = record {
    unstopped = f.unstopped;
    same_header = f.same_header;
    entries = entries_long ∙ ap (λ (h : Header). h.geometry.depth) f.same_header;
    words = words_long ∙ f.same_words;
    match_word = matches_long ∙ f.same_matches;
    room = omega (arith, ample.room, rw f.unstopped at (output_short file));
  }

overlaid_is : (used t lent : List ℕ) (n : ℕ) → length used ≡ n → used ≡ t → used ++ drop n lent ≡ overlaid_table t lent
overlaid_is used t lent n long same = ap (λ (k : ℕ). used ++ drop k lent) (sym long) ∙ ap (λ (u : List ℕ). overlaid_table u lent) same

-- the parts, with what the lent tables hold past them
pub job_works : {file : Bytes} {h : Header} {z : Sizes} → Runnable file h z → (s i m s' i' m' : List ℕ) {page page' : Page}
    → length s' ≡ h.geometry.depth → length i' ≡ z.indicator_words → length m' ≡ z.match_words
    → Runs file (tables s' i') (take z.match_words m) m' page page'
    → Works file (lent_tables s i m) (lent_tables (s' ++ drop h.geometry.depth s) (i' ++ drop z.indicator_words i) (m' ++ drop z.match_words m)) page page'
unfolding output printed_bytes tables_left
job_works {file} {h} {z} f s i m s' i' m' entries words match_word runs =
    let store = overlaid_is s' _ s _ entries (ap (λ (t : Tables). t.store) runs.tables) in
    let indicators = overlaid_is i' _ i _ words (ap (λ (t : Tables). t.indicators) runs.tables) in
    let matches = overlaid_is m' _ m _ match_word (runs.match_word ∙ ap (λ (k : ℕ). matches_left (answers_of file) (take k m)) f.same_matches) in
    record { printed = rw f.unstopped runs.printed; tables = rw f.unstopped (λ j. lent_tables (store j) (indicators j) (matches j)) }

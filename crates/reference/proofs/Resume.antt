-- Resume accepts exactly the tables of an array, and shows that array (rules 8.12, 10.6 and 10.7 of
-- docs/MEMORY.md). Where each word of a store is empty or a pattern it is told by what it holds,
-- and lists are equal by their words.
use Rattle.std.proofs.Common.{◌≡◌, ℕ, Bool, true, false, cond, not, ◌↔◌, List, [], ◌∷◌, map, length, get_or, Some, None, Option, refl, sym, ap, ◌∙◌, true≢false, arith, ext_get_or, eq-eqb, eqb-true}
use Rattle.std.proofs.Math.Path.{fun_ext}
use Rattle.std.proofs.Math.Bool.{false≢true}
use mathlib.Mathlib.Data.Bool.Basic.{or-eq-false-eq-eq-false-and-eq-false}
use Rattle.std.proofs.Math.ListN.{length-map, get_or-map}
use borrow.Author.Tests.{not-false}
use Rattle.words.specs.Rules.{any, Nowhere}
use Rattle.words.proofs.Rules.{any-false, none_of_any}
use Rattle.machines.specs.Refusals.{◌given_when◌, first_refusal, FirstApplies}
use Rattle.machines.proofs.Refusals.{refusal_first, first_refusal_is}
use Rattle.machines.proofs.Runs.{run_parts, after_parts}
use Rattle.geometry.specs.declared.Geometry.{Geometry}
use Rattle.geometry.proofs.Facts.{Facts, facts}
use Rattle.geometry.specs.Valid.{is_valid}
use Rattle.geometry.specs.Stages.{indicator_words}
use Rattle.cover.specs.Image.{image}
use Rattle.cover.proofs.Image.{image_long}
use Rattle.reference.specs.Entry.{empty, empty_word, word_of, entry_of}
use Rattle.reference.specs.Array.{Array, entry_at}
use Rattle.reference.specs.Tables.{Tables, stored_word, stored_entry}
use Rattle.reference.specs.Image.{covers, array_cover, store_cover, tables_of}
use Rattle.reference.specs.Steps.{bad_lengths, bad_entry}
use Rattle.reference.specs.Resume.{shown_array, shown_image, bad_word, bad_tables, resume_refusals, resume_step}
use Rattle.reference.specs.History.{History, table_machine, after, array_of}
use Rattle.reference.specs.Statements.{IsBegun, IsResumable, CutInTwo}
use Rattle.reference.proofs.Limits.{lengths_pass, entry_passes, passed_entry}
use Rattle.reference.proofs.Entries.{empty_fits, word_fits, entry_word}
use Rattle.reference.proofs.Image.{store_entry, image_mirrors}
use Rattle.reference.proofs.Agreement.{no_bad_entry}
use Rattle.reference.proofs.History.{history_begins}

-- each number exactly where its row applies and no row above it does
pub resume_given_exactly : (g : Geometry) (t : Tables) (n : ℕ) → ((resume_step g t).refusal ≡ Some n) ↔ FirstApplies (resume_refusals g t) n
unfolding resume_step
resume_given_exactly g t n = (refusal_first (resume_refusals g t) n, first_refusal_is (resume_refusals g t) n)

-- no word is written, accepted or not
pub resume_keeps : (g : Geometry) (t : Tables) → (resume_step g t).tables ≡ t
unfolding resume_step
resume_keeps g t = refl

-- ---- accepted exactly as rule 8.12 says

-- row 10 is passed where no entry is bad and the indicators are the image
pub tables_pass : (g : Geometry) (t : Tables) → length t.indicators ≡ indicator_words g
    → (bad_tables g t ≡ false) ↔ (Nowhere g.depth (bad_entry g t) × (t.indicators ≡ shown_image g t))
unfolding bad_tables
tables_pass g t full = (there, back)
  where
    parts : (bad_tables g t ≡ false) ↔ ((any g.depth (bad_entry g t) ≡ false) × (any (indicator_words g) (bad_word g t) ≡ false))
    parts = or-eq-false-eq-eq-false-and-eq-false (any g.depth (bad_entry g t)) (any (indicator_words g) (bad_word g t))

    there : bad_tables g t ≡ false → Nowhere g.depth (bad_entry g t) × (t.indicators ≡ shown_image g t)
    there e = (
      none_of_any g.depth (bad_entry g t) (parts.0 e).0,
      ext_get_or 0 t.indicators (shown_image g t) (full ∙ sym (image_long g (array_cover g (shown_array g t))))
          (λ m l. eqb-true _ _ (not-false _ (none_of_any (indicator_words g) (bad_word g t) (parts.0 e).1 m (rw full at l)))),
    )

    back : Nowhere g.depth (bad_entry g t) × (t.indicators ≡ shown_image g t) → bad_tables g t ≡ false
    back (fine, same) =
        parts.1 (any-false g.depth (bad_entry g t) fine, any-false (indicator_words g) (bad_word g t) (λ m l. ap not (eq-eqb _ _ (ap (λ (ws : List ℕ). get_or ws m 0) same))))

-- which number is given, by the tests of the rows
abbrev number_given : (valid lengths tables : Bool) → Option ℕ
number_given v l b = cond v (cond l (Some 2) (cond b (Some 10) None)) (Some 1)

rows_stop : (g : Geometry) (t : Tables) → (resume_step g t).refusal ≡ number_given (is_valid g) (bad_lengths g t) (bad_tables g t)
unfolding resume_step resume_refusals first_refusal
rows_stop g t = go (is_valid g) (bad_lengths g t) (bad_tables g t)
  where
    go : (v l b : Bool) → first_refusal (1 given_when not v ∷ 2 given_when l ∷ 10 given_when b ∷ []) ≡ number_given v l b
    go true true b = refl
    go true false true = refl
    go true false false = refl
    go false l b = refl

rows_pass : (g : Geometry) (t : Tables) → ((resume_step g t).refusal ≡ None) ↔ ((is_valid g ≡ true) × (bad_lengths g t ≡ false) × (bad_tables g t ≡ false))
rows_pass g t = rw (rows_stop g t) (go (is_valid g) (bad_lengths g t) (bad_tables g t))
  where
    some_is_none : {A : Type 0} {n : ℕ} → Some n ≡ None → A
    some_is_none e = let clash : ◌≡◌ {A = ℕ} 0 1 = cc in absurd (omega arith)

    go : (v l b : Bool) → (number_given v l b ≡ None) ↔ ((v ≡ true) × (l ≡ false) × (b ≡ false))
    go true true b = (some_is_none, λ p. absurd (true≢false p.1))
    go true false true = (some_is_none, λ p. absurd (true≢false p.2))
    go true false false = (λ e. (refl, refl, refl), λ p. refl)
    go false l b = (some_is_none, λ p. absurd (false≢true p.0))

pub resume_exactly : (g : Geometry) (t : Tables) → ((resume_step g t).refusal ≡ None) ↔ IsResumable g t
resume_exactly g t = (λ e. there ((rows_pass g t).0 e), λ r. (rows_pass g t).1 (back r))
  where
    there : (is_valid g ≡ true) × (bad_lengths g t ≡ false) × (bad_tables g t ≡ false) → IsResumable g t
    there (ok, fit, fine) =
        let lengths = (lengths_pass g t).0 fit in
        let sound = (tables_pass g t lengths.1).0 fine in
        record {
          valid = ok;
          long = lengths.0;
          words = lengths.1;
          entries = λ a l. (entry_passes g t a).0 (sound.0 a l);
          image = sound.1;
        }

    back : IsResumable g t → (is_valid g ≡ true) × (bad_lengths g t ≡ false) × (bad_tables g t ≡ false)
    back r = (
      r.valid,
      (lengths_pass g t).1 (r.long, r.words),
      (tables_pass g t r.words).1 (λ a l. (entry_passes g t a).1 (r.entries a l), r.image),
    )

-- ---- and so exactly where the tables are those of an array

module _ (g : Geometry) (t : Tables) where
  -- what the store shows at an address
  shown_array_entry : Facts g → (a : ℕ) → entry_at (shown_array g t) a ≡ stored_entry g t a
  unfolding shown_array word_of
  shown_array_entry f a = rw (entry_word g f empty (empty_fits g)) at (get_or-map (entry_of g) t.store a empty_word)

  -- and so the image of it is that of the store
  pub shown_image_is : Facts g → shown_image g t ≡ image g (store_cover g t)
  shown_image_is f = ap (image g) (fun_ext (λ a. fun_ext (λ r. ap (λ e. covers g e r) (shown_array_entry f a))))

  shown_array_long : length (shown_array g t) ≡ length t.store
  unfolding shown_array
  shown_array_long = length-map t.store (entry_of g)

  -- so an accepted resume begins, with what the store shows for its array
  pub resume_begins : (resume_step g t).refusal ≡ None → IsBegun g t (shown_array g t)
  unfolding tables_of
  resume_begins e = record {
    valid = r.valid;
    sound = record { long = shown_array_long ∙ r.long; fits = λ a. rw (shown_array_entry f a) (word_fits g (stored_word t a)) };
    tables = λ i. record { store = same_store i; indicators = r.image i };
  }
    where
      r : IsResumable g t
      r = (resume_exactly g t).0 e

      f : Facts g
      f = facts g r.valid

      same_store : t.store ≡ map word_of (shown_array g t)
      same_store =
          ext_get_or empty_word t.store (map word_of (shown_array g t)) (sym (length-map (shown_array g t) word_of ∙ shown_array_long))
          (λ a l. sym (unfold word_of in get_or-map word_of (shown_array g t) a empty ∙ ap word_of (shown_array_entry f a) ∙ passed_entry g f t a ((entry_passes g t a).1 (r.entries a (rw r.long at l)))))

  -- every array whose tables these are is the one that the store shows
  pub begun_shows : (es : Array) → IsBegun g t es → shown_array g t ≡ es
  begun_shows es b =
      let f = facts g b.valid in
      ext_get_or empty (shown_array g t) es (shown_array_long ∙ rw b.tables (image_mirrors g f es b.sound).entries ∙ sym b.sound.long)
      (λ a l. shown_array_entry f a ∙ rw b.tables (store_entry g f es b.sound a))

  pub begun_resumes : (es : Array) → IsBegun g t es → (resume_step g t).refusal ≡ None
  unfolding tables_of
  begun_resumes es b =
      let mirrors = rw (← b.tables) at (image_mirrors g (facts g b.valid) es b.sound) in
      (resume_exactly g t).1 (record {
        valid = b.valid;
        long = mirrors.entries;
        words = mirrors.words;
        entries = λ a l. (entry_passes g t a).0 (rw b.tables (no_bad_entry g b.valid es b.sound a));
        image = ap (λ (u : Tables). u.indicators) b.tables ∙ sym (ap (λ es. image g (array_cover g es)) (begun_shows es b));
      })

  pub resume_of_arrays : ((resume_step g t).refusal ≡ None) ↔ ((es : Array) × IsBegun g t es)
  resume_of_arrays = (λ e. (shown_array g t, resume_begins e), λ p. begun_resumes p.0 p.1)

-- ---- after any history

module _ (g : Geometry) (t : Tables) (es : Array) (b : IsBegun g t es) where
  pub resume_after : (cs : History) → ((resume_step g (after g t cs)).refusal ≡ None) × (shown_array g (after g t cs) ≡ array_of g es cs)
  resume_after cs =
      let begun = history_begins g t es b cs in
      (begun_resumes g (after g t cs) (array_of g es cs) begun, begun_shows g (after g t cs) (array_of g es cs) begun)

  pub history_cut : (cs ds : History) → CutInTwo g t cs ds
  unfolding resume_step
  history_cut cs ds = record {
    accepted = (resume_after cs).0;
    outcomes = run_parts (table_machine g) t cs ds;
    tables = after_parts (table_machine g) t cs ds;
  }

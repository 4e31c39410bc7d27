-- What the functions of `update` find in a turn of their loops and at the end of them, the rows of
-- a pattern stage by stage; of the set of the address that another entry comes to; and what
-- `replace` makes of it.
use Rattle.std.proofs.Common.{◌≡◌, ℕ, ◌+◌, ◌*◌, ◌/◌, ◌%◌, ◌<◌, Bool, true, false, not, ◌&&◌, eqb, List, [], ◌∷◌, length, drop, set, Ok, Err, filter, Option}
use Rattle.words.specs.Rules.{any}
use Rattle.words.specs.Bits.{set_bit, clear_bit, change_bit}
use Rattle.geometry.specs.declared.Geometry.{Geometry}
use Rattle.geometry.specs.Sizes.{sets, set_of, address_of, set_length}
use Rattle.geometry.specs.Stages.{stages, row_of, rows_of, indicator_words}
use Rattle.geometry.proofs.Facts.{facts}
use Rattle.geometry.proofs.Places.{address-lt}
use Rattle.geometry.proofs.Stages.{drop-rows_of}
use Rattle.cover.specs.Change.{change, others_cover, is_released, moved_indicators}
use Rattle.reference.specs.Entry.{Entry, word_of}
use Rattle.reference.specs.Image.{entry_rows, store_cover}
use Rattle.reference.specs.Update.{replaced_tables}
use Rattle.sizes.specs.declared.Sizes.{Sizes}
use Rattle.sizes.specs.SizesOf.{IsSized}
use Rattle.checks.specs.declared.Refusal.{Refusal}
use Rattle.calls.specs.declared.Answer.TheVariants.{Held}
use Rattle.calls.specs.Answers.{entry_for, checked_entry, tables, outcome_for}
use Rattle.calls.proofs.Indexed.{place_within, set_within}
use Rattle.calls.proofs.Tested.{bad_there, held_there}
use Rattle.update.specs.declared.Target.{Target}
use Rattle.update.specs.Targets.{cover_in}
use Rattle.update.specs.Replacing.{replace_outcome}

-- ---- the rows of a pattern

-- the rows from stage k on, of which the code has the first as r
pub rows_first : (g : Geometry) (p k : ℕ) {r : ℕ} → r ≡ row_of g p k → k < stages g → drop k (rows_of g p) ≡ r ∷ drop (k + 1) (rows_of g p)
rows_first g p k e h = rw e (drop-rows_of g p k h)

-- ---- the indicators while rows are changed

-- The rows rs, which are left to be changed in set s, make `all` of the indicators.
pub record Left (f : ℕ → ℕ → ℕ) (g : Geometry) (s : ℕ) (rs all ind : List ℕ) : Type 0 where
  pub makes : change f g s rs ind ≡ all

module _ {f : ℕ → ℕ → ℕ} {g : Geometry} {s : ℕ} {rs all ind : List ℕ} (h : Left f g s rs all ind) where
  -- the bit of the first of them is changed
  pub change_first : {sizes : Sizes} {next rest : List ℕ} {r : ℕ} → IsSized g sizes → rs ≡ r ∷ rest
      → next ≡ change_bit f ind (sizes.row_words * r + s / 64) (s % 64) → Left f g s rest all next
  unfolding change
  change_first z cut e = record { makes = rw (e, z.same_words) (rw cut at h.makes) }

  -- nothing is changed
  pub change_none : {next rest : List ℕ} → rs ≡ rest → next ≡ ind → Left f g s rest all next
  change_none same e = rw (e, ← same) h

  pub change_end : rs ≡ [] → ind ≡ all
  unfolding change
  change_end e = rw e at h.makes

-- by the first row, r, where b is whether t keeps it
module _ (t : ℕ → Bool) {rs rest : List ℕ} {r : ℕ} {b : Bool} (cut : rs ≡ r ∷ rest) (found : b ≡ t r) where
  pub filter_first : b ≡ true → filter t rs ≡ r ∷ filter t rest
  filter_first n = rw (cut, ← found, n)

  pub filter_others : b ≡ false → filter t rs ≡ filter t rest
  filter_others n = rw (cut, ← found, n)

pub filter_end : (t : ℕ → Bool) {rs : List ℕ} → rs ≡ [] → filter t rs ≡ []
filter_end t e = rw e

-- ---- the set of the address, which the code has as s

module _ (t : Target) {s : ℕ} (is : s ≡ set_of t.layout.geometry t.address.0) where
  pub set_there : s < sets t.layout.geometry
  set_there = set_within _ t.layout.sized.valid t.inside is

  -- the bit of a pattern's row in stage k, where the n words are those of the i lent ones
  pub bit_there : (p : ℕ) {k r i n : ℕ} → i ≡ indicator_words t.layout.geometry → n ≡ i → k < t.layout.sizes.stages → r ≡ row_of t.layout.geometry p k
      → t.layout.sizes.row_words * r + s / 64 < n
  bit_there p words same hk er = place_within p (record { sized = t.layout.sized; entries = t.entries; words = words }) same hk er set_there

  pub address_there : (o : ℕ) → o < set_length t.layout.geometry s → (b : ℕ) → b ≡ address_of t.layout.geometry s o → b < length t.store.now
  address_there o ho b eb =
      let g = t.layout.geometry in
      let f = facts g t.layout.sized.valid in
      rw (t.entries, eb) (address-lt g f s o ho)

  -- whether the address at offset o is another one that covers the row
  abbrev pub other_covers : (row o : ℕ) → Bool
  other_covers row o = not (eqb (address_of t.layout.geometry s o) t.address.0) && cover_in t (address_of t.layout.geometry s o) row

  pub all_others : (row : ℕ) → any (set_length t.layout.geometry s) (other_covers row) ≡ others_cover t.layout.geometry (cover_in t) t.address.0 row
  unfolding others_cover
  all_others row = rw is

-- ---- an entry comes to an address

module _ (g : Geometry) (store ind : List ℕ) (a : ℕ) (e : Entry) where
  pub replace_refused : {why : Refusal} → Err why ≡ checked_entry g (tables store ind) a
      → outcome_for (Err why) store ind [] ≡ replace_outcome g (tables store ind) a e
  unfolding replace_outcome
  replace_refused given = let there = bad_there _ _ given in rw (there.0, there.1)

  -- x is the former entry and v the code's word of e; i₁ and i₂ are the indicators with bits set
  -- and then cleared, `after` the store
  pub replace_done : (x : Option ℕ) {v : ℕ} {i₁ i₂ after : List ℕ} → Ok (entry_for x) ≡ checked_entry g (tables store ind) a
      → i₁ ≡ change set_bit g (set_of g a) (entry_rows g e) ind
      → i₂ ≡ change clear_bit g (set_of g a) (filter (is_released g (store_cover g (tables store [])) a (entry_rows g e)) (entry_rows g (entry_for x))) i₁
      → v ≡ word_of e → after ≡ set store a v → outcome_for (Ok (Held x)) after i₂ [] ≡ replace_outcome g (tables store ind) a e
  unfolding replace_outcome replaced_tables moved_indicators
  replace_done x given e₁ e₂ ev e₃ = let there = held_there _ _ given in rw (there.0, e₃, e₂, e₁, there.1, ev)

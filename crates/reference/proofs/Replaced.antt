-- Statement 4: every bit of every word, and every entry, after another entry came to an address of
-- any tables. The bits by `cell-moved_indicators`, the law of any cover.
use Rattle.std.proofs.Common.{◌≡◌, ℕ, ◌<◌, true, false, eqb, List, length, refl, sym, ◌∙◌, length-set, get_or-set_other, get_or-set_same, eqb-true}
use Rattle.std.proofs.Math.Bool.{false≢true}
use Rattle.words.specs.Rules.{member}
use Rattle.words.proofs.Rules.{any_witness, member-tabulate}
use Rattle.machines.specs.Refusals.{NoneApplies}
use Rattle.machines.proofs.Refusals.{passed_none}
use Rattle.geometry.specs.declared.Geometry.{Geometry}
use Rattle.geometry.specs.Stages.{stages, stage, row_of, rows_of, rows, indicator_words}
use Rattle.geometry.proofs.Facts.{Facts, facts}
use Rattle.geometry.proofs.Stages.{stage-lt, row_lt}
use Rattle.cover.proofs.Moved.{length-moved_indicators, cell-moved_indicators}
use Rattle.reference.specs.Entry.{Entry, empty, pattern, word_of}
use Rattle.reference.specs.Calls.{Call, write, erase, read, held}
use Rattle.reference.specs.Refusals.{bad_address}
use Rattle.reference.specs.Tables.{Tables, stored_word, stored_entry}
use Rattle.reference.specs.Image.{entry_rows, covers, store_cover}
use Rattle.reference.specs.Statements.{EveryBit}
use Rattle.reference.specs.Update.{replaced_tables}
use Rattle.reference.specs.Steps.{bad_entry, own_refusals, refusals, accepted_outcome, outcome, step}
use Rattle.reference.proofs.Limits.{address_passes, passed_entry}
use Rattle.reference.proofs.Refused.{not_refused, passed_valid, passed_lengths}

-- what an entry covers is a row of the indicators
pub covers-lt : (g : Geometry) → Facts g → (e : Entry) (r : ℕ) → covers g e r ≡ true → r < rows g
unfolding covers entry_rows member rows_of row_of
covers-lt g f empty r h = absurd (false≢true h)
covers-lt g f (pattern p) r h =
    let its_stage = any_witness (stages g) (λ k. eqb r (row_of g p k)) (sym (member-tabulate r (stages g) (row_of g p)) ∙ h) in
    rw (eqb-true r (row_of g p its_stage.0) its_stage.2) (row_lt g f its_stage.0 (stage g its_stage.0 p) its_stage.1 (stage-lt g f its_stage.0 p))

pub replaced_tables_bits : (g : Geometry) → Facts g → (t : Tables) (a : ℕ) (e : Entry) → a < g.depth → length t.store ≡ g.depth
    → length t.indicators ≡ indicator_words g
    → EveryBit g t (replaced_tables g t a e) a e
unfolding replaced_tables covers
replaced_tables_bits g f t a e inside stored indicated =
    let former = entry_rows g (stored_entry g t a) in
    let next = entry_rows g e in
    record {
      bits = cell-moved_indicators g f (store_cover g t) a inside former next (covers-lt g f (stored_entry g t a)) (covers-lt g f e) t.indicators indicated;
      words = length-moved_indicators g (store_cover g t) a former next t.indicators;
      entry = get_or-set_same t.store a (word_of e) _ (rw stored inside);
      others = λ b ne. get_or-set_other t.store a b (word_of e) _ ne;
      entries = length-set t.store a (word_of e);
    }

-- ---- accepted calls

-- A call that gives an entry passed the table.
pub held_passed : (g : Geometry) (t : Tables) (c : Call (List ℕ)) (e : Entry) → (step g t c).answer ≡ held e → NoneApplies (refusals g t c)
held_passed g t c e h = not_refused g t c (held e) refl h

-- A call that passed the table and gives the entry at address a: the store's word there tells it.
gives : (g : Geometry) (t : Tables) (c : Call (List ℕ)) (a : ℕ) (e : Entry) → NoneApplies (refusals g t c) → bad_entry g t a ≡ false
    → (accepted_outcome g t c).answer ≡ held (stored_entry g t a) → (step g t c).answer ≡ held e → (e ≡ stored_entry g t a) × (word_of e ≡ stored_word t a)
unfolding step outcome
gives g t c a e passed good answer h =
    let same : e ≡ stored_entry g t a = cc (answer, rw (passed_none (refusals g t c) passed) at h) in
    (same, rw same (passed_entry g (facts g (passed_valid g t c passed)) t a good))

-- Each accepted write, erase and read (rule 7.4 of docs/MEMORY.md).
pub write_gives : (g : Geometry) (t : Tables) (a p : ℕ) (e : Entry) → (step g t (write a p)).answer ≡ held e → (e ≡ stored_entry g t a) × (word_of e ≡ stored_word t a)
unfolding refusals own_refusals accepted_outcome
write_gives g t a p e h = let passed = held_passed g t (write a p) e h in gives g t (write a p) a e passed passed.1.1.1.1.0 refl h

pub erase_gives : (g : Geometry) (t : Tables) (a : ℕ) (e : Entry) → (step g t (erase a)).answer ≡ held e → (e ≡ stored_entry g t a) × (word_of e ≡ stored_word t a)
unfolding refusals own_refusals accepted_outcome
erase_gives g t a e h = let passed = held_passed g t (erase a) e h in gives g t (erase a) a e passed passed.1.1.1.0 refl h

pub read_gives : (g : Geometry) (t : Tables) (a : ℕ) (e : Entry) → (step g t (read a)).answer ≡ held e → (e ≡ stored_entry g t a) × (word_of e ≡ stored_word t a)
unfolding refusals own_refusals accepted_outcome
read_gives g t a e h = let passed = held_passed g t (read a) e h in gives g t (read a) a e passed passed.1.1.1.0 refl h

-- A call that passed the table and puts e at address a.
module _ (g : Geometry) (t : Tables) (c : Call (List ℕ)) (a : ℕ) (e : Entry) (passed : NoneApplies (refusals g t c))
    (inside : bad_address g a ≡ false) (puts : (accepted_outcome g t c).tables ≡ replaced_tables g t a e) where
  puts_bits : EveryBit g t (step g t c).tables a e
  unfolding step outcome
  puts_bits =
      let lengths = passed_lengths g t c passed in
      rw (passed_none (refusals g t c) passed, puts) (replaced_tables_bits g (facts g (passed_valid g t c passed)) t a e ((address_passes g a).0 inside) lengths.0 lengths.1)

-- Every accepted write and every accepted erase.
pub write_bits : (g : Geometry) (t : Tables) (a p : ℕ) (e : Entry) → (step g t (write a p)).answer ≡ held e
    → EveryBit g t (step g t (write a p)).tables a (pattern p)
unfolding refusals own_refusals accepted_outcome
write_bits g t a p e h = let passed = held_passed g t (write a p) e h in puts_bits g t (write a p) a (pattern p) passed passed.1.1.0 refl

pub erase_bits : (g : Geometry) (t : Tables) (a : ℕ) (e : Entry) → (step g t (erase a)).answer ≡ held e → EveryBit g t (step g t (erase a)).tables a empty
unfolding refusals own_refusals accepted_outcome
erase_bits g t a e h =
    let passed = held_passed g t (erase a) e h in
    puts_bits g t (erase a) a empty passed passed.1.1.0 refl

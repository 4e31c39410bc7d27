-- The rules of docs/MEMORY.md written out kind by kind (4.3, 6.2, 8.3, 8.4), as instances of the
-- one rule by rows: in kinds 0 and 2 a row is a pattern, in kind 1 it is a value of a stage.
use Rattle.std.proofs.Common.{◌≡◌, ℕ, ◌+◌, ◌*◌, ◌^◌, ◌<◌, true, false, not, ◌&&◌, eqb, List, [], ◌∷◌, get_or, refl, sym, ap, ◌∙◌, arith, eq-eqb, eqb-true}
use Rattle.std.proofs.Math.Bool.{and-true, or-false}
use Rattle.words.specs.Rules.{any, member}
use Rattle.words.specs.Bits.{bit}
use Rattle.words.proofs.Rules.{both_ways, any_ext, any-false}
use Rattle.geometry.specs.declared.Geometry.{Geometry}
use Rattle.geometry.specs.Valid.{is_valid, cascaded, segmented}
use Rattle.geometry.specs.Sizes.{patterns, sets, row_words, set_of, address_of, set_length}
use Rattle.geometry.specs.Stages.{stages, stage_width, stage, row_of, rows_of, rows}
use Rattle.geometry.proofs.Facts.{facts}
use Rattle.geometry.proofs.Places.{alone_address, alone_set}
use Rattle.geometry.proofs.Stages.{row_lt, row_among, one_stage_kind, one_row, one_stage}
use Rattle.cover.specs.Image.{cell, is_covered, image}
use Rattle.cover.specs.Change.{others_cover}
use Rattle.cover.proofs.Image.{image_bit}
use Rattle.reference.specs.Entry.{Entry, empty, pattern, Fits, holds}
use Rattle.reference.specs.Calls.{write, erase, held}
use Rattle.reference.specs.Array.{Array, entry_at, IsSound}
use Rattle.reference.specs.Tables.{Tables, stored_word, stored_entry}
use Rattle.reference.specs.Image.{covers, entry_rows, array_cover, store_cover, bit_of_set}
use Rattle.reference.specs.Steps.{own_refusals, refusals, step}
use Rattle.reference.specs.Statements.{EveryBit, others_hold, holds_stage, row_of_value, PatternBits, StageBits}
use Rattle.reference.proofs.Limits.{pattern_passes}
use Rattle.reference.proofs.Replaced.{covers-lt, held_passed, write_bits, erase_bits}
use Rattle.reference.proofs.Entries.{empty_fits, pattern_fits, word_fits}

-- at which word the row of a stage's value begins (rule 4.3)
pub stage_starts : (g : Geometry) (ind : List ℕ) (p k j b : ℕ)
    → cell g ind (row_of g p k) j b ≡ bit (get_or ind (row_words g * 512 * k + row_words g * stage g k p + j) 0) b
unfolding row_of
stage_starts g ind p k j b = ap (λ m. bit (get_or ind m 0) b) (omega arith)

-- ---- kinds 0 and 2

module _ (g : Geometry) (ok : is_valid g ≡ true) (kind : eqb g.kind cascaded ≡ false) where
  -- a pattern has one row, with its own number (rule 4.3)
  pub row_of_pattern : (p : ℕ) → p < patterns g → rows_of g p ≡ (p ∷ [])
  row_of_pattern p h = one_stage g (facts g ok) p (one_stage_kind g (facts g ok) kind) h

  -- at which word it begins (rule 4.3)
  pub pattern_starts : (ind : List ℕ) (p j b : ℕ) → p < patterns g → cell g ind (row_of g p 0) j b ≡ bit (get_or ind (row_words g * p + j) 0) b
  pattern_starts ind p j b h = ap (λ r. cell g ind r j b) (one_row g (facts g ok) p (one_stage_kind g (facts g ok) kind) h)

  covers_pattern : (e : Entry) → Fits g e → (r : ℕ) → covers g e r ≡ holds e r
  unfolding covers entry_rows holds member
  covers_pattern empty fits r = refl
  covers_pattern (pattern p) fits r =
      rw (row_of_pattern p (fits p refl), or-false (eqb r p))
      (both_ways (eqb r p) (eqb p r) (λ e. eq-eqb p r (sym (eqb-true r p e))) (λ e. eq-eqb r p (sym (eqb-true p r e))))

  -- the image (rule 6.2)
  pub image_pattern : (es : Array) → IsSound g es → (p s : ℕ) → p < patterns g → s < sets g
      → bit_of_set g (image g (array_cover g es)) p s ≡ any (set_length g s) (λ o. holds (entry_at es (address_of g s o)) p)
  unfolding is_covered holds
  image_pattern es sound p s hp hs =
      image_bit g (facts g ok) (array_cover g es) p s inside hs
      ∙ any_ext (set_length g s) _ _ (λ o l. covers_pattern (entry_at es (address_of g s o)) (sound.fits (address_of g s o)) p)
    where
      inside : p < rows g
      inside = covers-lt g (facts g ok) (pattern p) p (covers_pattern (pattern p) (pattern_fits g p hp) p ∙ eq-eqb p p refl)

  -- an accepted write (rule 8.3) and an accepted erase (rule 8.4)
  pattern_bits : (t u : Tables) (a : ℕ) (e : Entry) → Fits g e → EveryBit g t u a e → PatternBits g t u a e
  unfolding others_cover others_hold
  pattern_bits t u a e fits every r j b hj =
      every.bits r j b hj
      ∙ rw (covers_pattern e fits r, covers_pattern (stored_entry g t a) (word_fits g (stored_word t a)) r, others)
    where
      others : others_cover g (store_cover g t) a r ≡ others_hold g t a r
      others =
          any_ext (set_length g (set_of g a)) _ _
          (λ o l. ap (λ x. not (eqb (address_of g (set_of g a) o) a) && x) (covers_pattern (stored_entry g t (address_of g (set_of g a) o)) (word_fits g (stored_word t (address_of g (set_of g a) o))) r))

  pub write_patterns : (t : Tables) (a p : ℕ) (e : Entry) → (step g t (write a p)).answer ≡ held e → PatternBits g t (step g t (write a p)).tables a (pattern p)
  unfolding refusals own_refusals
  write_patterns t a p e h = pattern_bits t _ a (pattern p) (pattern_fits g p small) (write_bits g t a p e h)
    where
      small : p < patterns g
      small = (pattern_passes g p).0 (held_passed g t (write a p) e h).1.1.1.0

  pub erase_patterns : (t : Tables) (a : ℕ) (e : Entry) → (step g t (erase a)).answer ≡ held e → PatternBits g t (step g t (erase a)).tables a empty
  erase_patterns t a e h = pattern_bits t _ a empty (empty_fits g) (erase_bits g t a e h)

-- ---- kind 1

module _ (g : Geometry) (ok : is_valid g ≡ true) (kind : eqb g.kind cascaded ≡ true) where
  covers_stage : (e : Entry) (k x : ℕ) → k < stages g → x < 2 ^ stage_width g k → covers g e (512 * k + x) ≡ holds_stage g k x e
  unfolding covers entry_rows holds_stage member
  covers_stage empty k x hk hx = refl
  covers_stage (pattern p) k x hk hx = row_among g (facts g ok) k x p hk hx

  -- the image (rule 6.2)
  pub image_stage : (es : Array) → IsSound g es → (k x s : ℕ) → k < stages g → x < 2 ^ stage_width g k → s < sets g
      → bit_of_set g (image g (array_cover g es)) (row_of_value k x) s ≡ any (set_length g s) (λ o. holds_stage g k x (entry_at es (address_of g s o)))
  unfolding is_covered
  image_stage es sound k x s hk hx hs =
      image_bit g (facts g ok) (array_cover g es) (512 * k + x) s (row_lt g (facts g ok) k x hk hx) hs
      ∙ any_ext (set_length g s) _ _ (λ o l. covers_stage (entry_at es (address_of g s o)) k x hk hx)

  -- an accepted write (rule 8.3) and an accepted erase (rule 8.4)
  stage_bits : (t u : Tables) (a : ℕ) (e : Entry) → EveryBit g t u a e → StageBits g t u a e
  unfolding others_cover
  stage_bits t u a e every k x j b hk hx hj =
      every.bits (512 * k + x) j b hj
      ∙ rw (covers_stage e k x hk hx, covers_stage (stored_entry g t a) k x hk hx, alone, and-true (holds_stage g k x (stored_entry g t a)))
    where
      alone : others_cover g (store_cover g t) a (512 * k + x) ≡ false
      alone = any-false (set_length g (set_of g a)) _ (λ o l. itself o l)
        where
          itself : (o : ℕ) → o < set_length g (set_of g a)
              → (not (eqb (address_of g (set_of g a) o) a) && covers g (stored_entry g t (address_of g (set_of g a) o)) (512 * k + x)) ≡ false
          itself o l =
              let f = facts g ok in
              let plain : eqb g.kind segmented ≡ false = rw (eqb-true g.kind cascaded kind) in
              rw (eq-eqb (address_of g (set_of g a) o) a (alone_address g f (set_of g a) o plain l ∙ alone_set g f a plain))

  pub write_stages : (t : Tables) (a p : ℕ) (e : Entry) → (step g t (write a p)).answer ≡ held e → StageBits g t (step g t (write a p)).tables a (pattern p)
  write_stages t a p e h = stage_bits t _ a (pattern p) (write_bits g t a p e h)

  pub erase_stages : (t : Tables) (a : ℕ) (e : Entry) → (step g t (erase a)).answer ≡ held e → StageBits g t (step g t (erase a)).tables a empty
  erase_stages t a e h = stage_bits t _ a empty (erase_bits g t a e h)

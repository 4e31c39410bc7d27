-- The two looks find exactly what refusal 10 is given for: every entry has its bits and every bit
-- its entry where no word differs from that of the image, and nowhere else. Bit by bit, with the
-- rows by their stages.
use Rattle.std.proofs.Common.{◌≡◌, ℕ, ◌+◌, ◌*◌, ◌/◌, ◌%◌, ◌^◌, ◌<◌, true, false, not, ◌||◌, eqb, ltb, ◌↔◌, List, length, get_or, refl, sym, ap, ◌∙◌, arith, ext_get_or, ltb-true, eq-eqb, eqb-true}
use Rattle.std.proofs.Math.Bool.{and-eq-true_iff, false≢true}
use mathlib.Mathlib.Data.Bool.Basic.{or-eq-false-eq-eq-false-and-eq-false}
use borrow.Author.Tests.{not-false}
use Rattle.words.specs.Rules.{any, member, Nowhere}
use Rattle.words.specs.Bits.{bit}
use Rattle.words.proofs.Rules.{both_ways, both_false, any_witness, any-true, any-false, none_of_any, get_or-tabulate, member-tabulate}
use Rattle.words.proofs.Bits.{bits_equal, bit-word_all}
use Rattle.geometry.specs.declared.Geometry.{Geometry}
use Rattle.geometry.specs.Sizes.{row_words, set_of, offset_of, address_of, set_length}
use Rattle.geometry.specs.Stages.{stages, stage_width, stage, row_of, rows_of, rows, indicator_words}
use Rattle.geometry.proofs.Facts.{Facts}
use Rattle.geometry.proofs.Places as places
use Rattle.geometry.proofs.Stages.{stage-lt, row_lt, row_split, row_among}
use Rattle.cover.specs.Image.{cell, is_covered, image_word, image}
use Rattle.cover.proofs.Image.{image_long, image_bit}
use Rattle.reference.specs.Entry.{Entry, empty, pattern}
use Rattle.reference.specs.Tables.{Tables, stored_entry}
use Rattle.reference.specs.Image.{entry_rows, covers, store_cover}
use Rattle.reference.specs.Steps.{bad_entry}
use Rattle.reference.specs.Resume.{bad_tables}
use Rattle.reference.proofs.Resume.{tables_pass, shown_image_is}
use Rattle.amiss.specs.Amiss.{is_missing, lacks, is_amiss}
use Rattle.stale.specs.Stale.{word_is_stale, row_is_stale, stage_is_stale, any_is_stale}
use Rattle.stale.proofs.Exceeding.{exceeds_not}

module _ (g : Geometry) (f : Facts g) (t : Tables) (full : length t.indicators ≡ indicator_words g) where
  -- a word of the image, by its row
  image_word_is : (r j : ℕ) → r < rows g → j < row_words g → get_or (image g (store_cover g t)) (row_words g * r + j) 0 ≡ image_word g (store_cover g t) r j
  unfolding image
  image_word_is r j hr hj = get_or-tabulate (indicator_words g) _ (row_words g * r + j) 0 (places.place_lt g f r j hr hj) ∙ rw (places.row_of_place g f r j hj, places.word_of_place g f r j hj)

  -- a pattern covers its own rows
  covers_own : (p k : ℕ) → k < stages g → covers g (pattern p) (row_of g p k) ≡ true
  unfolding covers entry_rows row_of
  covers_own p k h = row_among g f k (stage g k p) p h (stage-lt g f k p) ∙ eq-eqb (stage g k p) (stage g k p) refl

  -- ---- indicators that are the image pass both looks

  module _ (same : t.indicators ≡ image g (store_cover g t)) where
    own_bit : (a : ℕ) → a < g.depth → (p : ℕ) → stored_entry g t a ≡ pattern p → (k : ℕ) → k < stages g
        → cell g t.indicators (row_of g p k) (set_of g a / 64) (set_of g a % 64) ≡ true
    unfolding is_covered row_of
    own_bit a inside p is k h =
        rw same
        (image_bit g f (store_cover g t) (row_of g p k) (set_of g a) (row_lt g f k (stage g k p) h (stage-lt g f k p)) (places.set_of-lt g f a inside)
        ∙ any-true (set_length g (set_of g a)) _ (offset_of g a) (places.offset_lt g f a inside) (rw (places.address_of-set_of g f a, is) (covers_own p k h)))

    none_missing : (a : ℕ) → a < g.depth → (e : Entry) → stored_entry g t a ≡ e → lacks g t.indicators (set_of g a) e ≡ false
    unfolding lacks
    none_missing a inside empty is = refl
    none_missing a inside (pattern p) is = any-false (stages g) _ (λ k h. ap not (own_bit a inside p is k h))

    none_amiss : Nowhere g.depth (bad_entry g t) → Nowhere g.depth (is_amiss g t)
    unfolding is_amiss
    none_amiss fine a inside = rw (fine a inside) (none_missing a inside (stored_entry g t a) refl)

    none_stale : (r : ℕ) → r < rows g → row_is_stale g t r ≡ false
    unfolding row_is_stale
    none_stale r hr =
        any-false (row_words g) _
        (λ j hj. (exceeds_not _ _).1 (λ b h. ap (λ w. bit w b) (sym (image_word_is r j hr hj)) ∙ ap (λ (ws : List ℕ). bit (get_or ws (row_words g * r + j) 0) b) (sym same) ∙ h))

  -- ---- tables that pass both looks: the indicators are the image

  -- an entry that lacks no bit has those of the rows that it covers
  none_lacking : (s r : ℕ) (e : Entry) → lacks g t.indicators s e ≡ false → covers g e r ≡ true → cell g t.indicators r (s / 64) (s % 64) ≡ true
  unfolding lacks covers entry_rows rows_of member
  none_lacking s r empty fine h = absurd (false≢true h)
  none_lacking s r (pattern p) fine h = go (any_witness (stages g) _ (sym (member-tabulate r (stages g) (row_of g p)) ∙ h))
    where
      go : (k : ℕ) × (k < stages g) × (eqb r (row_of g p k) ≡ true) → cell g t.indicators r (s / 64) (s % 64) ≡ true
      go (k, l, e) = rw (eqb-true r (row_of g p k) e) (not-false _ (none_of_any (stages g) (is_missing g t.indicators s p) fine k l))

  amiss_fine : (a : ℕ) → is_amiss g t a ≡ false → bad_entry g t a ≡ false
  unfolding is_amiss
  amiss_fine a h = ((or-eq-false-eq-eq-false-and-eq-false (bad_entry g t a) _).0 h).0

  module _ (amiss : Nowhere g.depth (is_amiss g t)) (stale : (r : ℕ) → r < rows g → row_is_stale g t r ≡ false) where
    -- what an entry of a set covers, the indicators have
    is_covered_bit : (r s : ℕ) → is_covered g (store_cover g t) r s ≡ true → cell g t.indicators r (s / 64) (s % 64) ≡ true
    unfolding is_covered is_amiss
    is_covered_bit r s h =
        let (o, l, c) = any_witness (set_length g s) _ h in
        let parts = (or-eq-false-eq-eq-false-and-eq-false (bad_entry g t (address_of g s o)) _).0 (amiss (address_of g s o) (places.address-lt g f s o l)) in
        none_lacking s r (stored_entry g t (address_of g s o)) (rw (places.set_of-address_of g f s o l) at parts.1) c

    -- a word has no bit that the image has not, and each that it has
    word_same : (r j : ℕ) → r < rows g → j < row_words g → get_or t.indicators (row_words g * r + j) 0 ≡ image_word g (store_cover g t) r j
    unfolding row_is_stale
    word_same r j hr hj =
        bits_equal _ _ (λ b. both_ways _ _ ((exceeds_not _ _).0 (none_of_any (row_words g) (word_is_stale g t r) (stale r hr) j hj) b) (back b))
      where
        back : (b : ℕ) → bit (image_word g (store_cover g t) r j) b ≡ true → bit (get_or t.indicators (row_words g * r + j) 0) b ≡ true
        back b h =
            let parts = (and-eq-true_iff (ltb b 64) (is_covered g (store_cover g t) r (64 * j + b))).0 (sym (bit-word_all 64 _ b) ∙ h) in
            let small = ltb-true b 64 parts.0 in
            let word : (64 * j + b) / 64 ≡ j = omega arith in
            let place : (64 * j + b) % 64 ≡ b = omega arith in
            rw (word, place) at (is_covered_bit r (64 * j + b) parts.1)

    words_same : t.indicators ≡ image g (store_cover g t)
    words_same =
        ext_get_or 0 t.indicators (image g (store_cover g t)) (full ∙ sym (image_long g (store_cover g t)))
        (λ m l. let r = m / row_words g in
        let j = m % row_words g in
        let hr = places.row_lt g f m (rw full at l) in
        let hj = places.word_lt_row g f m in
        rw (← places.place_of g f m) (word_same r j hr hj ∙ sym (image_word_is r j hr hj)))

  pub looks_tell : bad_tables g t ≡ (any g.depth (is_amiss g t) || any_is_stale g t)
  unfolding any_is_stale stage_is_stale
  looks_tell = both_false _ _ there back
    where
      parts : ((any g.depth (is_amiss g t) || any_is_stale g t) ≡ false) ↔ ((any g.depth (is_amiss g t) ≡ false) × (any_is_stale g t ≡ false))
      parts = or-eq-false-eq-eq-false-and-eq-false (any g.depth (is_amiss g t)) (any_is_stale g t)

      there : bad_tables g t ≡ false → (any g.depth (is_amiss g t) || any_is_stale g t) ≡ false
      there e =
          let sound = (tables_pass g t full).0 e in
          let same = sound.1 ∙ shown_image_is g t f in
          parts.1 (
            any-false g.depth (is_amiss g t) (none_amiss same sound.0),
            any-false (stages g) (stage_is_stale g t) (λ k h. any-false (2 ^ stage_width g k) _ (λ x small. none_stale same (512 * k + x) (row_lt g f k x h small))),
          )

      back : (any g.depth (is_amiss g t) || any_is_stale g t) ≡ false → bad_tables g t ≡ false
      back e =
          let amiss = none_of_any g.depth (is_amiss g t) (parts.0 e).0 in
          (tables_pass g t full).1 (λ a l. amiss_fine a (amiss a l), words_same amiss (λ r hr. of_stage r (row_split g f r hr)) ∙ sym (shown_image_is g t f))
        where
          of_stage : (r : ℕ) → (k : ℕ) × (x : ℕ) × (k < stages g) × (x < 2 ^ stage_width g k) × (r ≡ 512 * k + x) → row_is_stale g t r ≡ false
          of_stage r (k, x, h, small, is) =
              rw is (none_of_any (2 ^ stage_width g k) (λ x. row_is_stale g t (512 * k + x)) (none_of_any (stages g) (stage_is_stale g t) (parts.0 e).1 k h) x small)

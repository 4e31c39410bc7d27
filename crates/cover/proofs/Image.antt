-- Every bit of an image; and when the entry of an address comes to cover other rows, the image
-- becomes that of the new cover.
use Rattle.std.proofs.Common.{◌≡◌, ℕ, ◌+◌, ◌*◌, ◌/◌, ◌%◌, ◌<◌, ◌≤◌, Bool, true, false, cond, not, ◌&&◌, ◌||◌, eqb, ltb, List, length, get_or, replicate, refl, sym, ap, ◌∙◌, arith, ltb-true, lt-ltb, eq-eqb, eqb-true}
use Rattle.std.proofs.Math.Bool.{and-eq-true_iff, and-false, false≢true}
use Rattle.std.proofs.Math.ListN.{length-replicate, get_or-replicate}
use borrow.Author.Tests.{eqb-false}
use Rattle.words.specs.Rules.{any, member}
use Rattle.words.specs.Bits.{bit}
use Rattle.words.proofs.Rules.{both_ways, any-false, any_ext, any_split, length-tabulate, get_or-tabulate, list_tabulate}
use Rattle.words.proofs.Bits.{bits_equal, bit-zero, bit-word_all}
use Rattle.geometry.specs.declared.Geometry.{Geometry}
use Rattle.geometry.specs.Sizes.{sets, row_words, set_of, offset_of, address_of, set_length}
use Rattle.geometry.specs.Stages.{rows, indicator_words}
use Rattle.geometry.proofs.Facts.{Facts}
use Rattle.geometry.proofs.Places as places
use Rattle.cover.specs.Image.{Cover, cell, belongs, is_covered, image}
use Rattle.cover.specs.Change.{others_cover, moved_indicators}
use Rattle.cover.proofs.Moved.{length-moved_indicators, cell-moved_indicators}

pub image_long : (g : Geometry) (cover : Cover) → length (image g cover) ≡ indicator_words g
unfolding image
image_long g cover = length-tabulate (indicator_words g) _

-- where nothing is covered every word is 0
pub image_none : (g : Geometry) (cover : Cover) → ((a r : ℕ) → cover a r ≡ false) → replicate (indicator_words g) 0 ≡ image g cover
unfolding image is_covered
image_none g cover nothing =
    list_tabulate (replicate (indicator_words g) 0) (indicator_words g) _ (length-replicate (indicator_words g) 0)
    (λ m h. get_or-replicate (indicator_words g) m 0 0 h
    ∙ bits_equal 0 _ (λ b. bit-zero b ∙ sym (bit-word_all 64 _ b ∙ rw (any-false _ _ (λ o l. nothing _ _)) (and-false (ltb b 64)))))

module _ (g : Geometry) (f : Facts g) (cover : Cover) where
  -- every bit of the image
  pub cell-image : (r j b : ℕ) → r < rows g → j < row_words g → cell g (image g cover) r j b ≡ (ltb b 64 && is_covered g cover r (64 * j + b))
  unfolding image
  cell-image r j b hr hj =
      ap (λ w. bit w b) (get_or-tabulate (indicator_words g) _ (row_words g * r + j) 0 (places.place_lt g f r j hr hj))
      ∙ rw (places.row_of_place g f r j hj, places.word_of_place g f r j hj) (bit-word_all 64 (λ b. is_covered g cover r (64 * j + b)) b)

  -- past the last set nothing is covered, so padding bits of the image are 0 (rule 6.3 of
  -- docs/MEMORY.md)
  pub uncovered : (r s : ℕ) → sets g ≤ s → is_covered g cover r s ≡ false
  unfolding is_covered any
  uncovered r s past = rw (places.length_past g f s past)

  pub image_padding : (r j b : ℕ) → r < rows g → j < row_words g → sets g ≤ 64 * j + b → cell g (image g cover) r j b ≡ false
  image_padding r j b hr hj past = cell-image r j b hr hj ∙ rw (uncovered r (64 * j + b) past) (and-false (ltb b 64))

  -- those of sets
  pub image_bit : (r s : ℕ) → r < rows g → s < sets g → cell g (image g cover) r (s / 64) (s % 64) ≡ is_covered g cover r s
  image_bit r s hr hs =
      cell-image r (s / 64) (s % 64) hr (places.word-lt g f s hs) ∙ rw (lt-ltb (s % 64) 64 (omega arith)) (ap (is_covered g cover r) (omega arith))

  -- Address a, which covers the rows `former`, covers `next` in another cover; all other addresses
  -- cover the same in both.
  module _ (next_cover : Cover) (a : ℕ) (inside : a < g.depth) (former next : List ℕ)
      (covers_former : (r : ℕ) → cover a r ≡ member r former) (covers_next : (r : ℕ) → next_cover a r ≡ member r next)
      (elsewhere : (b r : ℕ) → (b ≡ a → ⊥) → next_cover b r ≡ cover b r)
      (former_lt : (r : ℕ) → member r former ≡ true → r < rows g) (next_lt : (r : ℕ) → member r next ≡ true → r < rows g) where
    -- an offset of a's set is a's exactly when its address is a
    same_offset : (o : ℕ) → o < set_length g (set_of g a) → eqb (address_of g (set_of g a) o) a ≡ eqb o (offset_of g a)
    same_offset o h =
        both_ways _ _
        (λ x. eq-eqb o (offset_of g a) (sym (places.offset_of-address_of g f (set_of g a) o h) ∙ ap (offset_of g) (eqb-true _ _ x)))
        (λ x. eq-eqb _ a (ap (address_of g (set_of g a)) (eqb-true o (offset_of g a) x) ∙ places.address_of-set_of g f a))

    -- the other addresses of a's set, by their offsets
    others : ℕ → Bool
    others r = any (set_length g (set_of g a)) (λ o. not (eqb o (offset_of g a)) && cover (address_of g (set_of g a) o) r)

    others_cover_is : (r : ℕ) → others_cover g cover a r ≡ others r
    unfolding others_cover others
    others_cover_is r = any_ext (set_length g (set_of g a)) _ _ (λ o h. rw (same_offset o h))

    before : (r : ℕ) → is_covered g cover r (set_of g a) ≡ (member r former || others r)
    unfolding is_covered others
    before r = any_split (set_length g (set_of g a)) _ (offset_of g a) (places.offset_lt g f a inside) ∙ rw (places.address_of-set_of g f a, covers_former r)

    after : (r : ℕ) → is_covered g next_cover r (set_of g a) ≡ (member r next || others r)
    unfolding is_covered others
    after r =
        any_split (set_length g (set_of g a)) _ (offset_of g a) (places.offset_lt g f a inside)
        ∙ rw (places.address_of-set_of g f a, covers_next r) (ap (λ x. member r next || x) (any_ext (set_length g (set_of g a)) _ _ (λ o h. kept o h (eqb o (offset_of g a)) refl)))
      where
        kept : (o : ℕ) → o < set_length g (set_of g a) → (b : Bool) → eqb o (offset_of g a) ≡ b
            → (not b && next_cover (address_of g (set_of g a) o) r) ≡ (not b && cover (address_of g (set_of g a) o) r)
        kept o h true q = refl
        kept o h false q =
            elsewhere (address_of g (set_of g a) o) r (λ m. eqb-false o (offset_of g a) q (sym (places.offset_of-address_of g f (set_of g a) o h) ∙ ap (offset_of g) m))

    -- the other sets
    apart : (r u : ℕ) → (u ≡ set_of g a → ⊥) → is_covered g cover r u ≡ is_covered g next_cover r u
    unfolding is_covered
    apart r u ne = any_ext (set_length g u) _ _ (λ o h. sym (elsewhere (address_of g u o) r (λ q. ne (sym (places.set_of-address_of g f u o h) ∙ ap (set_of g) q))))

    -- the bit of each row, word and place: in a's set by what is covered, elsewhere as it was
    same_bit : (r j b : ℕ) → r < rows g → j < row_words g
        → cond (belongs (set_of g a) j b)
        (cond (member r next) true (cond (member r former && not (others r)) false (cell g (image g cover) r j b)))
        (cell g (image g cover) r j b)
        ≡ (ltb b 64 && is_covered g next_cover r (64 * j + b))
    same_bit r j b hr hj = rw (cell-image r j b hr hj) (go (belongs (set_of g a) j b) refl)
      where
        formula : (P Q O : Bool) → cond P true (cond (Q && not O) false (Q || O)) ≡ (P || O)
        formula true Q O = refl
        formula false true true = refl
        formula false true false = refl
        formula false false O = refl

        away : (c : Bool) → ltb b 64 ≡ c → belongs (set_of g a) j b ≡ false → (c && is_covered g cover r (64 * j + b)) ≡ (c && is_covered g next_cover r (64 * j + b))
        away true small h =
            let lt = ltb-true b 64 small in
            apart r (64 * j + b)
            (λ q. false≢true (sym h ∙ (and-eq-true_iff _ _).1 (eq-eqb j (set_of g a / 64) (omega arith), eq-eqb b (set_of g a % 64) (omega arith))))
        away false small h = refl

        go : (c : Bool) → belongs (set_of g a) j b ≡ c
            → cond c
            (cond (member r next) true (cond (member r former && not (others r)) false (ltb b 64 && is_covered g cover r (64 * j + b))))
            (ltb b 64 && is_covered g cover r (64 * j + b))
            ≡ (ltb b 64 && is_covered g next_cover r (64 * j + b))
        go true h =
            let p = (and-eq-true_iff _ _).0 h in
            let in_word = eqb-true j (set_of g a / 64) p.0 in
            let in_place = eqb-true b (set_of g a % 64) p.1 in
            let whole : 64 * j + b ≡ set_of g a = omega arith in
            rw (whole, lt-ltb b 64 (omega arith), before r, after r) (formula (member r next) (member r former) (others r))
        go false h = away (ltb b 64) refl h

    pub moved_indicators-image : moved_indicators g cover a former next (image g cover) ≡ image g next_cover
    unfolding image
    moved_indicators-image =
        list_tabulate _ (indicator_words g) _ (length-moved_indicators g cover a former next _ ∙ image_long g cover)
        (λ m h. let r = m / row_words g in
        let j = m % row_words g in
        let hj = places.word_lt_row g f m in
        bits_equal _ _ (λ b.
        ap (λ k. bit (get_or (moved_indicators g cover a former next (image g cover)) k 0) b) (sym (places.place_of g f m))
        ∙ (rw (others_cover_is r) at (cell-moved_indicators g f cover a inside former next former_lt next_lt (image g cover) (image_long g cover) r j b hj))
        ∙ same_bit r j b (places.row_lt g f m h) hj
        ∙ sym (bit-word_all 64 _ b)))

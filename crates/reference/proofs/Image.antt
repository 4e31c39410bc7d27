-- The tables of an array: its image mirrors its store, and an entry that comes to an address of
-- them leaves the tables of the array with that entry. The image by the laws of any cover.
use Rattle.std.proofs.Common.{◌≡◌, ℕ, zero, suc, ◌<◌, List, [], ◌∷◌, map, set, refl, ap, ◌∙◌, get_or-set_other, get_or-set_same}
use Rattle.std.proofs.Math.Path.{fun_ext}
use Rattle.std.proofs.Math.ListN.{length-map, get_or-map}
use Rattle.geometry.specs.declared.Geometry.{Geometry}
use Rattle.geometry.proofs.Facts.{Facts}
use Rattle.cover.specs.Image.{image}
use Rattle.cover.specs.Change.{moved_indicators}
use Rattle.cover.proofs.Image.{image_long, image_bit, moved_indicators-image}
use Rattle.reference.specs.Entry.{Entry, empty, word_of}
use Rattle.reference.specs.Array.{Array, entry_at, IsSound}
use Rattle.reference.specs.Tables.{stored_word, stored_entry}
use Rattle.reference.specs.Image.{entry_rows, covers, array_cover, store_cover, tables_of}
use Rattle.reference.specs.Statements.{Mirrors}
use Rattle.reference.specs.Update.{replaced_tables}
use Rattle.reference.proofs.Entries.{entry_word}
use Rattle.reference.proofs.Replaced.{covers-lt}

map-set : (es : Array) (a : ℕ) (e : Entry) → set (map word_of es) a (word_of e) ≡ map word_of (set es a e)
map-set [] a e = refl
map-set (x ∷ es) zero e = refl
map-set (x ∷ es) (suc a) e = ap (λ (l : List ℕ). word_of x ∷ l) (map-set es a e)

module _ (g : Geometry) (f : Facts g) (es : Array) (sound : IsSound g es) where
  pub store_word : (a : ℕ) → stored_word (tables_of g es) a ≡ word_of (entry_at es a)
  unfolding tables_of word_of
  store_word a = get_or-map word_of es a empty

  pub store_entry : (a : ℕ) → stored_entry g (tables_of g es) a ≡ entry_at es a
  store_entry a = rw (store_word a) (entry_word g f (entry_at es a) (sound.fits a))

  -- the store covers what the array covers
  same_cover : store_cover g (tables_of g es) ≡ array_cover g es
  same_cover = fun_ext (λ a. fun_ext (λ r. ap (λ e. covers g e r) (store_entry a)))

  pub image_mirrors : Mirrors g (tables_of g es)
  image_mirrors = record {
    entries = unfold tables_of in length-map es word_of ∙ sound.long;
    words = unfold tables_of in image_long g (array_cover g es);
    bits = λ r s hr hs. rw same_cover (unfold tables_of in image_bit g f (array_cover g es) r s hr hs);
  }

  -- another entry comes to address a
  pub replaced_tables_image : (a : ℕ) → a < g.depth → (e : Entry) → replaced_tables g (tables_of g es) a e ≡ tables_of g (set es a e)
  unfolding tables_of replaced_tables
  replaced_tables_image a inside e = λ i. record { store = map-set es a e i; indicators = indicators_same i }
    where
      at_a : entry_at (set es a e) a ≡ e
      at_a = get_or-set_same es a e empty (rw sound.long inside)

      elsewhere : (b r : ℕ) → (b ≡ a → ⊥) → array_cover g (set es a e) b r ≡ array_cover g es b r
      elsewhere b r ne = ap (λ x. covers g x r) (get_or-set_other es a b e empty ne)

      image_moves : moved_indicators g (array_cover g es) a (entry_rows g (entry_at es a)) (entry_rows g e) (image g (array_cover g es)) ≡ image g (array_cover g (set es a e))
      image_moves =
          unfold covers in
          moved_indicators-image g f (array_cover g es) (array_cover g (set es a e)) a inside (entry_rows g (entry_at es a)) (entry_rows g e) (λ r. refl) (λ r. ap (λ x. covers g x r) at_a) elsewhere
          (covers-lt g f (entry_at es a)) (covers-lt g f e)

      indicators_same : (replaced_tables g (tables_of g es) a e).indicators ≡ (tables_of g (set es a e)).indicators
      indicators_same = rw (same_cover, store_entry a) image_moves

-- A clear leaves the tables of the empty array.
use Rattle.std.proofs.Common.{◌≡◌, ℕ, zero, suc, Bool, true, false, ltb, List, ◌∷◌, map, replicate, refl, ap, ltb-false, ltb-true}
use Rattle.std.proofs.Math.ListN.{length-replicate, get_or-replicate, get_or-eq_default}
use Rattle.words.specs.Rules.{member}
use Rattle.geometry.specs.declared.Geometry.{Geometry}
use Rattle.geometry.specs.Stages.{indicator_words}
use Rattle.cover.specs.Image.{image}
use Rattle.cover.proofs.Image.{image_none}
use Rattle.reference.specs.Entry.{empty, empty_word, word_of}
use Rattle.reference.specs.Array.{empty_array, entry_at, IsSound}
use Rattle.reference.specs.Image.{entry_rows, covers, array_cover, tables_of}
use Rattle.reference.specs.Steps.{clear_tables}
use Rattle.reference.proofs.Entries.{empty_fits}

entry_at-empty_array : (g : Geometry) (a : ℕ) → entry_at (empty_array g) a ≡ empty
unfolding empty_array
entry_at-empty_array g a = go (ltb a g.depth) refl
  where
    go : (b : Bool) → ltb a g.depth ≡ b → entry_at (replicate g.depth empty) a ≡ empty
    go true e = get_or-replicate g.depth a empty empty (ltb-true a g.depth e)
    go false e = get_or-eq_default (replicate g.depth empty) empty {n = a} (rw (length-replicate g.depth empty) (ltb-false a g.depth e))

pub empty_array_sound : (g : Geometry) → IsSound g (empty_array g)
unfolding empty_array
empty_array_sound g = record {
  long = length-replicate g.depth empty;
  fits = λ a. rw (entry_at-empty_array g a) (empty_fits g);
}

map-replicate : (n : ℕ) → replicate n empty_word ≡ map word_of (replicate n empty)
unfolding word_of
map-replicate zero = refl
map-replicate (suc n) = ap (λ (l : List ℕ). empty_word ∷ l) (map-replicate n)

-- no entry covers a row
zeros : (g : Geometry) → replicate (indicator_words g) 0 ≡ image g (array_cover g (empty_array g))
unfolding covers entry_rows member
zeros g = image_none g _ (λ a r. rw (entry_at-empty_array g a))

pub cleared_tables : (g : Geometry) → clear_tables g ≡ tables_of g (empty_array g)
unfolding clear_tables tables_of empty_array
cleared_tables g = λ i. record { store = map-replicate g.depth i; indicators = zeros g i }

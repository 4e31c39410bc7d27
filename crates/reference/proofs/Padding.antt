-- What it is to mirror the store, from below: padding bits are free, and the computed test says the
-- same.
use Rattle.std.proofs.Common.{◌≡◌, ℕ, ◌+◌, ◌*◌, ◌/◌, ◌%◌, Bool, true, false, cond, not, ◌↔◌, List, refl, sym, ap, ◌∙◌, arith, eq-eqb, eqb-true}
use Rattle.std.proofs.Math.Bool.{and-eq-true_iff, false≢true}
use borrow.Author.Tests.{not-true}
use Rattle.words.proofs.Rules.{any-false, none_of_any}
use Rattle.geometry.specs.declared.Geometry.{Geometry}
use Rattle.geometry.specs.Valid.{is_valid}
use Rattle.geometry.specs.Sizes.{sets, row_words}
use Rattle.geometry.specs.Stages.{rows}
use Rattle.geometry.proofs.Facts.{facts}
use Rattle.geometry.proofs.Places.{word-lt, place_lt, word_of_place}
use Rattle.reference.specs.Tables.{Tables}
use Rattle.reference.specs.Statements.{Mirrors, DifferInPadding}
use Rattle.reference.specs.Cases.{is_wrong, is_mirror}

-- tables that differ from mirrored ones in padding bits alone are mirrored
pub padding_free : (g : Geometry) → is_valid g ≡ true → (t : Tables) → Mirrors g t → (ind : List ℕ) → DifferInPadding g t.indicators ind
    → Mirrors g (record { store = t.store; indicators = ind })
padding_free g ok t mirrors ind differ = record {
  entries = mirrors.entries;
  words = differ.words ∙ mirrors.words;
  bits = λ r s hr hs.
      let f = facts g ok in
      let word_inside = word-lt g f s hs in
      differ.bits (row_words g * r + s / 64) (s % 64) (place_lt g f r (s / 64) hr word_inside) (omega arith) (rw (word_of_place g f r (s / 64) word_inside) (omega arith))
      ∙ mirrors.bits r s hr hs;
}

-- the test finds a wrong bit exactly where one is
pub is_mirror_iff : (g : Geometry) (t : Tables) → (is_mirror g t ≡ true) ↔ Mirrors g t
unfolding is_mirror is_wrong
is_mirror_iff g t = (there, back)
  where
    same : (a b : Bool) → cond a (not b) b ≡ false → a ≡ b
    same true true h = refl
    same true false h = absurd (false≢true (sym h))
    same false b h = sym h

    right : (a b : Bool) → a ≡ b → cond a (not b) b ≡ false
    right true b e = rw (← e)
    right false b e = sym e

    there : is_mirror g t ≡ true → Mirrors g t
    there h =
        let both = (and-eq-true_iff _ _).0 h in
        let lengths = (and-eq-true_iff _ _).0 both.0 in
        record {
          entries = eqb-true _ _ lengths.0;
          words = eqb-true _ _ lengths.1;
          bits = λ r s hr hs. same _ _ (none_of_any (sets g) _ (none_of_any (rows g) _ (not-true _ both.1) r hr) s hs);
        }

    back : Mirrors g t → is_mirror g t ≡ true
    back m =
        (and-eq-true_iff _ _).1 (
          (and-eq-true_iff _ _).1 (eq-eqb _ _ m.entries, eq-eqb _ _ m.words),
          ap not (any-false (rows g) _ (λ r hr. any-false (sets g) _ (λ s hs. right _ _ (m.bits r s hr hs)))),
        )

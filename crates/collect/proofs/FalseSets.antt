-- Whether a set is false, and whether any is: by the words of the joined row, as the code asks.
use Rattle.std.proofs.Common.{◌≡◌, ℕ, ◌+◌, ◌*◌, ◌/◌, ◌%◌, ◌<◌, Bool, true, false, not, ◌&&◌, eqb, sym, ◌∙◌, arith}
use Rattle.std.proofs.Math.Bool.{and-false, and-eq-true_iff, false≢true}
use borrow.Author.Tests.{not-true}
use Rattle.words.specs.Rules.{any}
use Rattle.words.specs.Bits.{bit}
use Rattle.words.proofs.Rules.{both_ways, refuted, any_witness, any-true, any-false, none_of_any}
use Rattle.geometry.specs.declared.Geometry.{Geometry}
use Rattle.geometry.specs.Valid.{segmented}
use Rattle.geometry.specs.Sizes.{sets, row_words, set_length}
use Rattle.geometry.proofs.Facts.{Facts}
use Rattle.geometry.proofs.Places.{word-lt}
use Rattle.reference.specs.Tables.{Tables}
use Rattle.reference.specs.Search.{joined_word, is_indicated, is_false, found_in_set, any_is_false}
use Rattle.reference.proofs.Searched.{false_means, equal_at}
use Rattle.search.proofs.Seeking.{joined_word_in_sets}
use Rattle.collect.proofs.Walk.{some_set}

module _ (g : Geometry) (t : Tables) (key : ℕ) where
  -- whether set s is false
  abbrev pub set_is_false : (s : ℕ) → Bool
  set_is_false s = is_false (found_in_set g t key s 0)

  -- in the segmented kind it is where no entry is the key
  pub set_false : eqb g.kind segmented ≡ true → (s : ℕ) → set_is_false s ≡ not (any (set_length g s) (equal_at g t key s))
  set_false k s =
      both_ways _ _
      (λ e. rw (any-false _ _ ((false_means g t key s 0).0 e).1))
      (λ e. (false_means g t key s 0).1 (k, none_of_any _ _ (not-true _ e)))

  -- and in the others never
  pub none_false : eqb g.kind segmented ≡ false → any_is_false g t key ≡ false
  unfolding any_is_false
  none_false k =
      any-false (sets g) _
      (λ s l. rw (refuted (set_is_false s) (λ e. false≢true (sym k ∙ ((false_means g t key s 0).0 e).0)), and-false))

  -- whether row word j indicates a false set
  abbrev pub false_in : (j : ℕ) → Bool
  false_in j = some_set set_is_false j (joined_word g t key j)

  -- a set is a bit of one of the words
  pub by_words : Facts g → any_is_false g t key ≡ any (row_words g) false_in
  unfolding any_is_false is_indicated
  by_words f = both_ways _ _ (λ h. there (any_witness (sets g) _ h)) (λ h. back (any_witness (row_words g) false_in h))
    where
      there : (s : ℕ) × (s < sets g) × ((is_indicated g t key s && set_is_false s) ≡ true) → any (row_words g) false_in ≡ true
      there (s, l, h) =
          let whole : 64 * (s / 64) + s % 64 ≡ s = omega arith in
          any-true (row_words g) false_in (s / 64) (word-lt g f s l) (any-true 64 _ (s % 64) (omega arith) (rw whole h))

      back : (j : ℕ) × (j < row_words g) × (false_in j ≡ true) → any_is_false g t key ≡ true
      back (j, l, h) = of_bit (any_witness 64 _ h)
        where
          of_bit : (b : ℕ) × (b < 64) × ((bit (joined_word g t key j) b && set_is_false (64 * j + b)) ≡ true) → any_is_false g t key ≡ true
          of_bit (b, m, q) =
              let word : (64 * j + b) / 64 ≡ j = omega arith in
              let place : (64 * j + b) % 64 ≡ b = omega arith in
              any-true (sets g) _ (64 * j + b) (joined_word_in_sets g t key j b ((and-eq-true_iff _ _).0 q).0) (rw (word, place) q)

-- Laws of a search, and of the first bit that is 1 in a row of any number of words, from any place
-- on.
use Rattle.std.proofs.Common.{◌≡◌, ℕ, zero, suc, ◌+◌, ◌-◌, ◌*◌, ◌/◌, ◌%◌, ◌^◌, ◌<◌, ◌≤◌, Bool, true, false, cond, not, ◌&&◌, eqb, ltb, leb, ◌⊎◌, refl, sym, ap, ◌∙◌, inl, inr, eq-or-lt_of_le, add-one, arith, ltb-false, ltb-true, le-ltb, eqb-true, le-leb, leb-false, leb-true}
use lib.Count.{count_trailing_zeros}
use borrow.Author.Tests.{lt-leb, eqb-false, not-true, not-false}
use Rattle.words.specs.Rules.{onward, IsFirst, Nowhere}
use Rattle.words.specs.Bits.{bit, bits_from}
use Rattle.words.specs.Seek.{Sought, found, missed, seek, row_from}
use Rattle.words.proofs.Rules.{first_same, onward_none, onward_same, onward_here, onward-false}
use Rattle.words.proofs.Bits.{bit-zero, bit_from, from_le, trailing_lowest}

-- What a search of `left` places from `place` on, after `looks` looks, tells by its result.
abbrev Outcome : (ℕ → Bool) → (left place looks : ℕ) → Sought → Type 0
Outcome test left place looks (found i l) =
    (place ≤ i) × (i < place + left) × (test i ≡ true) × ((j : ℕ) → place ≤ j → j < i → test j ≡ false) × (l + place ≡ looks + suc i)
Outcome test left place looks (missed l) = ((j : ℕ) → place ≤ j → j < place + left → test j ≡ false) × (l ≡ looks + left)

seek_outcome : (test : ℕ → Bool) (left place looks : ℕ) → Outcome test left place looks (seek test left place looks)
unfolding seek
seek_outcome test zero place looks = (λ j a b. absurd (omega arith), omega arith)
seek_outcome test (suc left) place looks = go (test place) refl (seek_outcome test left (suc place) (suc looks))
  where
    -- a place that failed, before others
    before : (j : ℕ) → test place ≡ false → (suc place ≤ j → test j ≡ false) → (place ≡ j) ⊎ (place < j) → test j ≡ false
    before j e h (inl q) = rw q at e
    before j e h (inr l) = h l

    widen : (s : Sought) → test place ≡ false → Outcome test left (suc place) (suc looks) s → Outcome test (suc left) place looks s
    widen (found i l) e o =
        (omega arith, omega arith, o.2, λ j a b. before j e (λ c. o.3 j c b) (eq-or-lt_of_le a), omega arith)
    widen (missed l) e o = (λ j a b. before j e (λ c. o.0 j c (omega arith)) (eq-or-lt_of_le a), omega arith)

    go : (b : Bool) → test place ≡ b → Outcome test left (suc place) (suc looks) (seek test left (suc place) (suc looks))
        → Outcome test (suc left) place looks (cond b (found place (suc looks)) (seek test left (suc place) (suc looks)))
    go true e o = (omega arith, omega arith, e, λ j a b. absurd (omega arith), omega arith)
    go false e o = widen (seek test left (suc place) (suc looks)) e o

-- A search of the places from one on, as far as n, finds the first, and has looked at it and all
-- between.
pub seek-found : (n place : ℕ) (test : ℕ → Bool) (i looks : ℕ) → seek test (n - place) place 0 ≡ found i looks
    → IsFirst n (onward place test) i × (looks + place ≡ i + 1)
seek-found n place test i looks e =
    let o : Outcome test (n - place) place 0 (found i looks) = rw e at (seek_outcome test (n - place) place 0) in
    (record { within = omega arith; here = rw (le-leb place i o.0) o.2; none_before = λ j l. onward-false test place j (λ h. o.3 j h l) }, omega arith)

pub seek-missed : (n place : ℕ) (test : ℕ → Bool) (looks : ℕ) → seek test (n - place) place 0 ≡ missed looks → Nowhere n (onward place test) × (looks ≡ n - place)
seek-missed n place test looks e =
    let o : Outcome test (n - place) place 0 (missed looks) = rw e at (seek_outcome test (n - place) place 0) in
    (λ j l. onward-false test place j (λ h. o.0 j h (omega arith)), omega arith)

-- A search by a loop that counts its looks: a turn, and both ends.
module _ (test : ℕ → Bool) (n i looks : ℕ) where
  pub seek_on : i < n → test i ≡ false → seek test (n - (i + 1)) (i + 1) (looks + 1) ≡ seek test (n - i) i looks
  unfolding seek
  seek_on h e = let left : n - i ≡ suc (n - (i + 1)) = omega arith in rw (left, seek, e, add-one i, add-one looks)

  pub seek_here : i < n → test i ≡ true → seek test (n - i) i looks ≡ found i (looks + 1)
  unfolding seek
  seek_here h e = let left : n - i ≡ suc (n - (i + 1)) = omega arith in rw (left, seek, e, add-one looks)

  pub seek_over : n ≤ i → seek test (n - i) i looks ≡ missed looks
  unfolding seek
  seek_over h = let left : n - i ≡ 0 = omega arith in rw left

-- A row of words f 0, f 1, .. of 64 bits: position i is bit i % 64 of word i / 64.
abbrev pub row_bit : (ℕ → ℕ) → ℕ → Bool
row_bit f i = bit (f (i / 64)) (i % 64)

-- The words that are not zero.
abbrev pub nonzero : (ℕ → ℕ) → ℕ → Bool
nonzero f j = not (eqb (f j) 0)

row_zero : (f : ℕ → ℕ) (i : ℕ) → nonzero f (i / 64) ≡ false → row_bit f i ≡ false
row_zero f i h = rw (eqb-true (f (i / 64)) 0 (not-false _ h)) (bit-zero (i % 64))

word_first : (f : ℕ → ℕ) → ((j : ℕ) → f j < 2 ^ 64) → (j : ℕ) → nonzero f j ≡ true → IsFirst 64 (bit (f j)) (count_trailing_zeros 64 (f j))
word_first f w j h = trailing_lowest 64 (f j) (w j) (omega (arith, eqb-false (f j) 0 (not-true _ h)))

-- The lowest set bit of a word that is not zero stands in that word of the row.
pub row_word : (f : ℕ → ℕ) → ((j : ℕ) → f j < 2 ^ 64) → (j : ℕ) → nonzero f j ≡ true → (64 * j + count_trailing_zeros 64 (f j)) / 64 ≡ j
row_word f w j h = omega (arith, (word_first f w j h).within)

-- in a row of n words the lowest set bit of the first word that is not zero is the first set bit of
-- the row
whole_first : (n : ℕ) (f : ℕ → ℕ) → ((j : ℕ) → f j < 2 ^ 64) → (j : ℕ) → IsFirst n (nonzero f) j → IsFirst (64 * n) (row_bit f) (64 * j + count_trailing_zeros 64 (f j))
whole_first n f w j h = lowest (count_trailing_zeros 64 (f j)) (word_first f w j h.here)
  where
    before : (i z : ℕ) → IsFirst 64 (bit (f j)) z → i < 64 * j + z → (i / 64 ≡ j) ⊎ (i / 64 < j) → row_bit f i ≡ false
    before i z low l (inl e) = rw e (low.none_before (i % 64) (omega arith))
    before i z low l (inr m) = row_zero f i (h.none_before (i / 64) m)

    lowest : (z : ℕ) → IsFirst 64 (bit (f j)) z → IsFirst (64 * n) (row_bit f) (64 * j + z)
    lowest z low =
        let word : (64 * j + z) / 64 ≡ j = omega arith in
        let place : (64 * j + z) % 64 ≡ z = omega arith in
        record {
          within = omega arith;
          here = rw (word, place) low.here;
          none_before = λ i l. before i z low l (eq-or-lt_of_le (omega arith));
        }

-- ---- the same from a place on

of_both : (P : ℕ → Type 0) (b : Bool) (x y : ℕ) → P x → P y → P (cond b x y)
of_both P true x y p q = p
of_both P false x y p q = q

module _ (f : ℕ → ℕ) (s : ℕ) where
  -- the row without its words before that of s
  rest : ℕ → ℕ
  rest j = cond (ltb j (s / 64)) 0 (row_from f s j)

  rest_on : (j : ℕ) → s / 64 ≤ j → rest j ≡ row_from f s j
  unfolding rest
  rest_on j l = rw (le-ltb j (s / 64) l)

  -- it has the bits of the row from s on
  rest_bit : (i : ℕ) → row_bit rest i ≡ onward s (row_bit f) i
  unfolding rest row_from
  rest_bit i = go (ltb (i / 64) (s / 64)) refl (eqb (i / 64) (s / 64)) refl
    where
      go : (b : Bool) → ltb (i / 64) (s / 64) ≡ b → (c : Bool) → eqb (i / 64) (s / 64) ≡ c
          → bit (cond b 0 (cond c (bits_from (f (i / 64)) (s % 64)) (f (i / 64)))) (i % 64) ≡ onward s (row_bit f) i
      go true h c e = let before = ltb-true (i / 64) (s / 64) h in rw (bit-zero, onward_none (row_bit f) s i (omega arith))
      go false h true e = let same = eqb-true (i / 64) (s / 64) e in rw bit_from (ap (λ b. b && row_bit f i) (tested same (leb s i) refl))
        where
          tested : i / 64 ≡ s / 64 → (b : Bool) → leb s i ≡ b → leb (s % 64) (i % 64) ≡ b
          tested same true l = let past = leb-true s i l in le-leb (s % 64) (i % 64) (omega arith)
          tested same false l = let early = leb-false s i l in lt-leb (s % 64) (i % 64) (omega arith)
      go false h false e =
          let past = ltb-false (i / 64) (s / 64) h in
          let other = eqb-false (i / 64) (s / 64) e in
          rw (onward_same (row_bit f) s i (omega (arith, other)))

  rest_nonzero : (j : ℕ) → onward (s / 64) (nonzero (row_from f s)) j ≡ nonzero rest j
  unfolding rest
  rest_nonzero j = go (ltb j (s / 64)) refl
    where
      go : (b : Bool) → ltb j (s / 64) ≡ b → onward (s / 64) (nonzero (row_from f s)) j ≡ not (eqb (cond b 0 (row_from f s j)) 0)
      go true h = onward_none (nonzero (row_from f s)) (s / 64) j (ltb-true j (s / 64) h)
      go false h = onward_same (nonzero (row_from f s)) (s / 64) j (ltb-false j (s / 64) h)

  pub row_nowhere : (n : ℕ) → Nowhere n (onward (s / 64) (nonzero (row_from f s))) → Nowhere (64 * n) (onward s (row_bit f))
  row_nowhere n h i l = sym (rest_bit i) ∙ row_zero rest i (sym (rest_nonzero (i / 64)) ∙ h (i / 64) (omega arith))

module _ (f : ℕ → ℕ) (w : (j : ℕ) → f j < 2 ^ 64) (s : ℕ) where
  pub row_from-lt : (j : ℕ) → row_from f s j < 2 ^ 64
  unfolding row_from
  row_from-lt j = of_both (λ n. n < 2 ^ 64) (eqb j (s / 64)) _ _ (omega (arith, from_le (f j) (s % 64), w j)) (omega (arith, from_le (f j) (s % 64), w j))

  rest_lt : (j : ℕ) → rest f s j < 2 ^ 64
  unfolding rest
  rest_lt j = of_both (λ n. n < 2 ^ 64) (ltb j (s / 64)) 0 (row_from f s j) (omega arith) (row_from-lt j)

  -- the lowest set bit of the first word from there on that is not zero is the first set bit of the
  -- row from s on
  pub row_first : (n j : ℕ) → IsFirst n (onward (s / 64) (nonzero (row_from f s))) j
      → IsFirst (64 * n) (onward s (row_bit f)) (64 * j + count_trailing_zeros 64 (row_from f s j))
  row_first n j first =
      let on = (onward_here (nonzero (row_from f s)) (s / 64) j first.here).0 in
      rw (rest_on f s j on) at (first_same (row_bit (rest f s)) (onward s (row_bit f)) (rest_bit f s)
      (whole_first n (rest f s) rest_lt j (first_same _ (nonzero (rest f s)) (rest_nonzero f s) first)))

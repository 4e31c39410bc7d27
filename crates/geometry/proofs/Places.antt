-- Addresses, sets and offsets, and where the bit of a row and a set stands.
use Rattle.std.proofs.Common.{◌≡◌, ℕ, suc, ◌+◌, ◌-◌, ◌*◌, ◌/◌, ◌%◌, ◌<◌, ◌≤◌, false, ◌&&◌, eqb, ◌⊎◌, sym, ◌∙◌, inl, inr, lt_of_lt_of_le, le_of_suc-le-suc, mod-lt, mul_comm, div-lt_iff_lt-mul, eq-or-lt_of_le, mul-le-mul_left, mul-suc, div-mul-le_self, div-one, arith}
use Rattle.std.proofs.Math.Nat.{div-add-mod, div-div-eq-div-mul}
use Rattle.std.proofs.Math.Arith.{digits_lt, digits_div, digits_mod}
use Rattle.words.proofs.Rules.{digits_same}
use Rattle.geometry.specs.declared.Geometry.{Geometry}
use Rattle.geometry.specs.Valid.{segmented}
use Rattle.geometry.specs.Sizes.{sets, row_words, match_words, set_of, offset_of, address_of, set_length}
use Rattle.geometry.specs.Stages.{stages, rows, indicator_words}
use Rattle.geometry.proofs.Facts.{Facts}

module _ (g : Geometry) (f : Facts g) where
  pub set_of-lt : (a : ℕ) → a < g.depth → set_of g a < sets g
  set_of-lt a h = (div-lt_iff_lt-mul f.set_pos).1 (omega (arith, f.reached))

  -- every set begins with an address
  pub set_begins : (s : ℕ) → s < sets g → g.set_width * s < g.depth
  set_begins s h = omega (arith, mul-le-mul_left g.set_width h, mul-suc g.set_width s, f.needed)

  -- a set has 64 addresses at most
  pub length_most : (s : ℕ) → set_length g s ≤ 64
  unfolding set_length
  length_most s = omega (arith, f.set_most)

  -- and no set is empty
  pub length_pos : (s : ℕ) → s < sets g → 0 < set_length g s
  unfolding set_length
  length_pos s h = omega (arith, f.set_pos, set_begins s h)

  -- the last set has what the others leave of the depth, and each of these the set width (rule 2.7
  -- of docs/MEMORY.md)
  pub last_set_length : set_length g (sets g - 1) ≡ g.depth - g.set_width * (sets g - 1)
  unfolding set_length
  last_set_length =
      let last : sets g ≤ suc (sets g - 1) = omega arith in
      omega (arith, f.reached, mul-le-mul_left g.set_width last, mul-suc g.set_width (sets g - 1))

  pub full_set_length : (s : ℕ) → s + 1 < sets g → set_length g s ≡ g.set_width
  unfolding set_length
  full_set_length s h = omega (arith, mul-suc g.set_width s, set_begins (suc s) (omega arith))

  -- past the last set there is no address
  pub length_past : (s : ℕ) → sets g ≤ s → set_length g s ≡ 0
  unfolding set_length
  length_past s h = omega (arith, f.reached, mul-le-mul_left g.set_width h)

  -- only the segmented kind has sets of more than one address
  pub length_alone : (s : ℕ) → eqb g.kind segmented ≡ false → set_length g s ≤ 1
  unfolding set_length
  length_alone s k = omega (arith, f.alone k)

  -- and only where there is one stage
  pub length_single : (s : ℕ) → (set_length g s ≤ 1) ⊎ (stages g ≡ 1)
  unfolding set_length
  length_single s = go f.single
    where
      go : (g.set_width ≡ 1) ⊎ (stages g ≡ 1) → (set_length g s ≤ 1) ⊎ (stages g ≡ 1)
      go (inl one) = inl (omega arith)
      go (inr one) = inr one

  pub offset_lt : (a : ℕ) → a < g.depth → offset_of g a < set_length g (set_of g a)
  unfolding set_length
  offset_lt a h = omega (arith, mod-lt a f.set_pos, div-add-mod a g.set_width)

  pub address-lt : (s o : ℕ) → o < set_length g s → address_of g s o < g.depth
  unfolding set_length
  address-lt s o h = omega arith

  pub address_of-set_of : (a : ℕ) → address_of g (set_of g a) (offset_of g a) ≡ a
  address_of-set_of a = div-add-mod a g.set_width

  -- an offset of any set is below the set width, by which addresses are numbered
  offset_width : (s o : ℕ) → o < set_length g s → o < g.set_width
  unfolding set_length
  offset_width s o h = omega arith

  pub set_of-address_of : (s o : ℕ) → o < set_length g s → set_of g (address_of g s o) ≡ s
  set_of-address_of s o h = rw mul_comm (digits_div s (offset_width s o h))

  pub offset_of-address_of : (s o : ℕ) → o < set_length g s → offset_of g (address_of g s o) ≡ o
  offset_of-address_of s o h = rw mul_comm (digits_mod s (offset_width s o h))

  -- an address is that of a set and an offset exactly when these are its own
  pub address_same : (a s o : ℕ) → o < set_length g s → eqb a (address_of g s o) ≡ (eqb (set_of g a) s && eqb (offset_of g a) o)
  address_same a s o h = digits_same g.set_width a s o (offset_width s o h)

  -- where sets have one address, the set is the address
  pub alone_address : (s o : ℕ) → eqb g.kind segmented ≡ false → o < set_length g s → address_of g s o ≡ s
  alone_address s o k h = let first : o ≡ 0 = omega (arith, length_alone s k) in rw (f.alone k, first) (omega arith)

  pub alone_set : (a : ℕ) → eqb g.kind segmented ≡ false → set_of g a ≡ a
  alone_set a k = rw (f.alone k) (div-one a)

  -- an address below that of s and o lies in an earlier set, or in s at an earlier offset
  pub below_address : (a s o : ℕ) → o < set_length g s → a < address_of g s o → (set_of g a < s) ⊎ ((set_of g a ≡ s) × (offset_of g a < o))
  below_address a s o ho h = go (eq-or-lt_of_le (le_of_suc-le-suc ((div-lt_iff_lt-mul f.set_pos).1 (omega (arith, offset_width s o ho)))))
    where
      go : (set_of g a ≡ s) ⊎ (set_of g a < s) → (set_of g a < s) ⊎ ((set_of g a ≡ s) × (offset_of g a < o))
      go (inl e) = inr (e, omega (arith, rw e at (address_of-set_of a)))
      go (inr l) = inl l

  -- an address of a later set is larger, and a larger one lies in a later set, or in the same at a
  -- later offset
  pub later_set : (a b : ℕ) → set_of g a < set_of g b → a < b
  later_set a b h = lt_of_lt_of_le ((div-lt_iff_lt-mul f.set_pos).0 h) (div-mul-le_self b g.set_width)

  pub later_address : (a b : ℕ) → b < g.depth → a < b → (set_of g a < set_of g b) ⊎ ((set_of g a ≡ set_of g b) × (offset_of g a < offset_of g b))
  later_address a b inside l = below_address a (set_of g b) (offset_of g b) (offset_lt b inside) (rw (address_of-set_of b) l)

  -- the w of an address (rule 5.7 of docs/MEMORY.md) is by the word of its set
  pub word_of_address : (a : ℕ) → a / (64 * g.set_width) ≡ set_of g a / 64
  word_of_address a = rw mul_comm (sym (div-div-eq-div-mul a g.set_width 64))

  pub sets_pos : 0 < sets g
  sets_pos = omega (arith, set_of-lt 0 (omega arith))

  pub sets_most : sets g ≤ 64 * row_words g
  unfolding row_words
  sets_most = omega arith

  -- and no more words than that: rounded up, and not further
  pub words_least : 64 * row_words g < sets g + 64
  unfolding row_words
  words_least = omega arith

  pub words_pos : 0 < row_words g
  unfolding row_words
  words_pos = omega (arith, sets_pos)

  -- the word of a set is a word of a row
  pub word-lt : (s : ℕ) → s < sets g → s / 64 < row_words g
  unfolding row_words
  word-lt s h = omega arith

  pub matches_most : g.depth ≤ 64 * match_words g
  unfolding match_words
  matches_most = omega arith

  pub matches_least : 64 * match_words g < g.depth + 64
  unfolding match_words
  matches_least = omega arith

  -- word j of row r, and back
  pub place_lt : (r j : ℕ) → r < rows g → j < row_words g → row_words g * r + j < indicator_words g
  unfolding indicator_words
  place_lt r j hr hj = omega (arith, digits_lt hr hj)

  pub row_of_place : (r j : ℕ) → j < row_words g → (row_words g * r + j) / row_words g ≡ r
  row_of_place r j hj = rw mul_comm (digits_div r hj)

  pub word_of_place : (r j : ℕ) → j < row_words g → (row_words g * r + j) % row_words g ≡ j
  word_of_place r j hj = rw mul_comm (digits_mod r hj)

  -- two places are one exactly when their rows and their words are
  pub place_same : (r j q k : ℕ) → j < row_words g → k < row_words g → eqb (row_words g * r + j) (row_words g * q + k) ≡ (eqb r q && eqb j k)
  place_same r j q k hj hk = digits_same (row_words g) (row_words g * r + j) q k hk ∙ rw (row_of_place r j hj, word_of_place r j hj)

  pub place_of : (m : ℕ) → row_words g * (m / row_words g) + m % row_words g ≡ m
  place_of m = div-add-mod m (row_words g)

  -- every word of the indicators belongs to a row
  pub row_lt : (m : ℕ) → m < indicator_words g → m / row_words g < rows g
  unfolding indicator_words
  row_lt m h = (div-lt_iff_lt-mul words_pos).1 (omega arith)

  pub word_lt_row : (m : ℕ) → m % row_words g < row_words g
  word_lt_row m = mod-lt m words_pos

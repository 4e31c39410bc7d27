-- The searches as the code makes them: the rows of a key joined one by one, the bits of a joined
-- word, and the two searches of a search from a set on, a turn and each end of them.
use Rattle.std.proofs.Common.{◌≡◌, ℕ, zero, suc, ◌+◌, ◌-◌, ◌*◌, ◌/◌, ◌%◌, ◌<◌, ◌≤◌, Bool, true, false, cond, not, eqb, ltb, List, [], ◌∷◌, map, length, get_or, drop, fold, refl, sym, ap, ◌∙◌, arith, ltb-false, ltb-true, eq-eqb, ne_eqb}
use Rattle.std.proofs.Math.Bool.{and-eq-true_iff, false≢true}
use mathlib.Core.List.{foldr}
use lib.Bits.{bit_and}
use lib.Count.{count_trailing_zeros}
use Rattle.std.specs.List.{range_with_len}
use Rattle.std.proofs.lemmas.Nat.{and_comm, and_assoc}
use Rattle.words.specs.Rules.{IsFirst, Nowhere}
use Rattle.words.specs.Bits.{bit, bits_from, row_mask}
use Rattle.words.specs.Seek.{Sought, seek, row_from}
use Rattle.words.proofs.Rules.{lowest_first, lowest_nowhere}
use Rattle.words.proofs.Seek.{seek_on, seek_here, seek_over, row_from-lt}
use Rattle.words.proofs.Bits.{bit_from, bit_out, trailing_lowest}
use Rattle.geometry.specs.declared.Geometry.{Geometry}
use Rattle.geometry.specs.declared.Kind.{Kind}
use Rattle.geometry.specs.declared.Kind.TheVariants.{Transposed, Cascaded, Segmented}
use Rattle.geometry.specs.Kinds.{number_of}
use Rattle.geometry.specs.Valid.{is_valid, segmented}
use Rattle.geometry.specs.Sizes.{sets, row_words, address_of, set_length}
use Rattle.geometry.specs.Stages.{stages, row_of, rows_of}
use Rattle.geometry.proofs.Facts.{facts}
use Rattle.geometry.proofs.Places.{alone_address}
use Rattle.geometry.proofs.Stages.{drop-rows_of, rows_over}
use Rattle.sizes.specs.declared.layout.Layout.{Layout}
use Rattle.reference.specs.Tables.{Tables, stored_word}
use Rattle.reference.specs.Calls.{refused, at, none}
use Rattle.reference.specs.Search.{joined_word, is_indicated, joined_word_from, seek_word, seek_entry, lowest_set, found_in_set, found_from, answer_of}
use Rattle.reference.proofs.Line.{length-line}
use Rattle.reference.proofs.Searched.{is_indicated_means, joined_word-lt, equal_at}
use Rattle.search.specs.Rows.{IsInSets}

-- ---- the joined word

module _ (g : Geometry) (t : Tables) (key j : ℕ) where
  -- word j of row r
  abbrev pub read : (r : ℕ) → ℕ
  read r = get_or t.indicators (row_words g * r + j) 0

  abbrev join : (w : ℕ) (rows : List ℕ) → ℕ
  join w rs = foldr (λ r v. bit_and (read r) v) w rs

  join-bit_and : (w x : ℕ) (rs : List ℕ) → join (bit_and w x) rs ≡ bit_and x (join w rs)
  join-bit_and w x [] = and_comm w x
  join-bit_and w x (r ∷ rs) =
      rw (join-bit_and w x rs)
      (sym (and_assoc (join w rs) (read r) x) ∙ ap (λ v. bit_and v (join w rs)) (and_comm (read r) x) ∙ and_assoc (join w rs) x (read r))

  joins : (n k w : ℕ) → k + n ≡ stages g → fold bit_and w (map (λ i. read (row_of g key i)) (range_with_len k n)) ≡ join w (drop k (rows_of g key))
  joins zero k w e = rw (rows_over g key k (omega arith))
  joins (suc n) k w e = joins n (k + 1) _ (omega arith) ∙ rw (drop-rows_of g key k (omega arith)) (join-bit_and w _ _)

  -- the rows of all stages, joined to the mask
  pub joined_word_is : fold bit_and (row_mask (sets g) j) (map (λ i. read (row_of g key i)) (range_with_len 0 (stages g))) ≡ joined_word g t key j
  unfolding joined_word
  joined_word_is = joins (stages g) 0 _ (omega arith)

-- ---- the bits of a joined word

-- they are bits of sets
pub joined_word_in_sets : (g : Geometry) (t : Tables) (key j : ℕ) → IsInSets g (joined_word g t key j) j
unfolding is_indicated
joined_word_in_sets g t key j b h = go (ltb b 64) refl
  where
    go : (l : Bool) → ltb b 64 ≡ l → 64 * j + b < sets g
    go true e =
        let small = ltb-true b 64 e in
        let word : (64 * j + b) / 64 ≡ j = omega arith in
        let place : (64 * j + b) % 64 ≡ b = omega arith in
        ((is_indicated_means g t key (64 * j + b)).0 (rw (word, place) h)).0
    go false e = absurd (false≢true (sym (bit_out 64 (joined_word g t key j) b (joined_word-lt g t key j) (ltb-false b 64 e)) ∙ h))

-- so are those of the word as a search from a set on has it
searched_in_sets : (g : Geometry) (t : Tables) (key from j : ℕ) → IsInSets g (joined_word_from g t key from j) j
unfolding row_from
searched_in_sets g t key from j b h = joined_word_in_sets g t key j b (go (eqb j (from / 64)) h)
  where
    go : (x : Bool) → bit (cond x (bits_from (joined_word g t key j) (from % 64)) (joined_word g t key j)) b ≡ true → bit (joined_word g t key j) b ≡ true
    go true h = ((and-eq-true_iff _ _).0 (sym (bit_from (joined_word g t key j) (from % 64) b) ∙ h)).1
    go false h = h

-- ---- a search from a set on: its two searches, and what it finds where they stop

-- what the code finds of the kind
module _ (l : Layout) where
  pub kind_segmented : l.kind ≡ Segmented → eqb l.geometry.kind segmented ≡ true
  kind_segmented e = rw (← l.same_kind, e)

  pub kind_other : (l.kind ≡ Segmented → ⊥) → eqb l.geometry.kind segmented ≡ false
  kind_other ne = rw (← l.same_kind) (go l.kind ne)
    where
      go : (k : Kind) → (k ≡ Segmented → ⊥) → eqb (number_of k) segmented ≡ false
      go Transposed ne = refl
      go Cascaded ne = refl
      go Segmented ne = absurd (ne refl)

-- the row words from j on, in a search from a set on, after some looks
abbrev pub words_from : Geometry → Tables → (key from j looks : ℕ) → Sought
words_from g t key s j l = seek (λ i. not (eqb (joined_word_from g t key s i) 0)) (row_words g - j) j l

-- The lowest bit of the first row word that is not 0 names set s, so that the search finds what it
-- finds there.
pub record Named (g : Geometry) (t : Tables) (key from s looks : ℕ) : Type 0 where
  pub inside : s < sets g
  pub finds : found_from g t key from ≡ found_in_set g t key s looks

module _ (g : Geometry) (t : Tables) (key from : ℕ) where
  pub words_start : (j : ℕ) → j ≡ from / 64 → words_from g t key from j 0 ≡ seek_word g t key from
  unfolding seek_word
  words_start j e = rw e refl

  -- the search has come to row word j
  module _ (j looks : ℕ) (come : words_from g t key from j looks ≡ seek_word g t key from) where
    pub words_over : row_words g ≤ j → none looks 0 ≡ answer_of (found_from g t key from)
    unfolding found_from answer_of
    words_over h = rw (← come, seek_over _ (row_words g) j looks h, found_from)

    -- and it is read
    module _ (joint word : ℕ) (inside : j < row_words g) (joins : joint ≡ joined_word g t key j)
        (is : word ≡ cond (eqb j (from / 64)) (bits_from joint (from % 64)) joint) where
      searched : word ≡ joined_word_from g t key from j
      unfolding row_from
      searched = is ∙ rw joins refl

      pub words_on : word ≡ 0 → words_from g t key from (j + 1) (looks + 1) ≡ seek_word g t key from
      words_on e = seek_on _ (row_words g) j looks inside (rw (← searched, eq-eqb word 0 e)) ∙ come

      pub named : (word ≡ 0 → ⊥) → {s : ℕ} → s ≡ 64 * j + count_trailing_zeros 64 word → Named g t key from s (looks + 1)
      unfolding found_from lowest_set
      named some e =
          let low = trailing_lowest 64 word (rw searched (row_from-lt (joined_word g t key) (joined_word-lt g t key) from j)) (omega arith) in
          let of_sets : IsInSets g word j = rw searched (searched_in_sets g t key from j) in
          let here = sym come ∙ seek_here _ (row_words g) j looks inside (rw (← searched, ne_eqb word 0 some)) in
          rw e (record { inside = of_sets _ low.here; finds = rw (here, found_from, searched) })

module _ {g : Geometry} {t : Tables} {key from s looks : ℕ} (a : Named g t key from s looks) where
  -- where a set is an address, that is answered
  pub set_found : is_valid g ≡ true → eqb g.kind segmented ≡ false → (o n : ℕ) → o < set_length g s → n ≡ address_of g s o
      → at n looks 0 ≡ answer_of (found_from g t key from)
  unfolding found_in_set answer_of
  set_found ok k o n inside is = rw (a.finds, is, alone_address g (facts g ok) s o k inside, k, found_in_set)

  module _ (k : eqb g.kind segmented ≡ true) (o : ℕ) (before : Nowhere o (equal_at g t key s)) where
    -- where the comparison of its entries has passed them all, it is false
    pub entries_over : set_length g s ≤ o → refused 6 ≡ answer_of (found_from g t key from)
    unfolding found_in_set seek_entry answer_of
    entries_over past =
        rw (a.finds, k, found_in_set, seek_entry, lowest_nowhere (set_length g s) (equal_at g t key s) (λ i l. before i (omega arith)))

    -- at the first that is the key that address is answered, and the whole line is c
    pub entry_found : is_valid g ≡ true → length t.store ≡ g.depth → o < set_length g s
        → (n v c : ℕ) → n ≡ address_of g s o → v ≡ stored_word t n → v ≡ key → c ≡ set_length g s → at n looks c ≡ answer_of (found_from g t key from)
    unfolding found_in_set seek_entry answer_of
    entry_found ok long within n v c is read equal whole =
        let here : equal_at g t key s o ≡ true = rw (← is, ← read) (eq-eqb v key equal) in
        let first : IsFirst (set_length g s) (equal_at g t key s) o = record { within = within; here = here; none_before = before } in
        rw (a.finds, k, found_in_set, seek_entry, lowest_first (set_length g s) (equal_at g t key s) o first, is, whole, (length-line g t.store s ok long a.inside).0)

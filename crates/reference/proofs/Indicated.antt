-- Where the indicators mirror the store, the sets that a key indicates are those with an address
-- that holds it.
use Rattle.std.proofs.Common.{◌≡◌, ℕ, ◌<◌, ◌≤◌, Bool, true, ◌⊎◌, sym, ◌∙◌, inl, inr, arith}
use Rattle.words.specs.Rules.{any}
use Rattle.words.proofs.Rules.{both_ways, any_witness, any-true}
use Rattle.geometry.specs.declared.Geometry.{Geometry}
use Rattle.geometry.specs.Sizes.{patterns, sets, address_of, set_length}
use Rattle.geometry.specs.Stages.{stages, stage, row_of, rows}
use Rattle.geometry.proofs.Facts.{Facts}
use Rattle.geometry.proofs.Places.{length_pos, length_single}
use Rattle.geometry.proofs.Stages.{stage-lt, row_lt}
use Rattle.cover.specs.Image.{is_covered}
use Rattle.reference.specs.Tables.{Tables, stored_word, stored_entry}
use Rattle.reference.specs.Image.{covers, store_cover}
use Rattle.reference.specs.Search.{is_indicated}
use Rattle.reference.specs.Statements.{Mirrors, stores}
use Rattle.reference.proofs.Covering.{covers_key, key_covers}
use Rattle.reference.proofs.Searched.{is_indicated_means}

module _ (g : Geometry) (f : Facts g) (t : Tables) (mirrors : Mirrors g t) (key : ℕ) (small : key < patterns g) where
  -- some address of the set has the key
  abbrev pub held_in : ℕ → Bool
  held_in s = any (set_length g s) (λ o. stores t key (address_of g s o))

  -- A set whose entries cover every row of the key between them holds it: there is but one entry,
  -- or one row.
  held : (s : ℕ) → s < sets g → ((k : ℕ) → k < stages g → is_covered g (store_cover g t) (row_of g key k) s ≡ true) → held_in s ≡ true
  unfolding is_covered
  held s inside all = go (length_single g f s)
    where
      is_covered_by : ℕ → ℕ → Bool
      is_covered_by k o = covers g (stored_entry g t (address_of g s o)) (row_of g key k)

      at : (o : ℕ) → o < set_length g s → ((k : ℕ) → k < stages g → is_covered_by k o ≡ true) → held_in s ≡ true
      at o l h = any-true (set_length g s) _ o l (covers_key g f key small (stored_word t (address_of g s o)) h)

      go : (set_length g s ≤ 1) ⊎ (stages g ≡ 1) → held_in s ≡ true
      go (inl one_entry) = at 0 (length_pos g f s inside) (λ k l. only k (any_witness (set_length g s) _ (all k l)))
        where
          only : (k : ℕ) → (o : ℕ) × (o < set_length g s) × (is_covered_by k o ≡ true) → is_covered_by k 0 ≡ true
          only k w = let at_first : w.0 ≡ 0 = omega arith in rw at_first at w.2
      go (inr one_row) =
          let holder = any_witness (set_length g s) _ (all 0 (omega arith)) in
          at holder.0 holder.1 (λ k l. let first_row : k ≡ 0 = omega arith in rw first_row holder.2)

  pub is_indicated_is : (s : ℕ) → s < sets g → is_indicated g t key s ≡ held_in s
  unfolding is_covered row_of
  is_indicated_is s h =
      both_ways (is_indicated g t key s) (held_in s)
      (λ e. held s h (λ k l. sym (mirrors.bits (row_of g key k) s (row k l) h) ∙ ((is_indicated_means g t key s).0 e).1 k l))
      (λ e. let holder = any_witness (set_length g s) _ e in
      (is_indicated_means g t key s).1 (
        h,
        λ k l. mirrors.bits (row_of g key k) s (row k l) h
            ∙ any-true (set_length g s) _ holder.0 holder.1 (key_covers g f key small (stored_word t (address_of g s holder.0)) k holder.2 l),
      ))
    where
      row : (k : ℕ) → k < stages g → row_of g key k < rows g
      row k l = row_lt g f k (stage g k key) l (stage-lt g f k key)

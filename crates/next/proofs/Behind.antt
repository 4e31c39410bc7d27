-- What a next-match finds where its code stops: at an entry of the own set, or behind that set by
-- the search from the next one on, whose counts are left out.
use Rattle.std.proofs.Common.{◌≡◌, ℕ, suc, ◌+◌, ◌<◌, ◌≤◌, true, false, ◌⊎◌, [], Some, None, Ok, Err, Option, Result, inl, inr, eq-or-lt_of_le, arith, eq-eqb, ne_eqb, le-leb}
use Rattle.std.proofs.Math.Bool.{and-eq-true_iff, and-false}
use Rattle.words.specs.Rules.{IsFirst, Nowhere}
use Rattle.words.proofs.Rules.{lowest_first, lowest_nowhere, onward_none}
use Rattle.geometry.specs.declared.Geometry.{Geometry}
use Rattle.geometry.specs.Sizes.{set_of, offset_of, address_of, set_length}
use Rattle.places.specs.declared.Address.{Address}
use Rattle.reference.specs.Calls.{next}
use Rattle.reference.specs.Tables.{Tables, stored_word}
use Rattle.reference.specs.Search.{Found, hit, nothing, false_set, seek_own, found_from, next_found, answer_of, next_of}
use Rattle.reference.proofs.Searched.{equal_at, own}
use Rattle.checks.specs.declared.Refusal.{Refusal}
use Rattle.checks.specs.Checks.{result_map}
use Rattle.calls.specs.declared.Answer.TheVariants.{Searched, Next}
use Rattle.calls.specs.declared.Search.{Search}
use Rattle.calls.specs.Answers.{answer_for}

module _ (g : Geometry) (t : Tables) (a key : ℕ) where
  -- none that is not above the address
  pub own_start : (n : ℕ) → n ≡ suc (offset_of g a) → Nowhere n (own g t a key)
  own_start n e i l = onward_none (equal_at g t key (set_of g a)) (suc (offset_of g a)) i (omega (arith, e))

  -- one more that is not the key
  pub own_on : (o : ℕ) → Nowhere o (own g t a key) → (n v : ℕ) → n ≡ address_of g (set_of g a) o → v ≡ stored_word t n → (v ≡ key → ⊥)
      → Nowhere (o + 1) (own g t a key)
  own_on o before n v is read other i l = go (eq-or-lt_of_le (omega arith))
    where
      go : (i ≡ o) ⊎ (i < o) → own g t a key i ≡ false
      go (inl e) = rw (e, ← is, ← read, ne_eqb v key other) (and-false _)
      go (inr m) = before i m

  -- the first of the own set that is the key is answered
  pub own_found : (o : ℕ) → offset_of g a < o → o < set_length g (set_of g a) → Nowhere o (own g t a key)
      → (n v : ℕ) → n ≡ address_of g (set_of g a) o → v ≡ stored_word t n → v ≡ key → next (Some n) ≡ next_of (next_found g t a key)
  unfolding next_found seek_own next_of
  own_found o past within before n v is read equal =
      let here : equal_at g t key (set_of g a) o ≡ true = rw (← is, ← read) (eq-eqb v key equal) in
      let first : IsFirst (set_length g (set_of g a)) (own g t a key) o = record {
        within = within;
        here = (and-eq-true_iff _ _).1 (le-leb (suc (offset_of g a)) o past, here);
        none_before = before;
      } in
      rw (next_found, seek_own, lowest_first (set_length g (set_of g a)) (own g t a key) o first, is)

  -- and where there is none the search behind it decides
  pub own_over : (o : ℕ) → set_length g (set_of g a) ≤ o → Nowhere o (own g t a key) → next_found g t a key ≡ found_from g t key (suc (set_of g a))
  unfolding next_found seek_own
  own_over o past before = rw (next_found, seek_own, lowest_nowhere (set_length g (set_of g a)) (own g t a key) (λ i l. before i (omega arith)))

-- What the code gives of a search without its counts is what next-match answers.
pub uncounted : (r : Result Search Refusal) (x : Found) → answer_for (result_map Searched r) [] ≡ answer_of x
    → answer_for (result_map Next (result_map (λ (s : Search). s.address) r)) [] ≡ next_of x
unfolding answer_of next_of
uncounted (Err why) (hit a w c) e = absurd (cc)
uncounted (Err why) (nothing w c) e = absurd (cc)
uncounted (Err why) false_set e = e
uncounted (Ok s) x e = go s.address x e
  where
    go : (a : Option Address) (x : Found) → answer_for (result_map Searched (Ok (record { address = a; words_read = s.words_read; entries_compared = s.entries_compared }))) [] ≡ answer_of x
        → answer_for (result_map Next (Ok a)) [] ≡ next_of x
    go (Some a) (hit b w c) e = cc
    go (Some a) (nothing w c) e = absurd (cc)
    go (Some a) false_set e = absurd (cc)
    go None (hit b w c) e = absurd (cc)
    go None (nothing w c) e = cc
    go None false_set e = absurd (cc)

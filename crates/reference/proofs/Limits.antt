-- What it is to pass the rows of the table on lengths, address, pattern and entry.
use Rattle.std.proofs.Common.{◌≡◌, ℕ, ◌<◌, Bool, true, false, ◌||◌, eqb, ltb, ◌⊎◌, ◌↔◌, length, refl, sym, inl, inr, arith, ltb-true, le-ltb, lt-ltb, eq-eqb, eqb-true, leb-false}
use Rattle.std.proofs.Math.Bool.{or-true, and-eq-true_iff}
use borrow.Author.Tests.{lt-leb, not-false}
use Rattle.geometry.specs.declared.Geometry.{Geometry}
use Rattle.geometry.specs.Sizes.{patterns}
use Rattle.geometry.specs.Stages.{indicator_words}
use Rattle.geometry.proofs.Facts.{Facts, patterns_most}
use Rattle.reference.specs.Entry.{empty_word, word_of, entry_of}
use Rattle.reference.specs.Refusals.{bad_address, bad_pattern}
use Rattle.reference.specs.Tables.{Tables, stored_word, stored_entry}
use Rattle.reference.specs.Steps.{bad_lengths, bad_entry}

pub lengths_pass : (g : Geometry) (t : Tables) → (bad_lengths g t ≡ false) ↔ ((length t.store ≡ g.depth) × (length t.indicators ≡ indicator_words g))
unfolding bad_lengths
lengths_pass g t =
    (λ h. let both = (and-eq-true_iff _ _).0 (not-false _ h) in (eqb-true _ _ both.0, eqb-true _ _ both.1), λ p. rw (eq-eqb _ _ p.0, eq-eqb _ _ p.1))

pub address_passes : (g : Geometry) (a : ℕ) → (bad_address g a ≡ false) ↔ (a < g.depth)
unfolding bad_address
address_passes g a = (leb-false g.depth a, lt-leb g.depth a)

pub pattern_passes : (g : Geometry) (p : ℕ) → (bad_pattern g p ≡ false) ↔ (p < patterns g)
unfolding bad_pattern
pattern_passes g p = (leb-false (patterns g) p, lt-leb (patterns g) p)

-- empty, or a pattern
pub entry_passes : (g : Geometry) (t : Tables) (a : ℕ) → (bad_entry g t a ≡ false) ↔ ((stored_word t a ≡ 4294967295) ⊎ (stored_word t a < patterns g))
unfolding bad_entry
entry_passes g t a = (λ h. there (eqb (stored_word t a) empty_word) refl (not-false _ h), back)
  where
    there : (b : Bool) → eqb (stored_word t a) empty_word ≡ b → (b || ltb (stored_word t a) (patterns g)) ≡ true
        → (stored_word t a ≡ 4294967295) ⊎ (stored_word t a < patterns g)
    there true e h = inl (eqb-true _ _ e)
    there false e h = inr (ltb-true _ _ h)

    back : (stored_word t a ≡ 4294967295) ⊎ (stored_word t a < patterns g) → bad_entry g t a ≡ false
    back (inl e) = rw (eq-eqb (stored_word t a) empty_word e)
    back (inr l) = rw (lt-ltb (stored_word t a) (patterns g) l, or-true (eqb (stored_word t a) empty_word))

-- an entry that passes is told by the store's word
pub passed_entry : (g : Geometry) → Facts g → (t : Tables) (a : ℕ) → bad_entry g t a ≡ false → word_of (stored_entry g t a) ≡ stored_word t a
unfolding word_of entry_of
passed_entry g f t a h = go ((entry_passes g t a).0 h)
  where
    go : (stored_word t a ≡ 4294967295) ⊎ (stored_word t a < patterns g) → word_of (stored_entry g t a) ≡ stored_word t a
    go (inl e) = rw (le-ltb (stored_word t a) (patterns g) (omega (arith, patterns_most g f))) (sym e)
    go (inr l) = rw (lt-ltb (stored_word t a) (patterns g) l)

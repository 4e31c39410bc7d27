-- Entries of a geometry and their words: each is told by the other.
use Rattle.std.proofs.Common.{◌≡◌, ℕ, ◌<◌, Bool, true, false, cond, ltb, refl, arith, ltb-true, le-ltb, lt-ltb}
use Rattle.geometry.specs.declared.Geometry.{Geometry}
use Rattle.geometry.specs.Sizes.{patterns}
use Rattle.geometry.proofs.Facts.{Facts, patterns_most}
use Rattle.reference.specs.Entry.{Entry, empty, pattern, empty_word, word_of, entry_of, Fits}

pub empty_fits : (g : Geometry) → Fits g empty
empty_fits g p e = absurd (let clash : ◌≡◌ {A = ℕ} 0 1 = cc in omega arith)

pub pattern_fits : (g : Geometry) (q : ℕ) → q < patterns g → Fits g (pattern q)
pattern_fits g q h p e = let same : q ≡ p = cc in omega arith

-- what a word of the store holds is an entry of the geometry
pub word_fits : (g : Geometry) (w : ℕ) → Fits g (entry_of g w)
unfolding entry_of
word_fits g w = go (ltb w (patterns g)) refl
  where
    go : (b : Bool) → ltb w (patterns g) ≡ b → Fits g (cond b (pattern w) empty)
    go true e = pattern_fits g w (ltb-true w (patterns g) e)
    go false e = empty_fits g

-- an entry of the geometry is what its word holds
pub entry_word : (g : Geometry) → Facts g → (e : Entry) → Fits g e → entry_of g (word_of e) ≡ e
unfolding entry_of word_of
entry_word g f empty h = rw (le-ltb empty_word (patterns g) (omega (arith, patterns_most g f)))
entry_word g f (pattern p) h = rw (lt-ltb p (patterns g) (h p refl))

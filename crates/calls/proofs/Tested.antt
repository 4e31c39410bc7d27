-- What the code finds of a word of the store is what row 5 of the table tests, and the entry that
-- the address holds.
use Rattle.std.proofs.Common.{◌≡◌, ℕ, Bool, true, false, cond, not, ◌||◌, eqb, ltb, List, Ok, Err, Option, Result, refl, sym, ap, ◌∙◌}
use Rattle.geometry.specs.declared.Geometry.{Geometry}
use Rattle.reference.specs.Entry.{Entry, empty, pattern, empty_word, entry_of}
use Rattle.reference.specs.Tables.{stored_word, stored_entry}
use Rattle.reference.specs.Steps.{bad_entry}
use Rattle.sizes.specs.declared.Sizes.{Sizes}
use Rattle.sizes.specs.SizesOf.{IsSized}
use Rattle.checks.specs.declared.Refusal.{Refusal}
use Rattle.checks.specs.declared.Refusal.TheVariants.{BadEntry}
use Rattle.checks.specs.Checks.{refused_if}
use Rattle.calls.specs.Answers.{tables, entry_for, checked_entry}

-- w is the word that the store has at address a
module _ {g : Geometry} {z : Sizes} (f : IsSized g z) (s i : List ℕ) (a w : ℕ) (is : w ≡ stored_word (tables s i) a) where
  pub entry_bad : bad_entry g (tables s i) a ≡ not (eqb w empty_word || ltb w z.patterns)
  unfolding bad_entry
  entry_bad = rw (is, f.same_patterns)

  pub entry_held : cond (ltb w z.patterns) (pattern w) empty ≡ stored_entry g (tables s i) a
  unfolding entry_of
  entry_held = rw (is, f.same_patterns)

  -- `sound` is what the code found of it
  module _ {sound : Bool} (tested : sound ≡ (eqb w empty_word || ltb w z.patterns)) where
    bad : bad_entry g (tables s i) a ≡ not sound
    bad = entry_bad ∙ ap not (sym tested)

    pub entry_refused : {why : Refusal} → Err why ≡ refused_if BadEntry (not sound)
        → Err why ≡ checked_entry g (tables s i) a
    entry_refused {why} e = rw bad (go sound e)
      where
        go : (b : Bool) → Err why ≡ refused_if BadEntry (not b) → ◌≡◌ {A = Result Entry Refusal} (Err why) (cond (not b) (Err BadEntry) (Ok (stored_entry g (tables s i) a)))
        go true e = absurd (cc)
        go false e = cc

    -- x is the code's entry there
    pub entry_given : {u : Unit {0}} → Ok u ≡ refused_if BadEntry (not sound) → (x : Option ℕ) → entry_for x ≡ cond (ltb w z.patterns) (pattern w) empty
        → Ok (entry_for x) ≡ checked_entry g (tables s i) a
    entry_given {u} e x holds = rw (bad, holds ∙ entry_held) (go sound e)
      where
        go : (b : Bool) → Ok u ≡ refused_if BadEntry (not b)
            → ◌≡◌ {A = Result Entry Refusal} (Ok (stored_entry g (tables s i) a)) (cond (not b) (Err BadEntry) (Ok (stored_entry g (tables s i) a)))
        go true e = refl
        go false e = absurd (cc)

-- which of its two ways row 5 went
pub bad_there : (b : Bool) (y : Entry) {why : Refusal} → ◌≡◌ {A = Result Entry Refusal} (Err why) (cond b (Err BadEntry) (Ok y)) → (b ≡ true) × (why ≡ BadEntry)
bad_there true y e = (refl, cc)
bad_there false y e = absurd (cc)

pub held_there : (b : Bool) (y : Entry) {x : Entry} → ◌≡◌ {A = Result Entry Refusal} (Ok x) (cond b (Err BadEntry) (Ok y)) → (b ≡ false) × (x ≡ y)
held_there true y e = absurd (cc)
held_there false y e = (refl, cc)

-- What the code finds at an address: its word is neither empty nor a pattern, or else what its
-- entry lacks.
use Rattle.std.proofs.Common.{◌≡◌, ℕ, true, Ok, Err, Option}
use Rattle.geometry.specs.Sizes.{set_of}
use Rattle.checks.specs.declared.lent.Tables.{Tables}
use Rattle.checks.specs.declared.Refusal.{Refusal}
use Rattle.calls.specs.Answers.{tables_in, entry_for, checked_entry}
use Rattle.calls.proofs.Tested.{bad_there, held_there}
use Rattle.amiss.specs.Amiss.{lacks, is_amiss}

module _ (t : Tables) (a : ℕ) where
  pub amiss_bad : {why : Refusal} → Err why ≡ checked_entry t.layout.geometry (tables_in t) a
      → true ≡ is_amiss t.layout.geometry (tables_in t) a
  unfolding is_amiss
  amiss_bad given = rw ((bad_there _ _ given).0)

  -- x is the code's entry there
  pub amiss_lacks : (x : Option ℕ) → Ok (entry_for x) ≡ checked_entry t.layout.geometry (tables_in t) a
      → lacks t.layout.geometry t.indicators.now (set_of t.layout.geometry a) (entry_for x) ≡ is_amiss t.layout.geometry (tables_in t) a
  unfolding is_amiss
  amiss_lacks x given = let there = held_there _ _ given in rw (there.0, there.1)

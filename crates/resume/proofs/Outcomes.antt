-- The ways a resume ends, as its step: refused by rows 1 and 2, which its check tests, or row 10
-- decides.
use Rattle.std.proofs.Common.{◌≡◌, ℕ, Bool, true, false, not, ◌||◌, List, [], ◌∷◌, length, Ok, Err, Option, Result, sym, ap, ◌∙◌}
use Rattle.std.proofs.Math.Bool.{or-false}
use Rattle.std.specs.Borrow.{Bor}
use Rattle.machines.specs.Refusals.{◌given_when◌, first_refusal}
use Rattle.geometry.specs.declared.Geometry.{Geometry}
use Rattle.geometry.specs.Stages.{tables_fit}
use Rattle.reference.specs.Tables.{Tables}
use Rattle.reference.specs.Steps.{bad_lengths}
use Rattle.reference.specs.Resume.{bad_tables, resume_refusals, Resumption, resume_step}
use Rattle.sizes.specs.declared.Sizes.{Sizes}
use Rattle.checks.specs.declared.Refusal.{Refusal}
use Rattle.checks.specs.declared.Refusal.TheVariants.{BadTables}
use Rattle.checks.specs.declared.lent.Tables as lent_tables
use Rattle.checks.specs.Checks.{refused_if, checked_tables}
use Rattle.checks.proofs.Rows.{Reaches, tables_stop, tables_pass, row_idle}
use Rattle.calls.specs.Answers.{tables, tables_in}
use Rattle.resume.specs.Resumed.{resumption_for}

-- the tables that are lent
module _ (g : Geometry) (store indicators : Bor (List ℕ)) where
  abbrev given : Tables
  given = tables store.now indicators.now

  abbrev check : Result Sizes Refusal
  check = checked_tables g (length store.now) (length indicators.now)

  abbrev leaves : Option ℕ → Resumption
  leaves n = record { refusal = n; tables = given }

  rows : (not (tables_fit g (length store.now) (length indicators.now)) || false) ≡ bad_lengths g given
  unfolding bad_lengths
  rows = or-false _

  pub resumption_for_refused : {why : Refusal} → Err why ≡ check → resumption_for (Err why) store.now indicators.now ≡ resume_step g given
  unfolding resume_step resume_refusals
  resumption_for_refused e = ap leaves (sym (tables_stop g (length store.now) (length indicators.now) false (10 given_when bad_tables g given ∷ []) rows e))

  -- row 10 comes next
  reached : {z : Sizes} → Ok z ≡ check → Reaches (resume_refusals g given) (10 given_when bad_tables g given ∷ [])
  unfolding resume_refusals
  reached e = row_idle 2 (tables_pass g (length store.now) (length indicators.now) false (10 given_when bad_tables g given ∷ []) rows e)

  -- t are the tables that the code has, and b is what both looks found of them
  pub resumption_for_passed : (t : lent_tables.Tables) {b : Bool} → Ok t.layout.sizes ≡ check → t.layout.geometry ≡ g → (t.store ≡ store) × (t.indicators ≡ indicators)
      → b ≡ bad_tables t.layout.geometry (tables_in t) → resumption_for (refused_if BadTables b) store.now indicators.now ≡ resume_step g given
  unfolding resume_step first_refusal
  resumption_for_passed t {b} e own lends found = go b (sym ((reached e).same ∙ rw (found, own, lends.0, lends.1)))
    where
      go : (b : Bool) → first_refusal (10 given_when b ∷ []) ≡ first_refusal (resume_refusals g given) → resumption_for (refused_if BadTables b) store.now indicators.now ≡ resume_step g given
      go true h = ap leaves h
      go false h = ap leaves h

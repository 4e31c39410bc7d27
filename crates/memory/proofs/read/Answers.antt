-- `memory::read` meets its contract: rows 1 to 3 as they are tested, and what `entry_at` gives.
use Rattle.std.proofs.Common.{◌<◌, [], ◌∷◌, refl, ◌∙◌, arith}
use Rattle.machines.specs.Refusals.{◌given_when◌}
use Rattle.reference.specs.Calls.{read, lent_word}
use Rattle.reference.specs.Steps.{bad_matches, bad_entry, own_refusals, refusals}
use Rattle.checks.proofs.Rows.{Reaches}
use Rattle.calls.specs.Answers.{tables}
use Rattle.calls.proofs.Decided.{outcome_for_refused, outcome_of_rest, outcome_for_tables, call_lent, address_stops, address_passes}
use Rattle.memory.proofs.Outcomes.{outcome_for_read}
use Rattle.memory.proofs.read.Goals as goal
use Rattle.memory.proofs.read.Goals.{In_ok-row}

pub returns-in_err-layout : goal.returns-in_err-layout
unfolding lent_word
returns-in_err-layout c = outcome_for_tables _ _ _ (read _) _ _ _ c.from_residual.ensures c.in_err-layout.ensures.given

-- then row 5 comes next, and the address is one
address_passed : (c : In_ok-row) → Reaches (refusals c.args.g (tables c.args.store.now c.args.indicators.now) (read c.args.address.0))
    (5 given_when bad_entry c.args.g (tables c.args.store.now c.args.indicators.now) c.args.address.0 ∷ [])
    × (c.args.address.0 < c.args.g.depth)
unfolding own_refusals bad_matches
address_passed c = address_passes _ _ (read _) _ refl refl c.in_ok-layout.ensures.given c.is_outside.ensures c.in_ok-row.ensures

pub returns-in_err-row : goal.returns-in_err-row
unfolding lent_word own_refusals bad_matches
returns-in_err-row c =
    outcome_for_refused _ _ _ (read _) _ _ _ c.from_residual-in_err-row.ensures
    (address_stops _ _ (read _) _ refl refl c.in_ok-layout.ensures.given c.is_outside.ensures c.in_err-row.ensures)

pub entry_at-requires : goal.entry_at-requires
entry_at-requires c =
    let known = c.in_ok-layout.ensures in
    let lent = call_lent _ (tables c.args.store.now c.args.indicators.now) c.in_ok-layout.layout known.given known.its_own in
    omega (arith, lent.entries, (address_passed (goal.at.entry_at-requires c).In_ok-row).1)

pub returns : goal.returns
returns c =
    outcome_for_read _ _ c.args.indicators.now _ _ (rw c.in_ok-layout.ensures.its_own at (c.entry_at.ensures c.args.indicators.now))
    ∙ outcome_of_rest _ _ _ (read _) (address_passed (goal.at.returns c).In_ok-row).0

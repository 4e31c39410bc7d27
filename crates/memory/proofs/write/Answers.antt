-- `memory::write` meets its contract: rows 1 to 4 as they are tested, and what `replace` does.
use Rattle.std.proofs.Common.{◌<◌, [], ◌∷◌, refl, ◌∙◌}
use Rattle.machines.specs.Refusals.{◌given_when◌}
use Rattle.reference.specs.Calls.{write, lent_word}
use Rattle.reference.specs.Refusals.{bad_pattern}
use Rattle.reference.specs.Steps.{bad_matches, bad_entry, own_refusals, refusals, accepted_outcome}
use Rattle.checks.proofs.Rows.{Reaches}
use Rattle.calls.specs.Answers.{tables}
use Rattle.calls.proofs.Decided.{outcome_for_refused, outcome_of_rest, outcome_for_tables, call_lent, address_stops, address_passes, pattern_stops, pattern_passes}
use Rattle.memory.proofs.Outcomes.{outcome_for_replace}
use Rattle.memory.proofs.write.Goals as goal
use Rattle.memory.proofs.write.Goals.{In_ok-row}

pub returns-in_err-layout : goal.returns-in_err-layout
unfolding lent_word
returns-in_err-layout c = outcome_for_tables _ _ _ (write _ _) _ _ _ c.from_residual.ensures c.in_err-layout.ensures.given

-- then row 4 comes next, and the address is one
address_passed : (c : In_ok-row) → Reaches (refusals c.args.g (tables c.args.store.now c.args.indicators.now) (write c.args.address.0 c.args.pattern))
    (4 given_when bad_pattern c.args.g c.args.pattern ∷ 5 given_when bad_entry c.args.g (tables c.args.store.now c.args.indicators.now) c.args.address.0 ∷ [])
    × (c.args.address.0 < c.args.g.depth)
unfolding own_refusals bad_matches
address_passed c = address_passes _ _ (write _ _) _ refl refl c.in_ok-layout.ensures.given c.is_outside.ensures c.in_ok-row.ensures

pub returns-in_err-row : goal.returns-in_err-row
unfolding lent_word own_refusals bad_matches
returns-in_err-row c =
    outcome_for_refused _ _ _ (write _ _) _ _ _ c.from_residual-in_err-row.ensures
    (address_stops _ _ (write _ _) _ refl refl c.in_ok-layout.ensures.given c.is_outside.ensures c.in_err-row.ensures)

pub returns-in_err-pattern : goal.returns-in_err-pattern
unfolding lent_word
returns-in_err-pattern c =
    let reached = (address_passed (goal.at.returns-in_err-pattern c).In_ok-row).0 in
    outcome_for_refused _ _ _ (write _ _) _ _ _ c.from_residual-in_err-pattern.ensures
    (pattern_stops _ _ reached c.in_ok-layout.layout c.in_ok-layout.ensures.its_own c.in_err-pattern.ensures)

pub replace-requires : goal.replace-requires
replace-requires c =
    let known = c.in_ok-layout.ensures in
    rw known.its_own (record {
      lent = call_lent _ _ c.in_ok-layout.layout known.given known.its_own;
      inside = (address_passed (goal.at.replace-requires c).In_ok-row).1;
    })

pub returns : goal.returns
unfolding lent_word accepted_outcome
returns c =
    let x = c.args in
    let known = c.in_ok-layout.ensures in
    let reached = (pattern_passes x.g x.pattern (address_passed (goal.at.returns c).In_ok-row).0 c.in_ok-layout.layout known.its_own c.in_ok-pattern.ensures).0 in
    rw known.its_own at c.replace.ensures ∙ outcome_for_replace _ _ _ _ (write _ _) refl refl ∙ outcome_of_rest _ _ _ (write _ _) reached

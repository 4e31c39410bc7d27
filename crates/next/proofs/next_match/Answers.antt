-- `next::next_match` meets its contract: rows 1 to 4 as they are tested, and what is found.
use Rattle.std.proofs.Common.{[], ◌∷◌, refl, ◌∙◌}
use Rattle.machines.specs.Refusals.{◌given_when◌}
use Rattle.reference.specs.Calls.{next_match, lent_word}
use Rattle.reference.specs.Refusals.{bad_pattern}
use Rattle.reference.specs.Search.{is_false, next_found, next_of}
use Rattle.reference.specs.Steps.{bad_matches, own_refusals, refusals, accepted_outcome}
use Rattle.checks.specs.Checks.{result_map}
use Rattle.checks.proofs.Rows.{Reaches}
use Rattle.calls.specs.Answers.{tables}
use Rattle.calls.specs.declared.Answer.TheVariants.{Next}
use Rattle.calls.proofs.Decided.{outcome_for_refused, outcome_of_rest, outcome_for_tables, address_stops, address_passes, pattern_stops, pattern_passes, outcome_for_searched}
use Rattle.next.proofs.next_match.Goals as goal
use Rattle.next.proofs.next_match.Goals.{In_ok-row}

pub returns-in_err-tables : goal.returns-in_err-tables
unfolding lent_word
returns-in_err-tables c = outcome_for_tables _ _ _ (next_match _ _) _ _ _ c.from_residual.ensures c.in_err-tables.ensures.given

pub returns-in_err-row : goal.returns-in_err-row
unfolding lent_word own_refusals bad_matches
returns-in_err-row c =
    outcome_for_refused _ _ _ (next_match _ _) _ _ _ c.from_residual-in_err-row.ensures
    (address_stops _ _ (next_match _ _) _ refl refl c.in_ok-tables.ensures.given c.is_outside.ensures c.in_err-row.ensures)

-- then row 4 comes next
address_passed : (c : In_ok-row) → Reaches (refusals c.args.g (tables c.args.store.now c.args.indicators.now) (next_match c.args.address.0 c.args.key))
    (4 given_when bad_pattern c.args.g c.args.key
    ∷ 6 given_when is_false (next_found c.args.g (tables c.args.store.now c.args.indicators.now) c.args.address.0 c.args.key) ∷ [])
unfolding own_refusals bad_matches
address_passed c = (address_passes _ _ (next_match _ _) _ refl refl c.in_ok-tables.ensures.given c.is_outside.ensures c.in_ok-row.ensures).0

pub returns-in_err-pattern : goal.returns-in_err-pattern
unfolding lent_word
returns-in_err-pattern c =
    outcome_for_refused _ _ _ (next_match _ _) _ _ _ c.from_residual-in_err-pattern.ensures
    (pattern_stops c.args.g c.args.key (address_passed (goal.at.returns-in_err-pattern c).In_ok-row) c.in_ok-tables.tables.layout c.in_ok-tables.ensures.its_own c.in_err-pattern.ensures)

pub returns : goal.returns
unfolding lent_word accepted_outcome next_of
returns c =
    let x = c.args in
    let known = c.in_ok-tables.ensures in
    let reached = (pattern_passes x.g x.key (address_passed (goal.at.returns c).In_ok-row) c.in_ok-tables.tables.layout known.its_own c.in_ok-pattern.ensures).0 in
    outcome_for_searched x.g x.store.now x.indicators.now (next_match x.address.0 x.key) (next_found x.g (tables x.store.now x.indicators.now) x.address.0 x.key) next_of refl refl refl
    (result_map Next c.found.result) (rw (known.its_own, known.lends.0, known.lends.1) at c.found.ensures)
    ∙ outcome_of_rest _ _ _ (next_match _ _) reached

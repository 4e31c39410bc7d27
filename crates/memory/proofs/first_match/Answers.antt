-- `memory::first_match` meets its contract: rows 1, 2 and 4 as they are tested, and what the search
-- finds.
use Rattle.std.proofs.Common.{◌≡◌, ℕ, [], ◌∷◌, length, Ok, refl, ◌∙◌}
use Rattle.machines.specs.Refusals.{◌given_when◌}
use Rattle.geometry.specs.declared.Geometry.{Geometry}
use Rattle.reference.specs.Calls.{first_match, lent_word}
use Rattle.reference.specs.Refusals.{bad_pattern}
use Rattle.reference.specs.Tables.{Tables}
use Rattle.reference.specs.Search.{is_false, first_found, answer_of}
use Rattle.reference.specs.Steps.{bad_matches, own_refusals, refusals, accepted_outcome}
use Rattle.sizes.specs.declared.Sizes.{Sizes}
use Rattle.checks.specs.Checks.{result_map, checked_tables}
use Rattle.checks.proofs.Rows.{Reaches}
use Rattle.calls.specs.Answers.{tables}
use Rattle.calls.specs.declared.Answer.TheVariants.{Searched}
use Rattle.calls.proofs.Decided.{outcome_for_refused, outcome_of_rest, outcome_for_tables, plain_reaches, pattern_stops, pattern_passes, outcome_for_searched}
use Rattle.memory.proofs.first_match.Goals as goal

-- with tables of their lengths row 4 comes next
lengths_passed : (g : Geometry) (t : Tables) (key : ℕ) {s : Sizes} → Ok s ≡ checked_tables g (length t.store) (length t.indicators)
    → Reaches (refusals g t (first_match key)) (4 given_when bad_pattern g key ∷ 6 given_when is_false (first_found g t key) ∷ [])
unfolding bad_matches own_refusals
lengths_passed g t key e = plain_reaches g t (first_match key) refl e

pub returns-in_err-tables : goal.returns-in_err-tables
unfolding lent_word
returns-in_err-tables c = outcome_for_tables _ _ _ (first_match _) _ _ _ c.from_residual.ensures c.in_err-tables.ensures.given

pub returns-in_err-pattern : goal.returns-in_err-pattern
unfolding lent_word
returns-in_err-pattern c =
    let x = c.args in
    let known = c.in_ok-tables.ensures in
    let reached = lengths_passed x.g (tables x.store.now x.indicators.now) x.key known.given in
    outcome_for_refused _ _ _ (first_match _) _ _ _ c.from_residual-in_err-pattern.ensures
    (pattern_stops x.g x.key reached c.in_ok-tables.tables.layout known.its_own c.in_err-pattern.ensures)

pub returns : goal.returns
unfolding lent_word accepted_outcome answer_of
returns c =
    let x = c.args in
    let known = c.in_ok-tables.ensures in
    let reached = (pattern_passes x.g x.key (lengths_passed x.g (tables x.store.now x.indicators.now) x.key known.given) c.in_ok-tables.tables.layout known.its_own c.in_ok-pattern.ensures).0 in
    outcome_for_searched x.g x.store.now x.indicators.now (first_match x.key) (first_found x.g (tables x.store.now x.indicators.now) x.key) answer_of refl refl refl
    (result_map Searched c.first.result) (rw (known.its_own, known.lends.0, known.lends.1) at c.first.ensures)
    ∙ outcome_of_rest _ _ _ (first_match _) reached

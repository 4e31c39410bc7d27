-- `memory::all_match` meets its contract: rows 1, 2, 4 and 6 as they are tested, then the marks on
-- a match word of zeros.
use Rattle.std.proofs.Common.{◌≡◌, ℕ, not, eqb, List, [], ◌∷◌, length, replicate, Ok, ap, ◌∙◌, arith, rules, eqb-true}
use Rattle.std.proofs.Math.ListN.{length-replicate}
use borrow.Author.Tests.{not-false}
use Rattle.machines.specs.Refusals.{◌given_when◌, first_refusal}
use Rattle.geometry.specs.declared.Geometry.{Geometry}
use Rattle.geometry.specs.Sizes.{match_words}
use Rattle.geometry.proofs.Facts.{facts}
use Rattle.geometry.proofs.Places.{matches_least}
use Rattle.reference.specs.Calls.{all_match, lent_word}
use Rattle.reference.specs.Refusals.{bad_pattern}
use Rattle.reference.specs.Tables.{Tables}
use Rattle.reference.specs.Search.{any_is_false}
use Rattle.reference.specs.Steps.{bad_matches, own_refusals, refusals, outcome}
use Rattle.sizes.specs.declared.Sizes.{Sizes}
use Rattle.checks.specs.declared.Refusal.TheVariants.{BadLengths, FalseSet}
use Rattle.checks.specs.Checks.{checked_tables}
use Rattle.checks.proofs.Rows.{Reaches, row_stops, row_passes}
use Rattle.calls.specs.Answers.{tables}
use Rattle.collect.proofs.Marking.{length-marked_words}
use Rattle.calls.proofs.Decided.{outcome_for_refused, outcome_of_rest, outcome_for_tables, call_reaches, pattern_stops, pattern_passes}
use Rattle.memory.proofs.Outcomes.{outcome_for_matched}
use Rattle.memory.proofs.all_match.Goals as goal
use Rattle.memory.proofs.all_match.Goals.{In_ok-match_word}

-- with tables of their lengths row 2 has still to look at the match word
lengths_passed : (g : Geometry) (t : Tables) (key : ℕ) (m : List ℕ) {s : Sizes} → Ok s ≡ checked_tables g (length t.store) (length t.indicators)
    → Reaches (refusals g t (all_match key m)) (2 given_when not (eqb (length m) (match_words g)) ∷ 4 given_when bad_pattern g key ∷ 6 given_when any_is_false g t key ∷ [])
unfolding bad_matches own_refusals
lengths_passed g t key m e = call_reaches g t (all_match key m) e

pub returns-in_err-tables : goal.returns-in_err-tables
unfolding lent_word
returns-in_err-tables c = outcome_for_tables _ _ _ (all_match _ _) _ _ _ c.from_residual.ensures c.in_err-tables.ensures.given

pub returns-in_err-match_word : goal.returns-in_err-match_word
unfolding lent_word
returns-in_err-match_word c =
    let x = c.args in
    let known = c.in_ok-tables.ensures in
    let reached = lengths_passed x.g (tables x.store.now x.indicators.now) x.key x.matches.now known.given in
    outcome_for_refused _ _ _ (all_match _ _) _ _ _ c.from_residual-in_err-match_word.ensures
    (row_stops BadLengths reached (rw known.its_own at c.in_err-match_word.ensures))

-- then row 4 comes next, and the match word has its length
matches_passed : (c : In_ok-match_word) → Reaches (refusals c.args.g (tables c.args.store.now c.args.indicators.now) (all_match c.args.key c.args.matches.now))
    (4 given_when bad_pattern c.args.g c.args.key ∷ 6 given_when any_is_false c.args.g (tables c.args.store.now c.args.indicators.now) c.args.key ∷ [])
    × (length c.args.matches.now ≡ match_words c.args.g)
matches_passed c =
    let x = c.args in
    let known = c.in_ok-tables.ensures in
    let reached = lengths_passed x.g (tables x.store.now x.indicators.now) x.key x.matches.now known.given in
    let p = row_passes BadLengths reached (rw known.its_own at c.in_ok-match_word.ensures) in
    (p.0, eqb-true _ _ (not-false _ p.1))

pub returns-in_err-pattern : goal.returns-in_err-pattern
unfolding lent_word
returns-in_err-pattern c =
    let x = c.args in
    let reached = (matches_passed (goal.at.returns-in_err-pattern c).In_ok-match_word).0 in
    outcome_for_refused _ _ _ (all_match _ _) _ _ _ c.from_residual-in_err-pattern.ensures
    (pattern_stops x.g x.key reached c.in_ok-tables.tables.layout c.in_ok-tables.ensures.its_own c.in_err-pattern.ensures)

pub returns-in_err-row : goal.returns-in_err-row
unfolding lent_word
returns-in_err-row c =
    let x = c.args in
    let known = c.in_ok-tables.ensures in
    let reached = (pattern_passes x.g x.key (matches_passed (goal.at.returns-in_err-row c).In_ok-match_word).0 c.in_ok-tables.tables.layout known.its_own c.in_ok-pattern.ensures).0 in
    let found = rw (known.its_own, known.lends.0, known.lends.1) at c.any_is_false.ensures in
    outcome_for_refused _ _ _ (all_match _ _) _ _ _ c.from_residual-in_err-row.ensures
    (row_stops FalseSet reached (rw found at c.in_err-row.ensures))

pub total_ones-requires : goal.total_ones-requires
total_ones-requires c =
    let zeros : c.fill.new.self ≡ replicate (length c.args.matches.now) 0 = search rules in
    let long = (matches_passed (goal.at.total_ones-requires c).In_ok-match_word).1 in
    let f = facts _ (rw c.in_ok-tables.ensures.its_own at c.in_ok-tables.tables.layout.sized.valid) in
    omega (arith, matches_least _ f, f.depth_most, ap length c.take_all.ensures ∙ length-marked_words _ _ ∙ ap length zeros ∙ length-replicate _ _ ∙ long)

pub returns : goal.returns
unfolding outcome first_refusal
returns c =
    let x = c.args in
    let known = c.in_ok-tables.ensures in
    let lengths = matches_passed (goal.at.returns c).In_ok-match_word in
    let reached = (pattern_passes x.g x.key lengths.0 c.in_ok-tables.tables.layout known.its_own c.in_ok-pattern.ensures).0 in
    let found = rw (known.its_own, known.lends.0, known.lends.1) at c.any_is_false.ensures in
    let zeros : c.fill.new.self ≡ replicate (length x.matches.now) 0 = search rules in
    outcome_for_matched x.g x.store.now x.indicators.now x.matches.now x.key _ _ _ (rw (known.its_own, known.lends.0, known.lends.1) at c.take_all.ensures) zeros
    lengths.1 c.total_ones.ensures
    ∙ outcome_of_rest x.g x.store.now x.indicators.now (all_match _ _) (row_passes FalseSet reached (rw found at c.in_ok-row.ensures)).0

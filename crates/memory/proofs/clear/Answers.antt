-- `memory::clear` meets its contract: refused by the check, or both tables are filled to their
-- lengths.
use Rattle.std.proofs.Common.{◌≡◌, [], length, replicate, Ok, refl, ◌∙◌, ap₂, rules}
use Rattle.machines.specs.Refusals.{first_refusal}
use Rattle.reference.specs.Entry.{empty_word}
use Rattle.reference.specs.Calls.{clear, lent_word}
use Rattle.reference.specs.Steps.{bad_matches, own_refusals, outcome}
use Rattle.calls.specs.Answers.{tables, outcome_for}
use Rattle.calls.specs.declared.Answer.TheVariants.{Cleared}
use Rattle.calls.proofs.Decided.{outcome_of_rest, outcome_for_tables, plain_reaches, call_lent}
use Rattle.memory.proofs.Outcomes.{outcome_for_cleared}
use Rattle.memory.proofs.clear.Goals as goal

pub returns-in_err-tables : goal.returns-in_err-tables
unfolding lent_word
returns-in_err-tables c = outcome_for_tables _ _ _ clear _ _ _ c.from_residual.ensures c.in_err-tables.ensures.given

pub returns : goal.returns
unfolding bad_matches own_refusals outcome first_refusal
returns c =
    let x = c.args in
    let t = tables x.store.now x.indicators.now in
    let known = c.in_ok-tables.ensures in
    let store : c.fill.new.self ≡ replicate (length x.store.now) empty_word = search rules in
    let indicators : c.fill-2.new.self ≡ replicate (length x.indicators.now) 0 = search rules in
    ap₂ (λ s i. outcome_for (Ok Cleared) s i []) store indicators
    ∙ outcome_for_cleared _ _ _ _ _ (call_lent x.g t c.in_ok-tables.field-0 known.given known.its_own)
    ∙ outcome_of_rest _ _ _ clear (plain_reaches x.g t clear refl known.given)

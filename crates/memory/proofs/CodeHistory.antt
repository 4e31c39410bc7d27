-- Demand 3 of the code: a chain of runs is the history of its calls, and that is the plain array's.
-- Shown for every kind of link from which a run is known to be its step (`Steps`), and then for
-- what the calls ensure.
use Rattle.std.proofs.Common.{◌≡◌, ℕ, List, map, sym, ap, ◌∙◌}
use Rattle.machines.proofs.Runs.{Are, chain_is, chain_each}
use Rattle.geometry.specs.declared.Geometry.{Geometry}
use Rattle.reference.specs.Calls.{Call, Answer, matches_after}
use Rattle.reference.specs.Tables.{Tables}
use Rattle.reference.specs.Steps.{Outcome, step}
use Rattle.reference.specs.History.{table_machine}
use Rattle.reference.proofs.Refused.{matches_after_is}
use Rattle.reference.proofs.History.{history, history_begins, later_numbers, equal_tables, clear_begins}
use Rattle.memory.specs.Runs.{Run, Made, by_call, by_perform, Chain, last_tables, ClearsBegin, ChainsFollow, ChainsBegin, ChainsRefuse, ChainsTell}

-- A run on the tables t is the step of its call, with the match word in its answer or else as lent.
pub record Steps (g : Geometry) (t : Tables) (x : Run) : Type 0 where
  pub answer : x.answer ≡ (step g t x.call).answer
  pub tables : x.tables ≡ (step g t x.call).tables
  pub matches : x.matches ≡ matches_after x.answer x.lent

-- what a call's outcome tells
outcome_steps : {g : Geometry} {t : Tables} {c : Call (List ℕ)} {o : Outcome} → o ≡ step g t c → {l : List ℕ}
    → (step g t c).matches ≡ matches_after (step g t c).answer l
    → Steps g t (record { call = c; lent = l; answer = o.answer; tables = o.tables; matches = o.matches })
outcome_steps e kept = record {
  answer = ap (λ (o : Outcome). o.answer) e;
  tables = ap (λ (o : Outcome). o.tables) e;
  matches = rw e kept;
}

pub made_steps : (g : Geometry) (t : Tables) (x : Run) → Made g t x → Steps g t x
made_steps g t x (by_call c r s i m e) = outcome_steps e (matches_after_is g t c)
made_steps g t x (by_perform call r after m m' p) = record {
  answer = p.answer;
  tables = p.tables_after;
  matches = p.matches ∙ ap (λ (a : Answer). matches_after a m) (sym p.answer);
}

-- An accepted clear begins, and a chain that begins with the tables of an array is a history that
-- does.
module _ {Link : Tables → Run → Type 0} (g : Geometry) (steps : (t : Tables) (x : Run) → Link t x → Steps g t x) where
  pub chain_clear_begins : ClearsBegin g Link
  chain_clear_begins t x link is ok =
      let s = steps t x link in
      rw (s.tables, is) (clear_begins g t (sym (rw is at s.answer) ∙ ok))

  ran : (t : Tables) (xs : List Run) → Chain Link t xs
      → Are (table_machine g) (λ (o : Outcome). o.answer) (λ (x : Run). x.call) (λ (x : Run). x.answer) (λ (x : Run). x.tables) t xs
  ran = chain_is (table_machine g) _ _ _ _ (λ t x link. let s = steps t x link in record { same_answer = s.answer; same_state = s.tables })

  pub chain_follows : ChainsFollow g Link
  chain_follows t es b xs chain =
      let h = history g t es b (map (λ (x : Run). x.call) xs) in
      let r = ran t xs chain in
      record {
        answers = r.answers ∙ h.answers;
        matches = chain_each _ _ (λ t x link. (steps t x link).matches) t xs chain;
        tables = r.ends ∙ h.tables;
      }

  pub chain_begins : ChainsBegin g Link
  chain_begins t es b xs chain = rw (ran t xs chain).ends (history_begins g t es b (map (λ (x : Run). x.call) xs))

  pub chain_refuses : ChainsRefuse g Link
  chain_refuses t es b xs chain x link n e =
      later_numbers g t es b (map (λ (x : Run). x.call) xs) x.call n (rw (← (ran t xs chain).ends) (sym (steps (last_tables t xs) x link).answer ∙ e))

  pub chains_tell : ChainsTell g Link
  chains_tell t u es fs b c xs ys p q =
      rw ((ran t xs p).ends, (ran u ys q).ends) (equal_tables g t u es fs b c (map (λ (x : Run). x.call) xs) (map (λ (x : Run). x.call) ys))

-- The seven calls and `perform`, in any mixture.
module _ (g : Geometry) where
  pub code_clear_begins : ClearsBegin g (Made g)
  code_clear_begins = chain_clear_begins g (made_steps g)

  pub code_history : ChainsFollow g (Made g)
  code_history = chain_follows g (made_steps g)

  pub code_history_begins : ChainsBegin g (Made g)
  code_history_begins = chain_begins g (made_steps g)

  pub code_later_numbers : ChainsRefuse g (Made g)
  code_later_numbers = chain_refuses g (made_steps g)

  pub code_equal_tables : ChainsTell g (Made g)
  code_equal_tables = chains_tell g (made_steps g)

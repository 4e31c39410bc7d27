-- Rows 1 to 4 of the table at a call: what stops it, which rows are reached behind each, and what a
-- call leaves by either.
use Rattle.std.proofs.Common.{◌≡◌, ℕ, ◌<◌, Bool, false, leb, List, [], ◌∷◌, length, IsErrAnd, IsErr, Some, Ok, Err, Result, refl, sym, ap, leb-false}
use Rattle.machines.specs.Refusals.{RefusalRow, ◌given_when◌, first_refusal}
use Rattle.geometry.specs.declared.Geometry.{Geometry}
use Rattle.geometry.specs.Sizes.{patterns}
use Rattle.reference.specs.Calls as calls
use Rattle.reference.specs.Calls.{Call, refused, lent_word}
use Rattle.reference.specs.Refusals.{bad_address, bad_pattern}
use Rattle.reference.specs.Tables.{Tables}
use Rattle.reference.specs.Search.{Found, hit, nothing, false_set, is_false}
use Rattle.reference.specs.Steps.{bad_lengths, bad_matches, own_refusals, refusals, accepted_outcome, outcome, step}
use Rattle.sizes.specs.declared.Sizes.{Sizes}
use Rattle.sizes.specs.declared.layout.Layout.{Layout}
use Rattle.checks.specs.declared.Refusal.{Refusal}
use Rattle.checks.specs.declared.Refusal.TheVariants.{BadAddress, BadPattern}
use Rattle.checks.specs.Checks.{number_of, result_map, refused_if, checked_tables}
use Rattle.checks.specs.Passed.{IsLent}
use Rattle.checks.proofs.Acceptance.{handed_on, tables_lent}
use Rattle.calls.specs.declared.Answer.{Answer}
use Rattle.calls.specs.Answers.{answer_for, tables, outcome_for}
use Rattle.checks.proofs.Rows.{Reaches, row_stops, row_passes, tables_stop, tables_pass, row_idle}

-- What the rows decide of a call's table decides its step: the number of a refusal alone, or the
-- rows that are reached.
module _ (g : Geometry) (s i : List ℕ) (c : Call (List ℕ)) where
  -- r is what `?` hands on
  pub outcome_for_refused : {A : Type 0} (f : A → Answer) (why : Refusal) (r : Result A Refusal) → IsErr r × IsErrAnd r (λ e. e ≡ why)
      → first_refusal (refusals g (tables s i) c) ≡ Some (number_of why) → outcome_for (result_map f r) s i (lent_word c) ≡ step g (tables s i) c
  unfolding outcome step
  outcome_for_refused f why r handed e = rw (handed_on why r handed) (sym (ap (outcome g (tables s i) c) e))

  pub outcome_of_rest : {rest : List RefusalRow} → Reaches (refusals g (tables s i) c) rest → outcome g (tables s i) c (first_refusal rest) ≡ step g (tables s i) c
  unfolding step
  outcome_of_rest r = sym (ap (outcome g (tables s i) c) r.same)

module _ (g : Geometry) (t : Tables) (c : Call (List ℕ)) where
  pub call_stops : {w : Refusal} → Err w ≡ checked_tables g (length t.store) (length t.indicators) → first_refusal (refusals g t c) ≡ Some (number_of w)
  unfolding refusals bad_lengths
  call_stops = tables_stop g (length t.store) (length t.indicators) (bad_matches g c) (own_refusals g t c) refl

  -- where row 2 has still to look at a match word, if the call has one
  pub call_reaches : {s : Sizes} → Ok s ≡ checked_tables g (length t.store) (length t.indicators)
      → Reaches (refusals g t c) (2 given_when bad_matches g c ∷ own_refusals g t c)
  unfolding refusals bad_lengths
  call_reaches = tables_pass g (length t.store) (length t.indicators) (bad_matches g c) (own_refusals g t c) refl

  pub plain_reaches : bad_matches g c ≡ false → {s : Sizes} → Ok s ≡ checked_tables g (length t.store) (length t.indicators)
      → Reaches (refusals g t c) (own_refusals g t c)
  plain_reaches plain e = row_idle 2 (rw plain at (call_reaches e))

-- Where row 1 or 2 stops it, what `?` hands on is the call's step.
pub outcome_for_tables : {A : Type 0} (g : Geometry) (s i : List ℕ) (c : Call (List ℕ)) (f : A → Answer) (why : Refusal) (r : Result A Refusal)
    → IsErr r × IsErrAnd r (λ e. e ≡ why) → Err why ≡ checked_tables g (length s) (length i) → outcome_for (result_map f r) s i (lent_word c) ≡ step g (tables s i) c
outcome_for_tables g s i c f why r handed e = outcome_for_refused g s i c f why r handed (call_stops g (tables s i) c e)

-- What the layout of a check that passed tells of the tables.
pub call_lent : (g : Geometry) (t : Tables) (l : Layout) → Ok l.sizes ≡ checked_tables g (length t.store) (length t.indicators) → l.geometry ≡ g
    → IsLent g l.sizes (length t.store) (length t.indicators)
call_lent g t l given own = rw own at (tables_lent g _ _ l given own)

-- Rows 1 to 3 of a call at an address, which lends no match word; r is what the code's test found.
module _ (g : Geometry) (t : Tables) (c : Call (List ℕ)) (a : ℕ) {rest : List RefusalRow} (own : own_refusals g t c ≡ 3 given_when bad_address g a ∷ rest)
    (plain : bad_matches g c ≡ false) {s : Sizes} (given : Ok s ≡ checked_tables g (length t.store) (length t.indicators)) {r : Bool} (found : r ≡ leb g.depth a) where
  reached : Reaches (refusals g t c) (3 given_when bad_address g a ∷ rest)
  reached = rw own at (plain_reaches g t c plain given)

  pub address_stops : {w : Refusal} → Err w ≡ refused_if BadAddress r → first_refusal (refusals g t c) ≡ Some (number_of w)
  unfolding bad_address
  address_stops e = row_stops BadAddress reached (rw found at e)

  pub address_passes : {u : Unit {0}} → Ok u ≡ refused_if BadAddress r → Reaches (refusals g t c) rest × (a < g.depth)
  unfolding bad_address
  address_passes e = let p = row_passes BadAddress reached (rw found at e) in (p.0, leb-false g.depth a p.1)

-- Row 4, where it comes next, by the layout that the code has.
module _ {table rest : List RefusalRow} (g : Geometry) (p : ℕ) (reached : Reaches table (4 given_when bad_pattern g p ∷ rest)) (l : Layout) (own : l.geometry ≡ g) where
  limit : l.sizes.patterns ≡ patterns g
  limit = rw own at l.sized.same_patterns

  pub pattern_stops : {w : Refusal} → Err w ≡ refused_if BadPattern (leb l.sizes.patterns p) → first_refusal table ≡ Some (number_of w)
  unfolding bad_pattern
  pattern_stops e = row_stops BadPattern reached (rw limit at e)

  pub pattern_passes : {u : Unit {0}} → Ok u ≡ refused_if BadPattern (leb l.sizes.patterns p) → Reaches table rest × (bad_pattern g p ≡ false)
  unfolding bad_pattern
  pattern_passes e = row_passes BadPattern reached (rw limit at e)

-- Row 6 comes last, and it and the answer are made of one search, by `answers` of what that found.
pub outcome_for_searched : (g : Geometry) (s i : List ℕ) (c : Call (List ℕ)) (x : Found) (answers : Found → calls.Answer) → answers false_set ≡ refused 6 → lent_word c ≡ []
    → accepted_outcome g (tables s i) c ≡ record { answer = answers x; tables = tables s i; matches = [] }
    → (r : Result Answer Refusal) → answer_for r [] ≡ answers x
    → outcome_for r s i [] ≡ outcome g (tables s i) c (first_refusal (6 given_when is_false x ∷ []))
unfolding outcome first_refusal is_false
outcome_for_searched g s i c x answers six bare does r is = rw is (go x does)
  where
    go : (x : Found) → accepted_outcome g (tables s i) c ≡ record { answer = answers x; tables = tables s i; matches = [] }
        → record { answer = answers x; tables = tables s i; matches = [] } ≡ outcome g (tables s i) c (first_refusal (6 given_when is_false x ∷ []))
    go (hit a w n) e = sym e
    go (nothing w n) e = sym e
    go false_set e = rw (six, bare) refl

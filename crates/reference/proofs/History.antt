-- Statements 1 and 2: a history that begins with the tables of an array is that of the
-- plain array (rules 10.2 and 10.3 of docs/MEMORY.md), and two such histories of one geometry leave
-- equal tables exactly when they leave equal arrays (rule 10.4). By induction on the calls, with
-- `agrees` for each. A clear that is accepted leaves such tables; of a resume see Resume.
use Rattle.std.proofs.Common.{◌≡◌, ℕ, ◌↔◌, List, map, refl, sym, ap, ◌∙◌, inl, inr, ext_get_or}
use mathlib.Core.List.{zip_with}
use Rattle.machines.specs.Refusals.{NoneApplies, FirstApplies}
use Rattle.machines.proofs.Runs.{Keeps, Together, together, run_each}
use Rattle.machines.proofs.Refusals.{passed_none, refusal_first, first_refusal_is, Each, given_says}
use Rattle.geometry.specs.declared.Geometry.{Geometry}
use Rattle.geometry.proofs.Facts.{facts}
use Rattle.reference.specs.Entry.{empty}
use Rattle.reference.specs.Calls.{Call, clear, write, erase, read, first_match, next_match, all_match, shape, lent_word, matches_after, refused, cleared}
use Rattle.reference.specs.Array.{Array, empty_array, entry_at, IsSound, array_refusals, ArrayOutcome}
use Rattle.reference.specs.Tables.{Tables, stored_entry}
use Rattle.reference.specs.Image.{tables_of}
use Rattle.reference.specs.Steps.{bad_matches, refusals, accepted_outcome, outcome, step, Outcome}
use Rattle.reference.specs.History.{History, table_machine, array_machine, answers_of, matches_of, after, array_of}
use Rattle.reference.specs.Statements.{IsBegun, Follows, IsLater}
use Rattle.reference.proofs.Image.{store_entry}
use Rattle.reference.proofs.Emptied.{empty_array_sound, cleared_tables}
use Rattle.reference.proofs.Refused.{given_exactly, not_refused, passed_valid, matches_after_is}
use Rattle.reference.proofs.Agreement.{same_refusals, agrees}

-- ---- from the tables of an array on

matches_follow : (g : Geometry) (t : Tables) (cs : History)
    → matches_of g t cs ≡ zip_with matches_after (answers_of g t cs) (map lent_word cs)
matches_follow g = run_each (table_machine g) _ matches_after _ lent_word (matches_after_is g)

module _ (g : Geometry) where
  -- one call, on the tables and on the array
  abbrev CallKeeps : Tables → Array → Call (List ℕ) → Type 0
  CallKeeps = Keeps (table_machine g) (array_machine g) shape (λ (o : Outcome). o.answer) (λ (o : ArrayOutcome). o.answer) (IsBegun g)

  call_keeps : (t : Tables) (es : Array) → IsBegun g t es → (c : Call (List ℕ)) → CallKeeps t es c
  call_keeps t es b c =
      let same = agrees g b.valid es b.sound c in
      rw b.tables (record { answer = same.answer; related = record { valid = b.valid; sound = same.sound; tables = same.tables } })

  history_keeps : (t : Tables) (es : Array) → IsBegun g t es → (cs : History)
      → Together (table_machine g) (array_machine g) shape (λ (o : Outcome). o.answer) (λ (o : ArrayOutcome). o.answer) (IsBegun g) t es cs
  history_keeps = together (table_machine g) (array_machine g) shape _ _ (IsBegun g) call_keeps

-- arrays with equal tables are equal: the store tells every entry
array_told : (g : Geometry) (t : Tables) (es fs : Array) → IsBegun g t es → IsBegun g t fs → es ≡ fs
array_told g t es fs p q =
    ext_get_or empty es fs (p.sound.long ∙ sym q.sound.long) (λ a l. sym (told es p a) ∙ told fs q a)
  where
    told : (es : Array) → IsBegun g t es → (a : ℕ) → stored_entry g t a ≡ entry_at es a
    told es b a = rw b.tables (store_entry g (facts g b.valid) es b.sound a)

-- the plain array refuses with 2, 3 and 4 alone
array_numbers : (g : Geometry) (c : Call (List ℕ)) (n : ℕ) → FirstApplies (array_refusals g (shape c)) n → IsLater g c n
unfolding array_refusals shape bad_matches
array_numbers g c n f = given_says _ (array_refusals g (shape c)) n (each c) (first_refusal_is _ n f)
  where
    each : (c : Call (List ℕ)) → Each (IsLater g c) (array_refusals g (shape c))
    each clear = tt
    each (write a p) = (λ b. inl refl, (λ b. inr (inl refl), tt))
    each (erase a) = (λ b. inl refl, tt)
    each (read a) = (λ b. inl refl, tt)
    each (first_match key) = (λ b. inr (inl refl), tt)
    each (next_match a key) = (λ b. inl refl, (λ b. inr (inl refl), tt))
    each (all_match key m) = (λ b. inr (inr (refl, b)), (λ b. inr (inl refl), tt))

-- ---- what each history keeps that begins with the tables of an array

module _ (g : Geometry) (t : Tables) (es : Array) (b : IsBegun g t es) where
  pub history : (cs : History) → Follows g es t cs
  history cs = let kept = history_keeps g t es b cs in record { answers = kept.answers; matches = matches_follow g t cs; tables = kept.ends.tables }

  -- what it leaves can be gone on with
  pub history_begins : (cs : History) → IsBegun g (after g t cs) (array_of g es cs)
  history_begins cs = (history_keeps g t es b cs).ends

  -- it leaves an array of the geometry (rule 5.1)
  pub array_sound : (cs : History) → IsSound g (array_of g es cs)
  array_sound cs = (history_begins cs).sound

  -- a later call is stopped by the plain array's rows and by no other
  pub later_refusals : (cs : History) (c : Call (List ℕ)) (n : ℕ) → (step g (after g t cs) c).answer ≡ refused n → FirstApplies (array_refusals g (shape c)) n
  later_refusals cs c n h =
      let begun = history_begins cs in
      let given = first_refusal_is _ n ((given_exactly g (tables_of g (array_of g es cs)) c n).0 (rw begun.tables at h)) in
      refusal_first _ n (sym (same_refusals g begun.valid _ begun.sound c) ∙ given)

  -- So only 2, 3 and 4 are left, and 2 for the match word alone (rule 10.5).
  pub later_numbers : (cs : History) (c : Call (List ℕ)) (n : ℕ) → (step g (after g t cs) c).answer ≡ refused n → IsLater g c n
  later_numbers cs c n h = array_numbers g c n (later_refusals cs c n h)

pub equal_tables : (g : Geometry) (t u : Tables) (es fs : Array) → IsBegun g t es → IsBegun g u fs → (cs ds : History)
    → (after g t cs ≡ after g u ds) ↔ (array_of g es cs ≡ array_of g fs ds)
equal_tables g t u es fs b c cs ds =
    let t_begun = history_begins g t es b cs in
    let u_begun = history_begins g u fs c ds in
    (λ same. array_told g (after g t cs) _ _ t_begun (rw same u_begun), λ same. t_begun.tables ∙ ap (tables_of g) same ∙ sym u_begun.tables)

-- ---- the first way to begin: an accepted clear, whatever the tables held

pub passed_empties : (g : Geometry) (t : Tables) → NoneApplies (refusals g t clear) → (step g t clear).tables ≡ tables_of g (empty_array g)
unfolding step outcome accepted_outcome
passed_empties g t p = rw (passed_none (refusals g t clear) p) (cleared_tables g)

pub clear_begins : (g : Geometry) (t : Tables) → (step g t clear).answer ≡ cleared → IsBegun g (step g t clear).tables (empty_array g)
clear_begins g t e =
    let passed = not_refused g t clear cleared refl e in
    record { valid = passed_valid g t clear passed; sound = empty_array_sound g; tables = passed_empties g t passed }

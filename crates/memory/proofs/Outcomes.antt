-- What a call leaves that came to its last rows, as an outcome of its step.
use Rattle.std.proofs.Common.{◌≡◌, ℕ, Bool, true, false, cond, List, [], ◌∷◌, length, replicate, Ok, Err, Option, Result, sym}
use Rattle.words.specs.Bits.{total_ones}
use Rattle.machines.specs.Refusals.{◌given_when◌, first_refusal}
use Rattle.geometry.specs.declared.Geometry.{Geometry}
use Rattle.geometry.specs.Sizes.{match_words}
use Rattle.reference.specs.Entry.{Entry, empty_word}
use Rattle.reference.specs.Calls.{Call, clear, read, all_match, refused, held, lent_word}
use Rattle.reference.specs.Tables.{Tables, stored_entry}
use Rattle.reference.specs.Update.{replaced_tables}
use Rattle.reference.specs.Search.{is_taken, taken_words}
use Rattle.reference.specs.Steps.{bad_entry, accepted_outcome, clear_tables, outcome}
use Rattle.sizes.specs.declared.Sizes.{Sizes}
use Rattle.checks.specs.declared.Refusal.{Refusal}
use Rattle.checks.specs.Checks.{result_map}
use Rattle.checks.specs.Passed.{IsLent}
use Rattle.calls.specs.declared.Answer.TheVariants.{Cleared, Held, Matched}
use Rattle.calls.specs.Answers.{entry_for, checked_entry, tables, outcome_for}
use Rattle.calls.proofs.Tested.{bad_there, held_there}
use Rattle.update.specs.Replacing.{replace_outcome}
use Rattle.collect.specs.Marks.{marked_words}
use Rattle.collect.proofs.Marking.{marked_words_zeros}

-- Clear: tables filled to their lengths.
pub outcome_for_cleared : (g : Geometry) (t : Tables) (z : Sizes) (n m : ℕ) → IsLent g z n m
    → outcome_for (Ok Cleared) (replicate n empty_word) (replicate m 0) [] ≡ accepted_outcome g t clear
unfolding accepted_outcome clear_tables
outcome_for_cleared g t z n m l = rw (l.entries, l.words)

-- Write and erase, with row 5.
pub outcome_for_replace : (g : Geometry) (t : Tables) (a : ℕ) (e : Entry) (c : Call (List ℕ)) → lent_word c ≡ []
    → accepted_outcome g t c ≡ record { answer = held (stored_entry g t a); tables = replaced_tables g t a e; matches = [] }
    → replace_outcome g t a e ≡ outcome g t c (first_refusal (5 given_when bad_entry g t a ∷ []))
unfolding replace_outcome outcome first_refusal
outcome_for_replace g t a e c bare does = go (bad_entry g t a)
  where
    go : (b : Bool) → cond b (record { answer = refused 5; tables = t; matches = [] }) (record { answer = held (stored_entry g t a); tables = replaced_tables g t a e; matches = [] })
        ≡ outcome g t c (first_refusal (5 given_when b ∷ []))
    go true = rw bare
    go false = sym does

-- Read, with row 5; r is what the code gives of the address.
pub outcome_for_read : (g : Geometry) (s i : List ℕ) (a : ℕ) (r : Result (Option ℕ) Refusal) → result_map entry_for r ≡ checked_entry g (tables s i) a
    → outcome_for (result_map Held r) s i [] ≡ outcome g (tables s i) (read a) (first_refusal (5 given_when bad_entry g (tables s i) a ∷ []))
unfolding outcome first_refusal accepted_outcome lent_word
outcome_for_read g s i a (Err why) is = let there = bad_there _ _ is in rw (there.0, there.1)
outcome_for_read g s i a (Ok e) is = let there = held_there _ _ is in rw (there.0, there.1)

-- All-match: what is taken, marked on a match word of zeros, and its ones.
pub outcome_for_matched : (g : Geometry) (s i m : List ℕ) (key n : ℕ) (ws zs : List ℕ) → ws ≡ marked_words (is_taken g (tables s i) key) zs
    → zs ≡ replicate (length m) 0 → length m ≡ match_words g → n ≡ total_ones ws
    → outcome_for (Ok (Matched n)) s i ws ≡ accepted_outcome g (tables s i) (all_match key m)
unfolding accepted_outcome taken_words
outcome_for_matched g s i m key n ws zs e z l h = rw (h, e, z, l, marked_words_zeros (is_taken g (tables s i) key) (match_words g))

-- Statement 5: each number is given exactly when its row of the table applies and no row above it
-- does (rule 9.1 of docs/MEMORY.md), and a refused call leaves both tables and the match word as
-- they were (rule 9.2). On any tables.
use Rattle.std.proofs.Common.{◌≡◌, ℕ, Bool, true, false, ◌||◌, ◌↔◌, List, [], length, Some, None, Option, refl, sym, ap, ◌∙◌, true≢false}
use Rattle.std.proofs.Math.Bool.{false≢true}
use borrow.Author.Tests.{not-false}
use Rattle.machines.specs.Refusals.{first_refusal, NoneApplies, FirstApplies}
use Rattle.machines.proofs.Refusals.{passes, refusal_first, first_refusal_is}
use Rattle.geometry.specs.declared.Geometry.{Geometry}
use Rattle.geometry.specs.Valid.{is_valid}
use Rattle.geometry.specs.Stages.{indicator_words}
use Rattle.reference.specs.Calls.{Call, clear, write, erase, read, first_match, next_match, all_match, lent_word, matches_after, Answer, refused, cleared, held, at, none, next, matched}
use Rattle.reference.specs.Tables.{Tables}
use Rattle.reference.specs.Search.{Found, hit, nothing, false_set, is_false, first_found, next_found, answer_of, next_of}
use Rattle.reference.specs.Steps.{bad_lengths, bad_matches, own_refusals, refusals, accepted_outcome, outcome, step}
use Rattle.reference.proofs.Limits.{lengths_pass}

-- whether an answer is a refusal number
abbrev pub is_number : Answer → Bool
is_number (refused n) = true
is_number cleared = false
is_number (held e) = false
is_number (at a w c) = false
is_number (none w c) = false
is_number (next x) = false
is_number (matched ws n) = false

-- a first-match or next-match that finds no false set gives no number
found_no_number : (x : Found) → is_false x ≡ false → is_number (answer_of x) ≡ false
unfolding is_false answer_of
found_no_number (hit a w c) h = refl
found_no_number (nothing w c) h = refl
found_no_number false_set h = h

found_no_next : (x : Found) → is_false x ≡ false → is_number (next_of x) ≡ false
unfolding is_false next_of
found_no_next (hit a w c) h = refl
found_no_next (nothing w c) h = refl
found_no_next false_set h = h

accepted_no_number : (g : Geometry) (t : Tables) (c : Call (List ℕ)) → NoneApplies (own_refusals g t c) → is_number (accepted_outcome g t c).answer ≡ false
unfolding accepted_outcome own_refusals
accepted_no_number g t clear p = refl
accepted_no_number g t (write a q) p = refl
accepted_no_number g t (erase a) p = refl
accepted_no_number g t (read a) p = refl
accepted_no_number g t (first_match key) p = found_no_number (first_found g t key) p.1.0
accepted_no_number g t (next_match a key) p = found_no_next (next_found g t a key) p.1.1.0
accepted_no_number g t (all_match key m) p = refl

pub given_exactly : (g : Geometry) (t : Tables) (c : Call (List ℕ)) (n : ℕ) → ((step g t c).answer ≡ refused n) ↔ FirstApplies (refusals g t c) n
unfolding step outcome refusals
given_exactly g t c n = (λ e. refusal_first (refusals g t c) n (go (first_refusal (refusals g t c)) refl e), λ f. rw (first_refusal_is (refusals g t c) n f))
  where
    go : (r : Option ℕ) → first_refusal (refusals g t c) ≡ r → (outcome g t c r).answer ≡ refused n → r ≡ Some n
    go None s e = absurd (false≢true (sym (accepted_no_number g t c (passes (refusals g t c) s).1.1) ∙ ap is_number e))
    go (Some m) s e = cc

-- an answer that is no number: no row of the table applied
pub not_refused : (g : Geometry) (t : Tables) (c : Call (List ℕ)) (x : Answer) → is_number x ≡ false → (step g t c).answer ≡ x → NoneApplies (refusals g t c)
unfolding step outcome
not_refused g t c x other e = passes (refusals g t c) (go (first_refusal (refusals g t c)) refl e)
  where
    go : (r : Option ℕ) → first_refusal (refusals g t c) ≡ r → (outcome g t c r).answer ≡ x → first_refusal (refusals g t c) ≡ None
    go None s h = s
    go (Some n) s h = absurd (false≢true (sym other ∙ ap is_number (sym h)))

pub passed_valid : (g : Geometry) (t : Tables) (c : Call (List ℕ)) → NoneApplies (refusals g t c) → is_valid g ≡ true
unfolding refusals
passed_valid g t c p = not-false (is_valid g) p.0

-- both tables have their lengths
pub passed_lengths : (g : Geometry) (t : Tables) (c : Call (List ℕ)) → NoneApplies (refusals g t c)
    → (length t.store ≡ g.depth) × (length t.indicators ≡ indicator_words g)
unfolding refusals
passed_lengths g t c p = (lengths_pass g t).0 (first_half (bad_lengths g t) (bad_matches g c) p.1.0)
  where
    first_half : (a b : Bool) → (a || b) ≡ false → a ≡ false
    first_half true b h = absurd (true≢false h)
    first_half false b h = refl

-- neither answers with a match word
found_no_matches : (x : Found) (m : List ℕ) → matches_after (answer_of x) m ≡ m
unfolding answer_of matches_after
found_no_matches (hit a w c) m = refl
found_no_matches (nothing w c) m = refl
found_no_matches false_set m = refl

next_no_matches : (x : Found) (m : List ℕ) → matches_after (next_of x) m ≡ m
unfolding next_of matches_after
next_no_matches (hit a w c) m = refl
next_no_matches (nothing w c) m = refl
next_no_matches false_set m = refl

-- the match word after any call is the one in its answer, or as it was lent
pub matches_after_is : (g : Geometry) (t : Tables) (c : Call (List ℕ)) → (step g t c).matches ≡ matches_after (step g t c).answer (lent_word c)
unfolding step outcome accepted_outcome matches_after lent_word
matches_after_is g t c = go c (first_refusal (refusals g t c))
  where
    go : (c : Call (List ℕ)) (r : Option ℕ) → (outcome g t c r).matches ≡ matches_after (outcome g t c r).answer (lent_word c)
    go c (Some n) = refl
    go clear None = refl
    go (write a p) None = refl
    go (erase a) None = refl
    go (read a) None = refl
    go (first_match key) None = sym (found_no_matches (first_found g t key) [])
    go (next_match a key) None = sym (next_no_matches (next_found g t a key) [])
    go (all_match key m) None = refl

-- rule 9.2 of the match word alone
pub refused_lends : (g : Geometry) (t : Tables) (key : ℕ) (m : List ℕ) (n : ℕ) → (step g t (all_match key m)).answer ≡ refused n
    → (step g t (all_match key m)).matches ≡ m
unfolding lent_word matches_after
refused_lends g t key m n e = matches_after_is g t (all_match key m) ∙ rw e

pub refused_keeps : (g : Geometry) (t : Tables) (c : Call (List ℕ)) (n : ℕ) → (step g t c).answer ≡ refused n
    → ((step g t c).tables ≡ t) × ((step g t c).matches ≡ lent_word c)
unfolding step outcome
refused_keeps g t c n e = let stopped = first_refusal_is (refusals g t c) n ((given_exactly g t c n).0 e) in (rw stopped, rw stopped)

-- the calls that only look (rule 8.5)
pub reading_keeps : (g : Geometry) (t : Tables) (a key : ℕ) (m : List ℕ)
    → ((step g t (read a)).tables ≡ t) × ((step g t (first_match key)).tables ≡ t) × ((step g t (next_match a key)).tables ≡ t)
    × ((step g t (all_match key m)).tables ≡ t)
unfolding step outcome accepted_outcome
reading_keeps g t a key m = (keeps (read a) refl, keeps (first_match key) refl, keeps (next_match a key) refl, keeps (all_match key m) refl)
  where
    keeps : (c : Call (List ℕ)) → (accepted_outcome g t c).tables ≡ t → (step g t c).tables ≡ t
    keeps c e = go (first_refusal (refusals g t c))
      where
        go : (r : Option ℕ) → (outcome g t c r).tables ≡ t
        go None = e
        go (Some n) = refl

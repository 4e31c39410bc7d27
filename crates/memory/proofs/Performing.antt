-- From the contract of a call to that of `perform`, which is lent a match word with every call:
-- only all-match uses it.
use Rattle.std.proofs.Common.{◌≡◌, ℕ, Bool, true, false, List, [], Some, None, Ok, Err, Option, Result, refl, ap, ◌∙◌, true≢false}
use Rattle.machines.specs.Refusals.{first_refusal}
use Rattle.geometry.specs.declared.Geometry.{Geometry}
use Rattle.reference.specs.Calls as calls
use Rattle.reference.specs.Calls.{clear, write, erase, read, first_match, next_match, all_match, refused, cleared, held, at, next, matched, lent_word, matches_after}
use Rattle.reference.specs.Tables.{Tables}
use Rattle.reference.specs.Search.{Found, hit, nothing, false_set, first_found, next_found, answer_of, next_of}
use Rattle.reference.specs.Steps.{Outcome, refusals, accepted_outcome, outcome, step}
use Rattle.reference.proofs.Refused.{matches_after_is}
use Rattle.calls.specs.declared.Call.{Call}
use Rattle.calls.specs.declared.Answer.{Answer}
use Rattle.calls.specs.declared.Answer.TheVariants.{Cleared, Held, Searched, Next, Matched}
use Rattle.checks.specs.declared.Refusal.{Refusal}
use Rattle.calls.specs.Answers.{call_for, answer_for, tables, outcome_for, Performed}

abbrev is_matched : calls.Answer → Bool
is_matched (matched ws n) = true
is_matched (refused n) = false
is_matched cleared = false
is_matched (held e) = false
is_matched (at a w c) = false
is_matched (calls.none w c) = false
is_matched (next x) = false

-- The calls that are lent no match word.
abbrev pub Bare : calls.Call (List ℕ) → Type 0
Bare (all_match key m) = ⊥
Bare clear = Unit
Bare (write a p) = Unit
Bare (erase a) = Unit
Bare (read a) = Unit
Bare (first_match key) = Unit
Bare (next_match a key) = Unit

-- none of them answers with one
bare_unmatched : (g : Geometry) (t : Tables) (c : calls.Call (List ℕ)) → Bare c → is_matched (step g t c).answer ≡ false
unfolding step outcome accepted_outcome answer_of next_of
bare_unmatched g t c b = go c b (first_refusal (refusals g t c))
  where
    found : (f : Found) → is_matched (answer_of f) ≡ false
    found (hit a w n) = refl
    found (nothing w n) = refl
    found false_set = refl

    found_next : (f : Found) → is_matched (next_of f) ≡ false
    found_next (hit a w n) = refl
    found_next (nothing w n) = refl
    found_next false_set = refl

    go : (c : calls.Call (List ℕ)) → Bare c → (o : Option ℕ) → is_matched (outcome g t c o).answer ≡ false
    go c b (Some n) = refl
    go clear b None = refl
    go (write a p) b None = refl
    go (erase a) b None = refl
    go (read a) b None = refl
    go (first_match key) b None = found (first_found g t key)
    go (next_match a key) b None = found_next (next_found g t a key)
    go (all_match key m) b None = absurd b

-- such an answer has no use for a match word, and leaves it
answer_any : (r : Result Answer Refusal) (m : List ℕ) → is_matched (answer_for r []) ≡ false → answer_for r m ≡ answer_for r []
answer_any (Err why) m e = refl
answer_any (Ok (Matched n)) m e = absurd (true≢false e)
answer_any (Ok Cleared) m e = refl
answer_any (Ok (Held x)) m e = refl
answer_any (Ok (Searched x)) m e = refl
answer_any (Ok (Next x)) m e = refl

kept_any : (x : calls.Answer) (m : List ℕ) → is_matched x ≡ false → m ≡ matches_after x m
unfolding matches_after
kept_any (matched ws n) m e = absurd (true≢false e)
kept_any (refused n) m e = refl
kept_any cleared m e = refl
kept_any (held x) m e = refl
kept_any (at a w n) m e = refl
kept_any (calls.none w n) m e = refl
kept_any (next x) m e = refl

-- `known` is the call, by its case.
module _ (g : Geometry) (call known : Call) (is : call ≡ known) (r : Result Answer Refusal) (t : Tables) (s i m : List ℕ) where
  pub bare_performed : Bare (call_for known m) → outcome_for r s i [] ≡ step g t (call_for known m) → Performed g call r t (tables s i) m m
  bare_performed b e =
      let same : answer_for r [] ≡ (step g t (call_for known m)).answer = ap (λ (o : Outcome). o.answer) e in
      let plain : is_matched (step g t (call_for known m)).answer ≡ false = bare_unmatched g t (call_for known m) b in
      record {
        answer = rw is (answer_any r m (ap is_matched same ∙ plain) ∙ same);
        tables_after = rw is (ap (λ (o : Outcome). o.tables) e);
        matches = rw is (kept_any (step g t (call_for known m)).answer m plain);
      }

  pub matches_performed : (after : List ℕ) → lent_word (call_for known m) ≡ m → outcome_for r s i after ≡ step g t (call_for known m) → Performed g call r t (tables s i) m after
  matches_performed after l e = record {
    answer = rw is (ap (λ (o : Outcome). o.answer) e);
    tables_after = rw is (ap (λ (o : Outcome). o.tables) e);
    matches = rw is (ap (λ (o : Outcome). o.matches) e ∙ matches_after_is g t (call_for known m) ∙ ap (matches_after (step g t (call_for known m)).answer) l);
  }

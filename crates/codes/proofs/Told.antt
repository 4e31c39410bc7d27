-- The number that an exported function gives tells the answer, on any tables: refusal, entry,
-- address, both counts, hits. Every refusal is below 256, no pattern is the word of empty, no
-- address is 65,535, and no count of words reaches 65,536.
use Rattle.std.proofs.Common.{◌≡◌, ℕ, ◌+◌, ◌*◌, ◌/◌, ◌%◌, ◌<◌, true, List, [], length, Some, None, Option, refl, ap, ◌∙◌, arith, le-ltb, lt-ltb, ne_eqb}
use Rattle.machines.specs.Refusals.{first_refusal, NoneApplies}
use Rattle.machines.proofs.Refusals.{Each, given_says, passes}
use Rattle.geometry.specs.declared.Geometry.{Geometry}
use Rattle.geometry.specs.Valid.{is_valid}
use Rattle.geometry.specs.Sizes.{row_words, set_of, address_of, set_length}
use Rattle.geometry.proofs.Facts.{Facts, facts, patterns_most}
use Rattle.geometry.proofs.Places.{address-lt}
use Rattle.geometry.proofs.Bounds.{sets_few, words_few}
use Rattle.reference.specs.Entry.{Entry, empty, pattern, word_of, Fits}
use Rattle.reference.specs.Calls.{Call, clear, write, erase, read, first_match, next_match, all_match, Answer, held, next}
use Rattle.reference.specs.Tables.{Tables, stored_word, stored_entry}
use Rattle.reference.specs.Search.{taken_words}
use Rattle.reference.specs.Statements.{FirstOnAny, NextOnAny, own_entry}
use Rattle.reference.specs.Steps.{own_refusals, refusals, accepted_outcome, outcome, step}
use Rattle.reference.specs.Resume.{resume_refusals, resume_step}
use Rattle.reference.proofs.Entries.{word_fits}
use Rattle.reference.proofs.Refused.{passed_valid, passed_lengths}
use Rattle.reference.proofs.Searched.{first_any, next_any}
use Rattle.codes.specs.Codes.{code_of, entry_in, place_in, value_told, answer_told, resume_code, resume_told}

-- an accepted number is 256 and its value
answer_told-value_told : (c : Call (List ℕ)) (n v : ℕ) (m : List ℕ) → n ≡ 256 + v → answer_told c n m ≡ value_told c v m
unfolding answer_told
answer_told-value_told c n v m e = rw (e, le-ltb (256 + v) 256 (omega arith)) (ap (λ v. value_told c v m) (omega arith))

-- a number with an address and two counts
place_told : (key a w c : ℕ) (m : List ℕ) → a < 65536 → w < 65536 → answer_told (first_match key) (256 + a + 65536 * w + 4294967296 * c) m ≡ place_in a w c
unfolding value_told
place_told key a w c m p q =
    let v = a + (65536 * w + 4294967296 * c) in
    let low : v % 65536 ≡ a = omega arith in
    let high : v / 65536 ≡ w + 65536 * c = omega arith in
    let middle : v / 65536 % 65536 ≡ w = rw high (omega arith) in
    let top : v / 4294967296 ≡ c = omega arith in
    let is : 256 + a + 65536 * w + 4294967296 * c ≡ 256 + v = omega arith in
    answer_told-value_told (first_match key) _ v m is ∙ rw (low, middle, top)

module _ (g : Geometry) (ok : is_valid g ≡ true) where
  abbrev f : Facts g
  f = facts g ok

  entry_told : (e : Entry) → Fits g e → entry_in (word_of e) ≡ e
  unfolding word_of
  entry_told empty h = refl
  entry_told (pattern p) h = rw (ne_eqb p 4294967295 (λ e. omega (arith, h p refl, patterns_most g f)))

  entry_few : (s o : ℕ) → o < set_length g s → address_of g s o < 65535
  entry_few s o within = omega (arith, address-lt g f s o within, f.depth_most)

  -- no address and no count of words is too large for its field
  first_told : (t : Tables) (key : ℕ) (x : Answer) (m : List ℕ) → FirstOnAny g t key x → answer_told (first_match key) (code_of x) m ≡ x
  first_told t key x m (FirstOnAny.no_set nowhere is) = rw is (place_told key 65535 (row_words g) 0 m (omega arith) (omega (arith, words_few g f)))
  first_told t key x m (FirstOnAny.set_alone s first kind is) =
      let few : s < 4096 = omega (arith, first.within, sets_few g f) in
      rw is (place_told key s (s / 64 + 1) 0 m (omega (arith, few)) (omega (arith, few)) ∙ rw (ne_eqb s 65535 (λ e. omega (arith, few))))
  first_told t key x m (FirstOnAny.equal_entry s o first kind equal is) =
      let few : address_of g s o < 65535 = entry_few s o equal.within in
      rw is
      (place_told key (address_of g s o) (s / 64 + 1) (set_length g s) m (omega (arith, few)) (omega (arith, first.within, sets_few g f))
      ∙ rw (ne_eqb (address_of g s o) 65535 (λ e. omega (arith, few))))
  first_told t key x m (FirstOnAny.no_equal s first none_equal is) = unfold answer_told in rw is

  -- an address alone
  address_told : (a key b : ℕ) (m : List ℕ) → b < 65535 → answer_told (next_match a key) (code_of (next (Some b))) m ≡ next (Some b)
  unfolding value_told
  address_told a key b m few = answer_told-value_told (next_match a key) _ b m refl ∙ rw (ne_eqb b 65535 (λ e. omega (arith, few)))

  next_told : (t : Tables) (a key : ℕ) (x : Answer) (m : List ℕ) → NextOnAny g t a key x → answer_told (next_match a key) (code_of x) m ≡ x
  unfolding value_told
  next_told t a key x m (own_entry o kind first is) =
      rw is (address_told a key _ m (entry_few (set_of g a) o first.within))
  next_told t a key x m (NextOnAny.no_set own nowhere is) = rw is (answer_told-value_told (next_match a key) _ 65535 m refl)
  next_told t a key x m (NextOnAny.set_alone own s first kind is) = rw is (address_told a key s m (omega (arith, first.within, sets_few g f)))
  next_told t a key x m (NextOnAny.equal_entry own s o first kind equal is) =
      rw is (address_told a key _ m (entry_few s o equal.within))
  next_told t a key x m (NextOnAny.no_equal own s first none_equal is) = unfold answer_told in rw is

  held_told : (t : Tables) (c : Call (List ℕ)) (a : ℕ) (m : List ℕ) → ((v : ℕ) → value_told c v m ≡ held (entry_in v))
      → answer_told c (code_of (held (stored_entry g t a))) m ≡ held (stored_entry g t a)
  held_told t c a m value = answer_told-value_told c _ _ m refl ∙ value _ ∙ ap held (entry_told (stored_entry g t a) (word_fits g (stored_word t a)))

  accepted_told : (t : Tables) → length t.store ≡ g.depth → (c : Call (List ℕ)) → NoneApplies (own_refusals g t c)
      → answer_told c (code_of (accepted_outcome g t c).answer) (accepted_outcome g t c).matches ≡ (accepted_outcome g t c).answer
  unfolding accepted_outcome own_refusals value_told
  accepted_told t long clear p = answer_told-value_told clear 256 0 [] refl
  accepted_told t long (write a q) p = held_told t (write a q) a [] (λ v. refl)
  accepted_told t long (erase a) p = held_told t (erase a) a [] (λ v. refl)
  accepted_told t long (read a) p = held_told t (read a) a [] (λ v. refl)
  accepted_told t long (first_match key) p = first_told t key _ [] (first_any g ok t long key)
  accepted_told t long (next_match a key) p = next_told t a key _ [] (next_any g t a key ok long)
  accepted_told t long (all_match key m) p = answer_told-value_told (all_match key m) _ _ (taken_words g t key) refl

-- every refusal is below 256
numbers_small : (g : Geometry) (t : Tables) (c : Call (List ℕ)) (n : ℕ) → first_refusal (refusals g t c) ≡ Some n → n < 256
unfolding refusals own_refusals
numbers_small g t c n e = given_says (λ n. n < 256) (refusals g t c) n (λ b. omega arith, (λ b. omega arith, each c)) e
  where
    each : (c : Call (List ℕ)) → Each (λ n. n < 256) (own_refusals g t c)
    each clear = tt
    each (write a p) = (λ b. omega arith, (λ b. omega arith, (λ b. omega arith, tt)))
    each (erase a) = (λ b. omega arith, (λ b. omega arith, tt))
    each (read a) = (λ b. omega arith, (λ b. omega arith, tt))
    each (first_match key) = (λ b. omega arith, (λ b. omega arith, tt))
    each (next_match a key) = (λ b. omega arith, (λ b. omega arith, (λ b. omega arith, tt)))
    each (all_match key m) = (λ b. omega arith, (λ b. omega arith, tt))

pub number_tells : (g : Geometry) (t : Tables) (c : Call (List ℕ)) → answer_told c (code_of (step g t c).answer) (step g t c).matches ≡ (step g t c).answer
unfolding step outcome refusals
number_tells g t c = go (first_refusal (refusals g t c)) refl
  where
    go : (r : Option ℕ) → first_refusal (refusals g t c) ≡ r → answer_told c (code_of (outcome g t c r).answer) (outcome g t c r).matches ≡ (outcome g t c r).answer
    go (Some n) e = unfold answer_told in rw (lt-ltb n 256 (numbers_small g t c n e))
    go None e =
        let p = passes (refusals g t c) e in
        accepted_told g (passed_valid g t c p) t (passed_lengths g t c p).0 c p.1.1

-- of a resume too
pub resume_tells : (g : Geometry) (t : Tables) → resume_told (resume_code (resume_step g t).refusal) ≡ (resume_step g t).refusal
unfolding resume_step resume_refusals resume_told
resume_tells g t = go (first_refusal (resume_refusals g t)) refl
  where
    go : (r : Option ℕ) → first_refusal (resume_refusals g t) ≡ r → resume_told (resume_code r) ≡ r
    go None e = refl
    go (Some n) e =
        rw (lt-ltb n 256 (given_says (λ n. n < 256) (resume_refusals g t) n (λ b. omega arith, (λ b. omega arith, (λ b. omega arith, tt))) e))

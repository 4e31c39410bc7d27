-- One call on the tables of an array agrees with the same call on the array: answer, tables and
-- refusal number.
use Rattle.std.proofs.Common.{◌≡◌, ℕ, suc, ◌<◌, Bool, true, false, not, ◌&&◌, eqb, leb, ◌⊎◌, List, [], ◌∷◌, ◌++◌, length, set, Some, None, Option, refl, sym, ap, ◌∙◌, ap₂, inl, inr, arith, length-set, get_or-set_other, get_or-set_same, eqb-true}
use borrow.Author.Tests.{eqb-false}
use Rattle.words.specs.Rules as rule
use Rattle.words.specs.Rules.{count, above, IsFirst}
use Rattle.words.specs.Bits.{bit_words, total_ones}
use Rattle.words.proofs.Rules.{count_ext, lowest_first, lowest_nowhere, lowest_ext}
use Rattle.words.proofs.Bits.{bit_words_ext}
use Rattle.machines.specs.Refusals.{RefusalRow, ◌given_when◌, first_refusal, NoneApplies}
use Rattle.machines.proofs.Refusals.{passes, last_passes}
use Rattle.geometry.specs.declared.Geometry.{Geometry}
use Rattle.geometry.specs.Valid.{is_valid}
use Rattle.geometry.specs.Sizes.{patterns, match_words}
use Rattle.geometry.proofs.Facts.{Facts, facts}
use Rattle.reference.specs.Entry.{Entry, empty, pattern, Fits, word_of, holds}
use Rattle.reference.specs.Calls.{Call, clear, write, erase, read, first_match, next_match, all_match, shape, held, next, matched}
use Rattle.reference.specs.Refusals.{bad_address, bad_pattern}
use Rattle.reference.specs.Array.{Array, entry_at, holds_at, counted_answer, array_refusals, ArrayOutcome, array_accepted, array_outcome, array_step, IsSound}
use Rattle.reference.specs.Tables.{stored_word}
use Rattle.reference.specs.Image.{tables_of}
use Rattle.reference.specs.Search.{first_found, next_found, answer_of, next_of, is_taken, taken_words}
use Rattle.reference.specs.Statements.{Mirrors, stores, FirstIs, lowest, absent}
use Rattle.reference.specs.Steps.{bad_matches, bad_entry, own_refusals, refusals, Outcome, accepted_outcome, outcome, step}
use Rattle.reference.proofs.Limits.{lengths_pass, address_passes, pattern_passes, entry_passes}
use Rattle.reference.proofs.Entries.{empty_fits, pattern_fits}
use Rattle.reference.proofs.Covering.{holds-entry_of}
use Rattle.reference.proofs.Mirrored.{first_is, first_not_false, next_is, next_not_false, none_false, is_taken_is}
use Rattle.reference.proofs.Searched.{first_any, next_any, total_ones-taken_words}
use Rattle.reference.proofs.Image.{store_word, store_entry, image_mirrors, replaced_tables_image}
use Rattle.reference.proofs.Emptied.{empty_array_sound, cleared_tables}

-- a last row that does not apply where the pattern's row does not
key_passes : (g : Geometry) (key n : ℕ) (test : Bool) → (key < patterns g → test ≡ false) → (rows : List RefusalRow)
    → first_refusal (rows ++ (4 given_when bad_pattern g key ∷ n given_when test ∷ [])) ≡ first_refusal (rows ++ (4 given_when bad_pattern g key ∷ []))
unfolding first_refusal
key_passes g key n test h [] = go (bad_pattern g key) refl
  where
    go : (b : Bool) → bad_pattern g key ≡ b → first_refusal (4 given_when b ∷ n given_when test ∷ []) ≡ first_refusal (4 given_when b ∷ [])
    go true e = refl
    go false e = rw (h ((pattern_passes g key).0 e))
key_passes g key n test h ((m given_when true) ∷ rows) = refl
key_passes g key n test h ((m given_when false) ∷ rows) = key_passes g key n test h rows

-- What a call leaves on the tables of an array, and on the array.
pub record Agrees (g : Geometry) (o : Outcome) (p : ArrayOutcome) : Type 0 where
  pub answer : o.answer ≡ p.answer
  pub tables : o.tables ≡ tables_of g p.array
  pub sound : IsSound g p.array

module _ (g : Geometry) (ok : is_valid g ≡ true) (es : Array) (sound : IsSound g es) where
  abbrev f : Facts g
  f = facts g ok

  abbrev mirrors : Mirrors g (tables_of g es)
  mirrors = image_mirrors g f es sound

  -- the store tells what the array holds
  held_is : (key : ℕ) → key < patterns g → (a : ℕ) → eqb (stored_word (tables_of g es) a) key ≡ holds_at es key a
  held_is key small a = sym (holds-entry_of g f key small (stored_word (tables_of g es) a)) ∙ ap (λ e. holds e key) (store_entry g f es sound a)

  pub no_bad_entry : (a : ℕ) → bad_entry g (tables_of g es) a ≡ false
  unfolding word_of
  no_bad_entry a = (entry_passes g (tables_of g es) a).1 (rw (store_word g f es sound a) (go (entry_at es a) (sound.fits a)))
    where
      go : (e : Entry) → Fits g e → (word_of e ≡ 4294967295) ⊎ (word_of e < patterns g)
      go empty h = inl refl
      go (pattern p) h = inr (h p refl)

  pub same_refusals : (c : Call (List ℕ)) → first_refusal (refusals g (tables_of g es) c) ≡ first_refusal (array_refusals g (shape c))
  unfolding refusals first_refusal own_refusals array_refusals shape bad_matches
  same_refusals c = rw (ok, (lengths_pass g (tables_of g es)).1 (mirrors.entries, mirrors.words)) (go c)
    where
      go : (c : Call (List ℕ)) → first_refusal (2 given_when bad_matches g c ∷ own_refusals g (tables_of g es) c) ≡ first_refusal (array_refusals g (shape c))
      go clear = refl
      go (write a p) = rw (no_bad_entry a) (last_passes (3 given_when bad_address g a ∷ 4 given_when bad_pattern g p ∷ []) 5)
      go (erase a) = rw (no_bad_entry a) (last_passes (3 given_when bad_address g a ∷ []) 5)
      go (read a) = rw (no_bad_entry a) (last_passes (3 given_when bad_address g a ∷ []) 5)
      go (first_match key) = key_passes g key 6 _ (first_not_false g ok (tables_of g es) mirrors key) []
      go (next_match a key) = key_passes g key 6 _ (λ small. next_not_false g ok (tables_of g es) mirrors key small a) (3 given_when bad_address g a ∷ [])
      go (all_match key m) = key_passes g key 6 _ (none_false g ok (tables_of g es) mirrors key) (2 given_when not (eqb (length m) (match_words g)) ∷ [])

  -- ---- the searches agree

  first_agrees : (key : ℕ) → key < patterns g → answer_of (first_found g (tables_of g es) key) ≡ counted_answer g (rule.lowest g.depth (holds_at es key))
  unfolding counted_answer
  first_agrees key small = go (first_is g ok (tables_of g es) mirrors key small _ (first_any g ok (tables_of g es) mirrors.entries key))
    where
      there : (a : ℕ) → IsFirst g.depth (stores (tables_of g es) key) a → IsFirst g.depth (holds_at es key) a
      there a h = record {
        within = h.within;
        here = sym (held_is key small a) ∙ h.here;
        none_before = λ b l. sym (held_is key small b) ∙ h.none_before b l;
      }

      go : FirstIs g (tables_of g es) key (answer_of (first_found g (tables_of g es) key))
          → answer_of (first_found g (tables_of g es) key) ≡ counted_answer g (rule.lowest g.depth (holds_at es key))
      go (lowest a first answer) = rw (lowest_first g.depth (holds_at es key) a (there a first)) answer
      go (absent nowhere answer) = rw (lowest_nowhere g.depth (holds_at es key) (λ a l. sym (held_is key small a) ∙ nowhere a l)) answer

  next_agrees : (a key : ℕ) → key < patterns g → next_of (next_found g (tables_of g es) a key) ≡ next (rule.lowest g.depth (above a (holds_at es key)))
  next_agrees a key small =
      next_is g ok (tables_of g es) mirrors key small a _ (next_any g (tables_of g es) a key ok mirrors.entries)
      ∙ ap next (lowest_ext g.depth _ _ (λ b l. ap (λ h. leb (suc a) b && h) (held_is key small b)))

  is_taken-holds : (key : ℕ) → key < patterns g → (a : ℕ) → is_taken g (tables_of g es) key a ≡ holds_at es key a
  is_taken-holds key small a = is_taken_is g ok (tables_of g es) mirrors key small a ∙ held_is key small a

  matches_agree : (key : ℕ) → key < patterns g → taken_words g (tables_of g es) key ≡ bit_words (match_words g) (holds_at es key)
  unfolding taken_words
  matches_agree key small = bit_words_ext (match_words g) _ _ (is_taken-holds key small)

  hits_agree : (key : ℕ) → key < patterns g → total_ones (taken_words g (tables_of g es) key) ≡ count g.depth (holds_at es key)
  hits_agree key small = total_ones-taken_words g f (tables_of g es) key ∙ count_ext g.depth _ (holds_at es key) (λ a l. is_taken-holds key small a)

  -- ---- every call agrees

  -- another entry of the geometry keeps the array one of it
  set_sound : (a : ℕ) → a < g.depth → (e : Entry) → Fits g e → IsSound g (set es a e)
  set_sound a inside e h = record { long = length-set es a e ∙ sound.long; fits = λ b p. go b p (eqb b a) refl }
    where
      go : (b p : ℕ) (c : Bool) → eqb b a ≡ c → entry_at (set es a e) b ≡ pattern p → p < patterns g
      go b p true q k = h p (sym (get_or-set_same es a e empty (omega (arith, sound.long))) ∙ (rw (eqb-true b a q) at k))
      go b p false q k = sound.fits b p (sym (get_or-set_other es a b e empty (eqb-false b a q)) ∙ k)

  accepted_agrees : (c : Call (List ℕ)) → NoneApplies (array_refusals g (shape c)) → Agrees g (accepted_outcome g (tables_of g es) c) (array_accepted g es (shape c))
  unfolding accepted_outcome array_accepted array_refusals shape
  accepted_agrees clear p = record { answer = refl; tables = cleared_tables g; sound = empty_array_sound g }
  accepted_agrees (write a q) p =
      let inside : a < g.depth = (address_passes g a).0 p.0 in
      let small : q < patterns g = (pattern_passes g q).0 p.1.0 in
      record {
        answer = ap held (store_entry g f es sound a);
        tables = replaced_tables_image g f es sound a inside (pattern q);
        sound = set_sound a inside (pattern q) (pattern_fits g q small);
      }
  accepted_agrees (erase a) p =
      let inside : a < g.depth = (address_passes g a).0 p.0 in
      record {
        answer = ap held (store_entry g f es sound a);
        tables = replaced_tables_image g f es sound a inside empty;
        sound = set_sound a inside empty (empty_fits g);
      }
  accepted_agrees (read a) p = record { answer = ap held (store_entry g f es sound a); tables = refl; sound = sound }
  accepted_agrees (first_match key) p = record { answer = first_agrees key ((pattern_passes g key).0 p.0); tables = refl; sound = sound }
  accepted_agrees (next_match a key) p =
      record { answer = next_agrees a key ((pattern_passes g key).0 p.1.0); tables = refl; sound = sound }
  accepted_agrees (all_match key m) p =
      let small : key < patterns g = (pattern_passes g key).0 p.1.0 in
      record { answer = ap₂ matched (matches_agree key small) (hits_agree key small); tables = refl; sound = sound }

  pub agrees : (c : Call (List ℕ)) → Agrees g (step g (tables_of g es) c) (array_step g es (shape c))
  unfolding step array_step outcome array_outcome
  agrees c = rw (same_refusals c) (go (first_refusal (array_refusals g (shape c))) refl)
    where
      go : (r : Option ℕ) → first_refusal (array_refusals g (shape c)) ≡ r → Agrees g (outcome g (tables_of g es) c r) (array_outcome g es (shape c) r)
      go None e = accepted_agrees c (passes (array_refusals g (shape c)) e)
      go (Some n) e = record { answer = refl; tables = refl; sound = sound }

-- The searches on any tables: which sets a key indicates, and what the three matches answer in
-- terms of them.
use Rattle.std.proofs.Common.{◌≡◌, ℕ, suc, ◌+◌, ◌-◌, ◌*◌, ◌/◌, ◌%◌, ◌^◌, ◌<◌, ◌≤◌, Bool, true, false, not, ◌&&◌, ◌||◌, eqb, ◌↔◌, List, [], ◌∷◌, length, get_or, None, refl, sym, ap, ◌∙◌, le_trans, le_refl, lt_of_le_of_lt, arith, ltb-true, lt-ltb, eq-eqb, eqb-true}
use Rattle.std.proofs.Math.Bool.{or-true, and-eq-true_iff, false≢true}
use mathlib.Core.List.{foldr}
use lib.Bits.{bit_and, and_le_r}
use Rattle.words.specs.Rules.{count, member, onward, IsFirst, Nowhere}
use Rattle.words.specs.Bits.{bit, row_mask, total_ones}
use Rattle.words.specs.Seek.{Sought, found, missed}
use Rattle.words.proofs.Rules.{any_witness, any-true, refuted, member-tabulate, first_unique, first_same, onward_here, onward_all, LowestIs, at_first, at_none, lowest_is}
use Rattle.words.proofs.Bits.{bit-bit_and, bit_mask, mask_lt, ones_below}
use Rattle.words.proofs.Seek.{seek-found, seek-missed, row_word, row_from-lt, row_first, row_nowhere}
use Rattle.machines.specs.Refusals.{◌given_when◌, first_refusal}
use Rattle.geometry.specs.declared.Geometry.{Geometry}
use Rattle.geometry.specs.Valid.{is_valid, segmented}
use Rattle.geometry.specs.Sizes.{patterns, sets, row_words, match_words, set_of, offset_of, address_of, set_length}
use Rattle.geometry.specs.Stages.{stages, row_of, rows_of, indicator_words}
use Rattle.geometry.proofs.Facts.{Facts, facts}
use Rattle.geometry.proofs.Places.{length_alone, sets_most, matches_most}
use Rattle.cover.specs.Image.{cell}
use Rattle.reference.specs.Calls.{first_match, next_match, all_match, refused, at, none, matched}
use Rattle.reference.specs.Tables.{Tables, stored_word}
use Rattle.reference.specs.Image.{bit_of_set}
use Rattle.reference.specs.Search.{joined_word, is_indicated, joined_word_from, seek_word, has_key_at, has_key_above, seek_entry, seek_own, lowest_set, Found, hit, nothing, false_set, is_false, found_in_set, found_from, first_found, next_found, any_is_false, answer_of, next_of, is_taken, taken_words}
use Rattle.reference.specs.Steps.{bad_matches, own_refusals, refusals, accepted_outcome, outcome, step}
use Rattle.reference.specs.Statements.{NoEqual, FirstOnAny, NoneInOwn, IsFirstBehind, NextOnAny, own_entry, AllOnAny, all_taken}
use Rattle.reference.proofs.Limits.{lengths_pass, address_passes, pattern_passes}
use Rattle.reference.proofs.Line.{length-line}

module _ (g : Geometry) (t : Tables) (j : ℕ) where
  joins : ℕ → ℕ → ℕ
  joins r w = bit_and (get_or t.indicators (row_words g * r + j) 0) w

  -- words joined with and have a bit exactly when each of them has
  joined_word_all : (m b : ℕ) (rs : List ℕ) → bit (foldr joins m rs) b ≡ true → (bit m b ≡ true) × ((r : ℕ) → member r rs ≡ true → cell g t.indicators r j b ≡ true)
  unfolding joins member
  joined_word_all m b [] h = (h, λ r e. absurd (false≢true e))
  joined_word_all m b (x ∷ rs) h =
      let both = (and-eq-true_iff _ _).0 (sym (bit-bit_and (get_or t.indicators (row_words g * x + j) 0) (foldr joins m rs) b) ∙ h) in
      let others = joined_word_all m b rs both.1 in
      (others.0, λ r e. go r (eqb r x) refl e both.0 (others.1 r))
    where
      go : (r : ℕ) (c : Bool) → eqb r x ≡ c → (c || member r rs) ≡ true → cell g t.indicators x j b ≡ true
          → (member r rs ≡ true → cell g t.indicators r j b ≡ true) → cell g t.indicators r j b ≡ true
      go r true e h first rest = rw (eqb-true r x e) first
      go r false e h first rest = rest h

  all_joined_word : (m b : ℕ) (rs : List ℕ) → bit m b ≡ true → ((r : ℕ) → member r rs ≡ true → cell g t.indicators r j b ≡ true) → bit (foldr joins m rs) b ≡ true
  unfolding joins member
  all_joined_word m b [] h all = h
  all_joined_word m b (x ∷ rs) h all =
      bit-bit_and (get_or t.indicators (row_words g * x + j) 0) (foldr joins m rs) b
      ∙ (and-eq-true_iff _ _).1 (all x (rw (eq-eqb x x refl)), all_joined_word m b rs h (λ r e. all r (rw e (or-true (eqb r x)))))

  joined_word-le : (m : ℕ) (rs : List ℕ) → foldr joins m rs ≤ m
  unfolding joins
  joined_word-le m [] = le_refl m
  joined_word-le m (x ∷ rs) = le_trans (and_le_r (get_or t.indicators (row_words g * x + j) 0) (foldr joins m rs)) (joined_word-le m rs)

-- ---- indicated sets

-- A set is indicated exactly when it is one and each row of the key has its bit: padding bits
-- indicate nothing.
pub is_indicated_means : (g : Geometry) (t : Tables) (key s : ℕ)
    → (is_indicated g t key s ≡ true) ↔ ((s < sets g) × ((k : ℕ) → k < stages g → bit_of_set g t.indicators (row_of g key k) s ≡ true))
unfolding is_indicated joined_word joins rows_of
is_indicated_means g t key s = (there, back)
  where
    there : is_indicated g t key s ≡ true → (s < sets g) × ((k : ℕ) → k < stages g → bit_of_set g t.indicators (row_of g key k) s ≡ true)
    there h =
        let joined = joined_word_all g t (s / 64) (row_mask (sets g) (s / 64)) (s % 64) (rows_of g key) h in (
          ltb-true s (sets g) (sym (bit_mask (sets g) s) ∙ joined.0),
          λ k l. joined.1 (row_of g key k) (member-tabulate _ (stages g) (row_of g key) ∙ any-true (stages g) _ k l (eq-eqb (row_of g key k) _ refl)),
        )

    back : (s < sets g) × ((k : ℕ) → k < stages g → bit_of_set g t.indicators (row_of g key k) s ≡ true) → is_indicated g t key s ≡ true
    back (inside, all) =
        all_joined_word g t (s / 64) (row_mask (sets g) (s / 64)) (s % 64) (rows_of g key) (bit_mask (sets g) s ∙ lt-ltb s (sets g) inside)
        (λ r h. of_row r (any_witness (stages g) _ (sym (member-tabulate r (stages g) (row_of g key)) ∙ h)))
      where
        of_row : (r : ℕ) → (k : ℕ) × (k < stages g) × (eqb r (row_of g key k) ≡ true) → bit_of_set g t.indicators r s ≡ true
        of_row r w = rw (eqb-true r (row_of g key w.0) w.2) (all w.0 w.1)

-- a joined word has 64 bits
pub joined_word-lt : (g : Geometry) (t : Tables) (key j : ℕ) → joined_word g t key j < 2 ^ 64
unfolding joined_word joins
joined_word-lt g t key j = lt_of_le_of_lt (joined_word-le g t j (row_mask (sets g) j) (rows_of g key)) (mask_lt (sets g) j)

-- ---- the set that decides

module _ (g : Geometry) (t : Tables) (key : ℕ) where
  -- whether the entry of a set at an offset is the key
  abbrev pub equal_at : (set offset : ℕ) → Bool
  equal_at s o = has_key_at g t key s o

  -- the comparison of a set's entries finds the first that is equal, or that none is
  entries_are : (s : ℕ) → LowestIs (set_length g s) (equal_at s) (seek_entry g t key s)
  unfolding seek_entry
  entries_are s = lowest_is (set_length g s) (equal_at s)

  -- a set is false exactly when it has no equal entry
  pub false_means : (s w : ℕ) → (is_false (found_in_set g t key s w) ≡ true) ↔ NoEqual g t key s
  unfolding is_false found_in_set
  false_means s w = (there (eqb g.kind segmented) refl (entries_are s), back (entries_are s))
    where
      there : (b : Bool) → eqb g.kind segmented ≡ b → LowestIs (set_length g s) (equal_at s) (seek_entry g t key s)
          → is_false (found_in_set g t key s w) ≡ true → NoEqual g t key s
      there true p (at_first o q first) h = absurd (false≢true (rw (p, found_in_set, q) at h))
      there true p (at_none q nowhere) h = (p, nowhere)
      there false p r h = absurd (false≢true (rw (p, found_in_set) at h))

      back : LowestIs (set_length g s) (equal_at s) (seek_entry g t key s) → NoEqual g t key s → is_false (found_in_set g t key s w) ≡ true
      back (at_first o q first) (kind, nowhere) = absurd (false≢true (sym (nowhere o first.within) ∙ first.here))
      back (at_none q _) (kind, nowhere) = rw (kind, found_in_set, q)

-- What a search finds from a set on, by the first indicated set from there, where it looked at w
-- words.
data FoundOnAny (g : Geometry) (t : Tables) (key from : ℕ) (x : Found) : Type 0 where
  unfound : Nowhere (sets g) (onward from (is_indicated g t key)) → x ≡ nothing (row_words g - from / 64) 0 → FoundOnAny g t key from x
  by_set : (s w : ℕ) → IsFirst (sets g) (onward from (is_indicated g t key)) s → eqb g.kind segmented ≡ false → w + from / 64 ≡ s / 64 + 1
      → x ≡ hit s w 0 → FoundOnAny g t key from x
  by_entry : (s o w : ℕ) → IsFirst (sets g) (onward from (is_indicated g t key)) s → eqb g.kind segmented ≡ true → IsFirst (set_length g s) (equal_at g t key s) o
      → w + from / 64 ≡ s / 64 + 1 → x ≡ hit (address_of g s o) w (set_length g s) → FoundOnAny g t key from x
  by_false : (s : ℕ) → IsFirst (sets g) (onward from (is_indicated g t key)) s → NoEqual g t key s → x ≡ false_set → FoundOnAny g t key from x

module _ (g : Geometry) (t : Tables) (key from : ℕ) where
  -- no word of the row was found: no set is indicated, and every word was looked at
  words_missed : Facts g → (w : ℕ) → seek_word g t key from ≡ missed w → Nowhere (sets g) (onward from (is_indicated g t key)) × (w ≡ row_words g - from / 64)
  unfolding seek_word is_indicated
  words_missed f w e =
      let missing = seek-missed (row_words g) (from / 64) _ w e in
      (λ s l. row_nowhere (joined_word g t key) from (row_words g) missing.0 s (omega (arith, sets_most g f)), missing.1)

  -- the lowest set bit of the word found is the first indicated set, and the words up to it were
  -- looked at
  words_found : (j w : ℕ) → seek_word g t key from ≡ found j w
      → IsFirst (sets g) (onward from (is_indicated g t key)) (lowest_set g t key from j) × (w + from / 64 ≡ lowest_set g t key from j / 64 + 1)
  unfolding seek_word is_indicated lowest_set
  words_found j w e =
      let sought = seek-found (row_words g) (from / 64) _ j w e in
      let first = row_first (joined_word g t key) (joined_word-lt g t key) from (row_words g) j sought.0 in
      let some : not (eqb (joined_word_from g t key from j) 0) ≡ true = (onward_here (λ i. not (eqb (joined_word_from g t key from i) 0)) (from / 64) j sought.0.here).1 in
      let same = row_word (joined_word_from g t key from) (row_from-lt (joined_word g t key) (joined_word-lt g t key) from) j some in (
        record { within = ((is_indicated_means g t key _).0 (onward_here (is_indicated g t key) from _ first.here).1).0; here = first.here; none_before = first.none_before },
        rw same sought.1,
      )

module _ (g : Geometry) (ok : is_valid g ≡ true) (t : Tables) (key from : ℕ) where
  -- what the first indicated set gives; after a hit in kind 2 its whole line was fetched
  in_set_is : length t.store ≡ g.depth → (s w : ℕ) → IsFirst (sets g) (onward from (is_indicated g t key)) s → w + from / 64 ≡ s / 64 + 1
      → FoundOnAny g t key from (found_in_set g t key s w)
  unfolding found_in_set
  in_set_is long s w first looks = go (eqb g.kind segmented) refl (entries_are g t key s)
    where
      go : (b : Bool) → eqb g.kind segmented ≡ b → LowestIs (set_length g s) (equal_at g t key s) (seek_entry g t key s)
          → FoundOnAny g t key from (found_in_set g t key s w)
      go true p (at_first o q place) = by_entry s o w first p place looks (rw (p, found_in_set, q) (ap (hit (address_of g s o) w) (length-line g t.store s ok long first.within).0))
      go true p (at_none q nowhere) = by_false s first (p, nowhere) (rw (p, found_in_set, q))
      go false p r = by_set s w first p looks (rw (p, found_in_set))

  found_any : length t.store ≡ g.depth → FoundOnAny g t key from (found_from g t key from)
  unfolding found_from
  found_any long = go (seek_word g t key from) refl
    where
      go : (r : Sought) → seek_word g t key from ≡ r → FoundOnAny g t key from (found_from g t key from)
      go (missed w) e = let missing = words_missed g t key from (facts g ok) w e in unfound missing.0 (rw (found_from, e, missing.1))
      go (found j w) e = let place = words_found g t key from j w e in rw (found_from, e) (in_set_is long (lowest_set g t key from j) w place.0 place.1)

-- ---- a first-match, from set 0 on

-- the first set of all
first_of_all : {n s : ℕ} (r : ℕ → Bool) → IsFirst n (onward 0 r) s → IsFirst n r s
first_of_all r f = first_same (onward 0 r) r (onward_all r) f

nowhere_at_all : {n : ℕ} (r : ℕ → Bool) → Nowhere n (onward 0 r) → Nowhere n r
nowhere_at_all r h j l = sym (onward_all r j) ∙ h j l

pub first_any : (g : Geometry) → is_valid g ≡ true → (t : Tables) → length t.store ≡ g.depth → (key : ℕ) → FirstOnAny g t key (answer_of (first_found g t key))
unfolding answer_of
first_any g ok t long key = go (found_any g ok t key 0 long)
  where
    go : FoundOnAny g t key 0 (first_found g t key) → FirstOnAny g t key (answer_of (first_found g t key))
    go (unfound nowhere e) = FirstOnAny.no_set (nowhere_at_all _ nowhere) (rw e (ap (λ w. none w 0) (omega arith)))
    go (by_set s w first k looks e) = FirstOnAny.set_alone s (first_of_all _ first) k (rw e (ap (λ w. at s w 0) (omega arith)))
    go (by_entry s o w first k place looks e) =
        FirstOnAny.equal_entry s o (first_of_all _ first) k place (rw e (ap (λ w. at (address_of g s o) w (set_length g s)) (omega arith)))
    go (by_false s first bad e) = FirstOnAny.no_equal s (first_of_all _ first) bad (rw e)

-- ---- a next-match, in the own set of its address and from the next set on

module _ (g : Geometry) (t : Tables) (a key : ℕ) where
  -- an entry of its own set that is the key and stands above it
  abbrev pub own : ℕ → Bool
  own = has_key_above g t a key

  pub own_is : LowestIs (set_length g (set_of g a)) own (seek_own g t a key)
  unfolding seek_own
  own_is = lowest_is (set_length g (set_of g a)) own

  pub next_any : is_valid g ≡ true → length t.store ≡ g.depth → NextOnAny g t a key (next_of (next_found g t a key))
  unfolding next_found next_of
  next_any ok long = go own_is
    where
      f : Facts g
      f = facts g ok

      -- where a set is one address there is none above it
      of_many : (o : ℕ) → IsFirst (set_length g (set_of g a)) own o → (b : Bool) → eqb g.kind segmented ≡ b → b ≡ true
      of_many o first true k = refl
      of_many o first false k =
          absurd (omega (arith, first.within, (onward_here (equal_at g t key (set_of g a)) (suc (offset_of g a)) o first.here).0, length_alone g f (set_of g a) k))

      from_next : seek_own g t a key ≡ None → NoneInOwn g t a key → FoundOnAny g t key (suc (set_of g a)) (found_from g t key (suc (set_of g a)))
          → NextOnAny g t a key (next_of (next_found g t a key))
      from_next q clear (unfound nowhere e) = NextOnAny.no_set clear nowhere (rw (next_found, q, e))
      from_next q clear (by_set s w first k looks e) = NextOnAny.set_alone clear s first k (rw (next_found, q, e))
      from_next q clear (by_entry s o w first k place looks e) = NextOnAny.equal_entry clear s o first k place (rw (next_found, q, e))
      from_next q clear (by_false s first bad e) = NextOnAny.no_equal clear s first bad (rw (next_found, q, e))

      go : LowestIs (set_length g (set_of g a)) own (seek_own g t a key) → NextOnAny g t a key (next_of (next_found g t a key))
      go (at_first o q first) = own_entry o (of_many o first (eqb g.kind segmented) refl) first (rw (next_found, q))
      go (at_none q nowhere) = from_next q nowhere (found_any g ok t key (suc (set_of g a)) long)

-- ---- row 6 of the table

-- The search from a set on comes to a false set exactly where the first indicated one from there is
-- false.
pub found_false_means : (g : Geometry) → Facts g → (t : Tables) (key from : ℕ)
    → (is_false (found_from g t key from) ≡ true) ↔ ((s : ℕ) × IsFirst (sets g) (onward from (is_indicated g t key)) s × NoEqual g t key s)
unfolding found_from is_false
found_false_means g f t key from = (there (seek_word g t key from) refl, back (seek_word g t key from) refl)
  where
    there : (r : Sought) → seek_word g t key from ≡ r → is_false (found_from g t key from) ≡ true
        → (s : ℕ) × IsFirst (sets g) (onward from (is_indicated g t key)) s × NoEqual g t key s
    there (found j w) e h =
        (lowest_set g t key from j, (words_found g t key from j w e).0, (false_means g t key (lowest_set g t key from j) w).0 (rw (found_from, e) at h))
    there (missed w) e h = absurd (false≢true (rw (found_from, e) at h))

    back : (r : Sought) → seek_word g t key from ≡ r → (s : ℕ) × IsFirst (sets g) (onward from (is_indicated g t key)) s × NoEqual g t key s
        → is_false (found_from g t key from) ≡ true
    back (found j w) e (s, first, no_equal) =
        let same = first_unique (sets g) (onward from (is_indicated g t key)) s (lowest_set g t key from j) first (words_found g t key from j w e).0 in
        rw (found_from, e) ((false_means g t key (lowest_set g t key from j) w).1 (rw same at no_equal))
    back (missed w) e (s, first, no_equal) = absurd (false≢true (sym ((words_missed g t key from f w e).0 s first.within) ∙ first.here))

-- A next-match does where its own set gave nothing and the first indicated set behind that one is
-- false.
pub next_false_means : (g : Geometry) → is_valid g ≡ true → (t : Tables) (a key : ℕ)
    → (is_false (next_found g t a key) ≡ true)
    ↔ (NoneInOwn g t a key × ((s : ℕ) × IsFirstBehind g t a key s × NoEqual g t key s))
unfolding next_found is_false
next_false_means g ok t a key = (there (own_is g t a key), back (own_is g t a key))
  where
    there : LowestIs (set_length g (set_of g a)) (own g t a key) (seek_own g t a key) → is_false (next_found g t a key) ≡ true
        → NoneInOwn g t a key × ((s : ℕ) × IsFirstBehind g t a key s × NoEqual g t key s)
    there (at_first o q first) h = absurd (false≢true (rw (next_found, q) at h))
    there (at_none q nowhere) h = (nowhere, (found_false_means g (facts g ok) t key (suc (set_of g a))).0 (rw (next_found, q) at h))

    back : LowestIs (set_length g (set_of g a)) (own g t a key) (seek_own g t a key)
        → NoneInOwn g t a key × ((s : ℕ) × IsFirstBehind g t a key s × NoEqual g t key s) → is_false (next_found g t a key) ≡ true
    back (at_first o q first) (nowhere, bad) = absurd (false≢true (sym (nowhere o first.within) ∙ first.here))
    back (at_none q _) (nowhere, bad) = rw (next_found, q) ((found_false_means g (facts g ok) t key (suc (set_of g a))).1 bad)

pub any_false_means : (g : Geometry) (t : Tables) (key : ℕ)
    → (any_is_false g t key ≡ true) ↔ ((s : ℕ) × (s < sets g) × (is_indicated g t key s ≡ true) × NoEqual g t key s)
unfolding any_is_false
any_false_means g t key = (λ h. there (any_witness (sets g) _ h), back)
  where
    there : (s : ℕ) × (s < sets g) × ((is_indicated g t key s && is_false (found_in_set g t key s 0)) ≡ true)
        → (s : ℕ) × (s < sets g) × (is_indicated g t key s ≡ true) × NoEqual g t key s
    there (s, inside, h) = let both = (and-eq-true_iff _ _).0 h in (s, inside, both.0, (false_means g t key s 0).0 both.1)

    back : (s : ℕ) × (s < sets g) × (is_indicated g t key s ≡ true) × NoEqual g t key s → any_is_false g t key ≡ true
    back (s, inside, h, no_equal) = any-true (sets g) _ s inside ((and-eq-true_iff _ _).1 (h, (false_means g t key s 0).1 no_equal))

-- ---- the addresses that all-match takes

-- those of every indicated set, in kind 2 the equal ones in it
pub is_taken_means : (g : Geometry) (t : Tables) (key a : ℕ)
    → (is_taken g t key a ≡ true) ↔ ((a < g.depth) × (is_indicated g t key (set_of g a) ≡ true) × (eqb g.kind segmented ≡ true → stored_word t a ≡ key))
unfolding is_taken
is_taken_means g t key a = (there, back)
  where
    compared : (b : Bool) → (not b || eqb (stored_word t a) key) ≡ true → b ≡ true → stored_word t a ≡ key
    compared true h e = eqb-true (stored_word t a) key h
    compared false h e = absurd (false≢true e)

    either : (b : Bool) → (b ≡ true → stored_word t a ≡ key) → (not b || eqb (stored_word t a) key) ≡ true
    either true h = eq-eqb (stored_word t a) key (h refl)
    either false h = refl

    there : is_taken g t key a ≡ true → (a < g.depth) × (is_indicated g t key (set_of g a) ≡ true) × (eqb g.kind segmented ≡ true → stored_word t a ≡ key)
    there h =
        let both = (and-eq-true_iff _ _).0 h in
        let chosen = (and-eq-true_iff _ _).0 both.1 in
        (ltb-true a g.depth chosen.0, both.0, compared (eqb g.kind segmented) chosen.1)

    back : (a < g.depth) × (is_indicated g t key (set_of g a) ≡ true) × (eqb g.kind segmented ≡ true → stored_word t a ≡ key) → is_taken g t key a ≡ true
    back (inside, indicates, equal) =
        (and-eq-true_iff _ _).1 (indicates, (and-eq-true_iff _ _).1 (lt-ltb a g.depth inside, either (eqb g.kind segmented) equal))

-- no address past the depth is taken
is_taken_past : (g : Geometry) (t : Tables) (key a : ℕ) → g.depth ≤ a → is_taken g t key a ≡ false
is_taken_past g t key a past = refuted (is_taken g t key a) (λ h. omega (arith, ((is_taken_means g t key a).0 h).0))

-- the ones in the word of those taken are as many as they are
pub total_ones-taken_words : (g : Geometry) → Facts g → (t : Tables) (key : ℕ) → total_ones (taken_words g t key) ≡ count g.depth (is_taken g t key)
unfolding taken_words
total_ones-taken_words g f t key = ones_below (match_words g) g.depth (is_taken g t key) (matches_most g f) (is_taken_past g t key)

-- ---- the three calls

false_answer : (x : Found) → is_false x ≡ true → answer_of x ≡ refused 6
unfolding is_false answer_of
false_answer (hit a w c) h = absurd (false≢true h)
false_answer (nothing w c) h = absurd (false≢true h)
false_answer false_set h = refl

false_next : (x : Found) → is_false x ≡ true → next_of x ≡ refused 6
unfolding is_false next_of
false_next (hit a w c) h = absurd (false≢true h)
false_next (nothing w c) h = absurd (false≢true h)
false_next false_set h = refl

-- A geometry, tables of its lengths and a pattern of it, and for a next-match an address: nothing
-- else is asked.
module _ (g : Geometry) (ok : is_valid g ≡ true) (t : Tables) (stored : length t.store ≡ g.depth) (words : length t.indicators ≡ indicator_words g)
    (key : ℕ) (small : key < patterns g) where
  pub first_match_any : FirstOnAny g t key (step g t (first_match key)).answer
  unfolding step outcome refusals own_refusals bad_matches first_refusal accepted_outcome
  first_match_any = rw (ok, (lengths_pass g t).1 (stored, words), (pattern_passes g key).1 small) (go (is_false (first_found g t key)) refl)
    where
      go : (b : Bool) → is_false (first_found g t key) ≡ b → FirstOnAny g t key (outcome g t (first_match key) (first_refusal (6 given_when b ∷ []))).answer
      go true e = rw (false_answer (first_found g t key) e) at (first_any g ok t stored key)
      go false e = first_any g ok t stored key

  pub next_match_any : (a : ℕ) → a < g.depth → NextOnAny g t a key (step g t (next_match a key)).answer
  unfolding step outcome refusals own_refusals bad_matches first_refusal accepted_outcome
  next_match_any a inside =
      rw (ok, (lengths_pass g t).1 (stored, words), (address_passes g a).1 inside, (pattern_passes g key).1 small) (go (is_false (next_found g t a key)) refl)
    where
      go : (b : Bool) → is_false (next_found g t a key) ≡ b → NextOnAny g t a key (outcome g t (next_match a key) (first_refusal (6 given_when b ∷ []))).answer
      go true e = rw (false_next (next_found g t a key) e) at (next_any g t a key ok stored)
      go false e = next_any g t a key ok stored

  pub all_match_any : (m : List ℕ) → length m ≡ match_words g → AllOnAny g t key (step g t (all_match key m)).answer
  unfolding step outcome refusals own_refusals bad_matches first_refusal accepted_outcome
  all_match_any m long =
      rw (ok, (lengths_pass g t).1 (stored, words), eq-eqb (length m) (match_words g) long, (pattern_passes g key).1 small) (go (any_is_false g t key) refl)
    where
      go : (b : Bool) → any_is_false g t key ≡ b → AllOnAny g t key (outcome g t (all_match key m) (first_refusal (6 given_when b ∷ []))).answer
      go true e = let (s, inside, h, none_equal) = (any_false_means g t key).0 e in AllOnAny.no_equal s inside h none_equal refl
      go false e =
          all_taken (λ s inside h none_equal. false≢true (sym e ∙ (any_false_means g t key).1 (s, inside, h, none_equal)))
          (ap (matched (taken_words g t key)) (total_ones-taken_words g (facts g ok) t key) ∙ unfold taken_words in refl)

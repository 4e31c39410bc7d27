-- Statement 3: on any tables of the right lengths whose indicators mirror the store, first-match
-- gives the lowest address that holds the key, or none exactly when no address does, next-match the
-- lowest above its own, and all-match the full word. None refuses with 6.
use Rattle.std.proofs.Common.{◌≡◌, ℕ, suc, ◌<◌, ◌≤◌, Bool, true, false, ◌&&◌, eqb, ltb, leb, ◌⊎◌, List, length, refl, sym, ap, ◌∙◌, ap₂, inl, inr, lt_trans, arith, ltb-false, ltb-true, eq-eqb, ne_eqb, eqb-true, le-leb, leb-true}
use Rattle.std.proofs.Math.Bool.{and-false, and-eq-true_iff, false≢true}
use Rattle.std.proofs.Math.Dec.{leb-zero}
use Rattle.std.proofs.Math.ListN.{get_or-eq_default}
use Rattle.words.specs.Rules as rule
use Rattle.words.specs.Rules.{onward, above, IsFirst}
use Rattle.words.proofs.Rules as rules
use Rattle.words.proofs.Bits.{bit_words_ext}
use Rattle.geometry.specs.declared.Geometry.{Geometry}
use Rattle.geometry.specs.Valid.{is_valid, segmented}
use Rattle.geometry.specs.Sizes.{patterns, sets, match_words, set_of, offset_of, address_of, set_length}
use Rattle.geometry.proofs.Facts.{Facts, facts, patterns_most}
use Rattle.geometry.proofs.Places as places
use Rattle.reference.specs.Entry.{empty_word}
use Rattle.reference.specs.Calls.{first_match, next_match, all_match, Answer, next, matched}
use Rattle.reference.specs.Tables.{Tables, stored_word}
use Rattle.reference.specs.Search.{is_indicated, is_false, first_found, next_found, any_is_false, is_taken}
use Rattle.reference.specs.Steps.{step}
use Rattle.reference.specs.Statements.{Mirrors, stores, NoEqual, FirstOnAny, NoneInOwn, NextOnAny, own_entry, AllOnAny, all_taken, FirstIs, lowest, absent, NextIs, AllAre}
use Rattle.reference.proofs.Searched.{is_indicated_means, own, found_false_means, next_false_means, any_false_means, is_taken_means, first_match_any, next_match_any, all_match_any}
use Rattle.reference.proofs.Indicated.{is_indicated_is}

module _ (g : Geometry) (ok : is_valid g ≡ true) (t : Tables) (mirrors : Mirrors g t) (key : ℕ) (small : key < patterns g) where
  abbrev f : Facts g
  f = facts g ok

  abbrev held : ℕ → Bool
  held = stores t key

  abbrev held_at : ℕ → ℕ → Bool
  held_at s o = held (address_of g s o)

  -- a set that is indicated has an address that holds the key
  witness : (s : ℕ) → is_indicated g t key s ≡ true → (o : ℕ) × (o < set_length g s) × (held_at s o ≡ true)
  witness s h = rules.any_witness (set_length g s) (held_at s) (sym (is_indicated_is g f t mirrors key small s ((is_indicated_means g t key s).0 h).0) ∙ h)

  -- so it is not false
  no_false_set : (s : ℕ) → is_indicated g t key s ≡ true → NoEqual g t key s → ⊥
  no_false_set s h none_equal = let holder = witness s h in false≢true (sym (none_equal.1 holder.0 holder.1) ∙ holder.2)

  -- a set that is not indicated holds the key nowhere
  not_held : (a : ℕ) → a < g.depth → is_indicated g t key (set_of g a) ≡ false → held a ≡ false
  not_held a l h =
      rw (places.address_of-set_of g f a) at
      (rules.none_of_any (set_length g (set_of g a)) (held_at (set_of g a)) (sym (is_indicated_is g f t mirrors key small (set_of g a) (places.set_of-lt g f a l)) ∙ h) (offset_of g a) (places.offset_lt g f a l))

  -- whether an address of a set from one on holds the key
  abbrev held_from : (from a : ℕ) → Bool
  held_from from a = leb from (set_of g a) && held a

  not_held_from : (from a : ℕ) → a < g.depth → onward from (is_indicated g t key) (set_of g a) ≡ false → held_from from a ≡ false
  not_held_from from a l h =
      rules.onward-false (λ s. held a) from (set_of g a) (λ past. not_held a l (sym (rules.onward_same (is_indicated g t key) from (set_of g a) past) ∙ h))

  -- The first offset that has the key, in the first indicated set from one on, is the first address
  -- of all from there.
  first_address : (from s o : ℕ) → IsFirst (sets g) (onward from (is_indicated g t key)) s → IsFirst (set_length g s) (held_at s) o
      → IsFirst g.depth (held_from from) (address_of g s o)
  first_address from s o first place =
      let past = (rules.onward_here (is_indicated g t key) from s first.here).0 in
      record {
        within = inside;
        here = (and-eq-true_iff _ _).1 (rw (places.set_of-address_of g f s o place.within) (le-leb from s past), place.here);
        none_before = λ a l. before a l (places.below_address g f a s o place.within l);
      }
    where
      inside : address_of g s o < g.depth
      inside = places.address-lt g f s o place.within

      before : (a : ℕ) → a < address_of g s o → (set_of g a < s) ⊎ ((set_of g a ≡ s) × (offset_of g a < o)) → held_from from a ≡ false
      before a l (inl h) = not_held_from from a (lt_trans l inside) (first.none_before (set_of g a) h)
      before a l (inr h) = rw (rw (← h.0, places.address_of-set_of g f a) at (place.none_before (offset_of g a) h.1)) (and-false (leb from (set_of g a)))

  -- an indicated set that is one address holds the key there, and at no other
  alone_place : (s : ℕ) → is_indicated g t key s ≡ true → eqb g.kind segmented ≡ false → IsFirst (set_length g s) (held_at s) 0
  alone_place s h kind =
      let holder = witness s h in
      let first : holder.0 ≡ 0 = omega (arith, holder.1, places.length_alone g f s kind) in
      record { within = rw first at holder.1; here = rw first at holder.2; none_before = λ j l. absurd (omega arith) }

  -- ---- first-match: from set 0 on

  held_all : (a : ℕ) → held_from 0 a ≡ held a
  held_all a = rw (leb-zero (set_of g a)) refl

  first_of_all : (s o : ℕ) → IsFirst (sets g) (is_indicated g t key) s → IsFirst (set_length g s) (held_at s) o → IsFirst g.depth held (address_of g s o)
  first_of_all s o first place =
      rules.first_same (held_from 0) held held_all (first_address 0 s o (rules.first_same _ _ (λ j. sym (rules.onward_all (is_indicated g t key) j)) first) place)

  -- What is answered on any tables is, on these, the lowest address.
  pub first_is : (answer : Answer) → FirstOnAny g t key answer → FirstIs g t key answer
  first_is answer (FirstOnAny.no_set nowhere e) = absent (λ a l. not_held a l (nowhere (set_of g a) (places.set_of-lt g f a l))) e
  first_is answer (FirstOnAny.equal_entry s o first kind place e) =
      lowest (address_of g s o) (first_of_all s o first place)
      (rw (kind, places.word_of_address g f (address_of g s o), places.set_of-address_of g f s o place.within) e)
  first_is answer (FirstOnAny.set_alone s first kind e) =
      let place = alone_place s first.here kind in
      let same : address_of g s 0 ≡ s = places.alone_address g f s 0 kind place.within in
      lowest s (rw same at (first_of_all s 0 first place)) (rw (kind, places.word_of_address g f s, places.alone_set g f s kind) e)
  first_is answer (FirstOnAny.no_equal s first none_equal e) = absurd (no_false_set s first.here none_equal)

  -- ---- next-match: above its address in the own set, and from the next set on

  module _ (a : ℕ) where
    own_first : (o : ℕ) → IsFirst (set_length g (set_of g a)) (own g t a key) o → IsFirst g.depth (above a held) (address_of g (set_of g a) o)
    own_first o first =
        let here = rules.onward_here (held_at (set_of g a)) (suc (offset_of g a)) o first.here in
        record {
          within = last;
          here = (and-eq-true_iff _ _).1 (le-leb (suc a) (address_of g (set_of g a) o) (omega (arith, here.0, places.address_of-set_of g f a)), here.1);
          none_before = λ b l. rules.refuted (above a held b) (λ h. before b l (rules.onward_here held (suc a) b h));
        }
      where
        last : address_of g (set_of g a) o < g.depth
        last = places.address-lt g f (set_of g a) o first.within

        before : (b : ℕ) → b < address_of g (set_of g a) o → (suc a ≤ b) × (held b ≡ true) → ⊥
        before b l (past, h) = go (places.later_address g f a b (lt_trans l last) past) (places.below_address g f b (set_of g a) o first.within l)
          where
            go : (set_of g a < set_of g b) ⊎ ((set_of g a ≡ set_of g b) × (offset_of g a < offset_of g b))
                → (set_of g b < set_of g a) ⊎ ((set_of g b ≡ set_of g a) × (offset_of g b < o)) → ⊥
            go (inl m) (inl n) = omega arith
            go (inl m) (inr n) = omega (arith, n.0)
            go (inr m) (inl n) = omega (arith, m.0)
            go (inr m) (inr n) =
                let clear = first.none_before (offset_of g b) n.1 in
                let there : held_at (set_of g a) (offset_of g b) ≡ true = rw (m.0, places.address_of-set_of g f b) h in
                false≢true (sym clear ∙ (and-eq-true_iff _ _).1 (le-leb (suc (offset_of g a)) (offset_of g b) m.1, there))

    -- Where its own set has none above it, those above it are those from the next set on.
    past_own : NoneInOwn g t a key → (b : ℕ) → b < g.depth → above a held b ≡ held_from (suc (set_of g a)) b
    past_own clear b last =
        rules.both_ways (above a held b) (held_from (suc (set_of g a)) b)
        (λ h. let past = rules.onward_here held (suc a) b h in there past.1 (places.later_address g f a b last past.0))
        (λ h. let both = (and-eq-true_iff _ _).0 h in (and-eq-true_iff _ _).1 (le-leb (suc a) b (places.later_set g f a b (leb-true _ _ both.0)), both.1))
      where
        there : held b ≡ true → (set_of g a < set_of g b) ⊎ ((set_of g a ≡ set_of g b) × (offset_of g a < offset_of g b)) → held_from (suc (set_of g a)) b ≡ true
        there h (inl l) = (and-eq-true_iff _ _).1 (le-leb (suc (set_of g a)) (set_of g b) l, h)
        there h (inr (same, l)) =
            let at_b : held_at (set_of g a) (offset_of g b) ≡ true = rw (same, places.address_of-set_of g f b) h in
            let none_there = clear (offset_of g b) (rw same (places.offset_lt g f b last)) in
            absurd (false≢true (sym none_there ∙ (and-eq-true_iff _ _).1 (le-leb (suc (offset_of g a)) (offset_of g b) l, at_b)))

    lowest_past : NoneInOwn g t a key → rule.lowest g.depth (above a held) ≡ rule.lowest g.depth (held_from (suc (set_of g a)))
    lowest_past clear = rules.lowest_ext g.depth _ _ (past_own clear)

    pub next_is : (answer : Answer) → NextOnAny g t a key answer → NextIs g t a key answer
    next_is answer (own_entry o kind first e) = e ∙ ap next (sym (rules.lowest_first g.depth _ _ (own_first o first)))
    next_is answer (NextOnAny.no_set clear nowhere e) =
        e ∙ ap next (sym (lowest_past clear ∙ rules.lowest_nowhere g.depth _ (λ b l. not_held_from (suc (set_of g a)) b l (nowhere (set_of g b) (places.set_of-lt g f b l)))))
    next_is answer (NextOnAny.equal_entry clear s o first kind place e) =
        e ∙ ap next (sym (lowest_past clear ∙ rules.lowest_first g.depth _ _ (first_address (suc (set_of g a)) s o first place)))
    next_is answer (NextOnAny.set_alone clear s first kind e) =
        let place = alone_place s (rules.onward_here (is_indicated g t key) (suc (set_of g a)) s first.here).1 kind in
        let same : address_of g s 0 ≡ s = places.alone_address g f s 0 kind place.within in
        e ∙ ap next (sym (lowest_past clear ∙ rules.lowest_first g.depth _ s (rw same at (first_address (suc (set_of g a)) s 0 first place))))
    next_is answer (NextOnAny.no_equal clear s first none_equal e) =
        absurd (no_false_set s (rules.onward_here (is_indicated g t key) (suc (set_of g a)) s first.here).1 none_equal)

  -- ---- no search comes to a false set

  pub first_not_false : is_false (first_found g t key) ≡ false
  first_not_false =
      rules.refuted _ (λ h. let (s, first, none_equal) = (found_false_means g f t key 0).0 h in no_false_set s (rules.onward_here (is_indicated g t key) 0 s first.here).1 none_equal)

  pub next_not_false : (a : ℕ) → is_false (next_found g t a key) ≡ false
  next_not_false a =
      rules.refuted _
      (λ h. let (s, first, none_equal) = ((next_false_means g ok t a key).0 h).1 in
      no_false_set s (rules.onward_here (is_indicated g t key) (suc (set_of g a)) s first.here).1 none_equal)

  pub none_false : any_is_false g t key ≡ false
  none_false = rules.refuted _ (λ h. let (s, inside, indicates, none_equal) = (any_false_means g t key).0 h in no_false_set s indicates none_equal)

  -- past the depth nothing is held
  pub held_past : (a : ℕ) → g.depth ≤ a → held a ≡ false
  held_past a h =
      rw (get_or-eq_default t.store empty_word {n = a} (rw mirrors.entries h))
      (ne_eqb empty_word key (λ e. omega (arith, patterns_most g f)))

  -- an address is taken by all-match exactly when it holds the key
  pub is_taken_is : (a : ℕ) → is_taken g t key a ≡ held a
  is_taken_is a = rules.both_ways (is_taken g t key a) (held a) (λ h. let taken = (is_taken_means g t key a).0 h in right taken.1 (eqb g.kind segmented) refl taken.2) (λ h. left h (ltb a g.depth) refl)
    where
      -- where sets have one address, an indicated set is that address
      right : is_indicated g t key (set_of g a) ≡ true → (b : Bool) → eqb g.kind segmented ≡ b → (b ≡ true → stored_word t a ≡ key) → held a ≡ true
      right h true e equal = eq-eqb (stored_word t a) key (equal refl)
      right h false e equal =
          let holder = witness (set_of g a) h in
          rw (places.alone_address g f (set_of g a) holder.0 e holder.1 ∙ places.alone_set g f a e) at holder.2

      left : held a ≡ true → (b : Bool) → ltb a g.depth ≡ b → is_taken g t key a ≡ true
      left h true e =
          let inside = ltb-true a g.depth e in
          (is_taken_means g t key a).1 (
            inside,
            is_indicated_is g f t mirrors key small (set_of g a) (places.set_of-lt g f a inside)
                ∙ rules.any-true (set_length g (set_of g a)) (held_at (set_of g a)) (offset_of g a) (places.offset_lt g f a inside) (rw (places.address_of-set_of g f a) h),
            λ _. eqb-true (stored_word t a) key h,
          )
      left h false e = absurd (false≢true (sym (held_past a (ltb-false a g.depth e)) ∙ h))

-- ---- the three calls

module _ (g : Geometry) (ok : is_valid g ≡ true) (t : Tables) (mirrors : Mirrors g t) (key : ℕ) (small : key < patterns g) where
  pub first_match_mirrored : FirstIs g t key (step g t (first_match key)).answer
  first_match_mirrored = first_is g ok t mirrors key small _ (first_match_any g ok t mirrors.entries mirrors.words key small)

  pub next_match_mirrored : (a : ℕ) → a < g.depth → NextIs g t a key (step g t (next_match a key)).answer
  next_match_mirrored a inside = next_is g ok t mirrors key small a _ (next_match_any g ok t mirrors.entries mirrors.words key small a inside)

  pub all_match_mirrored : (m : List ℕ) → length m ≡ match_words g → AllAre g t key (step g t (all_match key m)).answer
  all_match_mirrored m long = go (all_match_any g ok t mirrors.entries mirrors.words key small m long)
    where
      same : (a : ℕ) → is_taken g t key a ≡ stores t key a
      same = is_taken_is g ok t mirrors key small

      go : AllOnAny g t key (step g t (all_match key m)).answer → AllAre g t key (step g t (all_match key m)).answer
      go (all_taken no_false e) =
          e ∙ ap₂ matched (bit_words_ext (match_words g) _ _ same) (rules.count_ext g.depth _ _ (λ a l. same a))
      go (AllOnAny.no_equal s inside h none_equal e) = absurd (no_false_set g ok t mirrors key small s h none_equal)

-- The walk for a key, on any tables whose indicators mirror the store and so after every history
-- that begins with the tables of an array: it ends, and visits just the addresses that all-match
-- marks (rule 10.8 of docs/MEMORY.md). From `Mirrored`: the next address is the first that is left,
-- so that one call less is left to make.
use Rattle.std.proofs.Common.{◌≡◌, ℕ, zero, suc, ◌+◌, ◌-◌, ◌*◌, ◌<◌, ◌≤◌, Bool, true, false, ◌&&◌, leb, List, [], ◌∷◌, length, Some, None, refl, sym, ap, ◌∙◌, ap₂, arith, le-leb, leb-true}
use Rattle.words.specs.Rules as rule
use Rattle.words.specs.Rules.{count, above, those, IsFirst}
use Rattle.words.specs.Bits.{bit_words}
use Rattle.words.proofs.Rules.{LowestIs, at_first, at_none, lowest_is, onward_here, those_none, those_ext, those_first, those_past}
use Rattle.words.proofs.Bits.{length-bit_words, bit-bit_words}
use Rattle.geometry.specs.declared.Geometry.{Geometry}
use Rattle.geometry.specs.Valid.{is_valid}
use Rattle.geometry.specs.Sizes.{patterns, match_words}
use Rattle.geometry.proofs.Facts.{facts}
use Rattle.geometry.proofs.Places.{matches_most}
use Rattle.reference.specs.Calls.{Call, first_match, next_match}
use Rattle.reference.specs.Array.{Array}
use Rattle.reference.specs.Tables.{Tables}
use Rattle.reference.specs.Steps.{step}
use Rattle.reference.specs.History.{History, after, array_of}
use Rattle.reference.specs.Statements.{Mirrors, stores, FirstIs, lowest, absent, NextIs, IsBegun}
use Rattle.reference.specs.Walks.{IsWalk, marked_addresses, WalkVisits}
use Rattle.reference.proofs.Refused.{reading_keeps}
use Rattle.reference.proofs.Mirrored.{held_past, first_match_mirrored, next_match_mirrored, all_match_mirrored}
use Rattle.reference.proofs.Image.{image_mirrors}
use Rattle.reference.proofs.History.{history_begins}

-- two walks from one call visit the same
walk_unique : (g : Geometry) (key : ℕ) (t : Tables) (c : Call (List ℕ)) (vs ws : List ℕ) → IsWalk g key t c vs → IsWalk g key t c ws → vs ≡ ws
unfolding IsWalk
walk_unique g key t c [] [] p q = refl
walk_unique g key t c [] (b ∷ ws) p q = let clash : Some None ≡ Some (Some b) = sym p ∙ q.0 in absurd (cc)
walk_unique g key t c (a ∷ vs) [] p q = let clash : Some (Some a) ≡ Some None = sym p.0 ∙ q in absurd (cc)
walk_unique g key t c (a ∷ vs) (b ∷ ws) p q =
    let both : Some (Some a) ≡ Some (Some b) = sym p.0 ∙ q.0 in
    let same : a ≡ b = cc in
    ap₂ (λ (x : ℕ) (xs : List ℕ). x ∷ xs) same (walk_unique g key (step g t c).tables (next_match a key) vs ws p.1 (rw (← same) at q.1))

module _ (g : Geometry) (ok : is_valid g ≡ true) (t : Tables) (mirrors : Mirrors g t) (key : ℕ) (small : key < patterns g) where
  abbrev held : ℕ → Bool
  held = stores t key

  -- what is above an address that is itself above one
  above_both : (a b : ℕ) → a < b → (i : ℕ) → above b (above a held) i ≡ above b held i
  above_both a b l i = go (leb (suc b) i) refl
    where
      go : (x : Bool) → leb (suc b) i ≡ x → (x && (leb (suc a) i && held i)) ≡ (x && held i)
      go true e = let past = leb-true (suc b) i e in rw (le-leb (suc a) i (omega arith)) refl
      go false e = refl

  -- From a next-match on, with n addresses above its own at most.
  walk_above : (n a : ℕ) → a < g.depth → g.depth ≤ a + n → IsWalk g key t (next_match a key) (those g.depth (above a held))
  unfolding IsWalk
  walk_above zero a inside h = absurd (omega arith)
  walk_above (suc n) a inside h = go (lowest_is g.depth (above a held)) (λ b first l. walk_above n b first.within (omega arith))
    where
      answer : NextIs g t a key (step g t (next_match a key)).answer
      answer = next_match_mirrored g ok t mirrors key small a inside

      go : LowestIs g.depth (above a held) (rule.lowest g.depth (above a held)) → ((b : ℕ) → IsFirst g.depth (above a held) b → a < b → IsWalk g key t (next_match b key) (those g.depth (above b held)))
          → IsWalk g key t (next_match a key) (those g.depth (above a held))
      go (at_none q nowhere) rest = rw (those_none g.depth (above a held) nowhere, IsWalk) (rw (answer, q) refl)
      go (at_first b q first) rest =
          let past = (onward_here held (suc a) b first.here).0 in
          rw (those_first g.depth (above a held) b first, those_ext g.depth _ _ (λ i l. above_both a b past i), IsWalk)
          (rw (answer, q) refl, rw (reading_keeps g t a key []).2 (rest b first past))

  walk_first : IsWalk g key t (first_match key) (those g.depth held)
  unfolding IsWalk
  walk_first = go (first_match_mirrored g ok t mirrors key small)
    where
      go : FirstIs g t key (step g t (first_match key)).answer → IsWalk g key t (first_match key) (those g.depth held)
      go (absent nowhere e) = rw (those_none g.depth held nowhere, IsWalk) (rw e refl)
      go (lowest a first e) =
          rw (those_first g.depth held a first, IsWalk)
          (rw e refl, rw (reading_keeps g t 0 key []).1 (walk_above g.depth a first.within (omega arith)))

  -- the addresses that hold the key are those that are marked
  marked_addresses_is : those g.depth held ≡ marked_addresses (bit_words (match_words g) held)
  marked_addresses_is =
      let most = matches_most g (facts g ok) in
      let whole : g.depth + (64 * match_words g - g.depth) ≡ 64 * match_words g = omega arith in
      sym (
      rw (length-bit_words (match_words g) held)
      (those_ext (64 * match_words g) _ held (λ a l. bit-bit_words (match_words g) held a l)
      ∙ ap (λ n. those n held) (sym whole)
      ∙ those_past g.depth _ held (held_past g ok t mirrors key small))
      )

  pub walk_mirrored : (lent : List ℕ) → length lent ≡ match_words g → WalkVisits g t key lent
  walk_mirrored lent long = record {
    matches = bit_words (match_words g) held;
    hits = count g.depth held;
    all = all_match_mirrored g ok t mirrors key small lent long;
    walks = λ visits. (λ w. walk_unique g key t (first_match key) _ _ w walk_first ∙ marked_addresses_is, λ e. rw (e ∙ sym marked_addresses_is) walk_first);
  }

pub begun_walks : (g : Geometry) (t : Tables) (es : Array) → IsBegun g t es → (key : ℕ) → key < patterns g
    → (lent : List ℕ) → length lent ≡ match_words g → WalkVisits g t key lent
begun_walks g t es b key small lent long =
    walk_mirrored g b.valid t (rw b.tables (image_mirrors g (facts g b.valid) es b.sound)) key small lent long

-- after every history
pub walk_visits : (g : Geometry) (t : Tables) (es : Array) → IsBegun g t es → (cs : History) (key : ℕ) → key < patterns g
    → (lent : List ℕ) → length lent ≡ match_words g → WalkVisits g (after g t cs) key lent
walk_visits g t es b cs key small lent long = begun_walks g (after g t cs) (array_of g es cs) (history_begins g t es b cs) key small lent long

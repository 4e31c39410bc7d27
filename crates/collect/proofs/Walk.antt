-- The walk over the sets of a row word, the lowest first: each turn clears the lowest bit of what
-- is left. What a turn finds, what a closure may ask of each set, and what `any` finds over them.
use Rattle.std.proofs.Common.{◌≡◌, ℕ, ◌+◌, ◌*◌, ◌%◌, ◌^◌, ◌<◌, Bool, true, false, not, ◌&&◌, eqb, List, [], ◌∷◌, MatchOption, Some, None, Option, sym, ◌∙◌, arith}
use Rattle.std.proofs.Math.Bool.{and_assoc, and-false, and-eq-true_iff}
use denote.Param.Members.{Mut}
use lib.Count.{count_trailing_zeros}
use Rattle.std.specs.Fn.{Called}
use Rattle.std.specs.Iterator.{Yields, YieldsThen, CallableAtEachTurn}
use Rattle.std.specs.List.{FoldsTo}
use Rattle.words.specs.Rules.{any}
use Rattle.words.specs.Bits.{bit, clear_bit}
use Rattle.words.proofs.Rules.{any-true, any-false, any_ext, any_split}
use Rattle.words.proofs.Bits.{bit-zero, bit-clear_bit, lowest_turn}
use Rattle.geometry.specs.declared.Geometry.{Geometry}
use Rattle.geometry.specs.Sizes.{sets}
use Rattle.places.specs.Walks.{LowestFirst}
use Rattle.reference.specs.Tables.{Tables}
use Rattle.reference.specs.Search.{joined_word}
use Rattle.reference.proofs.Searched.{joined_word-lt}
use Rattle.search.specs.Rows.{IsInSets}
use Rattle.search.proofs.Seeking.{joined_word_in_sets}

-- What is left of row word j.
pub record Left (g : Geometry) (j rest : ℕ) : Type 0 where
  pub small : rest < 2 ^ 64
  pub inside : IsInSets g rest j

-- at first all of the joined word is
pub all_left : (g : Geometry) (t : Tables) (key j : ℕ) {w : ℕ} → w ≡ joined_word g t key j → Left g j w
all_left g t key j e = rw e (record { small = joined_word-lt g t key j; inside = joined_word_in_sets g t key j })

-- A turn, where s is the set of the lowest bit of what is left.
pub record Turn (g : Geometry) (j rest s : ℕ) : Type 0 where
  pub here : bit rest (s % 64) ≡ true
  pub whole : s ≡ 64 * j + s % 64
  pub within : s < sets g
  pub after : Left g j (clear_bit rest (s % 64))

pub turn : (g : Geometry) (j rest : ℕ) → Left g j rest → (rest ≡ 0 → ⊥) → (s : ℕ) → s ≡ 64 * j + count_trailing_zeros 64 rest → Turn g j rest s
turn g j rest left some s e =
    let t = lowest_turn j rest s left.small some e in
    record {
      here = t.here;
      whole = t.whole;
      within = omega (arith, t.whole, left.inside (s % 64) t.here);
      after = record {
        small = omega (arith, left.small, t.less);
        inside = λ i h. left.inside i ((and-eq-true_iff (not (eqb i (s % 64))) (bit rest i)).0 (rw bit-clear_bit at h)).1;
      };
    }

-- Whether a bit of row word j, which is w, is that of a set that has r.
abbrev pub some_set : (ℕ → Bool) → (j w : ℕ) → Bool
some_set r j w = any 64 (λ b. bit w b && r (64 * j + b))

module _ (r : ℕ → Bool) (j w : ℕ) where
  no_bit : w ≡ 0 → false ≡ some_set r j w
  no_bit e = sym (any-false 64 _ (λ b l. rw (e, bit-zero)))

  module _ (s : ℕ) (whole : s ≡ 64 * j + s % 64) where
    bit_has : bit w (s % 64) ≡ true → r s ≡ true → true ≡ some_set r j w
    bit_has here has = sym (any-true 64 _ (s % 64) (omega arith) ((and-eq-true_iff _ _).1 (here, rw (← whole) has)))

    -- the bit of a set that has it not may be cleared
    bit_passed : r s ≡ false → some_set r j (clear_bit w (s % 64)) ≡ some_set r j w
    bit_passed passed =
        let none : r (64 * j + s % 64) ≡ false = rw (← whole) passed in
        sym (any_split 64 (λ b. bit w b && r (64 * j + b)) (s % 64) (omega arith)
        ∙ rw (none, and-false (bit w (s % 64))) (any_ext 64 _ _ (λ b l. rw bit-clear_bit (sym (and_assoc (not (eqb b (s % 64))) (bit w b) _)))))

module _ {S A : Type 0} (rest at : S → ℕ) (number : A → ℕ) (g : Geometry) (j : ℕ) where
  -- the walk is over row word j
  abbrev On : S → Type 0
  On s = (at s ≡ j) × Left g j (rest s)

  step : (s t : S) (x : A) → On s → LowestFirst rest at number s (Some x) t → Turn g j (rest s) (number x) × On t
  step s t x (here, left) st =
      let n = turn g j (rest s) left st.0 (number x) (rw here at st.1) in
      (n, (st.3 ∙ here, rw st.2 n.after))

  -- what a closure that keeps what it has asks of each set holds, if it holds of those of the
  -- geometry
  pub each_set : {F : Type 0} {R : F → A → F → Type 0} {Q : F → A → Type 0} {f : F} → ((x : A) (q : F) → R f x q → q ≡ f)
      → ((x : A) → number x < sets g → Q f x) → (s : S) → at s ≡ j → Left g j (rest s) → CallableAtEachTurn (LowestFirst rest at number) R Q s f
  each_set {F} {R} {Q} {f} stays asks s here left = record { at = λ xs t q x u. go xs s t q x u (here, left) }
    where
      go : (xs : List A) (s t : S) (q : F) (x : A) (u : S) → On s → Yields (LowestFirst rest at number) s xs t → FoldsTo R f xs q
          → LowestFirst rest at number t (Some x) u → Q q x
      go [] s t q x u on is same last = rw (← same) (asks x (step s u x on (rw is last)).0.within)
      go (y ∷ ys) s t q x u on (k, turned, more) (p, call, calls) last =
          go ys k t q x u (step s k y on turned).1 more (rw (stays y p call) at calls) last

  -- `any` finds a set that has r, by a closure that keeps what it has and answers for a set what r
  -- says of its number
  module _ {F : Type 0} {g′ : Mut F (A × Unit {0}) Bool} (r : ℕ → Bool) (u : S) (f : F) (found : Bool)
      (answers : (x : A) (b : Bool) (q : F) → Called g′ f (x, tt) b q → (q ≡ f) × (b ≡ r (number x))) where
    go : (xs : List A) (s : S) (o : Option A) (h : F) → On s → YieldsThen (LowestFirst rest at number) s xs o u
        → FoldsTo (λ p x q. Called g′ p (x, tt) false q) f xs h → MatchOption o (found ≡ false) (λ x. (found ≡ true) × ((k : F) × Called g′ h (x, tt) true k))
        → found ≡ some_set r j (rest s)
    go [] s None h on (t, is, last) same none = none ∙ no_bit r j (rest s) (rw is last.0)
    go [] s (Some x) h on (t, is, last) same (here, call) =
        let n = (step s u x on (rw is last)).0 in
        here ∙ bit_has r j (rest s) (number x) n.whole n.here (sym (answers x true call.0 (rw same call.1)).1)
    go (x ∷ xs) s o h on (t, (k, turned, more), last) (p, call, calls) end =
        let n = step s k x on turned in
        let answer = answers x false p call in
        go xs k o h n.1 (t, more, last) (rw answer.0 at calls) end ∙ rw turned.2 (bit_passed r j (rest s) (number x) n.0.whole (sym answer.1))

    pub any_of_sets : (s : S) → at s ≡ j → Left g j (rest s)
        → (xs : List A) × (o : Option A) × (h : F) × YieldsThen (LowestFirst rest at number) s xs o u × FoldsTo (λ p x q. Called g′ p (x, tt) false q) f xs h
        × MatchOption o (found ≡ false) (λ x. (found ≡ true) × ((k : F) × Called g′ h (x, tt) true k)) → found ≡ some_set r j (rest s)
    any_of_sets s here left (xs, o, h, ran, asked, end) = go xs s o h (here, left) ran asked end

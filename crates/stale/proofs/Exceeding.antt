-- Whether a word has a bit that another has not: by their bits, bit by bit cleared, and at the end;
-- so the sets of its bits tell it, asked one by one.
use Rattle.std.proofs.Common.{◌≡◌, ℕ, ◌+◌, ◌*◌, ◌%◌, ◌^◌, ◌<◌, Bool, true, false, not, ◌&&◌, eqb, ◌↔◌, List, [], ◌∷◌, MatchOption, Some, None, Option, refl, sym, ap, ◌∙◌, true≢false, arith, eq-eqb, eqb-true}
use Rattle.std.proofs.Math.Bool.{and-eq-true_iff, false≢true}
use lib.Bits.{bit_and}
use borrow.Author.Tests.{not-true, not-false}
use denote.Param.Members.{Mut}
use Rattle.std.specs.Fn.{Called}
use Rattle.std.specs.Iterator.{Yields, YieldsThen}
use Rattle.std.specs.List.{FoldsTo}
use Rattle.words.specs.Bits.{bit, clear_bit}
use Rattle.words.proofs.Rules.{both_false}
use Rattle.words.proofs.Bits.{bits_equal, bit-zero, bit-bit_and, bit-clear_bit, bit-word, Lowest, lowest_turn}
use Rattle.geometry.specs.declared.Geometry.{Geometry}
use Rattle.cover.specs.Image.{Cover, is_covered, image_word}
use Rattle.places.specs.Walks.{LowestFirst}
use Rattle.stale.specs.Stale.{exceeds}

pub exceeds_not : (w v : ℕ) → (exceeds w v ≡ false) ↔ ((b : ℕ) → bit w b ≡ true → bit v b ≡ true)
unfolding exceeds
exceeds_not w v = (there, λ h. ap not (eq-eqb (bit_and w v) w (bits_equal _ _ (λ b. bit-bit_and w v b ∙ go (bit w b) (bit v b) (h b)))))
  where
    there : exceeds w v ≡ false → (b : ℕ) → bit w b ≡ true → bit v b ≡ true
    there e b h =
        let same = eqb-true (bit_and w v) w (not-false _ e) in
        ((and-eq-true_iff (bit w b) (bit v b)).0 (sym (bit-bit_and w v b) ∙ ap (λ n. bit n b) same ∙ h)).1

    go : (x y : Bool) → (x ≡ true → y ≡ true) → (x && y) ≡ x
    go true y h = h refl
    go false y h = refl

-- a bit that the other has not
pub exceeds_here : (w v b : ℕ) → bit w b ≡ true → bit v b ≡ false → true ≡ exceeds w v
exceeds_here w v b here other = go (exceeds w v) refl
  where
    go : (x : Bool) → exceeds w v ≡ x → true ≡ x
    go true e = refl
    go false e = absurd (true≢false (sym ((exceeds_not w v).0 e b here) ∙ other))

-- one that it has may be cleared
pub exceeds_on : (w v b : ℕ) → bit v b ≡ true → exceeds (clear_bit w b) v ≡ exceeds w v
exceeds_on w v b other =
    both_false _ _ (λ e. (exceeds_not w v).1 (λ i h. go i h ((exceeds_not (clear_bit w b) v).0 e) (eqb i b) refl))
    (λ e. (exceeds_not (clear_bit w b) v).1 (λ i h. (exceeds_not w v).0 e i ((and-eq-true_iff (not (eqb i b)) (bit w i)).0 (rw bit-clear_bit at h)).1))
  where
    go : (i : ℕ) → bit w i ≡ true → ((i : ℕ) → bit (clear_bit w b) i ≡ true → bit v i ≡ true) → (x : Bool) → eqb i b ≡ x → bit v i ≡ true
    go i h rest true e = rw (eqb-true i b e) other
    go i h rest false e = rest i (bit-clear_bit w b i ∙ rw (e, h))

pub exceeds_none : (w v : ℕ) → w ≡ 0 → false ≡ exceeds w v
exceeds_none w v e = rw e (sym ((exceeds_not 0 v).1 (λ b h. absurd (false≢true (sym (bit-zero b) ∙ h)))))

-- the image has the bit of set s exactly where the set is covered
bit-image_word : (g : Geometry) (cover : Cover) (row j s : ℕ) → s ≡ 64 * j + s % 64 → bit (image_word g cover row j) (s % 64) ≡ is_covered g cover row s
bit-image_word g cover row j s whole = bit-word 64 _ (s % 64) (omega arith) ∙ ap (is_covered g cover row) (sym whole)

-- The sets of a word's bits are asked from the lowest on, by a closure that keeps what it has,
-- whether they are not covered.
module _ {W T F : Type 0} (rest at : W → ℕ) (number : T → ℕ) {call : Mut F (T × Unit {0}) Bool} (g : Geometry) (cover : Cover) (row j : ℕ)
    {f : F} {found : Bool} (answers : (x : T) (b : Bool) (q : F) → Called call f (x, tt) b q → (q ≡ f) × (b ≡ not (is_covered g cover row (number x)))) where
  from : (w : W) → rest w < 2 ^ 64 → at w ≡ j → (xs : List T) (o : Option T) (k : F) (t u : W) → Yields (LowestFirst rest at number) w xs t
      → LowestFirst rest at number t o u → FoldsTo (λ p x q. Called call p (x, tt) false q) f xs k
      → MatchOption o (found ≡ false) (λ x. (found ≡ true) × ((h : F) × Called call k (x, tt) true h)) → found ≡ exceeds (rest w) (image_word g cover row j)
  from w small here [] None k t u y s fs e = e ∙ exceeds_none _ _ (ap rest y ∙ s.0)
  from w small here [] (Some x) k t u y s fs e =
      let step = rw (← y) at s in
      let turn : Lowest j (rest w) (number x) = lowest_turn j (rest w) (number x) small step.0 (rw here at step.1) in
      let asked = answers x true e.1.0 (rw (← fs) at e.1.1) in
      e.0 ∙ exceeds_here (rest w) _ (number x % 64) turn.here (bit-image_word g cover row j (number x) turn.whole ∙ not-true _ (sym asked.1))
  from w small here (x ∷ xs) o k t u y s fs e =
      let turn : Lowest j (rest w) (number x) = lowest_turn j (rest w) (number x) small y.1.0 (rw here at y.1.1) in
      let asked = answers x false fs.0 fs.1 in
      let left : rest y.0 ≡ clear_bit (rest w) (number x % 64) = y.1.2 in
      from y.0 (omega (arith, turn.less, left)) (y.1.3 ∙ here) xs o k t u y.2 s (rw asked.0 at fs.2) e
      ∙ rw left (exceeds_on (rest w) _ (number x % 64) (bit-image_word g cover row j (number x) turn.whole ∙ not-false _ (sym asked.1)))

  pub sets_tell : (w u : W) → rest w < 2 ^ 64 → at w ≡ j
      → (xs : List T) × (o : Option T) × (k : F) × YieldsThen (LowestFirst rest at number) w xs o u × FoldsTo (λ p x q. Called call p (x, tt) false q) f xs k
      × MatchOption o (found ≡ false) (λ x. (found ≡ true) × ((h : F) × Called call k (x, tt) true h)) → found ≡ exceeds (rest w) (image_word g cover row j)
  sets_tell w u small here (xs, o, k, steps, asked, end) = from w small here xs o k steps.0 u steps.1 steps.2 asked end

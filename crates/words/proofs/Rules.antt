-- Laws of rules over numbers, and of the lists made by them.
use Rattle.std.proofs.Common.{◌≡◌, ℕ, zero, suc, ◌+◌, ◌*◌, ◌/◌, ◌%◌, ◌<◌, ◌≤◌, Bool, true, false, cond, not, ◌&&◌, ◌||◌, eqb, leb, ◌⊎◌, List, [], ◌∷◌, length, get_or, Some, None, filter, Option, refl, sym, ap, ◌∙◌, ap₂, inl, inr, append-nil, le_of_suc-le-suc, add-zero, add_assoc, add-suc, mul_comm, eq-or-lt_of_le, zero-add, one-add, arith, ext_get_or, eq-eqb, eqb-true, le-leb, leb-false, leb-true}
use Rattle.std.proofs.Math.Bool.{false≢true, or-true, or-false, or_assoc, and-false, and-eq-true_iff}
use Rattle.std.proofs.Math.Nat.{div-add-mod}
use Rattle.std.proofs.Math.Decide.{dec_lt}
use Rattle.std.proofs.Math.Dec.{leb-zero}
use Rattle.std.proofs.Math.Arith.{digits_div, digits_mod}
use borrow.Author.Tests.{lt-leb}
use Rattle.std.specs.Option.{option_or}
use Rattle.words.specs.Rules.{any, count, lowest, onward, above, those, member, tabulate, IsFirst, Nowhere}

-- two tests that follow from each other are one
pub both_ways : (a b : Bool) → (a ≡ true → b ≡ true) → (b ≡ true → a ≡ true) → a ≡ b
both_ways true b p q = sym (p refl)
both_ways false true p q = q refl
both_ways false false p q = refl

-- and so are two of which each is false where the other is
pub both_false : (a b : Bool) → (a ≡ false → b ≡ false) → (b ≡ false → a ≡ false) → a ≡ b
both_false false b p q = sym (p refl)
both_false true false p q = q refl
both_false true true p q = refl

-- a test that cannot be true is false
pub refuted : (b : Bool) → (b ≡ true → ⊥) → b ≡ false
refuted true h = absurd (h refl)
refuted false h = refl

-- what a loop finds by testing l against i, where l is n
module _ {i l n : ℕ} {r : Bool} (found : r ≡ leb l i) (same : l ≡ n) where
  pub outside_past : r ≡ true → n ≤ i
  outside_past e = rw (← same) (leb-true l i (sym found ∙ e))

  pub outside_below : r ≡ false → i < n
  outside_below e = rw (← same) (leb-false l i (sym found ∙ e))

-- a number is told by its quotient and its remainder
pub digits_same : (n a s o : ℕ) → o < n → eqb a (n * s + o) ≡ (eqb (a / n) s && eqb (a % n) o)
digits_same n a s o h = both_ways _ _ apart together
  where
    apart : eqb a (n * s + o) ≡ true → (eqb (a / n) s && eqb (a % n) o) ≡ true
    apart e =
        let same = eqb-true a (n * s + o) e in
        (and-eq-true_iff _ _).1
        (eq-eqb (a / n) s (rw (same, mul_comm) (digits_div s h)), eq-eqb (a % n) o (rw (same, mul_comm) (digits_mod s h)))

    together : (eqb (a / n) s && eqb (a % n) o) ≡ true → eqb a (n * s + o) ≡ true
    together e =
        let both = (and-eq-true_iff (eqb (a / n) s) (eqb (a % n) o)).0 e in
        eq-eqb a (n * s + o) (rw (← eqb-true (a / n) s both.0, ← eqb-true (a % n) o both.1) (sym (div-add-mod a n)))

pub any_witness : (n : ℕ) (r : ℕ → Bool) → any n r ≡ true → (i : ℕ) × (i < n) × (r i ≡ true)
unfolding any
any_witness zero r h = absurd (false≢true h)
any_witness (suc n) r h = go (any n r) refl (any_witness n r)
  where
    go : (b : Bool) → any n r ≡ b → (any n r ≡ true → (i : ℕ) × (i < n) × (r i ≡ true)) → (i : ℕ) × (i < suc n) × (r i ≡ true)
    go true e before = let w = before e in (w.0, omega arith, w.2)
    go false e before = (n, omega arith, rw e at h)

pub any-true : (n : ℕ) (r : ℕ → Bool) (i : ℕ) → i < n → r i ≡ true → any n r ≡ true
unfolding any
any-true zero r i l h = absurd (omega arith)
any-true (suc n) r i l h = go (eq-or-lt_of_le (le_of_suc-le-suc l)) (λ m. any-true n r i m h)
  where
    go : (i ≡ n) ⊎ (i < n) → (i < n → any n r ≡ true) → any (suc n) r ≡ true
    go (inl e) before = rw (rw e at h) (or-true (any n r))
    go (inr m) before = rw (before m)

pub any-false : (n : ℕ) (r : ℕ → Bool) → Nowhere n r → any n r ≡ false
unfolding any
any-false zero r h = refl
any-false (suc n) r h = rw (any-false n r (λ i l. h i (omega arith)), h n (omega arith))

-- what `any-false` needs, back
pub none_of_any : (n : ℕ) (r : ℕ → Bool) → any n r ≡ false → Nowhere n r
none_of_any n r h i l = go (r i) refl
  where
    go : (b : Bool) → r i ≡ b → r i ≡ false
    go true e = cc (any-true n r i l e)
    go false e = e

pub any_ext : (n : ℕ) (r s : ℕ → Bool) → ((i : ℕ) → i < n → r i ≡ s i) → any n r ≡ any n s
unfolding any
any_ext zero r s h = refl
any_ext (suc n) r s h = rw (any_ext n r s (λ i l. h i (omega arith)), h n (omega arith))

-- one place apart from the others
pub any_split : (n : ℕ) (r : ℕ → Bool) (o : ℕ) → o < n → any n r ≡ (r o || any n (λ i. not (eqb i o) && r i))
any_split n r o l = go (r o) refl
  where
    other : (i : ℕ) (b : Bool) → r o ≡ false → eqb i o ≡ b → r i ≡ (not b && r i)
    other i true e t = rw (eqb-true i o t) e
    other i false e t = refl

    go : (b : Bool) → r o ≡ b → any n r ≡ (b || any n (λ i. not (eqb i o) && r i))
    go true e = any-true n r o l e
    go false e = any_ext n r _ (λ i m. other i (eqb i o) e refl)

-- the lowest place apart from the others
any_front : (n : ℕ) (r : ℕ → Bool) → any (suc n) r ≡ (r 0 || any n (λ i. r (suc i)))
unfolding any
any_front zero r = sym (or-false (r 0))
any_front (suc n) r = ap (λ b. b || r (suc n)) (any_front n r) ∙ or_assoc (r 0) (any n (λ i. r (suc i))) (r (suc n))

pub count_ext : (n : ℕ) (r s : ℕ → Bool) → ((i : ℕ) → i < n → r i ≡ s i) → count n r ≡ count n s
unfolding count
count_ext zero r s h = refl
count_ext (suc n) r s h = rw (count_ext n r s (λ i l. h i (omega arith)), h n (omega arith))

pub count_none : (n : ℕ) (r : ℕ → Bool) → Nowhere n r → count n r ≡ 0
unfolding count
count_none zero r h = refl
count_none (suc n) r h = rw (count_none n r (λ i l. h i (omega arith)), h n (omega arith))

pub count-add : (n m : ℕ) (r : ℕ → Bool) → count (n + m) r ≡ count n r + count m (λ i. r (n + i))
unfolding count
count-add n zero r = simp add-zero
count-add n (suc m) r = rw (add-suc, count-add n m r, add_assoc)

-- the lowest place apart from the others
pub count_front : (n : ℕ) (r : ℕ → Bool) → count (suc n) r ≡ cond (r 0) 1 0 + count n (λ i. r (suc i))
count_front n r = rw (← one-add n) (count-add 1 n r ∙ unfold count in simp (zero-add, one-add))

pub count_most : (n : ℕ) (r : ℕ → Bool) → count n r ≤ n
unfolding count
count_most zero r = omega arith
count_most (suc n) r = go (r n) (count_most n r)
  where
    go : (b : Bool) → count n r ≤ n → count n r + cond b 1 0 ≤ suc n
    go true h = omega arith
    go false h = omega arith

pub length-tabulate : (n : ℕ) (f : ℕ → ℕ) → length (tabulate n f) ≡ n
unfolding tabulate
length-tabulate zero f = refl
length-tabulate (suc n) f = ap suc (length-tabulate n (λ i. f (suc i)))

pub get_or-tabulate : (n : ℕ) (f : ℕ → ℕ) (i d : ℕ) → i < n → get_or (tabulate n f) i d ≡ f i
unfolding tabulate
get_or-tabulate zero f i d l = absurd (omega arith)
get_or-tabulate (suc n) f zero d l = refl
get_or-tabulate (suc n) f (suc i) d l = get_or-tabulate n (λ k. f (suc k)) i d (omega arith)

-- a list is tabulated by its elements
pub list_tabulate : (l : List ℕ) (n : ℕ) (f : ℕ → ℕ) → length l ≡ n → ((i : ℕ) → i < n → get_or l i 0 ≡ f i) → l ≡ tabulate n f
list_tabulate l n f e h =
    ext_get_or 0 l (tabulate n f) (e ∙ sym (length-tabulate n f)) (λ i m. h i (omega arith) ∙ sym (get_or-tabulate n f i 0 (omega arith)))

pub tabulate_ext : (n : ℕ) (f g : ℕ → ℕ) → ((i : ℕ) → i < n → f i ≡ g i) → tabulate n f ≡ tabulate n g
tabulate_ext n f g h = list_tabulate (tabulate n f) n g (length-tabulate n f) (λ i l. get_or-tabulate n f i 0 l ∙ h i l)

pub member-tabulate : (x n : ℕ) (f : ℕ → ℕ) → member x (tabulate n f) ≡ any n (λ i. eqb x (f i))
unfolding member tabulate any
member-tabulate x zero f = refl
member-tabulate x (suc n) f = rw (member-tabulate x n (λ i. f (suc i))) (sym (any_front n (λ i. eqb x (f i))))

pub member-filter : (x : ℕ) (r : ℕ → Bool) (xs : List ℕ) → member x (filter r xs) ≡ (member x xs && r x)
unfolding member
member-filter x r [] = refl
member-filter x r (y ∷ ys) = go (eqb x y) (r y) refl refl (member-filter x r ys)
  where
    go : (a b : Bool) → eqb x y ≡ a → r y ≡ b → member x (filter r ys) ≡ (member x ys && r x)
        → member x (cond b (y ∷ filter r ys) (filter r ys)) ≡ ((a || member x ys) && r x)
    go true true p q tail = rw (p, eqb-true x y p) (sym q)
    go true false p q tail = rw (tail, eqb-true x y p, q) (and-false (member y ys))
    go false true p q tail = rw p tail
    go false false p q tail = tail

pub first_unique : (n : ℕ) (r : ℕ → Bool) (i j : ℕ) → IsFirst n r i → IsFirst n r j → i ≡ j
first_unique n r i j a b = go (dec_lt i j) (dec_lt j i)
  where
    go : Dec (i < j) → Dec (j < i) → i ≡ j
    go (yes l) d = cc (b.none_before i l)
    go (no k) (yes l) = cc (a.none_before j l)
    go (no k) (no l) = omega arith

-- what the search of a rule gives
pub data LowestIs (n : ℕ) (r : ℕ → Bool) (result : Option ℕ) : Type 0 where
  at_first : (i : ℕ) → result ≡ Some i → IsFirst n r i → LowestIs n r result
  at_none : result ≡ None → Nowhere n r → LowestIs n r result

pub lowest_is : (n : ℕ) (r : ℕ → Bool) → LowestIs n r (lowest n r)
unfolding lowest
lowest_is zero r = at_none refl (λ j l. absurd (omega arith))
lowest_is (suc n) r = go (lowest_is n r)
  where
    last : (b : Bool) → r n ≡ b → Nowhere n r → LowestIs (suc n) r (cond b (Some n) None)
    last true h before = at_first n refl (record { within = omega arith; here = h; none_before = before })
    last false h before = at_none refl (λ j l. go (eq-or-lt_of_le (le_of_suc-le-suc l)))
      where
        go : {j : ℕ} → (j ≡ n) ⊎ (j < n) → r j ≡ false
        go (inl is) = rw is h
        go (inr m) = before _ m

    go : LowestIs n r (lowest n r) → LowestIs (suc n) r (lowest (suc n) r)
    go (at_first i e first) =
        rw e (at_first i refl (record { within = omega (arith, first.within); here = first.here; none_before = first.none_before }))
    go (at_none e before) = rw e (last (r n) refl before)

-- so it gives the first place that has the rule, or none where there is none
pub lowest_first : (n : ℕ) (r : ℕ → Bool) (i : ℕ) → IsFirst n r i → lowest n r ≡ Some i
lowest_first n r i first = go (lowest_is n r)
  where
    go : LowestIs n r (lowest n r) → lowest n r ≡ Some i
    go (at_first j e other) = rw (first_unique n r i j first other) e
    go (at_none e nowhere) = cc (nowhere i first.within, first.here)

pub lowest_nowhere : (n : ℕ) (r : ℕ → Bool) → Nowhere n r → lowest n r ≡ None
lowest_nowhere n r nowhere = go (lowest_is n r)
  where
    go : LowestIs n r (lowest n r) → lowest n r ≡ None
    go (at_first j e first) = cc (nowhere j first.within, first.here)
    go (at_none e _) = e

pub lowest_ext : (n : ℕ) (r s : ℕ → Bool) → ((i : ℕ) → i < n → r i ≡ s i) → lowest n r ≡ lowest n s
unfolding lowest
lowest_ext zero r s h = refl
lowest_ext (suc n) r s h =
    ap₂ (λ (x : Option ℕ) (b : Bool). option_or x (cond b (Some n) None)) (lowest_ext n r s (λ i l. h i (omega arith))) (h n (omega arith))

-- the first place of a rule is that of the same rule
pub first_same : {n i : ℕ} (r s : ℕ → Bool) → ((j : ℕ) → r j ≡ s j) → IsFirst n r i → IsFirst n s i
first_same {i = i} r s h f = record { within = f.within; here = sym (h i) ∙ f.here; none_before = λ j l. sym (h j) ∙ f.none_before j l }

-- ---- a rule from a place on

pub onward_none : (r : ℕ → Bool) (i j : ℕ) → j < i → onward i r j ≡ false
onward_none r i j l = rw (lt-leb i j l)

pub onward_same : (r : ℕ → Bool) (i j : ℕ) → i ≤ j → onward i r j ≡ r j
onward_same r i j l = rw (le-leb i j l)

pub onward_here : (r : ℕ → Bool) (i j : ℕ) → onward i r j ≡ true → (i ≤ j) × (r j ≡ true)
onward_here r i j h = let p = (and-eq-true_iff _ _).0 h in (leb-true i j p.0, p.1)

pub onward-false : (r : ℕ → Bool) (i j : ℕ) → (i ≤ j → r j ≡ false) → onward i r j ≡ false
onward-false r i j h = refuted (onward i r j) (λ e. let p = onward_here r i j e in false≢true (sym (h p.0) ∙ p.1))

-- from place 0 on is everywhere
pub onward_all : (r : ℕ → Bool) (j : ℕ) → onward 0 r j ≡ r j
onward_all r j = rw (leb-zero j)

-- ---- the places that have a rule

pub those_none : (n : ℕ) (r : ℕ → Bool) → Nowhere n r → those n r ≡ []
unfolding those
those_none zero r h = refl
those_none (suc n) r h = rw (those_none n r (λ i l. h i (omega arith)), h n (omega arith))

pub those_ext : (n : ℕ) (r s : ℕ → Bool) → ((i : ℕ) → i < n → r i ≡ s i) → those n r ≡ those n s
unfolding those
those_ext zero r s h = refl
those_ext (suc n) r s h = rw (those_ext n r s (λ i l. h i (omega arith)), h n (omega arith))

-- The first is followed by those above it.
pub those_first : (n : ℕ) (r : ℕ → Bool) (i : ℕ) → IsFirst n r i → those n r ≡ i ∷ those n (above i r)
unfolding those
those_first zero r i f = absurd (omega (arith, f.within))
those_first (suc n) r i f = go (eq-or-lt_of_le (omega (arith, f.within))) (λ l. those_first n r i (record { within = l; here = f.here; none_before = f.none_before }))
  where
    go : (i ≡ n) ⊎ (i < n) → (i < n → those n r ≡ i ∷ those n (above i r)) → those (suc n) r ≡ i ∷ those (suc n) (above i r)
    go (inl e) rest =
        let last : r n ≡ true = rw e at f.here in
        rw (those_none n r (λ j l. f.none_before j (omega arith)), last, e, those_none n (above n r) (λ j l. onward_none r (suc n) j (omega arith)), lt-leb (suc n) n (omega arith)) refl
    go (inr l) rest = rw (rest l, onward_same r (suc i) n l) refl

-- None stands past the last.
pub those_past : (n k : ℕ) (r : ℕ → Bool) → ((i : ℕ) → n ≤ i → r i ≡ false) → those (n + k) r ≡ those n r
unfolding those
those_past n zero r h = rw (add-zero n) refl
those_past n (suc k) r h = rw (add-suc, those, h (n + k) (omega arith), append-nil) (those_past n k r h)

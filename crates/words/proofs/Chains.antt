-- What `any` finds over the numbers below n, or over places that are numbered so, whatever the
-- iterator: the numbers of its items are those from 0 on.
use Rattle.std.proofs.Common.{◌≡◌, ℕ, zero, suc, ◌+◌, ◌<◌, Bool, true, false, ◌||◌, List, MatchOption, Option, refl, sym, ap, ◌∙◌, add-zero, zero-add, arith}
use Rattle.std.proofs.Math.Bool.{or-false, or_assoc}
use denote.Param.Members.{Mut}
use Rattle.std.specs.Fn.{Called}
use Rattle.std.specs.Iterator.{YieldsThen, CallableAtEachTurn}
use Rattle.std.specs.List.{range_with_len, list_any, FoldsTo}
use Rattle.std.proofs.iter.Yields.{nat_range_steps}
use Rattle.std.proofs.lemmas.Iterator.{YieldsList, YieldsList-from_range}
use Rattle.std.proofs.lemmas.Iterator.Adapters.{serves_from_places}
use Rattle.std.proofs.lemmas.Iterator.Search.{any_from_yields_List}
use Rattle.std.proofs.lemmas.List.FromFn.{length-range_with_len, get_or-range_with_len}
use Rattle.words.specs.Rules.{any}

-- of the numbers from a on: the last of them apart
any_last : (r : ℕ → Bool) (n a : ℕ) → list_any r (range_with_len a (suc n)) ≡ (list_any r (range_with_len a n) || r (a + n))
any_last r zero a = rw add-zero (or-false (r a))
any_last r (suc n) a =
    ap (λ b. r a || b) (any_last r n (a + 1))
    ∙ sym (or_assoc (r a) (list_any r (range_with_len (a + 1) n)) (r (a + 1 + n)))
    ∙ ap (λ k. (r a || list_any r (range_with_len (a + 1) n)) || r k) (omega arith)

any_of_range : (r : ℕ → Bool) (n : ℕ) → list_any r (range_with_len 0 n) ≡ any n r
unfolding any
any_of_range r zero = refl
any_of_range r (suc n) = any_last r n 0 ∙ rw (any_of_range r n, zero-add)

-- the numbers below b, which is n
pub numbers_below : {b n : ℕ} → b ≡ n → YieldsList nat_range_steps (λ x. x) (record { start = 0; end = b }) (range_with_len 0 n)
numbers_below {b} {n} e = YieldsList-from_range 0 b n refl (omega (arith, e))

-- `number` tells the number of an item
module _ {S A : Type 0} {steps : S → Option A → S → Type 0} {number : A → ℕ} {s : S} (n : ℕ) (items : YieldsList steps number s (range_with_len 0 n)) where
  -- by a closure that keeps what it has, and answers for an item what r says of its number
  pub any_of_items : {F : Type 0} {g : Mut F (A × Unit {0}) Bool} (r : ℕ → Bool) (u : S) (f : F) (found : Bool)
      → (xs : List A) × (o : Option A) × (j : F) × YieldsThen steps s xs o u × FoldsTo (λ p x q. Called g p (x, tt) false q) f xs j
      × MatchOption o (found ≡ false) (λ x. (found ≡ true) × ((h : F) × Called g j (x, tt) true h))
      → ((x : A) (b : Bool) (q : F) → Called g f (x, tt) b q → (q ≡ f) × (b ≡ r (number x))) → found ≡ any n r
  any_of_items r u f found ran answers = any_from_yields_List r u f found ran items answers ∙ any_of_range r n

  -- what the closure asks of each item holds, if it holds of those whose number is below n
  pub each_item : {F : Type 0} {R : F → A → F → Type 0} {Q : F → A → Type 0} {f : F}
      → ((x : A) (q : F) → R f x q → q ≡ f) → ((x : A) → number x < n → Q f x) → CallableAtEachTurn steps R Q s f
  each_item stays asks = serves_from_places items stays (λ x k h e.
      let at : k < n = rw (← length-range_with_len 0 n) h in
      asks x (rw (e, get_or-range_with_len 0 n k (number x) at, zero-add) at))

-- Rules over numbers, ℕ → Bool: whether one holds below a bound, how often and where first, and a
-- list made by a rule.
use Rattle.std.specs.Prelude.{◌≡◌, ℕ, zero, suc, ◌+◌, ◌<◌, Bool, true, false, ◌&&◌, ◌||◌, List, [], ◌∷◌, ◌++◌, if◌then◌else◌, nat_eq, nat_le, Some, None, Option}
use Rattle.std.specs.List.{list_any}
use Rattle.std.specs.Option.{option_or}

-- Whether some i below n has r i.
unfoldable pub any : ℕ → (ℕ → Bool) → Bool
any zero r = false
any (suc n) r = any n r || r n

-- How many i below n have r i.
unfoldable pub count : ℕ → (ℕ → Bool) → ℕ
count zero r = 0
count (suc n) r = count n r + (if r n then 1 else 0)

-- The lowest i below n that has r, if any.
unfoldable pub lowest : ℕ → (ℕ → Bool) → Option ℕ
lowest zero r = None
lowest (suc n) r = option_or (lowest n r) (if r n then Some n else None)

-- The rule r from place i on, and above place i.
abbrev pub onward : (i : ℕ) → (ℕ → Bool) → ℕ → Bool
onward i r j = nat_le i j && r j

abbrev pub above : (i : ℕ) → (ℕ → Bool) → ℕ → Bool
above i = onward (suc i)

-- Those below n that have r, ascending.
unfoldable pub those : ℕ → (ℕ → Bool) → List ℕ
those zero r = []
those (suc n) r = those n r ++ (if r n then n ∷ [] else [])

-- Whether x stands in a list.
unfoldable pub member : ℕ → List ℕ → Bool
member x xs = list_any (nat_eq x) xs

-- f 0, f 1, .. f (n - 1).
unfoldable pub tabulate : ℕ → (ℕ → ℕ) → List ℕ
tabulate zero f = []
tabulate (suc n) f = f 0 ∷ tabulate n (λ i. f (suc i))

-- i is the lowest place below n that has r.
pub record IsFirst (n : ℕ) (r : ℕ → Bool) (i : ℕ) : Type 0 where
  pub within : i < n
  pub here : r i ≡ true
  pub none_before : (j : ℕ) → j < i → r j ≡ false

-- No place below n has r.
abbrev pub Nowhere : ℕ → (ℕ → Bool) → Type 0
Nowhere n r = (j : ℕ) → j < n → r j ≡ false

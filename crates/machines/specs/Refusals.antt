-- A table of refusals: the first row whose test holds gives its number, and those below it do not
-- count.
use Rattle.std.specs.Prelude.{◌≡◌, ℕ, Bool, true, false, List, [], ◌∷◌, ◌++◌, Some, None, Option}

-- A row of the table at one call: the number, given when the test holds.
pub data RefusalRow : Type 0 where
  ◌given_when◌ : (number : ℕ) (test : Bool) → RefusalRow

infix 70 ◌given_when◌
-- The number of the first row that applies, if any.
unfoldable pub first_refusal : List RefusalRow → Option ℕ
first_refusal [] = None
first_refusal ((n given_when true) ∷ rest) = Some n
first_refusal ((n given_when false) ∷ rest) = first_refusal rest

-- No row applies.
abbrev pub NoneApplies : List RefusalRow → Type 0
NoneApplies [] = Unit
NoneApplies ((n given_when test) ∷ rest) = (test ≡ false) × NoneApplies rest

-- The row of number n applies and no row above it does.
pub record FirstApplies (rows : List RefusalRow) (n : ℕ) : Type 0 where
  pub above : List RefusalRow
  pub below : List RefusalRow
  pub split : rows ≡ above ++ (n given_when true ∷ below)
  pub passed : NoneApplies above

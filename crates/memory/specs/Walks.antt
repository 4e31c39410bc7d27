-- Walks of the code over the addresses that hold a key (docs/MEMORY.md, rule 10.8): first-match,
-- and then next-match from each address that was given.
use Rattle.std.specs.Prelude.{◌≡◌, ℕ, ◌<◌, List, [], ◌∷◌, ◌++◌, length, Some, None, Option}
use Rattle.geometry.specs.declared.Geometry.{Geometry}
use Rattle.geometry.specs.Sizes.{patterns, match_words}
use Rattle.reference.specs.Calls.{Call, first_match, next_match, all_match, Answer}
use Rattle.reference.specs.Array.{Array}
use Rattle.reference.specs.Tables.{Tables}
use Rattle.reference.specs.Statements.{IsBegun}
use Rattle.reference.specs.Walks.{address_given, marked_addresses}
use Rattle.memory.specs.Runs.{Run, Chain, last_tables}

-- Runs of a walk from a call on, as far as it has come: the addresses that they gave in turn, and
-- the call that is next.
unfoldable pub IsWalked :
    (key : ℕ) → Call (List ℕ) → List Run → (visits : List ℕ) (next : Call (List ℕ)) → Type 0
IsWalked key c [] [] d = c ≡ d
IsWalked key c [] (a ∷ visits) d = ⊥
IsWalked key c (x ∷ xs) [] d = ⊥
IsWalked key c (x ∷ xs) (a ∷ visits) d =
    (x.call ≡ c)
    × (address_given x.answer ≡ Some (Some a))
    × IsWalked key (next_match a key) xs visits d

-- The first of some addresses, where there is one.
abbrev pub first_of : List ℕ → Option ℕ
first_of [] = None
first_of (a ∷ rest) = Some a

-- Of the addresses `all` those in `visits` come first, and the answer, which is no refusal, gives
-- the first of those that are left, or none where none is.
abbrev pub GoesOn : (all visits : List ℕ) → Answer → Type 0
GoesOn all visits answer =
    (left : List ℕ) × (visits ++ left ≡ all) × (address_given answer ≡ Some (first_of left))

-- After every chain that begins with the tables of an array: a walk, as far as it has come, has
-- visited the first of the addresses that an all-match marks there, in their order; and its next
-- call goes on with those that are left.
abbrev pub ChainsWalk : Geometry → (Link : Tables → Run → Type 0) → Type 0
ChainsWalk g Link =
    (t : Tables) (es : Array) → IsBegun g t es → (xs : List Run) → Chain Link t xs
    → (key : ℕ) → key < patterns g
    → (all : Run) → Link (last_tables t xs) all
    → (lent : List ℕ) → all.call ≡ all_match key lent → length lent ≡ match_words g
    → (ys : List Run) → Chain Link (last_tables t xs) ys
    → (visits : List ℕ) (next : Call (List ℕ)) → IsWalked key (first_match key) ys visits next
    → (x : Run) → Link (last_tables (last_tables t xs) ys) x → x.call ≡ next
    → GoesOn (marked_addresses all.matches) visits x.answer

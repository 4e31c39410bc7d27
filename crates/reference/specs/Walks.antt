-- Walks over the addresses that hold a key: first-match, and then next-match from each address that
-- is given, until none is (rule 10.8 of docs/MEMORY.md).
use Rattle.std.specs.Prelude.{◌≡◌, ℕ, ◌*◌, ◌/◌, ◌%◌, ◌↔◌, List, [], ◌∷◌, length, slice_index, Some, None, Option}
use Rattle.words.specs.Rules.{those}
use Rattle.words.specs.Bits.{bit}
use Rattle.geometry.specs.declared.Geometry.{Geometry}
use Rattle.reference.specs.Calls.{Call, first_match, next_match, all_match, Answer, refused, cleared, held, at, none, next, matched}
use Rattle.reference.specs.Tables.{Tables}
use Rattle.reference.specs.Steps.{step}

-- The address that an answer gives, or that there is none. A refusal and the answers to other calls
-- give neither.
abbrev pub address_given : Answer → Option (Option ℕ)
address_given (refused n) = None
address_given cleared = None
address_given (held e) = None
address_given (at a w c) = Some (Some a)
address_given (none w c) = Some None
address_given (next x) = Some x
address_given (matched ws n) = None

-- The call gives an address.
abbrev pub GivesAddress : Geometry → Tables → Call (List ℕ) → (a : ℕ) → Type 0
GivesAddress g t c a = address_given (step g t c).answer ≡ Some (Some a)

-- The call gives that there is none.
abbrev pub GivesNone : Geometry → Tables → Call (List ℕ) → Type 0
GivesNone g t c = address_given (step g t c).answer ≡ Some None

-- From a call on, each call on the tables that the one before it left, these are the addresses
-- given in turn, until none is.
unfoldable pub IsWalk : Geometry → (key : ℕ) → Tables → Call (List ℕ) → (visits : List ℕ) → Type 0
IsWalk g key t c [] = GivesNone g t c
IsWalk g key t c (a ∷ visits) =
    GivesAddress g t c a × IsWalk g key (step g t c).tables (next_match a key) visits

-- The addresses whose bit of a match word is 1, ascending.
abbrev pub marked_addresses : (matches : List ℕ) → List ℕ
marked_addresses ws = those (64 * length ws) (λ a. bit (slice_index ws (a / 64)) (a % 64))

-- The walk for a key ends, with none of its calls refused, and it visits just the addresses whose
-- bit an all-match sets.
pub record WalkVisits (g : Geometry) (t : Tables) (key : ℕ) (lent : List ℕ) : Type 0 where
  pub matches : List ℕ
  pub hits : ℕ
  pub all : (step g t (all_match key lent)).answer ≡ matched matches hits
  pub walks : (visits : List ℕ)
      → IsWalk g key t (first_match key) visits ↔ (visits ≡ marked_addresses matches)

-- A chain of events: each took place in the state that the one before it left, and what is known of
-- it is its link.
use Rattle.std.specs.Prelude.{List, [], ◌∷◌}

module _ {State Event : Type 0} (state : Event → State) where
  -- The events, each with its link, from a state on.
  pub data Chain (Link : State → Event → Type 0) : State → List Event → Type 0 where
    ended : {s : State} → Chain Link s []
    next : {s : State} {x : Event} {xs : List Event} → Link s x
        → Chain Link (state x) xs → Chain Link s (x ∷ xs)

  -- The state that they leave.
  unfoldable pub last : State → List Event → State
  last s [] = s
  last s (x ∷ xs) = last (state x) xs

-- A machine, and a history of calls run on it.
use Rattle.std.specs.Prelude.{List, [], ◌∷◌}

-- What a call leaves that is made in a state, and the state in it with which the next call goes on.
pub record Machine (State Call Left : Type 0) : Type 0 where
  pub step : State → Call → Left
  pub state : Left → State

module _ {State Call Left : Type 0} (m : Machine State Call Left) where
  -- What each call of a history leaves, in order.
  unfoldable pub run : State → List Call → List Left
  run s [] = []
  run s (c ∷ cs) = m.step s c ∷ run (m.state (m.step s c)) cs

  -- The state at the end.
  unfoldable pub after : State → List Call → State
  after s [] = s
  after s (c ∷ cs) = after (m.state (m.step s c)) cs

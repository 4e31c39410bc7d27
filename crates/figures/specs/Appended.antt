-- What a function that prints into a buffer leaves: its bytes from a place on, and every other byte
-- as it was.
use Rattle.std.specs.Prelude.{◌≡◌, ℕ, ◌+◌, ◌≤◌, ◌++◌, length, take, drop}
use Rattle.figures.specs.Figures.{Bytes}

-- The bytes over as many of the buffer, from `at` on.
unfoldable pub overwritten_buffer : (before : Bytes) → (at : ℕ) → (bytes : Bytes) → Bytes
overwritten_buffer before at bytes = take at before ++ bytes ++ drop (at + length bytes) before

-- The bytes stand from `at` to `end`, within the buffer.
pub record Appended (before after : Bytes) (at end : ℕ) (bytes : Bytes) : Type 0 where
  pub ends : end ≡ at + length bytes
  pub within : end ≤ length before
  pub buffer : after ≡ overwritten_buffer before at bytes

-- What is told of a call of `read` or `write`, by the number of bytes or the cause that the system
-- gives, and what a whole reading gives.
use Rattle.std.specs.Prelude.{◌≡◌, ℕ, ◌+◌, ◌<◌, ◌⊎◌, List, length, take, IfOk, Ok, Err, Some, None, Option, Result}
use Rattle.std.specs.declared.io.Error.{Error}
use Rattle.std.specs.declared.io.ErrorKind.TheVariants.{Interrupted, WouldBlock}
use Rattle.std.specs.IoError.{error_kind}
use Rattle.std.specs.Io.KnownBytes.{Consumes, IsAtEnd}

-- Causes after which the same call may move something: a signal came first (EINTR), or it would
-- have had to wait (EAGAIN).
abbrev pub IsPassing : (cause : Error) → Type 0
IsPassing cause = (error_kind cause ≡ Interrupted) ⊎ (error_kind cause ≡ WouldBlock)

-- What is told of a cause, with so much patience before and after: the call is made again, for one
-- of it, where the cause passes; or it has failed, where the cause does not pass or no patience was
-- left.
abbrev pub Tells : Result (Unit {0}) Error → (cause : Error) → (before after : ℕ) → Type 0
Tells (Ok again) cause before after = IsPassing cause × (before ≡ after + 1)
Tells (Err failure) cause before after = (failure ≡ cause) × (IsPassing cause → before ≡ 0)

-- What is told of an answer, with so much patience before and after: how many bytes were moved,
-- which is 0 at the end, and costs none; of a cause, that the call is made again (`None`) or has
-- failed, as above.
abbrev pub Judges : Result (Option ℕ) Error → (answer : Result ℕ Error) → (before after : ℕ)
    → Type 0
Judges (Ok (Some n)) (Ok moved) before after = (n ≡ moved) × (before ≡ after)
Judges (Ok (Some n)) (Err cause) before after = ⊥
Judges (Ok None) (Ok moved) before after = ⊥
Judges (Ok None) (Err cause) before after = Tells (Ok tt) cause before after
Judges (Err failure) (Ok moved) before after = ⊥
Judges (Err failure) (Err cause) before after = Tells (Err failure) cause before after

-- What was read is what the reader had left, where that is known: all of it, or as much as the
-- buffer holds.
abbrev pub GivesWhole : Result ℕ Error → (old new : Option (List ℕ)) → (bytes : List ℕ) → Type 0
GivesWhole read old new bytes =
    IfOk read (λ n. Consumes old new (take n bytes) × (n < length bytes → IsAtEnd new))

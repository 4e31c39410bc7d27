-- A command on the tables of an array agrees with the same command on the array: by `agrees` for
-- its call.
use Rattle.std.proofs.Common.{◌≡◌, ℕ, Bool, true, false, if◌then◌else◌, List, length, replicate, Some, None, Option, option_map, refl}
use Rattle.std.proofs.Math.ListN.{length-replicate}
use Rattle.geometry.specs.declared.Geometry.{Geometry}
use Rattle.geometry.specs.Valid.{is_valid}
use Rattle.geometry.specs.Sizes.{match_words}
use Rattle.reference.specs.Calls.{Call, shape, matches_after}
use Rattle.reference.specs.Array.{Array, IsSound}
use Rattle.reference.specs.Tables.{Tables}
use Rattle.reference.specs.Image.{tables_of}
use Rattle.reference.proofs.Agreement.{Agrees, agrees}
use Rattle.jobfile.specs.declared.Command.{Command}
use Rattle.jobfile.specs.Decoding.{decoded_call}
use Rattle.commands.specs.Commands.{call_outcome, command_outcome}
use Rattle.job.specs.Output.{obeyed_outcome, array_command}

option_map_if : {A B : Type 0} (f : A → B) (b : Bool) (x y : Option A) → option_map f (if b then x else y) ≡ (if b then option_map f x else option_map f y)
option_map_if f true x y = refl
option_map_if f false x y = refl

-- the array is told the length of the match word that is lent
decoded_call_shape : (m : List ℕ) (c : Command) → decoded_call (length m) c ≡ option_map shape (decoded_call m c)
unfolding decoded_call shape
decoded_call_shape m c = simp (option_map_if shape)

module _ (g : Geometry) (ok : is_valid g ≡ true) (es : Array) (sound : IsSound g es) (c : Command) where
  obeyed_agrees : (m : List ℕ) (d : Option (Call (List ℕ))) → Agrees g (call_outcome g (tables_of g es) m d) (obeyed_outcome g es (option_map shape d))
  unfolding call_outcome obeyed_outcome
  obeyed_agrees m None = record { answer = refl; tables = refl; sound = sound }
  obeyed_agrees m (Some call) = let a = agrees g ok es sound call in record { answer = a.answer; tables = a.tables; sound = a.sound }

  pub command_agrees : (m : List ℕ) → length m ≡ match_words g → Agrees g (command_outcome g (tables_of g es) m c) (array_command g es c)
  unfolding command_outcome array_command
  command_agrees m long = rw (← long, decoded_call_shape m c) (obeyed_agrees m (decoded_call m c))

  pub command_sound : IsSound g (array_command g es c).array
  command_sound = (command_agrees (replicate (match_words g) 0) (length-replicate (match_words g) 0)).sound

-- it leaves the match word of its answer
pub command_matches : (g : Geometry) (t : Tables) (m : List ℕ) (c : Command) → (command_outcome g t m c).matches ≡ matches_after (command_outcome g t m c).answer m
unfolding command_outcome call_outcome matches_after
command_matches g t m c = go (decoded_call m c)
  where
    go : (d : Option (Call (List ℕ))) → (call_outcome g t m d).matches ≡ matches_after (call_outcome g t m d).answer m
    go None = refl
    go (Some call) = refl

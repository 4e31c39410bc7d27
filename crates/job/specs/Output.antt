-- What a job prints, by the plain array alone (docs/MEMORY.md, sections 13 and 14).
use Rattle.std.specs.Prelude.{ℕ, ◌+◌, List, [], ◌∷◌, ◌++◌, map, Some, None, Option}
use Rattle.machines.specs.Machine.{Machine, run}
use Rattle.geometry.specs.declared.Geometry.{Geometry}
use Rattle.geometry.specs.Sizes.{match_words}
use Rattle.reference.specs.Calls.{Call, Answer, refused}
use Rattle.reference.specs.Array.{Array, empty_array, ArrayOutcome, array_step}
use Rattle.figures.specs.Figures.{Bytes}
use Rattle.report.specs.Lines.{first_line, answer_line, stop_line}
use Rattle.jobfile.specs.declared.Command.{Command}
use Rattle.jobfile.specs.Files.{geometry_of, commands_of, file_stop}
use Rattle.jobfile.specs.Decoding.{decoded_call}

-- What a call comes to on an array; a command that asks for none gets 8, and changes nothing (rule
-- 13.7).
unfoldable pub obeyed_outcome : Geometry → Array → Option (Call ℕ) → ArrayOutcome
obeyed_outcome g es None = record { answer = refused 8; array = es }
obeyed_outcome g es (Some call) = array_step g es call

-- What a command comes to on an array, where the match word has the right length (rule 13.5).
unfoldable pub array_command : Geometry → Array → Command → ArrayOutcome
array_command g es c = obeyed_outcome g es (decoded_call (match_words g) c)

-- The commands of a job, run on the plain array.
abbrev pub command_machine : Geometry → Machine Array Command ArrayOutcome
command_machine g = record { step = array_command g; state = λ o. o.array }

-- Their answers, from an array on.
abbrev pub answers : Geometry → Array → List Command → List Answer
answers g es cs = map (λ (o : ArrayOutcome). o.answer) (run (command_machine g) es cs)

-- The lines of the commands from number k on (rule 14.2).
unfoldable pub numbered_lines : (k : ℕ) → List Answer → Bytes
numbered_lines k [] = []
numbered_lines k (x ∷ xs) = answer_line k x ++ numbered_lines (k + 1) xs

-- The answers of a file's commands: the job's memory begins empty (rule 13.5).
abbrev pub answers_of : Bytes → List Answer
answers_of file = answers (geometry_of file) (empty_array (geometry_of file)) (commands_of file)

-- The report of a job that nothing stops: the line of its geometry, and those of its commands.
unfoldable pub report : Bytes → Bytes
report file = first_line (geometry_of file) ++ numbered_lines 0 (answers_of file)

-- What is printed of a job that nothing stops, and of one that a number stops (rule 14.1).
unfoldable pub printed_bytes : Bytes → Option ℕ → Bytes
printed_bytes file None = report file
printed_bytes file (Some n) = stop_line n

-- What is printed of any file.
unfoldable pub output : Bytes → Bytes
output file = printed_bytes file (file_stop file)

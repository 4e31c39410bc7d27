-- A history run on tables and on the plain array (docs/MEMORY.md, section 10).
use Rattle.std.specs.Prelude.{ℕ, List, map}
use Rattle.machines.specs.Machine as machine
use Rattle.machines.specs.Machine.{Machine}
use Rattle.geometry.specs.declared.Geometry.{Geometry}
use Rattle.reference.specs.Calls.{Call, Answer, shape}
use Rattle.reference.specs.Array.{Array, ArrayOutcome, array_step}
use Rattle.reference.specs.Tables.{Tables}
use Rattle.reference.specs.Steps.{Outcome, step}

-- Any calls, in the order in which they are made (rule 10.1).
abbrev pub History : Type 0
History = List (Call (List ℕ))

-- The calls on tables as a machine.
abbrev pub table_machine : Geometry → Machine Tables (Call (List ℕ)) Outcome
table_machine g = record { step = step g; state = λ o. o.tables }

-- The calls on the plain array as a machine.
abbrev pub array_machine : Geometry → Machine Array (Call ℕ) ArrayOutcome
array_machine g = record { step = array_step g; state = λ o. o.array }

-- What each call leaves, in order.
abbrev pub run : Geometry → Tables → History → List Outcome
run g = machine.run (table_machine g)

-- The answer of each call.
abbrev pub answers_of : Geometry → Tables → History → List Answer
answers_of g t cs = map (λ (o : Outcome). o.answer) (run g t cs)

-- The match word that each call leaves.
abbrev pub matches_of : Geometry → Tables → History → List (List ℕ)
matches_of g t cs = map (λ (o : Outcome). o.matches) (run g t cs)

-- The tables at the end.
abbrev pub after : Geometry → Tables → History → Tables
after g = machine.after (table_machine g)

-- The answer of each call on the plain array.
abbrev pub array_answers : Geometry → Array → List (Call ℕ) → List Answer
array_answers g es cs = map (λ (o : ArrayOutcome). o.answer) (machine.run (array_machine g) es cs)

-- The array at the end.
abbrev pub array_after : Geometry → Array → List (Call ℕ) → Array
array_after g = machine.after (array_machine g)

-- The array that a history leaves which begins as es (rule 10.2).
abbrev pub array_of : Geometry → Array → History → Array
array_of g es cs = array_after g es (map shape cs)

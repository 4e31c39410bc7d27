-- The call that a command asks for (docs/MEMORY.md, section 13).
use Rattle.std.specs.Prelude.{ℕ, if◌then◌else◌, ◌==◌, Some, None, Option}
use Rattle.reference.specs.Calls.{Call, clear, write, erase, read, first_match, all_match}
use Rattle.jobfile.specs.declared.Command.{Command}

-- A command that has no use for this field asks for a call only where the field is 0 (rule 13.7).
abbrev pub when_unused : {A : Type 0} → (field : ℕ) → Option A → Option A
when_unused field x = if field == 0 then x else None

-- The call of each operation (rule 13.4), and none of any other number. What stands for the match
-- word of all-match is `lent`.
abbrev pub call_asked : {M : Type 0} → (operation : ℕ) → (lent : M) → (address pattern : ℕ)
    → Option (Call M)
call_asked n lent a p =
    if n == 1 then Some (write a p)
    else if n == 2 then when_unused p (Some (erase a))
    else if n == 3 then when_unused a (Some (first_match p))
    else if n == 4 then when_unused a (Some (all_match p lent))
    else if n == 5 then when_unused p (Some (read a))
    else if n == 6 then when_unused a (when_unused p (Some clear)) else None

-- The call of a command, with what stands for the match word.
unfoldable pub decoded_call : {M : Type 0} → (lent : M) → Command → Option (Call M)
decoded_call lent c = call_asked c.operation lent c.address c.pattern

-- What is left to do of a write or an erase once its address and its pattern have passed.
use Rattle.std.specs.Prelude.{ℕ, [], if◌then◌else◌}
use Rattle.geometry.specs.declared.Geometry.{Geometry}
use Rattle.reference.specs.Entry.{Entry}
use Rattle.reference.specs.Calls.{refused, held}
use Rattle.reference.specs.Tables.{Tables, stored_entry}
use Rattle.reference.specs.Update.{replaced_tables}
use Rattle.reference.specs.Steps.{Outcome, bad_entry}

-- The entry e comes to address a: refusal 5, or the former entry and the tables that follow (rules
-- 7.4, 8.2 and 8.4 of docs/MEMORY.md).
unfoldable pub replace_outcome : Geometry → Tables → (a : ℕ) → Entry → Outcome
replace_outcome g t a e =
    if bad_entry g t a then (record { answer = refused 5; tables = t; matches = [] })
    else (record {
      answer = held (stored_entry g t a);
      tables = replaced_tables g t a e;
      matches = [];
    })

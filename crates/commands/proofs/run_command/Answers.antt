-- `commands::run_command` meets its contract: by what decoding told of the command, and by the
-- contracts of `perform` and of the line's printing.
use Rattle.std.proofs.Common.{refl}
use Rattle.commands.proofs.Asking.{asked, unasked}
use Rattle.commands.proofs.run_command.Goals as goal

pub put_answer-requires : goal.put_answer-requires
put_answer-requires c =
    rw (asked _ _ _ _ _ _ _ _ _ c.in-Some.is c.decode.ensures c.perform-answer.ensures) at c.requires

pub put_refusal-requires : goal.put_refusal-requires
put_refusal-requires c = rw (unasked _ _ _ _ _ c.in-None.is c.decode.ensures) at c.requires

pub returns-in-Some : goal.returns-in-Some
returns-in-Some c =
    rw (asked _ _ _ _ _ _ _ _ _ c.in-Some.is c.decode.ensures c.perform-answer.ensures)
    (record { line = c.put_answer.ensures; tables_after = refl; match_word = refl })

pub returns-in-None : goal.returns-in-None
returns-in-None c =
    rw (unasked _ _ _ _ _ c.in-None.is c.decode.ensures)
    (record { line = c.put_refusal.ensures; tables_after = refl; match_word = refl })

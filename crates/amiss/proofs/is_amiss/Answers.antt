-- `amiss::is_amiss` meets its contract, by its ways: a word that is neither empty nor a pattern, no
-- entry, and what is missing of one.
use Rattle.std.proofs.Common.{Some, None}
use Rattle.calls.proofs.Indexed.{set_within}
use Rattle.amiss.specs.Amiss.{lacks}
use Rattle.amiss.proofs.Found.{amiss_bad, amiss_lacks}
use Rattle.amiss.proofs.is_amiss.Goals as goal

pub lacks_bit-requires : goal.lacks_bit-requires
lacks_bit-requires c = let l = c.args.tables.now.layout in set_within l.geometry l.sized.valid c.requires c.set.ensures

pub returns-in-Err : goal.returns-in-Err
returns-in-Err c = amiss_bad c.args.tables.now _ (c.in-Err.ensures c.args.tables.now.indicators.now)

pub returns-in-Ok-None : goal.returns-in-Ok-None
unfolding lacks
returns-in-Ok-None c = amiss_lacks c.args.tables.now _ None (rw c.in-Ok-None.field-0-is at (c.in-Ok-None.ensures c.args.tables.now.indicators.now))

pub returns-in-Ok-Some : goal.returns-in-Ok-Some
returns-in-Ok-Some c =
    rw (c.lacks_bit.ensures, c.set.ensures)
    (amiss_lacks c.args.tables.now _ (Some c.in-Ok-Some.held) (rw c.in-Ok-Some.field-0-is at (c.in-Ok-Some.ensures c.args.tables.now.indicators.now)))

-- `stale::Row::is_covered_at` meets its contract: the store has the address.
use Rattle.std.proofs.Common.{arith}
use Rattle.geometry.proofs.Facts.{facts}
use Rattle.geometry.proofs.Places.{address-lt}
use Rattle.stale.proofs.Row.is_covered_at.Goals as goal

pub word-requires : goal.word-requires
word-requires c =
    let t = c.args.self.now.tables.now in
    omega (arith, c.address.ensures, t.lent.entries, address-lt _ (facts _ t.layout.sized.valid) _ _ c.requires)

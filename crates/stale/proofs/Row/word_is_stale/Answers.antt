-- `stale::Row::word_is_stale` meets its contract: it asks the set of each bit.
use Rattle.std.proofs.Common.{arith, rules, tests}
use Rattle.geometry.proofs.Facts.{facts}
use Rattle.geometry.proofs.Bounds.{words_few}
use Rattle.stale.specs.Rows.{geometry_of, number, cover_of}
use Rattle.stale.proofs.Exceeding.{sets_tell}
use Rattle.stale.proofs.Row.word_is_stale.Goals as goal

pub sets-requires : goal.sets-requires
sets-requires c = omega (arith, c.requires, words_few _ (facts _ c.args.self.tables.now.layout.sized.valid))

pub returns : goal.returns
returns c =
    let r = c.args.self in
    rw c.sets.ensures.0 at
    (sets_tell _ _ _ (geometry_of r) (cover_of r) (number r) c.args.at (λ x b q k. search (rules, tests)) _ _ (search rules) c.sets.ensures.1 c.any.ensures.ran)

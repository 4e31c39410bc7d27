-- `words::bits_from` meets its contract: what is shifted out does not come back.
use Rattle.std.proofs.Common.{rules}
use Rattle.words.proofs.Machine.{from_is}
use Rattle.words.proofs.bits_from.Goals as goal

pub returns : goal.returns
returns c = from_is 64 _ _ (search rules)

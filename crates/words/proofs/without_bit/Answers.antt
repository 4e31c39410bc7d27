-- `words::without_bit` meets its contract.
use Rattle.std.proofs.Common.{rules}
use Rattle.words.proofs.Machine.{clear_is}
use Rattle.words.proofs.without_bit.Goals as goal

pub returns : goal.returns
returns c = clear_is 64 _ _ (search rules) c.requires

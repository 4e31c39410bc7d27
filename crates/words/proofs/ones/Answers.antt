-- `words::ones` meets its contract: the machine's count is the number of positions whose bit is 1.
use Rattle.std.proofs.Common.{arith}
use Rattle.words.proofs.Machine.{ones_is}
use Rattle.words.proofs.ones.Goals as goal

pub returns : goal.returns
returns c = ones_is 64 c.args.word (omega arith)

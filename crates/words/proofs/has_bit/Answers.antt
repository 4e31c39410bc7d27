-- `words::has_bit` meets its contract: the bit is the digit that the shift brings to the end.
use Rattle.std.proofs.Common.{refl}
use Rattle.words.specs.Bits.{bit}
use Rattle.words.proofs.has_bit.Goals as goal

pub returns : goal.returns
unfolding bit
returns c = refl

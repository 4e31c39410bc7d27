-- `stale::Row::is_stale_at` meets its contract: a word that is 0 has no bit that is stale.
use Rattle.std.proofs.Common.{refl}
use Rattle.stale.proofs.Exceeding.{exceeds_none}
use Rattle.stale.proofs.RowWords.{word_there, word_told}
use Rattle.stale.proofs.Row.is_stale_at.Goals as goal

pub read-word-requires : goal.read-word-requires
read-word-requires c = rw c.number.ensures (word_there c.args.self.now c.args.at c.requires)

pub returns-else-word-ne0 : goal.returns-else-word-ne0
returns-else-word-ne0 c = word_told c.args.self.now c.args.at c.number.ensures c.read-word.ensures (rw c.if-word-ne0.false (exceeds_none 0 _ refl))

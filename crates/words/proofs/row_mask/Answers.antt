-- `words::row_mask` meets its contract, by the three cases of a mask.
use Rattle.std.proofs.Common.{◌%◌, sym, arith}
use Rattle.words.proofs.Machine.{shifted_one, mask_full, mask_none, mask_part}
use Rattle.words.proofs.row_mask.Goals as goal

pub returns-then-word-places : goal.returns-then-word-places
returns-then-word-places c = sym (mask_full _ _ c.if-word-places.true)

pub returns-then-places-word : goal.returns-then-places-word
returns-then-places-word c = sym (mask_none _ _ c.if-places-word.true)

pub returns : goal.returns
returns c = rw (shifted_one 64 (c.args.places % 64) (omega arith)) (sym (mask_part _ _ (omega arith)))

-- `Page::put_hexadecimal` meets its contract: the digits that `io::hex` spells are the word's
-- sixteen.
use Rattle.figures.proofs.Digits.{sixteen}
use Rattle.figures.proofs.Page.put_hexadecimal.Goals as goal

pub returns : goal.returns
returns c =
    let told = c.hex.ensures in
    rw (sixteen c.args.word _ _ told.len.0 told.in_bounds.0 c.hex.array_long told.digits) at c.put_bytes.ensures

-- A page as contracts see it.
use Rattle.std.specs.Prelude.{◌≡◌, ℕ, ◌≤◌, [], ◌++◌, length, take, drop}
use Rattle.figures.specs.Figures.{Bytes}
use Rattle.figures.specs.declared.Page.{Page}

-- What is printed and the bytes of the buffer after it. `buffer` names the loan, so that it is
-- known to be the same one still.
pub record Sheet : Type 0 where
  pub buffer : ℕ
  pub printed : Bytes
  pub rest : Bytes

-- What a page has printed, and what is left of its buffer.
abbrev pub sheet : Page → Sheet
sheet p = record {
  buffer = p.out.ghost_name;
  printed = take p.at p.out.now;
  rest = drop p.at p.out.now;
}

-- A page with nothing printed, over what is lent.
abbrev pub blank_sheet : (buffer : ℕ) → (lent : Bytes) → Sheet
blank_sheet buffer lent = record { buffer = buffer; printed = []; rest = lent }

-- The sheet with some bytes behind what is printed, over as many of the rest.
abbrev pub printed_sheet : Sheet → Bytes → Sheet
printed_sheet s bytes = record s { printed = s.printed ++ bytes; rest = drop (length bytes) s.rest }

-- The page has room for the bytes.
abbrev pub HasRoom : Page → Bytes → Type 0
HasRoom page bytes = length bytes ≤ length (sheet page).rest

-- The bytes are printed on the page, behind what was printed before.
abbrev pub Prints : (before after : Page) → Bytes → Type 0
Prints before after bytes = sheet after ≡ printed_sheet (sheet before) bytes

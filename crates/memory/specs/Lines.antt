-- The line that is handed back: that part of the store itself, no copy (docs/MEMORY.md, section
-- 11).
use Rattle.std.specs.Prelude.{◌≡◌, ◌≢◌, ℕ, List, []}
use Rattle.std.specs.Borrow.{Bor}
use Rattle.geometry.specs.declared.Geometry.{Geometry}
use Rattle.reference.specs.Line.{line}
use Rattle.places.specs.Lines.{line_place}

-- The part holds the line, and where that is not empty it is the store's own.
pub record HandsBack (g : Geometry) (store part : Bor (List ℕ)) (s : ℕ) : Type 0 where
  pub entries : part.now ≡ line g store.now s
  pub itself : part.now ≢ [] → part.ref_ptr ≡ line_place g store s

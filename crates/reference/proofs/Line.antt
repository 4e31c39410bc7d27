-- A line has the set's entries, is never empty, and is handed back exactly where nothing is bad
-- (docs/MEMORY.md, section 11).
use Rattle.std.proofs.Common.{◌≡◌, ℕ, ◌-◌, ◌*◌, ◌<◌, ◌≤◌, true, false, ◌&&◌, eqb, ltb, List, [], length, get_or, take, drop, ap, ◌∙◌, add-zero, arith, length-drop, length-take-le, get_or-drop, get_or-take, lt-ltb, eq-eqb}
use Rattle.geometry.specs.declared.Geometry.{Geometry}
use Rattle.geometry.specs.Valid.{is_valid}
use Rattle.geometry.specs.Sizes.{sets, address_of, set_length}
use Rattle.geometry.proofs.Facts.{facts}
use Rattle.geometry.proofs.Places.{length_pos, address-lt}
use Rattle.reference.specs.Line.{line}

module _ (g : Geometry) (store : List ℕ) (s : ℕ) where
  -- what is bad gives a part of length 0 (rule 11.2)
  pub line_refused : (is_valid g && eqb (length store) g.depth && ltb s (sets g)) ≡ false → line g store s ≡ []
  unfolding line
  line_refused e = rw e

  module _ (ok : is_valid g ≡ true) (long : length store ≡ g.depth) (inside : s < sets g) where
    pub true_line : line g store s ≡ take (set_length g s) (drop (address_of g s 0) store)
    unfolding line
    true_line = rw (ok, eq-eqb (length store) g.depth long, lt-ltb s (sets g) inside)

    -- it is as long as its set, which is never 0 (rules 11.1 and 11.2)
    pub length-line : (length (line g store s) ≡ set_length g s) × (0 < set_length g s)
    length-line = (ap length true_line ∙ length-take-le (set_length g s) (drop (address_of g s 0) store) enough, some)
      where
        some : 0 < set_length g s
        some = length_pos g (facts g ok) s inside

        enough : set_length g s ≤ length (drop (address_of g s 0) store)
        enough = rw (length-drop (address_of g s 0) store) (omega (arith, address-lt g (facts g ok) s (set_length g s - 1) (omega (arith, some)), some))

    -- and has the store's words (rule 11.1)
    pub line_entry : (o d : ℕ) → o < set_length g s → get_or (line g store s) o d ≡ get_or store (address_of g s o) d
    line_entry o d h = rw (true_line, get_or-take (set_length g s) (drop (address_of g s 0) store) o d h, get_or-drop (address_of g s 0) store o d, add-zero (g.set_width * s))

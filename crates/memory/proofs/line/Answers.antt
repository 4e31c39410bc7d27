-- `memory::line` meets its contract: the line, and a part of length 0 where the geometry, the
-- store's length or the set is bad.
use Rattle.std.proofs.Common.{◌≡◌, ℕ, ◌<◌, List, [], refl, sym, ◌∙◌, Bor, le-ltb, eq-eqb, ne_eqb, leb-false, leb-true}
use Rattle.geometry.specs.declared.Geometry.{Geometry}
use Rattle.geometry.specs.Sizes.{sets}
use Rattle.reference.specs.Line.{line}
use Rattle.reference.proofs.Line.{true_line, line_refused}
use Rattle.checks.proofs.Acceptance.{checked_sizes_refused}
use Rattle.memory.specs.Lines.{HandsBack}
use Rattle.memory.proofs.line.Goals as goal
use Rattle.memory.proofs.line.Goals.{else-store-g-via-then-store-g+else-not-is_outside, else-store-g-via-else-store-g}

-- an empty part need not lie anywhere
empty_part : {g : Geometry} {store part : Bor (List ℕ)} {s : ℕ} → line g store.now s ≡ [] → part.now ≡ [] → HandsBack g store part s
empty_part e f = record { entries = f ∙ sym e; itself = λ some. absurd (some f) }

pub returns-in_default : goal.returns-in_default
returns-in_default c = empty_part (line_refused _ _ _ (rw (checked_sizes_refused _ _ (sym c.in_default.ensures.given)))) refl

pub returns-then-not-is_outside : goal.returns-then-not-is_outside
returns-then-not-is_outside c =
    let x = c.args in
    let l = c.in-Ok.layout in
    let own = c.in-Ok.ensures.its_own in
    let count : l.sizes.sets ≡ sets x.g = rw own at l.sized.same_sets in
    let inside : x.set < sets x.g = rw (← count) (leb-false _ _ (sym c.is_outside.ensures ∙ c.if-not-is_outside.true)) in
    let part = rw own at c.line.ensures in
    record {
      entries = part.entries ∙ sym (true_line x.g x.store.now x.set (rw own at l.sized.valid) c.if-store-g.true inside);
      itself = λ some. part.itself;
    }

pub returns-else-store-g : goal.returns-else-store-g
returns-else-store-g c =
    let x = c.args in
    let l = c.in-Ok.layout in
    let own = c.in-Ok.ensures.its_own in
    let count : l.sizes.sets ≡ sets x.g = rw own at l.sized.same_sets in
    empty_part (line_refused x.g x.store.now x.set
    (rw (rw own at l.sized.valid, ← count)
    (elim c.else-store-g.branch [
      | else-store-g-via-then-store-g+else-not-is_outside w ↦
          rw (eq-eqb _ _ w.if-store-g.true)
          (le-ltb x.set l.sizes.sets (leb-true _ _ (sym w.is_outside.ensures ∙ w.if-not-is_outside.false)))
      | else-store-g-via-else-store-g w ↦ rw (ne_eqb _ _ w.if-store-g.false)
    ]))) refl

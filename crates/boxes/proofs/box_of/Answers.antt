-- `boxes::box_of` meets its contract, by the kind and then the tests that lead to each box.
use Rattle.std.proofs.Common.{◌≡◌, rules, ne_eqb}
use Rattle.geometry.proofs.Numbered.{cascaded_told, other_told}
use Rattle.boxes.proofs.Drawn.{box_nine, box_narrow, box_whole}
use Rattle.boxes.proofs.box_of.Goals as goal

pub returns-in_default : goal.returns-in_default
returns-in_default c = rw (box_whole c.args.g c.args.k (other_told c.requires c.in_default.not-Cascaded))

pub returns-then-g-k : goal.returns-then-g-k
returns-then-g-k c = rw (box_narrow c.args.g c.args.k (cascaded_told c.requires c.in-Cascaded.is) c.if-g-k.true)

-- behind both tests the box is a nine, and the match says which
pub returns-in-0 : goal.returns-in-0
returns-in-0 c = rw (box_nine c.args.g c.args.k (cascaded_told c.requires c.in-Cascaded.is) c.if-g-k.false, c.in-0.is)

pub returns-in-1 : goal.returns-in-1
returns-in-1 c = rw (box_nine c.args.g c.args.k (cascaded_told c.requires c.in-Cascaded.is) c.if-g-k.false, c.in-1.is)

pub returns-in_default-k : goal.returns-in_default-k
returns-in_default-k c =
    let not_low : c.args.k ≡ 0 → ⊥ = search rules in
    let not_middle : c.args.k ≡ 1 → ⊥ = search rules in
    let nine = box_nine c.args.g c.args.k (cascaded_told c.requires c.in-Cascaded.is) c.if-g-k.false in
    rw (nine, ne_eqb _ _ not_low, ne_eqb _ _ not_middle)

-- The examples hold: antt computes what each answer of the code stands for.
use Rattle.std.proofs.Common.{◌≡◌, map, refl}
use Rattle.resume.specs.Resumed.{refusal_for}
use Rattle.resume.specs.Examples.{Example, ◌means◌, examples}

pub examples_hold : map (λ (e : Example). e.given means refusal_for e.given) examples ≡ examples
unfolding examples
examples_hold = refl

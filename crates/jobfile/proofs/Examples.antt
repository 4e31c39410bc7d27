-- The examples hold: antt computes the call of each command.
use Rattle.std.proofs.Common.{◌≡◌, map, refl}
use Rattle.jobfile.specs.Decoding.{decoded_call}
use Rattle.jobfile.specs.Examples.{Example, lent_length, examples}

pub examples_hold : map (λ (e : Example). decoded_call lent_length e.given) examples ≡ map (λ (e : Example). e.asks) examples
unfolding decoded_call examples
examples_hold = refl

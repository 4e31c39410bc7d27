-- `codes::lengths_of` meets its contract, by that of `checks::geometry`.
use Rattle.std.proofs.Common.{◌∙◌, arith}
use Rattle.geometry.specs.Sizes.{match_words}
use Rattle.geometry.specs.Stages.{indicator_words}
use Rattle.sizes.specs.SizesOf.{IsSized}
use Rattle.codes.specs.Codes.{size_code}
use Rattle.codes.proofs.Sizing.{size_refused, lengths_few}
use Rattle.codes.proofs.lengths_of.Goals as goal
use Rattle.codes.proofs.lengths_of.Goals.{In-Ok}

sized : (c : In-Ok) → IsSized c.args.g c.in-Ok.layout.sizes
sized c = rw c.in-Ok.ensures.its_own at c.in-Ok.layout.sized

pub overflow_add-result : goal.overflow_add-result
overflow_add-result c = omega (arith, lengths_few (sized c))

pub overflow_add-result-in-Ok : goal.overflow_add-result-in-Ok
overflow_add-result-in-Ok c = omega (arith, lengths_few (sized c))

pub returns-in-Ok : goal.returns-in-Ok
unfolding size_code
returns-in-Ok c =
    let s = sized c in
    record {
      indicators = rw s.valid (omega (arith, s.same_indicators));
      matches = rw s.valid (omega (arith, s.same_matches));
    }

pub returns-in-Err : goal.returns-in-Err
returns-in-Err c =
    let is = c.in-Err.ensures.given in
    let number = c.from-number.ensures ∙ c.from.ensures in
    record {
      indicators = size_refused _ indicator_words is number;
      matches = size_refused _ match_words is number;
    }

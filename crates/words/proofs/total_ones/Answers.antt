-- `words::total_ones` meets its contract: the sum of what each word has.
use Rattle.std.proofs.Common.{◌∙◌, rules, tests}
use Rattle.std.proofs.lemmas.Iterator.{YieldsList-from_slice, YieldsList-from_map}
use Rattle.std.proofs.lemmas.Iterator.Consumers.{sum_by_from_yields_List, fits_by_from_yields_list}
use Rattle.words.specs.Rules.{count}
use Rattle.words.specs.Bits.{bit}
use Rattle.words.proofs.Machine.{total_sum, total_most}
use Rattle.words.proofs.total_ones.Goals as goal

pub sum-requires-clause-fits : goal.sum-requires-clause-fits
sum-requires-clause-fits c =
    fits_by_from_yields_list (λ w. count 64 (bit w)) c.args.words.now _ _
    (YieldsList-from_map _ (λ w. count 64 (bit w)) (YieldsList-from_slice c.args.words.now (cc)) c.map.ensures.closure (λ x r q k. search (rules, tests)))
    (total_most c.args.words.now c.requires)

pub returns : goal.returns
returns c =
    sum_by_from_yields_List (λ w. count 64 (bit w)) c.args.words.now _ _ c.sum.ensures.ran
    (YieldsList-from_map _ (λ w. count 64 (bit w)) (YieldsList-from_slice c.args.words.now (cc)) c.map.ensures.closure (λ x r q k. search (rules, tests)))
    ∙ total_sum c.args.words.now

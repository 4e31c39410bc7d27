-- `amiss::is_missing` meets its contract: the words of a row are there.
use Rattle.std.proofs.Common.{refl, rules}
use Rattle.calls.proofs.Indexed.{place_within}
use Rattle.amiss.proofs.is_missing.Goals as goal

pub has_bit-requires : goal.has_bit-requires
has_bit-requires c = place_within c.args.held c.args.tables.now.lent refl (search rules) c.row.ensures c.requires.is_set

-- `update::Target::is_covered_at` meets its contract: what the word holds is the entry that the
-- address has.
use Rattle.std.proofs.Common.{[], ap, ◌∙◌}
use Rattle.reference.specs.Image.{covers}
use Rattle.calls.proofs.Tested.{entry_held}
use Rattle.update.proofs.Target.is_covered_at.Goals as goal

pub returns : goal.returns
returns c =
    let t = c.args.self.now in
    c.is_covered_by.ensures
    ∙ ap (λ e. covers t.layout.geometry e c.args.row) (c.entry_of-entry.ensures ∙ entry_held t.layout.sized t.store.now [] c.args.address.0 c.word.result c.word.ensures)

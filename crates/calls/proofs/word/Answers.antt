-- `calls::word` meets its contract, by the two cases of an entry.
use Rattle.std.proofs.Common.{◌≡◌, ℕ, Some, None, Option, unwrap_or, refl, ◌∙◌}
use Rattle.reference.specs.Entry.{empty_word, word_of}
use Rattle.calls.specs.Answers.{entry_for}
use Rattle.calls.proofs.word.Goals as goal

by_case : (e : Option ℕ) → unwrap_or e empty_word ≡ word_of (entry_for e)
unfolding word_of
by_case None = refl
by_case (Some p) = refl

pub returns : goal.returns
returns c = c.unwrap_or.ensures ∙ by_case c.args.entry

-- `search::from_set` meets its contract: at each way out of the loop the searches have found what
-- is answered.
use Rattle.std.proofs.Common.{◌≡◌, ℕ, ◌+◌, ◌*◌, ◌<◌, ◌∙◌, arith, rules}
use lib.Count.{count_trailing_zeros}
use Rattle.geometry.specs.Sizes.{row_words}
use Rattle.geometry.proofs.Facts.{facts}
use Rattle.geometry.proofs.Places.{length_pos, address-lt}
use Rattle.geometry.proofs.Bounds.{words_few}
use Rattle.reference.specs.Search.{seek_word}
use Rattle.calls.specs.Answers.{tables_in}
use Rattle.search.proofs.Seeking as seeking
use Rattle.search.proofs.from_set.Goals as goal
use Rattle.search.proofs.from_set.Goals.{In-Some, Then-word-ne0, After-first, In-Some-at}

pub words-init : goal.words-init
words-init c = (tt, tt, omega (arith, c.args.tables.now.lent.sized.same_words), omega arith, seeking.words_start _ _ _ _ _ (omega arith))

-- a row has the word that is read, and few enough that no count wraps
word_inside : (c : In-Some) → c.in-Some.j < row_words c.args.tables.now.layout.geometry
word_inside c = omega (arith, c.in-Some.ensures.steps)

word_few : (c : In-Some) → c.in-Some.j < 64
word_few c = omega (arith, word_inside c, words_few _ (facts _ c.args.tables.now.lent.sized.valid))

pub overflow_add-words_read : goal.overflow_add-words_read
overflow_add-words_read c = omega (arith, word_few (goal.at.overflow_add-words_read c).In-Some, c.in-Some.ensures.steps)

pub lowest-set-requires : goal.lowest-set-requires
lowest-set-requires c = word_few (goal.at.lowest-set-requires c).In-Some

-- the search of the row words has come to it
come : (c : In-Some) → let t = c.args.tables.now in
    seeking.words_from t.layout.geometry (tables_in t) c.args.key c.args.first c.in-Some.j c.words.words_read ≡ seek_word t.layout.geometry (tables_in t) c.args.key c.args.first
come c = rw c.in-Some.ensures.steps.1 c.words.invariant.4

pub words-preserved : goal.words-preserved
words-preserved c =
    let step = c.in-Some.ensures.steps in
    let at = (goal.at.words-preserved c).In-Some in
    rw (step.2, ← step.1)
    (tt, tt, step.3 ∙ c.words.invariant.2, omega (arith, c.words.invariant.3), seeking.words_on _ _ _ _ _ _ (come at) _ _ (word_inside at) (c.joined.ensures c.args.tables.now.store.now) c.search_word-word.ensures c.if-word-ne0.false)

-- a row word that is not 0 is read, and its lowest bit is that of set s
word_read : (c : Then-word-ne0) {s : ℕ} → s ≡ 64 * c.in-Some.j + count_trailing_zeros 64 c.search_word-word.result
    → seeking.Named c.args.tables.now.layout.geometry (tables_in c.args.tables.now) c.args.key c.args.first s (c.words.words_read + 1)
word_read c e =
    let at = (goal.at.lowest-set-requires c).In-Some in
    seeking.named _ _ _ _ _ _ (come at) _ _ (word_inside at) (c.joined.ensures c.args.tables.now.store.now) c.search_word-word.ensures c.if-word-ne0.true e

pub address-requires : goal.address-requires
address-requires c =
    let set = word_read (goal.at.address-requires c).Then-word-ne0 c.lowest-set.ensures in
    rw c.first.ensures (length_pos _ (facts _ c.args.tables.now.lent.sized.valid) _ set.inside)

pub length-length-requires : goal.length-length-requires
length-length-requires c = (word_read (goal.at.length-length-requires c).Then-word-ne0 c.lowest-set.ensures).inside

pub address-address-requires : goal.address-address-requires
address-address-requires c = omega (arith, c.in-Some-at.ensures.steps)

pub word-requires : goal.word-requires
word-requires c =
    let t = c.args.tables.now in
    let inside = address-address-requires (goal.at.word-requires c).In-Some-at in
    omega (arith, c.address-address.ensures, t.lent.entries, address-lt _ (facts _ t.lent.sized.valid) _ _ inside)

pub returns-in_default : goal.returns-in_default
returns-in_default c = seeking.words_over _ _ _ _ _ _ c.words.invariant.4 (omega (arith, c.in_default.ensures.steps))

pub returns-then-ne : goal.returns-then-ne
returns-then-ne c =
    let t = c.args.tables.now in
    let set = word_read (goal.at.returns-then-ne c).Then-word-ne0 c.lowest-set.ensures in
    let inside = address-requires (goal.at.returns-then-ne c).After-first in
    seeking.set_found set t.lent.sized.valid (seeking.kind_other t.layout (search rules)) _ _ inside c.address.ensures

pub returns-then-word-key : goal.returns-then-word-key
returns-then-word-key c =
    let t = c.args.tables.now in
    let set = word_read (goal.at.returns-then-word-key c).Then-word-ne0 c.lowest-set.ensures in
    let before = rw (← c.in-Some-at.ensures.steps.1) at c.loop-at.invariant.3 in
    let inside = address-address-requires (goal.at.returns-then-word-key c).In-Some-at in
    seeking.entry_found set (seeking.kind_segmented t.layout (search rules)) _ before t.lent.sized.valid t.lent.entries inside
    _ _ _ c.address-address.ensures c.word.ensures c.if-word-key.true (omega arith)

pub returns-in-None : goal.returns-in-None
returns-in-None c =
    let set = word_read (goal.at.returns-in-None c).Then-word-ne0 c.lowest-set.ensures in
    seeking.entries_over set (seeking.kind_segmented c.args.tables.now.layout (search rules)) _ c.loop-at.invariant.3 (omega (arith, c.in-None.ensures.steps))

-- The seven calls with all that each is given, and the answers (docs/MEMORY.md, section 7).
use Rattle.std.specs.Prelude.{ℕ, List, [], length, Option}
use Rattle.reference.specs.Entry.{Entry}

-- The match word of an all-match is any (rule 10.1). The plain array is told its length alone (rule
-- 5.8), so a call is over what stands for that word: `Call (List ℕ)` is made on tables and `Call ℕ`
-- on the array.
pub data Call (M : Type 0) : Type 0 where
  clear : Call M
  write : (address pattern : ℕ) → Call M
  erase : (address : ℕ) → Call M
  read : (address : ℕ) → Call M
  first_match : (key : ℕ) → Call M
  next_match : (address key : ℕ) → Call M
  all_match : (key : ℕ) (lent : M) → Call M

-- What the plain array is told of a call.
unfoldable pub shape : Call (List ℕ) → Call ℕ
shape clear = clear
shape (write a p) = write a p
shape (erase a) = erase a
shape (read a) = read a
shape (first_match key) = first_match key
shape (next_match a key) = next_match a key
shape (all_match key m) = all_match key (length m)

-- The match word that is lent with a call: nothing but with all-match.
unfoldable pub lent_word : Call (List ℕ) → List ℕ
lent_word clear = []
lent_word (write a p) = []
lent_word (erase a) = []
lent_word (read a) = []
lent_word (first_match key) = []
lent_word (next_match a key) = []
lent_word (all_match key m) = m

-- What comes back (rules 7.3 to 7.6 and 7.8). `words_read` is w and `entries_compared` is c.
pub data Answer : Type 0 where
  refused : (number : ℕ) → Answer
  cleared : Answer
  held : (previous : Entry) → Answer
  at : (address words_read entries_compared : ℕ) → Answer
  none : (words_read entries_compared : ℕ) → Answer
  next : (address : Option ℕ) → Answer
  matched : (matches : List ℕ) (hits : ℕ) → Answer

-- The match word that a call leaves: the one in its answer, and the lent one where the answer has
-- none.
unfoldable pub matches_after : Answer → (lent : List ℕ) → List ℕ
matches_after (refused n) m = m
matches_after cleared m = m
matches_after (held e) m = m
matches_after (at a w c) m = m
matches_after (none w c) m = m
matches_after (next x) m = m
matches_after (matched ws n) m = ws

-- The cases P1 to P10 (docs/MEMORY.md, section 15) as rows of one table, single calls on damaged
-- tables as rows of another, tables that do or do not mirror their store as rows of a third, and
-- what resumes come to as rows of a fourth. proofs/Cases.antt computes all four.
use Rattle.std.specs.Prelude.{ℕ, Bool, true, false, not, ◌&&◌, List, [], ◌∷◌, length, replicate, map, if◌then◌else◌, ◌==◌, slice_set, Some, None, Option}
use Rattle.words.specs.Rules.{any}
use Rattle.geometry.specs.declared.Geometry.{Geometry}
use Rattle.geometry.specs.Sizes.{sets}
use Rattle.geometry.specs.Stages.{rows, indicator_words}
use Rattle.reference.specs.Entry.{Entry, empty, pattern}
use Rattle.reference.specs.Calls.{Call, clear, write, erase, read, first_match, next_match, all_match, Answer, refused, cleared, held, at, none, next, matched}
use Rattle.reference.specs.Array.{Array}
use Rattle.reference.specs.Tables.{Tables}
use Rattle.reference.specs.Image.{bit_of_set, wanted_bit}
use Rattle.reference.specs.Steps.{Outcome, clear_tables}

-- Calls in a row from some tables, and the answers they get.
pub record Case : Type 0 where
  pub geometry : Geometry
  pub tables : Tables
  pub calls : List (Call (List ℕ))
  pub answers : List Answer

-- S, K and the geometry of P8.
abbrev pub S : Geometry
S = record { kind = 2; depth = 8; pattern_width = 2; set_width = 2 }

abbrev pub K : Geometry
K = record { kind = 1; depth = 2; pattern_width = 10; set_width = 1 }

abbrev pub deep : Geometry
deep = record { kind = 0; depth = 65; pattern_width = 1; set_width = 1 }

-- Geometries whose last set is short: three sets, of two addresses and of one; and sixteen, of 64
-- and of 40.
abbrev pub short : Geometry
short = record { kind = 2; depth = 5; pattern_width = 2; set_width = 2 }

abbrev pub thousand : Geometry
thousand = record { kind = 2; depth = 1000; pattern_width = 1; set_width = 64 }

-- Tables before their clear: what they hold does not matter.
abbrev pub unclear_tables : (entries words : ℕ) → Tables
unclear_tables entries words = record {
  store = replicate entries 7;
  indicators = replicate words 5;
}

-- Calls after a clear, and their answers: on any tables, and on those of each geometry.
abbrev pub after_clear : Geometry → Tables → List (Call (List ℕ)) → List Answer → Case
after_clear g t cs ans = record {
  geometry = g;
  tables = t;
  calls = clear ∷ cs;
  answers = cleared ∷ ans;
}

abbrev pub on_s : List (Call (List ℕ)) → List Answer → Case
on_s = after_clear S (unclear_tables 8 4)

abbrev pub on_k : List (Call (List ℕ)) → List Answer → Case
on_k = after_clear K (unclear_tables 2 514)

abbrev pub on_deep : List (Call (List ℕ)) → List Answer → Case
on_deep = after_clear deep (unclear_tables 65 4)

abbrev pub on_short : List (Call (List ℕ)) → List Answer → Case
on_short = after_clear short (unclear_tables 5 4)

abbrev pub on_thousand : List (Call (List ℕ)) → List Answer → Case
on_thousand = after_clear thousand (unclear_tables 1000 2)

-- A first-match, and then a next-match from each of these addresses.
abbrev pub walk : (key : ℕ) → (visits : List ℕ) → List (Call (List ℕ))
walk key visits = first_match key ∷ map (λ a. next_match a key) visits

-- The entry that an address had, as a report has it: a pattern, or empty.
abbrev pub was : (p : ℕ) → Answer
was p = held (pattern p)

abbrev pub was_empty : Answer
was_empty = held empty

-- P10's tables: those of a clear, but that word 1 of the indicators is 2.
abbrev pub damaged_tables : Tables
damaged_tables = record {
  store = (clear_tables S).store;
  indicators = slice_set (clear_tables S).indicators 1 2;
}

-- P1 to P10, the calls of each and their answers; and more of that sort.
unfoldable pub cases : List Case
cases =
    -- P1
    on_s (first_match 0 ∷ [])
    (none 1 0 ∷ [])
    -- P2
    ∷ on_s (write 3 0 ∷ first_match 0 ∷ [])
    (was_empty ∷ at 3 1 2 ∷ [])
    -- P3
    ∷ on_s (write 2 1 ∷ write 3 1 ∷ write 3 2 ∷ first_match 1 ∷ [])
    (was_empty ∷ was_empty ∷ was 1 ∷ at 2 1 2 ∷ [])
    -- P4
    ∷ on_s (write 2 1 ∷ write 2 1 ∷ first_match 1 ∷ [])
    (was_empty ∷ was 1 ∷ at 2 1 2 ∷ [])
    -- P5
    ∷ on_s (write 6 3 ∷ write 1 3 ∷ first_match 3 ∷ all_match 3 (9 ∷ []) ∷ [])
    (was_empty ∷ was_empty ∷ at 1 1 2 ∷ matched (66 ∷ []) 2 ∷ [])
    -- P6
    ∷ on_k (write 0 1 ∷ write 1 514 ∷ first_match 513 ∷ first_match 514 ∷ [])
    (was_empty ∷ was_empty ∷ none 1 0 ∷ at 1 1 0 ∷ [])
    -- P7
    ∷ on_k (write 0 1 ∷ write 0 513 ∷ first_match 513 ∷ first_match 1 ∷ [])
    (was_empty ∷ was 1 ∷ at 0 1 0 ∷ none 1 0 ∷ [])
    -- P8
    ∷ on_deep (write 64 1 ∷ first_match 1 ∷ [])
    (was_empty ∷ at 64 2 0 ∷ [])
    -- P9
    ∷ on_s (erase 5 ∷ [])
    (was_empty ∷ [])
    -- a walk: two addresses of set 0 and one of set 3, then none
    ∷ on_s (write 6 3 ∷ write 1 3 ∷ write 0 3 ∷ walk 3 (0 ∷ 1 ∷ 6 ∷ []))
    (was_empty ∷ was_empty ∷ was_empty ∷ at 0 1 2 ∷ next (Some 1) ∷ next (Some 6) ∷ next None ∷ [])
    -- a last set that is short: c is its length, its bit goes with its one entry, and the addresses
    -- end with it
    ∷ on_thousand (write 999 1 ∷ first_match 1 ∷ write 959 1 ∷ first_match 1 ∷ [])
    (was_empty ∷ at 999 1 40 ∷ was_empty ∷ at 959 1 64 ∷ [])
    ∷ on_short (write 4 1 ∷ write 3 1 ∷ all_match 1 (9 ∷ []) ∷ walk 1 (3 ∷ 4 ∷ []))
    (was_empty ∷ was_empty ∷ matched (24 ∷ []) 2 ∷ at 3 1 2 ∷ next (Some 4) ∷ next None ∷ [])
    ∷ on_short (write 4 1 ∷ write 4 2 ∷ first_match 1 ∷ write 5 1 ∷ erase 4 ∷ first_match 2 ∷ [])
    (was_empty ∷ was 1 ∷ none 1 0 ∷ refused 3 ∷ was 2 ∷ none 1 0 ∷ [])
    -- P10
    ∷ record {
      geometry = S;
      tables = damaged_tables;
      calls = first_match 1 ∷ [];
      answers = refused 6 ∷ [];
    }
    ∷ []

-- ---- one call on tables that no history need have left, and all that it leaves

-- Tables, a call on them, and all that it leaves.
pub record Trial : Type 0 where
  pub geometry : Geometry
  pub tables : Tables
  pub call : Call (List ℕ)
  pub leaves : Outcome

-- The word of an empty address is written out here, so that its number is pinned.
abbrev pub E : ℕ
E = 4294967295

-- One row of the table, with all that the call leaves.
abbrev pub trial : Geometry → (store indicators : List ℕ) → Call (List ℕ) → Answer
    → (store' indicators' matches : List ℕ) → Trial
trial g st ind c x st' ind' m = record {
  geometry = g;
  tables = record { store = st; indicators = ind };
  call = c;
  leaves = record { answer = x; tables = record { store = st'; indicators = ind' }; matches = m };
}

-- An answer that leaves other tables; one that writes none; and a refusal, which leaves everything
-- as it was lent.
abbrev pub writes : Geometry → (store indicators : List ℕ) → Call (List ℕ) → Answer
    → (store' indicators' : List ℕ) → Trial
writes g st ind c x st' ind' = trial g st ind c x st' ind' []

abbrev pub answers_with : Geometry → (store indicators : List ℕ) → Call (List ℕ) → Answer
    → (matches : List ℕ) → Trial
answers_with g st ind c x m = trial g st ind c x st ind m

abbrev pub refuses : Geometry → (store indicators : List ℕ) → Call (List ℕ) → (number : ℕ)
    → (lent : List ℕ) → Trial
refuses g st ind c n m = answers_with g st ind c (refused n) m

-- A next-match, and the address that it gives.
abbrev pub found_next : Geometry → (store indicators : List ℕ) → (address key : ℕ) → Option ℕ
    → Trial
found_next g st ind a key x = answers_with g st ind (next_match a key) (next x) []

-- Four addresses, each a set of its own, and two patterns; and a geometry of no kind.
abbrev pub alone : (kind : ℕ) → Geometry
alone k = record { kind = k; depth = 4; pattern_width = 1; set_width = 1 }

abbrev pub no_kind : Geometry
no_kind = record { kind = 3; depth = 8; pattern_width = 2; set_width = 2 }

-- Two sets of four addresses.
abbrev pub wide : Geometry
wide = record { kind = 2; depth = 8; pattern_width = 1; set_width = 4 }

-- A store of eight entries: the four given, and empty ones; none at all; 1 at address 1 alone.
abbrev pub store_of_four : (a b c d : ℕ) → List ℕ
store_of_four a b c d = a ∷ b ∷ c ∷ d ∷ E ∷ E ∷ E ∷ E ∷ []

abbrev pub store_of_none : List ℕ
store_of_none = store_of_four E E E E

abbrev pub store_with_1 : List ℕ
store_with_1 = store_of_four E 1 E E

-- The five entries of `short`, whose last one is a set.
abbrev pub store_of_five : (a b c d e : ℕ) → List ℕ
store_of_five a b c d e = a ∷ b ∷ c ∷ d ∷ e ∷ []

-- The 65 entries of `deep`: empty ones, and then 1 at the last address.
abbrev pub deep_empty : List ℕ
deep_empty = replicate 65 E

abbrev pub deep_store : List ℕ
deep_store = slice_set deep_empty 64 1

-- Four rows of one word, or two of two words: with no bit set; and S's, with the given word for
-- pattern 1 or 3.
abbrev pub zeros : List ℕ
zeros = 0 ∷ 0 ∷ 0 ∷ 0 ∷ []

abbrev pub row1 : ℕ → List ℕ
row1 w = 0 ∷ w ∷ 0 ∷ 0 ∷ []

abbrev pub row3 : ℕ → List ℕ
row3 w = 0 ∷ 0 ∷ 0 ∷ w ∷ []

-- The rows of S for 1 at addresses 1 and 3, with padding bits set in each.
abbrev pub padded_rows : List ℕ
padded_rows = 16 ∷ 9223372036854775827 ∷ 32 ∷ 18446744073709551600 ∷ []

-- The rows of `deep`, of two words each: sets 1 and 64 in that of pattern 1.
abbrev pub deep_rows : List ℕ
deep_rows = 0 ∷ 0 ∷ 2 ∷ 1 ∷ []

-- Where a row takes two lines, the second has what the call answers or leaves.
unfoldable pub trials : List Trial
trials =
    -- 1 before 2, 2 for each table, 2 before 3
    refuses no_kind [] [] clear 1 []
    ∷ refuses S (E ∷ []) zeros clear 2 []
    ∷ refuses S store_of_none (0 ∷ []) (write 8 0) 2 []
    -- 3 before 4, and both limits
    ∷ refuses S store_of_none zeros (write 8 4) 3 []
    ∷ refuses S store_of_none zeros (write 7 4) 4 []
    ∷ refuses S store_of_none zeros (erase 8) 3 []
    ∷ refuses S store_of_none zeros (first_match 4) 4 []
    ∷ writes S store_of_none zeros (write 0 3) was_empty
    (store_of_four 3 E E E) (row3 1)
    -- a match word of wrong length is 2, before 4; it is left as lent
    ∷ refuses S store_of_none zeros (all_match 4 []) 2 []
    ∷ refuses S store_of_none zeros (all_match 3 (9 ∷ 9 ∷ [])) 2 (9 ∷ 9 ∷ [])
    ∷ refuses S store_of_none zeros (all_match 4 (9 ∷ [])) 4 (9 ∷ [])
    -- an entry that is no pattern: 5, after 4, and at its own address alone
    ∷ refuses S (store_of_four 4 E E E) zeros (read 0) 5 []
    ∷ refuses S (store_of_four 4 E E E) zeros (erase 0) 5 []
    ∷ refuses S (store_of_four 4 E E E) zeros (write 0 1) 5 []
    ∷ refuses S (store_of_four 4 E E E) zeros (write 0 4) 4 []
    ∷ answers_with S (store_of_four 4 2 E E) zeros (read 1) (was 2) []
    ∷ writes S (store_of_four 4 4 E E) zeros (write 2 1) was_empty
    (store_of_four 4 4 1 E) (row1 2)
    -- two equal entries in a line: the first is the hit, the whole line is counted
    ∷ answers_with S (store_of_four 1 1 E E) (row1 1) (first_match 1) (at 0 1 2) []
    ∷ answers_with wide (1 ∷ E ∷ E ∷ E ∷ E ∷ 1 ∷ 1 ∷ E ∷ []) (0 ∷ 2 ∷ []) (first_match 1)
    (at 5 1 4) []
    -- a false set behind a true one: first-match does not look at it, all-match does
    ∷ answers_with S store_with_1 (row1 3) (first_match 1) (at 1 1 2) []
    ∷ refuses S store_with_1 (row1 3) (all_match 1 (9 ∷ [])) 6 (9 ∷ [])
    ∷ refuses S (store_of_four E E E 1) (row1 3) (first_match 1) 6 []
    -- 4 before 6: the row of 4 would be that of 0, whose set 0 is false
    ∷ refuses S store_of_none (1 ∷ 0 ∷ 0 ∷ 0 ∷ []) (first_match 4) 4 []
    ∷ refuses S store_of_none (1 ∷ 0 ∷ 0 ∷ 0 ∷ []) (all_match 4 (9 ∷ [])) 4 (9 ∷ [])
    -- a next-match: 3 before 4, 4 before 6, and no 5
    ∷ refuses S store_of_none zeros (next_match 8 4) 3 []
    ∷ refuses S store_of_none (2 ∷ 0 ∷ 0 ∷ 0 ∷ []) (next_match 0 4) 4 []
    ∷ found_next S (store_of_four 4 E 1 E) (row1 2) 0 1 (Some 2)
    -- its own set by the store alone, above its address alone, and never 6
    ∷ found_next S (store_of_four 1 1 E E) zeros 0 1 (Some 1)
    ∷ found_next S (store_of_four 1 E E E) (row1 1) 0 1 None
    ∷ found_next wide (1 ∷ 1 ∷ E ∷ 1 ∷ 1 ∷ E ∷ E ∷ E ∷ []) (0 ∷ 3 ∷ []) 1 1 (Some 3)
    -- then the first indicated set behind it, whose first equal entry is the answer
    ∷ found_next S (store_of_four 1 E E 1) (row1 3) 0 1 (Some 3)
    ∷ found_next S (store_of_four 1 E 1 1) (row1 2) 1 1 (Some 2)
    ∷ refuses S (1 ∷ E ∷ E ∷ E ∷ 1 ∷ E ∷ E ∷ E ∷ []) (row1 7) (next_match 0 1) 6 []
    ∷ found_next S (store_of_four 1 E E E) (row1 17) 0 1 None
    ∷ found_next S (store_of_four 1 E E E) (row1 15) 7 1 None
    -- kinds 0 and 1 go by their indicators alone
    ∷ found_next (alone 0) (E ∷ E ∷ E ∷ E ∷ []) (0 ∷ 12 ∷ []) 2 1 (Some 3)
    ∷ found_next (alone 1) (1 ∷ 1 ∷ 1 ∷ 1 ∷ []) (0 ∷ 4 ∷ []) 2 1 None
    -- rows of two words: set 1 in the first, set 64 in the second
    ∷ found_next deep deep_empty deep_rows 0 1 (Some 1)
    ∷ found_next deep deep_empty deep_rows 1 1 (Some 64)
    ∷ found_next deep deep_empty deep_rows 63 1 (Some 64)
    ∷ found_next deep deep_empty deep_rows 64 1 None
    -- a padding bit alone indicates nothing, and a write leaves it
    ∷ answers_with S store_of_none (row1 16) (first_match 1) (none 1 0) []
    ∷ answers_with S store_of_none (row1 16) (all_match 1 (9 ∷ []))
    (matched (0 ∷ []) 0) (0 ∷ [])
    ∷ writes S store_of_none (row1 16) (write 0 1) was_empty
    (store_of_four 1 E E E) (row1 17)
    -- padding bits in every row of tables that mirror their store: both matches answer as without
    ∷ answers_with S (store_of_four E 1 E 1) padded_rows (first_match 1) (at 1 1 2) []
    ∷ answers_with S (store_of_four E 1 E 1) padded_rows (all_match 1 (9 ∷ []))
    (matched (10 ∷ []) 2) (10 ∷ [])
    ∷ answers_with S (store_of_four E 1 E 1) padded_rows (first_match 3) (none 1 0) []
    -- erase while a neighbour holds the pattern, and then not; a stale bit of another set stays
    ∷ writes S (store_of_four E E 1 1) (row1 3) (erase 2) (was 1)
    (store_of_four E E E 1) (row1 3)
    ∷ writes S (store_of_four E E E 1) (row1 3) (erase 3) (was 1)
    store_of_none (row1 1)
    -- kind 0 goes by its indicators alone; kind 2 with one address in a set compares
    ∷ answers_with (alone 0) (E ∷ E ∷ E ∷ E ∷ []) (0 ∷ 4 ∷ []) (first_match 1) (at 2 1 0) []
    ∷ answers_with (alone 0) (E ∷ E ∷ E ∷ E ∷ []) (0 ∷ 4 ∷ []) (all_match 1 (9 ∷ []))
    (matched (4 ∷ []) 1) (4 ∷ [])
    ∷ answers_with (alone 2) (E ∷ E ∷ 1 ∷ E ∷ []) (0 ∷ 4 ∷ []) (first_match 1) (at 2 1 1) []
    ∷ refuses (alone 2) (E ∷ E ∷ E ∷ E ∷ []) (0 ∷ 4 ∷ []) (first_match 1) 6 []
    -- a last set that is short: a hit and marks in it, itself false, the padding bit beside it, and
    -- a walk that ends in it
    ∷ answers_with short (store_of_five E E E E 1) (row1 4) (first_match 1) (at 4 1 1) []
    ∷ answers_with short (store_of_five 1 E E E 1) (row1 5) (all_match 1 (9 ∷ []))
    (matched (17 ∷ []) 2) (17 ∷ [])
    ∷ refuses short (store_of_five 1 1 1 1 E) (row1 4) (first_match 1) 6 []
    ∷ refuses short (store_of_five 1 1 1 1 E) (row1 7) (all_match 1 (9 ∷ [])) 6 (9 ∷ [])
    ∷ answers_with short (store_of_five E E E E 1) (row1 8) (first_match 1) (none 1 0) []
    ∷ found_next short (store_of_five 1 E E E 1) (row1 5) 0 1 (Some 4)
    ∷ found_next short (store_of_five 1 E E E 1) (row1 15) 4 1 None
    -- its bit is set and cleared by its one address
    ∷ writes short (store_of_five E E E 1 1) (row1 6) (write 4 2) (was 1)
    (store_of_five E E E 1 2) (0 ∷ 2 ∷ 4 ∷ 0 ∷ [])
    ∷ writes short (store_of_five E E E 1 1) (row1 14) (erase 4) (was 1)
    (store_of_five E E E 1 E) (row1 10)
    -- rows of two words: word 1 of row 1 is number 3; a match word of two
    ∷ writes deep deep_empty zeros (write 64 1) was_empty
    deep_store (0 ∷ 0 ∷ 0 ∷ 1 ∷ [])
    ∷ answers_with deep deep_empty deep_rows (all_match 1 (9 ∷ 9 ∷ []))
    (matched (2 ∷ 1 ∷ []) 2) (2 ∷ 1 ∷ [])
    -- kind 1: 514 is row 2 of stage 0 and row 1 of stage 1, which begins at word 512
    ∷ writes K (E ∷ E ∷ []) (replicate 514 0) (write 1 514) was_empty
    (E ∷ 514 ∷ []) (slice_set (slice_set (replicate 514 0) 2 2) 513 2)
    ∷ []

-- ---- whether tables mirror their store, bit by bit

-- Whether the bit of a row and a set is not what the store's entries would have.
unfoldable pub is_wrong : Geometry → Tables → (row set : ℕ) → Bool
is_wrong g t r s =
    if bit_of_set g t.indicators r s then not (wanted_bit g t r s) else wanted_bit g t r s

-- Whether the tables have the right lengths, and no bit of a set is wrong.
unfoldable pub is_mirror : Geometry → Tables → Bool
is_mirror g t =
    (length t.store == g.depth && length t.indicators == indicator_words g)
    && not (any (rows g) (λ r. any (sets g) (is_wrong g t r)))

-- Tables, and whether they mirror their store.
pub record Mirror : Type 0 where
  pub geometry : Geometry
  pub tables : Tables
  pub verdict : Bool

-- One row of the table.
abbrev pub mirror : Geometry → (store indicators : List ℕ) → Bool → Mirror
mirror g st ind v = record {
  geometry = g;
  tables = record { store = st; indicators = ind };
  verdict = v;
}

-- The tables and their verdicts.
unfoldable pub mirrors : List Mirror
mirrors =
    -- S has four sets: bits 4 to 63 of each word are padding, and free
    mirror S store_with_1 (row1 1) true
    ∷ mirror S store_with_1 (16 ∷ 9223372036854775825 ∷ 18446744073709551600 ∷ 32 ∷ []) true
    -- a stale bit, a missing one, one in another row, and one that padding hides from nobody
    ∷ mirror S store_with_1 (row1 3) false
    ∷ mirror S store_with_1 (row1 0) false
    ∷ mirror S store_with_1 (1 ∷ 0 ∷ 0 ∷ 0 ∷ []) false
    ∷ mirror S store_with_1 (row1 25) false
    -- an entry that is no pattern covers nothing
    ∷ mirror S (store_of_four 4 1 E E) (row1 1) true
    -- bit 2 is the last set's, which has one address; bit 3 is padding
    ∷ mirror short (store_of_five E E E E 1) (row1 12) true
    ∷ mirror short (store_of_five E E E 1 E) (row1 6) false
    ∷ mirror short (store_of_five E E E E 1) zeros false
    -- lengths
    ∷ mirror S (E ∷ []) zeros false
    ∷ mirror S store_of_none (0 ∷ []) false
    -- rows of two words: all of the first belongs to sets, of the second one bit
    ∷ mirror deep deep_store (0 ∷ 0 ∷ 0 ∷ 1 ∷ []) true
    ∷ mirror deep deep_store (0 ∷ 2 ∷ 0 ∷ 3 ∷ []) true
    ∷ mirror deep deep_store (0 ∷ 0 ∷ 9223372036854775808 ∷ 1 ∷ []) false
    ∷ mirror deep deep_store (0 ∷ 0 ∷ 0 ∷ 2 ∷ []) false
    ∷ []

-- ---- what a resume comes to

-- Tables, the number with which a resume refuses them or none, and the array that the store shows.
pub record Board : Type 0 where
  pub geometry : Geometry
  pub tables : Tables
  pub refusal : Option ℕ
  pub shows : Array

-- One row of the table; of tables that a resume accepts, and that it refuses with a number.
abbrev pub board : Geometry → (store indicators : List ℕ) → Option ℕ → Array → Board
board g st ind n es = record {
  geometry = g;
  tables = record { store = st; indicators = ind };
  refusal = n;
  shows = es;
}

abbrev pub on_board : Geometry → (store indicators : List ℕ) → Array → Board
on_board g st ind es = board g st ind None es

abbrev pub off_board : Geometry → (store indicators : List ℕ) → (number : ℕ) → Array → Board
off_board g st ind n es = board g st ind (Some n) es

-- Eight entries of S: the four given, and empty ones; none at all; 1 at address 1 alone.
abbrev pub four : (a b c d : Entry) → Array
four a b c d = a ∷ b ∷ c ∷ d ∷ empty ∷ empty ∷ empty ∷ empty ∷ []

abbrev pub array_of_none : Array
array_of_none = four empty empty empty empty

abbrev pub array_with_1 : Array
array_with_1 = four empty (pattern 1) empty empty

-- The word and the entry of S's last address, with all others empty.
abbrev pub store_with_last : (w : ℕ) → List ℕ
store_with_last w = E ∷ E ∷ E ∷ E ∷ E ∷ E ∷ E ∷ w ∷ []

abbrev pub array_with_last : Entry → Array
array_with_last e = empty ∷ empty ∷ empty ∷ empty ∷ empty ∷ empty ∷ empty ∷ e ∷ []

-- 3 at address 2 of `short`, and at its last address; 1 at the last address of `deep`.
abbrev pub short_store : List ℕ
short_store = store_of_five E E 3 E 3

abbrev pub short_array : Array
short_array = empty ∷ empty ∷ pattern 3 ∷ empty ∷ pattern 3 ∷ []

abbrev pub deep_array : Array
deep_array = slice_set (replicate 65 empty) 64 (pattern 1)

-- Two addresses and four patterns, each pattern with rows of one word.
abbrev pub pair : (kind : ℕ) → Geometry
pair k = record { kind = k; depth = 2; pattern_width = 2; set_width = 1 }

-- K's indicators for 1 and 514, but for word 1, which is given.
abbrev pub two_stages : (first : ℕ) → List ℕ
two_stages w = slice_set (slice_set (slice_set (slice_set (replicate 514 0) 1 w) 2 2) 512 1) 513 2

-- The tables, whether they are refused, and what their store shows.
unfoldable pub boards : List Board
boards =
    -- an empty store, one pattern, one pattern twice in a set, two in one set, one in two sets
    on_board S store_of_none zeros array_of_none
    ∷ on_board S store_with_1 (row1 1) array_with_1
    ∷ on_board S (store_of_four 1 1 E E) (row1 1) (four (pattern 1) (pattern 1) empty empty)
    ∷ on_board S (store_of_four E E 1 2) (0 ∷ 2 ∷ 2 ∷ 0 ∷ [])
    (four empty empty (pattern 1) (pattern 2))
    ∷ on_board S (store_of_four 3 E E 3) (row3 3) (four (pattern 3) empty empty (pattern 3))
    -- a stale bit, in a row of a stored pattern and in another; a missing one; one in another set
    -- and in another row
    ∷ off_board S store_with_1 (row1 3) 10 array_with_1
    ∷ off_board S store_with_1 (1 ∷ 1 ∷ 0 ∷ 0 ∷ []) 10 array_with_1
    ∷ off_board S store_with_1 zeros 10 array_with_1
    ∷ off_board S store_with_1 (row1 2) 10 array_with_1
    ∷ off_board S store_with_1 (0 ∷ 0 ∷ 1 ∷ 0 ∷ []) 10 array_with_1
    -- a padding bit, the lowest and the highest, in the first and in the last word
    ∷ off_board S store_with_1 (row1 17) 10 array_with_1
    ∷ off_board S store_with_1 (9223372036854775808 ∷ 1 ∷ 0 ∷ 0 ∷ []) 10 array_with_1
    ∷ off_board S store_with_1 (0 ∷ 1 ∷ 0 ∷ 16 ∷ []) 10 array_with_1
    -- the first word that is no pattern, and the last that is not empty: 10, never 5; at the first
    -- and the last address
    ∷ off_board S (store_of_four 4 1 E E) (row1 1) 10 array_with_1
    ∷ off_board S (store_of_four 4294967294 1 E E) (row1 1) 10 array_with_1
    ∷ off_board S (store_with_last 4) zeros 10 array_of_none
    -- a pattern at the last address, with its bit and without
    ∷ on_board S (store_with_last 3) (row3 8) (array_with_last (pattern 3))
    ∷ off_board S (store_with_last 3) zeros 10 (array_with_last (pattern 3))
    -- 1 before 2, 2 before 10, for either table
    ∷ off_board no_kind (4 ∷ []) [] 1 (empty ∷ [])
    ∷ off_board S (4 ∷ []) zeros 2 (empty ∷ [])
    ∷ off_board S (store_of_four 4 E E E) (1 ∷ []) 2 array_of_none
    -- a last set of one address: its bit with its entry, stale, missing, and the padding bit beside
    -- it
    ∷ on_board short short_store (row3 6) short_array
    ∷ off_board short (store_of_five E E 3 E E) (row3 6) 10
    (empty ∷ empty ∷ pattern 3 ∷ empty ∷ empty ∷ [])
    ∷ off_board short short_store (row3 2) 10 short_array
    ∷ off_board short short_store (row3 14) 10 short_array
    -- rows of two words, whose second has one bit that is a set's
    ∷ on_board deep deep_store (0 ∷ 0 ∷ 0 ∷ 1 ∷ []) deep_array
    ∷ off_board deep deep_store (0 ∷ 0 ∷ 0 ∷ 3 ∷ []) 10 deep_array
    ∷ off_board deep deep_store (0 ∷ 0 ∷ 1 ∷ 1 ∷ []) 10 deep_array
    -- kinds 0 and 1 with one stage
    ∷ on_board (pair 0) (2 ∷ 0 ∷ []) (2 ∷ 0 ∷ 1 ∷ 0 ∷ []) (pattern 2 ∷ pattern 0 ∷ [])
    ∷ on_board (pair 1) (2 ∷ 0 ∷ []) (2 ∷ 0 ∷ 1 ∷ 0 ∷ []) (pattern 2 ∷ pattern 0 ∷ [])
    ∷ off_board (pair 1) (2 ∷ 0 ∷ []) (3 ∷ 0 ∷ 1 ∷ 0 ∷ []) 10 (pattern 2 ∷ pattern 0 ∷ [])
    -- two stages: a bit that is missing and one that is stale
    ∷ off_board K (1 ∷ 514 ∷ []) (two_stages 0) 10 (pattern 1 ∷ pattern 514 ∷ [])
    ∷ off_board K (1 ∷ 514 ∷ []) (two_stages 3) 10 (pattern 1 ∷ pattern 514 ∷ [])
    ∷ []

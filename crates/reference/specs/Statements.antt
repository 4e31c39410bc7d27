-- What is shown of the steps, with the rules of docs/MEMORY.md that it says. The theorems are in
-- proofs/; docs/CLAIMS.md names each.
use Rattle.std.specs.Prelude.{◌≡◌, ℕ, ◌+◌, ◌*◌, ◌/◌, ◌%◌, ◌^◌, ◌<◌, Bool, true, false, not, ◌&&◌, ◌⊎◌, List, ◌++◌, map, length, if◌then◌else◌, ◌==◌, slice_index, Some, None}
use mathlib.Core.List.{zip_with}
use Rattle.words.specs.Rules as rule
use Rattle.words.specs.Rules.{any, above, IsFirst, Nowhere}
use Rattle.words.specs.Bits.{bit}
use Rattle.geometry.specs.declared.Geometry.{Geometry}
use Rattle.geometry.specs.Valid.{segmented, is_valid}
use Rattle.geometry.specs.Sizes.{sets, row_words, set_of, address_of, set_length}
use Rattle.geometry.specs.Stages.{stages, stage_width, stage, rows, indicator_words}
use Rattle.cover.specs.Image.{cell, belongs}
use Rattle.cover.specs.Change.{others_cover}
use Rattle.reference.specs.Entry.{Entry, empty, pattern, word_of, IsEntryWord, holds}
use Rattle.reference.specs.Calls.{Call, clear, Answer, refused, cleared, at, none, next, shape, lent_word, matches_after}
use Rattle.reference.specs.Array.{Array, IsSound, words_read_for, entries_compared_for, matched_answer}
use Rattle.reference.specs.Tables.{Tables, stored_word, stored_entry}
use Rattle.reference.specs.Image.{covers, store_cover, bit_of_set, wanted_bit, tables_of}
use Rattle.reference.specs.Search.{is_indicated, has_key_at, has_key_above, is_taken}
use Rattle.reference.specs.Steps.{bad_matches, step}
use Rattle.reference.specs.Resume.{shown_image, resume_step}
use Rattle.reference.specs.History.{History, run, answers_of, matches_of, after, array_answers, array_of}

-- ---- histories

-- The tables are those of a sound array of a valid geometry: what a history begins with, and each
-- call keeps. An accepted clear leaves those of the empty array (rule 10.2), and those that a
-- resume accepts are the tables of the array that the store shows (rule 10.6).
pub record IsBegun (g : Geometry) (t : Tables) (es : Array) : Type 0 where
  pub valid : is_valid g ≡ true
  pub sound : IsSound g es
  pub tables : t ≡ tables_of g es

-- A history on tables is that of the plain array that begins as es and is fed the shape of each
-- call: every answer; the match word that each call leaves, the lent one after a refusal; and at
-- the end the store and every indicator word, padding bits included (rules 10.2 and 10.3).
pub record Follows (g : Geometry) (es : Array) (t : Tables) (cs : History) : Type 0 where
  pub answers : answers_of g t cs ≡ array_answers g es (map shape cs)
  pub matches : matches_of g t cs ≡ zip_with matches_after (answers_of g t cs) (map lent_word cs)
  pub tables : after g t cs ≡ tables_of g (array_of g es cs)

-- The numbers with which a call of such a history can be refused (rule 10.5).
abbrev pub IsLater : Geometry → Call (List ℕ) → ℕ → Type 0
IsLater g c n = (n ≡ 3) ⊎ ((n ≡ 4) ⊎ ((n ≡ 2) × (bad_matches g c ≡ true)))

-- Tables with which a history can go on: of the right lengths, with no word in the store but empty
-- ones and patterns, and with the image of what it shows for the indicators, padding bits included
-- (rule 8.12).
pub record IsResumable (g : Geometry) (t : Tables) : Type 0 where
  pub valid : is_valid g ≡ true
  pub long : length t.store ≡ g.depth
  pub words : length t.indicators ≡ indicator_words g
  pub entries : (a : ℕ) → a < g.depth → IsEntryWord g (stored_word t a)
  pub image : t.indicators ≡ shown_image g t

-- Tables that a history leaves which begins with an accepted clear, of whatever tables.
pub record IsReached (g : Geometry) (t : Tables) : Type 0 where
  pub before : Tables
  pub accepted : (step g before clear).answer ≡ cleared
  pub calls : History
  pub leaves : after g (step g before clear).tables calls ≡ t

-- Some calls, a resume, and then others, which go on with the tables that the resume leaves: it is
-- accepted, and all calls leave what they leave with no resume between them (rule 10.7).
pub record CutInTwo (g : Geometry) (t : Tables) (cs ds : History) : Type 0 where
  pub accepted : (resume_step g (after g t cs)).refusal ≡ None
  pub outcomes : run g t (cs ++ ds) ≡ run g t cs ++ run g (resume_step g (after g t cs)).tables ds
  pub tables : after g t (cs ++ ds) ≡ after g (resume_step g (after g t cs)).tables ds

-- ---- the matches, on any tables

-- Kind 2, in which the entries of a set are compared.
abbrev pub IsSegmented : Geometry → Type 0
IsSegmented g = (g.kind == segmented) ≡ true

-- The other kinds, in which a set is an address and nothing is compared.
abbrev pub IsNotSegmented : Geometry → Type 0
IsNotSegmented g = (g.kind == segmented) ≡ false

-- The first entry of a set that is the key, by its offset.
abbrev pub IsFirstEqual : Geometry → Tables → (key set offset : ℕ) → Type 0
IsFirstEqual g t key s o = IsFirst (set_length g s) (has_key_at g t key s) o

-- A false set, should it be indicated: kind 2, and no entry of it is the key (rule 8.9).
abbrev pub NoEqual : Geometry → Tables → (key set : ℕ) → Type 0
NoEqual g t key s = IsSegmented g × Nowhere (set_length g s) (has_key_at g t key s)

-- The first set that the key indicates.
abbrev pub IsFirstIndicated : Geometry → Tables → (key set : ℕ) → Type 0
IsFirstIndicated g t key s = IsFirst (sets g) (is_indicated g t key) s

-- The key indicates no set.
abbrev pub NoneIndicated : Geometry → Tables → (key : ℕ) → Type 0
NoneIndicated g t key = Nowhere (sets g) (is_indicated g t key)

-- What a first-match answers: the first indicated set decides, and in kind 2 the first equal entry
-- in it. The words up to that of the set were read, and in kind 2 all entries of the set compared
-- (rules 8.7, 8.9 and 8.10).
pub data FirstOnAny (g : Geometry) (t : Tables) (key : ℕ) (answer : Answer) : Type 0 where
  no_set : NoneIndicated g t key
      → answer ≡ none (row_words g) 0
      → FirstOnAny g t key answer
  set_alone : (s : ℕ) → IsFirstIndicated g t key s → IsNotSegmented g
      → answer ≡ at s (s / 64 + 1) 0
      → FirstOnAny g t key answer
  equal_entry : (s o : ℕ) → IsFirstIndicated g t key s → IsSegmented g → IsFirstEqual g t key s o
      → answer ≡ at (address_of g s o) (s / 64 + 1) (set_length g s)
      → FirstOnAny g t key answer
  no_equal : (s : ℕ) → IsFirstIndicated g t key s → NoEqual g t key s
      → answer ≡ refused 6
      → FirstOnAny g t key answer

-- The first entry that is the key in the own set of an address and above it, by its offset.
abbrev pub IsFirstInOwn : Geometry → Tables → (a key offset : ℕ) → Type 0
IsFirstInOwn g t a key o = IsFirst (set_length g (set_of g a)) (has_key_above g t a key) o

-- No entry is the key there.
abbrev pub NoneInOwn : Geometry → Tables → (a key : ℕ) → Type 0
NoneInOwn g t a key = Nowhere (set_length g (set_of g a)) (has_key_above g t a key)

-- The first set that the key indicates behind the set of an address.
abbrev pub IsFirstBehind : Geometry → Tables → (a key set : ℕ) → Type 0
IsFirstBehind g t a key s = IsFirst (sets g) (above (set_of g a) (is_indicated g t key)) s

-- The key indicates no set there.
abbrev pub NoneBehind : Geometry → Tables → (a key : ℕ) → Type 0
NoneBehind g t a key = Nowhere (sets g) (above (set_of g a) (is_indicated g t key))

-- What a next-match answers: in kind 2 the first equal entry above the address in its own set,
-- indicated or not (rule 8.13); else the first indicated set after that one decides as in a
-- first-match (rules 8.9 and 8.14).
pub data NextOnAny (g : Geometry) (t : Tables) (a key : ℕ) (answer : Answer) : Type 0 where
  own_entry : (o : ℕ) → IsSegmented g → IsFirstInOwn g t a key o
      → answer ≡ next (Some (address_of g (set_of g a) o))
      → NextOnAny g t a key answer
  no_set : NoneInOwn g t a key → NoneBehind g t a key
      → answer ≡ next None
      → NextOnAny g t a key answer
  set_alone : NoneInOwn g t a key → (s : ℕ) → IsFirstBehind g t a key s → IsNotSegmented g
      → answer ≡ next (Some s)
      → NextOnAny g t a key answer
  equal_entry : NoneInOwn g t a key → (s o : ℕ) → IsFirstBehind g t a key s
      → IsSegmented g → IsFirstEqual g t key s o
      → answer ≡ next (Some (address_of g s o))
      → NextOnAny g t a key answer
  no_equal : NoneInOwn g t a key → (s : ℕ) → IsFirstBehind g t a key s → NoEqual g t key s
      → answer ≡ refused 6
      → NextOnAny g t a key answer

-- No set that the key indicates is false.
abbrev pub NoFalseSet : Geometry → Tables → (key : ℕ) → Type 0
NoFalseSet g t key = (s : ℕ) → s < sets g → is_indicated g t key s ≡ true → NoEqual g t key s → ⊥

-- What an all-match answers: 6 where some indicated set is false (rule 8.9); else every address of
-- an indicated set, in kind 2 those that have the key (rule 8.8).
pub data AllOnAny (g : Geometry) (t : Tables) (key : ℕ) (answer : Answer) : Type 0 where
  all_taken : NoFalseSet g t key
      → answer ≡ matched_answer g (is_taken g t key)
      → AllOnAny g t key answer
  no_equal : (s : ℕ) → s < sets g → is_indicated g t key s ≡ true → NoEqual g t key s
      → answer ≡ refused 6
      → AllOnAny g t key answer

-- ---- the matches, where the indicators mirror the store

-- Tables of the right lengths whose indicators mirror the store: every bit that belongs to a set is
-- as the store's entries would have it. Padding bits are free, and so are words that are no
-- pattern: they cover nothing (rules 6.1 and 6.4).
pub record Mirrors (g : Geometry) (t : Tables) : Type 0 where
  pub entries : length t.store ≡ g.depth
  pub words : length t.indicators ≡ indicator_words g
  pub bits : (r s : ℕ) → r < rows g → s < sets g
      → bit_of_set g t.indicators r s ≡ wanted_bit g t r s

-- The set that bit b of word m of the indicators belongs to, should there be such a set: word m is
-- word m mod R of its row (rules 3.4 and 3.5).
abbrev pub set_of_bit : Geometry → (m b : ℕ) → ℕ
set_of_bit g m b = 64 * (m % row_words g) + b

-- Other indicators, which differ in padding bits alone: a bit that belongs to a set is the same.
pub record DifferInPadding (g : Geometry) (ind others : List ℕ) : Type 0 where
  pub words : length others ≡ length ind
  pub bits : (m b : ℕ) → m < indicator_words g → b < 64 → set_of_bit g m b < sets g
      → bit (slice_index others m) b ≡ bit (slice_index ind m) b

-- Whether the store has the key at an address.
abbrev pub stores : Tables → (key a : ℕ) → Bool
stores t key a = stored_word t a == key

-- A first-match answers with the smallest address that has the key, or with none where no address
-- has it (rule 8.11); w and c are the formulas of rule 5.7.
pub data FirstIs (g : Geometry) (t : Tables) (key : ℕ) (answer : Answer) : Type 0 where
  lowest : (a : ℕ) → IsFirst g.depth (stores t key) a
      → answer ≡ at a (words_read_for g a) (entries_compared_for g a)
      → FirstIs g t key answer
  absent : Nowhere g.depth (stores t key)
      → answer ≡ none (row_words g) 0
      → FirstIs g t key answer

-- A next-match answers with the smallest address above its own that has the key, or with none where
-- none has (rule 8.11).
abbrev pub NextIs : Geometry → Tables → (a key : ℕ) → Answer → Type 0
NextIs g t a key answer = answer ≡ next (rule.lowest g.depth (above a (stores t key)))

-- An all-match answers with the word in which the bit of each address says whether it has the key,
-- and with their number (rule 8.11).
abbrev pub AllAre : Geometry → Tables → (key : ℕ) → Answer → Type 0
AllAre g t key answer = answer ≡ matched_answer g (stores t key)

-- ---- write and erase, on any tables: each bit and each entry when e comes to address a

-- What bit b of word j of row r comes to be. In a's set it is 1 where `becomes_1` holds, else 0
-- where `becomes_0` holds, else as it was. Every other bit, padding bits too, is as it was (rule
-- 8.5).
abbrev pub bit_after : Geometry → Tables → (a : ℕ) → (becomes_1 becomes_0 : Bool)
    → (r j b : ℕ) → Bool
bit_after g t a becomes_1 becomes_0 r j b =
    if belongs (set_of g a) j b
    then (if becomes_1 then true else if becomes_0 then false else cell g t.indicators r j b)
    else cell g t.indicators r j b

-- Whether the entry of a covers the row, and no other address of its set does.
abbrev pub covers_alone : Geometry → Tables → (a row : ℕ) → Bool
covers_alone g t a r = covers g (stored_entry g t a) r && not (others_cover g (store_cover g t) a r)

-- Tables u are t after e came to address a. In a's set the bit of row r is 1 where e covers r; else
-- 0 where the entry that a had covers r and the set's other addresses do not; else as it was (rules
-- 8.2 and 8.4). The store has e at a, and its other words as they were (rule 8.5).
pub record EveryBit (g : Geometry) (t u : Tables) (a : ℕ) (e : Entry) : Type 0 where
  pub bits : (r j b : ℕ) → j < row_words g
      → cell g u.indicators r j b ≡ bit_after g t a (covers g e r) (covers_alone g t a r) r j b
  pub words : length u.indicators ≡ length t.indicators
  pub entry : stored_word u a ≡ word_of e
  pub others : (b : ℕ) → (b ≡ a → ⊥) → stored_word u b ≡ stored_word t b
  pub entries : length u.store ≡ length t.store

-- ---- the same kind by kind: rules 8.3 and 8.4

-- Whether another address of a's set holds the pattern r.
unfoldable pub others_hold : Geometry → Tables → (a r : ℕ) → Bool
others_hold g t a r =
    let s = set_of g a in
    any (set_length g s)
    (λ o. not (address_of g s o == a) && holds (stored_entry g t (address_of g s o)) r)

-- Whether a holds the pattern r, and no other address of its set does.
abbrev pub holds_alone : Geometry → Tables → (a r : ℕ) → Bool
holds_alone g t a r = holds (stored_entry g t a) r && not (others_hold g t a r)

-- Kinds 0 and 2. In a's set the bit of pattern r becomes 1 where the new entry is r; else 0 where
-- the old one is r and the set's other addresses do not hold it. An erase's new entry is empty and
-- sets nothing. No other bit changes.
abbrev pub PatternBits : Geometry → (before after : Tables) → ℕ → Entry → Type 0
PatternBits g t u a e =
    (r j b : ℕ) → j < row_words g
    → cell g u.indicators r j b ≡ bit_after g t a (holds e r) (holds_alone g t a r) r j b

-- Whether an entry is a pattern whose stage k is x.
unfoldable pub holds_stage : Geometry → (k x : ℕ) → Entry → Bool
holds_stage g k x empty = false
holds_stage g k x (pattern p) = x == stage g k p

-- The row of value x of stage k (rule 4.3).
abbrev pub row_of_value : (k x : ℕ) → ℕ
row_of_value k x = 512 * k + x

-- Whether a has a pattern whose stage k is x.
abbrev pub stores_stage : Geometry → Tables → (a k x : ℕ) → Bool
stores_stage g t a k x = holds_stage g k x (stored_entry g t a)

-- Kind 1, by stages. In a's set the bit of value x becomes 1 where x is the new entry's; else 0
-- where it is the old one's. An erase's new entry is empty and sets nothing. No other bit changes,
-- and no other address shares the set.
abbrev pub StageBits : Geometry → (before after : Tables) → ℕ → Entry → Type 0
StageBits g t u a e =
    (k x j b : ℕ) → k < stages g → x < 2 ^ stage_width g k → j < row_words g
    → cell g u.indicators (row_of_value k x) j b
    ≡ bit_after g t a (holds_stage g k x e) (stores_stage g t a k x) (row_of_value k x) j b

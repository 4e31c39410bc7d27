-- Calls and answers of the code beside those that they stand for, as rows of two tables.
-- proofs/Examples.antt computes both.
use Rattle.std.specs.Prelude.{ℕ, List, [], ◌∷◌, Some, None, Ok, Err, Option, Result}
use Rattle.reference.specs.Entry.{empty, pattern}
use Rattle.reference.specs.Calls as calls
use Rattle.reference.specs.Calls.{clear, write, erase, read, first_match, next_match, all_match, refused, cleared, held, at, none, next, matched}
use Rattle.checks.specs.declared.Refusal.{Refusal}
use Rattle.checks.specs.declared.Refusal.TheVariants.{BadGeometry, BadLengths, BadAddress, BadPattern, BadEntry, FalseSet, BadTables}
use Rattle.places.specs.declared.Address.{Address}
use Rattle.places.specs.Address.{address_from}
use Rattle.calls.specs.declared.Call.{Call}
use Rattle.calls.specs.declared.Call.TheVariants.{Clear, Write, Erase, Read, FirstMatch, NextMatch, AllMatch}
use Rattle.calls.specs.declared.Answer.{Answer}
use Rattle.calls.specs.declared.Answer.TheVariants.{Cleared, Held, Searched, Next, Matched}
use Rattle.calls.specs.declared.Search.{Search}

-- A value of the code and the one that it stands for.
pub record Example (A B : Type 0) : Type 0 where
  pub given : A
  pub meant : B

abbrev pub CallExample : Type 0
CallExample = Example Call (calls.Call (List ℕ))

abbrev pub AnswerExample : Type 0
AnswerExample = Example (Result Answer Refusal) calls.Answer

-- One row of a table.
abbrev pub ◌means◌ : {A B : Type 0} → A → B → Example A B
given means meant = record { given = given; meant = meant }

infix 68 ◌means◌
-- The code's search of an address and both counts.
abbrev pub search : Option Address → (words_read entries_compared : ℕ) → Search
search a w c = record { address = a; words_read = w; entries_compared = c }

-- The match word that is lent with each call, and stands after it.
abbrev pub two_words : List ℕ
two_words = 8 ∷ 9 ∷ []

-- Each call.
unfoldable pub call_examples : List CallExample
call_examples =
    Clear means clear
    ∷ Write (address_from 3) 5 means write 3 5
    ∷ Erase (address_from 3) means erase 3
    ∷ Read (address_from 3) means read 3
    ∷ FirstMatch 5 means first_match 5
    ∷ NextMatch (address_from 3) 5 means next_match 3 5
    ∷ AllMatch 5 means all_match 5 two_words
    ∷ []

-- Each refusal and each answer.
unfoldable pub answer_examples : List AnswerExample
answer_examples =
    Err BadGeometry means refused 1
    ∷ Err BadLengths means refused 2
    ∷ Err BadAddress means refused 3
    ∷ Err BadPattern means refused 4
    ∷ Err BadEntry means refused 5
    ∷ Err FalseSet means refused 6
    ∷ Err BadTables means refused 10
    ∷ Ok Cleared means cleared
    ∷ Ok (Held None) means held empty
    ∷ Ok (Held (Some 5)) means held (pattern 5)
    ∷ Ok (Searched (search (Some (address_from 3)) 4 5)) means at 3 4 5
    ∷ Ok (Searched (search None 4 5)) means none 4 5
    ∷ Ok (Next (Some (address_from 3))) means next (Some 3)
    ∷ Ok (Next None) means next None
    ∷ Ok (Matched 2) means matched two_words 2
    ∷ []

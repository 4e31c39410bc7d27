-- Bytes printed after bytes are both together. In a loop over what is to print there is room for
-- each turn, and in the end all is printed.
use Rattle.std.proofs.Common.{◌≡◌, ℕ, suc, ◌+◌, ◌<◌, ◌≤◌, List, [], ◌++◌, length, get_or, take, drop, flat_map, refl, sym, ap, ◌∙◌, append_assoc, append-nil, zero-add, add-one, arith, length-append, length-drop, take-append-drop, drop_of_length-le, drop-cons, drop-drop}
use Rattle.std.proofs.lemmas.List.{length-take-le}
use Rattle.figures.specs.Figures.{Bytes}
use Rattle.figures.specs.declared.Page.{Page}
use Rattle.figures.specs.Sheet.{Sheet, sheet, blank_sheet, printed_sheet, Prints}
use Rattle.figures.specs.Appended.{overwritten_buffer, Appended}

printed_sheet_twice : (s : Sheet) (xs ys : Bytes) → printed_sheet (printed_sheet s xs) ys ≡ printed_sheet s (xs ++ ys)
printed_sheet_twice s xs ys i = record {
  buffer = s.buffer;
  printed = append_assoc s.printed xs ys i;
  rest = (drop-drop (length ys) (length xs) s.rest ∙ ap (λ (n : ℕ). drop n s.rest) (sym (length-append xs ys))) i;
}

pub printed_sheet_none : (s : Sheet) → printed_sheet s [] ≡ s
printed_sheet_none s i = record { buffer = s.buffer; printed = append-nil s.printed i; rest = s.rest }

-- t is s with xs printed, and u is t with ys printed
pub both : (s : Sheet) {t u : Sheet} (xs ys : Bytes) → t ≡ printed_sheet s xs → u ≡ printed_sheet t ys → u ≡ printed_sheet s (xs ++ ys)
both s xs ys first second = second ∙ ap (λ (v : Sheet). printed_sheet v ys) first ∙ printed_sheet_twice s xs ys

pub room_after : (s : Sheet) {t : Sheet} (xs ys : Bytes) → length (xs ++ ys) ≤ length s.rest → t ≡ printed_sheet s xs → length ys ≤ length t.rest
room_after s xs ys room first = rw first (omega (arith, room, length-append xs ys, length-drop (length xs) s.rest))

-- what is printed on a new page stands in the lent buffer
pub appended : (buffer : ℕ) (lent bytes : Bytes) (new after : Page) → sheet new ≡ blank_sheet buffer lent → Prints new after bytes
    → length bytes ≤ length lent → Appended lent after.out.now 0 (length (sheet after).printed) bytes
unfolding overwritten_buffer
appended buffer lent bytes new after begins prints room =
    let left = prints ∙ ap (λ (s : Sheet). printed_sheet s bytes) begins in
    let all = ap (λ (s : Sheet). s.printed) left in
    record {
      ends = ap length all ∙ sym (zero-add (length bytes));
      within = rw all room;
      buffer =
          sym (take-append-drop after.at after.out.now)
          ∙ ap (λ (s : Sheet). s.printed ++ s.rest) left
          ∙ ap (λ (n : ℕ). bytes ++ drop n lent) (sym (zero-add (length bytes)));
    }

-- a buffer that is printed into keeps its length
pub same_length : {o p xs : Bytes} {a b : ℕ} → Appended o p a b xs → length p ≡ length o
unfolding overwritten_buffer
same_length {o} {p} {xs} {a} {b} first =
    rw (first.buffer, length-append (take a o ++ xs) (drop (a + length xs) o), length-append (take a o) xs, length-take-le a o (omega (arith, first.ends, first.within)), length-drop (a + length xs) o)
    (omega (arith, first.ends, first.within))

-- ---- piece by piece

-- The page that was `first` is now `now`, with `left` to come of the whole that is to be printed.
pub record Left (first now : Sheet) (whole left : Bytes) : Type 0 where
  pub to_print : printed_sheet now left ≡ printed_sheet first whole
  pub room : length left ≤ length now.rest

pub begin : {s : Sheet} {whole : Bytes} → length whole ≤ length s.rest → Left s s whole whole
begin room = record { to_print = refl; room = room }

module _ {first now : Sheet} {whole left : Bytes} (l : Left first now whole left) where
  module _ (xs later : Bytes) (split : left ≡ xs ++ later) where
    pub room_next : length xs ≤ length now.rest
    room_next = omega (arith, rw split at l.room, length-append xs later)

    pub next : {then : Sheet} → then ≡ printed_sheet now xs → Left first then whole later
    next printed = record {
      to_print = ap (λ (s : Sheet). printed_sheet s later) printed ∙ printed_sheet_twice now xs later ∙ (rw split at l.to_print);
      room = room_after now xs later (rw split at l.room) printed;
    }

  pub all_printed : left ≡ [] → now ≡ printed_sheet first whole
  all_printed none_left = sym (printed_sheet_none now) ∙ (rw none_left at l.to_print)

-- ---- a loop that prints the bytes of each item

module _ {A : Type 0} (bytes : A → Bytes) (items : List A) where
  -- `first` is the page where the loop began, and `now` before item k
  pub record Before (first now : Sheet) (k : ℕ) : Type 0 where
    pub to_come : Left first now (flat_map bytes items) (flat_map bytes (drop k items))

  pub start : {s : Sheet} → length (flat_map bytes items) ≤ length s.rest → Before s s 0
  start room = record { to_come = begin room }

  module _ {first now : Sheet} {k : ℕ} (before : Before first now k) where
    module _ (d : A) (more : k < length items) where
      abbrev here : Bytes
      here = bytes (get_or items k d)

      abbrev later : Bytes
      later = flat_map bytes (drop (suc k) items)

      split : flat_map bytes (drop k items) ≡ here ++ later
      split = ap (flat_map bytes) (drop-cons items k d more)

      pub room_here : length here ≤ length now.rest
      room_here = room_next before.to_come here later split

      pub turn : {then : Sheet} → then ≡ printed_sheet now here → Before first then (k + 1)
      turn printed = rw (add-one k) record { to_come = next before.to_come here later split printed }

    pub end : length items ≤ k → now ≡ printed_sheet first (flat_map bytes items)
    end none_left = all_printed before.to_come (ap (flat_map bytes) (drop_of_length-le items none_left))

pub ruleset turns = (start, room_here, turn, end)

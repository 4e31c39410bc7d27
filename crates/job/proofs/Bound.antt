-- No output has more than 391,215 bytes: a first line of 34, and 1,363 lines of 287. A file that is
-- run has no more commands, each leaves the array sound, and the figures of a sound array's answers
-- are small.
use Rattle.std.proofs.Common.{◌≡◌, ℕ, zero, suc, ◌+◌, ◌*◌, ◌^◌, ◌<◌, ◌≤◌, Bool, true, false, cond, eqb, List, [], ◌∷◌, length, Some, None, Option, refl, ap, div-le_self, arith, length-append}
use Rattle.words.specs.Rules.{lowest, above}
use Rattle.words.proofs.Rules.{count_most, LowestIs, at_first, at_none, lowest_is}
use Rattle.words.proofs.Bits.{length-bit_words}
use Rattle.machines.specs.Machine as machine
use Rattle.machines.specs.Refusals.{first_refusal}
use Rattle.machines.proofs.Refusals.{Each, given_says}
use Rattle.geometry.specs.declared.Geometry.{Geometry}
use Rattle.geometry.specs.Valid.{segmented, is_valid}
use Rattle.geometry.specs.Sizes.{match_words, set_of, set_length}
use Rattle.geometry.proofs.Facts.{Facts, facts, patterns_most, kind_most}
use Rattle.geometry.proofs.Bounds.{words_few}
use Rattle.geometry.proofs.Places.{length_most, matches_least}
use Rattle.reference.specs.Calls.{Call, clear, write, erase, read, first_match, next_match, all_match, held, next}
use Rattle.reference.specs.Array.{Array, empty_array, entry_at, holds_at, IsSound, counted_answer, array_refusals, array_accepted, array_outcome, array_step}
use Rattle.reference.proofs.Emptied.{empty_array_sound}
use Rattle.figures.specs.Figures.{Bytes}
use Rattle.report.specs.Lines.{answer_line, first_line}
use Rattle.report.proofs.Measures.{Small, answer_line_most, stop_line_most, first_line_most}
use Rattle.jobfile.specs.declared.Command.{Command}
use Rattle.jobfile.specs.Files.{header_of, geometry_of, commands_from, commands_of, file_stops, file_stop}
use Rattle.jobfile.specs.Decoding.{decoded_call}
use Rattle.jobfile.proofs.Unstopped.{Unstopped, unstopped}
use Rattle.job.specs.Output.{obeyed_outcome, array_command, answers, answers_of, numbered_lines, report, printed_bytes, output}
use Rattle.job.proofs.Obeying.{command_sound}

-- ---- answers

module _ (g : Geometry) (ok : is_valid g ≡ true) (shallow : g.depth ≤ 1024) (es : Array) (sound : IsSound g es) where
  abbrev f : Facts g
  f = facts g ok

  held_small : (a : ℕ) → Small (held (entry_at es a))
  held_small a p e = omega (arith, sound.fits a p e, patterns_most g f)

  counted_answer_small : (key : ℕ) → Small (counted_answer g (lowest g.depth (holds_at es key)))
  unfolding counted_answer
  counted_answer_small key = go (lowest_is g.depth (holds_at es key))
    where
      compared : (a : ℕ) (b : Bool) → cond b (set_length g (set_of g a)) 0 < 10 ^ 4
      compared a true = omega (arith, length_most g f (set_of g a))
      compared a false = omega arith

      go : LowestIs g.depth (holds_at es key) (lowest g.depth (holds_at es key)) → Small (counted_answer g (lowest g.depth (holds_at es key)))
      go (at_first i found first) =
          let inside : i < 1024 = omega (arith, first.within) in
          rw found (omega arith, omega (arith, div-le_self i (64 * g.set_width)), compared i (eqb g.kind segmented))
      go (at_none missing nowhere) = rw missing (omega (arith, words_few g f), omega arith)

  next_small : (a key : ℕ) → Small (next (lowest g.depth (above a (holds_at es key))))
  next_small a key = go (lowest_is g.depth (above a (holds_at es key)))
    where
      go : LowestIs g.depth (above a (holds_at es key)) (lowest g.depth (above a (holds_at es key))) → Small (next (lowest g.depth (above a (holds_at es key))))
      go (at_first i found first) = rw found (omega (arith, first.within))
      go (at_none missing nowhere) = rw missing tt

  accepted_small : (c : Call ℕ) → Small (array_accepted g es c).answer
  unfolding array_accepted
  accepted_small clear = tt
  accepted_small (write a p) = held_small a
  accepted_small (erase a) = held_small a
  accepted_small (read a) = held_small a
  accepted_small (first_match key) = counted_answer_small key
  accepted_small (next_match a key) = next_small a key
  accepted_small (all_match key len) = (simp length-bit_words (omega (arith, matches_least g f)), omega (arith, count_most g.depth (holds_at es key)))

  -- every number that stops a call has one figure
  refusals_small : (c : Call ℕ) → Each (λ n. n < 10) (array_refusals g c)
  unfolding array_refusals
  refusals_small clear = tt
  refusals_small (write a p) = (λ b. omega arith, (λ b. omega arith, tt))
  refusals_small (erase a) = (λ b. omega arith, tt)
  refusals_small (read a) = (λ b. omega arith, tt)
  refusals_small (first_match key) = (λ b. omega arith, tt)
  refusals_small (next_match a key) = (λ b. omega arith, (λ b. omega arith, tt))
  refusals_small (all_match key len) = (λ b. omega arith, (λ b. omega arith, tt))

  command_small : (c : Command) → Small (array_command g es c).answer
  unfolding array_command obeyed_outcome array_step array_outcome
  command_small c = go (decoded_call (match_words g) c)
    where
      given : (call : Call ℕ) (r : Option ℕ) → first_refusal (array_refusals g call) ≡ r → Small (array_outcome g es call r).answer
      given call None e = accepted_small call
      given call (Some n) e = given_says (λ n. n < 10) (array_refusals g call) n (refusals_small call) e

      go : (d : Option (Call ℕ)) → Small (obeyed_outcome g es d).answer
      go None = omega arith
      go (Some call) = given call (first_refusal (array_refusals g call)) refl

-- ---- lines

module _ (g : Geometry) (ok : is_valid g ≡ true) (shallow : g.depth ≤ 1024) where
  first_most : length (first_line g) ≤ 34
  first_most =
      let f = facts g ok in
      first_line_most g (omega (arith, kind_most g ok)) (omega arith) (omega (arith, f.width_most)) (omega (arith, f.set_most))

  numbered_lines_most : (k : ℕ) (es : Array) → IsSound g es → (cs : List Command) → k + length cs ≤ 10 ^ 4 → length (numbered_lines k (answers g es cs)) ≤ 287 * length cs
  unfolding numbered_lines machine.run
  numbered_lines_most k es sound [] h = omega arith
  numbered_lines_most k es sound (c ∷ cs) h =
      let x = array_command g es c in
      omega (
        arith,
        length-append (answer_line k x.answer) (numbered_lines (k + 1) (answers g x.array cs)),
        answer_line_most k x.answer (omega arith) (command_small g ok shallow es sound c),
        numbered_lines_most (k + 1) x.array (command_sound g ok es sound c) cs (omega arith),
      )

-- ---- files

commands_long : (file : Bytes) (n i : ℕ) → length (commands_from file n i) ≡ n
unfolding commands_from
commands_long file zero i = refl
commands_long file (suc n) i = ap suc (commands_long file n (i + 12))

report_most : (file : Bytes) → Unstopped file → length (report file) ≤ 391215
unfolding report
report_most file u =
    let g = geometry_of file in
    let long : length (commands_of file) ≡ (header_of file).commands = commands_long file (header_of file).commands (header_of file).offset in
    let few : length (commands_of file) ≤ 1363 = omega (arith, long, u.short, u.after_header, u.inside) in
    omega (
      arith,
      few,
      length-append (first_line g) (numbered_lines 0 (answers_of file)),
      first_most g u.valid u.shallow,
      numbered_lines_most g u.valid u.shallow 0 (empty_array g) (empty_array_sound g) (commands_of file) (omega arith),
    )

pub output_short : (file : Bytes) → length (output file) ≤ 391215
unfolding output printed_bytes
output_short file = go (file_stop file) refl
  where
    go : (r : Option ℕ) → file_stop file ≡ r → length (printed_bytes file r) ≤ 391215
    go None e = report_most file (unstopped file e)
    go (Some n) e =
        omega (arith, stop_line_most n (given_says (λ n. n < 10) (file_stops file) n (λ b. omega arith, (λ b. omega arith, (λ b. omega arith, tt))) e))

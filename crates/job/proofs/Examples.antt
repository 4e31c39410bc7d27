-- The examples hold: antt computes `output` of each file and compares every byte.
use Rattle.std.proofs.Common.{◌≡◌, map, refl}
use Rattle.std.specs.Fmt.{digits}
use Rattle.words.specs.Rules.{count, lowest, tabulate}
use Rattle.words.specs.Bits.{word, bit_words}
use Rattle.machines.specs.Refusals.{first_refusal}
use Rattle.machines.specs.Machine as machine
use Rattle.geometry.specs.Valid.{is_valid}
use Rattle.geometry.specs.Sizes.{patterns, sets, row_words, match_words, set_length}
use Rattle.geometry.specs.Stages.{stages, stage_width, rows, indicator_words}
use Rattle.reference.specs.Entry.{holds}
use Rattle.reference.specs.Refusals.{bad_address, bad_pattern}
use Rattle.reference.specs.Array.{empty_array, counted_answer, array_refusals, array_accepted, array_outcome, array_step}
use Rattle.figures.specs.Figures.{hexadecimal}
use Rattle.report.specs.Lines.{first_line, stop_line}
use Rattle.jobfile.specs.Files.{field, header_of, command_at, commands_from, commands_outside}
use Rattle.jobfile.specs.Decoding.{decoded_call}
use Rattle.job.specs.Output.{obeyed_outcome, array_command, numbered_lines, report, printed_bytes, output}
use Rattle.job.specs.Examples.{Example, bytes_of, lines_of, examples}

pub examples_hold : map (λ (e : Example). output e.file) examples ≡ map (λ (e : Example). e.prints) examples
unfolding count lowest tabulate word bit_words is_valid patterns sets row_words match_words set_length stages stage_width rows indicator_words holds first_refusal bad_address bad_pattern empty_array counted_answer array_refusals array_accepted array_outcome array_step digits hexadecimal first_line stop_line field header_of command_at commands_from commands_outside decoded_call obeyed_outcome array_command machine.run numbered_lines report printed_bytes output bytes_of lines_of examples
examples_hold = refl

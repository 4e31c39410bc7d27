-- The cases P1 to P10 hold (docs/MEMORY.md, section 15): antt runs every row of the table on the
-- steps and compares the answers. So do single calls on damaged tables, of which every word that is
-- left is compared, the verdicts on whether tables mirror their store, and what resumes come to.
use Rattle.std.proofs.Common.{◌≡◌, map, refl}
use lib.Count.{count_trailing_zeros}
use Rattle.words.specs.Rules.{any, count, lowest, member, tabulate}
use Rattle.words.specs.Bits.{bit, set_bit, clear_bit, bits_from, change_bit, row_mask, word, bit_words, total_ones}
use Rattle.words.specs.Seek.{seek, row_from}
use Rattle.machines.specs.Refusals.{first_refusal}
use Rattle.machines.specs.Machine as machine
use Rattle.geometry.specs.Valid.{is_valid}
use Rattle.geometry.specs.Sizes.{patterns, sets, row_words, match_words, set_length}
use Rattle.geometry.specs.Stages.{stages, stage_width, stage, row_of, rows_of, rows, indicator_words}
use Rattle.cover.specs.Image.{is_covered, image}
use Rattle.cover.specs.Change.{change, others_cover, moved_indicators}
use Rattle.reference.specs.Entry.{word_of, entry_of}
use Rattle.reference.specs.Calls.{lent_word}
use Rattle.reference.specs.Refusals.{bad_address, bad_pattern}
use Rattle.reference.specs.Image.{entry_rows, covers}
use Rattle.reference.specs.Line.{line}
use Rattle.reference.specs.Update.{replaced_tables}
use Rattle.reference.specs.Search.{joined_word, is_indicated, seek_word, seek_entry, seek_own, lowest_set, is_false, found_in_set, found_from, next_found, any_is_false, answer_of, next_of, is_taken, taken_words}
use Rattle.reference.specs.Steps.{bad_lengths, bad_matches, bad_entry, own_refusals, refusals, clear_tables, accepted_outcome, outcome, step, Outcome}
use Rattle.reference.specs.Resume.{shown_array, bad_tables, resume_refusals, resume_step}
use Rattle.reference.specs.History.{run}
use Rattle.reference.specs.Cases.{Case, cases, Trial, trials, is_wrong, is_mirror, Mirror, mirrors, Board, board, boards}

pub cases_hold : map (λ (r : Case). map (λ (o : Outcome). o.answer) (run r.geometry r.tables r.calls)) cases ≡ map (λ (r : Case). r.answers) cases
unfolding count_trailing_zeros any count lowest member tabulate bit set_bit clear_bit bits_from change_bit row_mask word bit_words total_ones seek row_from is_valid patterns sets row_words match_words set_length stages stage_width stage row_of rows_of rows indicator_words word_of entry_of first_refusal bad_address bad_pattern entry_rows covers change others_cover moved_indicators replaced_tables line joined_word is_indicated seek_word seek_entry seek_own lowest_set is_false found_in_set found_from next_found any_is_false answer_of next_of is_taken taken_words bad_lengths bad_matches bad_entry own_refusals refusals clear_tables accepted_outcome outcome step machine.run cases
cases_hold = refl

pub trials_hold : map (λ (r : Trial). step r.geometry r.tables r.call) trials ≡ map (λ (r : Trial). r.leaves) trials
unfolding count_trailing_zeros any count lowest member tabulate bit set_bit clear_bit bits_from change_bit row_mask word bit_words total_ones seek row_from is_valid patterns sets row_words match_words set_length stages stage_width stage row_of rows_of rows indicator_words word_of entry_of first_refusal bad_address bad_pattern entry_rows covers change others_cover moved_indicators replaced_tables line joined_word is_indicated seek_word seek_entry seek_own lowest_set is_false found_in_set found_from next_found any_is_false answer_of next_of is_taken taken_words bad_lengths bad_matches bad_entry own_refusals refusals clear_tables accepted_outcome outcome step lent_word trials
trials_hold = refl

pub mirrors_hold : map (λ (r : Mirror). is_mirror r.geometry r.tables) mirrors ≡ map (λ (r : Mirror). r.verdict) mirrors
unfolding any member tabulate bit patterns sets row_words set_length stages stage_width stage row_of rows_of rows indicator_words entry_of entry_rows covers is_covered is_wrong is_mirror mirrors
mirrors_hold = refl

pub boards_hold : map (λ (r : Board). board r.geometry r.tables.store r.tables.indicators (resume_step r.geometry r.tables).refusal (shown_array r.geometry r.tables)) boards ≡ boards
unfolding any member tabulate bit word is_valid patterns sets row_words set_length stages stage_width stage row_of rows_of rows indicator_words entry_of entry_rows covers is_covered image first_refusal bad_lengths bad_entry shown_array bad_tables resume_refusals resume_step boards
boards_hold = refl

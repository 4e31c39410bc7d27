-- What is known of a file that nothing stops: each of its tests failed.
use Rattle.std.proofs.Common.{◌≡◌, ◌+◌, ◌*◌, ◌≤◌, true, length, None, arith}
use Rattle.std.proofs.lemmas.Bool.Decides.{nat_tests}
use Rattle.machines.specs.Refusals.{first_refusal}
use Rattle.geometry.specs.Valid.{is_valid}
use Rattle.geometry.specs.Stages.{indicator_words}
use Rattle.figures.specs.Figures.{Bytes}
use Rattle.jobfile.specs.Files.{header_of, geometry_of, commands_outside, file_stop}

pub record Unstopped (file : Bytes) : Type 0 where
  pub valid : is_valid (geometry_of file) ≡ true
  pub shallow : (geometry_of file).depth ≤ 1024
  pub few_words : indicator_words (geometry_of file) ≤ 4096
  pub short : length file ≤ 16384
  pub after_header : 24 ≤ (header_of file).offset
  pub inside : (header_of file).offset + 12 * (header_of file).commands ≤ length file

pub unstopped : (file : Bytes) → file_stop file ≡ None → Unstopped file
unfolding first_refusal commands_outside
unstopped file e = grind (arith, nat_tests)

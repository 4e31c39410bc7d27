-- `job::run_job` meets its contract: by the turns of Running, one for each command.
use Rattle.std.proofs.Common.{refl, ap, ◌∙◌, arith, length-append}
use Rattle.reference.specs.Steps.{Outcome}
use Rattle.jobfile.proofs.Unstopped.{unstopped}
use Rattle.report.specs.Lines.{first_line}
use Rattle.jobfile.specs.Files.{geometry_of}
use Rattle.job.specs.Output.{report}
use Rattle.job.proofs.Running.{all_lines, moved, progress_start, inside, room, progress_next, finished}
use Rattle.job.proofs.run_job.Goals as goal

pub put_geometry-requires : goal.put_geometry-requires
unfolding report
put_geometry-requires c = rw c.requires.same_header (omega (arith, c.requires.room, length-append (first_line (geometry_of c.args.file.now)) (all_lines c.args.file.now)))

pub loop-k-init : goal.loop-k-init
loop-k-init c =
    let h = c.requires.same_header in
    let cleared = ap (λ (o : Outcome). o.tables) (rw h at c.clear.ensures) in
    rw h (
      moved
          (progress_start _ (unstopped _ c.requires.unstopped).valid c.requires.entries c.requires.words c.requires.match_word cleared
          c.requires.room (rw h at c.put_geometry.ensures)) (omega arith),
      (refl, refl),
    )

-- a command that is left stands in the file
pub command_at-command-requires : goal.command_at-command-requires
command_at-command-requires c =
    let u = unstopped _ c.requires.unstopped in
    inside u.valid c.loop-k.invariant.0 (rw c.requires.same_header at c.loop-k-test.true) u.inside

pub run_command-requires : goal.run_command-requires
run_command-requires c =
    let h = c.requires.same_header in
    rw (h, c.command_at-command.ensures)
    (room (unstopped _ c.requires.unstopped).valid c.loop-k.invariant.0 (rw h at c.loop-k-test.true))

pub loop-k-preserved : goal.loop-k-preserved
loop-k-preserved c =
    let h = c.requires.same_header in
    let kept = c.run_command.auto in
    let before = c.loop-k.invariant in (
      moved
          (progress_next (unstopped _ c.requires.unstopped).valid before.0 (rw h at c.loop-k-test.true) (rw (h, c.command_at-command.ensures) at c.run_command.ensures) kept.matches) (omega arith),
      (kept.store ∙ before.1.0, kept.indicators ∙ before.1.1),
    )

pub returns : goal.returns
returns c =
    let h = c.requires.same_header in
    finished (unstopped _ c.requires.unstopped).valid c.loop-k.invariant.0 (rw h at c.loop-k-test.false)

-- `job::run_within` meets its contract: a stop prints its line alone, and a job is run on its parts
-- of the lent tables.
use Rattle.std.proofs.Common.{sym, ◌∙◌}
use Rattle.job.proofs.Lending as lending
use Rattle.job.proofs.run_within.Goals as goal

pub put_stop-requires : goal.put_stop-requires
put_stop-requires c = rw c.from.ensures (lending.stop_room c.args.file.now _ _ c.in-Err.is c.open.ensures c.requires)

pub returns-in-Err : goal.returns-in-Err
returns-in-Err c =
    lending.stop_works c.args.file.now _ _ c.in-Err.is c.open.ensures _ _ _ (rw c.from.ensures at c.put_stop.ensures)

pub slice_bounds-run_job-end : goal.slice_bounds-run_job-end
slice_bounds-run_job-end c = lending.entries_within (lending.runnable c.args.file.now _ _ c.in-Ok.is c.open.ensures) c.requires

pub slice_bounds-run_job-end-in-Ok : goal.slice_bounds-run_job-end-in-Ok
slice_bounds-run_job-end-in-Ok c = sym (lending.entries_long (lending.runnable c.args.file.now _ _ c.in-Ok.is c.open.ensures) c.requires)

pub slice_bounds-run_job-end-in-Ok-2 : goal.slice_bounds-run_job-end-in-Ok-2
slice_bounds-run_job-end-in-Ok-2 c = lending.words_within (lending.runnable c.args.file.now _ _ c.in-Ok.is c.open.ensures) c.requires

pub slice_bounds-run_job-end-in-Ok-3 : goal.slice_bounds-run_job-end-in-Ok-3
slice_bounds-run_job-end-in-Ok-3 c = sym (lending.words_long (lending.runnable c.args.file.now _ _ c.in-Ok.is c.open.ensures) c.requires)

pub slice_bounds-run_job-end-in-Ok-4 : goal.slice_bounds-run_job-end-in-Ok-4
slice_bounds-run_job-end-in-Ok-4 c = lending.matches_within (lending.runnable c.args.file.now _ _ c.in-Ok.is c.open.ensures) c.requires

pub slice_bounds-run_job-end-in-Ok-5 : goal.slice_bounds-run_job-end-in-Ok-5
slice_bounds-run_job-end-in-Ok-5 c = sym (lending.matches_long (lending.runnable c.args.file.now _ _ c.in-Ok.is c.open.ensures) c.requires)

pub run_job-requires : goal.run_job-requires
run_job-requires c = lending.ready (lending.runnable c.args.file.now _ _ c.in-Ok.is c.open.ensures) c.requires

pub returns-in-Ok : goal.returns-in-Ok
returns-in-Ok c =
    let known = lending.runnable c.args.file.now _ _ c.in-Ok.is c.open.ensures in
    let kept = c.run_job.auto in
    lending.job_works known _ _ _ _ _ _ (kept.store ∙ lending.entries_long known c.requires)
    (kept.indicators ∙ lending.words_long known c.requires) (kept.matches ∙ lending.matches_long known c.requires)
    c.run_job.ensures

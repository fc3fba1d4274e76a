use Rattle.qm_proto.proofs.WorkedRuns as runs
use Rattle.qm_tests_text.proofs.print.the_check_and_the_events_are_written.Goals as goal

pub put_trace-requires : goal.put_trace-requires
put_trace-requires g c = rw c.in_ok-ready.ensures runs.worked_run.copy_by_one.complete.legal

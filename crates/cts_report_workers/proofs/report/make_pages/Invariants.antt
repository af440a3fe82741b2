use Rattle.std.proofs.Common.{◌-◌, ◌≤◌, vec_len}
use Rattle.cts_report_workers.proofs.report.make_pages.Given as goal

abbrev pub invariant-loop-alloc : goal.invariant-loop-alloc
invariant-loop-alloc l = vec_len l.pages ≤ l.count

abbrev pub decreases-loop-alloc : goal.decreases-loop-alloc
decreases-loop-alloc l = l.count - vec_len l.pages

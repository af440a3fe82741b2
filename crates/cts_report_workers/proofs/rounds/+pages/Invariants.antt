use Rattle.std.proofs.Common.{◌+◌, ◌*◌, length}
use Rattle.cts_report_workers.proofs.rounds.+pages.Given as goal

abbrev pub decreases-fill_from : goal.decreases-fill_from
decreases-fill_from g l = 4 * length l.pages.now

abbrev pub decreases-fill_beside : goal.decreases-fill_beside
decreases-fill_beside g l = 4 * length l.rest.now + 2

abbrev pub decreases-fill_beside-behind : goal.decreases-fill_beside-behind
decreases-fill_beside-behind g l = 4 * length l.rest.now + 1

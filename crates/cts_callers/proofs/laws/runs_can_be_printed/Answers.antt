use Rattle.cts_history.specs.Legal.{lists_of}
use Rattle.cts_history.proofs.Printable.{printable_lem}
use Rattle.cts_callers.specs.Laws.{RunsCanBePrinted}
use Rattle.cts_callers.proofs.laws.runs_can_be_printed.Goals as goal

printed : RunsCanBePrinted
printed base scripts run valid is = printable_lem base scripts run.history.items (lists_of run.replies.items) valid is.sound is.legal

pub returns : goal.returns
returns c = printed

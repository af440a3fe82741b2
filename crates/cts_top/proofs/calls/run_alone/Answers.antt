use Rattle.cts_top.specs.Log.{no_log}
use Rattle.cts_top.specs.Words.{IsFormAlone}
use Rattle.cts_top.proofs.Running.{runs}
use Rattle.cts_top.proofs.calls.run_alone.Goals as goal

pub returns-clause-runs : goal.returns-clause-runs
returns-clause-runs g c =
    rw (c.outcome.ensures.status, c.status_of.ensures)
    (runs (IsFormAlone c.args.words.now) no_log _ _ _ c.answer_alone-ending.result c.write_note.result
    c.answer_alone-ending.ensures c.write_note.ensures)

use Rattle.cts_top.specs.Words.{IsForm}
use Rattle.cts_top.proofs.Running.{runs}
use Rattle.cts_top.proofs.calls.run.Goals as goal

pub returns-clause-runs : goal.returns-clause-runs
returns-clause-runs g c =
    rw (c.outcome.ensures.status, c.outcome.ensures.history, c.outcome.ensures.replies, c.status_of.ensures)
    (runs (IsForm c.args.words.now) _ _ _ _ c.answer-ending.result.0 c.write_note.result
    c.answer-ending.ensures.answers c.write_note.ensures)

pub returns-clause-memo_kept : goal.returns-clause-memo_kept
returns-clause-memo_kept g c =
    rw (c.outcome.ensures.memo, c.outcome.ensures.status, c.status_of.ensures) c.answer-ending.ensures.kept

pub returns-clause-log : goal.returns-clause-log
returns-clause-log g c =
    rw (c.outcome.ensures.status, c.outcome.ensures.history, c.outcome.ensures.replies, c.status_of.ensures) c.answer-ending.ensures.log

pub returns-clause-memo : goal.returns-clause-memo
returns-clause-memo g c =
    rw (c.outcome.ensures.memo, c.outcome.ensures.history, c.outcome.ensures.replies) c.answer-ending.ensures.memo

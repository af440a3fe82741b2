use Rattle.std.proofs.Common.{rules, ◌≡◌, ◌≤◌, refl, sym, arith}
use Rattle.cts_top.specs.Words.{IsAlone}
use Rattle.cts_top.proofs.Remembering.{holds_job, with_workers}
use Rattle.cts_top.proofs.Serving.{answers_no_words, serves_job}
use Rattle.cts_top.proofs.serve.serve.Goals as goal

pub returns-in-Synth-clause-serves : goal.returns-in-Synth-clause-serves
returns-in-Synth-clause-serves g c = rw (c.without_log.ensures.log, c.in-Synth.is) c.synth_by_workers-answer.ensures.serves

pub returns-in-Synth-clause-words : goal.returns-in-Synth-clause-words
returns-in-Synth-clause-words g c = c.synth_by_workers-answer.ensures.words

pub returns-in-Synth-clause-kept : goal.returns-in-Synth-clause-kept
returns-in-Synth-clause-kept g c =
    let many : 2 ≤ c.in-Synth.workers = omega (arith, c.if-workers-gt1.true) in
    rw (c.without_log.ensures.memo, c.in-Synth.is) (with_workers _ _ (2 ≤ c.in-Synth.workers) c.synth_by_workers-answer.ensures.kept many)

pub returns-in-Synth-clause-memo : goal.returns-in-Synth-clause-memo
returns-in-Synth-clause-memo g c =
    rw (c.without_log.ensures.log, c.without_log.ensures.memo, c.in-Synth.is) c.synth_by_workers-answer.ensures.memo

pub returns-in-Synth-clause-log : goal.returns-in-Synth-clause-log
returns-in-Synth-clause-log g c = λ none. c.without_log.ensures.log

pub returns-in-Job-clause-serves : goal.returns-in-Job-clause-serves
returns-in-Job-clause-serves g c =
    rw (c.without_log-in-Job.ensures.log, c.in-Job.is)
    (serves_job _ _ c.job_by_workers-answer.result.0 c.in-Job.seed c.in-Job.sinks c.in-Job.workers refl
    c.job_by_workers-answer.ensures.answers)

pub returns-in-Job-clause-words : goal.returns-in-Job-clause-words
returns-in-Job-clause-words g c = answers_no_words c.job_by_workers-answer.result.0 c.job_by_workers-answer.ensures.answers

pub returns-in-Job-clause-kept : goal.returns-in-Job-clause-kept
returns-in-Job-clause-kept g c =
    let many : 2 ≤ c.in-Job.workers = omega (arith, c.if-workers-gt1-2.true) in
    rw (c.without_log-in-Job.ensures.memo, c.in-Job.is)
    (with_workers _ _ (2 ≤ c.in-Job.workers) c.job_by_workers-answer.ensures.kept many)

pub returns-in-Job-clause-memo : goal.returns-in-Job-clause-memo
returns-in-Job-clause-memo g c =
    rw (c.without_log-in-Job.ensures.log, c.without_log-in-Job.ensures.memo, c.in-Job.is)
    (holds_job c.in-Job.seed c.in-Job.sinks c.in-Job.workers (g.S.ByteSource.left c.args.source.now) c.job_by_workers-answer.result.1
    c.job_by_workers-answer.ensures.memo)

pub returns-in-Job-clause-log : goal.returns-in-Job-clause-log
returns-in-Job-clause-log g c = λ none. c.without_log-in-Job.ensures.log

pub returns-in-Edit-clause-serves : goal.returns-in-Edit-clause-serves
returns-in-Edit-clause-serves g c = rw c.in-Edit.is c.serve_edit.ensures.serves

pub returns-in-Edit-clause-words : goal.returns-in-Edit-clause-words
returns-in-Edit-clause-words g c = c.serve_edit.ensures.words

pub returns-in-Edit-clause-kept : goal.returns-in-Edit-clause-kept
returns-in-Edit-clause-kept g c = rw c.in-Edit.is (with_workers _ _ (Unit {0}) c.serve_edit.ensures.kept tt)

pub returns-in-Edit-clause-memo : goal.returns-in-Edit-clause-memo
returns-in-Edit-clause-memo g c = rw c.in-Edit.is c.serve_edit.ensures.memo

pub returns-in-Edit-clause-log : goal.returns-in-Edit-clause-log
returns-in-Edit-clause-log g c = λ none. c.serve_edit.ensures.log (λ told. none (c.in-Edit.is, told))

pub returns-in_default-clause-serves : goal.returns-in_default-clause-serves
returns-in_default-clause-serves g c =
    let alone : IsAlone c.in_default-1.form = search rules in
    let same : c.in_default-1.form ≡ c.args.form = search rules in
    rw (c.without_log-in_default.ensures.log, sym same) (c.serve_alone-answer.ensures.serves alone)

pub returns-in_default-clause-log : goal.returns-in_default-clause-log
returns-in_default-clause-log g c = λ none. c.without_log-in_default.ensures.log

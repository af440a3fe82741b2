use Rattle.std.proofs.Common.{refl}
use Rattle.cts_top.proofs.Serving.{serves_job, serves_make}
use Rattle.cts_top.proofs.serve.serve_alone.Goals as goal

pub returns-in-Synth-eq1-clause-serves : goal.returns-in-Synth-eq1-clause-serves
returns-in-Synth-eq1-clause-serves g c = λ alone. rw c.in-Synth-eq1.is (c.serve_synth.ensures.serves c.in-Synth-eq1.workers)

pub returns-in-Make-clause-serves : goal.returns-in-Make-clause-serves
returns-in-Make-clause-serves g c = λ alone.
    rw c.in-Make.is (serves_make _ _ c.serve_make.result c.in-Make.seed c.in-Make.sinks refl c.serve_make.ensures)

pub returns-in-Job-default-default-eq1-clause-serves : goal.returns-in-Job-default-default-eq1-clause-serves
returns-in-Job-default-default-eq1-clause-serves g c = λ alone.
    rw c.in-Job-default-default-eq1.is
    (serves_job _ _ c.serve_job.result c.in-Job-default-default-eq1.seed c.in-Job-default-default-eq1.sinks c.in-Job-default-default-eq1.workers refl c.serve_job.ensures)

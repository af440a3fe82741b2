use Rattle.std.proofs.Common.{ℕ, [], ◌∷◌, codes, refl}
use Rattle.cts_top.specs.declared.words.Form.TheVariants.{Job}
use Rattle.cts_top.specs.Words.{AreMade, AsksFor, IsWorkers}
use Rattle.cts_top.proofs.Forms.{asked_none, asked_some, job_zip, only_job}
use Rattle.cts_top.proofs.words.job.Goals as goal

pub returns-in_err-seed : goal.returns-in_err-seed
returns-in_err-seed c =
    let s = c.args.seed.now in
    let n = c.args.sinks.now in
    let w = c.args.workers.now in
    rw c.from_residual.ensures
    (asked_none (λ (p : (ℕ × ℕ) × ℕ). Job p.0.0 p.0.1 p.1) (λ p. AreMade s n p.0.0 p.0.1 × IsWorkers w p.1)
    (AsksFor (codes "job" ∷ s ∷ n ∷ w ∷ [])) (λ p are. (s, n, w, refl, are.0, are.1)) (only_job s n w) c.zip.result
    (rw c.zip.ensures (job_zip s n w c.made.result c.workers_of.result c.made.ensures c.workers_of.ensures)) c.in_err-seed.was)

pub returns : goal.returns
returns c =
    let s = c.args.seed.now in
    let n = c.args.sinks.now in
    let w = c.args.workers.now in
    asked_some (λ (p : (ℕ × ℕ) × ℕ). Job p.0.0 p.0.1 p.1) (λ p. AreMade s n p.0.0 p.0.1 × IsWorkers w p.1)
    (AsksFor (codes "job" ∷ s ∷ n ∷ w ∷ [])) (λ p are. (s, n, w, refl, are.0, are.1)) (only_job s n w) c.zip.result
    (rw c.zip.ensures (job_zip s n w c.made.result c.workers_of.result c.made.ensures c.workers_of.ensures))
    ((c.in_ok-seed.seed, c.in_ok-seed.sinks), c.in_ok-seed.workers) c.in_ok-seed.was

use Rattle.std.proofs.Common.{[], ◌∷◌, codes, refl}
use Rattle.cts_top.specs.declared.words.Form.TheVariants.{Synth}
use Rattle.cts_top.specs.Words.{AsksFor, IsWorkers}
use Rattle.cts_top.proofs.Forms.{asked_none, asked_some, only_synth}
use Rattle.cts_top.proofs.words.synth.Goals as goal

pub returns-in_err-workers : goal.returns-in_err-workers
returns-in_err-workers c =
    let w = c.args.workers.now in
    rw c.from_residual.ensures
    (asked_none Synth (IsWorkers w) (AsksFor (codes "synth" ∷ w ∷ [])) (λ n is. (w, refl, is)) (only_synth w) c.workers_of.result
    c.workers_of.ensures c.in_err-workers.was)

pub returns : goal.returns
returns c =
    let w = c.args.workers.now in
    asked_some Synth (IsWorkers w) (AsksFor (codes "synth" ∷ w ∷ [])) (λ n is. (w, refl, is)) (only_synth w) c.workers_of.result
    c.workers_of.ensures c.in_ok-workers.workers c.in_ok-workers.was

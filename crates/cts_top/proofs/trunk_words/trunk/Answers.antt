use Rattle.std.proofs.Common.{ℕ, [], ◌∷◌, codes, refl}
use Rattle.cts_top.specs.declared.words.Form.TheVariants.{Trunk}
use Rattle.cts_top.specs.TrunkWords.{IsBufferIndex, IsStep}
use Rattle.cts_top.specs.Words.{AsksFor}
use Rattle.cts_top.proofs.Forms.{asked_none, asked_some, zip_tells}
use Rattle.cts_top.proofs.TrunkWords.{only_trunk}
use Rattle.cts_top.proofs.trunk_words.trunk.Goals as goal

pub returns-in_err-step : goal.returns-in_err-step
returns-in_err-step c =
    let s = c.args.step.now in
    let j = c.args.buffer.now in
    rw c.from_residual.ensures
    (asked_none (λ (p : ℕ × ℕ). Trunk p.0 p.1) (λ p. IsStep s p.0 × IsBufferIndex j p.1) (AsksFor (codes "trunk" ∷ s ∷ j ∷ []))
    (λ p are. (s, j, refl, are.0, are.1)) (only_trunk s j) c.zip.result
    (rw c.zip.ensures (λ p. zip_tells (IsStep s) (IsBufferIndex j) c.step_of.result c.buffer_of.result c.step_of.ensures c.buffer_of.ensures p.0 p.1))
    c.in_err-step.was)

pub returns : goal.returns
returns c =
    let s = c.args.step.now in
    let j = c.args.buffer.now in
    asked_some (λ (p : ℕ × ℕ). Trunk p.0 p.1) (λ p. IsStep s p.0 × IsBufferIndex j p.1) (AsksFor (codes "trunk" ∷ s ∷ j ∷ []))
    (λ p are. (s, j, refl, are.0, are.1)) (only_trunk s j) c.zip.result
    (rw c.zip.ensures (λ p. zip_tells (IsStep s) (IsBufferIndex j) c.step_of.result c.buffer_of.result c.step_of.ensures c.buffer_of.ensures p.0 p.1))
    (c.in_ok-step.step, c.in_ok-step.buffer) c.in_ok-step.was

use Rattle.std.proofs.Common.{ℕ, [], ◌∷◌, codes, refl}
use Rattle.cts_top.specs.declared.words.Form.TheVariants.{Make}
use Rattle.cts_top.specs.Words.{AreMade, AsksFor}
use Rattle.cts_top.proofs.Forms.{asked_none, asked_some, only_make}
use Rattle.cts_top.proofs.words.make.Goals as goal

pub returns-in_err-seed : goal.returns-in_err-seed
returns-in_err-seed c =
    let s = c.args.seed.now in
    let n = c.args.sinks.now in
    rw c.from_residual.ensures
    (asked_none (λ (p : ℕ × ℕ). Make p.0 p.1) (λ p. AreMade s n p.0 p.1) (AsksFor (codes "make" ∷ s ∷ n ∷ [])) (λ p are. (s, n, refl, are))
    (only_make s n) c.made.result (λ p. c.made.ensures p.0 p.1) c.in_err-seed.was)

pub returns : goal.returns
returns c =
    let s = c.args.seed.now in
    let n = c.args.sinks.now in
    asked_some (λ (p : ℕ × ℕ). Make p.0 p.1) (λ p. AreMade s n p.0 p.1) (AsksFor (codes "make" ∷ s ∷ n ∷ [])) (λ p are. (s, n, refl, are))
    (only_make s n) c.made.result (λ p. c.made.ensures p.0 p.1) (c.in_ok-seed.seed, c.in_ok-seed.sinks) c.in_ok-seed.was

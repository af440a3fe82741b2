use Rattle.std.proofs.Common.{◌-◌, ◌*◌, ◌/◌, ◌<◌, ◌≤◌, ℕ, arith}
use Rattle.std.proofs.Math.Nat.{div-mul-le_self, mul-le-mul_right}
use Rattle.std.proofs.lemmas.Nat.{le-div}
use Rattle.cts_trunk.proofs.places.multiples_before.Goals as goal

before_until : (until step least : ℕ) → 0 < until → least ≤ (until - 1) / (2 * step) → 2 * (least * step) < until
before_until until step least some below =
    omega (arith, some, div-mul-le_self (until - 1) (2 * step), mul-le-mul_right (2 * step) below)

at_most : (until step m : ℕ) → 0 < step → 2 * (m * step) < until → m ≤ (until - 1) / (2 * step)
at_most until step m some below = le-div m (until - 1) (2 * step) (omega (arith, some)) (omega (arith, below))

pub returns-clause-before : goal.returns-clause-before
returns-clause-before c =
    before_until c.args.until c.args.step c.min.result c.requires.until (omega (arith, c.min.ensures))

pub returns-clause-most : goal.returns-clause-most
returns-clause-most c = λ m within below.
    omega (arith, c.min.ensures, within, at_most c.args.until c.args.step m c.requires.step below)

use Rattle.std.proofs.Common.{◌≡◌, ℤ, pos, ◌≤ℤ◌, to_z, of_z, w64, arith}
use Rattle.cts_geom.specs.Coordinate.{int_abs_diff}
use Rattle.std.proofs.lemmas.Int.{ints, to_z-of_z}
use Rattle.cts_check.proofs.wires.step_length.Goals as goal

whole : (z : ℤ) → (pos 0 ≤ℤ z) × (z ≤ℤ pos 200000000) → to_z w64 (of_z w64 z) ≡ z
whole z on = let low = on.0 in let high = on.1 in to_z-of_z w64 z (omega (arith, ints))

pub returns-clause-manhattan : goal.returns-clause-manhattan
returns-clause-manhattan c =
    let x : c.abs_diff.result ≡ int_abs_diff c.args.p.x c.args.q.x = simp (whole c.args.p.x c.requires.p.x, whole c.args.q.x c.requires.q.x) at c.abs_diff.ensures in
    let y : c.abs_diff-2.result ≡ int_abs_diff c.args.p.y c.args.q.y = simp (whole c.args.p.y c.requires.p.y, whole c.args.q.y c.requires.q.y) at c.abs_diff-2.ensures in
    cc

pub returns-clause-bound : goal.returns-clause-bound
returns-clause-bound c = omega (arith, ints, c.requires.p.x, c.requires.p.y, c.requires.q.x, c.requires.q.y)

use Rattle.std.proofs.Common.{◌≡◌, ℕ, max, arith}
use Rattle.cts_geom.specs.Coordinate.{interval_gap}
use Rattle.cts_geom.proofs.PassedNumbers.{gap_passed}
use Rattle.cts_geom.proofs.RegionLemmas.{gap_of-is, gap_least}
use Rattle.cts_geom.proofs.merging.gap.Goals as goal

greater_same : (m u v u' v' g : ℕ) → m ≡ max u v → u ≡ u' → v ≡ v' → g ≡ max u' v' → m ≡ g
greater_same m u v u' v' g e same_u same_v e' = omega arith

pub returns-clause-value : goal.returns-clause-value
returns-clause-value c =
    let a = c.args.a.now in
    let b = c.args.b.now in
    let in_u : c.interval_gap.result ≡ interval_gap a.u1 a.u2 b.u1 b.u2 = gap_passed _ a.u1 a.u2 b.u1 b.u2 c.requires.a.u1 c.requires.a.u2 c.requires.b.u1 c.requires.b.u2 c.interval_gap.ensures.value in
    let in_v : c.interval_gap-2.result ≡ interval_gap a.v1 a.v2 b.v1 b.v2 = gap_passed _ a.v1 a.v2 b.v1 b.v2 c.requires.a.v1 c.requires.a.v2 c.requires.b.v1 c.requires.b.v2 c.interval_gap-2.ensures.value in
    greater_same _ _ _ _ _ _ c.max.ensures in_u in_v (gap_of-is a b)

pub returns-clause-least : goal.returns-clause-least
returns-clause-least c = (gap_least c.args.a.now c.args.b.now _).1 (returns-clause-value c)

use Rattle.std.proofs.Common.{◌≡◌, ℕ, max, arith}
use Rattle.std.proofs.lemmas.Int.{ints, clamps}
use Rattle.cts_geom.specs.Coordinate.{interval_gap}
use Rattle.cts_geom.proofs.PassedNumbers.{gap_passed}
use Rattle.cts_geom.proofs.RegionLemmas.{nearest_is, nearest_one}
use Rattle.cts_geom.proofs.merging.nearest.Goals as goal

greater_same : (m u v u' v' : ℕ) → m ≡ max u v → u ≡ u' → v ≡ v' → m ≡ max u' v'
greater_same m u v u' v' e same_u same_v = omega arith

pub returns-clause-nearest : goal.returns-clause-nearest
returns-clause-nearest c =
    let region = c.args.region.now in
    let to = c.args.to in
    let in_u : c.interval_gap-u_gap.result ≡ interval_gap region.u1 region.u2 to.u to.u = gap_passed _ region.u1 region.u2 to.u to.u c.requires.region.u1 c.requires.region.u2 c.requires.to.u c.requires.to.u c.interval_gap-u_gap.ensures.value in
    let in_v : c.interval_gap-v_gap.result ≡ interval_gap region.v1 region.v2 to.v to.v = gap_passed _ region.v1 region.v2 to.v to.v c.requires.region.v1 c.requires.region.v2 c.requires.to.v c.requires.to.v c.interval_gap-v_gap.ensures.value in
    let reach = greater_same _ _ _ _ _ c.max-reach.ensures in_u in_v in
    nearest_is region to _ c.max-reach.result reach (omega (arith, ints, clamps)) (omega (arith, ints, clamps))

pub returns-clause-value : goal.returns-clause-value
returns-clause-value c = (nearest_one c.args.region.now c.args.to _).0 (returns-clause-nearest c)

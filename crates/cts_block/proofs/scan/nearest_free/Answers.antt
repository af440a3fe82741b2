use Rattle.std.proofs.Common.{◌≡◌, true, false, arith}
use Rattle.std.proofs.lemmas.Int.{ints}
use Rattle.cts_geom.specs.Points.{spot_at}
use Rattle.cts_geom.proofs.PointLemmas.{spot_same}
use Rattle.cts_block.proofs.ObstacleLemmas.{least_from_first}
use Rattle.cts_block.proofs.scan.nearest_free.Goals as goal

pub returns : goal.returns
returns c =
    let place = c.first_free-place.result in
    record {
      stays = λ free. absurd (let never : false ≡ true = c.if-is_free.ensures.1 free in cc);
      moves = λ _. least_from_first c.args.blocks.now c.args.die.now c.args.buffered c.args.at c.spot_of.result _ place c.halves.ensures.point
          (spot_same c.spot_of.result (spot_at place.x place.y) (omega (arith, ints)) (omega (arith, ints)))
          c.first_free-place.ensures.free
          c.first_free-place.ensures.first;
    }

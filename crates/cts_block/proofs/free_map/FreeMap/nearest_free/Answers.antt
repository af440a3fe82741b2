use Rattle.std.proofs.Common.{◌≡◌, true, false, arith}
use Rattle.std.specs.Prelude.{Contains}
use Rattle.std.proofs.lemmas.Int.{ints}
use Rattle.cts_geom.specs.Points.{spot_at}
use Rattle.cts_geom.proofs.PointLemmas.{spot_same}
use Rattle.cts_block.specs.Search.{IsObstacle}
use Rattle.cts_block.proofs.ObstacleLemmas.{least_from_first}
use Rattle.cts_block.proofs.MapLemmas.{counted_listed, listed_counted, index_lies, free_of_fewer}
use Rattle.cts_block.proofs.free_map.FreeMap.nearest_free.Goals as goal

pub first_free-place-requires-clause-lie : goal.first_free-place-requires-clause-lie
first_free-place-requires-clause-lie c =
    let in' = c.self.inside in
    rw c.index_for-index.ensures (index_lies in'.die in'.for_wires in'.for_buffers c.self.invariant c.args.buffered)

pub returns : goal.returns
returns c =
    let in' = c.self.inside in
    let blocks = in'.for_buffers.raster in
    let buffered = c.args.buffered in
    let place = c.first_free-place.result in
    let Many = IsObstacle blocks buffered in
    let Listed = Contains c.index_for-index.result.now.raster in
    let listed = rw (← c.index_for-index.ensures) at (counted_listed in'.die in'.for_wires in'.for_buffers c.self.invariant buffered) in
    let counted = rw (← c.index_for-index.ensures) at (listed_counted in'.die in'.for_wires in'.for_buffers c.self.invariant buffered) in
    record {
      stays = λ free. absurd (let never : false ≡ true = c.if-is_free.ensures.1 free in cc);
      moves = λ _. rw (← c.self.view_is) (least_from_first blocks in'.die buffered c.args.at c.spot_of.result _ place c.halves.ensures.point
          (spot_same c.spot_of.result (spot_at place.x place.y) (omega (arith, ints)) (omega (arith, ints)))
          (free_of_fewer Many Listed in'.die place listed c.first_free-place.ensures.free)
          (λ q free. c.first_free-place.ensures.first q (free_of_fewer Listed Many in'.die q counted free)));
    }

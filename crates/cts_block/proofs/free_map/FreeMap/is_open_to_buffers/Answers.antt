use Rattle.std.proofs.Common.{slice_index_or}
use Rattle.std.proofs.lemmas.List.Elements.{All-contains, All-contains_itself}
use Rattle.cts_geom.specs.Points.{point_of}
use Rattle.cts_block.specs.FreePoints.{IsOpenToBuffers}
use Rattle.cts_block.proofs.free_map.FreeMap.is_open_to_buffers.Goals as goal

pub returns : goal.returns
returns c =
    let blocks = c.self.inside.for_buffers.raster in
    let open_there = rw c.halves.ensures.point at c.is_clear.ensures in
    rw (← c.self.view_is) (
      (λ clear k d below. open_there.0 clear (slice_index_or blocks k d) (All-contains_itself blocks k d below)),
      (λ all. open_there.1 (λ block listed. All-contains (IsOpenToBuffers (point_of c.args.at)) blocks block all listed)),
    )

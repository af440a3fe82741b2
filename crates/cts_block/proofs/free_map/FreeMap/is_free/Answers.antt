use Rattle.std.proofs.Common.{refl}
use Rattle.cts_block.proofs.MapLemmas.{counted_listed, listed_counted, free_from_parts, parts_of_free}
use Rattle.cts_block.proofs.free_map.FreeMap.is_free.Goals as goal

pub returns-then-is_half_in_die : goal.returns-then-is_half_in_die
returns-then-is_half_in_die c =
    let in' = c.self.inside in
    let blocks = in'.for_buffers.raster in
    let buffered = c.args.buffered in
    let listed = rw (← c.index_for-index.ensures) at (counted_listed in'.die in'.for_wires in'.for_buffers c.self.invariant buffered) in
    let counted = rw (← c.index_for-index.ensures) at (listed_counted in'.die in'.for_wires in'.for_buffers c.self.invariant buffered) in
    rw (← c.self.view_is) (
      (λ clear. free_from_parts blocks in'.die buffered c.args.at c.halves-point.result c.halves-point.ensures.point (c.if-is_half_in_die.ensures.0 refl)
          (λ block counts. c.is_clear.ensures.0 clear block (listed block counts))),
      (λ free. c.is_clear.ensures.1 (λ block is_listed. (parts_of_free blocks in'.die buffered c.args.at c.halves-point.result c.halves-point.ensures.point free).1 block (counted block is_listed))),
    )

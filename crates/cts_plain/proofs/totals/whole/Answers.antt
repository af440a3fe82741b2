use Rattle.std.proofs.Common.{◌-◌, length, arith}
use Rattle.cts_topo.proofs.Counts.{length-shape}
use Rattle.cts_embed.specs.Balance.{IsRootWithin}
use Rattle.cts_embed.proofs.AllNodes.{last_next, whole_ready}
use Rattle.cts_plain.proofs.Whole.{root_ranged, totals_told}
use Rattle.cts_plain.proofs.totals.whole.Goals as goal

pub overflow_sub-last : goal.overflow_sub-last
overflow_sub-last c = omega (arith, last_next c.args.nodes.now c.requires.shape.post_order)

pub overflow_cast-last : goal.overflow_cast-last
overflow_cast-last c =
    omega (
      arith,
      length-shape (length c.args.instance.now.sinks) c.args.nodes.now c.requires.shape,
      c.in-Ok.ensures.free.valid.sink_count,
    )

pub tree_below-requires-clause-ready : goal.tree_below-requires-clause-ready
tree_below-requires-clause-ready c =
    whole_ready c.args.nodes.now c.requires.shape.post_order c.args.instance.now c.args.sites.now c.source_place-source.result c.requires.shape
    c.requires.sites c.source_place-source.ensures.place

pub is_root_within-requires : goal.is_root_within-requires
is_root_within-requires c = record {
  root = root_ranged c.args.instance.now c.args.nodes.now c.requires.shape c.in-Ok.ensures.free.valid (length c.args.nodes.now - 1)
      (omega (arith, last_next c.args.nodes.now c.requires.shape.post_order)) c.in_ok-root.root c.in_ok-root.ensures;
}

pub overflow_sub-result : goal.overflow_sub-result
overflow_sub-result c =
    (root_ranged c.args.instance.now c.args.nodes.now c.requires.shape c.in-Ok.ensures.free.valid (length c.args.nodes.now - 1)
    (omega (arith, last_next c.args.nodes.now c.requires.shape.post_order)) c.in_ok-root.root c.in_ok-root.ensures).least

pub overflow_add-result : goal.overflow_add-result
overflow_add-result c =
    let within : IsRootWithin c.args.instance.now c.in_ok-root.root.route c.in_ok-root.root.balance =
    c.is_root_within.ensures.0 c.if-not-is_root_within.false in
    omega (
      arith,
      within.wire,
      (root_ranged c.args.instance.now c.args.nodes.now c.requires.shape c.in-Ok.ensures.free.valid (length c.args.nodes.now - 1)
          (omega (arith, last_next c.args.nodes.now c.requires.shape.post_order)) c.in_ok-root.root c.in_ok-root.ensures).wires,
    )

pub returns : goal.returns
returns c =
    totals_told c.args.instance.now c.args.nodes.now c.requires.shape c.in-Ok.ensures.free.valid (length c.args.nodes.now - 1)
    (omega (arith, last_next c.args.nodes.now c.requires.shape.post_order)) c.in_ok-root.root c.in_ok-root.ensures (c.requires.sites.0)
    (c.requires.sites.1) (c.is_root_within.ensures.0 c.if-not-is_root_within.false)

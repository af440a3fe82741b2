use Rattle.std.proofs.Common.{◌<◌, List, length, sym, subst, arith}
use Rattle.cts_units.specs.declared.params.Sink.{Sink}
use Rattle.cts_units.specs.Ids.{HasDistinctIds}
use Rattle.cts_units.specs.Limits.{IsParams}
use Rattle.cts_topo.specs.Shape.{IsShapeOver}
use Rattle.cts_up.specs.Sinks.{AreSinksInRange}
use Rattle.cts_embed.proofs.Stands.{sinks_in_range}
use Rattle.cts_near.specs.Ends.{Ends as ShapeEnds}
use Rattle.cts_near.specs.NearShape.{IsNearShape}
use Rattle.cts_near.specs.declared.tree_end.NoNearTree.TheVariants.{Over}
use Rattle.cts_near.specs.TreeEnds.{NearEnds, of_shape}
use Rattle.cts_near.proofs.Passing.{told, of_instance, shape_ends, tree_ends}
use Rattle.cts_near.proofs.synthesis.synthesise_counted.Goals as goal

pub near-requires-clause-params : goal.near-requires-clause-params
near-requires-clause-params g c = subst IsParams (sym c.params.ensures.part) c.params.ensures.valid.params

pub near-requires-clause-sinks : goal.near-requires-clause-sinks
near-requires-clause-sinks g c =
    subst AreSinksInRange (sym c.sinks.ensures.part) (sinks_in_range c.args.instance.now c.sinks.ensures.valid)

pub near-requires-clause-some : goal.near-requires-clause-some
near-requires-clause-some g c =
    subst (λ (sinks : List Sink). 0 < length sinks) (sym c.sinks.ensures.part) (omega (arith, c.sinks.ensures.valid.some_sink))

pub near-requires-clause-distinct : goal.near-requires-clause-distinct
near-requires-clause-distinct g c =
    subst (HasDistinctIds (λ (s : Sink). s.id)) (sym c.sinks.ensures.part) c.sinks.ensures.valid.ids

pub returns-in_err-shape-clause-ends : goal.returns-in_err-shape-clause-ends
returns-in_err-shape-clause-ends g c =
    let i = c.args.instance.now in
    let end = c.in_err-shape.field-0.0 in
    told (NearEnds i) (of_shape end) c.from_residual.result (c.from_residual.ensures.1)
    (shape_ends i end
    (of_instance i c.params.ensures.part c.sinks.ensures.part (λ params sinks. ShapeEnds params sinks end)
    c.in_err-shape.ensures.ends))

pub synthesise_over-requires : goal.synthesise_over-requires
synthesise_over-requires g c =
    subst (λ (sinks : List Sink). IsShapeOver (length sinks) c.in_ok-shape.shape) c.sinks.ensures.part
    c.in_ok-shape.ensures.each_sink_once

pub returns-in_err-made-clause-ends : goal.returns-in_err-made-clause-ends
returns-in_err-made-clause-ends g c =
    let i = c.args.instance.now in
    let shape = c.in_ok-shape.shape in
    let end = c.in_err-made.field-0.0 in
    told (NearEnds i) (Over end) c.from_residual-in_err-made.result (c.from_residual-in_err-made.ensures.1)
    (tree_ends i shape
    (of_instance i c.params.ensures.part c.sinks.ensures.part (λ params sinks. IsNearShape params sinks shape)
    c.in_ok-shape.ensures.shape)
    end c.in_err-made.ensures.ends)

pub returns-clause-tree : goal.returns-clause-tree
returns-clause-tree g c =
    let i = c.args.instance.now in
    let shape = c.in_ok-shape.shape in
    record {
      shape = shape;
      near =
          of_instance i c.params.ensures.part c.sinks.ensures.part (λ params sinks. IsNearShape params sinks shape)
          c.in_ok-shape.ensures.shape;
      over = c.in_ok-made.ensures.tree;
    }

use Rattle.std.proofs.Common.{List, sym, subst}
use Rattle.std.specs.List.{All}
use Rattle.std.proofs.lemmas.List.Sorted.{All-permutation}
use Rattle.cts_topo.specs.declared.shape.ShapeNode.{ShapeNode}
use Rattle.cts_merge.specs.Side.{IsMergeable}
use Rattle.cts_near.specs.declared.subtree.Subtree.{Subtree}
use Rattle.cts_near.specs.Search.{AreBounds}
use Rattle.cts_near.specs.Forest.{IsForest, IsBegun, parts_of}
use Rattle.cts_near.proofs.Begun.{is_begun, long, forest_begins}
use Rattle.cts_near.proofs.forest.Forest.begin.Goals as goal

pub bounds_of-requires : goal.bounds_of-requires
bounds_of-requires c =
    record {
      in_range = subst (All (λ (s : Subtree). IsMergeable s.side)) (sym c.as_slice.ensures.value)
          (All-permutation (λ (s : Subtree). IsMergeable s.side) c.in_ok-subtrees.subtrees.items c.sort_by_name.new.subtrees.items
          c.sort_by_name.ensures.permutation c.in_ok-subtrees.ensures.in_range);
    }

pub returns-clause-forest : goal.returns-clause-forest
returns-clause-forest c params =
    let bounded : AreBounds c.sort_by_name.new.subtrees.items c.in_ok-bounds.bounds.items =
    subst (λ ss. AreBounds ss c.in_ok-bounds.bounds.items) c.as_slice.ensures.value c.in_ok-bounds.ensures in
    subst (λ (joins : List ShapeNode). IsForest params c.args.sinks.now joins c.sort_by_name.new.subtrees.items c.in_ok-bounds.bounds.items)
    (sym c.in_ok-joins.ensures)
    (forest_begins c.args.sinks.now c.in_ok-subtrees.subtrees.items c.sort_by_name.new.subtrees.items c.in_ok-subtrees.ensures.leaves
    c.sort_by_name.ensures.permutation params c.in_ok-bounds.bounds.items c.requires.distinct c.sort_by_name.ensures.sorted bounded)

pub returns-clause-begun : goal.returns-clause-begun
returns-clause-begun c =
    subst (λ (joins : List ShapeNode). IsBegun c.args.sinks.now (parts_of joins c.sort_by_name.new.subtrees.items))
    (sym c.in_ok-joins.ensures)
    (is_begun c.args.sinks.now c.in_ok-subtrees.subtrees.items c.sort_by_name.new.subtrees.items c.in_ok-subtrees.ensures.leaves
    c.sort_by_name.ensures.permutation)

pub returns-clause-count : goal.returns-clause-count
returns-clause-count c =
    long c.args.sinks.now c.in_ok-subtrees.subtrees.items c.sort_by_name.new.subtrees.items c.in_ok-subtrees.ensures.leaves
    c.sort_by_name.ensures.permutation

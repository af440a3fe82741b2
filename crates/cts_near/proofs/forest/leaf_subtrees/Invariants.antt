use Rattle.std.proofs.Common.{All}
use Rattle.cts_merge.specs.Side.{IsMergeable}
use Rattle.cts_near.specs.declared.subtree.Subtree.{Subtree}
use Rattle.cts_near.specs.Forest.{AreLeafSubtrees}
use Rattle.cts_near.proofs.forest.leaf_subtrees.Given as goal

abbrev pub invariant-loop-place : goal.invariant-loop-place
invariant-loop-place l =
    record {
      leaves : AreLeafSubtrees l.sinks l.place l.subtrees.items;
      in_range : All (λ (s : Subtree). IsMergeable s.side) l.subtrees.items;
    }

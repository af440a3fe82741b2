use Rattle.std.proofs.Common.{◌+◌, sym, subst}
use Rattle.std.specs.List.{All}
use Rattle.std.proofs.lemmas.List.{get_or_default}
use Rattle.std.proofs.lemmas.List.Elements.{All-push}
use Rattle.cts_merge.specs.Side.{IsMergeable}
use Rattle.cts_near.specs.declared.subtree.Subtree.{Subtree}
use Rattle.cts_near.specs.Forest.{AreLeafSubtrees}
use Rattle.cts_near.proofs.Begun.{leaf_subtrees_more}
use Rattle.cts_near.proofs.forest.leaf_subtrees.Goals as goal

pub loop-place-preserved : goal.loop-place-preserved
loop-place-preserved c =
    record {
      leaves = subst (AreLeafSubtrees c.args.sinks.now (c.loop-place.place + 1)) (sym c.in_ok-push.ensures.items)
          (leaf_subtrees_more c.args.sinks.now c.loop-place.place c.loop-place.subtrees.items _ c.leaf_subtree.result c.loop-place-test.true
          c.loop-place.invariant.leaves (λ d. get_or_default c.args.sinks.now c.loop-place.place _ d c.loop-place-test.true) c.leaf_subtree.ensures.leaf);
      in_range = subst (All (λ (s : Subtree). IsMergeable s.side)) (sym c.in_ok-push.ensures.items)
          (All-push (λ (s : Subtree). IsMergeable s.side) c.loop-place.subtrees.items c.leaf_subtree.result c.loop-place.invariant.in_range
          c.leaf_subtree.ensures.in_range);
    }

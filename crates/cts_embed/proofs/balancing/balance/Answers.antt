use Rattle.std.proofs.Common.{List, length, sym, subst, IfSome, ◌<◌}
use Rattle.std.specs.List.{All}
use Rattle.cts_tree.specs.declared.nodes.TreeNode.{TreeNode}
use Rattle.cts_tree.specs.Nodes.{leaf_sink}
use Rattle.cts_embed.proofs.Pins.{sinks_within}
use Rattle.cts_embed.proofs.balancing.balance.Goals as goal

pub pins-requires : goal.pins-requires
pins-requires c =
    subst (λ (nodes : List TreeNode). All (λ node. IfSome (leaf_sink node.kind) (λ sink. sink < length c.args.instance.now.sinks)) nodes)
    (sym c.nodes.ensures.nodes) (sinks_within c.args.instance.now c.args.placed c.requires)

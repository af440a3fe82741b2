use Rattle.std.proofs.Common.{Some, ap, ◌∙◌}
use Rattle.cts_tree.specs.declared.nodes.NodeKind.TheVariants as kinds
use Rattle.cts_up.specs.declared.site.Site.{Site}
use Rattle.cts_embed.proofs.Stands.{leaf_kind_is, leaf_place_is, pair_kind_is, pair_place_is}
use Rattle.cts_embed.proofs.placing.stand.Goals as goal

pub returns-in-Leaf-clause-kind : goal.returns-in-Leaf-clause-kind
returns-in-Leaf-clause-kind c sinks finished is named =
    leaf_kind_is sinks c.in-Leaf.sink c.args.id c.args.node c.in-Leaf.is finished.buffer named

pub returns-in-Leaf-clause-place : goal.returns-in-Leaf-clause-place
returns-in-Leaf-clause-place c parts finished is free leaf =
    leaf_place_is parts c.in-Leaf.sink c.args.node c.in-Leaf.is finished c.args.from c.leaf_place.result
    leaf (λ sink. c.leaf_place.ensures.place sink finished is)

pub returns-in-Pair-clause-kind : goal.returns-in-Pair-clause-kind
returns-in-Pair-clause-kind c sinks finished is named =
    pair_kind_is sinks c.in-Pair.left c.in-Pair.right c.args.node finished.buffer c.in-Pair.is
    ∙ ap (λ (site : Site). Some (kinds.Pair c.in-Pair.left c.in-Pair.right site.buffer)) is

pub returns-in-Pair-clause-place : goal.returns-in-Pair-clause-place
returns-in-Pair-clause-place c parts finished is free leaf =
    pair_place_is parts c.in-Pair.left c.in-Pair.right c.args.node finished c.args.from c.pair_place-place.result
    c.in-Pair.is (c.pair_place-place.ensures.place parts finished free is)

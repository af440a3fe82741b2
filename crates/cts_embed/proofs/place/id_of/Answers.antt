use Rattle.std.proofs.Common.{sym, subst}
use Rattle.cts_units.specs.declared.params.Sink.{Sink}
use Rattle.std.proofs.Common.{get_or, List}
use Rattle.cts_embed.specs.Leaves.{IsIdOf}
use Rattle.cts_embed.proofs.StretchIds.{id_at_leaf, id_at_pair}
use Rattle.cts_embed.proofs.place.id_of.Goals as goal

pub returns-in-Leaf : goal.returns-in-Leaf
returns-in-Leaf c =
    subst (λ (sinks : List Sink). IsIdOf c.args.instance.now.sinks c.args.node (get_or sinks c.in-Leaf.sink _).id) (sym c.sinks.ensures.part)
    (id_at_leaf c.args.instance.now.sinks c.args.node c.in-Leaf.sink _ c.in-Leaf.is (c.requires c.in-Leaf.sink c.in-Leaf.is))

pub returns-in-Pair : goal.returns-in-Pair
returns-in-Pair c = id_at_pair c.args.instance.now.sinks c.args.node c.in-Pair.left c.in-Pair.right 0 c.in-Pair.is

use Rattle.std.proofs.Common.{◌++◌, length, sym, ap, subst, arith, ◌∙◌, append-nil}
use Rattle.std.specs.Option.{IsSome}
use Rattle.std.proofs.lemmas.List.{length_push}
use Rattle.cts_embed.proofs.LeafIds.{own_at_leaf, own_at_pair}
use Rattle.cts_embed.proofs.ids.take_id.Goals as goal

pub unreachable-requires : goal.unreachable-requires
unreachable-requires c =
    let long = ap length (c.requires.own.2 ∙ ap (λ own. c.requires.own.0 ++ own) (own_at_leaf c.args.node c.in-Leaf.sink c.in-Leaf.is c.requires.own.1))
    ∙ length_push c.requires.own.0 c.requires.own.1 in
    let found = subst IsSome c.in_default.is (c.pop.ensures.variant.1 (omega (arith, long, c.args.ids.now.ok.0))) in
    cc

pub returns-in-Some : goal.returns-in-Some
returns-in-Some c =
    c.in-Some.ensures.items
    ∙ ap (λ own. c.pop.new.self.items ++ own) (sym (own_at_leaf c.args.node c.in-Leaf.sink c.in-Leaf.is c.in-Some.id))

pub returns-in-Pair : goal.returns-in-Pair
returns-in-Pair c =
    sym (append-nil c.args.ids.now.items)
    ∙ ap (λ own. c.args.ids.now.items ++ own) (sym (own_at_pair c.args.node c.in-Pair.left c.in-Pair.right c.in-Pair.is 0))

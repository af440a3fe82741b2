use Rattle.std.proofs.Common.{◌≡◌, subst}
use Rattle.std.specs.List.{All, remove, slice_set}
use Rattle.cts_merge.specs.Side.{IsMergeable}
use Rattle.cts_near.specs.declared.subtree.Subtree.{Subtree}
use Rattle.cts_near.specs.Search.{AreOtherBounds}
use Rattle.cts_near.proofs.OtherBounds.{others_kept, all_replaced}
use Rattle.cts_near.proofs.forest.Forest.replace.Goals as goal

pub renew-requires-clause-in_range : goal.renew-requires-clause-in_range
renew-requires-clause-in_range c =
    let is : remove (slice_set c.args.self.now.subtrees.items c.args.first c.args.joined) c.args.second ≡ c.as_slice.result.now = cc in
    subst (All (λ (s : Subtree). IsMergeable s.side)) is
    (all_replaced (λ (s : Subtree). IsMergeable s.side) c.args.self.now.subtrees.items c.args.first c.args.second c.args.joined
    c.requires.in_range c.requires.joined)

pub renew-requires-clause-others : goal.renew-requires-clause-others
renew-requires-clause-others c =
    let is : remove (slice_set c.args.self.now.subtrees.items c.args.first c.args.joined) c.args.second ≡ c.as_slice.result.now = cc in
    let bounds : remove c.args.self.now.bounds.items c.args.second ≡ c.as_mut_slice.result.now = cc in
    subst (λ bs. AreOtherBounds c.args.first c.as_slice.result.now bs) bounds
    (subst (λ ss. AreOtherBounds c.args.first ss (remove c.args.self.now.bounds.items c.args.second)) is
    (others_kept c.args.self.now.subtrees.items c.args.self.now.bounds.items c.args.first c.args.second c.args.joined
    c.requires.in_order c.requires.within c.requires.bounded))

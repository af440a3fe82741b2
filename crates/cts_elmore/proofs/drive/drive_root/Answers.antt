use Rattle.std.proofs.Common.{ap, arith}
use Rattle.cts_tree.specs.declared.nodes.TreeNode.{TreeNode}
use Rattle.cts_elmore.specs.Subtrees.{IsSubtree}
use Rattle.cts_elmore.proofs.Rising.{subtree_in_range}
use Rattle.cts_elmore.proofs.Root.{AtRoot, at_root, root_told, if_root, drive_from}
use Rattle.cts_elmore.proofs.drive.drive_root.Goals as goal

pub overflow_sub-nodes : goal.overflow_sub-nodes
overflow_sub-nodes c = omega (arith, (at_root c.args.nodes.now c.requires.post_order).some)

pub bounds-nodes-nodes : goal.bounds-nodes-nodes
bounds-nodes-nodes c = omega (arith, (at_root c.args.nodes.now c.requires.post_order).some)

pub bounds-nodes-nodes-2 : goal.bounds-nodes-nodes-2
bounds-nodes-nodes-2 c = omega (arith, (at_root c.args.nodes.now c.requires.post_order).some)

pub drive_through-requires-clause-root : goal.drive_through-requires-clause-root
drive_through-requires-clause-root c =
    let top : AtRoot c.args.nodes.now = at_root c.args.nodes.now c.requires.post_order in
    subtree_in_range c.args.instance.now c.params.ensures.valid top.root c.args.root.now
    (omega (arith, top.size_is, c.requires.fits.few))
    (root_told c.args.nodes.now c.requires.post_order (λ t. IsSubtree c.args.instance.now t c.args.root.now) c.requires.root)

pub returns : goal.returns
returns c =
    let top : AtRoot c.args.nodes.now = at_root c.args.nodes.now c.requires.post_order in
    if_root c.args.nodes.now c.requires.post_order _ top.root top.root_is
    (drive_from c.args.instance.now top.root c.args.root.now
    (root_told c.args.nodes.now c.requires.post_order (λ t. IsSubtree c.args.instance.now t c.args.root.now) c.requires.root)
    _ (ap (λ (n : TreeNode). n.wire) (top.node c.index-nodes-nodes.result)) c.source_r.result
    c.params.result.now c.source_r.ensures.part c.params.ensures.part c.drive_through.result c.drive_through.ensures)

use Rattle.std.proofs.Common.{◌≡◌, ℕ, ◌+◌, [], take, true, false, sym, subst, ◌∙◌, arith}
use Rattle.std.specs.Prelude.{IfSome, Option}
use Rattle.std.specs.List.{AllZip}
use Rattle.cts_postorder.specs.PostOrder.{trees_of, root_of}
use Rattle.cts_postorder.specs.Pass.{IsLeastFailure}
use Rattle.cts_postorder.proofs.Upward.{up_all}
use Rattle.cts_tree.specs.Nodes.{children_from}
use Rattle.cts_tree.specs.declared.nodes.TreeNode.{TreeNode}
use Rattle.cts_tree.proofs.Stretches.{whole_from_start}
use Rattle.cts_elmore.specs.Limits.{IsPairOver}
use Rattle.cts_elmore.specs.Subtrees.{IsSubtree, IsKnownBelow}
use Rattle.cts_postorder.specs.Waiting.{AreWaiting}
use Rattle.cts_postorder.proofs.Waiting.{waiting_at_start, one_waits, root_waits}
use Rattle.cts_elmore.proofs.Node.{known_next, first_failure}
use Rattle.cts_elmore.proofs.FromStart.{post_order_from_start}
use Rattle.cts_elmore.proofs.subtree.gather.Goals as goal

pub loop-number-init : goal.loop-number-init
loop-number-init c = (
  subst (AreWaiting (children_from 0) c.args.nodes.now (IsSubtree c.args.instance.now) 0) (sym c.new-waiting.ensures.items)
      (waiting_at_start (children_from 0) c.args.nodes.now (IsSubtree c.args.instance.now)
      (post_order_from_start c.args.nodes.now c.requires.post_order)),
  subst (AllZip (IsKnownBelow c.args.instance.now) []) (sym c.in_ok-figures.ensures.items) tt,
  c.iter-left.ensures.rest ∙ c.requires.pins,
)

pub returns-in_default : goal.returns-in_default
returns-in_default c =
    subst (λ (kids : TreeNode → Option (ℕ × ℕ)). IsLeastFailure kids c.args.nodes.now (IsPairOver c.args.instance.now) c.loop-number.number) whole_from_start
    (first_failure c.args.instance.now (children_from 0) c.args.nodes.now c.loop-number.number c.loop-number-test.true c.loop-number.figures.items
    (c.loop-number.invariant.1) c.in_default.ensures.over)

pub loop-number-preserved : goal.loop-number-preserved
loop-number-preserved c = (
  subst (AreWaiting (children_from 0) c.args.nodes.now (IsSubtree c.args.instance.now) (c.loop-number.number + 1))
      (sym c.in_ok-push.ensures.items) c.in-Some.ensures.next,
  subst (AllZip (IsKnownBelow c.args.instance.now) (take (c.loop-number.number + 1) (trees_of (children_from 0) c.args.nodes.now)))
      (sym c.in_ok-push-2.ensures.items)
      (known_next c.args.instance.now (children_from 0) c.args.nodes.now c.loop-number.number c.loop-number-test.true c.loop-number.figures.items
      (c.loop-number.invariant.1) c.in-Some.subtree c.in-Some.ensures.here c.known_figure.result
      c.known_figure.ensures.below c.known_figure.ensures.residue_is c.known_figure.ensures.offset),
  c.in-Some.ensures.left,
)

pub unreachable-requires : goal.unreachable-requires
unreachable-requires c =
    let none : false ≡ true =
    c.in_default-pop.ensures.variant.1
    (omega (
      arith,
      c.loop-number.waiting.ok.0,
      one_waits (children_from 0) c.args.nodes.now (IsSubtree c.args.instance.now) c.loop-number.number c.loop-number-test.false
          c.loop-number.auto.number-end c.loop-number.waiting.items (c.loop-number.invariant.0),
    )) in
    cc

pub returns : goal.returns
returns c =
    subst (λ (kids : TreeNode → Option (ℕ × ℕ)).
    IfSome (root_of kids c.args.nodes.now) (λ t. IsSubtree c.args.instance.now t c.in-Some-pop.root)
    × AllZip (IsKnownBelow c.args.instance.now) (trees_of kids c.args.nodes.now) c.loop-number.figures.items) whole_from_start (
      root_waits (children_from 0) c.args.nodes.now (IsSubtree c.args.instance.now) c.loop-number.number c.loop-number-test.false
          c.loop-number.auto.number-end c.loop-number.waiting.items (c.loop-number.invariant.0) c.pop.new.self.items c.in-Some-pop.root
          c.in-Some-pop.ensures.items,
      up_all (children_from 0) (IsKnownBelow c.args.instance.now) c.args.nodes.now c.loop-number.number c.loop-number.figures.items
          c.loop-number-test.false (c.loop-number.invariant.1),
    )

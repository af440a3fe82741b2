use Rattle.std.proofs.Common.{◌≡◌, ◌+◌, take, true, false, refl, sym, subst, ◌∙◌, arith, length-set, take_all}
use Rattle.std.proofs.lemmas.List.{take_more_set}
use Rattle.std.specs.List.{AllZip}
use Rattle.cts_postorder.specs.PostOrder.{trees_of}
use Rattle.cts_postorder.specs.Waiting.{AreWaiting}
use Rattle.cts_postorder.proofs.Upward.{up_all}
use Rattle.cts_postorder.proofs.Waiting.{one_waits, root_waits}
use Rattle.cts_tree.specs.Nodes.{children_from}
use Rattle.cts_elmore.specs.Subtrees.{IsSubtree, IsKnownBelow}
use Rattle.cts_elmore.proofs.Node.{known_next, first_failure}
use Rattle.cts_elmore.proofs.subtree.gather_part.Goals as goal

pub unreachable-requires : goal.unreachable-requires
unreachable-requires c =
    let none : false ≡ true =
    c.in_default-pop.ensures.variant.1
    (omega (
      arith,
      c.loop-number.waiting.ok.0,
      one_waits (children_from c.args.first) c.args.nodes.now (IsSubtree c.args.instance.now) c.loop-number.number c.loop-number-test.false
          c.loop-number.auto.number-end c.loop-number.waiting.items (c.loop-number.invariant.0),
    )) in
    cc

pub returns-in_default : goal.returns-in_default
returns-in_default c = (
  c.loop-number.number,
  (
    refl,
    first_failure c.args.instance.now (children_from c.args.first) c.args.nodes.now c.loop-number.number c.loop-number-test.true
        (take c.loop-number.number c.loop-number.figures) (c.loop-number.invariant.1) c.in_default.ensures.over,
  ),
)

pub loop-number-preserved : goal.loop-number-preserved
loop-number-preserved c = (
  subst (AreWaiting (children_from c.args.first) c.args.nodes.now (IsSubtree c.args.instance.now) (c.loop-number.number + 1))
      (sym c.in_ok-push.ensures.items) c.in-Some.ensures.next,
  subst (AllZip (IsKnownBelow c.args.instance.now) (take (c.loop-number.number + 1) (trees_of (children_from c.args.first) c.args.nodes.now)))
      (sym (take_more_set c.loop-number.figures c.loop-number.number c.known_figure.result
      (omega (arith, c.loop-number-test.true, c.loop-number.invariant.3))))
      (known_next c.args.instance.now (children_from c.args.first) c.args.nodes.now c.loop-number.number c.loop-number-test.true
      (take c.loop-number.number c.loop-number.figures) (c.loop-number.invariant.1) c.in-Some.subtree c.in-Some.ensures.here c.known_figure.result
      c.known_figure.ensures.below c.known_figure.ensures.residue_is c.known_figure.ensures.offset),
  c.in-Some.ensures.left,
  length-set c.loop-number.figures c.loop-number.number c.known_figure.result ∙ c.loop-number.invariant.3,
)

pub returns : goal.returns
returns c = (
  root_waits (children_from c.args.first) c.args.nodes.now (IsSubtree c.args.instance.now) c.loop-number.number c.loop-number-test.false
      c.loop-number.auto.number-end c.loop-number.waiting.items (c.loop-number.invariant.0) c.pop.new.self.items c.in-Some-pop.root
      c.in-Some-pop.ensures.items,
  subst (AllZip (IsKnownBelow c.args.instance.now) (trees_of (children_from c.args.first) c.args.nodes.now))
      (take_all c.loop-number.number c.loop-number.figures (omega (arith, c.loop-number-test.false, c.loop-number.invariant.3)))
      (up_all (children_from c.args.first) (IsKnownBelow c.args.instance.now) c.args.nodes.now c.loop-number.number
      (take c.loop-number.number c.loop-number.figures) c.loop-number-test.false (c.loop-number.invariant.1)),
)

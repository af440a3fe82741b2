use Rattle.std.proofs.Common.{◌+◌, ◌-◌, ◌/◌, ◌++◌, sym, ap, ◌∙◌, arith, append_assoc}
use Rattle.std.proofs.lemmas.Result.{IfOk-weaker, IfOk-from_err}
use Rattle.cts_topo.specs.declared.shape.ShapeNode.TheVariants.{Leaf}
use Rattle.cts_work.specs.Built.{tree_at}
use Rattle.cts_work.specs.Pieces.{pieces_of}
use Rattle.cts_work.proofs.Nodes.{tip_at}
use Rattle.cts_work.proofs.Divisions.{one_lot, one_leaf, left_before, left_part, right_part, parts_pieces}
use Rattle.cts_work.proofs.pieces.+divide.Goals as goal

pub returns-then-lots-lt2 : goal.returns-then-lots-lt2
returns-then-lots-lt2 t c =
    c.in_ok-push.ensures.items
    ∙ ap (λ ps. c.args.pieces.now.items ++ ps)
    (sym (one_lot c.args.first c.args.lots c.args.root (tree_at c.args.nodes.now c.args.root) c.if-lots-lt2.true c.requires.part.whole))

pub divide-requires : goal.divide-requires
divide-requires t c = (
  omega (arith, c.decreases),
  (
    c.requires.shape,
    left_part c.args.count c.args.nodes.now c.requires.shape c.args.first c.args.root c.requires.part _ c.in-Pair.left c.in-Pair.right c.in-Pair.is,
  ),
)

pub overflow_add-left : goal.overflow_add-left
overflow_add-left t c =
    omega (
      arith,
      c.ranges.root,
      left_before c.args.count c.args.nodes.now c.requires.shape c.args.first c.args.root c.requires.part _ c.in-Pair.left c.in-Pair.right c.in-Pair.is,
    )

pub divide-requires-in-Pair : goal.divide-requires-in-Pair
divide-requires-in-Pair t c = (
  omega (arith, c.decreases),
  (
    c.requires.shape,
    right_part c.args.count c.args.nodes.now c.requires.shape c.args.first c.args.root c.requires.part _ c.in-Pair.left c.in-Pair.right c.in-Pair.is,
  ),
)

pub returns-in_ok-push-in-Leaf : goal.returns-in_ok-push-in-Leaf
returns-in_ok-push-in-Leaf t c =
    c.in_ok-push-in-Leaf.ensures.items
    ∙ ap (λ ps. c.args.pieces.now.items ++ ps)
    (sym (one_leaf c.args.first c.args.lots c.args.root (tree_at c.args.nodes.now c.args.root) (Leaf c.in-Leaf.sink)
    (tip_at c.args.nodes.now c.args.root c.requires.part.within _ c.in-Leaf.sink c.in-Leaf.is) c.requires.part.whole))

pub returns-in_ok-divide-in-Pair : goal.returns-in_ok-divide-in-Pair
returns-in_ok-divide-in-Pair t c =
    IfOk-weaker c.divide-in-Pair.result _ _
    (λ _ p. p
    ∙ ap (λ ps. ps ++ pieces_of (c.in-Pair.left + 1) (c.args.lots / 2) (tree_at c.args.nodes.now c.in-Pair.right)) c.in_ok-divide-in-Pair.ensures
    ∙ append_assoc c.args.pieces.now.items (pieces_of c.args.first (c.args.lots - c.args.lots / 2) (tree_at c.args.nodes.now c.in-Pair.left))
    (pieces_of (c.in-Pair.left + 1) (c.args.lots / 2) (tree_at c.args.nodes.now c.in-Pair.right))
    ∙ ap (λ ps. c.args.pieces.now.items ++ ps)
    (sym (parts_pieces c.args.count c.args.nodes.now c.requires.shape c.args.first c.args.root c.requires.part _ c.in-Pair.left c.in-Pair.right
    c.in-Pair.is c.args.lots c.if-lots-lt2.false)))
    c.divide-in-Pair.ensures

pub overflow_sub-lots : goal.overflow_sub-lots
overflow_sub-lots t c = omega arith

pub returns-in_err-push : goal.returns-in_err-push
returns-in_err-push t c = IfOk-from_err _ _ (c.from_residual.ensures.0)

pub returns-in_err-push-in-Leaf : goal.returns-in_err-push-in-Leaf
returns-in_err-push-in-Leaf t c = IfOk-from_err _ _ (c.from_residual-in_err-push-in-Leaf.ensures.0)

pub returns-in_err-divide-in-Pair : goal.returns-in_err-divide-in-Pair
returns-in_err-divide-in-Pair t c = IfOk-from_err _ _ (c.from_residual-in_err-divide-in-Pair.ensures.0)

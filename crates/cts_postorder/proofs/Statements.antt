-- The public laws, from the lemmas on numbered trees.
use Rattle.std.proofs.Common.{◌≡◌, ◌≤◌, [], map, length, get_or, sym, ap, subst, ◌∙◌, arith, zero-add}
use Rattle.std.specs.List.{All}
use Rattle.std.specs.Option.{option_map_or}
use Rattle.std.proofs.lemmas.Option.{get_or_from_slice_get, slice_get_within}
use Rattle.cts_postorder.specs.BinaryTree.{depth}
use Rattle.cts_postorder.specs.PostOrder.{IsPostOrder}
use Rattle.cts_postorder.specs.Occurrence.{Occurrence, occurrences, occurrences_of, tips}
use Rattle.cts_postorder.specs.Laws.{PostOrderIsTree, TreesAreSubtrees, FrontsKeepTrees, ChildrenComeBefore, TipsAreOccurrences, TipsStandBelow}
use Rattle.cts_postorder.proofs.Sizes.{size_pos, length-labels}
use Rattle.cts_postorder.proofs.Growth.{trees_of-take}
use Rattle.cts_postorder.proofs.Spelling.{Spelling, spelling_of, trees_of-labels, IsPostOrder-labels}
use Rattle.cts_postorder.proofs.Tips.{filter-occurrences, length-tips, tips_below, tips_deep}
use Rattle.cts_postorder.proofs.Lists.{IsPair, is_pair, root_of-labels}

module _ (N : Type 0) where
  pub post_order_is_a_tree_lem : PostOrderIsTree N
  post_order_is_a_tree_lem kids nodes = (
    (λ ok. let s : Spelling kids nodes = spelling_of kids nodes ok in (s.whole, (s.numbered, s.spelled))),
    (λ w. subst (λ ns. IsPostOrder (map kids ns)) (w.1.1) (IsPostOrder-labels kids w.0 (w.1.0))),
  )

  pub trees_are_subtrees_lem : TreesAreSubtrees N
  unfolding occurrences_of
  trees_are_subtrees_lem kids t numbered = (
    trees_of-labels kids t numbered,
    root_of-labels kids t numbered,
    ap (λ o. option_map_or (occurrences []) o []) (root_of-labels kids t numbered),
    length-labels t,
  )

  pub fronts_keep_trees_lem : FrontsKeepTrees N
  fronts_keep_trees_lem kids nodes k h = trees_of-take kids nodes k h

  pub children_come_before_lem : ChildrenComeBefore N
  children_come_before_lem kids nodes ok k n left right at names =
      let here : get_or nodes k n ≡ n = get_or_from_slice_get nodes k n n at in
      let v : IsPair kids nodes k (left, right) (get_or nodes k n) =
      is_pair kids nodes ok k n (left, right) (slice_get_within nodes k n at) (ap kids here ∙ names) in
      (v.right_number, omega (arith, v.left_number, v.right_number, size_pos v.right))

  pub tips_are_occurrences_lem : TipsAreOccurrences N
  tips_are_occurrences_lem t = (
    sym (filter-occurrences [] t),
    length-tips [] t,
    subst (λ d. All (λ (o : Occurrence N). length o.above ≤ d) (tips [] t)) (zero-add (depth t)) (tips_deep [] t),
  )

  pub tips_stand_below_lem : TipsStandBelow N
  tips_stand_below_lem up t = tips_below [] up t

-- The pass downward over the root of a tree, and over its two parts.
use Rattle.std.proofs.Common.{◌≡◌, ℕ, ◌+◌, ◌-◌, ◌≤◌, ◌↔◌, Bool, ◌&&◌, List, [], ◌∷◌, ◌++◌, map, set, take, drop, length, get_or, Option, Some, None, IsTrue, refl, sym, ap, subst, ◌∙◌, arith, append-nil, length-append, take_all}
use Rattle.std.specs.Prelude.{IfSome}
use Rattle.std.specs.List.{All, AllZip}
use Rattle.std.proofs.lemmas.List.{drop_all}
use Rattle.std.proofs.lemmas.List.Elements.{All-append, All-cons, All-nil}
use Rattle.std.proofs.lemmas.Slice.Zip.{AllZip-long}
use Rattle.cts_list.proofs.AllOf.{all_front, all_back}
use Rattle.cts_postorder.specs.BinaryTree.{BinaryTree, subtrees}
use Rattle.cts_postorder.specs.Cut.{IsCut}
use Rattle.cts_postorder.specs.Occurrence.{Occurrence, occurrence, occurrences}
use Rattle.cts_postorder.specs.PostOrder.{IsPostOrder, root_of, trees_of}
use Rattle.cts_postorder.proofs.Cut.{whole, back_size, back_spelled, cut_long, front_size, front_spelled, tell, told, trees_are}
use Rattle.cts_postorder.proofs.Growth.{length-trees_of}
use Rattle.cts_postorder.proofs.Sizes.{length-subtrees}
use Rattle.cts_postorder.proofs.Stretches.{IsSpelled}
use Rattle.cts_postorder.proofs.Zips.{all_zip-append, all_zip-front, all_zip-back}
use Rattle.cts_tree.specs.declared.nodes.TreeNode.{TreeNode}
use Rattle.cts_tree.specs.Nodes.{children_from, tree_children}
use Rattle.cts_tree.proofs.Stretches.{whole_from_start}
use Rattle.cts_instance.specs.declared.parts.Parts.{Parts}
use Rattle.cts_elmore.specs.declared.descent.Descent.{Descent}
use Rattle.cts_elmore.specs.declared.descent.Met.{Met}
use Rattle.cts_elmore.specs.declared.descent.Output.{Output}
use Rattle.cts_elmore.specs.declared.descent.RootDescent.{RootDescent}
use Rattle.cts_elmore.specs.declared.figures.NodeFigure.{NodeFigure}
use Rattle.cts_elmore.specs.Figures.{IsNodeFigure, IsFigureInRange}
use Rattle.cts_elmore.specs.Loads.{source_load}
use Rattle.cts_elmore.specs.Limits.{MeetsLoadAt, MeetsSlewAt, MeetsLoadLimit, MeetsSlewLimit}
use Rattle.cts_elmore.specs.Outputs.{IsDescent, IsDescentBelow, IsHandedDown, IsHandedTo, IsHandedToParts, IsPartDescent, IsRootDescent}
use Rattle.cts_elmore.specs.Subtrees.{IsKnownBelow}
use Rattle.cts_elmore.proofs.HandedDown.{both}
use Rattle.cts_tree_workers.specs.Measuring.{AreKnownParts, AreDescended, ArePartsDescended, IsWholeDescent}
use Rattle.cts_tree_workers.proofs.Gathering.{set_one}

-- two answers, for all items of two lists
both_lists : {X : Type 0} (P : X → Type 0) (xs ys : List X) (b c : Bool) → (IsTrue b ↔ All P xs) → (IsTrue c ↔ All P ys)
    → IsTrue (b && c) ↔ All P (xs ++ ys)
both_lists P xs ys b c first second =
    let each : IsTrue (b && c) ↔ (All P ys × All P xs) = both b c first second in (
      (λ yes. All-append P xs ys ((each.0 yes).1) ((each.0 yes).0)),
      (λ all. each.1 (all_back P xs ys all, all_front P xs ys all)),
    )

one_item : {X : Type 0} (xs : List X) (x : X) → length xs ≡ 1 → xs ≡ get_or xs 0 x ∷ []
one_item [] x long = absurd (omega (arith, long))
one_item (y ∷ []) x long = refl
one_item (y ∷ z ∷ xs) x long = absurd (omega (arith, long))

-- what stands in a list once a slice of all of it is given back
pub written_back : (len : ℕ) (old new : List NodeFigure) → len ≡ length old → length new ≡ length old
    → take len (new ++ drop (length new) old) ≡ new
written_back len old new long same =
    ap (λ rest. take len (new ++ rest)) (drop_all (length new) old (omega arith)) ∙ ap (take len) (append-nil new)
    ∙ take_all len new (omega arith)

-- Some nodes of a tree, cut.
module _ (i : Parts) {nodes front back : List TreeNode} {node : TreeNode}
    (c : IsCut tree_children (children_from (length front)) nodes front back node) where
  abbrev top : BinaryTree TreeNode
  top = whole c

  pub known_long : (figures : List NodeFigure) → AllZip (IsKnownBelow i) (trees_of tree_children nodes) figures
      → length figures ≡ length nodes
  known_long figures known =
      AllZip-long (IsKnownBelow i) (trees_of tree_children nodes) figures known ∙ length-trees_of tree_children nodes

  -- what is known of the nodes of the parts, and of the root
  module _ (below own : List NodeFigure) (figures : List NodeFigure) (are : figures ≡ below ++ own) (long : length below ≡ length nodes - 1)
      (known : AllZip (IsKnownBelow i) (trees_of tree_children nodes) figures) where
    known_all : AllZip (IsKnownBelow i) (subtrees c.left ++ subtrees c.right ++ top ∷ []) (below ++ own)
    known_all =
        subst (AllZip (IsKnownBelow i) (subtrees c.left ++ subtrees c.right ++ top ∷ [])) are
        (subst (λ ts. AllZip (IsKnownBelow i) ts figures) (trees_are c) known)

    same_long : length below ≡ length (subtrees c.left ++ subtrees c.right)
    same_long =
        let count : length (subtrees c.left ++ subtrees c.right) ≡ length (subtrees c.left) + length (subtrees c.right) =
        length-append (subtrees c.left) (subtrees c.right) in
        omega (arith, long, count, length-subtrees c.left, length-subtrees c.right, front_size c, back_size c, cut_long c)

    pub parts_known : IfSome (root_of tree_children nodes) (AreKnownParts i below)
    parts_known =
        tell c (AreKnownParts i below)
        (all_zip-front (IsKnownBelow i) (subtrees c.left ++ subtrees c.right) (top ∷ []) below own same_long known_all)

    pub root_known : (e : NodeFigure) → length own ≡ 1
        → IfSome (root_of tree_children nodes) (λ t. IsKnownBelow i t (get_or own 0 e))
    root_known e one =
        let last : AllZip (IsKnownBelow i) (top ∷ []) (get_or own 0 e ∷ []) =
        subst (AllZip (IsKnownBelow i) (top ∷ [])) (one_item own e one)
        (all_zip-back (IsKnownBelow i) (subtrees c.left ++ subtrees c.right) (top ∷ []) below own same_long known_all) in
        tell c (λ t. IsKnownBelow i t (get_or own 0 e)) (last.0)

  -- the nodes of the parts, and what they take from the root
  front_is : IsSpelled (children_from 0) front c.left
  front_is = subst (λ kids. IsSpelled kids front c.left) (sym whole_from_start) (front_spelled c)

  pub front_order : IsPostOrder (map (children_from 0) front)
  front_order = front_is.post_order

  pub back_order : IsPostOrder (map (children_from (length front)) back)
  back_order = (back_spelled c).post_order

  module _ (ahead behind : List NodeFigure) (figures : List NodeFigure) (figures_are : figures ≡ ahead ++ behind)
      (long : length ahead ≡ length front) (known : IfSome (root_of tree_children nodes) (AreKnownParts i figures)) where
    known_parts : AllZip (IsKnownBelow i) (subtrees c.left ++ subtrees c.right) (ahead ++ behind)
    known_parts =
        subst (AllZip (IsKnownBelow i) (subtrees c.left ++ subtrees c.right)) figures_are (told c (AreKnownParts i figures) known)

    as_long : length ahead ≡ length (subtrees c.left)
    as_long = omega (arith, long, length-subtrees c.left, front_size c)

    pub front_known : AllZip (IsKnownBelow i) (trees_of (children_from 0) front) ahead
    front_known =
        subst (λ ts. AllZip (IsKnownBelow i) ts ahead) (sym front_is.trees_are)
        (all_zip-front (IsKnownBelow i) (subtrees c.left) (subtrees c.right) ahead behind as_long known_parts)

    pub back_known : AllZip (IsKnownBelow i) (trees_of (children_from (length front)) back) behind
    back_known =
        subst (λ ts. AllZip (IsKnownBelow i) ts behind) (sym (back_spelled c).trees_are)
        (all_zip-back (IsKnownBelow i) (subtrees c.left) (subtrees c.right) ahead behind as_long known_parts)

  pub long_enough : (figures : List NodeFigure) → IfSome (root_of tree_children nodes) (AreKnownParts i figures) → length front ≤ length figures
  long_enough figures known =
      let long : length figures ≡ length (subtrees c.left ++ subtrees c.right) =
      AllZip-long (IsKnownBelow i) (subtrees c.left ++ subtrees c.right) figures (told c (AreKnownParts i figures) known) in
      omega (arith, long, length-append (subtrees c.left) (subtrees c.right), length-subtrees c.left, front_size c)

  module _ (above : Output) (is : IfSome (root_of tree_children nodes) (λ root. IsHandedToParts i root above)) where
    to_parts : IsHandedTo i top (occurrence (top ∷ []) c.left) above × IsHandedTo i top (occurrence (top ∷ []) c.right) above
    to_parts = told c (λ root. IsHandedToParts i root above) is

    pub front_above : IfSome (root_of (children_from 0) front) (λ t. IsHandedDown i t above)
    front_above =
        subst (λ o. IfSome o (λ t. IsHandedDown i t above)) (sym front_is.root_is)
        (record { root = top; up = top ∷ []; handed = to_parts.0 })

    pub back_above : IfSome (root_of (children_from (length front)) back) (λ t. IsHandedDown i t above)
    back_above =
        subst (λ o. IfSome o (λ t. IsHandedDown i t above)) (sym (back_spelled c).root_is)
        (record { root = top; up = top ∷ []; handed = to_parts.1 })

    -- what comes of both
    module _ (ahead behind : List NodeFigure) (p q : Met)
        (p_is : IfSome (root_of (children_from 0) front) (λ t. IsDescentBelow i above t ahead p))
        (q_is : IfSome (root_of (children_from (length front)) back) (λ t. IsDescentBelow i above t behind q)) where
      left_descent : IsPartDescent i top (top ∷ []) c.left ahead p
      left_descent =
          subst (λ o. IfSome o (λ t. IsDescentBelow i above t ahead p)) front_is.root_is p_is top (top ∷ []) (to_parts.0)

      right_descent : IsPartDescent i top (top ∷ []) c.right behind q
      right_descent =
          subst (λ o. IfSome o (λ t. IsDescentBelow i above t behind q)) (back_spelled c).root_is q_is top (top ∷ []) (to_parts.1)

      pub parts_descend : (met : Met) → met.load_met ≡ (p.load_met && q.load_met) → met.slew_met ≡ (p.slew_met && q.slew_met)
          → IfSome (root_of tree_children nodes) (ArePartsDescended i (ahead ++ behind) met)
      parts_descend met load slew =
          let ls : List (Occurrence TreeNode) = occurrences (top ∷ []) c.left in
          let rs : List (Occurrence TreeNode) = occurrences (top ∷ []) c.right in
          tell c (ArePartsDescended i (ahead ++ behind) met) (record {
            each_node = all_zip-append (IsNodeFigure i top) ls rs ahead behind left_descent.each_node right_descent.each_node;
            in_range = All-append IsFigureInRange ahead behind left_descent.in_range right_descent.in_range;
            load_met = subst (λ b. IsTrue b ↔ All (MeetsLoadAt i) (subtrees c.left ++ subtrees c.right)) (sym load)
                (both_lists (MeetsLoadAt i) (subtrees c.left) (subtrees c.right) p.load_met q.load_met left_descent.load_met
                right_descent.load_met);
            slew_met = subst (λ b. IsTrue b ↔ All (MeetsSlewAt i top) (ls ++ rs)) (sym slew)
                (both_lists (MeetsSlewAt i top) ls rs p.slew_met q.slew_met left_descent.slew_met right_descent.slew_met);
          })

  -- the root and both parts
  module _ (r : RootDescent) (r_is : IfSome (root_of tree_children nodes) (λ root. IsRootDescent i root r)) (below : List NodeFigure)
      (p : Met) (p_is : IfSome (root_of tree_children nodes) (ArePartsDescended i below p)) where
    at_root : IsRootDescent i top r
    at_root = told c (λ root. IsRootDescent i root r) r_is

    at_parts : AreDescended i c.left c.right top below p
    at_parts = told c (ArePartsDescended i below p) p_is

    root_slew : IsTrue r.met.slew_met ↔ All (MeetsSlewAt i top) (occurrence [] top ∷ [])
    root_slew = (
      (λ yes. All-cons (MeetsSlewAt i top) (occurrence [] top) [] (at_root.slew_met.0 yes) (All-nil (MeetsSlewAt i top))),
      (λ all. at_root.slew_met.1 (all 0 (occurrence [] top) (omega arith))),
    )

    pub whole_descends : (own : List NodeFigure) → length own ≡ 1 → (met : Met) → met.load_met ≡ (r.met.load_met && p.load_met)
        → met.slew_met ≡ (r.met.slew_met && p.slew_met)
        → IfSome (root_of tree_children nodes) (IsWholeDescent i (below ++ set own 0 r.figure) met)
    unfolding occurrences subtrees
    whole_descends own one met load slew =
        let os : List (Occurrence TreeNode) = occurrences (top ∷ []) c.left ++ occurrences (top ∷ []) c.right in
        let ts : List (BinaryTree TreeNode) = subtrees c.left ++ subtrees c.right in
        let own_is : set own 0 r.figure ≡ r.figure ∷ [] = set_one own r.figure one in
        let loads : IsTrue (r.met.load_met && p.load_met) ↔ (All (MeetsLoadAt i) ts × ((source_load i top ≤ i.load_limit) × MeetsLoadAt i top)) =
        both r.met.load_met p.load_met at_root.load_met at_parts.load_met in
        let slews : IsTrue (r.met.slew_met && p.slew_met) ↔ (All (MeetsSlewAt i top) os × All (MeetsSlewAt i top) (occurrence [] top ∷ [])) =
        both r.met.slew_met p.slew_met root_slew at_parts.slew_met in
        tell c (IsWholeDescent i (below ++ set own 0 r.figure) met)
        (subst (λ last. IsWholeDescent i (below ++ last) met top) (sym own_is) (record {
          each_node = all_zip-append (IsNodeFigure i top) os (occurrence [] top ∷ []) below (r.figure ∷ []) at_parts.each_node
              (at_root.figure, tt);
          in_range = All-append IsFigureInRange below (r.figure ∷ []) at_parts.in_range
              (All-cons IsFigureInRange r.figure [] at_root.in_range (All-nil IsFigureInRange));
          load_met = (
            (λ yes.
                let each = loads.0 (subst IsTrue load yes) in
                record {
                  source = each.1.0;
                  buffers = All-append (MeetsLoadAt i) ts (top ∷ []) (each.0)
                      (All-cons (MeetsLoadAt i) top [] (each.1.1) (All-nil (MeetsLoadAt i)));
                }),
            (λ limit. subst IsTrue (sym load)
                (loads.1 (
                  all_front (MeetsLoadAt i) ts (top ∷ []) limit.buffers,
                  (limit.source, all_back (MeetsLoadAt i) ts (top ∷ []) limit.buffers 0 top (omega arith)),
                ))),
          );
          slew_met = (
            (λ yes.
                let each = slews.0 (subst IsTrue slew yes) in
                All-append (MeetsSlewAt i top) os (occurrence [] top ∷ []) (each.0) (each.1)),
            (λ all. subst IsTrue (sym slew)
                (slews.1 (
                  all_front (MeetsSlewAt i top) os (occurrence [] top ∷ []) all,
                  all_back (MeetsSlewAt i top) os (occurrence [] top ∷ []) all,
                ))),
          );
        }))

-- the same, as the figures of the whole tree are assembled from it
pub descent_is : (i : Parts) (nodes : List TreeNode) (figures : List NodeFigure) (met : Met)
    → IfSome (root_of tree_children nodes) (IsWholeDescent i figures met) → (descent : Descent) → descent.figures.items ≡ figures
    → descent.load_met ≡ met.load_met → descent.slew_met ≡ met.slew_met
    → IfSome (root_of tree_children nodes) (λ root. IsDescent i root descent)
descent_is i nodes figures met is descent figures_are load slew = by_root (root_of tree_children nodes) is
  where
    by_root : (o : Option (BinaryTree TreeNode)) → IfSome o (IsWholeDescent i figures met) → IfSome o (λ root. IsDescent i root descent)
    by_root None is_whole = tt
    by_root (Some root) is_whole = record {
      each_node = subst (AllZip (IsNodeFigure i root) (occurrences [] root)) (sym figures_are) is_whole.each_node;
      in_range = subst (All IsFigureInRange) (sym figures_are) is_whole.in_range;
      load_met = subst (λ b. IsTrue b ↔ MeetsLoadLimit i root) (sym load) is_whole.load_met;
      slew_met = subst (λ b. IsTrue b ↔ MeetsSlewLimit i root) (sym slew) is_whole.slew_met;
    }

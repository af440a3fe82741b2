-- One step of the pass upward, by number: what is known of the node at the next number.
use Rattle.std.proofs.Common.{◌≡◌, ℕ, ◌+◌, ◌-◌, ◌<◌, ◌≤◌, List, [], ◌∷◌, ◌++◌, map, take, drop, length, get_or, Option, Some, None, IsSomeAnd, refl, sym, ap, subst, ◌∙◌, arith}
use Rattle.std.specs.Prelude.{IfSome, IfNone, slice_get}
use Rattle.std.proofs.lemmas.Option.{slice_get-get_or, slice_get_within, get_or_from_slice_get}
use Rattle.std.specs.List.{All, AllZip}
use Rattle.cts_units.specs.declared.params.Params.{Params}
use Rattle.cts_units.specs.declared.params.Sink.{Sink}
use Rattle.cts_units.specs.Limits.{max_length}
use Rattle.cts_units.specs.Choice.{seen_load_of}
use Rattle.cts_postorder.specs.BinaryTree.{BinaryTree, tip, fork, label, size}
use Rattle.cts_postorder.specs.PostOrder.{IsPostOrder, NamesFrom, trees_of}
use Rattle.cts_postorder.specs.Pass.{IsLeastFailure}
use Rattle.cts_postorder.proofs.Growth.{length-trees_of, label-tree}
use Rattle.cts_postorder.proofs.Failures.{size-tree}
use Rattle.cts_postorder.proofs.Lists.{IsPair, is_pair}
use Rattle.cts_postorder.proofs.Upward.{up_more, leaf_here, least_failure}
use Rattle.cts_tree.specs.declared.nodes.NodeKind.TheVariants.{Leaf, Pair}
use Rattle.cts_tree.specs.declared.nodes.TreeNode.{TreeNode}
use Rattle.cts_tree.specs.Nodes.{children_of_from, tree_children, children_from, buffer_of}
use Rattle.cts_instance.specs.declared.parts.Parts.{Parts}
use Rattle.cts_instance.specs.Validity.{IsValid}
use Rattle.cts_elmore.specs.declared.subtree.Subtree.{Subtree}
use Rattle.cts_elmore.specs.declared.subtree.Branch.{Branch}
use Rattle.cts_elmore.specs.Fits.{FitsInstance, NamesSink}
use Rattle.cts_elmore.specs.Loads.{leaf_pins}
use Rattle.cts_elmore.specs.Limits.{IsOverAtPair, long_left, long_right, IsPairOver}
use Rattle.cts_elmore.specs.declared.figures.NodeFigure.{NodeFigure}
use Rattle.cts_elmore.specs.declared.pin_list.Pin.{Pin}
use Rattle.cts_postorder.specs.Waiting.{StandsAt, AreWaiting}
use Rattle.cts_elmore.specs.Subtrees.{IsLeafOf, IsSubtree, IsSubtreeInRange, IsKnownBelow, IsBranch, PairOrOver}
use Rattle.cts_elmore.proofs.LeafPins.{sink_pin, taken_leaf}
use Rattle.cts_elmore.proofs.Rising.{subtree_in_range, leaf_is, pair_is, pair_over}
use Rattle.cts_postorder.proofs.Waiting.{AtPair, waiting_at_leaf, waiting_at_pair, two_wait}

pub slice_get_none : {X : Type 0} (xs : List X) (k : ℕ) → k < length xs → ¬ (slice_get xs k ≡ None)
slice_get_none [] k h none = omega arith
slice_get_none (x ∷ xs) k h none =
    let found : slice_get (x ∷ xs) k ≡ Some (get_or (x ∷ xs) k x) = slice_get-get_or (x ∷ xs) k x h in cc

pub if_none : {A : Type 0} {P : Type 0} (o : Option A) → P → IfNone o P
if_none None p = p
if_none (Some x) p = tt

-- what stands at a number that has a node
pub stands : {N V : Type 0} (kids : N → Option (ℕ × ℕ)) (R : BinaryTree N → V → Type 0) (nodes : List N) (number : ℕ)
    (t : BinaryTree N) (v : V) → slice_get (trees_of kids nodes) number ≡ Some t → R t v → StandsAt kids nodes R number v
stands kids R nodes number t v found is = subst (λ o. IfSome o (λ u. R u v)) (sym found) is

pub stood : {N V : Type 0} (kids : N → Option (ℕ × ℕ)) (R : BinaryTree N → V → Type 0) (nodes : List N) (number : ℕ)
    (t : BinaryTree N) (v : V) → slice_get (trees_of kids nodes) number ≡ Some t → StandsAt kids nodes R number v → R t v
stood kids R nodes number t v found is = subst (λ o. IfSome o (λ u. R u v)) found is

-- a sink that is named stands in the list
named_within : (sinks : List Sink) (k : ℕ) (Q : Sink → Type 0) (o : Option Sink) → slice_get sinks k ≡ o → IsSomeAnd o Q
    → k < length sinks
named_within sinks k Q None found h = absurd h
named_within sinks k Q (Some s) found h = slice_get_within sinks k s found

-- An instance, the nodes of a tree that fits it, and the subtrees that wait at number k.
module _ (i : Parts) (valid : IsValid i) (first : ℕ) (nodes : List TreeNode) (ok : IsPostOrder (map (children_from first) nodes))
    (numbered : All (NamesFrom tree_children first) nodes) (fits : FitsInstance i nodes) (k : ℕ) (h : k < length nodes) (waiting : List Subtree)
    (before : AreWaiting (children_from first) nodes (IsSubtree i) k waiting) where
  abbrev trees : List (BinaryTree TreeNode)
  trees = trees_of (children_from first) nodes

  abbrev pub Here : Subtree → Type 0
  Here s = StandsAt (children_from first) nodes (IsSubtree i) k s

  abbrev pub Over : Type 0
  Over = IfSome (slice_get (trees_of (children_from first) nodes) k) (IsPairOver i)

  -- a leaf
  module _ (id sink : ℕ) (e : TreeNode) (here : (get_or nodes k e).kind ≡ Leaf id sink) where
    -- takes the next of the pins that are left
    module _ (pins rest : List Pin) (pin : Pin) (taken : pins ≡ pin ∷ rest) (are : pins ≡ leaf_pins i (drop k nodes)) where
      same : pin ∷ rest ≡ sink_pin i (get_or nodes k e) ∷ leaf_pins i (drop (k + 1) nodes)
      same =
          let named : NamesSink i.sinks (Leaf id sink) = subst (NamesSink i.sinks) here (fits.sinks k e h) in
          sym taken ∙ taken_leaf i nodes k e h pins are id sink here
          (named_within i.sinks sink (λ (of : Sink). of.id ≡ id) (slice_get i.sinks sink) refl named)

      pub leaf_here_is : (s : Subtree) → IsLeafOf pin s → Here s
      leaf_here_is s is =
          let all : pin ∷ rest ≡ sink_pin i (get_or nodes k e) ∷ leaf_pins i (drop (k + 1) nodes) = same in
          let pin_is : pin ≡ sink_pin i (get_or nodes k e) = cc in
          let tree : get_or trees k (tip e) ≡ tip (get_or nodes k e) =
          leaf_here (children_from first) (IsSubtree i) nodes k e (tip e) h (ap (children_of_from first) here) in
          stands (children_from first) (IsSubtree i) nodes k (tip (get_or nodes k e)) s
          (slice_get-get_or trees k (tip e) (omega (arith, h, length-trees_of (children_from first) nodes)) ∙ ap Some tree)
          (leaf_is i (get_or nodes k e) s pin (ap (λ (p : Pin). p.cap) pin_is) (ap (λ (p : Pin). p.offset) pin_is) (ap buffer_of here) is)

    pub leaf_next : (s : Subtree) → Here s → AreWaiting (children_from first) nodes (IsSubtree i) (k + 1) (waiting ++ s ∷ [])
    leaf_next s is = waiting_at_leaf (children_from first) nodes (IsSubtree i) k e h waiting before (ap (children_of_from first) here) s is

  -- a pair, by the numbers of its parts
  module _ (left right : ℕ) (buffer : Option ℕ) (e : TreeNode) (here : (get_or nodes k e).kind ≡ Pair left right buffer) where
    at_pair : IsPair (children_from first) nodes k (left - first, right - first) (get_or nodes k e)
    at_pair = is_pair (children_from first) nodes ok k e (left - first, right - first) h (ap (children_of_from first) here)

    abbrev t : BinaryTree TreeNode
    t = fork at_pair.left at_pair.right (get_or nodes k e)

    pub left_within : left - first < length nodes
    left_within = omega (arith, at_pair.left_below)

    pub right_within : right - first < length nodes
    right_within = omega (arith, at_pair.right_below)

    pub two_ready : 2 ≤ length waiting
    two_ready = two_wait (children_from first) nodes (IsSubtree i) k e h waiting before (left - first, right - first) (ap (children_of_from first) here)

    found : (number : ℕ) (u : BinaryTree TreeNode) → number < length nodes → ((d : BinaryTree TreeNode) → get_or trees number d ≡ u)
        → slice_get trees number ≡ Some u
    found number u w is =
        slice_get-get_or trees number (tip e) (omega (arith, w, length-trees_of (children_from first) nodes)) ∙ ap Some (is (tip e))

    small : (number : ℕ) (u : BinaryTree TreeNode) → number < length nodes → ((d : BinaryTree TreeNode) → get_or trees number d ≡ u)
        → size u ≤ 131071
    small number u w is =
        omega (arith, size-tree (children_from first) nodes ok number (tip e) w, ap size (is (tip e)), fits.few, w)

    -- the values of the two parts
    module _ (rest : List Subtree) (a b : Subtree) (taken : waiting ≡ rest ++ a ∷ b ∷ []) where
      values : AtPair (children_from first) nodes (IsSubtree i) k (left - first, right - first) rest a b
      values =
          waiting_at_pair (children_from first) nodes (IsSubtree i) k e h waiting before (left - first, right - first) (ap (children_of_from first) here) rest a b taken

      left_value : IsSubtree i at_pair.left a
      left_value =
          stood (children_from first) (IsSubtree i) nodes (left - first) at_pair.left a (found (left - first) at_pair.left left_within at_pair.left_tree) values.left_value

      right_value : IsSubtree i at_pair.right b
      right_value =
          stood (children_from first) (IsSubtree i) nodes (right - first) at_pair.right b (found (right - first) at_pair.right right_within at_pair.right_tree) values.right_value

      pub left_in_range : IsSubtreeInRange a
      left_in_range = subtree_in_range i valid at_pair.left a (small (left - first) at_pair.left left_within at_pair.left_tree) left_value

      pub right_in_range : IsSubtreeInRange b
      right_in_range = subtree_in_range i valid at_pair.right b (small (right - first) at_pair.right right_within at_pair.right_tree) right_value

      pub pair_waits : (s : Subtree) → Here s → AreWaiting (children_from first) nodes (IsSubtree i) (k + 1) (rest ++ s ∷ [])
      pair_waits s is = values.next s is

      fails : IsOverAtPair i at_pair.left at_pair.right (get_or nodes k e) → Over
      fails over = subst (λ o. IfSome o (IsPairOver i)) (sym (found k t h at_pair.tree)) over

      left_wire : (m : TreeNode) → (label at_pair.left).wire ≡ (get_or nodes (left - first) m).wire
      left_wire m =
          ap (λ (u : BinaryTree TreeNode). (label u).wire) (sym (at_pair.left_tree (tip e)))
          ∙ ap (λ (x : TreeNode). x.wire) (label-tree (children_from first) nodes (left - first) (tip e) m left_within)

      right_wire : (m : TreeNode) → (label at_pair.right).wire ≡ (get_or nodes (right - first) m).wire
      right_wire m =
          ap (λ (u : BinaryTree TreeNode). (label u).wire) (sym (at_pair.right_tree (tip e)))
          ∙ ap (λ (x : TreeNode). x.wire) (label-tree (children_from first) nodes (right - first) (tip e) m right_within)

      pub over_by_left : (m : TreeNode) → max_length < (get_or nodes (left - first) m).wire → Over
      over_by_left m long = fails (long_left (omega (arith, long, left_wire m)))

      pub over_by_right : (m : TreeNode) → max_length < (get_or nodes (right - first) m).wire → Over
      over_by_right m long = fails (long_right (omega (arith, long, right_wire m)))

      module _ (m n : TreeNode) (params : Params) (params_is : params ≡ i.params) (p q : Branch)
          (p_is : IsBranch params.wire (get_or nodes (left - first) m).wire a p)
          (q_is : IsBranch params.wire (get_or nodes (right - first) n).wire b q) where
        left_branch : IsBranch i.params.wire (get_or nodes (left - first) m).wire a p
        left_branch = subst (λ (w : Params). IsBranch w.wire (get_or nodes (left - first) m).wire a p) params_is p_is

        right_branch : IsBranch i.params.wire (get_or nodes (right - first) n).wire b q
        right_branch = subst (λ (w : Params). IsBranch w.wire (get_or nodes (right - first) n).wire b q) params_is q_is

        named : (result : Option Subtree) → PairOrOver params.library buffer p q result
            → PairOrOver i.params.library (buffer_of (get_or nodes k e).kind) p q result
        named result is =
            subst (λ (b : Option ℕ). PairOrOver i.params.library b p q result) (sym (ap buffer_of here))
            (subst (λ (w : Params). PairOrOver w.library buffer p q result) params_is is)

        pub pair_here : (get_or nodes (left - first) m).wire ≤ max_length → (get_or nodes (right - first) n).wire ≤ max_length → (result : Option Subtree)
            → PairOrOver params.library buffer p q result → IfSome result Here
        pair_here left_short right_short None is = tt
        pair_here left_short right_short (Some s) is =
            stands (children_from first) (IsSubtree i) nodes k t s (found k t h at_pair.tree)
            (pair_is i at_pair.left at_pair.right (get_or nodes k e) a b left_value right_value (get_or nodes (left - first) m).wire
            (get_or nodes (right - first) n).wire (left_wire m) (right_wire n) p q left_branch right_branch s (named (Some s) is) left_short right_short)

        pub pair_next : (get_or nodes (left - first) m).wire ≤ max_length → (get_or nodes (right - first) n).wire ≤ max_length → (result : Option Subtree)
            → PairOrOver params.library buffer p q result
            → IfSome result (λ s. AreWaiting (children_from first) nodes (IsSubtree i) (k + 1) (rest ++ s ∷ []))
        pair_next left_short right_short None is = tt
        pair_next left_short right_short (Some s) is = pair_waits s (pair_here left_short right_short (Some s) is)

        pub pair_fails : (result : Option Subtree) → PairOrOver params.library buffer p q result → IfNone result Over
        pair_fails None is =
            fails
            (pair_over i at_pair.left at_pair.right (get_or nodes k e) a b left_value right_value (get_or nodes (left - first) m).wire
            (get_or nodes (right - first) n).wire (left_wire m) (right_wire n) p q left_branch right_branch (named None is))
        pair_fails (Some s) is = tt

-- what is known of the nodes up to a number, with one more; and the least number that fails
module _ (i : Parts) (kids : TreeNode → Option (ℕ × ℕ)) (nodes : List TreeNode) (k : ℕ) (h : k < length nodes) (figures : List NodeFigure)
    (known : AllZip (IsKnownBelow i) (take k (trees_of kids nodes)) figures) where
  pub known_next : (s : Subtree) → StandsAt kids nodes (IsSubtree i) k s → (f : NodeFigure) → f.below ≡ s.below
      → f.residue ≡ s.residue → f.offset ≡ s.offset
      → AllZip (IsKnownBelow i) (take (k + 1) (trees_of kids nodes)) (figures ++ f ∷ [])
  known_next s here f below residue_is offset_is = by_found (slice_get (trees_of kids nodes) k) refl here
    where
      by_found : (o : Option (BinaryTree TreeNode)) → slice_get (trees_of kids nodes) k ≡ o
          → IfSome o (λ t. IsSubtree i t s)
          → AllZip (IsKnownBelow i) (take (k + 1) (trees_of kids nodes)) (figures ++ f ∷ [])
      by_found None none is =
          let some : k < length (trees_of kids nodes) = omega (arith, h, length-trees_of kids nodes) in
          absurd (slice_get_none (trees_of kids nodes) k some none)
      by_found (Some t) found is =
          up_more kids (IsKnownBelow i) nodes k t t figures f h (get_or_from_slice_get (trees_of kids nodes) k t t found) known
          (record {
            below = below ∙ is.below;
            residue_is = residue_is ∙ is.residue_is;
            offset = offset_is ∙ is.offset;
            seen = ap (seen_load_of i.params.library (buffer_of (label t).kind)) below ∙ sym is.seen_by_kind ∙ is.seen;
            not_over = is.not_over;
          })

  pub first_failure : IfSome (slice_get (trees_of kids nodes) k) (IsPairOver i)
      → IsLeastFailure kids nodes (IsPairOver i) k
  first_failure over = by_found (slice_get (trees_of kids nodes) k) refl over
    where
      by_found : (o : Option (BinaryTree TreeNode)) → slice_get (trees_of kids nodes) k ≡ o → IfSome o (IsPairOver i)
          → IsLeastFailure kids nodes (IsPairOver i) k
      by_found None none fails =
          let some : k < length (trees_of kids nodes) = omega (arith, h, length-trees_of kids nodes) in
          absurd (slice_get_none (trees_of kids nodes) k some none)
      by_found (Some t) found fails =
          least_failure kids (IsKnownBelow i) (IsPairOver i) (λ u f is. is.not_over) nodes figures k t known found fails

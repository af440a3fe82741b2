-- One step of the balance: what is known of the node at the next number.
use Rattle.std.proofs.Common.{◌≡◌, ℕ, ◌+◌, ◌-◌, ◌<◌, ◌≤◌, ◌++◌, ◌∷◌, [], List, map, length, get_or, slice_get, Option, Some, None, IfSome, MatchOption, sym, ap, subst, ◌∙◌, arith}
use Rattle.std.specs.List.{All}
use Rattle.std.proofs.lemmas.Option.{slice_get-get_or}
use Rattle.cts_units.specs.declared.params.Sink.{Sink}
use Rattle.cts_units.specs.declared.params.Params.{Params}
use Rattle.cts_units.specs.Limits.{IsParams}
use Rattle.cts_postorder.specs.BinaryTree.{BinaryTree, tip, fork, label, size}
use Rattle.cts_postorder.specs.PostOrder.{IsPostOrder, trees_of}
use Rattle.cts_postorder.specs.Waiting.{AreWaiting, StandsAt}
use Rattle.cts_postorder.proofs.Growth.{length-trees_of, label-tree}
use Rattle.cts_postorder.proofs.Failures.{size-tree}
use Rattle.cts_postorder.proofs.Lists.{IsPair, is_pair}
use Rattle.cts_postorder.proofs.Upward.{leaf_here}
use Rattle.cts_postorder.proofs.Waiting.{AtPair, waiting_at_leaf, waiting_at_pair, two_wait}
use Rattle.cts_tree.specs.declared.nodes.NodeKind.{NodeKind}
use Rattle.cts_tree.specs.declared.nodes.NodeKind.TheVariants.{Leaf, Pair}
use Rattle.cts_tree.specs.declared.nodes.TreeNode.{TreeNode}
use Rattle.cts_tree.specs.Nodes.{children_of_from, children_from, buffer_of}
use Rattle.cts_embed.specs.declared.node.NodeBalance.{NodeBalance}
use Rattle.cts_embed.specs.Balance.{IsBalance, IsBeyondBalance, IsLeafBalance, IsPairBalance, IsPairBeyond, sink_of}
use Rattle.cts_embed.specs.Fitting.{NamesWithin}
use Rattle.cts_embed.specs.Range.{IsInRange}
use Rattle.cts_embed.proofs.OfLeaves.{IsSmallSink}
use Rattle.cts_embed.proofs.Range.{in_range}

-- what a leaf or a pair names, where its kind is known
pub leaf_names : (sinks buffers id s : ℕ) (kind : NodeKind) → kind ≡ Leaf id s → NamesWithin sinks buffers kind → s < sinks
unfolding NamesWithin
leaf_names sinks buffers id s kind is names = subst (NamesWithin sinks buffers) is names

pub pair_names : (sinks buffers l r : ℕ) (buffer : Option ℕ) (kind : NodeKind) → kind ≡ Pair l r buffer
    → NamesWithin sinks buffers kind → MatchOption buffer (Unit {0}) (λ index. index < buffers)
unfolding NamesWithin
pair_names sinks buffers l r buffer kind is names = by_buffer buffer (subst (NamesWithin sinks buffers) is names)
  where
    by_buffer : (b : Option ℕ) → NamesWithin sinks buffers (Pair l r b) → MatchOption b (Unit {0}) (λ index. index < buffers)
    by_buffer None h = tt
    by_buffer (Some index) h = h

-- the tree at a number, and a value of it
pub tree_found : {N : Type 0} (kids : N → Option (ℕ × ℕ)) (nodes : List N) (number : ℕ) (t d : BinaryTree N) → number < length nodes
    → get_or (trees_of kids nodes) number d ≡ t → slice_get (trees_of kids nodes) number ≡ Some t
tree_found kids nodes number t d within is =
    slice_get-get_or (trees_of kids nodes) number d (omega (arith, length-trees_of kids nodes)) ∙ ap Some is

module _ {N V : Type 0} (kids : N → Option (ℕ × ℕ)) (R : BinaryTree N → V → Type 0) (nodes : List N) (number : ℕ)
    (t d : BinaryTree N) (v : V) (within : number < length nodes) (is : get_or (trees_of kids nodes) number d ≡ t) where
  pub stands : R t v → StandsAt kids nodes R number v
  stands has = subst (λ o. IfSome o (λ u. R u v)) (sym (tree_found kids nodes number t d within is)) has

  pub stood : StandsAt kids nodes R number v → R t v
  stood has = subst (λ o. IfSome o (λ u. R u v)) (tree_found kids nodes number t d within is) has

-- The nodes of a stretch of a placed tree, whose children are counted from `first` on, and the balances that wait at number k.
module _ (first : ℕ) (params : Params) (sinks : List Sink) (nodes : List TreeNode) (ok : IsPostOrder (map (children_from first) nodes))
    (k : ℕ) (h : k < length nodes) (waiting : List NodeBalance)
    (before : AreWaiting (children_from first) nodes (IsBalance params sinks) k waiting) where
  abbrev pub Here : NodeBalance → Type 0
  Here node = StandsAt (children_from first) nodes (IsBalance params sinks) k node

  abbrev pub BeyondHere : Type 0
  BeyondHere = IfSome (slice_get (trees_of (children_from first) nodes) k) (IsBeyondBalance params sinks)

  module _ (id s : ℕ) (e : TreeNode) (here : (get_or nodes k e).kind ≡ Leaf id s) (within : s < length sinks) (d : Sink)
      (node : NodeBalance) (leaf : IsLeafBalance (get_or sinks s d) node) where
    pub leaf_stands : Here node
    unfolding IsBalance
    leaf_stands =
        let n : TreeNode = get_or nodes k e in
        let named : sink_of sinks n.kind ≡ Some (get_or sinks s d) = ap (sink_of sinks) here ∙ slice_get-get_or sinks s d within in
        let is : IsBalance params sinks (tip n) node =
        subst (λ (o : Option Sink). MatchOption o ⊥ (λ x. IsLeafBalance x node)) (sym named) leaf in
        stands (children_from first) (IsBalance params sinks) nodes k (tip n) (tip e) node h
        (leaf_here (children_from first) (IsBalance params sinks) nodes k e (tip e) h (ap (children_of_from first) here)) is

    pub leaf_next : AreWaiting (children_from first) nodes (IsBalance params sinks) (k + 1) (waiting ++ node ∷ [])
    leaf_next = waiting_at_leaf (children_from first) nodes (IsBalance params sinks) k e h waiting before (ap (children_of_from first) here) node leaf_stands

  module _ (left right : ℕ) (buffer : Option ℕ) (e : TreeNode) (here : (get_or nodes k e).kind ≡ Pair left right buffer) where
    at_pair : IsPair (children_from first) nodes k (left - first, right - first) (get_or nodes k e)
    at_pair = is_pair (children_from first) nodes ok k e (left - first, right - first) h (ap (children_of_from first) here)

    pub left_within : left - first < length nodes
    left_within = omega (arith, at_pair.left_below)

    pub right_within : right - first < length nodes
    right_within = omega (arith, at_pair.right_below)

    pub two_ready : 2 ≤ length waiting
    two_ready = two_wait (children_from first) nodes (IsBalance params sinks) k e h waiting before (left - first, right - first) (ap (children_of_from first) here)

    left_label : (f : TreeNode) → label at_pair.left ≡ get_or nodes (left - first) f
    left_label f =
        ap label (sym (at_pair.left_tree (tip e))) ∙ label-tree (children_from first) nodes (left - first) (tip e) f left_within

    right_label : (f : TreeNode) → label at_pair.right ≡ get_or nodes (right - first) f
    right_label f =
        ap label (sym (at_pair.right_tree (tip e))) ∙ label-tree (children_from first) nodes (right - first) (tip e) f right_within

    -- the balances of the two children
    module _ (rest : List NodeBalance) (a b : NodeBalance) (taken : waiting ≡ rest ++ a ∷ b ∷ []) where
      values : AtPair (children_from first) nodes (IsBalance params sinks) k (left - first, right - first) rest a b
      values =
          waiting_at_pair (children_from first) nodes (IsBalance params sinks) k e h waiting before (left - first, right - first) (ap (children_of_from first) here) rest a b taken

      left_is : IsBalance params sinks at_pair.left a
      left_is =
          stood (children_from first) (IsBalance params sinks) nodes (left - first) at_pair.left (tip e) a left_within (at_pair.left_tree (tip e)) values.left_value

      right_is : IsBalance params sinks at_pair.right b
      right_is =
          stood (children_from first) (IsBalance params sinks) nodes (right - first) at_pair.right (tip e) b right_within (at_pair.right_tree (tip e))
          values.right_value

      -- each of which has no more nodes than there are
      few_below : (number : ℕ) (u : BinaryTree TreeNode) → number < length nodes
          → ((d : BinaryTree TreeNode) → get_or (trees_of (children_from first) nodes) number d ≡ u) → length nodes ≤ 131071 → size u ≤ 131071
      few_below number u within is few =
          omega (arith, size-tree (children_from first) nodes ok number (tip e) within, ap size (is (tip e)), few, within)

      pub left_ready : IsParams params → All IsSmallSink sinks → length nodes ≤ 131071 → IsInRange a
      left_ready ranged small few =
          in_range params sinks at_pair.left a left_is ranged small (few_below (left - first) at_pair.left left_within at_pair.left_tree few)

      pub right_ready : IsParams params → All IsSmallSink sinks → length nodes ≤ 131071 → IsInRange b
      right_ready ranged small few =
          in_range params sinks at_pair.right b right_is ranged small (few_below (right - first) at_pair.right right_within at_pair.right_tree few)

      -- the lengths of the routes to them
      module _ (f g : TreeNode) (la lb : ℕ) (first_route : la ≡ (get_or nodes (left - first) f).route.length)
          (second_route : lb ≡ (get_or nodes (right - first) g).route.length) where
        routes : (P : ℕ → ℕ → Option ℕ → Type 0) → P la lb buffer
            → P (label at_pair.left).route.length (label at_pair.right).route.length (buffer_of (get_or nodes k e).kind)
        routes P has =
            let left_same : la ≡ (label at_pair.left).route.length =
            first_route ∙ ap (λ (n : TreeNode). n.route.length) (sym (left_label f)) in
            let right_same : lb ≡ (label at_pair.right).route.length =
            second_route ∙ ap (λ (n : TreeNode). n.route.length) (sym (right_label g)) in
            let buffer_same : buffer ≡ buffer_of (get_or nodes k e).kind = sym (ap buffer_of here) in
            subst (λ x. P x (label at_pair.right).route.length (buffer_of (get_or nodes k e).kind)) left_same
            (subst (λ x. P la x (buffer_of (get_or nodes k e).kind)) right_same (subst (λ x. P la lb x) buffer_same has))

        -- a pair is balanced by parameters that are these
        module _ (lent : Params) (same : lent ≡ params) where
          module _ (node : NodeBalance) (is : IsPairBalance lent buffer a la b lb node) where
            pub pair_stands : Here node
            unfolding IsBalance
            pair_stands =
                stands (children_from first) (IsBalance params sinks) nodes k (fork at_pair.left at_pair.right (get_or nodes k e)) (tip e) node h
                (at_pair.tree (tip e)) (
                  a,
                  b,
                  left_is,
                  right_is,
                  routes (λ x y u. IsPairBalance params u a x b y node)
                      (subst (λ ps. IsPairBalance ps buffer a la b lb node) same is),
                )

            pub pair_next : AreWaiting (children_from first) nodes (IsBalance params sinks) (k + 1) (rest ++ node ∷ [])
            pair_next = values.next node pair_stands

          pub pair_beyond : IsPairBeyond lent buffer a la b lb → BeyondHere
          unfolding IsBeyondBalance
          pair_beyond over =
              let t : BinaryTree TreeNode = fork at_pair.left at_pair.right (get_or nodes k e) in
              subst (λ o. IfSome o (IsBeyondBalance params sinks))
              (sym (tree_found (children_from first) nodes k t (tip e) h (at_pair.tree (tip e)))) (
                a,
                b,
                left_is,
                right_is,
                routes (λ x y u. IsPairBeyond params u a x b y) (subst (λ ps. IsPairBeyond ps buffer a la b lb) same over),
              )

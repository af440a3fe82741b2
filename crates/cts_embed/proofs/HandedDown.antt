-- The lengths of the wires, handed down from each pair to its two parts.
use Rattle.std.proofs.Common.{◌≡◌, ℕ, ◌+◌, ◌-◌, ◌<◌, ◌≤◌, inl, inr, List, map, set, length, get_or, Option, refl, ap, subst, ◌∙◌}
use Rattle.std.specs.List.{AllZip}
use Rattle.std.proofs.lemmas.List.{get_or_default, set-get_or}
use Rattle.cts_postorder.specs.BinaryTree.{tip, fork, label}
use Rattle.cts_postorder.specs.PostOrder.{IsPostOrder}
use Rattle.cts_postorder.specs.Occurrence.{occurrences_of}
use Rattle.cts_postorder.specs.Waiting.{StandsAt}
use Rattle.cts_postorder.proofs.Lists.{IsPair, is_pair, Whole, whole_of}
use Rattle.cts_tree.specs.declared.nodes.TreeNode.{TreeNode}
use Rattle.cts_tree.specs.declared.nodes.NodeKind.TheVariants.{Leaf, Pair}
use Rattle.cts_tree.specs.Nodes.{children_of_from, children_from}
use Rattle.cts_instance.specs.declared.parts.Parts.{Parts}
use Rattle.cts_embed.specs.declared.node.NodeBalance.{NodeBalance}
use Rattle.cts_embed.specs.Balance.{IsBalance}
use Rattle.cts_embed.specs.BalancedTree.{IsWireLength, IsWireBelow, IsWireBelowOf}
use Rattle.cts_embed.proofs.PartsOfPairs.{ArePartsRight, parts_at_start, parts_at_leaf, parts_at_pair, parts_all}
use Rattle.cts_embed.proofs.Steps.{stood}

-- there is a place for each node, and the lengths of the wires below the pairs before number k are set
abbrev pub AreWired : Parts → ℕ → List TreeNode → ℕ → List ℕ → Type 0
AreWired parts first nodes k wires = (e : TreeNode) → ArePartsRight (children_from first) nodes e (IsWireBelowOf parts) k wires

module _ (parts : Parts) (first : ℕ) (nodes : List TreeNode) (ok : IsPostOrder (map (children_from first) nodes)) where
  pub wired_at_start : (wires : List ℕ) → length wires ≡ length nodes → AreWired parts first nodes 0 wires
  wired_at_start wires long e = parts_at_start (children_from first) (IsWireBelowOf parts) nodes e wires long

  module _ (k : ℕ) (wires : List ℕ) (wired : AreWired parts first nodes k wires) where
    module _ (e0 : TreeNode) (h : k < length nodes) where
      same_kind : (e : TreeNode) → (get_or nodes k e).kind ≡ (get_or nodes k e0).kind
      same_kind e = ap (λ (n : TreeNode). n.kind) (get_or_default nodes k e e0 h)

      pub wired_at_leaf : (id s : ℕ) → (get_or nodes k e0).kind ≡ Leaf id s → AreWired parts first nodes (k + 1) wires
      wired_at_leaf id s here e =
          parts_at_leaf (children_from first) (IsWireBelowOf parts) nodes e wires k (wired e) (ap (children_of_from first) (same_kind e ∙ here))

      module _ (l r : ℕ) (buffer : Option ℕ) (here : (get_or nodes k e0).kind ≡ Pair l r buffer) where
        pair : (e : TreeNode) → IsPair (children_from first) nodes k (l - first, r - first) (get_or nodes k e)
        pair e = is_pair (children_from first) nodes ok k e (l - first, r - first) h (ap (children_of_from first) (same_kind e ∙ here))

        -- at a pair its two lengths are set
        module _ (b : NodeBalance) (stands : StandsAt (children_from first) nodes (IsBalance parts.params parts.sinks) k b) where
          balance : (e : TreeNode) → IsBalance parts.params parts.sinks (fork (pair e).left (pair e).right (get_or nodes k e)) b
          balance e =
              stood (children_from first) (IsBalance parts.params parts.sinks) nodes k (fork (pair e).left (pair e).right (get_or nodes k e)) (tip e) b h
              ((pair e).tree (tip e)) stands

          pub wired_at_pair : AreWired parts first nodes (k + 1) (set (set wires (l - first) b.left_wire) (r - first) b.right_wire)
          unfolding IsWireBelow IsWireLength
          wired_at_pair e =
              parts_at_pair (children_from first) (IsWireBelowOf parts) nodes e wires k (wired e) (l - first, r - first) b.left_wire b.right_wire
              (ap (children_of_from first) (same_kind e ∙ here)) (pair e) h
              (b, balance e, inl (refl, refl)) (b, balance e, inr (refl, refl))

    w : Whole (children_from first) nodes
    w = whole_of (children_from first) nodes ok

    -- at the end all of them are, and nothing is said of the root's
    pub wired_all : length nodes ≤ k → AllZip (IsWireBelowOf parts) (occurrences_of (children_from first) nodes) wires
    unfolding IsWireBelow
    wired_all whole =
        let last : ℕ = length nodes - 1 in
        subst (AllZip (IsWireBelowOf parts) (occurrences_of (children_from first) nodes)) (set-get_or wires last 0)
        (parts_all (children_from first) (IsWireBelowOf parts) nodes (label w.tree) wires k (wired (label w.tree)) ok whole w.tree
        (get_or wires last 0) w.root_is tt)

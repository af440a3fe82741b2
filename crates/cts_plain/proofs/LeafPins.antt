-- The leaves keep their pins in the balance.
use Rattle.std.proofs.Common.{◌≡◌, List, [], ◌∷◌, map, slice_get, refl, ap, sym, ◌∙◌}
use Rattle.std.specs.List.{AllZip, cons_option}
use Rattle.std.specs.Option.{option_and_then, option_map}
use Rattle.cts_postorder.specs.PostOrder.{IsPostOrder}
use Rattle.cts_tree.specs.declared.nodes.NodeKind.{NodeKind}
use Rattle.cts_tree.specs.declared.nodes.TreeNode.{TreeNode}
use Rattle.cts_tree.specs.Nodes.{leaf_sink, tree_children}
use Rattle.cts_instance.specs.declared.parts.Parts.{Parts}
use Rattle.cts_embed.specs.BalancedTree.{IsBalancedTree}
use Rattle.cts_elmore.specs.Loads.{pin_of, leaf_pin, leaf_pins}
use Rattle.cts_plain.proofs.Reached.{Keeps, kept}

module _ (i : Parts) where
  pin_kept : (m n : TreeNode) → Keeps m n → leaf_pin i m ≡ leaf_pin i n
  pin_kept m n keeps =
      ap (λ (kind : NodeKind). option_map pin_of (option_and_then (slice_get i.sinks) (leaf_sink kind)))
      (sym keeps.kind)

  pins_kept : (placed tree : List TreeNode) → AllZip Keeps placed tree → leaf_pins i placed ≡ leaf_pins i tree
  pins_kept [] [] all = refl
  pins_kept [] (n ∷ tree) all = absurd all
  pins_kept (m ∷ placed) [] all = absurd all
  pins_kept (m ∷ placed) (n ∷ tree) (keeps, rest) =
      ap (λ pin. cons_option pin (leaf_pins i placed)) (pin_kept m n keeps)
      ∙ ap (cons_option (leaf_pin i n)) (pins_kept placed tree rest)

  pub leaf_pins_kept : (placed : List TreeNode) → IsPostOrder (map tree_children placed) → (tree : List TreeNode)
      → IsBalancedTree i placed tree → leaf_pins i placed ≡ leaf_pins i tree
  leaf_pins_kept placed ok tree balanced = pins_kept placed tree (kept i placed ok tree balanced)

-- Stretches of a tree's nodes, whose children are counted from the stretch's first number on.
use Rattle.std.proofs.Common.{◌≡◌, ℕ, ◌+◌, ◌-◌, refl, ap, ◌∙◌, arith}
use Rattle.std.specs.Prelude.{Some}
use Rattle.std.proofs.Math.Path.{fun_ext}
use Rattle.cts_postorder.proofs.Cut.{kids_further}
use Rattle.cts_postorder.proofs.Stretches.{counted_from}
use Rattle.cts_tree.specs.declared.nodes.NodeKind.{NodeKind}
use Rattle.cts_tree.specs.declared.nodes.NodeKind.TheVariants.{Leaf, Pair}
use Rattle.cts_tree.specs.declared.nodes.TreeNode.{TreeNode}
use Rattle.cts_tree.specs.Nodes.{children_of, children_of_from, children_from, tree_children}

children_from_start : (kind : NodeKind) → children_of_from 0 kind ≡ children_of kind
children_from_start (Leaf id sink) = refl
children_from_start (Pair left right buffer) =
    let l : left - 0 ≡ left = omega arith in
    let r : right - 0 ≡ right = omega arith in
    ap (λ (a : ℕ). Some (a, right - 0)) l ∙ ap (λ (b : ℕ). Some (left, b)) r

-- from number 0 on they are those of the whole tree
pub whole_from_start : children_from 0 ≡ tree_children
whole_from_start = fun_ext (λ node. children_from_start node.kind)

-- they are the children of the node in the whole tree, less the number each
counts_of : (first : ℕ) (kind : NodeKind) → children_of_from first kind ≡ counted_from first (children_of kind)
counts_of first (Leaf id sink) = refl
counts_of first (Pair left right buffer) = refl

pub counts_from : (first : ℕ) (node : TreeNode) → children_from first node ≡ counted_from first (tree_children node)
counts_from first node = counts_of first node.kind

-- and those of the node in a stretch that begins earlier, less the number of nodes between
pub counts_further : (first more : ℕ) (node : TreeNode) → children_from (first + more) node ≡ counted_from more (children_from first node)
counts_further = kids_further tree_children children_from counts_from

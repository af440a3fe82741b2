-- Stretches of a shape's nodes, whose children are counted from the stretch's first number on.
use Rattle.std.proofs.Common.{◌≡◌, ℕ, ◌+◌, ◌-◌, List, map, refl, sym, ap, subst, ◌∙◌, arith}
use Rattle.std.specs.Prelude.{Some}
use Rattle.std.proofs.Math.Path.{fun_ext}
use Rattle.cts_postorder.specs.PostOrder.{IsPostOrder}
use Rattle.cts_postorder.proofs.Cut.{kids_further}
use Rattle.cts_postorder.proofs.Stretches.{all_from_start, counted_from}
use Rattle.cts_topo.specs.declared.shape.ShapeNode.{ShapeNode}
use Rattle.cts_topo.specs.declared.shape.ShapeNode.TheVariants.{Leaf, Pair}
use Rattle.cts_topo.specs.Shape.{children, children_from, IsShapeOver, IsStretchOver}

from_start : (node : ShapeNode) → children_from 0 node ≡ children node
from_start (Leaf sink) = refl
from_start (Pair left right) =
    let l : left - 0 ≡ left = omega arith in
    let r : right - 0 ≡ right = omega arith in
    ap (λ (a : ℕ). Some (a, right - 0)) l ∙ ap (λ (b : ℕ). Some (left, b)) r

-- from number 0 on they are those of the whole shape
pub whole_from_start : children_from 0 ≡ children
whole_from_start = fun_ext from_start

-- they are the children of the node in the whole shape, less the number each
pub counts_from : (first : ℕ) (node : ShapeNode) → children_from first node ≡ counted_from first (children node)
counts_from first (Leaf sink) = refl
counts_from first (Pair left right) = refl

-- and those of the node in a stretch that begins earlier, less the number of nodes between
pub counts_further : (first more : ℕ) (node : ShapeNode) → children_from (first + more) node ≡ counted_from more (children_from first node)
counts_further = kids_further children children_from counts_from

-- a whole shape is the stretch that begins at number 0
pub whole_is_stretch : (count : ℕ) (nodes : List ShapeNode) → IsShapeOver count nodes → IsStretchOver count 0 nodes
whole_is_stretch count nodes over = record {
  post_order = subst (λ kids. IsPostOrder (map kids nodes)) (sym whole_from_start) over.post_order;
  numbered = all_from_start children nodes;
  within = over.within;
}

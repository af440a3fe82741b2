-- What is joined at each join.
use Rattle.std.proofs.Common.{◌≡◌, ℕ, ◌<◌, List, [], ◌∷◌, ◌++◌, take, length, get_or, ap, ap₂, ◌∙◌, arith}
use Rattle.std.proofs.lemmas.List.{get_or_default, get_or_push, get_or-take}
use Rattle.std.proofs.Math.ListN.{get_or-append}
use Rattle.cts_postorder.specs.BinaryTree.{BinaryTree, tip}
use Rattle.cts_postorder.specs.PostOrder.{tree_over, grow, trees_of}
use Rattle.cts_postorder.proofs.Growth.{length-trees_of, trees_of-at, grow-append}
use Rattle.cts_topo.specs.declared.shape.ShapeNode.{ShapeNode}
use Rattle.cts_topo.specs.declared.shape.ShapeNode.TheVariants.{Leaf, Pair}
use Rattle.cts_topo.specs.Shape.{children}
use Rattle.cts_near.specs.Parts.{single, pair}
use Rattle.cts_near.specs.Forest.{outline, tree_at}

trees_push : (joins : List ShapeNode) (n : ShapeNode)
    → trees_of children (joins ++ n ∷ []) ≡ trees_of children joins ++ tree_over (children n) (trees_of children joins) n ∷ []
unfolding trees_of grow
trees_push joins n = grow-append children [] joins (n ∷ [])

-- a further join changes nothing that is there
pub tree_at-keeps : (joins : List ShapeNode) (n : ShapeNode) (k : ℕ) → k < length joins
    → tree_at (joins ++ n ∷ []) k ≡ tree_at joins k
unfolding tree_at
tree_at-keeps joins n k h =
    ap (λ ts. outline (get_or ts k (tip (Leaf 0)))) (trees_push joins n)
    ∙ ap outline (get_or-append (trees_of children joins) _ (tip (Leaf 0)) k (omega (arith, length-trees_of children joins)))

-- a further join joins the two that it names
pub tree_at-new : (joins : List ShapeNode) (l r : ℕ) → l < length joins → r < length joins
    → tree_at (joins ++ Pair l r ∷ []) (length joins) ≡ pair (tree_at joins l) (tree_at joins r)
unfolding tree_at tree_over outline
tree_at-new joins l r hl hr =
    let ts : List (BinaryTree ShapeNode) = trees_of children joins in
    let n : ShapeNode = Pair l r in
    let long : length ts ≡ length joins = length-trees_of children joins in
    ap (λ us. outline (get_or us (length joins) (tip (Leaf 0)))) (trees_push joins n)
    ∙ ap outline (get_or_push ts (tree_over (children n) ts n) (tip (Leaf 0)) (length joins) long)
    ∙ ap₂ (λ a b. pair (outline a) (outline b)) (get_or_default ts l (tip n) (tip (Leaf 0)) (omega arith))
    (get_or_default ts r (tip n) (tip (Leaf 0)) (omega arith))

pub tree_at-leaf : (joins : List ShapeNode) (k sink : ℕ) (e : ShapeNode) → k < length joins → get_or joins k e ≡ Leaf sink
    → tree_at joins k ≡ single sink
unfolding tree_at tree_over outline
tree_at-leaf joins k sink e h is =
    let before : List (BinaryTree ShapeNode) = take k (trees_of children joins) in
    ap outline (trees_of-at children joins k e (tip (Leaf 0)) h ∙ ap (λ m. tree_over (children m) before m) is)

pub tree_at-pair : (joins : List ShapeNode) (k l r : ℕ) (e : ShapeNode) → k < length joins → get_or joins k e ≡ Pair l r
    → l < k → r < k → tree_at joins k ≡ pair (tree_at joins l) (tree_at joins r)
unfolding tree_at tree_over outline
tree_at-pair joins k l r e h is hl hr =
    let ts : List (BinaryTree ShapeNode) = trees_of children joins in
    let d : BinaryTree ShapeNode = tip (Leaf 0) in
    let n : ShapeNode = Pair l r in
    let long : length ts ≡ length joins = length-trees_of children joins in
    let part : (i : ℕ) → i < k → get_or (take k ts) i (tip n) ≡ get_or ts i d =
    λ i w. get_or-take k ts i (tip n) w ∙ get_or_default ts i (tip n) d (omega arith) in
    ap outline (trees_of-at children joins k e d h ∙ ap (λ m. tree_over (children m) (take k ts) m) is)
    ∙ ap₂ (λ a b. pair (outline a) (outline b)) (part l hl) (part r hr)

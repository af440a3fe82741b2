-- Lists of nodes in post-order, and the trees that they spell.
use Rattle.std.specs.Prelude.{◌≡◌, ℕ, ◌+◌, ◌-◌, ◌≤◌, List, [], ◌∷◌, ◌++◌, length, slice_index_or, slice_get, Option, Some, None, IfSome}
use Rattle.std.specs.Coded.{Coded-set, coded×, coded_ℕ, ×_prop, Unit-prop}
use Rattle.cts_postorder.specs.BinaryTree.{BinaryTree, tip, fork}

-- A list of nodes, each told by the numbers of its children, is read from its front with a stack: the numbers of the
-- trees that wait for a pair above them, the latest first. The next node has the number k. A leaf goes onto the stack.
-- A pair takes the two latest trees from it, the later one as its right child, and goes onto it. At the end one tree
-- stands there.
unfoldable pub IsPostOrderFrom : List (Option (ℕ × ℕ)) → List ℕ → ℕ → Type 0
IsPostOrderFrom [] (a ∷ []) k = Unit {0}
IsPostOrderFrom [] stack k = ⊥
IsPostOrderFrom (None ∷ nodes) stack k = IsPostOrderFrom nodes (k ∷ stack) (k + 1)
IsPostOrderFrom (Some children ∷ nodes) (b ∷ a ∷ stack) k =
    (children ≡ (a, b)) × IsPostOrderFrom nodes (k ∷ stack) (k + 1)
IsPostOrderFrom (Some children ∷ nodes) stack k = ⊥

-- the nodes, from number 0 on, are those of one tree in post-order
abbrev pub IsPostOrder : List (Option (ℕ × ℕ)) → Type 0
IsPostOrder nodes = IsPostOrderFrom nodes [] 0

-- a type may keep it as an invariant: there is one proof of it at most
pub IsPostOrderFrom-prop : (nodes : List (Option (ℕ × ℕ))) (stack : List ℕ) (k : ℕ) → IsProp (IsPostOrderFrom nodes stack k)
unfolding IsPostOrderFrom
IsPostOrderFrom-prop [] [] k = λ x y. absurd x
IsPostOrderFrom-prop [] (a ∷ []) k = Unit-prop
IsPostOrderFrom-prop [] (b ∷ a ∷ stack) k = λ x y. absurd x
IsPostOrderFrom-prop (None ∷ nodes) stack k = IsPostOrderFrom-prop nodes (k ∷ stack) (k + 1)
IsPostOrderFrom-prop (Some children ∷ nodes) [] k = λ x y. absurd x
IsPostOrderFrom-prop (Some children ∷ nodes) (b ∷ []) k = λ x y. absurd x
IsPostOrderFrom-prop (Some children ∷ nodes) (b ∷ a ∷ stack) k =
    ×_prop (Coded-set (coded× coded_ℕ coded_ℕ) children (a, b)) (IsPostOrderFrom-prop nodes (k ∷ stack) (k + 1))

-- The tree at a node, over the trees of the nodes before it: a tip where the node names no children, else a pair of
-- the two trees that it names. A number that names no earlier node gives a tip, so that every list has trees.
unfoldable pub tree_over : {N : Type 0} → Option (ℕ × ℕ) → List (BinaryTree N) → N → BinaryTree N
tree_over None before n = tip n
tree_over (Some children) before n =
    fork (slice_index_or before (children.0) (tip n)) (slice_index_or before (children.1) (tip n)) n

-- the trees before, and then the tree at each further node
unfoldable pub grow : {N : Type 0} → (N → Option (ℕ × ℕ)) → List (BinaryTree N) → List N → List (BinaryTree N)
grow kids before [] = before
grow kids before (n ∷ nodes) = grow kids (before ++ tree_over (kids n) before n ∷ []) nodes

-- the tree at each node of a list, by number
unfoldable pub trees_of : {N : Type 0} → (N → Option (ℕ × ℕ)) → List N → List (BinaryTree N)
trees_of kids nodes = grow kids [] nodes

-- the whole tree: the one at the last node
unfoldable pub root_of : {N : Type 0} → (N → Option (ℕ × ℕ)) → List N → Option (BinaryTree N)
root_of kids nodes = slice_get (trees_of kids nodes) (length nodes - 1)

-- the children that a node names, if any, have the number `first` or later ones
abbrev pub NamesFrom : {N : Type 0} → (N → Option (ℕ × ℕ)) → ℕ → N → Type 0
NamesFrom kids first n = IfSome (kids n) (λ (c : ℕ × ℕ). (first ≤ c.0) × (first ≤ c.1))

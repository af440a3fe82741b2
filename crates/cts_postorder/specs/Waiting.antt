-- A pass upward that keeps a value only of the trees that still wait for the pair above them.
use Rattle.std.specs.Prelude.{◌≡◌, ℕ, ◌+◌, List, ◌∷◌, map, drop, reverse, slice_get, IfSome, Option}
use Rattle.std.specs.List.{AllZip}
use Rattle.cts_postorder.specs.BinaryTree.{BinaryTree}
use Rattle.cts_postorder.specs.PostOrder.{IsPostOrderFrom, trees_of}

-- the tree at a number stands in the relation to a value
abbrev pub StandsAt : {N V : Type 0} → (N → Option (ℕ × ℕ)) → List N → (BinaryTree N → V → Type 0) → ℕ → V → Type 0
StandsAt kids nodes R number value = IfSome (slice_get (trees_of kids nodes) number) (λ t. R t value)

-- The values of the trees that wait once the nodes before number k are read, the latest tree last: the stack of their
-- numbers is the one from which the other nodes are read, and the node before k is the latest on it.
pub record AreWaiting {N V : Type 0} (kids : N → Option (ℕ × ℕ)) (nodes : List N) (R : BinaryTree N → V → Type 0) (k : ℕ)
    (values : List V) : Type 0 where
  pub stack : List ℕ
  pub reads : IsPostOrderFrom (map kids (drop k nodes)) stack k
  pub latest : (number : ℕ) (rest : List ℕ) → stack ≡ number ∷ rest → number + 1 ≡ k
  pub each_value : AllZip (StandsAt kids nodes R) stack (reverse values)

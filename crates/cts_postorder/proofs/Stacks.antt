-- Steps of reading with a stack, and its completion.
use Rattle.std.proofs.Common.{◌≡◌, ℕ, zero, suc, ◌+◌, ◌-◌, ◌<◌, ◌≤◌, List, [], ◌∷◌, length, Option, Some, None, refl, ap, inl, inr, arith}
use Rattle.std.proofs.lemmas.Bool.{cases_lt}
use Rattle.cts_postorder.specs.PostOrder.{IsPostOrderFrom}
use Rattle.cts_postorder.specs.Stack.{stack_after, IsOpen, Completion, OpenIsCompletable}

-- the node names the two trees that a pair would take: the latest as its right child, the one before it as its left
abbrev pub IsJoin : Option (ℕ × ℕ) → List ℕ → Type 0
IsJoin None stack = Unit {0}
IsJoin (Some children) [] = ⊥
IsJoin (Some children) (b ∷ []) = ⊥
IsJoin (Some children) (b ∷ a ∷ stack) = children ≡ (a, b)

-- a node that joins, and then the rest
pub post_joins : (children : Option (ℕ × ℕ)) (nodes : List (Option (ℕ × ℕ))) (stack : List ℕ) (k : ℕ)
    → IsJoin children stack → IsPostOrderFrom nodes (stack_after children stack k) (k + 1)
    → IsPostOrderFrom (children ∷ nodes) stack k
unfolding IsPostOrderFrom
post_joins None nodes stack k join then = then
post_joins (Some children) nodes [] k join then = absurd join
post_joins (Some children) nodes (b ∷ []) k join then = absurd join
post_joins (Some children) nodes (b ∷ a ∷ stack) k join then = (join, then)

pub post_splits : (children : Option (ℕ × ℕ)) (nodes : List (Option (ℕ × ℕ))) (stack : List ℕ) (k : ℕ)
    → IsPostOrderFrom (children ∷ nodes) stack k
    → IsJoin children stack × IsPostOrderFrom nodes (stack_after children stack k) (k + 1)
unfolding IsPostOrderFrom
post_splits None nodes stack k reads = (tt, reads)
post_splits (Some children) nodes [] k reads = absurd reads
post_splits (Some children) nodes (b ∷ []) k reads = absurd reads
post_splits (Some children) nodes (b ∷ a ∷ stack) k reads = reads

-- no node to come: one tree stands there
pub post_ends : (stack : List ℕ) (k : ℕ) → IsOpen stack 0 → IsPostOrderFrom [] stack k
unfolding IsPostOrderFrom
post_ends [] k open_ = absurd (omega (arith, open_.count))
post_ends (a ∷ []) k open_ = tt
post_ends (b ∷ a ∷ stack) k open_ = absurd (omega (arith, open_.count))

-- a leaf has room where the trees on the stack are at most as many as the nodes to come after it
pub open_leaf : (stack : List ℕ) (todo k : ℕ) → IsOpen stack (suc todo) → length stack ≤ todo → IsOpen (k ∷ stack) todo
open_leaf stack todo k open_ room = record { leaves = open_.leaves - 1; count = omega (arith, open_.count) }

pub open_leaf_room : (stack : List ℕ) (todo k : ℕ) → IsOpen (k ∷ stack) todo → length stack ≤ todo
open_leaf_room stack todo k open_ = omega (arith, open_.count)

-- a pair always has
pub open_pair : (stack : List ℕ) (todo k : ℕ) (children : ℕ × ℕ) → IsJoin (Some children) stack → IsOpen stack (suc todo)
    → IsOpen (stack_after (Some children) stack k) todo
open_pair [] todo k children join open_ = absurd join
open_pair (b ∷ []) todo k children join open_ = absurd join
open_pair (b ∷ a ∷ stack) todo k children join open_ = record { leaves = open_.leaves; count = omega (arith, open_.count) }

-- what reads a stack to its end has the right number of nodes
pub post_counts : (nodes : List (Option (ℕ × ℕ))) (stack : List ℕ) (k : ℕ) → IsPostOrderFrom nodes stack k → IsOpen stack (length nodes)
unfolding IsPostOrderFrom
post_counts [] [] k reads = absurd reads
post_counts [] (a ∷ []) k reads = record { leaves = 0; count = omega arith }
post_counts [] (b ∷ a ∷ stack) k reads = absurd reads
post_counts (None ∷ nodes) stack k reads =
    let h = post_counts nodes (k ∷ stack) (k + 1) reads in record { leaves = h.leaves + 1; count = omega (arith, h.count) }
post_counts (Some children ∷ nodes) [] k reads = absurd reads
post_counts (Some children ∷ nodes) (b ∷ []) k reads = absurd reads
post_counts (Some children ∷ nodes) (b ∷ a ∷ stack) k reads =
    let h = post_counts nodes (k ∷ stack) (k + 1) (reads.1) in record { leaves = h.leaves; count = omega (arith, h.count) }

-- a first node that can be completed
record Next (stack : List ℕ) (todo k : ℕ) : Type 0 where
  children : Option (ℕ × ℕ)
  joins : IsJoin children stack
  open_ : IsOpen (stack_after children stack k) todo

next_pair : (stack : List ℕ) (todo k : ℕ) → IsOpen stack (suc todo) → todo < length stack → Next stack todo k
next_pair [] todo k open_ full = absurd (omega (arith, full))
next_pair (b ∷ []) todo k open_ full = absurd (omega (arith, open_.count, full))
next_pair (b ∷ a ∷ stack) todo k open_ full =
    record { children = Some (a, b); joins = refl; open_ = open_pair (b ∷ a ∷ stack) todo k (a, b) refl open_ }

next : (stack : List ℕ) (todo k : ℕ) → IsOpen stack (suc todo) → Next stack todo k
next stack todo k open_ =
    elim (cases_lt todo (length stack)) [
      | inl full ↦ next_pair stack todo k open_ full
      | inr room ↦ record { children = None; joins = tt; open_ = open_leaf stack todo k open_ room }
    ]

-- a leaf while there is room, else a pair of the two latest
pub completion : (todo : ℕ) (stack : List ℕ) (k : ℕ) → IsOpen stack todo → Completion stack todo k
completion zero stack k open_ = record { nodes = []; long = refl; reads = post_ends stack k open_ }
completion (suc todo) stack k open_ =
    let n = next stack todo k open_ in
    let h = completion todo (stack_after n.children stack k) (k + 1) n.open_ in
    record {
      nodes = n.children ∷ h.nodes;
      long = ap suc h.long;
      reads = post_joins n.children h.nodes stack k n.joins h.reads;
    }

pub open_is_completable : OpenIsCompletable
open_is_completable stack todo k = (
  completion todo stack k,
  λ (h : Completion stack todo k).
      let counted = post_counts h.nodes stack k h.reads in
      record { leaves = counted.leaves; count = omega (arith, counted.count, h.long) },
)

-- The stack after one node of a list that is read in post-order, and the stacks from which it can be read to its end.
use Rattle.std.specs.Prelude.{◌≡◌, ℕ, ◌+◌, ◌*◌, List, ◌∷◌, drop, length, Option, Some, None, ◌↔◌}
use Rattle.cts_postorder.specs.PostOrder.{IsPostOrderFrom}

-- the stack after the node of number k
abbrev pub stack_after : Option (ℕ × ℕ) → List ℕ → ℕ → List ℕ
stack_after None stack k = k ∷ stack
stack_after (Some children) stack k = k ∷ drop 2 stack

-- With `todo` nodes to come, some of them leaves and the others pairs, one tree can be left at the end: each leaf is one
-- more, each pair one fewer.
pub record IsOpen (stack : List ℕ) (todo : ℕ) : Type 0 where
  pub leaves : ℕ
  pub count : todo + 1 ≡ length stack + 2 * leaves

-- so many nodes that read the stack to its end
pub record Completion (stack : List ℕ) (todo k : ℕ) : Type 0 where
  pub nodes : List (Option (ℕ × ℕ))
  pub long : length nodes ≡ todo
  pub reads : IsPostOrderFrom nodes stack k

-- a stack is read to its end by some list of so many nodes exactly where their number allows it
abbrev pub OpenIsCompletable : Type 0
OpenIsCompletable = (stack : List ℕ) (todo k : ℕ) → IsOpen stack todo ↔ Completion stack todo k

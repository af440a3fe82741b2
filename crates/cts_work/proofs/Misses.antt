-- A pair that is merged was missing.
use Rattle.std.proofs.Common.{◌≡◌, ℕ, ◌+◌, ◌≤◌, cond, List, [], ◌∷◌, is_none, None, ap, arith}
use mathlib.Core.List.{IsPrefix}
use Rattle.cts_units.specs.declared.params.Sink.{Sink}
use Rattle.cts_postorder.specs.BinaryTree.{BinaryTree, fork}
use Rattle.cts_postorder.specs.PostOrder.{trees_of}
use Rattle.cts_topo.specs.declared.shape.ShapeNode.{ShapeNode}
use Rattle.cts_topo.specs.Shape.{children}
use Rattle.cts_topo.proofs.Ranks.{count_by-cons}
use Rattle.cts_memo.specs.declared.entry.MemoEntry.{MemoEntry}
use Rattle.cts_memo.specs.Numbers.{number_of, is_missing, missing, missing_in}
use Rattle.cts_memo.proofs.Missing.{missing_falls}

module _ (seen : List MemoEntry) (sinks : List Sink) (l r : BinaryTree ShapeNode) (m : ShapeNode) where
  one_missing : number_of seen sinks (fork l r m) ≡ None → missing_in seen sinks (fork l r m ∷ []) ≡ 1
  unfolding is_missing
  one_missing none =
      let here : ◌≡◌ {A = ℕ} (cond (is_none (number_of seen sinks (fork l r m))) 1 0) 1 = ap (λ o. cond (is_none o) 1 0) none in
      omega (arith, count_by-cons (is_missing seen sinks) (fork l r m) [], here)

  -- one merge, of a pair that has no number
  pub one_merge : (t : BinaryTree ShapeNode) (before after : ℕ) → t ≡ fork l r m → number_of seen sinks (fork l r m) ≡ None
      → after ≡ before + 1 → after ≤ before + missing_in seen sinks (t ∷ [])
  one_merge t before after here none tick =
      omega (arith, tick, one_missing none, ap (λ u. missing_in seen sinks (u ∷ [])) here)

-- no fewer are missing in a shorter list
pub missing_earlier : (seen longer : List MemoEntry) (sinks : List Sink) (t : BinaryTree ShapeNode) (before after : ℕ) → IsPrefix seen longer
    → after ≤ before + missing_in longer sinks (t ∷ []) → after ≤ before + missing_in seen sinks (t ∷ [])
missing_earlier seen longer sinks t before after more made = omega (arith, made, missing_falls seen longer sinks (t ∷ []) more)

-- nor in a whole shape
pub fewer_missing : (seen longer : List MemoEntry) (sinks : List Sink) (nodes : List ShapeNode) (before after : ℕ) → IsPrefix seen longer
    → after ≤ before + missing longer sinks nodes → after ≤ before + missing seen sinks nodes
fewer_missing seen longer sinks nodes before after more made = omega (arith, made, missing_falls seen longer sinks (trees_of children nodes) more)

-- The nodes of a shape one after another.
use Rattle.std.proofs.Common.{◌≡◌, ℕ, ◌+◌, ◌<◌, ◌≤◌, List, length, get_or, Option, Some, MatchOption, refl, sym, ap, ◌∙◌, subst, arith}
use Rattle.std.specs.Option.{option_and_then}
use Rattle.std.proofs.lemmas.Option.{slice_get-get_or}
use Rattle.cts_units.specs.declared.params.Sink.{Sink}
use Rattle.cts_units.specs.declared.params.Params.{Params}
use Rattle.cts_postorder.specs.BinaryTree.{tip, fork, size}
use Rattle.cts_postorder.proofs.Lists.{IsPair, is_pair}
use Rattle.cts_postorder.proofs.Sizes.{size_pos}
use Rattle.cts_postorder.proofs.Nested.{size-fork}
use Rattle.cts_postorder.proofs.Upward.{leaf_here}
use Rattle.cts_topo.specs.declared.shape.ShapeNode.{ShapeNode}
use Rattle.cts_topo.specs.declared.shape.ShapeNode.TheVariants.{Leaf, Pair}
use Rattle.cts_topo.specs.Shape.{children, IsShapeOver}
use Rattle.cts_merge.specs.Merge.{IsLeaf}
use Rattle.cts_turn.specs.declared.turn.Pass.{Pass}
use Rattle.cts_turn.specs.Passes.{seen_by}
use Rattle.cts_list.proofs.Prefixes.{prefix_self, prefix_trans}
use Rattle.cts_up.specs.Plan.{IsFinished, sink_of}
use Rattle.cts_memo.specs.declared.entry.MemoEntry.{MemoEntry}
use Rattle.cts_memo.specs.declared.entry.MemoCall.{MemoCall}
use Rattle.cts_memo.specs.declared.entry.MemoReply.{MemoReply}
use Rattle.cts_memo.specs.declared.table.Table.{Table}
use Rattle.cts_memo.specs.declared.memo.Memo.{Memo}
use Rattle.cts_memo.specs.Keys.{leaf_key}
use Rattle.cts_memo.specs.Numbers.{number_of, position_of}
use Rattle.cts_memo.specs.Passes.{IsPassOf}
use Rattle.cts_work.specs.declared.node.Built.{Built}
use Rattle.cts_work.specs.Built.{GoesOn, IsBuilt, IsBuiltLeaf, IsPairAt, tree_at}
use Rattle.cts_work.specs.Work.{StartsFrom}

-- a pass that does nothing, and one call after another
pub stands_still : (memo : Memo) (pass : Pass Table MemoEntry MemoCall MemoReply) → IsPassOf memo pass → GoesOn memo pass pass
stands_still memo pass own = record { own = own; share = refl; goes_on = prefix_self (seen_by pass) }

pub goes_further : (memo : Memo) (first second third : Pass Table MemoEntry MemoCall MemoReply) → GoesOn memo first second → GoesOn memo second third
    → GoesOn memo first third
goes_further memo first second third p q = record {
  own = q.own;
  share = q.share ∙ p.share;
  goes_on = prefix_trans (seen_by first) (seen_by second) (seen_by third) p.goes_on q.goes_on;
}

-- the tree at a leaf
pub tip_at : (nodes : List ShapeNode) (k : ℕ) → k < length nodes → (e : ShapeNode) (s : ℕ) → get_or nodes k e ≡ Leaf s → tree_at nodes k ≡ tip (Leaf s)
tip_at nodes k h e s here = leaf_here children (λ t (b : Built). Unit {0}) nodes k e (tip (Leaf 0)) h (ap children here) ∙ ap tip here

module _ (sinks : List Sink) (nodes : List ShapeNode) (ok : IsShapeOver (length sinks) nodes) (k : ℕ) (h : k < length nodes) (e : ShapeNode) where
  -- the tree at a pair
  pub pair_at_number : (left right : ℕ) → get_or nodes k e ≡ Pair left right → IsPairAt nodes k left right
  pair_at_number left right here =
      let p : IsPair children nodes k (left, right) (get_or nodes k e) =
      is_pair children nodes ok.post_order k e (left, right) h (ap children here) in
      p.tree (tip (Leaf 0))
      ∙ λ z. fork (sym (p.left_tree (tip (Leaf 0))) z) (sym (p.right_tree (tip (Leaf 0))) z) (here z)

  -- whose children come before it, and not before `first` where no node below it does
  pub child_within : (first left right : ℕ) → get_or nodes k e ≡ Pair left right → StartsFrom nodes first k
      → (first ≤ left) × (left < k) × (first ≤ right) × (right < k)
  child_within first left right here starts =
      let p : IsPair children nodes k (left, right) (get_or nodes k e) =
      is_pair children nodes ok.post_order k e (left, right) h (ap children here) in
      let sized : size (tree_at nodes k) ≡ size p.left + size p.right + 1 = ap size (p.tree (tip (Leaf 0))) ∙ size-fork p.left p.right (get_or nodes k e) in (
        omega (arith, starts, sized, p.left_number, size_pos p.left),
        p.left_below,
        omega (arith, starts, sized, p.right_number, size_pos p.left, size_pos p.right),
        p.right_below,
      )

module _ (params : Params) (sinks : List Sink) (seen : List MemoEntry) where
  -- the leaf that a node names
  pub leaf_built : (s : ℕ) (d : Sink) (b : Built) → s < length sinks → IsBuiltLeaf seen (get_or sinks s d) b
      → IsBuilt params sinks seen (tip (Leaf s)) b
  unfolding IsFinished number_of
  leaf_built s d b h leaf =
      let found : sink_of sinks (Leaf s) ≡ Some (get_or sinks s d) = slice_get-get_or sinks s d h in
      record {
        finished = subst (λ (o : Option Sink). MatchOption o ⊥ (λ x. IsLeaf x b.finished)) (sym found) leaf.leaf;
        number = ap (option_and_then (λ x. position_of seen (leaf_key x))) found ∙ leaf.number;
        full = leaf.full;
        noted = leaf.noted;
      }

-- The root of a tree, at its last number, and what the source drives there.
use Rattle.std.proofs.Common.{◌≡◌, ℕ, ◌+◌, ◌-◌, ◌*◌, ◌<◌, ◌≤◌, inl, inr, List, map, length, get_or, Option, Some, None, sym, ap, ap₂, subst, ◌∙◌, arith}
use Rattle.std.specs.Prelude.{IfSome, MatchOption}
use Rattle.std.proofs.lemmas.Option.{get_or_from_slice_get}
use Rattle.cts_units.specs.declared.params.Params.{Params}
use Rattle.cts_units.specs.Delay.{wire_delay_of}
use Rattle.cts_units.specs.Limits.{max_length, max_load, max_delay}
use Rattle.cts_postorder.specs.BinaryTree.{BinaryTree, label, size}
use Rattle.cts_postorder.specs.PostOrder.{IsPostOrder, trees_of, root_of}
use Rattle.cts_postorder.proofs.Growth.{label-tree}
use Rattle.cts_postorder.proofs.Lists.{Whole, whole_of, length_pos}
use Rattle.cts_tree.specs.declared.nodes.TreeNode.{TreeNode}
use Rattle.cts_tree.specs.Nodes.{tree_children}
use Rattle.cts_instance.specs.declared.parts.Parts.{Parts}
use Rattle.cts_elmore.specs.declared.subtree.Subtree.{Subtree}
use Rattle.cts_elmore.specs.declared.drive.Drive.{Drive}
use Rattle.cts_elmore.specs.Loads.{source_load}
use Rattle.cts_elmore.specs.Delays.{wire_delay, source_delay}
use Rattle.cts_elmore.specs.Limits.{IsRootOver, long_root, great_source_load, great_leaf_delay}
use Rattle.cts_elmore.specs.Subtrees.{IsSubtree, IsDriveThrough, IsDriveOver, DriveOrOver}
use Rattle.cts_elmore.proofs.Rising.{through_is}

-- what stands at the last number
pub record AtRoot (nodes : List TreeNode) : Type 0 where
  pub root : BinaryTree TreeNode
  pub root_is : root_of tree_children nodes ≡ Some root
  pub some : 0 < length nodes
  pub node : (e : TreeNode) → label root ≡ get_or nodes (length nodes - 1) e
  pub size_is : size root ≡ length nodes

module _ (nodes : List TreeNode) (ok : IsPostOrder (map tree_children nodes)) where
  pub at_root : AtRoot nodes
  unfolding root_of
  at_root =
      let w : Whole tree_children nodes = whole_of tree_children nodes ok in
      let last : ℕ = length nodes - 1 in
      let some : 0 < length nodes = length_pos tree_children nodes ok in
      let here : get_or (trees_of tree_children nodes) last w.tree ≡ w.tree =
      get_or_from_slice_get (trees_of tree_children nodes) last w.tree w.tree w.root_is in
      record {
        root = w.tree;
        root_is = w.root_is;
        some = some;
        node = λ e. ap label (sym here) ∙ label-tree tree_children nodes last w.tree e (omega arith);
        size_is = w.size_is;
      }

  pub root_told : (P : BinaryTree TreeNode → Type 0) → IfSome (root_of tree_children nodes) P → P at_root.root
  root_told P p = subst (λ o. IfSome o P) at_root.root_is p

  -- what is told of the root is told of the tree at the last number
  pub if_root : (P : BinaryTree TreeNode → Type 0) (root : BinaryTree TreeNode) → root_of tree_children nodes ≡ Some root
      → P root → IfSome (root_of tree_children nodes) P
  if_root P root is p = subst (λ o. IfSome o P) (sym is) p

-- a root and its wire
module _ (i : Parts) (root : BinaryTree TreeNode) (s : Subtree) (is : IsSubtree i root s) (length : ℕ)
    (length_is : (label root).wire ≡ length) where
  drive_load : s.seen + i.params.wire.c * length ≡ source_load i root
  drive_load = ap₂ (λ x y. x + i.params.wire.c * y) is.seen (sym length_is)

  drive_delay : 2 * i.source_r * (s.seen + i.params.wire.c * length) + wire_delay_of i.params.wire.r i.params.wire.c length s.seen
      ≡ source_delay i root + wire_delay i root
  drive_delay = ap₂ (λ x y. 2 * i.source_r * x + y) drive_load (through_is i root length s.seen length_is is.seen)

  drive_is : (drive : Option Drive)
      → MatchOption drive (IsDriveOver i.source_r i.params.wire length s) (IsDriveThrough i.source_r i.params.wire length s)
      → DriveOrOver i root drive
  drive_is None (inl h) = long_root (omega (arith, h, length_is))
  drive_is None (inr (inl h)) = great_source_load (omega (arith, h, drive_load))
  drive_is None (inr (inr h)) = great_leaf_delay (omega (arith, h, drive_delay, is.greatest))
  drive_is (Some d) through = record {
    load = through.load ∙ drive_load;
    delay = through.delay ∙ drive_delay;
    not_over = sound through.length_within through.load_within through.delay_within;
  }
    where
      sound : length ≤ max_length → d.load ≤ max_load → d.delay + s.greatest ≤ max_delay → ¬ IsRootOver i root
      sound short light soon (long_root h) = absurd (omega (arith, h, short, length_is))
      sound short light soon (great_source_load h) = absurd (omega (arith, h, light, through.load, drive_load))
      sound short light soon (great_leaf_delay h) = absurd (omega (arith, h, soon, through.delay, drive_delay, is.greatest))

  -- the same, for a source and a wire under other names
  pub drive_from : (resistance : ℕ) (params : Params) → resistance ≡ i.source_r → params ≡ i.params → (drive : Option Drive)
      → MatchOption drive (IsDriveOver resistance params.wire length s) (IsDriveThrough resistance params.wire length s)
      → DriveOrOver i root drive
  drive_from resistance params r_is p_is drive through =
      drive_is drive
      (subst (λ (p : Params). MatchOption drive (IsDriveOver i.source_r p.wire length s) (IsDriveThrough i.source_r p.wire length s)) p_is
      (subst (λ (r : ℕ). MatchOption drive (IsDriveOver r params.wire length s) (IsDriveThrough r params.wire length s)) r_is through))

-- The limits of trees: those that a tree may not pass, and those of an instance, which a report says are met or not.
use Rattle.std.specs.Prelude.{ℕ, ◌+◌, ◌*◌, ◌<◌, ◌≤◌, ◌||◌, List, [], All, Option, Some, None, IsTrue}
use Rattle.cts_units.specs.Delay.{slew_of}
use Rattle.cts_units.specs.Limits.{max_length, max_load, max_delay}
use Rattle.cts_postorder.specs.BinaryTree.{BinaryTree, tip, fork, label, is_tip, subtrees}
use Rattle.cts_postorder.specs.PostOrder.{trees_of}
use Rattle.cts_postorder.specs.Occurrence.{Occurrence, occurrences}
use Rattle.cts_postorder.specs.Pass.{FailsOrAtRoot, IsLeastFailure}
use Rattle.cts_tree.specs.declared.nodes.TreeNode.{TreeNode}
use Rattle.cts_tree.specs.Nodes.{tree_children}
use Rattle.cts_instance.specs.declared.parts.Parts.{Parts}
use Rattle.cts_elmore.specs.Loads.{is_buffered, load_below, source_load}
use Rattle.cts_elmore.specs.Delays.{wire_delay, source_delay, stage_at}
use Rattle.cts_elmore.specs.Skew.{greatest_below}

-- the wire above a subtree is longer than the limit
abbrev pub IsLong : BinaryTree TreeNode → Type 0
IsLong t = max_length < (label t).wire

-- a pair is over the limits: by a child's wire, by its load, or by the greatest arrival at a leaf below it, told from the pair on
pub data IsOverAtPair (i : Parts) (l r : BinaryTree TreeNode) (n : TreeNode) : Type 0 where
  long_left : IsLong l → IsOverAtPair i l r n
  long_right : IsLong r → IsOverAtPair i l r n
  great_load : max_load < load_below i (fork l r n) → IsOverAtPair i l r n
  great_delay : max_delay < greatest_below i (fork l r n) → IsOverAtPair i l r n

abbrev pub IsPairOver : Parts → BinaryTree TreeNode → Type 0
IsPairOver i (tip n) = ⊥
IsPairOver i (fork l r n) = IsOverAtPair i l r n

-- a root is over the limits: by its own wire, by the source's load, or by the greatest arrival at a leaf
pub data IsRootOver (i : Parts) (root : BinaryTree TreeNode) : Type 0 where
  long_root : IsLong root → IsRootOver i root
  great_source_load : max_load < source_load i root → IsRootOver i root
  great_leaf_delay : max_delay < source_delay i root + wire_delay i root + greatest_below i root → IsRootOver i root

-- a subtree of a tree is over the limits, as a pair or as the root
abbrev pub IsOver : Parts → List TreeNode → BinaryTree TreeNode → Type 0
IsOver i nodes t = FailsOrAtRoot tree_children nodes (IsPairOver i) (IsRootOver i) t

-- no node of a tree is over the limits
abbrev pub IsWithinLimits : Parts → List TreeNode → Type 0
IsWithinLimits i nodes = All (λ t. ¬ IsOver i nodes t) (trees_of tree_children nodes)

-- the least number of a node that is over the limits, or none
abbrev pub IsFirstOver : Parts → List TreeNode → Option ℕ → Type 0
IsFirstOver i nodes None = IsWithinLimits i nodes
IsFirstOver i nodes (Some k) = IsLeastFailure tree_children nodes (IsOver i nodes) k

-- a buffer at the root of a subtree drives no more than the load limit
abbrev pub MeetsLoadAt : Parts → BinaryTree TreeNode → Type 0
MeetsLoadAt i t = IsTrue (is_buffered i t) → load_below i t ≤ i.load_limit

-- neither does the source
pub record MeetsLoadLimit (i : Parts) (root : BinaryTree TreeNode) : Type 0 where
  pub source : source_load i root ≤ i.load_limit
  pub buffers : All (MeetsLoadAt i) (subtrees root)

-- at a leaf or at a buffer the slew is not above the slew limit, which is not doubled
abbrev pub MeetsSlewAt : Parts → BinaryTree TreeNode → Occurrence TreeNode → Type 0
MeetsSlewAt i root o = IsTrue (is_tip o.here || is_buffered i o.here) → slew_of (stage_at i root o) ≤ 10 * i.slew_limit

abbrev pub MeetsSlewLimit : Parts → BinaryTree TreeNode → Type 0
MeetsSlewLimit i root = All (MeetsSlewAt i root) (occurrences [] root)

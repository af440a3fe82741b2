-- What holds of every tree and of its figures.
use Rattle.std.specs.Prelude.{◌≡◌, ◌+◌, ◌*◌, ◌≤◌, max, List, length, map, All, [], ◌∷◌, if◌then◌else◌}
use Rattle.cts_postorder.specs.BinaryTree.{BinaryTree, fork}
use Rattle.cts_postorder.specs.PostOrder.{IsPostOrder}
use Rattle.cts_postorder.specs.Occurrence.{occurrence}
use Rattle.cts_tree.specs.declared.nodes.TreeNode.{TreeNode}
use Rattle.cts_tree.specs.Nodes.{tree_children}
use Rattle.cts_instance.specs.declared.parts.Parts.{Parts}
use Rattle.cts_instance.specs.Validity.{IsValid}
use Rattle.cts_elmore.specs.declared.figures.Figures.{Figures}
use Rattle.cts_elmore.specs.Loads.{is_buffered, wire_load, load_below, load_seen}
use Rattle.cts_elmore.specs.Delays.{wire_delay, buffer_delay, output_delay, source_delay, delay_at, stage_at}
use Rattle.cts_elmore.specs.Skew.{greatest_below, leaf_arrivals, leaf_delays, residue, skew, bound}
use Rattle.cts_elmore.specs.Figures.{AreFigures}
use Rattle.cts_elmore.specs.Limits.{IsWithinLimits}
use Rattle.cts_elmore.specs.Measurement.{HasFigures}
use Rattle.cts_elmore.specs.Sound.{IsSound, StandsInDie}

-- the skew is at most the bound
abbrev pub SkewIsAtMostBound : Type 0
SkewIsAtMostBound = (i : Parts) (root : BinaryTree TreeNode) → skew i root ≤ bound i root

-- where no sink wants an offset, the arrivals of the leaves are their delays
abbrev pub ArrivalsAreDelays : Type 0
ArrivalsAreDelays =
    (i : Parts) (root : BinaryTree TreeNode) → All (λ sink. sink.offset ≡ 0) i.sinks → leaf_arrivals i root ≡ leaf_delays i root

-- a tree has one set of figures
abbrev pub FiguresAreOne : Type 0
FiguresAreOne =
    (i : Parts) (nodes : List TreeNode) (f g : Figures) → AreFigures i nodes f → AreFigures i nodes g → f ≡ g

-- What a pair adds to its two parts: its load is what is seen of them, and their wires; the greatest arrival below it is the
-- greater of theirs, each through its wire, and then its buffer's delay; and its residue comes to the greater of their bounds.
pub record AddsUp (i : Parts) (l r : BinaryTree TreeNode) (n : TreeNode) : Type 0 where
  pub load : load_below i (fork l r n) ≡ load_seen i l + wire_load i l + (load_seen i r + wire_load i r)
  pub greatest : greatest_below i (fork l r n)
      ≡ max (greatest_below i l + wire_delay i l) (greatest_below i r + wire_delay i r) + buffer_delay i (fork l r n)
  pub bound_is : bound i (fork l r n) ≡ max (bound i l) (bound i r) + residue i (fork l r n)

abbrev pub PairsAddUp : Type 0
PairsAddUp = (i : Parts) (l r : BinaryTree TreeNode) (n : TreeNode) → AddsUp i l r n

-- What a pair hands down to a part: its delay, and its stage, which begins anew at a buffer; the part's wire comes to each.
pub record HandsDown (i : Parts) (root pair part : BinaryTree TreeNode) (above : List (BinaryTree TreeNode)) : Type 0 where
  pub delay : delay_at i root (occurrence (pair ∷ above) part)
      ≡ delay_at i root (occurrence above pair) + buffer_delay i pair + wire_delay i part
  pub stage : stage_at i root (occurrence (pair ∷ above) part)
      ≡ (if is_buffered i pair then output_delay i pair else stage_at i root (occurrence above pair)) + wire_delay i part

abbrev pub PathsAddUp : Type 0
PathsAddUp =
    (i : Parts) (root : BinaryTree TreeNode)
    → (delay_at i root (occurrence [] root) ≡ source_delay i root + wire_delay i root)
    × (stage_at i root (occurrence [] root) ≡ source_delay i root + wire_delay i root)
    × ((pair part : BinaryTree TreeNode) (above : List (BinaryTree TreeNode)) → HandsDown i root pair part above)

-- a tree within the limits has one figure for each node, and all of its figures are in range
abbrev pub FiguresAreInRange : Type 0
FiguresAreInRange =
    (i : Parts) (nodes : List TreeNode) (figures : Figures) → IsPostOrder (map tree_children nodes) → length nodes ≤ 131071
    → IsWithinLimits i nodes → AreFigures i nodes figures → HasFigures i nodes figures

-- a sound tree of a valid instance stands in the die: each node, and each corner of a route
abbrev pub SoundTreesStandInDie : Type 0
SoundTreesStandInDie =
    (i : Parts) (nodes : List TreeNode) → IsValid i → IsPostOrder (map tree_children nodes) → IsSound i nodes
    → All (StandsInDie i.die) nodes

-- and has one leaf for each sink: two nodes a sink, less one
abbrev pub SoundTreesHaveOneLeafASink : Type 0
SoundTreesHaveOneLeafASink =
    (i : Parts) (nodes : List TreeNode) → IsValid i → IsPostOrder (map tree_children nodes) → IsSound i nodes
    → length nodes + 1 ≡ 2 * length i.sinks

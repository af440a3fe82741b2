-- What a pass upward keeps of each subtree, and of a subtree with the wire above it.
use Rattle.std.specs.Prelude.{◌≡◌, ℕ, ◌+◌, ◌*◌, ◌^◌, ◌<◌, ◌≤◌, ◌⊎◌, List, min, max, sum_by, Option, IfSome, MatchOption}
use Rattle.std.specs.Int.{abs_diff}
use Rattle.std.specs.List.{AllZip}
use Rattle.cts_units.specs.declared.params.Wire.{Wire}
use Rattle.cts_units.specs.declared.params.Buffer.{Buffer}
use Rattle.cts_units.specs.Delay.{wire_delay_of}
use Rattle.cts_units.specs.Choice.{added_delay_of, seen_load_of}
use Rattle.cts_units.specs.Limits.{max_length, max_load, max_delay}
use Rattle.cts_postorder.specs.BinaryTree.{BinaryTree, fork, label, labels, size}
use Rattle.cts_postorder.specs.PostOrder.{root_of, trees_of}
use Rattle.cts_postorder.specs.Pass.{IsLeastFailure}
use Rattle.cts_tree.specs.declared.nodes.TreeNode.{TreeNode}
use Rattle.cts_tree.specs.Nodes.{buffer_of, children_from, tree_children}
use Rattle.cts_instance.specs.declared.parts.Parts.{Parts}
use Rattle.cts_elmore.specs.declared.figures.NodeFigure.{NodeFigure}
use Rattle.cts_elmore.specs.declared.pin_list.Pin.{Pin}
use Rattle.cts_elmore.specs.declared.subtree.Subtree.{Subtree}
use Rattle.cts_elmore.specs.declared.drive.Drive.{Drive}
use Rattle.cts_elmore.specs.declared.subtree.Branch.{Branch}
use Rattle.cts_elmore.specs.declared.subtree.Gathered.{Gathered}
use Rattle.cts_elmore.specs.declared.subtree.Gathered.TheVariants.{Within, Over}
use Rattle.cts_elmore.specs.declared.subtree.Risen.{Risen}
use Rattle.cts_elmore.specs.declared.subtree.Risen.TheVariants as risen
use Rattle.cts_elmore.specs.Loads.{load_below, load_seen, offset_at, source_load}
use Rattle.cts_elmore.specs.Delays.{wire_delay, source_delay}
use Rattle.cts_elmore.specs.Skew.{greatest_below, least_below, greatest_delay_below, least_delay_below, residue, bound}
use Rattle.cts_elmore.specs.Limits.{IsPairOver, IsRootOver}

-- The values of a subtree that is not over the limits. The lengths of all wires come with the one above it.
pub record IsSubtree (i : Parts) (t : BinaryTree TreeNode) (s : Subtree) : Type 0 where
  pub below : s.below ≡ load_below i t
  pub seen : s.seen ≡ load_seen i t
  pub seen_by_kind : s.seen ≡ seen_load_of i.params.library (buffer_of (label t).kind) s.below
  pub wires : s.wires + (label t).wire ≡ sum_by (λ node. node.wire) (labels t)
  pub offset : s.offset ≡ offset_at i t
  pub greatest : s.greatest ≡ greatest_below i t
  pub least : s.least ≡ least_below i t
  pub delay_greatest : s.delay_greatest ≡ greatest_delay_below i t
  pub delay_least : s.delay_least ≡ least_delay_below i t
  pub residue_is : s.residue ≡ residue i t
  pub bound_is : s.bound ≡ bound i t
  pub not_over : ¬ IsPairOver i t
  pub few_wires : s.wires + 2 ^ 31 ≤ size t * 2 ^ 31
  pub small_bound : s.bound ≤ size t * max_delay

-- the ranges that a step upward asks for
pub record IsSubtreeInRange (s : Subtree) : Type 0 where
  pub seen : s.seen ≤ max_load
  pub wires : s.wires ≤ 2 ^ 48
  pub greatest : s.greatest ≤ max_delay
  pub least : s.least ≤ max_delay
  pub delay_greatest : s.delay_greatest ≤ max_delay
  pub delay_least : s.delay_least ≤ max_delay
  pub bound : s.bound ≤ 2 ^ 121

-- a leaf whose sink has this pin: its arrival is twice the offset, and there is no delay
pub record IsLeafOf (pin : Pin) (s : Subtree) : Type 0 where
  pub below : s.below ≡ pin.cap
  pub seen : s.seen ≡ pin.cap
  pub wires : s.wires ≡ 0
  pub offset : s.offset ≡ pin.offset
  pub greatest : s.greatest ≡ 2 * pin.offset
  pub least : s.least ≡ 2 * pin.offset
  pub delay_greatest : s.delay_greatest ≡ 0
  pub delay_least : s.delay_least ≡ 0
  pub residue : s.residue ≡ 0
  pub bound : s.bound ≡ 0

-- a subtree through the wire above it: the load, the arrivals and the delays that the pair above it sees
pub record IsBranch (wire : Wire) (length : ℕ) (s : Subtree) (b : Branch) : Type 0 where
  pub load : b.load ≡ s.seen + wire.c * length
  pub wires : b.wires ≡ s.wires + length
  pub greatest : b.greatest ≡ s.greatest + wire_delay_of wire.r wire.c length s.seen
  pub least : b.least ≡ s.least + wire_delay_of wire.r wire.c length s.seen
  pub delay_greatest : b.delay_greatest ≡ s.delay_greatest + wire_delay_of wire.r wire.c length s.seen
  pub delay_least : b.delay_least ≡ s.delay_least + wire_delay_of wire.r wire.c length s.seen
  pub bound : b.bound ≡ s.bound

pub record IsBranchInRange (b : Branch) : Type 0 where
  pub load : b.load ≤ 2 ^ 57
  pub wires : b.wires ≤ 2 ^ 49
  pub greatest : b.greatest ≤ 2 ^ 111
  pub least : b.least ≤ 2 ^ 111
  pub delay_greatest : b.delay_greatest ≤ 2 ^ 111
  pub delay_least : b.delay_least ≤ 2 ^ 111
  pub bound : b.bound ≤ 2 ^ 121

-- a pair of two branches, with the buffer of this index in the library, if it has one
pub record IsPair (library : List Buffer) (buffer : Option ℕ) (a b : Branch) (s : Subtree) : Type 0 where
  pub below : s.below ≡ a.load + b.load
  pub seen : s.seen ≡ seen_load_of library buffer (a.load + b.load)
  pub wires : s.wires ≡ a.wires + b.wires
  pub offset : s.offset ≡ 0
  pub greatest : s.greatest ≡ max a.greatest b.greatest + added_delay_of library buffer (a.load + b.load)
  pub least : s.least ≡ min a.least b.least + added_delay_of library buffer (a.load + b.load)
  pub delay_greatest : s.delay_greatest
      ≡ max a.delay_greatest b.delay_greatest + added_delay_of library buffer (a.load + b.load)
  pub delay_least : s.delay_least ≡ min a.delay_least b.delay_least + added_delay_of library buffer (a.load + b.load)
  pub residue : s.residue ≡ abs_diff a.greatest b.greatest
  pub bound : s.bound ≡ max a.bound b.bound + abs_diff a.greatest b.greatest
  pub load_within : s.below ≤ max_load
  pub delay_within : s.greatest ≤ max_delay

-- or one that is over the limits
abbrev pub PairOrOver : List Buffer → Option ℕ → Branch → Branch → Option Subtree → Type 0
PairOrOver library buffer a b result =
    MatchOption result
    ((max_load < a.load + b.load) ⊎ (max_delay < max a.greatest b.greatest + added_delay_of library buffer (a.load + b.load)))
    (IsPair library buffer a b)

-- some tree with no more nodes than one of 65,536 leaves has these values
pub record IsSomeSubtree (i : Parts) (s : Subtree) : Type 0 where
  pub tree : BinaryTree TreeNode
  pub few : size tree ≤ 131071
  pub is : IsSubtree i tree s

-- a pair of any two parts that have these values, by their wires and the pair's buffer, or that it is over the limits
abbrev pub IsJoinOf : Parts → Option ℕ → ℕ → ℕ → Subtree → Subtree → Option Subtree → Type 0
IsJoinOf i buffer left right a b result =
    (l r : BinaryTree TreeNode) (n : TreeNode) → buffer_of n.kind ≡ buffer → (label l).wire ≡ left → (label r).wire ≡ right
    → IsSubtree i l a → IsSubtree i r b → MatchOption result (IsPairOver i (fork l r n)) (IsSubtree i (fork l r n))

-- What a pass upward says of a node's figures: all but the delays from the source. What is seen of the subtree is told by
-- the node's kind and the load.
pub record IsKnownBelow (i : Parts) (t : BinaryTree TreeNode) (figure : NodeFigure) : Type 0 where
  pub below : figure.below ≡ load_below i t
  pub residue_is : figure.residue ≡ residue i t
  pub offset : figure.offset ≡ offset_at i t
  pub seen : seen_load_of i.params.library (buffer_of (label t).kind) figure.below ≡ load_seen i t
  pub not_over : ¬ IsPairOver i t

-- what a pass upward over a tree answers: the root's values and what is known of every node, or the least number of a pair that
-- is over the limits
abbrev pub IsGathered : Parts → List TreeNode → Gathered → Type 0
IsGathered i nodes (Within root figures) =
    IfSome (root_of tree_children nodes) (λ t. IsSubtree i t root)
    × AllZip (IsKnownBelow i) (trees_of tree_children nodes) figures.items
IsGathered i nodes (Over node) = IsLeastFailure tree_children nodes (IsPairOver i) node

-- what one over a stretch that begins at `first` answers, and the figures that it writes: the root's values and what is known of
-- every node of the stretch, or the least number of a pair that is over the limits
abbrev pub IsRisen : Parts → ℕ → List TreeNode → List NodeFigure → Risen → Type 0
IsRisen i first nodes figures (risen.Within root) =
    IfSome (root_of (children_from first) nodes) (λ t. IsSubtree i t root)
    × AllZip (IsKnownBelow i) (trees_of (children_from first) nodes) figures
IsRisen i first nodes figures (risen.Over node) =
    (k : ℕ) × ((node ≡ first + k) × IsLeastFailure (children_from first) nodes (IsPairOver i) k)

-- what a source drives through a root's wire, within the limits
pub record IsDriveThrough (resistance : ℕ) (wire : Wire) (length : ℕ) (s : Subtree) (drive : Drive) : Type 0 where
  pub load : drive.load ≡ s.seen + wire.c * length
  pub delay : drive.delay
      ≡ 2 * resistance * (s.seen + wire.c * length) + wire_delay_of wire.r wire.c length s.seen
  pub length_within : length ≤ max_length
  pub load_within : drive.load ≤ max_load
  pub delay_within : drive.delay + s.greatest ≤ max_delay

-- or over them
abbrev pub IsDriveOver : ℕ → Wire → ℕ → Subtree → Type 0
IsDriveOver resistance wire length s =
    (max_length < length) ⊎ ((max_load < s.seen + wire.c * length)
    ⊎ (max_delay
    < 2 * resistance * (s.seen + wire.c * length) + wire_delay_of wire.r wire.c length s.seen + s.greatest))

-- what the source drives, and the delay down to a root that is not over the limits
pub record IsDrive (i : Parts) (root : BinaryTree TreeNode) (drive : Drive) : Type 0 where
  pub load : drive.load ≡ source_load i root
  pub delay : drive.delay ≡ source_delay i root + wire_delay i root
  pub not_over : ¬ IsRootOver i root

abbrev pub DriveOrOver : Parts → BinaryTree TreeNode → Option Drive → Type 0
DriveOrOver i root result = MatchOption result (IsRootOver i root) (IsDrive i root)

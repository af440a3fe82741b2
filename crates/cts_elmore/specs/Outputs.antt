-- What a node hands down, and whether it meets the limits of an instance.
use Rattle.std.specs.Prelude.{◌≡◌, ℕ, ◌+◌, ◌*◌, ◌^◌, ◌≤◌, ◌↔◌, List, [], ◌∷◌, slice_get, All, Option, Some, None, IsTrue}
use Rattle.std.specs.List.{AllZip}
use Rattle.std.specs.Option.{option_map_or}
use Rattle.cts_units.specs.declared.params.Params.{Params}
use Rattle.cts_units.specs.declared.params.Buffer.{Buffer}
use Rattle.cts_units.specs.Delay.{wire_delay_of, slew_of}
use Rattle.cts_units.specs.Choice.{added_delay_of, seen_load_of}
use Rattle.cts_units.specs.Limits.{max_length, max_delay}
use Rattle.cts_postorder.specs.BinaryTree.{BinaryTree, tip, fork, label, subtrees}
use Rattle.cts_postorder.specs.Occurrence.{Occurrence, occurrence, occurrences}
use Rattle.cts_tree.specs.declared.nodes.TreeNode.{TreeNode}
use Rattle.cts_tree.specs.Nodes.{buffer_of}
use Rattle.cts_tree.specs.declared.nodes.NodeKind.{NodeKind}
use Rattle.cts_tree.specs.declared.nodes.NodeKind.TheVariants.{Leaf, Pair}
use Rattle.cts_elmore.specs.declared.figures.NodeFigure.{NodeFigure}
use Rattle.cts_elmore.specs.declared.descent.Output.{Output}
use Rattle.cts_elmore.specs.declared.descent.Descent.{Descent}
use Rattle.cts_elmore.specs.declared.descent.Met.{Met}
use Rattle.cts_elmore.specs.declared.descent.RootDescent.{RootDescent}
use Rattle.cts_elmore.specs.Loads.{source_load}
use Rattle.cts_elmore.specs.Delays.{wire_delay, delay_at, stage_at}
use Rattle.cts_elmore.specs.Skew.{greatest_below}
use Rattle.cts_elmore.specs.Limits.{MeetsLoadAt, MeetsSlewAt, MeetsLoadLimit, MeetsSlewLimit}
use Rattle.cts_elmore.specs.Figures.{IsNodeFigure, IsFigureInRange}
use Rattle.cts_instance.specs.declared.parts.Parts.{Parts}

-- the stage that goes on below a node, or that its buffer begins by driving its load
abbrev pub stage_after : List Buffer → Option ℕ → ℕ → ℕ → ℕ
stage_after library None load stage = stage
stage_after library (Some index) load stage =
    option_map_or (λ buffer. 2 * buffer.rout * load) (slice_get library index) stage

pub record IsOutput (library : List Buffer) (buffer : Option ℕ) (here : NodeFigure) (output : Output) : Type 0 where
  pub delay : output.delay ≡ here.delay + added_delay_of library buffer here.below
  pub stage : output.stage ≡ stage_after library buffer here.below here.stage

-- the source's output: a stage begins there
pub record IsSourceOutput (resistance load : ℕ) (output : Output) : Type 0 where
  pub delay : output.delay ≡ 2 * resistance * load
  pub stage : output.stage ≡ 2 * resistance * load
  pub delay_within : output.delay ≤ 2 ^ 119
  pub stage_within : output.stage ≤ 2 ^ 119

-- the figures of a part of a pair: what was known of it, and the pair's delays with that of the part's wire
pub record IsPartFigure (params : Params) (kind : NodeKind) (length : ℕ) (part : NodeFigure) (output : Output)
    (figure : NodeFigure) : Type 0 where
  pub below : figure.below ≡ part.below
  pub residue : figure.residue ≡ part.residue
  pub offset : figure.offset ≡ part.offset
  pub delay : figure.delay
      ≡ output.delay
      + wire_delay_of params.wire.r params.wire.c length (seen_load_of params.library (buffer_of kind) part.below)
  pub stage : figure.stage
      ≡ output.stage
      + wire_delay_of params.wire.r params.wire.c length (seen_load_of params.library (buffer_of kind) part.below)

-- a buffer drives no more than the limit
abbrev pub LoadIsMet : ℕ → NodeKind → ℕ → Type 0
LoadIsMet limit (Leaf id sink) load = Unit {0}
LoadIsMet limit (Pair left right None) load = Unit {0}
LoadIsMet limit (Pair left right (Some index)) load = load ≤ limit

-- a stage that ends at a leaf or at a buffer has no greater slew than the limit
abbrev pub SlewIsMet : ℕ → NodeKind → ℕ → Type 0
SlewIsMet limit (Leaf id sink) stage = slew_of stage ≤ 10 * limit
SlewIsMet limit (Pair left right None) stage = Unit {0}
SlewIsMet limit (Pair left right (Some index)) stage = slew_of stage ≤ 10 * limit

-- What is handed down to a subtree of a whole tree, by the pair above it or by the source: through the wire, it gives the delays
-- at the subtree's root. The wire is within the limit, and so are the arrivals at the leaves.
pub record IsHandedTo (i : Parts) (root : BinaryTree TreeNode) (o : Occurrence TreeNode) (output : Output) : Type 0 where
  pub delay : output.delay + wire_delay i o.here ≡ delay_at i root o
  pub stage : output.stage + wire_delay i o.here ≡ stage_at i root o
  pub stage_le : output.stage ≤ output.delay
  pub short : (label o.here).wire ≤ max_length
  pub soon : delay_at i root o + greatest_below i o.here ≤ max_delay

-- in some whole tree, below some pairs
pub record IsHandedDown (i : Parts) (t : BinaryTree TreeNode) (output : Output) : Type 0 where
  pub root : BinaryTree TreeNode
  pub up : List (BinaryTree TreeNode)
  pub handed : IsHandedTo i root (occurrence up t) output

-- what a pass downward comes to over a subtree that stands below the pairs `up` of a whole tree
pub record IsPartDescent (i : Parts) (root : BinaryTree TreeNode) (up : List (BinaryTree TreeNode)) (t : BinaryTree TreeNode)
    (figures : List NodeFigure) (met : Met) : Type 0 where
  pub each_node : AllZip (IsNodeFigure i root) (occurrences up t) figures
  pub in_range : All IsFigureInRange figures
  pub load_met : IsTrue met.load_met ↔ All (MeetsLoadAt i) (subtrees t)
  pub slew_met : IsTrue met.slew_met ↔ All (MeetsSlewAt i root) (occurrences up t)

-- wherever it stands, if it takes this output there
abbrev pub IsDescentBelow : Parts → Output → BinaryTree TreeNode → List NodeFigure → Met → Type 0
IsDescentBelow i above t figures met =
    (root : BinaryTree TreeNode) (up : List (BinaryTree TreeNode)) → IsHandedTo i root (occurrence up t) above
    → IsPartDescent i root up t figures met

-- both parts of a whole tree's root take this output
abbrev pub IsHandedToParts : Parts → BinaryTree TreeNode → Output → Type 0
IsHandedToParts i (tip n) output = Unit {0}
IsHandedToParts i (fork l r n) output =
    IsHandedTo i (fork l r n) (occurrence (fork l r n ∷ []) l) output
    × IsHandedTo i (fork l r n) (occurrence (fork l r n ∷ []) r) output

-- what a pass downward comes to at the root, from the source
pub record IsRootDescent (i : Parts) (root : BinaryTree TreeNode) (descent : RootDescent) : Type 0 where
  pub figure : IsNodeFigure i root (occurrence [] root) descent.figure
  pub in_range : IsFigureInRange descent.figure
  pub load_met : IsTrue descent.met.load_met ↔ ((source_load i root ≤ i.load_limit) × MeetsLoadAt i root)
  pub slew_met : IsTrue descent.met.slew_met ↔ MeetsSlewAt i root (occurrence [] root)
  pub to_parts : IsHandedToParts i root descent.output

-- and over the whole tree, from the source
pub record IsDescent (i : Parts) (root : BinaryTree TreeNode) (descent : Descent) : Type 0 where
  pub each_node : AllZip (IsNodeFigure i root) (occurrences [] root) descent.figures.items
  pub in_range : All IsFigureInRange descent.figures.items
  pub load_met : IsTrue descent.load_met ↔ MeetsLoadLimit i root
  pub slew_met : IsTrue descent.slew_met ↔ MeetsSlewLimit i root

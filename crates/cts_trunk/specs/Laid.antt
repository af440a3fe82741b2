-- The trunk of a tree with repeaters, or why there is none.
use Rattle.std.specs.Prelude.{◌≡◌, ℕ, ◌+◌, ◌*◌, ◌<◌, ◌≤◌, ◌↔◌, List, length, slice_get, slice_index_or, Some, IsTrue}
use Rattle.std.specs.List.{AllZip, range_with_len}
use Rattle.cts_geom.specs.Points.{point_of}
use Rattle.cts_units.specs.declared.params.Buffer.{Buffer}
use Rattle.cts_units.specs.Limits.{max_delay}
use Rattle.cts_postorder.specs.BinaryTree.{BinaryTree, label}
use Rattle.cts_postorder.specs.PostOrder.{root_of}
use Rattle.cts_tree.specs.declared.nodes.TreeNode.{TreeNode}
use Rattle.cts_tree.specs.Nodes.{tree_children}
use Rattle.cts_tree.specs.Path.{path_length}
use Rattle.cts_instance.specs.declared.parts.Parts.{Parts}
use Rattle.cts_elmore.specs.Skew.{greatest_of, least_of, greatest_below}
use Rattle.cts_trunk.specs.declared.trunk.Repeater.{Repeater}
use Rattle.cts_trunk.specs.declared.trunk.Trunk.{Trunk}
use Rattle.cts_trunk.specs.declared.trunk.TrunkEnd.{TrunkEnd}
use Rattle.cts_trunk.specs.declared.trunk.TrunkEnd.TheVariants.{Buffer as NoBuffer, Many, Beyond, NoMemory}
use Rattle.cts_trunk.specs.Way.{point_along}
use Rattle.cts_trunk.specs.Places.{trunk_way, stands}
use Rattle.cts_trunk.specs.Extended.{trunk_of, load_on, delay_on, stage_on, root_delay, root_stage, delays_in, skew_in, MeetsLoadLimit, MeetsSlewLimit}

-- the root's wire is as long as its route
abbrev pub HasTautTrunk : Parts → TreeNode → Type 0
HasTautTrunk i root = 2 * root.wire ≡ path_length (trunk_way i root)

-- the most repeaters on a trunk
abbrev pub most_repeaters : ℕ
most_repeaters = 65536

module _ (i : Parts) (root : BinaryTree TreeNode) (buffer : Buffer) (cuts : List ℕ) where
  -- The repeater of this number, from 0 on: its place is that at its length from the source, its delay and its stage are those
  -- at its input, at the lower end of the wire of this number, and its load is what it drives through the next.
  pub record IsRepeater (m : ℕ) (repeater : Repeater) : Type 0 where
    pub length_is : repeater.length ≡ slice_index_or cuts m 0
    pub place : point_of repeater.place ≡ point_along (trunk_way i (label root)) (2 * repeater.length)
    pub load : repeater.load ≡ load_on i buffer (trunk_of i root buffer cuts) (m + 1)
    pub delay : repeater.delay ≡ delay_on i buffer (trunk_of i root buffer cuts) m
    pub stage : repeater.stage ≡ stage_on i buffer (trunk_of i root buffer cuts) m

  -- the trunk with repeaters at these lengths from the source
  pub record IsTrunkAt (trunk : Trunk) : Type 0 where
    pub repeaters : AllZip IsRepeater (range_with_len 0 (length cuts)) trunk.repeaters
    pub source_load : trunk.source_load ≡ load_on i buffer (trunk_of i root buffer cuts) 0
    pub root_delay_is : trunk.root_delay ≡ root_delay i root buffer cuts
    pub root_stage_is : trunk.root_stage ≡ root_stage i root buffer cuts
    pub greatest : trunk.greatest ≡ greatest_of (delays_in i root buffer cuts)
    pub least : trunk.least ≡ least_of (delays_in i root buffer cuts)
    pub skew_is : trunk.skew ≡ skew_in i root buffer cuts
    pub load_met : IsTrue trunk.load_met ↔ MeetsLoadLimit i root buffer cuts
    pub slew_met : IsTrue trunk.slew_met ↔ MeetsSlewLimit i root buffer cuts

  -- the delay at the root and the greatest arrival from there on sum to more than the limit
  abbrev pub IsBeyondLimit : Type 0
  IsBeyondLimit = max_delay < root_delay i root buffer cuts + greatest_below i root

module _ (i : Parts) (nodes : List TreeNode) (step index : ℕ) where
  -- the tree has a root, and the library a buffer of this index
  pub record Named : Type 0 where
    pub root : BinaryTree TreeNode
    pub root_is : root_of tree_children nodes ≡ Some root
    pub buffer : Buffer
    pub buffer_is : slice_get i.params.library index ≡ Some buffer

  -- the trunk of this tree with repeaters of this buffer
  pub record IsLaid (trunk : Trunk) : Type 0 where
    pub named : Named
    pub few : length (stands i (label named.root) step) ≤ most_repeaters
    pub within : ¬ IsBeyondLimit i named.root named.buffer (stands i (label named.root) step)
    pub trunk_is : IsTrunkAt i named.root named.buffer (stands i (label named.root) step) trunk

  pub record HasTooMany : Type 0 where
    pub named : Named
    pub many : most_repeaters < length (stands i (label named.root) step)

  pub record IsBeyond : Type 0 where
    pub named : Named
    pub few : length (stands i (label named.root) step) ≤ most_repeaters
    pub beyond : IsBeyondLimit i named.root named.buffer (stands i (label named.root) step)

  -- why there is no such trunk
  abbrev pub Ends : TrunkEnd → Type 0
  Ends NoBuffer = length i.params.library ≤ index
  Ends Many = HasTooMany
  Ends Beyond = IsBeyond
  Ends NoMemory = Unit {0}

-- What repeaters on the trunk change, and what they don't.
use Rattle.std.specs.Prelude.{◌≡◌, ◌≢◌, ℕ, ◌+◌, true, false, ◌↔◌, IsTrue, List, [], All}
use Rattle.std.specs.List.{list_any}
use Rattle.cts_geom.specs.declared.points.Half.{Half}
use Rattle.cts_geom.specs.declared.bounds.Die.{Die}
use Rattle.cts_units.specs.declared.params.Buffer.{Buffer}
use Rattle.cts_block.specs.declared.blocks.Block.{Block}
use Rattle.cts_block.specs.FreePoints.{IsFreeForBuffer}
use Rattle.cts_postorder.specs.BinaryTree.{BinaryTree}
use Rattle.cts_postorder.specs.Occurrence.{Occurrence, occurrence, occurrences}
use Rattle.cts_tree.specs.declared.nodes.TreeNode.{TreeNode}
use Rattle.cts_instance.specs.declared.parts.Parts.{Parts}
use Rattle.cts_elmore.specs.Loads.{is_buffered}
use Rattle.cts_elmore.specs.Delays.{delay_at, stage_at}
use Rattle.cts_elmore.specs.Skew.{skew}
use Rattle.cts_trunk.specs.declared.trunk.Trunk.{Trunk}
use Rattle.cts_trunk.specs.declared.trunk.TrunkEnd.{TrunkEnd}
use Rattle.cts_trunk.specs.declared.trunk.TrunkEnd.TheVariants.{NoMemory}
use Rattle.cts_trunk.specs.Places.{is_free}
use Rattle.cts_trunk.specs.Laid.{Ends, IsLaid}
use Rattle.cts_trunk.specs.Extended.{delay_in, stage_in, root_delay, root_stage, skew_in}

-- Every node's delay is shifted by one amount, that of the root: its delay with repeaters and the root's without make what
-- its delay without them and the root's with them make.
abbrev pub DelaysShiftAlike : Type 0
DelaysShiftAlike =
    (i : Parts) (root : BinaryTree TreeNode) (repeater : Buffer) (cuts : List ℕ)
    → All (λ o. delay_in i root repeater cuts o + delay_at i root (occurrence [] root) ≡ delay_at i root o + root_delay i root repeater cuts)
    (occurrences [] root)

-- so the skew is that of the tree
abbrev pub SkewStays : Type 0
SkewStays = (i : Parts) (root : BinaryTree TreeNode) (repeater : Buffer) (cuts : List ℕ) → skew_in i root repeater cuts ≡ skew i root

-- a stage that begins at a buffer of the tree stays, and every other is shifted by one amount
pub record StageShifts (i : Parts) (root : BinaryTree TreeNode) (repeater : Buffer) (cuts : List ℕ) (o : Occurrence TreeNode) : Type 0 where
  pub buffered : list_any (is_buffered i) o.above ≡ true → stage_in i root repeater cuts o ≡ stage_at i root o
  pub unbuffered : list_any (is_buffered i) o.above ≡ false
      → stage_in i root repeater cuts o + stage_at i root (occurrence [] root) ≡ stage_at i root o + root_stage i root repeater cuts

abbrev pub StagesShiftAlike : Type 0
StagesShiftAlike =
    (i : Parts) (root : BinaryTree TreeNode) (repeater : Buffer) (cuts : List ℕ) → All (StageShifts i root repeater cuts) (occurrences [] root)

-- a point is free exactly where a buffer may stand
abbrev pub FreeIsForBuffers : Type 0
FreeIsForBuffers = (blocks : List Block) (die : Die) (at : Half) → IsTrue (is_free blocks die at) ↔ IsFreeForBuffer blocks die at

-- a tree has one trunk with repeaters of one buffer at one step
abbrev pub TrunkIsOne : Type 0
TrunkIsOne =
    (i : Parts) (nodes : List TreeNode) (step index : ℕ) (trunk other : Trunk) → IsLaid i nodes step index trunk
    → IsLaid i nodes step index other → trunk ≡ other

-- where it has one, nothing but want of memory stands against it
abbrev pub LaidHasNoEnd : Type 0
LaidHasNoEnd =
    (i : Parts) (nodes : List TreeNode) (step index : ℕ) (trunk : Trunk) (end : TrunkEnd) → IsLaid i nodes step index trunk
    → Ends i nodes step index end → end ≡ NoMemory

-- and where it has none, there is one reason beside want of memory
abbrev pub EndIsOne : Type 0
EndIsOne =
    (i : Parts) (nodes : List TreeNode) (step index : ℕ) (end other : TrunkEnd) → Ends i nodes step index end
    → Ends i nodes step index other → end ≢ NoMemory → other ≢ NoMemory → end ≡ other

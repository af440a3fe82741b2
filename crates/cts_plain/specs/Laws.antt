-- What holds of every synthesis.
use Rattle.std.specs.Prelude.{◌≡◌, ◌≤◌, ℕ, List, length, All}
use Rattle.cts_block.specs.declared.blocks.Kind.TheVariants.{Buffer}
use Rattle.cts_tree.specs.declared.nodes.TreeNode.{TreeNode}
use Rattle.cts_instance.specs.declared.parts.Parts.{Parts}
use Rattle.cts_instance.specs.Validity.{IsValid}
use Rattle.cts_topo.specs.declared.shape.ShapeNode.{ShapeNode}
use Rattle.cts_topo.specs.Shape.{IsShapeOver}
use Rattle.cts_up.specs.Plan.{IsLeastBeyond as IsBeyondInPlan}
use Rattle.cts_elmore.specs.Sound.{IsSound, StandsInDie}
use Rattle.cts_elmore.specs.Fits.{FitsInstance}
use Rattle.cts_plain.specs.Synthesis.{Synthesis, cut, IsBeyondOf, IsTreeOf, IsSynthesis, IsSynthesisOver}

-- over one shape there is one synthesis
abbrev pub SynthesisIsOne : Type 0
SynthesisIsOne =
    (i : Parts) (shape : List ShapeNode) (a b : Synthesis) → IsShapeOver (length i.sinks) shape
    → IsSynthesisOver i shape a → IsSynthesisOver i shape b → a ≡ b

-- over each shape a valid instance has a synthesis
abbrev pub SynthesisExists : Type 0
SynthesisExists =
    (i : Parts) (shape : List ShapeNode) → IsValid i → IsShapeOver (length i.sinks) shape
    → (synthesis : Synthesis) × IsSynthesisOver i shape synthesis

-- so a valid instance has exactly one synthesis: a tree, or the number of the one node at which there is none
abbrev pub InstancesHaveOneSynthesis : Type 0
InstancesHaveOneSynthesis =
    (i : Parts) → IsValid i
    → (synthesis : Synthesis) × IsSynthesis i synthesis × ((other : Synthesis) → IsSynthesis i other → other ≡ synthesis)

-- where a node is beyond in the plan, none is in the balance
abbrev pub BeyondHasOneReason : Type 0
BeyondHasOneReason =
    (i : Parts) (shape : List ShapeNode) (j k : ℕ) → IsBeyondInPlan i.params i.sinks shape j → IsBeyondOf i shape k → ⊥

-- the tree of a shape is sound, stands in the die, and is made of the instance's sinks and buffers
abbrev pub TreesAreSound : Type 0
TreesAreSound =
    (i : Parts) (shape : List ShapeNode) (tree : List TreeNode) → IsValid i → IsShapeOver (length i.sinks) shape
    → IsTreeOf i shape tree
    → IsSound i tree × All (StandsInDie i.die) tree × FitsInstance i tree

-- where all blocks are of kind Buffer, which stop no wire, no node is cut
abbrev pub NothingIsCutWithoutWalls : Type 0
NothingIsCutWithoutWalls =
    (i : Parts) (shape : List ShapeNode) (k : ℕ) → All (λ block. block.kind ≡ Buffer) i.blocks → IsSynthesisOver i shape (cut k) → ⊥

-- each route of the tree of a shape has few corners
abbrev pub TreesHaveFewCorners : Type 0
TreesHaveFewCorners =
    (i : Parts) (shape : List ShapeNode) (tree : List TreeNode) → IsValid i → IsShapeOver (length i.sinks) shape
    → IsTreeOf i shape tree
    → All (λ node. length node.route.corners ≤ 65536) tree

-- Why a synthesis gives no tree, and how many merges it took to see so.
use Rattle.std.specs.Prelude.{◌≡◌, ◌⊎◌, ℕ, ◌+◌, List, length}
use Rattle.cts_instance.specs.declared.parts.Parts.{Parts}
use Rattle.cts_topo.specs.declared.shape.ShapeNode.{ShapeNode}
use Rattle.cts_topo.specs.Topology.{shape_of}
use Rattle.cts_up.specs.Ends.{CountsPairs}
use Rattle.cts_up.specs.Plan.{IsLeastBeyond as IsBeyondInPlan}
use Rattle.cts_up.specs.declared.end.UpEnd.TheVariants as plan
use Rattle.cts_plain.specs.declared.end.NoTree.{NoTree}
use Rattle.cts_plain.specs.declared.end.NoTree.TheVariants.{Beyond, Cut, NoMemory}
use Rattle.cts_plain.specs.Synthesis.{Synthesis, beyond, cut, IsBeyondOf, IsCutOf, IsSynthesis}

-- over one shape with a plan: a node is beyond in the balance, or cut, or memory ran out
abbrev pub EndsWithPlan : Parts → List ShapeNode → NoTree → Type 0
EndsWithPlan i shape (Beyond node) = IsBeyondOf i shape node
EndsWithPlan i shape (Cut node) = IsCutOf i shape node
EndsWithPlan i shape NoMemory = Unit {0}

-- with a placed tree: a node is beyond in the balance, or memory ran out
abbrev pub EndsInBalance : Parts → List ShapeNode → NoTree → Type 0
EndsInBalance i shape (Beyond node) = IsBeyondOf i shape node
EndsInBalance i shape (Cut node) = ⊥
EndsInBalance i shape NoMemory = Unit {0}

-- before there is a placed tree: a node is beyond in the plan, or cut, or memory ran out
abbrev pub EndsInPlaces : Parts → List ShapeNode → NoTree → Type 0
EndsInPlaces i shape (Beyond node) = IsBeyondInPlan i.params i.sinks shape node
EndsInPlaces i shape (Cut node) = IsCutOf i shape node
EndsInPlaces i shape NoMemory = Unit {0}

-- a synthesis comes to this node, where `Comes` says what it comes to; or memory ran out
abbrev pub EndsBy : (Synthesis → Type 0) → NoTree → Type 0
EndsBy Comes (Beyond node) = Comes (beyond node)
EndsBy Comes (Cut node) = Comes (cut node)
EndsBy Comes NoMemory = Unit {0}

-- the synthesis of an instance comes to this node, or memory ran out
abbrev pub Ends : Parts → NoTree → Type 0
Ends i end = EndsBy (IsSynthesis i) end

-- Where the plan of a shape has no placed tree, the count of merges has grown by one for each pair up to the node that is
-- beyond, or by one for each pair.
abbrev pub CountsInPlaces : Parts → List ShapeNode → ℕ → ℕ → NoTree → Type 0
CountsInPlaces i shape before after (Beyond node) = CountsPairs shape before after (plan.Beyond node)
CountsInPlaces i shape before after (Cut node) = after + 1 ≡ before + length i.sinks
CountsInPlaces i shape before after NoMemory = Unit {0}

-- Where there is no tree over a shape, the count of merges has grown by one for each pair up to the node that is beyond in
-- the plan; or by one for each pair, where the plan has no such node.
abbrev pub CountsMergesOver : Parts → List ShapeNode → ℕ → ℕ → NoTree → Type 0
CountsMergesOver i shape before after (Beyond node) =
    (IsBeyondInPlan i.params i.sinks shape node × CountsPairs shape before after (plan.Beyond node))
    ⊎ (IsBeyondOf i shape node × (after + 1 ≡ before + length i.sinks))
CountsMergesOver i shape before after (Cut node) = after + 1 ≡ before + length i.sinks
CountsMergesOver i shape before after NoMemory = Unit {0}

-- the same over the shape of an instance's sinks
abbrev pub CountsMerges : Parts → ℕ → ℕ → NoTree → Type 0
CountsMerges i before after end = CountsMergesOver i (shape_of i.sinks) before after end

-- A valid instance has one synthesis, and a tree that it comes to is sound.
use Rattle.std.proofs.Common.{◌≡◌, List, length, arith}
use Rattle.cts_tree.specs.declared.nodes.TreeNode.{TreeNode}
use Rattle.cts_instance.specs.declared.parts.Parts.{Parts}
use Rattle.cts_instance.specs.Validity.{IsValid}
use Rattle.cts_topo.specs.Shape.{IsShapeOver}
use Rattle.cts_topo.specs.Sinks.{AreSinks}
use Rattle.cts_topo.specs.Topology.{shape_of}
use Rattle.cts_topo.proofs.Whole.{shapes_name_each_sink_lem}
use Rattle.cts_elmore.specs.Sound.{IsSound}
use Rattle.cts_embed.proofs.Stands.{sinks_in_range}
use Rattle.cts_plain.specs.Synthesis.{Synthesis, made, IsSynthesis}
use Rattle.cts_plain.proofs.Sound.{trees_sound}
use Rattle.cts_plain.proofs.Unique.{synthesis_one}

sinks_are : (i : Parts) → IsValid i → AreSinks i.sinks
sinks_are i valid = record {
  some = omega (arith, valid.some_sink);
  few = valid.sink_count;
  placed = λ k d h. ((sinks_in_range i valid).each k d h).placed;
  distinct = valid.ids;
}

-- its shape has each of its sinks
pub shape_over : (i : Parts) → IsValid i → IsShapeOver (length i.sinks) (shape_of i.sinks)
shape_over i valid = (shapes_name_each_sink_lem i.sinks (sinks_are i valid)).0

pub synthesis_same : (i : Parts) → IsValid i → (a b : Synthesis) → IsSynthesis i a → IsSynthesis i b → a ≡ b
synthesis_same i valid a b p q = synthesis_one i (shape_of i.sinks) a b (shape_over i valid) p q

pub made_sound : (i : Parts) (tree : List TreeNode) → IsValid i → IsSynthesis i (made tree) → IsSound i tree
made_sound i tree valid is = (trees_sound i (shape_of i.sinks) tree valid (shape_over i valid) is).0

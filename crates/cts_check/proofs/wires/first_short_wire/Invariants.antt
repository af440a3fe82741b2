use Rattle.std.proofs.Common.{ℕ, ◌<◌, map}
use Rattle.cts_postorder.specs.PostOrder.{IsPostOrder}
use Rattle.cts_tree.specs.Nodes.{tree_children}
use Rattle.cts_instance.specs.declared.parts.Parts.{Parts}
use Rattle.cts_check.specs.Rules.{MeetsShort}
use Rattle.cts_check.specs.Ways.{AreUpperEnds}
use Rattle.cts_check.proofs.wires.first_short_wire.Given as goal

abbrev pub invariant-loop-number : goal.invariant-loop-number
invariant-loop-number l =
    (i : Parts) → IsPostOrder (map tree_children l.nodes) → AreUpperEnds i l.nodes l.ends
    → (j : ℕ) → j < l.number → MeetsShort i l.nodes j

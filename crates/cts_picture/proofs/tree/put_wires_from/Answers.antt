use Rattle.std.proofs.Common.{inl, inr}
use Rattle.std.proofs.lemmas.Grind.{flat_map-append}
use Rattle.cts_io.proofs.Chains.{◌▸◌}
use Rattle.cts_picture.proofs.tree.put_wires_from.Goals as goal

pub returns-in-Leaf : goal.returns-in-Leaf
returns-in-Leaf g c =
    elim c.in-Leaf.is [
      | inl leaf ↦ rw leaf.1 c.put.ensures
      | inr leaf ↦ rw leaf.2 c.put.ensures
    ]

pub returns-in-Pair : goal.returns-in-Pair
returns-in-Pair g c =
    rw (c.in-Pair.is, flat_map-append)
    ((rw c.dot_of-upper.ensures.seen at c.put_wire_to.ensures) ▸ (rw c.dot_of-upper.ensures.seen at c.put_wire_to-in-Pair.ensures))

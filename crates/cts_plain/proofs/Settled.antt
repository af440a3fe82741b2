-- How a synthesis ends that has a placed tree.
use Rattle.std.proofs.Common.{List, Result, Ok, Err, IfErr}
use Rattle.cts_instance.specs.declared.parts.Parts.{Parts}
use Rattle.cts_topo.specs.declared.shape.ShapeNode.{ShapeNode}
use Rattle.cts_plain.specs.declared.end.NoTree.{NoTree}
use Rattle.cts_plain.specs.declared.end.NoTree.TheVariants.{Beyond, Cut, NoMemory}
use Rattle.cts_plain.specs.Ends.{EndsInBalance, EndsWithPlan}

settled : (i : Parts) (shape : List ShapeNode) (end : NoTree) → EndsInBalance i shape end → EndsWithPlan i shape end
settled i shape (Beyond node) e = e
settled i shape (Cut node) e = absurd e
settled i shape NoMemory e = tt {0}

pub settled_result : {T : Type 0} (i : Parts) (shape : List ShapeNode) (result : Result T NoTree)
    → IfErr result (EndsInBalance i shape) → IfErr result (EndsWithPlan i shape)
settled_result i shape (Ok r) e = tt
settled_result i shape (Err end) e = settled i shape end e

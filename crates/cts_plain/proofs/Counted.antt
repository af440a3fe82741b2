-- The merges that a synthesis with a placed tree has counted: one for each pair, however the synthesis ends.
use Rattle.std.proofs.Common.{◌≡◌, ℕ, ◌+◌, inr, List, length, Result, Ok, Err, IfErr, OnOk}
use Rattle.cts_instance.specs.declared.parts.Parts.{Parts}
use Rattle.cts_topo.specs.declared.shape.ShapeNode.{ShapeNode}
use Rattle.cts_plain.specs.declared.end.NoTree.{NoTree}
use Rattle.cts_plain.specs.declared.end.NoTree.TheVariants.{Beyond, Cut, NoMemory}
use Rattle.cts_plain.specs.Ends.{CountsMergesOver, EndsInBalance}

module _ (i : Parts) (shape : List ShapeNode) (before after : ℕ) (all : after + 1 ≡ before + length i.sinks) where
  counted : (end : NoTree) → EndsInBalance i shape end → CountsMergesOver i shape before after end
  counted (Beyond node) e = inr (e, all)
  counted (Cut node) e = absurd e
  counted NoMemory e = tt {0}

  pub counted_result : {T : Type 0} (result : Result T NoTree)
      → IfErr result (EndsInBalance i shape) → IfErr result (CountsMergesOver i shape before after)
  counted_result (Ok r) e = tt
  counted_result (Err end) e = counted end e

  pub counted_all : {T : Type 0} (result : Result T NoTree) → OnOk result (after + 1 ≡ before + length i.sinks)
  counted_all (Ok r) = all
  counted_all (Err end) = tt

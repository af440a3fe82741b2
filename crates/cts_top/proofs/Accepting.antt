-- The report of a synthesis has the verdict Yes.
use Rattle.std.proofs.Common.{List, length, Result, Ok, Err, IfOk}
use Rattle.cts_instance.specs.declared.parts.Parts.{Parts}
use Rattle.cts_instance.specs.Validity.{IsValid}
use Rattle.cts_topo.specs.declared.shape.ShapeNode.{ShapeNode}
use Rattle.cts_topo.specs.Shape.{IsShapeOver}
use Rattle.cts_topo.specs.Topology.{shape_of}
use Rattle.cts_tree.specs.declared.nodes.TreeNode.{TreeNode}
use Rattle.cts_elmore.specs.declared.figures.Figures.{Figures}
use Rattle.cts_elmore.specs.Figures.{AreFigures}
use Rattle.cts_plain.specs.declared.end.NoTree.{NoTree}
use Rattle.cts_plain.specs.Synthesis.{IsSynthesis, IsSynthesisOver, made}
use Rattle.cts_plain.proofs.Sound.{tree_ok, trees_sound}
use Rattle.cts_plain.proofs.FewCorners.{trees_few_corners}
use Rattle.cts_plain.proofs.Valid.{shape_over}
use Rattle.cts_report.specs.Report.{report_text}
use Rattle.cts_check.specs.Verdict.{IsRight}
use Rattle.cts_check.proofs.Accepted.{accepted}

-- that of a tree of any shape
pub right_over : (i : Parts) (shape : List ShapeNode) (tree : List TreeNode) (figures : Figures) → IsValid i → IsShapeOver (length i.sinks) shape
    → IsSynthesisOver i shape (made tree) → AreFigures i tree figures → IsRight i (report_text i.version tree figures)
right_over i shape tree figures valid over is are =
    let sound = trees_sound i shape tree valid over is in
    accepted i tree figures valid (tree_ok i shape tree valid over is) (sound.2) (sound.0) (trees_few_corners i shape tree valid over is) are

pub right_report : (i : Parts) (tree : List TreeNode) (figures : Figures) → IsValid i → IsSynthesis i (made tree) → AreFigures i tree figures
    → IsRight i (report_text i.version tree figures)
right_report i tree figures valid = right_over i (shape_of i.sinks) tree figures valid (shape_over i valid)

-- the same of the answer of a synthesis
pub right_made : (i : Parts) → IsValid i → (result : Result (List TreeNode × Figures) NoTree)
    → IfOk result (λ r. IsSynthesis i (made r.0)) → IfOk result (λ r. AreFigures i r.0 r.1)
    → IfOk result (λ r. IsRight i (report_text i.version r.0 r.1))
right_made i valid (Ok r) is are = right_report i r.0 r.1 valid is are
right_made i valid (Err end) is are = tt

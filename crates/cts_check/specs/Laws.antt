-- What holds of every verdict.
use Rattle.std.specs.Prelude.{◌≡◌, ℕ, ◌≤◌, List, length, map, All}
use Rattle.cts_postorder.specs.PostOrder.{IsPostOrder}
use Rattle.cts_tree.specs.declared.nodes.TreeNode.{TreeNode}
use Rattle.cts_tree.specs.Nodes.{tree_children}
use Rattle.cts_instance.specs.declared.parts.Parts.{Parts}
use Rattle.cts_instance.specs.Validity.{IsValid}
use Rattle.cts_elmore.specs.declared.figures.Figures.{Figures}
use Rattle.cts_elmore.specs.Figures.{AreFigures}
use Rattle.cts_elmore.specs.Fits.{FitsInstance}
use Rattle.cts_elmore.specs.Sound.{IsSound}
use Rattle.cts_report.specs.Report.{report_text}
use Rattle.cts_check.specs.declared.verdict.Verdict.{Verdict}
use Rattle.cts_check.specs.declared.verdict.Verdict.TheVariants.{Yes}
use Rattle.cts_check.specs.Verdict.{IsVerdict}

-- some bytes have one verdict
abbrev pub VerdictIsOne : Type 0
VerdictIsOne =
    (i : Parts) (bytes : List ℕ) (verdict other : Verdict) → IsValid i → IsVerdict i bytes verdict
    → IsVerdict i bytes other → verdict ≡ other

-- the report of a sound tree whose routes have few corners has the verdict Yes
abbrev pub SoundReportsAreAccepted : Type 0
SoundReportsAreAccepted =
    (i : Parts) (tree : List TreeNode) (figures : Figures) → IsValid i → IsPostOrder (map tree_children tree) → FitsInstance i tree
    → IsSound i tree → All (λ node. length node.route.corners ≤ 65536) tree → AreFigures i tree figures
    → IsVerdict i (report_text i.version tree figures) Yes

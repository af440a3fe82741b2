-- Which trees can be printed.
use Rattle.std.specs.Prelude.{◌≡◌, List, length, map, All}
use Rattle.cts_postorder.specs.PostOrder.{IsPostOrder}
use Rattle.cts_tree.specs.declared.nodes.TreeNode.{TreeNode}
use Rattle.cts_tree.specs.Nodes.{tree_children}
use Rattle.cts_instance.specs.declared.parts.Parts.{Parts}
use Rattle.cts_instance.specs.Validity.{IsValid}
use Rattle.cts_elmore.specs.declared.figures.Figures.{Figures}
use Rattle.cts_elmore.specs.Figures.{AreFigures, AreFiguresInRange}
use Rattle.cts_elmore.specs.Sound.{IsSound}
use Rattle.cts_report.specs.Report.{IsPrintable, IsPrintableNode}

-- figures that are in range, one of each node, can be printed beside nodes that can
abbrev pub FiguresInRangeArePrintable : Type 0
FiguresInRangeArePrintable =
    (tree : List TreeNode) (figures : Figures) → All IsPrintableNode tree → length figures.nodes ≡ length tree
    → AreFiguresInRange figures → IsPrintable tree figures

-- a sound tree of a valid instance can be printed with its figures
abbrev pub SoundTreesArePrintable : Type 0
SoundTreesArePrintable =
    (i : Parts) (tree : List TreeNode) (figures : Figures) → IsValid i → IsPostOrder (map tree_children tree) → IsSound i tree
    → AreFigures i tree figures → IsPrintable tree figures

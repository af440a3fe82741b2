-- The text for a synthesis, from what the synthesis says of its end.
use Rattle.std.proofs.Common.{◌≤◌, ℕ, List, refl}
use Rattle.cts_instance.specs.declared.parts.Parts.{Parts}
use Rattle.cts_instance.specs.Validity.{IsValid}
use Rattle.cts_tree.specs.declared.nodes.TreeNode.{TreeNode}
use Rattle.cts_elmore.specs.declared.figures.Figures.{Figures}
use Rattle.cts_elmore.specs.Figures.{AreFigures}
use Rattle.cts_elmore.specs.Sound.{IsSound}
use Rattle.cts_elmore.proofs.Below.{skew_within}
use Rattle.cts_plain.specs.Synthesis.{Synthesis, made, beyond, cut}
use Rattle.cts_report.specs.Report.{report_text}
use Rattle.cts_check.specs.Verdict.{IsRight}
use Rattle.cts_top.specs.declared.stop.Answer.TheVariants as answer
use Rattle.cts_top.specs.Text.{TreeText, TellsComing, TellsTree, no_tree_text}
use Rattle.std.specs.Prelude.{codes}

skew_bounded : (i : Parts) (tree : List TreeNode) (figures : Figures) → AreFigures i tree figures → figures.skew ≤ figures.bound
skew_bounded i tree figures f = rw (f.figures_of.skew_is, f.figures_of.bound_is) (skew_within i f.root)

-- a tree, told by its figures
pub tells_tree : (tell : TreeText) (i : Parts) (tree : List TreeNode) (figures : Figures) → AreFigures i tree figures → IsSound i tree
    → IsRight i (report_text i.version tree figures) → TellsTree tell i tree (tell i.version tree figures)
tells_tree tell i tree figures f sound right = record {
  sound = sound;
  figures = figures;
  are_figures = f;
  skew_within = skew_bounded i tree figures f;
  accepted = right;
  told = refl;
}

module _ (Comes : Synthesis → Type 0) (tell : TreeText) (i : Parts) where
  pub tree_told : (tree : List TreeNode) (figures : Figures) → IsValid i → Comes (made tree)
      → AreFigures i tree figures → IsSound i tree → IsRight i (report_text i.version tree figures)
      → TellsComing Comes tell i answer.Text (tell i.version tree figures)
  tree_told tree figures valid comes f sound right = record {
    valid = valid;
    synthesis = made tree;
    comes = comes;
    kind_is = refl;
    is_text = tells_tree tell i tree figures f sound right;
  }

  pub beyond_told : (node : ℕ) → IsValid i → Comes (beyond node)
      → TellsComing Comes tell i answer.NoTree (no_tree_text (codes "beyond") node)
  beyond_told node valid comes =
      record { valid = valid; synthesis = beyond node; comes = comes; kind_is = refl; is_text = refl }

  pub cut_told : (node : ℕ) → IsValid i → Comes (cut node) → TellsComing Comes tell i answer.NoTree (no_tree_text (codes "cut") node)
  cut_told node valid comes =
      record { valid = valid; synthesis = cut node; comes = comes; kind_is = refl; is_text = refl }

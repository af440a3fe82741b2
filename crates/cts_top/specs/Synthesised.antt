-- What is known of the answer of a synthesis, whoever made it.
use Rattle.std.specs.Prelude.{List, Result, IfOk, IfErr}
use Rattle.cts_instance.specs.declared.parts.Parts.{Parts}
use Rattle.cts_tree.specs.declared.nodes.TreeNode.{TreeNode}
use Rattle.cts_elmore.specs.declared.figures.Figures.{Figures}
use Rattle.cts_elmore.specs.Figures.{AreFigures}
use Rattle.cts_elmore.specs.Sound.{IsSound}
use Rattle.cts_report.specs.Report.{IsPrintable, report_text}
use Rattle.cts_check.specs.Verdict.{IsRight}
use Rattle.cts_plain.specs.declared.end.NoTree.{NoTree}
use Rattle.cts_plain.specs.Ends.{EndsBy}
use Rattle.cts_plain.specs.Synthesis.{IsSynthesis, Synthesis, made}
use Rattle.cts_near.specs.Synthesis.{IsSynthesisNear}

-- the topology over which a tree is made: that after means and medians, or the nearest-pair one
pub data Topology : Type 0 where
  medians : Topology
  nearest : Topology

-- what the synthesis of an instance over it comes to
abbrev pub ComesOver : Topology → Parts → Synthesis → Type 0
ComesOver medians = IsSynthesis
ComesOver nearest = IsSynthesisNear

-- A synthesis of an instance, where `Comes` says what it comes to. A tree is what it comes to. It is sound, its figures are
-- those of their definitions, and its report can be printed and is right. Where there is none it comes to this end.
pub record IsSynthesisedBy (Comes : Synthesis → Type 0) (i : Parts) (result : Result (List TreeNode × Figures) NoTree) : Type 0 where
  pub tree : IfOk result (λ r. Comes (made r.0))
  pub figures : IfOk result (λ r. AreFigures i r.0 r.1)
  pub sound : IfOk result (λ r. IsSound i r.0)
  pub printable : IfOk result (λ r. IsPrintable r.0 r.1)
  pub right : IfOk result (λ r. IsRight i (report_text i.version r.0 r.1))
  pub ends : IfErr result (EndsBy Comes)

-- the synthesis of an instance
abbrev pub IsSynthesised : Parts → Result (List TreeNode × Figures) NoTree → Type 0
IsSynthesised i = IsSynthesisedBy (IsSynthesis i) i

-- What is known of the answer of a synthesis, by what its passes say of their ends.
use Rattle.std.proofs.Common.{◌≡◌, inl, inr, List, length, Result, Ok, Err, IfOk, IfErr, subst}
use Rattle.std.specs.List.{All}
use Rattle.cts_instance.specs.declared.parts.Parts.{Parts}
use Rattle.cts_instance.specs.Validity.{IsValid}
use Rattle.cts_topo.specs.declared.shape.ShapeNode.{ShapeNode}
use Rattle.cts_topo.specs.Topology.{shape_of}
use Rattle.cts_tree.specs.declared.nodes.TreeNode.{TreeNode}
use Rattle.cts_up.specs.Ends.{Ends as EndsInPlan}
use Rattle.cts_up.specs.Plan.{IsLeastBeyond}
use Rattle.cts_up.specs.declared.end.UpEnd.{UpEnd}
use Rattle.cts_up.specs.declared.end.UpEnd.TheVariants as up
use Rattle.cts_elmore.specs.declared.figures.Figures.{Figures}
use Rattle.cts_elmore.specs.Figures.{AreFigures, AreFiguresInRange}
use Rattle.cts_elmore.specs.Measurement.{HasFigures}
use Rattle.cts_elmore.specs.Sound.{IsSound, StandsInDie}
use Rattle.cts_report.proofs.Printable.{printable_made}
use Rattle.cts_plain.specs.declared.end.NoTree.{NoTree}
use Rattle.cts_plain.specs.declared.end.NoTree.TheVariants.{Beyond, Cut, NoMemory}
use Rattle.cts_plain.specs.Ends.{Ends, EndsWithPlan}
use Rattle.cts_plain.specs.Ends.{EndsBy}
use Rattle.cts_plain.specs.EndsOf.{of_plan}
use Rattle.cts_plain.specs.Synthesis.{IsBeyondOf, IsCutOf, IsSynthesis, IsSynthesisOver, Synthesis, made}
use Rattle.cts_top.specs.declared.stop.Answer.TheVariants as answer
use Rattle.cts_top.specs.Synthesised.{IsSynthesised, IsSynthesisedBy}
use Rattle.cts_top.specs.Text.{TellsComing, TreeText}
use Rattle.cts_near.specs.Synthesis.{IsSynthesisNear}
use Rattle.cts_near.proofs.OneTree.{near_over}
use Rattle.cts_top.proofs.Accepting.{right_made}
use Rattle.cts_top.proofs.Accepting.{right_over}
use Rattle.cts_top.proofs.Told.{tree_told}

-- an answer of a synthesis
abbrev Made : Type 0
Made = Result (List TreeNode × Figures) NoTree

pub synthesised : (i : Parts) → IsValid i → (result : Made) → IfOk result (λ r. IsSynthesis i (made r.0)) → IfOk result (λ r. AreFigures i r.0 r.1)
    → IfOk result (λ r. IsSound i r.0) → IfOk result (λ r. length r.1.nodes ≡ length r.0) → IfOk result (λ r. AreFiguresInRange r.1)
    → IfOk result (λ r. All (StandsInDie i.die) r.0) → IfErr result (Ends i) → IsSynthesised i result
synthesised i valid result is are sound long range stands ends = record {
  tree = is;
  figures = are;
  sound = sound;
  printable = printable_made i.die valid.die result long range stands;
  right = right_made i valid result is are;
  ends = ends;
}

-- and its figures are one of each node
pub measured : (i : Parts) (result : Made) → IfOk result (λ r. AreFigures i r.0 r.1) → IfOk result (λ r. IsSound i r.0)
    → IfOk result (λ r. length r.1.nodes ≡ length r.0) → IfOk result (λ r. AreFiguresInRange r.1) → IfOk result (λ r. HasFigures i r.0 r.1)
measured i (Ok r) are sound long range = record { within = sound.within; are_figures = are; one_each = long; in_range = range }
measured i (Err end) are sound long range = tt

over_ok : (i : Parts) (shape : List ShapeNode) (result : Made) → shape ≡ shape_of i.sinks
    → IfOk result (λ r. IsSynthesisOver i shape (made r.0)) → IfOk result (λ r. IsSynthesis i (made r.0))
over_ok i shape (Ok r) e p = subst (λ s. IsSynthesisOver i s (made r.0)) e p
over_ok i shape (Err end) e p = tt

over_err : (i : Parts) (shape : List ShapeNode) (result : Made) → shape ≡ shape_of i.sinks → IfErr result (EndsWithPlan i shape) → IfErr result (Ends i)
over_err i shape (Ok r) e p = tt
over_err i shape (Err (Beyond n)) e p = inr (subst (λ s. IsBeyondOf i s n) e p)
over_err i shape (Err (Cut n)) e p = subst (λ s. IsCutOf i s n) e p
over_err i shape (Err NoMemory) e p = tt

-- from a plan of the shape
pub finished : (i : Parts) → IsValid i → (shape : List ShapeNode) → shape ≡ shape_of i.sinks → (result : Made)
    → IfOk result (λ r. IsSynthesisOver i shape (made r.0)) → IfOk result (λ r. AreFigures i r.0 r.1)
    → IfOk result (λ r. IsSound i r.0) → IfOk result (λ r. length r.1.nodes ≡ length r.0) → IfOk result (λ r. AreFiguresInRange r.1)
    → IfOk result (λ r. All (StandsInDie i.die) r.0) → IfErr result (EndsWithPlan i shape) → IsSynthesised i result
finished i valid shape e result is are sound long range stands ends =
    synthesised i valid result (over_ok i shape result e is) are sound long range stands (over_err i shape result e ends)

-- without a plan
pub plan_ends : (i : Parts) (shape : List ShapeNode) (end : UpEnd) → shape ≡ shape_of i.sinks → EndsInPlan i.params i.sinks shape end → Ends i (of_plan end)
plan_ends i shape (up.Beyond n) e p = inl (subst (λ s. IsLeastBeyond i.params i.sinks s n) e p)
plan_ends i shape up.NoMemory e p = tt

pub ended_by : (Comes : Synthesis → Type 0) (i : Parts) (end : NoTree) → EndsBy Comes end → IsSynthesisedBy Comes i (Err end)
ended_by Comes i end p = record { tree = tt; figures = tt; sound = tt; printable = tt; right = tt; ends = p }

pub no_plan : (i : Parts) (end : NoTree) → Ends i end → IsSynthesised i (Err end)
no_plan i end p = ended_by (IsSynthesis i) i end p

-- over the nearest-pair topology
pub near_made : (i : Parts) → IsValid i → (tree : List TreeNode) (figures : Figures) → IsSynthesisNear i (made tree) → AreFigures i tree figures
    → IsSound i tree → length figures.nodes ≡ length tree → AreFiguresInRange figures → All (StandsInDie i.die) tree
    → IsSynthesisedBy (IsSynthesisNear i) i (Ok (tree, figures))
near_made i valid tree figures is are sound long range stands = record {
  tree = is;
  figures = are;
  sound = sound;
  printable = printable_made {E = NoTree} i.die valid.die (Ok (tree, figures)) long range stands;
  right = right_over i is.shape tree figures valid (near_over i valid is.shape is.near) is.over are;
  ends = tt;
}

-- the text for a tree that is known
pub tree_of : (Comes : Synthesis → Type 0) (tell : TreeText) (i : Parts) (result : Made) (tree : List TreeNode) (figures : Figures) → IsValid i
    → result ≡ Ok (tree, figures) → IsSynthesisedBy Comes i result → TellsComing Comes tell i answer.Text (tell i.version tree figures)
tree_of Comes tell i result tree figures valid e is =
    let s : IsSynthesisedBy Comes i (Ok (tree, figures)) = subst (IsSynthesisedBy Comes i) e is in
    tree_told Comes tell i tree figures valid s.tree s.figures s.sound s.right

-- A tree has one set of figures.
use Rattle.std.proofs.Common.{◌≡◌, ◌↔◌, ℕ, Bool, true, false, List, [], IsTrue, refl, sym, ap, subst, ◌∙◌}
use Rattle.cts_postorder.specs.BinaryTree.{BinaryTree}
use Rattle.cts_postorder.specs.Occurrence.{Occurrence, occurrences}
use Rattle.cts_postorder.proofs.Zips.{all_zip-one}
use Rattle.cts_tree.specs.declared.nodes.TreeNode.{TreeNode}
use Rattle.cts_instance.specs.declared.parts.Parts.{Parts}
use Rattle.cts_elmore.specs.declared.figures.NodeFigure.{NodeFigure}
use Rattle.cts_elmore.specs.declared.figures.Figures.{Figures}
use Rattle.cts_elmore.specs.Figures.{IsNodeFigure, AreFiguresOf}
use Rattle.cts_elmore.specs.Laws.{FiguresAreOne}

-- two answers to one question
pub answer_one : {P : Type 0} (a b : Bool) → (IsTrue a ↔ P) → (IsTrue b ↔ P) → a ≡ b
answer_one true true p q = refl
answer_one false false p q = refl
answer_one true false p q = sym (q.1 (p.0 refl))
answer_one false true p q = p.1 (q.0 refl)

node_figure_one : (i : Parts) (root : BinaryTree TreeNode) (o : Occurrence TreeNode) (f g : NodeFigure)
    → IsNodeFigure i root o f → IsNodeFigure i root o g → f ≡ g
node_figure_one i root o f g p q =
    let with_below : ℕ → NodeFigure = λ x. record f { below = x } in
    let with_residue : ℕ → NodeFigure = λ x. record f { below = g.below; residue = x } in
    let with_delay : ℕ → NodeFigure = λ x. record g { delay = x; stage = f.stage; offset = f.offset } in
    let with_stage : ℕ → NodeFigure = λ x. record g { stage = x; offset = f.offset } in
    let with_offset : ℕ → NodeFigure = λ x. record g { offset = x } in
    ap with_below (p.below ∙ sym q.below) ∙ ap with_residue (p.residue_is ∙ sym q.residue_is)
    ∙ ap with_delay (p.delay ∙ sym q.delay) ∙ ap with_stage (p.stage ∙ sym q.stage) ∙ ap with_offset (p.offset ∙ sym q.offset)

figures_of_one : (i : Parts) (root : BinaryTree TreeNode) (f g : Figures) → AreFiguresOf i root f → AreFiguresOf i root g → f ≡ g
figures_of_one i root f g p q =
    let nodes : f.nodes ≡ g.nodes =
    all_zip-one (IsNodeFigure i root) (λ o a b. node_figure_one i root o a b) (occurrences [] root) f.nodes g.nodes p.each_node q.each_node in
    let source_load : f.source_load ≡ g.source_load = p.source_load_is ∙ sym q.source_load_is in
    let wire_total : f.wire_total ≡ g.wire_total = p.wire_total ∙ sym q.wire_total in
    let greatest : f.greatest ≡ g.greatest = p.greatest ∙ sym q.greatest in
    let least : f.least ≡ g.least = p.least ∙ sym q.least in
    let arrival_greatest : f.arrival_greatest ≡ g.arrival_greatest = p.arrival_greatest ∙ sym q.arrival_greatest in
    let arrival_least : f.arrival_least ≡ g.arrival_least = p.arrival_least ∙ sym q.arrival_least in
    let skew : f.skew ≡ g.skew = p.skew_is ∙ sym q.skew_is in
    let bound : f.bound ≡ g.bound = p.bound_is ∙ sym q.bound_is in
    let load_met : f.load_met ≡ g.load_met = answer_one f.load_met g.load_met p.load_met q.load_met in
    let slew_met : f.slew_met ≡ g.slew_met = answer_one f.slew_met g.slew_met p.slew_met q.slew_met in
    ap (λ (x : List NodeFigure). record f { nodes = x }) nodes
    ∙ ap (λ (x : ℕ). record f { nodes = g.nodes; source_load = x }) source_load
    ∙ ap (λ (x : ℕ). record f { nodes = g.nodes; source_load = g.source_load; wire_total = x }) wire_total
    ∙ ap (λ (x : ℕ). record g { greatest = x; least = f.least; arrival_greatest = f.arrival_greatest; arrival_least = f.arrival_least; skew = f.skew; bound = f.bound; load_met = f.load_met; slew_met = f.slew_met }) greatest
    ∙ ap (λ (x : ℕ). record g { least = x; arrival_greatest = f.arrival_greatest; arrival_least = f.arrival_least; skew = f.skew; bound = f.bound; load_met = f.load_met; slew_met = f.slew_met }) least
    ∙ ap (λ (x : ℕ). record g { arrival_greatest = x; arrival_least = f.arrival_least; skew = f.skew; bound = f.bound; load_met = f.load_met; slew_met = f.slew_met }) arrival_greatest
    ∙ ap (λ (x : ℕ). record g { arrival_least = x; skew = f.skew; bound = f.bound; load_met = f.load_met; slew_met = f.slew_met }) arrival_least
    ∙ ap (λ (x : ℕ). record g { skew = x; bound = f.bound; load_met = f.load_met; slew_met = f.slew_met }) skew
    ∙ ap (λ (x : ℕ). record g { bound = x; load_met = f.load_met; slew_met = f.slew_met }) bound
    ∙ ap (λ (x : Bool). record g { load_met = x; slew_met = f.slew_met }) load_met
    ∙ ap (λ (x : Bool). record g { slew_met = x }) slew_met

pub figures_one : FiguresAreOne
figures_one i nodes f g p q =
    let roots : _ = sym p.root_is ∙ q.root_is in
    let root : p.root ≡ q.root = cc in
    figures_of_one i p.root f g p.figures_of (subst (λ (r : BinaryTree TreeNode). AreFiguresOf i r g) (sym root) q.figures_of)

-- Stretches of nodes, one after another.
use Rattle.std.proofs.Common.{◌≡◌, ℕ, zero, suc, ◌+◌, ◌*◌, ◌≤◌, List, [], ◌∷◌, ◌++◌, length, take, drop, refl, sym, ap, ◌∙◌, arith, append_assoc}
use Rattle.std.specs.List.{concat}
use Rattle.std.proofs.lemmas.List.{take_all, drop-drop}
use Rattle.cts_tree.specs.declared.nodes.TreeNode.{TreeNode}
use Rattle.cts_instance.specs.declared.version.Version.{Version}
use Rattle.cts_elmore.specs.declared.figures.NodeFigure.{NodeFigure}
use Rattle.cts_report.specs.Printed.{PrintedNode}
use Rattle.cts_report.specs.Lines.{node_line, node_lines}
use Rattle.cts_report.specs.Report.{printed_node, printed_nodes}
use Rattle.cts_report_workers.specs.declared.body.Body.{Body}
use Rattle.cts_report_workers.specs.Stretches.{stretch_text}

-- what is printed of the first nodes, and of those after them
printed_nodes-take : (version : Version) (n : ℕ) (nodes : List TreeNode) (figures : List NodeFigure)
    → printed_nodes version (take n nodes) (take n figures) ≡ take n (printed_nodes version nodes figures)
unfolding printed_nodes
printed_nodes-take version zero nodes figures = refl
printed_nodes-take version (suc n) [] figures = refl
printed_nodes-take version (suc n) (node ∷ nodes) [] = refl
printed_nodes-take version (suc n) (node ∷ nodes) (figure ∷ figures) =
    ap (λ ps. printed_node version node figure ∷ ps) (printed_nodes-take version n nodes figures)

-- where there are no figures, nothing is printed
printed_nodes-none : (version : Version) (nodes : List TreeNode) → printed_nodes version nodes [] ≡ []
unfolding printed_nodes
printed_nodes-none version [] = refl
printed_nodes-none version (node ∷ nodes) = refl

printed_nodes-drop : (version : Version) (n : ℕ) (nodes : List TreeNode) (figures : List NodeFigure)
    → printed_nodes version (drop n nodes) (drop n figures) ≡ drop n (printed_nodes version nodes figures)
unfolding printed_nodes
printed_nodes-drop version zero nodes figures = refl
printed_nodes-drop version (suc n) [] figures = refl
printed_nodes-drop version (suc n) (node ∷ nodes) [] = printed_nodes-none version (drop n nodes)
printed_nodes-drop version (suc n) (node ∷ nodes) (figure ∷ figures) = printed_nodes-drop version n nodes figures

-- the lines of some nodes, and those of the nodes after them
lines_append : (first a b : ℕ) (ps : List PrintedNode)
    → concat (node_lines first (take (a + b) ps)) ≡ concat (node_lines first (take a ps)) ++ concat (node_lines (first + a) (take b (drop a ps)))
unfolding node_lines
lines_append first zero b ps =
    let same : zero + b ≡ b = omega arith in
    let here : first ≡ first + zero = omega arith in
    ap (λ n. concat (node_lines first (take n ps))) same ∙ ap (λ n. concat (node_lines n (take b ps))) here
lines_append first (suc a) b [] =
    ap (λ qs. concat (node_lines first qs)) (take_all (suc a + b) [] (omega arith))
    ∙ sym (ap (λ qs. concat (node_lines (first + suc a) qs)) (take_all b [] (omega arith)))
lines_append first (suc a) b (p ∷ ps) =
    let same : suc a + b ≡ suc (a + b) = omega arith in
    let later : first + 1 + a ≡ first + suc a = omega arith in
    ap (λ n. concat (node_lines first (take n (p ∷ ps)))) same
    ∙ ap (λ t. node_line first p ++ t) (lines_append (first + 1) a b ps ∙ ap (λ n. concat (node_lines (first + 1) (take a ps)) ++ concat (node_lines n (take b (drop a ps)))) later)
    ∙ sym (append_assoc (node_line first p) (concat (node_lines (first + 1) (take a ps))) (concat (node_lines (first + suc a) (take b (drop a ps)))))

-- the lines of a stretch, by what is printed of all nodes
stretch_printed : (body : Body) (first count : ℕ)
    → stretch_text body first count ≡ concat (node_lines first (take count (drop first (printed_nodes body.version body.nodes.now body.figures.now))))
stretch_printed body first count =
    ap (λ ps. concat (node_lines first ps))
    (printed_nodes-take body.version count (drop first body.nodes.now) (drop first body.figures.now)
    ∙ ap (take count) (printed_nodes-drop body.version first body.nodes.now body.figures.now))

-- a stretch, and the next one
pub stretch_append : (body : Body) (first a b : ℕ) → stretch_text body first (a + b) ≡ stretch_text body first a ++ stretch_text body (first + a) b
stretch_append body first a b =
    let ps : List PrintedNode = printed_nodes body.version body.nodes.now body.figures.now in
    stretch_printed body first (a + b)
    ∙ lines_append first a b (drop first ps)
    ∙ ap (λ qs. concat (node_lines first (take a (drop first ps))) ++ concat (node_lines (first + a) (take b qs))) (drop-drop a first ps)
    ∙ sym (ap (λ t. t ++ stretch_text body (first + a) b) (stretch_printed body first a)
    ∙ ap (λ t. concat (node_lines first (take a (drop first ps))) ++ t) (stretch_printed body (first + a) b))

-- no node
pub stretch_none : (body : Body) (first : ℕ) → stretch_text body first 0 ≡ []
unfolding node_lines printed_nodes
stretch_none body first = refl

-- no stretch
pub stretch_start : (body : Body) (first count : ℕ) → stretch_text body first (0 * count) ≡ []
stretch_start body first count =
    let none : 0 * count ≡ 0 = omega arith in
    ap (stretch_text body first) none ∙ stretch_none body first

-- one stretch more of the same length
pub stretch_more : (body : Body) (first count k : ℕ)
    → stretch_text body first ((k + 1) * count) ≡ stretch_text body first (k * count) ++ stretch_text body (first + k * count) count
stretch_more body first count k =
    let more : (k + 1) * count ≡ k * count + count = grind arith in
    ap (stretch_text body first) more ∙ stretch_append body first (k * count) count

-- the nodes so far, and those of a stretch
pub stretch_on : (body : Body) (first count : ℕ) → stretch_text body 0 (first + count) ≡ stretch_text body 0 first ++ stretch_text body first count
stretch_on body first count =
    let here : 0 + first ≡ first = omega arith in
    stretch_append body 0 first count ∙ ap (λ n. stretch_text body 0 first ++ stretch_text body n count) here

-- all nodes
pub stretch_whole : (body : Body) (n : ℕ) → length body.figures.now ≡ length body.nodes.now → length body.nodes.now ≤ n
    → stretch_text body 0 n ≡ concat (node_lines 0 (printed_nodes body.version body.nodes.now body.figures.now))
stretch_whole body n long all =
    ap (λ nodes. concat (node_lines 0 (printed_nodes body.version nodes (take n body.figures.now)))) (take_all n body.nodes.now all)
    ∙ ap (λ figures. concat (node_lines 0 (printed_nodes body.version body.nodes.now figures))) (take_all n body.figures.now (omega arith))

-- Lines of nodes and points, one more at a time.
use Rattle.std.proofs.Common.{◌≡◌, ℕ, zero, suc, ◌+◌, ◌<◌, List, [], ◌∷◌, ◌++◌, length, take, get_or, map, refl, sym, ap, subst, ◌∙◌, arith, append_assoc, append-nil}
use Rattle.std.specs.List.{flat_map, concat}
use Rattle.std.proofs.lemmas.List.{take_more, length-take-le}
use Rattle.cts_geom.specs.declared.points.Half.{Half}
use Rattle.cts_tree.specs.declared.nodes.TreeNode.{TreeNode}
use Rattle.cts_instance.specs.declared.version.Version.{Version}
use Rattle.cts_elmore.specs.declared.figures.NodeFigure.{NodeFigure}
use Rattle.cts_report.specs.Printed.{Printed, PrintedNode}
use Rattle.cts_report.specs.Lines.{count_line, node_line, node_lines, point_words, report_lines, text_of_lines, title_line, total_lines}
use Rattle.cts_report.specs.Report.{printed_point, printed_node, printed_nodes}

pub concat-append : (xs ys : List (List ℕ)) → concat (xs ++ ys) ≡ concat xs ++ concat ys
concat-append [] ys = refl
concat-append (x ∷ xs) ys = ap (λ t. x ++ t) (concat-append xs ys) ∙ sym (append_assoc x (concat xs) (concat ys))

-- a report is what stands before its nodes, the lines of the nodes, and what stands behind them
pub report_parts : (version : Version) (p : Printed)
    → text_of_lines (report_lines version p)
    ≡ (title_line version ++ count_line (length p.nodes)) ++ (concat (node_lines 0 p.nodes) ++ concat (total_lines p.totals))
unfolding report_lines
report_parts version p =
    ap (λ t. title_line version ++ (count_line (length p.nodes) ++ t)) (concat-append (node_lines 0 p.nodes) (total_lines p.totals))
    ∙ sym (append_assoc (title_line version) (count_line (length p.nodes)) (concat (node_lines 0 p.nodes) ++ concat (total_lines p.totals)))

-- the lines of nodes, with one more node
pub node_lines_more : (number : ℕ) (nodes : List PrintedNode) (node : PrintedNode)
    → concat (node_lines number (nodes ++ node ∷ [])) ≡ concat (node_lines number nodes) ++ node_line (number + length nodes) node
unfolding node_lines
node_lines_more number [] node =
    append-nil (node_line number node) ∙ ap (λ n. node_line n node) (omega arith)
node_lines_more number (first ∷ nodes) node =
    ap (λ t. node_line number first ++ t)
    (node_lines_more (number + 1) nodes node ∙ ap (λ n. concat (node_lines (number + 1) nodes) ++ node_line n node) (omega arith))
    ∙ sym (append_assoc (node_line number first) (concat (node_lines (number + 1) nodes)) (node_line (number + length (first ∷ nodes)) node))

pub length-printed_nodes : (version : Version) (nodes : List TreeNode) (figures : List NodeFigure) → length figures ≡ length nodes
    → length (printed_nodes version nodes figures) ≡ length nodes
unfolding printed_nodes
length-printed_nodes version [] figures h = refl
length-printed_nodes version (node ∷ nodes) [] h = absurd (omega arith)
length-printed_nodes version (node ∷ nodes) (figure ∷ figures) h =
    ap suc (length-printed_nodes version nodes figures (omega arith))

-- what is printed of the node of a number
pub get_or-printed_nodes : (version : Version) (nodes : List TreeNode) (figures : List NodeFigure) (k : ℕ) (n : TreeNode) (f : NodeFigure) (p : PrintedNode)
    → length figures ≡ length nodes → k < length nodes
    → get_or (printed_nodes version nodes figures) k p ≡ printed_node version (get_or nodes k n) (get_or figures k f)
unfolding printed_nodes
get_or-printed_nodes version [] figures k n f p h w = absurd (omega arith)
get_or-printed_nodes version (node ∷ nodes) [] k n f p h w = absurd (omega arith)
get_or-printed_nodes version (node ∷ nodes) (figure ∷ figures) zero n f p h w = refl
get_or-printed_nodes version (node ∷ nodes) (figure ∷ figures) (suc k) n f p h w =
    get_or-printed_nodes version nodes figures k n f p (omega arith) (omega arith)

-- the lines of the nodes of a stretch before a place, and then that node's
pub lines_before_more : (version : Version) (first : ℕ) (nodes : List TreeNode) (figures : List NodeFigure) (k : ℕ) (n : TreeNode) (f : NodeFigure)
    → length figures ≡ length nodes → k < length nodes
    → concat (node_lines first (take (k + 1) (printed_nodes version nodes figures)))
    ≡ concat (node_lines first (take k (printed_nodes version nodes figures))) ++ node_line (first + k) (printed_node version (get_or nodes k n) (get_or figures k f))
lines_before_more version first nodes figures k n f h w =
    let printed : List PrintedNode = printed_nodes version nodes figures in
    let p : PrintedNode = printed_node version (get_or nodes k n) (get_or figures k f) in
    let long : length printed ≡ length nodes = length-printed_nodes version nodes figures h in
    let front : length (take k printed) ≡ k = length-take-le k printed (omega arith) in
    ap (λ ps. concat (node_lines first ps)) (take_more printed k p (omega arith)
    ∙ ap (λ q. take k printed ++ q ∷ []) (get_or-printed_nodes version nodes figures k n f p h w))
    ∙ node_lines_more first (take k printed) p
    ∙ ap (λ i. concat (node_lines first (take k printed)) ++ node_line i p) (omega arith)

-- the words of the points before a number, and then that point's
pub points_before_more : (points : List Half) (k : ℕ) (p : Half) → k < length points
    → flat_map point_words (map printed_point (take (k + 1) points))
    ≡ flat_map point_words (map printed_point (take k points)) ++ point_words (printed_point (get_or points k p))
points_before_more [] k p w = absurd (omega arith)
points_before_more (point ∷ points) zero p w = append-nil (point_words (printed_point point))
points_before_more (point ∷ points) (suc k) p w =
    ap (λ n. flat_map point_words (map printed_point (take n (point ∷ points)))) (let next : suc k + 1 ≡ suc (k + 1) = omega arith in next)
    ∙ ap (λ t. point_words (printed_point point) ++ t) (points_before_more points k p (omega arith))
    ∙ sym (append_assoc (point_words (printed_point point)) (flat_map point_words (map printed_point (take k points))) (point_words (printed_point (get_or points k p))))

-- what holds of the words of the points before a number, and of that point's, holds of those up to it
pub points_step : (P : List ℕ → Type 0) (points : List Half) (k : ℕ) (p : Half) → k < length points
    → P (flat_map point_words (map printed_point (take k points)) ++ point_words (printed_point (get_or points k p)))
    → P (flat_map point_words (map printed_point (take (k + 1) points)))
points_step P points k p w here = subst P (sym (points_before_more points k p w)) here

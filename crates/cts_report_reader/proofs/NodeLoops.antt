-- Nodes read one after another.
use Rattle.std.proofs.Common.{◌≡◌, ℕ, suc, ◌+◌, ◌-◌, ◌<◌, List, [], ◌∷◌, ◌++◌, Option, Some, None, Result, Ok, Err, refl, sym, ap, ap₂, ◌∙◌, arith, append_assoc, append-nil}
use Rattle.std.specs.Borrow.{Bor}
use Rattle.std.proofs.lemmas.List.{map-append}
use Rattle.cts_num.specs.declared.error.NoMemory.{NoMemory}
use Rattle.cts_postorder.specs.Stack.{stack_after}
use Rattle.cts_report.specs.Printed.{PrintedNode}
use Rattle.cts_report_reader.specs.declared.form.Form.{Form}
use Rattle.cts_report_reader.specs.declared.node.ReportNode.{ReportNode}
use Rattle.cts_report_reader.specs.Bounds.{printed_children}
use Rattle.cts_report_reader.specs.NodeLine.{node_at}
use Rattle.cts_report_reader.specs.Nodes.{seen_node, seen_nodes}
use Rattle.cts_report_reader.specs.Seen.{fronted_lines, FindsIn, FindsLines}
use Rattle.cts_report_reader.specs.Whole.{mapped_lines, nodes_at}

abbrev Nodes : Type 0
Nodes = Result (List PrintedNode × List ℕ) ℕ

cons_lines : PrintedNode → Nodes → Nodes
cons_lines n (Ok f) = Ok (n ∷ f.0, f.1)
cons_lines n (Err line) = Err line

mapped_is : (n : PrintedNode) (o : Nodes) (read : List ℕ → Nodes) (bytes : List ℕ) → read bytes ≡ o → mapped_lines (λ nodes. n ∷ nodes) read bytes ≡ cons_lines n o
unfolding cons_lines
mapped_is n (Ok f) read bytes e = rw e refl
mapped_is n (Err line) read bytes e = rw e refl

nodes_suc : (form : Form) (todo k : ℕ) (stack bytes : List ℕ) (n : PrintedNode) (rest : List ℕ) → node_at form k stack todo bytes ≡ Some (n, rest)
    → nodes_at form (suc todo) k stack bytes ≡ cons_lines n (nodes_at form todo (k + 1) (stack_after (printed_children n) stack k) rest)
unfolding nodes_at
nodes_suc form todo k stack bytes n rest e =
    rw e (mapped_is n (nodes_at form todo (k + 1) (stack_after (printed_children n) stack k) rest) (nodes_at form todo (k + 1) (stack_after (printed_children n) stack k)) rest refl)

nodes_missed : (form : Form) (todo k : ℕ) (stack bytes : List ℕ) → node_at form k stack todo bytes ≡ None
    → nodes_at form (suc todo) k stack bytes ≡ Err (k + 2 + 1)
unfolding nodes_at
nodes_missed form todo k stack bytes e = rw e refl

front_cons : (front : List PrintedNode) (n : PrintedNode) (o : Nodes) → fronted_lines front (cons_lines n o) ≡ fronted_lines (front ++ n ∷ []) o
unfolding cons_lines
front_cons front n (Ok f) = ap (λ ns. Ok (ns, f.1)) (sym (append_assoc front (n ∷ []) f.0))
front_cons front n (Err line) = refl

found_node : (node : ReportNode) (rest : Bor (List ℕ)) (right : Option (PrintedNode × List ℕ)) → FindsIn {E = NoMemory} seen_node (Ok (Some (node, rest))) right
    → right ≡ Some (seen_node node, rest.now)
found_node node rest None h = absurd h
found_node node rest (Some x) h = ap Some (ap₂ (λ a b. (a, b)) (sym h.0) (sym h.1))

no_node : (right : Option (PrintedNode × List ℕ)) → FindsIn {T = ReportNode} {E = NoMemory} seen_node (Ok None) right → right ≡ None
no_node None h = refl
no_node (Some x) h = absurd h

-- the next node
pub nodes_step : (form : Form) (count k : ℕ) (stack after : List ℕ) (front : List ReportNode) (whole : Nodes) (bytes : List ℕ) (node : ReportNode) (rest : Bor (List ℕ))
    → k < count → fronted_lines (seen_nodes front) (nodes_at form (count - k) k stack bytes) ≡ whole
    → FindsIn {E = NoMemory} seen_node (Ok (Some (node, rest))) (node_at form k stack (count - k - 1) bytes)
    → after ≡ stack_after (printed_children (seen_node node)) stack k
    → fronted_lines (seen_nodes (front ++ node ∷ [])) (nodes_at form (count - (k + 1)) (k + 1) after rest.now) ≡ whole
nodes_step form count k stack after front whole bytes node rest lt h found after_is =
    let todo = count - k - 1 in
    let e : count - k ≡ suc todo = omega arith in
    let f : count - (k + 1) ≡ todo = omega arith in
    let more = ap (λ n. nodes_at form n k stack bytes) e ∙ nodes_suc form todo k stack bytes (seen_node node) rest.now (found_node node rest _ found) in
    ap (λ qs. fronted_lines qs (nodes_at form (count - (k + 1)) (k + 1) after rest.now)) (map-append seen_node front (node ∷ []))
    ∙ ap₂ (λ n s. fronted_lines (seen_nodes front ++ seen_node node ∷ []) (nodes_at form n (k + 1) s rest.now)) f after_is
    ∙ sym (front_cons (seen_nodes front) (seen_node node) (nodes_at form todo (k + 1) (stack_after (printed_children (seen_node node)) stack k) rest.now))
    ∙ ap (fronted_lines (seen_nodes front)) (sym more) ∙ h

-- a node that is not there
pub nodes_none : (form : Form) (count k : ℕ) (stack : List ℕ) (front : List PrintedNode) (whole : Nodes) (bytes : List ℕ)
    → k < count → fronted_lines front (nodes_at form (count - k) k stack bytes) ≡ whole
    → FindsIn {T = ReportNode} {E = NoMemory} seen_node (Ok None) (node_at form k stack (count - k - 1) bytes) → whole ≡ Err (k + 3)
nodes_none form count k stack front whole bytes lt h found =
    let todo = count - k - 1 in
    let e : count - k ≡ suc todo = omega arith in
    let line : k + 2 + 1 ≡ k + 3 = omega arith in
    sym h ∙ ap (λ n. fronted_lines front (nodes_at form n k stack bytes)) e
    ∙ ap (fronted_lines front) (nodes_missed form todo k stack bytes (no_node _ found)) ∙ ap Err line

-- all nodes
pub nodes_done : (form : Form) (count k : ℕ) (stack : List ℕ) (front : List PrintedNode) (whole : Nodes) (bytes : List ℕ)
    → k ≡ count → fronted_lines front (nodes_at form (count - k) k stack bytes) ≡ whole → whole ≡ Ok (front, bytes)
unfolding nodes_at
nodes_done form count k stack front whole bytes e h =
    let none : count - k ≡ 0 = omega arith in
    sym h ∙ ap (λ n. fronted_lines front (nodes_at form n k stack bytes)) none ∙ ap (λ ns. Ok (ns, bytes)) (append-nil front)

nothing_fronted : (o : Nodes) → fronted_lines [] o ≡ o
nothing_fronted (Ok f) = refl
nothing_fronted (Err line) = refl

pub nodes_begin : (form : Form) (count : ℕ) (bytes : List ℕ) → fronted_lines [] (nodes_at form (count - 0) 0 [] bytes) ≡ nodes_at form count 0 [] bytes
nodes_begin form count bytes =
    let e : count - 0 ≡ count = omega arith in
    ap (λ n. fronted_lines [] (nodes_at form n 0 [] bytes)) e ∙ nothing_fronted (nodes_at form count 0 [] bytes)

-- what the code found, by an equation
pub found_lines : {T A : Type 0} (view : T → A) (value : T) (left : Bor (List ℕ)) (right : Result (A × List ℕ) ℕ)
    → right ≡ Ok (view value, left.now) → FindsLines {E = NoMemory} view (Ok (Ok (value, left))) right
found_lines view value left right e = rw e (refl, refl)

pub missed_line : {T A : Type 0} (view : T → A) (line : ℕ) (right : Result (A × List ℕ) ℕ) → right ≡ Err line → FindsLines {E = NoMemory} view (Ok (Err line)) right
missed_line view line right e = rw e refl

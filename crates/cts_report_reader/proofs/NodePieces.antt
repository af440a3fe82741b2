-- The lines of all nodes.
use Rattle.std.proofs.Common.{◌≡◌, ℕ, zero, suc, ◌+◌, ◌-◌, ◌^◌, ◌≤◌, Bool, true, false, eqb, ◌&&◌, List, [], ◌∷◌, ◌++◌, length, map, All, Option, Some, None, Result, Ok, refl, sym, ap, ap₂, ◌∙◌, subst, arith}
use Rattle.std.specs.List.{concat}
use Rattle.std.proofs.lemmas.List.Elements.{All-nil, All-cons, All-head, All-tail}
use Rattle.std.proofs.lemmas.List.{length-map}
use Rattle.cts_postorder.specs.PostOrder.{IsPostOrderFrom}
use Rattle.cts_postorder.specs.Stack.{stack_after, IsOpen}
use Rattle.cts_postorder.proofs.Stacks.{IsJoin, post_joins, post_splits, post_ends, post_counts, open_leaf, open_leaf_room, open_pair, completion}
use Rattle.cts_instance.specs.declared.version.Version.{Version}
use Rattle.cts_instance.specs.declared.version.Version.TheVariants.{One, Two}
use Rattle.cts_report.specs.Lines.{node_line, node_lines}
use Rattle.cts_report.specs.Printed.{PrintedKind, sink_leaf, pair_node, PrintedNode}
use Rattle.cts_report_reader.specs.declared.form.Form.{Form}
use Rattle.cts_report_reader.specs.Reader.{IsPiece}
use Rattle.cts_report_reader.specs.Bounds.{IsPrintedNode, IsPrintedKind, IsArrival, printed_children, children_of_kind}
use Rattle.cts_report_reader.specs.Forms.{tells_arrival}
use Rattle.cts_report_reader.specs.NodeLine.{joins_stack, node_at}
use Rattle.cts_report_reader.specs.Whole.{line_at, mapped_lines, nodes_at}
use Rattle.cts_report_reader.proofs.Wholes.{ok_is, err_ok}
use Rattle.cts_report_reader.proofs.Pieces.{line_piece, bind_piece}
use Rattle.cts_report_reader.proofs.Labels.{le_bound, bound_le}
use Rattle.cts_report_reader.proofs.PointParts.{true_false}
use Rattle.cts_report_reader.proofs.NodeParts.{left_or, right_or, NodeFits, node_part, is_number, same_number}
use Rattle.cts_report_reader.proofs.LinesPieces.{map_piece}

-- the numbers on a stack, which are of nodes
unfoldable pub AreNumbers : List ℕ → Type 0
AreNumbers [] = Unit {0}
AreNumbers (a ∷ stack) = (a ≤ 131071) × AreNumbers stack

numbers_after : (children : Option (ℕ × ℕ)) (stack : List ℕ) (k : ℕ) → IsJoin children stack → k ≤ 131071 → AreNumbers stack → AreNumbers (stack_after children stack k)
unfolding AreNumbers
numbers_after None stack k join le numbers = (le, numbers)
numbers_after (Some children) [] k join le numbers = absurd join
numbers_after (Some children) (b ∷ []) k join le numbers = absurd join
numbers_after (Some children) (b ∷ a ∷ stack) k join le numbers = (le, numbers.1.1)

both_hold : (p q : Bool) → (p && q) ≡ true → (p ≡ true) × (q ≡ true)
both_hold true q e = (refl, e)
both_hold false q e = absurd (true_false (sym e))

-- the test of the code, and what it tells
test_joins : (children : Option (ℕ × ℕ)) (stack : List ℕ) (todo k : ℕ) → joins_stack stack todo children ≡ true → IsOpen stack (suc todo)
    → IsJoin children stack × IsOpen (stack_after children stack k) todo
test_joins None stack todo k e open_ = (tt, open_leaf stack todo k open_ (bound_le (length stack) todo e))
test_joins (Some children) [] todo k e open_ = absurd (true_false (sym e))
test_joins (Some children) (b ∷ []) todo k e open_ = absurd (true_false (sym e))
test_joins (Some children) (b ∷ a ∷ stack) todo k e open_ =
    let both = both_hold (eqb (children.0) a) (eqb (children.1) b) e in
    let join : children ≡ (a, b) = ap₂ (λ x y. (x, y)) (is_number (children.0) a both.0) (is_number (children.1) b both.1) in
    (join, open_pair (b ∷ a ∷ stack) todo k children join open_)

joins_test : (children : Option (ℕ × ℕ)) (stack : List ℕ) (todo k : ℕ) → IsJoin children stack → IsOpen (stack_after children stack k) todo
    → joins_stack stack todo children ≡ true
joins_test None stack todo k join open_ = le_bound (length stack) todo (open_leaf_room stack todo k open_)
joins_test (Some children) [] todo k join open_ = absurd join
joins_test (Some children) (b ∷ []) todo k join open_ = absurd join
joins_test (Some children) (b ∷ a ∷ stack) todo k join open_ =
    let left : children.0 ≡ a = ap (λ (p : ℕ × ℕ). p.0) join in
    let right : children.1 ≡ b = ap (λ (p : ℕ × ℕ). p.1) join in
    rw (left, right, same_number a, same_number b) refl

-- children that join a stack of such numbers fit their type
left_fits : (kind : PrintedKind) (stack : List ℕ) → IsJoin (children_of_kind kind) stack → AreNumbers stack → left_or kind ≤ 2 ^ 32 - 1
unfolding AreNumbers left_or
left_fits (sink_leaf id) stack join numbers = omega arith
left_fits (pair_node left right buffer residue) [] join numbers = absurd join
left_fits (pair_node left right buffer residue) (b ∷ []) join numbers = absurd join
left_fits (pair_node left right buffer residue) (b ∷ a ∷ stack) join numbers =
    let e : left ≡ a = ap (λ (p : ℕ × ℕ). p.0) join in omega (arith, e, numbers.1.0)

right_fits : (kind : PrintedKind) (stack : List ℕ) → IsJoin (children_of_kind kind) stack → AreNumbers stack → right_or kind ≤ 2 ^ 32 - 1
unfolding AreNumbers right_or
right_fits (sink_leaf id) stack join numbers = omega arith
right_fits (pair_node left right buffer residue) [] join numbers = absurd join
right_fits (pair_node left right buffer residue) (b ∷ []) join numbers = absurd join
right_fits (pair_node left right buffer residue) (b ∷ a ∷ stack) join numbers =
    let e : right ≡ b = ap (λ (p : ℕ × ℕ). p.1) join in omega (arith, e, numbers.0)

-- nodes that name these children

-- what is told of an arrival, where one is
made_arrival : Version → Option (ℕ × ℕ) → Option ℕ
made_arrival One children = None
made_arrival Two None = Some 0
made_arrival Two (Some children) = None

made_kind : Option (ℕ × ℕ) → PrintedKind
made_kind None = sink_leaf 0
made_kind (Some children) = pair_node (children.0) (children.1) None 0

pub made : Version → Option (ℕ × ℕ) → PrintedNode
made version children = record {
  kind = made_kind children;
  place = record { x = 0; y = 0 };
  load = 0;
  delay = 0;
  arrival = made_arrival version children;
  slew = 0;
  wire = 0;
  corners = [];
}

made_kind_fits : (buffers : ℕ) (children : Option (ℕ × ℕ)) → IsPrintedKind buffers (made_kind children)
unfolding made_kind
made_kind_fits buffers None = omega arith
made_kind_fits buffers (Some children) = (tt, omega arith)

made_arrival_fits : (version : Version) (children : Option (ℕ × ℕ)) → IsArrival (tells_arrival version (made_kind children)) (made_arrival version children)
unfolding made_kind made_arrival
made_arrival_fits One None = tt
made_arrival_fits One (Some children) = tt
made_arrival_fits Two None = omega arith
made_arrival_fits Two (Some children) = tt

made_children : (version : Version) (children : Option (ℕ × ℕ)) → printed_children (made version children) ≡ children
unfolding made made_kind
made_children version None = refl
made_children version (Some children) = refl

made_fits : (form : Form) (children : Option (ℕ × ℕ)) → IsPrintedNode form (made form.version children)
unfolding made
made_fits form children =
    record {
      kind = made_kind_fits form.buffers children;
      place = record { point = record { x = record { inside = omega arith; half = refl }; y = record { inside = omega arith; half = refl } }; even = refl };
      load = omega arith;
      delay = omega arith;
      arrival = made_arrival_fits form.version children;
      slew = omega arith;
      wire = omega arith;
      few = omega arith;
      corners = All-nil _;
    }

made_all : (form : Form) (cs : List (Option (ℕ × ℕ))) → All (IsPrintedNode form) (map (made form.version) cs)
made_all form [] = All-nil _
made_all form (c ∷ cs) = All-cons (IsPrintedNode form) (made form.version c) (map (made form.version) cs) (made_fits form c) (made_all form cs)

made_map : (version : Version) (cs : List (Option (ℕ × ℕ))) → map printed_children (map (made version) cs) ≡ cs
made_map version [] = refl
made_map version (c ∷ cs) = ap₂ (λ x xs. x ∷ xs) (made_children version c) (made_map version cs)

made_long : (version : Version) (cs : List (Option (ℕ × ℕ))) → length (map (made version) cs) ≡ length cs
made_long version [] = refl
made_long version (c ∷ cs) = ap suc (made_long version cs)

-- nodes that read a stack to its end

pub record NodesFit (form : Form) (todo k : ℕ) (stack : List ℕ) (nodes : List PrintedNode) : Type 0 where
  pub long : length nodes ≡ todo
  pub reads : IsPostOrderFrom (map printed_children nodes) stack k
  pub each : All (IsPrintedNode form) nodes

pub some_nodes : (form : Form) (todo k : ℕ) (stack : List ℕ) → IsOpen stack todo → (nodes : List PrintedNode) × NodesFit form todo k stack nodes
some_nodes form todo k stack open_ =
    let c = completion todo stack k open_ in (
      map (made form.version) c.nodes,
      record {
        long = made_long form.version c.nodes ∙ c.long;
        reads = subst (λ cs. IsPostOrderFrom cs stack k) (sym (made_map form.version c.nodes)) c.reads;
        each = made_all form c.nodes;
      },
    )

pub length-node_lines : (nodes : List PrintedNode) (k : ℕ) → length (node_lines k nodes) ≡ length nodes
unfolding node_lines
length-node_lines [] k = refl
length-node_lines (node ∷ nodes) k = ap suc (length-node_lines nodes (k + 1))

head_or : List PrintedNode → PrintedNode
head_or [] = made One None
head_or (node ∷ nodes) = node

tail_or : List PrintedNode → List PrintedNode
tail_or [] = []
tail_or (node ∷ nodes) = nodes

-- a node and then others
record Follow (form : Form) (todo k : ℕ) (stack : List ℕ) (node : PrintedNode) (nodes : List PrintedNode) : Type 0 where
  is : nodes ≡ node ∷ tail_or nodes
  others : NodesFit form todo (k + 1) (stack_after (printed_children node) stack k) (tail_or nodes)

nodes_join_at : (form : Form) (todo k : ℕ) (stack : List ℕ) (node : PrintedNode) (nodes : List PrintedNode) → IsOpen stack (suc todo)
    → NodeFits form stack todo node → NodesFit form todo (k + 1) (stack_after (printed_children node) stack k) nodes
    → NodesFit form (suc todo) k stack (node ∷ nodes)
unfolding NodeFits
nodes_join_at form todo k stack node nodes open_ fits others =
    let j = test_joins (printed_children node) stack todo k fits.1 open_ in
    record {
      long = ap suc others.long;
      reads = post_joins (printed_children node) (map printed_children nodes) stack k j.0 others.reads;
      each = All-cons (IsPrintedNode form) node nodes fits.0.bounds others.each;
    }

nodes_join : (form : Form) (todo k : ℕ) (stack : List ℕ) (node : PrintedNode) (nodes : List PrintedNode) → IsOpen stack (suc todo)
    → NodeFits form stack todo node → Follow form todo k stack node nodes
    → NodesFit form (suc todo) k stack nodes × (node_lines k nodes ≡ (node_line k node ∷ []) ++ node_lines (k + 1) (tail_or nodes))
unfolding node_lines
nodes_join form todo k stack node nodes open_ fits h = (
  subst (NodesFit form (suc todo) k stack) (sym h.is) (nodes_join_at form todo k stack node (tail_or nodes) open_ fits h.others),
  ap (node_lines k) h.is,
)

nodes_split : (form : Form) (todo k : ℕ) (stack : List ℕ) (nodes : List PrintedNode) → AreNumbers stack → IsOpen stack (suc todo)
    → NodesFit form (suc todo) k stack nodes
    → NodeFits form stack todo (head_or nodes) × Follow form todo k stack (head_or nodes) nodes
unfolding NodeFits head_or tail_or
nodes_split form todo k stack [] numbers open_ h = absurd (omega (arith, h.long))
nodes_split form todo k stack (node ∷ nodes) numbers open_ h =
    let children = printed_children node in
    let s = post_splits children (map printed_children nodes) stack k h.reads in
    let others : NodesFit form todo (k + 1) (stack_after children stack k) nodes = record {
      long = omega (arith, h.long);
      reads = s.1;
      each = All-tail (IsPrintedNode form) node nodes h.each;
    } in
    let counted = post_counts (map printed_children nodes) (stack_after children stack k) (k + 1) s.1 in
    let size : length (map printed_children nodes) ≡ todo = length-map nodes printed_children ∙ others.long in (
      (
        record {
          bounds = All-head (IsPrintedNode form) node nodes h.each;
          left = left_fits node.kind stack s.0 numbers;
          right = right_fits node.kind stack s.0 numbers;
        },
        joins_test children stack todo k s.0 (subst (IsOpen (stack_after children stack k)) size counted),
      ),
      record { is = refl; others = others },
    )

-- the first of some nodes that fit
some_node : (form : Form) (todo k : ℕ) (stack : List ℕ) → AreNumbers stack → IsOpen stack (suc todo) → (node : PrintedNode) × NodeFits form stack todo node
some_node form todo k stack numbers open_ =
    let w = some_nodes form (suc todo) k stack open_ in
    (head_or (w.0), (nodes_split form todo k stack (w.0) numbers open_ (w.1)).0)

some_follow : (form : Form) (todo k : ℕ) (stack : List ℕ) (node : PrintedNode) → IsOpen stack (suc todo) → NodeFits form stack todo node
    → (nodes : List PrintedNode) × Follow form todo k stack node nodes
unfolding NodeFits tail_or
some_follow form todo k stack node open_ fits =
    let j = test_joins (printed_children node) stack todo k fits.1 open_ in
    let w = some_nodes form todo (k + 1) (stack_after (printed_children node) stack k) j.1 in
    (node ∷ w.0, record { is = refl; others = w.1 })

no_nodes : (form : Form) (k : ℕ) (stack : List ℕ) → IsOpen stack 0 → NodesFit form 0 k stack []
no_nodes form k stack open_ = record { long = refl; reads = post_ends stack k open_; each = All-nil (IsPrintedNode form) }

none_take : (form : Form) (k : ℕ) (stack : List ℕ) → IsOpen stack 0 → (bytes : List ℕ) (nodes : List PrintedNode) (rest : List ℕ)
    → ◌≡◌ {A = Result (List PrintedNode × List ℕ) ℕ} (Ok ([], bytes)) (Ok (nodes, rest))
    → NodesFit form 0 k stack nodes × (bytes ≡ concat (node_lines k nodes) ++ rest)
unfolding node_lines
none_take form k stack open_ bytes nodes rest e =
    let p = ok_is e in
    let none : [] ≡ nodes = ap (λ (x : List PrintedNode × List ℕ). x.0) p in (
      subst (NodesFit form 0 k stack) none (no_nodes form k stack open_),
      ap (λ (x : List PrintedNode × List ℕ). x.1) p ∙ ap (λ ns. concat (node_lines k ns) ++ rest) none,
    )

none_again : (form : Form) (k : ℕ) (stack : List ℕ) (nodes : List PrintedNode) (rest : List ℕ) → NodesFit form 0 k stack nodes
    → ◌≡◌ {A = Result (List PrintedNode × List ℕ) ℕ} (Ok ([], concat (node_lines k nodes) ++ rest)) (Ok (nodes, rest))
unfolding node_lines
none_again form k stack [] rest fits = refl
none_again form k stack (node ∷ nodes) rest fits = absurd (omega (arith, fits.long))

after_numbers : (form : Form) (todo k : ℕ) (stack : List ℕ) (node : PrintedNode) → k + suc todo ≤ 131071 → AreNumbers stack → IsOpen stack (suc todo)
    → NodeFits form stack todo node → AreNumbers (stack_after (printed_children node) stack k)
unfolding NodeFits
after_numbers form todo k stack node inside numbers open_ fits =
    numbers_after (printed_children node) stack k (test_joins (printed_children node) stack todo k fits.1 open_).0 (omega (arith, inside)) numbers

after_open : (form : Form) (todo k : ℕ) (stack : List ℕ) (node : PrintedNode) → IsOpen stack (suc todo) → NodeFits form stack todo node
    → IsOpen (stack_after (printed_children node) stack k) todo
unfolding NodeFits
after_open form todo k stack node open_ fits = (test_joins (printed_children node) stack todo k fits.1 open_).1

rest_piece : (form : Form) (todo k : ℕ) (stack : List ℕ) (node : PrintedNode)
    → IsPiece (NodesFit form todo (k + 1) (stack_after (printed_children node) stack k)) (node_lines (k + 1)) (k + 1 + 2) (nodes_at form todo (k + 1) (stack_after (printed_children node) stack k))
    → IsPiece (Follow form todo k stack node) (λ nodes. node_lines (k + 1) (tail_or nodes)) (k + 1 + 2)
    (mapped_lines (λ nodes. node ∷ nodes) (nodes_at form todo (k + 1) (stack_after (printed_children node) stack k)))
unfolding tail_or
rest_piece form todo k stack node piece =
    map_piece _ (node_lines (k + 1)) _ (k + 1 + 2) (Follow form todo k stack node) (λ nodes. node_lines (k + 1) (tail_or nodes)) (λ nodes. node ∷ nodes) tail_or piece
    (λ nodes fits. (record { is = refl; others = fits }, refl))
    (λ nodes h. (h.others, sym h.is))

pub nodes_piece : (form : Form) → form.buffers ≤ 2 ^ 16 → (todo k : ℕ) (stack : List ℕ) → k + todo ≤ 131071 → AreNumbers stack → IsOpen stack todo
    → IsPiece (NodesFit form todo k stack) (node_lines k) (k + 2) (nodes_at form todo k stack)
unfolding nodes_at
nodes_piece form few zero k stack inside numbers open_ = record {
  takes = none_take form k stack open_;
  again = none_again form k stack;
  stops = λ bytes line e. absurd (err_ok (sym e));
  ends = λ bytes nodes rest e h. absurd (omega (arith, h.inside, h.fits.long, length-node_lines h.value k, length-node_lines nodes k));
}
nodes_piece form few (suc todo) k stack inside numbers open_ =
    let w = some_node form todo k stack numbers open_ in
    bind_piece (NodeFits form stack todo) (λ node. node_line k node ∷ []) (line_at (k + 2) (node_at form k stack todo)) (k + 2) 1 (k + 1 + 2)
    (NodesFit form (suc todo) k stack) (node_lines k) (Follow form todo k stack) (λ nodes. node_lines (k + 1) (tail_or nodes))
    (λ node. mapped_lines (λ nodes. node ∷ nodes) (nodes_at form todo (k + 1) (stack_after (printed_children node) stack k))) head_or
    (line_piece (NodeFits form stack todo) (node_line k) (node_at form k stack todo) (node_part form k stack todo few (omega (arith, inside))) (k + 2) w.0 w.1)
    (λ node fits. refl) (omega arith)
    (λ node fits. rest_piece form todo k stack node
    (nodes_piece form few todo (k + 1) (stack_after (printed_children node) stack k) (omega (arith, inside))
    (after_numbers form todo k stack node inside numbers open_ fits) (after_open form todo k stack node open_ fits)))
    (λ node nodes fits h. nodes_join form todo k stack node nodes open_ fits h)
    (λ nodes h. nodes_split form todo k stack nodes numbers open_ h)
    (λ node fits. some_follow form todo k stack node open_ fits)

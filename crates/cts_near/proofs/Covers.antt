-- The tree over all sinks names each of them once.
use Rattle.std.proofs.Common.{◌≡◌, ℕ, zero, suc, ◌+◌, ◌-◌, ◌<◌, ◌≤◌, ◌==◌, cond, List, [], ◌∷◌, ◌++◌, length, count_by, inl, inr, refl, sym, ap, subst, ◌∙◌, arith, append_assoc, append-nil}
use Rattle.std.specs.List.{AllByRecursion}
use Rattle.std.proofs.lemmas.Bool.Decides.{nat_tests}
use Rattle.std.proofs.lemmas.List.Elements.{All-from_recursion, filter_map-append}
use Rattle.std.proofs.lemmas.List.Sorted.{IsPermutation-append_comm}
use Rattle.cts_units.specs.declared.params.Sink.{Sink}
use Rattle.cts_units.specs.declared.params.Params.{Params}
use Rattle.cts_units.specs.Ids.{HasDistinctIds}
use Rattle.cts_postorder.specs.BinaryTree.{BinaryTree, size, labels, root_number, IsNumbered}
use Rattle.cts_postorder.proofs.Spelling.{IsPostOrder-labels}
use Rattle.cts_topo.specs.declared.shape.ShapeNode.{ShapeNode}
use Rattle.cts_topo.specs.declared.shape.ShapeNode.TheVariants.{Pair}
use Rattle.cts_topo.specs.Shape.{children, leaf_sink, leaf_sinks, IsShapeOver}
use Rattle.cts_topo.proofs.Shuffles.{Shuffled, same, skip, turn, chain, shuffled_of, sum_by-Shuffled, append-Shuffled}
use Rattle.cts_topo.proofs.Ranks.{count_by-cons}
use Rattle.cts_near.specs.Parts.{Joining, single, pair, Part, AreSinkParts}
use Rattle.cts_near.specs.Near.{after_join, without, Outcome, whole, ComesTo, IsNear}
use Rattle.cts_near.specs.NearShape.{numbered, nodes_of}
use Rattle.cts_near.specs.Laws.{NearShapesNameEachSink}
use Rattle.cts_near.proofs.Members.{all-Shuffled}
use Rattle.cts_near.proofs.Names.{AreNamed, both_pulled, named_after, sinks_named}

-- the sinks of what is joined, from the left
abbrev pub sinks_of : Joining → List ℕ
sinks_of (single sink) = sink ∷ []
sinks_of (pair l r) = sinks_of l ++ sinks_of r

-- the sinks of all parts
abbrev pub covered : List Part → List ℕ
covered [] = []
covered (p ∷ ps) = sinks_of p.tree ++ covered ps

pub covered-Shuffled : {ps qs : List Part} → Shuffled ps qs → Shuffled (covered ps) (covered qs)
covered-Shuffled same = same
covered-Shuffled (skip {x = p} s) = append-Shuffled same (covered-Shuffled s)
covered-Shuffled (turn {x = p} {y = q} {xs = ps}) =
    let front : Shuffled (sinks_of p.tree ++ sinks_of q.tree) (sinks_of q.tree ++ sinks_of p.tree) =
    shuffled_of _ _ (IsPermutation-append_comm (sinks_of p.tree) (sinks_of q.tree)) in
    subst (λ xs. Shuffled xs (sinks_of q.tree ++ (sinks_of p.tree ++ covered ps)))
    (append_assoc (sinks_of p.tree) (sinks_of q.tree) (covered ps))
    (subst (λ xs. Shuffled (sinks_of p.tree ++ sinks_of q.tree ++ covered ps) xs)
    (append_assoc (sinks_of q.tree) (sinks_of p.tree) (covered ps)) (append-Shuffled front same))
covered-Shuffled (chain s t) = chain (covered-Shuffled s) (covered-Shuffled t)

pub comes_covering : (params : Params) (todo step : ℕ) (ps : List Part) (o : Outcome) (tree : Joining) → AreNamed ps
    → ComesTo params todo step ps o → o ≡ whole tree → Shuffled (covered ps) (sinks_of tree)
unfolding ComesTo
comes_covering params zero step ps o tree named (last, are, is) e =
    let trees : last.tree ≡ tree = cc in
    subst (λ (t : Joining). Shuffled (covered ps) (sinks_of t)) trees
    (subst (λ (qs : List Part). Shuffled (covered qs) (sinks_of last.tree)) (sym are)
    (subst (λ xs. Shuffled xs (sinks_of last.tree)) (sym (append-nil (sinks_of last.tree))) same))
comes_covering params (suc todo) step ps o tree named (a, b, closest, inl (over, is)) e = absurd (cc)
comes_covering params (suc todo) step ps o tree named (a, b, closest, inr (f, merged, rest)) e =
    let others : List Part = without b.name (without a.name ps) in
    let pulled : Shuffled (covered ps) (sinks_of a.tree ++ (sinks_of b.tree ++ covered others)) =
    covered-Shuffled (both_pulled ps a b named closest.first closest.second closest.in_order) in
    chain (subst (λ xs. Shuffled (covered ps) xs) (sym (append_assoc (sinks_of a.tree) (sinks_of b.tree) (covered others))) pulled)
    (comes_covering params todo (step + 1) (after_join ps a b f) o tree (named_after ps a b f named closest.in_order) rest e)

-- so many places from one on
abbrev places : ℕ → ℕ → List ℕ
places place zero = []
places place (suc count) = place ∷ places (place + 1) count

covered_sinks : (place : ℕ) (sinks : List Sink) (ps : List Part) → AreSinkParts place sinks ps
    → covered ps ≡ places place (length sinks)
covered_sinks place [] [] are = refl
covered_sinks place [] (p ∷ ps) are = absurd are
covered_sinks place (s ∷ sinks) [] are = absurd are
covered_sinks place (s ∷ sinks) (p ∷ ps) are =
    ap (λ (t : Joining). sinks_of t ++ covered ps) (are.0.tree) ∙ ap (λ xs. place ∷ xs) (covered_sinks (place + 1) sinks ps (are.1))

places_below : (place count all : ℕ) → place + count ≤ all → AllByRecursion (λ k. k < all) (places place count)
places_below place zero all h = tt
places_below place (suc count) all h = (omega arith, places_below (place + 1) count all (omega arith))

not_before : (k place count : ℕ) → k < place → count_by (λ j. j == k) (places place count) ≡ 0
not_before k place zero h = refl
not_before k place (suc count) h =
    let test : ◌≡◌ {A = ℕ} (cond (place == k) 1 0) 0 = grind (arith, nat_tests) in
    omega (arith, count_by-cons (λ j. j == k) place (places (place + 1) count), test, not_before k (place + 1) count (omega arith))

once_each : (k i place count : ℕ) → k ≡ place + i → i < count → count_by (λ j. j == k) (places place count) ≡ 1
once_each k i place zero is h = absurd (omega arith)
once_each k zero place (suc count) is h =
    let test : ◌≡◌ {A = ℕ} (cond (place == k) 1 0) 1 = grind (arith, nat_tests) in
    omega (arith, count_by-cons (λ j. j == k) place (places (place + 1) count), test, not_before k (place + 1) count (omega arith))
once_each k (suc i) place (suc count) is h =
    let test : ◌≡◌ {A = ℕ} (cond (place == k) 1 0) 0 = grind (arith, nat_tests) in
    omega (
      arith,
      count_by-cons (λ j. j == k) place (places (place + 1) count),
      test,
      once_each k i (place + 1) count (omega arith) (omega arith),
    )

-- the nodes of the tree
pub IsNumbered-numbered : (first : ℕ) (t : Joining) → IsNumbered children first (numbered first t)
unfolding numbered IsNumbered
IsNumbered-numbered first (single sink) = refl
IsNumbered-numbered first (pair l r) =
    (IsNumbered-numbered first l, IsNumbered-numbered (first + size (numbered first l)) r, refl)

leaf_sinks-numbered : (first : ℕ) (t : Joining) → leaf_sinks (labels (numbered first t)) ≡ sinks_of t
unfolding numbered labels
leaf_sinks-numbered first (single sink) = refl
leaf_sinks-numbered first (pair l r) =
    let a : BinaryTree ShapeNode = numbered first l in
    let b : BinaryTree ShapeNode = numbered (first + size a) r in
    let n : ShapeNode = Pair (root_number first a) (root_number (first + size a) b) in
    filter_map-append leaf_sink (labels a ++ labels b) (n ∷ [])
    ∙ append-nil (leaf_sinks (labels a ++ labels b))
    ∙ filter_map-append leaf_sink (labels a) (labels b)
    ∙ ap (λ xs. xs ++ leaf_sinks (labels b)) (leaf_sinks-numbered first l)
    ∙ ap (λ xs. sinks_of l ++ xs) (leaf_sinks-numbered (first + size a) r)

pub shape_over : (params : Params) (sinks : List Sink) (tree : Joining) → HasDistinctIds (λ (s : Sink). s.id) sinks
    → IsNear params sinks (whole tree) → IsShapeOver (length sinks) (nodes_of tree)
shape_over params sinks tree distinct near =
    let all : Shuffled (covered near.parts) (sinks_of tree) =
    comes_covering params (length sinks - 1) 1 near.parts (whole tree) tree
    (sinks_named 0 sinks near.parts near.over_sinks distinct) near.comes_to refl in
    let leaves : Shuffled (places 0 (length sinks)) (leaf_sinks (nodes_of tree)) =
    subst (λ xs. Shuffled xs (leaf_sinks (nodes_of tree))) (covered_sinks 0 sinks near.parts near.over_sinks)
    (subst (λ xs. Shuffled (covered near.parts) xs) (sym (leaf_sinks-numbered 0 tree)) all) in
    record {
      post_order = IsPostOrder-labels children (numbered 0 tree) (IsNumbered-numbered 0 tree);
      within = All-from_recursion (λ k. k < length sinks) (leaf_sinks (nodes_of tree))
          (all-Shuffled (λ k. k < length sinks) leaves (places_below 0 (length sinks) (length sinks) (omega arith)));
      once = λ k h. sym (sum_by-Shuffled (λ j. cond (j == k) 1 0) leaves) ∙ once_each k k 0 (length sinks) (omega arith) h;
    }

pub names_each_sink : NearShapesNameEachSink
names_each_sink params sinks nodes distinct shape =
    subst (IsShapeOver (length sinks)) (sym shape.spelled) (shape_over params sinks shape.tree distinct shape.near)

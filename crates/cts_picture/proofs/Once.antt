-- Each node has one wire: what the pairs of a list in post-order name, counted.
use Rattle.std.proofs.Common.{◌≡◌, ◌≢◌, ℕ, zero, suc, ◌+◌, ◌-◌, ◌<◌, ◌≤◌, Bool, true, false, cond, eq-or-lt_of_le, nat_eq, List, [], ◌∷◌, length, map, get_or, slice_get, ◌⊎◌, inl, inr, Option, Some, None, refl, sym, ap, ap₂, ◌∙◌, arith}
use Rattle.std.specs.List.{flat_map, sum_by}
use Rattle.std.specs.Option.{option_map_or}
use Rattle.std.proofs.lemmas.Bool.{eq-eqb, eqb-true}
use Rattle.std.proofs.lemmas.List.{length-map}
use Rattle.std.proofs.lemmas.List.Sums.{sum_by-append}
use Rattle.std.proofs.lemmas.Option.{slice_get_cases}
use Rattle.cts_postorder.specs.PostOrder.{IsPostOrder, IsPostOrderFrom}
use Rattle.cts_report.specs.Printed.{PrintedPoint, PrintedKind, sink_leaf, pair_node, PrintedNode}
use Rattle.cts_report_reader.specs.Bounds.{children_of_kind, printed_children}
use Rattle.cts_picture.specs.Laws.{EachNodeHasOneWire}
use Rattle.cts_picture.specs.Wires.{DrawnWire, wire_to, wires_below, wires_from, wires_of}

-- 1 where a number is j
abbrev one_if : Bool → ℕ
one_if b = cond b 1 0

abbrev pub hit : ℕ → ℕ → ℕ
hit j k = one_if (nat_eq k j)

hit_same : (j k : ℕ) → k ≡ j → hit j k ≡ 1
hit_same j k e = ap one_if (eq-eqb k j e)

hit_other : (j k : ℕ) → k ≢ j → hit j k ≡ 0
hit_other j k differs = by (nat_eq k j) refl
  where
    by : (b : Bool) → nat_eq k j ≡ b → one_if b ≡ 0
    by true e = absurd (differs (eqb-true k j e))
    by false e = refl

-- how often a node of a list in post-order names j
abbrev pub named : ℕ → Option (ℕ × ℕ) → ℕ
named j None = 0
named j (Some children) = hit j children.0 + hit j children.1

unfoldable pub named_all : ℕ → List (Option (ℕ × ℕ)) → ℕ
named_all j [] = 0
named_all j (children ∷ nodes) = named j children + named_all j nodes

-- how often j stands in a stack
unfoldable hits : ℕ → List ℕ → ℕ
hits j [] = 0
hits j (k ∷ stack) = hit j k + hits j stack

-- how often j is a number from k on, of so many
unfoldable made : ℕ → ℕ → ℕ → ℕ
made j k zero = 0
made j k (suc count) = hit j k + made j (k + 1) count

-- the number that is left at the end
abbrev last_of : List (Option (ℕ × ℕ)) → List ℕ → ℕ → ℕ
last_of [] [] k = 0
last_of [] (a ∷ stack) k = a
last_of (children ∷ nodes) stack k = k + length nodes

last_next : (nodes : List (Option (ℕ × ℕ))) (stack : List ℕ) (k : ℕ) → last_of nodes (k ∷ stack) (k + 1) ≡ k + length nodes
last_next [] stack k = omega arith
last_next (children ∷ nodes) stack k = omega arith

-- each number is named once, or is left at the end
all_named : (j : ℕ) (nodes : List (Option (ℕ × ℕ))) (stack : List ℕ) (k : ℕ) → IsPostOrderFrom nodes stack k
    → named_all j nodes + hit j (last_of nodes stack k) ≡ hits j stack + made j k (length nodes)
unfolding IsPostOrderFrom named_all hits made
all_named j [] [] k h = absurd h
all_named j [] (a ∷ []) k h = omega arith
all_named j [] (b ∷ a ∷ stack) k h = absurd h
all_named j (None ∷ nodes) stack k h =
    let later = all_named j nodes (k ∷ stack) (k + 1) h in
    let last : hit j (last_of nodes (k ∷ stack) (k + 1)) ≡ hit j (k + length nodes) = ap (hit j) (last_next nodes stack k) in
    omega (arith, later, last)
all_named j (Some children ∷ nodes) [] k h = absurd h
all_named j (Some children ∷ nodes) (b ∷ []) k h = absurd h
all_named j (Some children ∷ nodes) (b ∷ a ∷ stack) k h =
    let later = all_named j nodes (k ∷ stack) (k + 1) h.1 in
    let last : hit j (last_of nodes (k ∷ stack) (k + 1)) ≡ hit j (k + length nodes) = ap (hit j) (last_next nodes stack k) in
    let first : hit j children.0 ≡ hit j a = ap (λ (p : ℕ × ℕ). hit j p.0) h.0 in
    let second : hit j children.1 ≡ hit j b = ap (λ (p : ℕ × ℕ). hit j p.1) h.0 in
    omega (arith, later, last, first, second)

made_none : (j k count : ℕ) → j < k → made j k count ≡ 0
unfolding made
made_none j k zero h = refl
made_none j k (suc count) h =
    omega (arith, hit_other j k (λ e. absurd (omega (arith, e, h))), made_none j (k + 1) count (omega arith))

made_once : (j k count : ℕ) → k ≤ j → j < k + count → made j k count ≡ 1
unfolding made
made_once j k zero low high = absurd (omega arith)
made_once j k (suc count) low high = by (eq-or-lt_of_le low) (λ lt. made_once j (k + 1) count (omega (arith, lt)) (omega (arith, high)))
  where
    by : (k ≡ j) ⊎ (k < j) → ((k < j) → made j (k + 1) count ≡ 1) → hit j k + made j (k + 1) count ≡ 1
    by (inl same) next = omega (arith, hit_same j k same, made_none j (k + 1) count (omega (arith, same)))
    by (inr lt) next = omega (arith, hit_other j k (λ e. absurd (omega (arith, e, lt))), next lt)

-- so is each of the numbers of a whole list
pub named_once : (j : ℕ) (nodes : List (Option (ℕ × ℕ))) → IsPostOrder nodes → j < length nodes
    → hit j (length nodes - 1) + named_all j nodes ≡ 1
unfolding hits
named_once j [] h below = absurd (omega (arith, below))
named_once j (children ∷ nodes) h below =
    let all = all_named j (children ∷ nodes) [] 0 h in
    let once = made_once j 0 (length (children ∷ nodes)) (omega arith) (omega (arith, below)) in
    let last : hit j (0 + length nodes) ≡ hit j (length (children ∷ nodes) - 1) = ap (hit j) (omega arith) in
    omega (arith, all, once, last)

abbrev wire_of : ℕ → PrintedPoint → PrintedNode → DrawnWire
wire_of number upper node = record { number = number; upper = upper; node = node }

-- the wires of number j
abbrev counted : ℕ → List DrawnWire → ℕ
counted j wires = sum_by (λ (wire : DrawnWire). hit j wire.number) wires

module _ (all : List PrintedNode) (j : ℕ) (below : j < length all) where
  counted-to : (upper : PrintedPoint) (k : ℕ) → counted j (wire_to all upper k) ≡ hit j k
  counted-to upper k = by (slice_get_cases all k).1
    where
      by : ((node : PrintedNode) × (k < length all) × (slice_get all k ≡ Some node) × (get_or all k node ≡ node))
          ⊎ ((length all ≤ k) × (slice_get all k ≡ None))
          → counted j (wire_to all upper k) ≡ hit j k
      by (inl found) =
          ap (λ o. counted j (option_map_or (λ (node : PrintedNode). wire_of k upper node ∷ []) o [])) found.2
          ∙ omega arith
      by (inr past) =
          ap (λ o. counted j (option_map_or (λ (node : PrintedNode). wire_of k upper node ∷ []) o [])) past.1
          ∙ sym (hit_other j k (λ same. absurd (omega (arith, same, past.0, below))))

  counted-from : (place : PrintedPoint) (kind : PrintedKind) → counted j (wires_from all place kind) ≡ named j (children_of_kind kind)
  counted-from place (sink_leaf id) = refl
  counted-from place (pair_node a b buffer residue) =
      sum_by-append (λ (wire : DrawnWire). hit j wire.number) (wire_to all place a) (wire_to all place b)
      ∙ ap₂ (λ m n. m + n) (counted-to place a) (counted-to place b)

  counted-below : (nodes : List PrintedNode) → counted j (flat_map (wires_below all) nodes) ≡ named_all j (map printed_children nodes)
  unfolding named_all
  counted-below [] = refl
  counted-below (node ∷ nodes) =
      sum_by-append (λ (wire : DrawnWire). hit j wire.number) (wires_below all node) (flat_map (wires_below all) nodes)
      ∙ ap₂ (λ m n. m + n) (counted-from node.place node.kind) (counted-below nodes)

pub each_node_has_one_wire : EachNodeHasOneWire
unfolding wires_of
each_node_has_one_wire source nodes ok j below =
    sum_by-append (λ (wire : DrawnWire). hit j wire.number) (wire_to nodes source (length nodes - 1)) (flat_map (wires_below nodes) nodes)
    ∙ ap₂ (λ m n. m + n) (counted-to nodes j below source (length nodes - 1)) (counted-below nodes j below nodes)
    ∙ ap (λ n. hit j (n - 1) + named_all j (map printed_children nodes)) (sym (length-map nodes printed_children))
    ∙ named_once j (map printed_children nodes) ok (omega (arith, below, length-map nodes printed_children))

-- The shape of the tree over a list of sinks, after the method of means and medians (Jackson, Srinivasan and Kuh, 1990):
-- the sinks are divided in halves along the axis in which they run further, and each half again. Who goes to the left
-- is told by counting, for each sink, those before it. Axis, halves and ties are this project's own rules.
use Rattle.std.specs.Prelude.{◌≡◌, ℕ, zero, suc, ◌+◌, ◌-◌, ◌≤◌, max, Bool, true, false, not, nat_le, nat_lt, nat_abs, List, [], ◌∷◌, ◌++◌, length, filter, count_by}
use Rattle.std.specs.declared.cmp.Ordering.{Ordering}
use Rattle.std.specs.Ordering.{is_lt, nat_cmp, ordering_then}
use Rattle.std.specs.Int.{div_ceil}
use Rattle.cts_units.specs.declared.params.Sink.{Sink}
use Rattle.cts_postorder.specs.BinaryTree.{BinaryTree, tip, fork, size, labels, root_number}
use Rattle.cts_topo.specs.declared.shape.ShapeNode.{ShapeNode}
use Rattle.cts_topo.specs.declared.shape.ShapeNode.TheVariants.{Leaf, Pair}
use Rattle.cts_topo.specs.declared.pin.Pin.{Pin}

-- a sink as a pin: its coordinates, which are not below 0, its id, and its place in the list of sinks
abbrev pub pin_of : Sink → ℕ → Pin
pin_of s place = record { x = nat_abs s.x; y = nat_abs s.y; id = s.id; sink = place }

-- the sinks as pins, where the first one's place is `place`
abbrev pub pins_from : ℕ → List Sink → List Pin
pins_from place [] = []
pins_from place (s ∷ sinks) = pin_of s place ∷ pins_from (place + 1) sinks

-- the greatest value over a list of pins
unfoldable pub greatest : (Pin → ℕ) → List Pin → ℕ
greatest f [] = 0
greatest f (p ∷ pins) = max (f p) (greatest f pins)

-- the extent of a coordinate over a list of pins: the greatest difference of two of them
unfoldable pub extent : (Pin → ℕ) → List Pin → ℕ
extent f pins = greatest (λ p. greatest (λ q. f p - f q) pins) pins

-- the axis is x where the extent in x is at least the extent in y
unfoldable pub is_wide : List Pin → Bool
is_wide pins = nat_le (extent (λ p. p.y) pins) (extent (λ p. p.x) pins)

-- the axis is the other one than that which `wide` names
abbrev pub turned : Bool → List Pin → Bool
turned true pins = not (is_wide pins)
turned false pins = is_wide pins

-- how two pins compare by one coordinate, then the other, then the id
abbrev pub compare_by : (Pin → ℕ) → (Pin → ℕ) → Pin → Pin → Ordering
compare_by first second p q =
    ordering_then (ordering_then (nat_cmp (first p) (first q)) (nat_cmp (second p) (second q))) (nat_cmp p.id q.id)

-- the same along x, where `wide`, or else along y
abbrev pub compare_along : Bool → Pin → Pin → Ordering
compare_along true = compare_by (λ p. p.x) (λ p. p.y)
compare_along false = compare_by (λ p. p.y) (λ p. p.x)

abbrev pub is_before : Bool → Pin → Pin → Bool
is_before wide p q = is_lt (compare_along wide p q)

-- half of a count, rounded up
unfoldable pub left_size : ℕ → ℕ
left_size count = div_ceil count 2

-- A pin of a list belongs to its left part exactly where fewer pins than half of them, rounded up, are before it.
unfoldable pub is_early : List Pin → Pin → Bool
is_early pins p = nat_lt (count_by (λ q. is_before (is_wide pins) q p) pins) (left_size (length pins))

unfoldable pub left_part : List Pin → List Pin
left_part pins = filter (is_early pins) pins

unfoldable pub right_part : List Pin → List Pin
right_part pins = filter (λ p. not (is_early pins p)) pins

-- the pair over two parts that are numbered one after the other from `first` on
abbrev pub pair_over : ℕ → BinaryTree ShapeNode → BinaryTree ShapeNode → BinaryTree ShapeNode
pair_over first l r = fork l r (Pair (root_number first l) (root_number (first + size l) r))

-- The tree over some pins, with its nodes numbered in post-order from `first` on: one pin is a leaf, more are a pair of
-- the trees over the two parts. Each part has fewer pins, so that as many divisions as there are pins are enough: a
-- greater limit changes nothing.
unfoldable pub division : ℕ → ℕ → List Pin → BinaryTree ShapeNode
division limit first [] = tip (Leaf 0)
division limit first (p ∷ []) = tip (Leaf p.sink)
division zero first (p ∷ q ∷ pins) = tip (Leaf 0)
division (suc limit) first (p ∷ q ∷ pins) =
    pair_over first (division limit first (left_part (p ∷ q ∷ pins)))
    (division limit (first + size (division limit first (left_part (p ∷ q ∷ pins)))) (right_part (p ∷ q ∷ pins)))

-- a list of nodes, whose first one has this number, grows by the nodes of the tree over some pins
abbrev pub AddsTree : ℕ → List Pin → List ShapeNode → List ShapeNode → Type 0
AddsTree first pins old new =
    (limit : ℕ) → length pins ≤ limit → new ≡ old ++ labels (division limit (first + length old) pins)

-- the tree over a list of sinks
unfoldable pub topology_of : List Sink → BinaryTree ShapeNode
topology_of sinks = division (length sinks) 0 (pins_from 0 sinks)

-- the nodes of that tree in post-order; a leaf names its sink by its place in the list
unfoldable pub shape_of : List Sink → List ShapeNode
shape_of sinks = labels (topology_of sinks)

-- The nodes of two parts that were made apart, and the pair over them.
use Rattle.std.proofs.Common.{◌≡◌, ℕ, ◌+◌, ◌*◌, ◌<◌, ◌≤◌, Bool, not, List, [], ◌∷◌, ◌++◌, length, sym, ap, ◌∙◌, arith, add-zero, length-append}
use Rattle.cts_postorder.specs.BinaryTree.{labels}
use Rattle.cts_topo.specs.declared.shape.ShapeNode.{ShapeNode}
use Rattle.cts_topo.specs.declared.shape.ShapeNode.TheVariants.{Pair}
use Rattle.cts_topo.specs.declared.pin.Pin.{Pin}
use Rattle.cts_topo.specs.Topology.{left_part, right_part, division, AddsTree}
use Rattle.cts_topo.proofs.Shuffles.{Shuffled, length-Shuffled}
use Rattle.cts_topo.proofs.Divided.{divided_pair, divisible_turned}
use Rattle.cts_topo.proofs.Divisions.{division-Shuffled}
use Rattle.cts_shape_workers.specs.Growing.{CanGrow, Grows}

-- a list that begins at the next number and is appended
pub adds_apart : (first next : ℕ) (pins : List Pin) (left right : List ShapeNode) → next ≡ first + length left
    → AddsTree next pins [] right → AddsTree first pins left (left ++ right)
adds_apart first next pins left right is adds limit fits =
    ap (λ ns. left ++ ns) (adds limit fits) ∙ ap (λ n. left ++ labels (division limit n pins)) (add-zero next ∙ is)

pub grows_pair : (first next : ℕ) (ps ls rs : List Pin) (nodes left right : List ShapeNode) (i j : ℕ) → 2 ≤ length ps
    → Shuffled (left_part ps) ls → Shuffled (right_part ps) rs → 0 < length ls → 0 < length rs → length ls + length rs ≡ length ps
    → Grows first ls nodes left → Grows next rs [] right → next + 1 ≡ first + length nodes + 2 * length ls
    → i + 1 ≡ first + length left → j + 1 ≡ first + length left + length right
    → Grows first ps nodes (left ++ right ++ Pair i j ∷ [])
grows_pair first next ps ls rs nodes left right i j two left_same right_same left_some right_some total l r next_is i_is j_is =
    let both : List ShapeNode = left ++ right in
    let long : length both ≡ length left + length right = length-append left right in
    record {
      tree = divided_pair first ps ls rs two left_same right_same left_some right_some total nodes left both l.tree
          (adds_apart first next rs left right (omega (arith, next_is, l.count)) r.tree) i j i_is (omega (arith, j_is, long));
      count = omega (arith, length-append both (Pair i j ∷ []), long, l.count, r.count, total);
    }

-- the order of the pins does not matter
pub grows_shuffled : (first : ℕ) (ps qs : List Pin) (old new : List ShapeNode) → Shuffled ps qs → Grows first qs old new
    → Grows first ps old new
grows_shuffled first ps qs old new alike g = record {
  tree = λ limit fits. g.tree limit (omega (arith, fits, length-Shuffled alike))
      ∙ ap (λ t. old ++ labels t) (sym (division-Shuffled limit (first + length old) ps qs alike));
  count = omega (arith, g.count, length-Shuffled alike);
}

-- the same pins the other way round
pub can_grow_turned : (first : ℕ) (wide : Bool) (along across spare : List Pin) (nodes : List ShapeNode)
    → CanGrow first wide along across spare nodes → CanGrow first (not wide) across along spare nodes
can_grow_turned first wide along across spare nodes r = record {
  pins = divisible_turned wide along across r.pins;
  long = omega (arith, r.long, length-Shuffled r.pins.same);
  room = omega (arith, r.room, length-Shuffled r.pins.same);
}

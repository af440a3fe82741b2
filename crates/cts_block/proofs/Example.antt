-- The nearest free point, on worked places.
use Rattle.std.proofs.Common.{◌⊎◌, inl, inr, ℤ, pos, ◌≤ℤ◌, Bool, true, false, [], ◌∷◌, refl, arith}
use Rattle.std.proofs.lemmas.Int.{ints, by_lt_z}
use Rattle.std.proofs.lemmas.List.Elements.{All-nil, All-cons}
use Rattle.cts_geom.specs.declared.points.Spot.{Spot}
use Rattle.cts_geom.specs.declared.bounds.Die.{Die}
use Rattle.cts_geom.specs.Points.{spot_at, point_of}
use Rattle.cts_geom.proofs.PointLemmas.{distance_of-is}
use Rattle.cts_block.specs.declared.blocks.Block.{Block}
use Rattle.cts_block.specs.declared.blocks.Kind.TheVariants.{Buffer, All as AllKind}
use Rattle.cts_block.specs.FreePoints.{IsHalfInside, IsOpenToWires, IsOpenToBuffers}
use Rattle.cts_block.specs.NearestFree.{IsFree, IsNearestFree}

-- a point of whole nm that isn't strictly inside a block lies on one of its sides or beyond it
off_a_side : (block : Block) (x y : ℤ) → (IsHalfInside block (point_of (spot_at x y)) → ⊥) → ((x ≤ℤ block.x1) ⊎ (block.x2 ≤ℤ x)) ⊎ ((y ≤ℤ block.y1) ⊎ (block.y2 ≤ℤ y))
off_a_side block x y outside =
    by_lt_z block.x1 x
    (λ left. by_lt_z x block.x2
    (λ right. by_lt_z block.y1 y
    (λ bottom. by_lt_z y block.y2
    (λ top. absurd (outside (record {
      x = record { above = omega (arith, ints, left); below = omega (arith, ints, right) };
      y = record { above = omega (arith, ints, bottom); below = omega (arith, ints, top) };
    })))
    (λ beyond. inr (inr beyond)))
    (λ beyond. inr (inl beyond)))
    (λ beyond. inl (inr beyond)))
    (λ beyond. inl (inl beyond))

-- a square of 3 nm in the middle of a die of 5 nm
abbrev die : Die
die = record { x1 = pos 0; y1 = pos 0; x2 = pos 5; y2 = pos 5 }

abbrev square : Block
square = record { kind = AllKind; x1 = pos 1; y1 = pos 1; x2 = pos 4; y2 = pos 4 }

-- from the centre (2.5, 2.5), several whole points are 2 nm away, and (1, 2) comes first by x and then by y
abbrev centre : Spot
centre = record { u = pos 5; v = pos 0 }

abbrev first : Spot
first = spot_at (pos 1) (pos 2)

square_free : (buffered : Bool) (x y : ℤ) → IsFree (square ∷ []) die buffered (spot_at x y) → ((x ≤ℤ pos 1) ⊎ (pos 4 ≤ℤ x)) ⊎ ((y ≤ℤ pos 1) ⊎ (pos 4 ≤ℤ y))
square_free true x y free = off_a_side square x y (free.clear 0 square (omega arith))
square_free false x y free = off_a_side square x y (free.clear 0 square (omega arith) tt)

first_free : (buffered : Bool) → IsFree (square ∷ []) die buffered first
first_free true = record {
  in_die = record { x = record { at_least = omega (arith, ints); at_most = omega (arith, ints) }; y = record { at_least = omega (arith, ints); at_most = omega (arith, ints) } };
  clear = All-cons (IsOpenToBuffers (point_of first)) square [] (λ inside. absurd (omega (arith, ints, inside.x.above))) (All-nil (IsOpenToBuffers (point_of first)));
}
first_free false = record {
  in_die = record { x = record { at_least = omega (arith, ints); at_most = omega (arith, ints) }; y = record { at_least = omega (arith, ints); at_most = omega (arith, ints) } };
  clear = All-cons (IsOpenToWires (point_of first)) square [] (λ stops inside. absurd (omega (arith, ints, inside.x.above))) (All-nil (IsOpenToWires (point_of first)));
}

centre_not_free : (buffered : Bool) → ¬ IsFree (square ∷ []) die buffered centre
centre_not_free true free = free.clear 0 square (omega arith) (record {
  x = record { above = omega (arith, ints); below = omega (arith, ints) };
  y = record { above = omega (arith, ints); below = omega (arith, ints) };
})
centre_not_free false free = free.clear 0 square (omega arith) tt (record {
  x = record { above = omega (arith, ints); below = omega (arith, ints) };
  y = record { above = omega (arith, ints); below = omega (arith, ints) };
})

square_moves : (buffered : Bool) → IsNearestFree (square ∷ []) die buffered centre first
square_moves buffered = record {
  stays = λ free. absurd (centre_not_free buffered free);
  moves = λ _. record {
    x = pos 1;
    y = pos 2;
    whole = refl;
    free = first_free buffered;
    no_later = λ x y free.
        let from_first = distance_of-is centre first in
        let from_other = distance_of-is centre (spot_at x y) in
        let off = square_free buffered x y free in
        record {
          by_distance = omega (arith, ints, from_first, from_other, off);
          by_x = λ same. omega (arith, ints, from_first, from_other, off, same);
          by_y = λ same_distance same_x. omega (arith, ints, from_first, from_other, off, same_distance, same_x);
        };
  };
}

-- an edge is free, so (1, 4) stays
edge_free : (buffered : Bool) → IsFree (square ∷ []) die buffered (spot_at (pos 1) (pos 4))
edge_free true = record {
  in_die = record { x = record { at_least = omega (arith, ints); at_most = omega (arith, ints) }; y = record { at_least = omega (arith, ints); at_most = omega (arith, ints) } };
  clear = All-cons (IsOpenToBuffers (point_of (spot_at (pos 1) (pos 4)))) square [] (λ inside. absurd (omega (arith, ints, inside.x.above))) (All-nil (IsOpenToBuffers (point_of (spot_at (pos 1) (pos 4)))));
}
edge_free false = record {
  in_die = record { x = record { at_least = omega (arith, ints); at_most = omega (arith, ints) }; y = record { at_least = omega (arith, ints); at_most = omega (arith, ints) } };
  clear = All-cons (IsOpenToWires (point_of (spot_at (pos 1) (pos 4)))) square [] (λ stops inside. absurd (omega (arith, ints, inside.x.above))) (All-nil (IsOpenToWires (point_of (spot_at (pos 1) (pos 4)))));
}

edge_stays : (buffered : Bool) → IsNearestFree (square ∷ []) die buffered (spot_at (pos 1) (pos 4)) (spot_at (pos 1) (pos 4))
edge_stays buffered = record { stays = λ _. refl; moves = λ blocked. absurd (blocked (edge_free buffered)) }

-- in a larger die, a buffer at (5, 5) in a block for buffers: (2, 5), (5, 2) and (8, 5) are all 3 nm away, and x decides
abbrev wide_die : Die
wide_die = record { x1 = pos 0; y1 = pos 0; x2 = pos 20; y2 = pos 20 }

abbrev no_buffers : Block
no_buffers = record { kind = Buffer; x1 = pos 2; y1 = pos 2; x2 = pos 8; y2 = pos 9 }

abbrev middle : Spot
middle = spot_at (pos 5) (pos 5)

abbrev west : Spot
west = spot_at (pos 2) (pos 5)

buffer_moves : IsNearestFree (no_buffers ∷ []) wide_die true middle west
buffer_moves = record {
  stays = λ free. absurd (free.clear 0 no_buffers (omega arith) (record {
    x = record { above = omega (arith, ints); below = omega (arith, ints) };
    y = record { above = omega (arith, ints); below = omega (arith, ints) };
  }));
  moves = λ _. record {
    x = pos 2;
    y = pos 5;
    whole = refl;
    free = record {
      in_die = record { x = record { at_least = omega (arith, ints); at_most = omega (arith, ints) }; y = record { at_least = omega (arith, ints); at_most = omega (arith, ints) } };
      clear = All-cons (IsOpenToBuffers (point_of west)) no_buffers [] (λ inside. absurd (omega (arith, ints, inside.x.above))) (All-nil (IsOpenToBuffers (point_of west)));
    };
    no_later = λ x y free.
        let from_west = distance_of-is middle west in
        let from_other = distance_of-is middle (spot_at x y) in
        let off = off_a_side no_buffers x y (free.clear 0 no_buffers (omega arith)) in
        record {
          by_distance = omega (arith, ints, from_west, from_other, off);
          by_x = λ same. omega (arith, ints, from_west, from_other, off, same);
          by_y = λ same_distance same_x. omega (arith, ints, from_west, from_other, off, same_distance, same_x);
        };
  };
}

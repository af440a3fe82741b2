-- Segments along an axis: parts of a clear segment are clear.
use Rattle.std.proofs.Common.{◌≡◌, ◌⊎◌, inl, inr, ℤ, List, ap, arith}
use Rattle.std.proofs.lemmas.Int.{ints}
use Rattle.cts_geom.specs.declared.points.Half.{Half}
use Rattle.cts_block.specs.declared.blocks.Block.{Block}
use Rattle.cts_route.specs.declared.direction.Direction.{Direction}
use Rattle.cts_route.specs.declared.direction.Direction.TheVariants.{East, West, North, South}
use Rattle.cts_tree.specs.Path.{IsWithin, IsOnSegment}
use Rattle.cts_route.specs.Grid.{IsAhead, IsClear}

within_front : (a b c r : ℤ) → IsWithin a c b → IsWithin a b r → IsWithin a c r
within_front a b c r (inl (lo, hi)) (inl (l, h)) = inl (omega (arith, ints), omega (arith, ints))
within_front a b c r (inl (lo, hi)) (inr (l, h)) = inl (omega (arith, ints), omega (arith, ints))
within_front a b c r (inr (lo, hi)) (inl (l, h)) = inr (omega (arith, ints), omega (arith, ints))
within_front a b c r (inr (lo, hi)) (inr (l, h)) = inr (omega (arith, ints), omega (arith, ints))

within_back : (a b c r : ℤ) → IsWithin a c b → IsWithin b c r → IsWithin a c r
within_back a b c r (inl (lo, hi)) (inl (l, h)) = inl (omega (arith, ints), omega (arith, ints))
within_back a b c r (inl (lo, hi)) (inr (l, h)) = inl (omega (arith, ints), omega (arith, ints))
within_back a b c r (inr (lo, hi)) (inl (l, h)) = inr (omega (arith, ints), omega (arith, ints))
within_back a b c r (inr (lo, hi)) (inr (l, h)) = inr (omega (arith, ints), omega (arith, ints))

-- the part of a clear segment up to one of its points, and the part after it
pub clear_front : (blocks : List Block) (p t n : Half) → IsOnSegment p t n → IsClear blocks p t → IsClear blocks p n
clear_front blocks p t n on clear = λ r part.
    clear r (record { x = within_front p.x n.x t.x r.x on.x part.x; y = within_front p.y n.y t.y r.y on.y part.y })

pub clear_back : (blocks : List Block) (p t n : Half) → IsOnSegment p t n → IsClear blocks p t → IsClear blocks n t
clear_back blocks p t n on clear = λ r part.
    clear r (record { x = within_back p.x n.x t.x r.x on.x part.x; y = within_back p.y n.y t.y r.y on.y part.y })

within_same : (a c b : ℤ) → a ≡ b → b ≡ c → IsWithin a c b
within_same a c b e f = inl (omega (arith, ints), omega (arith, ints))

-- n lies straight ahead of p, and t straight ahead of n or at n
pub on_segment : (d : Direction) (p t n : Half) → IsAhead d p n → (n ≡ t) ⊎ IsAhead d n t → IsOnSegment p t n
on_segment d p t n ahead (inl same) = on_end d p t n ahead (ap (λ (r : Half). r.x) same) (ap (λ (r : Half). r.y) same)
  where
    on_end : (d : Direction) (p t n : Half) → IsAhead d p n → n.x ≡ t.x → n.y ≡ t.y → IsOnSegment p t n
    on_end East p t n ahead x y = record { x = inl (omega (arith, ints), omega (arith, ints)); y = within_same p.y t.y n.y ahead.1 y }
    on_end West p t n ahead x y = record { x = inr (omega (arith, ints), omega (arith, ints)); y = within_same p.y t.y n.y ahead.1 y }
    on_end North p t n ahead x y = record { x = within_same p.x t.x n.x ahead.0 x; y = inl (omega (arith, ints), omega (arith, ints)) }
    on_end South p t n ahead x y = record { x = within_same p.x t.x n.x ahead.0 x; y = inr (omega (arith, ints), omega (arith, ints)) }
on_segment East p t n ahead (inr on) = record { x = inl (omega (arith, ints), omega (arith, ints)); y = within_same p.y t.y n.y ahead.1 on.1 }
on_segment West p t n ahead (inr on) = record { x = inr (omega (arith, ints), omega (arith, ints)); y = within_same p.y t.y n.y ahead.1 on.1 }
on_segment North p t n ahead (inr on) = record { x = within_same p.x t.x n.x ahead.0 on.0; y = inl (omega (arith, ints), omega (arith, ints)) }
on_segment South p t n ahead (inr on) = record { x = within_same p.x t.x n.x ahead.0 on.0; y = inr (omega (arith, ints), omega (arith, ints)) }

-- Frames and the ends that lie in them.
use Rattle.std.proofs.Common.{◌≡◌, ◌^◌, ℤ, pos, neg_ℤ, inl, ◌≤ℤ◌, subst, arith}
use Rattle.std.specs.Int.{int_min, int_max}
use Rattle.std.proofs.lemmas.Int.{ints, clamps}
use Rattle.cts_geom.specs.declared.points.Half.{Half}
use Rattle.cts_geom.specs.declared.points.Spot.{Spot}
use Rattle.cts_geom.specs.Points.{IsSpotInRange, point_of}
use Rattle.cts_route.specs.declared.direction.Direction.TheVariants.{East, West, North, South}
use Rattle.cts_route.specs.declared.frame.Frame.{Frame}
use Rattle.cts_route.specs.declared.frame.Sides.{Sides}
use Rattle.cts_route.specs.declared.view.View.{View}
use Rattle.cts_route.specs.Grids.{IsNear}
use Rattle.cts_route.specs.Walls.{IsSpan}
use Rattle.cts_route.specs.WindowOf.{IsInFrame, IsFrameOf, IsWhole, IsWider, IsShutTo, IsShut, AreNone, AreOpenSides}
use Rattle.cts_route.proofs.Falls.{all_directions}
use Rattle.cts_route.proofs.GridLines.{near_point-x, near_point-y}
use Rattle.cts_route.proofs.Sweeps.{from_false}

least : (a b m : ℤ) → m ≡ int_min a b → (m ≤ℤ a) × (m ≤ℤ b)
least a b m e = (omega (arith, ints, clamps), omega (arith, ints, clamps))

greatest : (a b m : ℤ) → m ≡ int_max a b → (a ≤ℤ m) × (b ≤ℤ m)
greatest a b m e = (omega (arith, ints, clamps), omega (arith, ints, clamps))

least-near : (a b m : ℤ) → m ≡ int_min a b → IsNear a → IsNear b → neg_ℤ (pos (2 ^ 41)) ≤ℤ m
least-near a b m e near_a near_b = let h = near_a.low in let k = near_b.low in omega (arith, ints, clamps)

greatest-near : (a b m : ℤ) → m ≡ int_max a b → IsNear a → IsNear b → m ≤ℤ pos (2 ^ 41)
greatest-near a b m e near_a near_b = let h = near_a.high in let k = near_b.high in omega (arith, ints, clamps)

pub around_ends : (from to : Spot) (p q low high : Half) → IsSpotInRange from → IsSpotInRange to → p ≡ point_of from → q ≡ point_of to → IsSpan p q low high
    → IsFrameOf from to (record { low = low; high = high })
around_ends from to p q low high from_in to_in at_p at_q is =
    let s : Half = point_of from in
    let t : Half = point_of to in
    let span : IsSpan s t low high = subst (λ (r : Half). IsSpan s r low high) at_q (subst (λ (r : Half). IsSpan r q low high) at_p is) in
    let x1 = least s.x t.x low.x span.x1 in
    let y1 = least s.y t.y low.y span.y1 in
    let x2 = greatest s.x t.x high.x span.x2 in
    let y2 = greatest s.y t.y high.y span.y2 in
    record {
      near = record {
        west = least-near s.x t.x low.x span.x1 (near_point-x from from_in) (near_point-x to to_in);
        south = least-near s.y t.y low.y span.y1 (near_point-y from from_in) (near_point-y to to_in);
        east = greatest-near s.x t.x high.x span.x2 (near_point-x from from_in) (near_point-x to to_in);
        north = greatest-near s.y t.y high.y span.y2 (near_point-y from from_in) (near_point-y to to_in);
      };
      from_in = record { west = x1.0; south = y1.0; east = x2.0; north = y2.0 };
      to_in = record { west = x1.1; south = y1.1; east = x2.1; north = y2.1 };
    }

at_low : (a b : ℤ) → a ≡ b → b ≤ℤ a
at_low a b e = omega (arith, ints)

at_high : (a b : ℤ) → a ≡ b → a ≤ℤ b
at_high a b e = omega (arith, ints)

from_low : (a b c : ℤ) → a ≡ b → b ≤ℤ c → a ≤ℤ c
from_low a b c e le = omega (arith, ints)

to_high : (a b c : ℤ) → a ≡ b → c ≤ℤ b → c ≤ℤ a
to_high a b c e le = omega (arith, ints)

in_whole : (frame : Frame) (p : Spot) → IsWhole frame → IsSpotInRange p → IsInFrame frame (point_of p)
in_whole frame p whole p_in =
    record {
      west = from_low _ _ _ (whole.ends West) (near_point-x p p_in).low;
      south = from_low _ _ _ (whole.ends South) (near_point-y p p_in).low;
      east = to_high _ _ _ (whole.ends East) (near_point-x p p_in).high;
      north = to_high _ _ _ (whole.ends North) (near_point-y p p_in).high;
    }

pub whole_frame : (from to : Spot) (frame : Frame) → IsWhole frame → IsSpotInRange from → IsSpotInRange to → IsFrameOf from to frame
whole_frame from to frame whole from_in to_in =
    record {
      near = record {
        west = at_low _ _ (whole.ends West);
        south = at_low _ _ (whole.ends South);
        east = at_high _ _ (whole.ends East);
        north = at_high _ _ (whole.ends North);
      };
      from_in = in_whole frame from whole from_in;
      to_in = in_whole frame to whole to_in;
    }

in_wider : (before after : Frame) (p : Half) → IsWider before after → IsInFrame before p → IsInFrame after p
in_wider before after p wider is =
    record {
      west = further wider.west is.west;
      south = further wider.south is.south;
      east = further is.east wider.east;
      north = further is.north wider.north;
    }
  where
    further : {a b c : ℤ} → a ≤ℤ b → b ≤ℤ c → a ≤ℤ c
    further h k = omega (arith, ints)

pub wider_frame : (from to : Spot) (before after : Frame) → IsWider before after → IsFrameOf from to before → IsFrameOf from to after
wider_frame from to before after wider is =
    record { near = wider.near; from_in = in_wider before after (point_of from) wider is.from_in; to_in = in_wider before after (point_of to) wider is.to_in }

pub whole_shut : (frame : Frame) (view : View) → IsWhole frame → IsShut frame view
whole_shut frame view whole = record { to = λ d. record { either = inl (whole.ends d) } }

pub sides_shut : (frame : Frame) (view : View) (sides : Sides) → AreOpenSides frame view sides → AreNone sides → IsShut frame view
sides_shut frame view sides are none =
    record {
      to = all_directions (IsShutTo frame view) (from_false sides.east _ none.east are.east) (from_false sides.west _ none.west are.west)
          (from_false sides.north _ none.north are.north) (from_false sides.south _ none.south are.south);
    }

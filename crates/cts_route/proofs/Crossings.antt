-- When a segment has a point strictly inside a wall.
use Rattle.std.proofs.Common.{◌≡◌, ℕ, ◌<◌, inl, inr, ℤ, pos, ◌+ℤ◌, ◌≤ℤ◌, ◌<ℤ◌, List, length, subst, arith}
use Rattle.std.specs.Prelude.{slice_index_or}
use Rattle.std.specs.Int.{int_min, int_max}
use Rattle.std.proofs.lemmas.Int.{ints, clamps, by_lt_z}
use Rattle.cts_geom.specs.declared.points.Half.{Half}
use Rattle.cts_route.specs.declared.wall.Wall.{Wall}
use Rattle.cts_tree.specs.Path.{IsWithin, IsOnSegment}
use Rattle.cts_route.specs.Walls.{IsInWall, MissesWalls, Overlaps, Crosses, IsSpan}

-- a coordinate of the interval that lies strictly between the edges
common : (p q low high from to : ℤ) → low ≡ int_min p q → high ≡ int_max p q → (from +ℤ pos 1) <ℤ to → Overlaps low high from to
    → (c : ℤ) × (IsWithin p q c × ((from <ℤ c) × (c <ℤ to)))
common p q low high from to e f wide both =
    let P : Type 0 = (c : ℤ) × (IsWithin p q c × ((from <ℤ c) × (c <ℤ to))) in
    by_lt_z {P = P} from low
    (λ above. (low, (within_low p q low e, (above, both.before))))
    (λ below. ((from +ℤ pos 1), (within p q low high (from +ℤ pos 1) e f (omega (arith, ints)) (let after : from <ℤ high = both.after in omega (arith, ints)), (omega (arith, ints), wide))))
  where
    within : (p q low high c : ℤ) → low ≡ int_min p q → high ≡ int_max p q → low ≤ℤ c → c ≤ℤ high → IsWithin p q c
    within p q low high c e f lo hi =
        by_lt_z {P = IsWithin p q c} p q
        (λ lt. inl (omega (arith, ints, clamps), omega (arith, ints, clamps)))
        (λ ge. inr (omega (arith, ints, clamps), omega (arith, ints, clamps)))

    within_low : (p q low : ℤ) → low ≡ int_min p q → IsWithin p q low
    within_low p q low e =
        by_lt_z {P = IsWithin p q low} p q
        (λ lt. inl (omega (arith, ints, clamps), omega (arith, ints, clamps)))
        (λ ge. inr (omega (arith, ints, clamps), omega (arith, ints, clamps)))

-- what is on a segment lies in its span
overlap : (p q low high from to c : ℤ) → low ≡ int_min p q → high ≡ int_max p q → IsWithin p q c → from <ℤ c → c <ℤ to → Overlaps low high from to
overlap p q low high from to c e f (inl (lo, hi)) above below =
    record { before = omega (arith, ints, clamps); after = omega (arith, ints, clamps) }
overlap p q low high from to c e f (inr (lo, hi)) above below =
    record { before = omega (arith, ints, clamps); after = omega (arith, ints, clamps) }

pub crosses_from_point : (wall : Wall) (p q low high r : Half) → IsSpan p q low high → IsOnSegment p q r → IsInWall wall r → Crosses wall low high
crosses_from_point wall p q low high r span on inside =
    record {
      x = overlap p.x q.x low.x high.x wall.x1 wall.x2 r.x span.x1 span.x2 on.x inside.left inside.right;
      y = overlap p.y q.y low.y high.y wall.y1 wall.y2 r.y span.y1 span.y2 on.y inside.below inside.above;
    }

pub point_from_crosses : (wall : Wall) (p q low high : Half) → IsSpan p q low high → Crosses wall low high
    → (r : Half) × (IsOnSegment p q r × IsInWall wall r)
point_from_crosses wall p q low high span both =
    let x : (c : ℤ) × (IsWithin p.x q.x c × ((wall.x1 <ℤ c) × (c <ℤ wall.x2))) =
    common p.x q.x low.x high.x wall.x1 wall.x2 span.x1 span.x2 wall.wide both.x in
    let y : (c : ℤ) × (IsWithin p.y q.y c × ((wall.y1 <ℤ c) × (c <ℤ wall.y2))) =
    common p.y q.y low.y high.y wall.y1 wall.y2 span.y1 span.y2 wall.tall both.y in
    (record { x = x.0; y = y.0 }, (record { x = x.1.0; y = y.1.0 }, record { left = x.1.1.0; right = x.1.1.1; below = y.1.1.0; above = y.1.1.1 }))

-- a wall of the list is crossed
pub not_missed : (walls : List Wall) (k : ℕ) (wall : Wall) (p q low high : Half) → k < length walls → wall ≡ slice_index_or walls k wall
    → IsSpan p q low high → Crosses wall low high → MissesWalls walls p q → ⊥
unfolding MissesWalls
not_missed walls k wall p q low high lt read span both misses =
    let r : (r : Half) × (IsOnSegment p q r × IsInWall wall r) = point_from_crosses wall p q low high span both in
    misses r.0 r.1.0 k wall lt (subst (λ (w : Wall). IsInWall w r.0) read r.1.1)

-- none is
pub all_missed : (walls : List Wall) (p q low high : Half) → IsSpan p q low high
    → ((k : ℕ) (d : Wall) → k < length walls → Crosses (slice_index_or walls k d) low high → ⊥) → MissesWalls walls p q
unfolding MissesWalls
all_missed walls p q low high span none = λ r on k d lt inside.
    none k d lt (crosses_from_point (slice_index_or walls k d) p q low high r span on inside)

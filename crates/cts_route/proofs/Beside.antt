-- The walls that the steps from a column can meet decide these steps.
use Rattle.std.proofs.Common.{◌≡◌, ℕ, ◌+◌, ◌*◌, ◌/◌, ◌%◌, ◌<◌, ◌≤◌, ◌⊎◌, inl, inr, ℤ, ◌≤ℤ◌, ◌<ℤ◌, List, [], ◌∷◌, ◌++◌, length, sym, ap, ◌∙◌, subst, arith}
use Rattle.std.proofs.lemmas.Int.{ints}
use Rattle.cts_geom.specs.declared.points.Half.{Half}
use Rattle.cts_tree.specs.Path.{IsWithin, IsOnSegment}
use Rattle.cts_route.specs.declared.graph.Graph.{Graph}
use Rattle.cts_route.specs.declared.wall.Wall.{Wall}
use Rattle.cts_route.specs.LineLists.{line_at, IsAscending}
use Rattle.cts_route.specs.Walls.{MissesWalls, AreWallsBetween}
use Rattle.cts_route.specs.Windows.{point_at, IsStepLength, IsEastLength, IsNorthLength, IsGraphUpTo, AreShortLines, IsBeside, IsSpanOf, AreWallsBeside}
use Rattle.cts_route.proofs.Cells.{cell_is, column_inside}
use Rattle.cts_route.proofs.Steps.{point_at-x, east_parts, north_parts, east_of, more_easts, more_norths}

step_beside : (walls near : List Wall) (xs : List ℤ) (column : ℕ) (p q : Half) (len : ℕ) → AreWallsBeside walls xs column near
    → ((r : Half) → IsOnSegment p q r → IsBeside xs column r.x) → IsStepLength near p q len → IsStepLength walls p q len
unfolding MissesWalls
step_beside walls near xs column p q len are beside is =
    record {
      misses = λ some r on. are.inside r (beside r on) (is.misses some r on);
      whole = λ misses. is.whole (λ r on. are.outside r (misses r on));
    }

between_columns : (xs : List ℤ) (column : ℕ) (a b x : ℤ) → a ≡ line_at xs column → b ≡ line_at xs (column + 1) → column + 1 < length xs
    → a <ℤ b → IsWithin a b x → IsBeside xs column x
between_columns xs column a b x e f inside less (inl w) =
    record { low = let lo = w.0 in omega (arith, ints); high = inr (inside, let hi = w.1 in omega (arith, ints)) }
between_columns xs column a b x e f inside less (inr w) =
    record { low = let lo = w.0 in omega (arith, ints); high = inr (inside, let hi = w.1 in omega (arith, ints)) }

on_column : (xs : List ℤ) (column : ℕ) (a b x : ℤ) → a ≡ line_at xs column → b ≡ line_at xs column → IsWithin a b x → IsBeside xs column x
on_column xs column a b x e f (inl w) =
    record { low = let lo = w.0 in omega (arith, ints); high = inl (let hi = w.1 in omega (arith, ints)) }
on_column xs column a b x e f (inr w) =
    record { low = let lo = w.0 in omega (arith, ints); high = inl (let hi = w.1 in omega (arith, ints)) }

east_beside : (walls near : List Wall) (xs ys : List ℤ) (c len : ℕ) → AreShortLines xs → AreShortLines ys
    → AreWallsBeside walls xs (c / length ys) near → IsEastLength near xs ys c len → IsEastLength walls xs ys c len
east_beside walls near xs ys c len short_x short_y are is =
    record {
      there = λ lt.
          let h : ℕ = length ys in
          let column : (0 < h) × ((c + h) / h < length xs) = column_inside (c + h) (length xs) h lt in
          let parts : ((c + h) / h ≡ c / h + 1) × ((c + h) % h ≡ c % h) = east_parts c h column.0 in
          let inside : c / h + 1 < length xs = (let e = parts.0 in let last = column.1 in omega (arith, e, last)) in
          let next : (point_at xs ys (c + h)).x ≡ line_at xs (c / h + 1) =
          point_at-x xs ys (c + h) ∙ ap (λ (k : ℕ). line_at xs k) parts.0 in
          step_beside walls near xs (c / h) (point_at xs ys c) (point_at xs ys (c + h)) len are
          (λ r on. between_columns xs (c / h) (point_at xs ys c).x (point_at xs ys (c + h)).x r.x (point_at-x xs ys c) next inside
          (east_of xs ys c short_x short_y lt).less on.x)
          (is.there lt);
      inside = is.inside;
    }

north_beside : (walls near : List Wall) (xs ys : List ℤ) (c len : ℕ) → AreWallsBeside walls xs (c / length ys) near
    → IsNorthLength near xs ys c len → IsNorthLength walls xs ys c len
north_beside walls near xs ys c len are is =
    record {
      there = λ lt.
          let h : ℕ = length ys in
          let parts : ((c + 1) / h ≡ c / h) × ((c + 1) % h ≡ c % h + 1) = north_parts c h lt in
          let next : (point_at xs ys (c + 1)).x ≡ line_at xs (c / h) =
          point_at-x xs ys (c + 1) ∙ ap (λ (k : ℕ). line_at xs k) parts.0 in
          step_beside walls near xs (c / h) (point_at xs ys c) (point_at xs ys (c + 1)) len are
          (λ r on. on_column xs (c / h) (point_at xs ys c).x (point_at xs ys (c + 1)).x r.x (point_at-x xs ys c) next on.x)
          (is.there lt);
      inside = is.inside;
    }

-- the steps from one more point of a column
pub one_more_point : (walls near : List Wall) (xs ys : List ℤ) (column first row cell east north : ℕ) (before after : Graph)
    → AreShortLines xs → AreShortLines ys → AreWallsBeside walls xs column near → first ≡ column * length ys → row < length ys → cell ≡ first + row
    → IsGraphUpTo walls xs ys cell before → after.east.items ≡ before.east.items ++ east ∷ [] → after.north.items ≡ before.north.items ++ north ∷ []
    → after.height ≡ before.height → IsEastLength near xs ys cell east → IsNorthLength near xs ys cell north → IsGraphUpTo walls xs ys (cell + 1) after
one_more_point walls near xs ys column first row cell east north before after short_x short_y are e in_row f is more_east more_north same east_is north_is =
    let at : (cell / length ys ≡ column) × (cell % length ys ≡ row) = cell_is cell column row (length ys) in_row (omega (arith, e, f)) in
    let beside : AreWallsBeside walls xs (cell / length ys) near = subst (λ (k : ℕ). AreWallsBeside walls xs k near) (sym at.0) are in
    record {
      height = same ∙ is.height;
      easts = more_easts walls xs ys cell east before.east.items after.east.items is.easts more_east
          (east_beside walls near xs ys cell east short_x short_y beside east_is);
      norths = more_norths walls xs ys cell north before.north.items after.north.items is.norths more_north
          (north_beside walls near xs ys cell north beside north_is);
    }

-- the walls that reach between a column's line and the next one
in_span : (xs : List ℤ) (column : ℕ) (low high x : ℤ) → IsAscending xs → IsSpanOf xs column low high → IsBeside xs column x
    → (low ≤ℤ x) × (x ≤ℤ high)
in_span xs column low high x asc span beside = (let from = span.from in let lo = beside.low in omega (arith, ints), upper span.to beside.high)
  where
    upper : ((column + 1 < length xs) × (high ≡ line_at xs (column + 1))) ⊎ ((length xs ≤ column + 1) × (high ≡ line_at xs column))
        → (x ≤ℤ line_at xs column) ⊎ ((column + 1 < length xs) × (x ≤ℤ line_at xs (column + 1))) → x ≤ℤ high
    upper (inl next) (inl on) =
        let less : line_at xs column <ℤ line_at xs (column + 1) = asc.below column (column + 1) (omega arith) next.0 in
        let e = next.1 in omega (arith, ints)
    upper (inl next) (inr before) = let e = next.1 in let lo = before.1 in omega (arith, ints)
    upper (inr last) (inl on) = let e = last.1 in omega (arith, ints)
    upper (inr last) (inr before) = absurd (omega (arith, last.0, before.0))

pub beside_from_between : (walls near : List Wall) (xs : List ℤ) (column : ℕ) (low high : ℤ) → IsAscending xs → IsSpanOf xs column low high
    → AreWallsBetween walls low high near → AreWallsBeside walls xs column near
beside_from_between walls near xs column low high asc span are =
    record {
      outside = are.outside;
      inside = λ r beside out. let within = in_span xs column low high r.x asc span beside in are.inside r within.0 within.1 out;
    }

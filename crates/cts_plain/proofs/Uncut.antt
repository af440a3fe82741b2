-- Where no block stops wires no node is cut.
use Rattle.std.proofs.Common.{◌≡◌, ◌≢◌, ◌⊎◌, inl, inr, ℤ, List, [], ◌∷◌, refl, arith}
use Rattle.std.specs.List.{All}
use Rattle.std.proofs.lemmas.Int.{ints, by_lt_z}
use Rattle.cts_geom.specs.declared.bounds.Die.{Die}
use Rattle.cts_geom.specs.declared.points.Half.{Half}
use Rattle.cts_geom.specs.declared.points.Spot.{Spot}
use Rattle.cts_geom.specs.Points.{distance_of, point_of}
use Rattle.cts_geom.proofs.PointLemmas.{distance_manhattan}
use Rattle.cts_block.specs.declared.blocks.Block.{Block}
use Rattle.cts_block.specs.declared.blocks.Kind.TheVariants.{Buffer}
use Rattle.cts_tree.specs.declared.route.Route.{Route}
use Rattle.cts_route.specs.Laws.{RunsAlongXFirst, bend_of}
use Rattle.cts_route.specs.Routes.{IsCut}
use Rattle.cts_route.proofs.ClearWay.{without_walls}
use Rattle.cts_route.proofs.Unique.{route_not_cut}
use Rattle.cts_plain.specs.Laws.{NothingIsCutWithoutWalls}

same_or_apart : (a b : ℤ) → (a ≡ b) ⊎ (a ≢ b)
same_or_apart a b =
    by_lt_z a b (λ lt. inr (λ e. absurd (omega (arith, ints))))
    (λ le. by_lt_z b a (λ lt. inr (λ e. absurd (omega (arith, ints)))) (λ ge. inl (omega (arith, ints))))

-- the way along x first, of the distance of its ends
abbrev way : (corners : List Half) → Spot → Spot → Route
way corners from to = record { corners = corners; length = distance_of from to }

bent_way : (from to : Spot) → (point_of from).x ≢ (point_of to).x → (point_of from).y ≢ (point_of to).y
    → RunsAlongXFirst (point_of from) (point_of to) (way (bend_of (point_of from) (point_of to) ∷ []) from to)
bent_way from to x y = record {
  bent = λ p q. refl;
  straight = apart;
  length = distance_manhattan from to;
}
  where
    apart : ((point_of from).x ≡ (point_of to).x) ⊎ ((point_of from).y ≡ (point_of to).y) → bend_of (point_of from) (point_of to) ∷ [] ≡ []
    apart (inl e) = absurd (x e)
    apart (inr e) = absurd (y e)

straight_way : (from to : Spot) → ((point_of from).x ≡ (point_of to).x) ⊎ ((point_of from).y ≡ (point_of to).y)
    → RunsAlongXFirst (point_of from) (point_of to) (way [] from to)
straight_way from to same = record {
  bent = λ p q. absurd (never same p q);
  straight = λ e. refl;
  length = distance_manhattan from to;
}
  where
    never : ((point_of from).x ≡ (point_of to).x) ⊎ ((point_of from).y ≡ (point_of to).y) → (point_of from).x ≢ (point_of to).x
        → (point_of from).y ≢ (point_of to).y → ⊥
    never (inl e) p q = p e
    never (inr e) p q = q e

runs : (from to : Spot) → (route : Route) × RunsAlongXFirst (point_of from) (point_of to) route
runs from to = by (same_or_apart (point_of from).x (point_of to).x) (same_or_apart (point_of from).y (point_of to).y)
  where
    by : ((point_of from).x ≡ (point_of to).x) ⊎ ((point_of from).x ≢ (point_of to).x)
        → ((point_of from).y ≡ (point_of to).y) ⊎ ((point_of from).y ≢ (point_of to).y)
        → (route : Route) × RunsAlongXFirst (point_of from) (point_of to) route
    by (inl e) y = (way [] from to, straight_way from to (inl e))
    by (inr x) (inl e) = (way [] from to, straight_way from to (inr e))
    by (inr x) (inr y) = (way (bend_of (point_of from) (point_of to) ∷ []) from to, bent_way from to x y)

uncut : (blocks : List Block) (die : Die) (from to : Spot) → All (λ block. block.kind ≡ Buffer) blocks
    → IsCut blocks die (point_of from) (point_of to) → ⊥
uncut blocks die from to open_ cut =
    let found = runs from to in
    route_not_cut blocks die (point_of from) (point_of to) found.0
    ((without_walls blocks die (point_of from) (point_of to) found.0 open_).1 found.1) cut

pub nothing_cut : NothingIsCutWithoutWalls
nothing_cut i shape k open_ cut =
    let node = cut.is_cut.fails in
    uncut i.blocks i.die node.from node.cut.place open_ node.cut.cut

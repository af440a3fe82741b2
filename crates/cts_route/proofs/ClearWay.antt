-- Where the way along x first and then along y is clear, it is the route.
use Rattle.std.proofs.Common.{◌≡◌, ◌≢◌, suc, ◌⊎◌, inl, inr, ℤ, ◌<ℤ◌, List, [], ◌∷◌, refl, sym, ap, ◌∙◌, subst, arith}
use Rattle.std.specs.Prelude.{All}
use Rattle.std.proofs.lemmas.Int.{ints, by_lt_z}
use Rattle.cts_geom.specs.declared.bounds.Die.{Die}
use Rattle.cts_geom.specs.declared.points.Half.{Half}
use Rattle.cts_geom.specs.Points.{manhattan_of}
use Rattle.cts_geom.proofs.PointLemmas.{half_same}
use Rattle.cts_block.specs.declared.blocks.Block.{Block}
use Rattle.cts_block.specs.declared.blocks.Kind.{Kind}
use Rattle.cts_block.specs.declared.blocks.Kind.TheVariants.{Buffer}
use Rattle.cts_block.specs.FreePoints.{StopsWires}
use Rattle.cts_tree.specs.declared.route.Route.{Route}
use Rattle.cts_tree.specs.Path.{path_length, turns_of}
use Rattle.cts_route.specs.declared.direction.Direction.{Direction}
use Rattle.cts_route.specs.declared.direction.Direction.TheVariants.{East, West, North, South}
use Rattle.cts_route.specs.Grid.{IsAhead, fixed_xs, fixed_ys, Lines, lines_of, IsGridPoint, IsClear, IsJoined}
use Rattle.cts_route.specs.Routes.{IsShortest, TakesFirstSteps}
use Rattle.cts_route.specs.Laws.{bend_of, RunsAlongXFirst, ClearWayIsRoute, RouteWithoutWalls}
use Rattle.cts_route.proofs.NextLine.{Contains-first, Contains-later}
use Rattle.cts_route.proofs.Potential.{Falls, length_of_falls, shortest_from_falls, first_steps_from_falls}
use Rattle.cts_route.proofs.Turns.{goes_round, turns_at, turns_of-none, turns_of-one}
use Rattle.cts_route.proofs.AlongX.{Anywhere, away, away_potential, Toward, Leg, leg}
use Rattle.cts_route.proofs.Unique.{joined_simple, same_points}

-- the way: it turns where it bends
pub record IsWay (blocks : List Block) (lines : Lines) (p q : Half) (points : List Half) : Type 0 where
  pub falls : Falls (IsJoined blocks lines) Anywhere (away q) p points q
  pub bent : p.x ≢ q.x → p.y ≢ q.y → turns_of (p ∷ points) ≡ bend_of p q ∷ []
  pub straight : (p.x ≡ q.x) ⊎ (p.y ≡ q.y) → turns_of (p ∷ points) ≡ []

-- two points differ along an axis in one of its two directions, or not at all
along_x : {P : Type 0} (p t : Half) → p.y ≡ t.y → (IsAhead East p t → P) → (IsAhead West p t → P) → (p.x ≡ t.x → P) → P
along_x p t level up down same =
    by_lt_z p.x t.x (λ lt. up (lt, level)) (λ le. by_lt_z t.x p.x (λ lt. down (lt, level)) (λ ge. same (omega (arith, ints))))

along_y : {P : Type 0} (p t : Half) → p.x ≡ t.x → (IsAhead North p t → P) → (IsAhead South p t → P) → (p.y ≡ t.y → P) → P
along_y p t level up down same =
    by_lt_z p.y t.y (λ lt. up (level, lt)) (λ le. by_lt_z t.y p.y (λ lt. down (level, lt)) (λ ge. same (omega (arith, ints))))

stay : (blocks : List Block) (lines : Lines) (q : Half) → Falls (IsJoined blocks lines) Anywhere (away q) q [] q
unfolding Falls
stay blocks lines q = refl

-- one leg that ends at the goal
last_leg : (blocks : List Block) (lines : Lines) (d : Direction) (p q : Half) → IsGridPoint lines p → IsGridPoint lines q
    → IsAhead d p q → Toward d q q → IsClear blocks p q → Leg blocks lines d p q []
last_leg blocks lines d p q start goal ahead to clear =
    leg (suc (manhattan_of p q)) blocks lines d p q q [] [] (omega arith) start goal ahead to clear (stay blocks lines q) (λ r there. turns_of-one r q)

-- a leg along x to the bend, and then the leg along y
first_leg : (blocks : List Block) (lines : Lines) (d e : Direction) (p b q : Half) → IsGridPoint lines p → IsGridPoint lines b
    → IsAhead d p b → Toward d b q → IsClear blocks p b → d ≢ e → Leg blocks lines e b q [] → Leg blocks lines d p q (b ∷ [])
first_leg blocks lines d e p b q start goal ahead to clear round second =
    leg (suc (manhattan_of p b)) blocks lines d p b q (second.next ∷ second.rest) (b ∷ []) (omega arith) start goal ahead to clear second.falls
    (λ r there. turns_at r b second.next second.rest (goes_round d e r b second.next round there second.ahead)
    ∙ ap (λ (ts : List Half). b ∷ ts) second.turns_are)

bent_way : (blocks : List Block) (lines : Lines) (d : Direction) (p q : Half) → p.x ≢ q.x → p.y ≢ q.y
    → Leg blocks lines d p q (bend_of p q ∷ []) → (points : List Half) × IsWay blocks lines p q points
bent_way blocks lines d p q x y l = (
  l.next ∷ l.rest,
  record {
    falls = l.falls;
    bent = λ _ _. l.turns_are;
    straight = λ same. elim same [ inl e ↦ absurd (x e) | inr e ↦ absurd (y e) ];
  },
)

straight_way : (blocks : List Block) (lines : Lines) (d : Direction) (p q : Half) → (p.x ≡ q.x) ⊎ (p.y ≡ q.y)
    → Leg blocks lines d p q [] → (points : List Half) × IsWay blocks lines p q points
straight_way blocks lines d p q same l = (
  l.next ∷ l.rest,
  record {
    falls = l.falls;
    bent = λ x y. elim same [ inl e ↦ absurd (x e) | inr e ↦ absurd (y e) ];
    straight = λ _. l.turns_are;
  },
)

no_way : (blocks : List Block) (lines : Lines) (p q : Half) → p ≡ q → (points : List Half) × IsWay blocks lines p q points
unfolding Falls
no_way blocks lines p q same = (
  [],
  record {
    falls = same;
    bent = λ x y. absurd (x (ap (λ (r : Half). r.x) same));
    straight = λ _. turns_of-none p;
  },
)

-- from the bend along y, where the two coordinates of the ends differ in y
pub way : (blocks : List Block) (lines : Lines) (p q : Half) → IsGridPoint lines p → IsGridPoint lines q
    → IsClear blocks p (bend_of p q) → IsClear blocks (bend_of p q) q → (points : List Half) × IsWay blocks lines p q points
unfolding Toward
way blocks lines p q start goal first second =
    let P : Type 0 = (points : List Half) × IsWay blocks lines p q points in
    let b : Half = bend_of p q in
    let corner : IsGridPoint lines b = record { x = goal.x; y = start.y } in
    along_x {P = P} p b refl
    (λ over. along_y {P = P} b q refl
    (λ up. bent_way blocks lines East p q (ne_of_lt p.x q.x over.0) (ne_of_lt p.y q.y up.1)
    (first_leg blocks lines East North p b q start corner over refl first east_north (last_leg blocks lines North b q corner goal up (refl, refl) second)))
    (λ up. bent_way blocks lines East p q (ne_of_lt p.x q.x over.0) (ne_of_gt p.y q.y up.1)
    (first_leg blocks lines East South p b q start corner over refl first east_south (last_leg blocks lines South b q corner goal up (refl, refl) second)))
    (λ level. straight_way blocks lines East p q (inr level)
    (last_leg blocks lines East p q start goal (over.0, level) refl (clear_to blocks p b q (half_same b q refl level) first))))
    (λ over. along_y {P = P} b q refl
    (λ up. bent_way blocks lines West p q (ne_of_gt p.x q.x over.0) (ne_of_lt p.y q.y up.1)
    (first_leg blocks lines West North p b q start corner over refl first west_north (last_leg blocks lines North b q corner goal up (refl, refl) second)))
    (λ up. bent_way blocks lines West p q (ne_of_gt p.x q.x over.0) (ne_of_gt p.y q.y up.1)
    (first_leg blocks lines West South p b q start corner over refl first west_south (last_leg blocks lines South b q corner goal up (refl, refl) second)))
    (λ level. straight_way blocks lines West p q (inr level)
    (last_leg blocks lines West p q start goal (over.0, level) refl (clear_to blocks p b q (half_same b q refl level) first))))
    (λ above. along_y {P = P} p q above
    (λ up. straight_way blocks lines North p q (inl above)
    (last_leg blocks lines North p q start goal up (refl, refl) (clear_from blocks b p q (half_same b p (sym above) refl) second)))
    (λ up. straight_way blocks lines South p q (inl above)
    (last_leg blocks lines South p q start goal up (refl, refl) (clear_from blocks b p q (half_same b p (sym above) refl) second)))
    (λ level. no_way blocks lines p q (half_same p q above level)))
  where
    ne_of_lt : (a b : ℤ) → a <ℤ b → a ≢ b
    ne_of_lt a b lt = λ e. absurd (omega (arith, ints))

    ne_of_gt : (a b : ℤ) → b <ℤ a → a ≢ b
    ne_of_gt a b lt = λ e. absurd (omega (arith, ints))

    east_north : East ≢ North
    east_north = λ e. cc

    east_south : East ≢ South
    east_south = λ e. cc

    west_north : West ≢ North
    west_north = λ e. cc

    west_south : West ≢ South
    west_south = λ e. cc

    clear_to : (blocks : List Block) (p b q : Half) → b ≡ q → IsClear blocks p b → IsClear blocks p q
    clear_to blocks p b q same clear = subst (λ (x : Half). IsClear blocks p x) same clear

    clear_from : (blocks : List Block) (b p q : Half) → b ≡ p → IsClear blocks b q → IsClear blocks p q
    clear_from blocks b p q same clear = subst (λ (x : Half). IsClear blocks x q) same clear

-- ---- the law
pub start_on_grid : (blocks : List Block) (die : Die) (from to : Half) → IsGridPoint (lines_of blocks die from to) from
start_on_grid blocks die from to = record { x = Contains-first from.x (to.x ∷ fixed_xs blocks die); y = Contains-first from.y (to.y ∷ fixed_ys blocks die) }

pub goal_on_grid : (blocks : List Block) (die : Die) (from to : Half) → IsGridPoint (lines_of blocks die from to) to
goal_on_grid blocks die from to =
    record {
      x = Contains-later from.x (to.x ∷ fixed_xs blocks die) to.x (Contains-first to.x (fixed_xs blocks die));
      y = Contains-later from.y (to.y ∷ fixed_ys blocks die) to.y (Contains-first to.y (fixed_ys blocks die));
    }

pub clear_way_route : ClearWayIsRoute
clear_way_route blocks die from to route first second =
    let lines : Lines = lines_of blocks die from to in
    let w : (points : List Half) × IsWay blocks lines from to points =
    way blocks lines from to (start_on_grid blocks die from to) (goal_on_grid blocks die from to) first second in
    let shortest : IsShortest (IsJoined blocks lines) from w.0 to =
    shortest_from_falls (IsJoined blocks lines) Anywhere (away to) to (away_potential blocks lines to) from w.0 w.1.falls in
    let steps : TakesFirstSteps (IsJoined blocks lines) from w.0 to =
    first_steps_from_falls (IsJoined blocks lines) Anywhere (away to) to (away_potential blocks lines to) from w.0 w.1.falls in
    let len : path_length (from ∷ w.0) ≡ manhattan_of from to =
    length_of_falls (IsJoined blocks lines) Anywhere (away to) to (away_potential blocks lines to) from w.0 w.1.falls in (
      (λ is_route.
          let same : is_route.points ≡ w.0 =
          same_points (IsJoined blocks lines) (joined_simple blocks lines) from is_route.points w.0 to
          is_route.shortest is_route.first_steps shortest steps in
          let turns : turns_of (from ∷ is_route.points) ≡ turns_of (from ∷ w.0) = ap (λ (xs : List Half). turns_of (from ∷ xs)) same in
          record {
            bent = λ x y. is_route.follows.corners ∙ turns ∙ w.1.bent x y;
            straight = λ level. is_route.follows.corners ∙ turns ∙ w.1.straight level;
            length = is_route.follows.length ∙ ap (λ (xs : List Half). path_length (from ∷ xs)) same ∙ len;
          }),
      λ runs. record {
        points = w.0;
        shortest = shortest;
        first_steps = steps;
        follows = record {
          corners = corners_are from to route w.0 runs w.1.bent w.1.straight;
          length = runs.length ∙ sym len;
        };
      },
    )
  where
    corners_are : (from to : Half) (route : Route) (points : List Half) → RunsAlongXFirst from to route
        → (from.x ≢ to.x → from.y ≢ to.y → turns_of (from ∷ points) ≡ bend_of from to ∷ [])
        → ((from.x ≡ to.x) ⊎ (from.y ≡ to.y) → turns_of (from ∷ points) ≡ [])
        → route.corners ≡ turns_of (from ∷ points)
    corners_are from to route points runs bent straight =
        by_z from.x to.x (λ e. runs.straight (inl e) ∙ sym (straight (inl e)))
        (λ x. by_z from.y to.y (λ e. runs.straight (inr e) ∙ sym (straight (inr e))) (λ y. runs.bent x y ∙ sym (bent x y)))
      where
        by_z : {P : Type 0} (a b : ℤ) → (a ≡ b → P) → (a ≢ b → P) → P
        by_z a b same apart =
            by_lt_z a b (λ lt. apart (λ e. absurd (omega (arith, ints))))
            (λ le. by_lt_z b a (λ lt. apart (λ e. absurd (omega (arith, ints)))) (λ ge. same (omega (arith, ints))))

-- a block of kind Buffer stops no wire
no_stop : (kind : Kind) → kind ≡ Buffer → StopsWires kind → ⊥
no_stop kind e stops = subst StopsWires e stops

pub clear_without_walls : (blocks : List Block) (p q : Half) → All (λ block. block.kind ≡ Buffer) blocks → IsClear blocks p q
clear_without_walls blocks p q none = λ r on k d lt stops inside. no_stop _ (none k d lt) stops

pub without_walls : RouteWithoutWalls
without_walls blocks die from to route none =
    clear_way_route blocks die from to route (clear_without_walls blocks from (bend_of from to) none) (clear_without_walls blocks (bend_of from to) to none)

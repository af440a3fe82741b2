-- There is one route at most, and none where no path is.
use Rattle.std.proofs.Common.{◌≡◌, ℕ, ◌+◌, ◌*◌, ◌<◌, ◌≤◌, pos, List, [], ◌∷◌, refl, sym, ap, ◌∙◌, subst, arith}
use Rattle.std.proofs.lemmas.Int.{ints, by_lt_z}
use Rattle.cts_geom.specs.declared.points.Half.{Half}
use Rattle.cts_geom.specs.Points.{manhattan_of}
use Rattle.cts_geom.proofs.PointLemmas.{half_same}
use Rattle.cts_block.specs.declared.blocks.Block.{Block}
use Rattle.cts_tree.specs.declared.route.Route.{Route}
use Rattle.cts_tree.specs.Path.{path_length, Follows, turns_of}
use Rattle.cts_route.specs.declared.direction.Direction.{Direction}
use Rattle.cts_route.specs.declared.direction.Direction.TheVariants.{East, West, North, South}
use Rattle.cts_route.specs.Grid.{rank, IsAhead, Lines, lines_of, IsJoined}
use Rattle.cts_route.specs.Routes.{IsPath, IsShortest, IsFirstStep, TakesFirstSteps}
use Rattle.cts_route.specs.Laws.{RouteIsOne, RouteIsNotCut}
use Rattle.cts_route.proofs.Potential.{path_length-one, path_length-step}

-- a relation of joined points in which each direction has one neighbour at most, which is apart
pub record IsSimple (Joined : Direction → Half → Half → Type 0) : Type 0 where
  pub one : (direction : Direction) (p n m : Half) → Joined direction p n → Joined direction p m → n ≡ m
  pub apart : (direction : Direction) (p n : Half) → Joined direction p n → 0 < manhattan_of p n

tail_at_most : (w l m a b : ℕ) → a ≡ w + l → b ≡ w + m → a ≤ b → l ≤ m
tail_at_most w l m a b e f low = omega arith

pub shortest-tail : (Joined : Direction → Half → Half → Type 0) (p n : Half) (points : List Half) (q : Half)
    → IsShortest Joined p (n ∷ points) q → IsShortest Joined n points q
unfolding IsPath
shortest-tail Joined p n points q shortest =
    record {
      path = shortest.path.1;
      least = λ others path. tail_at_most _ _ _ _ _ (path_length-step p n points) (path_length-step p n others)
          (shortest.least (n ∷ others) (shortest.path.0, path));
    }

no_step : (w l a : ℕ) → a ≡ w + l → a ≤ 0 → 0 < w → ⊥
no_step w l a e low apart = absurd (omega arith)

-- a shortest path between equal points has no step
no_steps : (Joined : Direction → Half → Half → Type 0) → IsSimple Joined → (p n : Half) (points : List Half) (q : Half)
    → p ≡ q → IsShortest Joined p (n ∷ points) q → ⊥
unfolding IsPath
no_steps Joined simple p n points q same shortest =
    let stay : IsPath Joined p [] q = same in
    let least : path_length (p ∷ n ∷ points) ≤ 0 = subst (λ (l : ℕ). path_length (p ∷ n ∷ points) ≤ l) (path_length-one p) (shortest.least [] stay) in
    no_step _ _ _ (path_length-step p n points) least (simple.apart shortest.path.0.0 p n shortest.path.0.1)

same_rank : (d e : Direction) → rank d ≡ rank e → d ≡ e
same_rank East East h = refl
same_rank West West h = refl
same_rank North North h = refl
same_rank South South h = refl
same_rank East West h = absurd (omega arith)
same_rank East North h = absurd (omega arith)
same_rank East South h = absurd (omega arith)
same_rank West East h = absurd (omega arith)
same_rank West North h = absurd (omega arith)
same_rank West South h = absurd (omega arith)
same_rank North East h = absurd (omega arith)
same_rank North West h = absurd (omega arith)
same_rank North South h = absurd (omega arith)
same_rank South East h = absurd (omega arith)
same_rank South West h = absurd (omega arith)
same_rank South North h = absurd (omega arith)

pub by_order : {P : Type 0} (a b : ℕ) → (a < b → P) → (b < a → P) → (a ≡ b → P) → P
by_order a b below above same =
    by_lt_z (pos a) (pos b) (λ lt. below (omega (arith, ints)))
    (λ le. by_lt_z (pos b) (pos a) (λ lt. above (omega (arith, ints))) (λ ge. same (omega (arith, ints))))

same_step : (Joined : Direction → Half → Half → Type 0) → IsSimple Joined → (p n m q : Half)
    → IsFirstStep Joined p n q → IsFirstStep Joined p m q → n ≡ m
same_step Joined simple p n m q a b =
    by_order (rank a.direction) (rank b.direction)
    (λ before. absurd (b.first a.direction n before a.joined a.shortest))
    (λ after. absurd (a.first b.direction m after b.joined b.shortest))
    (λ same. simple.one a.direction p n m a.joined
    (subst (λ (d : Direction). Joined d p m) (sym (same_rank a.direction b.direction same)) b.joined))

pub same_points : (Joined : Direction → Half → Half → Type 0) → IsSimple Joined → (p : Half) (points others : List Half) (q : Half)
    → IsShortest Joined p points q → TakesFirstSteps Joined p points q
    → IsShortest Joined p others q → TakesFirstSteps Joined p others q → points ≡ others
unfolding IsPath TakesFirstSteps
same_points Joined simple p [] [] q a first b other = refl
same_points Joined simple p [] (m ∷ others) q a first b other = absurd (no_steps Joined simple p m others q a.path b)
same_points Joined simple p (n ∷ points) [] q a first b other = absurd (no_steps Joined simple p n points q b.path a)
same_points Joined simple p (n ∷ points) (m ∷ others) q a first b other =
    let step : n ≡ m = same_step Joined simple p n m q first.0 other.0 in
    let back : m ≡ n = sym step in
    let rest : points ≡ others =
    same_points Joined simple n points others q (shortest-tail Joined p n points q a) first.1
    (subst (λ (x : Half). IsShortest Joined x others q) back (shortest-tail Joined p m others q b))
    (subst (λ (x : Half). TakesFirstSteps Joined x others q) back other.1) in
    ap (λ (x : Half). x ∷ points) step ∙ ap (λ (xs : List Half). m ∷ xs) rest

-- ---- the grid
-- of two points straight ahead in one direction one is ahead of the other, or they are equal
pub by_place : {P : Type 0} (d : Direction) (p n m : Half) → IsAhead d p n → IsAhead d p m → (IsAhead d n m → P) → (IsAhead d m n → P) → (n ≡ m → P) → P
by_place East p n m a b before after same =
    let level : n.y ≡ m.y = sym a.1 ∙ b.1 in
    by_lt_z n.x m.x (λ lt. before (lt, level)) (λ le. by_lt_z m.x n.x (λ lt. after (lt, sym level)) (λ ge. same (half_same n m (omega (arith, ints)) level)))
by_place West p n m a b before after same =
    let level : n.y ≡ m.y = sym a.1 ∙ b.1 in
    by_lt_z m.x n.x (λ lt. before (lt, level)) (λ le. by_lt_z n.x m.x (λ lt. after (lt, sym level)) (λ ge. same (half_same n m (omega (arith, ints)) level)))
by_place North p n m a b before after same =
    let level : n.x ≡ m.x = sym a.0 ∙ b.0 in
    by_lt_z n.y m.y (λ lt. before (level, lt)) (λ le. by_lt_z m.y n.y (λ lt. after (sym level, lt)) (λ ge. same (half_same n m level (omega (arith, ints)))))
by_place South p n m a b before after same =
    let level : n.x ≡ m.x = sym a.0 ∙ b.0 in
    by_lt_z m.y n.y (λ lt. before (level, lt)) (λ le. by_lt_z n.y m.y (λ lt. after (sym level, lt)) (λ ge. same (half_same n m level (omega (arith, ints)))))

pub ahead-apart : (d : Direction) (p n : Half) → IsAhead d p n → 0 < manhattan_of p n
ahead-apart East p n ahead = omega (arith, ints)
ahead-apart West p n ahead = omega (arith, ints)
ahead-apart North p n ahead = omega (arith, ints)
ahead-apart South p n ahead = omega (arith, ints)

pub joined_simple : (blocks : List Block) (lines : Lines) → IsSimple (IsJoined blocks lines)
joined_simple blocks lines =
    record {
      one = λ d p n m a b. by_place d p n m a.ahead b.ahead
          (λ before. absurd (b.nearest n a.next a.ahead before))
          (λ after. absurd (a.nearest m b.next b.ahead after))
          (λ same. same);
      apart = λ d p n a. ahead-apart d p n a.ahead;
    }

-- ---- routes
twice_same : (a b : ℕ) → 2 * a ≡ 2 * b → a ≡ b
twice_same a b e = omega arith

same_route : (route other : Route) → route.corners ≡ other.corners → route.length ≡ other.length → route ≡ other
same_route route other corners lengths =
    ap (λ (c : List Half). record { corners = c; length = route.length }) corners
    ∙ ap (λ (l : ℕ). record { corners = other.corners; length = l }) lengths

pub follow_same : (points others : List Half) (route other : Route) → points ≡ others → Follows route points → Follows other others → route ≡ other
follow_same points others route other same a b =
    same_route route other (a.corners ∙ ap turns_of same ∙ sym b.corners)
    (twice_same _ _ (a.length ∙ ap path_length same ∙ sym b.length))

pub route_one : RouteIsOne
route_one blocks die from to route other a b =
    let same : a.points ≡ b.points =
    same_points (IsJoined blocks (lines_of blocks die from to)) (joined_simple blocks (lines_of blocks die from to)) from a.points b.points to
    a.shortest a.first_steps b.shortest b.first_steps in
    follow_same (from ∷ a.points) (from ∷ b.points) route other (ap (λ (xs : List Half). from ∷ xs) same) a.follows b.follows

pub route_not_cut : RouteIsNotCut
route_not_cut blocks die from to route a cut = cut a.points a.shortest.path

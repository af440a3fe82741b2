-- Where there are shortest paths there is one that takes the first step at each of its points.
use Rattle.std.proofs.Common.{◌≡◌, ℕ, zero, suc, ◌<◌, ◌≤◌, ◌⊎◌, inl, inr, List, [], ◌∷◌, subst, arith}
use Rattle.std.proofs.lemmas.Bool.{cases_lt}
use Rattle.cts_geom.specs.declared.points.Half.{Half}
use Rattle.cts_tree.specs.Path.{path_length}
use Rattle.cts_route.specs.declared.direction.Direction.{Direction}
use Rattle.cts_route.specs.declared.direction.Direction.TheVariants.{East, West, North, South}
use Rattle.cts_route.specs.Grid.{rank}
use Rattle.cts_route.specs.Routes.{IsPath, IsShortest, StartsShortest, IsFirstStep, TakesFirstSteps}
use Rattle.cts_route.proofs.Choosing.{HasLeast}
use Rattle.cts_route.proofs.Neighbours.{same_point, TellsNeighbours}
use Rattle.cts_route.proofs.Potential.{path_length-one, path_length-step}
use Rattle.cts_route.proofs.ShortestPaths.{Path, path_weight, longer}
use Rattle.cts_route.proofs.Unique.{IsSimple, shortest-tail}

pub record IsPreferred (Joined : Direction → Half → Half → Type 0) (q p : Half) (points : List Half) : Type 0 where
  pub shortest : IsShortest Joined p points q
  pub first_steps : TakesFirstSteps Joined p points q

module _ (Joined : Direction → Half → Half → Type 0) (simple : IsSimple Joined) (tell : TellsNeighbours Joined) (q : Half)
    (find_shortest : (p : Half) → HasLeast (Path Joined q p) (path_weight Joined q p)) where
  -- a shortest path from p begins in the direction
  record Starts (d : Direction) (p : Half) : Type 0 where
    next : Half
    joined : Joined d p next
    shortest : StartsShortest Joined p next q

  start_at : (d : Direction) (p n : Half) → Joined d p n → Starts d p → StartsShortest Joined p n q
  start_at d p n joined s = subst (λ x. StartsShortest Joined p x q) (simple.one d p s.next n s.joined joined) s.shortest

  starts_by : (d : Direction) (p n : Half) (points rest : List Half) → IsShortest Joined p points q → Joined d p n → IsPath Joined n rest q
      → path_length (p ∷ n ∷ rest) ≤ path_length (p ∷ points) → Starts d p
  unfolding IsPath
  starts_by d p n points rest is joined path le = record {
    next = n;
    joined = joined;
    shortest = record {
      rest = rest;
      shortest = record {
        path = ((d, joined), path);
        least = λ others way. let least = is.least others way in omega (arith, le, least);
      };
    };
  }

  tail_of : (p n : Half) → StartsShortest Joined p n q → Path Joined q n
  unfolding IsPath
  tail_of p n s = record { points = s.rest; path = s.shortest.path.1 }

  too_long : (p n : Half) (points rest : List Half) → IsShortest Joined p points q → StartsShortest Joined p n q
      → ((way : Path Joined q n) → path_length (n ∷ rest) ≤ path_length (n ∷ way.points))
      → path_length (p ∷ points) < path_length (p ∷ n ∷ rest) → ⊥
  unfolding tail_of
  too_long p n points rest is s least less =
      let a = longer p n rest s.rest (least (tail_of p n s)) in
      let b = s.shortest.least points is.path in
      absurd (omega (arith, a, b, less))

  starts : (d : Direction) (p : Half) (points : List Half) → IsShortest Joined p points q → Starts d p ⊎ ¬ Starts d p
  starts d p points is =
      elim (tell d p) [
        | inr none ↦ inr (λ s. none s.next s.joined)
        | inl here ↦ elim (find_shortest here.0) [
          | inr none ↦ inr (λ s. none (tail_of p here.0 (start_at d p here.0 here.1 s)))
          | inl least ↦ elim (cases_lt (path_length (p ∷ points)) (path_length (p ∷ here.0 ∷ least.0.points))) [
            | inl less ↦ inr (λ s. too_long p here.0 points least.0.points is (start_at d p here.0 here.1 s) least.1 less)
            | inr no_less ↦ inl (starts_by d p here.0 points least.0.points is here.1 least.0.path (omega arith))
          ]
        ]
      ]

  own_start : (p : Half) → ¬ (p ≡ q) → (points : List Half) → IsShortest Joined p points q → (d : Direction) × Starts d p
  unfolding IsPath
  own_start p apart [] is = absurd (apart is.path)
  own_start p apart (n ∷ points) is =
      let step : (d : Direction) × Joined d p n = is.path.0 in
      (step.0, record { next = n; joined = step.1; shortest = record { rest = points; shortest = is } })

  first_in : (d : Direction) (p : Half) → Starts d p → ((other : Direction) → rank other < rank d → ¬ Starts other p)
      → (n : Half) × IsFirstStep Joined p n q
  first_in d p s none = (
    s.next,
    record {
      direction = d;
      joined = s.joined;
      shortest = s.shortest;
      first = λ other m before joined start. none other before (record { next = m; joined = joined; shortest = start });
    },
  )

  first_step : (p : Half) → ¬ (p ≡ q) → (points : List Half) → IsShortest Joined p points q → (n : Half) × IsFirstStep Joined p n q
  first_step p apart points is =
      elim (starts East p points is) [
        | inl s ↦ first_in East p s (λ other before. absurd (omega arith))
        | inr east ↦ elim (starts West p points is) [
          | inl s ↦ first_in West p s (before_west east)
          | inr west ↦ elim (starts North p points is) [
            | inl s ↦ first_in North p s (before_north east west)
            | inr north ↦ elim (starts South p points is) [
              | inl s ↦ first_in South p s (before_south east west north)
              | inr south ↦ absurd (nowhere east west north south (own_start p apart points is))
            ]
          ]
        ]
      ]
    where
      before_west : ¬ Starts East p → (other : Direction) → rank other < rank West → ¬ Starts other p
      before_west east East before = east
      before_west east West before = absurd (omega arith)
      before_west east North before = absurd (omega arith)
      before_west east South before = absurd (omega arith)

      before_north : ¬ Starts East p → ¬ Starts West p → (other : Direction) → rank other < rank North → ¬ Starts other p
      before_north east west East before = east
      before_north east west West before = west
      before_north east west North before = absurd (omega arith)
      before_north east west South before = absurd (omega arith)

      before_south : ¬ Starts East p → ¬ Starts West p → ¬ Starts North p → (other : Direction) → rank other < rank South → ¬ Starts other p
      before_south east west north East before = east
      before_south east west north West before = west
      before_south east west north North before = north
      before_south east west north South before = absurd (omega arith)

      nowhere : ¬ Starts East p → ¬ Starts West p → ¬ Starts North p → ¬ Starts South p → ¬ ((d : Direction) × Starts d p)
      nowhere east west north south (East, s) = east s
      nowhere east west north south (West, s) = west s
      nowhere east west north south (North, s) = north s
      nowhere east west north south (South, s) = south s

  -- ---- the whole path
  no_steps : (p : Half) → p ≡ q → (points : List Half) × IsPreferred Joined q p points
  unfolding IsPath TakesFirstSteps
  no_steps p same = (
    [],
    record {
      shortest = record { path = same; least = λ others path. let e = path_length-one p in omega (arith, e) };
      first_steps = tt;
    },
  )

  -- the path after a first step is shorter
  less_after : (p n : Half) (points : List Half) (m : ℕ) → IsShortest Joined p points q → path_length (p ∷ points) ≤ m
      → (step : IsFirstStep Joined p n q) → path_length (n ∷ step.shortest.rest) < m
  less_after p n points m is le step =
      let a = step.shortest.shortest.least points is.path in
      let b = path_length-step p n step.shortest.rest in
      let some = simple.apart step.direction p n step.joined in
      omega (arith, a, b, some, le)

  with_step : (p n : Half) (step : IsFirstStep Joined p n q) (points : List Half) → IsPreferred Joined q n points → IsPreferred Joined q p (n ∷ points)
  unfolding IsPath TakesFirstSteps
  with_step p n step points rest = record {
    shortest = record {
      path = ((step.direction, step.joined), rest.shortest.path);
      least = λ others path.
          let tail : IsPath Joined n step.shortest.rest q = step.shortest.shortest.path.1 in
          let a = longer p n points step.shortest.rest (rest.shortest.least step.shortest.rest tail) in
          let b = step.shortest.shortest.least others path in
          omega (arith, a, b);
    };
    first_steps = (step, rest.first_steps);
  }

  pub preferred : (m : ℕ) (p : Half) (points : List Half) → IsShortest Joined p points q → path_length (p ∷ points) ≤ m
      → (others : List Half) × IsPreferred Joined q p others
  preferred zero p points is le =
      elim (same_point p q) [
        | inl same ↦ no_steps p same
        | inr apart ↦
            let step : (n : Half) × IsFirstStep Joined p n q = first_step p apart points is in
            let less = less_after p step.0 points 0 is le step.1 in
            absurd (omega (arith, less))
      ]
  preferred (suc m) p points is le =
      elim (same_point p q) [
        | inl same ↦ no_steps p same
        | inr apart ↦
            let step : (n : Half) × IsFirstStep Joined p n q = first_step p apart points is in
            let less = less_after p step.0 points (suc m) is le step.1 in
            let rest : (others : List Half) × IsPreferred Joined q step.0 others =
            preferred m step.0 step.1.shortest.rest (shortest-tail Joined p step.0 step.1.shortest.rest q step.1.shortest.shortest) (omega (arith, less)) in
            (step.0 ∷ rest.0, with_step p step.0 step.1 rest.0 rest.1)
      ]

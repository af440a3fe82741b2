-- Where it is told which neighbours a point has, and all of them are among finitely many points, two points have a shortest
-- path or no path: one of at most as many steps as there are points.
use Rattle.std.proofs.Common.{◌≡◌, ℕ, zero, suc, ◌≤◌, inl, inr, List, [], ◌∷◌, length, refl, sym, subst, arith}
use Rattle.std.specs.List.{Contains}
use Rattle.cts_geom.specs.declared.points.Half.{Half}
use Rattle.cts_tree.specs.Path.{path_length}
use Rattle.cts_route.specs.declared.direction.Direction.{Direction}
use Rattle.cts_route.specs.Routes.{IsPath}
use Rattle.cts_route.proofs.Choosing.{find, HasLeast, least_from, least_direction}
use Rattle.cts_route.proofs.FewCorners.{AreApart, no_more, IsRest, rest_from}
use Rattle.cts_route.proofs.Neighbours.{same_point, TellsNeighbours}
use Rattle.cts_route.proofs.NextLine.{Contains-cases}
use Rattle.cts_route.proofs.Potential.{path_length-one, path_length-step}
use Rattle.cts_route.proofs.Unique.{IsSimple}

pub longer : (p n : Half) (points others : List Half) → path_length (n ∷ points) ≤ path_length (n ∷ others)
    → path_length (p ∷ n ∷ points) ≤ path_length (p ∷ n ∷ others)
longer p n points others le =
    let e = path_length-step p n points in
    let f = path_length-step p n others in
    omega (arith, e, f, le)

pub record Path (Joined : Direction → Half → Half → Type 0) (q p : Half) : Type 0 where
  pub points : List Half
  pub path : IsPath Joined p points q

abbrev pub path_weight : (Joined : Direction → Half → Half → Type 0) (q p : Half) → Path Joined q p → ℕ
path_weight Joined q p way = path_length (p ∷ way.points)

module _ (Joined : Direction → Half → Half → Type 0) (simple : IsSimple Joined) (tell : TellsNeighbours Joined) (q : Half) where
  -- ---- paths of few steps
  record FewSteps (k : ℕ) (p : Half) : Type 0 where
    points : List Half
    path : IsPath Joined p points q
    few : length points ≤ k

  -- with one step before them, in a direction
  record StepAndFew (k : ℕ) (p : Half) (d : Direction) : Type 0 where
    next : Half
    joined : Joined d p next
    rest : FewSteps k next

  abbrev few_weight : (k : ℕ) (p : Half) → FewSteps k p → ℕ
  few_weight k p way = path_length (p ∷ way.points)

  abbrev step_weight : (k : ℕ) (p : Half) (d : Direction) → StepAndFew k p d → ℕ
  step_weight k p d way = path_length (p ∷ way.next ∷ way.rest.points)

  least_by_next : (k : ℕ) (p : Half) (d : Direction) (n : Half) → Joined d p n → HasLeast (FewSteps k n) (few_weight k n)
      → HasLeast (StepAndFew k p d) (step_weight k p d)
  least_by_next k p d n joined least =
      least_from (few_weight k n) (step_weight k p d)
      (λ rest. record { next = n; joined = joined; rest = rest })
      (λ way. record { points = way.rest.points; path = subst (λ x. IsPath Joined x way.rest.points q) (one way) way.rest.path; few = way.rest.few })
      (λ rest way le. subst (λ x. path_length (p ∷ n ∷ rest.points) ≤ path_length (p ∷ x ∷ way.rest.points)) (sym (one way))
      (longer p n rest.points way.rest.points le))
      least
    where
      one : (way : StepAndFew k p d) → way.next ≡ n
      one way = simple.one d p way.next n way.joined joined

  least_in_direction : (k : ℕ) (p : Half) → ((n : Half) → HasLeast (FewSteps k n) (few_weight k n)) → (d : Direction)
      → HasLeast (StepAndFew k p d) (step_weight k p d)
  least_in_direction k p within d =
      elim (tell d p) [
        | inl here ↦ least_by_next k p d here.0 here.1 (within here.0)
        | inr none ↦ inr (λ way. none way.next way.joined)
      ]

  stay : (k : ℕ) (p : Half) → p ≡ q → HasLeast (FewSteps k p) (few_weight k p)
  unfolding IsPath
  stay k p same =
      inl (record { points = []; path = same; few = omega arith }, λ way. let e = path_length-one p in omega (arith, e))

  no_step : (p : Half) → ¬ (p ≡ q) → (points : List Half) → IsPath Joined p points q → ¬ (length points ≤ 0)
  unfolding IsPath
  no_step p apart [] path few = apart path
  no_step p apart (n ∷ points) path few = absurd (omega arith)

  abbrev Parted : ℕ → Half → Type 0
  Parted k p = (d : Direction) × StepAndFew k p d

  parted : (k : ℕ) (p : Half) → ¬ (p ≡ q) → (points : List Half) → IsPath Joined p points q → length points ≤ suc k → Parted k p
  unfolding IsPath
  parted k p apart [] path few = absurd (apart path)
  parted k p apart (n ∷ points) path few =
      (path.0.0, record { next = n; joined = path.0.1; rest = record { points = points; path = path.1; few = omega arith } })

  joined_again : (k : ℕ) (p : Half) → Parted k p → FewSteps (suc k) p
  unfolding IsPath
  joined_again k p way = record {
    points = way.1.next ∷ way.1.rest.points;
    path = ((way.0, way.1.joined), way.1.rest.path);
    few = let few = way.1.rest.few in omega (arith, few);
  }

  parted_weighs : (k : ℕ) (p : Half) (apart : ¬ (p ≡ q)) (points : List Half) (path : IsPath Joined p points q) (few : length points ≤ suc k)
      (w : ℕ) → w ≤ step_weight k p (parted k p apart points path few).0 (parted k p apart points path few).1 → w ≤ path_length (p ∷ points)
  unfolding IsPath parted
  parted_weighs k p apart [] path few w le = absurd (apart path)
  parted_weighs k p apart (n ∷ points) path few w le = le

  -- of the paths of at most k steps one is the shortest, or there are none
  shortest_of_few : (k : ℕ) (p : Half) → HasLeast (FewSteps k p) (few_weight k p)
  unfolding joined_again
  shortest_of_few zero p =
      elim (same_point p q) [
        | inl same ↦ stay zero p same
        | inr apart ↦ inr (λ way. no_step p apart way.points way.path way.few)
      ]
  shortest_of_few (suc k) p =
      elim (same_point p q) [
        | inl same ↦ stay (suc k) p same
        | inr apart ↦
            least_from (λ way. step_weight k p way.0 way.1) (few_weight (suc k) p) (joined_again k p)
            (λ way. parted k p apart way.points way.path way.few)
            (λ least way le. parted_weighs k p apart way.points way.path way.few (step_weight k p least.0 least.1) le)
            (least_direction (step_weight k p) (least_in_direction k p (shortest_of_few k)))
      ]

  -- ---- paths that pass no point twice
  record Straightened (p : Half) (points : List Half) : Type 0 where
    back : List Half
    path : IsPath Joined p back q
    no_longer : path_length (p ∷ back) ≤ path_length (p ∷ points)
    apart : AreApart (p ∷ back)

  straightened : (p : Half) (points : List Half) → IsPath Joined p points q → Straightened p points
  unfolding IsPath AreApart
  straightened p [] path =
      record { back = []; path = path; no_longer = omega arith; apart = (λ (k, lt, at). absurd (omega arith), tt) }
  straightened p (n ∷ points) path =
      let rest : Straightened n points = straightened n points path.1 in
      let short : path_length (p ∷ n ∷ rest.back) ≤ path_length (p ∷ n ∷ points) = longer p n rest.back points rest.no_longer in
      elim (find (λ (x : Half). x ≡ p) (λ x. same_point x p) (n ∷ rest.back)) [
        | inl found ↦
            let from : IsRest Joined simple q p n rest.back =
            rest_from Joined simple q p n rest.back rest.path (subst (λ (x : Half). Contains (n ∷ rest.back) x) found.1.1 found.1.0) in
            record {
              back = from.back;
              path = from.path;
              no_longer = let le = from.no_longer in let e = path_length-step p n rest.back in omega (arith, le, e, short);
              apart = from.apart rest.apart;
            }
        | inr none ↦
            record {
              back = n ∷ rest.back;
              path = (path.0, rest.path);
              no_longer = short;
              apart = (λ there. none p there refl, rest.apart);
            }
      ]

  module _ (all : List Half) (inside : (d : Direction) (p n : Half) → Joined d p n → Contains all n) where
    passed : (p : Half) (points : List Half) → IsPath Joined p points q → (z : Half) → Contains points z → Contains all z
    unfolding IsPath
    passed p [] path z (k, lt, at) = absurd (omega arith)
    passed p (n ∷ points) path z there =
        elim (Contains-cases n points z there) [
          | inl same ↦ subst (λ (x : Half). Contains all x) same (inside path.0.0 p n path.0.1)
          | inr later ↦ passed n points path.1 z later
        ]

    few_of : (p : Half) (points : List Half) → Straightened p points → FewSteps (length all) p
    unfolding AreApart
    few_of p points by = record {
      points = by.back;
      path = by.path;
      few = no_more by.back all by.apart.1 (passed p by.back by.path);
    }

    pub shortest_path : (p : Half) → HasLeast (Path Joined q p) (path_weight Joined q p)
    unfolding few_of
    shortest_path p =
        least_from (few_weight (length all) p) (path_weight Joined q p)
        (λ way. record { points = way.points; path = way.path })
        (λ way. few_of p way.points (straightened p way.points way.path))
        (λ least way le. let short = (straightened p way.points way.path).no_longer in omega (arith, le, short))
        (shortest_of_few (length all) p)

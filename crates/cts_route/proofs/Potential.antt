-- Lower bounds on the lengths of paths, and paths along which such a bound falls by the whole of each step.
use Rattle.std.proofs.Common.{◌≡◌, ℕ, ◌+◌, ◌<◌, ◌≤◌, List, [], ◌∷◌, refl, sym, ap, ◌∙◌, subst, arith}
use Rattle.cts_geom.specs.declared.points.Half.{Half}
use Rattle.cts_geom.specs.Points.{manhattan_of}
use Rattle.cts_tree.specs.Path.{path_length}
use Rattle.cts_route.specs.declared.direction.Direction.{Direction}
use Rattle.cts_route.specs.Grid.{rank}
use Rattle.cts_route.specs.Routes.{IsPath, IsShortest, TakesFirstSteps}

pub path_length-one : (p : Half) → path_length (p ∷ []) ≡ 0
unfolding path_length
path_length-one p = refl

pub path_length-step : (p n : Half) (points : List Half)
    → path_length (p ∷ n ∷ points) ≡ manhattan_of p n + path_length (n ∷ points)
unfolding path_length
path_length-step p n points = refl

-- `height` bounds the length of each path to q from below, and each point from which there is a path `Reaches` q
pub record IsPotential (Joined : Direction → Half → Half → Type 0) (Reaches : Half → Type 0) (height : Half → ℕ) (q : Half) : Type 0 where
  pub reached : Reaches q
  pub zero_there : height q ≡ 0
  pub back : (direction : Direction) (p n : Half) → Joined direction p n → Reaches n → Reaches p × (height p ≤ manhattan_of p n + height n)

at_most_step : (h w l hn ln : ℕ) → l ≡ w + ln → h ≤ w + hn → hn ≤ ln → h ≤ l
at_most_step h w l hn ln e low rest = omega arith

pub height_below : (Joined : Direction → Half → Half → Type 0) (Reaches : Half → Type 0) (height : Half → ℕ) (q : Half)
    → IsPotential Joined Reaches height q → (p : Half) (points : List Half) → IsPath Joined p points q
    → Reaches p × (height p ≤ path_length (p ∷ points))
unfolding IsPath
height_below Joined Reaches height q potential p [] same =
    let low : height p ≤ path_length (p ∷ []) =
    let e : height p ≡ 0 = ap height same ∙ potential.zero_there in omega arith in
    (subst Reaches (sym same) potential.reached, low)
height_below Joined Reaches height q potential p (n ∷ points) path =
    let rest : Reaches n × (height n ≤ path_length (n ∷ points)) = height_below Joined Reaches height q potential n points path.1 in
    let here : Reaches p × (height p ≤ manhattan_of p n + height n) = potential.back path.0.0 p n path.0.1 rest.0 in
    (here.0, at_most_step _ _ _ _ _ (path_length-step p n points) here.1 rest.1)

-- a step by whose whole length the height falls, while it falls by less in each earlier direction
pub record IsFall (Joined : Direction → Half → Half → Type 0) (Reaches : Half → Type 0) (height : Half → ℕ) (p n : Half) : Type 0 where
  pub direction : Direction
  pub joined : Joined direction p n
  pub whole : height p ≡ manhattan_of p n + height n
  pub first : (other : Direction) (m : Half) → rank other < rank direction → Joined other p m → Reaches m → height p < manhattan_of p m + height m

unfoldable pub Falls : (Direction → Half → Half → Type 0) → (Half → Type 0) → (Half → ℕ) → Half → List Half → Half → Type 0
Falls Joined Reaches height p [] q = p ≡ q
Falls Joined Reaches height p (n ∷ points) q = IsFall Joined Reaches height p n × Falls Joined Reaches height n points q

pub path_from_falls : (Joined : Direction → Half → Half → Type 0) (Reaches : Half → Type 0) (height : Half → ℕ) (q p : Half) (points : List Half)
    → Falls Joined Reaches height p points q → IsPath Joined p points q
unfolding IsPath Falls
path_from_falls Joined Reaches height q p [] falls = falls
path_from_falls Joined Reaches height q p (n ∷ points) falls =
    ((falls.0.direction, falls.0.joined), path_from_falls Joined Reaches height q n points falls.1)

whole_step : (h w l hn ln : ℕ) → l ≡ w + ln → h ≡ w + hn → ln ≡ hn → l ≡ h
whole_step h w l hn ln e whole rest = omega arith

pub length_of_falls : (Joined : Direction → Half → Half → Type 0) (Reaches : Half → Type 0) (height : Half → ℕ) (q : Half)
    → IsPotential Joined Reaches height q → (p : Half) (points : List Half) → Falls Joined Reaches height p points q
    → path_length (p ∷ points) ≡ height p
unfolding Falls
length_of_falls Joined Reaches height q potential p [] same =
    path_length-one p ∙ sym (ap height same ∙ potential.zero_there)
length_of_falls Joined Reaches height q potential p (n ∷ points) falls =
    whole_step _ _ _ _ _ (path_length-step p n points) falls.0.whole (length_of_falls Joined Reaches height q potential n points falls.1)

at_most_height : (l h m : ℕ) → l ≡ h → h ≤ m → l ≤ m
at_most_height l h m e low = omega arith

pub shortest_from_falls : (Joined : Direction → Half → Half → Type 0) (Reaches : Half → Type 0) (height : Half → ℕ) (q : Half)
    → IsPotential Joined Reaches height q → (p : Half) (points : List Half) → Falls Joined Reaches height p points q
    → IsShortest Joined p points q
shortest_from_falls Joined Reaches height q potential p points falls =
    record {
      path = path_from_falls Joined Reaches height q p points falls;
      least = λ others path. at_most_height _ _ _ (length_of_falls Joined Reaches height q potential p points falls)
          (height_below Joined Reaches height q potential p others path).1;
    }

-- no shorter way starts in an earlier direction
no_earlier : (h l w lm hm other : ℕ) → l ≡ h → other ≡ w + lm → other ≤ l → h < w + hm → hm ≤ lm → ⊥
no_earlier h l w lm hm other e step least first below = absurd (omega arith)

pub first_steps_from_falls : (Joined : Direction → Half → Half → Type 0) (Reaches : Half → Type 0) (height : Half → ℕ) (q : Half)
    → IsPotential Joined Reaches height q → (p : Half) (points : List Half) → Falls Joined Reaches height p points q
    → TakesFirstSteps Joined p points q
unfolding IsPath Falls TakesFirstSteps
first_steps_from_falls Joined Reaches height q potential p [] falls = tt
first_steps_from_falls Joined Reaches height q potential p (n ∷ points) falls =
    let all : Falls Joined Reaches height p (n ∷ points) q = falls in
    let shortest : IsShortest Joined p (n ∷ points) q = shortest_from_falls Joined Reaches height q potential p (n ∷ points) all in
    let fall : IsFall Joined Reaches height p n = falls.0 in (
      record {
        direction = fall.direction;
        joined = fall.joined;
        shortest = record { rest = points; shortest = shortest };
        first = λ other m before joined starts.
            let path : IsPath Joined p (m ∷ starts.rest) q = starts.shortest.path in
            let below : Reaches m × (height m ≤ path_length (m ∷ starts.rest)) = height_below Joined Reaches height q potential m starts.rest path.1 in
            no_earlier _ _ _ _ _ _ (length_of_falls Joined Reaches height q potential p (n ∷ points) all)
            (path_length-step p m starts.rest) (starts.shortest.least (n ∷ points) shortest.path)
            (fall.first other m before joined below.0) below.1;
      },
      first_steps_from_falls Joined Reaches height q potential n points falls.1,
    )

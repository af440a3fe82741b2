-- A shortest path passes no point twice, so a route has no more corners than its grid has points.
use Rattle.std.proofs.Common.{◌≡◌, ◌*◌, ◌≤◌, inl, inr, Bool, true, false, ℤ, List, [], ◌∷◌, ◌++◌, length, map, refl, sym, ap, subst, length-append, arith}
use Rattle.std.specs.List.{Contains}
use Rattle.std.proofs.Math.Nat.{mul-le-mul}
use Rattle.std.proofs.lemmas.List.{length-map}
use Rattle.std.proofs.lemmas.List.Elements.{Contains-append_left, Contains-append_right, Contains-append_cases}
use Rattle.cts_geom.specs.declared.points.Half.{Half}
use Rattle.cts_block.specs.declared.blocks.Block.{Block}
use Rattle.cts_tree.specs.Path.{path_length, goes_on, turns_of}
use Rattle.cts_route.specs.declared.direction.Direction.{Direction}
use Rattle.cts_route.specs.Grid.{Lines, lines_of, IsGridPoint, IsJoined, edges_of}
use Rattle.cts_route.specs.Routes.{IsPath, IsShortest}
use Rattle.cts_route.specs.Laws.{RoutesHaveFewCorners}
use Rattle.cts_route.proofs.GridLines.{edges_count, two_edges}
use Rattle.cts_route.proofs.NextLine.{Contains-cases, Contains-first, Contains-later}
use Rattle.cts_route.proofs.Potential.{path_length-step}
use Rattle.cts_route.proofs.Unique.{IsSimple, joined_simple, shortest-tail}

-- ---- lists in which no element stands twice
unfoldable pub AreApart : {X : Type 0} → List X → Type 0
AreApart [] = Unit {0}
AreApart (x ∷ xs) = (Contains xs x → ⊥) × AreApart xs

record IsAround {X : Type 0} (x : X) (ys : List X) : Type 0 where
  front : List X
  back : List X
  whole : ys ≡ front ++ x ∷ back

around : {X : Type 0} (x : X) (ys : List X) → Contains ys x → IsAround x ys
around x [] there = absurd (nothing_there there)
  where
    nothing_there : Contains [] x → ⊥
    nothing_there (k, lt, at) = absurd (omega arith)
around x (y ∷ ys) there =
    elim (Contains-cases y ys x there) [
      | inl same ↦ record { front = []; back = ys; whole = ap (λ z. z ∷ ys) same }
      | inr later ↦
          let rest : IsAround x ys = around x ys later in
          record { front = y ∷ rest.front; back = rest.back; whole = ap (λ zs. y ∷ zs) rest.whole }
    ]

-- such a list has at most as many elements as a list that has them all
pub no_more : {X : Type 0} (xs ys : List X) → AreApart xs → ((z : X) → Contains xs z → Contains ys z) → length xs ≤ length ys
unfolding AreApart
no_more [] ys apart inside = omega arith
no_more {X} (x ∷ xs) ys apart inside =
    let at : IsAround x ys = around x ys (inside x (Contains-first x xs)) in
    let others : (z : X) → Contains xs z → Contains (at.front ++ at.back) z = λ z there.
    elim (Contains-append_cases at.front (x ∷ at.back) z (subst (λ zs. Contains zs z) at.whole (inside z (Contains-later x xs z there)))) [
      | inl left ↦ Contains-append_left at.front at.back z left
      | inr right ↦ elim (Contains-cases x at.back z right) [
        | inl same ↦ absurd (apart.0 (subst (λ v. Contains xs v) (sym same) there))
        | inr later ↦ Contains-append_right at.front at.back z later
      ]
    ] in
    let rest : length xs ≤ length (at.front ++ at.back) = no_more xs (at.front ++ at.back) apart.1 others in
    let less = length-append at.front at.back in
    let more = length-append at.front (x ∷ at.back) in
    let whole = ap length at.whole in
    omega (arith, rest, less, more, whole)

-- ---- the points of a shortest path
module _ (Joined : Direction → Half → Half → Type 0) (simple : IsSimple Joined) (q : Half) where
  -- the rest of a path from one of its points on
  pub record IsRest (p a : Half) (points : List Half) : Type 0 where
    pub back : List Half
    pub path : IsPath Joined p back q
    pub no_longer : path_length (p ∷ back) ≤ path_length (a ∷ points)
    pub apart : AreApart (a ∷ points) → AreApart (p ∷ back)

  pub rest_from : (p a : Half) (points : List Half) → IsPath Joined a points q → Contains (a ∷ points) p → IsRest p a points
  unfolding IsPath AreApart
  rest_from p a [] path there =
      elim (Contains-cases a [] p there) [
        | inl same ↦ subst (λ x. IsRest x a []) same (record { back = []; path = path; no_longer = omega arith; apart = λ apart. apart })
        | inr later ↦ absurd (nothing_there later)
      ]
    where
      nothing_there : Contains [] p → ⊥
      nothing_there (k, lt, at) = absurd (omega arith)
  rest_from p a (n ∷ points) path there =
      elim (Contains-cases a (n ∷ points) p there) [
        | inl same ↦ subst (λ x. IsRest x a (n ∷ points)) same (record { back = n ∷ points; path = path; no_longer = omega arith; apart = λ apart. apart })
        | inr later ↦
            let rest : IsRest p n points = rest_from p n points path.1 later in
            record {
              back = rest.back;
              path = rest.path;
              no_longer = let low = rest.no_longer in let e = path_length-step a n points in omega (arith, low, e);
              apart = λ apart. rest.apart apart.1;
            }
      ]

  no_return : (p n : Half) (points : List Half) → IsShortest Joined p (n ∷ points) q → Contains (n ∷ points) p → ⊥
  unfolding IsPath
  no_return p n points shortest there =
      let rest : IsRest p n points = rest_from p n points shortest.path.1 there in
      let low = shortest.least rest.back rest.path in
      let short = rest.no_longer in
      let step = path_length-step p n points in
      let some = simple.apart shortest.path.0.0 p n shortest.path.0.1 in
      absurd (omega (arith, low, short, step, some))

  points_apart : (p : Half) (points : List Half) → IsShortest Joined p points q → AreApart points
  unfolding AreApart
  points_apart p [] shortest = tt
  points_apart p (n ∷ []) shortest = (nothing_there, tt)
    where
      nothing_there : Contains [] n → ⊥
      nothing_there (k, lt, at) = absurd (omega arith)
  points_apart p (n ∷ m ∷ points) shortest =
      let tail : IsShortest Joined n (m ∷ points) q = shortest-tail Joined p n (m ∷ points) q shortest in
      (no_return n m points tail, points_apart n (m ∷ points) tail)

-- ---- the points of a grid
abbrev at : ℤ → ℤ → Half
at x y = record { x = x; y = y }

pub crossings : List ℤ → List ℤ → List Half
crossings [] ys = []
crossings (x ∷ xs) ys = map (at x) ys ++ crossings xs ys

crossings-count : (xs ys : List ℤ) → length (crossings xs ys) ≡ length xs * length ys
unfolding crossings
crossings-count [] ys = omega arith
crossings-count (x ∷ xs) ys =
    let e = length-append (map (at x) ys) (crossings xs ys) in
    let f = length-map ys (at x) in
    let rest = crossings-count xs ys in
    omega (arith, e, f, rest)

on_column : (x : ℤ) (ys : List ℤ) (y : ℤ) → Contains ys y → Contains (map (at x) ys) (at x y)
on_column x [] y (k, lt, is) = absurd (omega arith)
on_column x (z ∷ ys) y there =
    elim (Contains-cases z ys y there) [
      | inl same ↦ subst (λ (v : ℤ). Contains (map (at x) (z ∷ ys)) (at x v)) same (Contains-first (at x z) (map (at x) ys))
      | inr later ↦ Contains-later (at x z) (map (at x) ys) (at x y) (on_column x ys y later)
    ]

pub crossings-all : (xs ys : List ℤ) (p : Half) → Contains xs p.x → Contains ys p.y → Contains (crossings xs ys) p
unfolding crossings
crossings-all [] ys p (k, lt, is) y = absurd (omega arith)
crossings-all (x ∷ xs) ys p there y =
    elim (Contains-cases x xs p.x there) [
      | inl same ↦ subst (λ (v : ℤ). Contains (crossings (x ∷ xs) ys) (at v p.y)) same
          (Contains-append_left (map (at x) ys) (crossings xs ys) (at x p.y) (on_column x ys p.y y))
      | inr later ↦ Contains-append_right (map (at x) ys) (crossings xs ys) p (crossings-all xs ys p later y)
    ]

points_on : (blocks : List Block) (lines : Lines) (p : Half) (points : List Half) (q z : Half)
    → IsPath (IsJoined blocks lines) p points q → Contains points z → IsGridPoint lines z
unfolding IsPath
points_on blocks lines p [] q z path (k, lt, at) = absurd (omega arith)
points_on blocks lines p (n ∷ points) q z path there =
    elim (Contains-cases n points z there) [
      | inl same ↦ subst (IsGridPoint lines) same path.0.1.next
      | inr later ↦ points_on blocks lines n points q z path.1 later
    ]

-- ---- corners
turned : (p q r : Half) (points : List Half) (on : Bool) → goes_on p q r ≡ on → length (turns_of (q ∷ r ∷ points)) ≤ length (r ∷ points)
    → length (turns_of (p ∷ q ∷ r ∷ points)) ≤ length (q ∷ r ∷ points)
unfolding turns_of
turned p q r points true e rest = rw e (omega (arith, rest))
turned p q r points false e rest = rw e (omega (arith, rest))

fewer_turns : (p : Half) (points : List Half) → length (turns_of (p ∷ points)) ≤ length points
unfolding turns_of
fewer_turns p [] = omega arith
fewer_turns p (q ∷ []) = omega arith
fewer_turns p (q ∷ r ∷ points) = turned p q r points (goes_on p q r) refl (fewer_turns q (r ∷ points))

pub few_corners : RoutesHaveFewCorners
few_corners blocks die from to route few is =
    let lines : Lines = lines_of blocks die from to in
    let xs : length lines.xs ≤ 132 =
    let e = edges_count (λ block. edges_of block.kind block.x1 block.x2) blocks (λ b. two_edges b.kind b.x1 b.x2) in omega (arith, e, few) in
    let ys : length lines.ys ≤ 132 =
    let e = edges_count (λ block. edges_of block.kind block.y1 block.y2) blocks (λ b. two_edges b.kind b.y1 b.y2) in omega (arith, e, few) in
    let apart : AreApart is.points = points_apart (IsJoined blocks lines) (joined_simple blocks lines) to from is.points is.shortest in
    let points : length is.points ≤ length (crossings lines.xs lines.ys) =
    no_more is.points (crossings lines.xs lines.ys) apart
    (λ z there. let on : IsGridPoint lines z = points_on blocks lines from is.points to z is.shortest.path there in
    crossings-all lines.xs lines.ys z on.x on.y) in
    let all = crossings-count lines.xs lines.ys in
    let most = mul-le-mul xs ys in
    let turns = fewer_turns from is.points in
    let corners = ap length is.follows.corners in
    omega (arith, points, all, most, turns, corners)

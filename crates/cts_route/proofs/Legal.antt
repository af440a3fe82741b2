-- The way of a route over its corners: its steps run along the axes, no point of it is outside the die or inside a block
-- that stops wires, and it is as long as the path.
use Rattle.std.proofs.Common.{◌≡◌, ◌≢◌, ℕ, suc, ◌+◌, ℤ, pos, ◌*ℤ◌, ◌≤ℤ◌, ◌<ℤ◌, ◌⊎◌, inl, inr, List, [], ◌∷◌, ◌++◌, refl, sym, ap, subst, ◌∙◌, arith}
use Rattle.std.specs.List.{All, Contains, flat_map}
use Rattle.std.proofs.lemmas.Int.{ints, by_lt_z}
use Rattle.std.proofs.lemmas.List.Elements.{All-append, All-cons, All-nil}
use Rattle.cts_geom.specs.declared.bounds.Die.{Die}
use Rattle.cts_geom.specs.declared.points.Half.{Half}
use Rattle.cts_geom.specs.Coordinate.{int_abs_diff}
use Rattle.cts_geom.specs.Points.{manhattan_of}
use Rattle.cts_block.specs.declared.blocks.Block.{Block}
use Rattle.cts_block.specs.declared.blocks.Kind.{Kind}
use Rattle.cts_block.specs.declared.blocks.Kind.TheVariants as kind
use Rattle.cts_block.specs.FreePoints.{IsHalfInDie, IsFreeForWire}
use Rattle.cts_tree.specs.declared.route.Route.{Route}
use Rattle.cts_tree.specs.Path.{points_along, path_length, HasAxisSteps, IsWithin, IsOnSegment, AllAlong, turns_of, Follows}
use Rattle.cts_route.specs.declared.direction.Direction.{Direction}
use Rattle.cts_route.specs.declared.direction.Direction.TheVariants.{East, West, North, South}
use Rattle.cts_route.specs.Grid.{IsAhead, IsJoined, IsGridPoint, edges_of, lines_of}
use Rattle.cts_route.specs.Routes.{IsPath}
use Rattle.cts_route.specs.Laws.{HasCornersIn, IsLegalWay, RoutesAreLegal}
use Rattle.cts_route.proofs.Turns.{goes_straight, goes_round, turns_on, turns_at, turns_of-one}

same_direction : (d e : Direction) → (d ≡ e) ⊎ (d ≢ e)
same_direction East East = inl refl
same_direction West West = inl refl
same_direction North North = inl refl
same_direction South South = inl refl
same_direction East West = inr (λ e. cc)
same_direction East North = inr (λ e. cc)
same_direction East South = inr (λ e. cc)
same_direction West East = inr (λ e. cc)
same_direction West North = inr (λ e. cc)
same_direction West South = inr (λ e. cc)
same_direction North East = inr (λ e. cc)
same_direction North West = inr (λ e. cc)
same_direction North South = inr (λ e. cc)
same_direction South East = inr (λ e. cc)
same_direction South West = inr (λ e. cc)
same_direction South North = inr (λ e. cc)

-- three points in one direction
axis_step : (d : Direction) (p q : Half) → IsAhead d p q → ((p.x ≢ q.x) × (p.y ≡ q.y)) ⊎ ((p.x ≡ q.x) × (p.y ≢ q.y))
axis_step East p q h = inl (λ e. absurd (omega (arith, ints, h.0, e)), h.1)
axis_step West p q h = inl (λ e. absurd (omega (arith, ints, h.0, e)), h.1)
axis_step North p q h = inr (h.0, λ e. absurd (omega (arith, ints, h.1, e)))
axis_step South p q h = inr (h.0, λ e. absurd (omega (arith, ints, h.1, e)))

ahead_further : (d : Direction) (p q r : Half) → IsAhead d p q → IsAhead d q r → IsAhead d p r
ahead_further East p q r h k = (omega (arith, ints, h.0, k.0), h.1 ∙ k.1)
ahead_further West p q r h k = (omega (arith, ints, h.0, k.0), h.1 ∙ k.1)
ahead_further North p q r h k = (h.0 ∙ k.0, omega (arith, ints, h.1, k.1))
ahead_further South p q r h k = (h.0 ∙ k.0, omega (arith, ints, h.1, k.1))

-- of three coordinates in a row the distances add up
add_up : (a b c : ℤ) → a <ℤ b → b <ℤ c → int_abs_diff a c ≡ int_abs_diff a b + int_abs_diff b c
add_up a b c h k = omega (arith, ints)

add_down : (a b c : ℤ) → b <ℤ a → c <ℤ b → int_abs_diff a c ≡ int_abs_diff a b + int_abs_diff b c
add_down a b c h k = omega (arith, ints)

add_level : (a b c : ℤ) → a ≡ b → b ≡ c → int_abs_diff a c ≡ int_abs_diff a b + int_abs_diff b c
add_level a b c h k = omega (arith, ints)

sums_add : (x y a b c d : ℕ) → x ≡ a + c → y ≡ b + d → x + y ≡ (a + b) + (c + d)
sums_add x y a b c d e f = omega arith

lengths_add : (d : Direction) (p q r : Half) → IsAhead d p q → IsAhead d q r → manhattan_of p r ≡ manhattan_of p q + manhattan_of q r
lengths_add East p q r h k = sums_add _ _ _ _ _ _ (add_up p.x q.x r.x h.0 k.0) (add_level p.y q.y r.y h.1 k.1)
lengths_add West p q r h k = sums_add _ _ _ _ _ _ (add_down p.x q.x r.x h.0 k.0) (add_level p.y q.y r.y h.1 k.1)
lengths_add North p q r h k = sums_add _ _ _ _ _ _ (add_level p.x q.x r.x h.0 k.0) (add_up p.y q.y r.y h.1 k.1)
lengths_add South p q r h k = sums_add _ _ _ _ _ _ (add_level p.x q.x r.x h.0 k.0) (add_down p.y q.y r.y h.1 k.1)

-- a step in two parts, and the way from its end
sum_through : (whole front back rest len : ℕ) → whole ≡ front + back → back + rest ≡ len → whole + rest ≡ front + len
sum_through whole front back rest len e f = omega arith

-- a coordinate between a and c is between a and b or between b and c
parted : (a b c z : ℤ) → IsWithin a c z → IsWithin a b z ⊎ IsWithin b c z
parted a b c z (inl w) =
    by_lt_z z b (λ less. inl (inl (w.0, omega (arith, ints, less)))) (λ not_less. inr (inl (omega (arith, ints, not_less), w.1)))
parted a b c z (inr w) =
    by_lt_z z b (λ less. inr (inr (w.0, omega (arith, ints, less)))) (λ not_less. inl (inr (omega (arith, ints, not_less), w.1)))

along_line : (a b c z : ℤ) → a ≡ b → b ≡ c → IsWithin a c z → IsWithin a b z × IsWithin b c z
along_line a b c z h k (inl w) = (inl (w.0, omega (arith, ints, w.1, k)), inl (omega (arith, ints, w.0, h), w.1))
along_line a b c z h k (inr w) = (inr (omega (arith, ints, w.0, k), w.1), inr (w.0, omega (arith, ints, w.1, h)))

-- a point of a step over a third point is on one of its two parts
on_parts : (d : Direction) (p q r s : Half) → IsAhead d p q → IsAhead d q r → IsOnSegment p r s → IsOnSegment p q s ⊎ IsOnSegment q r s
on_parts East p q r s h k on =
    let y = along_line p.y q.y r.y s.y h.1 k.1 on.y in
    elim (parted p.x q.x r.x s.x on.x) [ inl x ↦ inl (record { x = x; y = y.0 }) | inr x ↦ inr (record { x = x; y = y.1 }) ]
on_parts West p q r s h k on =
    let y = along_line p.y q.y r.y s.y h.1 k.1 on.y in
    elim (parted p.x q.x r.x s.x on.x) [ inl x ↦ inl (record { x = x; y = y.0 }) | inr x ↦ inr (record { x = x; y = y.1 }) ]
on_parts North p q r s h k on =
    let x = along_line p.x q.x r.x s.x h.0 k.0 on.x in
    elim (parted p.y q.y r.y s.y on.y) [ inl y ↦ inl (record { x = x.0; y = y }) | inr y ↦ inr (record { x = x.1; y = y }) ]
on_parts South p q r s h k on =
    let x = along_line p.x q.x r.x s.x h.0 k.0 on.x in
    elim (parted p.y q.y r.y s.y on.y) [ inl y ↦ inl (record { x = x.0; y = y }) | inr y ↦ inr (record { x = x.1; y = y }) ]

at_end : (a b : ℤ) → IsWithin a b b
at_end a b = by_lt_z b a (λ less. inr (omega (arith, ints, less), omega (arith, ints, less)))
    (λ not_less. inl (omega (arith, ints, not_less), omega (arith, ints, not_less)))

-- what a property of points says of ways
module _ (P : Half → Type 0) where
  -- a step along an axis whose points have the property
  record Step (p n : Half) : Type 0 where
    direction : Direction
    ahead : IsAhead direction p n
    free : (r : Half) → IsOnSegment p n r → P r

  Walks : Half → List Half → Half → Type 0
  Walks p [] q = p ≡ q
  Walks p (n ∷ points) q = Step p n × Walks n points q

  AheadFirst : Direction → Half → List Half → Type 0
  AheadFirst d p [] = ⊥
  AheadFirst d p (x ∷ xs) = IsAhead d p x

  -- the way over the turns alone
  record Runs (d : Direction) (p : Half) (xs : List Half) (len : ℕ) : Type 0 where
    first : AheadFirst d p xs
    axis : HasAxisSteps (p ∷ xs)
    along : AllAlong P (p ∷ xs)
    long : path_length (p ∷ xs) ≡ len

  last_step : (p n : Half) (s : Step p n) → Runs s.direction p (n ∷ []) (manhattan_of p n)
  unfolding AheadFirst HasAxisSteps AllAlong path_length
  last_step p n s = record {
    first = s.ahead;
    axis = (axis_step s.direction p n s.ahead, tt);
    along = (s.free, s.free n (record { x = at_end p.x n.x; y = at_end p.y n.y }));
    long = omega arith;
  }

  -- straight on: the first step reaches over the point between
  straight : (p n : Half) (s : Step p n) (xs : List Half) (len : ℕ) → Runs s.direction n xs len
      → Runs s.direction p xs (manhattan_of p n + len)
  unfolding AheadFirst HasAxisSteps AllAlong path_length
  straight p n s [] len r = absurd r.first
  straight p n s (x ∷ []) len r = record {
    first = ahead_further s.direction p n x s.ahead r.first;
    axis = (axis_step s.direction p x (ahead_further s.direction p n x s.ahead r.first), tt);
    along = (
      λ q on. elim (on_parts s.direction p n x q s.ahead r.first on) [ inl front ↦ s.free q front | inr back ↦ r.along.0 q back ],
      r.along.1,
    );
    long = sum_through (manhattan_of p x) (manhattan_of p n) (manhattan_of n x) (path_length (x ∷ [])) len (lengths_add s.direction p n x s.ahead r.first) r.long;
  }
  straight p n s (x ∷ y ∷ xs) len r = record {
    first = ahead_further s.direction p n x s.ahead r.first;
    axis = (axis_step s.direction p x (ahead_further s.direction p n x s.ahead r.first), r.axis.1);
    along = (
      λ q on. elim (on_parts s.direction p n x q s.ahead r.first on) [ inl front ↦ s.free q front | inr back ↦ r.along.0 q back ],
      r.along.1,
    );
    long = sum_through (manhattan_of p x) (manhattan_of p n) (manhattan_of n x) (path_length (x ∷ y ∷ xs)) len (lengths_add s.direction p n x s.ahead r.first) r.long;
  }

  -- round a corner
  corner : (p n : Half) (s : Step p n) (d : Direction) (xs : List Half) (len : ℕ) → Runs d n xs len
      → Runs s.direction p (n ∷ xs) (manhattan_of p n + len)
  unfolding AheadFirst HasAxisSteps AllAlong path_length
  corner p n s d xs len r = record {
    first = s.ahead;
    axis = (axis_step s.direction p n s.ahead, r.axis);
    along = (s.free, r.along);
    long = ap (λ l. manhattan_of p n + l) r.long;
  }

  runs : (p n : Half) (points : List Half) (q : Half) (s : Step p n) → Walks n points q
      → Runs s.direction p (turns_of (p ∷ n ∷ points) ++ q ∷ []) (path_length (p ∷ n ∷ points))
  unfolding Walks path_length
  runs p n [] q s walk =
      subst (λ l. Runs s.direction p l (manhattan_of p n + 0)) (ap (λ t. t ++ q ∷ []) (sym (turns_of-one p n)))
      (subst (λ v. Runs s.direction p (v ∷ []) (manhattan_of p n + 0)) walk
      (subst (Runs s.direction p (n ∷ [])) (omega arith) (last_step p n s)))
  runs p n (m ∷ points) q s walk =
      let t : Step n m = walk.0 in
      let r : Runs t.direction n (turns_of (n ∷ m ∷ points) ++ q ∷ []) (path_length (n ∷ m ∷ points)) = runs n m points q t (walk.1) in
      elim (same_direction s.direction t.direction) [
        | inl same ↦
            subst (λ l. Runs s.direction p (l ++ q ∷ []) (manhattan_of p n + path_length (n ∷ m ∷ points)))
            (sym (turns_on p n m points
            (goes_straight s.direction p n m s.ahead (subst (λ d. IsAhead d n m) (sym same) t.ahead))))
            (straight p n s (turns_of (n ∷ m ∷ points) ++ q ∷ []) (path_length (n ∷ m ∷ points))
            (subst (λ d. Runs d n (turns_of (n ∷ m ∷ points) ++ q ∷ []) (path_length (n ∷ m ∷ points))) (sym same) r))
        | inr apart ↦
            subst (λ l. Runs s.direction p (l ++ q ∷ []) (manhattan_of p n + path_length (n ∷ m ∷ points)))
            (sym (turns_at p n m points (goes_round s.direction t.direction p n m apart s.ahead t.ahead)))
            (corner p n s t.direction (turns_of (n ∷ m ∷ points) ++ q ∷ []) (path_length (n ∷ m ∷ points)) r)
      ]

-- the lines of a grid lie in the die, where the blocks and the two ends do
record IsIn (low high z : ℤ) : Type 0 where
  at_least : (pos 2 *ℤ low) ≤ℤ z
  at_most : z ≤ℤ (pos 2 *ℤ high)

edges_in : (low high a b : ℤ) (k : Kind) → low ≤ℤ a → a ≤ℤ high → low ≤ℤ b → b ≤ℤ high → All (IsIn low high) (edges_of k a b)
edges_in low high a b kind.Buffer la ha lb hb = All-nil (IsIn low high)
edges_in low high a b kind.All la ha lb hb =
    All-cons (IsIn low high) (pos 2 *ℤ a) ((pos 2 *ℤ b) ∷ []) (record { at_least = omega (arith, ints); at_most = omega (arith, ints) })
    (All-cons (IsIn low high) (pos 2 *ℤ b) [] (record { at_least = omega (arith, ints); at_most = omega (arith, ints) }) (All-nil (IsIn low high)))

xs_in : (die : Die) (blocks : List Block) → All (HasCornersIn die) blocks
    → All (IsIn die.x1 die.x2) (flat_map (λ block. edges_of block.kind block.x1 block.x2) blocks)
xs_in die [] all = All-nil (IsIn die.x1 die.x2)
xs_in die (b ∷ blocks) all =
    let h : HasCornersIn die b = all 0 b (omega arith) in
    All-append (IsIn die.x1 die.x2) (edges_of b.kind b.x1 b.x2) (flat_map (λ block. edges_of block.kind block.x1 block.x2) blocks)
    (edges_in die.x1 die.x2 b.x1 b.x2 b.kind h.x1_low h.x1_high h.x2_low h.x2_high)
    (xs_in die blocks (λ k d w. all (suc k) d (omega arith)))

ys_in : (die : Die) (blocks : List Block) → All (HasCornersIn die) blocks
    → All (IsIn die.y1 die.y2) (flat_map (λ block. edges_of block.kind block.y1 block.y2) blocks)
ys_in die [] all = All-nil (IsIn die.y1 die.y2)
ys_in die (b ∷ blocks) all =
    let h : HasCornersIn die b = all 0 b (omega arith) in
    All-append (IsIn die.y1 die.y2) (edges_of b.kind b.y1 b.y2) (flat_map (λ block. edges_of block.kind block.y1 block.y2) blocks)
    (edges_in die.y1 die.y2 b.y1 b.y2 b.kind h.y1_low h.y1_high h.y2_low h.y2_high)
    (ys_in die blocks (λ k d w. all (suc k) d (omega arith)))

among : (P : ℤ → Type 0) (lines : List ℤ) (z : ℤ) → All P lines → Contains lines z → P z
among P lines z all (k, within, is) = subst P is (all k z within)

module _ (blocks : List Block) (die : Die) (from to : Half) (ordered_x : die.x1 ≤ℤ die.x2) (ordered_y : die.y1 ≤ℤ die.y2)
    (all : All (HasCornersIn die) blocks) (from_in : IsHalfInDie die from) (to_in : IsHalfInDie die to) where
  lines_x : All (IsIn die.x1 die.x2) (lines_of blocks die from to).xs
  lines_x =
      let edges : List ℤ = flat_map (λ block. edges_of block.kind block.x1 block.x2) blocks in
      let upper : List ℤ = (pos 2 *ℤ die.x2) ∷ edges in
      let lower : List ℤ = (pos 2 *ℤ die.x1) ∷ upper in
      All-cons (IsIn die.x1 die.x2) from.x (to.x ∷ lower) (record { at_least = from_in.x.at_least; at_most = from_in.x.at_most })
      (All-cons (IsIn die.x1 die.x2) to.x lower (record { at_least = to_in.x.at_least; at_most = to_in.x.at_most })
      (All-cons (IsIn die.x1 die.x2) (pos 2 *ℤ die.x1) upper (record { at_least = omega (arith, ints); at_most = omega (arith, ints) })
      (All-cons (IsIn die.x1 die.x2) (pos 2 *ℤ die.x2) edges (record { at_least = omega (arith, ints); at_most = omega (arith, ints) })
      (xs_in die blocks all))))

  lines_y : All (IsIn die.y1 die.y2) (lines_of blocks die from to).ys
  lines_y =
      let edges : List ℤ = flat_map (λ block. edges_of block.kind block.y1 block.y2) blocks in
      let upper : List ℤ = (pos 2 *ℤ die.y2) ∷ edges in
      let lower : List ℤ = (pos 2 *ℤ die.y1) ∷ upper in
      All-cons (IsIn die.y1 die.y2) from.y (to.y ∷ lower) (record { at_least = from_in.y.at_least; at_most = from_in.y.at_most })
      (All-cons (IsIn die.y1 die.y2) to.y lower (record { at_least = to_in.y.at_least; at_most = to_in.y.at_most })
      (All-cons (IsIn die.y1 die.y2) (pos 2 *ℤ die.y1) upper (record { at_least = omega (arith, ints); at_most = omega (arith, ints) })
      (All-cons (IsIn die.y1 die.y2) (pos 2 *ℤ die.y2) edges (record { at_least = omega (arith, ints); at_most = omega (arith, ints) })
      (ys_in die blocks all))))

  point_in : (p : Half) → IsGridPoint (lines_of blocks die from to) p → IsHalfInDie die p
  point_in p grid =
      let x : IsIn die.x1 die.x2 p.x = among (IsIn die.x1 die.x2) (lines_of blocks die from to).xs p.x lines_x grid.x in
      let y : IsIn die.y1 die.y2 p.y = among (IsIn die.y1 die.y2) (lines_of blocks die from to).ys p.y lines_y grid.y in
      record { x = record { at_least = x.at_least; at_most = x.at_most }; y = record { at_least = y.at_least; at_most = y.at_most } }

  between : (low high a b c : ℤ) → low ≤ℤ a → a ≤ℤ high → low ≤ℤ b → b ≤ℤ high → IsWithin a b c → (low ≤ℤ c) × (c ≤ℤ high)
  between low high a b c la ha lb hb (inl w) = (omega (arith, ints, w.0), omega (arith, ints, w.1))
  between low high a b c la ha lb hb (inr w) = (omega (arith, ints, w.0), omega (arith, ints, w.1))

  joined_step : (d : Direction) (p n : Half) → IsJoined blocks (lines_of blocks die from to) d p n → Step (IsFreeForWire blocks die) p n
  joined_step d p n j = record {
    direction = d;
    ahead = j.ahead;
    free = λ r on.
        let p_in : IsHalfInDie die p = point_in p j.start in
        let n_in : IsHalfInDie die n = point_in n j.next in
        let x = between _ _ p.x n.x r.x p_in.x.at_least p_in.x.at_most n_in.x.at_least n_in.x.at_most on.x in
        let y = between _ _ p.y n.y r.y p_in.y.at_least p_in.y.at_most n_in.y.at_least n_in.y.at_most on.y in
        record {
          in_die = record { x = record { at_least = x.0; at_most = x.1 }; y = record { at_least = y.0; at_most = y.1 } };
          clear = j.clear r on;
        };
  }

  walks : (p : Half) (points : List Half) (q : Half) → IsPath (IsJoined blocks (lines_of blocks die from to)) p points q
      → Walks (IsFreeForWire blocks die) p points q
  unfolding IsPath Walks
  walks p [] q path = path
  walks p (n ∷ points) q path = (joined_step path.0.0 p n path.0.1, walks n points q path.1)

  pub legal_by : (points : List Half) (route : Route) → IsPath (IsJoined blocks (lines_of blocks die from to)) from points to
      → Follows route (from ∷ points) → IsLegalWay blocks die from to route
  unfolding turns_of path_length IsPath Walks
  legal_by [] route path follows = record {
    legal = inl (path, follows.corners);
    long = ap (λ c. path_length (points_along from c to)) follows.corners ∙ omega (arith, ints, follows.length, ap (λ (h : Half). h.x) path, ap (λ (h : Half). h.y) path);
  }
  legal_by (n ∷ points) route path follows =
      let walk : Walks (IsFreeForWire blocks die) from (n ∷ points) to = walks from (n ∷ points) to path in
      let r : Runs (IsFreeForWire blocks die) (walk.0).direction from (turns_of (from ∷ n ∷ points) ++ to ∷ []) (path_length (from ∷ n ∷ points)) =
      runs (IsFreeForWire blocks die) from n points to (walk.0) (walk.1) in
      record {
        legal = inr (
          subst (λ c. HasAxisSteps (from ∷ (c ++ to ∷ []))) (sym follows.corners) r.axis,
          subst (λ c. AllAlong (IsFreeForWire blocks die) (from ∷ (c ++ to ∷ []))) (sym follows.corners) r.along,
        );
        long = ap (λ c. path_length (from ∷ (c ++ to ∷ []))) follows.corners ∙ r.long ∙ sym follows.length;
      }

pub routes_legal : RoutesAreLegal
routes_legal blocks die from to route ordered_x ordered_y all from_in to_in is =
    legal_by blocks die from to ordered_x ordered_y all from_in to_in is.points route is.shortest.path is.follows

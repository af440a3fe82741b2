-- Whether a point of a grid is joined to another one in a direction.
use Rattle.std.proofs.Common.{◌≡◌, ◌⊎◌, inl, inr, ℤ, pos, ◌+ℤ◌, ◌*ℤ◌, ◌≤ℤ◌, ◌<ℤ◌, List, get_or, refl, ap, subst, arith}
use Rattle.std.specs.List.{Contains}
use Rattle.std.proofs.lemmas.Int.{ints, by_lt_z}
use Rattle.std.proofs.lemmas.List.Elements.{All-contains, Contains-get_or}
use Rattle.cts_geom.specs.declared.points.Half.{Half}
use Rattle.cts_geom.proofs.PointLemmas.{half_same}
use Rattle.cts_block.specs.declared.blocks.Block.{Block}
use Rattle.cts_block.specs.declared.blocks.Kind.{Kind}
use Rattle.cts_block.specs.declared.blocks.Kind.TheVariants.{All, Buffer}
use Rattle.cts_block.specs.FreePoints.{IsHalfInside, IsStrictlyBetween, StopsWires, IsOpenToWires}
use Rattle.cts_tree.specs.Path.{IsWithin, IsOnSegment}
use Rattle.cts_route.specs.declared.direction.Direction.{Direction}
use Rattle.cts_route.specs.declared.direction.Direction.TheVariants.{East, West, North, South}
use Rattle.cts_route.specs.Grid.{IsAhead, Lines, IsGridPoint, IsClear, IsJoined}
use Rattle.cts_route.proofs.NextLine.{IsNextPoint, next_point}
use Rattle.cts_route.proofs.Choosing.{find}
use Rattle.cts_route.proofs.Unique.{by_place}

same_line : (a b : ℤ) → (a ≡ b) ⊎ ¬ (a ≡ b)
same_line a b =
    by_lt_z {P = (a ≡ b) ⊎ ¬ (a ≡ b)} a b (λ lt. inr (λ e. absurd (omega (arith, ints))))
    (λ ge. by_lt_z {P = (a ≡ b) ⊎ ¬ (a ≡ b)} b a (λ lt. inr (λ e. absurd (omega (arith, ints)))) (λ le. inl (omega (arith, ints))))

pub same_point : (p q : Half) → (p ≡ q) ⊎ ¬ (p ≡ q)
same_point p q =
    elim (same_line p.x q.x) [
      | inl x ↦ elim (same_line p.y q.y) [
        | inl y ↦ inl (half_same p q x y)
        | inr apart ↦ inr (λ e. apart (ap (λ (r : Half). r.y) e))
      ]
      | inr apart ↦ inr (λ e. apart (ap (λ (r : Half). r.x) e))
    ]

-- ---- the grid
is_line : (lines : List ℤ) (a : ℤ) → Contains lines a ⊎ ¬ Contains lines a
is_line lines a =
    elim (find (λ (c : ℤ). c ≡ a) (λ c. same_line c a) lines) [
      | inl found ↦ inl (subst (λ (c : ℤ). Contains lines c) found.1.1 found.1.0)
      | inr none ↦ inr (λ there. none a there refl)
    ]

is_grid_point : (lines : Lines) (p : Half) → IsGridPoint lines p ⊎ ¬ IsGridPoint lines p
is_grid_point lines p =
    elim (is_line lines.xs p.x) [
      | inl x ↦ elim (is_line lines.ys p.y) [
        | inl y ↦ inl (record { x = x; y = y })
        | inr none ↦ inr (λ on. none on.y)
      ]
      | inr none ↦ inr (λ on. none on.x)
    ]

below : (a c : ℤ) → (a <ℤ c) ⊎ ¬ (a <ℤ c)
below a c = by_lt_z {P = (a <ℤ c) ⊎ ¬ (a <ℤ c)} a c (λ lt. inl lt) (λ ge. inr (λ lt. absurd (omega (arith, ints))))

-- a grid point straight ahead of one
point_ahead : (lines : Lines) (d : Direction) (p : Half) → IsGridPoint lines p
    → ((t : Half) × (IsGridPoint lines t × IsAhead d p t)) ⊎ ((t : Half) → IsGridPoint lines t → ¬ IsAhead d p t)
point_ahead lines East p on =
    elim (find (λ c. p.x <ℤ c) (λ c. below p.x c) lines.xs) [
      | inl found ↦ inl (record { x = found.0; y = p.y }, (record { x = found.1.0; y = on.y }, (found.1.1, refl)))
      | inr none ↦ inr (λ t there ahead. none t.x there.x ahead.0)
    ]
point_ahead lines West p on =
    elim (find (λ c. c <ℤ p.x) (λ c. below c p.x) lines.xs) [
      | inl found ↦ inl (record { x = found.0; y = p.y }, (record { x = found.1.0; y = on.y }, (found.1.1, refl)))
      | inr none ↦ inr (λ t there ahead. none t.x there.x ahead.0)
    ]
point_ahead lines North p on =
    elim (find (λ c. p.y <ℤ c) (λ c. below p.y c) lines.ys) [
      | inl found ↦ inl (record { x = p.x; y = found.0 }, (record { x = on.x; y = found.1.0 }, (refl, found.1.1)))
      | inr none ↦ inr (λ t there ahead. none t.y there.y ahead.1)
    ]
point_ahead lines South p on =
    elim (find (λ c. c <ℤ p.y) (λ c. below c p.y) lines.ys) [
      | inl found ↦ inl (record { x = p.x; y = found.0 }, (record { x = on.x; y = found.1.0 }, (refl, found.1.1)))
      | inr none ↦ inr (λ t there ahead. none t.y there.y ahead.1)
    ]

-- ---- clear segments
-- a coordinate from one end to the other that lies strictly between two edges
Common : ℤ → ℤ → ℤ → ℤ → Type 0
Common p q low high = (c : ℤ) × (IsWithin p q c × IsStrictlyBetween low high c)

common_upward : (p q low high : ℤ) → p ≤ℤ q → Common p q low high ⊎ ¬ Common p q low high
unfolding Common
common_upward p q low high up =
    by_lt_z {P = Common p q low high ⊎ ¬ Common p q low high} (pos 2 *ℤ low) p
    (λ past. by_lt_z {P = Common p q low high ⊎ ¬ Common p q low high} p (pos 2 *ℤ high)
    (λ before. inl (p, (inl (omega (arith, ints), up), record { above = past; below = before })))
    (λ after. inr (λ c. none c.0 c.1.0 (λ lo hi. let below = c.1.1.below in absurd (omega (arith, ints, below))))))
    (λ before. by_lt_z {P = Common p q low high ⊎ ¬ Common p q low high} (pos 2 *ℤ low) q
    (λ reaches. by_lt_z {P = Common p q low high ⊎ ¬ Common p q low high} low high
    (λ some. inl (
      pos 2 *ℤ low +ℤ pos 1,
      (inl (omega (arith, ints), omega (arith, ints)), record { above = omega (arith, ints); below = omega (arith, ints) }),
    ))
    (λ empty. inr (λ c. let above = c.1.1.above in let below = c.1.1.below in absurd (omega (arith, ints, above, below)))))
    (λ short. inr (λ c. none c.0 c.1.0 (λ lo hi. let above = c.1.1.above in absurd (omega (arith, ints, above))))))
  where
    none : (c : ℤ) → IsWithin p q c → (p ≤ℤ c → c ≤ℤ q → ⊥) → ⊥
    none c (inl (lo, hi)) out = out lo hi
    none c (inr (lo, hi)) out = out (omega (arith, ints)) (omega (arith, ints))

turned_round : (p q low high : ℤ) → Common p q low high → Common q p low high
unfolding Common
turned_round p q low high (c, (inl on, between)) = (c, (inr on, between))
turned_round p q low high (c, (inr on, between)) = (c, (inl on, between))

common : (p q low high : ℤ) → Common p q low high ⊎ ¬ Common p q low high
common p q low high =
    by_lt_z {P = Common p q low high ⊎ ¬ Common p q low high} p q
    (λ lt. common_upward p q low high (omega (arith, ints)))
    (λ ge. elim (common_upward q p low high ge) [
      | inl some ↦ inl (turned_round q p low high some)
      | inr none ↦ inr (λ some. none (turned_round p q low high some))
    ])

-- the block keeps wires off a point of the segment
Stops : Half → Half → Block → Type 0
Stops p q block = (r : Half) × (IsOnSegment p q r × (StopsWires block.kind × IsHalfInside block r))

stopping_kind : (kind : Kind) → StopsWires kind ⊎ ¬ StopsWires kind
stopping_kind Buffer = inr (λ none. none)
stopping_kind All = inl tt

stops : (p q : Half) (block : Block) → Stops p q block ⊎ ¬ Stops p q block
unfolding Stops Common
stops p q block =
    elim (stopping_kind block.kind) [
      | inl kind ↦ elim (common p.x q.x block.x1 block.x2) [
        | inl x ↦ elim (common p.y q.y block.y1 block.y2) [
          | inl y ↦
              inl (
                record { x = x.0; y = y.0 },
                (record { x = x.1.0; y = y.1.0 }, (kind, record { x = x.1.1; y = y.1.1 })),
              )
          | inr none ↦ inr (λ s. none (s.0.y, (s.1.0.y, s.1.1.1.y)))
        ]
        | inr none ↦ inr (λ s. none (s.0.x, (s.1.0.x, s.1.1.1.x)))
      ]
      | inr open_kind ↦ inr (λ s. open_kind s.1.1.0)
    ]

is_clear : (blocks : List Block) (p q : Half) → IsClear blocks p q ⊎ ¬ IsClear blocks p q
unfolding Stops
is_clear blocks p q =
    elim (find (Stops p q) (stops p q) blocks) [
      | inl found ↦ inr (λ clear. stopped found.0 found.1.0 found.1.1 clear)
      | inr none ↦ inl (λ r on k d lt kind inside. none (get_or blocks k d) (Contains-get_or blocks k d lt) (r, (on, (kind, inside))))
    ]
  where
    stopped : (block : Block) → Contains blocks block → Stops p q block → ¬ IsClear blocks p q
    stopped block there s clear = All-contains (IsOpenToWires s.0) blocks block (clear s.0 s.1.0) there s.1.1.0 s.1.1.1

-- ---- neighbours
-- of each point it is told whether it has a neighbour in a direction
abbrev pub TellsNeighbours : (Direction → Half → Half → Type 0) → Type 0
TellsNeighbours Joined = (d : Direction) (p : Half) → ((n : Half) × Joined d p n) ⊎ ((n : Half) → ¬ Joined d p n)

-- two next points in one direction are one
next_one : (lines : Lines) (d : Direction) (p n m : Half) → IsGridPoint lines n → IsAhead d p n
    → ((r : Half) → IsGridPoint lines r → IsAhead d p r → IsAhead d r n → ⊥) → IsGridPoint lines m → IsAhead d p m
    → ((r : Half) → IsGridPoint lines r → IsAhead d p r → IsAhead d r m → ⊥) → n ≡ m
next_one lines d p n m on ahead nearest on' ahead' nearest' =
    by_place d p n m ahead ahead' (λ before. absurd (nearest' n on ahead before)) (λ after. absurd (nearest m on' ahead' after)) (λ same. same)

pub neighbours : (blocks : List Block) (lines : Lines) → TellsNeighbours (IsJoined blocks lines)
neighbours blocks lines d p =
    elim (is_grid_point lines p) [
      | inr off ↦ inr (λ n joined. off joined.start)
      | inl on ↦ elim (point_ahead lines d p on) [
        | inr none ↦ inr (λ n joined. none n joined.next joined.ahead)
        | inl some ↦ joined_or_not on (next_point lines d p some.0 on some.1.0 some.1.1)
      ]
    ]
  where
    joined_or_not : {t : Half} → IsGridPoint lines p → (n : Half) × IsNextPoint lines d p t n
        → ((n : Half) × IsJoined blocks lines d p n) ⊎ ((n : Half) → ¬ IsJoined blocks lines d p n)
    joined_or_not on next =
        let n : Half = next.0 in
        elim (is_clear blocks p n) [
          | inl clear ↦ inl (n, record { start = on; next = next.1.next; ahead = next.1.ahead; nearest = next.1.nearest; clear = clear })
          | inr stopped ↦ inr (λ m joined. stopped (subst (IsClear blocks p)
              (next_one lines d p m n joined.next joined.ahead joined.nearest next.1.next next.1.ahead next.1.nearest) joined.clear))
        ]

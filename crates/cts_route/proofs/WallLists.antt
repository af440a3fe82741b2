-- The walls of a list of blocks, block by block.
use Rattle.std.proofs.Common.{◌≡◌, ℕ, ◌+◌, ◌<◌, ◌≤◌, ℤ, pos, ◌*ℤ◌, ◌≤ℤ◌, ◌<ℤ◌, Some, List, [], ◌∷◌, ◌++◌, length, take, slice_index_or, refl, sym, subst, arith}
use Rattle.std.specs.Prelude.{All}
use Rattle.std.proofs.lemmas.Int.{ints}
use Rattle.std.proofs.lemmas.List.{take_more, take_all}
use Rattle.std.proofs.lemmas.List.Elements.{All-push, All-pop, All-nil}
use Rattle.cts_block.specs.declared.blocks.Block.{Block}
use Rattle.cts_block.specs.declared.blocks.Kind.TheVariants.{Buffer, All as KindAll}
use Rattle.cts_block.specs.FreePoints.{StopsWires, IsOpenToWires}
use Rattle.cts_route.specs.declared.wall.Wall.{Wall}
use Rattle.cts_route.specs.Walls.{IsInWall, IsOutside, IsWallOf, IsNoWall, AreWallsOf, AreWallsBetween, Overlaps}

-- what holds of a list and of one more element
all_of_more : {X : Type 0} (P : X → Type 0) (xs : List X) (x : X) → All P (xs ++ x ∷ []) → All P xs × P x
all_of_more P xs x all = All-pop P (xs ++ x ∷ []) xs (Some x) refl all

pub walls_none : (walls : List Wall) → walls ≡ [] → AreWallsOf [] walls
walls_none walls e =
    record {
      outside = λ r all. subst (λ (ws : List Wall). IsOutside ws r) (sym e) (All-nil (λ (w : Wall). IsInWall w r → ⊥));
      open_there = λ r out. All-nil (IsOpenToWires r);
    }

pub walls_more : (blocks : List Block) (i : ℕ) (block : Block) (walls : List Wall) (wall : Wall) (after : List Wall)
    → i < length blocks → AreWallsOf (take i blocks) walls → IsWallOf (slice_index_or blocks i block) wall
    → after ≡ walls ++ wall ∷ [] → AreWallsOf (take (i + 1) blocks) after
walls_more blocks i block walls wall after lt before is e =
    let b : Block = slice_index_or blocks i block in
    let more : AreWallsOf (take i blocks ++ b ∷ []) (walls ++ wall ∷ []) = record {
      outside = λ r all.
          let parts : All (IsOpenToWires r) (take i blocks) × IsOpenToWires r b = all_of_more (IsOpenToWires r) (take i blocks) b all in
          All-push (λ (w : Wall). IsInWall w r → ⊥) walls wall (before.outside r parts.0) (is.outside r parts.1);
      open_there = λ r out.
          let parts : IsOutside walls r × (IsInWall wall r → ⊥) = all_of_more (λ (w : Wall). IsInWall w r → ⊥) walls wall out in
          All-push (IsOpenToWires r) (take i blocks) b (before.open_there r parts.0) (is.open_there r parts.1);
    } in
    subst (λ (bs : List Block). AreWallsOf bs after) (sym (take_more blocks i block lt))
    (subst (λ (ws : List Wall). AreWallsOf (take i blocks ++ b ∷ []) ws) (sym e) more)

pub walls_same : (blocks : List Block) (i : ℕ) (block : Block) (walls after : List Wall)
    → i < length blocks → AreWallsOf (take i blocks) walls → IsNoWall (slice_index_or blocks i block)
    → after ≡ walls → AreWallsOf (take (i + 1) blocks) after
walls_same blocks i block walls after lt before none e =
    let b : Block = slice_index_or blocks i block in
    let more : AreWallsOf (take i blocks ++ b ∷ []) walls = record {
      outside = λ r all.
          let parts : All (IsOpenToWires r) (take i blocks) × IsOpenToWires r b = all_of_more (IsOpenToWires r) (take i blocks) b all in
          before.outside r parts.0;
      open_there = λ r out. All-push (IsOpenToWires r) (take i blocks) b (before.open_there r out) (none.open_there r);
    } in
    subst (λ (bs : List Block). AreWallsOf bs after) (sym (take_more blocks i block lt))
    (subst (λ (ws : List Wall). AreWallsOf (take i blocks ++ b ∷ []) ws) (sym e) more)

-- ---- one block
pub buffers_stop_nothing : (block : Block) → block.kind ≡ Buffer → IsNoWall block
buffers_stop_nothing block e = record { open_there = λ r stops inside. subst StopsWires e stops }

pub narrow_stops_nothing : (block : Block) → block.x2 ≤ℤ block.x1 → IsNoWall block
narrow_stops_nothing block narrow =
    record {
      open_there = λ r stops inside.
          let left : (pos 2 *ℤ block.x1) <ℤ r.x = inside.x.above in
          let right : r.x <ℤ (pos 2 *ℤ block.x2) = inside.x.below in
          absurd (omega (arith, ints));
    }

pub low_stops_nothing : (block : Block) → block.y2 ≤ℤ block.y1 → IsNoWall block
low_stops_nothing block low =
    record {
      open_there = λ r stops inside.
          let below : (pos 2 *ℤ block.y1) <ℤ r.y = inside.y.above in
          let above : r.y <ℤ (pos 2 *ℤ block.y2) = inside.y.below in
          absurd (omega (arith, ints));
    }

-- the doubled edges of a block that stops wires
pub wall_is : (block : Block) (wall : Wall) → block.kind ≡ KindAll → wall.x1 ≡ pos 2 *ℤ block.x1 → wall.y1 ≡ pos 2 *ℤ block.y1
    → wall.x2 ≡ pos 2 *ℤ block.x2 → wall.y2 ≡ pos 2 *ℤ block.y2 → IsWallOf block wall
wall_is block wall all x1 y1 x2 y2 =
    record {
      outside = λ r clear inside. clear (subst StopsWires (sym all) tt) (record {
        x = record { above = let h : wall.x1 <ℤ r.x = inside.left in omega (arith, ints); below = let h : r.x <ℤ wall.x2 = inside.right in omega (arith, ints) };
        y = record { above = let h : wall.y1 <ℤ r.y = inside.below in omega (arith, ints); below = let h : r.y <ℤ wall.y2 = inside.above in omega (arith, ints) };
      });
      open_there = λ r out stops inside. out (record {
        left = let h : (pos 2 *ℤ block.x1) <ℤ r.x = inside.x.above in omega (arith, ints);
        right = let h : r.x <ℤ (pos 2 *ℤ block.x2) = inside.x.below in omega (arith, ints);
        below = let h : (pos 2 *ℤ block.y1) <ℤ r.y = inside.y.above in omega (arith, ints);
        above = let h : r.y <ℤ (pos 2 *ℤ block.y2) = inside.y.below in omega (arith, ints);
      });
    }

-- ---- the walls that reach between two x
pub between_none : (low high : ℤ) (near : List Wall) → near ≡ [] → AreWallsBetween [] low high near
between_none low high near e =
    record {
      outside = λ r out. subst (λ (ws : List Wall). IsOutside ws r) (sym e) (All-nil (λ (w : Wall). IsInWall w r → ⊥));
      inside = λ r lo hi out. All-nil (λ (w : Wall). IsInWall w r → ⊥);
    }

pub between_more : (walls : List Wall) (i : ℕ) (wall : Wall) (low high : ℤ) (near after : List Wall) → i < length walls
    → AreWallsBetween (take i walls) low high near → after ≡ near ++ slice_index_or walls i wall ∷ [] → AreWallsBetween (take (i + 1) walls) low high after
between_more walls i wall low high near after lt before e =
    let w : Wall = slice_index_or walls i wall in
    let more : AreWallsBetween (take i walls ++ w ∷ []) low high (near ++ w ∷ []) = record {
      outside = λ r out.
          let parts : IsOutside (take i walls) r × (IsInWall w r → ⊥) = all_of_more (λ (v : Wall). IsInWall v r → ⊥) (take i walls) w out in
          All-push (λ (v : Wall). IsInWall v r → ⊥) near w (before.outside r parts.0) parts.1;
      inside = λ r lo hi out.
          let parts : IsOutside near r × (IsInWall w r → ⊥) = all_of_more (λ (v : Wall). IsInWall v r → ⊥) near w out in
          All-push (λ (v : Wall). IsInWall v r → ⊥) (take i walls) w (before.inside r lo hi parts.0) parts.1;
    } in
    subst (λ (ws : List Wall). AreWallsBetween ws low high after) (sym (take_more walls i wall lt))
    (subst (λ (ws : List Wall). AreWallsBetween (take i walls ++ w ∷ []) low high ws) (sym e) more)

pub between_same : (walls : List Wall) (i : ℕ) (wall : Wall) (low high : ℤ) (near after : List Wall) → i < length walls
    → AreWallsBetween (take i walls) low high near → (Overlaps low high (slice_index_or walls i wall).x1 (slice_index_or walls i wall).x2 → ⊥)
    → after ≡ near → AreWallsBetween (take (i + 1) walls) low high after
between_same walls i wall low high near after lt before apart e =
    let w : Wall = slice_index_or walls i wall in
    let more : AreWallsBetween (take i walls ++ w ∷ []) low high near = record {
      outside = λ r out.
          let parts : IsOutside (take i walls) r × (IsInWall w r → ⊥) = all_of_more (λ (v : Wall). IsInWall v r → ⊥) (take i walls) w out in
          before.outside r parts.0;
      inside = λ r lo hi out. All-push (λ (v : Wall). IsInWall v r → ⊥) (take i walls) w (before.inside r lo hi out)
          (λ inside. apart (record {
            before = let right = inside.right in omega (arith, ints);
            after = let left = inside.left in omega (arith, ints);
          }));
    } in
    subst (λ (ws : List Wall). AreWallsBetween ws low high after) (sym (take_more walls i wall lt))
    (subst (λ (ws : List Wall). AreWallsBetween (take i walls ++ w ∷ []) low high ws) (sym e) more)

pub between_all : (walls : List Wall) (i : ℕ) (low high : ℤ) (near : List Wall) → length walls ≤ i
    → AreWallsBetween (take i walls) low high near → AreWallsBetween walls low high near
between_all walls i low high near le are = subst (λ (ws : List Wall). AreWallsBetween ws low high near) (take_all i walls le) are

-- How the trunk's way is walked: by a cursor that only goes forward, and over a block in one step.
use Rattle.std.specs.Prelude.{◌≡◌, ℕ, ◌+◌, ◌-◌, ◌*◌, ◌^◌, ◌<◌, ◌≤◌, true, false, ℤ, pos, ◌+ℤ◌, ◌*ℤ◌, List, [], ◌∷◌, length, drop, map, All}
use Rattle.cts_geom.specs.declared.points.Half.{Half}
use Rattle.cts_geom.specs.declared.bounds.Die.{Die}
use Rattle.cts_geom.specs.Coordinate.{IsCoordinate}
use Rattle.cts_geom.specs.Points.{IsHalfInRange, point_of}
use Rattle.cts_block.specs.declared.blocks.Block.{Block}
use Rattle.cts_block.specs.FreePoints.{IsHalfInDie}
use Rattle.cts_instance.specs.Validity.{IsDie}
use Rattle.cts_tree.specs.Path.{path_length, HasAxisSteps, AllAlong}
use Rattle.cts_trunk.specs.declared.way.Cursor.{Cursor}
use Rattle.cts_trunk.specs.declared.look.Look.{Look}
use Rattle.cts_trunk.specs.declared.look.Look.TheVariants.{Free, Blocked}
use Rattle.cts_trunk.specs.declared.places.Stand.{Stand}
use Rattle.cts_trunk.specs.declared.trunk.TrunkEnd.{TrunkEnd}
use Rattle.cts_trunk.specs.declared.trunk.TrunkEnd.TheVariants.{Buffer as NoBuffer, Many, Beyond, NoMemory}
use Rattle.cts_trunk.specs.Way.{point_along}
use Rattle.cts_trunk.specs.Places.{is_free_at, chosen}

-- The rest of a way, from a segment on, begins at this distance from the start.
pub record IsCursor (points : List Half) (cursor : Cursor) : Type 0 where
  pub inside : cursor.segment < length points
  pub long : cursor.begin + path_length (drop cursor.segment points) ≡ path_length points
  pub ahead : (d : ℕ) → cursor.begin ≤ d → point_along points d ≡ point_along (drop cursor.segment points) (d - cursor.begin)

-- the points of a way are small enough to reckon with, and the way is not longer than two lengths of a wire
pub record IsWayInRange (points : List Half) : Type 0 where
  pub each_point : All IsHalfInRange points
  pub short : path_length points ≤ 2 ^ 33

-- the edges of a block are coordinates
pub record IsBlockOnChip (block : Block) : Type 0 where
  pub x1 : IsCoordinate block.x1
  pub x2 : IsCoordinate block.x2
  pub y1 : IsCoordinate block.y1
  pub y2 : IsCoordinate block.y2

-- two coordinates and a distance have an even sum
pub record IsEven (at : Half) (d : ℕ) : Type 0 where
  pub half : ℤ
  pub is : (at.x +ℤ at.y) +ℤ pos d ≡ pos 2 *ℤ half

-- the way begins at a point of whole nm
abbrev pub StartsEven : List Half → Type 0
StartsEven [] = Unit {0}
StartsEven (p ∷ points) = IsEven p 0

-- a way over a die with blocks: its segments run along the axes, and all of its points are in the die
pub record IsRoad (blocks : List Block) (die : Die) (points : List Half) : Type 0 where
  pub range : IsWayInRange points
  pub die_is : IsDie die
  pub blocks_are : All IsBlockOnChip blocks
  pub axes : HasAxisSteps points
  pub in_die : AllAlong (IsHalfInDie die) points
  pub even : StartsEven points

-- what is seen at a distance: a free place there, or that no place is free from there up to another distance
abbrev pub IsSeen : List Block → Die → List Half → ℕ → Look → Type 0
IsSeen blocks die points d (Free place) =
    (is_free_at blocks die points d ≡ true) × (point_of place ≡ point_along points d)
IsSeen blocks die points d (Blocked until) =
    (d < until) × ((e : ℕ) → d ≤ e → e < until → is_free_at blocks die points e ≡ false)

-- a place at its length from the start
abbrev pub StandsOn : List Half → Stand → Type 0
StandsOn points stand = point_of stand.place ≡ point_along points (2 * stand.length)

-- the free places among the first multiples of a step, up to the one of this number
pub record AreStands (blocks : List Block) (die : Die) (points : List Half) (step count : ℕ) (stands : List Stand) : Type 0 where
  pub lengths : map (λ (stand : Stand). stand.length) stands ≡ chosen (λ s. is_free_at blocks die points (2 * s)) step count
  pub places : All (StandsOn points) stands
  pub few : length stands ≤ 65536

-- there are too many of them, or memory ran out
abbrev pub EndsWalk : List Block → Die → List Half → ℕ → ℕ → TrunkEnd → Type 0
EndsWalk blocks die points step count Many = 65536 < length (chosen (λ s. is_free_at blocks die points (2 * s)) step count)
EndsWalk blocks die points step count NoMemory = Unit {0}
EndsWalk blocks die points step count NoBuffer = ⊥
EndsWalk blocks die points step count Beyond = ⊥

-- The routing grid: its lines, its points, and which neighbouring points are joined. Everything is in half nm.
use Rattle.std.specs.Prelude.{◌≡◌, ℕ, ℤ, pos, ◌*ℤ◌, ◌<ℤ◌, List, [], ◌∷◌, All, Contains}
use Rattle.std.specs.List.{flat_map}
use Rattle.cts_geom.specs.declared.bounds.Die.{Die}
use Rattle.cts_geom.specs.declared.points.Half.{Half}
use Rattle.cts_block.specs.declared.blocks.Block.{Block}
use Rattle.cts_block.specs.declared.blocks.Kind.{Kind}
use Rattle.cts_block.specs.declared.blocks.Kind.TheVariants.{Buffer}
use Rattle.cts_block.specs.FreePoints.{IsOpenToWires}
use Rattle.cts_tree.specs.Path.{IsOnSegment}
use Rattle.cts_route.specs.declared.direction.Direction.{Direction}
use Rattle.cts_route.specs.declared.direction.Direction.TheVariants.{East, West, North, South}

-- the place of a direction in the order in which a route prefers them: +x, -x, +y, -y
abbrev pub rank : Direction → ℕ
rank East = 0
rank West = 1
rank North = 2
rank South = 3

-- q lies straight ahead of p
abbrev pub IsAhead : Direction → Half → Half → Type 0
IsAhead East p q = (p.x <ℤ q.x) × (p.y ≡ q.y)
IsAhead West p q = (q.x <ℤ p.x) × (p.y ≡ q.y)
IsAhead North p q = (p.x ≡ q.x) × (p.y <ℤ q.y)
IsAhead South p q = (p.x ≡ q.x) × (q.y <ℤ p.y)

-- the two edges of a block that stops wires, from its nm
abbrev pub edges_of : Kind → ℤ → ℤ → List ℤ
edges_of Buffer low high = []
edges_of _ low high = (pos 2 *ℤ low) ∷ (pos 2 *ℤ high) ∷ []

-- the lines that a die and its blocks give to every grid
abbrev pub fixed_xs : List Block → Die → List ℤ
fixed_xs blocks die = (pos 2 *ℤ die.x1) ∷ (pos 2 *ℤ die.x2) ∷ flat_map (λ block. edges_of block.kind block.x1 block.x2) blocks

abbrev pub fixed_ys : List Block → Die → List ℤ
fixed_ys blocks die = (pos 2 *ℤ die.y1) ∷ (pos 2 *ℤ die.y2) ∷ flat_map (λ block. edges_of block.kind block.y1 block.y2) blocks

-- the lines of a grid
pub record Lines : Type 0 where
  pub xs : List ℤ
  pub ys : List ℤ

-- the lines of the grid of two points: theirs and the fixed ones
abbrev pub lines_of : List Block → Die → Half → Half → Lines
lines_of blocks die from to =
    record { xs = from.x ∷ to.x ∷ fixed_xs blocks die; ys = from.y ∷ to.y ∷ fixed_ys blocks die }

-- two lines cross at the point
pub record IsGridPoint (lines : Lines) (p : Half) : Type 0 where
  pub x : Contains lines.xs p.x
  pub y : Contains lines.ys p.y

-- no point of the segment lies strictly inside a block of kind All
abbrev pub IsClear : List Block → Half → Half → Type 0
IsClear blocks p q = (r : Half) → IsOnSegment p q r → All (IsOpenToWires r) blocks

-- n is the next grid point after p in a direction, and the segment between them is clear
pub record IsJoined (blocks : List Block) (lines : Lines) (direction : Direction) (p n : Half) : Type 0 where
  pub start : IsGridPoint lines p
  pub next : IsGridPoint lines n
  pub ahead : IsAhead direction p n
  pub nearest : (r : Half) → IsGridPoint lines r → IsAhead direction p r → IsAhead direction r n → ⊥
  pub clear : IsClear blocks p n

-- Keys of subtrees, and the entries that have them.
use Rattle.std.specs.Prelude.{Bool, false, ◌==◌, ◌&&◌, ℕ, ◌^◌, ◌<◌, List, map, Option, Some, None}
use Rattle.std.specs.Ordering.{int_eq}
use Rattle.cts_geom.specs.Regions.{IsRegionInRange}
use Rattle.cts_units.specs.declared.params.Sink.{Sink}
use Rattle.cts_merge.specs.declared.side.Side.{Side}
use Rattle.cts_merge.specs.declared.side.Finished.{Finished}
use Rattle.cts_memo.specs.declared.key.Key.{Key}
use Rattle.cts_memo.specs.declared.key.Key.TheVariants.{Leaf, Pair}
use Rattle.cts_memo.specs.declared.entry.MemoEntry.{MemoEntry}

-- the key of a sink's leaf: the id has no part in it
abbrev pub leaf_key : Sink → Key
leaf_key sink = Leaf sink.x sink.y sink.cap sink.offset

-- the key of a pair by the numbers of its two parts
abbrev pub pair_key : Option ℕ → Option ℕ → Option Key
pair_key (Some left) (Some right) = Some (Pair left right)
pair_key (Some left) None = None
pair_key None right = None

-- a side whose numbers may be those of a sink: coordinates, and a doubled offset of which one half has 64 bits
pub record IsNarrow (side : Side) : Type 0 where
  pub region : IsRegionInRange side.region
  pub greatest : side.greatest < 2 ^ 65

-- whether two keys are one
abbrev pub same_key : Key → Key → Bool
same_key (Leaf x y cap offset) (Leaf x' y' cap' offset') =
    int_eq x x' && (int_eq y y' && ((cap == cap') && (offset == offset')))
same_key (Pair left right) (Pair left' right') = (left == left') && (right == right')
same_key (Leaf x y cap offset) (Pair left right) = false
same_key (Pair left right) (Leaf x y cap offset) = false

abbrev pub entry : Key → Finished → MemoEntry
entry key f = record { key = key; finished = f }

-- the entries of a map, in its order
abbrev pub entries_of : List (Key × Finished) → List MemoEntry
entries_of pairs = map (λ p. entry p.0 p.1) pairs

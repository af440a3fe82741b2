-- Blocks that are prepared for look-ups: which of them count, and what is free among those.
use Rattle.std.proofs.Common.{◌≡◌, ℕ, ◌+◌, ◌<◌, inl, inr, Bool, true, false, List, [], ◌∷◌, ◌++◌, length, slice_index_or, subst, below_more}
use Rattle.std.specs.Prelude.{All, Contains}
use Rattle.std.proofs.lemmas.List.{get_or_default}
use Rattle.std.proofs.lemmas.List.Elements.{All-contains, All-contains_itself, Contains-append_cases}
use Rattle.cts_geom.specs.declared.points.Half.{Half}
use Rattle.cts_geom.specs.declared.points.Spot.{Spot}
use Rattle.cts_geom.specs.declared.bounds.Die.{Die}
use Rattle.cts_geom.specs.Points.{point_of}
use Rattle.cts_block.specs.declared.blocks.Block.{Block}
use Rattle.cts_block.specs.declared.index.Index.{Index}
use Rattle.cts_block.specs.declared.whole.Whole.{Whole}
use Rattle.cts_block.specs.FreePoints.{IsHalfInDie, IsHalfInside, IsOpenToBuffers, IsOpenToWires}
use Rattle.cts_block.specs.NearestFree.{IsFree, LiesIn}
use Rattle.cts_block.specs.Search.{IsFreeAmong, IsObstacle, Stops}
use Rattle.cts_block.specs.Index.{IsIndex, index_for}
use Rattle.cts_block.specs.FreeMap.{IsFreeMap}
use Rattle.cts_block.proofs.RasterLemmas.{only}

-- a step over blocks, of which those that stop wires are kept
module _ (blocks : List Block) (i : ℕ) (within : i < length blocks) (e : Block) where
  pub stopping_more : (old new : List Block) → ((block : Block) → Contains old block → Contains new block)
      → (Stops false (slice_index_or blocks i e).kind → Contains new (slice_index_or blocks i e))
      → ((k : ℕ) (d : Block) → k < i → Stops false (slice_index_or blocks k d).kind → Contains old (slice_index_or blocks k d))
      → (k : ℕ) (d : Block) → k < i + 1 → Stops false (slice_index_or blocks k d).kind → Contains new (slice_index_or blocks k d)
  stopping_more old new grown here seen k d below =
      let P : ℕ → Type 0 = λ n. Stops false (slice_index_or blocks n d).kind → Contains new (slice_index_or blocks n d) in
      let last : P i = rw (get_or_default blocks i d e within) here in
      below_more P i (λ n h stops. grown (slice_index_or blocks n d) (seen n d h stops)) last k below

  pub stopping_sound : (old : List Block) → Stops false (slice_index_or blocks i e).kind → ((block : Block) → Contains old block → IsObstacle blocks false block)
      → (block : Block) → Contains (old ++ slice_index_or blocks i e ∷ []) block → IsObstacle blocks false block
  stopping_sound old stops sound block listed = elim (Contains-append_cases old (slice_index_or blocks i e ∷ []) block listed) [
    | inl before ↦ sound block before
    | inr here ↦
        let P : Block → Type 0 = λ b. IsObstacle blocks false b in
        let this : P (slice_index_or blocks i e) = record { listed = All-contains_itself blocks i e within; stops = stops } in
        subst P (only (slice_index_or blocks i e) block here) this
  ]

pub stopping_all : (blocks list : List Block)
    → ((k : ℕ) (d : Block) → k < length blocks → Stops false (slice_index_or blocks k d).kind → Contains list (slice_index_or blocks k d))
    → (block : Block) → IsObstacle blocks false block → Contains list block
stopping_all blocks list each block counts =
    let k = counts.listed.0 in
    let is : slice_index_or blocks k block ≡ block = counts.listed.2 in
    let P : Block → Type 0 = λ b. Contains list b in
    subst P is (each k block counts.listed.1 (rw is counts.stops))

-- what is free among some blocks is free among fewer of them
pub free_of_fewer : (Few Many : Block → Type 0) (die : Die) (p : Whole) → ((block : Block) → Few block → Many block) → IsFreeAmong Many die p → IsFreeAmong Few die p
free_of_fewer Few Many die p among free = record { in_die = free.in_die; clear = λ block few. free.clear block (among block few) }

-- the index that is asked has exactly the blocks that count
module _ (die : Die) (for_wires for_buffers : Index) (is : IsFreeMap die for_wires for_buffers) where
  pub counted_listed : (buffered : Bool) (block : Block) → IsObstacle for_buffers.raster buffered block → Contains (index_for for_wires for_buffers buffered).raster block
  counted_listed true block counts = counts.listed
  counted_listed false block counts = is.wires_complete block counts

  pub listed_counted : (buffered : Bool) (block : Block) → Contains (index_for for_wires for_buffers buffered).raster block → IsObstacle for_buffers.raster buffered block
  listed_counted true block listed = record { listed = listed; stops = tt }
  listed_counted false block listed = is.wires_sound block listed

  pub index_is : (buffered : Bool) → IsIndex die (index_for for_wires for_buffers buffered)
  index_is true = is.buffers
  index_is false = is.wires

  pub index_lies : (buffered : Bool) → All (LiesIn die) (index_for for_wires for_buffers buffered).raster
  index_lies buffered k d below =
      let blocks : List Block = (index_for for_wires for_buffers buffered).raster in
      All-contains (LiesIn die) for_buffers.raster (slice_index_or blocks k d) is.lie (listed_counted buffered (slice_index_or blocks k d) (All-contains_itself blocks k d below)).listed

-- free in the sense of the definition: in the die, and inside no block that counts
pub free_from_parts : (blocks : List Block) (die : Die) (buffered : Bool) (at : Spot) (point : Half) → point ≡ point_of at
    → IsHalfInDie die point → ((block : Block) → IsObstacle blocks buffered block → ¬ IsHalfInside block point) → IsFree blocks die buffered at
free_from_parts blocks die true at point is in_die clear = record {
  in_die = rw (← is) in_die;
  clear = λ k d below. rw (← is) (clear (slice_index_or blocks k d) (record { listed = All-contains_itself blocks k d below; stops = tt }));
}
free_from_parts blocks die false at point is in_die clear = record {
  in_die = rw (← is) in_die;
  clear = λ k d below stops. rw (← is) (clear (slice_index_or blocks k d) (record { listed = All-contains_itself blocks k d below; stops = stops }));
}

pub parts_of_free : (blocks : List Block) (die : Die) (buffered : Bool) (at : Spot) (point : Half) → point ≡ point_of at
    → IsFree blocks die buffered at → IsHalfInDie die point × ((block : Block) → IsObstacle blocks buffered block → ¬ IsHalfInside block point)
parts_of_free blocks die true at point is free = (rw is free.in_die, λ block counts. rw is (All-contains (IsOpenToBuffers (point_of at)) blocks block free.clear counts.listed))
parts_of_free blocks die false at point is free = (rw is free.in_die, λ block counts. rw is (All-contains (IsOpenToWires (point_of at)) blocks block free.clear counts.listed counts.stops))

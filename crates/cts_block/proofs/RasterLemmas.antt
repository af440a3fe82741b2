-- Cells of a raster: how they are filled, and how a block is found in them.
use Rattle.std.proofs.Common.{◌≡◌, ℕ, zero, suc, ◌+◌, ◌<◌, ◌⊎◌, inl, inr, ℤ, pos, ◌+ℤ◌, ◌*ℤ◌, ◌≤ℤ◌, ◌<ℤ◌, List, [], ◌∷◌, ◌++◌, length, slice_index_or, Some, None, refl, sym, ap, ◌∙◌, subst, below_more, arith}
use Rattle.std.specs.Prelude.{All, Contains, Option, IfSome, IfNone}
use Rattle.std.proofs.Math.ListN.{get_or-append}
use Rattle.std.proofs.Math.Seq.{get_or-append_seam}
use Rattle.std.proofs.lemmas.Int.{ints}
use Rattle.std.proofs.lemmas.List.{get_or_default}
use Rattle.std.proofs.lemmas.List.Elements.{All-contains, All-contains_itself, Contains-append_right, Contains-append_cases}
use Rattle.cts_geom.specs.declared.points.Half.{Half}
use Rattle.cts_block.specs.declared.blocks.Block.{Block}
use Rattle.cts_block.specs.declared.bands.Bands.{Bands}
use Rattle.cts_block.specs.declared.whole.Range.{Range}
use Rattle.cts_block.specs.FreePoints.{IsHalfInside}
use Rattle.cts_block.specs.Raster.{IsHalfIn, IsCellOf, AreCells, AreColumns, IsRaster, band_of, end_of}

-- a block at the end of a list is in it
pub last_contained : (blocks : List Block) (block : Block) → Contains (blocks ++ block ∷ []) block
last_contained blocks block = Contains-append_right blocks (block ∷ []) block (0, omega arith, refl)

-- the only block of a list
pub only : (one block : Block) → Contains (one ∷ []) block → one ≡ block
only one block (k, below, is) = elim k as (λ (n : ℕ). n < 1 → slice_index_or (one ∷ []) n block ≡ block → one ≡ block) [ zero ↦ λ _ e. e | suc m ↦ λ h _. absurd (omega (arith, h)) ] below is

-- a step over the blocks of a list, of which those with a point inside that is in question are kept
module _ (blocks : List Block) (In : Half → Type 0) (i : ℕ) (within : i < length blocks) (e : Block) where
  pub kept_more : (old new : List Block) → ((block : Block) → Contains old block → Contains new block)
      → ((at : Half) → In at → IsHalfInside (slice_index_or blocks i e) at → Contains new (slice_index_or blocks i e))
      → ((k : ℕ) (d : Block) → k < i → (at : Half) → In at → IsHalfInside (slice_index_or blocks k d) at → Contains old (slice_index_or blocks k d))
      → (k : ℕ) (d : Block) → k < i + 1 → (at : Half) → In at → IsHalfInside (slice_index_or blocks k d) at → Contains new (slice_index_or blocks k d)
  kept_more old new grown here seen k d below =
      let P : ℕ → Type 0 = λ n. (at : Half) → In at → IsHalfInside (slice_index_or blocks n d) at → Contains new (slice_index_or blocks n d) in
      let last : P i = rw (get_or_default blocks i d e within) here in
      below_more P i (λ n h at is_in inside. grown (slice_index_or blocks n d) (seen n d h at is_in inside)) last k below

  pub sound_more : (old : List Block) → ((block : Block) → Contains old block → Contains blocks block)
      → (block : Block) → Contains (old ++ slice_index_or blocks i e ∷ []) block → Contains blocks block
  sound_more old sound block listed = elim (Contains-append_cases old (slice_index_or blocks i e ∷ []) block listed) [
    | inl before ↦ sound block before
    | inr here ↦
        let P : Block → Type 0 = λ b. Contains blocks b in
        subst P (only (slice_index_or blocks i e) block here) (All-contains_itself blocks i e within)
  ]

-- all blocks of a list, from those at its indices
pub kept_all : (blocks kept : List Block) (In : Half → Type 0)
    → ((k : ℕ) (d : Block) → k < length blocks → (at : Half) → In at → IsHalfInside (slice_index_or blocks k d) at → Contains kept (slice_index_or blocks k d))
    → (block : Block) → Contains blocks block → (at : Half) → In at → IsHalfInside block at → Contains kept block
kept_all blocks kept In each block listed at is_in inside =
    let k = listed.0 in
    let is : slice_index_or blocks k block ≡ block = listed.2 in
    let there : Contains kept (slice_index_or blocks k block) = each k block listed.1 at is_in (rw is inside) in
    let P : Block → Type 0 = λ b. Contains kept b in
    subst P is there

-- one block that fills the cell is enough
pub filled_cell : (blocks : List Block) (column row : Range) (block : Block) → Contains blocks block
    → ((at : Half) → IsHalfIn column at.x → IsHalfIn row at.y → IsHalfInside block at) → IsCellOf blocks column row (block ∷ [])
filled_cell blocks column row block listed fills = record {
  sound = λ b is. let P : Block → Type 0 = λ x. Contains blocks x in subst P (only block b is) listed;
  complete = λ b _ at x y _. record { block = block; listed = (0, omega arith, refl); inside = fills at x y };
}

-- the blocks that reach into the cell are enough
pub kept_cell : (blocks cell : List Block) (column row : Range)
    → ((block : Block) → Contains cell block → Contains blocks block)
    → ((block : Block) → Contains blocks block → (at : Half) → IsHalfIn column at.x × IsHalfIn row at.y → IsHalfInside block at → Contains cell block)
    → IsCellOf blocks column row cell
kept_cell blocks cell column row sound complete = record {
  sound = sound;
  complete = λ block listed at x y inside. record { block = block; listed = complete block listed at (x, y) inside; inside = inside };
}

-- halves of a number of the range
pub half_in : (range : Range) (number halves : ℤ) → range.low ≤ℤ number → number ≤ℤ range.high → (pos 2 *ℤ number) ≤ℤ halves → halves ≤ℤ (pos 2 *ℤ number +ℤ pos 1) → IsHalfIn range halves
half_in range number halves low high above below = record { low = omega (arith, ints, low, above); high = omega (arith, ints, high, below) }

-- two ranges with the same ends are one
pub range_same : (a b : Range) → a.low ≡ b.low → a.high ≡ b.high → a ≡ b
range_same a b same_low same_high =
    let with_low : ℤ → Range = λ z. record { low = z; high = a.high } in
    let with_high : ℤ → Range = λ z. record { low = b.low; high = z } in
    ap with_low same_low ∙ ap with_high same_high

-- one more element, whose fact depends on its index
pub each_more : {X : Type 0} (P : ℕ → X → Type 0) (xs : List X) (x : X) (n : ℕ) → length xs ≡ n
    → ((j : ℕ) (d : X) → j < n → P j (slice_index_or xs j d)) → P n x
    → (j : ℕ) (d : X) → j < n + 1 → P j (slice_index_or (xs ++ x ∷ []) j d)
each_more P xs x n len each here j d below =
    let Q : ℕ → Type 0 = λ k. P k (slice_index_or (xs ++ x ∷ []) k d) in
    let last : Q n = subst Q len (rw (get_or-append_seam xs x [] d) (rw len here)) in
    below_more Q n (λ k h. let within : k < length xs = omega (arith, h, len) in rw (get_or-append xs (x ∷ []) d k within) (each k d h)) last j below

-- cells over the blocks that reach into a column are cells over all blocks
pub cells_of_near : (blocks near : List Block) (column : Range) (rows : Bands) (cells : List (List Block))
    → ((block : Block) → Contains near block → Contains blocks block)
    → ((block : Block) → Contains blocks block → (at : Half) → IsHalfIn column at.x → IsHalfInside block at → Contains near block)
    → AreCells near column rows cells → AreCells blocks column rows cells
cells_of_near blocks near column rows cells sound complete are = record {
  count = are.count;
  cell = λ j d below.
      let cell = are.cell j d below in
      record {
        sound = λ block listed. sound block (cell.sound block listed);
        complete = λ block listed at x y inside. cell.complete block (complete block listed at x inside) at x y inside;
      };
}

-- the cell at a column and a row, as it is read
pub cell_at : (blocks : List Block) (columns rows : Bands) (cells : List (List (List Block))) → AreColumns blocks columns rows cells
    → (i j : ℕ) → i < columns.count → j < rows.count → (column : List (List Block)) (cell : List Block)
    → column ≡ slice_index_or cells i column → cell ≡ slice_index_or column j cell
    → IsCellOf blocks (band_of columns i) (band_of rows j) cell
cell_at blocks columns rows cells are i j i_below j_below column cell is_column is_cell =
    let Q : List (List Block) → Type 0 = λ l. AreCells blocks (band_of columns i) rows l in
    let cells_are : Q column = subst Q (sym is_column) (are.column i column i_below) in
    let P : List Block → Type 0 = λ l. IsCellOf blocks (band_of columns i) (band_of rows j) l in
    subst P (sym is_cell) (cells_are.cell j cell j_below)

-- what is found in a cell is one of the blocks
pub found_in_cell : (r : Option Block) (blocks cell : List Block) (at : Half) → ((block : Block) → Contains cell block → Contains blocks block)
    → IfSome r (λ block. Contains cell block × IsHalfInside block at) → IfSome r (λ block. Contains blocks block × IsHalfInside block at)
found_in_cell None blocks cell at sound found = tt
found_in_cell (Some block) blocks cell at sound found = (sound block found.0, found.1)

-- where nothing is found in a cell, no block has the point inside
pub none_in_cell : (r : Option Block) (blocks cell : List Block) (at : Half) (column row : Range) → IsCellOf blocks column row cell
    → IsHalfIn column at.x → IsHalfIn row at.y
    → IfNone r (All (λ block. ¬ IsHalfInside block at) cell) → IfNone r ((block : Block) → Contains blocks block → ¬ IsHalfInside block at)
none_in_cell (Some block) blocks cell at column row is x y none = tt
none_in_cell None blocks cell at column row is x y none = λ block listed inside.
    let around = is.complete block listed at x y inside in
    All-contains (λ b. ¬ IsHalfInside b at) cell around.block none around.listed around.inside

-- a number that is in no column is the x of no point inside a block, and likewise for rows
module _ (blocks : List Block) (columns rows : Bands) (cells : List (List (List Block))) (is : IsRaster blocks columns rows cells) (at : Half) where
  pub none_beside : (x : ℤ) → (pos 2 *ℤ x) ≤ℤ at.x → at.x ≤ℤ (pos 2 *ℤ x +ℤ pos 1) → ((x <ℤ columns.low) ⊎ (end_of columns ≤ℤ x))
      → (block : Block) → Contains blocks block → ¬ IsHalfInside block at
  none_beside x low high outside block listed inside =
      let left : columns.low ≤ℤ block.x1 = is.left block listed in
      let right : block.x2 ≤ℤ end_of columns = is.right block listed in
      elim outside [
        | inl before ↦ omega (arith, ints, left, before, low, high, inside.x.above)
        | inr after ↦
            let end : ℤ = end_of columns in
            beyond_end block.x2 end x at.x right after low inside.x.below
      ]
    where
      beyond_end : (right end x halves : ℤ) → right ≤ℤ end → end ≤ℤ x → (pos 2 *ℤ x) ≤ℤ halves → halves <ℤ (pos 2 *ℤ right) → ⊥
      beyond_end right end x halves a b c d = omega (arith, ints, a, b, c, d)

  pub none_above : (y : ℤ) → (pos 2 *ℤ y) ≤ℤ at.y → at.y ≤ℤ (pos 2 *ℤ y +ℤ pos 1) → ((y <ℤ rows.low) ⊎ (end_of rows ≤ℤ y))
      → (block : Block) → Contains blocks block → ¬ IsHalfInside block at
  none_above y low high outside block listed inside =
      let bottom : rows.low ≤ℤ block.y1 = is.bottom block listed in
      let top : block.y2 ≤ℤ end_of rows = is.top block listed in
      elim outside [
        | inl before ↦ omega (arith, ints, bottom, before, low, high, inside.y.above)
        | inr after ↦
            let end : ℤ = end_of rows in
            beyond_end block.y2 end y at.y top after low inside.y.below
      ]
    where
      beyond_end : (top end y halves : ℤ) → top ≤ℤ end → end ≤ℤ y → (pos 2 *ℤ y) ≤ℤ halves → halves <ℤ (pos 2 *ℤ top) → ⊥
      beyond_end top end y halves a b c d = omega (arith, ints, a, b, c, d)

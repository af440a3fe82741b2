-- Numbers of points, column after column.
use Rattle.std.proofs.Common.{◌≡◌, ℕ, zero, suc, ◌+◌, ◌*◌, ◌/◌, ◌%◌, ◌<◌, ◌≤◌, sym, ap, ◌∙◌, arith}
use Rattle.std.proofs.Math.Nat.{mul-le-mul_left}
use Rattle.std.proofs.lemmas.Nat.{mul-le}
use Rattle.cts_route.proofs.Unique.{by_order}

-- the columns before a point and the points before it in its column
column_below : (i j k l h : ℕ) → j < h → i < k → i * h + j < k * h + l
column_below i j k l h low less =
    let le = mul-le-mul_left h (succ_le less) in omega (arith, le)
  where
    succ_le : {a b : ℕ} → a < b → a + 1 ≤ b
    succ_le less = omega arith

pub cell_inside : (i j w h : ℕ) → i < w → j < h → i * h + j < w * h
cell_inside i j w h column row = let lt = column_below i j w 0 h row column in omega (arith, lt)

-- 132 columns of 132 points
pub few_cells : (w h : ℕ) → w ≤ 132 → h ≤ 132 → w * h ≤ 17424
few_cells w h few_columns few_rows = mul-le w h 132 132 few_columns few_rows

pub cell_one : (i j k l h : ℕ) → j < h → l < h → i * h + j ≡ k * h + l → (i ≡ k) × (j ≡ l)
cell_one i j k l h low less same =
    by_order i k
    (λ below. let lt = column_below i j k l h low below in absurd (omega (arith, lt)))
    (λ above. let lt = column_below k l i j h less above in absurd (omega (arith, lt)))
    (λ e. (e, rest i j k l h e same))
  where
    rest : (i j k l h : ℕ) → i ≡ k → i * h + j ≡ k * h + l → j ≡ l
    rest i j k l h e same = let f : i * h ≡ k * h = ap (λ (x : ℕ). x * h) e in omega (arith, f)

-- the column and the row of a number
pub cell_parts : (c h : ℕ) → 0 < h → (c ≡ (c / h) * h + c % h) × (c % h < h)
cell_parts c h some = (omega arith, omega arith)

pub cell_is : (c i j h : ℕ) → j < h → c ≡ i * h + j → (c / h ≡ i) × (c % h ≡ j)
cell_is c i j h low e =
    let parts : (c ≡ (c / h) * h + c % h) × (c % h < h) = cell_parts c h (omega arith) in
    cell_one (c / h) (c % h) i j h parts.1 low (sym parts.0 ∙ e)

pub column_inside : (c w h : ℕ) → c < w * h → (0 < h) × (c / h < w)
column_inside c w zero lt = absurd (omega arith)
column_inside c w (suc h) lt = (
  omega arith,
  by_order (c / suc h) w (λ below. below)
      (λ above. absurd (too_far c w (suc h) (omega arith) lt (omega arith)))
      (λ same. absurd (too_far c w (suc h) (omega arith) lt (omega arith))),
)
  where
    too_far : (c w h : ℕ) → 0 < h → c < w * h → w ≤ c / h → ⊥
    too_far c w h some lt le =
        let more = mul-le-mul_left h le in
        let parts : (c ≡ (c / h) * h + c % h) × (c % h < h) = cell_parts c h some in
        let at = parts.0 in absurd (omega (arith, more, at))

pub row_inside : (c w h : ℕ) → c < w * h → c % h < h
row_inside c w h lt = (cell_parts c h (column_inside c w h lt).0).1

-- Two least pairs are one.
use Rattle.std.proofs.Common.{◌≡◌, ℕ, ◌+◌, ◌≤◌, arith}
use Rattle.std.specs.Int.{abs_diff}
use Rattle.cts_merge.specs.LeastPair.{IsNoLater, IsLeastPair}

pub least_unique : (f g : ℕ → ℕ) (A : ℕ → ℕ → Type 0) (x y u v : ℕ)
    → IsLeastPair f g A x y → IsLeastPair f g A u v → (x ≡ u) × (y ≡ v)
least_unique f g A x y u v p q =
    let there : IsNoLater (abs_diff (f x) (g y)) (x + y) x (abs_diff (f u) (g v)) (u + v) u = p.no_later u v q.admissible in
    let back : IsNoLater (abs_diff (f u) (g v)) (u + v) u (abs_diff (f x) (g y)) (x + y) x = q.no_later x y p.admissible in
    let one : abs_diff (f u) (g v) ≡ abs_diff (f x) (g y) = omega (arith, there.by_difference, back.by_difference) in
    let other : abs_diff (f x) (g y) ≡ abs_diff (f u) (g v) = omega (arith, one) in
    let more : x + y ≤ u + v = there.by_total one in
    let less : u + v ≤ x + y = back.by_total other in
    let first : x ≤ u = there.by_length one (omega (arith, more, less)) in
    let last : u ≤ x = back.by_length other (omega (arith, more, less)) in
    (omega (arith, first, last), omega (arith, first, last, more, less))

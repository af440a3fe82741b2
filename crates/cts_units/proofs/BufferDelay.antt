-- Bounds on the product in a buffer's delay.
use Rattle.std.proofs.Common.{ℕ, ◌*◌, ◌^◌, ◌<◌, ◌≤◌, arith}
use Rattle.std.proofs.Math.Nat.{mul-le-mul}

-- within the limits a buffer's delay stays far below 128 bits
pub buffer_delay_le : (resistance load : ℕ) → resistance < 10 ^ 18 → load ≤ 2 ^ 56
    → 2 * resistance * load ≤ 2 ^ 117
buffer_delay_le resistance load hr hl =
    let twice : 2 * resistance ≤ 2 * 10 ^ 18 = omega arith in
    let product : 2 * resistance * load ≤ 2 * 10 ^ 18 * 2 ^ 56 = mul-le-mul twice hl in
    omega arith

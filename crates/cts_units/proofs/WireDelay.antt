-- How a wire's delay rises with its length.
use Rattle.std.proofs.Common.{◌≡◌, ℕ, ◌+◌, ◌*◌, ◌<◌, ◌≤◌, arith}
use Rattle.std.proofs.Math.Nat.{mul-lt-mul_of_pos_left}
use Rattle.std.proofs.lemmas.Nat.{mul-lt}
use Rattle.cts_units.specs.Delay.{wire_delay_of}

-- a wire of no length has no delay
pub no_wire_no_delay : (r c load : ℕ) → wire_delay_of r c 0 load ≡ 0
unfolding wire_delay_of
no_wire_no_delay r c load = omega arith

-- what one more unit of length adds
pub wire_delay_of-step : (r c len load : ℕ)
    → wire_delay_of r c (len + 1) load ≡ wire_delay_of r c len load + r * (c * (2 * len + 1) + 2 * load)
unfolding wire_delay_of
wire_delay_of-step r c len load = omega arith

-- a longer wire has a greater delay
pub wire_delay_rises : (r c load x y : ℕ) → 1 ≤ r → 1 ≤ c → x < y
    → wire_delay_of r c x load < wire_delay_of r c y load
unfolding wire_delay_of
wire_delay_rises r c load x y hr hc longer =
    let first : r * x < r * y = mul-lt-mul_of_pos_left longer (omega arith) in
    let own : c * x < c * y = mul-lt-mul_of_pos_left longer (omega arith) in
    mul-lt (r * x) (c * x + 2 * load) (r * y) (c * y + 2 * load) first (omega arith)

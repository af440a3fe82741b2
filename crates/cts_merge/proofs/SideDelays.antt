-- A side's delay through a wire, as a function of the wire's length.
use Rattle.std.proofs.Common.{◌≡◌, ℕ, ◌+◌, ◌-◌, ◌*◌, ◌<◌, ◌≤◌, inl, inr, arith}
use Rattle.std.proofs.lemmas.Bool.{cases_lt}
use Rattle.cts_units.specs.declared.params.Wire.{Wire}
use Rattle.cts_units.specs.Limits.{IsWire, max_length}
use Rattle.cts_units.proofs.WireDelay.{wire_delay_rises, no_wire_no_delay, wire_delay_of-step}
use Rattle.cts_merge.specs.declared.side.Side.{Side}
use Rattle.cts_merge.specs.Side.{delay_through}
use Rattle.cts_merge.specs.Lengths.{IsLongest}
use Rattle.cts_merge.specs.Stretch.{IsLastBelow}
use Rattle.cts_merge.proofs.Rising.{Rises, order}

pub delay_rises : (wire : Wire) (side : Side) → IsWire wire → Rises (delay_through wire side)
delay_rises wire side w = record {
  rises = λ x y longer. omega (arith, wire_delay_rises wire.r wire.c side.load x y w.r_low w.c_low longer);
}

-- what one more unit of length adds
abbrev pub step_of : Wire → Side → ℕ → ℕ
step_of wire side len = wire.r * (wire.c * (2 * len + 1) + 2 * side.load)

pub delay_step : (wire : Wire) (side : Side) (len : ℕ)
    → delay_through wire side (len + 1) ≡ delay_through wire side len + step_of wire side len
delay_step wire side len = omega (arith, wire_delay_of-step wire.r wire.c len side.load)

pub delay_at_zero : (wire : Wire) (side : Side) → delay_through wire side 0 ≡ side.greatest
delay_at_zero wire side = omega (arith, no_wire_no_delay wire.r wire.c side.load)

-- the greatest length within what is left of a target is the last one at which the side is not beyond the target
pub last_of : (wire : Wire) (side : Side) → IsWire wire → (base target len : ℕ) → delay_through wire side base ≤ target
    → target < delay_through wire side (max_length + 1) → IsLongest wire side.load (target - side.greatest) len
    → IsLastBelow (delay_through wire side) target len
last_of wire side w base target len room far longest =
    let here : delay_through wire side len ≤ target = omega (arith, longest.fits, room) in
    record {
      within = elim (cases_lt max_length len) [
        | inr short ↦ short
        | inl long ↦ omega (arith, here, far, order (delay_through wire side) (delay_rises wire side w) len (max_length + 1))
      ];
      here = here;
      next = elim (cases_lt target (delay_through wire side (len + 1))) [
        | inl over ↦ over
        | inr low ↦ absurd (omega (arith, longest.greatest (len + 1) (omega (arith, low))))
      ];
    }

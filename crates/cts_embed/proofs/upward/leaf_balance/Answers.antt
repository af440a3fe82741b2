use Rattle.std.proofs.Common.{refl, sym, ap, arith}
use Rattle.cts_elmore.specs.declared.pin_list.Pin.{Pin}
use Rattle.cts_embed.proofs.upward.leaf_balance.Goals as goal

pub returns : goal.returns
returns c = λ sink is. record {
  greatest = omega (arith, ap (λ (pin : Pin). pin.offset) is);
  load = ap (λ (pin : Pin). pin.cap) (sym is);
  least = omega (arith, ap (λ (pin : Pin). pin.offset) is);
  left_wire = refl;
  right_wire = refl;
  total = refl;
}

use Rattle.std.proofs.Common.{arith, inl, inr}
use Rattle.std.proofs.lemmas.Int.{ints}
use Rattle.cts_block.proofs.distance.closest.Goals as goal

pub returns : goal.returns
returns c = record {
  low_least = omega (arith, ints);
  high_most = omega (arith, ints);
  ordered = omega (arith, ints);
  adjacent = omega (arith, ints);
  below = elim c.clamped.ensures.below [ inl h ↦ inl (omega (arith, ints)) | inr h ↦ inr (omega (arith, ints)) ];
  above = elim c.clamped-2.ensures.above [ inl h ↦ inl (omega (arith, ints)) | inr h ↦ inr (omega (arith, ints)) ];
}

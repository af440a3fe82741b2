use Rattle.std.proofs.Common.{◌∙◌, ap, arith, w64}
use Rattle.std.specs.Prelude.{unsigned_abs}
use Rattle.std.proofs.lemmas.Int.{to_z-of_z}
use Rattle.cts_history.proofs.words.put_coordinate.Goals as goal

pub put_number-requires-clause-value : goal.put_number-requires-clause-value
put_number-requires-clause-value g c = omega (arith, c.from.ensures, c.unsigned_abs.type_inv)

pub put_number-requires-clause-places : goal.put_number-requires-clause-places
put_number-requires-clause-places g c = omega arith

pub returns : goal.returns
returns g c =
    rw (c.from.ensures ∙ c.unsigned_abs.ensures.value ∙ ap unsigned_abs (to_z-of_z w64 c.args.z c.ranges.z)) at c.put_number.ensures

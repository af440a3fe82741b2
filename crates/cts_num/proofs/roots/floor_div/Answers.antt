-- The quotient whose remainder is not negative is the one rounded down.
use Rattle.std.proofs.Common.{to_z, of_z, arith}
use Rattle.std.specs.Int.{w128}
use Rattle.std.proofs.lemmas.Int.{ints}
use Rattle.cts_num.proofs.Floors.{floor_found}
use Rattle.cts_num.proofs.roots.floor_div.Goals as goal

pub returns : goal.returns
returns c =
    floor_found c.args.a c.args.b (to_z w128 (of_z w128 c.args.a)) (to_z w128 (of_z w128 c.args.b)) c.div_euclid.result _
    c.requires.positive c.div_euclid.ensures (omega (arith, ints)) (omega (arith, ints)) (omega (arith, ints))

use Rattle.std.proofs.Common.{arith}
use Rattle.cts_topo.proofs.Shuffles.{length-Shuffled}
use Rattle.cts_topo.proofs.Divided.{half_within, halves_of_split}
use Rattle.cts_topo.proofs.Pivots.{halves_sorted}
use Rattle.cts_topo.proofs.divide.halve.Goals as goal

pub split-requires-clause-half : goal.split-requires-clause-half
split-requires-clause-half c =
    let pins = c.requires.divisible in
    (halves_sorted _ _ _ _ _ c.requires.two pins.distinct pins.sorted_along pins.sorted_across pins.same c.div_ceil-half.ensures).count

pub split-requires-clause-room : goal.split-requires-clause-room
split-requires-clause-room c = omega (arith, c.requires.spare, length-Shuffled c.requires.divisible.same)

pub returns-clause-within : goal.returns-clause-within
returns-clause-within c = half_within _ _ c.requires.two c.div_ceil-half.ensures

pub returns-clause-halves : goal.returns-clause-halves
returns-clause-halves c =
    halves_of_split _ _ _ _ _ _ c.requires.two c.requires.divisible c.requires.axis c.div_ceil-half.ensures c.split.ensures

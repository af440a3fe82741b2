use Rattle.std.proofs.lemmas.List.Sorted.{IsPermutation-trans}
use Rattle.cts_topo.proofs.divide.sorted_along.Goals as goal

pub returns-clause-permutation : goal.returns-clause-permutation
returns-clause-permutation c = IsPermutation-trans c.args.pins.now c.in_ok-sorted.sorted.items _ c.in_ok-sorted.ensures c.sort_along.ensures.permutation

use Rattle.std.proofs.Common.{◌≡◌, ◌%◌, ◌^◌, map}
use Rattle.std.specs.List.{range_with_len}
use Rattle.cts_topo.proofs.divide.rough_keys.Given as goal

abbrev pub invariant-loop-place : goal.invariant-loop-place
invariant-loop-place l = map (λ key. key % 2 ^ 17) l.keys.items ≡ range_with_len 0 l.place

use Rattle.std.proofs.Common.{◌≡◌, take}
use Rattle.cts_topo.specs.Topology.{pins_from}
use Rattle.cts_topo.proofs.divide.pins_of.Given as goal

abbrev pub invariant-loop-place : goal.invariant-loop-place
invariant-loop-place l = l.pins.items ≡ pins_from 0 (take l.place l.sinks)

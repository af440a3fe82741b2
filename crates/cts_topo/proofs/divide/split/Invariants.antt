use Rattle.cts_topo.specs.Topology.{is_before}
use Rattle.cts_topo.proofs.Pivots.{PartsFilled}
use Rattle.cts_topo.proofs.divide.split.Given as goal

abbrev pub invariant-loop-pin : goal.invariant-loop-pin
invariant-loop-pin l =
    PartsFilled (λ p. is_before l.wide p l.pivot) l.pins l.pin-index l.half l.target l.early l.late

use Rattle.std.proofs.Common.{◌≡◌, ◌*◌, map}
use Rattle.std.specs.List.{range_with_len}
use Rattle.cts_script.specs.Generator.{made_sink, state_after}
use Rattle.cts_script.proofs.make.make_sinks.Given as goal

abbrev pub invariant-loop-number : goal.invariant-loop-number
invariant-loop-number l =
    (l.generator.state ≡ state_after l.seed (3 * l.number))
    × (l.sinks.items ≡ map (made_sink l.seed) (range_with_len 0 l.number))

use Rattle.std.proofs.Common.{pos}
use Rattle.cts_units.specs.declared.params.Sink.{Sink}
use Rattle.cts_plain.proofs.Joined.{leaf_at}
use Rattle.cts_plain.proofs.below.leaf_below.Goals as goal

-- the value past the end of the list
abbrev none : Sink
none = record { id = 0; x = pos 0; y = pos 0; cap = 0; offset = 0 }

pub returns : goal.returns
returns c =
    leaf_at c.args.instance.now.sinks c.sinks-sinks.result.now c.sinks-sinks.ensures.part c.args.sink c.requires none c.balance_of.result
    c.balance_of.ensures

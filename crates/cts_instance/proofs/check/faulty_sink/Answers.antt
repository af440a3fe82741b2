use Rattle.std.proofs.Common.{rules, sym, ◌∙◌, arith}
use Rattle.cts_instance.proofs.FirstFaultLemmas.{found, passed, ended}
use Rattle.cts_instance.proofs.LineLemmas.{sink_line-at, ids-more}
use Rattle.cts_instance.specs.FirstFault.{sink_line}
use Rattle.cts_instance.proofs.check.faulty_sink.Goals as goal

pub loop-sink-init : goal.loop-sink-init
loop-sink-init c = search rules

pub returns-in-Some : goal.returns-in-Some
returns-in-Some c =
    found (sink_line c.args.version c.args.die.now) _ _ c.loop-sink.sink-index _ _ c.loop-sink.invariant.lines_left (omega arith)
    (sym c.in-Some.is ∙ c.in_ok-fault.ensures.fault ∙ sink_line-at _ _ _ _ _ c.loop-sink.invariant.ids_seen)

pub loop-sink-preserved : goal.loop-sink-preserved
loop-sink-preserved c = record {
  lines_left = passed (sink_line c.args.version c.args.die.now) _ _ c.loop-sink.sink-index _ c.loop-sink.invariant.lines_left (omega arith)
      (sym c.in_default.is ∙ c.in_ok-fault.ensures.fault ∙ sink_line-at _ _ _ _ _ c.loop-sink.invariant.ids_seen);
  ids_seen = ids-more _ _ _ _ _ (c.in_ok-fault.ensures.added c.in_default.is) c.loop-sink.invariant.ids_seen (omega arith);
}

pub returns : goal.returns
returns c = ended (sink_line c.args.version c.args.die.now) _ c.args.sinks.now c.loop-sink.sink-index c.loop-sink.invariant.lines_left (omega arith)

use Rattle.std.proofs.Common.{◌≡◌, ◌+◌, [], length, sym, ap, ◌∙◌, arith, refl, length-append}
use Rattle.std.proofs.lemmas.List.{map-append}
use Rattle.std.proofs.lemmas.Result.{err_from_is_err_and}
use Rattle.cts_instance.specs.FirstFault.{sink_line, sinks_fault}
use Rattle.cts_instance.proofs.FirstFaultLemmas.{first_of-nil}
use Rattle.cts_read.specs.Grammar.{left_of}
use Rattle.cts_read.specs.Items.{sink_of, list_at}
use Rattle.cts_read.proofs.ListSteps.{list_step, list_refused, list_done, sound_push}
use Rattle.cts_read.proofs.lists.read_sinks.Goals as goal

pub returns-in_err-sink-clause-read : goal.returns-in_err-sink-clause-read
returns-in_err-sink-clause-read c =
    let p = err_from_is_err_and c.from_residual-in_err-sink.result c.from_residual-in_err-sink.ensures.1 in
    rw (p.1, p.2)
    (rw (← c.loop.invariant.so_far)
    (list_refused (sink_of c.args.version c.args.die.now) _ _ _ c.loop.sinks.items (left_of c.loop.lines) (omega arith)
    (c.in_err-sink.ensures.read c.loop.sinks.items c.loop.invariant.ids)))

pub loop-preserved : goal.loop-preserved
loop-preserved c = record {
  so_far = rw c.in_ok-push.ensures.items
      (list_step (sink_of c.args.version c.args.die.now) _ _ c.loop.sinks.items (left_of c.loop.lines) c.in_ok-sink.sink _ (omega arith)
      (c.in_ok-sink.ensures.read c.loop.sinks.items c.loop.invariant.ids)
      ∙ c.loop.invariant.so_far);
  ids = rw (c.in_ok-push.ensures.items, map-append, c.in_ok-sink.ensures.added, c.loop.invariant.ids) refl;
  many = rw (c.in_ok-push.ensures.items, length-append) (ap (λ n. n + 1) c.loop.invariant.many);
  sound = rw c.in_ok-push.ensures.items (sound_push (sink_line c.args.version c.args.die.now) c.loop.sinks.items c.in_ok-sink.sink c.loop.invariant.sound (c.in_ok-sink.ensures.sound c.loop.sinks.items c.loop.invariant.ids));
  text = c.in_ok-sink.ensures.text ∙ c.loop.invariant.text;
}

pub returns-clause-read : goal.returns-clause-read
returns-clause-read c =
    sym c.loop.invariant.so_far
    ∙ list_done (sink_of c.args.version c.args.die.now) c.args.count c.loop.counter c.loop.sinks.items (left_of c.loop.lines) (omega arith)

pub loop-init : goal.loop-init
loop-init c = record {
  so_far = rw c.in_ok-sinks.ensures.items (ap (λ n. list_at (sink_of c.args.version c.args.die.now) n [] (left_of c.args.lines.now)) (omega arith));
  ids = rw (c.in_ok-ids.ensures, c.in_ok-sinks.ensures.items) refl;
  many = rw c.in_ok-sinks.ensures.items refl;
  sound = rw c.in_ok-sinks.ensures.items (first_of-nil (sink_line c.args.version c.args.die.now) []);
  text = refl;
}

pub returns-clause-sound : goal.returns-clause-sound
unfolding sinks_fault
returns-clause-sound c =
    let all : length c.loop.sinks.items ≡ c.args.count = omega arith in
    rw (all, c.requires.announced, c.loop.invariant.sound) refl

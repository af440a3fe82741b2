use Rattle.std.proofs.Common.{◌≡◌, ◌+◌, [], length, sym, ap, ◌∙◌, arith, refl, length-append}
use Rattle.std.proofs.lemmas.Result.{err_from_is_err_and}
use Rattle.cts_instance.specs.FirstFault.{counts_of}
use Rattle.cts_instance.proofs.FirstFaultLemmas.{first_of-nil}
use Rattle.cts_instance.proofs.CountLemmas.{counts_of-push, counts_with-total}
use Rattle.cts_instance.specs.FirstFault.{block_line, blocks_fault}
use Rattle.cts_read.specs.Grammar.{left_of}
use Rattle.cts_read.specs.Items.{block_of, list_at}
use Rattle.cts_read.proofs.ListSteps.{list_step, list_refused, list_done, sound_push}
use Rattle.cts_read.proofs.lists.read_blocks.Goals as goal

pub returns-in_err-block-clause-read : goal.returns-in_err-block-clause-read
returns-in_err-block-clause-read c =
    let p = err_from_is_err_and c.from_residual.result c.from_residual.ensures.1 in
    rw (p.1, p.2)
    (rw (← c.loop.invariant.so_far)
    (list_refused (block_of c.args.die.now c.args.source.now.x c.args.source.now.y c.args.sinks.now) _ _ _ c.loop.blocks.items (left_of c.loop.lines) (omega arith)
    (c.in_err-block.ensures.read c.loop.blocks.items c.loop.invariant.counts)))

pub loop-preserved : goal.loop-preserved
loop-preserved c = record {
  so_far = rw c.in_ok-push.ensures.items
      (list_step (block_of c.args.die.now c.args.source.now.x c.args.source.now.y c.args.sinks.now) _ _ c.loop.blocks.items (left_of c.loop.lines) c.in_ok-block.block _ (omega arith)
      (c.in_ok-block.ensures.read c.loop.blocks.items c.loop.invariant.counts)
      ∙ c.loop.invariant.so_far);
  counts = rw (c.with-counts.ensures, c.loop.invariant.counts, c.in_ok-push.ensures.items, counts_of-push) refl;
  many = rw (c.in_ok-push.ensures.items, length-append) (ap (λ n. n + 1) c.loop.invariant.many);
  total = rw c.with-counts.ensures (counts_with-total c.loop.counts c.in_ok-block.block.kind ∙ ap (λ n. n + 1) c.loop.invariant.total);
  sound = rw c.in_ok-push.ensures.items (sound_push (block_line c.args.die.now c.args.source.now.x c.args.source.now.y c.args.sinks.now) c.loop.blocks.items c.in_ok-block.block c.loop.invariant.sound (c.in_ok-block.ensures.sound c.loop.blocks.items c.loop.invariant.counts));
  text = c.in_ok-block.ensures.text ∙ c.loop.invariant.text;
}

pub returns-clause-read : goal.returns-clause-read
returns-clause-read c =
    sym c.loop.invariant.so_far
    ∙ list_done (block_of c.args.die.now c.args.source.now.x c.args.source.now.y c.args.sinks.now) c.args.count c.loop.counter c.loop.blocks.items (left_of c.loop.lines) (omega arith)

pub loop-init : goal.loop-init
unfolding counts_of
loop-init c = record {
  so_far = rw c.new-blocks.ensures.items (ap (λ n. list_at (block_of c.args.die.now c.args.source.now.x c.args.source.now.y c.args.sinks.now) n [] (left_of c.args.lines.now)) (omega arith));
  counts = rw (c.none-counts.ensures, c.new-blocks.ensures.items) refl;
  many = rw c.new-blocks.ensures.items refl;
  total = rw c.none-counts.ensures refl;
  sound = rw c.new-blocks.ensures.items (first_of-nil (block_line c.args.die.now c.args.source.now.x c.args.source.now.y c.args.sinks.now) []);
  text = refl;
}

pub returns-clause-sound : goal.returns-clause-sound
unfolding blocks_fault
returns-clause-sound c =
    let all : length c.loop.blocks.items ≡ c.args.count = omega arith in
    rw (all, c.requires.announced, c.loop.invariant.sound) refl

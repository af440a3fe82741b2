use Rattle.std.proofs.Common.{◌≡◌, ◌+◌, [], length, sym, ap, ◌∙◌, arith, refl, length-append}
use Rattle.std.proofs.lemmas.Result.{err_from_is_err_and}
use Rattle.cts_instance.specs.FirstFault.{buffer_line, buffers_fault}
use Rattle.cts_instance.proofs.FirstFaultLemmas.{first_of-nil}
use Rattle.cts_read.specs.Grammar.{left_of}
use Rattle.cts_read.specs.Items.{buffer_of, list_at}
use Rattle.cts_read.proofs.ListSteps.{list_step, list_refused, list_done, sound_push}
use Rattle.cts_read.proofs.lists.read_buffers.Goals as goal

pub returns-in_err-buffer-clause-read : goal.returns-in_err-buffer-clause-read
returns-in_err-buffer-clause-read c =
    let p = err_from_is_err_and c.from_residual.result c.from_residual.ensures.1 in
    rw (p.1, p.2)
    (rw (← c.loop.invariant.so_far)
    (list_refused buffer_of _ _ _ c.loop.buffers.items (left_of c.loop.lines) (omega arith) (rw c.deref.ensures.value at c.in_err-buffer.ensures.read)))

pub loop-preserved : goal.loop-preserved
loop-preserved c = record {
  so_far = rw c.in_ok-push.ensures.items
      (list_step buffer_of _ _ c.loop.buffers.items (left_of c.loop.lines) c.in_ok-buffer.buffer _ (omega arith) (rw c.deref.ensures.value at c.in_ok-buffer.ensures.read)
      ∙ c.loop.invariant.so_far);
  many = rw (c.in_ok-push.ensures.items, length-append) (ap (λ n. n + 1) c.loop.invariant.many);
  sound = rw c.in_ok-push.ensures.items (sound_push buffer_line c.loop.buffers.items c.in_ok-buffer.buffer c.loop.invariant.sound (rw c.deref.ensures.value at c.in_ok-buffer.ensures.sound));
  text = c.in_ok-buffer.ensures.text ∙ c.loop.invariant.text;
}

pub returns-clause-read : goal.returns-clause-read
returns-clause-read c =
    sym c.loop.invariant.so_far
    ∙ list_done buffer_of c.args.count c.loop.counter c.loop.buffers.items (left_of c.loop.lines) (omega arith)

pub loop-init : goal.loop-init
loop-init c = record {
  so_far = rw c.new-buffers.ensures.items (ap (λ n. list_at buffer_of n [] (left_of c.args.lines.now)) (omega arith));
  many = rw c.new-buffers.ensures.items refl;
  sound = rw c.new-buffers.ensures.items (first_of-nil buffer_line []);
  text = refl;
}

pub returns-clause-sound : goal.returns-clause-sound
unfolding buffers_fault
returns-clause-sound c =
    let all : length c.loop.buffers.items ≡ c.args.count = omega arith in
    rw (all, c.requires.announced, c.loop.invariant.sound) refl

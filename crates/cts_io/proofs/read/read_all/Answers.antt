use Rattle.std.proofs.Common.{◌≡◌, refl, ℕ, ◌+◌, length, vec_len, length-append, arith}
use Rattle.std.proofs.lemmas.List.{length-take}
use Rattle.std.proofs.KnownBytes.{Consumes-trans, Consumes-whole}
use Rattle.cts_io.proofs.Rises.{rose_later}
use Rattle.cts_io.proofs.Told.{none_taken, none_more, takes_first, longer_than}
use Rattle.cts_io.proofs.read.read_all.Goals as goal

pub loop-block-init : goal.loop-block-init
loop-block-init g c = record {
  within = omega arith;
  room = c.in_ok-block.ensures.len;
  taken = none_taken _ _ c.new-bytes.ensures.items;
  counted = omega arith;
}

pub returns-in_err-count-clause-fewer : goal.returns-in_err-count-clause-fewer
returns-in_err-count-clause-fewer g c = λ _.
    (vec_len c.loop-block.bytes, omega arith, rw c.in_err-count.ensures.kept (takes_first _ _ _ _ (omega arith) c.loop-block.invariant.taken))

pub returns-in_err-count-clause-read_fault : goal.returns-in_err-count-clause-read_fault
returns-in_err-count-clause-read_fault g c = λ _.
    rose_later _ _ _ c.loop-block.invariant.counted c.in_err-count.ensures.failed

pub returns-then-count-eq0-clause-all : goal.returns-then-count-eq0-clause-all
returns-then-count-eq0-clause-all g c =
    let room : length c.read.new.buf ≡ c.min-asked.result = rw (c.read.auto.buf, length-take, c.deref_mut.ensures.len) (omega arith) in
    let taken = none_more _ _ _ _ _ _ c.if-count-eq0.true c.loop-block.invariant.taken c.in_ok-count.ensures.taken in
    Consumes-whole _ _ _ (λ left. c.loop-block.bytes.items ≡ left) taken (c.in_ok-count.ensures.end c.if-count-eq0.true (omega arith)) refl

pub returns-then-count-eq0-clause-end : goal.returns-then-count-eq0-clause-end
returns-then-count-eq0-clause-end g c =
    let room : length c.read.new.buf ≡ c.min-asked.result = rw (c.read.auto.buf, length-take, c.deref_mut.ensures.len) (omega arith) in
    c.in_ok-count.ensures.end c.if-count-eq0.true (omega arith)

pub returns-then-count-eq0-clause-fewer : goal.returns-then-count-eq0-clause-fewer
returns-then-count-eq0-clause-fewer g c = λ _.
    (vec_len c.loop-block.bytes, omega arith, takes_first _ _ _ _ (omega arith) (none_more _ _ _ _ _ _ c.if-count-eq0.true c.loop-block.invariant.taken c.in_ok-count.ensures.taken))

pub returns-then-len-count-clause-too_long : goal.returns-then-len-count-clause-too_long
returns-then-len-count-clause-too_long g c = λ _.
    let room : length c.read.new.buf ≡ c.min-asked.result = rw (c.read.auto.buf, length-take, c.deref_mut.ensures.len) (omega arith) in
    takes_first _ _ _ _ (rw (length-append, length-take) (omega (arith, c.in_ok-count.ensures.bound))) (Consumes-trans _ _ _ _ _ c.loop-block.invariant.taken c.in_ok-count.ensures.taken)

pub returns-then-len-count-clause-longer : goal.returns-then-len-count-clause-longer
returns-then-len-count-clause-longer g c = λ _.
    let room : length c.read.new.buf ≡ c.min-asked.result = rw (c.read.auto.buf, length-take, c.deref_mut.ensures.len) (omega arith) in
    longer_than _ _ c.args.limit (takes_first _ _ _ _ (rw (length-append, length-take) (omega (arith, c.in_ok-count.ensures.bound))) (Consumes-trans _ _ _ _ _ c.loop-block.invariant.taken c.in_ok-count.ensures.taken))

pub loop-block-preserved : goal.loop-block-preserved
loop-block-preserved g c =
    let both = Consumes-trans _ _ _ _ _ c.loop-block.invariant.taken c.in_ok-count.ensures.taken in
    record {
      within = rw c.in_ok-append.ensures.len (omega (arith, length-take {A = ℕ}, c.in_ok-count.ensures.bound));
      room = omega arith;
      taken = rw c.in_ok-append.ensures.items both;
      counted = omega (arith, c.in_ok-count.ensures.counted);
    }

pub returns-in_err-append-clause-fewer :
    goal.returns-in_err-append-clause-fewer
returns-in_err-append-clause-fewer g c = λ _. (
  vec_len c.loop-block.bytes + c.in_ok-count.count,
  omega arith,
  takes_first _ _ _ _ (rw (length-append, length-take) (omega (arith, c.in_ok-count.ensures.bound))) (Consumes-trans _ _ _ _ _ c.loop-block.invariant.taken c.in_ok-count.ensures.taken),
)

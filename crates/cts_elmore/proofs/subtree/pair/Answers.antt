use Rattle.std.proofs.Common.{inl, inr, refl, arith}
use Rattle.cts_elmore.proofs.subtree.pair.Goals as goal

pub overflow_add-below : goal.overflow_add-below
overflow_add-below c = omega arith

pub returns-then-below-gt-MAX_LOAD : goal.returns-then-below-gt-MAX_LOAD
returns-then-below-gt-MAX_LOAD c = inl (omega arith)

pub buffered-added-requires-clause-load : goal.buffered-added-requires-clause-load
buffered-added-requires-clause-load c = omega arith

pub overflow_add-greatest : goal.overflow_add-greatest
overflow_add-greatest c = omega arith

pub returns-then-greatest-gt-MAX_DELAY : goal.returns-then-greatest-gt-MAX_DELAY
returns-then-greatest-gt-MAX_DELAY c = inr (omega (arith, c.buffered-added.ensures.added))

pub overflow_add-result : goal.overflow_add-result
overflow_add-result c = omega arith

pub overflow_add-result-2 : goal.overflow_add-result-2
overflow_add-result-2 c = omega arith

pub overflow_add-result-3 : goal.overflow_add-result-3
overflow_add-result-3 c = omega arith

pub overflow_add-result-4 : goal.overflow_add-result-4
overflow_add-result-4 c = omega arith

pub overflow_add-result-5 : goal.overflow_add-result-5
overflow_add-result-5 c = omega arith

pub returns : goal.returns
returns c =
    let added = c.buffered-added.ensures.added in
    record {
      below = refl;
      seen = c.buffered-added.ensures.seen;
      wires = refl;
      offset = refl;
      greatest = cc;
      least = cc;
      delay_greatest = cc;
      delay_least = cc;
      residue = cc;
      bound = cc;
      load_within = omega arith;
      delay_within = omega arith;
    }

use Rattle.std.proofs.Common.{arith}
use Rattle.std.proofs.lemmas.List.{take_rest}
use lib.Seq.{take-add}
use Rattle.std.proofs.KnownBytes.{Appends-trans}
use Rattle.cts_io.proofs.write.write_all.Goals as goal

pub loop-written-preserved : goal.loop-written-preserved
loop-written-preserved g c =
    let both = Appends-trans _ _ _ _ _ c.loop-written.invariant.taken c.in-Ok.ensures.taken in
    record {
      within = omega (arith, c.in-Ok.ensures.bound);
      taken = rw take-add (rw take_rest at both);
      untouched = λ e. absurd (omega (arith, c.in-Ok.ensures.some));
      counted = omega (arith, c.in-Ok.ensures.counted);
    }

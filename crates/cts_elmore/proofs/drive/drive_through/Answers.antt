use Rattle.std.proofs.Common.{inl, inr, refl, arith}
use Rattle.cts_elmore.proofs.drive.drive_through.Goals as goal

pub returns-then-length-gt-MAX_LENGTH : goal.returns-then-length-gt-MAX_LENGTH
returns-then-length-gt-MAX_LENGTH c = inl (omega arith)

pub returns-then-load-gt-MAX_LOAD : goal.returns-then-load-gt-MAX_LOAD
returns-then-load-gt-MAX_LOAD c = inr (inl (omega arith))

pub returns-then-delay-root-gt-MAX_DELAY : goal.returns-then-delay-root-gt-MAX_DELAY
returns-then-delay-root-gt-MAX_DELAY c = inr (inr (omega arith))

pub returns : goal.returns
returns c = record {
  load = refl;
  delay = cc;
  length_within = omega arith;
  load_within = omega arith;
  delay_within = omega arith;
}

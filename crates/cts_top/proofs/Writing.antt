-- What writing a right text does to the output.
use Rattle.std.proofs.Common.{ℕ, List, Option, Result, Ok, Err, refl}
use Rattle.cts_io.specs.Text.{Writes}
use Rattle.cts_io.specs.declared.write.WriteEnd.{WriteEnd}
use Rattle.cts_top.specs.declared.stop.Answer.{Answer}
use Rattle.cts_top.specs.Written.{Rule, Answers, ended_of}

pub answers_by : {K : Type 0} (Right : Rule) (held : K → Option (List ℕ)) (faults : K → ℕ) (old new : K) (kind : Answer) (text : List ℕ)
    (written : Result Unit WriteEnd) → Right kind text → Writes held faults old new text written
    → Answers Right held faults old new (ended_of written kind)
answers_by Right held faults old new kind text (Ok done) right w = record {
  done = (text, right, w.ok);
  in_part = λ e. cc;
  rose = λ e. cc;
  kept = tt;
  counted = w.counted;
}
answers_by Right held faults old new kind text (Err end) right w = record {
  done = tt;
  in_part = λ e. (kind, text, w.cut.count, right, w.cut.taken);
  rose = λ e. w.write_fault;
  kept = λ n. absurd (n refl);
  counted = w.counted;
}

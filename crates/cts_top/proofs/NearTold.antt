-- The text for a synthesis over the nearest-pair topology, from the text for a synthesis.
use Rattle.std.proofs.Common.{ℕ, List, Result, Ok, Err, refl}
use Rattle.cts_instance.specs.declared.parts.Parts.{Parts}
use Rattle.cts_instance.specs.Validity.{IsValid}
use Rattle.cts_report.specs.Report.{report_text}
use Rattle.cts_near.specs.NearShape.{IsNearBeyond}
use Rattle.cts_near.specs.Synthesis.{IsSynthesisNear, at_step, over}
use Rattle.cts_top.specs.declared.stop.Answer.{Answer}
use Rattle.cts_top.specs.declared.stop.Answer.TheVariants as answer
use Rattle.cts_top.specs.declared.stop.Stop.{Stop}
use Rattle.cts_top.specs.Near.{TellsNear, no_step_text}
use Rattle.cts_top.specs.Text.{TellsComing}
use Rattle.cts_top.specs.Written.{Answers, Rule}

-- what is right by one rule is right by a wider one
pub answers_wider : {K : Type 0} (Right Wider : Rule) → ((kind : Answer) (text : List ℕ) → Right kind text → Wider kind text)
    → {held : K → _} {faults : K → ℕ} {old new : K} (result : Result Answer Stop) → Answers Right held faults old new result
    → Answers Wider held faults old new result
answers_wider Right Wider wide (Ok kind) a = record {
  done = (a.done.0, wide kind (a.done.0) (a.done.1), a.done.2);
  in_part = λ e. cc;
  rose = λ e. cc;
  kept = tt;
  counted = a.counted;
}
answers_wider Right Wider wide (Err end) a = record {
  done = tt;
  in_part = λ e. let p = a.in_part e in (p.0, p.1, p.2, wide (p.0) (p.1) (p.3), p.4);
  rose = a.rose;
  kept = a.kept;
  counted = a.counted;
}

pub near_told : (i : Parts) (kind : Answer) (text : List ℕ) → TellsComing (IsSynthesisNear i) report_text i kind text → TellsNear i kind text
near_told i kind text t = record {
  valid = t.valid;
  outcome = over t.synthesis;
  comes = t.comes;
  kind_is = t.kind_is;
  is_text = t.is_text;
}

pub step_told : (i : Parts) (step : ℕ) → IsValid i → IsNearBeyond i.params i.sinks step → TellsNear i answer.NoTree (no_step_text step)
step_told i step valid beyond =
    record { valid = valid; outcome = at_step step; comes = beyond; kind_is = refl; is_text = refl }

use Rattle.std.proofs.Common.{inl, inr, refl, ap, ◌∙◌}
use Rattle.cts_notes.specs.Status.{code_of}
use Rattle.cts_top.proofs.host.run_on.Goals as goal

pub returns-in-Ok : goal.returns-in-Ok
returns-in-Ok g c =
    inl (record {
      words = c.deref.result.now;
      known = rw c.deref.ensures.value c.in-Ok.ensures;
      log = _;
      status = _;
      runs = c.run-outcome.ensures.runs;
      has_log = c.run-outcome.ensures.log;
      code_is = c.exit_code.ensures;
    })

pub returns-in-Err : goal.returns-in-Err
returns-in-Err g c =
    inr (record {
      untouched = refl;
      kept = refl;
      counted = c.end_without_memory.ensures.counted;
      note = (c.end_without_memory.ensures.note, c.end_without_memory.ensures.front);
      code_is = c.exit_code-in-Err.ensures ∙ ap code_of c.end_without_memory.ensures.status;
    })

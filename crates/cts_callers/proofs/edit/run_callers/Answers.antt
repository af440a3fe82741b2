use Rattle.std.proofs.Common.{ap, ◌∙◌, subst}
use Rattle.cts_session.specs.Desks.{IsTableOf, base_of, known_by}
use Rattle.cts_callers.specs.declared.edit.Run.{Run}
use Rattle.cts_callers.specs.Runs.{IsRun}
use Rattle.cts_callers.proofs.Running.{run_right}
use Rattle.cts_callers.proofs.edit.run_callers.Goals as goal

pub returns : goal.returns
returns g c =
    let hands = c.hands-hands.ensures.same in
    let run : Run = record {
      instance = c.in-Ok.instance;
      history = c.in-Ok.history;
      sinks = c.in-Ok.sinks;
      replies = c.in_ok-replies.replies;
      synthesis = c.in_ok-synthesis.synthesis;
      table = c.in-Ok.table;
    } in
    subst (λ base. IsRun base c.args.scripts.now run) c.in_ok-desk.ensures.base
    (run_right c.in_ok-desk.desk c.in_ok-desk.hands c.args.scripts.now c.run_from-replies.result c.of-session.result c.draw_last.new.session run
    c.in_ok-desk.ensures.hands c.run_from-replies.ensures c.in_ok-replies.was c.of-session.ensures c.in_ok-synthesis.ensures.last
    (record {
      instance_is = c.in-Ok.ensures.instance;
      table = subst (λ h. IsTableOf (base_of c.in_ok-desk.desk).params (known_by h).entries c.in-Ok.table) hands c.in-Ok.ensures.table;
      history = c.in-Ok.ensures.edits ∙ ap (λ h. (known_by h).edits) hands;
      count = c.in-Ok.ensures.made ∙ ap (λ h. (known_by h).edits_made) hands;
      sound = c.in-Ok.ensures.sound;
      sinks = c.in-Ok.ensures.sinks;
      valid = c.in-Ok.ensures.valid;
    }))

use Rattle.std.proofs.Common.{◌≡◌, Ok, sym, subst, arith}
use Rattle.std.proofs.lemmas.Result.{err_from_is_err_and}
use Rattle.cts_io.proofs.Pieces.{length-lines_of}
use Rattle.cts_read.specs.Grammar.{Refuses, left_of}
use Rattle.cts_read.specs.Whole.{place_at}
use Rattle.cts_script.specs.Replays.{replay_at}
use Rattle.cts_top.proofs.Inputs.{scripts_left}
use Rattle.cts_top.proofs.Replaying.{front_of_replay_refused, replay_read, replay_refused}
use Rattle.cts_top.proofs.replay.read_steps.Goals as goal

pub read_replay-requires-clause-lines : goal.read_replay-requires-clause-lines
read_replay-requires-clause-lines c = omega (arith, c.in_ok-taken.ensures.lines, length-lines_of c.args.bytes.now, c.requires)

pub returns-in_err-taken-clause-refused : goal.returns-in_err-taken-clause-refused
returns-in_err-taken-clause-refused c =
    let p = err_from_is_err_and c.from_residual.result c.from_residual.ensures.1 in
    rw (p.1, p.2) (front_of_replay_refused c.args.bytes.now c.in_err-taken.field-0.0 c.in_err-taken.ensures.refused)

pub returns-in_err-asked-clause-refused : goal.returns-in_err-asked-clause-refused
returns-in_err-asked-clause-refused c =
    let p = err_from_is_err_and c.from_residual-in_err-asked.result c.from_residual-in_err-asked.ensures.1 in
    let left = sym (scripts_left c.args.bytes.now c.in_ok-taken.taken.used c.in_ok-taken.taken.lines) in
    rw (p.1, p.2)
    (replay_refused c.args.bytes.now (c.in_ok-taken.taken.instance, c.in_ok-taken.taken.lines)
    (left_of (place_at c.args.bytes.now c.in_ok-taken.taken.used c.in_ok-taken.taken.lines))
    c.in_err-asked.field-0.0 c.in_ok-taken.ensures.read
    (subst (λ l. Refuses c.in_err-asked.field-0.0 (replay_at l)) left c.in_err-asked.ensures.refused))

pub returns-clause-spells : goal.returns-clause-spells
returns-clause-spells c =
    let left = sym (scripts_left c.args.bytes.now c.in_ok-taken.taken.used c.in_ok-taken.taken.lines) in
    record {
      within = c.requires;
      read = replay_read c.args.bytes.now (c.in_ok-taken.taken.instance, c.in_ok-taken.taken.lines)
          (left_of (place_at c.args.bytes.now c.in_ok-taken.taken.used c.in_ok-taken.taken.lines)) c.in_ok-asked.asked.items
          c.in_ok-taken.ensures.read
          (subst (λ l. replay_at l ≡ Ok c.in_ok-asked.asked.items) left c.in_ok-asked.ensures.read);
    }

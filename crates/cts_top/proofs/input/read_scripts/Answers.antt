use Rattle.std.proofs.Common.{◌≡◌, Ok, sym, subst, arith}
use Rattle.std.proofs.lemmas.Result.{err_from_is_err_and}
use Rattle.cts_io.proofs.Pieces.{length-lines_of}
use Rattle.cts_read.specs.Grammar.{Refuses, left_of}
use Rattle.cts_read.specs.Whole.{place_at}
use Rattle.cts_script.specs.Scripts.{script_at}
use Rattle.cts_top.proofs.Inputs.{front_of_scripts_refused, scripts_left, scripts_read, scripts_refused}
use Rattle.cts_top.proofs.input.read_scripts.Goals as goal

pub read_script-requires-clause-lines : goal.read_script-requires-clause-lines
read_script-requires-clause-lines c = omega (arith, c.in_ok-taken.ensures.lines, length-lines_of c.args.bytes.now, c.requires)

pub returns-in_err-taken-clause-refused : goal.returns-in_err-taken-clause-refused
returns-in_err-taken-clause-refused c =
    let p = err_from_is_err_and c.from_residual.result c.from_residual.ensures.1 in
    rw (p.1, p.2) (front_of_scripts_refused c.args.bytes.now c.in_err-taken.field-0.0 c.in_err-taken.ensures.refused)

pub returns-in_err-scripts-clause-refused : goal.returns-in_err-scripts-clause-refused
returns-in_err-scripts-clause-refused c =
    let p = err_from_is_err_and c.from_residual-in_err-scripts.result c.from_residual-in_err-scripts.ensures.1 in
    let left = sym (scripts_left c.args.bytes.now c.in_ok-taken.taken.used c.in_ok-taken.taken.lines) in
    rw (p.1, p.2)
    (scripts_refused c.args.bytes.now (c.in_ok-taken.taken.instance, c.in_ok-taken.taken.lines)
    (left_of (place_at c.args.bytes.now c.in_ok-taken.taken.used c.in_ok-taken.taken.lines))
    c.in_err-scripts.field-0.0 c.in_ok-taken.ensures.read
    (subst (λ l. Refuses c.in_err-scripts.field-0.0 (script_at l)) left c.in_err-scripts.ensures.refused))

pub returns-clause-spells : goal.returns-clause-spells
returns-clause-spells c =
    let left = sym (scripts_left c.args.bytes.now c.in_ok-taken.taken.used c.in_ok-taken.taken.lines) in
    record {
      within = c.requires;
      read = scripts_read c.args.bytes.now (c.in_ok-taken.taken.instance, c.in_ok-taken.taken.lines)
          (left_of (place_at c.args.bytes.now c.in_ok-taken.taken.used c.in_ok-taken.taken.lines)) c.in_ok-scripts.scripts.items
          c.in_ok-taken.ensures.read
          (subst (λ l. script_at l ≡ Ok c.in_ok-scripts.scripts.items) left c.in_ok-scripts.ensures.read);
    }

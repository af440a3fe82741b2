use Rattle.std.proofs.Common.{arith}
use Rattle.std.proofs.lemmas.Result.{err_from_is_err_and}
use Rattle.cts_io.proofs.Pieces.{length-lines_of}
use Rattle.cts_read.specs.Grammar.{left_of}
use Rattle.cts_read.specs.Whole.{place_at}
use Rattle.cts_top.proofs.Inputs.{front_refused, left_at, rest_refused, whole_read}
use Rattle.cts_top.proofs.input.read_input.Goals as goal

pub read_rest-requires-clause-lines : goal.read_rest-requires-clause-lines
read_rest-requires-clause-lines c = omega (arith, c.in_ok-taken.ensures.lines, length-lines_of c.args.bytes.now, c.requires)

pub returns-in_err-taken-clause-refused : goal.returns-in_err-taken-clause-refused
returns-in_err-taken-clause-refused c =
    let p = err_from_is_err_and c.from_residual.result c.from_residual.ensures.1 in
    rw (p.1, p.2) (front_refused c.args.bytes.now c.in_err-taken.field-0.0 c.in_err-taken.ensures.refused)

pub returns-in_err-read_rest-clause-refused : goal.returns-in_err-read_rest-clause-refused
returns-in_err-read_rest-clause-refused c =
    let p = err_from_is_err_and c.from_residual-in_err-read_rest.result c.from_residual-in_err-read_rest.ensures.1 in
    rw (p.1, p.2)
    (rest_refused c.args.bytes.now (c.in_ok-taken.taken.instance, c.in_ok-taken.taken.lines)
    (left_of (place_at c.args.bytes.now c.in_ok-taken.taken.used c.in_ok-taken.taken.lines))
    c.in_err-read_rest.field-0.0 c.in_ok-taken.ensures.read (rw left_at c.in_err-read_rest.ensures))

pub returns-clause-spells : goal.returns-clause-spells
returns-clause-spells c = record {
  within = c.requires;
  read = whole_read c.args.bytes.now (c.in_ok-taken.taken.instance, c.in_ok-taken.taken.lines)
      (left_of (place_at c.args.bytes.now c.in_ok-taken.taken.used c.in_ok-taken.taken.lines))
      c.in_ok-taken.ensures.read (rw left_at c.in_ok-read_rest.ensures);
}

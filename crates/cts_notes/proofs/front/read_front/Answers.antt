use Rattle.std.proofs.Common.{drop}
use Rattle.cts_read.specs.Grammar.{left_of}
use Rattle.cts_read.specs.Whole.{place_at}
use Rattle.cts_notes.proofs.Fronts.{front_read, rest_after}
use Rattle.cts_notes.proofs.front.read_front.Goals as goal

pub returns-clause-spells : goal.returns-clause-spells
returns-clause-spells c = record {
  within = c.requires;
  read = front_read c.args.bytes.now c.in_ok-taken.taken.instance c.in_ok-taken.taken.lines
      (left_of (place_at c.args.bytes.now c.in_ok-taken.taken.used c.in_ok-taken.taken.lines))
      (drop c.in_ok-taken.taken.used c.args.bytes.now) c.in_ok-taken.ensures.read
      (rest_after c.args.bytes.now (drop c.in_ok-taken.taken.used c.args.bytes.now) c.in_ok-taken.taken.lines c.in_ok-taken.ensures.ends
      c.in_ok-taken.ensures.used c.in_ok-taken.ensures.lines);
}

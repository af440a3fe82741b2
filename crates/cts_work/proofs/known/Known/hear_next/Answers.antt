use Rattle.std.proofs.Common.{sym, subst}
use Rattle.cts_turn.specs.Passes.{seen_by}
use Rattle.cts_work.specs.Known.{StandFrom}
use Rattle.cts_work.proofs.Noted.{known_stays, read_stand}
use Rattle.cts_work.proofs.known.Known.hear_next.Goals as goal

pub returns-in-Ok-clause-known : goal.returns-in-Ok-clause-known
returns-in-Ok-clause-known g c =
    let seen = seen_by c.read.new.pass in
    let first = c.args.self.now.next in
    c.hear.ensures.known seen
    (subst (StandFrom seen first) (sym c.deref.ensures.value) (read_stand seen c.in-Ok.entries.items first 128 c.in-Ok.ensures.entries))
    (known_stays (seen_by c.args.pass.now) seen c.read.ensures.goes_on c.args.self.now c.requires.known)

pub returns-in-Err-clause-known : goal.returns-in-Err-clause-known
returns-in-Err-clause-known g c =
    known_stays (seen_by c.args.pass.now) (seen_by c.read.new.pass) c.read.ensures.goes_on c.args.self.now c.requires.known

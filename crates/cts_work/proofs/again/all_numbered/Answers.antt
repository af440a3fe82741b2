use Rattle.std.proofs.Common.{rules, length, refl, ap, is_some}
use Rattle.std.proofs.lemmas.Option.{slice_get_read}
use Rattle.cts_work.proofs.Taken.{taken_number}
use Rattle.cts_work.proofs.again.all_numbered.Goals as goal

pub returns-in-Some : goal.returns-in-Some
returns-in-Some c told =
    (search rules, taken_number c.requires.0 c.args.nodes.now c.args.placed c.in-Some._number (c.requires.1) c.in-Some.is)

pub returns-in-Some-number : goal.returns-in-Some-number
returns-in-Some-number c told =
    let found = c.in-Some-get.ensures.lookup in (
      search rules,
      (
        c.in-Some-get.node.now,
        slice_get_read c.args.nodes.now (length c.args.nodes.now) c.args.placed.place c.in-Some-get.node.now refl (found.3.0) (found.1),
        ap is_some c.in-Some-number.is,
      ),
    )

use Rattle.std.proofs.Common.{Some, length, refl, ap, ◌∙◌}
use Rattle.std.proofs.lemmas.Option.{slice_get_read}
use Rattle.cts_work.proofs.Noted.{one_key}
use Rattle.cts_work.proofs.hints.at_place.Goals as goal

pub returns : goal.returns
returns c =
    let found = c.in_ok-node.ensures.lookup in (
      c.in_ok-node.node.now,
      c.in_ok-_number._number,
      slice_get_read c.args.nodes.now (length c.args.nodes.now) c.args.place c.in_ok-node.node.now refl (found.3.0) (found.1),
      c.in_ok-own.was ∙ ap Some (one_key c.in_ok-own.own c.args.key c.ne.result c.ne.ensures c.if-ne.false),
      c.in_ok-_number.was,
    )

use Rattle.std.proofs.Common.{◌≡◌, false, ap, sym, ◌∙◌}
use Rattle.std.proofs.lemmas.Bool.{both_ways}
use Rattle.std.proofs.lemmas.List.{take_all}
use Rattle.cts_edit.specs.Edits.{has_id}
use Rattle.cts_undo.proofs.inverse.place_of.Goals as goal

pub unreachable-requires : goal.unreachable-requires
unreachable-requires c =
    let none : has_id c.args.id c.args.sinks.now ≡ false =
    ap (has_id c.args.id) (sym (take_all c.loop-place.place c.args.sinks.now c.loop-place-test.false)) ∙ c.loop-place.invariant in
    both_ways _ none c.requires

use Rattle.std.proofs.Common.{Some, ap, subst, ◌∙◌}
use Rattle.cts_turn.specs.Passes.{seen_by}
use Rattle.cts_memo.specs.Passes.{params_of}
use Rattle.cts_work.specs.Known.{HasKeyAt}
use Rattle.cts_work.proofs.Builts.{known_leaf, sound_for}
use Rattle.cts_work.proofs.Noted.{all_noted_stay}
use Rattle.cts_work.proofs.place.place_leaf.Goals as goal

pub returns-in-Some-clause-built : goal.returns-in-Some-clause-built
returns-in-Some-clause-built g c =
    known_leaf (params_of c.args.memo.now) (seen_by c.args.pass.now) c.args.sink.now c.of_sink-key.result c.args.nodes.now.items c.in-Some.place
    c.of_sink-key.ensures (sound_for c.args.memo.now c.args.pass.now c.requires.own) c.requires.noted
    (subst (λ ns. HasKeyAt ns c.of_sink-key.result c.in-Some.place) c.deref.ensures.value c.in-Some.ensures)

pub returns-in_err-leaf-clause-noted : goal.returns-in_err-leaf-clause-noted
returns-in_err-leaf-clause-noted g c =
    all_noted_stay (seen_by c.args.pass.now) (seen_by c.build_leaf.new.pass) c.build_leaf.ensures.pass.goes_on c.args.nodes.now.items c.requires.noted

pub returns-in_err-add-clause-noted : goal.returns-in_err-add-clause-noted
returns-in_err-add-clause-noted g c =
    c.add.ensures.noted (seen_by c.build_leaf.new.pass)
    (all_noted_stay (seen_by c.args.pass.now) (seen_by c.build_leaf.new.pass) c.build_leaf.ensures.pass.goes_on c.args.nodes.now.items c.requires.noted)
    c.in_ok-leaf.ensures.built.noted

pub returns-clause-noted : goal.returns-clause-noted
returns-clause-noted g c =
    c.add.ensures.noted (seen_by c.build_leaf.new.pass)
    (all_noted_stay (seen_by c.args.pass.now) (seen_by c.build_leaf.new.pass) c.build_leaf.ensures.pass.goes_on c.args.nodes.now.items c.requires.noted)
    c.in_ok-leaf.ensures.built.noted

pub returns-in-Some-clause-keyed : goal.returns-in-Some-clause-keyed
returns-in-Some-clause-keyed g c =
    let known = subst (λ ns. HasKeyAt ns c.of_sink-key.result c.in-Some.place) c.deref.ensures.value c.in-Some.ensures in
    (known.0, known.2, known.3 ∙ ap Some c.of_sink-key.ensures)

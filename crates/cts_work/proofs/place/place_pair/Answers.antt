use Rattle.std.proofs.Common.{◌≡◌, ℕ, List, Some, get_or, slice_get, arith, sym, ap, subst, ◌∙◌}
use Rattle.std.proofs.lemmas.Option.{get_or_from_slice_get, slice_get_within}
use Rattle.cts_list.proofs.Prefixes.{prefix_self}
use Rattle.cts_work.proofs.Nodes.{stands_still}
use Rattle.cts_turn.specs.Passes.{seen_by}
use Rattle.cts_topo.specs.declared.shape.ShapeNode.TheVariants.{Pair}
use Rattle.cts_memo.specs.Passes.{params_of}
use Rattle.cts_work.specs.Built.{IsBuilt}
use Rattle.cts_work.specs.Known.{HasKeyAt, IsAtPlace}
use Rattle.cts_work.specs.Work.{IsBuiltAt}
use Rattle.cts_work.proofs.Builts.{at_place_is, known_pair, sound_for}
use Rattle.cts_work.specs.declared.node.Built.{Built}
use Rattle.cts_work.proofs.Noted.{all_noted_stay}
use Rattle.cts_work.proofs.Picked.{node_stays}
use Rattle.cts_work.proofs.place.place_pair.Goals as goal

pub returns-in-Some-find-clause-built : goal.returns-in-Some-find-clause-built
returns-in-Some-find-clause-built g c =
    let params = params_of c.args.work.now.memo.now in
    let sinks = c.args.work.now.sinks.now in
    let seen = seen_by c.args.pass.now in
    let nodes = c.args.nodes.now.items in
    subst (λ t. IsAtPlace nodes (IsBuilt params sinks seen t) c.in-Some-find.place) (sym c.requires.here)
    (known_pair params sinks seen (sound_for c.args.work.now.memo.now c.args.pass.now c.requires.own) _ _ (Pair c.args.at.left c.args.at.right)
    c.index-a.result.now c.index-b.result.now
    (at_place_is (IsBuiltAt c.args.work.now seen c.args.at.left) nodes c.args.left c.index-a.result.now c.requires.left c.index-a.ensures)
    (at_place_is (IsBuiltAt c.args.work.now seen c.args.at.right) nodes c.args.right c.index-b.result.now c.requires.right c.index-b.ensures)
    c.in-Some.key (sym c.of_pair.ensures ∙ c.in-Some.is) nodes c.in-Some-find.place c.requires.noted
    (subst (λ ns. HasKeyAt ns c.in-Some.key c.in-Some-find.place) c.deref.ensures.value c.in-Some-find.ensures))

pub build_pair-requires-clause-a : goal.build_pair-requires-clause-a
build_pair-requires-clause-a g c κs within =
    at_place_is (IsBuiltAt c.args.work.now (seen_by c.args.pass.now) c.args.at.left) c.args.nodes.now.items c.args.left c.index-a.result.now
    c.requires.left c.index-a.ensures

pub build_pair-requires-clause-b : goal.build_pair-requires-clause-b
build_pair-requires-clause-b g c κs within =
    at_place_is (IsBuiltAt c.args.work.now (seen_by c.args.pass.now) c.args.at.right) c.args.nodes.now.items c.args.right c.index-b.result.now
    c.requires.right c.index-b.ensures

pub returns-in_err-add-in-Ok-clause-noted : goal.returns-in_err-add-in-Ok-clause-noted
returns-in_err-add-in-Ok-clause-noted g c =
    c.add.ensures.noted (seen_by c.build_pair.new.pass)
    (all_noted_stay (seen_by c.args.pass.now) (seen_by c.build_pair.new.pass) c.build_pair.ensures.pass.goes_on c.args.nodes.now.items c.requires.noted)
    c.in-Ok.ensures.built.noted

pub returns-in_ok-add-in-Ok-clause-noted : goal.returns-in_ok-add-in-Ok-clause-noted
returns-in_ok-add-in-Ok-clause-noted g c =
    c.add.ensures.noted (seen_by c.build_pair.new.pass)
    (all_noted_stay (seen_by c.args.pass.now) (seen_by c.build_pair.new.pass) c.build_pair.ensures.pass.goes_on c.args.nodes.now.items c.requires.noted)
    c.in-Ok.ensures.built.noted

pub returns-in_ok-add-in-Ok-clause-built : goal.returns-in_ok-add-in-Ok-clause-built
returns-in_ok-add-in-Ok-clause-built g c = (c.in-Ok.pair, c.in_ok-add-in-Ok.ensures.added, c.in-Ok.ensures.built)

pub returns-in-Err-clause-noted : goal.returns-in-Err-clause-noted
returns-in-Err-clause-noted g c =
    all_noted_stay (seen_by c.args.pass.now) (seen_by c.build_pair.new.pass) c.build_pair.ensures.pass.goes_on c.args.nodes.now.items c.requires.noted

pub returns-in-Some-find-clause-pass : goal.returns-in-Some-find-clause-pass
returns-in-Some-find-clause-pass g c = stands_still c.args.work.now.memo.now c.args.pass.now c.requires.own

pub returns-in-Some-find-clause-more : goal.returns-in-Some-find-clause-more
returns-in-Some-find-clause-more g c = prefix_self c.args.nodes.now.items

pub returns-in-Err-clause-more : goal.returns-in-Err-clause-more
returns-in-Err-clause-more g c = prefix_self c.args.nodes.now.items

pub index-a-requires : goal.index-a-requires
index-a-requires g c =
    omega (arith, slice_get_within c.args.nodes.now.items c.args.left c.requires.left.0 c.requires.left.1, c.args.nodes.now.ok.0)

pub index-b-requires : goal.index-b-requires
index-b-requires g c =
    omega (arith, slice_get_within c.args.nodes.now.items c.args.right c.requires.right.0 c.requires.right.1, c.args.nodes.now.ok.0)

node_read : (nodes : List Built) (p : ℕ) (a b : Built) → slice_get nodes p ≡ Some b → a ≡ get_or nodes p a → slice_get nodes p ≡ Some a
node_read nodes p a b here is = here ∙ ap Some (sym (is ∙ get_or_from_slice_get nodes p b a here))

pub returns-in-Some-find-clause-keyed : goal.returns-in-Some-find-clause-keyed
returns-in-Some-find-clause-keyed g c =
    let nodes = c.args.nodes.now.items in
    let known = subst (λ ns. HasKeyAt ns c.in-Some.key c.in-Some-find.place) c.deref.ensures.value c.in-Some-find.ensures in (
      c.index-a.result.now,
      c.index-b.result.now,
      known.0,
      node_read nodes c.args.left c.index-a.result.now c.requires.left.0 (c.requires.left.1) c.index-a.ensures,
      node_read nodes c.args.right c.index-b.result.now c.requires.right.0 (c.requires.right.1) c.index-b.ensures,
      known.2,
      known.3 ∙ sym (sym c.of_pair.ensures ∙ c.in-Some.is),
    )

pub returns-in_ok-add-in-Ok-clause-keyed : goal.returns-in_ok-add-in-Ok-clause-keyed
returns-in_ok-add-in-Ok-clause-keyed g c =
    let nodes = c.args.nodes.now.items in
    let more = c.add.ensures.more in
    let longer = c.add.new.nodes.items in (
      c.index-a.result.now,
      c.index-b.result.now,
      c.in-Ok.pair,
      node_stays nodes longer more c.args.left c.index-a.result.now
          (node_read nodes c.args.left c.index-a.result.now c.requires.left.0 (c.requires.left.1) c.index-a.ensures),
      node_stays nodes longer more c.args.right c.index-b.result.now
          (node_read nodes c.args.right c.index-b.result.now c.requires.right.0 (c.requires.right.1) c.index-b.ensures),
      c.in_ok-add-in-Ok.ensures.added,
      c.in-Ok.ensures.keyed,
    )

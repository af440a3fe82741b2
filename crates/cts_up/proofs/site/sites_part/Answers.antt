use Rattle.std.proofs.Common.{◌≡◌, ◌+◌, take, true, false, refl, sym, subst, ◌∙◌, arith, length-set, take_all}
use Rattle.std.proofs.lemmas.List.{take_more_set}
use Rattle.std.specs.List.{AllZip}
use Rattle.cts_postorder.specs.PostOrder.{trees_of}
use Rattle.cts_postorder.proofs.Upward.{up_all}
use Rattle.cts_postorder.proofs.Waiting.{one_waits, root_waits}
use Rattle.cts_topo.specs.Shape.{children_from}
use Rattle.cts_up.specs.Ascending.{IsAscent, IsSide}
use Rattle.cts_up.specs.Stretches.{IsSiteOf}
use Rattle.cts_up.proofs.Ascending.{one_more, beyond_least}
use Rattle.cts_up.proofs.Sited.{site_here, sited_not_beyond}
use Rattle.cts_up.proofs.site.sites_part.Goals as goal

pub loop-place-init : goal.loop-place-init
loop-place-init g c = record {
  ascent = c.in_ok-ascent.ensures c.args.params.now c.args.first c.requires.stretch;
  sites = tt;
  room = c.requires.room;
}

pub finish-requires-clause-before : goal.finish-requires-clause-before
finish-requires-clause-before g c = (c.args.first, c.loop-place.invariant.ascent)

pub returns-in_default-clause-ends : goal.returns-in_default-clause-ends
returns-in_default-clause-ends g c = (
  c.loop-place.place,
  refl,
  beyond_least c.args.params.now c.args.sinks.now c.args.first c.args.nodes.now c.loop-place.place c.loop-place-test.true
      (IsSiteOf c.args.params.now c.args.sinks.now) (take c.loop-place.place c.loop-place.out) c.loop-place.invariant.sites
      (λ t site. sited_not_beyond c.args.params.now c.args.sinks.now t site)
      (c.in_default.ensures.beyond c.args.first c.loop-place.invariant.ascent),
)

pub loop-place-preserved : goal.loop-place-preserved
loop-place-preserved g c =
    record {
      ascent = subst
          (IsAscent c.args.params.now c.args.sinks.now c.args.first c.args.nodes.now (c.loop-place.place + 1) c.finish.new.self.named.items
          c.finish.new.self.leaves) (sym c.in_ok-push.ensures.items) (c.in-Ok.ensures.after c.args.first c.loop-place.invariant.ascent);
      sites = subst
          (AllZip (IsSiteOf c.args.params.now c.args.sinks.now) (take (c.loop-place.place + 1) (trees_of (children_from c.args.first) c.args.nodes.now)))
          (sym (take_more_set c.loop-place.out c.loop-place.place c.site_of.result
          (omega (arith, c.loop-place-test.true, c.loop-place.invariant.room))))
          (one_more c.args.params.now c.args.sinks.now c.args.first c.args.nodes.now c.loop-place.place c.loop-place-test.true
          (IsSiteOf c.args.params.now c.args.sinks.now) (take c.loop-place.place c.loop-place.out) c.loop-place.invariant.sites c.site_of.result
          (site_here c.args.params.now c.args.sinks.now c.args.first c.args.nodes.now c.loop-place.place c.in-Ok.finished
          (c.in-Ok.ensures.here c.args.first c.loop-place.invariant.ascent) c.site_of.result c.site_of.ensures));
      room = length-set c.loop-place.out c.loop-place.place c.site_of.result ∙ c.loop-place.invariant.room;
    }

pub unreachable-requires : goal.unreachable-requires
unreachable-requires g c =
    let none : false ≡ true =
    c.in_default-pop.ensures.variant.1
    (omega (
      arith,
      c.loop-place.ascent.waiting.ok.0,
      one_waits (children_from c.args.first) c.args.nodes.now (IsSide c.args.params.now c.args.sinks.now) c.loop-place.place c.loop-place-test.false
          c.loop-place.auto.place-end c.loop-place.ascent.waiting.items c.loop-place.invariant.ascent.each_waits,
    )) in
    cc

pub returns-clause-sites : goal.returns-clause-sites
returns-clause-sites g c =
    subst (AllZip (IsSiteOf c.args.params.now c.args.sinks.now) (trees_of (children_from c.args.first) c.args.nodes.now))
    (take_all c.loop-place.place c.loop-place.out (omega (arith, c.loop-place-test.false, c.loop-place.invariant.room)))
    (up_all (children_from c.args.first) (IsSiteOf c.args.params.now c.args.sinks.now) c.args.nodes.now c.loop-place.place
    (take c.loop-place.place c.loop-place.out) c.loop-place-test.false c.loop-place.invariant.sites)

pub returns-clause-side : goal.returns-clause-side
returns-clause-side g c =
    root_waits (children_from c.args.first) c.args.nodes.now (IsSide c.args.params.now c.args.sinks.now) c.loop-place.place c.loop-place-test.false
    c.loop-place.auto.place-end c.loop-place.ascent.waiting.items c.loop-place.invariant.ascent.each_waits c.pop.new.self.items c.in-Some.root
    c.in-Some.ensures.items

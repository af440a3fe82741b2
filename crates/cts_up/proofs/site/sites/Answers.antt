use Rattle.std.proofs.Common.{◌+◌, ◌++◌, ◌∷◌, [], length, refl, map, sym, ap, subst, ◌∙◌, arith}
use Rattle.std.proofs.lemmas.List.{map_push}
use Rattle.cts_topo.specs.Shape.{IsShapeOver}
use Rattle.cts_topo.proofs.Stretches.{whole_is_stretch}
use Rattle.cts_up.specs.Plan.{IsFinished, IsLeastBeyond, IsPlan}
use Rattle.cts_up.specs.Ascending.{IsAscent}
use Rattle.cts_up.specs.declared.site.Site.{Site}
use Rattle.cts_up.specs.Sites.{site_of}
use Rattle.cts_up.proofs.Ascending.{one_more}
use Rattle.cts_up.proofs.Whole.{whole_plan, whole_least_beyond}
use Rattle.cts_up.proofs.Merges.{some_sink, number_fits, merges_at_most, merges_all}
use Rattle.cts_up.proofs.site.sites.Goals as goal

pub returns-in_err-ascent-clause-merges_at_most : goal.returns-in_err-ascent-clause-merges_at_most
returns-in_err-ascent-clause-merges_at_most g c =
    omega (arith, some_sink c.args.sinks.now c.args.shape.now c.requires.shape)

pub returns-in_err-sites-clause-merges_at_most : goal.returns-in_err-sites-clause-merges_at_most
returns-in_err-sites-clause-merges_at_most g c =
    omega (arith, some_sink c.args.sinks.now c.args.shape.now c.requires.shape)

pub finish-requires-clause-before : goal.finish-requires-clause-before
finish-requires-clause-before g c = (0, c.loop-number.invariant.ascent)

pub overflow_cast-result : goal.overflow_cast-result
overflow_cast-result g c =
    omega (
      arith,
      number_fits c.args.sinks.now c.nodes-nodes.result.now
          (subst (IsShapeOver (length c.args.sinks.now)) (sym c.nodes-nodes.ensures.nodes) c.requires.shape)
          c.requires.sinks c.loop-number.number c.loop-number-test.true,
    )

pub returns-in_default-clause-ends : goal.returns-in_default-clause-ends
returns-in_default-clause-ends g c =
    subst (λ nodes. IsLeastBeyond c.args.params.now c.args.sinks.now nodes c.loop-number.number) c.nodes-nodes.ensures.nodes
    (whole_least_beyond c.args.params.now c.args.sinks.now c.nodes-nodes.result.now c.loop-number.number c.loop-number-test.true
    (c.loop-number.invariant.sites.0) (c.loop-number.invariant.sites.1) (c.in_default.ensures.beyond 0 c.loop-number.invariant.ascent))

pub returns-in_default-clause-merges_at_most : goal.returns-in_default-clause-merges_at_most
returns-in_default-clause-merges_at_most g c =
    merges_at_most c.args.sinks.now c.nodes-nodes.result.now
    (subst (IsShapeOver (length c.args.sinks.now)) (sym c.nodes-nodes.ensures.nodes) c.requires.shape)
    c.args.steps.now c.finish.new.steps (c.loop-number.number + 1) (omega (arith, c.loop-number-test.true))
    (omega (arith, c.loop-number.invariant.merges, c.finish.ensures.merges))

pub returns-in_err-push-clause-merges_at_most : goal.returns-in_err-push-clause-merges_at_most
returns-in_err-push-clause-merges_at_most g c =
    merges_at_most c.args.sinks.now c.nodes-nodes.result.now
    (subst (IsShapeOver (length c.args.sinks.now)) (sym c.nodes-nodes.ensures.nodes) c.requires.shape)
    c.args.steps.now c.finish.new.steps (c.loop-number.number + 1) (omega (arith, c.loop-number-test.true))
    (omega (arith, c.loop-number.invariant.merges, c.finish.ensures.merges))

pub returns-in_err-push-2-clause-merges_at_most : goal.returns-in_err-push-2-clause-merges_at_most
returns-in_err-push-2-clause-merges_at_most g c =
    merges_at_most c.args.sinks.now c.nodes-nodes.result.now
    (subst (IsShapeOver (length c.args.sinks.now)) (sym c.nodes-nodes.ensures.nodes) c.requires.shape)
    c.args.steps.now c.finish.new.steps (c.loop-number.number + 1) (omega (arith, c.loop-number-test.true))
    (omega (arith, c.loop-number.invariant.merges, c.finish.ensures.merges))

pub loop-number-init : goal.loop-number-init
loop-number-init g c =
    record {
      ascent = c.in_ok-ascent.ensures c.args.params.now 0
          (whole_is_stretch (length c.args.sinks.now) c.nodes-nodes.result.now
          (subst (IsShapeOver (length c.args.sinks.now)) (sym c.nodes-nodes.ensures.nodes) c.requires.shape));
      sites = ([], tt, c.in_ok-sites.ensures.items);
      merges = refl;
    }

pub loop-number-preserved : goal.loop-number-preserved
loop-number-preserved g c =
    record {
      ascent = subst
          (IsAscent c.args.params.now c.args.sinks.now 0 c.nodes-nodes.result.now (c.loop-number.number + 1) c.finish.new.self.named.items
          c.finish.new.self.leaves) (sym c.in_ok-push.ensures.items) (c.in-Ok.ensures.after 0 c.loop-number.invariant.ascent);
      sites = (
        c.loop-number.invariant.sites.0 ++ c.in-Ok.finished ∷ [],
        one_more c.args.params.now c.args.sinks.now 0 c.nodes-nodes.result.now c.loop-number.number c.loop-number-test.true
            (IsFinished c.args.params.now c.args.sinks.now)
            (c.loop-number.invariant.sites.0) (c.loop-number.invariant.sites.1) c.in-Ok.finished (c.in-Ok.ensures.here 0 c.loop-number.invariant.ascent),
        c.in_ok-push-2.ensures.items
            ∙ ap (λ sites. sites ++ c.site_of.result ∷ []) (c.loop-number.invariant.sites.2)
            ∙ ap (λ (site : Site). map site_of (c.loop-number.invariant.sites.0) ++ site ∷ []) c.site_of.ensures
            ∙ sym (map_push site_of (c.loop-number.invariant.sites.0) c.in-Ok.finished),
      );
      merges = omega (arith, c.loop-number.invariant.merges, c.finish.ensures.merges);
    }

pub returns-clause-sites : goal.returns-clause-sites
returns-clause-sites g c = (
  c.loop-number.invariant.sites.0,
  subst (λ nodes. IsPlan c.args.params.now c.args.sinks.now nodes (c.loop-number.invariant.sites.0)) c.nodes-nodes.ensures.nodes
      (whole_plan c.args.params.now c.args.sinks.now c.nodes-nodes.result.now c.loop-number.number
      (c.loop-number.invariant.sites.0) (omega arith) (c.loop-number.invariant.sites.1)),
  c.loop-number.invariant.sites.2,
)

pub returns-clause-merges : goal.returns-clause-merges
returns-clause-merges g c =
    merges_all c.args.sinks.now c.nodes-nodes.result.now
    (subst (IsShapeOver (length c.args.sinks.now)) (sym c.nodes-nodes.ensures.nodes) c.requires.shape)
    c.args.steps.now c.loop-number.steps c.loop-number.number (omega arith) c.loop-number.invariant.merges

pub returns-clause-merges_at_most : goal.returns-clause-merges_at_most
returns-clause-merges_at_most g c =
    merges_at_most c.args.sinks.now c.nodes-nodes.result.now
    (subst (IsShapeOver (length c.args.sinks.now)) (sym c.nodes-nodes.ensures.nodes) c.requires.shape)
    c.args.steps.now c.loop-number.steps c.loop-number.number (omega arith) c.loop-number.invariant.merges

use Rattle.std.proofs.Common.{IsSome, ◌+◌, ◌<◌, ◌∷◌, [], length, slice_get, sym, ap, subst, ◌∙◌, arith, length-append}
use Rattle.std.proofs.lemmas.Option.{slice_get_within}
use Rattle.cts_turn.specs.Passes.{seen_by}
use Rattle.cts_work.specs.Work.{AreBuilt}
use Rattle.cts_work.specs.Known.{IsAtPlace, StandAt, picked, sites_of}
use Rattle.cts_work.specs.Last.{AreFound, AreKeyed, IsKeyAt}
use Rattle.cts_work.proofs.Picked.{length-picked}
use Rattle.cts_work.proofs.Nodes.{stands_still, goes_further}
use Rattle.cts_work.proofs.Parts.{next_fits, none_stand, stand_push, ends_here, merges_within}
use Rattle.cts_work.proofs.Taken.{found_further, keyed_further, merges_more, none_found, none_keyed, sites_push, stands_stays, taken_in}
use Rattle.cts_work.proofs.part.build_part.Goals as goal

pub overflow_add-node-end : goal.overflow_add-node-end
overflow_add-node-end g c = omega (arith, next_fits c.args.work.now c.args.root c.requires.ready c.requires.part.within)

pub loop-node-init : goal.loop-node-init
loop-node-init g c =
    let places = c.in_ok-places.places.items in
    let none = c.in_ok-places.ensures.items in
    record {
      upto = omega arith;
      pass = stands_still c.args.work.now.memo.now c.args.pass.now c.requires.own;
      noted = c.requires.noted;
      last = c.requires.last;
      long = omega (arith, ap length none);
      found = none_found c.args.worker.now.last.now.places.items places c.in_ok-found.found.items none c.in_ok-found.ensures.items;
      built = none_stand c.args.work.now (seen_by c.args.pass.now) 0 c.args.known.now.nodes.items places none;
      keyed = λ e. none_keyed c.args.work.now.sinks.now c.args.work.now.nodes.now (picked c.args.known.now.nodes.items places) (ap (picked c.args.known.now.nodes.items) none);
      sites = c.in_ok-sites.ensures.items ∙ ap (λ ps. sites_of (picked c.args.known.now.nodes.items ps)) (sym none);
      merges = omega arith;
    }

pub place_node-requires-clause-own : goal.place_node-requires-clause-own
place_node-requires-clause-own g c κs within = c.loop-node.invariant.pass.own

pub place_node-requires-clause-leaves : goal.place_node-requires-clause-leaves
place_node-requires-clause-leaves g c κs within = c.requires.leaves

pub place_node-requires-clause-long : goal.place_node-requires-clause-long
place_node-requires-clause-long g c κs within = ap length c.as_slice-before.ensures.value ∙ c.loop-node.invariant.long

pub place_node-requires-clause-before : goal.place_node-requires-clause-before
place_node-requires-clause-before g c κs within =
    subst (λ ps. StandAt c.loop-node.known.nodes.items ps (AreBuilt c.args.work.now (seen_by c.loop-node.pass) 0)) (sym c.as_slice-before.ensures.value)
    c.loop-node.invariant.built

pub place_node-requires-clause-found : goal.place_node-requires-clause-found
place_node-requires-clause-found g c κs within =
    subst (λ ps. AreFound c.args.worker.now.last.now.places.items ps c.as_slice-numbers.result.now) (sym c.as_slice-before.ensures.value)
    (subst (AreFound c.args.worker.now.last.now.places.items c.loop-node.places.items) (sym c.as_slice-numbers.ensures.value) c.loop-node.invariant.found)

pub place_node-requires-clause-last : goal.place_node-requires-clause-last
place_node-requires-clause-last g c κs within = c.loop-node.invariant.last

pub place_node-requires-clause-noted : goal.place_node-requires-clause-noted
place_node-requires-clause-noted g c κs within = c.loop-node.invariant.noted

pub all_numbered-numbered-requires : goal.all_numbered-numbered-requires
all_numbered-numbered-requires g c = (
  c.args.worker.now.last.now,
  taken_in c.args.worker.now.last.now c.place_node.new.known.nodes.items c.as_slice-now.result.now c.in-Ok.placed c.as_slice-now.ensures.value
      c.in-Ok.ensures.again,
)

pub site_at-site-requires-clause-within : goal.site_at-site-requires-clause-within
site_at-site-requires-clause-within g c =
    subst (λ ns. c.in-Ok.placed.place < length ns) (sym c.as_slice-now.ensures.value)
    (slice_get_within c.place_node.new.known.nodes.items c.in-Ok.placed.place c.in-Ok.ensures.built.0 (c.in-Ok.ensures.built.1))

pub returns-in_err-push-in-Ok-clause-pass : goal.returns-in_err-push-in-Ok-clause-pass
returns-in_err-push-in-Ok-clause-pass g c =
    goes_further c.args.work.now.memo.now c.args.pass.now c.loop-node.pass c.place_node.new.pass c.loop-node.invariant.pass c.place_node.ensures.pass

pub returns-in_err-push-in-Ok-clause-noted : goal.returns-in_err-push-in-Ok-clause-noted
returns-in_err-push-in-Ok-clause-noted g c = c.place_node.ensures.noted

pub returns-in_err-push-in-Ok-clause-last : goal.returns-in_err-push-in-Ok-clause-last
returns-in_err-push-in-Ok-clause-last g c =
    stands_stays c.loop-node.known.nodes.items c.place_node.new.known.nodes.items c.args.worker.now.last.now c.place_node.ensures.more c.loop-node.invariant.last

pub returns-in_err-push-in-Ok-clause-merges : goal.returns-in_err-push-in-Ok-clause-merges
returns-in_err-push-in-Ok-clause-merges g c =
    let more = merges_more c.args.work.now (seen_by c.args.pass.now) (seen_by c.loop-node.pass) c.loop-node.node c.args.steps.now c.loop-node.steps
    c.place_node.new.steps (omega (arith, c.loop-node-test.true, c.requires.part.within)) c.loop-node.invariant.pass.goes_on
    c.loop-node.invariant.merges c.place_node.ensures.merges in
    merges_within c.args.work.now (seen_by c.args.pass.now) 0 (c.loop-node.node + 1) (c.args.root + 1) c.args.steps.now c.place_node.new.steps
    (omega (arith, c.loop-node-test.true)) more

pub returns-in_err-push-in-Ok-2-clause-pass : goal.returns-in_err-push-in-Ok-2-clause-pass
returns-in_err-push-in-Ok-2-clause-pass g c =
    goes_further c.args.work.now.memo.now c.args.pass.now c.loop-node.pass c.place_node.new.pass c.loop-node.invariant.pass c.place_node.ensures.pass

pub returns-in_err-push-in-Ok-2-clause-noted : goal.returns-in_err-push-in-Ok-2-clause-noted
returns-in_err-push-in-Ok-2-clause-noted g c = c.place_node.ensures.noted

pub returns-in_err-push-in-Ok-2-clause-last : goal.returns-in_err-push-in-Ok-2-clause-last
returns-in_err-push-in-Ok-2-clause-last g c =
    stands_stays c.loop-node.known.nodes.items c.place_node.new.known.nodes.items c.args.worker.now.last.now c.place_node.ensures.more c.loop-node.invariant.last

pub returns-in_err-push-in-Ok-2-clause-merges : goal.returns-in_err-push-in-Ok-2-clause-merges
returns-in_err-push-in-Ok-2-clause-merges g c =
    let more = merges_more c.args.work.now (seen_by c.args.pass.now) (seen_by c.loop-node.pass) c.loop-node.node c.args.steps.now c.loop-node.steps
    c.place_node.new.steps (omega (arith, c.loop-node-test.true, c.requires.part.within)) c.loop-node.invariant.pass.goes_on
    c.loop-node.invariant.merges c.place_node.ensures.merges in
    merges_within c.args.work.now (seen_by c.args.pass.now) 0 (c.loop-node.node + 1) (c.args.root + 1) c.args.steps.now c.place_node.new.steps
    (omega (arith, c.loop-node-test.true)) more

pub returns-in_err-push-in-Ok-3-clause-pass : goal.returns-in_err-push-in-Ok-3-clause-pass
returns-in_err-push-in-Ok-3-clause-pass g c =
    goes_further c.args.work.now.memo.now c.args.pass.now c.loop-node.pass c.place_node.new.pass c.loop-node.invariant.pass c.place_node.ensures.pass

pub returns-in_err-push-in-Ok-3-clause-noted : goal.returns-in_err-push-in-Ok-3-clause-noted
returns-in_err-push-in-Ok-3-clause-noted g c = c.place_node.ensures.noted

pub returns-in_err-push-in-Ok-3-clause-last : goal.returns-in_err-push-in-Ok-3-clause-last
returns-in_err-push-in-Ok-3-clause-last g c =
    stands_stays c.loop-node.known.nodes.items c.place_node.new.known.nodes.items c.args.worker.now.last.now c.place_node.ensures.more c.loop-node.invariant.last

pub returns-in_err-push-in-Ok-3-clause-merges : goal.returns-in_err-push-in-Ok-3-clause-merges
returns-in_err-push-in-Ok-3-clause-merges g c =
    let more = merges_more c.args.work.now (seen_by c.args.pass.now) (seen_by c.loop-node.pass) c.loop-node.node c.args.steps.now c.loop-node.steps
    c.place_node.new.steps (omega (arith, c.loop-node-test.true, c.requires.part.within)) c.loop-node.invariant.pass.goes_on
    c.loop-node.invariant.merges c.place_node.ensures.merges in
    merges_within c.args.work.now (seen_by c.args.pass.now) 0 (c.loop-node.node + 1) (c.args.root + 1) c.args.steps.now c.place_node.new.steps
    (omega (arith, c.loop-node-test.true)) more

pub returns-in-Err-clause-pass : goal.returns-in-Err-clause-pass
returns-in-Err-clause-pass g c =
    goes_further c.args.work.now.memo.now c.args.pass.now c.loop-node.pass c.place_node.new.pass c.loop-node.invariant.pass c.place_node.ensures.pass

pub returns-in-Err-clause-noted : goal.returns-in-Err-clause-noted
returns-in-Err-clause-noted g c = c.place_node.ensures.noted

pub returns-in-Err-clause-last : goal.returns-in-Err-clause-last
returns-in-Err-clause-last g c =
    stands_stays c.loop-node.known.nodes.items c.place_node.new.known.nodes.items c.args.worker.now.last.now c.place_node.ensures.more c.loop-node.invariant.last

pub returns-in-Err-clause-merges : goal.returns-in-Err-clause-merges
returns-in-Err-clause-merges g c =
    let more = merges_more c.args.work.now (seen_by c.args.pass.now) (seen_by c.loop-node.pass) c.loop-node.node c.args.steps.now c.loop-node.steps
    c.place_node.new.steps (omega (arith, c.loop-node-test.true, c.requires.part.within)) c.loop-node.invariant.pass.goes_on
    c.loop-node.invariant.merges c.place_node.ensures.merges in
    merges_within c.args.work.now (seen_by c.args.pass.now) 0 (c.loop-node.node + 1) (c.args.root + 1) c.args.steps.now c.place_node.new.steps
    (omega (arith, c.loop-node-test.true)) more

pub returns-in-Err-clause-ends : goal.returns-in-Err-clause-ends
returns-in-Err-clause-ends g c =
    let stand = c.loop-node.invariant.built in
    let bs = picked c.loop-node.known.nodes.items c.loop-node.places.items in
    ends_here c.args.work.now (seen_by c.loop-node.pass) 0 c.loop-node.node c.args.root bs c.in-Err.end
    (stand.1) (omega (arith, c.loop-node.invariant.long, length-picked c.loop-node.known.nodes.items c.loop-node.places.items (stand.0)))
    (omega (arith, c.loop-node-test.true)) c.in-Err.ensures.ends

pub loop-node-preserved : goal.loop-node-preserved
loop-node-preserved g c =
    let step = c.place_node.ensures.pass in
    let items = c.in_ok-push-in-Ok.ensures.items in
    let work = c.args.work.now in
    let last = c.args.worker.now.last.now in
    let nodes = c.loop-node.known.nodes.items in
    let longer = c.place_node.new.known.nodes.items in
    let more = c.place_node.ensures.more in
    let tree = c.loop-node.places.items in
    let within = c.loop-node.invariant.built.0 in
    let p = c.in-Ok.placed.place in
    let b = c.in-Ok.ensures.built.0 in
    let here = c.in-Ok.ensures.built.1 in
    let now = c.as_slice-now.ensures.value in
    record {
      upto = omega (arith, c.loop-node-test.true);
      pass = goes_further work.memo.now c.args.pass.now c.loop-node.pass c.place_node.new.pass c.loop-node.invariant.pass step;
      noted = c.place_node.ensures.noted;
      last = stands_stays nodes longer last more c.loop-node.invariant.last;
      long = omega (arith, ap length items, length-append tree (p ∷ []), c.loop-node.invariant.long);
      found = found_further last longer tree c.push.new.self.items c.loop-node.found.items c.push-in-Ok-2.new.self.items c.in-Ok.placed
          c.loop-node.invariant.found c.in-Ok.ensures.again items c.in_ok-push-in-Ok-3.ensures.items;
      built = subst (λ ps. StandAt longer ps (AreBuilt work (seen_by c.place_node.new.pass) 0)) (sym items)
          (stand_push work (seen_by c.loop-node.pass) (seen_by c.place_node.new.pass) 0 c.loop-node.node nodes longer tree p step.goes_on step.own.short
          more c.loop-node.invariant.built (omega (arith, c.loop-node.invariant.long)) c.in-Ok.ensures.built);
      keyed = λ e.
          let told = c.all_numbered-numbered.ensures e in
          let number = subst (λ ns. IsAtPlace ns (λ node. IsSome node.number) p) now (told.1) in
          subst (λ ps. AreKeyed work.sinks.now work.nodes.now (picked longer ps)) (sym items)
          (keyed_further work nodes longer more tree within c.loop-node.node c.loop-node.invariant.long p b here
          (c.loop-node.invariant.keyed (told.0)) number
          (subst (λ ps. IsAtPlace longer (IsKeyAt work (picked longer ps) c.loop-node.node) p) c.as_slice-before.ensures.value
          c.in-Ok.ensures.keyed));
      sites = sites_push nodes longer more tree within p b here c.loop-node.sites.items c.push-in-Ok.new.self.items c.site_at-site.result
          c.loop-node.invariant.sites c.in_ok-push-in-Ok-2.ensures.items (c.site_at-site.ensures b (ap (λ ns. slice_get ns p) now ∙ here))
          ∙ ap (λ ps. sites_of (picked longer ps)) (sym items);
      merges = merges_more work (seen_by c.args.pass.now) (seen_by c.loop-node.pass) c.loop-node.node c.args.steps.now c.loop-node.steps
          c.place_node.new.steps (omega (arith, c.loop-node-test.true, c.requires.part.within)) c.loop-node.invariant.pass.goes_on
          c.loop-node.invariant.merges c.place_node.ensures.merges;
    }

pub returns-clause-pass : goal.returns-clause-pass
returns-clause-pass g c = c.loop-node.invariant.pass

pub returns-clause-noted : goal.returns-clause-noted
returns-clause-noted g c = c.loop-node.invariant.noted

pub returns-clause-last : goal.returns-clause-last
returns-clause-last g c = c.loop-node.invariant.last

pub returns-clause-long : goal.returns-clause-long
returns-clause-long g c = omega (arith, c.loop-node.invariant.long, c.loop-node.invariant.upto, c.loop-node-test.false)

pub returns-clause-built : goal.returns-clause-built
returns-clause-built g c = c.loop-node.invariant.built

pub returns-clause-keyed : goal.returns-clause-keyed
returns-clause-keyed g c = c.loop-node.invariant.keyed

pub returns-clause-sites : goal.returns-clause-sites
returns-clause-sites g c = c.loop-node.invariant.sites

pub returns-clause-merges : goal.returns-clause-merges
returns-clause-merges g c =
    merges_within c.args.work.now (seen_by c.args.pass.now) 0 c.loop-node.node (c.args.root + 1) c.args.steps.now c.loop-node.steps
    (omega (arith, c.loop-node.invariant.upto)) c.loop-node.invariant.merges

use Rattle.std.proofs.Common.{◌+◌, pos, get_or, refl, subst, sym, arith}
use Rattle.std.proofs.lemmas.Option.{slice_get-get_or}
use Rattle.cts_units.specs.declared.params.Sink.{Sink}
use Rattle.cts_check.specs.declared.places.NamedSink.{NamedSink}
use Rattle.cts_check.proofs.Named.{AreNamedTo, named_none, named_all, named_more}
use Rattle.cts_check.proofs.places.named_sinks.Goals as goal

pub loop-place-init : goal.loop-place-init
loop-place-init c = subst (λ ids. AreNamedTo c.args.sinks.now ids 0) (sym c.in_ok-ids.ensures.items) (named_none c.args.sinks.now)

pub loop-place-preserved : goal.loop-place-preserved
loop-place-preserved c =
    let place = c.loop-place.place in
    let none : Sink = record { id = 0; x = pos 0; y = pos 0; cap = 0; offset = 0 } in
    let named : NamedSink = record { id = (get_or c.args.sinks.now place none).id; place = place } in
    subst (λ ids. AreNamedTo c.args.sinks.now ids (place + 1)) (sym c.in_ok-push.ensures.items)
    (named_more c.args.sinks.now c.loop-place.ids.items place named c.loop-place.invariant refl (record {
      sink = get_or c.args.sinks.now place none;
      there = slice_get-get_or c.args.sinks.now place none c.loop-place-test.true;
      id_is = refl;
    }))

pub returns : goal.returns
returns c = named_all c.args.sinks.now c.loop-place.ids.items c.loop-place.place (omega (arith, c.loop-place-test.false)) c.loop-place.invariant

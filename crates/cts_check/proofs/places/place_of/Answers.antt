use Rattle.std.proofs.Common.{rules, get_or}
use Rattle.std.proofs.lemmas.List.Sorted.{answers_always}
use Rattle.cts_check.specs.declared.places.NamedSink.{NamedSink}
use Rattle.cts_check.proofs.Named.{name_found, no_name, place_at_name, place_past_names}
use Rattle.cts_check.proofs.places.place_of.Goals as goal

pub returns-in-Some : goal.returns-in-Some
returns-in-Some c = λ sinks finds.
    let n : NamedSink = record { id = 0; place = 0 } in
    place_at_name sinks c.args.ids.now finds c.args.id (get_or c.args.ids.now c.in-Some.at n) (finds.named.sound c.in-Some.at n c.in-Some.ensures.inside)
    (c.in-Some.ensures.found n)

pub returns-in-Ok : goal.returns-in-Ok
returns-in-Ok c = λ sinks finds.
    let found = c.in-Ok.ensures.position (λ (n : NamedSink). n.id) (answers_always _ _ _ (λ f a r g called. search rules)) in
    let n : NamedSink = record { id = 0; place = 0 } in
    place_at_name sinks c.args.ids.now finds c.args.id (get_or c.args.ids.now c.in-Ok.at n) (finds.named.sound c.in-Ok.at n c.in-Ok.ensures.bound)
    (name_found sinks c.args.ids.now finds c.args.id c.in-Ok.at n found)

pub returns-in-Err : goal.returns-in-Err
returns-in-Err c = λ sinks finds.
    let parted = c.in-Err.ensures.position (λ (n : NamedSink). n.id) (answers_always _ _ _ (λ f a r g called. search rules)) in
    place_past_names sinks c.args.ids.now finds c.args.id (no_name sinks c.args.ids.now finds c.args.id c.in-Err.field-0 parted)

use Rattle.std.proofs.Common.{refl, ap, sym, ◌∙◌, subst, arith, List, [], ◌∷◌, length, length-append, Some}
use Rattle.cts_turn.proofs.Keeps.{opens}
use Rattle.cts_list.proofs.Prefixes.{prefix_same}
use Rattle.cts_turn.proofs.turn.Turn.start.Goals as goal

pub new-requires : goal.new-requires
new-requires g c =
    let first = c.of-first.ensures in
    let items = c.in_ok-push.ensures.items in
    opens g.O.Object.told g.O.Object.base c.of-first.result.value _ c.push.new.self.items (omega arith) refl refl
    (c.len.ensures ∙ ap (λ x. length (g.O.Object.told x)) (sym first))
    (cc (first, items, c.in_ok-slots.ensures.items))

pub returns-in-Ok-clause-own : goal.returns-in-Ok-clause-own
returns-in-Ok-clause-own g c =
    let law = g.met.O.Object g.world.𝓛 g.world.𝓜 g.world.𝓡 ((λ s x. x), (λ x. x), (λ x. x), λ x. x) in
    let first = c.of-first.result.value in
    let made = c.in-Ok.ensures.ok in
    let seen = ap (λ m. m.0.seen) made.4 in
    let key = ap (λ k. k.value) made.5 in
    record {
      own = made.2;
      object = cc (ap (λ m. m.0.object) made.4, key);
      waits = ap (λ m. m.0.waits) made.4;
      in_turn = ap (λ m. m.0.in_turn) made.4;
      holds = ap (λ m. m.1) made.4;
      share = ap (λ m. m.0.share) made.4;
      some = omega arith;
      most = omega arith;
      starts = prefix_same _ _ (ap g.O.Object.told key ∙ sym seen);
      sound = subst (λ (x : g.row.O.Denot × List g.row.O-Entry.Denot). g.O.Object.is_sound (g.O.Object.base x.0) x.1) (λ k. (sym key k, sym seen k)) (law.told_is_sound first);
      short = omega (arith, ap length seen, law.told_is_short first);
    }

pub returns-in-Ok-clause-turn : goal.returns-in-Ok-clause-turn
returns-in-Ok-clause-turn g c = ap (λ k. k.value) c.in-Ok.ensures.ok.5 ∙ c.of-first.ensures

pub returns-in-Ok-clause-pass : goal.returns-in-Ok-clause-pass
returns-in-Ok-clause-pass g c =
    let me = c.in-Ok.ensures.ok.4 in
    (ap (λ m. m.0.seen) me ∙ ap g.O.Object.told c.of-first.ensures, ap (λ m. m.0.made) me, refl)

pub invariant_of-result : goal.invariant_of-result
invariant_of-result g c =
    let ok = c.in-Ok.ensures.ok in
    let items = c.in_ok-push.ensures.items in
    let one = ap length items in
    let none = ap length c.in_ok-slots.ensures.items in
    record { sized = (ok.0, omega (arith, ok.1, one, none, length-append c.in_ok-slots.slots.items (Some c.args.object ∷ []))) }

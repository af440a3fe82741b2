use Rattle.std.proofs.Common.{rules, ◌≡◌, ◌+◌, ◌⊎◌, ◌++◌, ◌∷◌, [], ℕ, List, length, ap, sym, ◌∙◌, subst, arith}
use mathlib.Core.List.{IsPrefix}
use Rattle.cts_list.proofs.Prefixes.{prefix_trans}
use Rattle.cts_turn.specs.Steps.{Held}
use Rattle.cts_turn.proofs.Calls.{told_by_held, recorded, onward, appends, counted, ended, has_taken}
use Rattle.cts_turn.proofs.turn.Turn.call.Goals as goal

pub act-reply-requires-clause-holds : goal.act-reply-requires-clause-holds
act-reply-requires-clause-holds g c κs within =
    let law = g.met.O.Object g.world.𝓛 g.world.𝓜 g.world.𝓡 ((λ s x. x), (λ x. x), (λ x. x), λ x. x) in
    let told = g.O.Object.told in
    let draws = c.draw-ticket.ensures.ticket in
    let turn = c.wait.ensures.turn in
    let held = ap (λ m. m.1) turn.1 in
    let took = has_taken told g.O.Object.base c.args.pass.now.seat.me c.draw-ticket.new.seat.me c.wait.new.seat.me draws.0 _ turn.0 draws.2 turn held c.requires.own.object in
    let sound = subst (λ b. g.O.Object.is_sound b (told turn.0)) took.same_base (law.told_is_sound turn.0) in
    (turn.0, held, subst (λ b. g.O.Object.fits b (told turn.0) c.args.call) (sym took.same_base) (law.still_fits _ _ _ _ c.requires.fits sound took.goes_on))

pub record-requires-clause-count : goal.record-requires-clause-count
record-requires-clause-count g c κs within =
    let acted = c.act-reply.ensures.acted in
    acted.long ∙ ap length (sym (told_by_held g.O.Object.told c.act-reply.new.seat.me.1 acted.after (ap (λ m. m.1) acted.holds)))

pub pass_on-requires-clause-holds : goal.pass_on-requires-clause-holds
pass_on-requires-clause-holds g c κs within =
    let draws = c.draw-ticket.ensures.ticket in
    let acted = c.act-reply.ensures.acted in
    let held = ap (λ m. m.1) acted.holds in
    let took = has_taken g.O.Object.told g.O.Object.base c.args.pass.now.seat.me c.draw-ticket.new.seat.me c.wait.new.seat.me draws.0 _ _ draws.2 c.wait.ensures.turn acted.held c.requires.own.object in
    let is = recorded g.O.Object.told c.act-reply.new.seat.me c.record.new.seat.me acted.after held c.record.ensures.list in
    let object = λ (m : Held g.row.O-Entry.Denot g.row.O.Denot). m.0.object in (
      acted.after,
      ap (λ m. m.1) is ∙ held,
      sym (ap (λ m. m.0.seen) is),
      (_, ap object is ∙ (ap object acted.holds ∙ (ap object took.takes ∙ (ap object draws.2 ∙ c.requires.own.object))), acted.base ∙ took.same_base),
    )

pub record-requires-clause-turn : goal.record-requires-clause-turn
record-requires-clause-turn g c κs within =
    let law = g.met.O.Object g.world.𝓛 g.world.𝓜 g.world.𝓡 ((λ s x. x), (λ x. x), (λ x. x), λ x. x) in
    let told = g.O.Object.told in
    let draws = c.draw-ticket.ensures.ticket in
    let took = has_taken told g.O.Object.base c.args.pass.now.seat.me c.draw-ticket.new.seat.me c.wait.new.seat.me draws.0 _ _ draws.2 c.wait.ensures.turn c.act-reply.ensures.acted.held c.requires.own.object in
    let view = ap (λ m. m.0) c.act-reply.ensures.acted.holds ∙ ap (λ m. m.0) took.takes in
    let grows = onward _ _ (appends _ _ _ c.act-reply.ensures.acted.told (law.appends_at_most_one _ _ _ _ c.act-reply.ensures.acted.allowed)) in
    let tells = told_by_held told c.act-reply.new.seat.me.1 c.act-reply.ensures.acted.after (ap (λ m. m.1) c.act-reply.ensures.acted.holds) in
    (omega (arith, ap (λ v. v.in_turn) view), subst (λ (x : List g.row.O-Entry.Denot × List g.row.O-Entry.Denot). IsPrefix x.0 x.1) (λ k. (sym (ap (λ v. v.seen) view) k, sym tells k)) grows)

pub returns-clause-own : goal.returns-clause-own
returns-clause-own g c =
    let law = g.met.O.Object g.world.𝓛 g.world.𝓜 g.world.𝓡 ((λ s x. x), (λ x. x), (λ x. x), λ x. x) in
    let told = g.O.Object.told in
    let own = c.requires.own in
    let draws = c.draw-ticket.ensures.ticket in
    let took = has_taken told g.O.Object.base c.args.pass.now.seat.me c.draw-ticket.new.seat.me c.wait.new.seat.me draws.0 _ _ draws.2 c.wait.ensures.turn c.act-reply.ensures.acted.held own.object in
    let is = recorded told c.act-reply.new.seat.me c.record.new.seat.me c.act-reply.ensures.acted.after (ap (λ m. m.1) c.act-reply.ensures.acted.holds) c.record.ensures.list in
    let end = ended c.args.pass.now.seat.me c.draw-ticket.new.seat.me c.wait.new.seat.me c.act-reply.new.seat.me c.record.new.seat.me c.pass_on.new.seat.me draws.0 _ _ _ _ draws.2 took.takes c.act-reply.ensures.acted.holds is c.pass_on.ensures.free in
    let object = c.act-reply.ensures.acted.after in
    let grows = onward _ _ (appends _ _ _ c.act-reply.ensures.acted.told (law.appends_at_most_one _ _ _ _ c.act-reply.ensures.acted.allowed)) in
    let seen = ap (λ m. m.0.seen) end in
    let base = c.act-reply.ensures.acted.base ∙ took.same_base in
    record {
      own = search rules;
      object = ap (λ m. m.0.object) end ∙ own.object;
      waits = ap (λ m. m.0.waits) end;
      in_turn = ap (λ m. m.0.in_turn) end;
      holds = ap (λ m. m.1) end;
      share = ap (λ m. m.0.share) end ∙ own.share;
      some = own.some;
      most = own.most;
      starts = subst (λ (l : List g.row.O-Entry.Denot). IsPrefix (told c.args.self.now.table.shared.key.value) l) (sym seen) (prefix_trans _ _ _ (prefix_trans _ _ _ own.starts took.goes_on) grows);
      sound = subst (λ (x : g.O.Object.Base × List g.row.O-Entry.Denot). g.O.Object.is_sound x.0 x.1) (λ k. (base k, sym seen k)) (law.told_is_sound object);
      short = omega (arith, ap length seen, law.told_is_short object);
    }

pub returns-clause-goes_on : goal.returns-clause-goes_on
returns-clause-goes_on g c =
    let law = g.met.O.Object g.world.𝓛 g.world.𝓜 g.world.𝓡 ((λ s x. x), (λ x. x), (λ x. x), λ x. x) in
    let told = g.O.Object.told in
    let own = c.requires.own in
    let draws = c.draw-ticket.ensures.ticket in
    let took = has_taken told g.O.Object.base c.args.pass.now.seat.me c.draw-ticket.new.seat.me c.wait.new.seat.me draws.0 _ _ draws.2 c.wait.ensures.turn c.act-reply.ensures.acted.held own.object in
    let is = recorded told c.act-reply.new.seat.me c.record.new.seat.me c.act-reply.ensures.acted.after (ap (λ m. m.1) c.act-reply.ensures.acted.holds) c.record.ensures.list in
    let end = ended c.args.pass.now.seat.me c.draw-ticket.new.seat.me c.wait.new.seat.me c.act-reply.new.seat.me c.record.new.seat.me c.pass_on.new.seat.me draws.0 _ _ _ _ draws.2 took.takes c.act-reply.ensures.acted.holds is c.pass_on.ensures.free in
    let grows = onward _ _ (appends _ _ _ c.act-reply.ensures.acted.told (law.appends_at_most_one _ _ _ _ c.act-reply.ensures.acted.allowed)) in
    subst (λ (l : List g.row.O-Entry.Denot). IsPrefix c.args.pass.now.seat.me.0.seen l) (sym (ap (λ m. m.0.seen) end)) (prefix_trans _ _ _ took.goes_on grows)

pub returns-clause-answer : goal.returns-clause-answer
returns-clause-answer g c =
    let law = g.met.O.Object g.world.𝓛 g.world.𝓜 g.world.𝓡 ((λ s x. x), (λ x. x), (λ x. x), λ x. x) in
    let told = g.O.Object.told in
    let own = c.requires.own in
    let draws = c.draw-ticket.ensures.ticket in
    let took = has_taken told g.O.Object.base c.args.pass.now.seat.me c.draw-ticket.new.seat.me c.wait.new.seat.me draws.0 _ _ draws.2 c.wait.ensures.turn c.act-reply.ensures.acted.held own.object in
    let is = recorded told c.act-reply.new.seat.me c.record.new.seat.me c.act-reply.ensures.acted.after (ap (λ m. m.1) c.act-reply.ensures.acted.holds) c.record.ensures.list in
    let end = ended c.args.pass.now.seat.me c.draw-ticket.new.seat.me c.wait.new.seat.me c.act-reply.new.seat.me c.record.new.seat.me c.pass_on.new.seat.me draws.0 _ _ _ _ draws.2 took.takes c.act-reply.ensures.acted.holds is c.pass_on.ensures.free in
    let met = told c.act-reply.ensures.acted.before in
    let grown = appends _ _ _ c.act-reply.ensures.acted.told (law.appends_at_most_one _ _ _ _ c.act-reply.ensures.acted.allowed) in
    let seen = ap (λ m. m.0.seen) end in
    let count = ap (λ m. m.0.made) end in
    record {
      list = met;
      goes_on = took.goes_on;
      sound = subst (λ b. g.O.Object.is_sound b met) took.same_base (law.told_is_sound c.act-reply.ensures.acted.before);
      allowed = subst (λ b. g.O.Object.allows b met c.args.call c.act-reply.result.0) took.same_base c.act-reply.ensures.acted.allowed;
      after = seen ∙ (c.act-reply.ensures.acted.told ∙ ap (λ b. g.O.Object.after b met c.args.call c.act-reply.result.0) took.same_base);
      made = subst (λ (x : List g.row.O-Entry.Denot × ℕ). ((x.0 ≡ met) × (x.1 ≡ c.args.pass.now.seat.me.0.made))
          ⊎ ((entry : g.row.O-Entry.Denot) × (x.0 ≡ met ++ entry ∷ []) × (x.1 ≡ c.args.pass.now.seat.me.0.made + 1))) (λ k. (sym seen k, sym count k))
          (counted met (told c.act-reply.ensures.acted.after) c.args.pass.now.seat.me.0.made grown);
    }

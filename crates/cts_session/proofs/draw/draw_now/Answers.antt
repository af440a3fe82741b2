use Rattle.std.proofs.Common.{◌+◌, ◌≤◌, sym, ap, subst, ◌∙◌}
use Rattle.std.specs.Option.{unwrap_or}
use Rattle.cts_instance.specs.declared.parts.Parts.{Parts}
use Rattle.cts_topo.specs.Topology.{shape_of}
use Rattle.cts_turn.specs.Passes.{seen_by}
use Rattle.cts_memo.specs.Numbers.{missing}
use Rattle.cts_work.specs.Last.{IsPast}
use Rattle.cts_session.specs.Desks.{base_of}
use Rattle.cts_session.specs.Draws.{KnowsTree}
use Rattle.cts_session.proofs.Draws.{ends_draw, known_at_end, made_of_version, past_or}
use Rattle.cts_session.proofs.draw.draw_now.Goals as goal

pub returns-in-Ok-clause-makes : goal.returns-in-Ok-clause-makes
returns-in-Ok-clause-makes g c =
    made_of_version (g.F.Finish.makes c.args.finish.now) c.in_ok-version.version _ c.in_ok-version.instance _ c.in-Ok.made
    c.in_ok-version.ensures.version c.in_ok-version.ensures.instance c.in-Ok.ensures.makes

pub returns-in-Ok-clause-remembered : goal.returns-in-Ok-clause-remembered
returns-in-Ok-clause-remembered g c =
    subst (λ i. KnowsTree i c.draw.new.pass.seat.me.0.seen) c.in_ok-version.ensures.instance c.in-Ok.ensures.known

pub returns-in-Ok-clause-merges : goal.returns-in-Ok-clause-merges
returns-in-Ok-clause-merges g c =
    subst (λ (i : Parts). c.draw.new.steps ≤ c.args.steps.now + missing (seen_by c.args.hands.now.memo) i.sinks (shape_of i.sinks))
    c.in_ok-version.ensures.instance c.draw.ensures.merges

pub returns-clause-ends : goal.returns-clause-ends
returns-clause-ends g c =
    rw c.end_at.ensures
    (ends_draw (base_of c.args.desk.now) c.instance_now.new.pass.seat.me.0.seen c.in_ok-version.version c.in_ok-version.instance
    c.in-Err.why c.in_ok-version.ensures.version c.in_ok-version.ensures.instance c.in-Err.ensures.ends)

pub returns-clause-remembered_until : goal.returns-clause-remembered_until
returns-clause-remembered_until g c =
    rw c.end_at.ensures
    (known_at_end c.in_ok-version.instance _ c.draw.new.pass.seat.me.0.seen c.in_ok-version.version c.in-Err.why
    c.in_ok-version.ensures.instance c.in-Err.ensures.known_until)

pub returns-clause-merges : goal.returns-clause-merges
returns-clause-merges g c =
    subst (λ (i : Parts). c.draw.new.steps ≤ c.args.steps.now + missing (seen_by c.args.hands.now.memo) i.sinks (shape_of i.sinks))
    c.in_ok-version.ensures.instance c.draw.ensures.merges

pub draw-requires-clause-kept : goal.draw-requires-clause-kept
draw-requires-clause-kept g c κs within =
    let seen = seen_by c.args.hands.now.memo in
    subst (IsPast seen) (sym (c.unwrap_or-now.ensures ∙ ap (λ o. unwrap_or o c.nothing.result) c.take.ensures.value))
    (past_or seen c.args.past.now c.nothing.result c.requires.kept (c.nothing.ensures seen))

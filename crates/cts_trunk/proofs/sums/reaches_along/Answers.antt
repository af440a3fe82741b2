use Rattle.std.proofs.Common.{◌≡◌, ◌+◌, ◌<◌, ◌≤◌, ◌++◌, ◌∷◌, [], length, rules, sym, subst, arith}
use Rattle.cts_units.specs.Limits.{max_delay}
use Rattle.cts_trunk.specs.TrunkSums.{AreReaches, wires_of}
use Rattle.cts_trunk.proofs.Reaches.{length-wires, before_next, reaches_next, over_at_root}
use Rattle.cts_trunk.proofs.sums.reaches_along.Goals as goal

pub returns-then-reach-gt-MAX_DELAY-clause-end : goal.returns-then-reach-gt-MAX_DELAY-clause-end
returns-then-reach-gt-MAX_DELAY-clause-end c = λ i is.
    let drive = c.args.drive.now in
    let stands = c.args.stands.now in
    let here = c.reach_at-reach.ensures i is (c.loop-number.invariant.before i is) in
    let over : max_delay < c.reach_at-reach.result.delay = search rules in
    over_at_root i drive.repeater (wires_of drive stands) c.loop-number.number (length stands) c.reach_at-reach.result here
    (omega arith) (omega (arith, length-wires drive stands)) over

pub loop-number-preserved : goal.loop-number-preserved
loop-number-preserved c =
    let drive = c.args.drive.now in
    let stands = c.args.stands.now in
    let within : c.reach_at-reach.result.delay ≤ max_delay = search rules in
    let pushed : c.push.new.self.items ≡ c.loop-number.reaches.items ++ c.reach_at-reach.result ∷ [] = search rules in
    record {
      within = within;
      long = search rules;
      before = λ i is.
          before_next i drive.repeater (wires_of drive stands) c.loop-number.number c.reach_at-reach.result
          (c.reach_at-reach.ensures i is (c.loop-number.invariant.before i is));
      are = λ i is.
          subst (AreReaches i drive.repeater (wires_of drive stands) (c.loop-number.number + 1)) (sym pushed)
          (reaches_next i drive.repeater (wires_of drive stands) c.loop-number.number c.loop-number.reaches.items
          c.reach_at-reach.result (c.loop-number.invariant.are i is)
          (c.reach_at-reach.ensures i is (c.loop-number.invariant.before i is)) within);
    }

pub returns-clause-reaches : goal.returns-clause-reaches
returns-clause-reaches c = λ i is.
    let all : c.loop-number.number ≡ length c.args.stands.now + 1 = omega arith in
    subst (λ n. AreReaches i c.args.drive.now.repeater (wires_of c.args.drive.now c.args.stands.now) n c.loop-number.reaches.items) all
    (c.loop-number.invariant.are i is)

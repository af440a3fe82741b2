use Rattle.std.proofs.Common.{◌≡◌, ◌+◌, ◌*◌, ◌<◌, ◌≤◌, ◌++◌, ◌∷◌, [], length, rules, sym, subst, arith}
use Rattle.std.proofs.Math.Nat.{mul-le-mul_right}
use Rattle.cts_trunk.specs.Road.{AreStands}
use Rattle.cts_trunk.proofs.Chosen.{stand, stands_next, stands_jump, too_many}
use Rattle.cts_trunk.proofs.places.stands_along.Goals as goal

pub returns-then-len-eq-MOST_REPEATERS-clause-end : goal.returns-then-len-eq-MOST_REPEATERS-clause-end
returns-then-len-eq-MOST_REPEATERS-clause-end c =
    let map = c.args.map.now in
    let full : length c.loop-passed.stands.items ≡ 65536 = search rules in
    too_many map.blocks map.die c.args.points.now c.args.step c.loop-passed.passed c.args.count c.loop-passed.stands.items
    c.loop-passed.invariant.are (c.in-Free.ensures.0) full c.loop-passed-test.true

pub loop-passed-preserved-in-Free : goal.loop-passed-preserved-in-Free
loop-passed-preserved-in-Free c =
    let map = c.args.map.now in
    let passed = c.loop-passed.passed in
    let items = c.loop-passed.stands.items in
    let more : passed + 1 ≤ passed + 1 + 1 = omega arith in
    let room : length items < 65536 = search rules in
    let pushed : c.push.new.self.items ≡ items ++ stand c.in-Free.place ((passed + 1) * c.args.step) ∷ [] = search rules in
    record {
      cursor = c.advance-cursor.ensures.cursor;
      begun = omega (arith, c.advance-cursor.ensures.here, mul-le-mul_right c.args.step more);
      within = omega arith;
      are = subst (AreStands map.blocks map.die c.args.points.now c.args.step (passed + 1)) (sym pushed)
          (stands_next map.blocks map.die c.args.points.now c.args.step passed items c.loop-passed.invariant.are c.in-Free.place
          (c.in-Free.ensures.0) (c.in-Free.ensures.1) room);
    }

pub loop-passed-preserved : goal.loop-passed-preserved
loop-passed-preserved c =
    let map = c.args.map.now in
    let passed = c.loop-passed.passed in
    let next = c.multiples_before-passed.result in
    let further : passed + 1 ≤ next = c.multiples_before-passed.ensures.most (passed + 1) (omega arith) (c.in-Blocked.ensures.0) in
    let more : passed + 1 ≤ next + 1 = omega (arith, further) in
    record {
      cursor = c.advance-cursor.ensures.cursor;
      begun = omega (arith, c.advance-cursor.ensures.here, mul-le-mul_right c.args.step more);
      within = c.multiples_before-passed.ensures.count;
      are = stands_jump map.blocks map.die c.args.points.now c.args.step passed c.in-Blocked.until next c.loop-passed.stands.items
          c.loop-passed.invariant.are (c.in-Blocked.ensures.1) (omega (arith, further)) c.multiples_before-passed.ensures.before;
    }

use Rattle.std.proofs.Common.{◌+◌, arith}
use Rattle.std.proofs.lemmas.Int.{ints, clamps}
use Rattle.cts_geom.proofs.PassedNumbers.{low_passed, high_passed}
use Rattle.cts_geom.proofs.RegionLemmas.{IsReachedBoth, reached_from_gap, IsMeetBox, meet_is}
use Rattle.cts_geom.proofs.merging.meet.Goals as goal

pub invariant_of-result : goal.invariant_of-result
invariant_of-result c =
    let both : IsReachedBoth c.args.a.now c.args.b.now (c.args.ea + c.args.eb) = reached_from_gap c.args.a.now c.args.b.now (c.args.ea + c.args.eb) c.requires.reach in
    record { u_ordered = omega (arith, ints, clamps); v_ordered = omega (arith, ints, clamps) }

pub returns-clause-u1 : goal.returns-clause-u1
returns-clause-u1 c = low_passed c.low_bound.result _ _ _ _ (record { sfits = c.low_bound.type_inv }) c.requires.a.u1 c.requires.b.u1 c.low_bound.ensures

pub returns-clause-u2 : goal.returns-clause-u2
returns-clause-u2 c = high_passed c.high_bound.result _ _ _ _ (record { sfits = c.high_bound.type_inv }) c.requires.a.u2 c.requires.b.u2 c.high_bound.ensures

pub returns-clause-v1 : goal.returns-clause-v1
returns-clause-v1 c = low_passed c.low_bound-2.result _ _ _ _ (record { sfits = c.low_bound-2.type_inv }) c.requires.a.v1 c.requires.b.v1 c.low_bound-2.ensures

pub returns-clause-v2 : goal.returns-clause-v2
returns-clause-v2 c = high_passed c.high_bound-2.result _ _ _ _ (record { sfits = c.high_bound-2.type_inv }) c.requires.a.v2 c.requires.b.v2 c.high_bound-2.ensures

pub returns-clause-members : goal.returns-clause-members
returns-clause-members c =
    let box : IsMeetBox c.args.a.now c.args.ea c.args.b.now c.args.eb _ = record { u1 = returns-clause-u1 c; u2 = returns-clause-u2 c; v1 = returns-clause-v1 c; v2 = returns-clause-v2 c } in
    meet_is c.args.a.now c.args.ea c.args.b.now c.args.eb _ box

-- What is left of the target is less than the delay of a wire over the limit, and the greatest length within it is the last one.
use Rattle.std.proofs.Common.{◌+◌, ◌<◌, ◌≤◌, arith}
use Rattle.cts_units.specs.Limits.{max_length}
use Rattle.cts_merge.specs.Side.{delay_through}
use Rattle.cts_merge.specs.Stretch.{IsLastBelow}
use Rattle.cts_merge.proofs.Longest.{delay_le}
use Rattle.cts_merge.proofs.SideDelays.{last_of}
use Rattle.cts_merge.proofs.lengths.bracket_by_root.Goals as goal

pub snake-length-requires-clause-delta : goal.snake-length-requires-clause-delta
snake-length-requires-clause-delta c =
    omega (
      arith,
      delay_le c.args.wire.r c.args.wire.c (max_length + 1) c.args.side.now.load c.requires.wire.c_high (omega arith) c.requires.side.load,
    )

pub delay_through-requires-2-clause-length : goal.delay_through-requires-2-clause-length
delay_through-requires-2-clause-length c =
    let last : IsLastBelow (delay_through c.args.wire c.args.side.now) c.args.target c.snake-length.result =
    last_of c.args.wire c.args.side.now c.requires.wire c.args.base c.args.target c.snake-length.result c.requires.room (omega arith) c.snake-length.ensures in
    omega (arith, last.within)

pub unit_delay-requires-clause-length : goal.unit_delay-requires-clause-length
unit_delay-requires-clause-length c =
    let last : IsLastBelow (delay_through c.args.wire c.args.side.now) c.args.target c.snake-length.result =
    last_of c.args.wire c.args.side.now c.requires.wire c.args.base c.args.target c.snake-length.result c.requires.room (omega arith) c.snake-length.ensures in
    last.within

pub returns : goal.returns
returns c =
    let last : IsLastBelow (delay_through c.args.wire c.args.side.now) c.args.target c.snake-length.result =
    last_of c.args.wire c.args.side.now c.requires.wire c.args.base c.args.target c.snake-length.result c.requires.room (omega arith) c.snake-length.ensures in
    let here : delay_through c.args.wire c.args.side.now c.snake-length.result ≤ c.args.target = last.here in
    let next : c.args.target < delay_through c.args.wire c.args.side.now (c.snake-length.result + 1) = last.next in
    record {
      last = last;
      short_by = omega (arith, here, c.delay_through-2.ensures.value);
      long_by = omega (arith, here, next, c.delay_through-2.ensures.value, c.unit_delay.ensures);
    }

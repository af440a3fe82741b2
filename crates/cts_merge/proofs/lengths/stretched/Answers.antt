-- The longest length with at most that delay, or the next one, is nearest; past the bracket the nearest length is over the limit.
use Rattle.std.proofs.Common.{◌+◌, ◌<◌, ◌≤◌, arith}
use Rattle.cts_units.specs.Limits.{max_length}
use Rattle.cts_merge.specs.Side.{delay_through}
use Rattle.cts_merge.specs.Stretch.{IsBracket}
use Rattle.cts_merge.proofs.SideDelays.{delay_rises}
use Rattle.cts_merge.proofs.Stretches.{stretch_below, stretch_above, stretch_exists, stretch_past, base_below}
use Rattle.cts_merge.proofs.lengths.stretched.Goals as goal

pub returns-then-base-gt-MAX_LENGTH-clause-beyond :
    goal.returns-then-base-gt-MAX_LENGTH-clause-beyond
returns-then-base-gt-MAX_LENGTH-clause-beyond c =
    let f = delay_through c.args.wire c.args.side.now in
    let s = stretch_exists f (delay_rises c.args.wire c.args.side.now c.requires.wire) c.args.base c.args.target c.requires.room in
    record { len = s.len; stretch = s.stretch; long = omega (arith, s.stretch.reaches) }

pub returns-in_default-clause-beyond : goal.returns-in_default-clause-beyond
returns-in_default-clause-beyond c =
    let f = delay_through c.args.wire c.args.side.now in
    let up = delay_rises c.args.wire c.args.side.now c.requires.wire in
    let far : f (max_length + 1) ≤ c.args.target = omega (arith, c.in_default.ensures, c.requires.room) in
    let s = stretch_exists f up c.args.base c.args.target c.requires.room in
    let past : max_length + 1 ≤ s.len = stretch_past f up c.args.base c.args.target s.len (max_length + 1) s.stretch far in
    record { len = s.len; stretch = s.stretch; long = omega (arith, past) }

pub returns-then-found-clause-stretch :
    goal.returns-then-found-clause-stretch
returns-then-found-clause-stretch c =
    let f = delay_through c.args.wire c.args.side.now in
    let up = delay_rises c.args.wire c.args.side.now c.requires.wire in
    let bracket : IsBracket f c.args.target c.in-Some.found = c.in-Some.ensures in
    let last = bracket.last in
    let here : f c.in-Some.found.length ≤ c.args.target = last.here in
    let next : c.args.target < f (c.in-Some.found.length + 1) = last.next in
    let from : c.args.base ≤ c.in-Some.found.length = base_below f up _ _ _ c.requires.room next in
    stretch_below f up c.args.base c.args.target c.in-Some.found.length from here next (omega (arith, bracket.short_by, bracket.long_by))

pub returns-then-low-eq-MAX_LENGTH-clause-beyond :
    goal.returns-then-low-eq-MAX_LENGTH-clause-beyond
returns-then-low-eq-MAX_LENGTH-clause-beyond c =
    let f = delay_through c.args.wire c.args.side.now in
    let up = delay_rises c.args.wire c.args.side.now c.requires.wire in
    let bracket : IsBracket f c.args.target c.in-Some.found = c.in-Some.ensures in
    let last = bracket.last in
    let here : f c.in-Some.found.length ≤ c.args.target = last.here in
    let next : c.args.target < f (c.in-Some.found.length + 1) = last.next in
    let from : c.args.base ≤ c.in-Some.found.length = base_below f up _ _ _ c.requires.room next in
    record {
      len = c.in-Some.found.length + 1;
      stretch = stretch_above f up c.args.base c.args.target c.in-Some.found.length from here next (omega (arith, bracket.short_by, bracket.long_by));
      long = omega arith;
    }

pub returns-clause-stretch : goal.returns-clause-stretch
returns-clause-stretch c =
    let f = delay_through c.args.wire c.args.side.now in
    let up = delay_rises c.args.wire c.args.side.now c.requires.wire in
    let bracket : IsBracket f c.args.target c.in-Some.found = c.in-Some.ensures in
    let last = bracket.last in
    let here : f c.in-Some.found.length ≤ c.args.target = last.here in
    let next : c.args.target < f (c.in-Some.found.length + 1) = last.next in
    let from : c.args.base ≤ c.in-Some.found.length = base_below f up _ _ _ c.requires.room next in
    stretch_above f up c.args.base c.args.target c.in-Some.found.length from here next (omega (arith, bracket.short_by, bracket.long_by))

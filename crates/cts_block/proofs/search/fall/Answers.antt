use Rattle.std.proofs.Common.{rules, w64, refl, sym, ◌∙◌, arith}
use Rattle.std.specs.Prelude.{FitsSigned}
use Rattle.std.proofs.lemmas.Int.{to_z-of_z, ints}
use Rattle.cts_block.proofs.SearchLemmas.{range_in_die, point_in_range, under_is_nearer, under_in_die, under_below, none_above_under}
use Rattle.cts_block.proofs.search.fall.Goals as goal

pub half_of-requires : goal.half_of-requires
half_of-requires g c = range_in_die _ c.requires.die _ c.loop-block.invariant.in_die

pub loop-block-smaller : goal.loop-block-smaller
loop-block-smaller g c =
    let counts = c.in-Some.ensures.found.0 in
    let inside = rw c.half_of.ensures.point at c.in-Some.ensures.found.1 in
    let fits : FitsSigned w64 c.in-Some.block.y1 = search rules in
    rw (to_z-of_z w64 c.in-Some.block.y1 fits)
    (under_is_nearer (g.O.Obstacles.counts c.args.obstacles.now) _ _ counts (c.requires.lie _ counts) c.loop-block.at inside)

pub loop-block-preserved : goal.loop-block-preserved
loop-block-preserved g c =
    let Counts = g.O.Obstacles.counts c.args.obstacles.now in
    let counts = c.in-Some.ensures.found.0 in
    let inside = rw c.half_of.ensures.point at c.in-Some.ensures.found.1 in
    let lies = c.requires.lie _ counts in
    let old = c.loop-block.invariant in
    let fits : FitsSigned w64 c.in-Some.block.y1 = search rules in
    rw (to_z-of_z w64 c.in-Some.block.y1 fits) (record {
      column = old.column;
      below = under_below Counts _ _ counts lies c.loop-block.at inside _ old.below;
      in_die = under_in_die Counts _ _ counts lies c.loop-block.at inside old.in_die;
      first = λ q free column below. none_above_under Counts _ _ counts lies c.loop-block.at inside q free column (old.first q free column below);
    })

pub loop-block-init : goal.loop-block-init
loop-block-init g c = record { column = refl; below = omega (arith, ints); in_die = c.requires.in_die; first = λ q free column below. below }

pub covering-requires : goal.covering-requires
covering-requires g c = rw c.half_of.ensures.point (point_in_range _ c.requires.die _ c.loop-block.invariant.in_die)

pub returns-clause-free : goal.returns-clause-free
returns-clause-free g c = record { in_die = c.loop-block.invariant.in_die; clear = rw c.half_of.ensures.point at c.in_default.ensures.none }

pub returns-clause-column : goal.returns-clause-column
returns-clause-column g c = c.loop-block.invariant.column

pub returns-clause-below : goal.returns-clause-below
returns-clause-below g c = c.loop-block.invariant.below

pub returns-clause-first : goal.returns-clause-first
returns-clause-first g c = λ q free column below. c.loop-block.invariant.first q free (column ∙ sym c.loop-block.invariant.column) below

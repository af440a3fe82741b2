use Rattle.std.proofs.Common.{rules, w64, refl, sym, ◌∙◌, arith}
use Rattle.std.specs.Prelude.{FitsSigned}
use Rattle.std.proofs.lemmas.Int.{to_z-of_z, ints}
use Rattle.cts_block.proofs.SearchLemmas.{range_in_die, point_in_range, over_is_nearer, over_in_die, over_above, none_below_over}
use Rattle.cts_block.proofs.search.rise.Goals as goal

pub half_of-requires : goal.half_of-requires
half_of-requires g c = range_in_die _ c.requires.die _ c.loop-block.invariant.in_die

pub loop-block-smaller : goal.loop-block-smaller
loop-block-smaller g c =
    let counts = c.in-Some.ensures.found.0 in
    let inside = rw c.half_of.ensures.point at c.in-Some.ensures.found.1 in
    let fits : FitsSigned w64 c.in-Some.block.y2 = search rules in
    rw (to_z-of_z w64 c.in-Some.block.y2 fits)
    (over_is_nearer (g.O.Obstacles.counts c.args.obstacles.now) _ _ counts (c.requires.lie _ counts) c.loop-block.at inside)

pub loop-block-preserved : goal.loop-block-preserved
loop-block-preserved g c =
    let Counts = g.O.Obstacles.counts c.args.obstacles.now in
    let counts = c.in-Some.ensures.found.0 in
    let inside = rw c.half_of.ensures.point at c.in-Some.ensures.found.1 in
    let lies = c.requires.lie _ counts in
    let old = c.loop-block.invariant in
    let fits : FitsSigned w64 c.in-Some.block.y2 = search rules in
    rw (to_z-of_z w64 c.in-Some.block.y2 fits) (record {
      column = old.column;
      above = over_above Counts _ _ counts lies c.loop-block.at inside _ old.above;
      in_die = over_in_die Counts _ _ counts lies c.loop-block.at inside old.in_die;
      first = λ q free column above. none_below_over Counts _ _ counts lies c.loop-block.at inside q free column (old.first q free column above);
    })

pub loop-block-init : goal.loop-block-init
loop-block-init g c = record { column = refl; above = omega (arith, ints); in_die = c.requires.in_die; first = λ q free column above. above }

pub covering-requires : goal.covering-requires
covering-requires g c = rw c.half_of.ensures.point (point_in_range _ c.requires.die _ c.loop-block.invariant.in_die)

pub returns-clause-free : goal.returns-clause-free
returns-clause-free g c = record { in_die = c.loop-block.invariant.in_die; clear = rw c.half_of.ensures.point at c.in_default.ensures.none }

pub returns-clause-column : goal.returns-clause-column
returns-clause-column g c = c.loop-block.invariant.column

pub returns-clause-above : goal.returns-clause-above
returns-clause-above g c = c.loop-block.invariant.above

pub returns-clause-first : goal.returns-clause-first
returns-clause-first g c = λ q free column above. c.loop-block.invariant.first q free (column ∙ sym c.loop-block.invariant.column) above

use Rattle.std.proofs.Common.{ℤ, pos, ◌*ℤ◌, w64, FitsSigned, [], sym, ap, subst, rules}
use Rattle.std.proofs.lemmas.Int.{to_z-of_z}
use Rattle.std.proofs.lemmas.List.Elements.{All-get_or}
use Rattle.cts_geom.specs.Coordinate.{IsCoordinate}
use Rattle.cts_route.specs.Limits.{IsBlockInRange}
use Rattle.cts_route.specs.Grid.{edges_of}
use Rattle.cts_route.proofs.FixedLines.{ascending_nil, no_lines, more_lines, same_edges, gathered_more, gathered_all}
use Rattle.cts_route.proofs.lines.fixed_ys.Goals as goal

pub insert_edges-requires : goal.insert_edges-requires
insert_edges-requires c =
    let low : FitsSigned w64 c.args.die.now.y1 = search rules in
    let high : FitsSigned w64 c.args.die.now.y2 = search rules in
    record {
      low = subst IsCoordinate (sym (to_z-of_z w64 _ low)) c.requires.die.y1;
      high = subst IsCoordinate (sym (to_z-of_z w64 _ high)) c.requires.die.y2;
      ascending = ascending_nil c.new-lines.result.items c.new-lines.ensures.items;
    }

pub insert_ys-requires : goal.insert_ys-requires
insert_ys-requires c = record { block = All-get_or IsBlockInRange c.args.blocks.now c.loop-block.block-index _ c.loop-block-test.true c.requires.blocks; ascending = c.loop-block.invariant.ascending }

pub loop-block-init : goal.loop-block-init
loop-block-init c =
    let low : FitsSigned w64 c.args.die.now.y1 = search rules in
    let high : FitsSigned w64 c.args.die.now.y2 = search rules in
    more_lines [] c.new-lines.result.items c.insert_edges.new.lines.items _ (no_lines c.new-lines.result.items c.new-lines.ensures.items)
    (same_edges c.new-lines.result.items c.insert_edges.new.lines.items _ _ _ _ c.in_ok-insert_edges.ensures (ap (λ (z : ℤ). pos 2 *ℤ z) (to_z-of_z w64 _ low)) (ap (λ (z : ℤ). pos 2 *ℤ z) (to_z-of_z w64 _ high)))

pub loop-block-preserved : goal.loop-block-preserved
loop-block-preserved c =
    gathered_more (λ block. edges_of block.kind block.y1 block.y2) c.args.die.now.y1 c.args.die.now.y2 c.args.blocks.now c.loop-block.block-index _
    c.loop-block.lines.items c.insert_ys.new.lines.items c.loop-block-test.true c.loop-block.invariant c.in_ok-insert_ys.ensures

pub returns : goal.returns
returns c =
    gathered_all (λ block. edges_of block.kind block.y1 block.y2) c.args.die.now.y1 c.args.die.now.y2 c.args.blocks.now
    c.loop-block.block-index c.loop-block.lines.items c.loop-block-test.false c.loop-block.invariant

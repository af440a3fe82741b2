use Rattle.std.proofs.Common.{◌≡◌, List, sym, subst, ◌∙◌}
use Rattle.std.specs.List.{All}
use Rattle.cts_geom.specs.declared.bounds.Die.{Die}
use Rattle.cts_block.specs.declared.blocks.Block.{Block}
use Rattle.cts_block.specs.NearestFree.{LiesIn, IsDieInRange}
use Rattle.cts_route.specs.Grids.{IsGridOf}
use Rattle.cts_route.specs.Limits.{AreBlocksInRange}
use Rattle.cts_instance.specs.declared.parts.Parts.{Parts}
use Rattle.cts_instance.specs.Validity.{IsBlock, IsValid}
use Rattle.cts_embed.proofs.Grounds.{blocks_in_range, die_in_range}
use Rattle.cts_embed.proofs.placing.ground_of.Goals as goal

-- what a map of the free points asks of the blocks
map_blocks : (parts : Parts) → IsValid parts → (die : Die) → die ≡ parts.die → (blocks : List Block) → blocks ≡ parts.blocks → All (LiesIn die) blocks
map_blocks parts ok die die_is blocks blocks_are =
    subst (λ (d : Die). All (LiesIn d) blocks) (sym die_is)
    (subst (λ (bs : List Block). All (LiesIn parts.die) bs) (sym blocks_are)
    (λ k d h.
    let b : IsBlock parts.die _ = ok.blocks k d h in
    record {
      from = b.from;
      to = b.to;
    }))

pub of-requires-clause-die : goal.of-requires-clause-die
of-requires-clause-die c = subst IsDieInRange (sym c.die-die.ensures.part) (die_in_range c.args.instance.now c.blocks-blocks.ensures.valid)

pub of-requires-clause-blocks : goal.of-requires-clause-blocks
of-requires-clause-blocks c =
    map_blocks c.args.instance.now c.blocks-blocks.ensures.valid c.die-die.result c.die-die.ensures.part c.blocks-blocks.result.now c.blocks-blocks.ensures.part

pub of-requires-2-clause-blocks : goal.of-requires-2-clause-blocks
of-requires-2-clause-blocks c =
    subst AreBlocksInRange (sym c.blocks-blocks.ensures.part) (blocks_in_range c.args.instance.now c.blocks-blocks.ensures.valid)

pub of-requires-2-clause-die : goal.of-requires-2-clause-die
of-requires-2-clause-die c = subst IsDieInRange (sym c.die-die.ensures.part) (die_in_range c.args.instance.now c.blocks-blocks.ensures.valid)

pub returns : goal.returns
returns c = record {
  free = record {
    valid = c.blocks-blocks.ensures.valid;
    blocks = c.in_ok-of.ensures.blocks ∙ c.blocks-blocks.ensures.part;
    die = c.in_ok-of.ensures.die ∙ c.die-die.ensures.part;
  };
  grid = c.in_ok-of-2.ensures.grid;
  grid_of = subst (λ (blocks : List Block). IsGridOf blocks c.args.instance.now.die c.in_ok-of-2.field-0) c.blocks-blocks.ensures.part
      (subst (λ (die : Die). IsGridOf c.blocks-blocks.result.now die c.in_ok-of-2.field-0) c.die-die.ensures.part c.in_ok-of-2.ensures.prepared);
}

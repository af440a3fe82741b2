use Rattle.cts_block.specs.NearestFree.{LiesIn}
use Rattle.cts_block.proofs.IndexLemmas.{all_of_part}
use Rattle.cts_block.proofs.free_map.FreeMap.of.Goals as goal

pub index_of-requires-2-clause-blocks : goal.index_of-requires-2-clause-blocks
index_of-requires-2-clause-blocks c =
    all_of_part (LiesIn c.args.die.now) c.in_ok-stopping_wires.field-0.items c.args.blocks.now (λ block listed. (c.in_ok-stopping_wires.ensures.sound block listed).listed) c.requires.blocks

pub invariant_of-result : goal.invariant_of-result
invariant_of-result c =
    let stopping = c.in_ok-stopping_wires.ensures in
    let wires = c.in_ok-for_wires.ensures in
    let buffers = c.in_ok-for_buffers.ensures in
    record {
      die_range = c.requires.die;
      lie = rw (buffers.blocks, c.in_ok-every.ensures.items) c.requires.blocks;
      wires_sound = rw (wires.blocks, buffers.blocks, c.in_ok-every.ensures.items) stopping.sound;
      wires_complete = rw (wires.blocks, buffers.blocks, c.in_ok-every.ensures.items) stopping.complete;
      wires = wires.index;
      buffers = buffers.index;
    }

use Rattle.cts_use_synthesis.proofs.write.Goals as goal

pub write_report-requires : goal.write_report-requires
write_report-requires g c =
    c.sound_trees_are_printable.ensures _ _ _ c.die-die.ensures.valid c.nodes-nodes.ensures.post_order c.requires.sound c.requires.figures

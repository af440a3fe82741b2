use Rattle.std.proofs.Common.{◌≡◌, take}
use Rattle.cts_edit.specs.Decide.{walls_of}
use Rattle.cts_edit.proofs.judge.walls_of.Given as goal

abbrev pub invariant-loop-block : goal.invariant-loop-block
invariant-loop-block l = l.walls.items ≡ walls_of (take l.block-index l.blocks)

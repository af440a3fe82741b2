use Rattle.std.proofs.Common.{◌≡◌, ◌<◌, ◌++◌, drop, length, get_or}
use Rattle.cts_merge.specs.declared.side.Finished.{Finished}
use Rattle.cts_work.specs.Plans.{joined, made_of}
use Rattle.cts_work.proofs.making.Made.at.Given as goal

abbrev pub invariant-loop-part : goal.invariant-loop-part
invariant-loop-part l =
    record {
      within : l.rest < length (joined (drop l.part-index l.self.parts.now) ++ l.self.part.now);
      same : (d : Finished) → get_or (made_of l.self) l.place d ≡ get_or (joined (drop l.part-index l.self.parts.now) ++ l.self.part.now) l.rest d;
    }

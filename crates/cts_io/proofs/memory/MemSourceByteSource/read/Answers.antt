use Rattle.std.proofs.Common.{◌≡◌, take, drop, refl, arith}
use Rattle.std.proofs.lemmas.List.{take_rest, length-take}
use Rattle.cts_io.proofs.Fronts.{front_and_rest}
use Rattle.cts_io.proofs.memory.MemSourceByteSource.read.Goals as goal

pub returns-clause-taken : goal.returns-clause-taken
returns-clause-taken c =
    let bytes = c.self.inside.bytes.items in
    let start = c.self.inside.start in
    let left : c.args.self.now.left ≡ drop start bytes = cc in
    let after : c.copy_from_slice.new.self ≡ take c.min-count.result c.args.self.now.left =
    rw (c.copy_from_slice.ensures.after, take_rest, c.deref-2.ensures.value, left) refl in
    front_and_rest bytes _ _ _ start _ left after (rw (c.copy_from_slice.ensures.len, length-take) (omega arith))

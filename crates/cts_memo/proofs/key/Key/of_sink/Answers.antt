use Rattle.std.proofs.Common.{SFits, w64, rules}
use Rattle.std.proofs.lemmas.Int.{to_z-of_z}
use Rattle.cts_memo.specs.declared.key.Key.TheVariants.{Leaf}
use Rattle.cts_memo.proofs.key.Key.of_sink.Goals as goal

pub returns : goal.returns
returns c =
    let x : SFits w64 c.args.sink.now.x = search rules in
    let y : SFits w64 c.args.sink.now.y = search rules in
    λ i. Leaf (to_z-of_z w64 c.args.sink.now.x x i) (to_z-of_z w64 c.args.sink.now.y y i) c.args.sink.now.cap c.args.sink.now.offset

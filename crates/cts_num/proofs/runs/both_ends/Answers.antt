use Rattle.std.proofs.Common.{◌-◌, ◌++◌, arith}
use Rattle.std.proofs.lemmas.List.{length-append}
use Rattle.std.proofs.lemmas.Simd.{length-chunk, pick_l_whole}
use lib.Lanes.{chunk}
use Rattle.cts_num.proofs.runs.both_ends.Goals as goal

pub returns : goal.returns
returns c =
    let text = c.args.text.now in
    let first = chunk c.args.from 8 text in
    let last = chunk (c.args.to - 8) 8 text in
    let a = length-chunk c.args.from 8 text (omega (arith, c.requires.from, c.requires.to)) in
    let b = length-chunk (c.args.to - 8) 8 text (omega (arith, c.requires.from, c.requires.to)) in
    pick_l_whole 0 (first ++ last) 16 (omega (arith, a, b, length-append first last))

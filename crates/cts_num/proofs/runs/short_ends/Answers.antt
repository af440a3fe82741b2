use Rattle.std.proofs.Common.{◌-◌, arith}
use Rattle.std.proofs.lemmas.Simd.{length-chunk}
use lib.Lanes.{chunk}
use Rattle.cts_num.proofs.RunNumbers.{chunk_below, two_words}
use Rattle.cts_num.proofs.runs.short_ends.Goals as goal

pub returns : goal.returns
returns c =
    let text = c.args.text.now in
    let from = c.args.from in
    let back = c.args.to - 4 in
    rw (c.word.ensures, c.word-2.ensures)
    (two_words (chunk from 4 text) (chunk back 4 text) (length-chunk from 4 text (omega (arith, c.requires.from, c.requires.to))) (length-chunk back 4 text (omega (arith, c.requires.from, c.requires.to)))
    (chunk_below text from 4 (λ k. (c.type_inv.text k).fits) (omega (arith, c.requires.from, c.requires.to))) (chunk_below text back 4 (λ k. (c.type_inv.text k).fits) (omega (arith, c.requires.from, c.requires.to))))

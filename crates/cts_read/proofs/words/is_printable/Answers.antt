use Rattle.std.proofs.Common.{◌&&◌, take_all, ap, ap₂, sym, ◌∙◌, arith}
use Rattle.std.specs.List.{list_all}
use Rattle.std.proofs.lemmas.List.Folds.{list_all_more}
use Rattle.cts_read.specs.Lines.{is_printable_byte}
use Rattle.cts_read.proofs.words.is_printable.Goals as goal

pub loop-byte-preserved : goal.loop-byte-preserved
loop-byte-preserved c =
    ap₂ (λ before here. before && here) c.loop-byte.invariant c.is_printable_byte-printable.ensures
    ∙ sym (list_all_more is_printable_byte c.args.line.now c.loop-byte.byte-index _ c.loop-byte-test.true)

pub returns : goal.returns
returns c =
    c.loop-byte.invariant
    ∙ ap (list_all is_printable_byte) (take_all c.loop-byte.byte-index c.args.line.now (omega arith))

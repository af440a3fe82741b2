use Rattle.std.proofs.Common.{◌≡◌, sym, ◌∙◌, ap, arith, length, drop}
use Rattle.cts_read.specs.Lines.{is_skipped}
use Rattle.cts_read.proofs.WordLists.{skipped_drop, skipped_here, skipped_none}
use Rattle.cts_read.proofs.words.is_skipped.Goals as goal

pub returns-then-not-is_blank : goal.returns-then-not-is_blank
returns-then-not-is_blank c =
    sym (skipped_here c.args.line.now c.loop-byte.byte-index (omega arith) (sym c.is_blank.ensures ∙ c.if-not-is_blank.true)) ∙ c.loop-byte.invariant

pub loop-byte-preserved : goal.loop-byte-preserved
loop-byte-preserved c =
    skipped_drop c.args.line.now c.loop-byte.byte-index (omega arith) (sym c.is_blank.ensures ∙ c.if-not-is_blank.false) ∙ c.loop-byte.invariant

pub returns : goal.returns
returns c =
    let past : c.loop-byte.byte-index ≡ length c.args.line.now = omega arith in
    sym (skipped_none c.args.line.now) ∙ ap (λ i. is_skipped (drop i c.args.line.now)) (sym past) ∙ c.loop-byte.invariant

use Rattle.std.proofs.Common.{◌≡◌, ◌∷◌, ◌++◌, [], slice_get, Some, sym, ap, ◌∙◌, arith}
use Rattle.std.specs.Option.{option_map}
use Rattle.std.proofs.lemmas.Option.{slice_get-map}
use Rattle.cts_memo.specs.Keys.{entry}
use Rattle.cts_memo.specs.Tables.{told_by}
use Rattle.cts_memo.proofs.Readings.{all_read, one_more_read}
use Rattle.cts_memo.proofs.table.Table.read.Goals as goal

pub loop-number-preserved : goal.loop-number-preserved
loop-number-preserved c =
    let told = told_by c.args.self.now in
    let e = entry c.in-Some.key.now c.in-Some.finished.now in
    let at : slice_get told c.loop-number.number ≡ Some e =
    slice_get-map (λ p. entry (p.0) (p.1)) c.args.self.now.map.entries c.loop-number.number
    ∙ ap (option_map (λ p. entry (p.0) (p.1))) (sym c.in-Some.ensures.entry) in
    c.in_ok-push.ensures.items ∙ ap (λ l. l ++ e ∷ []) c.loop-number.invariant
    ∙ one_more_read c.args.first told c.loop-number.number e c.loop-number.auto.number at

pub returns : goal.returns
returns c =
    c.loop-number.invariant
    ∙ all_read c.args.first (told_by c.args.self.now) c.args.most c.loop-number.number (omega arith)

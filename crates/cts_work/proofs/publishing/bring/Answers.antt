use Rattle.cts_turn.specs.Passes.{seen_by}
use Rattle.cts_memo.specs.Passes.{params_of}
use Rattle.cts_memo.specs.TableLaws.{made_stays}
use Rattle.cts_work.proofs.Builts.{sound_for}
use Rattle.cts_work.proofs.Nodes.{goes_further}
use Rattle.cts_work.proofs.Numbered.{found_kept, names_stay}
use Rattle.cts_work.proofs.publishing.bring.Goals as goal

pub keep-requires-clause-key : goal.keep-requires-clause-key
keep-requires-clause-key g c =
    names_stay (seen_by c.args.pass.now) (seen_by c.answer_for.new.pass) c.args.key c.answer_for.ensures.pass.goes_on c.requires.key

pub keep-requires-clause-finished : goal.keep-requires-clause-finished
keep-requires-clause-finished g c =
    made_stays (params_of c.args.memo.now) (seen_by c.args.pass.now) (seen_by c.answer_for.new.pass) c.args.key c.args.finished.now
    c.answer_for.ensures.pass.goes_on c.requires.finished

pub returns-in-Have-clause-kept : goal.returns-in-Have-clause-kept
returns-in-Have-clause-kept g c =
    found_kept (params_of c.args.memo.now) (seen_by c.args.pass.now) (seen_by c.answer_for.new.pass) c.args.key c.args.finished.now _ c.in-Have.number
    (sound_for c.args.memo.now c.answer_for.new.pass c.answer_for.ensures.pass.own) c.answer_for.ensures.pass.goes_on c.requires.finished c.in-Have.ensures.holds

pub returns-in-Have-clause-pass : goal.returns-in-Have-clause-pass
returns-in-Have-clause-pass g c = c.answer_for.ensures.pass

pub returns-in_ok-number-in-Absent-clause-pass : goal.returns-in_ok-number-in-Absent-clause-pass
returns-in_ok-number-in-Absent-clause-pass g c =
    goes_further c.args.memo.now c.args.pass.now c.answer_for.new.pass c.keep.new.pass c.answer_for.ensures.pass c.keep.ensures.pass

pub returns-in_err-number-in-Absent-clause-pass : goal.returns-in_err-number-in-Absent-clause-pass
returns-in_err-number-in-Absent-clause-pass g c =
    goes_further c.args.memo.now c.args.pass.now c.answer_for.new.pass c.keep.new.pass c.answer_for.ensures.pass c.keep.ensures.pass

use Rattle.std.proofs.Common.{◌≡◌, Err, ap, subst, ◌∙◌}
use Rattle.std.proofs.lemmas.Result.{err_from_is_err_and}
use Rattle.std.specs.Io.KnownBytes.{Appends}
use Rattle.cts_io.specs.Text.{Writes}
use Rattle.cts_report.specs.Report.{report_text}
use Rattle.cts_undo.specs.ReplayText.{replay_text}
use Rattle.cts_top.specs.Replay.{TellsReplayed}
use Rattle.cts_top.specs.Synthesised.{medians}
use Rattle.cts_top.specs.Text.{TellsSynthesis}
use Rattle.cts_top.proofs.Editing.{cut_front, tells_end, then_answered}
use Rattle.cts_top.proofs.Replaying.{replayed_told, some_replayed}
use Rattle.cts_top.proofs.replay.write_played.Goals as goal

pub returns-in_err-write_replay : goal.returns-in_err-write_replay
returns-in_err-write_replay g c =
    let p = err_from_is_err_and c.from_residual.result c.from_residual.ensures.1 in
    let same : replay_text c.done.result.now c.deref.result.now ≡ replay_text c.args.replayed.now.book.done c.args.replayed.now.replies.items =
    ap (λ done. replay_text done c.deref.result.now) c.done.ensures
    ∙ ap (replay_text c.args.replayed.now.book.done) c.deref.ensures.value in
    let some = some_replayed c.args.version.now c.instance_is_valid.ensures c.args.replayed.now.book.done c.args.replayed.now.replies.items
    c.args.synthesis c.requires.synthesised c.requires.told in
    rw (p.1, p.2)
    (cut_front _ _ (TellsReplayed c.args.version.now c.args.replayed.now.book.done c.args.replayed.now.replies.items)
    (replay_text c.args.replayed.now.book.done c.args.replayed.now.replies.items) some.1 some.0 some.2 _ _
    c.in_err-write_replay.field-0.0
    (subst (λ text. Writes g.K.ByteSink.held g.K.ByteSink.faults c.args.sink.now c.write_replay.new.sink text (Err c.in_err-write_replay.field-0.0))
    same c.in_err-write_replay.ensures))

pub returns : goal.returns
returns g c =
    let same : replay_text c.done.result.now c.deref.result.now ≡ replay_text c.args.replayed.now.book.done c.args.replayed.now.replies.items =
    ap (λ done. replay_text done c.deref.result.now) c.done.ensures
    ∙ ap (replay_text c.args.replayed.now.book.done) c.deref.ensures.value in
    then_answered _ _ (TellsSynthesis report_text c.args.version.now)
    (TellsReplayed c.args.version.now c.args.replayed.now.book.done c.args.replayed.now.replies.items)
    (replay_text c.args.replayed.now.book.done c.args.replayed.now.replies.items)
    (replayed_told c.args.version.now c.args.replayed.now.book.done c.args.replayed.now.replies.items) _ _ _
    (subst (λ text. Appends (g.K.ByteSink.held c.args.sink.now) (g.K.ByteSink.held c.write_replay.new.sink) text) same
    c.in_ok-write_replay.ensures.ok)
    c.in_ok-write_replay.ensures.counted c.answer_synthesis.result
    (tells_end c.args.synthesis _ c.answer_synthesis.ensures.told c.requires.told) (c.answer_synthesis.ensures.answers medians c.requires.synthesised)

pub answer_synthesis-requires : goal.answer_synthesis-requires
answer_synthesis-requires g c = c.requires.synthesised.printable

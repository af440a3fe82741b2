use Rattle.std.proofs.Common.{◌+◌, ◌++◌, take, take_all, All, sym, ap, subst, ◌∙◌, arith}
use Rattle.cts_io.specs.Text.{Puts}
use Rattle.cts_io.proofs.Chains.{◌▸◌, puts_nothing}
use Rattle.cts_history.specs.Legal.{lists_of}
use Rattle.cts_history.specs.History.{IsPrintableReply, caller_text, numbered}
use Rattle.cts_history.proofs.Numbered.{get_or-lists, length-lists, numbered_before_more}
use Rattle.cts_history.proofs.history.put_callers.Goals as goal

pub loop-index-init : goal.loop-index-init
unfolding numbered
loop-index-init g c = puts_nothing _ _

pub put_caller-requires : goal.put_caller-requires
put_caller-requires g c =
    subst (λ items. All IsPrintableReply items)
    (get_or-lists c.args.replies.now c.loop-index.index c.index-replies-index.result
    ∙ ap (λ one. one.items) (sym c.index-replies-index.is)
    ∙ sym c.deref.ensures.value)
    (c.requires c.loop-index.index c.index-replies-index.result.items
    (omega (arith, length-lists c.args.replies.now, c.loop-index-test.true)))

pub loop-index-preserved : goal.loop-index-preserved
loop-index-preserved g c =
    subst (λ text. Puts g.K.ByteSink (c.args.sink.now, c.args.out.now) (c.put_caller.new.sink, c.put_caller.new.out) text)
    (ap (λ items. numbered caller_text 1 (take c.loop-index.index (lists_of c.args.replies.now)) ++ caller_text (c.loop-index.index + 1) items)
    (c.deref.ensures.value
    ∙ ap (λ one. one.items) c.index-replies-index.is
    ∙ sym (get_or-lists c.args.replies.now c.loop-index.index c.index-replies-index.result))
    ∙ sym (numbered_before_more caller_text (lists_of c.args.replies.now) c.loop-index.index c.index-replies-index.result.items
    (omega (arith, length-lists c.args.replies.now, c.loop-index-test.true))))
    (c.loop-index.invariant ▸ c.put_caller.ensures)

pub returns : goal.returns
returns g c =
    rw (sym (take_all c.loop-index.index (lists_of c.args.replies.now)
    (omega (arith, length-lists c.args.replies.now, c.loop-index-test.false))))
    c.loop-index.invariant

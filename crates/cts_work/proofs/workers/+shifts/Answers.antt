use Rattle.std.proofs.Common.{length, All, sym, subst, arith}
use denote.Param.Send.{sendable}
use Rattle.std.proofs.Crossing.{crosses}
use Rattle.std.proofs.lemmas.List.Elements.{All-append}
use Rattle.std.proofs.lemmas.Result.{IfOk-at_ok, IfOk-weaker}
use Rattle.cts_deal.specs.Hands.{drawn_by}
use Rattle.cts_work.specs.declared.work.Work.{Work}
use Rattle.cts_work.specs.Done.{Covers, IsDone, numbers_of}
use Rattle.cts_work.proofs.Drawn.{numbers_append, covers_append}
use Rattle.cts_work.proofs.Sent.{shift_send}
use Rattle.cts_work.proofs.workers.+shifts.Goals as goal

pub beside-a-requires-send-A : goal.beside-a-requires-send-A
beside-a-requires-send-A g t c κs within = search (crosses, shift_send, sendable) depth 60 fits 20000

pub join-requires : goal.join-requires
join-requires g t c = record { own = (c.beside-a.ensures.first.own, c.beside-a.ensures.second.own) }

pub returns : goal.returns
returns g t c =
    let a = c.beside-a.ensures.first in
    let b = c.beside-a.ensures.second in
    let work : Work = record { memo = c.args.memo; sinks = c.args.sinks; nodes = c.args.nodes } in
    record {
      own = c.join.ensures.own;
      share = omega (arith, c.join.ensures.share, a.share, b.share, c.split-first.ensures.share);
      done = IfOk-weaker c.together.result _ _
          (λ d t. subst (All (IsDone work c.args.pieces.now)) (sym (t.4))
          (All-append (IsDone work c.args.pieces.now) t.0.items t.1.items
          (IfOk-at_ok (λ v. All (IsDone work c.args.pieces.now) v.items) (t.2) a.done)
          (IfOk-at_ok (λ v. All (IsDone work c.args.pieces.now) v.items) (t.3) b.done)))
          c.together.ensures;
      drawn = IfOk-weaker c.together.result _ _
          (λ d t. subst (λ items. Covers (length c.args.pieces.now) (drawn_by c.join.result) (numbers_of items)) (sym (t.4))
          (covers_append (length c.args.pieces.now) (drawn_by c.beside-a.result.0.hand) (drawn_by c.beside-a.result.1.hand) (drawn_by c.join.result)
          (numbers_of t.0.items) (numbers_of t.1.items) _ c.join.ensures.drawn (numbers_append t.0.items t.1.items)
          (IfOk-at_ok (λ v. Covers (length c.args.pieces.now) (drawn_by c.beside-a.result.0.hand) (numbers_of v.items)) (t.2) a.drawn)
          (IfOk-at_ok (λ v. Covers (length c.args.pieces.now) (drawn_by c.beside-a.result.1.hand) (numbers_of v.items)) (t.3) b.drawn)))
          c.together.ensures;
    }

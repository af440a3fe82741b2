use Rattle.std.proofs.Common.{◌<◌, ◌∷◌, ◌++◌, [], length, All, Some, sym, ap, ◌∙◌, subst, arith, length-append}
use Rattle.std.proofs.lemmas.List.Elements.{All-push}
use Rattle.std.proofs.lemmas.Option.{slice_get-get_or}
use Rattle.cts_deal.specs.Hands.{drawn_by}
use Rattle.cts_work.specs.declared.workers.Done.{Done}
use Rattle.cts_work.specs.Done.{IsDone, numbers_of}
use Rattle.cts_work.proofs.Drawn.{few_drawn, numbers_push, covers_end}
use Rattle.cts_work.proofs.workers.run_worker.Goals as goal

pub draw-number-requires-clause-room : goal.draw-number-requires-clause-room
draw-number-requires-clause-room g c =
    omega (
      arith,
      c.loop-piece.invariant.hand.some,
      c.requires.pieces.few,
      few_drawn (length c.args.pieces.now) (drawn_by c.loop-piece.hand) c.loop-piece.invariant.distinct c.loop-piece.invariant.below,
    )

pub returns-in_default-clause-drawn : goal.returns-in_default-clause-drawn
returns-in_default-clause-drawn g c =
    covers_end (length c.args.pieces.now) (drawn_by c.loop-piece.hand) _ (drawn_by c.draw-number.new.hand) c.draw-number.result
    c.loop-piece.invariant.drawn c.loop-piece.invariant.below c.draw-number.ensures.drawn (c.in_default.ensures.lookup.3)

pub loop-piece-smaller : goal.loop-piece-smaller
loop-piece-smaller g c =
    omega (
      arith,
      c.requires.pieces.few,
      few_drawn (length c.args.pieces.now) (drawn_by c.loop-piece.hand) c.loop-piece.invariant.distinct c.loop-piece.invariant.below,
      ap length c.draw-number.ensures.drawn,
      length-append (drawn_by c.loop-piece.hand) (c.draw-number.result ∷ []),
    )

pub loop-piece-preserved : goal.loop-piece-preserved
loop-piece-preserved g c =
    let found = c.in-Some.ensures.lookup in
    let items = c.in_ok-push.ensures.items in
    let one : Done = record { number = c.draw-number.result; made = c.make_piece-made.result } in
    let done : IsDone c.args.work.now c.args.pieces.now one = record {
      piece = c.in-Some.piece.now;
      found = slice_get-get_or c.args.pieces.now c.draw-number.result c.in-Some.piece.now (found.3.0) ∙ ap Some (sym (found.1));
      long = c.make_piece-made.ensures.long;
      made = c.make_piece-made.ensures.made;
      ends = c.make_piece-made.ensures.ends;
    } in
    record {
      hand = c.draw-number.ensures.own;
      share = c.draw-number.ensures.share ∙ c.loop-piece.invariant.share;
      done = subst (All (IsDone c.args.work.now c.args.pieces.now)) (sym items)
          (All-push (IsDone c.args.work.now c.args.pieces.now) c.loop-piece.done.items one c.loop-piece.invariant.done done);
      drawn = c.draw-number.ensures.drawn ∙ (λ z. c.loop-piece.invariant.drawn z ++ c.draw-number.result ∷ [])
          ∙ sym (numbers_push c.loop-piece.done.items one) ∙ ap numbers_of (sym items);
      distinct = c.draw-number.ensures.distinct;
      below = subst (All (λ n. n < length c.args.pieces.now)) (sym c.draw-number.ensures.drawn)
          (All-push (λ n. n < length c.args.pieces.now) (drawn_by c.loop-piece.hand) c.draw-number.result c.loop-piece.invariant.below (found.3.0));
    }

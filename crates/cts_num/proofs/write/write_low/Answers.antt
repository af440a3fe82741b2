use Rattle.std.proofs.Common.{◌≡◌, ◌+◌, ◌-◌, ◌/◌, ◌%◌, ◌^◌, ap, ◌∙◌, arith, append_assoc}
use Rattle.std.proofs.lemmas.List.{drop-set, take-set-le}
use Rattle.cts_num.proofs.Pieces.{take_front}
use Rattle.cts_num.proofs.Texts.{low_text_pair, low_text-zero, padded_text_one, hundred_more, ten_more}
use Rattle.cts_num.proofs.write.write_low.Goals as goal

pub loop-at-preserved : goal.loop-at-preserved
loop-at-preserved c =
    let l = c.loop-at in
    let start = c.args.end - c.args.width in
    let left = l.at - 2 - start in
    let e : l.at - 2 + 2 ≡ l.at = omega arith in
    let s : l.at - start ≡ left + 2 = omega arith in
    let w : c.args.end - l.at + 2 ≡ c.args.end - (l.at - 2) = omega arith in
    record {
      above = omega arith;
      below = omega arith;
      rest = ap (λ n. n / 100) l.invariant.rest ∙ hundred_more c.args.number (c.args.end - l.at) ∙ ap (λ k. c.args.number / 10 ^ k) w;
      kept = take_front start (l.at - 2) _ _ (omega arith) c.write_pair.ensures.before ∙ l.invariant.kept;
      text = rw (c.write_pair.ensures.written, e) (rw (s, low_text_pair left l.rest, append_assoc) at l.invariant.text);
    }

pub returns-then-at-start-clause-rest : goal.returns-then-at-start-clause-rest
returns-then-at-start-clause-rest c =
    let l = c.loop-at in
    let w : c.args.end - l.at + 1 ≡ c.args.width = omega arith in
    ap (λ n. n / 10) l.invariant.rest ∙ ten_more c.args.number (c.args.end - l.at) ∙ ap (λ k. c.args.number / 10 ^ k) w

pub returns-then-at-start-clause-written : goal.returns-then-at-start-clause-written
returns-then-at-start-clause-written c =
    let l = c.loop-at in
    let start = c.args.end - c.args.width in
    let s : l.at - start ≡ 1 = omega arith in
    let e : l.at ≡ start + 1 = omega arith in
    rw (drop-set l.buffer start _ (omega arith), ← e) (rw (s, padded_text_one (l.rest % 10) (omega arith)) at l.invariant.text)

pub returns-else-at-start-clause-written : goal.returns-else-at-start-clause-written
returns-else-at-start-clause-written c =
    let l = c.loop-at in
    let start = c.args.end - c.args.width in
    let s : l.at - start ≡ 0 = omega arith in
    let e : l.at ≡ start = omega arith in
    rw (← e) (rw (s, low_text-zero l.rest) at l.invariant.text)

pub returns-then-at-start-clause-before : goal.returns-then-at-start-clause-before
returns-then-at-start-clause-before c =
    let start = c.args.end - c.args.width in
    take-set-le start c.loop-at.buffer start _ (omega arith) ∙ c.loop-at.invariant.kept

pub returns-else-at-start-clause-before : goal.returns-else-at-start-clause-before
returns-else-at-start-clause-before c = c.loop-at.invariant.kept

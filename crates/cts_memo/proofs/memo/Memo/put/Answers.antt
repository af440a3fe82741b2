use Rattle.std.proofs.Common.{◌∷◌, [], length, inl, inr, subst, sym, ap, ◌∙◌, arith, length-append}
use Rattle.cts_turn.specs.Passes.{seen_by}
use Rattle.cts_memo.specs.Replies.{IsAbsent, IsPublished}
use Rattle.cts_memo.specs.TableLaws.{made_stays}
use Rattle.cts_memo.specs.Passes.{params_of}
use Rattle.cts_memo.specs.Sound.{IsSound}
use Rattle.cts_memo.proofs.Endings.{put_ends, put_full, full_ends}
use Rattle.cts_memo.proofs.memo.Memo.put.Goals as goal

pub returns-clause-ends : goal.returns-clause-ends
returns-clause-ends g c =
    let answer = c.in-Published.ensures.answer in
    let params = params_of c.args.self.now in
    let sound = subst (λ p. IsSound p answer.list) c.args.self.now.same answer.sound in
    let made = made_stays params (seen_by c.args.pass.now) answer.list c.args.key c.args.finished answer.goes_on c.requires.finished in
    subst (λ l. IsPublished l c.args.key c.args.finished c.in-Published.end) (sym answer.after)
    (put_ends params answer.list c.args.key c.args.finished sound made c.in-Published.end answer.allowed)

pub returns-clause-full : goal.returns-clause-full
returns-clause-full g c =
    let answer = c.in-Published.ensures.answer in
    let params = params_of c.args.self.now in
    let sound = subst (λ p. IsSound p answer.list) c.args.self.now.same answer.sound in
    let made = made_stays params (seen_by c.args.pass.now) answer.list c.args.key c.args.finished answer.goes_on c.requires.finished in
    let ends =
    subst (λ l. IsPublished l c.args.key c.args.finished c.in-Published.end) (sym answer.after)
    (put_ends params answer.list c.args.key c.args.finished sound made c.in-Published.end answer.allowed) in (
      λ is. full_ends (seen_by c.call.new.pass) c.args.key c.args.finished c.in-Published.end ends is,
      λ all.
          put_full params answer.list c.args.key c.args.finished sound made c.in-Published.end answer.allowed
          (subst (λ l. IsAbsent l c.args.key) answer.after (all.0)) (sym (ap length answer.after) ∙ all.1),
    )

pub returns-clause-own : goal.returns-clause-own
returns-clause-own g c = c.call.ensures.own

pub returns-clause-share : goal.returns-clause-share
returns-clause-share g c = c.call.ensures.share

pub returns-clause-goes_on : goal.returns-clause-goes_on
returns-clause-goes_on g c = c.call.ensures.goes_on

pub returns-clause-publication : goal.returns-clause-publication
returns-clause-publication g c =
    let answer = c.in-Published.ensures.answer in
    record {
      met = answer.list;
      goes_on = answer.goes_on;
      sound = subst (λ p. IsSound p answer.list) c.args.self.now.same answer.sound;
      ends = answer.allowed;
      after = answer.after;
      count = elim answer.made [
        | inl same ↦ omega (arith, same.1, ap length same.0)
        | inr more ↦ omega (arith, more.2, ap length more.1, length-append answer.list (more.0 ∷ []))
      ];
    }

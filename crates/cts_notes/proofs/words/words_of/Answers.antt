use Rattle.std.proofs.Common.{ap, ◌∙◌}
use Rattle.std.specs.Str.Lossy.{utf8_lossy}
use Rattle.cts_notes.proofs.Wording.{all_taken, one_taken}
use Rattle.cts_notes.proofs.words.words_of.Goals as goal

pub returns-in-None : goal.returns-in-None
returns-in-None g c =
    let l = c.loop-number in
    all_taken (g.A.Arguments.told c.args.arguments.now) l.words.items l.number l.invariant.words
    (rw c.in-None.is at c.in_ok-bytes.ensures.none)

pub loop-number-preserved : goal.loop-number-preserved
loop-number-preserved g c =
    let l = c.loop-number in
    record {
      words = rw c.in_ok-push-in-Some.ensures.items
          (one_taken (g.A.Arguments.told c.args.arguments.now) l.words.items c.in_ok-from_utf8_lossy-in-Some.field-0 l.number c.in-Some.bytes.items
          l.invariant.words (rw c.in-Some.is at c.in_ok-bytes.ensures.some)
          (c.in_ok-from_utf8_lossy-in-Some.ensures.lossy ∙ ap utf8_lossy c.deref.ensures.value));
    }

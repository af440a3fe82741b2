use Rattle.std.proofs.Common.{◌≡◌, ◌+◌, ◌-◌, ◌++◌, length, sym, ap, subst, arith, length-append}
use Rattle.std.proofs.lemmas.Result.{IfErr-at_err, IfOk-at_ok}
use Rattle.cts_work.specs.Plans.{joined}
use Rattle.cts_work.specs.Work.{AreMade, EndsIn}
use Rattle.cts_work.proofs.Made.{end_after, made_append}
use Rattle.cts_work.proofs.planning.add_piece.Goals as goal

pub returns-in-Err-clause-ends : goal.returns-in-Err-clause-ends
returns-in-Err-clause-ends g c =
    end_after c.args.work.now 0 c.args.piece.first c.args.piece.root (length c.args.work.now.nodes.now - 1)
    (joined c.args.parts.now.items) c.in-Err.end c.requires.parts (omega (arith, c.requires.from)) (omega (arith, c.requires.part.within))
    (IfErr-at_err (EndsIn c.args.work.now c.args.piece.first c.args.piece.root) c.in-Err.is c.requires.ended)

pub make_above-requires-clause-from : goal.make_above-requires-clause-from
make_above-requires-clause-from g c =
    omega (
      arith,
      IfOk-at_ok (λ nodes. c.args.piece.first + length nodes.items ≡ c.args.piece.root + 1) c.in-Ok.is c.requires.long,
      length-append (joined c.as_slice.result.now) c.in-Ok.nodes.items,
      ap (λ ps. length (joined ps)) c.as_slice.ensures.value,
      c.requires.from,
    )

pub make_above-requires-clause-made : goal.make_above-requires-clause-made
make_above-requires-clause-made g c =
    let work = c.args.work.now in
    subst (λ ps. AreMade work 0 (joined ps ++ c.in-Ok.nodes.items)) (sym c.as_slice.ensures.value)
    (made_append work 0 c.args.piece.first (joined c.args.parts.now.items) c.in-Ok.nodes.items c.requires.parts (omega (arith, c.requires.from))
    (IfOk-at_ok (λ nodes. AreMade work c.args.piece.first nodes.items) c.in-Ok.is c.requires.made))

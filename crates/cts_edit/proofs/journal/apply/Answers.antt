use Rattle.std.proofs.Common.{◌≡◌, ℤ, ◌∙◌, ap, sym, subst, arith, to_z, of_z, w64}
use Rattle.std.proofs.lemmas.Int.{ints, to_z-of_z}
use Rattle.cts_instance.specs.Laws.{IsOnChip}
use Rattle.cts_edit.specs.declared.edit.Edit.TheVariants.{Move}
use Rattle.cts_edit.specs.Edits.{IsEdit, applied}
use Rattle.cts_edit.proofs.journal.apply.Goals as goal

whole : (z : ℤ) → IsOnChip z → to_z w64 (of_z w64 z) ≡ z
whole z on = let low = on.low in let high = on.high in to_z-of_z w64 z (omega (arith, ints))

pub returns-in-Move-clause-ok : goal.returns-in-Move-clause-ok
returns-in-Move-clause-ok c =
    let within : IsEdit (Move c.in-Move.id c.in-Move.x c.in-Move.y) = subst IsEdit c.in-Move.is c.requires.within in
    rw (whole c.in-Move.x within.1.0, whole c.in-Move.y within.1.1) at c.move_to.ensures ∙ ap (λ e. applied e c.args.sinks.now) (sym c.in-Move.is)

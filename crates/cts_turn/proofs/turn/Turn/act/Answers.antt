use Rattle.std.proofs.Common.{◌∷◌, ap, sym, ◌∙◌, Some}
use Rattle.atomic_table.specs.Table.{rest}
use Rattle.cts_turn.proofs.turn.Turn.act.Goals as goal

pub slot_mut-requires : goal.slot_mut-requires
slot_mut-requires g c = let held = c.requires.holds in (c.requires.own, (Some held.0, held.1 ∙ ap (λ l. (0, Some held.0) ∷ rest l) (sym held.1)))

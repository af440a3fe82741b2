-- What the rules of a journal are proved from.
use Rattle.std.proofs.Props.{props}
use Rattle.cts_edit.specs.declared.edit.Edit.{Edit}
use Rattle.cts_edit.specs.declared.edit.Edit.TheVariants.{Add, Remove, Move, SetCap}
use Rattle.cts_edit.specs.Edits.{IsEdit}

-- that an edit is within the limits is a mere fact
pub edit_prop : (edit : Edit) → IsProp (IsEdit edit)
edit_prop (Add id x y c) = hlevel props
edit_prop (Remove id) = hlevel props
edit_prop (Move id x y) = hlevel props
edit_prop (SetCap id c) = hlevel props

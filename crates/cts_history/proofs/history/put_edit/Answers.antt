use Rattle.std.proofs.Common.{w64, rules}
use Rattle.std.specs.Prelude.{FitsSigned}
use Rattle.std.proofs.lemmas.Int.{to_z-of_z}
use Rattle.cts_io.proofs.Chains.{◌▸◌, puts_nothing}
use Rattle.cts_history.proofs.history.put_edit.Goals as goal

pub returns-in-Add : goal.returns-in-Add
returns-in-Add g c =
    let x : FitsSigned w64 c.in-Add.x = search rules in
    let y : FitsSigned w64 c.in-Add.y = search rules in
    rw c.in-Add.is
    ((rw c.from.ensures at c.put_labelled.ensures) ▸ ((rw (to_z-of_z w64 c.in-Add.x x) at c.put_coordinate.ensures)
    ▸ ((rw (to_z-of_z w64 c.in-Add.y y) at c.put_coordinate-in-Add.ensures) ▸ (c.put_capacitance.ensures ▸ puts_nothing _ _))))

pub returns-in-Remove : goal.returns-in-Remove
returns-in-Remove g c = rw c.in-Remove.is ((rw c.from-in-Remove.ensures at c.put_labelled-in-Remove.ensures) ▸ puts_nothing _ _)

pub returns-in-Move : goal.returns-in-Move
returns-in-Move g c =
    let x : FitsSigned w64 c.in-Move.x = search rules in
    let y : FitsSigned w64 c.in-Move.y = search rules in
    rw c.in-Move.is
    ((rw c.from-in-Move.ensures at c.put_labelled-in-Move.ensures) ▸ ((rw (to_z-of_z w64 c.in-Move.x x) at c.put_coordinate-in-Move.ensures)
    ▸ ((rw (to_z-of_z w64 c.in-Move.y y) at c.put_coordinate-in-Move-2.ensures) ▸ puts_nothing _ _)))

pub returns-in-SetCap : goal.returns-in-SetCap
returns-in-SetCap g c =
    rw c.in-SetCap.is
    ((rw c.from-in-SetCap.ensures at c.put_labelled-in-SetCap.ensures) ▸ (c.put_capacitance-in-SetCap.ensures ▸ puts_nothing _ _))

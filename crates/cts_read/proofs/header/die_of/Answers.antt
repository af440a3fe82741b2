use Rattle.std.proofs.Common.{sym, ◌∙◌, refl, arith, w64}
use Rattle.std.proofs.lemmas.Int.{to_z_pos}
use Rattle.cts_read.specs.Header.{die_of}
use Rattle.cts_read.proofs.Errors.{not_refused}
use Rattle.cts_read.proofs.header.die_of.Goals as goal

pub overflow_cast-die : goal.overflow_cast-die
overflow_cast-die c = omega (arith, c.in_ok-x1.ensures.bound)

pub overflow_cast-die-2 : goal.overflow_cast-die-2
overflow_cast-die-2 c = omega (arith, c.in_ok-y1.ensures.bound)

pub overflow_cast-die-3 : goal.overflow_cast-die-3
overflow_cast-die-3 c = omega (arith, c.in_ok-x2.ensures.bound)

pub overflow_cast-die-4 : goal.overflow_cast-die-4
overflow_cast-die-4 c = omega (arith, c.in_ok-y2.ensures.bound)

pub returns-clause-sound : goal.returns-clause-sound
returns-clause-sound c = sym c.die_fault.ensures ∙ not_refused _ c.in_ok-refuse.ensures

pub returns-clause-read : goal.returns-clause-read
unfolding die_of
returns-clause-read c =
    let x1 = to_z_pos w64 c.in_ok-x1.x1 (omega (arith, c.in_ok-x1.ensures.bound)) in
    let y1 = to_z_pos w64 c.in_ok-y1.y1 (omega (arith, c.in_ok-y1.ensures.bound)) in
    let x2 = to_z_pos w64 c.in_ok-x2.x2 (omega (arith, c.in_ok-x2.ensures.bound)) in
    let y2 = to_z_pos w64 c.in_ok-y2.y2 (omega (arith, c.in_ok-y2.ensures.bound)) in
    let none = rw (x1, y1, x2, y2) at (sym c.die_fault.ensures ∙ not_refused _ c.in_ok-refuse.ensures) in
    rw (c.in_ok-rest.ensures, c.in_ok-x1.ensures.read, c.in_ok-y1.ensures.read, c.in_ok-x2.ensures.read, c.in_ok-y2.ensures.read, x1, y1, x2, y2, none) refl

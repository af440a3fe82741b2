use Rattle.std.proofs.Common.{◌<◌, length, refl, arith}
use Rattle.std.proofs.lemmas.Option.{slice_get_read}
use Rattle.cts_undo.proofs.Books.{sinks_distinct, redo_within, redo_meets, redo_keeps}
use Rattle.cts_undo.proofs.book.Book.redo.Goals as goal

pub apply-requires-clause-within : goal.apply-requires-clause-within
apply-requires-clause-within c =
    let inside : c.self.inside.number < length c.self.inside.entries.items = omega arith in
    redo_within _ _ _ _ _ _ c.self.invariant c.index.result.now (slice_get_read c.self.inside.entries.items _ c.self.inside.number c.index.result.now refl inside c.index.ensures)

pub apply-requires-clause-meets : goal.apply-requires-clause-meets
apply-requires-clause-meets c =
    let inside : c.self.inside.number < length c.self.inside.entries.items = omega arith in
    redo_meets _ _ _ _ _ _ c.self.invariant c.index.result.now (slice_get_read c.self.inside.entries.items _ c.self.inside.number c.index.result.now refl inside c.index.ensures)

pub apply-requires-clause-distinct : goal.apply-requires-clause-distinct
apply-requires-clause-distinct c = sinks_distinct _ _ _ _ _ _ c.self.invariant

pub invariant_of-self : goal.invariant_of-self
invariant_of-self c =
    let inside : c.self.inside.number < length c.self.inside.entries.items = omega arith in
    redo_keeps _ _ _ _ _ _ c.self.invariant c.index.result.now (slice_get_read c.self.inside.entries.items _ c.self.inside.number c.index.result.now refl inside c.index.ensures)
    _ c.in-Ok.ensures.ok

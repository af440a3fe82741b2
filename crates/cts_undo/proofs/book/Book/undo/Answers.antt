use Rattle.std.proofs.Common.{◌≡◌, ◌-◌, ◌<◌, length, take, refl, sym, ap, ◌∙◌, subst, arith}
use Rattle.std.proofs.lemmas.List.{length-take-le}
use Rattle.std.proofs.lemmas.Option.{slice_get_read}
use Rattle.cts_undo.specs.Replay.{after_undo}
use Rattle.cts_undo.proofs.Books.{done_length, sinks_distinct, undo_fits, undo_keeps, undo_state}
use Rattle.cts_undo.proofs.book.Book.undo.Goals as goal

pub take_back-requires-clause-fits : goal.take_back-requires-clause-fits
take_back-requires-clause-fits c =
    let inside : c.self.inside.number - 1 < length c.self.inside.inverses.items = omega arith in
    undo_fits _ _ _ _ _ _ c.self.invariant (c.self.inside.number - 1) (omega arith) c.index.result.now
    (slice_get_read c.self.inside.inverses.items _ (c.self.inside.number - 1) c.index.result.now refl inside c.index.ensures)

pub take_back-requires-clause-distinct : goal.take_back-requires-clause-distinct
take_back-requires-clause-distinct c = sinks_distinct _ _ _ _ _ _ c.self.invariant

pub invariant_of-self : goal.invariant_of-self
invariant_of-self c =
    let inside : c.self.inside.number - 1 < length c.self.inside.inverses.items = omega arith in
    undo_keeps _ _ _ _ _ _ c.self.invariant (c.self.inside.number - 1) (omega arith) c.index.result.now
    (slice_get_read c.self.inside.inverses.items _ (c.self.inside.number - 1) c.index.result.now refl inside c.index.ensures)
    _ c.in-Ok.ensures.ok

pub returns-in-Ok : goal.returns-in-Ok
returns-in-Ok c =
    let inside : c.self.inside.number - 1 < length c.self.inside.inverses.items = omega arith in
    let done : length (take c.self.inside.number c.self.inside.entries.items) ≡ c.self.inside.number = done_length _ _ _ _ _ _ c.self.invariant in (
      subst (λ s. 0 < length s.done) c.self.view_is (omega arith),
      undo_state _ _ _ _ _ _ c.self.invariant (c.self.inside.number - 1) (omega arith) c.index.result.now
          (slice_get_read c.self.inside.inverses.items _ (c.self.inside.number - 1) c.index.result.now refl inside c.index.ensures)
          ∙ ap after_undo c.self.view_is,
      sym (length-take-le (c.self.inside.number - 1) c.self.inside.entries.items (omega arith)),
    )

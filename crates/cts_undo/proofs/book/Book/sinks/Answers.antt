use Rattle.std.proofs.Common.{ap, sym, subst}
use Rattle.cts_instance.specs.Validity.{IsValid, with_sinks}
use Rattle.cts_undo.proofs.Books.{sinks_valid}
use Rattle.cts_undo.proofs.book.Book.sinks.Goals as goal

pub returns-clause-valid : goal.returns-clause-valid
returns-clause-valid c =
    subst (λ parts. IsValid (with_sinks parts c.as_slice.result.now)) (ap (λ s. s.base) c.self.view_is)
    (subst (λ l. IsValid (with_sinks c.self.inside.base.value l)) (sym c.as_slice.ensures) (sinks_valid _ _ _ _ _ _ c.self.invariant))

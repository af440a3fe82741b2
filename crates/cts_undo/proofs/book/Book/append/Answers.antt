use Rattle.std.proofs.Common.{◌≡◌, [], ◌∷◌, ◌++◌, take, None, sym, subst}
use Rattle.cts_edit.specs.Decide.{decide}
use Rattle.cts_undo.proofs.Books.{sinks_distinct, sinks_few, change_meets, change_keeps}
use Rattle.cts_undo.proofs.book.Book.append.Goals as goal

pub inverse_of-inverse-requires-clause-few : goal.inverse_of-inverse-requires-clause-few
inverse_of-inverse-requires-clause-few c = sinks_few _ _ _ _ _ _ c.self.invariant

pub inverse_of-inverse-requires-clause-distinct : goal.inverse_of-inverse-requires-clause-distinct
inverse_of-inverse-requires-clause-distinct c = sinks_distinct _ _ _ _ _ _ c.self.invariant

pub inverse_of-inverse-requires-clause-meets : goal.inverse_of-inverse-requires-clause-meets
inverse_of-inverse-requires-clause-meets c =
    change_meets _ _ _ _ _ _ c.self.invariant c.args.entry (subst (λ s. decide s.base s.done c.args.entry.edit ≡ None) (sym c.self.view_is) c.requires.accepted)

pub apply-requires-clause-meets : goal.apply-requires-clause-meets
apply-requires-clause-meets c =
    change_meets _ _ _ _ _ _ c.self.invariant c.args.entry (subst (λ s. decide s.base s.done c.args.entry.edit ≡ None) (sym c.self.view_is) c.requires.accepted)

pub apply-requires-clause-distinct : goal.apply-requires-clause-distinct
apply-requires-clause-distinct c = sinks_distinct _ _ _ _ _ _ c.self.invariant

pub invariant_of-self-2 : goal.invariant_of-self-2
invariant_of-self-2 c =
    let none : decide c.self.inside.base.value (take c.self.inside.number c.self.inside.entries.items) c.args.entry.edit ≡ None =
    subst (λ s. decide s.base s.done c.args.entry.edit ≡ None) (sym c.self.view_is) c.requires.accepted in
    let entries : c.put.new.items.items ≡ take c.self.inside.number c.self.inside.entries.items ++ c.args.entry ∷ [] =
    subst (λ l. c.put.new.items.items ≡ take c.self.inside.number l ++ c.args.entry ∷ []) c.make_room.ensures.entries c.put.ensures in
    let inverses : c.put-2.new.items.items ≡ take c.self.inside.number c.self.inside.inverses.items ++ c.inverse_of-inverse.result ∷ [] =
    subst (λ l. c.put-2.new.items.items ≡ take c.self.inside.number l ++ c.inverse_of-inverse.result ∷ []) c.make_room.ensures.inverses c.put-2.ensures in
    change_keeps _ _ _ _ _ _ c.self.invariant c.args.entry c.inverse_of-inverse.result c.requires.within none _ entries
    (record { back = c.inverse_of-inverse.ensures.back; fits = c.inverse_of-inverse.ensures.fits }) _ _ c.in_ok-apply.ensures.ok inverses

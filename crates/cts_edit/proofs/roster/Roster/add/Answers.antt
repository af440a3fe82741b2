use Rattle.std.proofs.Common.{◌≡◌, ◌+◌, ◌++◌, ◌∷◌, [], false, sym, ap, ◌∙◌, subst, arith}
use Rattle.cts_edit.specs.Edits.{has_id}
use Rattle.cts_edit.specs.Roster.{IsRoster, present}
use Rattle.cts_edit.proofs.Rosters.{count_within, add_view, add_keeps}
use Rattle.cts_edit.proofs.roster.Roster.add.Goals as goal

pub overflow_add-self : goal.overflow_add-self
overflow_add-self c = let within = count_within _ _ _ c.self.invariant in omega (arith, within, c.self.inside.slots.ok, c.self.inside.slots.small)

pub invariant_of-self-2 : goal.invariant_of-self-2
invariant_of-self-2 c =
    let new : has_id c.args.sink.id (present c.self.inside.slots.items) ≡ false = ap (has_id c.args.sink.id) c.self.view_is ∙ c.requires.new in
    subst (λ slots. IsRoster slots c.append.new.places (c.self.inside.count + 1)) (sym c.in_ok-append.ensures.slots)
    (add_keeps _ _ _ c.self.invariant c.args.sink new c.requires.id c.append.new.places c.in_ok-append.ensures.places)

pub returns-clause-ok : goal.returns-clause-ok
returns-clause-ok c =
    let new : has_id c.args.sink.id (present c.self.inside.slots.items) ≡ false = ap (has_id c.args.sink.id) c.self.view_is ∙ c.requires.new in
    ap present c.in_ok-append.ensures.slots ∙ add_view _ _ _ c.self.invariant c.args.sink new c.requires.id ∙ ap (λ l. l ++ c.args.sink ∷ []) c.self.view_is

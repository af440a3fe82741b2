use Rattle.std.proofs.Common.{◌≡◌, ◌-◌, Some, sym, ap, ◌∙◌, subst, arith}
use Rattle.std.specs.Ordering.{nat_cmp}
use Rattle.std.specs.BTreeMap.{get}
use Rattle.cts_edit.specs.Edits.{without}
use Rattle.cts_edit.specs.Roster.{present, IsRoster}
use Rattle.cts_edit.proofs.Rosters.{place_within, some_taken, take_view, take_keeps, without_same}
use Rattle.cts_edit.proofs.roster.Roster.remove.Goals as goal

pub vacate-requires : goal.vacate-requires
vacate-requires c = let h = place_within _ _ _ c.self.invariant c.args.id c.in-Some.place (sym c.in-Some.ensures.value) in omega (arith, h)

pub overflow_sub-self : goal.overflow_sub-self
overflow_sub-self c =
    let at : get nat_cmp c.self.inside.places c.args.id ≡ Some c.in-Some.place = sym c.in-Some.ensures.value in
    let taken = some_taken _ _ _ c.self.invariant c.args.id c.in-Some.place at in
    omega (arith, taken)

pub invariant_of-self : goal.invariant_of-self
invariant_of-self c =
    let at : get nat_cmp c.self.inside.places c.args.id ≡ Some c.in-Some.place = sym c.in-Some.ensures.value in
    let taken = some_taken _ _ _ c.self.invariant c.args.id c.in-Some.place at in
    subst (λ slots. IsRoster slots c.remove.new.self (c.self.inside.count - 1)) (sym c.vacate.ensures)
    (take_keeps _ _ _ c.self.invariant c.args.id c.in-Some.place at c.remove.new.self (c.self.inside.count - 1) c.in-Some.ensures.updates (omega (arith, taken)))

pub returns-in-Some : goal.returns-in-Some
returns-in-Some c =
    let at : get nat_cmp c.self.inside.places c.args.id ≡ Some c.in-Some.place = sym c.in-Some.ensures.value in
    ap present c.vacate.ensures ∙ take_view _ _ _ c.self.invariant c.args.id c.in-Some.place at ∙ ap (without c.args.id) c.self.view_is

pub returns-in_default : goal.returns-in_default
returns-in_default c =
    sym (ap (without c.args.id) (sym c.self.view_is) ∙ without_same _ _ _ c.self.invariant c.args.id (sym c.in_default.ensures.value))

use Rattle.std.proofs.Common.{◌≡◌, Some, sym, ap, ◌∙◌, subst, refl, set, rules, arith}
use Rattle.std.specs.Ordering.{nat_cmp}
use Rattle.std.specs.BTreeMap.{get}
use Rattle.cts_edit.specs.Edits.{changed, with_cap}
use Rattle.cts_edit.specs.Roster.{IsRoster, present}
use Rattle.cts_edit.proofs.Rosters.{place_within, read_slot, write_view, write_keeps, changed_same}
use Rattle.cts_edit.proofs.roster.Roster.set_cap.Goals as goal

pub index-sink-requires : goal.index-sink-requires
index-sink-requires c = let h = place_within _ _ _ c.self.invariant c.args.id c.in-Some.place (sym c.in-Some.ensures) in omega (arith, h)

pub index_mut-requires : goal.index_mut-requires
index_mut-requires c = let h = place_within _ _ _ c.self.invariant c.args.id c.in-Some.place (sym c.in-Some.ensures) in omega (arith, h)

pub invariant_of-self : goal.invariant_of-self
invariant_of-self c =
    let at : get nat_cmp c.self.inside.places c.args.id ≡ Some c.in-Some.place = sym c.in-Some.ensures in
    let here = read_slot _ _ _ c.self.invariant c.args.id c.in-Some.place at c.index-sink.result.now c.index-sink.ensures in
    let is : c.of_cap.result ≡ (with_cap c.args.cap) c.index-sink.result.now = search rules in
    subst (λ s. IsRoster (set c.self.inside.slots.items c.in-Some.place s) c.self.inside.places c.self.inside.count) (sym is)
    (write_keeps _ _ _ c.self.invariant c.args.id c.in-Some.place at (with_cap c.args.cap) (λ s. refl) c.index-sink.result.now here)

pub returns-in-Some : goal.returns-in-Some
returns-in-Some c =
    let at : get nat_cmp c.self.inside.places c.args.id ≡ Some c.in-Some.place = sym c.in-Some.ensures in
    let here = read_slot _ _ _ c.self.invariant c.args.id c.in-Some.place at c.index-sink.result.now c.index-sink.ensures in
    let is : c.of_cap.result ≡ (with_cap c.args.cap) c.index-sink.result.now = search rules in
    ap (λ s. present (set c.self.inside.slots.items c.in-Some.place s)) is
    ∙ write_view _ _ _ c.self.invariant c.args.id c.in-Some.place at (with_cap c.args.cap) (λ s. refl) c.index-sink.result.now here
    ∙ ap (changed c.args.id (with_cap c.args.cap)) c.self.view_is

pub returns-in_default : goal.returns-in_default
returns-in_default c =
    sym (ap (changed c.args.id (with_cap c.args.cap)) (sym c.self.view_is) ∙ changed_same _ _ _ c.self.invariant c.args.id (with_cap c.args.cap) (sym c.in_default.ensures) ∙ c.self.view_is)

use Rattle.std.proofs.Common.{◌≡◌, not, nat_eq, length, vec_len, ap, arith}
use Rattle.std.proofs.lemmas.Grind.{common_steps}
use Rattle.std.specs.List.{list_any}
use Rattle.std.specs.Ordering.{nat_cmp}
use Rattle.std.specs.BTreeSet.{contains}
use Rattle.cts_instance.proofs.IdLemmas.{added_first, has_all, kept_new, kept_old, not_false, not_true}
use Rattle.cts_instance.proofs.ids.add.Goals as goal

pub returns-in-Ok-true-clause-new : goal.returns-in-Ok-true-clause-new
returns-in-Ok-true-clause-new c =
    let whole : vec_len c.args.ids.now ≡ length c.args.ids.now.items = omega arith in
    let same : contains nat_cmp c.args.known.now c.args.id ≡ list_any (nat_eq c.args.id) c.args.ids.now.items = has_all _ _ _ _ c.requires whole in
    let other : not (contains nat_cmp c.args.known.now c.args.id) ≡ not (list_any (nat_eq c.args.id) c.args.ids.now.items) = ap not same in
    cc (c.in-Ok-true.ensures.added)

pub returns-in-Ok-true-clause-added : goal.returns-in-Ok-true-clause-added
returns-in-Ok-true-clause-added c =
    kept_new _ _ _ (not_true _ (returns-in-Ok-true-clause-new c)) c.in_ok-push.ensures.items

pub returns-in-Ok-true-clause-all : goal.returns-in-Ok-true-clause-all
returns-in-Ok-true-clause-all c =
    let whole : vec_len c.args.ids.now ≡ length c.args.ids.now.items = omega arith in
    let whole' : vec_len c.push.new.self ≡ length c.push.new.self.items = omega arith in
    added_first _ _ _ _ _ _ _ c.requires whole c.in-Ok-true.ensures.updates c.in_ok-push.ensures.items whole'

pub returns-in-Ok-false-clause-new : goal.returns-in-Ok-false-clause-new
returns-in-Ok-false-clause-new c =
    let whole : vec_len c.args.ids.now ≡ length c.args.ids.now.items = omega arith in
    let same : contains nat_cmp c.args.known.now c.args.id ≡ list_any (nat_eq c.args.id) c.args.ids.now.items = has_all _ _ _ _ c.requires whole in
    let other : not (contains nat_cmp c.args.known.now c.args.id) ≡ not (list_any (nat_eq c.args.id) c.args.ids.now.items) = ap not same in
    cc (c.in-Ok-false.ensures.added)

pub returns-in-Ok-false-clause-added : goal.returns-in-Ok-false-clause-added
returns-in-Ok-false-clause-added c =
    let back : c.pop.new.self.items ≡ c.args.ids.now.items = grind (arith, common_steps) in
    kept_old _ _ _ (not_false _ (returns-in-Ok-false-clause-new c)) back

use Rattle.std.proofs.Common.{◌≡◌, ◌+◌, ◌<◌, ◌≤◌, ◌^◌, false, not, max, nat_eq, ap, arith}
use Rattle.std.specs.List.{list_any}
use Rattle.cts_instance.proofs.IdLemmas.{ends_added, has_no_later, kept_new, push_ordered}
use Rattle.cts_instance.proofs.ids.SinkIds.insert.Goals as goal

pub invariant_of-self-then-from-self : goal.invariant_of-self-then-from-self
invariant_of-self-then-from-self c =
    rw c.in_ok-push.ensures.items
    (push_ordered c.self.inside.ids.items c.self.inside.known c.self.inside.ordered c.self.inside.end c.args.id _
    c.self.invariant (let fits : c.args.id < 2 ^ 32 = omega arith in fits)
    (let is : c.from-then-from-self.result + 1 ≡ max c.self.inside.end (c.args.id + 1) = omega arith in is))

pub returns-then-from-self-clause-new : goal.returns-then-from-self-clause-new
returns-then-from-self-clause-new c =
    let past : c.self.inside.end ≤ c.args.id = omega arith in
    let none : list_any (nat_eq c.args.id) c.self.inside.ids.items ≡ false = has_no_later _ _ _ c.self.invariant.ends past in
    let new : not (list_any (nat_eq c.args.id) c.self.inside.ids.items) ≡ not false = ap not none in
    cc

pub returns-then-from-self-clause-added : goal.returns-then-from-self-clause-added
returns-then-from-self-clause-added c =
    let past : c.self.inside.end ≤ c.args.id = omega arith in
    let view : c.args.self.now ≡ c.self.inside.ids.items = cc in
    rw view (kept_new _ _ _ (has_no_later _ _ _ c.self.invariant.ends past) c.in_ok-push.ensures.items)

pub invariant_of-self-2 : goal.invariant_of-self-2
invariant_of-self-2 c =
    let early : c.args.id < c.self.inside.end = omega arith in
    record {
      within = omega arith;
      first = rw c.len-self-inside.ensures c.in_ok-is_new.ensures.all;
      ends = ends_added _ _ _ _ c.self.invariant.ends early c.in_ok-is_new.ensures.added;
      end_fits = omega arith;
    }

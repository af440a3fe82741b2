use Rattle.std.proofs.Common.{◌≡◌, ◌<◌, length, slice_index_or, IfSome, ap, sym, subst, ◌∙◌}
use Rattle.cts_check.specs.declared.places.NamedSink.{NamedSink}
use Rattle.cts_check.proofs.places.in_sequence.Goals as goal

pub returns-then-branch-id-clause-inside : goal.returns-then-branch-id-clause-inside
returns-then-branch-id-clause-inside c = c.in_ok-get.ensures.lookup.3.0

pub returns-then-branch-id-clause-found : goal.returns-then-branch-id-clause-found
returns-then-branch-id-clause-found c = λ d.
    sym (ap (λ (n : NamedSink). n.id) (c.in_ok-get.ensures.lookup.3.1 d)) ∙ c.if-branch-id.true

pub returns-else-branch-id-clause-inside : goal.returns-else-branch-id-clause-inside
returns-else-branch-id-clause-inside c = tt

pub returns-else-branch-id-clause-found : goal.returns-else-branch-id-clause-found
returns-else-branch-id-clause-found c = tt

pub returns-in_err-first-clause-inside : goal.returns-in_err-first-clause-inside
returns-in_err-first-clause-inside c = subst (λ found. IfSome found (λ at. at < length c.args.ids.now)) (sym c.from_residual.ensures) tt

pub returns-in_err-first-clause-found : goal.returns-in_err-first-clause-found
returns-in_err-first-clause-found c = subst (λ found. IfSome found (λ at. (named : NamedSink) → (slice_index_or c.args.ids.now at named).id ≡ c.args.id)) (sym c.from_residual.ensures) tt

pub returns-in_err-at-clause-inside : goal.returns-in_err-at-clause-inside
returns-in_err-at-clause-inside c = subst (λ found. IfSome found (λ at. at < length c.args.ids.now)) (sym c.from_residual-in_err-at.ensures) tt

pub returns-in_err-at-clause-found : goal.returns-in_err-at-clause-found
returns-in_err-at-clause-found c = subst (λ found. IfSome found (λ at. (named : NamedSink) → (slice_index_or c.args.ids.now at named).id ≡ c.args.id)) (sym c.from_residual-in_err-at.ensures) tt

pub returns-in_err-get-clause-inside : goal.returns-in_err-get-clause-inside
returns-in_err-get-clause-inside c = subst (λ found. IfSome found (λ at. at < length c.args.ids.now)) (sym c.from_residual-in_err-get.ensures) tt

pub returns-in_err-get-clause-found : goal.returns-in_err-get-clause-found
returns-in_err-get-clause-found c = subst (λ found. IfSome found (λ at. (named : NamedSink) → (slice_index_or c.args.ids.now at named).id ≡ c.args.id)) (sym c.from_residual-in_err-get.ensures) tt

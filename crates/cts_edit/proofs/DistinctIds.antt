-- Distinct ids of sinks, before and after an edit.
use Rattle.std.proofs.Common.{◌≡◌, ℕ, ◌<◌, false, nat_eq, List, length, take, get_or, sym, ap, ◌∙◌, arith}
use Rattle.std.proofs.lemmas.Bool.{ne_eqb}
use Rattle.std.proofs.lemmas.List.{get_or-take, get_or_default, length-take-le}
use Rattle.std.proofs.lemmas.List.Folds.{list_any_none}
use Rattle.cts_units.specs.declared.params.Sink.{Sink}
use Rattle.cts_units.specs.Ids.{HasDistinctIds}
use Rattle.cts_edit.specs.Edits.{has_id}

-- none of the sinks before one has its id
pub new_so_far : (sinks : List Sink) (i : ℕ) (d : Sink) → HasDistinctIds (λ s. s.id) sinks → i < length sinks
    → has_id (get_or sinks i d).id (take i sinks) ≡ false
new_so_far sinks i d distinct inside =
    list_any_none (λ s. nat_eq s.id (get_or sinks i d).id) (take i sinks) (λ k e within.
    let early : k < i = (let n = length-take-le i sinks (omega arith) in omega arith) in
    ne_eqb (get_or (take i sinks) k e).id (get_or sinks i d).id (λ same.
    distinct k i d early inside
    (ap (λ s. s.id) (get_or_default sinks k d e (omega arith) ∙ sym (get_or-take i sinks k e early)) ∙ same)))

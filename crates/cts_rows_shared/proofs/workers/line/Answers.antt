use Rattle.std.proofs.Common.{◌≡◌, ℕ, ◌<◌, ◌∷◌, ◌++◌, [], List, inl, inr, length, get_or, All, sym, ap, ◌∙◌, subst, arith, length-append}
use Rattle.std.proofs.lemmas.Bool.{cases_lt}
use Rattle.std.proofs.lemmas.List.{get_or_at, get_or_append_left}
use Rattle.std.proofs.lemmas.List.Elements.{All-push}
use Rattle.cts_units.specs.declared.params.Sink.{Sink}
use Rattle.cts_up.specs.Sinks.{IsSinkInRange}
use Rattle.cts_rows_shared.proofs.workers.line.Goals as goal

id_push : (xs : List Sink) (x : Sink) (n : ℕ) → length xs ≡ n → x.id ≡ n → ((k : ℕ) (d : Sink) → k < length xs → (get_or xs k d).id ≡ k)
    → (k : ℕ) (d : Sink) → k < length (xs ++ x ∷ []) → (get_or (xs ++ x ∷ []) k d).id ≡ k
id_push xs x n long is ids k d h =
    elim (cases_lt k (length xs)) [
      | inl w ↦ ap (λ (s : Sink). s.id) (get_or_append_left xs (x ∷ []) d k w) ∙ ids k d w
      | inr w ↦
          let last : length xs ≡ k = omega (arith, w, h, length-append xs (x ∷ [])) in
          ap (λ (s : Sink). s.id) (get_or_at xs x [] d k last) ∙ is ∙ sym long ∙ last
    ]

pub loop-number-preserved : goal.loop-number-preserved
loop-number-preserved c =
    let items = c.in_ok-push.ensures.items in
    record {
      upto = omega (arith, c.loop-number-test.true);
      long = omega (arith, ap length items, length-append c.loop-number.sinks.items (c.sink_on_line.result ∷ []), c.loop-number.invariant.long);
      each = subst (All IsSinkInRange) (sym {A = List Sink} items)
          (All-push IsSinkInRange c.loop-number.sinks.items c.sink_on_line.result c.loop-number.invariant.each c.sink_on_line.ensures.range);
      ids = subst (λ (l : List Sink). (k : ℕ) (d : Sink) → k < length l → (get_or l k d).id ≡ k) (sym {A = List Sink} items)
          (id_push c.loop-number.sinks.items c.sink_on_line.result c.loop-number.number c.loop-number.invariant.long c.sink_on_line.ensures.id
          c.loop-number.invariant.ids);
    }

pub returns-clause-sinks : goal.returns-clause-sinks
returns-clause-sinks c =
    let inv = c.loop-number.invariant in
    record {
      some = omega (arith, inv.long, inv.upto, c.loop-number-test.false, c.requires.some);
      few = omega (arith, inv.long, inv.upto, c.requires.few);
      placed = λ k d h. (inv.each k d h).placed;
      distinct = λ i j d lt h e. absurd (omega (arith, lt, inv.ids i d (omega (arith, lt, h)), inv.ids j d h, e));
    }

pub returns-clause-range : goal.returns-clause-range
returns-clause-range c = record {
  few = omega (arith, c.loop-number.invariant.long, c.loop-number.invariant.upto, c.requires.few);
  each = c.loop-number.invariant.each;
}

-- Sinks come to one thing alone, and the order of the parts does not matter.
use Rattle.std.proofs.Common.{◌≡◌, ℕ, zero, suc, ◌+◌, ◌-◌, ◌⊎◌, ◌==◌, not, inl, inr, List, [], ◌∷◌, length, refl, sym, ap, subst, ◌∙◌, arith}
use Rattle.cts_units.specs.declared.params.Sink.{Sink}
use Rattle.cts_units.specs.declared.params.Params.{Params}
use Rattle.cts_topo.proofs.Shuffles.{Shuffled, skip, turned_round, filter-Shuffled, Shuffled-one}
use Rattle.cts_merge.specs.declared.side.Finished.{Finished}
use Rattle.cts_merge.specs.Merge.{IsMerged, IsBeyond}
use Rattle.cts_merge.proofs.Merges.{leaf_one, merged_one, merged_not_beyond}
use Rattle.cts_near.specs.Parts.{Part, AreSinkParts}
use Rattle.cts_near.specs.Closest.{AreClosest, IsNoLater, gap_between}
use Rattle.cts_near.specs.Near.{after_join, Outcome, whole, beyond, ComesTo}
use Rattle.cts_near.specs.Laws.{NearIsOne}
use Rattle.cts_near.proofs.Members.{contains-Shuffled}
use Rattle.cts_near.proofs.Names.{AreNamed, named_one, named_after, sinks_named}

-- the order of the parts does not matter
pub closest-Shuffled : {ps qs : List Part} (a b : Part) → Shuffled ps qs → AreClosest ps a b → AreClosest qs a b
closest-Shuffled a b s c = record {
  first = contains-Shuffled s a c.first;
  second = contains-Shuffled s b c.second;
  in_order = c.in_order;
  no_later = λ p q cp cq h.
      c.no_later p q (contains-Shuffled (turned_round s) p cp) (contains-Shuffled (turned_round s) q cq) h;
}

pub after-Shuffled : {ps qs : List Part} (a b : Part) (pair : Finished) → Shuffled ps qs
    → Shuffled (after_join ps a b pair) (after_join qs a b pair)
after-Shuffled a b pair s =
    skip (filter-Shuffled (λ q. not (q.name == b.name)) (filter-Shuffled (λ q. not (q.name == a.name)) s))

pub comes-Shuffled : (params : Params) (todo step : ℕ) (ps qs : List Part) (o : Outcome) → Shuffled ps qs
    → ComesTo params todo step ps o → ComesTo params todo step qs o
unfolding ComesTo
comes-Shuffled params zero step ps qs o s (last, are, is) =
    (last, Shuffled-one last qs (subst (λ xs. Shuffled xs qs) are s), is)
comes-Shuffled params (suc todo) step ps qs o s (a, b, closest, inl over) = (a, b, closest-Shuffled a b s closest, inl over)
comes-Shuffled params (suc todo) step ps qs o s (a, b, closest, inr (pair, merged, rest)) = (
  a,
  b,
  closest-Shuffled a b s closest,
  inr (
    pair,
    merged,
    comes-Shuffled params todo (step + 1) (after_join ps a b pair) (after_join qs a b pair) o (after-Shuffled a b pair s) rest,
  ),
)

-- parts with distinct names have one closest pair
pub closest_one : (ps : List Part) (a b c d : Part) → AreNamed ps → AreClosest ps a b → AreClosest ps c d
    → (a ≡ c) × (b ≡ d)
closest_one ps a b c d named p q =
    let forth : IsNoLater (gap_between a b) a.name b.name (gap_between c d) c.name d.name =
    p.no_later c d q.first q.second q.in_order in
    let back : IsNoLater (gap_between c d) c.name d.name (gap_between a b) a.name b.name =
    q.no_later a b p.first p.second p.in_order in
    let gaps : gap_between a b ≡ gap_between c d = omega (arith, forth.by_gap, back.by_gap) in
    let firsts : a.name ≡ c.name = omega (arith, forth.by_first (sym gaps), back.by_first gaps) in
    let seconds : b.name ≡ d.name =
    omega (arith, forth.by_second (sym gaps) (sym firsts), back.by_second gaps firsts) in
    (named_one ps a c named p.first q.first firsts, named_one ps b d named p.second q.second seconds)

-- how a step goes on once its two parts are known
abbrev GoesOn : Params → ℕ → ℕ → List Part → Outcome → Part → Part → Type 0
GoesOn params todo step parts o a b =
    (IsBeyond params a.side b.side × (o ≡ beyond step))
    ⊎ ((pair : Finished) × IsMerged params a.side b.side pair × ComesTo params todo (step + 1) (after_join parts a b pair) o)

pub comes_one : (params : Params) (todo step : ℕ) (ps : List Part) (o other : Outcome) → AreNamed ps
    → ComesTo params todo step ps o → ComesTo params todo step ps other → o ≡ other
unfolding ComesTo
comes_one params zero step ps o other named p q =
    let same_list : p.0 ∷ [] ≡ q.0 ∷ [] = sym (p.1) ∙ q.1 in
    let same_part : p.0 ≡ q.0 = cc in
    p.2 ∙ ap (λ (part : Part). whole part.tree) same_part ∙ sym (q.2)
comes_one params (suc todo) step ps o other named (a, b, closest, goes) (c, d, closer, goes') =
    let are : (a ≡ c) × (b ≡ d) = closest_one ps a b c d named closest closer in
    let moved : GoesOn params todo step ps other a b =
    subst (λ (x : Part). GoesOn params todo step ps other x b) (sym (are.0))
    (subst (λ (y : Part). GoesOn params todo step ps other c y) (sym (are.1)) goes') in
    by_cases (λ pair. comes_one params todo (step + 1) (after_join ps a b pair) o other (named_after ps a b pair named closest.in_order))
    goes moved
  where
    by_cases : ((pair : Finished) → ComesTo params todo (step + 1) (after_join ps a b pair) o
        → ComesTo params todo (step + 1) (after_join ps a b pair) other → o ≡ other)
        → GoesOn params todo step ps o a b → GoesOn params todo step ps other a b → o ≡ other
    by_cases again (inl (over, is)) (inl (over', is')) = is ∙ sym is'
    by_cases again (inl (over, is)) (inr (pair, merged, rest)) =
        absurd (merged_not_beyond params a.side b.side pair merged over)
    by_cases again (inr (pair, merged, rest)) (inl (over, is)) =
        absurd (merged_not_beyond params a.side b.side pair merged over)
    by_cases again (inr (pair, merged, rest)) (inr (pair', merged', rest')) =
        again pair rest
        (subst (λ (f : Finished). ComesTo params todo (step + 1) (after_join ps a b f) other)
        (sym (merged_one params a.side b.side pair pair' merged merged')) rest')

-- sinks have one list of parts
part_same : (p q : Part) → p.tree ≡ q.tree → p.name ≡ q.name → p.side ≡ q.side → p ≡ q
part_same p q tree name side =
    let by_tree : p ≡ record { tree = q.tree; name = p.name; side = p.side } =
    ap (λ t. record { tree = t; name = p.name; side = p.side }) tree in
    let by_name : record { tree = q.tree; name = p.name; side = p.side } ≡ record { tree = q.tree; name = q.name; side = p.side } =
    ap (λ n. record { tree = q.tree; name = n; side = p.side }) name in
    let by_side : record { tree = q.tree; name = q.name; side = p.side } ≡ q =
    ap (λ s. record { tree = q.tree; name = q.name; side = s }) side in
    by_tree ∙ by_name ∙ by_side

pub sink_parts_one : (place : ℕ) (sinks : List Sink) (ps qs : List Part) → AreSinkParts place sinks ps
    → AreSinkParts place sinks qs → ps ≡ qs
sink_parts_one place [] [] [] are also = refl
sink_parts_one place [] [] (q ∷ qs) are also = absurd also
sink_parts_one place [] (p ∷ ps) qs are also = absurd are
sink_parts_one place (s ∷ sinks) [] qs are also = absurd are
sink_parts_one place (s ∷ sinks) (p ∷ ps) [] are also = absurd also
sink_parts_one place (s ∷ sinks) (p ∷ ps) (q ∷ qs) (here, rest) (there, more) =
    let leaf : here.leaf ≡ there.leaf = leaf_one s here.leaf there.leaf here.is_leaf there.is_leaf in
    let first : p ≡ q =
    part_same p q (here.tree ∙ sym there.tree) (here.name ∙ sym there.name)
    (here.side ∙ ap (λ (f : Finished). f.side) leaf ∙ sym there.side) in
    ap (λ x. x ∷ ps) first ∙ ap (λ xs. q ∷ xs) (sink_parts_one (place + 1) sinks ps qs rest more)

pub near_one : NearIsOne
near_one params sinks o other distinct p q =
    comes_one params (length sinks - 1) 1 p.parts o other (sinks_named 0 sinks p.parts p.over_sinks distinct) p.comes_to
    (subst (λ (parts : List Part). ComesTo params (length sinks - 1) 1 parts other)
    (sym (sink_parts_one 0 sinks p.parts q.parts p.over_sinks q.over_sinks)) q.comes_to)

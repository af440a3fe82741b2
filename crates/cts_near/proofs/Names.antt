-- Parts with distinct names: in another order, after a join, and at first.
use Rattle.std.proofs.Common.{◌≡◌, ◌≢◌, ℕ, suc, ◌+◌, ◌<◌, ◌==◌, Bool, true, false, cond, not, List, [], ◌∷◌, length, get_or, filter, inl, inr, refl, sym, ap, subst, ◌∙◌, arith}
use Rattle.std.specs.List.{AllByRecursion, Contains}
use Rattle.std.proofs.lemmas.Bool.Decides.{nat_tests}
use Rattle.cts_units.specs.declared.params.Sink.{Sink}
use Rattle.cts_units.specs.Ids.{HasDistinctIds}
use Rattle.cts_topo.proofs.Shuffles.{Shuffled, same, skip, turn, chain}
use Rattle.cts_merge.specs.declared.side.Side.{Side}
use Rattle.cts_merge.specs.declared.side.Finished.{Finished}
use Rattle.cts_near.specs.Parts.{Part, AreSinkParts, joined}
use Rattle.cts_near.specs.Near.{without, after_join}
use Rattle.cts_near.proofs.Members.{contains_cases, contains-Shuffled, contains_none, all_contained, all-Shuffled, all-filter, without_skips, without_drops, without_none}

-- no later part has the name of an earlier one
abbrev pub AreNamed : List Part → Type 0
AreNamed [] = Unit {0}
AreNamed (p ∷ ps) = AllByRecursion (λ (q : Part). p.name ≢ q.name) ps × AreNamed ps

pub named-Shuffled : {ps qs : List Part} → Shuffled ps qs → AreNamed ps → AreNamed qs
named-Shuffled same h = h
named-Shuffled (skip {x = p} s) h = (all-Shuffled (λ (q : Part). p.name ≢ q.name) s (h.0), named-Shuffled s (h.1))
named-Shuffled turn h = ((λ e. h.0.0 (sym e), h.1.0), (h.0.1, h.1.1))
named-Shuffled (chain s t) h = named-Shuffled t (named-Shuffled s h)

pub named-filter : (test : Part → Bool) (ps : List Part) → AreNamed ps → AreNamed (filter test ps)
named-filter test [] h = tt
named-filter test (p ∷ ps) h =
    elim (test p) as (λ b. AreNamed (cond b (p ∷ filter test ps) (filter test ps))) [
      | true ↦ (all-filter (λ (q : Part). p.name ≢ q.name) test ps (h.0), named-filter test ps (h.1))
      | false ↦ named-filter test ps (h.1)
    ]

-- a name is that of one part
pub named_one : (ps : List Part) (a b : Part) → AreNamed ps → Contains ps a → Contains ps b → a.name ≡ b.name → a ≡ b
named_one [] a b h c d e = absurd (contains_none a c)
named_one (p ∷ ps) a b h c d e =
    elim (contains_cases a p ps c) [
      | inl first ↦ elim (contains_cases b p ps d) [
        | inl second ↦ sym first ∙ second
        | inr later ↦
            absurd (all_contained (λ (q : Part). p.name ≢ q.name) ps b (h.0) later (ap (λ (q : Part). q.name) first ∙ e))
      ]
      | inr later ↦ elim (contains_cases b p ps d) [
        | inl second ↦
            absurd (all_contained (λ (q : Part). p.name ≢ q.name) ps a (h.0) later (ap (λ (q : Part). q.name) second ∙ sym e))
        | inr also ↦ named_one ps a b (h.1) later also e
      ]
    ]

-- a name that is taken out is gone
pub name_gone : (name : ℕ) (ps : List Part) → AllByRecursion (λ (q : Part). name ≢ q.name) (without name ps)
name_gone name [] = tt
name_gone name (p ∷ ps) = by_test (p.name == name) refl (name_gone name ps)
  where
    by_test : (b : Bool) → (p.name == name) ≡ b → AllByRecursion (λ (q : Part). name ≢ q.name) (without name ps)
        → AllByRecursion (λ (q : Part). name ≢ q.name) (cond (not b) (p ∷ without name ps) (without name ps))
    by_test true e rest = rest
    by_test false e rest = (λ is. grind (arith, nat_tests), rest)

-- the pair of two parts has the name of the first
pub joined_name : (a b : Part) (side : Side) → a.name < b.name → (joined a b side).name ≡ a.name
joined_name a b side h = omega arith

pub named_after : (ps : List Part) (a b : Part) (pair : Finished) → AreNamed ps → a.name < b.name
    → AreNamed (after_join ps a b pair)
named_after ps a b pair named h =
    let rest : List Part = without b.name (without a.name ps) in
    let gone : AllByRecursion (λ (q : Part). a.name ≢ q.name) rest =
    all-filter (λ (q : Part). a.name ≢ q.name) (λ q. not (q.name == b.name)) (without a.name ps) (name_gone a.name ps) in (
      subst (λ (name : ℕ). AllByRecursion (λ (q : Part). name ≢ q.name) rest) (sym (joined_name a b pair.side h)) gone,
      named-filter (λ q. not (q.name == b.name)) (without a.name ps) (named-filter (λ q. not (q.name == a.name)) ps named),
    )

-- a part before those without its name
pub pulled : (ps : List Part) (a : Part) → AreNamed ps → Contains ps a → Shuffled ps (a ∷ without a.name ps)
pulled [] a named c = absurd (contains_none a c)
pulled (p ∷ ps) a named c =
    elim (contains_cases a p ps c) [
      | inl is ↦
          subst (λ (q : Part). Shuffled (p ∷ ps) (q ∷ without q.name (p ∷ ps))) is
          (subst (λ qs. Shuffled (p ∷ ps) (p ∷ qs)) (sym (without_drops p.name p ps refl ∙ without_none p.name ps (named.0))) same)
      | inr later ↦
          subst (λ qs. Shuffled (p ∷ ps) (a ∷ qs))
          (sym (without_skips a.name p ps (all_contained (λ (q : Part). p.name ≢ q.name) ps a (named.0) later)))
          (chain (skip (pulled ps a (named.1) later)) turn)
    ]

-- both parts of a join before the others
pub both_pulled : (ps : List Part) (a b : Part) → AreNamed ps → Contains ps a → Contains ps b → a.name < b.name
    → Shuffled ps (a ∷ b ∷ without b.name (without a.name ps))
both_pulled ps a b named c d h =
    let first : Shuffled ps (a ∷ without a.name ps) = pulled ps a named c in
    let left : Contains (without a.name ps) b =
    elim (contains_cases b a (without a.name ps) (found first)) [
      | inl is ↦ absurd (omega (arith, ap (λ (q : Part). q.name) is))
      | inr later ↦ later
    ] in
    chain first (skip (pulled (without a.name ps) b (named-filter (λ q. not (q.name == a.name)) ps named) left))
  where
    found : Shuffled ps (a ∷ without a.name ps) → Contains (a ∷ without a.name ps) b
    found s = contains-Shuffled s b d

-- the names at first
module _ (id : ℕ) where
  other_names : (place : ℕ) (sinks : List Sink) (parts : List Part) → AreSinkParts place sinks parts
      → ((j : ℕ) (d : Sink) → j < length sinks → id ≢ (get_or sinks j d).id)
      → AllByRecursion (λ (q : Part). id ≢ q.name) parts
  other_names place [] [] are h = tt
  other_names place [] (p ∷ ps) are h = absurd are
  other_names place (s ∷ sinks) [] are h = absurd are
  other_names place (s ∷ sinks) (p ∷ ps) are h = (
    λ e. h 0 s (omega arith) (e ∙ are.0.name),
    other_names (place + 1) sinks ps (are.1) (λ j d w. h (suc j) d (omega arith)),
  )

pub sinks_named : (place : ℕ) (sinks : List Sink) (parts : List Part) → AreSinkParts place sinks parts
    → HasDistinctIds (λ (s : Sink). s.id) sinks → AreNamed parts
sinks_named place [] [] are h = tt
sinks_named place [] (p ∷ ps) are h = absurd are
sinks_named place (s ∷ sinks) [] are h = absurd are
sinks_named place (s ∷ sinks) (p ∷ ps) are h = (
  subst (λ (id : ℕ). AllByRecursion (λ (q : Part). id ≢ q.name) ps) (sym (are.0.name))
      (other_names s.id (place + 1) sinks ps (are.1) (λ j d w. h 0 (suc j) d (omega arith) (omega arith))),
  sinks_named (place + 1) sinks ps (are.1) (λ i j d less within. h (suc i) (suc j) d (omega arith) (omega arith)),
)

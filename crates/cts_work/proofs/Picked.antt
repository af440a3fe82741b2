-- The nodes at some places of a list.
use Rattle.std.proofs.Common.{◌≡◌, ℕ, zero, suc, ◌+◌, ◌<◌, nat_lt, false, List, [], ◌∷◌, ◌++◌, append_assoc, take, length, get_or, slice_get, Some, None, All, inl, inr, refl, sym, ap, ◌∙◌, subst, arith, length-append}
use Rattle.std.specs.List.{cons_option}
use mathlib.Core.List.{IsPrefix}
use Rattle.std.proofs.lemmas.Bool.{cases_lt, ltb-false}
use Rattle.std.proofs.lemmas.List.{append-nil, map-append, get_or_append_left, get_or_at, take_more}
use Rattle.std.proofs.lemmas.List.Elements.{filter_map-append}
use Rattle.std.proofs.lemmas.Option.{slice_get-get_or, slice_get_past, slice_get_within, get_or_from_slice_get}
use Rattle.cts_up.specs.declared.site.Site.{Site}
use Rattle.cts_up.specs.Sites.{site_of}
use Rattle.cts_work.specs.declared.node.Built.{Built}
use Rattle.cts_work.specs.Known.{picked, sites_of}

module _ (nodes : List Built) where
  All-rest : (p : ℕ) (ps : List ℕ) → All (λ q. q < length nodes) (p ∷ ps) → All (λ q. q < length nodes) ps
  All-rest p ps all = λ i d h. all (suc i) d (omega (arith, h))

  -- the first of them
  picked-cons : (p : ℕ) (ps : List ℕ) (d : Built) → p < length nodes → picked nodes (p ∷ ps) ≡ get_or nodes p d ∷ picked nodes ps
  picked-cons p ps d h = ap (λ o. cons_option o (picked nodes ps)) (slice_get-get_or nodes p d h)

  -- there are as many as places
  pub length-picked : (ps : List ℕ) → All (λ p. p < length nodes) ps → length (picked nodes ps) ≡ length ps
  length-picked [] all = refl
  length-picked (p ∷ ps) all = by_first nodes (all 0 0 (omega arith)) refl (length-picked ps (All-rest p ps all))
    where
      by_first : (ns : List Built) → p < length nodes → ns ≡ nodes → length (picked nodes ps) ≡ length ps
          → length (picked nodes (p ∷ ps)) ≡ suc (length ps)
      by_first [] h is rest = absurd (omega (arith, h, ap length is))
      by_first (d ∷ ns) h is rest = ap length (picked-cons p ps d h) ∙ ap suc rest

  -- each is the node at its place
  pub picked-at : (ps : List ℕ) (i n : ℕ) (d : Built) → All (λ p. p < length nodes) ps → i < length ps
      → get_or (picked nodes ps) i d ≡ get_or nodes (get_or ps i n) d
  picked-at [] i n d all h = absurd (omega (arith, h))
  picked-at (p ∷ ps) zero n d all h = ap (λ bs. get_or bs 0 d) (picked-cons p ps d (all 0 0 (omega arith)))
  picked-at (p ∷ ps) (suc i) n d all h =
      ap (λ bs. get_or bs (suc i) d) (picked-cons p ps d (all 0 0 (omega arith))) ∙ picked-at ps i n d (All-rest p ps all) (omega (arith, h))

  -- one place more
  pub places_push : (ps : List ℕ) (p : ℕ) → All (λ q. q < length nodes) ps → p < length nodes → All (λ q. q < length nodes) (ps ++ p ∷ [])
  places_push ps p all here = λ i d h. elim (cases_lt i (length ps)) [
    | inl w ↦ subst (λ (q : ℕ). q < length nodes) (sym (get_or_append_left ps (p ∷ []) d i w)) (all i d w)
    | inr w ↦
        let last : length ps ≡ i = omega (arith, h, length-append ps (p ∷ [])) in
        subst (λ (q : ℕ). q < length nodes) (sym (get_or_at ps p [] d i last)) here
  ]

  pub picked-push : (ps : List ℕ) (p : ℕ) (b : Built) → slice_get nodes p ≡ Some b → picked nodes (ps ++ p ∷ []) ≡ picked nodes ps ++ b ∷ []
  picked-push ps p b here =
      filter_map-append (slice_get nodes) ps (p ∷ []) ∙ ap (λ o. picked nodes ps ++ cons_option o []) here

  -- one place more of a list of places
  pub picked-next : (ps : List ℕ) (i d : ℕ) (b : Built) → i < length ps → slice_get nodes (get_or ps i d) ≡ Some b
      → picked nodes (take (i + 1) ps) ≡ picked nodes (take i ps) ++ b ∷ []
  picked-next ps i d b h here = ap (picked nodes) (take_more ps i d h) ∙ picked-push (take i ps) (get_or ps i d) b here

  -- where no node stands
  pub picked-past : (ps : List ℕ) (i d : ℕ) → i < length ps → nat_lt (get_or ps i d) (length nodes) ≡ false
      → picked nodes (take (i + 1) ps) ≡ picked nodes (take i ps)
  picked-past ps i d h past =
      let none : slice_get nodes (get_or ps i d) ≡ None = slice_get_past nodes (get_or ps i d) (ltb-false (get_or ps i d) (length nodes) past) in
      ap (picked nodes) (take_more ps i d h)
      ∙ filter_map-append (slice_get nodes) (take i ps) (get_or ps i d ∷ [])
      ∙ ap (λ o. picked nodes (take i ps) ++ cons_option o []) none
      ∙ append-nil (picked nodes (take i ps))

  module _ (longer : List Built) (more : IsPrefix nodes longer) where
    within_longer : length nodes ≡ length nodes → (p : ℕ) → p < length nodes → p < length longer
    within_longer e p h = omega (arith, h, sym (ap length more.1) ∙ length-append nodes more.0)

    -- a place stays one
    pub places_stay : (ps : List ℕ) → All (λ p. p < length nodes) ps → All (λ p. p < length longer) ps
    places_stay ps all = λ i d h. within_longer refl (get_or ps i d) (all i d h)

    -- and what stands there stays there
    pub node_stays : (p : ℕ) (b : Built) → slice_get nodes p ≡ Some b → slice_get longer p ≡ Some b
    node_stays p b here =
        let h : p < length nodes = slice_get_within nodes p b here in
        ap (λ l. slice_get l p) (sym more.1)
        ∙ slice_get-get_or (nodes ++ more.0) p b (omega (arith, length-append nodes more.0, h))
        ∙ ap Some (get_or_append_left nodes more.0 b p h ∙ get_or_from_slice_get nodes p b b here)

    pub picked_stays : (ps : List ℕ) → All (λ p. p < length nodes) ps → picked longer ps ≡ picked nodes ps
    picked_stays [] all = refl
    picked_stays (p ∷ ps) all = by_first nodes (all 0 0 (omega arith)) refl (picked_stays ps (All-rest p ps all))
      where
        by_first : (ns : List Built) → p < length nodes → ns ≡ nodes → picked longer ps ≡ picked nodes ps
            → picked longer (p ∷ ps) ≡ picked nodes (p ∷ ps)
        by_first [] h is rest = absurd (omega (arith, h, ap length is))
        by_first (d ∷ ns) h is rest =
            let at : slice_get nodes p ≡ Some (get_or nodes p d) = slice_get-get_or nodes p d h in
            λ z. cons_option ((node_stays p (get_or nodes p d) at ∙ sym at) z) (rest z)

-- one place more, of a list that has grown
pub picked_further : (nodes longer : List Built) → IsPrefix nodes longer → (ps : List ℕ) → All (λ p. p < length nodes) ps → (p : ℕ) (b : Built)
    → slice_get longer p ≡ Some b → picked longer (ps ++ p ∷ []) ≡ picked nodes ps ++ b ∷ []
picked_further nodes longer more ps all p b here =
    picked-push longer ps p b here ∙ ap (λ bs. bs ++ b ∷ []) (picked_stays nodes longer more ps all)

-- and its site behind the sites of the others
pub sites_further : (nodes longer : List Built) → IsPrefix nodes longer → (ps : List ℕ) → All (λ p. p < length nodes) ps → (p : ℕ) (b d : Built)
    → slice_get longer p ≡ Some b → (first was now : List Site) → was ≡ first ++ sites_of (picked nodes ps)
    → now ≡ was ++ site_of (get_or longer p d).finished ∷ [] → now ≡ first ++ sites_of (picked longer (ps ++ p ∷ []))
sites_further nodes longer more ps all p b d here first was now was_is now_is =
    let site : Built → Site = λ (node : Built). site_of node.finished in
    let read : get_or longer p d ≡ b = get_or_from_slice_get longer p b d here in
    now_is ∙ ap (λ xs. xs ++ site (get_or longer p d) ∷ []) was_is
    ∙ append_assoc first (sites_of (picked nodes ps)) (site (get_or longer p d) ∷ [])
    ∙ ap (λ xs. first ++ xs) (ap (λ n. sites_of (picked nodes ps) ++ site n ∷ []) read ∙ sym (map-append site (picked nodes ps) (b ∷ []))
    ∙ ap sites_of (sym (picked_further nodes longer more ps all p b here)))

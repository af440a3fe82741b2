-- Two sides have one pair, or are beyond.
use Rattle.std.proofs.Common.{◌≡◌, ℕ, Option, inl, inr, sym, ap, subst, ◌∙◌, arith}
use Rattle.cts_geom.specs.declared.regions.Region.{Region}
use Rattle.cts_geom.specs.Regions.{IsMeet, gap_of}
use Rattle.cts_geom.proofs.RegionLemmas.{regions_sets}
use Rattle.cts_units.specs.declared.params.Params.{Params}
use Rattle.cts_units.specs.Choice.{IsBufferChoice, added_delay_of, seen_load_of}
use Rattle.cts_units.proofs.Choices.{choice_unique}
use Rattle.cts_merge.specs.declared.side.Finished.{Finished}
use Rattle.cts_merge.specs.LeastPair.{Spans, Covers}
use Rattle.cts_merge.specs.Side.{delay_through}
use Rattle.cts_merge.specs.Merge.{pair_load_of, pair_delay_of}
use Rattle.cts_merge.specs.Laws.{MergePairExists, BalancePairExists, MergePairIsOne, BalancePairIsOne, LeafIsOne, MergedIsOne, MergedIsNotBeyond, BalancedIsNotBeyond}
use Rattle.cts_merge.proofs.SideDelays.{delay_rises}
use Rattle.cts_merge.proofs.MergePairs.{spans_exists}
use Rattle.cts_merge.proofs.BalancePairs.{covers_exists}
use Rattle.cts_merge.proofs.Unique.{least_unique}

pub merge_pair_exists : MergePairExists
merge_pair_exists wire a b gap w = spans_exists _ _ (delay_rises wire a w) (delay_rises wire b w) gap

pub balance_pair_exists : BalancePairExists
balance_pair_exists wire a b la lb w = covers_exists _ _ (delay_rises wire a w) (delay_rises wire b w) la lb

pub merge_pair_one : MergePairIsOne
merge_pair_one wire a b ea eb xa xb p q =
    least_unique (delay_through wire a) (delay_through wire b) (Spans (gap_of a.region b.region)) ea eb xa xb p q

pub balance_pair_one : BalancePairIsOne
balance_pair_one wire a b la lb ea eb xa xb p q =
    least_unique (delay_through wire a) (delay_through wire b) (Covers la lb) ea eb xa xb p q

-- two nodes with the same parts are one
finished_same : (p q : Finished) → p.side.greatest ≡ q.side.greatest → p.side.load ≡ q.side.load
    → p.side.region ≡ q.side.region → p.ea ≡ q.ea → p.eb ≡ q.eb → p.buffer ≡ q.buffer → p ≡ q
finished_same p q greatest load region ea eb buffer =
    let with_greatest : ℕ → Finished = λ x. record { side = record { greatest = x; load = p.side.load; region = p.side.region }; ea = p.ea; eb = p.eb; buffer = p.buffer } in
    let with_load : ℕ → Finished = λ x. record { side = record { greatest = q.side.greatest; load = x; region = p.side.region }; ea = p.ea; eb = p.eb; buffer = p.buffer } in
    let with_region : Region → Finished = λ x. record { side = record { greatest = q.side.greatest; load = q.side.load; region = x }; ea = p.ea; eb = p.eb; buffer = p.buffer } in
    let with_ea : ℕ → Finished = λ x. record { side = q.side; ea = x; eb = p.eb; buffer = p.buffer } in
    let with_eb : ℕ → Finished = λ x. record { side = q.side; ea = q.ea; eb = x; buffer = p.buffer } in
    let with_buffer : Option ℕ → Finished = λ x. record { side = q.side; ea = q.ea; eb = q.eb; buffer = x } in
    ap with_greatest greatest ∙ ap with_load load ∙ ap with_region region ∙ ap with_ea ea ∙ ap with_eb eb ∙ ap with_buffer buffer

pub leaf_one : LeafIsOne
leaf_one sink p q hp hq =
    finished_same p q (hp.greatest ∙ sym hq.greatest) (hp.load ∙ sym hq.load)
    (regions_sets p.side.region q.side.region
    (λ spot. (
      (λ inside. (hq.region spot).1 ((hp.region spot).0 inside)),
      (λ inside. (hp.region spot).1 ((hq.region spot).0 inside)),
    )))
    (hp.ea ∙ sym hq.ea) (hp.eb ∙ sym hq.eb) (hp.buffer ∙ sym hq.buffer)

-- two merging regions of the same lengths are one
pub meet_unique : (a b p q : Region) (ea eb xa xb : ℕ) → ea ≡ xa → eb ≡ xb → IsMeet a ea b eb p → IsMeet a xa b xb q → p ≡ q
meet_unique a b p q ea eb xa xb first second hp hq =
    let hq' : IsMeet a ea b eb q =
    subst (λ (x : ℕ). IsMeet a x b eb q) (sym first) (subst (λ (x : ℕ). IsMeet a xa b x q) (sym second) hq) in
    regions_sets p q
    (λ spot. (
      (λ inside. let near = hp.sound spot inside in hq'.complete spot near.0 near.1),
      (λ inside. let near = hq'.sound spot inside in hp.complete spot near.0 near.1),
    ))

-- the buffer choices at equal loads are one
choice_same : (params : Params) (m n : ℕ) (p q : Option ℕ) → m ≡ n → IsBufferChoice params m p → IsBufferChoice params n q → p ≡ q
choice_same params m n p q same hp hq =
    choice_unique params m p q hp (subst (λ (x : ℕ). IsBufferChoice params x q) (sym same) hq)

pub merged_one : MergedIsOne
merged_one params a b p q hp hq =
    let wire = params.wire in
    let library = params.library in
    let pair = merge_pair_one wire a b p.ea p.eb q.ea q.eb hp.least hq.least in
    let load : pair_load_of wire a b p.ea p.eb ≡ pair_load_of wire a b q.ea q.eb =
    ap (λ (x : ℕ). pair_load_of wire a b x p.eb) pair.0 ∙ ap (λ (x : ℕ). pair_load_of wire a b q.ea x) pair.1 in
    let delay : pair_delay_of wire a b p.ea p.eb ≡ pair_delay_of wire a b q.ea q.eb =
    ap (λ (x : ℕ). pair_delay_of wire a b x p.eb) pair.0 ∙ ap (λ (x : ℕ). pair_delay_of wire a b q.ea x) pair.1 in
    let buffer : p.buffer ≡ q.buffer = choice_same params _ _ p.buffer q.buffer load hp.buffer hq.buffer in
    let seen : seen_load_of library p.buffer (pair_load_of wire a b p.ea p.eb) ≡ seen_load_of library q.buffer (pair_load_of wire a b q.ea q.eb) =
    ap (λ (x : Option ℕ). seen_load_of library x (pair_load_of wire a b p.ea p.eb)) buffer ∙ ap (seen_load_of library q.buffer) load in
    let added : added_delay_of library p.buffer (pair_load_of wire a b p.ea p.eb) ≡ added_delay_of library q.buffer (pair_load_of wire a b q.ea q.eb) =
    ap (λ (x : Option ℕ). added_delay_of library x (pair_load_of wire a b p.ea p.eb)) buffer ∙ ap (added_delay_of library q.buffer) load in
    finished_same p q (omega (arith, hp.greatest, hq.greatest, delay, added)) (hp.load ∙ seen ∙ sym hq.load)
    (meet_unique a.region b.region p.side.region q.side.region p.ea p.eb q.ea q.eb pair.0 pair.1 hp.region hq.region)
    pair.0 pair.1 buffer

pub merged_not_beyond : MergedIsNotBeyond
merged_not_beyond params a b p hp x =
    let wire = params.wire in
    let library = params.library in
    let pair = merge_pair_one wire a b p.ea p.eb x.ea x.eb hp.least x.least in
    let load : pair_load_of wire a b p.ea p.eb ≡ pair_load_of wire a b x.ea x.eb =
    ap (λ (e : ℕ). pair_load_of wire a b e p.eb) pair.0 ∙ ap (λ (e : ℕ). pair_load_of wire a b x.ea e) pair.1 in
    let delay : pair_delay_of wire a b p.ea p.eb ≡ pair_delay_of wire a b x.ea x.eb =
    ap (λ (e : ℕ). pair_delay_of wire a b e p.eb) pair.0 ∙ ap (λ (e : ℕ). pair_delay_of wire a b x.ea e) pair.1 in
    elim x.over [
      | inl first ↦ absurd (omega (arith, hp.ea_within, pair.0))
      | inr others ↦ elim others [
        | inl second ↦ absurd (omega (arith, hp.eb_within, pair.1))
        | inr rest ↦ elim rest [
          | inl loaded ↦ absurd (omega (arith, hp.load_within, load))
          | inr slow ↦
              let buffer : p.buffer ≡ slow.buffer = choice_same params _ _ p.buffer slow.buffer load hp.buffer slow.choice in
              let added : added_delay_of library p.buffer (pair_load_of wire a b p.ea p.eb) ≡ added_delay_of library slow.buffer (pair_load_of wire a b x.ea x.eb) =
              ap (λ (b' : Option ℕ). added_delay_of library b' (pair_load_of wire a b p.ea p.eb)) buffer ∙ ap (added_delay_of library slow.buffer) load in
              absurd (omega (arith, hp.greatest, hp.greatest_within, slow.over, delay, added))
        ]
      ]
    ]

pub balanced_not_beyond : BalancedIsNotBeyond
balanced_not_beyond wire a la b lb xa xb p x =
    let pair = balance_pair_one wire a b la lb xa xb x.ea x.eb p.least x.least in
    elim x.long [
      | inl first ↦ absurd (omega (arith, p.xa_within, pair.0))
      | inr second ↦ absurd (omega (arith, p.xb_within, pair.1))
    ]

-- The loop of the sums along the trunk: what one wire comes to, and those before it.
use Rattle.std.proofs.Common.{◌≡◌, ℕ, zero, suc, ◌+◌, ◌-◌, ◌*◌, ◌<◌, ◌≤◌, List, [], ◌∷◌, ◌++◌, length, get_or, refl, sym, ap, ap₂, subst, ◌∙◌, arith, length-append}
use Rattle.std.proofs.lemmas.List.{length-map, get_or-map}
use Rattle.cts_units.specs.declared.params.Buffer.{Buffer}
use Rattle.cts_units.specs.Delay.{wire_delay_of, buffer_delay_of}
use Rattle.cts_units.specs.Limits.{max_delay}
use Rattle.cts_block.proofs.RasterLemmas.{each_more}
use Rattle.cts_instance.specs.declared.parts.Parts.{Parts}
use Rattle.cts_trunk.specs.declared.places.Stand.{Stand}
use Rattle.cts_trunk.specs.declared.sums.Drive.{Drive}
use Rattle.cts_trunk.specs.declared.sums.Reach.{Reach}
use Rattle.cts_trunk.specs.Extended.{Span, span, driven, span_delay, repeater_delay, span_at, load_on, first_delay, delay_on, stage_on}
use Rattle.cts_trunk.specs.TrunkSums.{AreReaches, IsBefore, IsReach, cuts_of, source_buffer, wires_of}
use Rattle.cts_trunk.proofs.Spans.{first_sum, next_sum, sums_grow, length-spans}

pub cut_at : (stands : List Stand) (k : ℕ) (d : Stand) → k < length stands → get_or (cuts_of stands) k 0 ≡ (get_or stands k d).length
cut_at stands k d below = get_or-map (λ (stand : Stand). stand.length) stands k d 0 below

pub length-wires : (drive : Drive) (stands : List Stand) → length (wires_of drive stands) ≡ length stands + 1
length-wires drive stands =
    length-spans drive.repeater.cin drive.root_seen 0 (cuts_of stands) drive.root_at
    ∙ ap (λ n. n + 1) (length-map stands (λ (stand : Stand). stand.length))

module _ (i : Parts) (repeater : Buffer) (trunk : List Span) where
  -- what one wire comes to below the delay before it
  pub reach_is : (k : ℕ) (before : ℕ) (driver : Buffer) (len seen : ℕ) (reach : Reach) → k < length trunk
      → span_at i repeater trunk k ≡ span len seen → IsBefore i repeater trunk k before
      → (k ≡ 0 → driver ≡ source_buffer i.source_r) → (0 < k → driver ≡ repeater)
      → reach.load ≡ seen + i.params.wire.c * len
      → reach.stage ≡ 2 * driver.rout * (seen + i.params.wire.c * len) + wire_delay_of i.params.wire.r i.params.wire.c len seen
      → reach.delay ≡ before + 2 * driver.intrinsic + reach.stage
      → IsReach i repeater trunk k reach
  unfolding buffer_delay_of stage_on
  reach_is zero before driver len seen reach inside wire_is before_is first later load stage delay =
      let driver_is : driver ≡ source_buffer i.source_r = first refl in
      let load_is : seen + i.params.wire.c * len ≡ load_on i repeater trunk 0 = ap (driven i) (sym wire_is) in
      let through : wire_delay_of i.params.wire.r i.params.wire.c len seen ≡ span_delay i (span_at i repeater trunk 0) = ap (span_delay i) (sym wire_is) in
      let source : 2 * driver.rout * (seen + i.params.wire.c * len) ≡ first_delay i repeater trunk =
      ap₂ (λ x y. 2 * x * y) (ap (λ (b : Buffer). b.rout) driver_is) load_is in
      let none : driver.intrinsic ≡ 0 = ap (λ (b : Buffer). b.intrinsic) driver_is in
      record {
        load = load ∙ load_is;
        delay = omega (arith, delay, stage, source, through, none, before_is, first_sum i repeater trunk inside);
        stage = omega (arith, stage, source, through);
        stage_le = omega (arith, delay);
      }
  reach_is (suc k) before driver len seen reach inside wire_is before_is first later load stage delay =
      let driver_is : driver ≡ repeater = later (omega arith) in
      let load_is : seen + i.params.wire.c * len ≡ load_on i repeater trunk (suc k) = ap (driven i) (sym wire_is) in
      let through : wire_delay_of i.params.wire.r i.params.wire.c len seen ≡ span_delay i (span_at i repeater trunk (suc k)) = ap (span_delay i) (sym wire_is) in
      let output : 2 * driver.rout * (seen + i.params.wire.c * len) ≡ 2 * repeater.rout * load_on i repeater trunk (suc k) =
      ap₂ (λ x y. 2 * x * y) (ap (λ (b : Buffer). b.rout) driver_is) load_is in
      let intrinsic : driver.intrinsic ≡ repeater.intrinsic = ap (λ (b : Buffer). b.intrinsic) driver_is in
      let next : k + 1 ≡ suc k = omega arith in
      let sum : delay_on i repeater trunk (suc k)
      ≡ delay_on i repeater trunk k + repeater_delay i repeater (span_at i repeater trunk (suc k)) + span_delay i (span_at i repeater trunk (suc k)) =
      subst (λ j. delay_on i repeater trunk j
      ≡ delay_on i repeater trunk k + repeater_delay i repeater (span_at i repeater trunk j) + span_delay i (span_at i repeater trunk j)) next
      (next_sum i repeater trunk k (omega (arith, inside))) in
      record {
        load = load ∙ load_is;
        delay = omega (arith, delay, stage, output, through, intrinsic, before_is, sum);
        stage = omega (arith, stage, output, through);
        stage_le = omega (arith, delay);
      }

  -- the delay before the next wire
  pub before_next : (k : ℕ) (reach : Reach) → IsReach i repeater trunk k reach → IsBefore i repeater trunk (k + 1) reach.delay
  before_next k reach is =
      let next : suc k ≡ k + 1 = omega arith in
      subst (λ j. IsBefore i repeater trunk j reach.delay) next is.delay

  pub no_reaches : AreReaches i repeater trunk 0 []
  no_reaches = record {
    long = refl;
    each_wire = λ k d below. absurd (omega arith);
    each_within = λ k d below. absurd (omega arith);
  }

  pub reaches_next : (n : ℕ) (reaches : List Reach) (reach : Reach) → AreReaches i repeater trunk n reaches
      → IsReach i repeater trunk n reach → reach.delay ≤ max_delay → AreReaches i repeater trunk (n + 1) (reaches ++ reach ∷ [])
  reaches_next n reaches reach are is within = record {
    long = omega (arith, length-append reaches (reach ∷ []), are.long);
    each_wire = each_more (IsReach i repeater trunk) reaches reach n are.long are.each_wire is;
    each_within = each_more (λ k (r : Reach). r.delay ≤ max_delay) reaches reach n are.long are.each_within within;
  }

  -- where a delay is over the limit, the delay at the root is
  pub over_at_root : (k n : ℕ) (reach : Reach) → IsReach i repeater trunk k reach → k ≤ n → n < length trunk → max_delay < reach.delay
      → max_delay < delay_on i repeater trunk n
  over_at_root k n reach is below inside over =
      let rest : k + (n - k) ≡ n = omega (arith, below) in
      omega (
        arith,
        is.delay,
        over,
        sums_grow i repeater trunk k (n - k) (omega (arith, rest, inside)),
        ap (delay_on i repeater trunk) rest,
      )

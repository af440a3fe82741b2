-- Made parts are valid.
use Rattle.std.proofs.Common.{◌≡◌, ◌≢◌, ℕ, zero, suc, ◌+◌, ◌*◌, ◌^◌, ◌<◌, ◌≤◌, pos, List, [], ◌∷◌, length, get_or, All, AllPairs, refl, subst, sym, ap, ◌∙◌, arith, None}
use Rattle.std.proofs.lemmas.Int.{ints}
use Rattle.std.proofs.lemmas.List.FromFn.{get_or-map-range_with_len, length-map-range_with_len}
use Rattle.cts_units.specs.declared.params.Sink.{Sink}
use Rattle.cts_units.specs.Limits.{IsBuffer}
use Rattle.cts_block.specs.declared.blocks.Block.{Block}
use Rattle.cts_block.specs.declared.blocks.Kind.TheVariants as kind
use Rattle.cts_instance.specs.declared.parts.Parts.{Parts}
use Rattle.cts_instance.specs.FirstFault.{first_fault}
use Rattle.cts_instance.specs.declared.version.Version.TheVariants.{One}
use Rattle.cts_instance.specs.Validity.{IsBlock, IsClear, IsSink, IsValid}
use Rattle.cts_instance.proofs.ValidityLemmas.{no_fault_from_valid}
use Rattle.cts_script.specs.Generator.{draw, made_parts, made_sink, made_sinks, parts_with}
use Rattle.cts_script.proofs.Draws.{draw_below}

all_one : {A : Type 0} (P : A → Type 0) (x : A) → P x → All P (x ∷ [])
all_one P x h zero d inside = h
all_one P x h (suc i) d inside = absurd (omega arith)

all_two : {A : Type 0} (P : A → Type 0) (x y : A) → P x → P y → All P (x ∷ y ∷ [])
all_two P x y h g zero d inside = h
all_two P x y h g (suc zero) d inside = g
all_two P x y h g (suc (suc i)) d inside = absurd (omega arith)

buffers_are_valid : All IsBuffer (parts_with []).params.library
buffers_are_valid =
    all_two IsBuffer _ _
    (record { cin = omega arith; rout = omega arith; intrinsic = omega arith })
    (record { cin = omega arith; rout = omega arith; intrinsic = omega arith })

abbrev block : Block
block = record { kind = kind.Buffer; x1 = pos 4000000; y1 = pos 4000000; x2 = pos 6000000; y2 = pos 6000000 }

block_is_valid : IsBlock (parts_with []).die block
block_is_valid = record {
  x_order = omega (arith, ints);
  y_order = omega (arith, ints);
  from = record { west = omega (arith, ints); east = omega (arith, ints); south = omega (arith, ints); north = omega (arith, ints) };
  to = record { west = omega (arith, ints); east = omega (arith, ints); south = omega (arith, ints); north = omega (arith, ints) };
}

block_is_clear : (sinks : List Sink) → IsClear (pos 0) (pos 0) sinks block
block_is_clear sinks = record { of_source = λ stops. absurd stops; of_sinks = λ stops. absurd stops }

valid_sink : (seed number : ℕ) → seed < 2 ^ 31 → number < 65536 → IsSink One (parts_with []).die (made_sink seed number)
valid_sink seed number h w =
    let x : draw seed (3 * number) 10000001 < 10000001 = draw_below seed (3 * number) 10000001 h (omega arith) in
    let y : draw seed (3 * number + 1) 10000001 < 10000001 = draw_below seed (3 * number + 1) 10000001 h (omega arith) in
    let c : draw seed (3 * number + 2) 31 < 31 = draw_below seed (3 * number + 2) 31 h (omega arith) in
    record {
      id = omega arith;
      cap = omega arith;
      offset = omega arith;
      no_offset = λ _. refl;
      in_die = record { west = omega (arith, ints); east = omega (arith, ints); south = omega (arith, ints); north = omega (arith, ints) };
    }

valid_sinks : (seed count : ℕ) → seed < 2 ^ 31 → count ≤ 65536 → All (IsSink One (parts_with []).die) (made_sinks seed count)
unfolding made_sinks
valid_sinks seed count h w i d inside =
    let below : i < count = subst (λ n. i < n) (length-map-range_with_len (made_sink seed) 0 count) inside in
    subst (IsSink One (parts_with []).die) (sym (get_or-map-range_with_len (made_sink seed) 0 count i i d below (omega arith)))
    (valid_sink seed i h (omega arith))

distinct_ids : (seed count : ℕ) → AllPairs (λ (a b : Sink). a.id ≢ b.id) (made_sinks seed count)
unfolding made_sinks
distinct_ids seed count i j d before inside e =
    let below : j < count = subst (λ n. j < n) (length-map-range_with_len (made_sink seed) 0 count) inside in
    let first : (get_or (made_sinks seed count) i d).id ≡ i + 1 =
    ap (λ s. s.id) (get_or-map-range_with_len (made_sink seed) 0 count i i d (omega arith) (omega arith)) in
    let second : (get_or (made_sinks seed count) j d).id ≡ j + 1 =
    ap (λ s. s.id) (get_or-map-range_with_len (made_sink seed) 0 count j j d below (omega arith)) in
    omega (arith, first, second, e, before)

made_valid : (seed count : ℕ) → seed < 2 ^ 31 → 1 ≤ count → count ≤ 65536 → IsValid (made_parts seed count)
unfolding made_sinks
made_valid seed count h some most =
    let long : length (made_sinks seed count) ≡ count = length-map-range_with_len (made_sink seed) 0 count in
    record {
      die = record {
        x_low = omega (arith, ints);
        x_order = omega (arith, ints);
        x_high = omega (arith, ints);
        y_low = omega (arith, ints);
        y_order = omega (arith, ints);
        y_high = omega (arith, ints);
      };
      source_r = omega arith;
      source = record { west = omega (arith, ints); east = omega (arith, ints); south = omega (arith, ints); north = omega (arith, ints) };
      params = record {
        wire = record { r_low = omega arith; r_high = omega arith; c_low = omega arith; c_high = omega arith };
        count = omega arith;
        buffers = buffers_are_valid;
        insert_at = omega arith;
      };
      load_limit = omega arith;
      slew_limit = omega arith;
      some_sink = omega (arith, long);
      sink_count = omega (arith, long);
      sinks = valid_sinks seed count h most;
      ids = distinct_ids seed count;
      blocks = all_one (IsBlock (parts_with []).die) _ block_is_valid;
      block_count = omega arith;
      buffer_blocks = omega arith;
      all_blocks = omega arith;
      clear = all_one (IsClear (pos 0) (pos 0) (made_sinks seed count)) _ (block_is_clear (made_sinks seed count));
    }

-- so no line of theirs has a fault
pub no_fault : (seed count : ℕ) (parts : Parts) → parts ≡ made_parts seed count → seed < 2 ^ 31 → 1 ≤ count → count ≤ 65536
    → first_fault parts ≡ None
no_fault seed count parts e h some most = ap first_fault e ∙ no_fault_from_valid (made_parts seed count) (made_valid seed count h some most)

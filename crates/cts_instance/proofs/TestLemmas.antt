-- Each test of a line is true exactly where what it tests holds.
use Rattle.std.proofs.Common.{◌≡◌, ◌≢◌, ℕ, ◌^◌, ◌≤◌, Bool, true, false, not, ◌||◌, T, nat_eq, nat_le, ℤ, pos, ◌≤ℤ◌, ◌<ℤ◌, int_le, int_lt, List, All, Decides, refl, sym, subst, ◌∙◌, arith}
use Rattle.std.specs.List.{list_any, list_all}
use Rattle.std.proofs.lemmas.Bool.{leb-true, le-leb}
use Rattle.std.proofs.lemmas.Bool.Decides.{Decides-eqb, Decides-like, Decides-not, Decides-and, Decides-ltb, Decides-by_and, Decides-by_or}
use Rattle.std.proofs.lemmas.Float.{T_from_true}
use Rattle.std.proofs.lemmas.List.{get_or_default}
use Rattle.cts_geom.specs.declared.bounds.Die.{Die}
use Rattle.cts_units.specs.declared.params.Sink.{Sink}
use Rattle.cts_units.specs.declared.params.Wire.{Wire}
use Rattle.cts_units.specs.declared.params.Buffer.{Buffer}
use Rattle.cts_units.specs.Limits.{IsWire, IsBuffer}
use Rattle.cts_block.specs.declared.blocks.Block.{Block}
use Rattle.cts_block.specs.declared.blocks.Kind.{Kind}
use Rattle.cts_block.specs.declared.blocks.Kind.TheVariants.{Buffer as of_buffers, All as of_all}
use Rattle.cts_block.specs.FreePoints.{StopsWires, stops_wires}
use Rattle.cts_instance.specs.declared.version.Version.{Version}
use Rattle.cts_instance.specs.declared.version.Version.TheVariants.{One, Two}
use Rattle.cts_block.specs.Places.{IsInDie, IsInside}
use Rattle.cts_instance.specs.Validity.{IsDie, IsBounded, IsClear}
use Rattle.cts_instance.specs.Tests.{is_between, is_strictly_between, is_in_die, is_inside, is_side, is_die, is_bounded, is_wire, is_limits, is_buffer, is_offset, is_sink, is_upright, is_block_in_die, is_empty, is_clear}

pub Decides-int_le : (a b : ℤ) → Decides (int_le a b) (a ≤ℤ b)
Decides-int_le a b = (λ e. record { le = T_from_true _ e }, λ h. by (int_le a b) h.le)
  where
    by : (t : Bool) → T t → t ≡ true
    by true h = refl
    by false h = absurd h

pub Decides-int_lt : (a b : ℤ) → Decides (int_lt a b) (a <ℤ b)
Decides-int_lt a b = (λ e. record { lt = T_from_true _ e }, λ h. by (int_lt a b) h.lt)
  where
    by : (t : Bool) → T t → t ≡ true
    by true h = refl
    by false h = absurd h

pub Decides-nat_le : (a b : ℕ) → Decides (nat_le a b) (a ≤ b)
Decides-nat_le a b = (leb-true a b, le-leb a b)

pub Decides-list_all : {X : Type 0} (p : X → Bool) (P : X → Type 0) → ((x : X) → Decides (p x) (P x)) → (xs : List X)
    → Decides (list_all p xs) (All P xs)
Decides-list_all p P each xs = Decides-by_and p P (list_all p) each refl (λ _ _. refl) xs

-- no number of the list is this one
pub Decides-absent : (n : ℕ) (ns : List ℕ) → Decides (not (list_any (nat_eq n) ns)) (All (λ m. m ≢ n) ns)
Decides-absent n ns =
    Decides-like (not (list_any (nat_eq n) ns))
    (λ none k d inside same. none (k, inside, λ e. sym same ∙ get_or_default ns k d e inside))
    (λ apart some. apart some.0 0 some.1 (sym (some.2 0)))
    (Decides-not (list_any (nat_eq n) ns)
    (Decides-by_or (nat_eq n) (λ m. n ≡ m) (list_any (nat_eq n)) (Decides-eqb n) refl (λ _ _. refl) ns))

pub Decides-is_between : (low high z : ℤ) → Decides (is_between low high z) ((low ≤ℤ z) × (z ≤ℤ high))
unfolding is_between
Decides-is_between low high z = Decides-and (int_le low z) (int_le z high) (Decides-int_le low z) (Decides-int_le z high)

pub Decides-is_strictly_between : (low high z : ℤ) → Decides (is_strictly_between low high z) ((low <ℤ z) × (z <ℤ high))
unfolding is_strictly_between
Decides-is_strictly_between low high z = Decides-and (int_lt low z) (int_lt z high) (Decides-int_lt low z) (Decides-int_lt z high)

pub Decides-is_in_die : (die : Die) (x y : ℤ) → Decides (is_in_die die x y) (IsInDie die x y)
unfolding is_in_die
Decides-is_in_die die x y =
    Decides-like (is_in_die die x y)
    (λ h. record { west = h.0.0; east = h.0.1; south = h.1.0; north = h.1.1 })
    (λ p. ((p.west, p.east), (p.south, p.north)))
    (Decides-and (is_between die.x1 die.x2 x) (is_between die.y1 die.y2 y) (Decides-is_between die.x1 die.x2 x) (Decides-is_between die.y1 die.y2 y))

pub Decides-is_inside : (block : Block) (x y : ℤ) → Decides (is_inside block x y) (IsInside block x y)
unfolding is_inside
Decides-is_inside block x y =
    Decides-like (is_inside block x y)
    (λ h. record { west = h.0.0; east = h.0.1; south = h.1.0; north = h.1.1 })
    (λ p. ((p.west, p.east), (p.south, p.north)))
    (Decides-and (is_strictly_between block.x1 block.x2 x) (is_strictly_between block.y1 block.y2 y)
    (Decides-is_strictly_between block.x1 block.x2 x) (Decides-is_strictly_between block.y1 block.y2 y))

pub Decides-is_side : (low high : ℤ) → Decides (is_side low high) (((pos 0 ≤ℤ low) × (low ≤ℤ high)) × (high ≤ℤ pos (10 ^ 8)))
unfolding is_side
Decides-is_side low high =
    Decides-and (is_between (pos 0) high low) (int_le high (pos (10 ^ 8))) (Decides-is_between (pos 0) high low) (Decides-int_le high (pos (10 ^ 8)))

pub Decides-is_die : (die : Die) → Decides (is_die die) (IsDie die)
unfolding is_die
Decides-is_die die =
    Decides-like (is_die die)
    (λ h. record { x_low = h.0.0.0; x_order = h.0.0.1; x_high = h.0.1; y_low = h.1.0.0; y_order = h.1.0.1; y_high = h.1.1 })
    (λ d. (((d.x_low, d.x_order), d.x_high), ((d.y_low, d.y_order), d.y_high)))
    (Decides-and (is_side die.x1 die.x2) (is_side die.y1 die.y2) (Decides-is_side die.x1 die.x2) (Decides-is_side die.y1 die.y2))

pub Decides-is_bounded : (n : ℕ) → Decides (is_bounded n) (IsBounded n)
Decides-is_bounded n = Decides-ltb n (10 ^ 18)

pub Decides-is_wire : (wire : Wire) → Decides (is_wire wire) (IsWire wire)
unfolding is_wire
Decides-is_wire wire =
    Decides-like (is_wire wire)
    (λ h. record { r_low = h.0.0.0; r_high = h.0.0.1; c_low = h.0.1; c_high = h.1 })
    (λ w. (((w.r_low, w.r_high), w.c_low), w.c_high))
    (Decides-and _ _ (Decides-and _ _ (Decides-and _ _ (Decides-nat_le 1 wire.r) (Decides-nat_le wire.r (10 ^ 6))) (Decides-nat_le 1 wire.c)) (Decides-nat_le wire.c (10 ^ 6)))

pub Decides-is_limits : (insert_at load slew : ℕ)
    → Decides (is_limits insert_at load slew) ((IsBounded insert_at × IsBounded load) × IsBounded slew)
unfolding is_limits
Decides-is_limits insert_at load slew =
    Decides-and _ _ (Decides-and _ _ (Decides-is_bounded insert_at) (Decides-is_bounded load)) (Decides-is_bounded slew)

pub Decides-is_buffer : (buffer : Buffer) → Decides (is_buffer buffer) (IsBuffer buffer)
unfolding is_buffer
Decides-is_buffer buffer =
    Decides-like (is_buffer buffer)
    (λ h. record { cin = h.0.0; rout = h.0.1; intrinsic = h.1 })
    (λ b. ((b.cin, b.rout), b.intrinsic))
    (Decides-and _ _ (Decides-and _ _ (Decides-nat_le buffer.cin (10 ^ 12)) (Decides-is_bounded buffer.rout)) (Decides-is_bounded buffer.intrinsic))

-- an offset that a sink of this version may want
abbrev pub IsOffset : Version → ℕ → Type 0
IsOffset version offset = IsBounded offset × (version ≡ One → offset ≡ 0)

abbrev IsFirst : Version → Type 0
IsFirst One = Unit {0}
IsFirst Two = ⊥

pub Decides-is_offset : (version : Version) (offset : ℕ) → Decides (is_offset version offset) (IsOffset version offset)
unfolding is_offset
Decides-is_offset One offset =
    let d = Decides-eqb offset 0 in (λ e. let none : offset ≡ 0 = d.0 e in (omega (arith, none), λ _. none), λ h. d.1 (h.1 refl))
Decides-is_offset Two offset =
    let d = Decides-is_bounded offset in (λ e. (d.0 e, λ first. absurd (subst IsFirst (sym first) tt)), λ h. d.1 h.0)

pub Decides-is_sink : (version : Version) (sink : Sink)
    → Decides (is_sink version sink) (((sink.id ≤ 999999999) × (sink.cap ≤ 10 ^ 12)) × IsOffset version sink.offset)
unfolding is_sink
Decides-is_sink version sink =
    Decides-and _ _ (Decides-and _ _ (Decides-nat_le sink.id 999999999) (Decides-nat_le sink.cap (10 ^ 12)))
    (Decides-is_offset version sink.offset)

pub Decides-is_upright : (block : Block) → Decides (is_upright block) ((block.x1 ≤ℤ block.x2) × (block.y1 ≤ℤ block.y2))
unfolding is_upright
Decides-is_upright block = Decides-and _ _ (Decides-int_le block.x1 block.x2) (Decides-int_le block.y1 block.y2)

pub Decides-is_block_in_die : (die : Die) (block : Block)
    → Decides (is_block_in_die die block) (IsInDie die block.x1 block.y1 × IsInDie die block.x2 block.y2)
unfolding is_block_in_die
Decides-is_block_in_die die block = Decides-and _ _ (Decides-is_in_die die block.x1 block.y1) (Decides-is_in_die die block.x2 block.y2)

pub Decides-is_empty : (x y : ℤ) (sinks : List Sink) (block : Block)
    → Decides (is_empty x y sinks block) ((¬ IsInside block x y) × All (λ sink. ¬ IsInside block sink.x sink.y) sinks)
unfolding is_empty
Decides-is_empty x y sinks block =
    Decides-and _ _ (Decides-not _ (Decides-is_inside block x y))
    (Decides-list_all (λ sink. not (is_inside block sink.x sink.y)) (λ sink. ¬ IsInside block sink.x sink.y)
    (λ sink. Decides-not _ (Decides-is_inside block sink.x sink.y)) sinks)

pub Decides-is_clear : (x y : ℤ) (sinks : List Sink) (block : Block) → Decides (is_clear x y sinks block) (IsClear x y sinks block)
unfolding is_clear
Decides-is_clear x y sinks block =
    Decides-like (is_clear x y sinks block)
    (λ h. record { of_source = λ stops. (h stops).0; of_sinks = λ stops. (h stops).1 })
    (λ c stops. (c.of_source stops, c.of_sinks stops))
    (by block.kind)
  where
    by : (kind : Kind) → Decides (not (stops_wires kind) || is_empty x y sinks block)
        (StopsWires kind → (¬ IsInside block x y) × All (λ sink. ¬ IsInside block sink.x sink.y) sinks)
    by of_buffers = (λ e stops. absurd stops, λ h. refl)
    by of_all = let d = Decides-is_empty x y sinks block in (λ e stops. d.0 e, λ h. d.1 (h tt))

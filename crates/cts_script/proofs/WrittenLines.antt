-- Lines that are written are read back, kind by kind.
use Rattle.std.proofs.Common.{◌≡◌, ℕ, ◌^◌, ◌<◌, ◌≤◌, ◌-◌, true, ℤ, pos, negsuc, ◌≤ℤ◌, unsigned_abs, List, [], ◌∷◌, Ok, Result, None, refl, sym, ap, ◌∙◌, arith, min, codes}
use Rattle.std.specs.Str.{bytes_eq}
use Rattle.std.proofs.lemmas.Int.{ints}
use Rattle.cts_num.specs.Decimal.{decimal_text}
use Rattle.cts_geom.specs.declared.bounds.Die.{Die}
use Rattle.cts_units.specs.declared.params.Sink.{Sink}
use Rattle.cts_units.specs.declared.params.Wire.{Wire}
use Rattle.cts_units.specs.declared.params.Buffer.{Buffer}
use Rattle.cts_block.specs.declared.blocks.Block.{Block}
use Rattle.cts_block.specs.declared.blocks.Kind.{Kind}
use Rattle.cts_block.specs.declared.blocks.Kind.TheVariants as kind
use Rattle.cts_instance.specs.declared.version.Version.{Version}
use Rattle.cts_instance.specs.declared.version.Version.TheVariants.{One, Two}
use Rattle.cts_instance.specs.FirstFault.{die_fault, limits_fault, source_fault, wire_fault}
use Rattle.cts_read.specs.declared.header.Source.{Source}
use Rattle.cts_read.specs.Grammar.{◌>>=◌, refuse}
use Rattle.cts_read.specs.Header.{die_of, limits_of, source_of, version_in, version_of, wire_of}
use Rattle.cts_read.specs.Items.{block_numbers, buffer_numbers, count_of, end_of, kind_of, offset_of, sink_numbers}
use Rattle.cts_script.specs.Text.{coordinate, kind_word, offset_words, sink_words, version_word}
use Rattle.cts_script.proofs.WrittenWords.{AreWords, IsWord, body_of, decimal_word, fields_back, literal, number_back}

-- what goes on with a result that was found
pub found : {A B E : Type 0} (r : Result A E) (f : A → Result B E) (x : A) (y : Result B E) → r ≡ Ok x → f x ≡ y → (r >>= f) ≡ y
found r f x y e h = ap (λ q. q >>= f) e ∙ h

-- a number from 0 to before 10^18, as a coordinate of the die is
pub record IsWritten (z : ℤ) : Type 0 where
  pub low : pos 0 ≤ℤ z
  pub less : unsigned_abs z < 10 ^ 18

pub whole : (z : ℤ) → IsWritten z → pos (unsigned_abs z) ≡ z
whole (pos n) h = refl
whole (negsuc n) h = absurd (omega (arith, ints, h.low))

pub is_written : (z : ℤ) → pos 0 ≤ℤ z → z ≤ℤ pos (10 ^ 8) → IsWritten z
is_written (pos n) low high = record { low = low; less = omega (arith, ints, high) }
is_written (negsuc n) low high = absurd (omega (arith, ints, low))

-- a line that says nothing but its words
pub version_is_word : (version : Version) → IsWord (version_word version)
version_is_word One = literal (codes "1") (omega arith) refl
version_is_word Two = literal (codes "2") (omega arith) refl

version_in_back : (version : Version) → version_in (version_word version ∷ []) ≡ Ok version
unfolding version_in
version_in_back One = refl
version_in_back Two = refl

pub version_back : (version : Version) → version_of (body_of (codes "cts") (version_word version ∷ [])) ≡ Ok version
unfolding version_of
version_back version =
    found _ _ _ _ (fields_back (codes "cts") (version_word version ∷ []) 1 (literal (codes "cts") (omega arith) refl) (version_is_word version, tt) refl refl)
    (version_in_back version)

pub end_back : end_of (body_of (codes "end") []) ≡ Ok tt
unfolding end_of
end_back = found _ _ _ _ (fields_back (codes "end") [] 0 (literal (codes "end") (omega arith) refl) tt refl refl) refl

pub count_back : (key : List ℕ) (count : ℕ) → IsWord key → bytes_eq key key ≡ true → count < 10 ^ 18
    → count_of key (body_of key (decimal_text 0 count ∷ [])) ≡ Ok count
unfolding count_of
count_back key count k same less =
    found _ _ _ _ (fields_back key (decimal_text 0 count ∷ []) 1 k (decimal_word 0 count, tt) same refl)
    (found _ _ _ _ (number_back 0 count [] less) refl)

abbrev pub die_words : Die → List (List ℕ)
die_words die = coordinate die.x1 ∷ coordinate die.y1 ∷ coordinate die.x2 ∷ coordinate die.y2 ∷ []

pub die_are_words : (die : Die) → AreWords (die_words die)
die_are_words die = (decimal_word 3 _, (decimal_word 3 _, (decimal_word 3 _, (decimal_word 3 _, tt))))

pub die_back : (die : Die) → IsWritten die.x1 → IsWritten die.y1 → IsWritten die.x2 → IsWritten die.y2 → die_fault die ≡ None
    → die_of (body_of (codes "die") (die_words die)) ≡ Ok die
unfolding die_of
die_back die x1 y1 x2 y2 sound =
    let same : ◌≡◌ {A = Die}
    (record { x1 = pos (unsigned_abs die.x1); y1 = pos (unsigned_abs die.y1); x2 = pos (unsigned_abs die.x2); y2 = pos (unsigned_abs die.y2) }) die =
    rw (whole die.x1 x1, whole die.y1 y1, whole die.x2 x2, whole die.y2 y2) refl in
    found _ _ _ _ (fields_back (codes "die") (die_words die) 4 (literal (codes "die") (omega arith) refl) (die_are_words die) refl refl)
    (found _ _ _ _ (number_back 3 (unsigned_abs die.x1) _ x1.less)
    (found _ _ _ _ (number_back 3 (unsigned_abs die.y1) _ y1.less)
    (found _ _ _ _ (number_back 3 (unsigned_abs die.x2) _ x2.less)
    (found _ _ _ _ (number_back 3 (unsigned_abs die.y2) _ y2.less)
    (found _ _ tt _ (ap (λ d. refuse (die_fault d)) same ∙ ap refuse sound) (ap Ok same))))))

abbrev pub source_words : ℤ → ℤ → ℕ → List (List ℕ)
source_words x y r = coordinate x ∷ coordinate y ∷ decimal_text 6 r ∷ []

pub source_are_words : (x y : ℤ) (r : ℕ) → AreWords (source_words x y r)
source_are_words x y r = (decimal_word 3 _, (decimal_word 3 _, (decimal_word 6 _, tt)))

pub source_back : (die : Die) (x y : ℤ) (r : ℕ) → IsWritten x → IsWritten y → r < 10 ^ 18 → source_fault die x y r ≡ None
    → source_of die (body_of (codes "source") (source_words x y r)) ≡ Ok (record { x = x; y = y; r = r })
unfolding source_of
source_back die x y r hx hy hr sound =
    let same : ◌≡◌ {A = Source} (record { x = pos (unsigned_abs x); y = pos (unsigned_abs y); r = r }) (record { x = x; y = y; r = r }) =
    rw (whole x hx, whole y hy) refl in
    found _ _ _ _ (fields_back (codes "source") (source_words x y r) 3 (literal (codes "source") (omega arith) refl) (source_are_words x y r) refl refl)
    (found _ _ _ _ (number_back 3 (unsigned_abs x) _ hx.less)
    (found _ _ _ _ (number_back 3 (unsigned_abs y) _ hy.less)
    (found _ _ _ _ (number_back 6 r _ hr)
    (found _ _ tt _ (ap (λ (s : Source). refuse (source_fault die s.x s.y s.r)) same ∙ ap refuse sound) (ap Ok same)))))

abbrev pub wire_words : Wire → List (List ℕ)
wire_words wire = decimal_text 3 wire.r ∷ decimal_text 3 wire.c ∷ []

pub wire_are_words : (wire : Wire) → AreWords (wire_words wire)
wire_are_words wire = (decimal_word 3 _, (decimal_word 3 _, tt))

pub wire_back : (wire : Wire) → wire.r < 10 ^ 18 → wire.c < 10 ^ 18 → wire_fault wire ≡ None
    → wire_of (body_of (codes "wire") (wire_words wire)) ≡ Ok wire
unfolding wire_of
wire_back wire hr hc sound =
    found _ _ _ _ (fields_back (codes "wire") (wire_words wire) 2 (literal (codes "wire") (omega arith) refl) (wire_are_words wire) refl refl)
    (found _ _ _ _ (number_back 3 wire.r _ hr)
    (found _ _ _ _ (number_back 3 wire.c _ hc)
    (found _ _ tt _ (ap refuse sound) refl)))

abbrev pub limits_words : ℕ → ℕ → ℕ → List (List ℕ)
limits_words insert_at load slew = decimal_text 6 insert_at ∷ decimal_text 6 load ∷ decimal_text 15 slew ∷ []

pub limits_are_words : (insert_at load slew : ℕ) → AreWords (limits_words insert_at load slew)
limits_are_words insert_at load slew = (decimal_word 6 _, (decimal_word 6 _, (decimal_word 15 _, tt)))

pub limits_back : (insert_at load slew : ℕ) → insert_at < 10 ^ 18 → load < 10 ^ 18 → slew < 10 ^ 18 → limits_fault insert_at load slew ≡ None
    → limits_of (body_of (codes "limits") (limits_words insert_at load slew)) ≡ Ok (record { insert_at = insert_at; load = load; slew = slew })
unfolding limits_of
limits_back insert_at load slew hi hl hs sound =
    found _ _ _ _ (fields_back (codes "limits") (limits_words insert_at load slew) 3 (literal (codes "limits") (omega arith) refl) (limits_are_words insert_at load slew) refl refl)
    (found _ _ _ _ (number_back 6 insert_at _ hi)
    (found _ _ _ _ (number_back 6 load _ hl)
    (found _ _ _ _ (number_back 15 slew _ hs)
    (found _ _ tt _ (ap refuse sound) refl))))

abbrev pub buffer_words : Buffer → List (List ℕ)
buffer_words buffer = decimal_text 6 buffer.cin ∷ decimal_text 6 buffer.rout ∷ decimal_text 15 buffer.intrinsic ∷ []

pub buffer_are_words : (buffer : Buffer) → AreWords (buffer_words buffer)
buffer_are_words buffer = (decimal_word 6 _, (decimal_word 6 _, (decimal_word 15 _, tt)))

pub buffer_back : (buffer : Buffer) → buffer.cin < 10 ^ 18 → buffer.rout < 10 ^ 18 → buffer.intrinsic < 10 ^ 18
    → buffer_numbers (body_of (codes "buffer") (buffer_words buffer)) ≡ Ok buffer
unfolding buffer_numbers
buffer_back buffer hc hr hi =
    found _ _ _ _ (fields_back (codes "buffer") (buffer_words buffer) 3 (literal (codes "buffer") (omega arith) refl) (buffer_are_words buffer) refl refl)
    (found _ _ _ _ (number_back 6 buffer.cin _ hc)
    (found _ _ _ _ (number_back 6 buffer.rout _ hr)
    (found _ _ _ _ (number_back 15 buffer.intrinsic _ hi) refl)))

offset_are_words : (version : Version) (offset : ℕ) → AreWords (offset_words version offset)
offset_are_words One offset = tt
offset_are_words Two offset = (decimal_word 15 _, tt)

pub sink_are_words : (version : Version) (sink : Sink) → AreWords (sink_words version sink)
sink_are_words version sink = (decimal_word 0 _, (decimal_word 3 _, (decimal_word 3 _, (decimal_word 6 _, offset_are_words version sink.offset))))

module _ (sink : Sink) (hi : sink.id ≤ 999999999) (hx : IsWritten sink.x) (hy : IsWritten sink.y) (hc : sink.cap < 10 ^ 18) where
  -- the sink that is read, but for its offset
  read_back : (offset : ℕ) → offset ≡ sink.offset
      → ◌≡◌ {A = Sink}
      (record { id = min sink.id (2 ^ 32 - 1); x = pos (unsigned_abs sink.x); y = pos (unsigned_abs sink.y); cap = sink.cap; offset = offset }) sink
  read_back offset same =
      let id : min sink.id (2 ^ 32 - 1) ≡ sink.id = omega (arith, hi) in
      rw (id, whole sink.x hx, whole sink.y hy, same) refl

  pub sink_back : (version : Version) → sink.offset < 10 ^ 18 → (version ≡ One → sink.offset ≡ 0)
      → sink_numbers version (body_of (codes "sink") (sink_words version sink)) ≡ Ok sink
  unfolding sink_numbers offset_of
  sink_back One ho none =
      found _ _ _ _ (fields_back (codes "sink") (sink_words One sink) 4 (literal (codes "sink") (omega arith) refl) (sink_are_words One sink) refl refl)
      (found _ _ _ _ (number_back 0 sink.id _ (omega (arith, hi)))
      (found _ _ _ _ (number_back 3 (unsigned_abs sink.x) _ hx.less)
      (found _ _ _ _ (number_back 3 (unsigned_abs sink.y) _ hy.less)
      (found _ _ _ _ (number_back 6 sink.cap _ hc) (ap Ok (read_back 0 (sym (none refl))))))))
  sink_back Two ho none =
      found _ _ _ _ (fields_back (codes "sink") (sink_words Two sink) 5 (literal (codes "sink") (omega arith) refl) (sink_are_words Two sink) refl refl)
      (found _ _ _ _ (number_back 0 sink.id _ (omega (arith, hi)))
      (found _ _ _ _ (number_back 3 (unsigned_abs sink.x) _ hx.less)
      (found _ _ _ _ (number_back 3 (unsigned_abs sink.y) _ hy.less)
      (found _ _ _ _ (number_back 6 sink.cap _ hc)
      (found _ _ _ _ (number_back 15 sink.offset _ ho) (ap Ok (read_back sink.offset refl)))))))

kind_is_word : (k : Kind) → IsWord (kind_word k)
kind_is_word kind.Buffer = literal (codes "buffer") (omega arith) refl
kind_is_word kind.All = literal (codes "all") (omega arith) refl

kind_back : (k : Kind) (words : List (List ℕ)) → kind_of (kind_word k ∷ words) ≡ Ok (k, words)
unfolding kind_of
kind_back kind.Buffer words = refl
kind_back kind.All words = refl

abbrev pub block_words : Block → List (List ℕ)
block_words block = kind_word block.kind ∷ coordinate block.x1 ∷ coordinate block.y1 ∷ coordinate block.x2 ∷ coordinate block.y2 ∷ []

pub block_are_words : (block : Block) → AreWords (block_words block)
block_are_words block = (kind_is_word block.kind, (decimal_word 3 _, (decimal_word 3 _, (decimal_word 3 _, (decimal_word 3 _, tt)))))

pub block_back : (block : Block) → IsWritten block.x1 → IsWritten block.y1 → IsWritten block.x2 → IsWritten block.y2
    → block_numbers (body_of (codes "block") (block_words block)) ≡ Ok block
unfolding block_numbers
block_back block x1 y1 x2 y2 =
    let same : ◌≡◌ {A = Block}
    (record { kind = block.kind; x1 = pos (unsigned_abs block.x1); y1 = pos (unsigned_abs block.y1); x2 = pos (unsigned_abs block.x2); y2 = pos (unsigned_abs block.y2) }) block =
    rw (whole block.x1 x1, whole block.y1 y1, whole block.x2 x2, whole block.y2 y2) refl in
    found _ _ _ _ (fields_back (codes "block") (block_words block) 5 (literal (codes "block") (omega arith) refl) (block_are_words block) refl refl)
    (found _ _ _ _ (kind_back block.kind _)
    (found _ _ _ _ (number_back 3 (unsigned_abs block.x1) _ x1.less)
    (found _ _ _ _ (number_back 3 (unsigned_abs block.y1) _ y1.less)
    (found _ _ _ _ (number_back 3 (unsigned_abs block.x2) _ x2.less)
    (found _ _ _ _ (number_back 3 (unsigned_abs block.y2) _ y2.less) (ap Ok same))))))

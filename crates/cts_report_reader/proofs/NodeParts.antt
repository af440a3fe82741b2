-- The line of a node.
use Rattle.std.proofs.Common.{◌≡◌, ◌⊎◌, ℕ, suc, ◌-◌, ◌^◌, ◌<◌, ◌≤◌, Bool, true, false, eqb, ltb, List, [], ◌++◌, Option, Some, None, refl, sym, ap, ◌∙◌, subst, inl, inr, arith, append_assoc, codes}
use Rattle.std.proofs.lemmas.Bool.Decides.{eqb_tells}
use Rattle.cts_instance.specs.declared.version.Version.{Version}
use Rattle.cts_report.specs.Lines.{labelled, whole, point_words, time, capacitance, length_in_um, name_words, buffer_words, load_words, node_line}
use Rattle.cts_report.specs.Printed.{PrintedPoint, PrintedKind, sink_leaf, pair_node, PrintedNode}
use Rattle.cts_report_reader.specs.declared.form.Form.{Form}
use Rattle.cts_report_reader.specs.Reader.{PartReader, IsStop, IsAny, IsPart}
use Rattle.cts_report_reader.specs.Bounds.{IsShort, IsArrival, IsPrintedPlace, IsPrintedKind, IsPrintedNode, printed_children}
use Rattle.cts_report_reader.specs.Forms.{tells_arrivals, tells_arrival}
use Rattle.cts_report_reader.specs.NodeLine.{LeafFound, PairFound, PlaceFound, TailFound, leaf_of, pair_of, leaf_at, buffer_at, pair_at, joins_stack, node_rest_at, node_at}
use Rattle.cts_report_reader.specs.Words.{word_at, kept_if, labelled_at, bounded_at, both_at, mapped_at, first_of, place_at, tail_at}
use Rattle.cts_report_reader.proofs.Parts.{kept_part}
use Rattle.cts_report_reader.proofs.Labels.{not_letter, word_part, labelled_part, bounded_part, le_bound, bound_le}
use Rattle.cts_report_reader.proofs.PointParts.{map_part, both_part, place_part, TailFits, tail_text, tail_part, CornersFit, true_false}

-- one of two parts
module _ {C : Type 0} (Ends : List ℕ → Type 0) (One Two Fits : C → Type 0) (text : C → List ℕ) (read_one read_two : PartReader C)
    (one : IsPart Ends One text read_one) (two : IsPart Ends Two text read_two)
    (is_one : (c : C) → One c → Fits c) (is_two : (c : C) → Two c → Fits c)
    (which : (c : C) → Fits c → One c ⊎ Two c)
    (apart : (c : C) (rest : List ℕ) → Two c → read_one (text c ++ rest) ≡ None) where
  first_takes : (bytes : List ℕ) (found other : Option (C × List ℕ)) (c : C) (rest : List ℕ) → read_one bytes ≡ found → read_two bytes ≡ other
      → first_of found other ≡ Some (c, rest) → Fits c × (bytes ≡ text c ++ rest)
  first_takes bytes (Some x) other c rest e f g = let t = one.takes bytes c rest (e ∙ g) in (is_one c t.0, t.1)
  first_takes bytes None other c rest e f g = let t = two.takes bytes c rest (f ∙ g) in (is_two c t.0, t.1)

  first_again : (c : C) (rest : List ℕ) → Fits c → Ends rest → first_of (read_one (text c ++ rest)) (read_two (text c ++ rest)) ≡ Some (c, rest)
  first_again c rest fits ends =
      elim (which c fits) [
        | inl h ↦ ap (λ (o : Option (C × List ℕ)). first_of o (read_two (text c ++ rest))) (one.again c rest h ends)
        | inr h ↦ ap (λ (o : Option (C × List ℕ)). first_of o (read_two (text c ++ rest))) (apart c rest h) ∙ two.again c rest h ends
      ]

  pub first_part : IsPart Ends Fits text (λ bytes. first_of (read_one bytes) (read_two bytes))
  first_part = record {
    takes = λ bytes c rest e. first_takes bytes (read_one bytes) (read_two bytes) c rest refl refl e;
    again = first_again;
  }

-- buffers

unfoldable pub BufferFits : ℕ → Option ℕ → Type 0
BufferFits buffers None = Unit {0}
BufferFits buffers (Some index) = index < buffers

IsNoBuffer : Option ℕ → Type 0
IsNoBuffer None = Unit {0}
IsNoBuffer (Some index) = ⊥

IsBufferOf : ℕ → Option ℕ → Type 0
IsBufferOf buffers None = ⊥
IsBufferOf buffers (Some index) = index < buffers

index_or : Option ℕ → ℕ
index_or None = 0
index_or (Some index) = index

no_buffer : (c : Option ℕ) → IsNoBuffer c → Unit {0} × (◌≡◌ {A = Option ℕ} None c)
unfolding IsNoBuffer
no_buffer None fits = (tt, refl)
no_buffer (Some index) fits = absurd fits

none_part : IsPart IsStop IsNoBuffer buffer_words (mapped_at (λ (_ : Unit {0}). None) (word_at (codes " buffer none")))
unfolding buffer_words IsNoBuffer
none_part =
    map_part IsStop (λ (_ : Unit {0}). Unit {0}) (λ _. codes " buffer none") (word_at (codes " buffer none")) IsNoBuffer buffer_words (λ _. None) (λ _. tt)
    (record { takes = (word_part (codes " buffer none")).takes; again = λ value rest fits ends. (word_part (codes " buffer none")).again value rest fits tt })
    (λ a fits. (tt, refl)) no_buffer

index_split : (buffers : ℕ) → buffers ≤ 2 ^ 16 → (c : Option ℕ) → IsBufferOf buffers c
    → ((index_or c < 10 ^ 38) × (ltb (index_or c) buffers ≡ true)) × (◌≡◌ {A = Option ℕ} (Some (index_or c)) c)
unfolding IsBufferOf index_or
index_split buffers few None fits = absurd fits
index_split buffers few (Some index) fits = ((omega (arith, fits, few), le_bound (suc index) buffers fits), refl)

index_part : (buffers : ℕ) → buffers ≤ 2 ^ 16 → IsPart IsStop (IsBufferOf buffers) buffer_words (mapped_at Some (λ rest. kept_if (λ index. ltb index buffers) (labelled_at (codes " buffer ") 0 rest)))
unfolding buffer_words IsBufferOf whole
index_part buffers few =
    map_part IsStop (λ index. (index < 10 ^ 38) × (ltb index buffers ≡ true)) (labelled (codes " buffer ") 0) (λ rest. kept_if (λ index. ltb index buffers) (labelled_at (codes " buffer ") 0 rest))
    (IsBufferOf buffers) buffer_words Some index_or
    (kept_part IsStop (λ index. index < 10 ^ 38) (labelled (codes " buffer ") 0) (labelled_at (codes " buffer ") 0) (λ index. ltb index buffers) (labelled_part (codes " buffer ") 0))
    (λ index fits. (bound_le (suc index) buffers fits.1, refl))
    (index_split buffers few)

index_is_no_none : (buffers : ℕ) (c : Option ℕ) (rest : List ℕ) → IsBufferOf buffers c
    → mapped_at {C = Option ℕ} (λ (_ : Unit {0}). None) (word_at (codes " buffer none")) (buffer_words c ++ rest) ≡ None
unfolding buffer_words IsBufferOf whole labelled word_at
index_is_no_none buffers None rest fits = absurd fits
index_is_no_none buffers (Some index) rest fits =
    ap (λ (o : Option (Unit {0} × List ℕ)). mapped_at {A = Unit {0}} {C = Option ℕ} (λ _. None) (λ _. o) []) (not_letter 0 index 110 (codes "one") rest refl)

buffer_which : (buffers : ℕ) (c : Option ℕ) → BufferFits buffers c → IsNoBuffer c ⊎ IsBufferOf buffers c
unfolding BufferFits IsNoBuffer IsBufferOf
buffer_which buffers None fits = inl tt
buffer_which buffers (Some index) fits = inr fits

buffer_none_fits : (buffers : ℕ) (c : Option ℕ) → IsNoBuffer c → BufferFits buffers c
unfolding BufferFits IsNoBuffer
buffer_none_fits buffers None fits = tt
buffer_none_fits buffers (Some index) fits = absurd fits

buffer_some_fits : (buffers : ℕ) (c : Option ℕ) → IsBufferOf buffers c → BufferFits buffers c
unfolding BufferFits IsBufferOf
buffer_some_fits buffers None fits = absurd fits
buffer_some_fits buffers (Some index) fits = fits

buffer_part : (buffers : ℕ) → buffers ≤ 2 ^ 16 → IsPart IsStop (BufferFits buffers) buffer_words (buffer_at buffers)
unfolding buffer_at
buffer_part buffers few =
    first_part IsStop IsNoBuffer (IsBufferOf buffers) (BufferFits buffers) buffer_words _ _ none_part (index_part buffers few)
    (buffer_none_fits buffers) (buffer_some_fits buffers) (buffer_which buffers) (index_is_no_none buffers)

buffer_stop : (c : Option ℕ) (rest : List ℕ) → IsStop (buffer_words c ++ rest)
unfolding buffer_words whole labelled
buffer_stop None rest = refl
buffer_stop (Some index) rest = refl

-- what follows the number of a node

unfoldable pub rest_text : PrintedNode → List ℕ
rest_text node =
    name_words node.kind ++ (codes " at" ++ (point_words node.place ++ (load_words node.kind node.load
    ++ tail_text (node.delay, (node.arrival, (node.slew, (node.wire, (node.corners, tt))))))))

-- leaves

unfoldable pub LeafFits : Bool → LeafFound → Type 0
LeafFits told c = (c.0 ≤ 999999999) × (IsPrintedPlace c.1.0.1 × (IsShort c.1.1.0 × TailFits told c.1.1.1))

unfoldable pub leaf_text : LeafFound → List ℕ
leaf_text c = labelled (codes " leaf ") 0 c.0 ++ ((codes " at" ++ point_words c.1.0.1) ++ (labelled (codes " load ") 6 c.1.1.0 ++ tail_text c.1.1.1))

unfoldable pub id_or : PrintedKind → ℕ
id_or (sink_leaf id) = id
id_or (pair_node left right buffer residue) = 0

unfoldable pub found_leaf : PrintedNode → LeafFound
found_leaf node = (id_or node.kind, ((tt, node.place), (node.load, (node.delay, (node.arrival, (node.slew, (node.wire, (node.corners, tt))))))))

unfoldable pub IsLeafKind : PrintedKind → Type 0
IsLeafKind (sink_leaf id) = Unit {0}
IsLeafKind (pair_node left right buffer residue) = ⊥

unfoldable pub LeafNode : Bool → PrintedNode → Type 0
LeafNode told node = IsLeafKind node.kind × LeafFits told (found_leaf node)

leaf_kind : (kind : PrintedKind) → IsLeafKind kind → sink_leaf (id_or kind) ≡ kind
unfolding IsLeafKind id_or
leaf_kind (sink_leaf id) fits = refl
leaf_kind (pair_node left right buffer residue) fits = absurd fits

place_stop : (c : PrintedPoint) (rest : List ℕ) → IsStop ((codes " at" ++ point_words c) ++ rest)
place_stop c rest = refl

tail_stop : (c : TailFound) (rest : List ℕ) → IsStop (tail_text c ++ rest)
unfolding tail_text labelled
tail_stop c rest = refl

label_stop : (number places : ℕ) (rest : List ℕ) (tail : List ℕ) → IsStop ((labelled (codes " load ") places number ++ tail) ++ rest)
unfolding labelled
label_stop number places rest tail = refl

found_leaf_part : (told : Bool) → IsPart IsAny (LeafFits told) leaf_text
    (both_at (bounded_at (codes " leaf ") 0 999999999) (both_at place_at (both_at (labelled_at (codes " load ") 6) (tail_at told))))
unfolding LeafFits leaf_text
found_leaf_part told =
    both_part IsStop (λ id. id ≤ 999999999) (labelled (codes " leaf ") 0) (bounded_at (codes " leaf ") 0 999999999) IsAny
    (λ (c : PlaceFound × (ℕ × TailFound)). IsPrintedPlace c.0.1 × (IsShort c.1.0 × TailFits told c.1.1)) (λ c. (codes " at" ++ point_words c.0.1) ++ (labelled (codes " load ") 6 c.1.0 ++ tail_text c.1.1)) _
    (bounded_part (codes " leaf ") 0 999999999 (omega arith))
    (both_part IsStop (λ (c : PlaceFound). IsPrintedPlace c.1) (λ c. codes " at" ++ point_words c.1) place_at IsAny
    (λ (c : ℕ × TailFound). IsShort c.0 × TailFits told c.1) (λ c. labelled (codes " load ") 6 c.0 ++ tail_text c.1) _
    place_part
    (both_part IsStop IsShort (labelled (codes " load ") 6) (labelled_at (codes " load ") 6) IsAny (TailFits told) tail_text (tail_at told) (labelled_part (codes " load ") 6) (tail_part told) (λ b rest fits ends. tail_stop b rest))
    (λ b rest fits ends. label_stop b.0 6 rest (tail_text b.1)))
    (λ b rest fits ends. refl)

leaf_joins : (told : Bool) (c : LeafFound) → LeafFits told c → LeafNode told (leaf_of c) × (rest_text (leaf_of c) ≡ leaf_text c)
unfolding LeafNode IsLeafKind found_leaf id_or LeafFits rest_text leaf_text name_words load_words whole capacitance
leaf_joins told c fits = ((tt, fits), simp append_assoc)

leaf_splits : (told : Bool) (node : PrintedNode) → LeafNode told node → LeafFits told (found_leaf node) × (leaf_of (found_leaf node) ≡ node)
unfolding LeafNode found_leaf
leaf_splits told node fits = (fits.1, ap (λ (k : PrintedKind). record node { kind = k }) (leaf_kind node.kind fits.0))

pub leaf_part : (told : Bool) → IsPart IsAny (LeafNode told) rest_text (leaf_at told)
unfolding leaf_at
leaf_part told =
    map_part IsAny (LeafFits told) leaf_text _ (LeafNode told) rest_text leaf_of found_leaf (found_leaf_part told) (leaf_joins told) (leaf_splits told)

-- pairs

unfoldable pub PairFits : ℕ → PairFound → Type 0
PairFits buffers c =
    (c.0 ≤ 2 ^ 32 - 1) × ((c.1.0 ≤ 2 ^ 32 - 1) × (IsPrintedPlace c.1.1.0.1 × (BufferFits buffers c.1.1.1.0
    × (IsShort c.1.1.1.1.0 × (IsShort c.1.1.1.1.1.0 × TailFits false c.1.1.1.1.1.1)))))

unfoldable pub pair_text : PairFound → List ℕ
pair_text c =
    labelled (codes " pair ") 0 c.0 ++ (labelled (codes " ") 0 c.1.0 ++ ((codes " at" ++ point_words c.1.1.0.1)
    ++ (buffer_words c.1.1.1.0 ++ (labelled (codes " load ") 6 c.1.1.1.1.0 ++ (labelled (codes " residue ") 16 c.1.1.1.1.1.0 ++ tail_text c.1.1.1.1.1.1)))))

unfoldable pub left_or : PrintedKind → ℕ
left_or (sink_leaf id) = 0
left_or (pair_node left right buffer residue) = left

unfoldable pub right_or : PrintedKind → ℕ
right_or (sink_leaf id) = 0
right_or (pair_node left right buffer residue) = right

buffer_or : PrintedKind → Option ℕ
buffer_or (sink_leaf id) = None
buffer_or (pair_node left right buffer residue) = buffer

residue_or : PrintedKind → ℕ
residue_or (sink_leaf id) = 0
residue_or (pair_node left right buffer residue) = residue

found_pair : PrintedNode → PairFound
found_pair node = (
  left_or node.kind,
  (
    right_or node.kind,
    (
      (tt, node.place),
      (
        buffer_or node.kind,
        (
          node.load,
          (
            residue_or node.kind,
            (node.delay, (node.arrival, (node.slew, (node.wire, (node.corners, tt))))),
          ),
        ),
      ),
    ),
  ),
)

IsPairKind : PrintedKind → Type 0
IsPairKind (sink_leaf id) = ⊥
IsPairKind (pair_node left right buffer residue) = Unit {0}

PairNode : ℕ → PrintedNode → Type 0
PairNode buffers node = IsPairKind node.kind × PairFits buffers (found_pair node)

pair_kind : (kind : PrintedKind) → IsPairKind kind → pair_node (left_or kind) (right_or kind) (buffer_or kind) (residue_or kind) ≡ kind
unfolding IsPairKind left_or right_or buffer_or residue_or
pair_kind (sink_leaf id) fits = absurd fits
pair_kind (pair_node left right buffer residue) fits = refl

residue_stop : (number places : ℕ) (rest : List ℕ) (tail : List ℕ) → IsStop ((labelled (codes " residue ") places number ++ tail) ++ rest)
unfolding labelled
residue_stop number places rest tail = refl

buffer_then_stop : (c : Option ℕ) (tail rest : List ℕ) → IsStop ((buffer_words c ++ tail) ++ rest)
unfolding buffer_words whole labelled
buffer_then_stop None tail rest = refl
buffer_then_stop (Some index) tail rest = refl

space_stop : (number places : ℕ) (rest : List ℕ) (tail : List ℕ) → IsStop ((labelled (codes " ") places number ++ tail) ++ rest)
unfolding labelled
space_stop number places rest tail = refl

found_pair_part : (buffers : ℕ) → buffers ≤ 2 ^ 16 → IsPart IsAny (PairFits buffers) pair_text
    (both_at (bounded_at (codes " pair ") 0 (2 ^ 32 - 1))
    (both_at (bounded_at (codes " ") 0 (2 ^ 32 - 1))
    (both_at place_at
    (both_at (buffer_at buffers)
    (both_at (labelled_at (codes " load ") 6) (both_at (labelled_at (codes " residue ") 16) (tail_at false)))))))
unfolding PairFits pair_text
found_pair_part buffers few =
    both_part IsStop (λ id. id ≤ 2 ^ 32 - 1) (labelled (codes " pair ") 0) (bounded_at (codes " pair ") 0 (2 ^ 32 - 1)) IsAny
    (λ (c : ℕ × (PlaceFound × (Option ℕ × (ℕ × (ℕ × TailFound))))).
    (c.0 ≤ 2 ^ 32 - 1) × (IsPrintedPlace c.1.0.1 × (BufferFits buffers c.1.1.0 × (IsShort c.1.1.1.0 × (IsShort c.1.1.1.1.0 × TailFits false c.1.1.1.1.1)))))
    (λ c. labelled (codes " ") 0 c.0 ++ ((codes " at" ++ point_words c.1.0.1) ++ (buffer_words c.1.1.0 ++ (labelled (codes " load ") 6 c.1.1.1.0 ++ (labelled (codes " residue ") 16 c.1.1.1.1.0 ++ tail_text c.1.1.1.1.1))))) _
    (bounded_part (codes " pair ") 0 (2 ^ 32 - 1) (omega arith))
    (both_part IsStop (λ id. id ≤ 2 ^ 32 - 1) (labelled (codes " ") 0) (bounded_at (codes " ") 0 (2 ^ 32 - 1)) IsAny
    (λ (c : PlaceFound × (Option ℕ × (ℕ × (ℕ × TailFound)))).
    IsPrintedPlace c.0.1 × (BufferFits buffers c.1.0 × (IsShort c.1.1.0 × (IsShort c.1.1.1.0 × TailFits false c.1.1.1.1))))
    (λ c. (codes " at" ++ point_words c.0.1) ++ (buffer_words c.1.0 ++ (labelled (codes " load ") 6 c.1.1.0 ++ (labelled (codes " residue ") 16 c.1.1.1.0 ++ tail_text c.1.1.1.1)))) _
    (bounded_part (codes " ") 0 (2 ^ 32 - 1) (omega arith))
    (both_part IsStop (λ (c : PlaceFound). IsPrintedPlace c.1) (λ c. codes " at" ++ point_words c.1) place_at IsAny
    (λ (c : Option ℕ × (ℕ × (ℕ × TailFound))). BufferFits buffers c.0 × (IsShort c.1.0 × (IsShort c.1.1.0 × TailFits false c.1.1.1)))
    (λ c. buffer_words c.0 ++ (labelled (codes " load ") 6 c.1.0 ++ (labelled (codes " residue ") 16 c.1.1.0 ++ tail_text c.1.1.1))) _
    place_part
    (both_part IsStop (BufferFits buffers) buffer_words (buffer_at buffers) IsAny
    (λ (c : ℕ × (ℕ × TailFound)). IsShort c.0 × (IsShort c.1.0 × TailFits false c.1.1))
    (λ c. labelled (codes " load ") 6 c.0 ++ (labelled (codes " residue ") 16 c.1.0 ++ tail_text c.1.1)) _
    (buffer_part buffers few)
    (both_part IsStop IsShort (labelled (codes " load ") 6) (labelled_at (codes " load ") 6) IsAny
    (λ (c : ℕ × TailFound). IsShort c.0 × TailFits false c.1) (λ c. labelled (codes " residue ") 16 c.0 ++ tail_text c.1) _
    (labelled_part (codes " load ") 6)
    (both_part IsStop IsShort (labelled (codes " residue ") 16) (labelled_at (codes " residue ") 16) IsAny (TailFits false) tail_text (tail_at false)
    (labelled_part (codes " residue ") 16) (tail_part false) (λ b rest fits ends. tail_stop b rest))
    (λ b rest fits ends. residue_stop b.0 16 rest (tail_text b.1)))
    (λ b rest fits ends. label_stop b.0 6 rest _))
    (λ b rest fits ends. buffer_then_stop b.0 _ rest))
    (λ b rest fits ends. refl))
    (λ b rest fits ends. space_stop b.0 0 rest _)

pair_joins : (buffers : ℕ) (c : PairFound) → PairFits buffers c → PairNode buffers (pair_of c) × (rest_text (pair_of c) ≡ pair_text c)
unfolding PairNode IsPairKind found_pair left_or right_or buffer_or residue_or PairFits rest_text pair_text name_words load_words whole capacitance time
pair_joins buffers c fits = ((tt, fits), simp append_assoc)

pair_splits : (buffers : ℕ) (node : PrintedNode) → PairNode buffers node → PairFits buffers (found_pair node) × (pair_of (found_pair node) ≡ node)
unfolding PairNode found_pair
pair_splits buffers node fits = (fits.1, ap (λ (k : PrintedKind). record node { kind = k }) (pair_kind node.kind fits.0))

pair_part : (buffers : ℕ) → buffers ≤ 2 ^ 16 → IsPart IsAny (PairNode buffers) rest_text (pair_at buffers)
unfolding pair_at
pair_part buffers few =
    map_part IsAny (PairFits buffers) pair_text _ (PairNode buffers) rest_text pair_of found_pair (found_pair_part buffers few) (pair_joins buffers) (pair_splits buffers)

-- a leaf or a pair

-- the numbers of the children fit their type, as those on a stack do
pub record RestFits (form : Form) (node : PrintedNode) : Type 0 where
  pub bounds : IsPrintedNode form node
  pub left : left_or node.kind ≤ 2 ^ 32 - 1
  pub right : right_or node.kind ≤ 2 ^ 32 - 1

is_leaf : (id : ℕ) → IsLeafKind (sink_leaf id)
unfolding IsLeafKind
is_leaf id = tt

is_pair : (left right : ℕ) (buffer : Option ℕ) (residue : ℕ) → IsPairKind (pair_node left right buffer residue)
unfolding IsPairKind
is_pair left right buffer residue = tt

id_fits : (buffers id : ℕ) → IsPrintedKind buffers (sink_leaf id) → id_or (sink_leaf id) ≤ 999999999
unfolding id_or
id_fits buffers id h = h

buffer_fits : (buffers left right : ℕ) (buffer : Option ℕ) (residue : ℕ) → IsPrintedKind buffers (pair_node left right buffer residue)
    → BufferFits buffers (buffer_or (pair_node left right buffer residue))
unfolding BufferFits buffer_or
buffer_fits buffers left right None residue h = tt
buffer_fits buffers left right (Some index) residue h = h.0

residue_fits : (buffers left right : ℕ) (buffer : Option ℕ) (residue : ℕ) → IsPrintedKind buffers (pair_node left right buffer residue)
    → IsShort (residue_or (pair_node left right buffer residue))
unfolding residue_or
residue_fits buffers left right buffer residue h = h.1

leaf_kind_fits : (buffers : ℕ) (kind : PrintedKind) → IsLeafKind kind → id_or kind ≤ 999999999 → IsPrintedKind buffers kind
unfolding IsLeafKind id_or
leaf_kind_fits buffers (sink_leaf id) leaf few = few
leaf_kind_fits buffers (pair_node left right buffer residue) leaf few = absurd leaf

leaf_left : (kind : PrintedKind) → IsLeafKind kind → left_or kind ≤ 2 ^ 32 - 1
unfolding IsLeafKind left_or
leaf_left (sink_leaf id) leaf = omega arith
leaf_left (pair_node left right buffer residue) leaf = absurd leaf

leaf_right : (kind : PrintedKind) → IsLeafKind kind → right_or kind ≤ 2 ^ 32 - 1
unfolding IsLeafKind right_or
leaf_right (sink_leaf id) leaf = omega arith
leaf_right (pair_node left right buffer residue) leaf = absurd leaf

pair_kind_fits : (buffers : ℕ) (kind : PrintedKind) → IsPairKind kind → BufferFits buffers (buffer_or kind) → IsShort (residue_or kind) → IsPrintedKind buffers kind
unfolding IsPairKind BufferFits buffer_or residue_or
pair_kind_fits buffers (sink_leaf id) pair fits short = absurd pair
pair_kind_fits buffers (pair_node left right None residue) pair fits short = (tt, short)
pair_kind_fits buffers (pair_node left right (Some index) residue) pair fits short = (fits, short)

leaf_arrival : (version : Version) (kind : PrintedKind) (arrival : Option ℕ) → IsLeafKind kind → IsArrival (tells_arrivals version) arrival
    → IsArrival (tells_arrival version kind) arrival
unfolding IsLeafKind
leaf_arrival version (sink_leaf id) arrival leaf fits = fits
leaf_arrival version (pair_node left right buffer residue) arrival leaf fits = absurd leaf

pair_arrival : (version : Version) (kind : PrintedKind) (arrival : Option ℕ) → IsPairKind kind → IsArrival false arrival
    → IsArrival (tells_arrival version kind) arrival
unfolding IsPairKind
pair_arrival version (sink_leaf id) arrival pair fits = absurd pair
pair_arrival version (pair_node left right buffer residue) arrival pair fits = fits

leaf_is : (form : Form) (node : PrintedNode) → LeafNode (tells_arrivals form.version) node → RestFits form node
unfolding LeafNode found_leaf LeafFits TailFits CornersFit
leaf_is form node fits =
    let f = fits.1 in
    record {
      bounds = record {
        kind = leaf_kind_fits form.buffers node.kind fits.0 f.0;
        place = f.1.0;
        load = f.1.1.0;
        delay = f.1.1.1.0;
        arrival = leaf_arrival form.version node.kind node.arrival fits.0 f.1.1.1.1.0;
        slew = f.1.1.1.1.1.0;
        wire = f.1.1.1.1.1.1.0;
        few = f.1.1.1.1.1.1.1.0.0;
        corners = f.1.1.1.1.1.1.1.0.1;
      };
      left = leaf_left node.kind fits.0;
      right = leaf_right node.kind fits.0;
    }

pair_is : (form : Form) (node : PrintedNode) → PairNode form.buffers node → RestFits form node
unfolding PairNode found_pair PairFits TailFits CornersFit
pair_is form node fits =
    let f = fits.1 in
    record {
      bounds = record {
        kind = pair_kind_fits form.buffers node.kind fits.0 f.1.1.1.0 f.1.1.1.1.1.0;
        place = f.1.1.0;
        load = f.1.1.1.1.0;
        delay = f.1.1.1.1.1.1.0;
        arrival = pair_arrival form.version node.kind node.arrival fits.0 f.1.1.1.1.1.1.1.0;
        slew = f.1.1.1.1.1.1.1.1.0;
        wire = f.1.1.1.1.1.1.1.1.1.0;
        few = f.1.1.1.1.1.1.1.1.1.1.0.0;
        corners = f.1.1.1.1.1.1.1.1.1.1.0.1;
      };
      left = f.0;
      right = f.1.0;
    }

tail_fits : (form : Form) (node : PrintedNode) (kind : PrintedKind) → node.kind ≡ kind → IsPrintedNode form node
    → TailFits (tells_arrival form.version kind) (node.delay, (node.arrival, (node.slew, (node.wire, (node.corners, tt)))))
unfolding TailFits CornersFit
tail_fits form node kind e h =
    (h.delay, (subst (λ k. IsArrival (tells_arrival form.version k) node.arrival) e h.arrival, (h.slew, (h.wire, ((h.few, h.corners), tt)))))

which_by : (form : Form) (node : PrintedNode) (kind : PrintedKind) → node.kind ≡ kind → RestFits form node
    → LeafNode (tells_arrivals form.version) node ⊎ PairNode form.buffers node
unfolding LeafNode PairNode found_leaf found_pair LeafFits PairFits
which_by form node (sink_leaf id) e h =
    let b = h.bounds in
    inl (
      subst IsLeafKind (sym e) (is_leaf id),
      (subst (λ k. id_or k ≤ 999999999) (sym e) (id_fits form.buffers id (subst (IsPrintedKind form.buffers) e b.kind)), (b.place, (b.load, tail_fits form node (sink_leaf id) e b))),
    )
which_by form node (pair_node left right buffer residue) e h =
    let b = h.bounds in
    let kind = subst (IsPrintedKind form.buffers) e b.kind in
    inr (
      subst IsPairKind (sym e) (is_pair left right buffer residue),
      (
        h.left,
        (
          h.right,
          (
            b.place,
            (
              subst (λ k. BufferFits form.buffers (buffer_or k)) (sym e) (buffer_fits form.buffers left right buffer residue kind),
              (b.load, (subst (λ k. IsShort (residue_or k)) (sym e) (residue_fits form.buffers left right buffer residue kind), tail_fits form node (pair_node left right buffer residue) e b)),
            ),
          ),
        ),
      ),
    )

no_leaf_by : (told : Bool) (buffers : ℕ) (node : PrintedNode) (kind : PrintedKind) (rest : List ℕ) → node.kind ≡ kind → PairNode buffers node
    → leaf_at told (rest_text node ++ rest) ≡ None
unfolding PairNode IsPairKind leaf_at bounded_at labelled_at word_at rest_text name_words whole labelled
no_leaf_by told buffers node (sink_leaf id) rest e fits = absurd (subst IsPairKind e fits.0)
no_leaf_by told buffers node (pair_node left right buffer residue) rest e fits = rw e refl

pub node_rest_part : (form : Form) → form.buffers ≤ 2 ^ 16 → IsPart IsAny (RestFits form) rest_text (node_rest_at form)
unfolding node_rest_at
node_rest_part form few =
    let told : Bool = tells_arrivals form.version in
    first_part IsAny (LeafNode told) (PairNode form.buffers) (RestFits form) rest_text (leaf_at told) (pair_at form.buffers) (leaf_part told) (pair_part form.buffers few)
    (leaf_is form) (pair_is form) (λ node h. which_by form node node.kind refl h) (λ node rest fits. no_leaf_by told form.buffers node node.kind rest refl fits)

-- the line of the node of a number

rest_stop_by : (node : PrintedNode) (kind : PrintedKind) (rest : List ℕ) → node.kind ≡ kind → IsStop (rest_text node ++ rest)
unfolding rest_text name_words whole labelled
rest_stop_by node (sink_leaf id) rest e = rw e refl
rest_stop_by node (pair_node left right buffer residue) rest e = rw e refl

line_by : (number : ℕ) (node : PrintedNode) (kind : PrintedKind) → node.kind ≡ kind → node_line number node ≡ labelled (codes "node ") 0 number ++ rest_text node
unfolding node_line rest_text tail_text whole time length_in_um
line_by number node kind e = simp append_assoc

pub is_number : (found number : ℕ) → eqb found number ≡ true → found ≡ number
is_number found number e = elim (eqb_tells found number) [ inl p ↦ p.1 | inr p ↦ absurd (true_false (sym e ∙ p.0)) ]

pub same_number : (number : ℕ) → eqb number number ≡ true
same_number number = elim (eqb_tells number number) [ inl p ↦ p.0 | inr p ↦ absurd (p.1 refl) ]

unfoldable pub NodeFits : Form → List ℕ → ℕ → PrintedNode → Type 0
NodeFits form stack todo node = RestFits form node × (joins_stack stack todo (printed_children node) ≡ true)

pub node_part : (form : Form) (number : ℕ) (stack : List ℕ) (todo : ℕ) → form.buffers ≤ 2 ^ 16 → number < 10 ^ 38
    → IsPart IsAny (NodeFits form stack todo) (node_line number) (node_at form number stack todo)
unfolding node_at NodeFits
node_part form number stack todo few small =
    map_part IsAny (λ (c : ℕ × PrintedNode). (IsShort c.0 × (eqb c.0 number ≡ true)) × (RestFits form c.1 × (joins_stack stack todo (printed_children c.1) ≡ true)))
    (λ c. labelled (codes "node ") 0 c.0 ++ rest_text c.1) _ (NodeFits form stack todo) (node_line number) (λ c. c.1) (λ node. (number, node))
    (both_part IsStop (λ found. IsShort found × (eqb found number ≡ true)) (labelled (codes "node ") 0) (λ bytes. kept_if (λ found. eqb found number) (labelled_at (codes "node ") 0 bytes))
    IsAny (λ node. RestFits form node × (joins_stack stack todo (printed_children node) ≡ true)) rest_text (λ bytes. kept_if (λ node. joins_stack stack todo (printed_children node)) (node_rest_at form bytes))
    (kept_part IsStop IsShort (labelled (codes "node ") 0) (labelled_at (codes "node ") 0) (λ found. eqb found number) (labelled_part (codes "node ") 0))
    (kept_part IsAny (RestFits form) rest_text (node_rest_at form) (λ node. joins_stack stack todo (printed_children node)) (node_rest_part form few))
    (λ b rest fits ends. rest_stop_by b b.kind rest refl))
    (λ c fits. (fits.1, line_by number c.1 c.1.kind refl ∙ ap (λ n. labelled (codes "node ") 0 n ++ rest_text c.1) (sym (is_number c.0 number fits.0.1))))
    (λ node fits. (((small, same_number number), fits), refl))

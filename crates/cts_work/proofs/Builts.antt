-- What is known of a node that is done with: how it comes from the memo, and that it stays.
use Rattle.std.proofs.Common.{◌≡◌, ℕ, ◌≤◌, ◌⊎◌, List, [], ◌∷◌, length, get_or, slice_get, All, Option, Some, None, refl, sym, ap, ◌∙◌, subst, inl, inr, arith}
use mathlib.Core.List.{IsPrefix}
use Rattle.std.specs.List.{AllZip}
use Rattle.std.proofs.lemmas.Option.{slice_get_within, get_or_from_slice_get}
use Rattle.cts_units.specs.declared.params.Sink.{Sink}
use Rattle.cts_units.specs.declared.params.Params.{Params}
use Rattle.cts_postorder.specs.BinaryTree.{BinaryTree, fork}
use Rattle.cts_topo.specs.declared.shape.ShapeNode.{ShapeNode}
use Rattle.cts_merge.specs.declared.side.Finished.{Finished}
use Rattle.cts_merge.specs.Merge.{IsLeaf, IsMerged, IsBeyond}
use Rattle.cts_list.proofs.Prefixes.{prefix_whole}
use Rattle.cts_up.specs.Plan.{IsFinished, IsBeyondPair}
use Rattle.cts_up.proofs.Unique.{finished_one}
use Rattle.cts_memo.specs.declared.key.Key.{Key}
use Rattle.cts_memo.specs.declared.key.Key.TheVariants.{Pair}
use Rattle.cts_memo.specs.declared.entry.MemoEntry.{MemoEntry}
use Rattle.cts_memo.specs.declared.entry.MemoCall.{MemoCall}
use Rattle.cts_memo.specs.declared.entry.MemoReply.{MemoReply}
use Rattle.cts_memo.specs.declared.table.Table.{Table}
use Rattle.cts_memo.specs.declared.memo.Memo.{Memo}
use Rattle.cts_units.specs.Limits.{IsParams}
use Rattle.cts_merge.specs.Side.{IsMergeable}
use Rattle.cts_up.specs.Sinks.{AreSinksInRange}
use Rattle.cts_up.proofs.Sides.{sides_merge}
use Rattle.cts_memo.specs.Passes.{IsPassOf, params_of}
use Rattle.cts_turn.specs.declared.turn.Pass.{Pass}
use Rattle.cts_turn.specs.Passes.{seen_by}
use Rattle.cts_memo.specs.Keys.{entry, leaf_key, pair_key}
use Rattle.cts_memo.specs.Numbers.{number_of, pair_number, position_of}
use Rattle.cts_memo.specs.Replies.{IsAbsent}
use Rattle.cts_memo.specs.Sound.{EntryAt, IsMadeOf, IsSound, NamesEntries, max_entries}
use Rattle.cts_memo.proofs.Publications.{made_of_all}
use Rattle.cts_memo.proofs.Positions.{absent_position, stands_position}
use Rattle.cts_memo.proofs.Numbering.{leaf_of, number_stays, numbered_finished, key_parts, pair_is, some_entry, entry_is, is_entry}
use Rattle.cts_work.specs.declared.node.Built.{Built}
use Rattle.cts_work.specs.Built.{IsBuilt, IsBuiltLeaf, IsKept, IsNoted}
use Rattle.cts_work.specs.Known.{HasKeyAt, IsAtPlace}
use Rattle.cts_work.proofs.Noted.{noted_stays, noted_at, noted_entry}

-- a leaf that was looked up
pub have_leaf : (params : Params) (seen : List MemoEntry) (sink : Sink) (key : Key) (n : ℕ) (f : Finished) → key ≡ leaf_key sink
    → IsSound params seen → slice_get seen n ≡ Some (entry key f) → IsBuiltLeaf seen sink (record { key = Some key; number = Some n; finished = f })
have_leaf params seen sink key n f is sound at =
    let here : slice_get seen n ≡ Some (entry (leaf_key sink) f) = at ∙ ap (λ k. Some (entry k f)) is in
    record {
      leaf = leaf_of sink f (made_of_all params seen n (entry (leaf_key sink) f) sound here);
      number = stands_position params seen (leaf_key sink) n sound (f, here);
      full = λ none. absurd (cc (none));
      noted = at;
    }

-- one that was made
pub kept_leaf : (params : Params) (seen : List MemoEntry) (sink : Sink) (key : Key) (f : Finished) (number : Option ℕ) → key ≡ leaf_key sink
    → IsSound params seen → IsLeaf sink f → IsKept seen key f number → IsBuiltLeaf seen sink (record { key = Some key; number = number; finished = f })
kept_leaf params seen sink key f None is sound leaf kept = record {
  leaf = leaf;
  number = absent_position seen (leaf_key sink) (subst (λ k. IsAbsent seen k) is (kept.0));
  full = λ none. kept.1;
  noted = tt;
}
kept_leaf params seen sink key f (Some n) is sound leaf kept = have_leaf params seen sink key n f is sound kept

-- a known node is its key's and its number's, and what it is made of
keyed : (P : Built → Type 0) (b : Built) (key : Key) (n : ℕ) → b.key ≡ Some key → b.number ≡ Some n
    → P (record { key = Some key; number = Some n; finished = b.finished }) → P b
keyed P b key n is_key is here = subst P (λ z. record { key = sym is_key z; number = sym is z; finished = b.finished }) here

-- a leaf that is known
pub known_leaf : (params : Params) (seen : List MemoEntry) (sink : Sink) (key : Key) (nodes : List Built) (p : ℕ) → key ≡ leaf_key sink
    → IsSound params seen → All (IsNoted seen) nodes → HasKeyAt nodes key p → IsAtPlace nodes (IsBuiltLeaf seen sink) p
known_leaf params seen sink key nodes p is sound noted known =
    let b : Built = known.0 in
    let entry_at = noted_entry seen key b known.1 (noted_at seen nodes p b noted (known.2)) (known.3) (known.4) in
    (b, known.2, keyed (IsBuiltLeaf seen sink) b key known.1 (known.3) (known.4) (have_leaf params seen sink key known.1 b.finished is sound entry_at))

-- the node at a place is such as the node there
pub at_place_is : (P : Built → Type 0) (nodes : List Built) (p : ℕ) (a : Built) → IsAtPlace nodes P p → a ≡ get_or nodes p a → P a
at_place_is P nodes p a at is = subst P (sym (is ∙ get_or_from_slice_get nodes p at.0 a (at.1))) (at.2)

-- what a pass has seen is sound for the memo's parameters, and short
pub sound_for : (memo : Memo) (pass : Pass Table MemoEntry MemoCall MemoReply) → IsPassOf memo pass → IsSound (params_of memo) (seen_by pass)
sound_for memo pass own = subst (λ p. IsSound p (seen_by pass)) memo.same own.sound

-- its parameters are those of an instance
pub params_within : (memo : Memo) → IsParams (params_of memo)
params_within memo = subst IsParams memo.same memo.turn.table.shared.key.value.within

module _ (params : Params) (sinks : List Sink) where
  -- a node's side can be merged
  pub mergeable : (seen : List MemoEntry) (t : BinaryTree ShapeNode) (b : Built) → IsParams params → AreSinksInRange sinks
      → IsBuilt params sinks seen t b → IsMergeable b.finished.side
  mergeable seen t b within are built = sides_merge params sinks t b.finished built.finished within are

  -- what is known of a node stays known
  pub built_stays : (seen longer : List MemoEntry) (t : BinaryTree ShapeNode) (b : Built) → IsPrefix seen longer → length longer ≤ max_entries
      → IsBuilt params sinks seen t b → IsBuilt params sinks longer t b
  built_stays seen longer t b more short built = by b.number refl
    where
      by : (o : Option ℕ) → b.number ≡ o → IsBuilt params sinks longer t b
      by None is =
          let full : length seen ≡ max_entries = built.full is in
          let whole : seen ≡ longer = prefix_whole seen longer more (omega arith) in
          subst (λ l. IsBuilt params sinks l t b) whole built
      by (Some n) is = record {
        finished = built.finished;
        number = number_stays seen longer sinks t n more (built.number ∙ is) ∙ sym is;
        full = λ none. absurd (let e : None ≡ Some n = sym none ∙ is in cc);
        noted = noted_stays seen longer more b built.noted;
      }

  pub all_stay : (seen longer : List MemoEntry) (ts : List (BinaryTree ShapeNode)) (bs : List Built) → IsPrefix seen longer → length longer ≤ max_entries
      → AllZip (IsBuilt params sinks seen) ts bs → AllZip (IsBuilt params sinks longer) ts bs
  all_stay seen longer [] [] more short all = all
  all_stay seen longer [] (b ∷ bs) more short all = absurd all
  all_stay seen longer (t ∷ ts) [] more short all = absurd all
  all_stay seen longer (t ∷ ts) (b ∷ bs) more short all =
      (built_stays seen longer t b more short (all.0), all_stay seen longer ts bs more short (all.1))

  -- a tree's number is that of an entry, which has what the tree is made of
  numbered_entry : (seen : List MemoEntry) (t : BinaryTree ShapeNode) (b : Built) (i : ℕ) → IsSound params seen → IsBuilt params sinks seen t b
      → b.number ≡ Some i → (e : MemoEntry) × (slice_get seen i ≡ Some e) × (e.finished ≡ b.finished)
  numbered_entry seen t b i sound built is =
      let at = some_entry seen i (λ e. IsFinished params sinks t e.finished)
      (numbered_finished params seen sinks t i sound (built.number ∙ is)) in
      (at.0, at.1, finished_one params sinks t at.0.finished b.finished (at.2) built.finished)

  module _ (seen : List MemoEntry) (sound : IsSound params seen) (l r : BinaryTree ShapeNode) (m : ShapeNode) (a b : Built)
      (left : IsBuilt params sinks seen l a) (right : IsBuilt params sinks seen r b) where
    -- the pair of two finished parts
    merged_finished : (f : Finished) → IsMerged params a.finished.side b.finished.side f → IsFinished params sinks (fork l r m) f
    unfolding IsFinished
    merged_finished f merged = (a.finished, b.finished, left.finished, right.finished, merged)

    pub pair_beyond : IsBeyond params a.finished.side b.finished.side → IsBeyondPair params sinks (fork l r m)
    unfolding IsBeyondPair
    pair_beyond over = (a.finished, b.finished, left.finished, right.finished, over)

    -- above a part without a number
    pub unnumbered : (a.number ≡ None) ⊎ (b.number ≡ None) → number_of seen sinks (fork l r m) ≡ None
    unfolding number_of
    unnumbered none = elim none [
      | inl is ↦ no_left (number_of seen sinks l) (number_of seen sinks r) (left.number ∙ is)
      | inr is ↦ no_right (number_of seen sinks l) (number_of seen sinks r) (right.number ∙ is)
    ]
      where
        no_left : (x y : Option ℕ) → x ≡ None → pair_number seen x y ≡ None
        no_left None y is = refl
        no_left (Some i) y is = cc

        no_right : (x y : Option ℕ) → y ≡ None → pair_number seen x y ≡ None
        no_right None y is = refl
        no_right (Some i) None is = refl
        no_right (Some i) (Some j) is = cc

    pub unnumbered_pair : (f : Finished) → (a.number ≡ None) ⊎ (b.number ≡ None) → IsMerged params a.finished.side b.finished.side f
        → IsBuilt params sinks seen (fork l r m) (record { key = None; number = None; finished = f })
    unnumbered_pair f none merged = record {
      finished = merged_finished f merged;
      number = unnumbered none;
      full = λ e. elim none [ inl is ↦ left.full is | inr is ↦ right.full is ];
      noted = tt;
    }

    module _ (key : Key) (is_key : pair_key a.number b.number ≡ Some key) where
      abbrev parts : (i : ℕ) × (j : ℕ) × (a.number ≡ Some i) × (b.number ≡ Some j) × (key ≡ Pair i j)
      parts = key_parts a.number b.number key is_key

      -- the number of the pair is the position of its key
      pub number_is : number_of seen sinks (fork l r m) ≡ position_of seen key
      unfolding number_of
      number_is =
          pair_is seen (number_of seen sinks l) (number_of seen sinks r) (parts.0) (parts.1) (left.number ∙ parts.2) (right.number ∙ parts.3)
          ∙ ap (position_of seen) (sym (parts.4))

      pub names_entries : NamesEntries seen key
      names_entries =
          let x = numbered_entry seen l a (parts.0) sound left (parts.2) in
          let y = numbered_entry seen r b (parts.1) sound right (parts.3) in
          subst (NamesEntries seen) (sym (parts.4))
          (slice_get_within seen (parts.0) (x.0) (x.1), slice_get_within seen (parts.1) (y.0) (y.1))

      pub made_of : (f : Finished) → IsMerged params a.finished.side b.finished.side f → IsMadeOf params seen key f
      made_of f merged =
          let x = numbered_entry seen l a (parts.0) sound left (parts.2) in
          let y = numbered_entry seen r b (parts.1) sound right (parts.3) in
          subst (λ k. IsMadeOf params seen k f) (sym (parts.4))
          (is_entry seen (parts.0) (λ p. EntryAt seen (parts.1) (λ q. IsMerged params p.finished.side q.finished.side f)) (x.0) (x.1)
          (is_entry seen (parts.1) (λ q. IsMerged params x.0.finished.side q.finished.side f) (y.0) (y.1)
          (subst (λ (p : Finished × Finished). IsMerged params p.0.side p.1.side f) (λ k. (sym (x.2) k, sym (y.2) k)) merged)))

      -- the pair where it was looked up
      pub have_pair : (n : ℕ) (f : Finished) → slice_get seen n ≡ Some (entry key f) → IsBuilt params sinks seen (fork l r m) (record { key = Some key; number = Some n; finished = f })
      have_pair n f at =
          let number : number_of seen sinks (fork l r m) ≡ Some n = number_is ∙ stands_position params seen key n sound (f, at) in
          record {
            finished = entry_is seen n (λ e. IsFinished params sinks (fork l r m) e.finished) (entry key f) at
                (numbered_finished params seen sinks (fork l r m) n sound number);
            number = number;
            full = λ none. absurd (cc (none));
            noted = at;
          }

      -- and where it was made
      pub kept_pair : (f : Finished) (number : Option ℕ) → IsMerged params a.finished.side b.finished.side f → IsKept seen key f number
          → IsBuilt params sinks seen (fork l r m) (record { key = Some key; number = number; finished = f })
      kept_pair f None merged kept = record {
        finished = merged_finished f merged;
        number = number_is ∙ absent_position seen key (kept.0);
        full = λ none. kept.1;
        noted = tt;
      }
      kept_pair f (Some n) merged kept = have_pair n f kept

      -- and where it is known
      pub known_pair : (nodes : List Built) (p : ℕ) → All (IsNoted seen) nodes → HasKeyAt nodes key p
          → IsAtPlace nodes (IsBuilt params sinks seen (fork l r m)) p
      known_pair nodes p noted known =
          let b : Built = known.0 in
          let entry_at = noted_entry seen key b known.1 (noted_at seen nodes p b noted (known.2)) (known.3) (known.4) in
          (b, known.2, keyed (IsBuilt params sinks seen (fork l r m)) b key known.1 (known.3) (known.4) (have_pair known.1 b.finished entry_at))

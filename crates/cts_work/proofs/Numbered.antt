-- The numbers of nodes that are brought into a memo, one after another.
use Rattle.std.proofs.Common.{◌≡◌, ◌≢◌, ℕ, true, ◌<◌, ◌≤◌, ◌⊎◌, inl, inr, List, [], ◌∷◌, ◌++◌, length, get_or, slice_get, Option, Some, None, IsSome, is_some, refl, sym, ap, ◌∙◌, subst, arith, length-append}
use mathlib.Core.Logic.{dite}
use mathlib.Core.List.{IsPrefix}
use native.Mathlib.Decide.{ℕ_discrete}
use Rattle.std.specs.Option.{option_and_then}
use Rattle.std.proofs.lemmas.Bool.{cases_lt}
use Rattle.std.proofs.lemmas.List.{get_or_at, get_or_append_left, get_or_default}
use Rattle.std.proofs.lemmas.Option.{slice_get-get_or, slice_get_within}
use Rattle.cts_units.specs.declared.params.Sink.{Sink}
use Rattle.cts_units.specs.declared.params.Params.{Params}
use Rattle.cts_postorder.specs.BinaryTree.{BinaryTree, tip, fork}
use Rattle.cts_postorder.specs.PostOrder.{trees_of}
use Rattle.cts_postorder.proofs.Growth.{length-trees_of}
use Rattle.cts_topo.specs.declared.shape.ShapeNode.{ShapeNode}
use Rattle.cts_topo.specs.declared.shape.ShapeNode.TheVariants.{Leaf}
use Rattle.cts_topo.specs.Shape.{children}
use Rattle.cts_merge.specs.declared.side.Finished.{Finished}
use Rattle.cts_merge.specs.Merge.{IsLeaf, IsMerged}
use Rattle.cts_list.proofs.Prefixes.{prefix_length, prefix_whole}
use Rattle.cts_up.specs.Plan.{IsFinished, sink_of}
use Rattle.cts_up.proofs.Unique.{finished_one}
use Rattle.cts_memo.specs.declared.key.Key.{Key}
use Rattle.cts_memo.specs.declared.key.Key.TheVariants as keys
use Rattle.cts_memo.specs.declared.entry.MemoEntry.{MemoEntry}
use Rattle.cts_memo.specs.declared.entry.Answer.{Answer}
use Rattle.cts_memo.specs.declared.entry.Answer.TheVariants.{Have, Absent}
use Rattle.cts_memo.specs.Keys.{entry, leaf_key, pair_key}
use Rattle.cts_memo.specs.Numbers.{AreKnown, number_of, pair_number, position_of}
use Rattle.cts_memo.specs.Replies.{IsFound}
use Rattle.cts_memo.specs.Sound.{EntryAt, IsMadeOf, IsSound, NamesEntries, max_entries, sink_at}
use Rattle.cts_memo.specs.TableLaws.{made_stays}
use Rattle.cts_memo.proofs.Positions.{absent_position, stands_position}
use Rattle.cts_memo.proofs.Publications.{made_of_all, made_one}
use Rattle.cts_memo.proofs.Numbering.{is_entry, key_parts, number_stays, numbered_finished, pair_is, some_entry}
use Rattle.cts_work.specs.declared.publishing.Brought.{Brought}
use Rattle.cts_work.specs.Built.{IsKept, tree_at}
use Rattle.cts_work.specs.Numbered.{AreNumbered, HasNumber, HoldsFor}

-- what is found of a key holds for it
pub found_holds : (seen : List MemoEntry) (key : Key) (answer : Answer) → IsFound seen key answer → HoldsFor seen key answer
found_holds seen key (Have n f) found = found
found_holds seen key Absent found = tt

-- what was found of a key is what was made of it
pub found_kept : (params : Params) (seen longer : List MemoEntry) (key : Key) (f g : Finished) (n : ℕ) → IsSound params longer → IsPrefix seen longer
    → IsMadeOf params seen key f → slice_get longer n ≡ Some (entry key g) → slice_get longer n ≡ Some (entry key f)
found_kept params seen longer key f g n sound more made at =
    let same : g ≡ f =
    made_one params longer key g f (made_of_all params longer n (entry key g) sound at) (made_stays params seen longer key f more made) in
    at ∙ ap (λ x. Some (entry key x)) same

-- a key that names entries names them in longer lists
pub names_stay : (seen longer : List MemoEntry) (key : Key) → IsPrefix seen longer → NamesEntries seen key → NamesEntries longer key
names_stay seen longer (keys.Leaf x y cap offset) more names = tt
names_stay seen longer (keys.Pair i j) more names = (
  omega (arith, names.0, prefix_length seen longer more),
  omega (arith, names.1, prefix_length seen longer more),
)

-- a sink's leaf is what is made of its key
pub leaf_names : (seen : List MemoEntry) (sink : Sink) (key : Key) → key ≡ leaf_key sink → NamesEntries seen key
leaf_names seen sink key is = subst (NamesEntries seen) (sym is) tt

pub leaf_of_key : (params : Params) (seen : List MemoEntry) (sink : Sink) (key : Key) (f : Finished) → key ≡ leaf_key sink → IsLeaf sink f
    → IsMadeOf params seen key f
leaf_of_key params seen sink key f is leaf =
    let made : IsLeaf (sink_at sink.x sink.y sink.cap sink.offset) f = record {
      greatest = leaf.greatest;
      load = leaf.load;
      region = leaf.region;
      ea = leaf.ea;
      eb = leaf.eb;
      buffer = leaf.buffer;
    } in
    subst (λ k. IsMadeOf params seen k f) (sym is) made

-- the position of a key whose publication ended so
kept_position : (params : Params) (seen : List MemoEntry) (key : Key) (f : Finished) (number : Option ℕ) → IsSound params seen
    → IsKept seen key f number → position_of seen key ≡ number
kept_position params seen key f None sound kept = absent_position seen key (kept.0)
kept_position params seen key f (Some n) sound kept = stands_position params seen key n sound (f, kept)

kept_full : (seen : List MemoEntry) (key : Key) (f : Finished) (number : Option ℕ) → IsKept seen key f number → number ≡ None → length seen ≡ max_entries
kept_full seen key f None kept none = kept.1
kept_full seen key f (Some n) kept none = absurd (cc (none))

-- a number stays in longer lists, and a full list is never longer
pub number_kept : (seen longer : List MemoEntry) (sinks : List Sink) (t : BinaryTree ShapeNode) (number : Option ℕ) → IsPrefix seen longer
    → length longer ≤ max_entries → HasNumber seen sinks t number → HasNumber longer sinks t number
number_kept seen longer sinks t None more short has =
    let full : length seen ≡ max_entries = has.full refl in
    let whole : seen ≡ longer = prefix_whole seen longer more (omega arith) in
    subst (λ l. HasNumber l sinks t None) whole has
number_kept seen longer sinks t (Some n) more short has = record {
  is = number_stays seen longer sinks t n more has.is;
  full = λ none. absurd (cc (none));
}

-- the leaf of a sink
pub leaf_number : (params : Params) (seen : List MemoEntry) (sinks : List Sink) (s : ℕ) (d : Sink) (f : Finished) (number : Option ℕ) → s < length sinks
    → IsSound params seen → IsKept seen (leaf_key (get_or sinks s d)) f number → HasNumber seen sinks (tip (Leaf s)) number
unfolding number_of
leaf_number params seen sinks s d f number within sound kept =
    let found : sink_of sinks (Leaf s) ≡ Some (get_or sinks s d) = slice_get-get_or sinks s d within in
    record {
      is = ap (option_and_then (λ x. position_of seen (leaf_key x))) found ∙ kept_position params seen (leaf_key (get_or sinks s d)) f number sound kept;
      full = kept_full seen (leaf_key (get_or sinks s d)) f number kept;
    }

module _ (params : Params) (seen : List MemoEntry) (sinks : List Sink) (l r : BinaryTree ShapeNode) (m : ShapeNode) (a b : Option ℕ)
    (left : HasNumber seen sinks l a) (right : HasNumber seen sinks r b) where
  no_left : (x y : Option ℕ) → x ≡ None → pair_number seen x y ≡ None
  no_left None y is = refl
  no_left (Some i) y is = cc

  no_right : (x y : Option ℕ) → y ≡ None → pair_number seen x y ≡ None
  no_right None y is = refl
  no_right (Some i) None is = refl
  no_right (Some i) (Some j) is = cc

  -- a pair above a part without a number
  pub no_number : (a ≡ None) ⊎ (b ≡ None) → HasNumber seen sinks (fork l r m) None
  unfolding number_of
  no_number none = record {
    is = elim none [
      | inl is ↦ no_left (number_of seen sinks l) (number_of seen sinks r) (left.is ∙ is)
      | inr is ↦ no_right (number_of seen sinks l) (number_of seen sinks r) (right.is ∙ is)
    ];
    full = λ e. elim none [ inl is ↦ left.full is | inr is ↦ right.full is ];
  }

  module _ (key : Key) (is_key : pair_key a b ≡ Some key) where
    abbrev parts : (i : ℕ) × (j : ℕ) × (a ≡ Some i) × (b ≡ Some j) × (key ≡ keys.Pair i j)
    parts = key_parts a b key is_key

    abbrev i : ℕ
    i = parts.0

    abbrev j : ℕ
    j = parts.1

    -- a pair whose key was published
    pub pair_number_kept : (f : Finished) (number : Option ℕ) → IsSound params seen → IsKept seen key f number → HasNumber seen sinks (fork l r m) number
    unfolding number_of
    pair_number_kept f number sound kept = record {
      is =
          pair_is seen (number_of seen sinks l) (number_of seen sinks r) i j (left.is ∙ parts.2) (right.is ∙ parts.3)
          ∙ ap (position_of seen) (sym (parts.4)) ∙ kept_position params seen key f number sound kept;
      full = kept_full seen key f number kept;
    }

    module _ (sound : IsSound params seen) where
      first : (e : MemoEntry) × (slice_get seen i ≡ Some e) × IsFinished params sinks l e.finished
      first =
          some_entry seen i (λ e. IsFinished params sinks l e.finished)
          (numbered_finished params seen sinks l i sound (left.is ∙ parts.2))

      second : (e : MemoEntry) × (slice_get seen j ≡ Some e) × IsFinished params sinks r e.finished
      second =
          some_entry seen j (λ e. IsFinished params sinks r e.finished)
          (numbered_finished params seen sinks r j sound (right.is ∙ parts.3))

      -- its key names two entries
      pub names_two : NamesEntries seen key
      names_two =
          subst (NamesEntries seen) (sym (parts.4))
          (slice_get_within seen i (first.0) (first.1), slice_get_within seen j (second.0) (second.1))

      -- and what the pair is made of is made of them
      pub made_of_two : (f : Finished) → IsFinished params sinks (fork l r m) f → IsMadeOf params seen key f
      unfolding IsFinished
      made_of_two f whole =
          let one : first.0.finished ≡ whole.0 = finished_one params sinks l first.0.finished (whole.0) (first.2) (whole.2) in
          let two : second.0.finished ≡ whole.1 = finished_one params sinks r second.0.finished (whole.1) (second.2) (whole.3) in
          subst (λ k. IsMadeOf params seen k f) (sym (parts.4))
          (is_entry seen i (λ p. EntryAt seen j (λ q. IsMerged params p.finished.side q.finished.side f)) (first.0) (first.1)
          (is_entry seen j (λ q. IsMerged params first.0.finished.side q.finished.side f) (second.0) (second.1)
          (subst (λ (p : Finished × Finished). IsMerged params p.0.side p.1.side f) (λ k. (sym one k, sym two k)) (whole.4))))

-- the nodes one after another
module _ (sinks : List Sink) (nodes : List ShapeNode) where
  pub none_numbered : (seen : List MemoEntry) (bs : List Brought) → bs ≡ [] → AreNumbered seen sinks nodes bs
  none_numbered seen bs none = record { each = λ i d h. absurd (omega (arith, ap length none)) }

  pub numbered_longer : (seen longer : List MemoEntry) (bs : List Brought) → IsPrefix seen longer → length longer ≤ max_entries
      → AreNumbered seen sinks nodes bs → AreNumbered longer sinks nodes bs
  numbered_longer seen longer bs more short are = record {
    each = λ i d h. number_kept seen longer sinks (tree_at nodes i) (get_or bs i d).number more short (are.each i d h);
  }

  pub numbered_push : (seen longer : List MemoEntry) (k : ℕ) (bs : List Brought) (b : Brought) → IsPrefix seen longer → length longer ≤ max_entries
      → AreNumbered seen sinks nodes bs → length bs ≡ k → HasNumber longer sinks (tree_at nodes k) b.number → AreNumbered longer sinks nodes (bs ++ b ∷ [])
  numbered_push seen longer k bs b more short are long here = record {
    each = λ i d h. elim (cases_lt i (length bs)) [
      | inl w ↦
          subst (λ (x : Brought). HasNumber longer sinks (tree_at nodes i) x.number) (sym (get_or_append_left bs (b ∷ []) d i w))
          (number_kept seen longer sinks (tree_at nodes i) (get_or bs i d).number more short (are.each i d w))
      | inr w ↦
          let last : length bs ≡ i = omega (arith, h, length-append bs (b ∷ [])) in
          subst (λ (x : Brought). HasNumber longer sinks (tree_at nodes i) x.number) (sym (get_or_at bs b [] d i last))
          (subst (λ j. HasNumber longer sinks (tree_at nodes j) b.number) (sym long ∙ last) here)
    ];
  }

  -- all have numbers, unless the list is full
  module _ (seen : List MemoEntry) (bs : List Brought) (long : length bs ≡ length nodes) (are : AreNumbered seen sinks nodes bs) where
    has_some : (t : BinaryTree ShapeNode) (number : Option ℕ) → length seen ≢ max_entries → HasNumber seen sinks t number → IsSome (number_of seen sinks t)
    has_some t None room has = absurd (room (has.full refl))
    has_some t (Some n) room has = ap is_some has.is

    pub numbered_known : (length seen ≡ max_entries) ⊎ AreKnown seen sinks nodes
    numbered_known =
        dite (ℕ_discrete (length seen) max_entries)
        (λ full. inl full)
        (λ room. inr (λ k d h.
        let b : Brought = record { number = None; piece = 0; is_new = true } in
        subst (λ t. IsSome (number_of seen sinks t)) (get_or_default (trees_of children nodes) k (tip (Leaf 0)) d h)
        (has_some (tree_at nodes k) (get_or bs k b).number room (are.each k b (omega (arith, length-trees_of children nodes, long, h))))))

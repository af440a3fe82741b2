-- The id of a leaf's sink.
use Rattle.std.proofs.Common.{◌≡◌, ℕ, ◌+◌, ◌<◌, List, [], ◌∷◌, ◌++◌, take, length, get_or, refl, sym, subst}
use Rattle.std.specs.Option.{MatchOption}
use Rattle.std.proofs.lemmas.List.{take_more}
use Rattle.std.proofs.lemmas.Option.{slice_get-get_or}
use Rattle.std.proofs.lemmas.Slice.Zip.{AllZip-long}
use Rattle.cts_units.specs.declared.params.Sink.{Sink}
use Rattle.cts_topo.specs.declared.shape.ShapeNode.{ShapeNode}
use Rattle.cts_topo.specs.declared.shape.ShapeNode.TheVariants.{Leaf, Pair}
use Rattle.cts_embed.specs.Leaves.{IsIdOf}
use Rattle.cts_postorder.proofs.Zips.{all_zip-at, all_zip-push}
use Rattle.cts_embed.specs.Stretches.{AreIds}

module _ (sinks : List Sink) (node : ShapeNode) where
  pub id_at_leaf : (sink : ℕ) (d : Sink) → node ≡ Leaf sink → sink < length sinks → IsIdOf sinks node (get_or sinks sink d).id
  unfolding IsIdOf
  id_at_leaf sink d is within =
      subst (λ n. IsIdOf sinks n (get_or sinks sink d).id) (sym is)
      (subst (λ o. MatchOption o ⊥ (λ (s : Sink). s.id ≡ (get_or sinks sink d).id)) (sym (slice_get-get_or sinks sink d within)) refl)

  pub id_at_pair : (left right id : ℕ) → node ≡ Pair left right → IsIdOf sinks node id
  unfolding IsIdOf
  id_at_pair left right id is = subst (λ n. IsIdOf sinks n id) (sym is) tt

module _ (sinks : List Sink) (nodes : List ShapeNode) where
  -- the ids of a front, one node further
  pub ids_more : (k : ℕ) (e : ShapeNode) (ids : List ℕ) (id : ℕ) → k < length nodes → AreIds sinks (take k nodes) ids
      → IsIdOf sinks (get_or nodes k e) id → AreIds sinks (take (k + 1) nodes) (ids ++ id ∷ [])
  ids_more k e ids id within are here =
      subst (λ front. AreIds sinks front (ids ++ id ∷ [])) (sym (take_more nodes k e within))
      (all_zip-push (IsIdOf sinks) (take k nodes) ids (get_or nodes k e) id are here)

  pub id_at : (ids : List ℕ) (k : ℕ) (e : ShapeNode) (d : ℕ) → AreIds sinks nodes ids → k < length nodes
      → IsIdOf sinks (get_or nodes k e) (get_or ids k d)
  id_at ids k e d are within = all_zip-at (IsIdOf sinks) nodes ids k e d are within

  pub ids_long : (ids : List ℕ) → AreIds sinks nodes ids → length ids ≡ length nodes
  ids_long ids are = AllZip-long (IsIdOf sinks) nodes ids are

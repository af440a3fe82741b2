-- A tree is sound exactly where it meets the first five rules at every number.
use Rattle.std.proofs.Common.{◌≡◌, ℕ, List, slice_get, Option, Some, None, MatchOption, refl, subst}
use Rattle.std.specs.List.{All}
use Rattle.std.proofs.lemmas.Option.{slice_get-get_or, slice_get_within, get_or_from_slice_get}
use Rattle.std.proofs.lemmas.List.Elements.{All-weaker}
use Rattle.cts_postorder.specs.PostOrder.{trees_of}
use Rattle.cts_postorder.specs.Occurrence.{occurrences_of}
use Rattle.cts_tree.specs.declared.nodes.TreeNode.{TreeNode}
use Rattle.cts_tree.specs.Nodes.{tree_children}
use Rattle.cts_instance.specs.declared.parts.Parts.{Parts}
use Rattle.cts_elmore.specs.Limits.{IsOver}
use Rattle.cts_elmore.specs.Sound.{HasLegalWire, HasOpenBuffer, IsSound}
use Rattle.cts_check.specs.Rules.{HoldsIfThere, HasLegalRoute, HasLongWire, MeetsSinks, MeetsRoute, MeetsShort, MeetsBufferBlocked, MeetsLimit}
use Rattle.cts_check.proofs.Reaching.{reached_meets, meets_reached}

pub if_there : {A : Type 0} (P : A → Type 0) (xs : List A) → All P xs → (k : ℕ) → HoldsIfThere P xs k
if_there {A} P xs all k = by (slice_get xs k) refl
  where
    by : (o : Option A) → slice_get xs k ≡ o → MatchOption o (Unit {0}) P
    by None e = tt
    by (Some x) e =
        subst P (get_or_from_slice_get xs k x x e) (all k x (slice_get_within xs k x e))

pub all_there : {A : Type 0} (P : A → Type 0) (xs : List A) → ((k : ℕ) → HoldsIfThere P xs k) → All P xs
all_there P xs each k d within = subst (λ o. MatchOption o (Unit {0}) P) (slice_get-get_or xs k d within) (each k)

-- the first five rules, at every number
pub record MeetsAll (i : Parts) (nodes : List TreeNode) : Type 0 where
  pub sinks : (k : ℕ) → MeetsSinks i nodes k
  pub route : (k : ℕ) → MeetsRoute i nodes k
  pub short : (k : ℕ) → MeetsShort i nodes k
  pub buffer : (k : ℕ) → MeetsBufferBlocked i nodes k
  pub limit : (k : ℕ) → MeetsLimit i nodes k

module _ (i : Parts) (nodes : List TreeNode) where
  pub sound_meets : IsSound i nodes → MeetsAll i nodes
  sound_meets h = record {
    sinks = reached_meets i nodes h.sinks;
    route = if_there (HasLegalRoute i nodes) (occurrences_of tree_children nodes)
        (All-weaker (HasLegalWire i) (HasLegalRoute i nodes) (λ o wire. wire.route) (occurrences_of tree_children nodes) h.wires);
    short = if_there (HasLongWire i nodes) (occurrences_of tree_children nodes)
        (All-weaker (HasLegalWire i) (HasLongWire i nodes) (λ o wire. wire.no_shorter) (occurrences_of tree_children nodes) h.wires);
    buffer = if_there (HasOpenBuffer i.blocks) nodes h.buffers;
    limit = if_there (λ t. ¬ IsOver i nodes t) (trees_of tree_children nodes) h.within;
  }

  pub meets_sound : MeetsAll i nodes → IsSound i nodes
  meets_sound h =
      let routes : All (HasLegalRoute i nodes) (occurrences_of tree_children nodes) = all_there (HasLegalRoute i nodes) (occurrences_of tree_children nodes) h.route in
      let wires : All (HasLongWire i nodes) (occurrences_of tree_children nodes) = all_there (HasLongWire i nodes) (occurrences_of tree_children nodes) h.short in
      record {
        sinks = meets_reached i nodes h.sinks;
        wires = λ k d within. record { route = routes k d within; no_shorter = wires k d within };
        buffers = all_there (HasOpenBuffer i.blocks) nodes h.buffer;
        within = all_there (λ t. ¬ IsOver i nodes t) (trees_of tree_children nodes) h.limit;
      }

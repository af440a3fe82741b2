-- The line of a leaf, by what its parts are.
use Rattle.std.proofs.Common.{◌≡◌, ℕ, Bool, List, Some, None, refl, codes}
use Rattle.cts_geom.specs.declared.points.Half.{Half}
use Rattle.cts_report.specs.Printed.{sink_leaf}
use Rattle.cts_report_reader.specs.declared.node.ReportKind.{ReportKind}
use Rattle.cts_report_reader.specs.declared.node.ReportNode.{ReportNode}
use Rattle.cts_report_reader.specs.declared.node.Tail.{Tail}
use Rattle.cts_report_reader.specs.NodeLine.{leaf_at}
use Rattle.cts_report_reader.specs.Nodes.{seen_arrival, seen_kind, seen_node, seen_tail}
use Rattle.cts_report_reader.specs.Seen.{seen_point}
use Rattle.cts_report_reader.specs.Words.{labelled_at, bounded_at, place_at, tail_at}

module _ (told : Bool) (bytes : List ℕ) where
  pub leaf_no_id : bounded_at (codes " leaf ") 0 999999999 bytes ≡ None → leaf_at told bytes ≡ None
  unfolding leaf_at
  leaf_no_id e = rw e refl

  module _ (id : ℕ) (one : List ℕ) (is_id : bounded_at (codes " leaf ") 0 999999999 bytes ≡ Some (id, one)) where
    pub leaf_no_place : place_at one ≡ None → leaf_at told bytes ≡ None
    unfolding leaf_at
    leaf_no_place e = rw (is_id, e) refl

    module _ (place : Half) (two : List ℕ) (is_place : place_at one ≡ Some ((tt, seen_point place), two)) where
      pub leaf_no_load : labelled_at (codes " load ") 6 two ≡ None → leaf_at told bytes ≡ None
      unfolding leaf_at
      leaf_no_load e = rw (is_id, is_place, e) refl

      module _ (load : ℕ) (three : List ℕ) (is_load : labelled_at (codes " load ") 6 two ≡ Some (load, three)) where
        pub leaf_no_tail : tail_at told three ≡ None → leaf_at told bytes ≡ None
        unfolding leaf_at
        leaf_no_tail e = rw (is_id, is_place, is_load, e) refl

        -- a node of these parts, whose kind is that of a leaf with the arrival that was read
        pub leaf_there : (tail : Tail) (rest : List ℕ) (kind : ReportKind) (node : ReportNode) → tail_at told three ≡ Some (seen_tail tail, rest)
            → seen_kind kind ≡ sink_leaf id → seen_arrival kind ≡ tail.arrival
            → node ≡ record { kind = kind; place = place; load = load; delay = tail.delay; slew = tail.slew; wire = tail.wire; corners = tail.corners }
            → leaf_at told bytes ≡ Some (seen_node node, rest)
        unfolding leaf_at
        leaf_there tail rest kind node e leaf arrival is = rw (is, is_id, is_place, is_load, e, leaf, arrival) refl

-- A report that was read can be drawn.
use Rattle.std.proofs.Common.{ℕ, Bool, true, false, arith, subst, get_or, Option, Some, None, IfSome}
use Rattle.std.proofs.lemmas.List.{length-map, get_or-map}
use Rattle.cts_instance.specs.declared.version.Version.{Version}
use Rattle.cts_instance.specs.declared.version.Version.TheVariants.{One, Two}
use Rattle.cts_report_reader.specs.declared.form.Form.{Form}
use Rattle.cts_report_reader.specs.declared.node.ReportNode.{ReportNode}
use Rattle.cts_report_reader.specs.declared.totals.ReportArrivals.{ReportArrivals}
use Rattle.cts_report_reader.specs.Bounds.{AreArrivals, IsArrival, IsPrintedNode}
use Rattle.cts_report_reader.specs.Forms.{tells_arrival}
use Rattle.cts_report_reader.specs.Nodes.{IsSeenNode, seen_arrival, seen_kind, seen_node}
use Rattle.cts_report_reader.specs.Seen.{seen_point}
use Rattle.cts_report_reader.specs.Totals.{seen_arrivals}
use Rattle.cts_picture.specs.Drawable.{HasDrawableArrivals, IsDrawableArrival, IsDrawableNode}
use Rattle.cts_picture.specs.Laws.{ReadingsCanBeDrawn}

arrival_drawable : (told : Bool) (arrival : Option ℕ) → IsArrival told arrival → IsDrawableArrival arrival
arrival_drawable told None h = tt
arrival_drawable false (Some arrival) h = absurd h
arrival_drawable true (Some arrival) h = h

arrivals_drawable : (version : Version) (arrivals : Option ReportArrivals) → AreArrivals version (seen_arrivals arrivals)
    → IfSome arrivals HasDrawableArrivals
arrivals_drawable version None h = tt
arrivals_drawable One (Some arrivals) h = absurd h
arrivals_drawable Two (Some arrivals) h = record { greatest = h.0; least = h.1 }

drawable : (form : Form) (node : ReportNode) → IsPrintedNode form (seen_node node) → IsSeenNode node → IsDrawableNode node
drawable form node printed seen = record {
  seen = seen;
  load = printed.load;
  delay = printed.delay;
  arrival = arrival_drawable (tells_arrival form.version (seen_kind node.kind)) (seen_arrival node.kind) printed.arrival;
  slew = printed.slew;
  few = omega (arith, printed.few, length-map node.corners seen_point);
}

pub readings_can_be_drawn : ReadingsCanBeDrawn
readings_can_be_drawn form bytes report read seen = record {
  nodes = λ k d h.
      drawable form (get_or report.nodes.items k d)
      (subst (IsPrintedNode form) (get_or-map seen_node report.nodes.items k d (seen_node d) h)
      (read.fits.each k (seen_node d) (omega (arith, h, length-map report.nodes.items seen_node))))
      (seen k d h);
  totals = record {
    wire_total = read.fits.totals.wire_total;
    greatest = read.fits.totals.greatest;
    least = read.fits.totals.least;
    arrivals = arrivals_drawable form.version report.totals.arrivals read.fits.totals.arrivals;
    skew = read.fits.totals.skew;
    bound = read.fits.totals.bound;
  };
}

-- What a report prints of the whole tree, as the types of the code hold it.
use Rattle.std.specs.Prelude.{Option, Some, None}
use Rattle.cts_report.specs.Printed.{PrintedArrivals, PrintedTotals}
use Rattle.cts_report_reader.specs.declared.totals.ReportArrivals.{ReportArrivals}
use Rattle.cts_report_reader.specs.declared.totals.ReportTotals.{ReportTotals}
use Rattle.cts_report_reader.specs.declared.totals.Closing.{Closing}
use Rattle.cts_report_reader.specs.declared.totals.LaterTotals.{LaterTotals}
use Rattle.cts_report_reader.specs.Whole.{ClosingFound, LaterFound}

abbrev pub seen_arrivals : Option ReportArrivals → Option PrintedArrivals
seen_arrivals None = None
seen_arrivals (Some arrivals) = Some (record { greatest = arrivals.greatest; least = arrivals.least })

abbrev pub seen_totals : ReportTotals → PrintedTotals
seen_totals totals = record {
  source_load = totals.source_load;
  wire_total = totals.wire_total;
  greatest = totals.greatest;
  least = totals.least;
  arrivals = seen_arrivals totals.arrivals;
  skew = totals.skew;
  bound = totals.bound;
  load_met = totals.load_met;
  slew_met = totals.slew_met;
}

abbrev pub seen_closing : Closing → ClosingFound
seen_closing closing = (closing.skew, (closing.bound, (closing.load_met, (closing.slew_met, tt))))

abbrev pub seen_later : LaterTotals → LaterFound
seen_later later = (later.least, (seen_arrivals later.arrivals, seen_closing later.closing))

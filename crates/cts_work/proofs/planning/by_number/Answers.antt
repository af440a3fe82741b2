use Rattle.std.proofs.Common.{Some, refl, arith, length-set}
use Rattle.std.proofs.lemmas.List.{nil_from_length}
use Rattle.cts_work.proofs.Slots.{number_below, last_among, rest_among, filled_more, all_filled}
use Rattle.cts_work.proofs.planning.by_number.Goals as goal

pub index_mut-requires : goal.index_mut-requires
index_mut-requires c =
    omega (
      arith,
      number_below c.args.count c.args.done.items c.in-Some.piece c.requires.once
          (last_among c.args.count c.args.done.items c.loop-piece.done.items c.pop.new.self.items c.in-Some.piece c.in-Some.ensures.items
          c.loop-piece.invariant.among),
      c.loop-piece.invariant.long,
      c.loop-piece.slots.ok.0,
    )

pub loop-piece-preserved-in-Some : goal.loop-piece-preserved-in-Some
loop-piece-preserved-in-Some c =
    let is = c.in-Some.ensures.items in
    let among = c.loop-piece.invariant.among in
    record {
      long = omega (arith, c.loop-piece.invariant.long, length-set c.loop-piece.slots.items c.in-Some.piece.number (Some c.in-Some.piece));
      among = rest_among c.args.count c.args.done.items c.loop-piece.done.items c.pop.new.self.items c.in-Some.piece is among;
      filled = filled_more c.args.count c.args.done.items c.loop-piece.done.items c.pop.new.self.items c.in-Some.piece is among
          c.loop-piece.slots.items _ refl c.loop-piece.invariant.long
          (number_below c.args.count c.args.done.items c.in-Some.piece c.requires.once
          (last_among c.args.count c.args.done.items c.loop-piece.done.items c.pop.new.self.items c.in-Some.piece is among))
          c.loop-piece.invariant.filled;
    }

pub loop-piece-preserved-in-Some-2 : goal.loop-piece-preserved-in-Some-2
loop-piece-preserved-in-Some-2 c =
    let is = c.in-Some.ensures.items in
    let among = c.loop-piece.invariant.among in
    record {
      long = omega (arith, c.loop-piece.invariant.long, length-set c.loop-piece.slots.items c.in-Some.piece.number (Some c.in-Some.piece));
      among = rest_among c.args.count c.args.done.items c.loop-piece.done.items c.pop.new.self.items c.in-Some.piece is among;
      filled = filled_more c.args.count c.args.done.items c.loop-piece.done.items c.pop.new.self.items c.in-Some.piece is among
          c.loop-piece.slots.items _ refl c.loop-piece.invariant.long
          (number_below c.args.count c.args.done.items c.in-Some.piece c.requires.once
          (last_among c.args.count c.args.done.items c.loop-piece.done.items c.pop.new.self.items c.in-Some.piece is among))
          c.loop-piece.invariant.filled;
    }

pub loop-piece-preserved : goal.loop-piece-preserved
loop-piece-preserved c =
    let is = c.in-Some.ensures.items in
    let among = c.loop-piece.invariant.among in
    record {
      long = omega (arith, c.loop-piece.invariant.long, length-set c.loop-piece.slots.items c.in-Some.piece.number (Some c.in-Some.piece));
      among = rest_among c.args.count c.args.done.items c.loop-piece.done.items c.pop.new.self.items c.in-Some.piece is among;
      filled = filled_more c.args.count c.args.done.items c.loop-piece.done.items c.pop.new.self.items c.in-Some.piece is among
          c.loop-piece.slots.items _ refl c.loop-piece.invariant.long
          (number_below c.args.count c.args.done.items c.in-Some.piece c.requires.once
          (last_among c.args.count c.args.done.items c.loop-piece.done.items c.pop.new.self.items c.in-Some.piece is among))
          c.loop-piece.invariant.filled;
    }

pub returns-clause-slots : goal.returns-clause-slots
returns-clause-slots c =
    all_filled c.args.count c.args.done.items c.loop-piece.done.items c.loop-piece.slots.items
    (nil_from_length c.loop-piece.done.items (omega (arith, c.in_default.ensures.cases.0, c.loop-piece.done.ok.0))) c.loop-piece.invariant.filled

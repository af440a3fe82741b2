use Rattle.cts_embed.proofs.Descent.{IsDescent}
use Rattle.cts_embed.proofs.embedding.place_nodes.Given as goal

abbrev pub invariant-loop-number : goal.invariant-loop-number
invariant-loop-number l = IsDescent l.instance l.nodes l.number l.ids.items l.starts.items l.placed.items

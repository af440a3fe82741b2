use Rattle.std.proofs.Common.{◌≡◌, map, take}
use Rattle.cts_up.specs.Sites.{site_of}
use Rattle.cts_embed.proofs.embedding.embed.Given as goal

abbrev pub invariant-loop-finished : goal.invariant-loop-finished
invariant-loop-finished l = l.sites.items ≡ map site_of (take l.finished-index l.plan)

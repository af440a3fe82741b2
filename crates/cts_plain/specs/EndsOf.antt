-- The ends of the passes, as ends of the synthesis.
use Rattle.cts_up.specs.declared.end.UpEnd.{UpEnd}
use Rattle.cts_up.specs.declared.end.UpEnd.TheVariants as plan
use Rattle.cts_embed.specs.declared.end.EmbedEnd.{EmbedEnd}
use Rattle.cts_embed.specs.declared.end.EmbedEnd.TheVariants as places
use Rattle.cts_embed.specs.declared.end.BalanceEnd.{BalanceEnd}
use Rattle.cts_embed.specs.declared.end.BalanceEnd.TheVariants as balance
use Rattle.cts_plain.specs.declared.end.NoTree.{NoTree}
use Rattle.cts_plain.specs.declared.end.NoTree.TheVariants.{Beyond, Cut, NoMemory}

abbrev pub of_plan : UpEnd → NoTree
of_plan (plan.Beyond node) = Beyond node
of_plan plan.NoMemory = NoMemory

abbrev pub of_places : EmbedEnd → NoTree
of_places (places.Cut node) = Cut node
of_places places.NoMemory = NoMemory

abbrev pub of_balance : BalanceEnd → NoTree
of_balance (balance.Beyond node) = Beyond node
of_balance balance.NoMemory = NoMemory

use Rattle.std.proofs.Common.{◌≡◌, List, ℕ, ◌++◌, length}
use Rattle.std.specs.Fmt.{IsPlainFormatter, HasWritten}
use Rattle.listing.specs.Description.{all_shared}
use Rattle.listing.proofs.sentences.AllSharedDisplay.fmt.Given as goal

-- what is written and what is left to write make up the whole
abbrev pub invariant-loop-codes : goal.invariant-loop-codes
invariant-loop-codes g l =
    IsPlainFormatter l.initial.f
    → (written : List ℕ)
    × HasWritten g.W.Write.write_str_gives l.initial.f written l.f
    × (written ++ all_shared (g.G.Grouping.groups l.self.grouping.now) (g.G.Grouping.spread l.self.grouping.now) l.codes ≡ all_shared (g.G.Grouping.groups l.self.grouping.now) (g.G.Grouping.spread l.self.grouping.now) l.self.codes.now)

abbrev pub decreases-loop-codes : goal.decreases-loop-codes
decreases-loop-codes g l = length l.codes

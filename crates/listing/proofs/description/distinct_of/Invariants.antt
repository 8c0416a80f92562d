use Rattle.std.proofs.Common.{◌≡◌, ◌++◌, drop, vec_items}
use Rattle.listing.specs.Description.{new_codes, distinct}
use Rattle.listing.proofs.description.distinct_of.Given as goal

-- the codes so far and those still new make up the whole
abbrev pub invariant-loop-code : goal.invariant-loop-code
invariant-loop-code l = vec_items l.once ++ new_codes (vec_items l.once) (drop l.code-index l.codes) ≡ distinct l.codes

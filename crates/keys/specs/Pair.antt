-- Pairs: a source and a destination region, each from 0 to 999; the code is 1,000 × source + destination.
use Rattle.std.specs.Prelude.{◌≡◌, ℕ, ◌+◌, ◌*◌, ◌/◌, ◌%◌, Bool, true, false, Some, None, Option, Result, nat_lt, refl}
use Rattle.std.proofs.Common.{ltb-true}
use Rattle.std.specs.Option.{ok_or}
use Rattle.model.specs.Kind.{Kind}
use Rattle.refusal.specs.declared.Refusal.{Refusal}
use Rattle.refusal.specs.declared.Refusal.TheVariants.{KeyOutOfRange}
use Rattle.keys.specs.declared.pair.Pair.{Pair}

abbrev pub pair_if : (source destination : ℕ) (s d : Bool) → nat_lt source 1000 ≡ s → nat_lt destination 1000 ≡ d → Option Pair
pair_if source destination true true hs hd =
    Some (record {
      source = source;
      destination = destination;
      source_below = ltb-true source 1000 hs;
      destination_below = ltb-true destination 1000 hd;
    })
pair_if source destination true false hs hd = None
pair_if source destination false d hs hd = None

-- the pair of these regions, if both are regions
abbrev pub pair : ℕ → ℕ → Option Pair
pair source destination = pair_if source destination (nat_lt source 1000) (nat_lt destination 1000) refl refl

abbrev pub new_pair : ℕ → ℕ → Result Pair Refusal
new_pair source destination = ok_or (pair source destination) KeyOutOfRange

abbrev pub pair_kind : Kind Pair
pair_kind = record { bits = 20; codes = 1000000; code = λ p. 1000 * p.source + p.destination; key = λ code. pair (code / 1000) (code % 1000) }

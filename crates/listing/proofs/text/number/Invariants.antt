use Rattle.std.proofs.Common.{◌≡◌, ◌-◌, ◌^◌, ◌<◌, min, drop}
use Rattle.std.specs.Str.{all_ascii_digits}
use Rattle.listing.specs.Text.{value_after}
use Rattle.listing.proofs.text.number.Given as goal

-- it hangs on the digits that are still to be read
abbrev pub invariant-loop-b : goal.invariant-loop-b
invariant-loop-b l =
    record {
      fits : l.value < 2 ^ 32;
      digits : all_ascii_digits (drop l.b-index l.text) ≡ all_ascii_digits l.text;
      value : min (value_after l.value (drop l.b-index l.text)) (2 ^ 32 - 1) ≡ min (value_after 0 l.text) (2 ^ 32 - 1);
    }

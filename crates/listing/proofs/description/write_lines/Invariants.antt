use Rattle.std.proofs.Common.{◌≡◌, ◌+◌, ◌≤◌, ◌++◌, length, vec_items, string_bytes}
use Rattle.listing.specs.Text.{lines}
use Rattle.listing.specs.Description.{lines_said, codes_read}
use Rattle.listing.proofs.description.write_lines.Given as goal

-- what is done and what the lines from here on add make up the whole
abbrev pub invariant-loop-text : goal.invariant-loop-text
invariant-loop-text g l =
    record {
      said : string_bytes l.out ++ lines_said g.K.Key.kind g.K.Typed.typed (g.G.Grouping.groups l.grouping) (l.count + 1) (lines l.text-iterator.0.now)
          ≡ string_bytes l.initial.out ++ lines_said g.K.Key.kind g.K.Typed.typed (g.G.Grouping.groups l.grouping) 1 (lines l.input);
      read : vec_items l.codes ++ codes_read g.K.Key.kind g.K.Typed.typed (l.count + 1) (lines l.text-iterator.0.now)
          ≡ vec_items l.initial.codes ++ codes_read g.K.Key.kind g.K.Typed.typed 1 (lines l.input);
      counted : l.count + length (lines l.text-iterator.0.now) ≡ length (lines l.input);
      bounded : l.count + length l.text-iterator.0.now ≤ length l.input;
    }

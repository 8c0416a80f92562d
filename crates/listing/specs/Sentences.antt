-- The sentences that the planner's tool writes, each ended by a line feed.
use Rattle.std.specs.Prelude.{◌≡◌, ℕ, cond, List, [], ◌∷◌, ◌++◌, codes, decimal, Result, OnOk, ◌==◌}
use Rattle.model.specs.Grouping.{Groups, groups_of, shared_rows}
use Rattle.refusal.specs.declared.Refusal.{Refusal}
use Rattle.refusal.specs.Reason.{reason, spaced, spelt}

-- where a call answers `Ok`, it has added this to what was written; an error, which stands for want of memory, says nothing
-- of that
abbrev pub Adds : {E : Type 0} → Result (Unit {0}) E → List ℕ → List ℕ → List ℕ → Type 0
Adds r before added after = OnOk r (after ≡ before ++ added)

abbrev pub key_start : ℕ → List ℕ
key_start code = codes "code " ++ (decimal code ++ codes " groups")

abbrev pub key_sentence : Groups → ℕ → List ℕ
key_sentence g code = key_start code ++ (spaced (groups_of g code) ++ (10 ∷ []))

abbrev pub sharing : (code other rows spread : ℕ) → List ℕ
sharing code other rows spread =
    codes "codes " ++ (decimal code ++ (codes " and " ++ (decimal other ++ (codes ": rows shared " ++ (decimal rows
    ++ (codes ", spread " ++ (decimal spread ++ (10 ∷ []))))))))

-- said of two codes that share a group in some row
abbrev pub shared_sentence : Groups → ℕ → ℕ → ℕ → List ℕ
shared_sentence g spread code other =
    cond (shared_rows g code other == 0) [] (sharing code other (shared_rows g code other) spread)

-- what a refused line lacks
abbrev pub line_fault : Refusal → List ℕ
line_fault refusal = cond ((reason refusal).number == 5) (codes "no such key") (codes "not the form of a key")

abbrev pub refused_sentence : ℕ → Refusal → List ℕ
refused_sentence line refusal =
    codes "line " ++ (decimal line ++ (codes " refused: " ++ (spelt (reason refusal) ++ (codes " (" ++ (line_fault refusal ++ (codes ")" ++ (10 ∷ [])))))))

abbrev pub closing_sentence : ℕ → ℕ → List ℕ
closing_sentence keys refused =
    codes "keys read: " ++ (decimal keys ++ (codes ", lines refused: " ++ (decimal refused ++ (10 ∷ []))))

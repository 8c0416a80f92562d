-- What follows from the laws of a grouping and of its spread.
use Rattle.std.proofs.Common.{◌≡◌, ℕ, ◌^◌, ◌<◌, ◌≤◌, Bool, true, false, cond, ◌&&◌, T, ltb, ◌⊎◌, sym, refl, inl, inr, arith, lt→ltb}
use Rattle.std.proofs.lemmas.Bool.{ltb-true}
use Rattle.model.specs.Grouping.{Groups, GroupsLaws, Spread, inside, shares, shared_rows, OneGroupNeedsEveryRow}
use Rattle.model.proofs.Counting.{count_at_most, count_of_all}
use Rattle.model.proofs.Coefficients.{eqb_from_eq}

pub one_group_needs_every_row : (g : Groups) (span spread : ℕ) → Spread g span spread → OneGroupNeedsEveryRow g span spread
one_group_needs_every_row g span spread law two together =
    let all : shared_rows g 0 1 ≡ g.rows =
    count_of_all g.rows (shares g 0 1)
    (λ row h. eqb_from_eq (g.group row 0) (g.group row 1) (sym (together row 1 h (omega arith)))) in
    let few : shared_rows g 0 1 ≤ spread = law.codes_share_few_rows 0 1 (omega arith) (omega arith) (λ e. omega (arith, e)) in
    omega (arith, law.spread_at_most_rows)

-- every grouping has its number of rows for a spread
pub spread_of_all_rows : (g : Groups) (span : ℕ) → Spread g span g.rows
spread_of_all_rows g span =
    record {
      spread_at_most_rows = omega arith;
      codes_share_few_rows = λ c d hc hd ne. count_at_most g.rows (shares g c d);
    }

-- a rule that is kept to the rows and codes of a plan
kept_below : (rule : ℕ → ℕ → ℕ) (width row code : ℕ) → 0 < width → rule row code < width → (v : Bool) → cond v (rule row code) 0 < width
kept_below rule width row code pos h true = h
kept_below rule width row code pos h false = pos

kept_0 : (rows row code x : ℕ) → (rows ≤ row) ⊎ (2 ^ 30 ≤ code) → (v w : Bool) → (v ≡ true → row < rows) → (w ≡ true → code < 2 ^ 30) → cond (v && w) x 0 ≡ 0
kept_0 rows row code x out true true hv hw =
    elim out [ inl h ↦ absurd (omega (arith, hv refl)) | inr h ↦ absurd (omega (arith, hw refl)) ]
kept_0 rows row code x out true false hv hw = refl
kept_0 rows row code x out false w hv hw = refl

pub inside_laws : (rows width : ℕ) (rule : ℕ → ℕ → ℕ) → 1 ≤ rows → rows ≤ 16 → 1 ≤ width → width ≤ 4096
    → ((row code : ℕ) → rule row code < width) → GroupsLaws (record { rows = rows; width = width; group = inside rows rule })
inside_laws rows width rule r1 r16 w1 w4096 below =
    record {
      at_least_1_row = r1;
      at_most_16_rows = r16;
      at_least_1_group = w1;
      at_most_4096_groups = w4096;
      group_below_width = λ row code. kept_below rule width row code (omega arith) (below row code) (ltb row rows && ltb code (2 ^ 30));
      group_0_outside = λ row code out. kept_0 rows row code (rule row code) out (ltb row rows) (ltb code (2 ^ 30)) (ltb-true row rows) (ltb-true code (2 ^ 30));
    }

-- a row and a code inside have the rule's own group
inside_is : (x : ℕ) (v w : Bool) → T v → T w → cond (v && w) x 0 ≡ x
inside_is x true true t u = refl
inside_is x true false t u = absurd u
inside_is x false w t u = absurd t

pub group_by_rule : (rows : ℕ) (rule : ℕ → ℕ → ℕ) (row code : ℕ) → row < rows → code < 2 ^ 30 → inside rows rule row code ≡ rule row code
group_by_rule rows rule row code hr hc = inside_is (rule row code) (ltb row rows) (ltb code (2 ^ 30)) (lt→ltb row rows hr) (lt→ltb code (2 ^ 30) hc)

-- The place of each cell, and which codes count there.
use Rattle.std.proofs.Common.{◌≡◌, ℕ, ◌+◌, ◌*◌, ◌/◌, ◌<◌, ◌&&◌, eqb, refl, ap, ◌∙◌, mul_comm, arith}
use Rattle.std.proofs.lemmas.Nat.{mul-add-lt, div-mul-add, mod-mul-add}
use Rattle.model.specs.Plan.{Plan, group_of, run, counts_in, cell_count, place, row_of, counts_at}

module _ {K : Type 0} (P : Plan K) where
  pub place_below : (r g l : ℕ) → r < P.groups.rows → g < P.groups.width → l < run P → place P r g l < cell_count P
  place_below r g l a b c =
      let row : r * P.groups.width + g < P.groups.rows * P.groups.width =
      omega (arith, mul-add-lt r P.groups.width g P.groups.rows a b, mul_comm P.groups.width P.groups.rows) in
      omega (arith, mul-add-lt (r * P.groups.width + g) (run P) l (P.groups.rows * P.groups.width) row c, mul_comm (run P) (P.groups.rows * P.groups.width))

  pub counts_at_place : (r g l c : ℕ) → g < P.groups.width → l < run P → counts_at P (place P r g l) c ≡ (eqb (group_of P r c) g && counts_in P c l)
  unfolding counts_at
  counts_at_place r g l c b d =
      rw (
        div-mul-add (r * P.groups.width + g) (run P) l d,
        mod-mul-add (r * P.groups.width + g) (run P) l d,
        div-mul-add r P.groups.width g b,
        mod-mul-add r P.groups.width g b,
      ) refl

  pub place_row : (r g l : ℕ) → g < P.groups.width → l < run P → row_of P (place P r g l) ≡ r
  place_row r g l lg ll = ap (λ y. y / P.groups.width) (div-mul-add (r * P.groups.width + g) (run P) l ll) ∙ div-mul-add r P.groups.width g lg

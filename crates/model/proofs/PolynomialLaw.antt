-- Two different codes below the span share a group of the polynomial grouping in few rows.
use Rattle.std.proofs.Common.{◌≡◌, ℕ, ◌*◌, ◌%◌, ◌^◌, ◌<◌, ◌≤◌, true, T, eqb, ◌≢◌, sym, ap, ◌∙◌, lt_of_lt_of_le, mod-lt, lt_of_not-le, arith, eqb→eq}
use Rattle.model.specs.Counting.{sum_below, count_below}
use Rattle.model.specs.Grouping.{GroupsLaws, Spread, inside, shares, shared_rows}
use Rattle.model.specs.Polynomial.{digit, digit_count, polynomial_group, polynomial, polynomial_spread, allowed_width}
use Rattle.model.proofs.Counting.{count_mono, count_at_most}
use Rattle.model.proofs.Coefficients.{Inverses, agree, value, eqb_from_eq, same_from_agreement}
use Rattle.model.proofs.Inverses.{width_inverses, width_at_least_31, width_at_most_4093}
use Rattle.model.proofs.Digits.{lowest, length_lowest, sum_is_value, same_digits_same_code, digits_reach}
use Rattle.model.proofs.Spread.{inside_laws, group_by_rule}

group_is_value : (w n row c : ℕ) → polynomial_group w n row c ≡ value (lowest w n c) row % w
group_is_value w n row c = ap (λ v. v % w) (sum_is_value w n c row)

-- in as many of the first rows as there are digits, two different codes below w ^ n cannot share a group
few_shared : (w rows n c d : ℕ) → Inverses w rows → 0 < w → c < w ^ n → d < w ^ n → c ≢ d
    → count_below rows (λ row. eqb (polynomial_group w n row c) (polynomial_group w n row d)) < n
few_shared w rows n c d inverses pos hc hd ne = lt_of_not-le many
  where
    agree_where_shared : (row : ℕ) → T (eqb (polynomial_group w n row c) (polynomial_group w n row d)) → T (agree w (lowest w n c) (lowest w n d) row)
    agree_where_shared row t =
        eqb_from_eq (value (lowest w n c) row % w) (value (lowest w n d) row % w)
        (sym (group_is_value w n row c) ∙ eqb→eq (polynomial_group w n row c) (polynomial_group w n row d) t ∙ group_is_value w n row d)

    many : n ≤ count_below rows (λ row. eqb (polynomial_group w n row c) (polynomial_group w n row d)) → ⊥
    many h =
        let le : count_below rows (λ row. eqb (polynomial_group w n row c) (polynomial_group w n row d)) ≤ count_below rows (agree w (lowest w n c) (lowest w n d)) =
        count_mono rows (λ row. eqb (polynomial_group w n row c) (polynomial_group w n row d)) (agree w (lowest w n c) (lowest w n d)) (λ row hr t. agree_where_shared row t) in
        ne (same_digits_same_code w n c d pos hc hd
        (same_from_agreement w rows inverses rows (lowest w n c) (lowest w n d) (omega arith)
        (length_lowest w n c ∙ sym (length_lowest w n d)) (omega (arith, length_lowest w n c))))

shared_by_rule : (rows w n c d row : ℕ) → c < 2 ^ 30 → d < 2 ^ 30 → row < rows
    → T (eqb (inside rows (polynomial_group w n) row c) (inside rows (polynomial_group w n) row d)) → T (eqb (polynomial_group w n row c) (polynomial_group w n row d))
shared_by_rule rows w n c d row hc hd hr t =
    eqb_from_eq (polynomial_group w n row c) (polynomial_group w n row d)
    (sym (group_by_rule rows (polynomial_group w n) row c hr hc)
    ∙ eqb→eq (inside rows (polynomial_group w n) row c) (inside rows (polynomial_group w n) row d) t
    ∙ group_by_rule rows (polynomial_group w n) row d hr hd)

pub polynomial_spread_law : (rows w span : ℕ) → rows ≤ 16 → allowed_width w ≡ true → span ≤ 2 ^ 30 → Spread (polynomial rows w span) span (polynomial_spread rows w span)
polynomial_spread_law rows w span hr hw hs =
    record { spread_at_most_rows = omega arith; codes_share_few_rows = few }
  where
    few : (c d : ℕ) → c < span → d < span → c ≢ d → shared_rows (polynomial rows w span) c d ≤ polynomial_spread rows w span
    few c d hc hd ne =
        let big : 31 ≤ w = width_at_least_31 w hw in
        let inverses : Inverses w rows = λ t pos h. width_inverses w hw t pos (omega arith) in
        let reaches : span ≤ w ^ digit_count w span = digits_reach w span (omega arith) hs in
        let by_rule : shared_rows (polynomial rows w span) c d ≤ count_below rows (λ row. eqb (polynomial_group w (digit_count w span) row c) (polynomial_group w (digit_count w span) row d)) =
        count_mono rows (shares (polynomial rows w span) c d) (λ row. eqb (polynomial_group w (digit_count w span) row c) (polynomial_group w (digit_count w span) row d))
        (λ row h. shared_by_rule rows w (digit_count w span) c d row (omega arith) (omega arith) h) in
        let low : count_below rows (λ row. eqb (polynomial_group w (digit_count w span) row c) (polynomial_group w (digit_count w span) row d)) < digit_count w span =
        few_shared w rows (digit_count w span) c d inverses (omega arith) (lt_of_lt_of_le hc reaches) (lt_of_lt_of_le hd reaches) ne in
        omega (arith, count_at_most rows (shares (polynomial rows w span) c d))

pub polynomial_laws : (rows w span : ℕ) → 1 ≤ rows → rows ≤ 16 → allowed_width w ≡ true → GroupsLaws (polynomial rows w span)
polynomial_laws rows w span r1 r16 hw =
    let big : 31 ≤ w = width_at_least_31 w hw in
    let small : w ≤ 4093 = width_at_most_4093 w hw in
    inside_laws rows w (polynomial_group w (digit_count w span)) r1 r16 (omega arith) (omega arith)
    (λ row code. mod-lt (sum_below (digit_count w span) (λ j. digit w code j * row ^ j)) (omega arith))

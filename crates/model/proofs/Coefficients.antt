-- Two polynomials with n coefficients that agree modulo w at n rows have the same coefficients modulo w. No prime is
-- needed: rows differ by less than their number, so it is enough that those differences have inverses.
use Rattle.std.proofs.Common.{◌≡◌, ℕ, zero, suc, ◌+◌, ◌-◌, ◌*◌, ◌%◌, ◌<◌, ◌≤◌, Bool, true, false, cond, T, eqb, List, [], ◌∷◌, length, refl, ap, arith, eqb→eq}
use lib.Dec.{eqb_refl}
use Rattle.model.specs.Counting.{count_below}
use Rattle.model.proofs.Counting.{count_mono}
use Rattle.model.proofs.Remainders.{Congruent, congruent_refl, congruent_from_remainders, remainders_from_congruent, congruent_first, congruent_cancel}

-- the value of a polynomial at x; the lowest coefficient stands first
abbrev pub value : List ℕ → ℕ → ℕ
value [] x = 0
value (a ∷ ps) x = a + x * value ps x

-- the coefficients are congruent, one by one
abbrev pub Same : ℕ → List ℕ → List ℕ → Type 0
Same w [] [] = Unit {0}
Same w [] (b ∷ qs) = ⊥
Same w (a ∷ ps) [] = ⊥
Same w (a ∷ ps) (b ∷ qs) = Congruent w a b × Same w ps qs

-- the quotient of a ∷ ps by (x - r), whatever a is
abbrev quotient : ℕ → List ℕ → List ℕ
quotient r [] = []
quotient r (a ∷ ps) = value (a ∷ ps) r ∷ quotient r ps

length_quotient : (r : ℕ) (ps : List ℕ) → length (quotient r ps) ≡ length ps
length_quotient r [] = refl
length_quotient r (a ∷ ps) = ap suc (length_quotient r ps)

-- the value at x + t is the value at x and t times the quotient by (x + t), taken at x
factor : (x t a : ℕ) (ps : List ℕ) → value (a ∷ ps) (x + t) ≡ value (a ∷ ps) x + t * value (quotient (x + t) ps) x
factor x t a [] = omega arith
factor x t a (b ∷ qs) =
    let ih : value (b ∷ qs) (x + t) ≡ value (b ∷ qs) x + t * value (quotient (x + t) qs) x = factor x t b qs in
    omega (arith, ap (λ v. x * v) ih)

-- polynomials whose quotients have the same coefficients have the same coefficients
same_from_quotients : (w r : ℕ) (ps qs : List ℕ) → Same w (quotient r ps) (quotient r qs) → Same w ps qs × Congruent w (value ps r) (value qs r)
same_from_quotients w r [] [] s = (tt, congruent_refl w 0)
same_from_quotients w r [] (b ∷ qs) s = absurd s
same_from_quotients w r (a ∷ ps) [] s = absurd s
same_from_quotients w r (a ∷ ps) (b ∷ qs) s =
    let rest : Same w ps qs × Congruent w (value ps r) (value qs r) = same_from_quotients w r ps qs s.1 in
    ((congruent_first w r a b (value ps r) (value qs r) s.0 rest.1, rest.0), s.0)

-- each difference of two rows below `rows` has an inverse modulo w
abbrev pub Inverses : ℕ → ℕ → Type 0
Inverses w rows = (t : ℕ) → 0 < t → t < rows → (u : ℕ) × (k : ℕ) × (t * u ≡ 1 + k * w)

-- whether two polynomials agree modulo w at a row
abbrev pub agree : ℕ → List ℕ → List ℕ → ℕ → Bool
agree w p q row = eqb (value p row % w) (value q row % w)

congruent_from_agree : (w : ℕ) (p q : List ℕ) (row : ℕ) → T (agree w p q row) → Congruent w (value p row) (value q row)
congruent_from_agree w p q row t = congruent_from_remainders w (value p row) (value q row) (eqb→eq (value p row % w) (value q row % w) t)

pub eqb_from_eq : (m n : ℕ) → m ≡ n → T (eqb m n)
eqb_from_eq m n e = rw e (eqb_refl n)

agree_from_congruent : (w : ℕ) (p q : List ℕ) (row : ℕ) → Congruent w (value p row) (value q row) → T (agree w p q row)
agree_from_congruent w p q row c =
    eqb_from_eq (value p row % w) (value q row % w) (remainders_from_congruent w (value p row) (value q row) c)

-- where two polynomials agree at a row, their quotients by that row agree at each lower row where they do
quotients_agree : (w rows r i a b : ℕ) (ps qs : List ℕ) → Inverses w rows → r < rows → i < r
    → Congruent w (value (a ∷ ps) r) (value (b ∷ qs) r) → Congruent w (value (a ∷ ps) i) (value (b ∷ qs) i)
    → Congruent w (value (quotient r ps) i) (value (quotient r qs) i)
quotients_agree w rows r i a b ps qs inverses hr hi at_r at_i =
    let e : i + (r - i) ≡ r = omega arith in
    let inv = inverses (r - i) (omega arith) (omega arith) in
    let fa : value (a ∷ ps) r ≡ value (a ∷ ps) i + (r - i) * value (quotient r ps) i = rw e at (factor i (r - i) a ps) in
    let fb : value (b ∷ qs) r ≡ value (b ∷ qs) i + (r - i) * value (quotient r qs) i = rw e at (factor i (r - i) b qs) in
    congruent_cancel w (r - i) inv.0 inv.1 (value (a ∷ ps) i) (value (b ∷ qs) i) (value (quotient r ps) i) (value (quotient r qs) i)
    inv.2 (at_r.0, at_r.1, omega (arith, at_r.2)) at_i

-- one row more, at which they agree or not
one_row_more : (w rows n a b : ℕ) (ps qs : List ℕ) → Inverses w rows → n < rows
    → (length (a ∷ ps) ≤ count_below n (agree w (a ∷ ps) (b ∷ qs)) → Same w (a ∷ ps) (b ∷ qs))
    → (length ps ≤ count_below n (agree w (quotient n ps) (quotient n qs)) → Same w (quotient n ps) (quotient n qs))
    → (v : Bool) → (T v → Congruent w (value (a ∷ ps) n) (value (b ∷ qs) n))
    → length (a ∷ ps) ≤ count_below n (agree w (a ∷ ps) (b ∷ qs)) + cond v 1 0 → Same w (a ∷ ps) (b ∷ qs)
one_row_more w rows n a b ps qs inverses hn stay down false at_n h = stay (omega arith)
one_row_more w rows n a b ps qs inverses hn stay down true at_n h =
    let fewer : count_below n (agree w (a ∷ ps) (b ∷ qs)) ≤ count_below n (agree w (quotient n ps) (quotient n qs)) =
    count_mono n (agree w (a ∷ ps) (b ∷ qs)) (agree w (quotient n ps) (quotient n qs))
    (λ i hi t. agree_from_congruent w (quotient n ps) (quotient n qs) i
    (quotients_agree w rows n i a b ps qs inverses hn hi (at_n tt) (congruent_from_agree w (a ∷ ps) (b ∷ qs) i t))) in
    let rest : Same w ps qs × Congruent w (value ps n) (value qs n) = same_from_quotients w n ps qs (down (omega arith)) in
    (congruent_first w n a b (value ps n) (value qs n) (at_n tt) rest.1, rest.0)

-- polynomials of the same length that agree at as many of the first n rows have the same coefficients
pub same_from_agreement : (w rows : ℕ) → Inverses w rows → (n : ℕ) (p q : List ℕ) → n ≤ rows → length p ≡ length q
    → length p ≤ count_below n (agree w p q) → Same w p q
same_from_agreement w rows inverses n [] [] hn e h = tt
same_from_agreement w rows inverses n [] (b ∷ qs) hn e h = absurd (omega arith)
same_from_agreement w rows inverses n (a ∷ ps) [] hn e h = absurd (omega arith)
same_from_agreement w rows inverses zero (a ∷ ps) (b ∷ qs) hn e h = absurd (omega arith)
same_from_agreement w rows inverses (suc n) (a ∷ ps) (b ∷ qs) hn e h =
    one_row_more w rows n a b ps qs inverses hn
    (λ k. same_from_agreement w rows inverses n (a ∷ ps) (b ∷ qs) (omega arith) e k)
    (λ k. same_from_agreement w rows inverses n (quotient n ps) (quotient n qs) (omega arith)
    (omega (arith, length_quotient n ps, length_quotient n qs)) (omega (arith, length_quotient n ps)))
    (agree w (a ∷ ps) (b ∷ qs) n) (congruent_from_agree w (a ∷ ps) (b ∷ qs) n) h

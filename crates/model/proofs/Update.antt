-- An update, row by row: the run of the code's group is written, and that makes what the definition says of all cells.
use Rattle.std.proofs.Common.{◌≡◌, ℕ, ◌+◌, ◌-◌, ◌*◌, ◌/◌, ◌%◌, ◌<◌, ◌≤◌, Bool, true, false, cond, ◌&&◌, ltb, ◌⊎◌, List, map, length, get_or, sym, refl, ap, ◌∙◌, ap₂, inl, inr, ⊎_elim, div-add-mod', arith, rules}
use borrow.Rule.Slice.PartMut.{put_mid}
use Rattle.std.specs.List.{range_with_len, between}
use Rattle.std.proofs.lemmas.List.{places}
use Rattle.std.proofs.lemmas.List.FromFn.{length-map-range_with_len, get_or-map-range_with_len, fill_by_all}
use Rattle.std.proofs.lemmas.Nat.{mod_below, div_below}
use Rattle.std.proofs.lemmas.Bool.{cond-false, eq-eqb, eqb-true, cases_eq, cases_lt, cases_Bool, lt-ltb, le-ltb, and_parts}
use Rattle.model.specs.Grouping.{GroupsLaws}
use Rattle.model.specs.Plan.{Plan, run, cell_count, place, row_of, group_of, counts_at, counts_in}
use Rattle.model.specs.Board.{run_after}
use Rattle.model.proofs.Places.{place_below, counts_at_place, place_row}

-- ---- a part written over

module _ (a k : ℕ) (xs ys : List ℕ) (in' : a + k ≤ length xs) (e : length ys ≡ k) where
  mid_below : (p : ℕ) → p < a → get_or (put_mid a k xs ys) p 0 ≡ get_or xs p 0
  mid_below p l = grind (arith, places)

  mid_in : (l : ℕ) → l < k → get_or (put_mid a k xs ys) (a + l) 0 ≡ get_or ys l 0
  mid_in l h = grind (arith, places)

  mid_past : (p : ℕ) → a + k ≤ p → get_or (put_mid a k xs ys) p 0 ≡ get_or xs p 0
  mid_past p l = grind (arith, places)

  mid_length : length (put_mid a k xs ys) ≡ length xs
  mid_length = search (rules, places)

module _ {K : Type 0} (P : Plan K) (op : ℕ → ℕ → ℕ) (w c : ℕ) where
  -- a run with the weight put in for the code
  abbrev pub run_updated : List ℕ → List ℕ
  run_updated xs = run_after op w c xs

  abbrev cell_updated : ℕ → List ℕ → ℕ → ℕ
  cell_updated i xs p = cond (ltb (row_of P p) i && counts_at P p c) (op (get_or xs p 0) w) (get_or xs p 0)

  -- the cells with the weight put in in the first i rows
  unfoldable pub rows_updated : ℕ → List ℕ → List ℕ
  rows_updated i xs = map (cell_updated i xs) (range_with_len 0 (cell_count P))

  abbrev pub run_start : ℕ → ℕ
  run_start r = place P r (group_of P r c) 0

  pub length_updated : (i : ℕ) (xs : List ℕ) → length (rows_updated i xs) ≡ cell_count P
  unfolding rows_updated
  length_updated i xs = length-map-range_with_len (cell_updated i xs) 0 (cell_count P)

  pub rows_updated_is : (i : ℕ) (xs : List ℕ) (p : ℕ) → p < cell_count P → get_or (rows_updated i xs) p 0 ≡ cell_updated i xs p
  unfolding rows_updated
  rows_updated_is i xs p l = get_or-map-range_with_len (cell_updated i xs) 0 (cell_count P) p p 0 l (omega arith)

  pub no_row_updated : (xs : List ℕ) → length xs ≡ cell_count P → rows_updated 0 xs ≡ xs
  unfolding rows_updated
  no_row_updated xs l = sym (fill_by_all (cell_updated 0 xs) xs (cell_count P) 0 l (λ p h. sym (cond-false _ _ _ (ap (λ b. b && counts_at P p c) (le-ltb (row_of P p) 0 (omega arith))))))

  module _ (laws : GroupsLaws P.groups) where
    pub all_rows_updated : (xs : List ℕ) → rows_updated P.groups.rows xs ≡ map (λ p. cond (counts_at P p c) (op (get_or xs p 0) w) (get_or xs p 0)) (range_with_len 0 (cell_count P))
    all_rows_updated xs =
        fill_by_all (λ p. cond (counts_at P p c) (op (get_or xs p 0) w) (get_or xs p 0)) (rows_updated P.groups.rows xs) (cell_count P) 0 (length_updated P.groups.rows xs)
        (λ p h. rows_updated_is P.groups.rows xs p h ∙ ap (λ b. cond (b && counts_at P p c) (op (get_or xs p 0) w) (get_or xs p 0)) (lt-ltb (row_of P p) P.groups.rows (low p h)))
      where
        low : (p : ℕ) → p < cell_count P → row_of P p < P.groups.rows
        low p h = div_below (p / run P) P.groups.width P.groups.rows laws.at_least_1_group (div_below p (run P) (P.groups.rows * P.groups.width) (omega arith) h)

    -- a place of row r where the code counts lies in the run
    in_run : (r p : ℕ) → row_of P p ≡ r → counts_at P p c ≡ true → (run_start r ≤ p) × (p < run_start r + run P)
    unfolding counts_at
    in_run r p e h =
        let W = P.groups.width in
        let g : group_of P (row_of P p) c ≡ p / run P % W = eqb-true _ _ (and_parts _ _ h).0 in
        let g' : group_of P r c ≡ p / run P % W = ap (λ i. group_of P i c) (sym e) ∙ g in
        let q : p / run P ≡ r * W + group_of P r c = sym (div-add-mod' (p / run P) W) ∙ ap₂ (λ x y. x * W + y) e (sym g') in
        let m : p / run P * run P ≡ (r * W + group_of P r c) * run P = ap (λ y. y * run P) q in
        let b : p % run P < run P = mod_below p (run P) (omega arith) in
        let d = div-add-mod' p (run P) in
        ((omega arith), (omega arith))

    and_false : (b : Bool) → (b && false) ≡ false
    and_false true = refl
    and_false false = refl

    -- a place outside the run is as before
    outside : (r : ℕ) (xs : List ℕ) (p : ℕ) → (p < run_start r) ⊎ (run_start r + run P ≤ p) → cell_updated r xs p ≡ cell_updated (r + 1) xs p
    outside r xs p far =
        ⊎_elim
        (λ (e : row_of P p ≡ r).
        let n : counts_at P p c ≡ false = ⊎_elim
        (λ (y : counts_at P p c ≡ true). absurd (let b = in_run r p e y in omega arith))
        (λ (y : counts_at P p c ≡ false). y)
        (cases_Bool (counts_at P p c)) in
        rw (n, and_false (ltb (row_of P p) r), and_false (ltb (row_of P p) (r + 1))) refl)
        (λ (d : row_of P p ≡ r → ⊥). ap (λ b. cond (b && counts_at P p c) (op (get_or xs p 0) w) (get_or xs p 0)) (same d))
        (cases_eq (row_of P p) r)
      where
        same : (row_of P p ≡ r → ⊥) → ltb (row_of P p) r ≡ ltb (row_of P p) (r + 1)
        same d =
            ⊎_elim
            (λ (l : row_of P p < r). lt-ltb _ _ l ∙ sym (lt-ltb (row_of P p) (r + 1) (omega arith)))
            (λ (l : r ≤ row_of P p). le-ltb _ _ l ∙ sym (le-ltb (row_of P p) (r + 1) (omega arith)))
            (cases_lt (row_of P p) r)

    -- a place of the run
    inside : (r : ℕ) (xs : List ℕ) (l : ℕ) → l < run P →
        (cell_updated r xs (place P r (group_of P r c) l) ≡ get_or xs (place P r (group_of P r c) l) 0)
        × (cell_updated (r + 1) xs (place P r (group_of P r c) l) ≡ cond (counts_in P c l) (op (get_or xs (place P r (group_of P r c) l) 0) w) (get_or xs (place P r (group_of P r c) l) 0))
    inside r xs l ll =
        let g : ℕ = group_of P r c in
        let lg : g < P.groups.width = laws.group_below_width r c in
        let t : counts_at P (place P r g l) c ≡ counts_in P c l = counts_at_place P r g l c lg ll ∙ ap (λ b. b && counts_in P c l) (eq-eqb g g refl) in
        ((rw (place_row P r g l lg ll, le-ltb r r (omega arith)) refl), (rw (place_row P r g l lg ll, lt-ltb r (r + 1) (omega arith), t) refl))

    pub next_row_updated : (r : ℕ) (xs : List ℕ) → r < P.groups.rows →
        put_mid (run_start r) (run P) (rows_updated r xs) (run_updated (between (run_start r) (run_start r + run P) (rows_updated r xs))) ≡ rows_updated (r + 1) xs
    unfolding rows_updated
    next_row_updated r xs lr =
        let g : ℕ = group_of P r c in
        let a : ℕ = run_start r in
        let us : List ℕ = rows_updated r xs in
        let bt : List ℕ = between a (a + run P) us in
        let len : length us ≡ cell_count P = length_updated r xs in
        let inside_table : a + run P ≤ length us = omega (arith, place_below P r g (run P - 1) lr (laws.group_below_width r c) (omega arith)) in
        let f : ℕ → ℕ = λ l. cond (counts_in P c l) (op (get_or bt l 0) w) (get_or bt l 0) in
        let lbt : length bt ≡ run P = between_length us a inside_table in
        let lb : length (run_updated bt) ≡ run P = length-map-range_with_len f 0 (length bt) ∙ lbt in
        fill_by_all (cell_updated (r + 1) xs) _ (cell_count P) 0 (mid_length a (run P) us (run_updated bt) inside_table lb ∙ len)
        (λ p h. ⊎_elim
        (λ (l : p < a). mid_below a (run P) us (run_updated bt) inside_table lb p l ∙ rows_updated_is r xs p h ∙ outside r xs p (inl l))
        (λ (l : a ≤ p). ⊎_elim
        (λ (m : p < a + run P).
        let i : ℕ = p - a in
        let li : i < run P = omega arith in
        let pi : a + i ≡ p = omega arith in
        let pp : place P r g i ≡ p = omega arith in
        let hi : place P r g i < cell_count P = omega arith in
        let v : get_or bt i 0 ≡ get_or xs (place P r g i) 0 = at_between us a i li inside_table ∙ ap (λ y. get_or us y 0) (let q : a + i ≡ place P r g i = omega arith in q) ∙ rows_updated_is r xs (place P r g i) hi ∙ (inside r xs i li).0 in
        ap (λ y. get_or (put_mid a (run P) us (run_updated bt)) y 0) (sym pi) ∙ mid_in a (run P) us (run_updated bt) inside_table lb i li
        ∙ get_or-map-range_with_len f 0 (length bt) i i 0 (omega arith) (omega arith)
        ∙ ap (λ y. cond (counts_in P c i) (op y w) y) v ∙ sym (inside r xs i li).1 ∙ ap (cell_updated (r + 1) xs) pp)
        (λ (m : a + run P ≤ p). mid_past a (run P) us (run_updated bt) inside_table lb p m ∙ rows_updated_is r xs p h ∙ outside r xs p (inr m))
        (cases_lt p (a + run P)))
        (cases_lt p a))
      where
        at_between : (us : List ℕ) (a i : ℕ) → i < run P → a + run P ≤ length us → get_or (between a (a + run P) us) i 0 ≡ get_or us (a + i) 0
        at_between us a i li inside_table = grind (arith, places)

        between_length : (us : List ℕ) (a : ℕ) → a + run P ≤ length us → length (between a (a + run P) us) ≡ run P
        between_length us a inside_table = grind (arith, places)

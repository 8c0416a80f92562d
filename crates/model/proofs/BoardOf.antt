-- The board that net counts make: each cell is what it counts, modulo 2^64. Every call takes such a board to such a board.
use Rattle.std.proofs.Common.{◌≡◌, ℕ, ◌^◌, ◌<◌, Bool, true, false, cond, eqb, List, map, length, get_or, replicate, ℤ, pos, ◌+ℤ◌, Some, None, Option, sym, refl, ap, ◌∙◌, arith}
use lib.IntN.{+ℤ_idr}
use Rattle.std.specs.List.{range_with_len}
use Rattle.std.proofs.lemmas.List.{length-replicate, get_or-replicate}
use Rattle.std.proofs.lemmas.List.FromFn.{fill_by_all, length-map-range_with_len, get_or-map-range_with_len}
use Rattle.std.proofs.lemmas.Bool.{cond-false, eq-eqb, ne_eqb}
use Rattle.refusal.specs.declared.Refusal.{Refusal}
use Rattle.model.specs.Counting.{integer_sum_where}
use Rattle.model.specs.Kind.{KindLaws}
use Rattle.model.specs.Plan.{Plan, cell_count, counts_at}
use Rattle.model.specs.Board.{Board, sized, of_plan, board_refusal, blank, edited, updated, joined}
use Rattle.model.specs.NetCounts.{Net, of_key, nothing, fed_key, by_code, net_total}
use Rattle.model.proofs.Wrapping.{wrap, wrap_small, Puts}
use Rattle.model.proofs.IntegerSums.{of_add, of_sign, of_zero, of_same, of_one, integer_add, integer_sign, integer_zero, integer_same, integer_one}

-- what the cell at p counts
abbrev pub load : {K : Type 0} (P : Plan K) → Net K → ℕ → ℤ
load P net p = integer_sum_where P.kind.codes (counts_at P p) (by_code P net)

unfoldable pub cells_of : {K : Type 0} (P : Plan K) → Net K → List ℕ
cells_of P net = map (λ p. wrap (load P net p)) (range_with_len 0 (cell_count P))

abbrev pub board_of : {K : Type 0} (P : Plan K) → Net K → Board
board_of P net = record { plan = P.number; total = wrap (net_total P net); cells = cells_of P net }

made : (n : ℕ) {t u : ℕ} {xs ys : List ℕ} → t ≡ u → xs ≡ ys → ◌≡◌ {A = Board} (record { plan = n; total = t; cells = xs }) (record { plan = n; total = u; cells = ys })
made n p q = λ i. record { plan = n; total = p i; cells = q i }

module _ {K : Type 0} (P : Plan K) where
  pub length_cells : (net : Net K) → length (cells_of P net) ≡ cell_count P
  unfolding cells_of
  length_cells net = length-map-range_with_len (λ p. wrap (load P net p)) 0 (cell_count P)

  pub cell_at : (net : Net K) (p : ℕ) → p < cell_count P → get_or (cells_of P net) p 0 ≡ wrap (load P net p)
  unfolding cells_of
  cell_at net p h = get_or-map-range_with_len (λ p. wrap (load P net p)) 0 (cell_count P) p p 0 h (omega arith)

  pub cells_are : (net : Net K) (xs : List ℕ) → length xs ≡ cell_count P → ((p : ℕ) → p < cell_count P → get_or xs p 0 ≡ wrap (load P net p)) → xs ≡ cells_of P net
  unfolding cells_of
  cells_are net xs l h = fill_by_all (λ p. wrap (load P net p)) xs (cell_count P) 0 l h

  pub is_sized : (net : Net K) → sized P (board_of P net) ≡ true
  is_sized net = eq-eqb _ _ (length_cells net)

  pub is_of_plan : (net : Net K) → of_plan P (board_of P net) ≡ true
  is_of_plan net = eq-eqb P.number P.number refl

  -- such a board gets no 7 and no 8
  pub is_fit : (net : Net K) (others : Option Refusal) → board_refusal P (board_of P net) others ≡ others
  is_fit net others = rw (is_sized net, is_of_plan net) refl

  -- ---- with no key

  pub none_at : (o : Option K) → of_key nothing o ≡ pos 0
  none_at None = refl
  none_at (Some k) = refl

  pub none_total : net_total P nothing ≡ pos 0
  none_total = integer_same P.kind.codes _ (λ _. pos 0) (λ c _. none_at (P.kind.key c)) ∙ integer_zero P.kind.codes

  none_load : (p : ℕ) → load P nothing p ≡ pos 0
  none_load p =
      of_same P.kind.codes (counts_at P p) (by_code P nothing) (λ _. pos 0) (λ c. none_at (P.kind.key c))
      ∙ of_zero P.kind.codes (counts_at P p)

  wrap_zero : wrap (pos 0) ≡ 0
  unfolding wrap
  wrap_zero = refl

  pub blank_is : blank P ≡ board_of P nothing
  unfolding blank
  blank_is =
      made P.number (sym (ap wrap none_total ∙ wrap_zero))
      (cells_are nothing (replicate (cell_count P) 0) (length-replicate (cell_count P) 0)
      (λ p h. get_or-replicate (cell_count P) p 0 0 h ∙ sym (ap wrap (none_load p) ∙ wrap_zero)))

  -- ---- an edit

  pub edited_is : (net net' : Net K) (h : ℕ → ℕ) (f : ℕ → ℕ → ℕ) →
      h (wrap (net_total P net)) ≡ wrap (net_total P net') →
      ((p : ℕ) → p < cell_count P → f p (wrap (load P net p)) ≡ wrap (load P net' p)) →
      edited P h f (board_of P net) ≡ board_of P net'
  unfolding edited
  edited_is net net' h f t c =
      let g : ℕ → ℕ = λ p. f p (get_or (cells_of P net) p 0) in
      made P.number t
      (cells_are net' (map g (range_with_len 0 (cell_count P))) (length-map-range_with_len g 0 (cell_count P))
      (λ p l. get_or-map-range_with_len g 0 (cell_count P) p p 0 l (omega arith) ∙ ap (f p) (cell_at net p l) ∙ c p l))

  -- ---- another board, added or taken off

  module _ {op : ℕ → ℕ → ℕ} {sign : ℤ → ℤ} (puts : Puts op sign) where
    abbrev pub both : Net K → Net K → Net K
    both a b = λ k. a k +ℤ sign (b k)

    both_at : (a b : Net K) (o : Option K) → of_key (both a b) o ≡ of_key a o +ℤ sign (of_key b o)
    both_at a b None = sym (ap (λ z. pos 0 +ℤ z) puts.sign_zero)
    both_at a b (Some k) = refl

    both_load : (a b : Net K) (q : ℕ → Bool) → integer_sum_where P.kind.codes q (by_code P (both a b)) ≡ integer_sum_where P.kind.codes q (by_code P a) +ℤ sign (integer_sum_where P.kind.codes q (by_code P b))
    both_load a b q =
        of_same P.kind.codes q _ _ (λ c. both_at a b (P.kind.key c)) ∙ of_add P.kind.codes q (by_code P a) (λ c. sign (by_code P b c))
        ∙ ap (λ z. integer_sum_where P.kind.codes q (by_code P a) +ℤ z) (of_sign puts P.kind.codes q (by_code P b))

    both_total : (a b : Net K) → net_total P (both a b) ≡ net_total P a +ℤ sign (net_total P b)
    both_total a b =
        integer_same P.kind.codes _ _ (λ c _. both_at a b (P.kind.key c)) ∙ integer_add P.kind.codes (by_code P a) (λ c. sign (by_code P b c))
        ∙ ap (λ z. net_total P a +ℤ z) (integer_sign puts P.kind.codes (by_code P b))

    pub joined_is : (a b : Net K) → joined P op (board_of P b) (board_of P a) ≡ board_of P (both a b)
    joined_is a b =
        edited_is a (both a b) _ _
        (puts.hom (net_total P a) (net_total P b) ∙ ap wrap (sym (both_total a b)))
        (λ p h. ap (op (wrap (load P a p))) (cell_at b p h) ∙ puts.hom (load P a p) (load P b p) ∙ ap wrap (sym (both_load a b (counts_at P p))))

  -- ---- one key

  module _ (laws : KindLaws P.kind) where
    key_at : (net : Net K) (k : K) (z : ℤ) (c : ℕ) (o : Option K) → P.kind.key c ≡ o → of_key (fed_key P net k z) o ≡ of_key net o +ℤ cond (eqb c (P.kind.code k)) z (pos 0)
    key_at net k z c None e =
        let apart : c ≡ P.kind.code k → ⊥ = λ x. (let m : ◌≡◌ {A = Option K} None (Some k) = sym e ∙ ap P.kind.key x ∙ laws.code_gives_its_key k in let w : ◌≡◌ {A = ℕ} 0 1 = cc in omega arith) in
        sym (ap (λ y. pos 0 +ℤ y) (cond-false (eqb c (P.kind.code k)) z (pos 0) (ne_eqb _ _ apart)))
    key_at net k z c (Some j) e = rw (laws.key_has_its_code c j e) (split (eqb c (P.kind.code k)))
      where
        split : (t : Bool) → cond t (net j +ℤ z) (net j) ≡ net j +ℤ cond t z (pos 0)
        split true = refl
        split false = sym (+ℤ_idr (net j))

    pub key_load : (net : Net K) (k : K) (z : ℤ) (q : ℕ → Bool) → integer_sum_where P.kind.codes q (by_code P (fed_key P net k z)) ≡ integer_sum_where P.kind.codes q (by_code P net) +ℤ cond (q (P.kind.code k)) z (pos 0)
    key_load net k z q =
        of_same P.kind.codes q _ _ (λ c. key_at net k z c (P.kind.key c) refl)
        ∙ of_add P.kind.codes q (by_code P net) (λ c. cond (eqb c (P.kind.code k)) z (pos 0))
        ∙ ap (λ y. integer_sum_where P.kind.codes q (by_code P net) +ℤ y) (of_one P.kind.codes q (P.kind.code k) z (laws.code_below_codes k))

    pub key_total : (net : Net K) (k : K) (z : ℤ) → net_total P (fed_key P net k z) ≡ net_total P net +ℤ z
    key_total net k z =
        integer_same P.kind.codes _ _ (λ c _. key_at net k z c (P.kind.key c) refl)
        ∙ integer_add P.kind.codes (by_code P net) (λ c. cond (eqb c (P.kind.code k)) z (pos 0))
        ∙ ap (λ y. net_total P net +ℤ y) (integer_one P.kind.codes (P.kind.code k) z (laws.code_below_codes k))

    pub updated_is : {op : ℕ → ℕ → ℕ} {sign : ℤ → ℤ} → Puts op sign → (net : Net K) (k : K) (w : ℕ) → w < 2 ^ 64 → updated P op w k (board_of P net) ≡ board_of P (fed_key P net k (sign (pos w)))
    updated_is {op} {sign} puts net k w small =
        edited_is net (fed_key P net k (sign (pos w))) _ _
        (here (net_total P net) ∙ ap wrap (sym (key_total net k (sign (pos w)))))
        (λ p h. there (load P net p) (counts_at P p (P.kind.code k)) ∙ ap wrap (sym (key_load net k (sign (pos w)) (counts_at P p))))
      where
        here : (a : ℤ) → op (wrap a) w ≡ wrap (a +ℤ sign (pos w))
        here a = ap (op (wrap a)) (sym (wrap_small w small)) ∙ puts.hom a (pos w)

        there : (a : ℤ) (t : Bool) → cond t (op (wrap a) w) (wrap a) ≡ wrap (a +ℤ cond t (sign (pos w)) (pos 0))
        there a true = here a
        there a false = ap wrap (sym (+ℤ_idr a))

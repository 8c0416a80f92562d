-- Net counts: an integer for each key of each board. They are fed each call's kind, boards, key and weight, and whether
-- it is refused for what it brings or for a weight of 0; no total, cell or answer plays a part.
use Rattle.std.specs.Prelude.{ℕ, ◌-◌, Bool, cond, not, ◌&&◌, List, [], ◌∷◌, ℤ, pos, ◌+ℤ◌, neg_ℤ, Some, None, Option, ◌==◌}
use Rattle.model.specs.Counting.{integer_sum, integer_sum_where, least_to}
use Rattle.model.specs.Grouping.{shares}
use Rattle.model.specs.Plan.{Plan}
use Rattle.model.specs.Service.{Brought, board, unfit, Call, open_call, insert_call, remove_call, merge_call, subtract_call, estimate_call, report_call, put}

-- the net count of each key of one board
abbrev pub Net : Type 0 → Type 0
Net K = K → ℤ

-- the net count of a code's key; a code without one counts nothing
abbrev pub of_key : {K : Type 0} → Net K → Option K → ℤ
of_key net None = pos 0
of_key net (Some key) = net key

abbrev pub nothing : {K : Type 0} → Net K
nothing key = pos 0

module _ {K : Type 0} (P : Plan K) where
  -- an integer added to one key's
  abbrev pub fed_key : Net K → K → ℤ → Net K
  fed_key net key z other = cond (P.kind.code other == P.kind.code key) (net other +ℤ z) (net other)

  abbrev pub fed_weight : (ℕ → Net K) → Brought → K → ℕ → ℤ → ℕ → Net K
  fed_weight nets (board i) key weight z = cond (weight == 0) nets (put nets i (fed_key (nets i) key z))
  fed_weight nets (unfit b) key weight z = nets

  -- another board's, with a sign, added to each key's
  abbrev pub fed_board : (ℕ → Net K) → Brought → Brought → (ℤ → ℤ) → ℕ → Net K
  fed_board nets (board i) (board j) sign = put nets i (λ key. nets i key +ℤ sign (nets j key))
  fed_board nets (board i) (unfit b) sign = nets
  fed_board nets (unfit b) y sign = nets

  abbrev pub fed_open : (ℕ → Net K) → Brought → ℕ → Net K
  fed_open nets (board i) = put nets i nothing
  fed_open nets (unfit b) = nets

  abbrev pub fed : (ℕ → Net K) → Call K → ℕ → Net K
  fed nets (open_call x) = fed_open nets x
  fed nets (insert_call x key weight) = fed_weight nets x key weight (pos weight)
  fed nets (remove_call x key weight) = fed_weight nets x key weight (neg_ℤ (pos weight))
  fed nets (merge_call x y) = fed_board nets x y (λ z. z)
  fed nets (subtract_call x y) = fed_board nets x y neg_ℤ
  fed nets (estimate_call x key) = nets
  fed nets (report_call x k places) = nets

  abbrev pub fed_all : (ℕ → Net K) → List (Call K) → ℕ → Net K
  fed_all nets [] = nets
  fed_all nets (call ∷ calls) = fed_all (fed nets call) calls

  -- the net counts of each board after these calls; all start at 0
  abbrev pub net_counts : List (Call K) → ℕ → Net K
  net_counts calls = fed_all (λ _. nothing) calls

  -- ---- sums of them

  abbrev pub by_code : Net K → ℕ → ℤ
  by_code net code = of_key net (P.kind.key code)

  -- the sum over all keys
  abbrev pub net_total : Net K → ℤ
  net_total net = integer_sum P.kind.codes (by_code net)

  -- whether another code is in a code's group in a row
  abbrev pub accompanies : (row code other : ℕ) → Bool
  accompanies row code other = shares P.groups other code row && not (other == code)

  -- the sum of the net counts of the other keys in a key's group in a row
  abbrev pub company : Net K → K → ℕ → ℤ
  company net key row = integer_sum_where P.kind.codes (accompanies row (P.kind.code key)) (by_code net)

  abbrev pub least_company : Net K → K → ℤ
  least_company net key = least_to (P.groups.rows - 1) (company net key)

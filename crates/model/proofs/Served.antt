-- A service keeps every board at the one that its net counts make.
use Rattle.std.proofs.Common.{◌≡◌, ℕ, ◌^◌, ◌<◌, Bool, true, false, cond, not, eqb, ◌≢◌, ◌⊎◌, List, [], ◌∷◌, length, ℤ, pos, Some, None, refl, inl, inr, arith}
use Rattle.std.specs.List.{AllByRecursion}
use Rattle.std.proofs.lemmas.Bool.{ne_eqb}
use Rattle.refusal.specs.declared.Refusal.{Refusal}
use Rattle.refusal.specs.declared.Refusal.TheVariants.{WrongCellCount, WrongPlanNumber, ZeroWeight}
use Rattle.refusal.specs.declared.Side.TheVariants.{Other}
use Rattle.refusal.specs.Checks.{check}
use Rattle.model.specs.Kind.{KindLaws}
use Rattle.model.specs.Plan.{Plan, cell_count}
use Rattle.model.specs.Board.{Board, unless, sized, update_refusal, join_refusal, blank, updated, joined, open_outcome}
use Rattle.model.specs.Service.{Brought, board, unfit, Call, open_call, insert_call, remove_call, merge_call, subtract_call, estimate_call, report_call, put, brought, written, after_call, after_calls, served, Gets7Or8, OfService, IsService}
use Rattle.model.specs.NetCounts.{Net, nothing, fed_key, fed_weight, fed_board, fed_open, fed, fed_all, net_counts}
use Rattle.model.proofs.Wrapping.{Puts, adds, takes}
use Rattle.model.proofs.BoardOf.{board_of, is_sized, is_of_plan, blank_is, both, joined_is, updated_is}

module _ {K : Type 0} (P : Plan K) (laws : KindLaws P.kind) where
  -- ---- one call

  abbrev Kept : (ℕ → Board) → (ℕ → Net K) → Type 0
  Kept s n = (i : ℕ) → s i ≡ board_of P (n i)

  put_kept : (s : ℕ → Board) (n : ℕ → Net K) (i : ℕ) (b : Board) (m : Net K) → Kept s n → b ≡ board_of P m → Kept (put s i b) (put n i m)
  put_kept s n i b m h e j = split (eqb j i)
    where
      split : (t : Bool) → cond t b (s j) ≡ board_of P (cond t m (n j))
      split true = e
      split false = h j

  -- a weight, for either sign
  weight_kept : {op : ℕ → ℕ → ℕ} {sign : ℤ → ℤ} → Puts op sign → (s : ℕ → Board) (n : ℕ → Net K) (i : ℕ) (k : K) (w : ℕ) → w < 2 ^ 32 → Kept s n →
      Kept (written s (board i) (unless (update_refusal P (s i) w) (updated P op w k (s i)))) (fed_weight P n (board i) k w (sign (pos w)))
  weight_kept {op} {sign} puts s n i k w small h = rw (h i, is_sized P (n i), is_of_plan P (n i)) (split (eqb w 0))
    where
      split : (t : Bool) → Kept (written s (board i) (unless (check (not t) ZeroWeight None) (updated P op w k (board_of P (n i))))) (cond t n (put n i (fed_key P (n i) k (sign (pos w)))))
      split true = h
      split false = put_kept s n i _ (fed_key P (n i) k (sign (pos w))) h (updated_is P laws puts (n i) k w (omega arith))

  both_fit : (a b : Net K) → join_refusal P (board_of P a) (board_of P b) ≡ None
  both_fit a b = rw (is_sized P a, is_sized P b, is_of_plan P a) refl

  misfit : (a : Net K) (o : Board) → (length o.cells ≢ cell_count P) ⊎ (o.plan ≢ P.number) → (x : Refusal) × (join_refusal P (board_of P a) o ≡ Some x)
  misfit a o (inl d) = (WrongCellCount (length o.cells) Other, rw (is_sized P a, ne_eqb (length o.cells) (cell_count P) d) refl)
  misfit a o (inr d) = rw (is_sized P a, is_of_plan P a, ne_eqb o.plan P.number d) (split (sized P o))
    where
      split : (t : Bool) → (x : Refusal) × (check t (WrongCellCount (length o.cells) Other) (Some (WrongPlanNumber Other)) ≡ Some x)
      split true = (WrongPlanNumber Other, refl)
      split false = (WrongCellCount (length o.cells) Other, refl)

  open_kept : (s : ℕ → Board) (n : ℕ → Net K) (x : Brought) → Kept s n → Kept (written s x (open_outcome P (brought s x))) (fed_open P n x)
  open_kept s n (board i) h = rw (h i, is_sized P (n i)) (put_kept s n i (blank P) nothing h (blank_is P))
  open_kept s n (unfit b) h = h

  -- another board, for either sign
  board_kept : {op : ℕ → ℕ → ℕ} {sign : ℤ → ℤ} → Puts op sign → (s : ℕ → Board) (n : ℕ → Net K) (x y : Brought) → Gets7Or8 P y → Kept s n →
      Kept (written s x (unless (join_refusal P (brought s x) (brought s y)) (joined P op (brought s y) (brought s x)))) (fed_board P n x y sign)
  board_kept puts s n (board i) (board j) d h =
      rw (h i, h j, both_fit (n i) (n j)) (put_kept s n i _ (both P puts (n i) (n j)) h (joined_is P puts (n i) (n j)))
  board_kept puts s n (board i) (unfit b) d h = let m = misfit (n i) b d in rw (h i, m.1) h
  board_kept puts s n (unfit b) y d h = h

  call_kept : (s : ℕ → Board) (n : ℕ → Net K) (c : Call K) → OfService P c → Kept s n → Kept (after_call P s c) (fed P n c)
  call_kept s n (open_call x) d h = open_kept s n x h
  call_kept s n (insert_call (board i) k w) d h = weight_kept adds s n i k w d.1 h
  call_kept s n (insert_call (unfit b) k w) d h = h
  call_kept s n (remove_call (board i) k w) d h = weight_kept takes s n i k w d.1 h
  call_kept s n (remove_call (unfit b) k w) d h = h
  call_kept s n (merge_call x y) d h = board_kept adds s n x y d.1 h
  call_kept s n (subtract_call x y) d h = board_kept takes s n x y d.1 h
  call_kept s n (estimate_call x k) d h = h
  call_kept s n (report_call x k m) d h = h

  after_kept : (cs : List (Call K)) (s : ℕ → Board) (n : ℕ → Net K) → AllByRecursion (OfService P) cs → Kept s n → Kept (after_calls P s cs) (fed_all P n cs)
  after_kept [] s n d h = h
  after_kept (c ∷ cs) s n d h = after_kept cs (after_call P s c) (fed P n c) d.1 (call_kept s n c d.0 h)

  -- at every moment each board is the one that its net counts make
  pub served_is : (cs : List (Call K)) → IsService P cs → (i : ℕ) → served P cs i ≡ board_of P (net_counts P cs i)
  served_is cs d = after_kept cs (λ _. blank P) (λ _. nothing) d (λ i. blank_is P)

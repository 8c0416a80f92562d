-- A service of one insert meets every premise of the guarantee.
use Rattle.std.proofs.Common.{◌≡◌, ℕ, ◌+◌, ◌*◌, ◌^◌, ◌<◌, ◌≤◌, Bool, true, false, cond, not, eqb, pos, ◌+ℤ◌, ◌*ℤ◌, ◌≤ℤ◌, ◌<ℤ◌, refl, ap, ◌∙◌, arith}
use lib.IntN.{+ℤ_idl}
use Rattle.std.proofs.lemmas.Int.{ints}
use Rattle.std.proofs.lemmas.Bool.{eq-eqb, ne_eqb, and_right, leb-true, and_parts}
use Rattle.std.proofs.lemmas.Nat.{mul-le}
use Rattle.model.specs.Counting.{integer_sum_where}
use Rattle.model.specs.Kind.{KindLaws}
use Rattle.model.specs.Plan.{Plan}
use Rattle.model.specs.Level.{fit_level}
use Rattle.model.specs.NetCounts.{Net, nothing, fed_key, net_counts, company, accompanies, by_code}
use Rattle.model.specs.Guarantee.{one_insert, OneInsertMeetsEveryPremise, EveryInsertMeetsEveryPremise}
use Rattle.model.proofs.BoardOf.{key_load, key_total, none_total, none_at}
use Rattle.model.proofs.IntegerSums.{of_same, of_zero}

module _ {K : Type 0} (P : Plan K) (laws : KindLaws P.kind) (i weight : ℕ) (key : K) (some : 1 ≤ weight) (small : weight < 2 ^ 32) where
  abbrev after : Net K
  after = fed_key P nothing key (pos weight)

  net_is : net_counts P (one_insert P i weight key) i ≡ after
  net_is = rw (ne_eqb weight 0 (λ e. omega arith), eq-eqb i i refl) refl

  positive : (b : Bool) → pos 0 ≤ℤ cond b (pos 0 +ℤ pos weight) (pos 0)
  positive true = omega (arith, ints)
  positive false = omega (arith, ints)

  own : after key ≡ pos weight
  own = rw (eq-eqb (P.kind.code key) (P.kind.code key) refl) (omega (arith, ints))

  alone : (row : ℕ) → company P after key row ≡ pos 0
  alone row =
      let q : ℕ → Bool = accompanies P row (P.kind.code key) in
      let gone : q (P.kind.code key) ≡ false = and_right _ _ (ap not (eq-eqb (P.kind.code key) (P.kind.code key) refl)) in
      key_load P laws nothing key (pos weight) q
      ∙ ap (λ b. integer_sum_where P.kind.codes q (by_code P nothing) +ℤ cond b (pos weight) (pos 0)) gone
      ∙ ap (λ z. z +ℤ pos 0) (of_same P.kind.codes q (by_code P nothing) (λ _. pos 0) (λ c. none_at P (P.kind.key c)) ∙ of_zero P.kind.codes q)

  pub one_insert_meets_every_premise : OneInsertMeetsEveryPremise P i weight key
  one_insert_meets_every_premise =
      record {
        it_is_a_service = ((tt, small), tt);
        its_counts_are_plain = rw net_is (record {
          none_negative = λ other. positive (eqb (P.kind.code other) (P.kind.code key));
          sum_is = key_total P laws nothing key (pos weight) ∙ ap (λ z. z +ℤ pos weight) (none_total P) ∙ +ℤ_idl (pos weight);
          sum_below_2_63 = omega arith;
        });
        its_key_is_hot = λ k fit. rw (net_is, own) (hot k fit);
        its_key_has_little_company = λ k row. rw (net_is, alone row) (omega (arith, ints));
      }
    where
      hot : (k : ℕ) → fit_level k ≡ true → pos weight <ℤ (pos weight *ℤ pos (k + 1))
      hot k fit =
          let one : 1 ≤ k = leb-true 1 k (and_parts _ _ fit).0 in
          let more : weight * 2 ≤ weight * (k + 1) = mul-le weight 2 weight (k + 1) (omega arith) (omega arith) in
          omega (arith, ints)

pub every_insert_meets_every_premise : {K : Type 0} (P : Plan K) → KindLaws P.kind → EveryInsertMeetsEveryPremise P
every_insert_meets_every_premise P laws i weight key some small = one_insert_meets_every_premise P laws i weight key some small

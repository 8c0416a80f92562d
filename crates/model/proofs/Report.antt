-- What the list of a report holds: which codes a group yields, and when a key's own group yields it.
use Rattle.std.proofs.Common.{◌≡◌, ℕ, zero, suc, ◌-◌, ◌<◌, ◌≤◌, Bool, true, false, cond, ◌&&◌, eqb, ltb, List, [], ℤ, pos, ◌<ℤ◌, is_some, Some, None, Option, refl, ap, arith}
use Rattle.std.proofs.lemmas.Int.{ints, clamps}
use Rattle.std.proofs.lemmas.Bool.{eq-eqb, lt-ltb, ltb-true, and_parts, and_from}
use Rattle.model.specs.Counting.{among, all_below, least_to}
use Rattle.model.specs.Plan.{Plan, PlanLaws, group_of}
use Rattle.model.specs.Board.{cell, count_in_row, estimated}
use Rattle.model.specs.Report.{decoded, kept, sifted, found, row_list, hot_list}
use Rattle.model.specs.NetCounts.{Net}
use Rattle.model.specs.Guarantee.{PlainCounts, Lists}
use Rattle.model.proofs.BoardOf.{cells_of}
use Rattle.model.proofs.PlainCounts.{plain, cell_is, rest, code_plain, count_is, signed_is}
use Rattle.model.proofs.Decoding.{all_pass, each_passes, decodes}
use Rattle.model.proofs.Listing.{steps_keep, steps_reach, among_has, with_code_has, with_code_keeps, SoundList, sound_empty, sound_with_code}

least_above : (m : ℕ) (z : ℤ) (f : ℕ → ℤ) → ((r : ℕ) → r ≤ m → z <ℤ f r) → z <ℤ least_to m f
unfolding least_to
least_above zero z f h = h 0 (omega arith)
least_above (suc m) z f h =
    let a : z <ℤ least_to m f = least_above m z f (λ r l. h r (omega arith)) in
    let b : z <ℤ f (suc m) = h (suc m) (omega arith) in
    omega (arith, ints, clamps)

some_key : {K : Type 0} (o : Option K) → is_some o ≡ true → (k : K) × (o ≡ Some k)
some_key None h = absurd (let w : ◌≡◌ {A = ℕ} 0 1 = cc in omega arith)
some_key (Some k) h = (k, refl)

three : (x y z : Bool) → (x && (y && z)) ≡ true → (x ≡ true) × (z ≡ true)
three x y z h = let p = and_parts x (y && z) h in (p.0, (and_parts y z p.1).1)

module _ {K : Type 0} (P : Plan K) where
  -- what a group's code is known to be
  pub record Known (b : List ℕ) (t c : ℕ) : Type 0 where
    pub key : (k : K) × (P.kind.key c ≡ Some k)
    pub counts : (i : ℕ) → i < P.groups.rows → t < count_in_row P b c i

  known : (b : List ℕ) (t r g c : ℕ) → found P b t r g ≡ Some c → Known b t c
  unfolding found
  known b t r g c e = outer (ltb t (cell P b r g 0)) (decoded t (cell P b r g) P.kind.bits) e
    where
      tells : kept P b t r g c ≡ true → Known b t c
      tells h =
          let p = three (is_some (P.kind.key c)) (eqb (group_of P r c) g) (all_below P.groups.rows (λ j. ltb t (count_in_row P b c j))) h in
          record { key = some_key (P.kind.key c) p.0; counts = λ i l. ltb-true t (count_in_row P b c i) (each_passes P.groups.rows (λ j. ltb t (count_in_row P b c j)) p.1 i l) }

      inner : (d : ℕ) (h : Bool) → kept P b t r g d ≡ h → cond h (Some d) None ≡ Some c → Known b t c
      inner d true a x = let s : d ≡ c = cc in tells (rw s at a)
      inner d false a x = absurd (let w : ◌≡◌ {A = ℕ} 0 1 = cc in omega arith)

      outer : (a : Bool) (o : Option ℕ) → cond a (sifted P b t r g o) None ≡ Some c → Known b t c
      outer false o x = absurd (let w : ◌≡◌ {A = ℕ} 0 1 = cc in omega arith)
      outer true None x = absurd (let w : ◌≡◌ {A = ℕ} 0 1 = cc in omega arith)
      outer true (Some d) x = inner d (kept P b t r g d) refl x

  pub sound_list : (b : List ℕ) (t : ℕ) → SoundList (Known b t) (hot_list P b t)
  unfolding hot_list row_list
  sound_list b t =
      steps_keep (SoundList (Known b t)) P.groups.rows _ []
      (λ out r _ h. steps_keep (SoundList (Known b t)) P.groups.width _ out (λ o g _ f. sound_with_code (Known b t) o (found P b t r g) (λ c e. known b t r g c e) f) h)
      (sound_empty (Known b t))

  listed : (b : List ℕ) (t r g c : ℕ) → r < P.groups.rows → g < P.groups.width → found P b t r g ≡ Some c → among (hot_list P b t) c ≡ true
  unfolding hot_list row_list
  listed b t r g c lr lg e =
      steps_reach (λ out. among out c ≡ true) P.groups.rows _ [] r lr
      (λ out. steps_reach (λ o. among o c ≡ true) P.groups.width _ out g lg
      (λ o. rw e (with_code_has o c)) (λ o i h. with_code_keeps o (found P b t r i) c h))
      (λ out i h. steps_keep (λ o. among o c ≡ true) P.groups.width _ out (λ o j _ m. with_code_keeps o (found P b t i j) c m) h)

  module _ (laws : PlanLaws P) (net : Net K) (n : ℕ) (plain_counts : PlainCounts P net n) where
    abbrev b : List ℕ
    b = cells_of P net

    finds : (k : K) (t r : ℕ) → r < P.groups.rows → t < plain P net (P.kind.code k) → rest P net n plain_counts (P.kind.code k) r ≤ t →
        found P b t r (group_of P r (P.kind.code k)) ≡ Some (P.kind.code k)
    unfolding found
    finds k t r lr hot low =
        let x : ℕ = P.kind.code k in
        let under : x < P.kind.codes = laws.kind_lawful.code_below_codes k in
        let g : ℕ = group_of P r x in
        let lg : g < P.groups.width = laws.groups_lawful.group_below_width r x in
        let c0 : t < cell P b r g 0 = omega (arith, count_is P net n plain_counts laws x r under lr) in
        let d : decoded t (cell P b r g) P.kind.bits ≡ Some x =
        decodes P P.kind.codes x t (λ c. eqb (group_of P r c) g) (plain P net) under (eq-eqb g g refl) hot low
        (cell P b r g) (λ l ll. cell_is P net n plain_counts r g l lr lg ll) (omega (arith, laws.kind_lawful.codes_fit_the_bits)) in
        let h : kept P b t r g x ≡ true =
        and_from _ _ (ap is_some (laws.kind_lawful.code_gives_its_key k)) (and_from _ _ (eq-eqb g g refl)
        (all_pass P.groups.rows _ (λ i li. lt-ltb t (count_in_row P b x i) (omega (arith, count_is P net n plain_counts laws x i under li))))) in
        rw (lt-ltb t (cell P b r g 0) c0, d, h) refl

    pub hot_plain : (k : K) (t : ℕ) → pos t <ℤ net k → t < plain P net (P.kind.code k)
    hot_plain k t h = let e = code_plain P net n plain_counts laws k in omega (arith, ints)

    stands_in : (k : K) (t : ℕ) → among (hot_list P b t) (P.kind.code k) ≡ true → Lists P (hot_list P b t) k
    stands_in k t m = among_has (hot_list P b t) (P.kind.code k) m

    pub low_listed : (k : K) (t r : ℕ) → r < P.groups.rows → pos t <ℤ net k → rest P net n plain_counts (P.kind.code k) r ≤ t → Lists P (hot_list P b t) k
    low_listed k t r lr hot low =
        stands_in k t (listed b t r (group_of P r (P.kind.code k)) (P.kind.code k) lr (laws.groups_lawful.group_below_width r (P.kind.code k))
        (finds k t r lr (hot_plain k t hot) low))

    pub over : (x : K) (t : ℕ) → ((i : ℕ) → i < P.groups.rows → t < count_in_row P b (P.kind.code x) i) → pos t <ℤ estimated P b (P.kind.code x)
    unfolding estimated
    over x t q =
        least_above (P.groups.rows - 1) (pos t) _
        (λ r l. let a : r < P.groups.rows = omega (arith, laws.groups_lawful.at_least_1_row) in
        rw (signed_is P net n plain_counts laws (P.kind.code x) r a) (let w = q r a in omega (arith, ints)))

-- The laws of the kind of pairs.
use Rattle.std.specs.Prelude.{◌≡◌, ℕ, ◌+◌, ◌*◌, ◌/◌, ◌%◌, Bool, true, false, ltb, Some, nat_lt, refl}
use Rattle.std.proofs.Common.{ap, arith, ltb-true, ltb-false}
use Rattle.std.proofs.Math.Bridge.{le_prop}
use Rattle.model.specs.Kind.{KindLaws}
use Rattle.keys.specs.Pair.{pair_if, pair, pair_kind}
use Rattle.keys.specs.declared.pair.Pair.{Pair}

given_back : (p : Pair) (s d : Bool) (hs : ltb p.source 1000 ≡ s) (hd : ltb p.destination 1000 ≡ d) → pair_if p.source p.destination s d hs hd ≡ Some p
given_back p true true hs hd =
    ap Some (λ i. record {
      source = p.source;
      destination = p.destination;
      source_below = le_prop (ltb-true _ _ hs) p.source_below i;
      destination_below = le_prop (ltb-true _ _ hd) p.destination_below i;
    })
given_back p true false hs hd = absurd (omega (arith, ltb-false _ _ hd))
given_back p false d hs hd = absurd (omega (arith, ltb-false _ _ hs))

-- a pair is the one of its regions
pub pair_of_regions : (p : Pair) → pair p.source p.destination ≡ Some p
pair_of_regions p = given_back p (nat_lt p.source 1000) (nat_lt p.destination 1000) refl refl

regions_of_pair : (s d : ℕ) (a b : Bool) (ha : ltb s 1000 ≡ a) (hb : ltb d 1000 ≡ b) (p : Pair) → pair_if s d a b ha hb ≡ Some p → (p.source ≡ s) × (p.destination ≡ d)
regions_of_pair s d true true ha hb p e = (cc, cc)
regions_of_pair s d true false ha hb p e = absurd (let z : ◌≡◌ {A = ℕ} 0 1 = cc in omega arith)
regions_of_pair s d false b ha hb p e = absurd (let z : ◌≡◌ {A = ℕ} 0 1 = cc in omega arith)

pub pair_laws : KindLaws pair_kind
pair_laws =
    record {
      bits_at_most_30 = omega arith;
      codes_fit_the_bits = omega arith;
      code_below_codes = λ p. omega arith;
      code_gives_its_key = λ p.
          let q : (1000 * p.source + p.destination) / 1000 ≡ p.source = omega arith in
          let m : (1000 * p.source + p.destination) % 1000 ≡ p.destination = omega arith in
          rw (q, m) (pair_of_regions p);
      key_has_its_code = λ n p e. let regions = regions_of_pair (n / 1000) (n % 1000) (nat_lt (n / 1000) 1000) (nat_lt (n % 1000) 1000) refl refl p e in omega arith;
    }

-- A range as two tests.
use Rattle.std.specs.Prelude.{◌≡◌, ℕ, ◌≤◌, Bool, true, false, ◌&&◌, nat_le, refl}
use borrow.Author.Tests.{leb-true, clash}

both : (a b : Bool) → (a && b) ≡ true → (a ≡ true) × (b ≡ true)
both true b h = (refl, h)
both false b h = absurd (clash h)

pub range_from_tests : (low high n : ℕ) → (nat_le low n && nat_le n high) ≡ true → (low ≤ n) × (n ≤ high)
range_from_tests low high n h = let t = both (nat_le low n) (nat_le n high) h in (leb-true low n t.0, leb-true n high t.1)

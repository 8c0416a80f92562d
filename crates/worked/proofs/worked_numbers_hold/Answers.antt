-- By computation.
use Rattle.std.proofs.Common.{refl}
use Rattle.model.specs.Polynomial.{digit_count, allowed_width}
use Rattle.worked.proofs.worked_numbers_hold.Goals as goal

pub returns : goal.returns
unfolding digit_count allowed_width
returns c =
    record {
      the_last_station_is_a_key = refl;
      the_number_after_it_is_refused = refl;
      pair_17_204_has_code_17204 = refl;
      sixteen_rows_are_accepted = (refl, refl);
      seventeen_rows_are_refused = (refl, refl);
      universal_group_of_10 = refl;
      universal_group_past_the_prime = refl;
      four_digits_below_a_million = refl;
      six_rows_have_spread_3 = refl;
      three_digits_below_a_thousand_million = refl;
      groups_of_17204 = refl;
      groups_of_400005 = refl;
    }

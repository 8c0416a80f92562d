-- The rows that two different codes of a text share.
use Rattle.std.proofs.Common.{◌≡◌, ℕ, ◌+◌, ◌<◌, ◌≤◌, Bool, true, false, cond, ◌||◌, T, eqb, ltb, List, [], ◌∷◌, ◌++◌, Ok, Err, Result, sym, refl, subst, lt_of_lt_of_le, eqb→eq, ltb-false}
use borrow.Author.Tests.{clash}
use Rattle.model.specs.Kind.{Kind, KindLaws}
use Rattle.model.specs.Counting.{among}
use Rattle.model.specs.Grouping.{Spread}
use Rattle.model.specs.Universal.{universal_span}
use Rattle.refusal.specs.declared.Refusal.{Refusal}
use Rattle.refusal.specs.declared.Refusal.TheVariants.{SpanBelowCodes}
use Rattle.keys.specs.Station.{station_kind}
use Rattle.keys.specs.StationLaws.{station_laws}
use Rattle.keys.specs.Pair.{pair_kind}
use Rattle.keys.specs.PairLaws.{pair_laws}
use Rattle.listing.specs.Text.{lines}
use Rattle.listing.specs.Typed.{station_line, pair_line}
use Rattle.listing.specs.Description.{code_read, codes_read, description}
use Rattle.planning.specs.declared.arguments.Chosen.{Chosen}
use Rattle.model.proofs.Spread.{spread_of_all_rows}
use Rattle.model.proofs.PolynomialLaw.{polynomial_spread_law}
use Rattle.groupings.specs.Universal.{universal_groups}
use Rattle.groupings.specs.PolynomialFitLemmas.{fit_parts}
use Rattle.planning.specs.Command.{chosen_groups, chosen_span, chosen_spread, RowsSharedWithinSpread}
use Rattle.planning.specs.declared.no_answer.NoAnswer.TheVariants.{Refused}
use Rattle.planning.specs.declared.arguments.Chosen.TheVariants.{ByDraws, ByDigits}

spread_law : (chosen : Chosen) → Spread (chosen_groups chosen) (chosen_span chosen) (chosen_spread chosen)
spread_law (ByDraws u) = spread_of_all_rows (universal_groups u) universal_span
spread_law (ByDigits p) =
    let parts = fit_parts p.rows p.width p.span p.fit in
    polynomial_spread_law p.rows p.width p.span parts.few_rows parts.a_width parts.small_span

module _ {K : Type 0} (kind : Kind K) (laws : KindLaws kind) (typed : ℕ → List ℕ → Result K Refusal) where
  codes_below : (line : ℕ) (texts : List (List ℕ)) (code : ℕ) → among (codes_read kind typed line texts) code ≡ true → code < kind.codes
  codes_below line [] code h = absurd (clash h)
  codes_below line (text ∷ texts) code h = go (typed line text) (codes_below (line + 1) texts code) h
    where
      first : (key : K) (v : Bool) → (T v → code ≡ kind.code key) → (among (codes_read kind typed (line + 1) texts) code ≡ true → code < kind.codes)
          → (v || among (codes_read kind typed (line + 1) texts) code) ≡ true → code < kind.codes
      first key true is rest t = subst (λ c. c < kind.codes) (sym (is tt)) (laws.code_below_codes key)
      first key false is rest t = rest t

      go : (r : Result K Refusal) → (among (codes_read kind typed (line + 1) texts) code ≡ true → code < kind.codes)
          → among (code_read kind r ++ codes_read kind typed (line + 1) texts) code ≡ true → code < kind.codes
      go (Ok key) rest t = first key (eqb code (kind.code key)) (eqb→eq code (kind.code key)) rest t
      go (Err refusal) rest t = rest t

  codes_within : (span : ℕ) (v : Bool) (x told : List ℕ) → (v ≡ false → kind.codes ≤ span) → cond v (Err (Refused SpanBelowCodes)) (Ok x) ≡ Ok told → kind.codes ≤ span
  codes_within span true x told within e = cc
  codes_within span false x told within e = within refl

  pub rows_shared_within_spread : (chosen : Chosen) (input : List ℕ) → RowsSharedWithinSpread kind typed chosen input
  unfolding RowsSharedWithinSpread
  rows_shared_within_spread chosen input told e code other hc ho ne =
      let wide = codes_within (chosen_span chosen) (ltb (chosen_span chosen) kind.codes) (description kind typed (chosen_groups chosen) (chosen_spread chosen) input) told (ltb-false (chosen_span chosen) kind.codes) e in
      (spread_law chosen).codes_share_few_rows code other
      (lt_of_lt_of_le (codes_below 1 (lines input) code hc) wide) (lt_of_lt_of_le (codes_below 1 (lines input) other ho) wide) ne

pub stations_share_within_spread : (chosen : Chosen) (input : List ℕ) → RowsSharedWithinSpread station_kind station_line chosen input
stations_share_within_spread = rows_shared_within_spread station_kind station_laws station_line

pub pairs_share_within_spread : (chosen : Chosen) (input : List ℕ) → RowsSharedWithinSpread pair_kind pair_line chosen input
pairs_share_within_spread = rows_shared_within_spread pair_kind pair_laws pair_line

-- What every service guarantees, said with net counts and company.
use Rattle.std.specs.Prelude.{◌≡◌, ℕ, ◌^◌, ◌<◌, ◌≤◌, true, ◌≢◌, List, [], ◌∷◌, length, pos, ◌+ℤ◌, ◌≤ℤ◌, is_ok, Ok, Decides, slice_index}
use Rattle.model.specs.Plan.{Plan}
use Rattle.model.specs.Board.{Board, estimate_outcome, estimated}
use Rattle.model.specs.Level.{fit_level, threshold, Above, AtMost, RowsEnough, room}
use Rattle.model.specs.Report.{report_outcome, hot_list}
use Rattle.model.specs.Service.{board, Call, insert_call, IsService, served}
use Rattle.model.specs.NetCounts.{Net, net_counts, net_total, company, least_company}

module _ {K : Type 0} (P : Plan K) where
  -- no net count is negative, and their sum is n, below 2^63
  pub record PlainCounts (net : Net K) (n : ℕ) : Type 0 where
    pub none_negative : (key : K) → pos 0 ≤ℤ net key
    pub sum_is : net_total P net ≡ pos n
    pub sum_below_2_63 : n < 2 ^ 63

  -- a key's code stands in a list
  abbrev pub Lists : List ℕ → K → Type 0
  Lists list key = (i : ℕ) × (i < length list) × (slice_index list i ≡ P.kind.code key)

  -- equal totals and cells, and equal answers to equal questions
  pub record EqualBoards (b other : Board) : Type 0 where
    pub equal_totals : b.total ≡ other.total
    pub equal_cells : b.cells ≡ other.cells
    pub equal_estimates : (key : K) → estimate_outcome P b key ≡ estimate_outcome P other key
    pub equal_reports : (k places : ℕ) → report_outcome P b k places ≡ report_outcome P other k places

  -- a report's list of level k, the board's net counts adding up to n
  pub record TrueReport (spread : ℕ) (net : Net K) (b : Board) (n k : ℕ) (list : List ℕ) : Type 0 where
    pub it_is_the_list_of_the_rules : list ≡ hot_list P b.cells (threshold n k)
    pub nothing_but_keys_is_listed : (i : ℕ) → i < length list → (key : K) × (slice_index list i ≡ P.kind.code key)
    pub no_key_is_listed_twice : (i j : ℕ) → i < j → j < length list → slice_index list i ≢ slice_index list j
    pub no_cold_key_is_listed : (key : K) → AtMost n k (estimated P b.cells (P.kind.code key)) → Lists list key → ⊥
    pub hot_keys_with_little_company_in_some_row_are_listed :
        (key : K) (row : ℕ) → row < P.groups.rows → Above n k (net key) → AtMost n k (company P net key row) → Lists list key
    pub with_rows_enough_every_hot_key_is_listed :
        RowsEnough P.groups.rows spread k → (key : K) → Above n k (net key) → Lists list key

  -- of the boards at one moment, with their net counts
  pub record Guarantee (spread : ℕ) (boards : ℕ → Board) (nets : ℕ → Net K) : Type 0 where
    pub equal_net_counts_give_equal_boards :
        (i j : ℕ) → ((key : K) → nets i key ≡ nets j key) → EqualBoards (boards i) (boards j)
    pub estimates_are_net_count_plus_least_company :
        (i n : ℕ) → PlainCounts (nets i) n → (key : K) →
        estimate_outcome P (boards i) key ≡ Ok (nets i key +ℤ least_company P (nets i) key)
    pub reports_are_accepted_just_when_level_and_list_are_fit :
        (i n : ℕ) → PlainCounts (nets i) n → (k places : ℕ) →
        Decides (is_ok (report_outcome P (boards i) k places)) ((fit_level k ≡ true) × (room P.groups k ≤ places))
    pub reports_are_complete_and_without_duplicates_and_cold_keys :
        (i n : ℕ) → PlainCounts (nets i) n → (k places : ℕ) (list : List ℕ) →
        report_outcome P (boards i) k places ≡ Ok list → TrueReport spread (nets i) (boards i) n k list

  -- at every moment of every service
  abbrev pub EveryServiceIsGuaranteed : ℕ → Type 0
  EveryServiceIsGuaranteed spread = (calls : List (Call K)) → IsService P calls → Guarantee spread (served P calls) (net_counts P calls)

  -- one insert, the only call of a service on board i
  abbrev pub one_insert : (i weight : ℕ) → K → List (Call K)
  one_insert i weight key = insert_call (board i) key weight ∷ []

  -- none of the premises is empty: that is a service, its board has plain counts, and at every fit level its key is hot
  -- and has little company in every row
  pub record OneInsertMeetsEveryPremise (i weight : ℕ) (key : K) : Type 0 where
    pub it_is_a_service : IsService P (one_insert i weight key)
    pub its_counts_are_plain : PlainCounts (net_counts P (one_insert i weight key) i) weight
    pub its_key_is_hot : (k : ℕ) → fit_level k ≡ true → Above weight k (net_counts P (one_insert i weight key) i key)
    pub its_key_has_little_company :
        (k row : ℕ) → AtMost weight k (company P (net_counts P (one_insert i weight key) i) key row)

  abbrev pub EveryInsertMeetsEveryPremise : Type 0
  EveryInsertMeetsEveryPremise = (i weight : ℕ) (key : K) → 1 ≤ weight → weight < 2 ^ 32 → OneInsertMeetsEveryPremise i weight key

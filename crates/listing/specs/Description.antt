-- All that the planner's tool says of a text of keys.
use Rattle.std.specs.Prelude.{◌≡◌, ℕ, ◌+◌, false, cond, List, [], ◌∷◌, ◌++◌, length, flat_map, Ok, Err, Result}
use Rattle.model.specs.Counting.{among}
use Rattle.model.specs.Kind.{Kind}
use Rattle.model.specs.Grouping.{Groups}
use Rattle.refusal.specs.declared.Refusal.{Refusal}
use Rattle.listing.specs.Text.{lines}
use Rattle.listing.specs.Sentences.{key_sentence, shared_sentence, refused_sentence, closing_sentence}

module _ (g : Groups) (spread : ℕ) where
  -- how a code shares rows with each of others
  abbrev pub shared_with : ℕ → List ℕ → List ℕ
  shared_with code others = flat_map (shared_sentence g spread code) others

  -- how every two of the codes share rows
  abbrev pub all_shared : List ℕ → List ℕ
  all_shared [] = []
  all_shared (code ∷ others) = shared_with code others ++ all_shared others

-- the code, unless it has been seen
abbrev pub new_code : List ℕ → ℕ → List ℕ
new_code seen code = cond (among seen code) [] (code ∷ [])

-- the codes that have not been seen, each once
abbrev pub new_codes : List ℕ → List ℕ → List ℕ
new_codes seen [] = []
new_codes seen (code ∷ codes) = new_code seen code ++ new_codes (seen ++ new_code seen code) codes

-- each code once, where it stands first
abbrev pub distinct : List ℕ → List ℕ
distinct codes = new_codes [] codes

-- no code stands twice
abbrev pub NoneTwice : List ℕ → Type 0
NoneTwice [] = Unit {0}
NoneTwice (code ∷ codes) = (among codes code ≡ false) × NoneTwice codes

-- a list has just the codes of another, and none twice
pub record EachOnce (codes once : List ℕ) : Type 0 where
  pub same_codes : (code : ℕ) → among once code ≡ among codes code
  pub none_twice : NoneTwice once

module _ {K : Type 0} (kind : Kind K) where
  -- the code of the key that a line has, if it has one
  abbrev pub code_read : Result K Refusal → List ℕ
  code_read (Ok key) = kind.code key ∷ []
  code_read (Err refusal) = []

  -- what is said of a line of this number
  abbrev pub line_said : Groups → ℕ → Result K Refusal → List ℕ
  line_said g line (Ok key) = key_sentence g (kind.code key)
  line_said g line (Err refusal) = refused_sentence line refusal

abbrev pub one_if_refused : {K : Type 0} → Result K Refusal → ℕ
one_if_refused (Ok key) = 0
one_if_refused (Err refusal) = 1

-- of lines from one of this number on
module _ {K : Type 0} (kind : Kind K) (typed : ℕ → List ℕ → Result K Refusal) where
  abbrev pub codes_read : ℕ → List (List ℕ) → List ℕ
  codes_read line [] = []
  codes_read line (text ∷ texts) = code_read kind (typed line text) ++ codes_read (line + 1) texts

  abbrev pub lines_refused : ℕ → List (List ℕ) → ℕ
  lines_refused line [] = 0
  lines_refused line (text ∷ texts) = one_if_refused (typed line text) + lines_refused (line + 1) texts

  module _ (g : Groups) where
    abbrev pub lines_said : ℕ → List (List ℕ) → List ℕ
    lines_said line [] = []
    lines_said line (text ∷ texts) = line_said kind g line (typed line text) ++ lines_said (line + 1) texts

    -- of each line, of every two keys, and how many keys and refused lines there were
    abbrev pub description : ℕ → List ℕ → List ℕ
    description spread text =
        lines_said 1 (lines text)
        ++ (all_shared g spread (distinct (codes_read 1 (lines text)))
        ++ closing_sentence (length (codes_read 1 (lines text))) (lines_refused 1 (lines text)))

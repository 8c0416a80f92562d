-- Numbers in a list, sums and counts over the numbers below a bound, and the first or least that passes a test.
use Rattle.std.specs.Prelude.{ℕ, zero, suc, ◌+◌, Bool, true, false, cond, ◌&&◌, ◌||◌, List, [], ◌∷◌, ℤ, pos, ◌+ℤ◌, Some, None, Option, ◌==◌}
use Rattle.std.specs.Int.{int_min}

-- whether a number stands in a list
abbrev pub among : List ℕ → ℕ → Bool
among [] n = false
among (x ∷ xs) n = n == x || among xs n

-- f 0 + f 1 + .. + f (n - 1)
abbrev pub sum_below : ℕ → (ℕ → ℕ) → ℕ
sum_below zero f = 0
sum_below (suc n) f = sum_below n f + f n

-- how many numbers below n pass the test
abbrev pub count_below : ℕ → (ℕ → Bool) → ℕ
count_below zero test = 0
count_below (suc n) test = count_below n test + cond (test n) 1 0

-- the least number from `start` on that passes the test, or `start + steps` where none before that does
abbrev pub least_from : (steps start : ℕ) → (ℕ → Bool) → ℕ
least_from zero start test = start
least_from (suc steps) start test = cond (test start) start (least_from steps (suc start) test)

-- the sum of f over the numbers below n that pass the test
abbrev pub sum_where : ℕ → (ℕ → Bool) → (ℕ → ℕ) → ℕ
sum_where n test f = sum_below n (λ i. cond (test i) (f i) 0)

-- whether all numbers below n pass the test
unfoldable pub all_below : ℕ → (ℕ → Bool) → Bool
all_below zero test = true
all_below (suc n) test = all_below n test && test n

-- the first answer where there is one, otherwise the second
abbrev pub or_else : {A : Type 0} → Option A → Option A → Option A
or_else None second = second
or_else (Some a) second = Some a

-- the first answer that f 0, .., f (n - 1) give
unfoldable pub first_below : {A : Type 0} → ℕ → (ℕ → Option A) → Option A
first_below zero f = None
first_below (suc n) f = or_else (first_below n f) (f n)

-- a, taken through the steps 0 to n - 1
unfoldable pub steps_below : {A : Type 0} → ℕ → (A → ℕ → A) → A → A
steps_below zero step a = a
steps_below (suc n) step a = step (steps_below n step a) n

-- f 0 + .. + f (n - 1) over integers; n may be a thousand million, so this does not compute by itself
unfoldable pub integer_sum : ℕ → (ℕ → ℤ) → ℤ
integer_sum zero f = pos 0
integer_sum (suc n) f = integer_sum n f +ℤ f n

-- the same over the numbers below n that pass the test
abbrev pub integer_sum_where : ℕ → (ℕ → Bool) → (ℕ → ℤ) → ℤ
integer_sum_where n test f = integer_sum n (λ i. cond (test i) (f i) (pos 0))

-- the least of f 0, .., f n
unfoldable pub least_to : ℕ → (ℕ → ℤ) → ℤ
least_to zero f = f 0
least_to (suc n) f = int_min (least_to n f) (f (suc n))

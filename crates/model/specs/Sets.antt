-- Sets of nodes, as tests on node numbers, and functions of nodes. A node is document 01's stand.
use Rattle.std.specs.Prelude.{ℕ, zero, suc, ◌+◌, ◌/◌, ◌%◌, ◌^◌, Bool, true, false, not, ◌&&◌, ◌||◌, List, [], ◌∷◌, ◌++◌, get_or, eqb, if◌then◌else◌, cond}

-- "a stand or 64 for none"
abbrev pub none_node : ℕ
none_node = 64

abbrev pub Set : Type 0
Set = ℕ → Bool

abbrev pub empty : Set
empty y = false

abbrev pub with : Set → ℕ → Set
with S x y = S y || eqb y x

abbrev pub without : Set → ℕ → Set
without S x y = S y && not (eqb y x)

abbrev pub union : Set → Set → Set
union S R y = S y || R y

-- f, but v at x
abbrev pub put {ℓ} : {A : Type ℓ} → (ℕ → A) → ℕ → A → ℕ → A
put f x v y = cond (eqb y x) v (f y)

-- every number below n passes the test
unfoldable pub all : ℕ → Set → Bool
all zero S = true
all (suc n) S = all n S && S n

-- some number below n passes the test
unfoldable pub some : ℕ → Set → Bool
some zero S = false
some (suc n) S = some n S || S n

-- how many members are below n
unfoldable pub count : ℕ → Set → ℕ
count zero S = 0
count (suc n) S = count n S + (if S n then 1 else 0)

-- the members below n, in rising order
unfoldable pub members : ℕ → Set → List ℕ
members zero S = []
members (suc n) S = members n S ++ (if S n then n ∷ [] else [])

-- the lowest member below n, or 64
abbrev pub lowest : ℕ → Set → ℕ
lowest n S = get_or (members n S) 0 none_node

-- the set as a number of k bits, "bit s for stand s"
unfoldable pub to_bits : ℕ → Set → ℕ
to_bits zero S = 0
to_bits (suc k) S = to_bits k S + (if S k then 2 ^ k else 0)

-- the set that a number's bits are
abbrev pub of_bits : ℕ → Set
of_bits w y = eqb (w / 2 ^ y % 2) 1

-- f i, f (i + 1), .., k of them
unfoldable pub tabulate_from {ℓ} : {A : Type ℓ} → ℕ → ℕ → (ℕ → A) → List A
tabulate_from i zero f = []
tabulate_from i (suc k) f = f i ∷ tabulate_from (suc i) k f

-- f 0, f 1, .., k of them
abbrev pub tabulate {ℓ} : {A : Type ℓ} → ℕ → (ℕ → A) → List A
tabulate k f = tabulate_from 0 k f

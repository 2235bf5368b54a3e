-- Document 01, "What the product covers" and "Sizes". Runs and columns are numbered from 0.
use Rattle.std.specs.Prelude.{List, ℕ, ◌+◌, ◌*◌, ◌/◌, ltb, length, get_or}
use Rattle.exact.specs.Lists.{from, keep}

-- a plan is a list of levels and a run table, run after run
pub record Plan : Type 0 where
  pub levels : List ℕ
  pub table : List ℕ

abbrev pub plan : List ℕ → List ℕ → Plan
plan levels table = record { levels = levels; table = table }

-- m
abbrev pub columns : Plan → ℕ
columns p = length p.levels

-- n
abbrev pub runs : Plan → ℕ
runs p = length p.table / columns p

-- s_i, the level of column i
abbrev pub level : Plan → ℕ → ℕ
level p i = get_or p.levels i 0

-- the entry of run f in column i
abbrev pub entry : Plan → ℕ → ℕ → ℕ
entry p f i = get_or p.table (f * columns p + i) 0

-- the numbers of all columns, and of all runs
abbrev pub every_column : Plan → List ℕ
every_column p = from 0 (columns p)

abbrev pub every_run : Plan → List ℕ
every_run p = from 0 (runs p)

-- the columns of more than one level, in their order; s is the level of each
abbrev pub several : {C : Type 0} → (C → ℕ) → List C → List C
several s cols = keep (λ i. ltb 1 (s i)) cols

-- the sizes: 1 to 24 columns, 1 to 256 runs, so at most 24 times 256 entries, levels 1 to 16 (by request #102), their product, bytes of
-- plan text
abbrev pub most_columns : ℕ
most_columns = 24

abbrev pub most_runs : ℕ
most_runs = 256

abbrev pub lowest_level : ℕ
lowest_level = 1

abbrev pub highest_level : ℕ
highest_level = 16

abbrev pub most_entries : ℕ
most_entries = 6_144

abbrev pub highest_product : ℕ
highest_product = 2_000_000_000

abbrev pub longest_text : ℕ
longest_text = 32_768

-- The steps of two columns in 27 lanes at once, and whether their two orders agree. They are told where each row's answers are value numbers.
use Rattle.std.specs.Prelude.{ℕ, ◌+◌, ◌*◌, ◌/◌, ◌%◌, ◌<◌, ◌≡◌, Bool, true, false, cond, List, [], eqb, get_or}
use Rattle.std.specs.Int.Bits.{bit_and}
use Rattle.table.specs.Table.{Table}
use Rattle.memo.specs.declared.Memo.{Memo}
use Rattle.memo.specs.Rows.{cells, cell_at, Small}
use Rattle.memo.specs.Pair.{first_then, second_then}
use Rattle.memo.specs.Outputs.{Low, Outputs}
use Rattle.planes.specs.Words.{Told}
use Rattle.planes.specs.Planes.{lane_rows, answer_in, answered, or_x}

-- the rows that match in lane l, and in column h with its value number w
unfoldable pub besides : List (List ℕ) → List ℕ → ℕ → ℕ → ℕ → ℕ → ℕ
besides s g h r w l = bit_and (bit_and r (lane_rows g l)) (cell_at s h w)

-- where the planes of column c at value number u and column h at w stand: by c first, or by h
unfoldable pub place_of : Bool → ℕ → ℕ → ℕ
place_of turned u w = cond turned (w * 3 + u) (u * 3 + w)

-- the rows of r where column h has the value number w, the old output is o, and c is offered to column k
unfoldable pub rows_by : Memo → ℕ → ℕ → ℕ → ℕ → ℕ → ℕ → ℕ
rows_by memo h k r w o c = bit_and (bit_and (bit_and r (cell_at memo.cells h w)) (cell_at memo.cells memo.inputs o)) (cell_at memo.cells k c)

-- what the level rows answer in lane l where column c has the value number u and column h has w
unfoldable pub level_of : Memo → List ℕ → ℕ → ℕ → ℕ → ℕ → ℕ → ℕ → ℕ → ℕ
level_of memo g c h r u w o l =
    answer_in memo.outputs o (bit_and (bit_and (besides memo.cells g h r w l) (cell_at memo.cells memo.inputs o)) (cell_at memo.cells c u))

-- what the level rows answer where column i has the value number x and column j has y, in place k
pub record Level (memo : Memo) (g : List ℕ) (i j r k : ℕ) (p : List ℕ) : Type 0 where
  pub told : Low memo.outputs →
      Told 4 p (λ (l : ℕ). answer_in memo.outputs (k % 3) (bit_and (rows_by memo j i r (k / 3 % 3) (k % 3) (k / 9)) (lane_rows g l)))

-- what the level rows answer
pub record Levels (memo : Memo) (g : List ℕ) (c h : ℕ) (turned : Bool) (r : ℕ) (f : List (List ℕ)) : Type 0 where
  pub at : Low memo.outputs → (u w o : ℕ) → u < 3 → w < 3 → o < 3 → Told 4 (get_or f (place_of turned u w * 3 + o) []) (level_of memo g c h r u w o)

-- where the steps of column c from a to u stand, with column h at w: one for each old output
abbrev pub steps_at : ℕ → ℕ → ℕ → ℕ
steps_at u w a = ((u * 3 + w) * 3 + a) * 3

-- what column c gives in lane l when it goes from a to u, with column h at w and old output o: the level rows come first, then those with an edge
unfoldable pub enter_of : Memo → List ℕ → ℕ → ℕ → ℕ → ℕ → ℕ → ℕ → ℕ → ℕ → ℕ
enter_of memo g c h r u w a o l = or_x (answered memo.outputs g o (rows_by memo h c r w o (3 + (a * 3 + u))) (level_of memo g c h r u w o) l)

-- the step for old output o, where k stands for u, w and a
pub record Step (memo : Memo) (g : List ℕ) (c h r k o : ℕ) (p : List ℕ) : Type 0 where
  pub told : Low memo.outputs → eqb (k % 3) (k / 9) ≡ false → Told 3 p (enter_of memo g c h r (k / 9) (k / 3 % 3) (k % 3) o)

-- the steps of column c
pub record Steps (memo : Memo) (g : List ℕ) (c h r : ℕ) (f : List (List ℕ)) : Type 0 where
  pub at : Low memo.outputs → (u w a o : ℕ) → u < 3 → w < 3 → a < 3 → o < 3 → eqb a u ≡ false →
      Told 3 (get_or f (steps_at u w a + o) []) (enter_of memo g c h r u w a o)

-- the two orders of columns i and j agree, where `rest` are the rows that match in the other columns
pub record Agree (t : Table) (s : List (List ℕ)) (i j rest : ℕ) : Type 0 where
  pub same : (a b x y o : ℕ) → a < 3 → b < 3 → x < 3 → y < 3 → o < 3 → first_then t s i j rest a b x y o ≡ second_then t s i j rest a b x y o

-- the memo has the masks and outputs of table t, and i and j are two of its columns
pub record Given (t : Table) (memo : Memo) (i j : ℕ) : Type 0 where
  pub small : Small t
  pub cells_are : memo.cells ≡ cells t
  pub outputs : Outputs t memo.outputs
  pub inputs_are : memo.inputs ≡ t.inputs
  pub first : i < memo.inputs
  pub second : j < memo.inputs

-- for the table that the memo is of, the two orders agree in every lane where the rows r match in the columns that the lanes leave
pub record LanesAgree (memo : Memo) (g : List ℕ) (i j r : ℕ) : Type 0 where
  pub at : (t : Table) (l : ℕ) → l < 27 → Given t memo i j → Agree t memo.cells i j (bit_and r (lane_rows g l))

-- b tells whether they do
pub record LanesTell (memo : Memo) (g : List ℕ) (i j r : ℕ) (b : Bool) : Type 0 where
  pub sound : b ≡ true → LanesAgree memo g i j r
  pub whole : (t : Table) → Given t memo i j → ((l : ℕ) → l < 27 → Agree t memo.cells i j (bit_and r (lane_rows g l))) → b ≡ true

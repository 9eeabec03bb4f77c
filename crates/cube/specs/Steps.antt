-- The steps of one column in every lane at once, and the two orders of two columns.
use Rattle.std.specs.Prelude.{ℕ, suc, ◌+◌, ◌-◌, ◌*◌, ◌/◌, ◌%◌, ◌<◌, ◌≡◌, Bool, cond, List, [], eqb, get_or}
use Rattle.std.specs.Int.Bits.{bit_and}
use Rattle.base.specs.Search.{every}
use Rattle.table.specs.Table.{Table}
use Rattle.orders.specs.Digits.{digit_of}
use Rattle.memo.specs.declared.Memo.{Memo}
use Rattle.memo.specs.Memo.{MemoOf}
use Rattle.memo.specs.Outputs.{Low}
use Rattle.memo.specs.Rows.{cell_at, rest_of, entry_of}
use Rattle.planes.specs.Words.{bit, Told}
use Rattle.planes.specs.Planes.{answer_in, answered, or_x}
use Rattle.cube.specs.Lanes.{put_by}

-- for old output o and every column k, the words tell what the level rows answer
pub record Levels (memo : Memo) (levels : List (List ℕ)) : Type 0 where
  pub at : (t : Table) → MemoOf t memo → (k o : ℕ) → k < memo.inputs → o < 3 →
      Told 4 (get_or levels o [])
      (λ (l : ℕ). answer_in memo.outputs o
      (bit_and (bit_and (rest_of memo.cells memo.all k memo.inputs l) (cell_at memo.cells memo.inputs o))
      (cell_at memo.cells k (digit_of l (memo.inputs - suc k)))))

-- where lane l is in `still` the words tell o, else what they told
pub record Stays (p : List ℕ) (o still : ℕ) (r : List ℕ) : Type 0 where
  pub told : (f : ℕ → ℕ) → Told 4 p f → Told 4 r (λ (l : ℕ). cond (bit still l) o (f l))

-- the same, and then a lane with no answer gets that of the set's lowest row, or x
pub record Step (outs g : List ℕ) (o set still : ℕ) (p r : List ℕ) : Type 0 where
  pub told : Low outs → (f : ℕ → ℕ) → Told 4 p f → Told 3 r (λ (l : ℕ). or_x (answered outs g o set (λ (l : ℕ). cond (bit still l) o (f l)) l))

-- three words for each value a that a column comes from and each old output o tell what f gives
pub record Tell (p : List (List ℕ)) (f : ℕ → ℕ → ℕ → ℕ) : Type 0 where
  pub at : (a o : ℕ) → a < 3 → o < 3 → Told 3 (get_or p (a * 3 + o) []) (f a o)
  pub low : (a o l : ℕ) → o < 3 → f a o l < 3

-- what column i gives in lane l, where it comes from a and the old output is o
abbrev pub step_in : Table → Memo → ℕ → ℕ → ℕ → ℕ → ℕ
step_in t memo i a o l = entry_of t memo.cells i (rest_of memo.cells memo.all i memo.inputs l) (digit_of l (memo.inputs - suc i)) a o

-- the steps of column i
pub record Steps (memo : Memo) (i : ℕ) (p : List (List ℕ)) : Type 0 where
  pub tell : (t : Table) → MemoOf t memo → Tell p (step_in t memo i)

-- both orders give the same in lane l; f are the steps of the column of weight v, which comes from a, and h those of the column of weight w, which comes from b
unfoldable pub same_in : (ℕ → ℕ → ℕ → ℕ) → (ℕ → ℕ → ℕ → ℕ) → ℕ → ℕ → ℕ → ℕ → ℕ → ℕ → Bool
same_in f h v w a b o l = eqb (h b (f a o (put_by w b l)) l) (f a (h b o (put_by v a l)) l)

-- r has no lane where they do in every lane, and only there
pub record Differ (p q : List (List ℕ)) (v w a b o r : ℕ) : Type 0 where
  pub at : (f h : ℕ → ℕ → ℕ → ℕ) → Tell p f → Tell q h → eqb (bit_and r 134217727) 0 ≡ every 27 (same_in f h v w a b o)

-- r tells whether both orders give the same in every lane, wherever the columns come from and whatever the old output
pub record Same (p q : List (List ℕ)) (v w : ℕ) (r : Bool) : Type 0 where
  pub is : (f h : ℕ → ℕ → ℕ → ℕ) → Tell p f → Tell q h → r ≡ every 27 (λ (k : ℕ). every 27 (same_in f h v w (k / 9) (k / 3 % 3) (k % 3)))

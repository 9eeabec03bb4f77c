-- The book's file, what an append leaves, and what a cut leaves. A line is given by its bytes without the LF.
use Rattle.std.specs.Prelude.{◌≡◌, List, [], ◌∷◌, ◌++◌, cond, ℕ, zero, suc, ◌+◌, ◌-◌, ◌≤◌, ◌<◌, max, eqb, length, get_or, take, drop}

abbrev pub LF : ℕ
LF = 10

-- the length up to and including the last LF: 0 where there is none
abbrev pub up : ℕ → ℕ → ℕ
up h zero = h
up h (suc m) = suc (suc m)

abbrev pub good : List ℕ → ℕ
good [] = 0
good (x ∷ l) = up (cond {A = ℕ} (eqb x LF) 1 0) (good l)

-- a whole append of the line b: its bytes at the good length, and what lay behind them
abbrev pub whole : List ℕ → List ℕ → List ℕ
whole f b = take (good f) f ++ (b ++ (LF ∷ drop (good f + suc (length b)) f))

-- A place k of the file after a cut that came before the LF was held: its earlier byte, if it lay within the old length;
-- in the entry also its new byte, never the LF; or zero.
pub data Place (f b : List ℕ) (k y : ℕ) : Type 0 where
  kept : k < length f → y ≡ get_or f k 0 → Place f b k y
  new : good f ≤ k → k < good f + length b → y ≡ get_or b (k - good f) 0 → Place f b k y
  zeroed : good f ≤ k → k < good f + suc (length b) → y ≡ 0 → Place f b k y

-- the file ends anywhere from its old end to the larger of that and the entry's end
pub record Cut (f b g : List ℕ) : Type 0 where
  pub from : length f ≤ length g
  pub to : length g ≤ max (length f) (good f + suc (length b))
  pub place : (k : ℕ) → k < length g → Place f b k (get_or g k 0)

-- A search by vectors, then by the 27 cases of a vector. Assumes nothing.
use Prim.Native.Nat.{ℕ, ◌+◌, ◌-◌, ◌*◌, ◌/◌, ◌%◌, ◌^◌, ◌<◌, ◌≤◌}
use mathlib.Core.Path.{◌≡◌, ◌∙◌}
use mathlib.Core.Logic.{⊎_elim}
use mathlib.Core.Bool.{Bool, false}
use mathlib.Core.List.{List}
use native.Mathlib.Numerals.{add-one}
use native.Mathlib.Omega.{arith}
use Rattle.std.specs.Prelude.{Option, Some, None}
use Rattle.base.specs.Search.{first}
use Rattle.base.proofs.Bools.{lt_or_ge}
use Rattle.base.proofs.Search.{first_below, first_holds}
use Rattle.table.specs.Table.{Table}
use Rattle.orders.specs.Verdict.{candidates}
use Rattle.orders.proofs.Digits.{power_pos}
use Rattle.memo.specs.Pair.{others_of, first_then}
use Rattle.memo.specs.declared.Memo.{Memo}
use Rattle.memo.specs.Memo.{MemoOf}
use Rattle.pair.proofs.Options.{some_is, none_is, found_below}
use Rattle.pair.specs.Search.{found, differs_by, differs_in, weight, differs_at, first_at, output_at}

module _ (t : Table) (s : List (List ℕ)) (all n i j wi wj : ℕ) where
  abbrev g : ℕ → Bool
  g = differs_in t s all n i j wi wj

  -- the cases of vector v
  abbrev h : ℕ → ℕ → Bool
  h v = differs_by t s i j (others_of s all i j n v) (v / wi % 3) (v / wj % 3)

  below_cases : (v : ℕ) → ((r : ℕ) → r < v * 27 → g r ≡ false) → (c : ℕ) → c ≤ first 27 (h v) → c ≤ 27 → (r : ℕ) → r < v * 27 + c → g r ≡ false
  unfolding differs_in
  below_cases v below c lc l27 r lr = ⊎_elim (below r) here (lt_or_ge r (v * 27))
    where
      here : v * 27 ≤ r → g r ≡ false
      here ge =
          let a : r / 27 ≡ v = omega arith in
          let b : r % 27 < first 27 (h v) = omega arith in
          rw a (first_below (h v) 27 (r % 27) b)

  pub found_case : (q v c : ℕ) → v < q → ((r : ℕ) → r < v * 27 → g r ≡ false) → Some c ≡ found 27 (first 27 (h v)) →
      Some (v * 27 + c) ≡ found (q * 27) (first (q * 27) g)
  unfolding differs_in
  found_case q v c lv before ec =
      let p = some_is 27 (first 27 (h v)) c ec in
      let a : (v * 27 + c) / 27 ≡ v = omega arith in
      let b : (v * 27 + c) % 27 ≡ c = omega arith in
      found_below g (q * 27) (v * 27 + c) (omega arith) (below_cases v before c (omega arith) (omega arith)) (rw (a, b, p.0) (first_holds (h v) 27 p.1))

  pub next_vector : (v : ℕ) → ((r : ℕ) → r < v * 27 → g r ≡ false) → None ≡ found 27 (first 27 (h v)) → (r : ℕ) → r < (v + 1) * 27 → g r ≡ false
  next_vector v before e r lr = below_cases v before 27 (none_is 27 (first 27 (h v)) e) (omega arith) r (omega arith)

-- ---- the weights

pub weight_some : (n i w : ℕ) → w ≡ 3 ^ (n - (i + 1)) → 0 < w
weight_some n i w e = rw e (power_pos (n - (i + 1)))

weight_is : (t : Table) (n i w : ℕ) → n ≡ t.inputs → w ≡ 3 ^ (n - (i + 1)) → w ≡ weight t i
weight_is t n i w en e = e ∙ rw (en, add-one i)

module _ (t : Table) (memo : Memo) (M : MemoOf t memo) (i j wi wj : ℕ) (ei : wi ≡ 3 ^ (memo.inputs - (i + 1))) (ej : wj ≡ 3 ^ (memo.inputs - (j + 1))) where
  pub first_at_lem : (q : ℕ) (r : Option ℕ) → q ≡ 3 ^ memo.inputs →
      r ≡ found (q * 27) (first (q * 27) (differs_in t memo.cells memo.all memo.inputs i j wi wj)) →
      r ≡ found (candidates t.inputs) (first_at t i j)
  unfolding first_at differs_at
  first_at_lem q r eq e = rw (
    eq,
    weight_is t memo.inputs i wi M.inputs_are ei,
    weight_is t memo.inputs j wj M.inputs_are ej,
    M.cells_are,
    M.all_are,
    M.inputs_are,
  ) at e

  pub output_is : (v x y o rest r : ℕ) → rest ≡ others_of memo.cells memo.all i j memo.inputs v →
      r ≡ first_then t memo.cells i j rest (v / wi % 3) (v / wj % 3) x y o → r ≡ output_at t i j v x y o
  unfolding output_at
  output_is v x y o rest r er e =
      rw (er, weight_is t memo.inputs i wi M.inputs_are ei, weight_is t memo.inputs j wj M.inputs_are ej, M.cells_are, M.all_are, M.inputs_are) at e

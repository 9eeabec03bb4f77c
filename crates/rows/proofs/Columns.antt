-- A row's columns, and the row behind them. Assumes nothing.
use mathlib.Core.Path.{◌≡◌, refl, sym, ◌∙◌}
use mathlib.Core.List.{List, [], ◌∷◌, ◌++◌}
use mathlib.Core.Bool.{Bool, not, ◌&&◌}
use Prim.Native.Nat.{ℕ, suc, ◌+◌, ◌-◌, ◌≤◌, ◌<◌}
use native.Mathlib.Numerals.{add-one}
use native.Mathlib.Omega.{arith}
use lib.ListN.{length, set, take, drop}
use lib.Seq.{take-suc-set}
use Rattle.std.specs.Prelude.{Result, Ok, Err, IsErrAnd}
use Rattle.refusal.specs.declared.Refusal.{Refusal}
use Rattle.symbol.specs.declared.Symbol.{Symbol}
use Rattle.symbol.specs.Match.{is_edge}
use Rattle.table.specs.Table.{Row}
use Rattle.text.specs.Bytes.{is}
use Rattle.text.specs.Reader.{Reader, bind, ◌>>=◌, give, skip, here, ahead, check}
use Rattle.text.specs.Places.{ended, stood}
use Rattle.text.proofs.Readlaws.{passed_on}
use Rattle.grammar.specs.Rows.{columns, column_of, field, row}
use Rattle.grammar.proofs.Behind.{behind, behind_more}
use Rattle.fields.specs.Pieces.{column as columnRead}
use Rattle.rows.specs.Drawn.{drawn, row_tail}
use Rattle.rows.proofs.Binds.{assoc, under}

column_then : {A : Type 0} (edge : Bool) (g : Symbol → Reader A) (k : ℕ) (s : List ℕ)
    → (columnRead edge >>= g) k s
    ≡ (skip >>= λ u. here >>= λ p. ahead (λ b. is b ":") >>= λ few. check (not few) 7 p >>= λ v. field (column_of edge) >>= g) k s
unfolding columnRead
column_then edge g k s =
    assoc skip _ g k s
    ∙ under skip (λ u k s. assoc here _ g k s ∙ under here
    (λ p k s. assoc (ahead (λ b. is b ":")) _ g k s ∙ under (ahead (λ b. is b ":")) (λ few k s. assoc (check (not few) 7 p) _ g k s) k s) k s) k s

-- one column more
columns_more : (m : ℕ) (edge : Bool) (k : ℕ) (s : List ℕ)
    → columns (suc m) edge k s ≡ bind (columnRead edge k s) (λ x j z. bind (columns m (edge && not (is_edge x)) j z) (λ l. give (x ∷ l)))
unfolding columns ◌>>=◌
columns_more m edge k s = sym (column_then edge (λ x. columns m (edge && not (is_edge x)) >>= λ l. give (x ∷ l)) k s)

row_is : (sequential : Bool) (n k : ℕ) (s : List ℕ) → row sequential n k s ≡ bind (columns n sequential k s) (row_tail sequential)
unfolding row row_tail ◌>>=◌
row_is sequential n k s = refl

-- ---- one column after the other

module _ (t : List ℕ) (at : ℕ) (sequential : Bool) (n : ℕ) (l : List Symbol) (i : ℕ) (edge : Bool) (column : ℕ)
    (inv : columns n sequential at (drop at t) ≡ behind (take column l) (columns (n - column) edge i (drop i t))) where
  module _ (less : column < n) (c : Result (Symbol × ℕ) Refusal) (said : columnRead edge i (drop i t) ≡ stood t (λ s. s) c) where
    said_column : columns n sequential at (drop at t)
        ≡ behind (take column l) (bind (stood t (λ s. s) c) (λ x j z. bind (columns (n - (column + 1)) (edge && not (is_edge x)) j z) (λ m. give (x ∷ m))))
    said_column =
        let r : n - column ≡ suc (n - (column + 1)) = omega arith in
        rw (r, columns_more (n - (column + 1)) edge i (drop i t), said) at inv

    pub column_refused : (r : Refusal) → c ≡ Err r → (f : Row → List ℕ) (b : List ℕ) (z : Result ℕ Refusal) → IsErrAnd z (λ x. x ≡ r)
        → drawn f (row sequential n at (drop at t)) ≡ ended t b z
    column_refused r e f b z h = rw (row_is sequential n at (drop at t), said_column, e) (passed_on t _ _ z r h)

    pub column_more : (y : Symbol) (j : ℕ) → c ≡ Ok (y, j) → (b : Bool) → b ≡ is_edge y → column < length l
        → columns n sequential at (drop at t) ≡ behind (take (column + 1) (set l column y)) (columns (n - (column + 1)) (edge && not b) j (drop j t))
    column_more y j e b h g =
        let q : take (column + 1) (set l column y) ≡ take column l ++ (y ∷ []) = rw add-one (take-suc-set l column y g) in
        rw (said_column, e, q, h) (behind_more (take column l) y (columns (n - (column + 1)) (edge && not (is_edge y)) j (drop j t)))

  pub columns_read : n ≤ column → (k : ℕ) → column ≡ k → row sequential n at (drop at t)
      ≡ bind (behind (take k l) (columns 0 edge i (drop i t))) (row_tail sequential)
  columns_read full k e = let r : n - column ≡ 0 = omega arith in rw (row_is sequential n at (drop at t), inv, r, e)

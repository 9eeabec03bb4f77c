-- Columns and rows one after the other, as reading gets them, and at their numbers, as a table has them. Assumes nothing.
use mathlib.Core.Path.{◌≡◌, refl, sym, ap, ◌∙◌}
use mathlib.Core.List.{List, [], ◌∷◌, ◌++◌}
use mathlib.Core.Bool.{Bool, true, false, not, ◌&&◌, ◌||◌, and-false}
use mathlib.Core.Logic.{⊎_elim}
use Prim.Native.Nat.{ℕ, zero, suc, ◌<◌}
use native.Mathlib.Nat.{eq-or-lt_of_le}
use native.Mathlib.Omega.{arith}
use borrow.Author.Tests.{not-true}
use lib.ListN.{length, get_or, length-append, get_or-append}
use lib.Seq.{get_or_at}
use Rattle.base.proofs.Bools.{both, and, clash}
use Rattle.base.proofs.Search.{every_at, every_of}
use Rattle.symbol.specs.declared.Level.TheVariants.{Any}
use Rattle.symbol.specs.declared.Symbol.{Symbol}
use Rattle.symbol.specs.declared.Output.TheVariants.{Old}
use Rattle.symbol.specs.Match.{is_edge, possible}
use Rattle.table.specs.Table.{Row, any_symbol, no_row}
use Rattle.formed.specs.Valid.{ValidRow}
use Rattle.formed.specs.Tests.{contradict}
use Rattle.grammar.specs.Rows.{may_stand, agrees}

-- ---- columns, where `edge` tells whether an edge may stand

pub record Fits (edge : Bool) (l : List Symbol) : Type 0 where
  pub matched : (k : ℕ) → k < length l → possible (get_or l k any_symbol) ≡ true
  pub one : (k m : ℕ) → k < length l → m < length l → is_edge (get_or l k any_symbol) ≡ true → is_edge (get_or l m any_symbol) ≡ true → k ≡ m
  pub levels : edge ≡ false → (k : ℕ) → k < length l → is_edge (get_or l k any_symbol) ≡ false

pub fits_none : (edge : Bool) → Fits edge []
fits_none edge = record { matched = λ k h. absurd (omega arith); one = λ k m h g a b. absurd (omega arith); levels = λ e k h. absurd (omega arith) }

module _ (edge : Bool) (s : Symbol) (l : List Symbol) where
  pub fits_more : may_stand edge s ≡ true → Fits (edge && not (is_edge s)) l → Fits edge (s ∷ l)
  fits_more e f = record { matched = matched; one = one; levels = levels edge f.levels (both (possible s) _ e).1 }
    where
      matched : (k : ℕ) → k < suc (length l) → possible (get_or (s ∷ l) k any_symbol) ≡ true
      matched zero h = (both (possible s) _ e).0
      matched (suc k) h = f.matched k (omega arith)

      -- behind an edge there is none
      behind : (k : ℕ) → k < length l → is_edge s ≡ true → is_edge (get_or l k any_symbol) ≡ true → ⊥
      behind k h a b = clash (sym b ∙ f.levels (rw a (and-false edge)) k h)

      one : (k m : ℕ) → k < suc (length l) → m < suc (length l) → is_edge (get_or (s ∷ l) k any_symbol) ≡ true → is_edge (get_or (s ∷ l) m any_symbol) ≡ true → k ≡ m
      one zero zero h g a b = refl
      one zero (suc m) h g a b = absurd (behind m (omega arith) a b)
      one (suc k) zero h g a b = absurd (behind k (omega arith) b a)
      one (suc k) (suc m) h g a b = ap suc (f.one k m (omega arith) (omega arith) a b)

      levels : (c : Bool) → ((c && not (is_edge s)) ≡ false → (k : ℕ) → k < length l → is_edge (get_or l k any_symbol) ≡ false)
          → (c || not (is_edge s)) ≡ true → c ≡ false → (k : ℕ) → k < suc (length l) → is_edge (get_or (s ∷ l) k any_symbol) ≡ false
      levels true g a b k h = clash b
      levels false g a b zero h = not-true (is_edge s) a
      levels false g a b (suc k) h = g refl k (omega arith)

  pub fits_head : Fits edge (s ∷ l) → may_stand edge s ≡ true
  fits_head f = and (f.matched 0 (omega arith)) (go edge f.levels)
    where
      go : (c : Bool) → (c ≡ false → (k : ℕ) → k < suc (length l) → is_edge (get_or (s ∷ l) k any_symbol) ≡ false) → (c || not (is_edge s)) ≡ true
      go true h = refl
      go false h = rw (h refl 0 (omega arith))

  pub fits_tail : Fits edge (s ∷ l) → Fits (edge && not (is_edge s)) l
  fits_tail f = record {
    matched = λ k h. f.matched (suc k) (omega arith);
    one = λ k m h g a b. let e = f.one (suc k) (suc m) (omega arith) (omega arith) a b in omega arith;
    levels = λ e k h. go edge f.levels (is_edge s) refl e k h (is_edge (get_or l k any_symbol)) refl;
  }
    where
      go : (c : Bool) → (c ≡ false → (k : ℕ) → k < suc (length l) → is_edge (get_or (s ∷ l) k any_symbol) ≡ false) → (d : Bool) → is_edge s ≡ d → (c && not d) ≡ false
          → (k : ℕ) → k < length l → (b : Bool) → is_edge (get_or l k any_symbol) ≡ b → b ≡ false
      go c h d i e k g false j = refl
      go true h true i e k g true j = let z = f.one 0 (suc k) (omega arith) (omega arith) i j in absurd (omega arith)
      go true h false i e k g true j = clash e
      go false h d i e k g true j = sym j ∙ h refl (suc k) (omega arith)

-- ---- one row

pub row_fits : (n : ℕ) (sequential : Bool) (r : Row) → ValidRow n sequential r → Fits sequential r.symbols
row_fits n sequential r v = record {
  matched = λ k h. v.matched k (omega (arith, v.columns));
  one = λ k m h g a b. v.one k m (omega (arith, v.columns)) (omega (arith, v.columns)) a b;
  levels = λ e k h. (v.plain e).levels k (omega (arith, v.columns));
}

pub fits_row : (n : ℕ) (sequential : Bool) (r : Row) → length r.symbols ≡ n → Fits sequential r.symbols
    → (sequential ≡ false → r.state ≡ Any) → (sequential ≡ false → r.output ≡ Old → ⊥) → ValidRow n sequential r
fits_row n sequential r e f y o = record {
  columns = e;
  matched = λ k h. f.matched k (omega arith);
  one = λ k m h g a b. f.one k m (omega arith) (omega arith) a b;
  plain = λ c. record { levels = λ k h. f.levels c k (omega arith); state = y c; output = o c };
}

-- ---- rows: each is valid, and no two contradict

pub record Agreeing (n : ℕ) (sequential : Bool) (l : List Row) : Type 0 where
  pub each : (i : ℕ) → i < length l → ValidRow n sequential (get_or l i no_row)
  pub agree : (i j : ℕ) → i < j → j < length l → contradict n (get_or l i no_row) (get_or l j no_row) ≡ false

module _ (n : ℕ) (sequential : Bool) where
  pub agreeing_none : Agreeing n sequential []
  agreeing_none = record { each = λ i h. absurd (omega arith); agree = λ i j l h. absurd (omega arith) }

  -- one row more, that contradicts none before it
  pub agreeing_more : (l : List Row) (r : Row) → Agreeing n sequential l → ValidRow n sequential r → agrees n l r ≡ true → Agreeing n sequential (l ++ (r ∷ []))
  unfolding agrees
  agreeing_more l r a v e = record {
    each = λ i h. ⊎_elim
        (λ (q : i ≡ length l). rw (q, last) v)
        (λ (g : i < length l). rw (get_or-append l (r ∷ []) no_row i g) (a.each i g))
        (eq-or-lt_of_le {n = i} {m = length l} (omega (arith, length-append l (r ∷ []))));
    agree = λ i j g h. ⊎_elim
        (λ (q : j ≡ length l). let b : i < length l = omega arith in
        rw (q, last, get_or-append l (r ∷ []) no_row i b) (not-true _ (every_at (λ (m : ℕ). not (contradict n (get_or l m no_row) r)) (length l) i e b)))
        (λ (b : j < length l). rw (get_or-append l (r ∷ []) no_row j b, get_or-append l (r ∷ []) no_row i (omega arith)) (a.agree i j g b))
        (eq-or-lt_of_le {n = j} {m = length l} (omega (arith, length-append l (r ∷ []))));
  }
    where
      last : get_or (l ++ (r ∷ [])) (length l) no_row ≡ r
      last = get_or_at l r [] no_row (length l) refl

  module _ (before : List Row) (r : Row) (l : List Row) (a : Agreeing n sequential (before ++ (r ∷ l))) where
    here : get_or (before ++ (r ∷ l)) (length before) no_row ≡ r
    here = get_or_at before r l no_row (length before) refl

    pub row_among : ValidRow n sequential r
    row_among = rw here at (a.each (length before) (omega (arith, length-append before (r ∷ l))))

    pub agrees_among : agrees n before r ≡ true
    unfolding agrees
    agrees_among = every_of (λ (i : ℕ). not (contradict n (get_or before i no_row) r)) (length before) (λ i h. ap not (rw (here, get_or-append before (r ∷ l) no_row i h) at (a.agree i (length before) h (omega (arith, length-append before (r ∷ l))))))

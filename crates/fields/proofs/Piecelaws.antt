-- What a field says, read behind blanks. Assumes nothing.
use Rattle.std.proofs.Common.{◌≡◌, ℕ, ◌+◌, Bool, true, false, cond, List, [], drop, Option, Some, None, Result, refl}
use Rattle.std.specs.Prelude.{ok_or}
use Rattle.refusal.specs.declared.Refusal.{Refusal}
use Rattle.refusal.specs.declared.Fault.TheVariants.{Symbol as SymbolFault}
use Rattle.symbol.specs.declared.Symbol.{Symbol}
use Rattle.symbol.specs.declared.Symbol.TheVariants.{Edge}
use Rattle.text.specs.Bytes.{is_symbol}
use Rattle.text.specs.Blanks.{one, begins}
use Rattle.text.specs.Reader.{got, refused, ◌>>=◌, ◌>>◌, bind, give, need, check, if, skip, said, mark, fault}
use Rattle.text.specs.Places.{meant, stood}
use Rattle.text.proofs.Blanklaws.{skip_still}
use Rattle.text.proofs.Readlaws.{mark_at, ahead_is, ahead_one}
use Rattle.grammar.specs.Rows.{Written, symbol, written_of, state_of, column_of, written, saying, field, columns}
use Rattle.fields.specs.Pieces.{written_as, column}

module _ (t : List ℕ) where
  -- what says nothing is 8
  pub need_is : {A : Type 0} (o : Option A) (p k : ℕ)
      → need o 8 p k (drop k t) ≡ meant t (λ a. k) (λ a. a) (ok_or o (record { fault = SymbolFault; place = p }))
  unfolding need
  need_is None p k = refl
  need_is (Some a) p k = refl

  module _ (i : ℕ) where
    -- a pair, and what is no pair
    pub pair_is : one 40 (drop i t) ≡ true → written i (drop i t)
        ≡ bind (saying state_of (said written_of) (i + 1) (drop (i + 1) t))
        (λ v. saying state_of (said written_of) >>= λ w. mark 41 >> give (symbol (Edge v w)))
    unfolding written ◌>>=◌ if
    pair_is e = rw (ahead_one 40 i (drop i t), e, mark_at t i 40, e)

    pub byte_is : one 40 (drop i t) ≡ false → written i (drop i t) ≡ said written_of i (drop i t)
    unfolding written ◌>>=◌ if
    byte_is e = rw (ahead_one 40 i (drop i t), e)

    module _ (at : ℕ) (blank : skip at (drop at t) ≡ got tt i (drop i t)) where
      -- a field, and a column
      module _ (w : Result (Option Symbol × ℕ) Refusal) (e : written i (drop i t) ≡ stood t written_as w) where
        pub field_is : {A : Type 0} (f : Written → Option A) → field f at (drop at t) ≡ bind (stood t written_as w) (λ x. need (f x) 8 i)
        unfolding field saying ◌>>=◌
        field_is f = rw (blank, e)

        pub column_is : (edge : Bool) → one 58 (drop i t) ≡ false → column edge at (drop at t) ≡ bind (stood t written_as w) (λ x. need (column_of edge x) 8 i)
        unfolding column field saying ◌>>=◌ check
        column_is edge c = rw (blank, ahead_one 58 i (drop i t), c, skip_still at i _ _ blank, e)

      pub column_few : (edge : Bool) → one 58 (drop i t) ≡ true → column edge at (drop at t) ≡ refused 7 i
      unfolding column ◌>>=◌ check
      column_few edge c = rw (blank, ahead_one 58 i (drop i t), c)

      -- a sign where no blank is left
      pub mark_still : (c : ℕ) → mark c i (drop i t)
          ≡ cond (one c (drop i t)) (got c (i + 1) (drop (i + 1) t)) (fault i (drop i t))
      unfolding mark ◌>>=◌
      mark_still c = rw (skip_still at i (drop at t) (drop i t) blank, mark_at t i c)

      -- the colon behind the columns
      pub colon_is : (edge : Bool) → begins is_symbol (drop i t) ≡ false → columns 0 edge at (drop at t) ≡ bind (mark 58 i (drop i t)) (λ x. give [])
      unfolding columns ◌>>=◌ check
      colon_is edge c = rw (blank, ahead_is is_symbol i (drop i t), c)

      pub colon_extra : (edge : Bool) → begins is_symbol (drop i t) ≡ true → columns 0 edge at (drop at t) ≡ refused 7 i
      unfolding columns ◌>>=◌ check
      colon_extra edge c = rw (blank, ahead_is is_symbol i (drop i t), c)

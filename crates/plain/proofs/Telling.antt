-- Where every row is plain the two orders agree for every vector. Assumes nothing.
use Prim.Native.Nat.{ℕ, zero, suc, ◌/◌, ◌%◌, ◌<◌}
use mathlib.Core.Path.{◌≡◌, refl}
use mathlib.Core.Bool.{Bool, true, false, cond, ◌||◌}
use mathlib.Core.List.{List}
use lib.Bits.{bit_and}
use lib.Dec.{eqb}
use Rattle.table.specs.Table.{Table}
use Rattle.memo.specs.declared.Memo.{Memo}
use Rattle.memo.specs.Memo.{MemoOf}
use Rattle.memo.specs.Rows.{cell_at}
use Rattle.memo.specs.Pair.{others_of}
use Rattle.planes.specs.Words.{bit}
use Rattle.exchange.specs.Pairs.{Tells}
use Rattle.plain.specs.declared.PlainRows.{PlainRows}
use Rattle.plain.specs.Plain.{Only, Plain}
use Rattle.exchange.proofs.Entered.{given_of}
use Rattle.plain.proofs.Sets.{both_in}
use Rattle.plain.proofs.Alike.{plain_agree}

others_in : (s : List (List ℕ)) (all i j k v r : ℕ) → bit (others_of s all i j k v) r ≡ true → bit all r ≡ true
unfolding others_of
others_in s all i j zero v r e = e
others_in s all i j (suc k) v r e = go (eqb k i || eqb k j) e (others_in s all i j k (v / 3) r)
  where
    go : (b : Bool) → bit (cond b (others_of s all i j k (v / 3)) (bit_and (others_of s all i j k (v / 3)) (cell_at s k (v % 3)))) r ≡ true →
        (bit (others_of s all i j k (v / 3)) r ≡ true → bit all r ≡ true) → bit all r ≡ true
    go true h more = more h
    go false h more = more (both_in (others_of s all i j k (v / 3)) (cell_at s k (v % 3)) r h).0

pub plain_tells : (t : Table) (memo : Memo) (i j : ℕ) (p : PlainRows) → MemoOf t memo → i < memo.inputs → j < memo.inputs →
    Plain memo i j p → Only memo.all p → Tells t i j true
plain_tells t memo i j p m li lj pl o = record {
  sound = λ e. record {
    at = λ v.
        let rest = others_of memo.cells memo.all i j memo.inputs v in
        let r = plain_agree t memo i j (given_of t memo i j m li lj) rest memo.all p (λ k h. others_in memo.cells memo.all i j memo.inputs v k h) pl o in
        rw (m.cells_are, m.all_are, m.inputs_are) at r;
  };
  whole = λ h. refl;
}

-- What a chain over the numbers below n answers, in the words of specs/Search. Assumes nothing.
use Prim.Native.Nat.{ℕ, zero, suc, ◌+◌, ◌<◌, ◌≤◌}
use mathlib.Core.Path.{◌≡◌, sym, ◌∙◌}
use mathlib.Core.Bool.{Bool, true, false}
use mathlib.Core.List.{List}
use mathlib.Core.Logic.{⊎_elim}
use native.Mathlib.Nat.{eq-or-lt_of_le}
use native.Mathlib.Omega.{arith}
use denote.Param.Members.{Mut}
use denote.Ref.{Bor}
use lib.ListN.{length, get_or}
use borrow.Author.Tests.{lt-ltb, le-ltb}
use Rattle.std.specs.Prelude.{Option, Some, None}
use Rattle.std.specs.declared.ops.Range.{Range}
use Rattle.std.proofs.Common.{Iter}
use Rattle.std.specs.Array.{IsFromFnResultFrom, IsFromFnResult}
use Rattle.std.specs.Bool.{⊤}
use Rattle.std.specs.Fn.{Called, CalledAt}
use Rattle.std.specs.Iterator.{YieldsThen}
use Rattle.std.specs.List.{FoldsTo}
use Rattle.std.specs.Option.{MatchOption}
use Rattle.std.specs.Slice.Iter.{iter_rest}
use Rattle.std.proofs.iter.Yields.{nat_range_steps, fronts}
use Rattle.std.proofs.lemmas.Iterator.{YieldsList-from_range, YieldsList-from_slice, first_from_Range}
use Rattle.std.proofs.lemmas.Iterator.Search.{all_from_yields_List}
use Rattle.base.specs.Listed.{listed}
use Rattle.base.specs.Search.{every, found}
use Rattle.base.proofs.Listed.{listed_is}
use Rattle.base.proofs.Lists.{list_all_every, range_all_every}
use Rattle.base.proofs.Search.{first_found, first_none}

pub every_from_all : {F : Type 0} {g : Mut F (ℕ × Unit {0}) Bool} (f : ℕ → Bool) (n : ℕ) (j : F) (s u : Range ℕ)
    → s ≡ record { start = 0; end = n } → (r : Bool)
    → ((x : ℕ) (b : Bool) (q : F) → Called g j (x, tt) b q → (q ≡ j) × (b ≡ f x))
    → (xs : List ℕ) × (o : Option ℕ) × (k : F) × YieldsThen nat_range_steps s xs o u × FoldsTo (λ p x q. Called g p (x, tt) true q) j xs k
    × MatchOption o (r ≡ true) (λ x. (r ≡ false) × ((q : F) × Called g k (x, tt) false q)) → r ≡ every n f
every_from_all f n j s u e r h ran = all_from_yields_List f u j r ran (YieldsList-from_range 0 n n e (omega arith)) h ∙ range_all_every f n

found_is : (f : ℕ → Bool) (n : ℕ) (r : Option ℕ)
    → MatchOption r ((k : ℕ) → 0 ≤ k → k < n → f k ≡ false) (λ i. (0 ≤ i) × (i < n) × (f i ≡ true) × ((k : ℕ) → 0 ≤ k → k < i → f k ≡ false)) → r ≡ found n f
found_is f n None h = rw (first_none f n (λ k l. h k (omega arith) l), le-ltb n n (omega arith))
found_is f n (Some i) h = rw (first_found f n i h.1 (λ k l. h.3 k (omega arith) l) h.2, lt-ltb i n h.1)

module _ {F : Type 0} {g : Mut F (Bor ℕ × Unit {0}) Bool} (f : ℕ → Bool) (n : ℕ) (j : F) (s u : Range ℕ) (e : s ≡ record { start = 0; end = n })
    (r : Option ℕ) (h : (x : ℕ) (b : Bool) (q : F) → CalledAt g j x b q → (q ≡ j) × (b ≡ f x)) where
  pub found_from_find : (xs : List ℕ) × (k : F) × YieldsThen nat_range_steps s xs r u × FoldsTo (λ p x q. CalledAt g p x false q) j xs k
      × MatchOption r ⊤ (λ x. (q : F) × CalledAt g k x true q) → r ≡ found n f
  found_from_find ran =
      found_is f n r
      (rw e at (first_from_Range s u j r (λ k. f k ≡ true) (λ k. f k ≡ false) ran
      (λ x q c. sym (h x true q c).1) (λ x q c. ((h x false q c).0, sym (h x false q c).1))))

-- ---- over a list of numbers, and at the places of an array

pub every_from_list : {F : Type 0} (f : ℕ → Bool) (l : List ℕ) (j : F) (s u : Iter ℕ) → iter_rest s ≡ l → {g : Mut F (Bor ℕ × Unit {0}) Bool} (r : Bool)
    → ((x : Bor ℕ) (b : Bool) (q : F) → Called g j (x, tt) b q → (q ≡ j) × (b ≡ f x.now))
    → (xs : List (Bor ℕ)) × (o : Option (Bor ℕ)) × (k : F) × YieldsThen fronts s xs o u × FoldsTo (λ p x q. Called g p (x, tt) true q) j xs k
    × MatchOption o (r ≡ true) (λ x. (r ≡ false) × ((q : F) × Called g k (x, tt) false q)) → r ≡ every (length l) (λ k. f (get_or l k 0))
every_from_list f l j s u e r h ran = all_from_yields_List f u j r ran (YieldsList-from_slice l e) h ∙ list_all_every f l 0

-- what an array made from its places holds
made_at : {F B : Type 0} {g : Mut F (ℕ × Unit {0}) B} (f : ℕ → B) (j : F) (ys : List B)
    → ((x : ℕ) (b : B) (q : F) → Called g j (x, tt) b q → (q ≡ j) × (b ≡ f x))
    → (n i : ℕ) → IsFromFnResultFrom g j ys i n → (k : ℕ) (d : B) → i ≤ k → k < i + n → f k ≡ get_or ys k d
made_at f j ys h zero i m k d a b = absurd (omega arith)
made_at f j ys h (suc n) i (q, y, e, c, more) k d a b =
    ⊎_elim
    (λ (s : i ≡ k). rw (← s) (sym (h i y q c).1 ∙ sym (e.1 d)))
    (λ (l : i < k). made_at f j ys h n (i + 1) (rw (h i y q c).0 at more) k d (omega arith) (omega arith))
    (eq-or-lt_of_le a)

pub listed_from_array : {F B : Type 0} {g : Mut F (ℕ × Unit {0}) B} (f : ℕ → B) (n : ℕ) (d : B) (j : F) (ys : List B)
    → ((x : ℕ) (b : B) (q : F) → Called g j (x, tt) b q → (q ≡ j) × (b ≡ f x)) → IsFromFnResult g j ys n → ys ≡ listed f n
listed_from_array f n d j ys h made = sym (listed_is f n ys d made.long (λ k l. made_at f j ys h n 0 made.each k d (omega arith) (omega arith)))

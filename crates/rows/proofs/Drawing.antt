-- Rows drawn into an area, one after the other. Assumes nothing.
use mathlib.Core.Path.{◌≡◌, refl, sym, ap, ◌∙◌}
use mathlib.Core.List.{List, [], ◌∷◌, ◌++◌}
use mathlib.Core.Bool.{Bool, true, false, not, ◌&&◌}
use mathlib.Core.Logic.{⊎_elim}
use Prim.Native.Nat.{ℕ, zero, suc, ◌+◌, ◌-◌, ◌≤◌, ◌<◌}
use native.Mathlib.Nat.{eq-or-lt_of_le}
use native.Mathlib.Omega.{arith}
use lib.ListN.{length, get_or, drop, length-append, get_or-append}
use lib.Seq.{get_or_at}
use Rattle.base.specs.Limits.{input_limit, row_limit, name_limit}
use Rattle.base.proofs.Search.{every_same}
use Rattle.value.specs.declared.Ternary.{Ternary}
use Rattle.table.specs.Places.{inputs_at}
use Rattle.table.specs.Table.{Row, Table, Shaped, no_row, with_row}
use Rattle.table.specs.Area.{encode, decode}
use Rattle.table.proofs.Encoding.{decode_encode, decode_inputs}
use Rattle.formed.specs.Tests.{contradict, row_agrees}
use Rattle.writing.specs.Written.{head_of, row_written}
use Rattle.writing.proofs.Rowlaws.{row_written_lem}
use Rattle.symbol.specs.Match.{is_edge}
use Rattle.text.specs.Bytes.{bytes}
use Rattle.text.specs.Places.{meant, ended}
use Rattle.text.proofs.Readlaws.{passed_on}
use Rattle.std.specs.Prelude.{Result as Answer, Ok, Err, IsErrAnd}
use Rattle.refusal.specs.declared.Refusal.{Refusal}
use Rattle.refusal.specs.declared.Fault.TheVariants.{Unexpected, TooMany, Contradiction}
use Rattle.grammar.proofs.Post.{Gives, after, past, given}
use Rattle.text.specs.Reader.{got, refused, bind, ◌>>=◌, ◌>>◌, give, check, if, skip, keyword}
use Rattle.grammar.specs.Rows.{columns, row, rows, agrees, begins_row, no_rows}
use Rattle.text.specs.Blanks.{begins}
use Rattle.text.proofs.Readlaws.{ahead_is}
use Rattle.rows.specs.Drawn.{drawn, with_rows, Begun}
use Rattle.rows.proofs.Binds.{drawn_got, drawn_refused}

-- ---- rows, one at a time

module _ (sequential : Bool) (n : ℕ) (before : List Row) (k : ℕ) (s : List ℕ) (p : ℕ) (r : List ℕ) (e : skip k s ≡ got tt p r) where
  module _ (m : ℕ) where
    pub rows_row : begins begins_row r ≡ true → rows (suc m) sequential n before k s
        ≡ bind (row sequential n p r) (λ x. check (agrees n before x) 9 p >> rows m sequential n (before ++ (x ∷ [])))
    unfolding rows ◌>>=◌ if
    rows_row b = rw (e, ahead_is begins_row p r, b)

    pub rows_end : begins begins_row r ≡ false → rows (suc m) sequential n before k s
        ≡ bind (keyword (bytes "endtable") p r) (λ w. check (not (no_rows before)) 3 p >> give before)
    unfolding rows ◌>>=◌ if
    rows_end b = rw (e, ahead_is begins_row p r, b)

    pub rows_on : begins begins_row r ≡ true → (x : Row) (j : ℕ) (z : List ℕ) → row sequential n p r ≡ got x j z → agrees n before x ≡ true
        → rows (suc m) sequential n before k s ≡ rows m sequential n (before ++ (x ∷ [])) j z
    unfolding ◌>>=◌ check
    rows_on b x j z f a = rows_row b ∙ rw (f, a)

  pub rows_full : begins begins_row r ≡ true → rows 0 sequential n before k s ≡ refused 6 p
  unfolding rows ◌>>=◌ check
  rows_full b = rw (e, ahead_is begins_row p r, b)

  pub rows_last : begins begins_row r ≡ false → rows 0 sequential n before k s ≡ bind (keyword (bytes "endtable") p r) (λ w. give before)
  unfolding rows ◌>>=◌ check
  rows_last b = rw (e, ahead_is begins_row p r, b)

-- ---- the area while rows are read

pub record Going (t : List ℕ) (at : ℕ) (h : Table) (sequential : Bool) (n : ℕ) (a : List ℕ) (i k : ℕ) : Type 0 where
  pub before : List Row
  pub count : length before ≡ k
  pub few : k ≤ row_limit
  pub inputs : h.inputs ≡ n
  pub same : a ≡ encode (with_rows h before)
  pub shaped : Shaped (with_rows h before)
  pub said : rows row_limit sequential n [] at (drop at t) ≡ rows (row_limit - k) sequential n before i (drop i t)

pub going_none : (t : List ℕ) (at : ℕ) (sequential : Bool) (n : ℕ) (a : List ℕ) → Begun a n → Going t at (decode a) sequential n a at 0
going_none t at sequential n a b = record {
  before = [];
  count = refl;
  few = omega arith;
  inputs = b.inputs;
  same = rw b.none at b.same;
  shaped = rw b.none at b.shaped;
  said = refl;
}

-- one row more
module _ (h : Table) (before : List Row) (x : Row) (s : Shaped (with_rows h before)) (few : length before < row_limit)
    (long : length x.symbols ≡ h.inputs) where
  more_rows : List Row
  more_rows = before ++ (x ∷ [])

  row_same : (i : ℕ) → i < length before → get_or (before ++ (x ∷ [])) i no_row ≡ get_or before i no_row
  row_same i g = get_or-append before (x ∷ []) no_row i g

  row_new : get_or (before ++ (x ∷ [])) (length before) no_row ≡ x
  row_new = get_or_at before x [] no_row (length before) refl

  wide : (i : ℕ) → i < length (before ++ (x ∷ [])) → length (get_or (before ++ (x ∷ [])) i no_row).symbols ≡ h.inputs
  wide i g =
      ⊎_elim
      (λ (q : i ≡ length before). rw (q, row_new) long)
      (λ (l : i < length before). rw (row_same i l) (s.columns i l))
      (eq-or-lt_of_le {n = i} {m = length before} (omega (arith, length-append before (x ∷ []))))

  pub shaped_more : Shaped (with_rows h (before ++ (x ∷ [])))
  shaped_more = record {
    bounded = record { name = s.bounded.name; inputs = s.bounded.inputs; rows = omega (arith, length-append before (x ∷ [])) };
    columns = wide;
  }

  pub written_more : row_written (encode (with_rows h before)) x ≡ encode (with_rows h (before ++ (x ∷ [])))
  unfolding with_row
  written_more = row_written_lem (with_rows h before) x s few

  -- the test of the area is the grammar's
  pub agrees_is : row_agrees (decode (encode (with_rows h (before ++ (x ∷ []))))) (length before) ≡ agrees h.inputs before x
  unfolding row_agrees agrees
  agrees_is =
      rw (decode_encode (with_rows h (before ++ (x ∷ []))) shaped_more)
      (every_same (λ (i : ℕ). not (contradict h.inputs (get_or (before ++ (x ∷ [])) i no_row) (get_or (before ++ (x ∷ [])) (length before) no_row)))
      (λ (i : ℕ). not (contradict h.inputs (get_or before i no_row) x)) (length before)
      (λ i g. rw (row_same i g, row_new)))

module _ {t : List ℕ} {at : ℕ} {h : Table} {sequential : Bool} {n : ℕ} {a : List ℕ} {i k : ℕ} (g : Going t at h sequential n a i k) (less : k < row_limit)
    (x : Row) (long : length x.symbols ≡ n) (b : List ℕ) (w : row_written a x ≡ b) where
  few' : length g.before < row_limit
  few' = omega (arith, g.count)

  long' : length x.symbols ≡ h.inputs
  long' = long ∙ sym g.inputs

  pub going_same : b ≡ encode (with_rows h (g.before ++ (x ∷ [])))
  going_same = sym w ∙ ap (λ (l : List ℕ). row_written l x) g.same ∙ written_more h g.before x g.shaped few' long'

  pub going_agrees : row_agrees (decode b) k ≡ agrees n g.before x
  going_agrees =
      rw going_same
      (ap (λ (m : ℕ). row_agrees (decode (encode (with_rows h (g.before ++ (x ∷ []))))) m) (sym g.count)
      ∙ agrees_is h g.before x g.shaped few' long'
      ∙ ap (λ (m : ℕ). agrees m g.before x) g.inputs)

  pub going_more : (j : ℕ) → rows row_limit sequential n [] at (drop at t)
      ≡ rows (row_limit - (k + 1)) sequential n (g.before ++ (x ∷ [])) j (drop j t) → Going t at h sequential n b j (k + 1)
  going_more j e = record {
    before = g.before ++ (x ∷ []);
    count = length-append g.before (x ∷ []) ∙ omega (arith, g.count);
    few = omega arith;
    inputs = g.inputs;
    same = going_same;
    shaped = shaped_more h g.before x g.shaped few' long';
    said = e;
  }

pub going_inputs : {t : List ℕ} {at : ℕ} {h : Table} {sequential : Bool} {n : ℕ} {a : List ℕ} {i k : ℕ} → Going t at h sequential n a i k
    → get_or a inputs_at 0 ≡ n
going_inputs {h = h} {a = a} g = sym (decode_inputs a) ∙ rw g.same (rw (decode_encode (with_rows h g.before) g.shaped) g.inputs)

pub none_of : (l : List Row) (k : ℕ) → length l ≡ k → k ≡ 0 → no_rows l ≡ true
none_of [] k e z = refl
none_of (r ∷ l) k e z = absurd (omega arith)

pub some_of : (l : List Row) (k : ℕ) → length l ≡ k → (k ≡ 0 → ⊥) → no_rows l ≡ false
some_of [] k e z = absurd (z (sym e))
some_of (r ∷ l) k e z = refl

-- a table without rows
pub head_begun : (name : List ℕ) (sequential : Bool) (n : ℕ) (start : Ternary) → length name ≤ name_limit → n ≤ input_limit
    → Begun (encode (head_of name sequential n start)) n
unfolding head_of
head_begun name sequential n start l m =
    let s : Shaped (head_of name sequential n start) =
    record { bounded = record { name = l; inputs = m; rows = omega arith }; columns = λ i g. absurd (omega arith) } in
    let e = decode_encode (head_of name sequential n start) s in
    record { same = rw e refl; shaped = rw e s; none = rw e refl; inputs = rw e refl }

-- the word behind the last row
pub last_draw : {T A : Type 0} (t : List ℕ) (end : T → ℕ) (f : T → A) (h : Table) (before : List Row) (a : List ℕ) (z : Answer T Refusal)
    → a ≡ encode (with_rows h before)
    → drawn (λ l. encode (with_rows h l)) (bind (meant t end f z) (λ w. give before)) ≡ meant t end (λ x. a) z
last_draw t end f h before a (Ok x) q = rw q
last_draw t end f h before a (Err r) q = refl

-- a row has a symbol for each input
columns_long : (m : ℕ) (edge : Bool) → Gives (λ l. length l ≡ m) (columns m edge)
unfolding columns
columns_long zero edge = past _ (λ u. past _ (λ p. past _ (λ few. past _ (λ v. past _ (λ w. given _ refl)))))
columns_long (suc m) edge =
    past _ (λ u. past _ (λ p. past _ (λ few. past _ (λ v. past _ (λ x. after (columns_long m (edge && not (is_edge x))) (λ l e. given _ (ap suc e)))))))

pub row_long : (sequential : Bool) (n : ℕ) → Gives (λ x. length x.symbols ≡ n) (row sequential n)
unfolding row
row_long sequential n = after (columns_long n sequential) (λ l e. past _ (λ y. past _ (λ o. past _ (λ z. given _ e))))

-- ---- the next row, or the word behind the last

module _ {t : List ℕ} {at : ℕ} {h : Table} {sequential : Bool} {n : ℕ} {a : List ℕ} {i k : ℕ} (g : Going t at h sequential n a i k)
    (p : ℕ) (blank : skip i (drop i t) ≡ got tt p (drop p t)) where
  abbrev Draws : List ℕ → Answer ℕ Refusal → Type 0
  Draws b z = drawn (λ l. encode (with_rows h l)) (rows row_limit sequential n [] at (drop at t)) ≡ ended t b z

  module _ (less : k < row_limit) where
    said_next : rows row_limit sequential n [] at (drop at t) ≡ rows (suc (row_limit - (k + 1))) sequential n g.before i (drop i t)
    said_next = let r : row_limit - k ≡ suc (row_limit - (k + 1)) = omega arith in rw r at g.said

    module _ (none : begins begins_row (drop p t) ≡ false) {T : Type 0} (end : T → ℕ) (f : T → List ℕ) (z : Answer T Refusal)
        (word : keyword (bytes "endtable") p (drop p t) ≡ meant t end f z) where
      said_end : rows row_limit sequential n [] at (drop at t)
          ≡ bind (meant t end f z) (λ w. check (not (no_rows g.before)) 3 p >> give g.before)
      said_end = said_next ∙ rows_end sequential n g.before i (drop i t) p (drop p t) blank (row_limit - (k + 1)) none ∙ rw word

      pub end_refused : (r : Refusal) → z ≡ Err r → (b : List ℕ) (y : Answer ℕ Refusal) → IsErrAnd y (λ x. x ≡ r) → Draws b y
      end_refused r e b y q = rw (said_end, e) (passed_on t _ _ y r q)

      module _ (x : T) (e : z ≡ Ok x) where
        pub end_early : k ≡ 0 → Draws a (Err (record { fault = Unexpected; place = p }))
        unfolding ◌>>=◌ check
        end_early q = rw (said_end, e, none_of g.before k g.count q)

        pub end_drawn : (k ≡ 0 → ⊥) → Draws a (Ok (end x))
        unfolding ◌>>=◌ check
        end_drawn q = rw (said_end, e, some_of g.before k g.count q, ← g.same)

    module _ (some : begins begins_row (drop p t) ≡ true) (z : Answer ℕ Refusal) (b : List ℕ)
        (one : drawn (row_written a) (row sequential n p (drop p t)) ≡ ended t b z) where
      said_row : rows row_limit sequential n [] at (drop at t)
          ≡ bind (row sequential n p (drop p t)) (λ x. check (agrees n g.before x) 9 p >> rows (row_limit - (k + 1)) sequential n (g.before ++ (x ∷ [])))
      said_row = said_next ∙ rows_row sequential n g.before i (drop i t) p (drop p t) blank (row_limit - (k + 1)) some

      pub row_refused : (r : Refusal) → z ≡ Err r → (d : List ℕ) (y : Answer ℕ Refusal) → IsErrAnd y (λ x. x ≡ r) → Draws d y
      row_refused r e d y q = rw (said_row, drawn_refused (row_written a) (row sequential n p (drop p t)) _ _ (rw e at one)) (passed_on t _ _ y r q)

      module _ (j : ℕ) (e : z ≡ Ok j) where
        taken : (y : Row) × (row sequential n p (drop p t) ≡ got y j (drop j t)) × (row_written a y ≡ b)
        taken = drawn_got (row_written a) (row sequential n p (drop p t)) b j (drop j t) (rw e at one)

        long_taken : length taken.0.symbols ≡ n
        long_taken = rw taken.1 at ((row_long sequential n).post p (drop p t))

        agreed : (v : Bool) → v ≡ row_agrees (decode b) k → v ≡ agrees n g.before taken.0
        agreed v q = q ∙ going_agrees g less taken.0 long_taken b taken.2

        pub row_apart : (v : Bool) → v ≡ row_agrees (decode b) k → v ≡ false → Draws b (Err (record { fault = Contradiction; place = p }))
        unfolding ◌>>=◌ check
        row_apart v q u = rw (said_row, taken.1, ← agreed v q, u)

        pub row_more : (v : Bool) → v ≡ row_agrees (decode b) k → v ≡ true → Going t at h sequential n b j (k + 1)
        unfolding ◌>>=◌ check
        row_more v q u = going_more g less taken.0 long_taken b taken.2 j (said_row ∙ rw (taken.1, ← agreed v q, u))

  module _ (full : row_limit ≤ k) where
    said_last : rows row_limit sequential n [] at (drop at t) ≡ rows 0 sequential n g.before i (drop i t)
    said_last = let r : row_limit - k ≡ 0 = omega arith in rw r at g.said

    pub full_refused : begins begins_row (drop p t) ≡ true → Draws a (Err (record { fault = TooMany; place = p }))
    full_refused some = rw (said_last, rows_full sequential n g.before i (drop i t) p (drop p t) blank some)

    pub full_drawn : begins begins_row (drop p t) ≡ false → {T : Type 0} (end : T → ℕ) (f : T → List ℕ) (z : Answer T Refusal)
        → keyword (bytes "endtable") p (drop p t) ≡ meant t end f z
        → drawn (λ l. encode (with_rows h l)) (rows row_limit sequential n [] at (drop at t)) ≡ meant t end (λ x. a) z
    full_drawn none end f z word =
        rw (said_last, rows_last sequential n g.before i (drop i t) p (drop p t) blank none, word) (last_draw t end f h g.before a z g.same)

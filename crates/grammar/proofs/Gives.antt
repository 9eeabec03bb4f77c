-- Theorem A: a table that reading gives is valid. Assumes nothing.
use mathlib.Core.Path.{◌≡◌, refl, sym, ap, ◌∙◌}
use mathlib.Core.List.{List, [], ◌∷◌, ◌++◌}
use mathlib.Core.Bool.{Bool, true, false, not, cond, ◌&&◌}
use Rattle.std.specs.Prelude.{Option, None, Some}
use Prim.Native.Nat.{ℕ, zero, suc, ◌+◌, ◌≤◌}
use native.Mathlib.Omega.{arith}
use lib.Dec.{leb}
use lib.ListN.{length, drop, length-append}
use Rattle.base.specs.Limits.{input_limit, row_limit, text_limit}
use Rattle.base.proofs.Bools.{and, clash}
use Rattle.value.specs.declared.Ternary.TheVariants.{Vx}
use Rattle.symbol.specs.declared.Level.{Level}
use Rattle.symbol.specs.declared.Level.TheVariants.{Zero, One, Unknown, Binary, Any}
use Rattle.symbol.specs.declared.Output.{Output}
use Rattle.symbol.specs.declared.Output.TheVariants.{Out0, Out1, Outx, Old}
use Rattle.symbol.specs.Match.{is_edge}
use Rattle.stored.specs.Stored.{output_byte}
use Rattle.table.specs.Table.{Row, Table}
use Rattle.text.specs.Words.{is_name, name_fits}
use Rattle.text.specs.Reader.{Result, got, refused, Reader, bind, give, fault, skip, run, word, Named, name}
use Rattle.formed.specs.Valid.{ValidRow, Valid}
use Rattle.formed.proofs.Contradiction.{contradict_of}
use Rattle.grammar.specs.Header.{ports, port_list, Ports, Declared, declared, declarations, declaration_room, initial, remove}
use Rattle.grammar.specs.Rows.{Written, symbol, dash, may_stand, column_of, level_in, level_out, output_said, saying, field, columns, state, row, no_rows, rows}
use Rattle.grammar.specs.Reading.{primitive, Reading, table, end, refusal, outcome, or_end, read}
use Rattle.grammar.proofs.Post.{Post, Says, Gives, after, past, given, refuses, faults, checked, branch, needed}
use Rattle.grammar.proofs.Fits.{Fits, fits_none, fits_more, fits_row, Agreeing, agreeing_none, agreeing_more}

-- ---- names

word_has : (p : List ℕ → Bool) → Gives (λ w. p w ≡ true) (word p)
unfolding word
word_has p = record { post = λ k s. go k s (run k s) }
  where
    pick : (k : ℕ) (s w : List ℕ) (j : ℕ) (t : List ℕ) (c : Bool) → p w ≡ c → Post (λ w. p w ≡ true) (cond c (give w) (λ j r. fault k s) j t)
    pick k s w j t true e = e
    pick k s w j t false e = tt

    go : (k : ℕ) (s : List ℕ) (r : Result (List ℕ)) → Post (λ w. p w ≡ true) (bind r (λ w. cond (p w) (give w) (λ j r. fault k s)))
    go k s (got w j t) = pick k s w j t (p w) refl
    go k s (refused c q) = tt

name_good : Gives (λ (w : Named). name_fits w.spelt ≡ true) name
unfolding name name_fits
name_good = past _ (λ u. past _ (λ p. after (word_has is_name) (λ w h. checked _ _ _ _ (λ t. given _ (and h t)))))

-- ---- header, declarations

abbrev pub Few : ℕ → List (List ℕ) → Type 0
Few m l = (1 ≤ length l) × (length l ≤ m)

ports_few : (m room : ℕ) (q : List ℕ) (seen : List (List ℕ)) → room + length seen ≡ m → Gives (Few m) (ports room q seen)
unfolding ports
ports_few m zero q seen e = past _ (λ w. past _ (λ u. refuses _ _))
ports_few m (suc room) q seen e =
    past _ (λ w. past _ (λ u. past _ (λ more. branch _ _ _
    (λ t. ports_few m room q (seen ++ (w.spelt ∷ [])) (omega (arith, length-append seen (w.spelt ∷ []))))
    (λ t. given _ (omega (arith, length-append seen (w.spelt ∷ [])))))))

-- 1 to 9 inputs
pub port_list_few : Gives (λ h. Few input_limit h.inputs) port_list
unfolding port_list
port_list_few = past _ (λ a. past _ (λ q. past _ (λ b. after (ports_few input_limit input_limit q.spelt [] refl) (λ l f. past _ (λ c. given _ f)))))

Start : Declared → Type 0
Start d = d.sequential ≡ false → d.start ≡ Vx

initial_start : (q : List ℕ) (left : List (List ℕ)) (reg : Bool) (p : ℕ) → Gives Start (initial q left reg p)
unfolding initial Start
initial_start q left reg p = past _ (λ a. past _ (λ b. past _ (λ c. past _ (λ d. past _ (λ e. past _ (λ f. past _ (λ v. past _ (λ g. past _ (λ h. given _ (λ e. clash e))))))))))

declarations_start : (room : ℕ) (q : List ℕ) (left : List (List ℕ)) (reg : Bool) → Gives Start (declarations room q left reg)
unfolding declarations Start
declarations_start zero q left reg = faults
declarations_start (suc room) q left reg =
    past _ (λ a. past _ (λ p. past _ (λ w. branch _ _ _ (λ t. past _ (λ x. past _ (λ b. past _ (λ c. declarations_start room q (remove q left) reg))))
    (λ t. branch _ _ _ (λ t. past _ (λ x. past _ (λ b. past _ (λ c. declarations_start room q left true))))
    (λ t. branch _ _ _ (λ t. past _ (λ l. declarations_start room q l reg))
    (λ t. branch _ _ _ (λ t. initial_start _ _ _ _) (λ t. past _ (λ b. given _ (λ e. refl)))))))))

declared_start : (h : Ports) → Gives Start (declared h)
unfolding declared
declared_start h = declarations_start declaration_room h.output (h.output ∷ h.inputs) false

-- ---- rows

saying_fits : {A : Type 0} (Q : A → Type 0) (f : Written → Option A) (m : Reader Written) → ((w : Written) → Says Q (f w)) → Gives Q (saying f m)
unfolding saying
saying_fits Q f m h = past _ (λ a. past _ (λ p. past _ (λ w. needed _ _ _ (h w))))

field_fits : {A : Type 0} (Q : A → Type 0) (f : Written → Option A) → ((w : Written) → Says Q (f w)) → Gives Q (field f)
unfolding field
field_fits Q f h = saying_fits Q f _ h

column_says : (edge : Bool) (w : Written) → Says (λ s. may_stand edge s ≡ true) (column_of edge w)
column_says edge (symbol s) = go (may_stand edge s) refl
  where
    go : (b : Bool) → may_stand edge s ≡ b → Says (λ s. may_stand edge s ≡ true) (cond b (Some s) None)
    go true e = e
    go false e = tt
column_says edge dash = tt

columns_fit : (m : ℕ) (edge : Bool) → Gives (λ l. (length l ≡ m) × Fits edge l) (columns m edge)
unfolding columns
columns_fit zero edge = past _ (λ a. past _ (λ p. past _ (λ b. past _ (λ c. past _ (λ d. given _ (refl, fits_none edge))))))
columns_fit (suc m) edge =
    past _ (λ a. past _ (λ p. past _ (λ b. past _ (λ c. after (field_fits _ _ (column_says edge)) (λ s h.
    after (columns_fit m (edge && not (is_edge s))) (λ l g. given _ (omega (arith, g.0), fits_more edge s l h g.1)))))))

state_fits : (sequential : Bool) → Gives (λ l. sequential ≡ false → l ≡ Any) (state sequential)
unfolding state
state_fits false = given _ (λ e. refl)
state_fits true = past _ (λ l. past _ (λ a. given _ (λ e. clash e)))

-- an output that is written with another byte
other : (o : Output) → (output_byte o ≡ 45 → ⊥) → o ≡ Old → ⊥
unfolding output_byte
other o h e = h (ap output_byte e)

output_says : (sequential : Bool) (w : Written) → Says (λ o. sequential ≡ false → o ≡ Old → ⊥) (output_said sequential w)
unfolding output_byte
output_says sequential (symbol s) = go (level_in s)
  where
    go : (o : Option Level) → Says (λ o. sequential ≡ false → o ≡ Old → ⊥) (level_out o)
    go None = tt
    go (Some Zero) = λ c. other Out0 (λ e. omega arith)
    go (Some One) = λ c. other Out1 (λ e. omega arith)
    go (Some Unknown) = λ c. other Outx (λ e. omega arith)
    go (Some Binary) = tt
    go (Some Any) = tt
output_says false dash = tt
output_says true dash = λ c. clash c

row_valid_lem : (sequential : Bool) (n : ℕ) → Gives (ValidRow n sequential) (row sequential n)
unfolding row
row_valid_lem sequential n =
    after (columns_fit n sequential) (λ l h. after (state_fits sequential) (λ y g. after (field_fits _ _ (output_says sequential)) (λ o f. past _ (λ a.
    given _ (fits_row n sequential (record { symbols = l; state = y; output = o }) h.0 h.1 g f)))))

abbrev Rows : Bool → ℕ → List Row → Type 0
Rows sequential n l = (1 ≤ length l) × (length l ≤ row_limit) × Agreeing n sequential l

some_row : (l : List Row) → not (no_rows l) ≡ true → 1 ≤ length l
some_row [] t = clash (sym t)
some_row (r ∷ l) t = omega arith

rows_valid_lem : (sequential : Bool) (n room : ℕ) (before : List Row) → room + length before ≡ row_limit → Agreeing n sequential before → Gives (Rows sequential n) (rows room sequential n before)
unfolding rows
rows_valid_lem sequential n zero before e h =
    past _ (λ a. past _ (λ p. past _ (λ b. past _ (λ c. past _ (λ d. given _ (omega arith, omega arith, h))))))
rows_valid_lem sequential n (suc room) before e h =
    past _ (λ a. past _ (λ p. past _ (λ more. branch _ _ _
    (λ t. after (row_valid_lem sequential n) (λ r v. checked _ _ _ _ (λ u.
    rows_valid_lem sequential n room (before ++ (r ∷ [])) (omega (arith, length-append before (r ∷ []))) (agreeing_more n sequential before r h v u))))
    (λ t. past _ (λ w. checked _ _ _ _ (λ u. given _ (some_row before u, omega arith, h)))))))

-- ---- the whole

primitive_valid : Gives Valid primitive
unfolding primitive Start
primitive_valid =
    past _ (λ a. after name_good (λ w g. after port_list_few (λ h e. after (declared_start h) (λ d f.
    after (rows_valid_lem d.sequential (length h.inputs) row_limit [] refl (agreeing_none _ _)) (λ l v. past _ (λ b.
    given _ (record {
      name = g;
      some_input = e.0;
      most_inputs = e.1;
      some_row = v.0;
      most_rows = v.1;
      start = f;
      each = v.2.each;
      agree = λ i j l h c. clash (sym (contradict_of _ _ _ c) ∙ v.2.agree i j l h);
    })))))))

abbrev Shown : Reading → Type 0
Shown (table t k) = Valid t
Shown end = Unit {0}
Shown (refusal c p) = Unit {0}

read_shown : (text : List ℕ) (start : ℕ) → Shown (read text start)
unfolding read
read_shown text start = go (not (leb (length text) text_limit)) (not (leb start (length text))) (skip start (drop start text))
  where
    last : (r : Result Table) → Post Valid r → Shown (outcome r)
    last (got t k s) h = h
    last (refused c p) h = tt

    begun : (r : Result (Unit {0})) → Shown (or_end r)
    begun (got u k []) = tt
    begun (got u k (b ∷ l)) = last (primitive k (b ∷ l)) (primitive_valid.post k (b ∷ l))
    begun (refused c p) = tt

    go : (a b : Bool) (r : Result (Unit {0})) → Shown (cond a (refusal 1 text_limit) (cond b (refusal 3 (length text)) (or_end r)))
    go true b r = tt
    go false true r = tt
    go false false r = begun r

pub read_valid : (text : List ℕ) (start next : ℕ) (t : Table) → read text start ≡ table t next → Valid t
read_valid text start next t e = rw e at (read_shown text start)

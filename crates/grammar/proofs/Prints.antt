-- Theorem B: reading gives every valid table back from its text. Assumes nothing.
use mathlib.Core.Path.{◌≡◌, refl, sym, ◌∙◌}
use mathlib.Core.List.{List, [], ◌∷◌, ◌++◌, append-nil, append_assoc}
use mathlib.Core.Bool.{Bool, true, false, not, ◌&&◌, ◌||◌}
use Rattle.std.specs.Prelude.{Option, Some}
use mathlib.Core.Logic.{⊎_elim}
use Prim.Native.Nat.{ℕ, zero, suc, ◌+◌, ◌*◌, ◌≤◌, ◌<◌}
use native.Mathlib.Omega.{arith}
use native.Mathlib.Nat.{add-zero}
use borrow.Author.Tests.{eqb-true, ne_eqb, le-leb, leb-true, not-true}
use lib.Dec.{leb, eqb, leb-zero}
use lib.ListN.{length, length-append, get_or}
use Rattle.base.specs.Limits.{input_limit, row_limit, name_limit, text_limit}
use Rattle.base.proofs.Bools.{both, either, clash}
use Rattle.base.proofs.Search.{every_at}
use Rattle.value.specs.declared.Ternary.{Ternary}
use Rattle.value.specs.declared.Ternary.TheVariants.{V0, V1, Vx}
use Rattle.value.specs.Value.{byte_of}
use Rattle.symbol.specs.declared.Level.{Level}
use Rattle.symbol.specs.declared.Level.TheVariants.{Zero, One, Unknown, Binary, Any}
use Rattle.symbol.specs.declared.Symbol.{Symbol}
use Rattle.symbol.specs.declared.Symbol.TheVariants.{Held, Edge, Rise, Fall, Positive, Negative, Every}
use Rattle.symbol.specs.declared.Output.{Output}
use Rattle.symbol.specs.declared.Output.TheVariants.{Out0, Out1, Outx, Old}
use Rattle.symbol.specs.Match.{is_edge}
use Rattle.stored.specs.Stored.{level_byte, output_byte}
use Rattle.table.specs.Table.{Row, Table, row_at, no_row}
use Rattle.text.specs.Bytes.{bytes, is, starts, in_name}
use Rattle.text.specs.Words.{member, keywords, all_in_name, is_name, name_fits}
use Rattle.text.specs.Reader.{got, ◌>>=◌, if, check, need, skip, said, ahead, run, word, mark, keyword, name}
use Rattle.formed.specs.Valid.{ValidRow, Valid}
use Rattle.formed.specs.Tests.{contradict, valid, head_valid, rows_valid, rows_agree, row_agrees}
use Rattle.formed.proofs.Exact.{of_valid}
use Rattle.grammar.specs.Header.{Ports, port_list, declared, declarations}
use Rattle.grammar.specs.Rows.{Written, symbol, written_of, may_stand, column_of, state_of, output_said, saying, written, field, columns, state, row, begins_row, rows}
use Rattle.grammar.specs.Reading.{primitive, readers, table, read}
use Rattle.grammar.specs.Print.{symbol_text, columns_text, end_text, row_text, rows_text, letters, commas, ports_text, declared_text, kind_text, print}
use Rattle.grammar.proofs.Fits.{Fits, fits_head, fits_tail, row_fits, Agreeing, row_among, agrees_among}

-- the place behind a text
abbrev pub along : List ℕ → ℕ → ℕ
along [] k = k
along (b ∷ t) k = along t (suc k)

pub along_append : (s t : List ℕ) (k : ℕ) → along (s ++ t) k ≡ along t (along s k)
along_append [] t k = refl
along_append (b ∷ s) t k = along_append s t (suc k)

pub along_length : (s : List ℕ) (k : ℕ) → along s k ≡ length s + k
along_length [] k = omega arith
along_length (b ∷ s) k = omega (arith, along_length s (suc k))

-- ---- symbols

level_read : (l : Level) (k : ℕ) (r : List ℕ) → saying state_of (said written_of) k (level_byte l ∷ r) ≡ got l (suc k) r
unfolding ◌>>=◌ need saying level_byte
level_read Zero k r = refl
level_read One k r = refl
level_read Unknown k r = refl
level_read Binary k r = refl
level_read Any k r = refl

record Read (s : Symbol) (k : ℕ) (r : List ℕ) : Type 0 where
  skipped : skip k (symbol_text s ++ r) ≡ got tt k (symbol_text s ++ r)
  no_colon : ahead (λ b. is b ":") k (symbol_text s ++ r) ≡ got false k (symbol_text s ++ r)
  a_row : ahead begins_row k (symbol_text s ++ r) ≡ got true k (symbol_text s ++ r)
  read_so : written k (symbol_text s ++ r) ≡ got (symbol s) (along (symbol_text s) k) r

symbol_read : (s : Symbol) (k : ℕ) (r : List ℕ) → Read s k r
unfolding written ◌>>=◌ if mark level_byte
symbol_read (Held Zero) k r = record { skipped = refl; no_colon = refl; a_row = refl; read_so = refl }
symbol_read (Held One) k r = record { skipped = refl; no_colon = refl; a_row = refl; read_so = refl }
symbol_read (Held Unknown) k r = record { skipped = refl; no_colon = refl; a_row = refl; read_so = refl }
symbol_read (Held Binary) k r = record { skipped = refl; no_colon = refl; a_row = refl; read_so = refl }
symbol_read (Held Any) k r = record { skipped = refl; no_colon = refl; a_row = refl; read_so = refl }
symbol_read (Edge v w) k r = record { skipped = refl; no_colon = refl; a_row = refl; read_so = rw (level_read v, level_read w) }
symbol_read Rise k r = record { skipped = refl; no_colon = refl; a_row = refl; read_so = refl }
symbol_read Fall k r = record { skipped = refl; no_colon = refl; a_row = refl; read_so = refl }
symbol_read Positive k r = record { skipped = refl; no_colon = refl; a_row = refl; read_so = refl }
symbol_read Negative k r = record { skipped = refl; no_colon = refl; a_row = refl; read_so = refl }
symbol_read Every k r = record { skipped = refl; no_colon = refl; a_row = refl; read_so = refl }

field_read : {A : Type 0} (f : Written → Option A) (s : Symbol) (a : A) (k : ℕ) (r : List ℕ) → f (symbol s) ≡ Some a → field f k (symbol_text s ++ r) ≡ got a (along (symbol_text s) k) r
unfolding ◌>>=◌ need saying field
field_read f s a k r e = let q = symbol_read s k r in rw (q.skipped, q.read_so, e)

-- ---- columns and rows

column_some : (edge : Bool) (s : Symbol) → may_stand edge s ≡ true → column_of edge (symbol s) ≡ Some s
column_some edge s e = rw e

columns_read : (l : List Symbol) (edge : Bool) (k : ℕ) (r : List ℕ) → Fits edge l → columns (length l) edge k (columns_text l ++ r) ≡ got l (along (columns_text l) k) r
unfolding ◌>>=◌ check mark columns
columns_read [] edge k r f = refl
columns_read (s ∷ l) edge k r f =
    let q = symbol_read s k (columns_text l ++ r) in
    let e = field_read (column_of edge) s s k (columns_text l ++ r) (column_some edge s (fits_head edge s l f)) in
    let d = columns_read l (edge && not (is_edge s)) (along (symbol_text s) k) r (fits_tail edge s l f) in
    rw (append_assoc, along_append, q.skipped, q.no_colon, e, d)

output_read : (sequential : Bool) (o : Output) (k : ℕ) (r : List ℕ) → (sequential ≡ false → o ≡ Old → ⊥) → field (output_said sequential) k (output_byte o ∷ r) ≡ got o (suc k) r
unfolding ◌>>=◌ if need written saying field output_byte
output_read sequential Out0 k r h = refl
output_read sequential Out1 k r h = refl
output_read sequential Outx k r h = refl
output_read false Old k r h = absurd (h refl refl)
output_read true Old k r h = refl

state_read : (y : Level) (k : ℕ) (r : List ℕ) → field state_of k (level_byte y ∷ r) ≡ got y (suc k) r
state_read y k r = field_read state_of (Held y) y k r refl

parts_read : (sequential : Bool) (l : List Symbol) (y : Level) (o : Output) (k : ℕ) (r : List ℕ)
    → Fits sequential l → (sequential ≡ false → y ≡ Any) → (sequential ≡ false → o ≡ Old → ⊥)
    → row sequential (length l) k ((columns_text l ++ end_text sequential y o) ++ r) ≡ got (record { symbols = l; state = y; output = o }) (along (columns_text l ++ end_text sequential y o) k) r
unfolding ◌>>=◌ mark row state
parts_read false l y o k r a b c =
    let j = along (columns_text l) k in
    rw (b refl, append_assoc, along_append, columns_read l false k (output_byte o ∷ 59 ∷ r) a, output_read false o j (59 ∷ r) c)
parts_read true l y o k r a b c =
    let j = along (columns_text l) k in
    rw (append_assoc, along_append, columns_read l true k (level_byte y ∷ 58 ∷ output_byte o ∷ 59 ∷ r) a, state_read y j (58 ∷ output_byte o ∷ 59 ∷ r), output_read true o (suc (suc j)) (59 ∷ r) c)

row_read : (sequential : Bool) (n : ℕ) (w : Row) (k : ℕ) (r : List ℕ) → ValidRow n sequential w → row sequential n k (row_text sequential w ++ r) ≡ got w (along (row_text sequential w) k) r
row_read sequential n w k r v =
    rw (← v.columns) (parts_read sequential w.symbols w.state w.output k r (row_fits n sequential w v) (λ e. (v.plain e).state) (λ e. (v.plain e).output))

-- the first symbol of a row tells that one begins
begins : (l : List Symbol) (k : ℕ) (r : List ℕ) → 1 ≤ length l → (skip k (columns_text l ++ r) ≡ got tt k (columns_text l ++ r)) × (ahead begins_row k (columns_text l ++ r) ≡ got true k (columns_text l ++ r))
begins [] k r h = absurd (omega arith)
begins (s ∷ l) k r h = let q = symbol_read s k (columns_text l ++ r) in (rw (append_assoc, q.skipped), rw (append_assoc, q.a_row))

row_begins : (sequential : Bool) (w : Row) (k : ℕ) (r : List ℕ) → 1 ≤ length w.symbols →
    (skip k (row_text sequential w ++ r) ≡ got tt k (row_text sequential w ++ r)) × (ahead begins_row k (row_text sequential w ++ r) ≡ got true k (row_text sequential w ++ r))
row_begins sequential w k r h = rw (append_assoc (columns_text w.symbols) (end_text sequential w.state w.output) r) (begins w.symbols k (end_text sequential w.state w.output ++ r) h)

rows_read : (sequential : Bool) (n room : ℕ) (before l : List Row) (k : ℕ) (r : List ℕ) → 1 ≤ n → length l ≤ room → 1 ≤ length before + length l → Agreeing n sequential (before ++ l) →
    rows room sequential n before k (rows_text sequential l ++ (32 ∷ r)) ≡ got (before ++ l) (along (rows_text sequential l) k) (32 ∷ r)
unfolding ◌>>=◌ check if keyword word rows
rows_read sequential n zero before [] k r h a b v = rw append-nil
rows_read sequential n (suc room) [] [] k r h a b v = absurd (omega arith)
rows_read sequential n (suc room) (w ∷ before) [] k r h a b v = rw append-nil
rows_read sequential n zero before (w ∷ l) k r h a b v = absurd (omega arith)
rows_read sequential n (suc room) before (w ∷ l) k r h a b v =
    let u = row_among n sequential before w l v in
    let e = row_begins sequential w k (rows_text sequential l ++ (32 ∷ r)) (omega (arith, u.columns)) in
    let d = row_read sequential n w k (rows_text sequential l ++ (32 ∷ r)) u in
    let g = append_assoc before (w ∷ []) l in
    let c = rows_read sequential n room (before ++ (w ∷ [])) l (along (row_text sequential w) k) r h (omega arith) (omega (arith, length-append before (w ∷ []))) (rw g v) in
    rw (append_assoc (row_text sequential w) (rows_text sequential l) (32 ∷ r), along_append (row_text sequential w) (rows_text sequential l) k, e.0, e.1, d, agrees_among n sequential before w l v, c, g)

-- ---- the name

run_name : (w : List ℕ) (k c : ℕ) (r : List ℕ) → all_in_name w ≡ true → in_name c ≡ false → run k (w ++ (c ∷ r)) ≡ got w (along w k) (c ∷ r)
run_name [] k c r a e = rw e
run_name (b ∷ w) k c r a e = let h = both (in_name b) (all_in_name w) a in rw (h.0, run_name w (suc k) c r h.1 e)

starts_late : (b : ℕ) → starts b ≡ true → 65 ≤ b
starts_late b e =
    ⊎_elim
    (λ a. ⊎_elim
    (λ c. let l = leb-true 97 b (both (leb 97 b) (leb b 122) c).0 in omega arith)
    (λ c. leb-true 65 b (both (leb 65 b) (leb b 90) c).0)
    (either (leb 97 b && leb b 122) (leb 65 b && leb b 90) a))
    (λ c. let l = eqb-true b 95 c in omega arith)
    (either ((leb 97 b && leb b 122) || (leb 65 b && leb b 90)) (eqb b 95) e)

module _ (b : ℕ) (w : List ℕ) (h : is_name (b ∷ w) ≡ true) where
  parts : ((starts b && all_in_name w) ≡ true) × (not (member (b ∷ w) keywords) ≡ true)
  unfolding is_name
  parts = both (starts b && all_in_name w) _ h

  first : starts b ≡ true
  first = (both (starts b) _ parts.0).0

  all_name : all_in_name (b ∷ w) ≡ true
  all_name = rw first (both (starts b) _ parts.0).1

  name_skip : (k : ℕ) (r : List ℕ) → skip k ((b ∷ w) ++ r) ≡ got tt k ((b ∷ w) ++ r)
  name_skip k r =
      let l = starts_late b first in
      rw (ne_eqb b 32 (λ e. omega arith), ne_eqb b 9 (λ e. omega arith), ne_eqb b 13 (λ e. omega arith), ne_eqb b 10 (λ e. omega arith), ne_eqb b 12 (λ e. omega arith), ne_eqb b 47 (λ e. omega arith))

no_name : is_name [] ≡ true → ⊥
unfolding is_name
no_name e = clash (sym e)

name_read : (w : List ℕ) (k : ℕ) (r : List ℕ) → name_fits w ≡ true → name k (32 ∷ (w ++ (40 ∷ r))) ≡ got (record { spelt = w; place = suc k }) (along w (suc k)) (40 ∷ r)
unfolding ◌>>=◌ check name word name_fits
name_read w k r e = let h = both (is_name w) (leb (length w) name_limit) e in go w h.0 h.1
  where
    go : (w : List ℕ) → is_name w ≡ true → leb (length w) name_limit ≡ true → name k (32 ∷ (w ++ (40 ∷ r))) ≡ got (record { spelt = w; place = suc k }) (along w (suc k)) (40 ∷ r)
    go [] a b = absurd (no_name a)
    go (c ∷ w) a b = rw (name_skip c w a (suc k) (40 ∷ r), run_name (c ∷ w) (suc k) 40 r (all_name c w a) refl, a, b)

-- ---- the header, the declarations: closed text for each number of inputs

nine : (P : ℕ → Type 0) → P 1 → P 2 → P 3 → P 4 → P 5 → P 6 → P 7 → P 8 → P 9 → (n : ℕ) → 1 ≤ n → n ≤ input_limit → P n
nine P p1 p2 p3 p4 p5 p6 p7 p8 p9 zero a b = absurd (omega arith)
nine P p1 p2 p3 p4 p5 p6 p7 p8 p9 (suc zero) a b = p1
nine P p1 p2 p3 p4 p5 p6 p7 p8 p9 (suc (suc zero)) a b = p2
nine P p1 p2 p3 p4 p5 p6 p7 p8 p9 (suc (suc (suc zero))) a b = p3
nine P p1 p2 p3 p4 p5 p6 p7 p8 p9 (suc (suc (suc (suc zero)))) a b = p4
nine P p1 p2 p3 p4 p5 p6 p7 p8 p9 (suc (suc (suc (suc (suc zero))))) a b = p5
nine P p1 p2 p3 p4 p5 p6 p7 p8 p9 (suc (suc (suc (suc (suc (suc zero)))))) a b = p6
nine P p1 p2 p3 p4 p5 p6 p7 p8 p9 (suc (suc (suc (suc (suc (suc (suc zero))))))) a b = p7
nine P p1 p2 p3 p4 p5 p6 p7 p8 p9 (suc (suc (suc (suc (suc (suc (suc (suc zero)))))))) a b = p8
nine P p1 p2 p3 p4 p5 p6 p7 p8 p9 (suc (suc (suc (suc (suc (suc (suc (suc (suc zero))))))))) a b = p9
nine P p1 p2 p3 p4 p5 p6 p7 p8 p9 (suc (suc (suc (suc (suc (suc (suc (suc (suc (suc n)))))))))) a b = absurd (omega arith)

ports_of : ℕ → Ports
ports_of n = record { output = bytes "q"; inputs = letters n }

-- what is shown for each number of inputs: the port list, the declarations, the number of letters, the length of the text
record Printed (n : ℕ) : Type 0 where
  port_list : (k : ℕ) (r : List ℕ) → port_list k (ports_text n ++ r) ≡ got (ports_of n) (along (ports_text n) k) r
  declares : (f k : ℕ) (r : List ℕ) → declarations (suc (suc f)) (bytes "q") (bytes "q" ∷ letters n) false k (declared_text n ++ r) ≡ declarations f (bytes "q") [] false (along (declared_text n) k) r
  long : length (letters n) ≡ n
  short : length (commas n) < 2 * input_limit

printed : (n : ℕ) → 1 ≤ n → n ≤ input_limit → Printed n
unfolding readers ports_of
printed =
    nine Printed
    (record { port_list = λ k r. refl; declares = λ f k r. refl; long = refl; short = omega arith })
    (record { port_list = λ k r. refl; declares = λ f k r. refl; long = refl; short = omega arith })
    (record { port_list = λ k r. refl; declares = λ f k r. refl; long = refl; short = omega arith })
    (record { port_list = λ k r. refl; declares = λ f k r. refl; long = refl; short = omega arith })
    (record { port_list = λ k r. refl; declares = λ f k r. refl; long = refl; short = omega arith })
    (record { port_list = λ k r. refl; declares = λ f k r. refl; long = refl; short = omega arith })
    (record { port_list = λ k r. refl; declares = λ f k r. refl; long = refl; short = omega arith })
    (record { port_list = λ k r. refl; declares = λ f k r. refl; long = refl; short = omega arith })
    (record { port_list = λ k r. refl; declares = λ f k r. refl; long = refl; short = omega arith })

kind_read : (sequential : Bool) (v : Ternary) (f k : ℕ) (r : List ℕ) → (sequential ≡ false → v ≡ Vx) →
    declarations (suc (suc f)) (bytes "q") [] false k (kind_text sequential v ++ (32 ∷ r)) ≡ got (record { sequential = sequential; start = v }) (along (kind_text sequential v) k) (32 ∷ r)
unfolding readers byte_of
kind_read false v f k r h = rw (h refl)
kind_read true V0 f k r h = refl
kind_read true V1 f k r h = refl
kind_read true Vx f k r h = refl

declared_read : (n : ℕ) (sequential : Bool) (v : Ternary) (k : ℕ) (r : List ℕ) → Printed n → (sequential ≡ false → v ≡ Vx) →
    declared (ports_of n) k (declared_text n ++ (kind_text sequential v ++ (32 ∷ r))) ≡ got (record { sequential = sequential; start = v }) (along (kind_text sequential v) (along (declared_text n) k)) (32 ∷ r)
unfolding declared ports_of
declared_read n sequential v k r p h = p.declares _ k (kind_text sequential v ++ (32 ∷ r)) ∙ kind_read sequential v _ (along (declared_text n) k) r h

-- ---- the whole

rows_blank : (room : ℕ) (sequential : Bool) (n : ℕ) (before : List Row) (k : ℕ) (s : List ℕ) → rows (suc room) sequential n before k (32 ∷ s) ≡ rows (suc room) sequential n before (suc k) s
unfolding rows ◌>>=◌
rows_blank room sequential n before k s = refl

agreeing : (t : Table) → Valid t → Agreeing t.inputs t.sequential t.rows
unfolding valid rows_agree row_agrees
agreeing t v =
    let all = (both (rows_valid t) (rows_agree t) (both (head_valid t) (rows_valid t && rows_agree t) (of_valid t v)).1).1 in
    record {
      each = v.each;
      agree = λ i j l h. not-true _ (every_at (λ (m : ℕ). not (contradict t.inputs (row_at t m) (row_at t j))) j i (every_at (row_agrees t) (length t.rows) j all h) l);
    }

primitive_read : (t : Table) → Valid t → primitive 0 (print t) ≡ got t (along (print t) 0) []
unfolding ◌>>=◌ keyword word primitive ports_of
primitive_read t v =
    let n = t.inputs in
    let p = printed n v.some_input v.most_inputs in
    let last : List ℕ = rows_text t.sequential t.rows ++ bytes " endprimitive" in
    let declText : List ℕ = declared_text n ++ (kind_text t.sequential t.start ++ (32 ∷ last)) in
    let a = along t.name 10 in
    let b = along (ports_text n) a in
    let c = along (kind_text t.sequential t.start) (along (declared_text n) b) in
    let e1 = name_read t.name 9 (bytes "q," ++ ((commas n ++ bytes ");") ++ declText)) v.name in
    let e2 = p.port_list a declText in
    let e3 = declared_read n t.sequential t.start b last p v.start in
    let e4 = rows_read t.sequential n row_limit [] t.rows (suc c) (bytes "endprimitive") v.some_input v.most_rows (omega (arith, v.some_row)) (agreeing t v) in
    rw (e1, e2, e3, p.long, rows_blank 63 t.sequential n [] c last, e4) (simp along_append)

-- ---- not too long

short_symbol : (y : Symbol) → length (symbol_text y) ≤ 4
short_symbol (Held l) = omega arith
short_symbol (Edge v w) = omega arith
short_symbol Rise = omega arith
short_symbol Fall = omega arith
short_symbol Positive = omega arith
short_symbol Negative = omega arith
short_symbol Every = omega arith

short_columns : (l : List Symbol) → length (columns_text l) ≤ 4 * length l + 1
short_columns [] = omega arith
short_columns (y ∷ l) = omega (arith, length-append (symbol_text y) (columns_text l), short_symbol y, short_columns l)

short_end : (sequential : Bool) (y : Level) (o : Output) → length (end_text sequential y o) ≤ 4
short_end false y o = omega arith
short_end true y o = omega arith

short_rows : (sequential : Bool) (n : ℕ) (l : List Row) → n ≤ input_limit → ((i : ℕ) → i < length l → ValidRow n sequential (get_or l i no_row)) → length (rows_text sequential l) ≤ (4 * input_limit + 5) * length l + 8
short_rows sequential n [] h v = omega arith
short_rows sequential n (r ∷ l) h v =
    omega (arith, length-append (row_text sequential r) (rows_text sequential l), length-append (columns_text r.symbols) (end_text sequential r.state r.output), short_columns r.symbols, (v 0 (omega arith)).columns, short_end sequential r.state r.output, short_rows sequential n l h (λ i g. v (suc i) (omega arith)))

short_kind : (sequential : Bool) (v : Ternary) → length (kind_text sequential v) ≤ 30
short_kind false v = omega arith
short_kind true v = omega arith

short_name : (w : List ℕ) → name_fits w ≡ true → length w ≤ name_limit
unfolding name_fits
short_name w e = leb-true (length w) name_limit (both (is_name w) _ e).1

print_short : (t : Table) → Valid t → length (print t) ≤ text_limit
print_short t v =
    let p = printed t.inputs v.some_input v.most_inputs in
    simp length-append (omega (arith, short_name t.name v.name, p.short, short_kind t.sequential t.start, short_rows t.sequential t.inputs t.rows v.most_inputs v.each, v.most_rows))

pub read_print : (t : Table) → Valid t → read (print t) 0 ≡ table t (length (print t))
unfolding read
read_print t v =
    rw (le-leb (length (print t)) text_limit (print_short t v), leb-zero, primitive_read t v, along_length (print t) 0, add-zero)

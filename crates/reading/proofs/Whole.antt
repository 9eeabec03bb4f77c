-- The whole primitive. Assumes nothing.
use mathlib.Core.Path.{◌≡◌, refl, sym, ◌∙◌}
use mathlib.Core.List.{List, []}
use mathlib.Core.Bool.{Bool}
use Prim.Native.Nat.{ℕ, ◌≤◌, ◌<◌}
use native.Mathlib.Omega.{arith}
use lib.ListN.{length, drop, drop_of_length-le}
use lib.Seq.{drop-cons}
use borrow.Author.Tests.{eq-eqb, le-leb, leb-true}
use Rattle.std.specs.Prelude.{Result as Answer, Ok, Err}
use Rattle.refusal.specs.declared.Refusal.{Refusal}
use Rattle.base.specs.Limits.{input_limit, name_limit, row_limit, text_limit}
use Rattle.value.specs.declared.Ternary.{Ternary}
use Rattle.table.specs.Places.{area_size}
use Rattle.table.specs.Table.{Row, Table, Shaped}
use Rattle.table.specs.Area.{encode, decode}
use Rattle.table.proofs.Encoding.{decode_encode}
use Rattle.writing.specs.Written.{head_of, head_fits, head_written}
use Rattle.text.specs.Bytes.{bytes}
use Rattle.text.specs.Reader.{Result, got, refused, Reader, bind, ◌>>=◌, give, skip, keyword, Named, name}
use Rattle.text.specs.Places.{meant}
use Rattle.grammar.specs.Header.{Ports, Declared, port_list, declared}
use Rattle.grammar.specs.Rows.{rows}
use Rattle.grammar.specs.Reading.{primitive, end, outcome, or_end, read}
use Rattle.grammar.proofs.Post.{Gives, after, past, given, checked}
use Rattle.grammar.proofs.Gives.{port_list_few}
use Rattle.header.specs.declared.Head.{Head}
use Rattle.header.specs.Heads.{head, head_with}
use Rattle.reading.specs.Told.{written, ended as ended_with, refused as refused_with, told, read_into}
use Rattle.rows.specs.Drawn.{drawn, with_rows, Begun}
use Rattle.rows.proofs.Binds.{drawn_got, drawn_refused}
use Rattle.rows.proofs.Drawing.{head_begun}

-- ---- the grammar's lines, where those before them are read

head_then : {A : Type 0} (m : ℕ → Bool → Ternary → Reader A) (k : ℕ) (s : List ℕ)
    → bind (port_list k s) (λ h. declared h >>= λ d. m (length h.inputs) d.sequential d.start) ≡ bind (head k s) (λ x. m x.inputs x.sequential x.start)
unfolding head ◌>>=◌
head_then {A = A} m k s = go (port_list k s)
  where
    inner : (n : ℕ) (r : Result Declared) → bind r (λ d. m n d.sequential d.start) ≡ bind (bind r (head_with n)) (λ x. m x.inputs x.sequential x.start)
    inner n (got d j z) = refl
    inner n (refused c p) = refl

    go : (r : Result Ports)
        → bind r (λ h. declared h >>= λ d. m (length h.inputs) d.sequential d.start)
        ≡ bind (bind r (λ h. declared h >>= head_with (length h.inputs))) (λ x. m x.inputs x.sequential x.start)
    go (got h j z) = inner (length h.inputs) (declared h j z)
    go (refused c p) = refl

opened : (k : ℕ) (s u : List ℕ) (i : ℕ) (z : List ℕ) → keyword (bytes "primitive") k s ≡ got u i z → (w : Named) (j : ℕ) (y : List ℕ) → name i z ≡ got w j y
    → primitive k s ≡ bind (port_list j y) (λ h. declared h >>= λ d. rows row_limit d.sequential (length h.inputs) [] >>= λ l. keyword
    (bytes "endprimitive") >>= λ v. give (record { name = w.spelt; sequential = d.sequential; inputs = length h.inputs; start = d.start; rows = l }))
unfolding primitive ◌>>=◌
opened k s u i z e w j y f = rw (e, f)

unfoldable table_of : Named → Head → List Row → Table
table_of w x l = record { name = w.spelt; sequential = x.sequential; inputs = x.inputs; start = x.start; rows = l }

module _ (k : ℕ) (s : List ℕ) where
  primitive_first : (c p : ℕ) → keyword (bytes "primitive") k s ≡ refused c p → primitive k s ≡ refused c p
  unfolding primitive ◌>>=◌
  primitive_first c p e = rw e

  module _ (u : List ℕ) (i : ℕ) (z : List ℕ) (e : keyword (bytes "primitive") k s ≡ got u i z) where
    primitive_name : (c p : ℕ) → name i z ≡ refused c p → primitive k s ≡ refused c p
    unfolding primitive ◌>>=◌
    primitive_name c p f = rw (e, f)

    module _ (w : Named) (j : ℕ) (y : List ℕ) (f : name i z ≡ got w j y) where
      primitive_body : primitive k s ≡ bind (head j y) (λ x. rows row_limit x.sequential x.inputs [] >>= λ l. keyword (bytes "endprimitive") >>= λ v. give (table_of w x l))
      unfolding table_of
      primitive_body =
          opened k s u i z e w j y f
          ∙ head_then (λ n sequential start. rows row_limit sequential n [] >>= λ l. keyword (bytes "endprimitive") >>= λ v. give
          (record { name = w.spelt; sequential = sequential; inputs = n; start = start; rows = l })) j y

      primitive_head : (c p : ℕ) → head j y ≡ refused c p → primitive k s ≡ refused c p
      primitive_head c p g = primitive_body ∙ rw g

      module _ (x : Head) (m : ℕ) (r : List ℕ) (g : head j y ≡ got x m r) where
        primitive_stop : (c p : ℕ) → rows row_limit x.sequential x.inputs [] m r ≡ refused c p → primitive k s ≡ refused c p
        unfolding ◌>>=◌
        primitive_stop c p h = primitive_body ∙ rw (g, h)

        primitive_rows : (l : List Row) (n : ℕ) (q : List ℕ) → rows row_limit x.sequential x.inputs [] m r ≡ got l n q
            → primitive k s ≡ bind (keyword (bytes "endprimitive") n q) (λ v. give (table_of w x l))
        unfolding ◌>>=◌
        primitive_rows l n q h = primitive_body ∙ rw (g, h)

-- ---- the head in the area

name_short : Gives (λ (w : Named). length w.spelt ≤ name_limit) name
unfolding name
name_short = past _ (λ u. past _ (λ p. past _ (λ w. checked _ _ _ _ (λ t. given _ (leb-true _ _ t)))))

head_few : Gives (λ (h : Head). h.inputs ≤ input_limit) head
unfolding head
head_few = after port_list_few (λ h f. past _ (λ d. given _ f.1))

module _ (w : Named) (x : Head) (short : length w.spelt ≤ name_limit) (few : x.inputs ≤ input_limit) (d : List ℕ) where
  abbrev begun : Table
  begun = head_of w.spelt x.sequential x.inputs x.start

  head_drawn : (a : List ℕ) → length a ≡ area_size → d ≡ head_written a begun → d ≡ encode begun
  unfolding head_written head_fits head_of
  head_drawn a long e = e ∙ rw (eq-eqb (length a) area_size long, le-leb (length w.spelt) name_limit short, le-leb x.inputs input_limit few)

  head_ready : d ≡ encode begun → Begun d x.inputs
  head_ready e = rw e (head_begun w.spelt x.sequential x.inputs x.start short few)

  table_drawn : d ≡ encode begun → (l : List Row) → encode (with_rows (decode d) l) ≡ encode (table_of w x l)
  unfolding table_of head_of
  table_drawn e l =
      let s : Shaped begun = record { bounded = record { name = short; inputs = few; rows = omega arith }; columns = λ i g. absurd (omega arith) } in
      rw (e, decode_encode begun s)

-- ---- the last word, and the answer

last_word : {T : Type 0} (t : List ℕ) (behind : T → ℕ) (f : T → List ℕ) (b : Table) (d : List ℕ) (z : Answer T Refusal) → encode b ≡ d
    → drawn encode (bind (meant t behind f z) (λ v. give b)) ≡ meant t behind (λ x. d) z
last_word t behind f b d (Ok x) q = rw q
last_word t behind f b d (Err r) q = refl

begins_there : (t : List ℕ) (i : ℕ) → i < length t → or_end (got tt i (drop i t)) ≡ outcome (primitive i (drop i t))
begins_there t i h = rw (drop-cons t i 0 h)

ends_there : (t : List ℕ) (i : ℕ) → length t ≤ i → or_end (got tt i (drop i t)) ≡ end
ends_there t i h = rw (drop_of_length-le t h)

-- ---- the primitive as it is drawn

module _ (t : List ℕ) (at : ℕ) where
  abbrev pub Drawn : Result (List ℕ)
  Drawn = drawn encode (primitive at (drop at t))

  pub word_refused : (c p : ℕ) → keyword (bytes "primitive") at (drop at t) ≡ refused c p → Drawn ≡ refused c p
  word_refused c p e = rw (primitive_first at (drop at t) c p e)

  module _ (u : List ℕ) (i : ℕ) (said_word : keyword (bytes "primitive") at (drop at t) ≡ got u i (drop i t)) where
    pub name_refused : (c p : ℕ) → name i (drop i t) ≡ refused c p → Drawn ≡ refused c p
    name_refused c p e = rw (primitive_name at (drop at t) _ _ _ said_word c p e)

    module _ (w : Named) (j : ℕ) (said_name : name i (drop i t) ≡ got w j (drop j t)) where
      pub head_refused : (c p : ℕ) → head j (drop j t) ≡ refused c p → Drawn ≡ refused c p
      head_refused c p e = rw (primitive_head at (drop at t) _ _ _ said_word _ _ _ said_name c p e)

      module _ (y : Head) (m : ℕ) (said_head : head j (drop j t) ≡ got y m (drop m t)) (a d v : List ℕ) (long : length a ≡ area_size) (same : v ≡ w.spelt)
          (drew : d ≡ head_written a (head_of v y.sequential y.inputs y.start)) where
        short : length w.spelt ≤ name_limit
        short = rw said_name at (name_short.post i (drop i t))

        few : y.inputs ≤ input_limit
        few = rw said_head at (head_few.post j (drop j t))

        ready : d ≡ encode (head_of w.spelt y.sequential y.inputs y.start)
        ready = head_drawn w y short few d a long (rw same at drew)

        pub head_begins : Begun d y.inputs
        head_begins = head_ready w y short few d ready

        abbrev pub Follow : Result (List ℕ)
        Follow = drawn (λ l. encode (with_rows (decode d) l)) (rows row_limit y.sequential y.inputs [] m (drop m t))

        pub rows_refused : (c p : ℕ) → Follow ≡ refused c p → Drawn ≡ refused c p
        rows_refused c p e =
            rw (primitive_stop at (drop at t) _ _ _ said_word _ _ _ said_name _ _ _ said_head c p (drawn_refused _
            (rows row_limit y.sequential y.inputs [] m (drop m t)) c p e))

        pub primitive_drawn : (o : List ℕ) (n : ℕ) → Follow ≡ got o n (drop n t)
            → {T : Type 0} (behind : T → ℕ) (f : T → List ℕ) (z : Answer T Refusal)
            → keyword (bytes "endprimitive") n (drop n t) ≡ meant t behind f z
            → Drawn ≡ meant t behind (λ x. o) z
        primitive_drawn o n e behind f z ends =
            let l = drawn_got _ (rows row_limit y.sequential y.inputs [] m (drop m t)) o n (drop n t) e in
            rw (primitive_rows at (drop at t) _ _ _ said_word _ _ _ said_name _ _ _ said_head l.0 n (drop n t) l.1, ends)
            (last_word t behind f (table_of w y l.0) o z (sym (table_drawn w y short few d ready l.0) ∙ l.2))

-- ---- the call

module _ (t : List ℕ) (start : ℕ) (area : List ℕ) (size : length area ≡ area_size) (short : length t ≤ text_limit) (inside : start ≤ length t)
    (i : ℕ) (blank : skip start (drop start t) ≡ got tt i (drop i t)) where
  said_from : read_into t start area ≡ told area (or_end (got tt i (drop i t)))
  unfolding read_into read
  said_from = rw (eq-eqb (length area) area_size size, le-leb (length t) text_limit short, le-leb start (length t) inside, blank)

  pub read_end : length t ≤ i → read_into t start area ≡ ended_with area
  read_end h = rw (said_from, ends_there t i h)

  module _ (more : i < length t) where
    pub read_refused : (c p : ℕ) → drawn encode (primitive i (drop i t)) ≡ refused c p → read_into t start area ≡ refused_with c p area
    read_refused c p e = rw (said_from, begins_there t i more, drawn_refused encode (primitive i (drop i t)) c p e)

    pub read_table : (d : List ℕ) (e : ℕ) → drawn encode (primitive i (drop i t)) ≡ got d e (drop e t) → (b : List ℕ) → b ≡ d
        → read_into t start area ≡ written e b
    read_table d e q b w =
        let l = drawn_got encode (primitive i (drop i t)) d e (drop e t) q in
        rw (said_from, begins_there t i more, l.1, l.2, w)

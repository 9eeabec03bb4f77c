-- A reader goes forward, and leaves the bytes behind the place that it answers: so the place after a table is behind the start, and in the text.
-- Assumes nothing.
use mathlib.Core.Path.{◌≡◌, refl, sym, ap, ◌∙◌}
use mathlib.Core.List.{List, [], ◌∷◌, ◌++◌}
use mathlib.Core.Bool.{Bool, true, false, not, cond, ◌&&◌}
use Rattle.std.specs.Prelude.{Option, None, Some}
use Prim.Native.Nat.{ℕ, zero, suc, pred, ◌+◌, ◌-◌, ◌≤◌, ◌<◌}
use native.Mathlib.Omega.{arith}
use borrow.Author.Tests.{leb-true}
use lib.Dec.{eqb, leb}
use lib.ListN.{length, drop, length-drop}
use lib.Seq.{drop-drop}
use Rattle.base.specs.Limits.{text_limit}
use Rattle.base.proofs.Bools.{clash}
use Rattle.symbol.specs.Match.{is_edge}
use Rattle.table.specs.Table.{Row, Table}
use Rattle.text.specs.Bytes.{in_name}
use Rattle.text.specs.Blanks.{gap}
use Rattle.text.specs.Words.{same}
use Rattle.text.specs.Reader.{Result, got, refused, Reader, bind, ◌>>=◌, give, refuse, fault, if, check, need, here, skip, pass, byte, said, said_by, ahead, run, with, word, mark, either_mark, keyword, name}
use Rattle.grammar.specs.Header.{ports, port_list, Ports, remove, input_list, constant, initial, declarations, declared}
use Rattle.grammar.specs.Rows.{Written, saying, written, field, columns, state, row, rows}
use Rattle.grammar.specs.Reading.{primitive, Reading, table, end, refusal, outcome, or_end, read}

-- from k and s to j and t: at least e bytes further, and the bytes from there
pub record Further (e k : ℕ) (s : List ℕ) (j : ℕ) (t : List ℕ) : Type 0 where
  pub least : k + e ≤ j
  pub inside : j ≤ k + length s
  pub behind : t ≡ drop (j - k) s

abbrev pub Moved : {A : Type 0} → ℕ → ℕ → List ℕ → Result A → Type 0
Moved e k s (got a j t) = Further e k s j t
Moved e k s (refused c p) = Unit {0}

pub record Moves {A : Type 0} (e : ℕ) (m : Reader A) : Type 0 where
  pub moved : (k : ℕ) (s : List ℕ) → Moved e k s (m k s)

stays : (k : ℕ) (s : List ℕ) → Further 0 k s k s
stays k s = let h : k - k ≡ 0 = omega arith in record { least = omega arith; inside = omega arith; behind = rw h }

one_on : (k b : ℕ) (l : List ℕ) → Further 1 k (b ∷ l) (suc k) l
one_on k b l = let h : suc k - k ≡ 1 = omega arith in record { least = omega arith; inside = omega arith; behind = rw h }

more_on : {d e k : ℕ} {s : List ℕ} {j : ℕ} {t : List ℕ} {i : ℕ} {u : List ℕ} → Further d k s j t → Further e j t i u → Further (d + e) k s i u
more_on {d} {e} {k} {s} {j} {t} {i} {u} f g =
    let n : length t ≡ length s - (j - k) = ap length f.behind ∙ length-drop (j - k) s in
    let h : (j - k) + (i - j) ≡ i - k = omega (arith, f.least, g.least) in
    record { least = omega (arith, f.least, g.least); inside = omega (arith, f.least, f.inside, g.inside, n); behind = g.behind ∙ rw (f.behind, drop-drop, h) }

at_least : {e k : ℕ} {s : List ℕ} {j : ℕ} {t : List ℕ} (d : ℕ) → d ≤ e → Further e k s j t → Further d k s j t
at_least d h f = record { least = omega (arith, f.least); inside = f.inside; behind = f.behind }

weaker : {e k : ℕ} {s : List ℕ} {j : ℕ} {t : List ℕ} → Further e k s j t → Further 0 k s j t
weaker f = at_least 0 (omega arith) f

-- ---- steps

module _ {A B : Type 0} where
  goes : {d e : ℕ} {m : Reader A} {f : A → Reader B} → Moves d m → ((a : A) → Moves e (f a)) → Moves (d + e) (m >>= f)
  unfolding ◌>>=◌
  goes {d} {e} {m} {f} h g = record { moved = λ k s. go k s (m k s) (h.moved k s) }
    where
      go : (k : ℕ) (s : List ℕ) (r : Result A) → Moved d k s r → Moved (d + e) k s (bind r f)
      go k s (got a j t) p = next (f a j t) ((g a).moved j t)
        where
          next : (r : Result B) → Moved e j t r → Moved (d + e) k s r
          next (got b i u) q = more_on p q
          next (refused c q) x = tt
      go k s (refused c p) q = tt

module _ {A : Type 0} where
  less : {e : ℕ} {m : Reader A} → Moves e m → Moves 0 m
  less {e} {m} h = record { moved = λ k s. go k s (m k s) (h.moved k s) }
    where
      go : (k : ℕ) (s : List ℕ) (r : Result A) → Moved e k s r → Moved 0 k s r
      go k s (got a j t) f = weaker f
      go k s (refused c p) f = tt

  gives : (a : A) → Moves 0 (give a)
  gives a = record { moved = λ k s. stays k s }

  refuses : (c p : ℕ) → Moves 0 (refuse {A = A} c p)
  refuses c p = record { moved = λ k s. tt }

  faults : Moves 0 (fault {A = A})
  faults = record { moved = λ k s. tt }

  needs : (o : Option A) (c p : ℕ) → Moves 0 (need o c p)
  unfolding need
  needs None c p = refuses c p
  needs (Some a) c p = gives a

  ifs : (b : Bool) {m l : Reader A} → Moves 0 m → Moves 0 l → Moves 0 (if b m l)
  unfolding if
  ifs true f g = f
  ifs false f g = g

  saids : (f : ℕ → Option A) → Moves 0 (said f)
  saids f = record { moved = go }
    where
      by : (o : Option A) (k b : ℕ) (l : List ℕ) → Moved 0 k (b ∷ l) (said_by o k b l)
      by None k b l = tt
      by (Some a) k b l = weaker (one_on k b l)

      go : (k : ℕ) (s : List ℕ) → Moved 0 k s (said f k s)
      go k [] = tt
      go k (b ∷ l) = by (f b) k b l

module _ {A B : Type 0} where
  -- the usual step
  on : {m : Reader A} {f : A → Reader B} → Moves 0 m → ((a : A) → Moves 0 (f a)) → Moves 0 (m >>= f)
  on h g = less (goes h g)

checks : (b : Bool) (c p : ℕ) → Moves 0 (check b c p)
unfolding check
checks true c p = gives tt
checks false c p = refuses c p

heres : Moves 0 here
heres = record { moved = λ k s. stays k s }

aheads : (p : ℕ → Bool) → Moves 0 (ahead p)
aheads p = record { moved = go }
  where
    go : (k : ℕ) (s : List ℕ) → Moved 0 k s (ahead p k s)
    go k [] = stays k []
    go k (b ∷ l) = stays k (b ∷ l)

bytes_on : (p : ℕ → Bool) → Moves 0 (byte p)
bytes_on p = record { moved = go }
  where
    go : (k : ℕ) (s : List ℕ) → Moved 0 k s (byte p k s)
    go k [] = tt
    go k (b ∷ l) = pick (p b)
      where
        pick : (c : Bool) → Moved 0 k (b ∷ l) (cond c (got b (suc k) l) (fault k (b ∷ l)))
        pick true = weaker (one_on k b l)
        pick false = tt

passes : (m k : ℕ) (s : List ℕ) → Moved 0 k s (pass m k s)
passes m k [] = stays k []
passes zero k (b ∷ l) = pick (eqb (gap (b ∷ l)) 0) (pass (pred (gap (b ∷ l))) (suc k) l) (passes (pred (gap (b ∷ l))) (suc k) l)
  where
    pick : (c : Bool) (r : Result (Unit {0})) → Moved 0 (suc k) l r → Moved 0 k (b ∷ l) (cond c (got tt k (b ∷ l)) r)
    pick true r f = stays k (b ∷ l)
    pick false (got u j t) f = weaker (more_on (one_on k b l) f)
    pick false (refused c p) f = tt
passes (suc m) k (b ∷ l) = up (pass m (suc k) l) (passes m (suc k) l)
  where
    up : (r : Result (Unit {0})) → Moved 0 (suc k) l r → Moved 0 k (b ∷ l) r
    up (got u j t) f = weaker (more_on (one_on k b l) f)
    up (refused c p) f = tt

skips : Moves 0 skip
skips = record { moved = passes 0 }

-- a run goes as far as its word is long
abbrev Ran : ℕ → List ℕ → Result (List ℕ) → Type 0
Ran k s (got w j t) = Further (length w) k s j t
Ran k s (refused c p) = Unit {0}

runs : (k : ℕ) (s : List ℕ) → Ran k s (run k s)
runs k [] = stays k []
runs k (b ∷ l) = pick (in_name b) (run (suc k) l) (runs (suc k) l)
  where
    pick : (c : Bool) (r : Result (List ℕ)) → Ran (suc k) l r → Ran k (b ∷ l) (cond c (with b r) (got [] k (b ∷ l)))
    pick true (got w j t) f = at_least (suc (length w)) (omega arith) (more_on (one_on k b l) f)
    pick true (refused c p) f = tt
    pick false r f = stays k (b ∷ l)

-- a word with a property that every word of fewer than e bytes lacks
words : (e : ℕ) (p : List ℕ → Bool) → ((w : List ℕ) → p w ≡ true → e ≤ length w) → Moves e (word p)
unfolding word
words e p h = record { moved = λ k s. go k s (run k s) (runs k s) }
  where
    pick : (k : ℕ) (s w : List ℕ) (j : ℕ) (t : List ℕ) → Further (length w) k s j t → (c : Bool) → p w ≡ c → Moved e k s (cond c (give w) (λ j r. fault k s) j t)
    pick k s w j t f true x = at_least e (h w x) f
    pick k s w j t f false x = tt

    go : (k : ℕ) (s : List ℕ) (r : Result (List ℕ)) → Ran k s r → Moved e k s (bind r (λ w. cond (p w) (give w) (λ j r. fault k s)))
    go k s (got w j t) f = pick k s w j t f (p w) refl
    go k s (refused c p) f = tt

marks : (c : ℕ) → Moves 0 (mark c)
unfolding mark
marks c = on skips (λ u. bytes_on _)

eithers : (c d : ℕ) → Moves 0 (either_mark c d)
unfolding either_mark
eithers c d = on skips (λ u. on (bytes_on _) (λ b. gives _))

keywords_on : (b : ℕ) (w : List ℕ) → Moves 1 (keyword (b ∷ w))
unfolding keyword
keywords_on b w = goes skips (λ u. words 1 (λ v. same v (b ∷ w)) some_byte)
  where
    some_byte : (v : List ℕ) → same v (b ∷ w) ≡ true → 1 ≤ length v
    some_byte [] e = clash (sym e)
    some_byte (c ∷ v) e = omega arith

word_on : (p : List ℕ → Bool) → Moves 0 (word p)
word_on p = words 0 p (λ w e. omega arith)

names : Moves 0 name
unfolding name
names = on skips (λ u. on heres (λ p. on (word_on _) (λ w. on (checks _ _ _) (λ v. gives _))))

-- ---- the header

ports_on : (room : ℕ) (q : List ℕ) (seen : List (List ℕ)) → Moves 0 (ports room q seen)
unfolding ports
ports_on zero q seen = on names (λ w. on (checks _ _ _) (λ u. refuses _ _))
ports_on (suc room) q seen = on names (λ w. on (checks _ _ _) (λ u. on (eithers _ _) (λ more. ifs _ (ports_on room q (seen ++ (w.spelt ∷ []))) (gives _))))

port_lists : Moves 0 port_list
unfolding port_list
port_lists = on (marks _) (λ a. on names (λ q. on (marks _) (λ b. on (ports_on _ _ _) (λ l. on (marks _) (λ c. gives _)))))

list_on : (room : ℕ) (q : List ℕ) (left : List (List ℕ)) → Moves 0 (input_list room q left)
unfolding input_list
list_on zero q left = faults
list_on (suc room) q left = on names (λ w. on (checks _ _ _) (λ u. on (eithers _ _) (λ more. ifs _ (list_on room q (remove w.spelt left)) (gives _))))

constants : Moves 0 constant
unfolding constant
constants = on (bytes_on _) (λ b. on (aheads _) (λ based. ifs _ (on (bytes_on _) (λ c. on (bytes_on _) (λ d. on (bytes_on _) (λ e. gives _)))) (gives _)))

initials : (q : List ℕ) (left : List (List ℕ)) (reg : Bool) (p : ℕ) → Moves 0 (initial q left reg p)
unfolding initial
initials q left reg p =
    on (checks _ _ _) (λ a. on (checks _ _ _) (λ b. on names (λ w. on (checks _ _ _) (λ c. on (marks _) (λ d. on skips (λ e. on constants (λ v. on (marks _) (λ f. on (less (keywords_on _ _)) (λ g. gives _)))))))))

declarations_on : (room : ℕ) (q : List ℕ) (left : List (List ℕ)) (reg : Bool) → Moves 0 (declarations room q left reg)
unfolding declarations
declarations_on zero q left reg = faults
declarations_on (suc room) q left reg =
    on skips (λ a. on heres (λ p. on (word_on _) (λ w.
    ifs _ (on names (λ x. on (checks _ _ _) (λ b. on (marks _) (λ c. declarations_on room q (remove q left) reg))))
    (ifs _ (on names (λ x. on (checks _ _ _) (λ b. on (marks _) (λ c. declarations_on room q left true))))
    (ifs _ (on (list_on _ _ _) (λ l. declarations_on room q l reg))
    (ifs _ (initials _ _ _ _) (on (checks _ _ _) (λ b. gives _))))))))

declared_on : (h : Ports) → Moves 0 (declared h)
unfolding declared
declared_on h = declarations_on _ _ _ _

-- ---- rows

sayings : {A : Type 0} (f : Written → Option A) {m : Reader Written} → Moves 0 m → Moves 0 (saying f m)
unfolding saying
sayings f h = on skips (λ a. on heres (λ p. on h (λ w. needs _ _ _)))

writtens : Moves 0 written
unfolding written
writtens = on (aheads _) (λ pair. ifs _ (on (bytes_on _) (λ b. on (sayings _ (saids _)) (λ v. on (sayings _ (saids _)) (λ w. on (marks _) (λ d. gives _))))) (saids _))

fields : {A : Type 0} (f : Written → Option A) → Moves 0 (field f)
unfolding field
fields f = sayings f writtens

columns_on : (m : ℕ) (edge : Bool) → Moves 0 (columns m edge)
unfolding columns
columns_on zero edge = on skips (λ a. on heres (λ p. on (aheads _) (λ x. on (checks _ _ _) (λ b. on (marks _) (λ c. gives _)))))
columns_on (suc m) edge = on skips (λ a. on heres (λ p. on (aheads _) (λ x. on (checks _ _ _) (λ b. on (fields _) (λ s. on (columns_on m (edge && not (is_edge s))) (λ l. gives _))))))

states : (sequential : Bool) → Moves 0 (state sequential)
unfolding state
states false = gives _
states true = on (fields _) (λ l. on (marks _) (λ a. gives _))

row_on : (sequential : Bool) (n : ℕ) → Moves 0 (row sequential n)
unfolding row
row_on sequential n = on (columns_on _ _) (λ l. on (states sequential) (λ t. on (fields _) (λ o. on (marks _) (λ a. gives _))))

rows_on : (room : ℕ) (sequential : Bool) (n : ℕ) (before : List Row) → Moves 0 (rows room sequential n before)
unfolding rows
rows_on zero sequential n before = on skips (λ a. on heres (λ p. on (aheads _) (λ more. on (checks _ _ _) (λ b. on (less (keywords_on _ _)) (λ w. gives _)))))
rows_on (suc room) sequential n before =
    on skips (λ a. on heres (λ p. on (aheads _) (λ more. ifs _ (on (row_on sequential n) (λ r. on (checks _ _ _) (λ b. rows_on room sequential n (before ++ (r ∷ [])))))
    (on (less (keywords_on _ _)) (λ w. on (checks _ _ _) (λ b. gives _))))))

-- ---- the whole

primitives : Moves 1 primitive
unfolding primitive
primitives = goes (keywords_on _ _) (λ a. on names (λ w. on port_lists (λ h. on (declared_on h) (λ d. on (rows_on _ _ _ _) (λ l. on (less (keywords_on _ _)) (λ b. gives _))))))

abbrev Forward : List ℕ → ℕ → Reading → Type 0
Forward text start (table t next) = (start < next) × (next ≤ length text)
Forward text start end = Unit {0}
Forward text start (refusal c p) = Unit {0}

forward : (text : List ℕ) (start : ℕ) → Forward text start (read text start)
unfolding read
forward text start =
    go (leb (length text) text_limit) (leb start (length text)) (leb-true start (length text)) (skip start (drop start text)) (skips.moved start (drop start text))
  where
    last : (k : ℕ) (s : List ℕ) → start ≤ k → k + length s ≤ length text → (r : Result Table) → Moved 1 k s r → Forward text start (outcome r)
    last k s a b (got t j u) f = (omega (arith, f.least), omega (arith, f.inside))
    last k s a b (refused c p) f = tt

    begun : (r : Result (Unit {0})) → start ≤ length text → Moved 0 start (drop start text) r → Forward text start (or_end r)
    begun (got u k []) h f = tt
    begun (got u k (b ∷ l)) h f = last k (b ∷ l) (omega (arith, f.least)) (omega (arith, f.inside, f.least, ap length f.behind, length-drop (k - start) (drop start text), length-drop start text)) (primitive k (b ∷ l)) (primitives.moved k (b ∷ l))
    begun (refused c p) h f = tt

    go : (a b : Bool) → (b ≡ true → start ≤ length text) → (r : Result (Unit {0})) → Moved 0 start (drop start text) r → Forward text start (cond (not a) (refusal 1 text_limit) (cond (not b) (refusal 3 (length text)) (or_end r)))
    go false b h r f = tt
    go true false h r f = tt
    go true true h r f = begun r (h refl) f

pub read_forward : (text : List ℕ) (start next : ℕ) (t : Table) → read text start ≡ table t next → (start < next) × (next ≤ length text)
read_forward text start next t e = rw e at (forward text start)

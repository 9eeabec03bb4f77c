-- From `(` to `table`: the port list, the declarations, the starting value. Document 01, "Reading one primitive".
use Rattle.std.specs.Prelude.{List, [], ◌∷◌, ◌++◌, Bool, true, false, not, cond, ◌&&◌, ◌||◌, ℕ, zero, suc, ◌+◌}
use Rattle.base.specs.Limits.{input_limit}
use Rattle.value.specs.declared.Ternary.{Ternary}
use Rattle.value.specs.declared.Ternary.TheVariants.{V0, V1, Vx}
use Rattle.text.specs.Bytes.{bytes, is, letter}
use Rattle.text.specs.Words.{same, member}
use Rattle.text.specs.Reader.{Reader, ◌>>=◌, ◌>>◌, give, refuse, fault, if, check, here, skip, byte, ahead, word, sign, either, keyword, name}

-- ---- the port list: `( output, inputs );`

-- inputs up to and with `)`, behind the output q and the inputs `seen`, with room for so many more: one too many is 6, after 3, 4 and 5
unfoldable pub ports : ℕ → List ℕ → List (List ℕ) → Reader (List (List ℕ))
ports zero q seen = do
  w ← name
  check (not (member w.spelt (q ∷ seen))) 5 w.place
  refuse 6 w.place
ports (suc room) q seen = do
  w ← name
  check (not (member w.spelt (q ∷ seen))) 5 w.place
  more ← either "," ")"
  if more (ports room q (seen ++ (w.spelt ∷ []))) (give (seen ++ (w.spelt ∷ [])))

-- the first port is the output; columns follow this list
pub record Ports : Type 0 where
  pub output : List ℕ
  pub inputs : List (List ℕ)

unfoldable pub port_list : Reader Ports
port_list = do
  sign "("
  q ← name
  sign ","
  l ← ports input_limit q.spelt []
  sign ";"
  give (record { output = q.spelt; inputs = l })

-- ---- declarations: `left` has the ports not yet declared, `reg` tells whether there was one

-- a list without a word
abbrev pub remove : List ℕ → List (List ℕ) → List (List ℕ)
remove w [] = []
remove w (v ∷ l) = cond (same w v) l (v ∷ remove w l)

abbrev pub none_left : List (List ℕ) → Bool
none_left [] = true
none_left (w ∷ l) = false

-- an `input` list up to and with `;`, with room for so many names
unfoldable pub input_list : ℕ → List ℕ → List (List ℕ) → Reader (List (List ℕ))
input_list zero q left = fault
input_list (suc room) q left = do
  w ← name
  check (not (same w.spelt q) && member w.spelt left) 5 w.place
  more ← either "," ";"
  if more (input_list room q (remove w.spelt left)) (give (remove w.spelt left))

-- V: 0, 1, 1'b0, 1'b1, 1'bx, byte by byte
abbrev pub value_said : ℕ → Ternary
value_said b = cond (is b "0") V0 (cond (is b "1") V1 Vx)

unfoldable pub constant : Reader Ternary
constant = do
  b ← byte (λ b. is b "0" || is b "1")
  based ← ahead (λ c. is b "1" && is c "'")
  if based
      (do
        byte (λ c. is c "'")
        byte (λ c. letter c "b" "B")
        c ← byte (λ c. is c "0" || is c "1" || letter c "x" "X")
        give (value_said c))
      (give (value_said b))

pub record Declared : Type 0 where
  pub sequential : Bool
  pub start : Ternary

-- `initial` is read, and stood at p; after it only `table`
unfoldable pub initial : List ℕ → List (List ℕ) → Bool → ℕ → Reader Declared
initial q left reg p = do
  check reg 3 p
  check (none_left left) 5 p
  w ← name
  check (same w.spelt q) 5 w.place
  sign "="
  skip
  v ← constant
  sign ";"
  keyword (bytes "table")
  give (record { sequential = true; start = v })

-- the words that may stand among the declarations
abbrev pub declaring : List (List ℕ)
declaring = bytes "output" ∷ bytes "reg" ∷ bytes "input" ∷ bytes "initial" ∷ bytes "table" ∷ []

-- in one `input` list there are at most the ports, and a name that is none of them: more room reads the same (proofs/Enough)
abbrev pub list_room : ℕ
list_room = 2 + input_limit

-- up to and with `table`, with room for so many declarations
unfoldable pub declarations : ℕ → List ℕ → List (List ℕ) → Bool → Reader Declared
declarations zero q left reg = fault
declarations (suc room) q left reg = do
  skip
  p ← here
  w ← word (λ w. member w declaring)
  if (same w (bytes "output"))
      (do
        x ← name
        check (same x.spelt q && member q left) 5 x.place
        sign ";"
        declarations room q (remove q left) reg)
      (if (same w (bytes "reg"))
      (do
        x ← name
        check (same x.spelt q && not reg) 5 x.place
        sign ";"
        declarations room q left true)
      (if (same w (bytes "input"))
      (do
        l ← input_list list_room q left
        declarations room q l reg)
      (if (same w (bytes "initial"))
      (initial q left reg p)
      (do
        check (none_left left) 5 p
        give (record { sequential = reg; start = Vx })))))

-- there is at most one declaration for each port, one `reg`, and the word behind them: more room reads the same
abbrev pub declaration_room : ℕ
declaration_room = 3 + input_limit

unfoldable pub declared : Ports → Reader Declared
declared h = declarations declaration_room h.output (h.output ∷ h.inputs) false

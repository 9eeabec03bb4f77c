-- The entry of a verdict: `NAME n rows I @sssss` or `NAME n rows D prev cur old order1 out1 order2 out2 @sssss`, without the LF.
use Rattle.std.specs.Prelude.{◌≡◌, true, cond, List, [], ◌∷◌, ◌++◌, map, ℕ, ◌+◌, ◌/◌, ◌%◌, ◌≤◌, ltb}
use Prim.Native.Char.{code}
use Rattle.base.specs.Limits.{input_limit, row_limit}
use Rattle.value.specs.Value.{byte_of}
use Rattle.text.specs.Words.{name_fits}
use Rattle.verdict.specs.Verdict.{Witness, Finding, independent, dependent, Verdict}
use Rattle.verdict.specs.Meaning.{Fits}
use Rattle.files.specs.Parts.{join}

abbrev pub space : ℕ
space = code " "

-- the last digit of a number
abbrev pub digit_of : ℕ → ℕ
digit_of k = code "0" + k % 10

-- a number below 100, without leading zeros
abbrev pub decimal : ℕ → List ℕ
decimal k = cond (ltb k 10) (digit_of k ∷ []) (digit_of (k / 10) ∷ digit_of k ∷ [])

abbrev pub witness_fields : Witness → List (List ℕ)
witness_fields w =
    (code "D" ∷ [])
    ∷ map byte_of w.prev
    ∷ map byte_of w.cur
    ∷ (byte_of w.old ∷ [])
    ∷ map digit_of w.order1
    ∷ (byte_of w.out1 ∷ [])
    ∷ map digit_of w.order2
    ∷ (byte_of w.out2 ∷ [])
    ∷ []

abbrev pub finding_fields : Finding → List (List ℕ)
finding_fields independent = (code "I" ∷ []) ∷ []
finding_fields (dependent w) = witness_fields w

abbrev pub fields : Verdict → List (List ℕ)
fields v = v.name ∷ decimal v.inputs ∷ decimal v.rows ∷ finding_fields v.finding

-- five digits that point back to the place where the entry starts
abbrev pub trailer : ℕ → List ℕ
trailer s = code "@" ∷ digit_of (s / 10000) ∷ digit_of (s / 1000) ∷ digit_of (s / 100) ∷ digit_of (s / 10) ∷ digit_of s ∷ []

-- the entry that starts at place s: its fields, each with a space after it, and the trailer
unfoldable pub entry : ℕ → Verdict → List ℕ
entry s v = join space (fields v) ++ trailer s

-- a verdict that the layout has room for
pub record Fitting (v : Verdict) : Type 0 where
  pub named : name_fits v.name ≡ true
  pub some_inputs : 1 ≤ v.inputs
  pub few_inputs : v.inputs ≤ input_limit
  pub some_rows : 1 ≤ v.rows
  pub few_rows : v.rows ≤ row_limit
  pub found : Fits v.inputs v.finding

-- A verdict as calls hand it over, and whether it fits the layout.
use Rattle.std.specs.Prelude.{Bool, true, not, ◌&&◌, List, ℕ, zero, suc, ◌/◌, eqb, leb, ltb}
use Rattle.base.specs.Limits.{input_limit, row_limit}
use Rattle.value.specs.Value.{same_value}
use Rattle.text.specs.Words.{name_fits}
use Rattle.orders.specs.Vectors.{at}
use Rattle.verdict.specs.Verdict as words
use Rattle.verdict.specs.Meaning.{before, meant}
use Rattle.verdict.specs.declared.Witness.{Witness}
use Rattle.verdict.specs.declared.Finding.{Finding}
use Rattle.verdict.specs.declared.Finding.TheVariants.{Independent, Dependent}
use Rattle.handed.specs.declared.Verdict.{Verdict}

pub record Handed : Type 0 where
  pub name : List ℕ
  pub inputs : ℕ
  pub rows : ℕ
  pub finding : Finding

-- the code's verdict, its name as bytes
abbrev pub handed : Verdict → Handed
handed v = record { name = v.name.now; inputs = v.inputs; rows = v.rows; finding = v.finding }

-- the verdict that is meant
abbrev pub verdict_of : Handed → words.Verdict
verdict_of h = record { name = h.name; inputs = h.inputs; rows = h.rows; finding = meant h.inputs h.finding }

-- a number divided by three m times
unfoldable pub thirds : ℕ → ℕ → ℕ
thirds c zero = c
thirds c (suc m) = thirds (c / 3) m

abbrev pub within : ℕ → ℕ → Bool
within k most = leb 1 k && leb k most

unfoldable pub witness_fits : ℕ → Witness → Bool
witness_fits n w =
    leb 1 w.first
    && ltb w.first w.second
    && leb w.second n
    && eqb (thirds w.previous n) 0
    && not (same_value (at (before n w) w.first) w.first_now)
    && not (same_value (at (before n w) w.second) w.second_now)
    && not (same_value w.first_output w.second_output)

unfoldable pub finding_fits : ℕ → Finding → Bool
finding_fits n Independent = true
finding_fits n (Dependent w) = witness_fits n w

unfoldable pub fits_layout : Handed → Bool
fits_layout h = name_fits h.name && within h.inputs input_limit && within h.rows row_limit && finding_fits h.inputs h.finding

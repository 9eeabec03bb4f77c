-- Each number of an order by its place, and the verdict whose orders are listed so: where a verdict fits, it is the one that is meant.
use Rattle.std.specs.Prelude.{Option, None, Some, cond, List, [], ◌∷◌, map, ℕ, suc, ◌+◌, ◌-◌, eqb, ltb, length}
use Rattle.base.specs.Listed.{listed}
use Rattle.verdict.specs.Verdict as words
use Rattle.verdict.specs.Meaning.{before, now}
use Rattle.verdict.specs.declared.Witness.{Witness}
use Rattle.verdict.specs.declared.Finding.{Finding}
use Rattle.verdict.specs.declared.Finding.TheVariants.{Independent, Dependent}
use Rattle.handed.specs.Handed.{Handed, fits_layout}
use Rattle.value.specs.Value.{byte_of}
use Rattle.entry.specs.Entry.{digit_of, decimal, entry}
use Rattle.entry.specs.declared.Field.{Field}
use Rattle.entry.specs.declared.Field.TheVariants.{Name, Decimal, Lone, Previous, Now, FirstOrder, SecondOrder, Nothing}

-- place k of the order a, b, others rising, where lo and hi are a and b
unfoldable pub order_at : ℕ → ℕ → ℕ → ℕ → ℕ → ℕ
order_at lo hi a b k =
    cond (eqb k 0) a
    (cond (eqb k 1) b
    (cond (ltb (k - 1) lo) (cond (ltb (k - 1) hi) (k - 1) k) (cond (ltb k hi) k (k + 1))))

abbrev pub drafted : ℕ → Witness → words.Witness
drafted n w = record {
  prev = before n w;
  cur = now n w;
  old = w.old;
  order1 = listed (order_at w.first w.second w.first w.second) n;
  out1 = w.first_output;
  order2 = listed (order_at w.first w.second w.second w.first) n;
  out2 = w.second_output;
}

abbrev pub draft_finding : ℕ → Finding → words.Finding
draft_finding n Independent = words.independent
draft_finding n (Dependent w) = words.dependent (drafted n w)

abbrev pub draft : Handed → words.Verdict
draft h = record { name = h.name; inputs = h.inputs; rows = h.rows; finding = draft_finding h.inputs h.finding }

-- how long a fitting verdict's line is, its LF with it
abbrev pub length_of : Handed → Option ℕ
length_of h = cond (fits_layout h) (Some (suc (length (entry 0 (draft h))))) None

-- the bytes of a field
abbrev pub said : Field → List ℕ
said (Name name) = name.now
said (Decimal x) = decimal x
said (Lone b) = b ∷ []
said (Previous n w) = map byte_of (before n w)
said (Now n w) = map byte_of (now n w)
said (FirstOrder n w) = map digit_of (listed (order_at w.first w.second w.first w.second) n)
said (SecondOrder n w) = map digit_of (listed (order_at w.first w.second w.second w.first) n)
said Nothing = []

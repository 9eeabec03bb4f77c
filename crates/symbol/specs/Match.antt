-- What each symbol matches: document 01's table of symbols, and source 004, Table 1.
use Rattle.std.specs.Prelude.{ℕ, ◌-◌, ◌/◌, ◌%◌, Bool, true, false, not, cond, ◌&&◌, ◌||◌, ltb}
use Rattle.base.specs.Search.{some}
use Rattle.value.specs.declared.Ternary.{Ternary}
use Rattle.value.specs.declared.Ternary.TheVariants.{V0, V1, Vx}
use Rattle.value.specs.Value.{same_value, value_of}
use Rattle.symbol.specs.declared.Level.{Level}
use Rattle.symbol.specs.declared.Level.TheVariants.{Zero, One, Unknown, Binary, Any}
use Rattle.symbol.specs.declared.Symbol.{Symbol}
use Rattle.symbol.specs.declared.Symbol.TheVariants.{Held, Edge, Rise, Fall, Positive, Negative, Every}
use Rattle.symbol.specs.declared.Output.{Output}
use Rattle.symbol.specs.declared.Output.TheVariants.{Out0, Out1, Outx, Old}
use Rattle.symbol.specs.declared.Field.{Field}

-- 0, 1, x: that value; b: 0 or 1; ?: any value
unfoldable pub match_level : Level → Ternary → Bool
match_level Zero y = same_value y V0
match_level One y = same_value y V1
match_level Unknown y = same_value y Vx
match_level Binary y = same_value y V0 || same_value y V1
match_level Any y = true

-- (vw): a change from one matched by v to a different one matched by w
unfoldable pub match_edge : Level → Level → Ternary → Ternary → Bool
match_edge v w before y = not (same_value before y) && (match_level v before && match_level w y)

-- a symbol against a value that stays: only a level matches
unfoldable pub match_held : Symbol → Ternary → Bool
match_held (Held l) y = match_level l y
match_held (Edge v w) y = false
match_held Rise y = false
match_held Fall y = false
match_held Positive y = false
match_held Negative y = false
match_held Every y = false

-- a symbol against a change: only an edge matches. r is (01), f (10), p (01), (0x), (x1), n (10), (1x), (x0), * every change
unfoldable pub match_change : Symbol → Ternary → Ternary → Bool
match_change (Held l) before y = false
match_change (Edge v w) before y = match_edge v w before y
match_change Rise before y = match_edge Zero One before y
match_change Fall before y = match_edge One Zero before y
match_change Positive before y = match_edge Zero One before y || (match_edge Zero Unknown before y || match_edge Unknown One before y)
match_change Negative before y = match_edge One Zero before y || (match_edge One Unknown before y || match_edge Unknown Zero before y)
match_change Every before y = match_edge Any Any before y

-- a field: the considered input is offered as a change, every other as a value that stays
unfoldable pub match_field : Field → Bool
match_field f = cond f.considered (match_change f.symbol f.before f.current) (match_held f.symbol f.current)

unfoldable pub is_edge : Symbol → Bool
is_edge (Held l) = false
is_edge (Edge v w) = true
is_edge Rise = true
is_edge Fall = true
is_edge Positive = true
is_edge Negative = true
is_edge Every = true

-- the twelve things that a column may be offered: 0 to 2 the values, 3 to 11 the changes from a value to a value
unfoldable pub offered : Symbol → ℕ → Bool
offered s c = cond (ltb c 3) (match_held s (value_of c)) (match_change s (value_of ((c - 3) / 3)) (value_of ((c - 3) % 3)))

-- something matches both
unfoldable pub meet : Symbol → Symbol → Bool
meet s u = some 12 (λ (c : ℕ). offered s c && offered u c)

-- something matches it: (00), (11) and (xx) match nothing, and are no symbols
unfoldable pub possible : Symbol → Bool
possible s = meet s s

-- what a row with this output answers: - means the old output
unfoldable pub result_of : Output → Ternary → Ternary
result_of Out0 old = V0
result_of Out1 old = V1
result_of Outx old = Vx
result_of Old old = old

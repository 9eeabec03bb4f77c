-- What reading answers: document 01's cases, and each choice that the document leaves open. Assumes nothing.
use mathlib.Core.Path.{◌≡◌, refl}
use mathlib.Core.Bool.{true, false, cond}
use mathlib.Core.List.{List, [], ◌∷◌, ◌++◌}
use Prim.Native.Nat.{ℕ, zero, suc, ◌+◌}
use Prim.Native.String.{String}
use lib.ListN.{length}
use Rattle.value.specs.declared.Ternary.TheVariants.{V1, Vx}
use Rattle.symbol.specs.declared.Level.TheVariants.{Zero, One, Unknown, Binary, Any}
use Rattle.symbol.specs.declared.Symbol.{Symbol}
use Rattle.symbol.specs.declared.Symbol.TheVariants.{Held, Edge, Rise, Negative, Every}
use Rattle.symbol.specs.declared.Output.{Output}
use Rattle.symbol.specs.declared.Output.TheVariants.{Out0, Out1, Outx, Old}
use Rattle.table.specs.Table.{Row}
use Rattle.text.specs.Bytes.{bytes, is}
use Rattle.grammar.specs.Reading.{read, readers, Reading, table, end, refusal}

-- ---- cases: a text with a mark ^ at the place of a refusal, or at the place after a table

data Case : Type 0 where
  -- refused with that number
  no : ℕ → String → Case
  yes : String → Case

data Answer : Type 0 where
  refused : ℕ → ℕ → Answer
  up_to : ℕ → Answer
  blanks : Answer

answer_of : Reading → Answer
answer_of (table t next) = up_to next
answer_of end = blanks
answer_of (refusal c p) = refused c p

marked : Case → List ℕ
marked (no c s) = bytes s
marked (yes s) = bytes s

-- the text, and the bytes before its mark
unmarked : List ℕ → List ℕ
unmarked [] = []
unmarked (b ∷ l) = cond (is b "^") l (b ∷ unmarked l)

before : List ℕ → ℕ
before [] = 0
before (b ∷ l) = cond (is b "^") 0 (suc (before l))

wanted : ℕ → Case → Answer
wanted p (no c s) = refused c p
wanted p (yes s) = up_to p

-- behind a front that all texts have
answers : String → List Case → List Answer
answers front [] = []
answers front (c ∷ l) = answer_of (read (bytes front ++ unmarked (marked c)) 0) ∷ answers front l

expected : String → List Case → List Answer
expected front [] = []
expected front (c ∷ l) = wanted (length (bytes front) + before (marked c)) c ∷ expected front l

opened : Unit {0}
unfolding answer_of marked unmarked before wanted answers expected readers
opened = tt

-- ---- blanks, comments, words, the port list

headers : List Case
headers =
    no 2 "^/* c" ∷ no 2 " //\n/**/ ^/*/" ∷ no 2 "/**/^/*/" ∷ no 2 "primitive p ^/* (q"
    ∷ no 3 "^/" ∷ no 3 "^x" ∷ no 3 "^primitives p" ∷ no 3 "^Primitive p" ∷ no 3 "^primitiveprimitiveprimitiveprimitive" ∷ no 3 "^table"
    ∷ no 3 "primitive^" ∷ no 3 "primitive p^" ∷ no 3 "primitive p //c\n^" ∷ no 3 "primitive ^reg(q,a);" ∷ no 3 "primitive ^1p(" ∷ no 3 "primitive ^$p("
    ∷ no 3 "primitive p(q^)" ∷ no 3 "primitive p(^)" ∷ no 3 "primitive p(q,^)" ∷ no 3 "primitive p(q,a^;" ∷ no 3 "primitive p(q,a)^," ∷ no 3 "primitive p(^output q,a);"
    ∷ no 4 "primitive ^nnnnnnnnnnnnnnnnnnnnnnnnnnnnnnnnn(q,a);" ∷ no 4 "primitive p(^nnnnnnnnnnnnnnnnnnnnnnnnnnnnnnnnn,a);" ∷ no 4 "primitive p(q,^nnnnnnnnnnnnnnnnnnnnnnnnnnnnnnnnn"
    ∷ no 5 "primitive p(q,^q" ∷ no 5 "primitive p(q,a,^q" ∷ no 5 "primitive p(q,a,b,^a"
    ∷ no 6 "primitive p(q,a,b,c,d,e,f,g,h,i,^j" ∷ no 5 "primitive p(q,a,b,c,d,e,f,g,h,i,^a" ∷ no 4 "primitive p(q,a,b,c,d,e,f,g,h,i,^nnnnnnnnnnnnnnnnnnnnnnnnnnnnnnnnn"
    ∷ no 3 "primitive p(q,a,b,c,d,e,f,g,h,i,^reg" ∷ no 2 "primitive p(q,a,b,c,d,e,f,g,h,i,^/*"
    ∷ no 5 "primitive p(q,a,b,c,d,e,f,g,h,i);input a,b,c,d,e,f,g,h,i,^j"
    ∷ yes "primitive nnnnnnnnnnnnnnnnnnnnnnnnnnnnnnnn(q,Q);output q;input Q;table 0:0;endtable endprimitive^"
    ∷ yes "primitive p(q,a,b,c,d,e,f,g,h,i);input i,h,g,f,e,d,c,b,a;output q;table 000000000:0;endtable endprimitive^"
    ∷ yes "primitive p(q,a,b,c,d,e,f,g,h,i);input a;input b;input c;input d;input e;input f;input g;input h;input i;reg q;output q;table(01)00000000:0:0;endtable endprimitive^"
    ∷ []

headers_so : answers "" headers ≡ expected "" headers
unfolding opened headers
headers_so = refl

-- ---- declarations

declares : List Case
declares =
    no 2 "output ^/*" ∷ no 3 "^" ∷ no 3 "^q" ∷ no 3 "^endtable" ∷ no 3 "^table0" ∷ no 3 "^outputq;" ∷ no 3 "^Output q;" ∷ no 3 "output q;input a;^"
    ∷ no 3 "output q^,a;" ∷ no 3 "output ^reg q;" ∷ no 3 "reg q^," ∷ no 3 "input ^;" ∷ no 3 "input a,^;" ∷ no 3 "input a ^b"
    ∷ no 4 "input ^nnnnnnnnnnnnnnnnnnnnnnnnnnnnnnnnn;"
    ∷ no 5 "output ^a;" ∷ no 5 "output q; output ^q;" ∷ no 5 "output ^z;" ∷ no 5 "reg ^a;" ∷ no 5 "reg q;reg ^q;" ∷ no 5 "reg ^z;"
    ∷ no 5 "input ^q;" ∷ no 5 "input a;input ^a;" ∷ no 5 "input a,^a;" ∷ no 5 "input ^z;"
    ∷ no 5 "^table" ∷ no 5 "output q;^table" ∷ no 5 "reg q;input a;^table" ∷ no 5 "output q;reg q;^initial q=1;"
    ∷ no 3 "output q;input a;^initial q=1;" ∷ no 3 "^initial q=1;"
    ∷ []

declares_so : answers "primitive p(q,a);" declares ≡ expected "primitive p(q,a);" declares
unfolding opened declares
declares_so = refl

starts : List Case
starts =
    no 2 "q=1'^/*" ∷ no 2 "q=1'b^/*"
    ∷ no 3 "^reg" ∷ no 3 "q^;" ∷ no 3 "q=^;" ∷ no 3 "q=^x;" ∷ no 3 "q=^2;" ∷ no 3 "q=1^" ∷ no 3 "q=0^1;" ∷ no 3 "q=0^'b0;"
    ∷ no 3 "q=1'^c0;" ∷ no 3 "q=1'b^2;" ∷ no 3 "q=1'b^" ∷ no 3 "q=1 ^'b0;" ∷ no 3 "q=1'^ b0;" ∷ no 3 "q=1'^/**/b0;" ∷ no 3 "q=1'b0^x;"
    ∷ no 3 "q=1'bX;^reg q;" ∷ no 3 "q=1'B1;^input a;" ∷ no 3 "q=0;^initial q=0;"
    ∷ no 5 "^a=0;"
    ∷ []

starts_so : answers "primitive p(q,a);output q;reg q;input a;initial " starts ≡ expected "primitive p(q,a);output q;reg q;input a;initial " starts
unfolding opened starts
starts_so = refl

-- ---- rows of two columns, with `reg` and without

row_cases : List Case
row_cases =
    no 2 "^/*" ∷ no 2 "(0^/*" ∷ no 2 "0 1:0:0;endtable ^/*"
    ∷ no 3 "^" ∷ no 3 "^endtable" ∷ no 3 "^table0" ∷ no 3 "r^eg" ∷ no 3 "^)" ∷ no 3 "^;" ∷ no 3 "^/" ∷ no 3 "*//c\n 1:?:-;*/*c*/0:?:-;^/"
    ∷ no 3 "0 1^" ∷ no 3 "0 1^;" ∷ no 3 "0^;" ∷ no 3 "0^," ∷ no 3 "0 1^)" ∷ no 3 "0 1/*/:/*/: ^"
    ∷ no 7 "0^:" ∷ no 7 "^:" ∷ no 7 "(01)^:" ∷ no 7 "(0/*)*/1)^:" ∷ no 7 "01^0" ∷ no 7 "01^r" ∷ no 7 "01^-" ∷ no 7 "01^(" ∷ no 7 "01^(r"
    ∷ no 8 "^-" ∷ no 8 "0 ^-" ∷ no 8 "r ^r" ∷ no 8 "r ^*" ∷ no 8 "r ^(01)" ∷ no 8 "p^rimitive"
    ∷ no 3 "(^" ∷ no 3 "(0^" ∷ no 3 "(^)" ∷ no 3 "(0^)" ∷ no 3 "(^(" ∷ no 3 "(0^(" ∷ no 3 "(^:" ∷ no 3 "(0^:" ∷ no 3 "(0^;" ∷ no 3 "(^q" ∷ no 3 "(01^1" ∷ no 3 "(01^:"
    ∷ no 8 "(^r" ∷ no 8 "(0^F" ∷ no 8 "(^p" ∷ no 8 "(0^n" ∷ no 8 "(^*" ∷ no 8 "(^-" ∷ no 8 "r (0^r"
    ∷ no 8 "^(00)" ∷ no 8 "^(0 0 )" ∷ no 8 "^(11)" ∷ no 8 "^(xx)" ∷ no 8 "^(xX)" ∷ no 8 "^(x/*c*/X)"
    ∷ no 3 "0 1:^:" ∷ no 3 "0 1:^;" ∷ no 3 "0 1:0^;" ∷ no 3 "0 1:0^0" ∷ no 3 "0 1:0^r" ∷ no 3 "0 1:0:^;" ∷ no 3 "0 1:0:^:" ∷ no 3 "0 1:0:1^:" ∷ no 3 "0 1:0:1^1" ∷ no 3 "0 1:0:1^"
    ∷ no 8 "0 1:^r" ∷ no 8 "0 1:^-" ∷ no 8 "0 1:^(01)" ∷ no 8 "0 1:(0^r"
    ∷ no 8 "0 1:0:^b" ∷ no 8 "0 1:0:^?" ∷ no 8 "0 1:0:^r" ∷ no 8 "0 1:0:^*" ∷ no 8 "0 1:0:^(01)"
    ∷ no 3 "0 1:0:0;^endtables" ∷ no 3 "0 1:0:0;^endprimitive" ∷ no 3 "0 1:0:0;endtable^" ∷ no 3 "0 1:0:0;endtable ^0" ∷ no 3 "0 1:0:0;endtable ^endprimitive$"
    ∷ []

rows_so : answers "primitive p(q,a,b);output q;reg q;input a,b;table " row_cases ≡ expected "primitive p(q,a,b);output q;reg q;input a,b;table " row_cases
unfolding opened row_cases
rows_so = refl

agreements : List Case
agreements =
    no 9 "0 ?:?:0;^? 1:?:1;" ∷ no 9 "0 0:x:0; ^0 0:X:1;" ∷ no 9 "0 0:0:0;^0 0:0:-;" ∷ no 9 "r 0:?:0;^(01) 0:?:1;" ∷ no 9 "* 0:?:0;^P 0:?:1;"
    ∷ no 9 "? (b0):?:0; ? (0b):?:1; ^? f:?:1;" ∷ no 9 "0 (?0):?:0;^0 f:?:1;" ∷ no 9 "0 (?0):?:0;^0 (x0):?:1;"
    ∷ no 3 "0 ?:?:0;? 1:?:1^" ∷ no 8 "0 ?:?:0;? 1:?:^b"
    ∷ yes "b 1:0:0; 0 ?:1:1;endtable endprimitive^" ∷ yes "0 0:?:0;0 0:?:0;endtable endprimitive^"
    ∷ yes "? r:?:0;? ?:?:1;endtable endprimitive^" ∷ yes "r 0:?:0;0 r:?:1;endtable endprimitive^"
    ∷ yes "? (b0):?:0;? (0b):?:1;endtable endprimitive^" ∷ yes "0 (?0):?:0;0 r:?:1;endtable endprimitive^"
    ∷ yes "(bb) 0:?:0;(??) 1:?:1;endtable endprimitive^" ∷ yes "0 0:0:0;endtable endprimitive^/*" ∷ yes "0 0:0:0;endtable endprimitive^;"
    ∷ []

agreements_so : answers "primitive p(q,a,b);output q;reg q;input a,b;table " agreements ≡ expected "primitive p(q,a,b);output q;reg q;input a,b;table " agreements
unfolding opened agreements
agreements_so = refl

plain : List Case
plain =
    no 8 "^r" ∷ no 8 "^*" ∷ no 8 "0 ^(01)" ∷ no 8 "0 (0^r" ∷ no 7 "0^:" ∷ no 3 "0 1^;"
    ∷ no 8 "0 1:^?" ∷ no 8 "0 1:^-" ∷ no 8 "0 1:^b" ∷ no 3 "0 1:^;" ∷ no 3 "0 1:0^:0;" ∷ no 9 "0 ?:0;^? 1:1;"
    ∷ yes "0 X:1;endtable endprimitive^"
    ∷ []

plain_so : answers "primitive p(q,a,b);output q;input a,b;table " plain ≡ expected "primitive p(q,a,b);output q;input a,b;table " plain
unfolding opened plain
plain_so = refl

-- ---- at most 64 rows

rows_of : ℕ → String → List ℕ
rows_of zero last = bytes last
rows_of (suc n) last = bytes "?:?:-;" ++ rows_of n last

big : ℕ → String → Answer
big n last = answer_of (read (bytes "primitive p(q,a);output q;reg q;input a;table " ++ rows_of n last) 0)

rows_64 : (big 64 "endtable endprimitive" ≡ up_to 451) × (big 64 "-" ≡ refused 6 430) × (big 64 ":" ≡ refused 6 430) × (big 64 ")" ≡ refused 3 430) × (big 63 "-" ≡ refused 8 424)
unfolding opened rows_of big
rows_64 = (refl, refl, refl, refl, refl)

-- ---- other bytes, other starts, nothing but blanks

blank_so : (read [] 0 ≡ end) × (read (bytes " \t\r\n") 0 ≡ end) × (read (12 ∷ []) 0 ≡ end) × (read (bytes "//") 0 ≡ end) × (read (bytes "/*/*/") 0 ≡ end)
    × (read (bytes " /* c */ // d") 0 ≡ end) × (read (bytes "x") 1 ≡ end) × (read (bytes "x ") 3 ≡ refusal 3 2)
    × (read (11 ∷ []) 0 ≡ refusal 3 0) × (read (0 ∷ []) 0 ≡ refusal 3 0) × (read (128 ∷ []) 0 ≡ refusal 3 0) × (read (bytes "//" ++ (255 ∷ [])) 0 ≡ end)
unfolding readers
blank_so = (refl, refl, refl, refl, refl, refl, refl, refl, refl, refl, refl, refl)

-- ---- tables

row_of : Symbol → Symbol → Output → Row
row_of s u o = record { symbols = s ∷ u ∷ []; state = Any; output = o }

keep : String
keep = "primitive keep(q,d,en);\noutput q; reg q; input en,d;\ntable\n? 0:?:-;\n0 1:?:0;\n1 1:?:1;\nendtable\nendprimitive\n"

keep_is : ℕ → Reading
keep_is next = table (record {
  name = bytes "keep";
  sequential = true;
  inputs = 2;
  start = Vx;
  rows = row_of (Held Any) (Held Zero) Old ∷ row_of (Held Zero) (Held One) Out0 ∷ row_of (Held One) (Held One) Out1 ∷ [];
}) next

keep_so : (read (bytes keep) 0 ≡ keep_is 107) × (read (bytes keep ++ bytes keep) 107 ≡ keep_is 215) × (read (bytes keep) 107 ≡ end)
unfolding readers keep keep_is row_of
keep_so = (refl, refl, refl)

take_so : read (bytes "primitive take(q,a,b);reg q;output q;input a;input b;table 0 r:?:0; 1 r:?:1; ? n:?:-; * ?:?:-; endtable endprimitive") 0
    ≡ table (record {
      name = bytes "take";
      sequential = true;
      inputs = 2;
      start = Vx;
      rows = row_of (Held Zero) Rise Out0 ∷ row_of (Held One) Rise Out1 ∷ row_of (Held Any) Negative Old ∷ row_of Every (Held Any) Old ∷ [];
    }) 116
unfolding readers row_of
take_so = refl

mix_so : read (bytes "primitive mix(q,a,b);output q;reg q;input b,a;table 1 ?:?:1; ? r:?:0; endtable endprimitive") 0
    ≡ table (record { name = bytes "mix"; sequential = true; inputs = 2; start = Vx; rows = row_of (Held One) (Held Any) Out1 ∷ row_of (Held Any) Rise Out0 ∷ [] }) 91
unfolding readers row_of
mix_so = refl

par_so : read (bytes "primitive par(q,a,b);input a,b;output q;table 0 0:0; 0 1:1; 1 0:1; 1 1:0; endtable endprimitive") 0
    ≡ table (record {
      name = bytes "par";
      sequential = false;
      inputs = 2;
      start = Vx;
      rows = row_of (Held Zero) (Held Zero) Out0 ∷ row_of (Held Zero) (Held One) Out1 ∷ row_of (Held One) (Held Zero) Out1 ∷ row_of (Held One) (Held One) Out0 ∷ [];
    }) 95
unfolding readers row_of
par_so = refl

-- blanks wherever they may stand, capitals, a name that is a port's and a word of Verilog
module_so : read (bytes "// lib\nprimitive module ( module , a$ , _B ) ; /* x */ input _B;\n\treg module; output module;input a$ ; initial module = 1'B1;\ntable?*:?:-;//c\n R b : X : x ; ( 0 /**/ X ) 1 : 1 : 0 ; endtable\r endprimitive//") 0
    ≡ table (record {
      name = bytes "module";
      sequential = true;
      inputs = 2;
      start = V1;
      rows =
          row_of (Held Any) Every Old
          ∷ record { symbols = Rise ∷ Held Binary ∷ []; state = Unknown; output = Outx }
          ∷ record { symbols = Edge Zero Unknown ∷ Held One ∷ []; state = One; output = Out0 }
          ∷ [];
    }) 204
unfolding readers row_of
module_so = refl

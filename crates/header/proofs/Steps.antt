-- The declarations, one at a time. Assumes nothing.
use Rattle.std.proofs.Common.{◌≡◌, ℕ, suc, ◌+◌, ◌-◌, ◌≤◌, ◌<◌, Bool, true, false, not, ◌&&◌, List, ◌∷◌, length, get_or, drop, refl, sym, ap, ◌∙◌, arith, length-drop}
use lib.ListN.{set, length-set, replicate}
use Rattle.base.specs.Limits.{input_limit}
use Rattle.value.specs.declared.Ternary.{Ternary}
use Rattle.value.specs.declared.Ternary.TheVariants.{Vx}
use Rattle.text.specs.Words.{same, member}
use Rattle.text.specs.Reader.{Result, got, refused, Reader, bind, ◌>>=◌, ◌>>◌, give, check, if, skip, word, fault, Named, name, sign}
use Rattle.grammar.specs.Header.{declaring, declarations, declaration_room, remove, input_list, list_room, initial, none_left, ports, Ports as Heading}
use Rattle.declaration.specs.Declaration.{declare, declaring_word, starting_at}
use Rattle.declaration.specs.declared.Declaring.{Declaring}
use Rattle.declaration.specs.declared.Declaring.TheVariants.{Output, Reg, Input, Initial, Table}
use Rattle.ports.specs.Names.{down, all_up}
use Rattle.ports.specs.Ports.{all, output, ports_behind}
use Rattle.ports.specs.declared.Ports.{Ports}
use Rattle.ports.proofs.Flags.{output_left, output_raised, none_left_lem, down_fresh}
use Rattle.ports.proofs.Keeping.{names_length, names_cons}
use Rattle.header.specs.Heads.{head_with}
use Rattle.header.specs.declared.Head.{Head}

-- a declaration of the output, and what follows it
module _ {A : Type 0} (q : List ℕ) (fresh : Bool) (m : Reader A) where
  declare_then : (k : ℕ) (s : List ℕ)
      → bind (name k s) (λ x. check (same x.spelt q && fresh) 5 x.place >> (sign ";" >> m)) ≡ bind (declare q fresh k s) (λ v. m)
  unfolding declare ◌>>=◌ check
  declare_then k s = go (name k s)
    where
      go : (r : Result Named)
          → bind r (λ x. check (same x.spelt q && fresh) 5 x.place >> (sign ";" >> m)) ≡ bind (bind r (λ x. check (same x.spelt q && fresh) 5 x.place >> sign ";")) (λ v. m)
      go (got x j r) = pick (same x.spelt q && fresh)
        where
          pick : (b : Bool) → (check b 5 x.place >> (sign ";" >> m)) j r ≡ bind ((check b 5 x.place >> sign ";") j r) (λ v. m)
          pick true = refl
          pick false = refl
      go (refused c p) = refl

module _ (m : ℕ) (q : List ℕ) (left : List (List ℕ)) (reg : Bool) (k : ℕ) (s : List ℕ) (p : ℕ) (r : List ℕ) (e : skip k s ≡ got tt p r) where
  pub turn_fault : (c x : ℕ) → word (λ w. member w declaring) p r ≡ refused c x → declarations (suc m) q left reg k s ≡ refused c x
  unfolding declarations ◌>>=◌
  turn_fault c x f = rw (e, f)

  module _ (j : ℕ) (z : List ℕ) where
    abbrev Word : Declaring → Type 0
    Word d = word (λ w. member w declaring) p r ≡ got (declaring_word d) j z

    pub turn_output : Word Output → declarations (suc m) q left reg k s ≡ bind (declare q (member q left) j z) (λ v. declarations m q (remove q left) reg)
    unfolding declarations ◌>>=◌ if
    turn_output f = rw (e, f) (declare_then q (member q left) (declarations m q (remove q left) reg) j z)

    pub turn_reg : Word Reg → declarations (suc m) q left reg k s ≡ bind (declare q (not reg) j z) (λ v. declarations m q left true)
    unfolding declarations ◌>>=◌ if
    turn_reg f = rw (e, f) (declare_then q (not reg) (declarations m q left true) j z)

    pub turn_input : Word Input → declarations (suc m) q left reg k s ≡ bind (input_list list_room q left j z) (λ l. declarations m q l reg)
    unfolding declarations ◌>>=◌ if
    turn_input f = rw (e, f)

    pub turn_initial : Word Initial → declarations (suc m) q left reg k s ≡ initial q left reg p j z
    unfolding declarations ◌>>=◌ if
    turn_initial f = rw (e, f)

    pub turn_table : Word Table → declarations (suc m) q left reg k s ≡ bind (check (none_left left) 5 p j z) (λ u. give (record { sequential = reg; start = Vx }))
    unfolding declarations ◌>>=◌ if
    turn_table f = rw (e, f)

-- ---- the declarations of the ports p

abbrev pub Start : List ℕ → ℕ → Ports → Result Head
Start t at p = bind (declarations declaration_room (output p) (all p) false at (drop at t)) (head_with p.inputs)

-- they go on at i, with these flags up and room for so many more
pub record Going (t : List ℕ) (at : ℕ) (p : Ports) (up : List Bool) (reg : Bool) (i room : ℕ) : Type 0 where
  pub long : length up ≡ input_limit + 1
  pub said : Start t at p ≡ bind (declarations room (output p) (down (all p) up) reg i (drop i t)) (head_with p.inputs)

pub going_none : (t : List ℕ) (at : ℕ) (p : Ports) → Going t at p (replicate (input_limit + 1) false) false at declaration_room
going_none t at p = record { long = refl; said = rw (down_fresh (all p) (input_limit + 1)) }

pub no_room : (t : List ℕ) (at : ℕ) (p : Ports) (up : List Bool) (reg : Bool) (i : ℕ) → Going t at p up reg i 0 → Start t at p ≡ fault i (drop i t)
unfolding declarations
no_room t at p up reg i g = g.said

module _ (t : List ℕ) (at : ℕ) (p : Ports) (up : List Bool) (reg : Bool) (i n : ℕ) (h : n < declaration_room) (left : Going t at p up reg i
    (declaration_room - n)) where
  abbrev room : ℕ
  room = declaration_room - (n + 1)

  g : Going t at p up reg i (suc room)
  g = let r : declaration_room - n ≡ suc (declaration_room - (n + 1)) = omega arith in rw r at left

  room_left : p.inputs < length p.names
  room_left = let a : length p.names ≡ input_limit + 1 = p.long in let b : p.inputs ≤ input_limit = p.few in omega arith

  shape : all p ≡ output p ∷ drop 1 (all p)
  shape = names_cons p.names p.inputs room_left

  alone : member (output p) (drop 1 (all p)) ≡ false
  alone = (rw shape at p.distinct).0

  output_test : member (output p) (down (all p) up) ≡ not (get_or up 0 false)
  output_test = rw shape (output_left (output p) (drop 1 (all p)) up alone (omega (arith, left.long)))

  output_raise : remove (output p) (down (all p) up) ≡ down (all p) (set up 0 true)
  output_raise = rw shape (output_raised (output p) (drop 1 (all p)) up alone (omega (arith, left.long)))

  -- no port is left
  pub all_up_lem : none_left (down (all p) up) ≡ all_up (p.inputs + 1) up
  all_up_lem = none_left_lem (all p) up ∙ ap (λ (m : ℕ). all_up m up) (names_length p.names p.inputs room_left)

  module _ (m : ℕ) (e : skip i (drop i t) ≡ got tt m (drop m t)) where
    pub no_word : (c x : ℕ) → word (λ w. member w declaring) m (drop m t) ≡ refused c x → Start t at p ≡ refused c x
    no_word c x f = g.said ∙ rw (turn_fault room (output p) (down (all p) up) reg i (drop i t) m (drop m t) e c x f)

    module _ (j : ℕ) where
      abbrev Said : Declaring → Type 0
      Said d = word (λ w. member w declaring) m (drop m t) ≡ got (declaring_word d) j (drop j t)

      pub output_cut : Said Output → (c x : ℕ) → declare (output p) (not (get_or up 0 false)) j (drop j t) ≡ refused c x → Start t at p ≡ refused c x
      output_cut f c x d = g.said ∙ rw (turn_output room (output p) (down (all p) up) reg i (drop i t) m (drop m t) e j (drop j t) f, output_test, d)

      pub output_next : Said Output → (v k : ℕ) → declare (output p) (not (get_or up 0 false)) j (drop j t) ≡ got v k (drop k t)
          → Going t at p (set up 0 true) reg k room
      output_next f v k d = record {
        long = length-set up 0 true ∙ left.long;
        said = g.said ∙ rw (turn_output room (output p) (down (all p) up) reg i (drop i t) m (drop m t) e j (drop j t) f, output_test, d, output_raise);
      }

      pub reg_cut : Said Reg → (c x : ℕ) → declare (output p) (not reg) j (drop j t) ≡ refused c x → Start t at p ≡ refused c x
      reg_cut f c x d = g.said ∙ rw (turn_reg room (output p) (down (all p) up) reg i (drop i t) m (drop m t) e j (drop j t) f, d)

      pub reg_next : Said Reg → (v k : ℕ) → declare (output p) (not reg) j (drop j t) ≡ got v k (drop k t) → Going t at p up true k room
      reg_next f v k d = record {
        long = left.long;
        said = g.said ∙ rw (turn_reg room (output p) (down (all p) up) reg i (drop i t) m (drop m t) e j (drop j t) f, d);
      }

      pub input_cut : Said Input → (c x : ℕ) → input_list list_room (output p) (down (all p) up) j (drop j t) ≡ refused c x → Start t at p ≡ refused c x
      input_cut f c x d = g.said ∙ rw (turn_input room (output p) (down (all p) up) reg i (drop i t) m (drop m t) e j (drop j t) f, d)

      pub input_next : Said Input → (more : List Bool) → length more ≡ input_limit + 1 → (k : ℕ)
          → input_list list_room (output p) (down (all p) up) j (drop j t) ≡ got (down (all p) more) k (drop k t) → Going t at p more reg k room
      input_next f more l k d = record {
        long = l;
        said = g.said ∙ rw (turn_input room (output p) (down (all p) up) reg i (drop i t) m (drop m t) e j (drop j t) f, d);
      }

      pub initial_cut : Said Initial → (c x : ℕ) → initial (output p) (down (all p) up) reg m j (drop j t) ≡ refused c x → Start t at p ≡ refused c x
      initial_cut f c x d = g.said ∙ rw (turn_initial room (output p) (down (all p) up) reg i (drop i t) m (drop m t) e j (drop j t) f, d)

      pub initial_last : Said Initial → (v : Ternary) (k : ℕ) (z : List ℕ) → initial (output p) (down (all p) up) reg m j (drop j t) ≡ got (starting_at v) k z
          → Start t at p ≡ got (record { inputs = p.inputs; sequential = true; start = v }) k z
      initial_last f v k z d = g.said ∙ rw (turn_initial room (output p) (down (all p) up) reg i (drop i t) m (drop m t) e j (drop j t) f, d)

      pub table_cut : Said Table → all_up (p.inputs + 1) up ≡ false → Start t at p ≡ refused 5 m
      unfolding check
      table_cut f u = g.said ∙ rw (turn_table room (output p) (down (all p) up) reg i (drop i t) m (drop m t) e j (drop j t) f, all_up_lem, u)

      pub table_last : Said Table → all_up (p.inputs + 1) up ≡ true
          → Start t at p ≡ got (record { inputs = p.inputs; sequential = reg; start = Vx }) j (drop j t)
      unfolding check
      table_last f u = g.said ∙ rw (turn_table room (output p) (down (all p) up) reg i (drop i t) m (drop m t) e j (drop j t) f, all_up_lem, u)

-- ---- the port list before them

module _ (room : ℕ) (q : List ℕ) (seen : List (List ℕ)) (k : ℕ) (s : List ℕ) where
  pub ports_refused : (c p : ℕ) → ports_behind room q seen k s ≡ refused c p → ports room q seen k s ≡ refused c p
  unfolding ◌>>=◌
  ports_refused c p e = go (ports room q seen k s) e
    where
      go : (r : Result (List (List ℕ))) → ◌≡◌ {A = Result Heading} (bind r (λ l. give (record { output = q; inputs = l }))) (refused c p) → r ≡ refused c p
      go (got l i z) f = absurd (cc)
      go (refused a b) f = cc

  pub ports_got : (h : Heading) (i : ℕ) (z : List ℕ) → ports_behind room q seen k s ≡ got h i z → (ports room q seen k s ≡ got h.inputs i z) × (q ≡ h.output)
  unfolding ◌>>=◌
  ports_got h i z e = go (ports room q seen k s) e
    where
      go : (r : Result (List (List ℕ))) → bind r (λ l. give (record { output = q; inputs = l })) ≡ got h i z → (r ≡ got h.inputs i z) × (q ≡ h.output)
      go (got l j y) f =
          let a : ◌≡◌ {A = Heading} (record { output = q; inputs = l }) h = cc in
          let b : j ≡ i = cc in
          let d : y ≡ z = cc in
          let n : l ≡ h.inputs = ap (λ (x : Heading). x.inputs) a in
          (rw (b, d, n), ap (λ (x : Heading). x.output) a)
      go (refused a b) f = absurd (cc)

-- the declarations behind the ports p
pub sized : (p : Ports) (q : List ℕ) (k : ℕ) (s : List ℕ) → q ≡ output p
    → bind (declarations declaration_room q (q ∷ drop 1 (all p)) false k s) (head_with (length (drop 1 (all p))))
    ≡ bind (declarations declaration_room (output p) (all p) false k s) (head_with p.inputs)
sized p q k s e =
    let a : length p.names ≡ input_limit + 1 = p.long in
    let b : p.inputs ≤ input_limit = p.few in
    let c : output p ∷ drop 1 (all p) ≡ all p = sym (names_cons p.names p.inputs (omega arith)) in
    let m : length (drop 1 (all p)) ≡ p.inputs = length-drop 1 (all p) ∙ omega (arith, names_length p.names p.inputs (omega arith)) in
    rw (e, m, c)

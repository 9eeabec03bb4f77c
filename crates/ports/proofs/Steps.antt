-- The names of a list, one at a time. Assumes nothing.
use Rattle.std.proofs.Common.{◌≡◌, ℕ, suc, ◌+◌, ◌-◌, ◌≤◌, ◌<◌, Bool, true, false, not, ◌&&◌, List, [], ◌∷◌, ◌++◌, length, get_or, drop, Some, None, refl, ◌∙◌, arith}
use Rattle.std.specs.Prelude.{is_some}
use lib.ListN.{set, length-set}
use Rattle.base.specs.Limits.{input_limit}
use Rattle.text.specs.Words.{same, member}
use Rattle.text.specs.Reader.{Result, got, refused, Reader, bind, ◌>>=◌, ◌>>◌, give, check, if, fault, Named, name, either_mark}
use Rattle.grammar.specs.Header.{ports, remove, input_list, list_room}
use Rattle.ports.specs.Names.{find, fresh, down, Distinct}
use Rattle.ports.specs.Ports.{new_name, ports_behind}
use Rattle.ports.proofs.Flags.{fresh_is, fresh_raised}

-- a name that is none of those seen, and what follows it
new_then : {A : Type 0} (seen : List (List ℕ)) (m : Named → Reader A) (k : ℕ) (s : List ℕ)
    → bind (name k s) (λ w. check (not (member w.spelt seen)) 5 w.place >> m w) ≡ bind (new_name seen k s) m
unfolding new_name ◌>>=◌ check
new_then {A} seen m k s = go (name k s)
  where
    pick : (b : Bool) (w : Named) (j : ℕ) (r : List ℕ) → bind (check b 5 w.place j r) (λ u. m w) ≡ bind (bind (check b 5 w.place j r) (λ u. give w)) m
    pick true w j r = refl
    pick false w j r = refl

    go : (r : Result Named)
        → bind r (λ w. check (not (member w.spelt seen)) 5 w.place >> m w) ≡ bind (bind r (λ w. check (not (member w.spelt seen)) 5 w.place >> give w)) m
    go (got w j r) = pick (not (member w.spelt seen)) w j r
    go (refused c p) = refl

pub new_other : (seen : List (List ℕ)) (k : ℕ) (s : List ℕ) (w : Named) (j : ℕ) (r : List ℕ) → new_name seen k s ≡ got w j r → member w.spelt seen ≡ false
unfolding new_name ◌>>=◌ check
new_other seen k s w j r e = rw e at (go (name k s))
  where
    Other : Result Named → Type 0
    Other (got w j r) = member w.spelt seen ≡ false
    Other (refused c p) = Unit {0}

    pick : (b : Bool) (w : Named) (j : ℕ) (r : List ℕ) → member w.spelt seen ≡ b → Other (bind (check (not b) 5 w.place j r) (λ u. give w))
    pick true w j r f = tt
    pick false w j r f = f

    go : (x : Result Named) → Other (bind x (λ w. check (not (member w.spelt seen)) 5 w.place >> give w))
    go (got w j r) = pick (member w.spelt seen) w j r refl
    go (refused c p) = tt

-- ---- the port list: the inputs `seen` behind the output q

module _ (q : List ℕ) (seen : List (List ℕ)) (k : ℕ) (s : List ℕ) where
  full : (w : Named) (j : ℕ) (r : List ℕ) → new_name (q ∷ seen) k s ≡ got w j r → ports_behind 0 q seen k s ≡ refused 6 w.place
  unfolding ports ◌>>=◌
  full w j r e = rw (new_then (q ∷ seen) (λ w. λ i z. refused 6 w.place) k s, e)

  full_stop : (c p : ℕ) → new_name (q ∷ seen) k s ≡ refused c p → ports_behind 0 q seen k s ≡ refused c p
  unfolding ports ◌>>=◌
  full_stop c p e = rw (new_then (q ∷ seen) (λ w. λ i z. refused 6 w.place) k s, e)

  module _ (room : ℕ) where
    abbrev on : Named → Reader (List (List ℕ))
    on w = either_mark 44 41 >>= λ more. if more (ports room q (seen ++ (w.spelt ∷ []))) (give (seen ++ (w.spelt ∷ [])))

    stop : (c p : ℕ) → new_name (q ∷ seen) k s ≡ refused c p → ports_behind (suc room) q seen k s ≡ refused c p
    unfolding ports ◌>>=◌
    stop c p e = rw (new_then (q ∷ seen) on k s, e)

    module _ (w : Named) (j : ℕ) (r : List ℕ) (e : new_name (q ∷ seen) k s ≡ got w j r) where
      cut : (c p : ℕ) → either_mark 44 41 j r ≡ refused c p → ports_behind (suc room) q seen k s ≡ refused c p
      unfolding ports ◌>>=◌
      cut c p f = rw (new_then (q ∷ seen) on k s, e, f)

      last : (i : ℕ) (z : List ℕ) → either_mark 44 41 j r ≡ got false i z
          → ports_behind (suc room) q seen k s ≡ got (record { output = q; inputs = seen ++ (w.spelt ∷ []) }) i z
      unfolding ports ◌>>=◌ if
      last i z f = rw (new_then (q ∷ seen) on k s, e, f)

      next : (i : ℕ) (z : List ℕ) → either_mark 44 41 j r ≡ got true i z → ports_behind (suc room) q seen k s ≡ ports_behind room q (seen ++ (w.spelt ∷ [])) i z
      unfolding ports ◌>>=◌ if
      next i z f = rw (new_then (q ∷ seen) on k s, e, f)

-- the ports ps are read, and the list goes on at i with room for so many more
pub record Going (t : List ℕ) (at : ℕ) (q : List ℕ) (ps : List (List ℕ)) (i room : ℕ) : Type 0 where
  pub shape : ps ≡ q ∷ drop 1 ps
  pub said : ports_behind input_limit q [] at (drop at t) ≡ ports_behind room q (drop 1 ps) i (drop i t)

pub going_none : (t : List ℕ) (at : ℕ) (q : List ℕ) (ps : List (List ℕ)) → ps ≡ q ∷ [] → Going t at q ps at input_limit
going_none t at q ps e = record { shape = rw e; said = rw e }

module _ (t : List ℕ) (at : ℕ) (q : List ℕ) (ps : List (List ℕ)) (i : ℕ) where
  pub ports_full : Going t at q ps i 0 → (w : Named) (j : ℕ) (r : List ℕ) → new_name ps i (drop i t) ≡ got w j r
      → ports_behind input_limit q [] at (drop at t) ≡ refused 6 w.place
  ports_full g w j r e = g.said ∙ full q (drop 1 ps) i (drop i t) w j r (rw (← g.shape) e)

  pub ports_full_stop : Going t at q ps i 0 → (c p : ℕ) → new_name ps i (drop i t) ≡ refused c p → ports_behind input_limit q [] at (drop at t) ≡ refused c p
  ports_full_stop g c p e = g.said ∙ full_stop q (drop 1 ps) i (drop i t) c p (rw (← g.shape) e)

  module _ (n : ℕ) (h : n < input_limit) (left : Going t at q ps i (input_limit - n)) where
    abbrev room : ℕ
    room = input_limit - (n + 1)

    g : Going t at q ps i (suc room)
    g = let r : input_limit - n ≡ suc (input_limit - (n + 1)) = omega arith in rw r at left

    pub ports_stop : (c p : ℕ) → new_name ps i (drop i t) ≡ refused c p → ports_behind input_limit q [] at (drop at t) ≡ refused c p
    ports_stop c p e = g.said ∙ stop q (drop 1 ps) i (drop i t) room c p (rw (← g.shape) e)

    module _ (w : Named) (j : ℕ) (r : List ℕ) (e : new_name ps i (drop i t) ≡ got w j r) where
      pub ports_cut : (c p : ℕ) → either_mark 44 41 j r ≡ refused c p → ports_behind input_limit q [] at (drop at t) ≡ refused c p
      ports_cut c p f = g.said ∙ cut q (drop 1 ps) i (drop i t) room w j r (rw (← g.shape) e) c p f

      module _ (more : List (List ℕ)) (x : more ≡ ps ++ (w.spelt ∷ [])) where
        grown : more ≡ q ∷ (drop 1 ps ++ (w.spelt ∷ []))
        grown = x ∙ rw g.shape

        pub ports_last : (m : ℕ) (z : List ℕ) → either_mark 44 41 j r ≡ got false m z
            → ports_behind input_limit q [] at (drop at t) ≡ got (record { output = get_or more 0 []; inputs = drop 1 more }) m z
        ports_last m z f = rw grown (g.said ∙ last q (drop 1 ps) i (drop i t) room w j r (rw (← g.shape) e) m z f)

        pub ports_next : (m : ℕ) → either_mark 44 41 j r ≡ got true m (drop m t) → Going t at q more m (input_limit - (n + 1))
        ports_next m f = record {
          shape = rw grown;
          said = rw grown (g.said ∙ next q (drop 1 ps) i (drop i t) room w j r (rw (← g.shape) e) m (drop m t) f);
        }

-- ---- an `input` list: the ports ps, of which the first is the output

-- the list goes on at i, with these flags up and room for so many names
pub record Listing (t : List ℕ) (at : ℕ) (ps : List (List ℕ)) (before up : List Bool) (i room : ℕ) : Type 0 where
  pub long : length ps ≤ length up
  pub said : input_list list_room (get_or ps 0 []) (down ps before) at (drop at t) ≡ input_list room (get_or ps 0 []) (down ps up) i (drop i t)

pub list_full : (t : List ℕ) (at : ℕ) (ps : List (List ℕ)) (before up : List Bool) (i : ℕ) → Listing t at ps before up i 0
    → input_list list_room (get_or ps 0 []) (down ps before) at (drop at t) ≡ fault i (drop i t)
unfolding input_list
list_full t at ps before up i g = g.said

module _ (q : List ℕ) (left : List (List ℕ)) (room k : ℕ) (s : List ℕ) where
  list_stop : (c p : ℕ) → name k s ≡ refused c p → input_list (suc room) q left k s ≡ refused c p
  unfolding input_list ◌>>=◌
  list_stop c p e = rw e

  module _ (w : Named) (j : ℕ) (r : List ℕ) (e : name k s ≡ got w j r) where
    list_stale : (not (same w.spelt q) && member w.spelt left) ≡ false → input_list (suc room) q left k s ≡ refused 5 w.place
    unfolding input_list ◌>>=◌ check
    list_stale f = rw (e, f)

    module _ (fresh : (not (same w.spelt q) && member w.spelt left) ≡ true) where
      list_cut : (c p : ℕ) → either_mark 44 59 j r ≡ refused c p → input_list (suc room) q left k s ≡ refused c p
      unfolding input_list ◌>>=◌ check
      list_cut c p f = rw (e, fresh, f)

      list_last : (i : ℕ) (z : List ℕ) → either_mark 44 59 j r ≡ got false i z → input_list (suc room) q left k s ≡ got (remove w.spelt left) i z
      unfolding input_list ◌>>=◌ check if
      list_last i z f = rw (e, fresh, f)

      list_next : (i : ℕ) (z : List ℕ) → either_mark 44 59 j r ≡ got true i z → input_list (suc room) q left k s ≡ input_list room q (remove w.spelt left) i z
      unfolding input_list ◌>>=◌ check if
      list_next i z f = rw (e, fresh, f)

module _ (t : List ℕ) (at : ℕ) (ps : List (List ℕ)) (before up : List Bool) (i n : ℕ) (h : n < list_room) (distinct : Distinct ps)
    (left : Listing t at ps before up i (list_room - n)) where
  abbrev q : List ℕ
  q = get_or ps 0 []

  going : Listing t at ps before up i (suc (list_room - (n + 1)))
  going = let r : list_room - n ≡ suc (list_room - (n + 1)) = omega arith in rw r at left

  test : (w : List ℕ) → (not (same w q) && member w (down ps up)) ≡ is_some (fresh (find w ps) up)
  test w = fresh_is w ps up distinct left.long

  pub input_stop : (c p : ℕ) → name i (drop i t) ≡ refused c p → input_list list_room q (down ps before) at (drop at t) ≡ refused c p
  input_stop c p e = going.said ∙ list_stop q (down ps up) (list_room - (n + 1)) i (drop i t) c p e

  module _ (w : Named) (j : ℕ) (r : List ℕ) (e : name i (drop i t) ≡ got w j r) where
    pub input_stale : fresh (find w.spelt ps) up ≡ None → input_list list_room q (down ps before) at (drop at t) ≡ refused 5 w.place
    input_stale f = going.said ∙ list_stale q (down ps up) (list_room - (n + 1)) i (drop i t) w j r e (test w.spelt ∙ rw f)

    module _ (p : ℕ) (f : fresh (find w.spelt ps) up ≡ Some p) where
      is_fresh : (not (same w.spelt q) && member w.spelt (down ps up)) ≡ true
      is_fresh = test w.spelt ∙ rw f

      raised : remove w.spelt (down ps up) ≡ down ps (set up p true)
      raised = fresh_raised w.spelt ps up p left.long f

      pub input_cut : (c x : ℕ) → either_mark 44 59 j r ≡ refused c x → input_list list_room q (down ps before) at (drop at t) ≡ refused c x
      input_cut c x m = going.said ∙ list_cut q (down ps up) (list_room - (n + 1)) i (drop i t) w j r e is_fresh c x m

      pub input_last : (m : ℕ) (z : List ℕ) → either_mark 44 59 j r ≡ got false m z
          → input_list list_room q (down ps before) at (drop at t) ≡ got (down ps (set up p true)) m z
      input_last m z x = rw (← raised) (going.said ∙ list_last q (down ps up) (list_room - (n + 1)) i (drop i t) w j r e is_fresh m z x)

      pub input_next : (m : ℕ) → either_mark 44 59 j r ≡ got true m (drop m t) → Listing t at ps before (set up p true) m (list_room - (n + 1))
      input_next m x = record {
        long = rw length-set left.long;
        said = rw (← raised) (going.said ∙ list_next q (down ps up) (list_room - (n + 1)) i (drop i t) w j r e is_fresh m (drop m t) x);
      }

-- The control variables that a property looks up are declared in it.
use Rattle.std.proofs.Common.{◌≡◌, ℕ, zero, suc, ◌+◌, ◌-◌, ◌<◌, ◌≤◌, List, [], ◌∷◌, ◌++◌, map, length, Bool, true, false, cond, Option, Some, None, refl, sym, ap, ◌∙◌, arith}
use Rattle.std.specs.List.{AllByRecursion}
use Rattle.lex_text.specs.Names.{same_text}
use Rattle.indus_tree.specs.Tree as indus
use Rattle.indus_tree.specs.Tree.{Decl}
use Rattle.indus_tree.specs.State.{lookup}
use Rattle.indus_tree.specs.Hops.{variable_number_from}
use Rattle.indus_tree.specs.declared.tree.DeclKind.{DeclKind}
use Rattle.indus_tree.specs.declared.tree.DeclKind.TheVariants.{Tele, Sensor, Header, Control}
use Rattle.flat_laws.proofs.Lookups.{number_bounds}
use Rattle.lowered_code.specs.Statements.{control_kind, read_lookups, lookups_in, block_numbers, block_lookups}
use Rattle.lowered_code.proofs.Rising.{IsDeclared, block_read}
use Rattle.lookup_tables.specs.Tables.{Lookup}
use Rattle.whole_properties.specs.Whole.{Given, decls, init, tele, check, tele_first, check_first, lookups}
use Rattle.whole_properties.specs.Asked.{IsGiven}
use Rattle.whole_properties.proofs.Facts.{kept_control}
use Rattle.whole_properties.proofs.Numbering.{lookup_of}
use Rattle.loaded_tables.specs.Rows.{declared_shape}

-- a control variable that is declared
record IsControl (ds : List Decl) (d : Decl) : Type 0 where
  found : lookup ds d.name ≡ Some d
  control : d.kind ≡ Control

-- so is each that reads look up
all_controls : (ds : List Decl) (rs : List (ℕ × Option Decl)) → AllByRecursion (λ (r : ℕ × Option Decl). IsDeclared ds r.1) rs → AllByRecursion (λ (l : ℕ × Decl). IsControl ds l.1) (lookups_in rs)
all_controls ds [] h = tt
all_controls ds (r ∷ rs) h = by_decl r.1 h.0 (all_controls ds rs h.1)
  where
    by_kind : (k : DeclKind) (d : Decl) → d.kind ≡ k → lookup ds d.name ≡ Some d → AllByRecursion (λ (l : ℕ × Decl). IsControl ds l.1) (lookups_in rs)
        → AllByRecursion (λ (l : ℕ × Decl). IsControl ds l.1) (control_kind k r.0 d ++ lookups_in rs)
    by_kind Tele d e is more = more
    by_kind Sensor d e is more = more
    by_kind Header d e is more = more
    by_kind Control d e is more = (record { found = is; control = e }, more)

    by_decl : (o : Option Decl) → IsDeclared ds o → AllByRecursion (λ (l : ℕ × Decl). IsControl ds l.1) (lookups_in rs) → AllByRecursion (λ (l : ℕ × Decl). IsControl ds l.1) (read_lookups r.0 o ++ lookups_in rs)
    by_decl None is more = more
    by_decl (Some d) is more = by_kind d.kind d refl is more

-- the variable of a lookup is declared
abbrev pub IsFound : List Decl → Lookup → Type 0
IsFound ds l = lookup ds l.decl.name ≡ Some l.decl

module _ (g : Given) (i : IsGiven g) where
  found_behind : (c : List ℕ) (ls : List (ℕ × Decl)) (rest : List Lookup) → AllByRecursion (λ (l : ℕ × Decl). IsControl (decls g) l.1) ls → AllByRecursion (IsFound g.property.decls) rest → AllByRecursion (IsFound g.property.decls) (map (lookup_of c) ls ++ rest)
  found_behind c [] rest h k = k
  found_behind c (l ∷ ls) rest h k = (kept_control g i (l.1).name l.1 h.0.found h.0.control, found_behind c ls rest h.1 k)

  found_last : (c : List ℕ) (ls : List (ℕ × Decl)) → AllByRecursion (λ (l : ℕ × Decl). IsControl (decls g) l.1) ls → AllByRecursion (IsFound g.property.decls) (map (lookup_of c) ls)
  found_last c [] h = tt
  found_last c (l ∷ ls) h = (kept_control g i (l.1).name l.1 h.0.found h.0.control, found_last c ls h.1)

  in_block : (ss : indus.Stmts) (n : ℕ) → AllByRecursion (λ (l : ℕ × Decl). IsControl (decls g) l.1) (block_lookups (decls g) ss n)
  in_block ss n = all_controls (decls g) (block_numbers (decls g) ss n) (block_read (decls g) ss n).declared

  pub all_found : AllByRecursion (IsFound g.property.decls) (lookups g)
  all_found =
      found_behind g.ingress (block_lookups (decls g) (init g) 0) _ (in_block (init g) 0)
      (found_behind g.egress (block_lookups (decls g) (tele g) (tele_first g)) _ (in_block (tele g) (tele_first g))
      (found_last g.egress (block_lookups (decls g) (check g) (check_first g)) (in_block (check g) (check_first g))))

-- ---- variables by their numbers

-- the shape of what is declared stands at its number
shape_from : (ds : List Decl) (n w : ℕ) (x : List ℕ) (d : Decl) (v : ℕ) → lookup ds x ≡ Some d → variable_number_from n ds x ≡ Some v → v ≡ n + w → declared_shape ds w ≡ d.shape
shape_from [] n w x d v e k same = absurd (cc e)
shape_from (c ∷ cs) n w x d v e k same = go (same_text c.name x) e k (λ i j low. shape_from cs (n + 1) (v - (n + 1)) x d v i j (omega (arith, low)))
  where
    behind : (u : ℕ) → w ≡ u → n + 1 ≤ v → declared_shape cs (v - (n + 1)) ≡ d.shape → declared_shape (c ∷ cs) u ≡ d.shape
    behind zero q low more = absurd (omega (arith, q, low, same))
    behind (suc u) q low more = (let same_place : v - (n + 1) ≡ u = omega (arith, q, low, same) in ap (declared_shape cs) (sym same_place) ∙ more)

    go : (b : Bool) → cond b (Some c) (lookup cs x) ≡ Some d → cond b (Some n) (variable_number_from (n + 1) cs x) ≡ Some v
        → (lookup cs x ≡ Some d → variable_number_from (n + 1) cs x ≡ Some v → n + 1 ≤ v → declared_shape cs (v - (n + 1)) ≡ d.shape) → declared_shape (c ∷ cs) w ≡ d.shape
    go true i j more =
        (let one : c ≡ d = cc in
        let number : n ≡ v = cc in
        let first : w ≡ 0 = omega (arith, number, same) in
        ap (declared_shape (c ∷ cs)) first ∙ ap (λ (a : Decl). a.shape) one)
    go false i j more = (let low : n + 1 ≤ v = (number_bounds cs (n + 1) x v j).0 in behind w refl low (more i j low))

pub shape_there : (ds : List Decl) (x : List ℕ) (d : Decl) (v : ℕ) → lookup ds x ≡ Some d → variable_number_from 0 ds x ≡ Some v → declared_shape ds v ≡ d.shape
shape_there ds x d v e k = shape_from ds 0 v x d v e k (omega arith)

pub number_within : (ds : List Decl) (x : List ℕ) (v : ℕ) → variable_number_from 0 ds x ≡ Some v → v < length ds
number_within ds x v k = (let bound = (number_bounds ds 0 x v k).1 in omega (arith, bound))

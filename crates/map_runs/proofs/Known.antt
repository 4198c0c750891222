-- What is known of the monitor's lookups: each is of a declared control variable, and holds its contents.
use Rattle.std.proofs.Common.{◌≡◌, ℕ, List, [], ◌∷◌, ◌++◌, map, Option, Some, None, refl}
use Rattle.std.specs.List.{AllByRecursion}
use Rattle.indus_tree.specs.Tree as indus
use Rattle.indus_tree.specs.Tree.{Shape, one, list, set, dict, Decl, Property}
use Rattle.indus_tree.specs.State.{Contents, single, members, pairs, lookup}
use Rattle.indus_tree.specs.Hops.{variable_number}
use Rattle.indus_tree.specs.declared.tree.DeclKind.{DeclKind}
use Rattle.indus_tree.specs.declared.tree.DeclKind.TheVariants.{Tele, Sensor, Header, Control}
use Rattle.flat_laws.proofs.States.{has_number}
use Rattle.lowered_code.specs.Names.{action_name}
use Rattle.lowered_code.specs.Statements.{control_kind, lookups_in, block_numbers, block_lookups}
use Rattle.lowered_code.proofs.Rising.{IsDeclared, block_read}
use Rattle.lookup_tables.specs.Tables.{Lookup, entries_in, entries_for}
use Rattle.whole_properties.specs.Whole.{Given, decls, init, tele, check, tele_first, check_first, lookups}
use Rattle.whole_properties.specs.Asked.{IsGiven}
use Rattle.whole_properties.proofs.Numbering.{lookup_of}
use Rattle.whole_properties.proofs.Facts.{kept_control}
use Rattle.control_maps.specs.Maps.{held_for}
use Rattle.control_maps.specs.Numbers.{HasShape}

-- ---- lookups are of control variables

-- a declared control variable, with its number
pub record IsOwn (p : Property) (d : Decl) : Type 0 where
  pub found : lookup p.decls d.name ≡ Some d
  pub control : d.kind ≡ Control
  pub number : ℕ
  pub is : variable_number p.decls d.name ≡ Some number

pub all_both : (P : Lookup → Type 0) (ls ms : List Lookup) → AllByRecursion P ls → AllByRecursion P ms → AllByRecursion P (ls ++ ms)
all_both P [] ms h k = k
all_both P (l ∷ ls) ms h k = (h.0, all_both P ls ms h.1 k)

module _ (g : Given) (i : IsGiven g) where
  abbrev pub OwnLookup : Lookup → Type 0
  OwnLookup l = IsOwn g.property l.decl

  own_decl : (d : Decl) → lookup (decls g) d.name ≡ Some d → d.kind ≡ Control → IsOwn g.property d
  own_decl d is k =
      (let found = kept_control g i d.name d is k in
      let n = has_number g.property.decls 0 d.name d found in
      record { found = found; control = k; number = n.0; is = n.1 })

  own_reads : (rs : List (ℕ × Option Decl)) → AllByRecursion (λ (r : ℕ × Option Decl). IsDeclared (decls g) r.1) rs → AllByRecursion (λ (m : ℕ × Decl). IsOwn g.property m.1) (lookups_in rs)
  own_reads [] h = tt
  own_reads ((n, None) ∷ rs) h = own_reads rs h.1
  own_reads ((n, Some d) ∷ rs) h = of_kind d.kind refl (own_reads rs h.1)
    where
      of_kind : (k : DeclKind) → d.kind ≡ k → AllByRecursion (λ (m : ℕ × Decl). IsOwn g.property m.1) (lookups_in rs) → AllByRecursion (λ (m : ℕ × Decl). IsOwn g.property m.1) (control_kind k n d ++ lookups_in rs)
      of_kind Tele e rest = rest
      of_kind Sensor e rest = rest
      of_kind Header e rest = rest
      of_kind Control e rest = (own_decl d h.0 e, rest)

  own_mapped : (c : List ℕ) (ms : List (ℕ × Decl)) → AllByRecursion (λ (m : ℕ × Decl). IsOwn g.property m.1) ms → AllByRecursion OwnLookup (map (lookup_of c) ms)
  own_mapped c [] h = tt
  own_mapped c (m ∷ ms) h = (h.0, own_mapped c ms h.1)

  own_block : (c : List ℕ) (ss : indus.Stmts) (n : ℕ) → AllByRecursion OwnLookup (map (lookup_of c) (block_lookups (decls g) ss n))
  own_block c ss n = own_mapped c (block_lookups (decls g) ss n) (own_reads (block_numbers (decls g) ss n) (block_read (decls g) ss n).declared)

  pub own_lookups : AllByRecursion OwnLookup (lookups g)
  own_lookups =
      (let first = map (lookup_of g.ingress) (block_lookups (decls g) (init g) 0) in
      let second = map (lookup_of g.egress) (block_lookups (decls g) (tele g) (tele_first g)) in
      let third = map (lookup_of g.egress) (block_lookups (decls g) (check g) (check_first g)) in
      all_both OwnLookup first (second ++ third) (own_block g.ingress (init g) 0)
      (all_both OwnLookup second third (own_block g.egress (tele g) (tele_first g)) (own_block g.egress (check g) (check_first g))))

-- ---- what their tables hold

pub held_is : (l : Lookup) (c : Contents) → HasShape l.decl.shape c → entries_for l c ≡ held_for (action_name l.control l.number) c
held_is l c h = by_shape l.decl.shape c h
  where
    by_shape : (s : Shape) (c : Contents) → HasShape s c → entries_in l s c ≡ held_for (action_name l.control l.number) c
    by_shape (one t) (single w) h = refl
    by_shape (one t) (members ks) h = absurd h
    by_shape (one t) (pairs es) h = absurd h
    by_shape (list t n) c h = absurd h
    by_shape (set ts) (single w) h = absurd h
    by_shape (set ts) (members ks) h = refl
    by_shape (set ts) (pairs es) h = absurd h
    by_shape (dict ts t) (single w) h = absurd h
    by_shape (dict ts t) (members ks) h = absurd h
    by_shape (dict ts t) (pairs es) h = refl

-- What names stand for in flat code.
use Rattle.std.proofs.Common.{◌≡◌, ◌⊎◌, inl, inr, ⊎_elim, ℕ, zero, suc, ◌+◌, ◌<◌, ◌≤◌, ◌^◌, List, [], ◌∷◌, ◌++◌, length, Bool, true, false, ◌&&◌, ◌||◌, cond, Option, Some, None, refl, sym, ap, ap₂, ◌∙◌, arith, subst}
use Rattle.bit_values.specs.Bits.{word}
use Rattle.indus_tree.specs.Tree.{Shape, one, list, set, dict, Expr, Exprs, Decl}
use Rattle.indus_tree.specs.State.{Hop, lookup, members}
use Rattle.indus_tree.specs.Hops.{variable_number}
use Rattle.indus_tree.specs.declared.tree.DeclKind.{DeclKind}
use Rattle.indus_tree.specs.declared.tree.DeclKind.TheVariants.{Tele, Sensor, Header, Control}
use Rattle.indus_tree.specs.declared.tree.Ty.{Ty}
use Rattle.indus_tree.specs.declared.tree.Ty.TheVariants as ty
use Rattle.indus_scopes.specs.Kinds.{kind_of}
use Rattle.indus_scopes.specs.Scopes.{Around, Sight, Stands as Role, item, variable, role_from, role_of, read_kind, scalar_kind, item_of, builtin_of}
use Rattle.indus_scopes.specs.Uses.{is_missing, is_hop, reads, writable}
use Rattle.indus_scopes.specs.declared.kind.Kind.{Kind}
use Rattle.indus_rules.specs.Rules.{is_init}
use Rattle.lower_lists.specs.Names.{item_name, count_name}
use Rattle.lower_lists.specs.declared.place.Bound.{Bound}
use Rattle.lower_lists.specs.Flat.{target, name_in, name_of_kind, found, or_item, source}
use Rattle.flat_laws.specs.Numbered.{scalar_decl, numbered}
use Rattle.flat_laws.proofs.NameLemmas.{slot}
use Rattle.flat_laws.proofs.Lookups.{numbered_other, IsOther}
use Rattle.flat_laws.proofs.States.{has_number, number_small}
use Rattle.flat_laws.proofs.Roles.{IsList, IsKept, Readable, scalar_var, own_name, readable, own_plain}
use Rattle.flat_laws.proofs.Values.{IsReady, name_none, name_other, count_found, item_found, scalar_found, kept_found}
use Rattle.flat_laws.proofs.FineDecls.{slot_not_own}

-- some hop, which declarations don't see
abbrev pub anyhop : Hop
anyhop = record { decls = []; headers = λ x. word 1 0; contents = λ x. members []; first = false; last = false; switch = 0 }

module _ (g : Sight) (r : IsReady g.decls) where
  abbrev ds : List Decl
  ds = g.decls

  -- what is in sight in flat code
  abbrev pub flat_sight : Sight
  flat_sight = record { edition = g.edition; decls = numbered g.decls; loops = []; block = g.block }

  abbrev inside : List Around → Sight
  inside ls = record g { loops = ls }

  -- a numbered scalar of a type
  pub record IsNumbered (y : List ℕ) (t : Ty) : Type 0 where
    pub at : ℕ
    pub free : builtin_of y ≡ None
    pub found : lookup (numbered g.decls) y ≡ Some (scalar_decl at y t)

  pub numbered_role : (y : List ℕ) (t : Ty) (n : IsNumbered y t) → role_of flat_sight y ≡ variable (scalar_decl n.at y t)
  numbered_role y t n = ap₂ (λ b o. role_from None b o) n.free n.found

  pub count_numbered : (x : List ℕ) (l : IsList ds x) (v : ℕ) → variable_number ds x ≡ Some v → IsNumbered (count_name v) (ty.Bit 8)
  count_numbered x l v e = record { at = l.decl.at; free = slot_not_own v None (number_small ds x v r.few e); found = count_found g r anyhop x l v e }

  pub item_numbered : (x : List ℕ) (l : IsList ds x) (v : ℕ) → variable_number ds x ≡ Some v → (i : ℕ) → i < l.size → IsNumbered (item_name v i) l.item
  item_numbered x l v e i lt = record { at = l.decl.at; free = slot_not_own v (Some i) (number_small ds x v r.few e); found = item_found g r anyhop x l v e i lt }

  pub scalar_numbered : (x : List ℕ) (d : Decl) (t : Ty) (v : ℕ) → lookup ds x ≡ Some d → d.kind ≡ Tele → d.shape ≡ one t → variable_number ds x ≡ Some v → IsNumbered (item_name v 0) t
  scalar_numbered x d t v e k q n = record { at = d.at; free = slot_not_own v (Some 0) (number_small ds x v r.few n); found = scalar_found g r anyhop x d t v e k q n }

  -- ---- names that stay

  pub same_role : (ls : List Around) (x : List ℕ) → item_of ds ls x ≡ None → lookup (numbered ds) x ≡ lookup ds x → role_of flat_sight x ≡ role_of (inside ls) x
  same_role ls x i e = ap (λ o. role_from None (builtin_of x) o) e ∙ ap (λ c. role_from c (builtin_of x) (lookup ds x)) (sym i)

  -- a use that no item has
  pub no_item : (f : Role → Bool) → ((k : Kind) → f (item k) ≡ false) → (k b : Option Kind) (o : Option Decl) → f (role_from k b o) ≡ true → k ≡ None
  no_item f h None b o e = refl
  no_item f h (Some k) b o e = absurd (let c : true ≡ false = sym e ∙ h k in cc)

  pub list_role : (ls : List Around) (x : List ℕ) (l : IsList ds x) → item_of ds ls x ≡ None → role_of (inside ls) x ≡ variable l.decl
  list_role ls x l i =
      ap (λ c. role_from c (builtin_of x) (lookup ds x)) i
      ∙ ap (λ b. role_from None b (lookup ds x)) (r.own x l.decl l.found)
      ∙ ap (λ o. role_from None None o) l.found

  -- ---- names that are read

  -- the name stands for a value of the same kind here and there
  pub record ReadsAs (ls : List Around) (x y : List ℕ) : Type 0 where
    pub known : is_missing (role_of flat_sight y) ≡ false
    pub used : reads (role_of flat_sight y) ≡ true
    pub kind : read_kind (role_of flat_sight y) ≡ read_kind (role_of (inside ls) x)
    pub hop : (is_hop (role_of (inside ls) x) && is_init g.block) ≡ false → (is_hop (role_of flat_sight y) && is_init g.block) ≡ false

  numbered_reads : (ls : List Around) (x y : List ℕ) (t : Ty) → IsNumbered y t → read_kind (role_of (inside ls) x) ≡ kind_of t → ReadsAs ls x y
  numbered_reads ls x y t n k =
      let role : role_of flat_sight y ≡ variable (scalar_decl n.at y t) = numbered_role y t n in
      record {
        known = ap is_missing role;
        used = ap reads role;
        kind = ap read_kind role ∙ sym k;
        hop = λ h. ap (λ q. is_hop q && is_init g.block) role;
      }

  same_reads : (ls : List Around) (x : List ℕ) → role_of flat_sight x ≡ role_of (inside ls) x → is_missing (role_of (inside ls) x) ≡ false → reads (role_of (inside ls) x) ≡ true → ReadsAs ls x x
  same_reads ls x role k u =
      record {
        known = ap is_missing role ∙ k;
        used = ap reads role ∙ u;
        kind = ap read_kind role;
        hop = λ h. ap (λ q. is_hop q && is_init g.block) role ∙ h;
      }

  -- ---- items

  -- an item is at a place of a list
  pub record IsPlaced (b : Bound) (k : Kind) : Type 0 where
    pub name : List ℕ
    pub is : IsList g.decls name
    pub number : variable_number g.decls name ≡ Some b.list
    pub within : b.turn < is.size
    pub kind : k ≡ kind_of is.item

  abbrev pub PlacedAt : Option Kind → Option Bound → Type 0
  PlacedAt None None = Unit {0}
  PlacedAt (Some k) (Some b) = IsPlaced b k
  PlacedAt _ _ = ⊥

  pub record Placed (ls : List Around) (bs : List Bound) : Type 0 where
    pub at : (x : List ℕ) → PlacedAt (item_of g.decls ls x) (found bs x)

  module _ (ls : List Around) (x : List ℕ) (known : is_missing (role_of (inside ls) x) ≡ false) (used : reads (role_of (inside ls) x) ≡ true) where
    free_kind : item_of ds ls x ≡ None → (d : Decl) (t : Ty) → lookup ds x ≡ Some d → d.shape ≡ one t → read_kind (role_of (inside ls) x) ≡ kind_of t
    free_kind i d t e sh =
        ap (λ c. read_kind (role_from c (builtin_of x) (lookup ds x))) i
        ∙ ap (λ b. read_kind (role_from None b (lookup ds x))) (r.own x d e)
        ∙ ap (λ o. read_kind (role_from None None o)) e
        ∙ ap scalar_kind sh

    kept_as : item_of ds ls x ≡ None → (d : Decl) → lookup ds x ≡ Some d → (d.kind ≡ Tele → ⊥) → ReadsAs ls x (target ds x)
    kept_as i d e ne =
        let named : target ds x ≡ x = ap (λ o. name_in (variable_number ds x) o x) e ∙ name_other (variable_number ds x) d x ne in
        subst (ReadsAs ls x) (sym named) (same_reads ls x (same_role ls x i (kept_found g r anyhop x (record { decl = d; found = e; kind = ne }))) known used)

    by_kind : item_of ds ls x ≡ None → (d : Decl) (t : Ty) → lookup ds x ≡ Some d → d.shape ≡ one t → (q : DeclKind) → d.kind ≡ q → ReadsAs ls x (target ds x)
    by_kind i d t e sh Tele q =
        let m = has_number ds 0 x d e in
        let named : target ds x ≡ item_name m.0 0 = ap₂ (λ o p. name_in o p x) m.1 e ∙ ap (λ c. name_of_kind c m.0 x) q in
        subst (ReadsAs ls x) (sym named) (numbered_reads ls x (item_name m.0 0) t (scalar_numbered x d t m.0 e q sh m.1) (free_kind i d t e sh))
    by_kind i d t e sh Sensor q = kept_as i d e (λ h. let c : Sensor ≡ Tele = sym q ∙ h in cc)
    by_kind i d t e sh Header q = kept_as i d e (λ h. let c : Header ≡ Tele = sym q ∙ h in cc)
    by_kind i d t e sh Control q = kept_as i d e (λ h. let c : Control ≡ Tele = sym q ∙ h in cc)

    own_as : item_of ds ls x ≡ None → (c : Kind) → builtin_of x ≡ Some c → (o : Option Decl) → lookup ds x ≡ o → ReadsAs ls x (target ds x)
    own_as i c b (Some d) e = absurd (let both : None ≡ Some c = sym (r.own x d e) ∙ b in cc)
    own_as i c b None e =
        let named : target ds x ≡ x = ap (λ o. name_in (variable_number ds x) o x) e ∙ name_none (variable_number ds x) x in
        subst (ReadsAs ls x) (sym named)
        (same_reads ls x (same_role ls x i (numbered_other ds 0 x (own_plain x c b) (omega (arith, r.few)) (subst IsOther (sym e) tt))) known used)

    free_as : item_of ds ls x ≡ None → Readable ds x → ReadsAs ls x (target ds x)
    free_as i (scalar_var d t e sh) = by_kind i d t e sh d.kind refl
    free_as i (own_name c e) = own_as i c e (lookup ds x) refl

    read_at : (c : Option Kind) (b : Option Bound) → item_of ds ls x ≡ c → PlacedAt c b → ReadsAs ls x (or_item b (target ds x))
    read_at None None i p = free_as i (readable (inside ls) x i known used)
    read_at (Some c) (Some b) i p =
        numbered_reads ls x (item_name b.list b.turn) p.is.item (item_numbered p.name p.is b.list p.number b.turn p.within)
        (ap (λ k. read_kind (role_from k (builtin_of x) (lookup ds x))) i ∙ p.kind)
    read_at None (Some b) i p = absurd p
    read_at (Some c) None i p = absurd p

    pub read_as : (bs : List Bound) → Placed ls bs → ReadsAs ls x (source ds bs x)
    read_as bs p = read_at (item_of ds ls x) (found bs x) refl (p.at x)

    -- outside loops
    pub target_as : item_of ds ls x ≡ None → ReadsAs ls x (target ds x)
    target_as i = free_as i (readable (inside ls) x i known used)

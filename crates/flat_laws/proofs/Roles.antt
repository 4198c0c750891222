-- What a name that is used as it should be stands for.
use Rattle.std.proofs.Common.{◌≡◌, ◌⊎◌, inl, inr, ℕ, zero, suc, List, [], ◌∷◌, ◌||◌, ◌&&◌, Bool, true, false, cond, Option, Some, None, refl, sym, ap, ◌∙◌, subst}
use Rattle.std.specs.Prelude.{codes}
use Rattle.std.proofs.lemmas.Slice.Eq.{bytes_eq-Decides}
use Rattle.lex_text.specs.Names.{same_text}
use Rattle.indus_tree.specs.Tree.{Expr, Exprs, none, more, Shape, one, list, set, dict, Decl}
use Rattle.indus_tree.specs.State.{lookup}
use Rattle.indus_tree.specs.declared.tree.DeclKind.{DeclKind}
use Rattle.indus_tree.specs.declared.tree.DeclKind.TheVariants.{Tele, Sensor, Header, Control}
use Rattle.indus_tree.specs.declared.tree.Ty.{Ty}
use Rattle.indus_scopes.specs.Scopes.{Around, Sight, Stands, missing, item, builtin, variable, role_from, role_of, item_of, builtin_of}
use Rattle.indus_scopes.specs.Uses.{is_missing, is_list, is_array, is_dict, is_one, is_scalar, reads, counts, indexed, may_hold, may_index, writable, kind_writable, shape_indexed, shape_holds}
use Rattle.indus_scopes.specs.declared.kind.Kind.{Kind}
use Rattle.indus_scopes.specs.declared.kind.Kind.TheVariants.{Number, Truth}
use Rattle.lower_lists.specs.Names.{is_plain}
use Rattle.flat_laws.proofs.Lookups.{IsOther}

clash : {A : Type 0} → true ≡ false → A
clash e = absurd (cc e)

true_false : {A : Type 0} → false ≡ true → A
true_false e = absurd (cc e)

-- ---- lists of the packet's

pub record IsList (ds : List Decl) (x : List ℕ) : Type 0 where
  pub decl : Decl
  pub item : Ty
  pub size : ℕ
  pub found : lookup ds x ≡ Some decl
  pub kind : decl.kind ≡ Tele
  pub shape : decl.shape ≡ list item size

list_decl : (ds : List Decl) (x : List ℕ) (d : Decl) → lookup ds x ≡ Some d → (k : DeclKind) (s : Shape) → d.kind ≡ k → d.shape ≡ s → is_list k s ≡ true → IsList ds x
list_decl ds x d e Tele (list t n) dk dsh h = record { decl = d; item = t; size = n; found = e; kind = dk; shape = dsh }
list_decl ds x d e Tele (one t) dk dsh h = true_false h
list_decl ds x d e Tele (set ks) dk dsh h = true_false h
list_decl ds x d e Tele (dict ks t) dk dsh h = true_false h
list_decl ds x d e Sensor s dk dsh h = true_false h
list_decl ds x d e Header s dk dsh h = true_false h
list_decl ds x d e Control s dk dsh h = true_false h

counted_at : (ds : List Decl) (x : List ℕ) (k b : Option Kind) (o : Option Decl) → lookup ds x ≡ o → is_missing (role_from k b o) ≡ false → counts (role_from k b o) ≡ true → IsList ds x
counted_at ds x (Some k) b o e m h = true_false h
counted_at ds x None (Some k) o e m h = true_false h
counted_at ds x None None None e m h = clash m
counted_at ds x None None (Some d) e m h = list_decl ds x d e d.kind d.shape refl refl h

pub counted : (g : Sight) (x : List ℕ) → is_missing (role_of g x) ≡ false → counts (role_of g x) ≡ true → IsList g.decls x
counted g x m h = counted_at g.decls x (item_of g.decls g.loops x) (builtin_of x) (lookup g.decls x) refl m h

-- ---- names that are read

-- a scalar, or a name of the language's own
pub data Readable (ds : List Decl) (x : List ℕ) : Type 0 where
  scalar_var : (d : Decl) (t : Ty) → lookup ds x ≡ Some d → d.shape ≡ one t → Readable ds x
  own_name : (k : Kind) → builtin_of x ≡ Some k → Readable ds x

scalar_decl_at : (ds : List Decl) (x : List ℕ) (d : Decl) → lookup ds x ≡ Some d → (s : Shape) → d.shape ≡ s → is_scalar s ≡ true → Readable ds x
scalar_decl_at ds x d e (one t) q h = scalar_var d t e q
scalar_decl_at ds x d e (list t n) q h = true_false h
scalar_decl_at ds x d e (set ks) q h = true_false h
scalar_decl_at ds x d e (dict ks t) q h = true_false h

readable_at : (ds : List Decl) (x : List ℕ) (b : Option Kind) (o : Option Decl) → builtin_of x ≡ b → lookup ds x ≡ o → is_missing (role_from None b o) ≡ false → reads (role_from None b o) ≡ true → Readable ds x
readable_at ds x (Some k) o eb e m h = own_name k eb
readable_at ds x None None eb e m h = clash m
readable_at ds x None (Some d) eb e m h = scalar_decl_at ds x d e d.shape refl h

-- a name that is read and is no item
pub readable : (g : Sight) (x : List ℕ) → item_of g.decls g.loops x ≡ None → is_missing (role_of g x) ≡ false → reads (role_of g x) ≡ true → Readable g.decls x
readable g x i m h =
    readable_at g.decls x (builtin_of x) (lookup g.decls x) refl refl
    (ap (λ o. is_missing (role_from o (builtin_of x) (lookup g.decls x))) (sym i) ∙ m)
    (ap (λ o. reads (role_from o (builtin_of x) (lookup g.decls x))) (sym i) ∙ h)

-- names of the language's own are plain
plain_by : (x y : List ℕ) (b : Bool) → same_text x y ≡ b → is_plain y ≡ true → (b ≡ false → is_plain x ≡ true) → is_plain x ≡ true
plain_by x y true e h rest = ap is_plain ((bytes_eq-Decides x y).0 e) ∙ h
plain_by x y false e h rest = rest refl

none_left : (a b c : Bool) (t n : Option Kind) → a ≡ false → b ≡ false → c ≡ false → cond (a || b) t (cond c n None) ≡ None
none_left a b c t n ea eb ec = ap (λ q. cond (q || b) t (cond c n None)) ea ∙ ap (λ q. cond q t (cond c n None)) eb ∙ ap (λ q. cond q n None) ec

none_is_some : (k : Kind) → (let o : Option Kind = None in o ≡ Some k) → ⊥
none_is_some k e = cc e

pub own_plain : (x : List ℕ) (k : Kind) → builtin_of x ≡ Some k → is_plain x ≡ true
own_plain x k e =
    plain_by x (codes "first_hop") (same_text x (codes "first_hop")) refl refl
    (λ a. plain_by x (codes "last_hop") (same_text x (codes "last_hop")) refl refl
    (λ b. plain_by x (codes "switch_id") (same_text x (codes "switch_id")) refl refl
    (λ c. absurd (none_is_some k (sym (none_left (same_text x (codes "first_hop")) (same_text x (codes "last_hop")) (same_text x (codes "switch_id")) (Some Truth) (Some (Number 16)) a b c) ∙ e)))))

-- ---- names that are read at a key

-- a variable that doesn't travel with the packet
pub record IsKept (ds : List Decl) (x : List ℕ) : Type 0 where
  pub decl : Decl
  pub found : lookup ds x ≡ Some decl
  pub kind : decl.kind ≡ Tele → ⊥

-- what travels with the packet is a scalar or a list
pub record AreShapely (ds : List Decl) : Type 0 where
  pub no_set : (x : List ℕ) (d : Decl) (ks : List Ty) → lookup ds x ≡ Some d → d.shape ≡ set ks → d.kind ≡ Tele → ⊥
  pub no_dict : (x : List ℕ) (d : Decl) (ks : List Ty) (t : Ty) → lookup ds x ≡ Some d → d.shape ≡ dict ks t → d.kind ≡ Tele → ⊥

sensor_not : (k : DeclKind) → k ≡ Sensor → k ≡ Tele → ⊥
sensor_not k e h = let c : Sensor ≡ Tele = sym e ∙ h in cc

array_kind : (k : DeclKind) (s : Shape) → is_array k s ≡ true → k ≡ Sensor
array_kind Sensor s h = refl
array_kind Tele s h = true_false h
array_kind Header s h = true_false h
array_kind Control s h = true_false h

both_true : (a b : Bool) → (a && b) ≡ true → (a ≡ true) × (b ≡ true)
both_true true b h = (refl, h)
both_true false b h = true_false h

indexed_decl : (ds : List Decl) (x : List ℕ) (ks : Exprs) (d : Decl) → AreShapely ds → lookup ds x ≡ Some d → (s : Shape) → d.shape ≡ s → shape_indexed d.kind s ks ≡ true → IsKept ds x
indexed_decl ds x ks d sh e (dict ts t) q h = record { decl = d; found = e; kind = sh.no_dict x d ts t e q }
indexed_decl ds x ks d sh e (one t) q h = record { decl = d; found = e; kind = sensor_not d.kind (array_kind d.kind (one t) (both_true (is_array d.kind (one t)) (is_one ks) h).0) }
indexed_decl ds x ks d sh e (list t n) q h = record { decl = d; found = e; kind = sensor_not d.kind (array_kind d.kind (list t n) (both_true (is_array d.kind (list t n)) (is_one ks) h).0) }
indexed_decl ds x ks d sh e (set ts) q h = record { decl = d; found = e; kind = sensor_not d.kind (array_kind d.kind (set ts) (both_true (is_array d.kind (set ts)) (is_one ks) h).0) }

indexed_at : (ds : List Decl) (x : List ℕ) (ks : Exprs) (k b : Option Kind) (o : Option Decl) → AreShapely ds → lookup ds x ≡ o → is_missing (role_from k b o) ≡ false → indexed (role_from k b o) ks ≡ true → IsKept ds x
indexed_at ds x ks (Some k) b o sh e m h = true_false h
indexed_at ds x ks None (Some k) o sh e m h = true_false h
indexed_at ds x ks None None None sh e m h = clash m
indexed_at ds x ks None None (Some d) sh e m h = indexed_decl ds x ks d sh e d.shape refl h

pub index_kept : (g : Sight) (x : List ℕ) (ks : Exprs) → AreShapely g.decls → is_missing (role_of g x) ≡ false → indexed (role_of g x) ks ≡ true → IsKept g.decls x
index_kept g x ks sh m h = indexed_at g.decls x ks (item_of g.decls g.loops x) (builtin_of x) (lookup g.decls x) sh refl m h

-- a set, or a list of the packet's with one value at the left
pub record IsSet (ds : List Decl) (x : List ℕ) : Type 0 where
  pub kept : IsKept ds x
  pub keys : List Ty
  pub shape : kept.decl.shape ≡ set keys

pub data Holder (ds : List Decl) (x : List ℕ) (ks : Exprs) : Type 0 where
  in_set : IsSet ds x → Holder ds x ks
  in_list : IsList ds x → is_one ks ≡ true → Holder ds x ks

held_list : (ds : List Decl) (x : List ℕ) (ks : Exprs) (d : Decl) → lookup ds x ≡ Some d → (s : Shape) → d.shape ≡ s → (is_list d.kind s && is_one ks) ≡ true → Holder ds x ks
held_list ds x ks d e s q h = let b = both_true (is_list d.kind s) (is_one ks) h in in_list (list_decl ds x d e d.kind s refl q b.0) b.1

holder_decl : (ds : List Decl) (x : List ℕ) (ks : Exprs) (d : Decl) → AreShapely ds → lookup ds x ≡ Some d → (s : Shape) → d.shape ≡ s → shape_holds d.kind s ks ≡ true → Holder ds x ks
holder_decl ds x ks d sh e (set ts) q h = in_set (record { kept = record { decl = d; found = e; kind = sh.no_set x d ts e q }; keys = ts; shape = q })
holder_decl ds x ks d sh e (one t) q h = held_list ds x ks d e (one t) q h
holder_decl ds x ks d sh e (list t n) q h = held_list ds x ks d e (list t n) q h
holder_decl ds x ks d sh e (dict ts t) q h = held_list ds x ks d e (dict ts t) q h

holder_at : (ds : List Decl) (x : List ℕ) (ks : Exprs) (k b : Option Kind) (o : Option Decl) → AreShapely ds → lookup ds x ≡ o → is_missing (role_from k b o) ≡ false → may_hold (role_from k b o) ks ≡ true → Holder ds x ks
holder_at ds x ks (Some k) b o sh e m h = true_false h
holder_at ds x ks None (Some k) o sh e m h = true_false h
holder_at ds x ks None None None sh e m h = clash m
holder_at ds x ks None None (Some d) sh e m h = holder_decl ds x ks d sh e d.shape refl h

pub holder : (g : Sight) (x : List ℕ) (ks : Exprs) → AreShapely g.decls → is_missing (role_of g x) ≡ false → may_hold (role_of g x) ks ≡ true → Holder g.decls x ks
holder g x ks sh m h = holder_at g.decls x ks (item_of g.decls g.loops x) (builtin_of x) (lookup g.decls x) sh refl m h

-- ---- names that are written

-- a scalar of the packet's or of the switch's
pub data Writable (ds : List Decl) (x : List ℕ) : Type 0 where
  in_packet : (d : Decl) (t : Ty) → lookup ds x ≡ Some d → d.kind ≡ Tele → d.shape ≡ one t → Writable ds x
  in_switch : (d : Decl) → lookup ds x ≡ Some d → d.kind ≡ Sensor → Writable ds x

writable_decl : (ds : List Decl) (x : List ℕ) (d : Decl) → lookup ds x ≡ Some d → (k : DeclKind) (s : Shape) → d.kind ≡ k → d.shape ≡ s → is_scalar s ≡ true → kind_writable k ≡ true → Writable ds x
writable_decl ds x d e Tele (one t) q r h w = in_packet d t e q r
writable_decl ds x d e Tele (list t n) q r h w = true_false h
writable_decl ds x d e Tele (set ks) q r h w = true_false h
writable_decl ds x d e Tele (dict ks t) q r h w = true_false h
writable_decl ds x d e Sensor s q r h w = in_switch d e q
writable_decl ds x d e Header s q r h w = true_false w
writable_decl ds x d e Control s q r h w = true_false w

writable_at : (ds : List Decl) (x : List ℕ) (k b : Option Kind) (o : Option Decl) → lookup ds x ≡ o → is_missing (role_from k b o) ≡ false → reads (role_from k b o) ≡ true → writable (role_from k b o) ≡ true → Writable ds x
writable_at ds x (Some k) b o e m h w = true_false w
writable_at ds x None (Some k) o e m h w = true_false w
writable_at ds x None None None e m h w = clash m
writable_at ds x None None (Some d) e m h w = writable_decl ds x d e d.kind d.shape refl refl h w

pub written_name : (g : Sight) (x : List ℕ) → is_missing (role_of g x) ≡ false → reads (role_of g x) ≡ true → writable (role_of g x) ≡ true → Writable g.decls x
written_name g x m h w = writable_at g.decls x (item_of g.decls g.loops x) (builtin_of x) (lookup g.decls x) refl m h w

-- a variable of the switch's, of which a cell is written
pub record IsSensor (ds : List Decl) (x : List ℕ) : Type 0 where
  pub decl : Decl
  pub found : lookup ds x ≡ Some decl
  pub kind : decl.kind ≡ Sensor

cell_decl : (ds : List Decl) (x : List ℕ) (d : Decl) → AreShapely ds → lookup ds x ≡ Some d → (k : DeclKind) (s : Shape) → d.kind ≡ k → d.shape ≡ s → (is_array k s || is_dict s) ≡ true → kind_writable k ≡ true → IsSensor ds x
cell_decl ds x d sh e Sensor s q r h w = record { decl = d; found = e; kind = q }
cell_decl ds x d sh e Tele (dict ks t) q r h w = absurd (sh.no_dict x d ks t e r q)
cell_decl ds x d sh e Tele (one t) q r h w = true_false h
cell_decl ds x d sh e Tele (list t n) q r h w = true_false h
cell_decl ds x d sh e Tele (set ks) q r h w = true_false h
cell_decl ds x d sh e Header s q r h w = true_false w
cell_decl ds x d sh e Control s q r h w = true_false w

cell_at_role : (ds : List Decl) (x : List ℕ) (k b : Option Kind) (o : Option Decl) → AreShapely ds → lookup ds x ≡ o → is_missing (role_from k b o) ≡ false → may_index (role_from k b o) ≡ true → writable (role_from k b o) ≡ true → IsSensor ds x
cell_at_role ds x (Some k) b o sh e m h w = true_false w
cell_at_role ds x None (Some k) o sh e m h w = true_false w
cell_at_role ds x None None None sh e m h w = clash m
cell_at_role ds x None None (Some d) sh e m h w = cell_decl ds x d sh e d.kind d.shape refl refl h w

pub cell_name : (g : Sight) (x : List ℕ) → AreShapely g.decls → is_missing (role_of g x) ≡ false → may_index (role_of g x) ≡ true → writable (role_of g x) ≡ true → IsSensor g.decls x
cell_name g x sh m h w = cell_at_role g.decls x (item_of g.decls g.loops x) (builtin_of x) (lookup g.decls x) sh refl m h w

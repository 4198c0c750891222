-- The width that the meaning hands to each part of an expression or a statement serves what the rules want there.
use Rattle.std.proofs.Common.{◌≡◌, ℕ, List, zero, suc, Bool, true, false, ◌||◌, Option, Some, None, refl, sym, ap, ◌∙◌}
use Rattle.bit_values.specs.Widths.{either_width}
use Rattle.indus_tree.specs.Tree.{Expr, inversion, binary, cast, assign, cell, push, Shape, one, list, set, dict, Decl}
use Rattle.indus_tree.specs.State.{lookup, shape_width, held_width}
use Rattle.bit_values.specs.Operators.{Class, like, shift, joined, compare, logic, left_place, right_place}
use Rattle.indus_tree.specs.Operators.{class_of}
use Rattle.indus_tree.specs.Reads.{Seen}
use Rattle.indus_tree.specs.Value.{own_width}
use Rattle.indus_tree.specs.declared.tree.Op.{Op}
use Rattle.indus_tree.specs.declared.tree.DeclKind.{DeclKind}
use Rattle.indus_tree.specs.declared.tree.DeclKind.TheVariants.{Tele, Sensor, Header, Control}
use Rattle.indus_scopes.specs.Kinds.{join, as_number, kinds_differ, takes_either, left_want, right_want, class_left, class_right, class_kind}
use Rattle.indus_scopes.specs.Scopes.{Sight, role_of, role_from, read_kind, index_kind, element_kind, shape_item, item_of, builtin_of, own}
use Rattle.indus_scopes.specs.Uses.{is_missing, is_array, is_dict, is_list, reads, counts, may_index, writable}
use Rattle.indus_rules.specs.Sites.{push_want, expr_sites, stmt_sites}
use Rattle.indus_rules.specs.Rules.{Fine}
use Rattle.indus_rules.specs.declared.rule.Rule.TheVariants.{NoSuchName, KindDiffers, NotWritable}
use Rattle.indus_scopes.specs.declared.kind.Kind.{Kind}
use Rattle.indus_scopes.specs.declared.kind.Kind.TheVariants.{Number, Truth, Unknown}
use Rattle.indus_types.specs.Fits.{kind_width, Fits}
use Rattle.indus_types.specs.StaticWidths.{Serves, PartsAreServed}
use Rattle.indus_types.proofs.Widths.{twice_not, kind_of_width, not_truth, kind_fine, own_static}
use Rattle.indus_types.proofs.StaticWidthsLemmas.{is_plain, want_plain, twice, join_any, join_plain, like_width, scalar_width}

-- ---- operands

-- the wanted width of the left operand of an operator whose operands have these kinds
left_given : (c : Class) (t : Bool) (a b want : Kind) (w : ℕ) → kinds_differ (class_kind c a b) want ≡ false → kinds_differ a (class_left c t a b want) ≡ false → kinds_differ b (class_right c t a b want) ≡ false
    → either_width (kind_width (class_kind c a b)) w ≡ either_width (kind_width (class_kind c a b)) (kind_width want)
    → either_width (kind_width a) (left_place c (kind_width a) (kind_width b) w) ≡ either_width (kind_width a) (kind_width (class_left c t a b want))
left_given like t a b want w h k l s =
    let pa = is_plain a _ k in
    let pb = is_plain b _ l in
    let pw = want_plain (join a b) want h in
    let own_is = join_plain a b pa pb in
    let same = ap (λ v. either_width v w) (sym own_is) ∙ s ∙ ap (λ v. either_width v (kind_width want)) own_is in
    ap (either_width (kind_width a)) (same ∙ sym (like_width a b want pa pb pw))
left_given shift t a b want w h k l s =
    let pa = is_plain a _ k in
    let pw = want_plain a want h in
    let own_is = not_truth a Unknown pa in
    let same = ap (λ v. either_width v w) (sym own_is) ∙ s ∙ ap (λ v. either_width v (kind_width want)) own_is in
    ap (either_width (kind_width a)) (same ∙ sym (join_plain a want pa pw))
left_given joined t a b want w h k l s = ap (either_width (kind_width a)) (sym (not_truth a _ k))
left_given compare true a b want w h k l s = ap (either_width (kind_width a)) (sym (join_any a b))
left_given compare false a b want w h k l s = ap (either_width (kind_width a)) (sym (join_plain a b (is_plain a _ k) (is_plain b _ l)))
left_given logic t a b want w h k l s = refl

right_given : (c : Class) (t : Bool) (a b want : Kind) (w : ℕ) → kinds_differ (class_kind c a b) want ≡ false → kinds_differ a (class_left c t a b want) ≡ false → kinds_differ b (class_right c t a b want) ≡ false
    → either_width (kind_width (class_kind c a b)) w ≡ either_width (kind_width (class_kind c a b)) (kind_width want)
    → either_width (kind_width b) (right_place c (kind_width a) (kind_width b) w) ≡ either_width (kind_width b) (kind_width (class_right c t a b want))
right_given like t a b want w h k l s =
    let pa = is_plain a _ k in
    let pb = is_plain b _ l in
    let pw = want_plain (join a b) want h in
    let own_is = join_plain a b pa pb in
    let same = ap (λ v. either_width v w) (sym own_is) ∙ s ∙ ap (λ v. either_width v (kind_width want)) own_is in
    ap (either_width (kind_width b)) (same ∙ sym (like_width a b want pa pb pw))
right_given shift t a b want w h k l s = ap (either_width (kind_width b)) (sym (join_plain b (Number 128) (is_plain b _ l) refl))
right_given joined t a b want w h k l s = ap (either_width (kind_width b)) (sym (not_truth b _ l))
right_given compare true a b want w h k l s = ap (either_width (kind_width b)) (sym (join_any a b))
right_given compare false a b want w h k l s = ap (either_width (kind_width b)) (sym (join_plain a b (is_plain a _ k) (is_plain b _ l)))
right_given logic t a b want w h k l s = refl

module _ (g : Sight) (s : Seen) (fit : Fits g s) (want : Kind) (p : ℕ) (op : Op) (a b : Expr) (f : Fine (expr_sites g want (binary p op a b))) (w : ℕ) (serves : Serves g want (binary p op a b) w) where
  own_left : own_width s a ≡ kind_width (own g a)
  own_left = own_static g s fit a (left_want op (own g a) (own g b) want) f.1.0

  own_right : own_width s b ≡ kind_width (own g b)
  own_right = own_static g s fit b (right_want op (own g a) (own g b) want) f.1.1

  left_served : Serves g (left_want op (own g a) (own g b) want) a (left_place (class_of op) (own_width s a) (own_width s b) w)
  left_served =
      ap (λ v. either_width (kind_width (own g a)) (left_place (class_of op) v (own_width s b) w)) own_left
      ∙ ap (λ v. either_width (kind_width (own g a)) (left_place (class_of op) (kind_width (own g a)) v w)) own_right
      ∙ left_given (class_of op) (takes_either op) (own g a) (own g b) want w (kind_fine g want (binary p op a b) f) (kind_fine g _ a f.1.0) (kind_fine g _ b f.1.1) serves

  right_served : Serves g (right_want op (own g a) (own g b) want) b (right_place (class_of op) (own_width s a) (own_width s b) w)
  right_served =
      ap (λ v. either_width (kind_width (own g b)) (right_place (class_of op) v (own_width s b) w)) own_left
      ∙ ap (λ v. either_width (kind_width (own g b)) (right_place (class_of op) (kind_width (own g a)) v w)) own_right
      ∙ right_given (class_of op) (takes_either op) (own g a) (own g b) want w (kind_fine g want (binary p op a b) f) (kind_fine g _ a f.1.0) (kind_fine g _ b f.1.1) serves

turned_served : (g : Sight) (want : Kind) (p : ℕ) (a : Expr) → Fine (expr_sites g want (inversion p a)) → (w : ℕ) → Serves g want (inversion p a) w → Serves g (as_number (join (own g a) want)) a w
turned_served g want p a f w serves =
    let k = kind_fine g _ a f.1 in
    let pa = is_plain (own g a) _ k in
    let pw = want_plain (own g a) want (kind_fine g want (inversion p a) f) in
    let own_is = not_truth (own g a) Unknown pa in
    let same = ap (λ v. either_width v w) (sym own_is) ∙ serves ∙ ap (λ v. either_width v (kind_width want)) own_is in
    same ∙ sym (twice (kind_width (own g a)) (kind_width want)) ∙ ap (either_width (kind_width (own g a))) (sym (join_plain (own g a) want pa pw))

-- an operand of a cast has a width of its own, or none
cast_given : (k : Kind) → kinds_differ k (as_number k) ≡ false → either_width (kind_width k) 0 ≡ either_width (kind_width k) (kind_width (as_number k))
cast_given (Number zero) h = refl
cast_given (Number (suc w)) h = refl
cast_given Truth h = absurd (let c : true ≡ false = h in cc)
cast_given Unknown h = refl

cast_served : (g : Sight) (want : Kind) (p v : ℕ) (a : Expr) → Fine (expr_sites g want (cast p v a)) → Serves g (as_number (own g a)) a 0
cast_served g want p v a f = cast_given (own g a) (kind_fine g _ a f.1)

-- ---- statements

-- a variable that takes a value has its declared width
assigned_step : (i b : Option Kind) (o : Option Decl) → is_missing (role_from i b o) ≡ false → reads (role_from i b o) ≡ true → writable (role_from i b o) ≡ true → held_width o ≡ kind_width (read_kind (role_from i b o))
assigned_step (Some k) b o m h q = absurd (let c : false ≡ true = q in cc)
assigned_step None (Some k) o m h q = absurd (let c : false ≡ true = q in cc)
assigned_step None None (Some d) m h q = scalar_width d.shape h
assigned_step None None None m h q = absurd (let c : true ≡ false = m in cc)

cell_width : (k : DeclKind) (s : Shape) → (is_array k s || is_dict s) ≡ true → shape_width s ≡ kind_width (element_kind k s)
cell_width Sensor (list t n) h = sym (kind_of_width t)
cell_width Tele (list t n) h = absurd (let c : false ≡ true = h in cc)
cell_width Header (list t n) h = absurd (let c : false ≡ true = h in cc)
cell_width Control (list t n) h = absurd (let c : false ≡ true = h in cc)
cell_width Tele (dict ks t) h = sym (kind_of_width t)
cell_width Sensor (dict ks t) h = sym (kind_of_width t)
cell_width Header (dict ks t) h = sym (kind_of_width t)
cell_width Control (dict ks t) h = sym (kind_of_width t)
cell_width Tele (one t) h = absurd (let c : false ≡ true = h in cc)
cell_width Sensor (one t) h = absurd (let c : false ≡ true = h in cc)
cell_width Header (one t) h = absurd (let c : false ≡ true = h in cc)
cell_width Control (one t) h = absurd (let c : false ≡ true = h in cc)
cell_width Tele (set ks) h = absurd (let c : false ≡ true = h in cc)
cell_width Sensor (set ks) h = absurd (let c : false ≡ true = h in cc)
cell_width Header (set ks) h = absurd (let c : false ≡ true = h in cc)
cell_width Control (set ks) h = absurd (let c : false ≡ true = h in cc)

cell_step : (i b : Option Kind) (o : Option Decl) → is_missing (role_from i b o) ≡ false → may_index (role_from i b o) ≡ true → writable (role_from i b o) ≡ true → held_width o ≡ kind_width (index_kind (role_from i b o))
cell_step (Some k) b o m h q = absurd (let c : false ≡ true = q in cc)
cell_step None (Some k) o m h q = absurd (let c : false ≡ true = q in cc)
cell_step None None (Some d) m h q = cell_width d.kind d.shape h
cell_step None None None m h q = absurd (let c : true ≡ false = m in cc)

item_width : (k : DeclKind) (s : Shape) → is_list k s ≡ true → shape_width s ≡ kind_width (shape_item s)
item_width k (list t n) h = sym (kind_of_width t)
item_width Tele (one t) h = absurd (let c : false ≡ true = h in cc)
item_width Sensor (one t) h = absurd (let c : false ≡ true = h in cc)
item_width Header (one t) h = absurd (let c : false ≡ true = h in cc)
item_width Control (one t) h = absurd (let c : false ≡ true = h in cc)
item_width Tele (set ks) h = absurd (let c : false ≡ true = h in cc)
item_width Sensor (set ks) h = absurd (let c : false ≡ true = h in cc)
item_width Header (set ks) h = absurd (let c : false ≡ true = h in cc)
item_width Control (set ks) h = absurd (let c : false ≡ true = h in cc)
item_width Tele (dict ks t) h = absurd (let c : false ≡ true = h in cc)
item_width Sensor (dict ks t) h = absurd (let c : false ≡ true = h in cc)
item_width Header (dict ks t) h = absurd (let c : false ≡ true = h in cc)
item_width Control (dict ks t) h = absurd (let c : false ≡ true = h in cc)

push_step : (i b : Option Kind) (o : Option Decl) → is_missing (role_from i b o) ≡ false → counts (role_from i b o) ≡ true → held_width o ≡ kind_width (push_want (role_from i b o))
push_step (Some k) b o m h = absurd (let c : false ≡ true = h in cc)
push_step None (Some k) o m h = absurd (let c : false ≡ true = h in cc)
push_step None None (Some d) m h = item_width d.kind d.shape h
push_step None None None m h = absurd (let c : true ≡ false = m in cc)

module _ (g : Sight) (p : ℕ) (x : List ℕ) where
  assigned_served : (e : Expr) → Fine (stmt_sites g (assign p x e)) → held_width (lookup g.decls x) ≡ kind_width (read_kind (role_of g x))
  assigned_served e f = assigned_step (item_of g.decls g.loops x) (builtin_of x) (lookup g.decls x) (f.0 NoSuchName) (twice_not _ (f.0 KindDiffers)) (twice_not _ (f.0 NotWritable))

  cell_served : (i e : Expr) → Fine (stmt_sites g (cell p x i e)) → held_width (lookup g.decls x) ≡ kind_width (index_kind (role_of g x))
  cell_served i e f = cell_step (item_of g.decls g.loops x) (builtin_of x) (lookup g.decls x) (f.0 NoSuchName) (twice_not _ (f.0 KindDiffers)) (twice_not _ (f.0 NotWritable))

  pushed_served : (e : Expr) → Fine (stmt_sites g (push p x e)) → held_width (lookup g.decls x) ≡ kind_width (push_want (role_of g x))
  pushed_served e f = push_step (item_of g.decls g.loops x) (builtin_of x) (lookup g.decls x) (f.0 NoSuchName) (twice_not _ (f.0 KindDiffers))

-- an index, in which a bare number has 128 bits
index_served : (g : Sight) (s : Seen) → Fits g s → (e : Expr) → Fine (expr_sites g (as_number (join (own g e) (Number 128))) e) → Serves g (as_number (join (own g e) (Number 128))) e (either_width (own_width s e) 128)
index_served g s fit e f =
    let plain = is_plain (own g e) _ (kind_fine g _ e f) in
    ap (λ v. either_width (kind_width (own g e)) (either_width v 128)) (own_static g s fit e _ f)
    ∙ ap (either_width (kind_width (own g e))) (sym (join_plain (own g e) (Number 128) plain refl))

pub parts_served : PartsAreServed
parts_served =
    record {
      left = left_served;
      right = right_served;
      turned = turned_served;
      cast_from = cast_served;
      assigned = assigned_served;
      cell_value = cell_served;
      pushed = pushed_served;
      key = λ t. sym (kind_of_width t);
      index = index_served;
    }

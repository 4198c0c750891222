-- What is read is of its kind, in a scope that has the monitor's names.
use Rattle.std.proofs.Common.{◌≡◌, codes, ℕ, ◌+◌, List, [], ◌∷◌, Bool, true, false, cond, not, ◌&&◌, ◌||◌, nat_eq, nat_lt, length, Option, Some, None, refl, sym, ap, ◌∙◌, subst}
use Rattle.std.specs.Prelude.{if◌then◌else◌}
use Rattle.lex_text.specs.Names.{same_text}
use Rattle.rule_tests.specs.Tests.{IsFine}
use Rattle.indus_tree.specs.Tree.{Expr, Exprs, num, flag, read as reads_it, count, index, member, negation, inversion, binary, cast, none, more, Shape, one, list, set, dict, Decl}
use Rattle.indus_tree.specs.State.{lookup, shape_width, width_of}
use Rattle.indus_tree.specs.declared.tree.DeclKind.{DeclKind}
use Rattle.indus_tree.specs.declared.tree.DeclKind.TheVariants.{Tele, Sensor, Header, Control}
use Rattle.indus_tree.specs.declared.tree.Ty.{Ty}
use Rattle.indus_tree.specs.declared.tree.Ty.TheVariants as ty
use Rattle.indus_scopes.specs.Kinds as from
use Rattle.indus_scopes.specs.Scopes.{Sight, own, role_of, role_from, item_of, builtin_of, scalar_kind, read_kind, index_kind, element_kind}
use Rattle.indus_scopes.specs.Uses.{is_missing as no_role, is_hop, is_scalar, reads as role_reads, indexed, shape_indexed, may_hold, shape_holds}
use Rattle.indus_scopes.specs.declared.kind.Kind.{Kind}
use Rattle.indus_scopes.specs.declared.kind.Kind.TheVariants.{Number, Truth, Unknown}
use Rattle.indus_rules.specs.Sites.{Wants, expr_sites, all_sites}
use Rattle.indus_rules.specs.Rules.{Fine, is_init, misshapen, bad_width, bad_widths, bad_shape}
use Rattle.indus_rules.specs.declared.rule.Rule.TheVariants.{NoSuchName, KindDiffers, WrongBlock}
use Rattle.indus_types.specs.Sums.{shape_is_list, found_list, is_list}
use Rattle.indus_types.proofs.Widths.{neither, twice_not}
use Rattle.flat_laws.specs.Form.{IsFlatExpr, AreFlatExprs}
use Rattle.p4_tree.specs.Tree as p4
use Rattle.p4_meaning.specs.Scope.{Roots}
use Rattle.p4_scopes.specs.Kinds as to
use Rattle.p4_scopes.specs.Scopes.{Scope, Stands, is_missing, value_kind}
use Rattle.p4_scopes.specs.Scopes as scope
use Rattle.p4_scopes.specs.Uses.{reads}
use Rattle.p4_scopes.specs.declared.kind.Kind as target
use Rattle.p4_scopes.specs.declared.kind.Kind.TheVariants as t
use Rattle.p4_statement_rules.specs.Expressions as rules
use Rattle.monitor_laws.specs.Names.{first_name, last_name}
use Rattle.lookup_names.specs.Names.{found_name}
use Rattle.lookup_names.specs.Keys.{variable}
use Rattle.lowered_code.specs.Environment.{Environment, in_control, tele_path, rooted_view, switch_name}
use Rattle.lowered_code.specs.Expressions.{of_bits, value_type, read_decl, is_in, place_in, lowered, name_for, name_by_kind, found_for}
use Rattle.lowered_code.proofs.Values.{Covers, AllCovered, IsNameRead, IsKindRead}
use Rattle.whole_properties.proofs.Declarations.{AreShapely, clash}
use Rattle.monitor_rules.proofs.KindMaps.{K, widths_same, kinds_same}
use Rattle.monitor_rules.proofs.ExprRules.{IsBit, cast_bit, IsRight, Rights}
use Rattle.monitor_rules.proofs.FreeRules.{AllRight}
use Rattle.monitor_rules.proofs.IndexRules.{Wides}

-- a path that is read, and is of a kind
pub record IsRead (sc : Scope) (x : List (List ℕ)) (k : target.Kind) : Type 0 where
  pub there : is_missing (sc x) ≡ false
  pub read : reads (sc x) ≡ true
  pub kind : value_kind (sc x) ≡ k

-- an expression of P4 is of a kind of the property's language, and breaks no rule where the kind fits
pub record IsOf (sc : Scope) (k : Kind) (e : p4.Expr) : Type 0 where
  pub same : scope.own sc e ≡ K k
  pub fine : (w : Kind) → from.widths_differ k w ≡ false → from.kinds_differ k w ≡ false → IsFine (rules.expr_tests sc (K w) e)
  pub bit : IsBit sc e

module _ (sc : Scope) where
  pub path_of : (x : List (List ℕ)) (k : Kind) → IsRead sc x (K k) → IsOf sc k (p4.path 0 x)
  path_of x k r =
      record {
        same = r.kind;
        fine = λ w i j. (r.there, (ap not r.read, (ap (λ q. to.widths_differ q (K w)) r.kind ∙ widths_same k w ∙ i, ap (λ q. to.kinds_differ q (K w)) r.kind ∙ kinds_same k w ∙ j)));
        bit = cast_bit sc (p4.path 0 x) refl;
      }

  -- a value of a type stands in its bits
  bits_of : (ty : Ty) (x : List (List ℕ)) → IsRead sc x (t.Number (width_of ty)) → IsOf sc (from.kind_of ty) (of_bits ty (p4.path 0 x))
  bits_of (ty.Bit w) x r = path_of x (Number w) r
  bits_of ty.Bool x r =
      record {
        same = refl;
        fine = λ w i j. (
          (widths_same Truth w ∙ i, kinds_same Truth w ∙ j),
          (tt, (ap (rules.cast_differs t.Truth) r.kind, subst (λ k. IsFine (rules.expr_tests sc k (p4.path 0 x))) (sym (ap to.as_value r.kind)) ((path_of x (Number 1) r).fine (Number 1) refl refl))),
        );
        bit = record { own = r.kind; fine = λ k h. (path_of x (Number 1) r).fine (Number 1) refl refl };
      }

-- ---- what names are used as

turned_clash : {A : Type 0} → false ≡ true → A
turned_clash e = absurd (cc e)

abbrev pub IsOne : Shape → Type 0
IsOne (one t) = Unit {0}
IsOne _ = ⊥

pub one_is : (s : Shape) → is_scalar s ≡ true → IsOne s
one_is (one t) h = tt
one_is (list t n) h = turned_clash h
one_is (set ks) h = turned_clash h
one_is (dict ks t) h = turned_clash h

-- a cell of an array, or a value of a dict
abbrev pub IsIndexed : DeclKind → Shape → Type 0
IsIndexed Sensor (list t n) = Unit {0}
IsIndexed Control (dict ts t) = Unit {0}
IsIndexed _ _ = ⊥

indexed_is : (k : DeclKind) (s : Shape) (ks : Exprs) → misshapen k s ≡ false → shape_indexed k s ks ≡ true → IsIndexed k s
indexed_is Sensor (list t n) ks m r = tt
indexed_is Control (dict ts t) ks m r = tt
indexed_is Tele (dict ts t) ks m r = clash m
indexed_is Sensor (dict ts t) ks m r = clash m
indexed_is Header (dict ts t) ks m r = clash m
indexed_is Tele (list t n) ks m r = turned_clash r
indexed_is Header (list t n) ks m r = turned_clash r
indexed_is Control (list t n) ks m r = turned_clash r
indexed_is Tele (one t) ks m r = turned_clash r
indexed_is Sensor (one t) ks m r = turned_clash r
indexed_is Header (one t) ks m r = turned_clash r
indexed_is Control (one t) ks m r = turned_clash r
indexed_is Tele (set ts) ks m r = turned_clash r
indexed_is Sensor (set ts) ks m r = turned_clash r
indexed_is Header (set ts) ks m r = turned_clash r
indexed_is Control (set ts) ks m r = turned_clash r

-- a set
abbrev pub IsHolding : DeclKind → Shape → Type 0
IsHolding Control (set ts) = Unit {0}
IsHolding _ _ = ⊥

holding_is : (k : DeclKind) (s : Shape) (ks : Exprs) → misshapen k s ≡ false → shape_holds k s ks ≡ true → shape_is_list s ≡ false → IsHolding k s
holding_is Control (set ts) ks m r q = tt
holding_is Tele (set ts) ks m r q = clash m
holding_is Sensor (set ts) ks m r q = clash m
holding_is Header (set ts) ks m r q = clash m
holding_is Tele (list t n) ks m r q = clash q
holding_is Sensor (list t n) ks m r q = turned_clash r
holding_is Header (list t n) ks m r q = turned_clash r
holding_is Control (list t n) ks m r q = turned_clash r
holding_is Tele (one t) ks m r q = turned_clash r
holding_is Sensor (one t) ks m r q = turned_clash r
holding_is Header (one t) ks m r q = turned_clash r
holding_is Control (one t) ks m r q = turned_clash r
holding_is Tele (dict ts t) ks m r q = turned_clash r
holding_is Sensor (dict ts t) ks m r q = turned_clash r
holding_is Header (dict ts t) ks m r q = turned_clash r
holding_is Control (dict ts t) ks m r q = turned_clash r

-- the scope has what the monitor reads. exits: the exit part, which has the linker's flags
module _ (exits : Bool) (r : Roots) (sc : Scope) (st : Sight) (flat : st.loops ≡ []) (hops : exits ≡ false → is_init st.block ≡ true) (well : AreShapely st.decls) where
  abbrev env : Environment
  env = in_control r

  abbrev ds : List Decl
  ds = st.decls

  pub record Offers : Type 0 where
    pub tele : (x : List ℕ) (c : Decl) → lookup ds x ≡ Some c → c.kind ≡ Tele → IsRead sc (tele_path env x) (t.Number (shape_width c.shape))
    pub view : (x : List ℕ) (c : Decl) → lookup ds x ≡ Some c → c.kind ≡ Header → IsOf sc (from.kind_of (value_type c.shape)) (rooted_view r c)
    pub first : exits ≡ true → IsRead sc (first_name ∷ []) t.Truth
    pub last : exits ≡ true → IsRead sc (last_name ∷ []) t.Truth
    pub switch : IsRead sc (switch_name ∷ []) (t.Number 16)

  -- what was read before stands in its variable
  abbrev pub AllFound : (base : ℕ) (before : List Expr) → Type 0
  AllFound base before = (e : Expr) (c : Decl) → read_decl ds e ≡ Some c → is_in before e ≡ true → IsRead sc (found_name (base + place_in before e) ∷ []) (t.Number (width_of (value_type c.shape)))

  kind_known : (ty : Ty) → from.kind_of ty ≡ Unknown → ⊥
  kind_known (ty.Bit w) e = cc
  kind_known ty.Bool e = cc

  pub at_role : (x : List ℕ) → role_of st x ≡ role_from None (builtin_of x) (lookup ds x)
  at_role x = ap (λ l. role_from (item_of ds l x) (builtin_of x) (lookup ds x)) flat

  -- a variable's name is none of the language's own
  pub at_variable : (x : List ℕ) (c : Decl) → lookup ds x ≡ Some c → role_of st x ≡ role_from None None (Some c)
  at_variable x c e = at_role x ∙ ap (λ b. role_from None b (lookup ds x)) (well.own x c e) ∙ ap (role_from None None) e

  module _ (has : Offers) (base : ℕ) (before : List Expr) (found : AllFound base before) where
    right : (e : Expr) (k : Kind) → own st e ≡ k → (k ≡ Unknown → ⊥) → IsOf sc k (lowered env ds base before e) → IsRight env ds base before sc st e
    right e k is known of =
        record {
          same = of.same ∙ ap K (sym is);
          known = λ u. known (sym is ∙ u);
          fine = λ w i j. of.fine w (ap (λ q. from.widths_differ q w) (sym is) ∙ i) (ap (λ q. from.kinds_differ q w) (sym is) ∙ j);
          bit = of.bit;
        }

    scalar_is : (s : Shape) → IsOne s → scalar_kind s ≡ from.kind_of (value_type s)
    scalar_is (one t) i = refl
    scalar_is (list t n) i = absurd i
    scalar_is (set ks) i = absurd i
    scalar_is (dict ks t) i = absurd i

    one_width : (s : Shape) → IsOne s → width_of (value_type s) ≡ shape_width s
    one_width (one t) i = refl
    one_width (list t n) i = absurd i
    one_width (set ks) i = absurd i
    one_width (dict ks t) i = absurd i

    record IsKnown (k : Kind) (e : p4.Expr) : Type 0 where
      kind : Kind
      same : k ≡ kind
      known : kind ≡ Unknown → ⊥
      of : IsOf sc kind e

    -- a name of the language's own
    built_right :
        (a b c : Bool) → no_role (role_from None (cond (a || b) (Some Truth) (cond c (Some (Number 16)) None)) None) ≡ false
        → (is_hop (role_from None (cond (a || b) (Some Truth) (cond c (Some (Number 16)) None)) None) && is_init st.block) ≡ false →
        IsKnown (read_kind (role_from None (cond (a || b) (Some Truth) (cond c (Some (Number 16)) None)) None)) (if a then variable first_name else if b then variable last_name else p4.path 0 (switch_name ∷ []))
    built_right true b c m w = record { kind = Truth; same = refl; known = λ u. (cc); of = path_of sc (first_name ∷ []) Truth (has.first (exits_is exits refl w)) }
      where
        exits_is : (e : Bool) → exits ≡ e → is_init st.block ≡ false → e ≡ true
        exits_is true h w = refl
        exits_is false h w = clash (sym (hops h) ∙ w)
    built_right false true c m w = record { kind = Truth; same = refl; known = λ u. (cc); of = path_of sc (last_name ∷ []) Truth (has.last (exits_is exits refl w)) }
      where
        exits_is : (e : Bool) → exits ≡ e → is_init st.block ≡ false → e ≡ true
        exits_is true h w = refl
        exits_is false h w = clash (sym (hops h) ∙ w)
    built_right false false true m w = record { kind = Number 16; same = refl; known = λ u. (cc); of = path_of sc (switch_name ∷ []) (Number 16) has.switch }
    built_right false false false m w = clash m

    name_right : (p : ℕ) (x : List ℕ) (want : Kind) (o : Option Decl) → lookup ds x ≡ o → Fine (expr_sites st want (reads_it p x)) → IsNameRead ds before o (reads_it p x) → IsRight env ds base before sc st (reads_it p x)
    name_right p x want None e f i =
        let role = at_role x ∙ ap (role_from None (builtin_of x)) e in
        let b = built_right (same_text x (codes "first_hop")) (same_text x (codes "last_hop")) (same_text x (codes "switch_id"))
        (ap no_role (sym role) ∙ f NoSuchName) (ap (λ q. is_hop q && is_init st.block) (sym role) ∙ f WrongBlock) in
        right (reads_it p x) b.kind (ap read_kind role ∙ b.same) b.known
        (subst (λ q. IsOf sc b.kind (name_for env ds base before q (reads_it p x) x)) (sym e) b.of)
    name_right p x want (Some c) e f i =
        let g = one_is c.shape (ap role_reads (sym (at_variable x c e)) ∙ twice_not (role_reads (role_of st x)) (neither (from.kinds_differ (own st (reads_it p x)) want) _ (f KindDiffers)).1) in
        right (reads_it p x) (from.kind_of (value_type c.shape)) (ap read_kind (at_variable x c e) ∙ scalar_is c.shape g) (kind_known (value_type c.shape))
        (subst (λ q. IsOf sc (from.kind_of (value_type c.shape)) (name_for env ds base before q (reads_it p x) x)) (sym e) (go g c.kind refl i))
      where
        go : IsOne c.shape → (k : DeclKind) → c.kind ≡ k → IsKindRead ds before k (reads_it p x) → IsOf sc (from.kind_of (value_type c.shape)) (name_by_kind env ds base before k (reads_it p x) x c)
        go g Tele q i = bits_of sc (value_type c.shape) (tele_path env x) (subst (λ w. IsRead sc (tele_path env x) (t.Number w)) (sym (one_width c.shape g)) (has.tele x c e q))
        go g Sensor q i = bits_of sc (value_type c.shape) _ (found (reads_it p x) c e i)
        go g Header q i = has.view x c e q
        go g Control q i = bits_of sc (value_type c.shape) _ (found (reads_it p x) c e i)

    -- a cell, or a value of a dict
    index_right : (p : ℕ) (x : List ℕ) (ks : Exprs) (want : Kind) (o : Option Decl) → lookup ds x ≡ o → Fine (expr_sites st want (index p x ks)) → is_in before (index p x ks) ≡ true → IsRight env ds base before sc st (index p x ks)
    index_right p x ks want None e f i = absurd (none_indexed (builtin_of x) (ap (λ q. indexed q ks) (sym (at_role x ∙ ap (role_from None (builtin_of x)) e)) ∙ twice_not (indexed (role_of st x) ks) (neither (from.kinds_differ (own st (index p x ks)) want) _ (f.0 KindDiffers)).1) (ap no_role (sym (at_role x ∙ ap (role_from None (builtin_of x)) e)) ∙ f.0 NoSuchName))
      where
        none_indexed : (b : Option Kind) → indexed (role_from None b None) ks ≡ true → no_role (role_from None b None) ≡ false → ⊥
        none_indexed None h m = absurd (cc m)
        none_indexed (Some k) h m = absurd (cc h)
    index_right p x ks want (Some c) e f i =
        let g = indexed_is c.kind c.shape ks (well.shaped x c e) (ap (λ q. indexed q ks) (sym (at_variable x c e)) ∙ twice_not (indexed (role_of st x) ks) (neither (from.kinds_differ (own st (index p x ks)) want) _ (f.0 KindDiffers)).1) in
        right (index p x ks) (from.kind_of (value_type c.shape)) (ap index_kind (at_variable x c e) ∙ element_is c.kind c.shape g) (kind_known (value_type c.shape))
        (subst (λ q. IsOf sc (from.kind_of (value_type c.shape)) (found_for env ds base before q (index p x ks))) (sym e) (bits_of sc (value_type c.shape) _ (found (index p x ks) c e i)))
      where
        element_is : (k : DeclKind) (h : Shape) → IsIndexed k h → element_kind k h ≡ from.kind_of (value_type h)
        element_is Sensor (list t n) g = refl
        element_is Control (dict ts t) g = refl
        element_is _ _ g = absurd g

    -- a membership in a set
    member_right : (p : ℕ) (ks : Exprs) (x : List ℕ) (want : Kind) (o : Option Decl) → lookup ds x ≡ o → Fine (expr_sites st want (member p ks x)) → found_list o ≡ false → is_in before (member p ks x) ≡ true → IsRight env ds base before sc st (member p ks x)
    member_right p ks x want None e f l i = absurd (none_holds (builtin_of x) (ap (λ q. may_hold q ks) (sym (at_role x ∙ ap (role_from None (builtin_of x)) e)) ∙ twice_not (may_hold (role_of st x) ks) (neither (from.kinds_differ (own st (member p ks x)) want) _ (f.0 KindDiffers)).1) (ap no_role (sym (at_role x ∙ ap (role_from None (builtin_of x)) e)) ∙ f.0 NoSuchName))
      where
        none_holds : (b : Option Kind) → may_hold (role_from None b None) ks ≡ true → no_role (role_from None b None) ≡ false → ⊥
        none_holds None h m = absurd (cc m)
        none_holds (Some k) h m = absurd (cc h)
    member_right p ks x want (Some c) e f l i =
        let g = holding_is c.kind c.shape ks (well.shaped x c e) (ap (λ q. may_hold q ks) (sym (at_variable x c e)) ∙ twice_not (may_hold (role_of st x) ks) (neither (from.kinds_differ (own st (member p ks x)) want) _ (f.0 KindDiffers)).1) l in
        right (member p ks x) Truth refl (λ u. (cc))
        (subst (λ q. IsOf sc Truth (found_for env ds base before q (member p ks x))) (sym e)
        (subst (λ k. IsOf sc k (of_bits (value_type c.shape) (variable (found_name (base + place_in before (member p ks x)))))) (set_is c.kind c.shape g) (bits_of sc (value_type c.shape) _ (found (member p ks x) c e i))))
      where
        set_is : (k : DeclKind) (h : Shape) → IsHolding k h → from.kind_of (value_type h) ≡ Truth
        set_is Control (set ts) g = refl
        set_is _ _ g = absurd g

    -- so all that an expression reads is right
    mutual
      pub all_right : (e : Expr) (w : Kind) → Fine (expr_sites st w e) → IsFlatExpr ds e → Covers ds before e → Rights env ds base before sc st e
      all_right (num p n) w f i c = tt
      all_right (flag p b) w f i c = tt
      all_right (reads_it p x) w f i c = name_right p x w (lookup ds x) refl f c
      all_right (count p x) w f i c = absurd i
      all_right (index p x ks) w f i c = index_right p x ks w (lookup ds x) refl f c
      all_right (member p ks x) w f i c = member_right p ks x w (lookup ds x) refl f i.0 c
      all_right (negation p a) w f i c = all_right a _ f.1 i c
      all_right (inversion p a) w f i c = all_right a _ f.1 i c
      all_right (binary p o a b) w f i c = (all_right a _ f.1.0 i.0 c.0, all_right b _ f.1.1 i.1 c.1)
      all_right (cast p v a) w f i c = all_right a _ f.1 i c

      pub each_right : (es : Exprs) (ws : Wants) → Fine (all_sites st ws es) → AreFlatExprs ds es → AllCovered ds before es → AllRight env ds base before sc st es
      each_right none ws f i c = tt
      each_right (more e es) ws f i c = (all_right e _ f.0 i.0 c.0, each_right es _ f.1 i.1 c.1)

-- ---- what is read has a width

module _ (st : Sight) (flat : st.loops ≡ []) (well : AreShapely st.decls) where
  wide_type : (t : Ty) → bad_width t ≡ false → from.is_open (from.kind_of t) ≡ false
  wide_type (ty.Bit w) h = (neither (nat_eq w 0) (nat_lt 128 w) h).0
  wide_type ty.Bool h = refl

  wide_role : (x : List ℕ) → role_of st x ≡ role_from None (builtin_of x) (lookup st.decls x)
  wide_role x = ap (λ l. role_from (item_of st.decls l x) (builtin_of x) (lookup st.decls x)) flat

  pub wide_variable : (x : List ℕ) (c : Decl) → lookup st.decls x ≡ Some c → role_of st x ≡ role_from None None (Some c)
  wide_variable x c e = wide_role x ∙ ap (λ b. role_from None b (lookup st.decls x)) (well.own x c e) ∙ ap (role_from None None) e

  wide_scalar : (s : Shape) → IsOne s → bad_shape s ≡ false → from.is_open (scalar_kind s) ≡ false
  wide_scalar (one t) g h = wide_type t h
  wide_scalar (list t n) g h = absurd g
  wide_scalar (set ks) g h = absurd g
  wide_scalar (dict ks t) g h = absurd g

  wide_element : (k : DeclKind) (s : Shape) → IsIndexed k s → bad_shape s ≡ false → from.is_open (element_kind k s) ≡ false
  wide_element Sensor (list t n) g h = wide_type t (neither (bad_width t) (nat_eq n 0) (neither (bad_width t || nat_eq n 0) (nat_lt 255 n) h).0).0
  wide_element Control (dict ts t) g h = wide_type t (neither (bad_widths ts || nat_lt 4 (length ts)) (bad_width t) h).1
  wide_element _ _ g h = absurd g

  wide_built : (x : List ℕ) → no_role (role_from None (builtin_of x) None) ≡ false → from.is_open (read_kind (role_from None (builtin_of x) None)) ≡ false
  wide_built x = go (same_text x (codes "first_hop") || same_text x (codes "last_hop")) (same_text x (codes "switch_id"))
    where
      go : (a c : Bool) → no_role (role_from None (cond a (Some Truth) (cond c (Some (Number 16)) None)) None) ≡ false → from.is_open (read_kind (role_from None (cond a (Some Truth) (cond c (Some (Number 16)) None)) None)) ≡ false
      go true c m = refl
      go false true m = refl
      go false false m = clash m

  wide_name : (p : ℕ) (x : List ℕ) (w : Kind) (o : Option Decl) → lookup st.decls x ≡ o → Fine (expr_sites st w (reads_it p x)) → from.is_open (own st (reads_it p x)) ≡ false
  wide_name p x w None e f = ap (λ q. from.is_open (read_kind q)) (wide_role x ∙ ap (role_from None (builtin_of x)) e) ∙ wide_built x (ap no_role (sym (wide_role x ∙ ap (role_from None (builtin_of x)) e)) ∙ f NoSuchName)
  wide_name p x w (Some c) e f =
      ap (λ q. from.is_open (read_kind q)) (wide_variable x c e)
      ∙ wide_scalar c.shape (one_is c.shape (ap role_reads (sym (wide_variable x c e)) ∙ twice_not (role_reads (role_of st x)) (neither (from.kinds_differ (own st (reads_it p x)) w) _ (f KindDiffers)).1)) (well.sized x c e)

  wide_index : (p : ℕ) (x : List ℕ) (ks : Exprs) (w : Kind) (o : Option Decl) → lookup st.decls x ≡ o → Fine (expr_sites st w (index p x ks)) → from.is_open (own st (index p x ks)) ≡ false
  wide_index p x ks w None e f = absurd (none_indexed (builtin_of x) (ap (λ q. indexed q ks) (sym (wide_role x ∙ ap (role_from None (builtin_of x)) e)) ∙ twice_not (indexed (role_of st x) ks) (neither (from.kinds_differ (own st (index p x ks)) w) _ (f.0 KindDiffers)).1) (ap no_role (sym (wide_role x ∙ ap (role_from None (builtin_of x)) e)) ∙ f.0 NoSuchName))
    where
      none_indexed : (b : Option Kind) → indexed (role_from None b None) ks ≡ true → no_role (role_from None b None) ≡ false → ⊥
      none_indexed None h m = absurd (cc m)
      none_indexed (Some k) h m = absurd (cc h)
  wide_index p x ks w (Some c) e f =
      ap (λ q. from.is_open (index_kind q)) (wide_variable x c e)
      ∙ wide_element c.kind c.shape (indexed_is c.kind c.shape ks (well.shaped x c e) (ap (λ q. indexed q ks) (sym (wide_variable x c e)) ∙ twice_not (indexed (role_of st x) ks) (neither (from.kinds_differ (own st (index p x ks)) w) _ (f.0 KindDiffers)).1)) (well.sized x c e)

  pub wides : (e : Expr) (w : Kind) → Fine (expr_sites st w e) → IsFlatExpr st.decls e → Wides st e
  wides (num p n) w f i = tt
  wides (flag p b) w f i = tt
  wides (reads_it p x) w f i = wide_name p x w (lookup st.decls x) refl f
  wides (count p x) w f i = absurd i
  wides (index p x ks) w f i = wide_index p x ks w (lookup st.decls x) refl f
  wides (member p ks x) w f i = tt
  wides (negation p a) w f i = tt
  wides (inversion p a) w f i = wides a _ f.1 i
  wides (binary p o a b) w f i = (wides a _ f.1.0 i.0, wides b _ f.1.1 i.1)
  wides (cast p v a) w f i = tt

  -- ---- what is read is used as what it is

  pub name_use : (p : ℕ) (x : List ℕ) (w : Kind) (c : Decl) → lookup st.decls x ≡ Some c → Fine (expr_sites st w (reads_it p x)) → IsOne c.shape
  name_use p x w c e f = one_is c.shape (ap role_reads (sym (wide_variable x c e)) ∙ twice_not (role_reads (role_of st x)) (neither (from.kinds_differ (own st (reads_it p x)) w) _ (f KindDiffers)).1)

  pub index_use : (p : ℕ) (x : List ℕ) (ks : Exprs) (w : Kind) (c : Decl) → lookup st.decls x ≡ Some c → Fine (expr_sites st w (index p x ks)) → IsIndexed c.kind c.shape
  index_use p x ks w c e f = indexed_is c.kind c.shape ks (well.shaped x c e) (ap (λ q. indexed q ks) (sym (wide_variable x c e)) ∙ twice_not (indexed (role_of st x) ks) (neither (from.kinds_differ (own st (index p x ks)) w) _ (f.0 KindDiffers)).1)

  pub member_use : (p : ℕ) (ks : Exprs) (x : List ℕ) (w : Kind) (c : Decl) → lookup st.decls x ≡ Some c → Fine (expr_sites st w (member p ks x)) → is_list st.decls x ≡ false → IsHolding c.kind c.shape
  member_use p ks x w c e f l = holding_is c.kind c.shape ks (well.shaped x c e) (ap (λ q. may_hold q ks) (sym (wide_variable x c e)) ∙ twice_not (may_hold (role_of st x) ks) (neither (from.kinds_differ (own st (member p ks x)) w) _ (f.0 KindDiffers)).1) (ap found_list (sym e) ∙ l)

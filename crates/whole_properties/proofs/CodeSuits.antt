-- Flat code of a well-typed property suits: its names are used as what they stand for, and its values have the widths that
-- are wanted.
use Rattle.std.proofs.Common.{◌≡◌, ◌⊎◌, inl, inr, codes, ℕ, ◌<◌, ◌^◌, List, [], ◌∷◌, length, Bool, true, false, cond, ◌&&◌, ◌||◌, Option, Some, None, refl, sym, ap, ◌∙◌, arith, nat_eq, nat_lt}
use Rattle.std.specs.Prelude.{not, MatchBool}
use Rattle.std.proofs.lemmas.Bool.{ltb-false}
use Rattle.lex_text.specs.Names.{same_text}
use Rattle.network_run.specs.PathMeaning.{Doing}
use Rattle.indus_tree.specs.Tree as indus
use Rattle.indus_tree.specs.Tree.{Shape, one, list, set, dict, Decl, Expr, Exprs, none, more, num, flag, read, count, index, member, negation, inversion, binary, cast, exprs_count}
use Rattle.indus_tree.specs.State.{Hop, Held, lookup}
use Rattle.indus_tree.specs.Reads.{Seen}
use Rattle.indus_tree.specs.Reports.{ReportsBelow, BlockReportsBelow}
use Rattle.indus_tree.specs.Shapes.{AreShaped}
use Rattle.indus_tree.specs.Meaning.{seen_by}
use Rattle.indus_tree.specs.declared.tree.DeclKind.{DeclKind}
use Rattle.indus_tree.specs.declared.tree.DeclKind.TheVariants.{Tele, Sensor, Header, Control}
use Rattle.indus_tree.specs.declared.tree.Ty.{Ty}
use Rattle.indus_tree.specs.declared.tree.Ty.TheVariants as ty
use Rattle.indus_scopes.specs.Kinds.{kind_of}
use Rattle.indus_scopes.specs.Scopes.{Sight, Stands, builtin, builtin_of, role_from, scalar_kind, element_kind, read_kind, index_kind}
use Rattle.indus_scopes.specs.Uses.{is_missing, is_hop, is_scalar, is_array, is_dict, is_one, as_many, reads, indexed, shape_indexed, may_hold, shape_holds, may_index, kind_writable, writable}
use Rattle.indus_scopes.specs.declared.kind.Kind.{Kind}
use Rattle.indus_scopes.specs.declared.kind.Kind.TheVariants.{Number, Truth}
use Rattle.indus_scopes.specs.declared.scope.Block.{Block}
use Rattle.indus_rules.specs.Sites.{Wants, keys, free, shape_index_wants, shape_member_wants, index_wants, member_wants, expr_sites, all_sites, stmt_sites, block_sites}
use Rattle.indus_rules.specs.Rules.{Fine, bad_width, bad_widths, bad_shape, misshapen, is_init, is_check}
use Rattle.indus_rules.specs.declared.rule.Rule.TheVariants.{NoSuchName, KindDiffers, NotWritable, WrongBlock, BadSize}
use Rattle.indus_types.specs.Sums.{shape_is_list, found_list}
use Rattle.indus_types.specs.StaticWidths.{IsSound, ShowsDeclared, SeesDeclared}
use Rattle.indus_types.proofs.Widths.{neither, twice_not}
use Rattle.indus_types.proofs.SoundSights.{good_bits}
use Rattle.indus_types.proofs.StaticWidthsLemmas.{sound_is}
use Rattle.flat_laws.specs.Form.{IsFlatExpr, AreFlatExprs, IsFlatStmt, IsFlatBlock}
use Rattle.lowered_code.specs.Expressions.{value_type}
use Rattle.lowered_code.specs.Suiting as suiting
use Rattle.lowered_code.specs.Suiting.{IsBuiltIn, IsScalar, IsOfType, PartsFit, OneIndex, SuitsName, ShapeIndexed, ShapeHolds, SuitsIndex, SuitsMember, Suits, AllSuit, Always, KindSuits, TargetSuits, ArraySuits, StmtSuits, BlockSuits}
use Rattle.whole_properties.proofs.Declarations.{clash, AreShapely}
use Rattle.whole_properties.proofs.CodeWidths.{of_type, has_place, is_index}

turned_clash : {A : Type 0} → false ≡ true → A
turned_clash e = absurd (cc e)

scalar_is : (s : Shape) → is_scalar s ≡ true → IsScalar s
scalar_is (one t) h = tt
scalar_is (list t n) h = turned_clash h
scalar_is (set ks) h = turned_clash h
scalar_is (dict ks t) h = turned_clash h

sound_type : (t : Ty) → bad_width t ≡ false → suiting.IsSound t
sound_type (ty.Bit w) h = sound_is w (good_bits w h)
sound_type ty.Bool h = refl

few_keys : (ts : List Ty) → nat_lt 4 (length ts) ≡ false → length ts < 2 ^ 64
few_keys ts h = let le = ltb-false 4 (length ts) h in omega (arith, le)

-- what a name stands for where no loop is around
abbrev role : Option Kind → Option Decl → Stands
role b o = role_from None b o

-- a block at a hop; the entry part is init
module _ (edition : ℕ) (part : Block) (h : Hop) (exits : Bool) (hops : exits ≡ false → is_init part ≡ true) where
  abbrev ds : List Decl
  ds = h.decls

  abbrev g : Sight
  g = record { edition = edition; decls = h.decls; loops = []; block = part }

  module _ (well : AreShapely h.decls) (sound : IsSound g) (shows : ShowsDeclared h.decls h) where
    -- ---- names

    -- no name stands for a name of the language's own and for a variable
    either_way : (x : List ℕ) → (lookup ds x ≡ None) ⊎ (builtin_of x ≡ None)
    either_way x = go (lookup ds x) refl
      where
        go : (o : Option Decl) → lookup ds x ≡ o → (o ≡ None) ⊎ (builtin_of x ≡ None)
        go None e = inl refl
        go (Some d) e = inr (sound.apart x d e)

    built_in :
        (x : List ℕ) (k : Kind) → builtin_of x ≡ Some k → (is_hop (builtin k) && is_init part) ≡ false →
        IsBuiltIn exits x
    built_in x k is hop = go (same_text x (codes "first_hop")) (same_text x (codes "last_hop")) (same_text x (codes "switch_id")) exits hops is
      where
        no_flag : {A : Type 0} → is_init part ≡ true → Truth ≡ k → A
        no_flag i same = clash (sym i ∙ ap (λ k. is_hop (builtin k) && is_init part) same ∙ hop)

        go :
            (a b c e : Bool) → (e ≡ false → is_init part ≡ true) →
            cond (a || b) (Some Truth) (cond c (Some (Number 16)) None) ≡ Some k →
            MatchBool a (e ≡ true) (MatchBool b (e ≡ true) (c ≡ true))
        go true b c true i is = refl
        go true b c false i is = no_flag (i refl) (cc)
        go false true c true i is = refl
        go false true c false i is = no_flag (i refl) (cc)
        go false false true e i is = refl
        go false false false e i is = absurd (cc)

    module _ (d : Doing Held Held) (shaped : AreShaped h.decls d) where
      abbrev v : Seen
      v = seen_by h [] d

      sees : SeesDeclared g v
      sees = record { decls = refl; hop = shows; items = λ x. tt; tele = λ x c is k. (shaped.tele x c is k).words; sensors = λ x c is k. (shaped.sensors x c is k).words }

      typed : (t : Ty) → bad_width t ≡ false → (e : Expr) → Fine (expr_sites g (kind_of t) e) → IsOfType v t e
      typed t b e f = of_type g sound v sees t b e f

      name_suits :
          (x : List ℕ) (b : Option Kind) (o : Option Decl) → builtin_of x ≡ b → lookup ds x ≡ o → is_missing (role b o) ≡ false → reads (role b o) ≡ true →
          (is_hop (role b o) && is_init part) ≡ false → SuitsName exits v o x
      name_suits x (Some k) None is at m r w = built_in x k is w
      name_suits x (Some k) (Some c) is at m r w = absurd (let e : Some k ≡ None = sym is ∙ sound.apart x c at in cc)
      name_suits x None None is at m r w = clash m
      name_suits x None (Some c) is at m r w = scalar_is c.shape r

      -- ---- keys

      parts :
          (ts : List Ty) (ks : Exprs) → as_many ks ts ≡ true → bad_widths ts ≡ false → Fine (all_sites g (keys ts) ks) →
          PartsFit exits v ts ks
      parts [] none m b f = tt
      parts [] (more e es) m b f = turned_clash m
      parts (t ∷ ts) none m b f = turned_clash m
      parts (t ∷ ts) (more e es) m b f = (let n = neither (bad_width t) (bad_widths ts) b in (typed t n.0 e f.0, sound_type t n.0, parts ts es m n.1 f.1))

      one_index : (ks : Exprs) (ws : Wants) → is_one ks ≡ true → Fine (all_sites g ws ks) → OneIndex exits v ks
      one_index none ws i f = turned_clash i
      one_index (more e none) ws i f = is_index g sound v sees e _ f.0
      one_index (more e (more a es)) ws i f = turned_clash i

      shape_index :
          (k : DeclKind) (s : Shape) (ks : Exprs) → misshapen k s ≡ false → bad_shape s ≡ false →
          shape_indexed k s ks ≡ true → Fine (all_sites g (shape_index_wants s) ks) → ShapeIndexed exits v k s ks
      shape_index Sensor (list t n) ks m b r f = (one_index ks _ r f, (let le = ltb-false 255 n (neither (bad_width t || nat_eq n 0) (nat_lt 255 n) b).1 in omega (arith, le)))
      shape_index Control (dict ts t) ks m b r f =
          (let a = neither (bad_widths ts || nat_lt 4 (length ts)) (bad_width t) b in
          let n = neither (bad_widths ts) (nat_lt 4 (length ts)) a.0 in
          (parts ts ks r n.0 f, few_keys ts n.1))
      shape_index Tele (dict ts t) ks m b r f = clash m
      shape_index Sensor (dict ts t) ks m b r f = clash m
      shape_index Header (dict ts t) ks m b r f = clash m
      shape_index Tele (list t n) ks m b r f = turned_clash r
      shape_index Header (list t n) ks m b r f = turned_clash r
      shape_index Control (list t n) ks m b r f = turned_clash r
      shape_index Tele (one t) ks m b r f = turned_clash r
      shape_index Sensor (one t) ks m b r f = turned_clash r
      shape_index Header (one t) ks m b r f = turned_clash r
      shape_index Control (one t) ks m b r f = turned_clash r
      shape_index Tele (set ts) ks m b r f = turned_clash r
      shape_index Sensor (set ts) ks m b r f = turned_clash r
      shape_index Header (set ts) ks m b r f = turned_clash r
      shape_index Control (set ts) ks m b r f = turned_clash r

      shape_hold :
          (k : DeclKind) (s : Shape) (ks : Exprs) → misshapen k s ≡ false → bad_shape s ≡ false → shape_holds k s ks ≡ true → shape_is_list s ≡ false →
          Fine (all_sites g (shape_member_wants s) ks) → ShapeHolds exits v k s ks
      shape_hold Control (set ts) ks m b r q f = (let n = neither (bad_widths ts) (nat_lt 4 (length ts)) b in (parts ts ks r n.0 f, few_keys ts n.1))
      shape_hold Tele (set ts) ks m b r q f = clash m
      shape_hold Sensor (set ts) ks m b r q f = clash m
      shape_hold Header (set ts) ks m b r q f = clash m
      shape_hold Tele (list t n) ks m b r q f = clash q
      shape_hold Sensor (list t n) ks m b r q f = turned_clash r
      shape_hold Header (list t n) ks m b r q f = turned_clash r
      shape_hold Control (list t n) ks m b r q f = turned_clash r
      shape_hold Tele (one t) ks m b r q f = turned_clash r
      shape_hold Sensor (one t) ks m b r q f = turned_clash r
      shape_hold Header (one t) ks m b r q f = turned_clash r
      shape_hold Control (one t) ks m b r q f = turned_clash r
      shape_hold Tele (dict ts t) ks m b r q f = turned_clash r
      shape_hold Sensor (dict ts t) ks m b r q f = turned_clash r
      shape_hold Header (dict ts t) ks m b r q f = turned_clash r
      shape_hold Control (dict ts t) ks m b r q f = turned_clash r

      index_suits :
          (ks : Exprs) (x : List ℕ) (b : Option Kind) (o : Option Decl) → lookup ds x ≡ o → is_missing (role b o) ≡ false → indexed (role b o) ks ≡ true → (o ≡ None) ⊎ (b ≡ None) →
          Fine (all_sites g (index_wants (role b o)) ks) → SuitsIndex exits v o ks
      index_suits ks x (Some k) None at m r z f = turned_clash r
      index_suits ks x (Some k) (Some c) at m r (inl z) f = absurd (cc)
      index_suits ks x (Some k) (Some c) at m r (inr z) f = absurd (cc)
      index_suits ks x None None at m r z f = clash m
      index_suits ks x None (Some c) at m r z f = shape_index c.kind c.shape ks (well.shaped x c at) (well.sized x c at) r f

      member_suits :
          (ks : Exprs) (x : List ℕ) (b : Option Kind) (o : Option Decl) → lookup ds x ≡ o → is_missing (role b o) ≡ false → may_hold (role b o) ks ≡ true → (o ≡ None) ⊎ (b ≡ None) →
          found_list o ≡ false → Fine (all_sites g (member_wants (role b o)) ks) → SuitsMember exits v o ks
      member_suits ks x (Some k) None at m r z q f = turned_clash r
      member_suits ks x (Some k) (Some c) at m r (inl z) q f = absurd (cc)
      member_suits ks x (Some k) (Some c) at m r (inr z) q f = absurd (cc)
      member_suits ks x None None at m r z q f = clash m
      member_suits ks x None (Some c) at m r z q f = shape_hold c.kind c.shape ks (well.shaped x c at) (well.sized x c at) r q f

      -- ---- expressions

      mutual
        expr_suits : (e : Expr) (want : Kind) → Fine (expr_sites g want e) → IsFlatExpr ds e → Suits exits v e
        expr_suits (num p n) want f i = tt
        expr_suits (flag p b) want f i = tt
        expr_suits (read p x) want f i = name_suits x (builtin_of x) (lookup ds x) refl refl (f NoSuchName) (twice_not _ (neither _ _ (f KindDiffers)).1) (f WrongBlock)
        expr_suits (count p x) want f i = absurd i
        expr_suits (index p x ks) want f i = (
          index_suits ks x (builtin_of x) (lookup ds x) refl (f.0 NoSuchName) (twice_not _ (neither _ _ (f.0 KindDiffers)).1) (either_way x) f.1,
          exprs_suit ks _ f.1 i,
        )
        expr_suits (member p ks x) want f i = (
          member_suits ks x (builtin_of x) (lookup ds x) refl (f.0 NoSuchName) (twice_not _ (neither _ _ (f.0 KindDiffers)).1) (either_way x) i.0 f.1,
          exprs_suit ks _ f.1 i.1,
        )
        expr_suits (negation p a) want f i = expr_suits a Truth f.1 i
        expr_suits (inversion p a) want f i = (has_place g sound v sees a _ f.1, expr_suits a _ f.1 i)
        expr_suits (binary p o a b) want f i = (expr_suits a _ f.1.0 i.0, expr_suits b _ f.1.1 i.1)
        expr_suits (cast p w a) want f i = expr_suits a _ f.1 i

        exprs_suit : (es : Exprs) (ws : Wants) → Fine (all_sites g ws es) → AreFlatExprs ds es → AllSuit exits v es
        exprs_suit none ws f i = tt
        exprs_suit (more e es) ws f i = (expr_suits e _ f.0 i.0, exprs_suit es _ f.1 i.1)

    -- ---- statements

    value_typed :
        (s : Shape) → is_scalar s ≡ true → bad_shape s ≡ false → (e : Expr) → Fine (expr_sites g (scalar_kind s) e) →
        Always h exits (λ v. IsOfType v (value_type s) e)
    value_typed (one t) r b e f d shaped = typed d shaped t b e f
    value_typed (list t n) r b e f d shaped = turned_clash r
    value_typed (set ks) r b e f d shaped = turned_clash r
    value_typed (dict ks t) r b e f d shaped = turned_clash r

    kind_target :
        (k : DeclKind) (c : Decl) (e : Expr) → kind_writable k ≡ true → is_scalar c.shape ≡ true →
        bad_shape c.shape ≡ false → Fine (expr_sites g (scalar_kind c.shape) e) → KindSuits h exits k c e
    kind_target Tele c e w r b f = (scalar_is c.shape r, value_typed c.shape r b e f)
    kind_target Sensor c e w r b f = (scalar_is c.shape r, value_typed c.shape r b e f)
    kind_target Header c e w r b f = turned_clash w
    kind_target Control c e w r b f = turned_clash w

    target :
        (x : List ℕ) (b : Option Kind) (o : Option Decl) → lookup ds x ≡ o → is_missing (role b o) ≡ false → reads (role b o) ≡ true → writable (role b o) ≡ true → (o ≡ None) ⊎ (b ≡ None) →
        (e : Expr) → Fine (expr_sites g (read_kind (role b o)) e) → TargetSuits h exits o e
    target x (Some k) None at m r w z e f = turned_clash w
    target x (Some k) (Some c) at m r w (inl z) e f = absurd (cc)
    target x (Some k) (Some c) at m r w (inr z) e f = absurd (cc)
    target x None None at m r w z e f = clash m
    target x None (Some c) at m r w z e f = kind_target c.kind c e w r (well.sized x c at) f

    array_kind :
        (k : DeclKind) (s : Shape) (e : Expr) → misshapen k s ≡ false → bad_shape s ≡ false → kind_writable k ≡ true → (is_array k s || is_dict s) ≡ true → Fine (expr_sites g (element_kind k s) e) →
        (k ≡ Sensor) × Always h exits (λ v. IsOfType v (value_type s) e)
    array_kind Sensor (list t n) e m b w r f = (refl, λ d shaped. typed d shaped t (neither (bad_width t) (nat_eq n 0) (neither (bad_width t || nat_eq n 0) (nat_lt 255 n) b).0).0 e f)
    array_kind Tele (list t n) e m b w r f = turned_clash r
    array_kind Header (list t n) e m b w r f = turned_clash r
    array_kind Control (list t n) e m b w r f = turned_clash r
    array_kind Tele (dict ts t) e m b w r f = clash m
    array_kind Sensor (dict ts t) e m b w r f = clash m
    array_kind Header (dict ts t) e m b w r f = clash m
    array_kind Control (dict ts t) e m b w r f = turned_clash w
    array_kind Tele (one t) e m b w r f = turned_clash r
    array_kind Sensor (one t) e m b w r f = turned_clash r
    array_kind Header (one t) e m b w r f = turned_clash r
    array_kind Control (one t) e m b w r f = turned_clash r
    array_kind Tele (set ts) e m b w r f = turned_clash r
    array_kind Sensor (set ts) e m b w r f = turned_clash r
    array_kind Header (set ts) e m b w r f = turned_clash r
    array_kind Control (set ts) e m b w r f = turned_clash r

    array :
        (x : List ℕ) (b : Option Kind) (o : Option Decl) → lookup ds x ≡ o → is_missing (role b o) ≡ false → may_index (role b o) ≡ true → writable (role b o) ≡ true → (o ≡ None) ⊎ (b ≡ None) →
        (e : Expr) → Fine (expr_sites g (index_kind (role b o)) e) → ArraySuits h exits o e
    array x (Some k) None at m r w z e f = turned_clash w
    array x (Some k) (Some c) at m r w (inl z) e f = absurd (cc)
    array x (Some k) (Some c) at m r w (inr z) e f = absurd (cc)
    array x None None at m r w z e f = clash m
    array x None (Some c) at m r w z e f = array_kind c.kind c.shape e (well.shaped x c at) (well.sized x c at) w r f

    -- `reject` stands where the verdict is
    abbrev IsCheck : Type 0
    IsCheck = exits ≡ false → is_check part ≡ false

    mutual
      stmt_suits :
          IsCheck → (s : indus.Stmt) → Fine (stmt_sites g s) → IsFlatStmt ds s → ReportsBelow (2 ^ 16) s →
          StmtSuits h exits s
      stmt_suits c (indus.assign p x e) f i n = (
        λ d shaped. expr_suits d shaped e _ f.1 i,
        target x (builtin_of x) (lookup ds x) refl (f.0 NoSuchName) (twice_not _ (f.0 KindDiffers)) (twice_not _ (f.0 NotWritable)) (either_way x) e f.1,
      )
      stmt_suits c (indus.cell p x a e) f i n = (
        λ d shaped. expr_suits d shaped a _ f.1.0 i.0,
        λ d shaped. expr_suits d shaped e _ f.1.1 i.1,
        array x (builtin_of x) (lookup ds x) refl (f.0 NoSuchName) (twice_not _ (f.0 KindDiffers)) (twice_not _ (f.0 NotWritable)) (either_way x) e f.1.1,
      )
      stmt_suits c (indus.push p x e) f i n = absurd i
      stmt_suits c (indus.choice p t a b) f i n = (λ d shaped. expr_suits d shaped t Truth f.1.0 i.0, block_suits c a f.1.1.0 i.1 n.0, block_suits c b f.1.1.1 i.2 n.1)
      stmt_suits c (indus.loop p xs ls a) f i n = absurd i
      stmt_suits c (indus.reject p) f i n = go exits refl
        where
          go : (e : Bool) → exits ≡ e → exits ≡ true
          go true e = e
          go false e = clash (sym (ap not (c e)) ∙ f WrongBlock)
      stmt_suits c (indus.report p m es) f i n = (λ d shaped. exprs_suit d shaped es free f.1 i, n, ltb-false 8 (exprs_count es) (f.0 BadSize))

      pub block_suits :
          IsCheck → (ss : indus.Stmts) → Fine (block_sites g ss) → IsFlatBlock ds ss → BlockReportsBelow (2 ^ 16) ss →
          BlockSuits h exits ss
      block_suits c indus.done f i n = tt
      block_suits c (indus.next s ss) f i n = (stmt_suits c s f.0 i.0 n.0, block_suits c ss f.1 i.1 n.1)

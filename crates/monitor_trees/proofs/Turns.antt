-- The reads of a statement that breaks no rule, one behind the other: each asks for reads before it alone, and breaks no rule.
use Rattle.std.proofs.Common.{◌≡◌, ℕ, List, [], ◌∷◌, ◌++◌, Bool, true, false, cond, Option, Some, None, refl, sym, ap, ◌∙◌, subst, append_assoc, append-nil}
use Rattle.indus_tree.specs.Tree as indus
use Rattle.indus_tree.specs.Tree.{Expr, Exprs, num, flag, read, count, index, member, negation, inversion, binary, cast, none, more, Decl}
use Rattle.indus_tree.specs.State.{lookup}
use Rattle.indus_tree.specs.declared.tree.DeclKind.{DeclKind}
use Rattle.indus_tree.specs.declared.tree.DeclKind.TheVariants.{Tele, Sensor, Header, Control}
use Rattle.indus_scopes.specs.Scopes.{Sight}
use Rattle.indus_scopes.specs.declared.kind.Kind.{Kind}
use Rattle.indus_rules.specs.Sites.{Wants, expr_sites, all_sites, stmt_sites}
use Rattle.indus_rules.specs.Rules.{Fine}
use Rattle.flat_laws.specs.Form.{IsFlatExpr, AreFlatExprs, IsFlatStmt}
use Rattle.lowered_code.specs.Expressions.{is_in}
use Rattle.lowered_code.specs.Reads.{with_read, reads_by_kind, name_reads, reads, all_reads, keys_of}
use Rattle.lowered_code.specs.Statements.{stmt_reads}
use Rattle.lowered_code.proofs.Lists.{in_more, in_last}
use Rattle.lowered_code.proofs.Values.{IsKindRead, IsNameRead, Covers, AllCovered}
use Rattle.lowered_code.proofs.Turns.{IsKindTaken, IsNameTaken, IsTaken}

module _ (ds : List Decl) where
  kind_more : (l k : List Expr) (z : DeclKind) (e : Expr) → IsKindRead ds l z e → IsKindRead ds (l ++ k) z e
  kind_more l k Tele e i = tt
  kind_more l k Sensor e i = in_more l k e i
  kind_more l k Header e i = tt
  kind_more l k Control e i = in_more l k e i

  name_more : (l k : List Expr) (o : Option Decl) (e : Expr) → IsNameRead ds l o e → IsNameRead ds (l ++ k) o e
  name_more l k None e i = tt
  name_more l k (Some c) e i = kind_more l k c.kind e i

  covers_more : (l k : List Expr) (e : Expr) → Covers ds l e → Covers ds (l ++ k) e
  covers_more l k (num p n) i = tt
  covers_more l k (flag p b) i = tt
  covers_more l k (read p x) i = name_more l k (lookup ds x) (read p x) i
  covers_more l k (count p x) i = tt
  covers_more l k (index p x ks) i = in_more l k (index p x ks) i
  covers_more l k (member p ks x) i = in_more l k (member p ks x) i
  covers_more l k (negation p e) i = covers_more l k e i
  covers_more l k (inversion p e) i = covers_more l k e i
  covers_more l k (binary p o e f) i = (covers_more l k e i.0, covers_more l k f i.1)
  covers_more l k (cast p w e) i = covers_more l k e i

module _ (g : Sight) where
  abbrev decls : List Decl
  decls = g.decls

  -- an expression of flat code that breaks no rule at its place
  pub record IsRead (e : Expr) : Type 0 where
    pub want : Kind
    pub fine : Fine (expr_sites g want e)
    pub flat : IsFlatExpr decls e

  -- a read that is none of those before it, and whose key asks for them alone
  pub record IsNext (l : List Expr) (e : Expr) : Type 0 where
    pub new : is_in l e ≡ false
    pub taken : IsTaken decls e
    pub here : IsRead e
    pub covered : AllCovered decls l (keys_of e)

  abbrev pub InTurn : (before : List Expr) → List Expr → Type 0
  InTurn l [] = Unit {0}
  InTurn l (e ∷ es) = IsNext l e × InTurn (l ++ e ∷ []) es

  turn_both : (l k j : List Expr) → InTurn l k → InTurn (l ++ k) j → InTurn l (k ++ j)
  turn_both l [] j h i = subst (λ m. InTurn m j) (append-nil l) i
  turn_both l (e ∷ k) j h i = (h.0, turn_both (l ++ e ∷ []) k j h.1 (subst (λ m. InTurn m j) (sym (append_assoc l (e ∷ []) k)) i))

  -- the list m is l and then reads in turn
  pub record GoesOn (l m : List Expr) : Type 0 where
    pub extra : List Expr
    pub is : m ≡ l ++ extra
    pub turn : InTurn l extra

  goes_none : (l : List Expr) → GoesOn l l
  goes_none l = record { extra = []; is = sym (append-nil l); turn = tt }

  goes_then : (l m n : List Expr) → GoesOn l m → GoesOn m n → GoesOn l n
  goes_then l m n x y =
      record {
        extra = x.extra ++ y.extra;
        is = y.is ∙ ap (λ t. t ++ y.extra) x.is ∙ append_assoc l x.extra y.extra;
        turn = turn_both l x.extra y.extra x.turn (subst (λ m. InTurn m y.extra) x.is y.turn);
      }

  covers_on : (l m : List Expr) (e : Expr) → GoesOn l m → Covers decls l e → Covers decls m e
  covers_on l m e x i = subst (λ m. Covers decls m e) (sym x.is) (covers_more decls l x.extra e i)

  -- one read
  with_one : (l : List Expr) (e : Expr) → IsTaken decls e → IsRead e → AllCovered decls l (keys_of e) → GoesOn l (with_read l e) × (is_in (with_read l e) e ≡ true)
  with_one l e taken here covered = go (is_in l e) refl
    where
      go : (b : Bool) → is_in l e ≡ b → GoesOn l (cond b l (l ++ e ∷ [])) × (is_in (cond b l (l ++ e ∷ [])) e ≡ true)
      go true i = (goes_none l, i)
      go false i = (record { extra = e ∷ []; is = refl; turn = (record { new = i; taken = taken; here = here; covered = covered }, tt) }, in_last l e)

  with_kind : (k : DeclKind) (p : ℕ) (x : List ℕ) (c : Decl) (l : List Expr) → lookup decls x ≡ Some c → c.kind ≡ k → IsRead (read p x) → GoesOn l (reads_by_kind k (read p x) l) × IsKindRead decls (reads_by_kind k (read p x) l) k (read p x)
  with_kind Tele p x c l is k s = (goes_none l, tt)
  with_kind Sensor p x c l is k s = with_one l (read p x) (subst (IsNameTaken decls) (sym is) (subst (IsKindTaken decls) (sym k) tt)) s tt
  with_kind Header p x c l is k s = (goes_none l, tt)
  with_kind Control p x c l is k s = with_one l (read p x) (subst (IsNameTaken decls) (sym is) (subst (IsKindTaken decls) (sym k) tt)) s tt

  with_name : (o : Option Decl) (p : ℕ) (x : List ℕ) (l : List Expr) → lookup decls x ≡ o → IsRead (read p x) → GoesOn l (name_reads o (read p x) l) × IsNameRead decls (name_reads o (read p x) l) o (read p x)
  with_name None p x l is s = (goes_none l, tt)
  with_name (Some c) p x l is s = with_kind c.kind p x c l is refl s

  mutual
    pub expr_reads : (e : Expr) (w : Kind) (l : List Expr) → Fine (expr_sites g w e) → IsFlatExpr decls e → GoesOn l (reads decls e l) × Covers decls (reads decls e l) e
    expr_reads (num p n) w l f i = (goes_none l, tt)
    expr_reads (flag p b) w l f i = (goes_none l, tt)
    expr_reads (read p x) w l f i = with_name (lookup decls x) p x l refl (record { want = w; fine = f; flat = i })
    expr_reads (count p x) w l f i = absurd i
    expr_reads (index p x ks) w l f i =
        let m = all_reads decls ks l in
        let key = exprs_read ks _ l f.1 i in
        let one = with_one m (index p x ks) tt (record { want = w; fine = f; flat = i }) key.1 in
        (goes_then l m (with_read m (index p x ks)) key.0 one.0, one.1)
    expr_reads (member p ks x) w l f i =
        let m = all_reads decls ks l in
        let key = exprs_read ks _ l f.1 i.1 in
        let one = with_one m (member p ks x) tt (record { want = w; fine = f; flat = i }) key.1 in
        (goes_then l m (with_read m (member p ks x)) key.0 one.0, one.1)
    expr_reads (negation p e) w l f i = expr_reads e _ l f.1 i
    expr_reads (inversion p e) w l f i = expr_reads e _ l f.1 i
    expr_reads (binary p o a b) w l f i =
        let m = reads decls a l in
        let one = expr_reads a _ l f.1.0 i.0 in
        let two = expr_reads b _ m f.1.1 i.1 in
        (goes_then l m (reads decls b m) one.0 two.0, (covers_on m (reads decls b m) a two.0 one.1, two.1))
    expr_reads (cast p v e) w l f i = expr_reads e _ l f.1 i

    pub exprs_read : (es : Exprs) (ws : Wants) (l : List Expr) → Fine (all_sites g ws es) → AreFlatExprs decls es → GoesOn l (all_reads decls es l) × AllCovered decls (all_reads decls es l) es
    exprs_read none ws l f i = (goes_none l, tt)
    exprs_read (more e es) ws l f i =
        let m = reads decls e l in
        let one = expr_reads e _ l f.0 i.0 in
        let two = exprs_read es _ m f.1 i.1 in
        (goes_then l m (all_reads decls es m) one.0 two.0, (covers_on m (all_reads decls es m) e two.0 one.1, two.1))

  -- ---- statements

  turn_of : (m : List Expr) → GoesOn [] m → InTurn [] m
  turn_of m x = subst (λ m. InTurn [] m) (sym x.is) x.turn

  -- what an assignment, a test or a report reads
  pub expr_turn : (e : Expr) (w : Kind) → Fine (expr_sites g w e) → IsFlatExpr decls e → InTurn [] (reads decls e [])
  expr_turn e w f i = turn_of (reads decls e []) (expr_reads e w [] f i).0

  pub expr_covers : (e : Expr) (w : Kind) → Fine (expr_sites g w e) → IsFlatExpr decls e → Covers decls (reads decls e []) e
  expr_covers e w f i = (expr_reads e w [] f i).1

  pub exprs_turn : (es : Exprs) (ws : Wants) → Fine (all_sites g ws es) → AreFlatExprs decls es → InTurn [] (all_reads decls es [])
  exprs_turn es ws f i = turn_of (all_reads decls es []) (exprs_read es ws [] f i).0

  pub exprs_covered : (es : Exprs) (ws : Wants) → Fine (all_sites g ws es) → AreFlatExprs decls es → AllCovered decls (all_reads decls es []) es
  exprs_covered es ws f i = (exprs_read es ws [] f i).1

  -- what a cell's index and then its value read
  pub cell_turn : (a e : Expr) (v w : Kind) → Fine (expr_sites g v a) → Fine (expr_sites g w e) → IsFlatExpr decls a → IsFlatExpr decls e → InTurn [] (reads decls e (reads decls a []))
  cell_turn a e v w f h i j =
      let m = reads decls a [] in
      turn_of (reads decls e m) (goes_then [] m (reads decls e m) (expr_reads a v [] f i).0 (expr_reads e w m h j).0)

  pub index_covers : (a e : Expr) (v w : Kind) → Fine (expr_sites g v a) → Fine (expr_sites g w e) → IsFlatExpr decls a → IsFlatExpr decls e → Covers decls (reads decls e (reads decls a [])) a
  index_covers a e v w f h i j = (let m = reads decls a [] in covers_on m (reads decls e m) a (expr_reads e w m h j).0 (expr_reads a v [] f i).1)

  pub value_covers : (a e : Expr) (v w : Kind) → Fine (expr_sites g v a) → Fine (expr_sites g w e) → IsFlatExpr decls a → IsFlatExpr decls e → Covers decls (reads decls e (reads decls a [])) e
  value_covers a e v w f h i j = (expr_reads e w (reads decls a []) h j).1

  -- what a statement reads
  pub stmt_turn : (s : indus.Stmt) → Fine (stmt_sites g s) → IsFlatStmt decls s → InTurn [] (stmt_reads decls s)
  stmt_turn (indus.assign p x e) f i = expr_turn e _ f.1 i
  stmt_turn (indus.cell p x a e) f i = cell_turn a e _ _ f.1.0 f.1.1 i.0 i.1
  stmt_turn (indus.push p x e) f i = tt
  stmt_turn (indus.choice p t a b) f i = expr_turn t _ f.1.0 i.0
  stmt_turn (indus.loop p xs ls a) f i = tt
  stmt_turn (indus.reject p) f i = tt
  stmt_turn (indus.report p m es) f i = exprs_turn es _ f.1 i

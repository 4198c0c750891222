-- The reads of an expression are a list in which each asks for reads before it alone; and behind them the expression is covered.
use Rattle.std.proofs.Common.{◌≡◌, ℕ, List, [], ◌∷◌, ◌++◌, Bool, true, false, cond, Option, Some, None, refl, sym, ap, ◌∙◌, subst, append_assoc, append-nil}
use Rattle.indus_tree.specs.Tree.{Expr, Exprs, num, flag, read, count, index, member, negation, inversion, binary, cast, none, more, Decl}
use Rattle.indus_tree.specs.State.{lookup}
use Rattle.indus_tree.specs.Reads.{Seen}
use Rattle.indus_tree.specs.declared.tree.DeclKind.{DeclKind}
use Rattle.indus_tree.specs.declared.tree.DeclKind.TheVariants.{Tele, Sensor, Header, Control}
use Rattle.lowered_code.specs.Expressions.{is_in}
use Rattle.lowered_code.specs.Reads.{with_read, reads_by_kind, name_reads, reads, all_reads, keys_of}
use Rattle.lowered_code.specs.Suiting.{Suits, AllSuit}
use Rattle.lowered_code.proofs.Lists.{in_more, in_last}
use Rattle.lowered_code.proofs.Values.{IsKindRead, IsNameRead, Covers, AllCovered}

module _ (ds : List Decl) where
  -- ---- what is read by statements

  abbrev pub IsKindTaken : DeclKind → Type 0
  IsKindTaken Tele = ⊥
  IsKindTaken Sensor = Unit {0}
  IsKindTaken Header = ⊥
  IsKindTaken Control = Unit {0}

  abbrev pub IsNameTaken : Option Decl → Type 0
  IsNameTaken None = ⊥
  IsNameTaken (Some c) = IsKindTaken c.kind

  abbrev pub IsTaken : Expr → Type 0
  IsTaken (read p x) = IsNameTaken (lookup ds x)
  IsTaken (index p x ks) = Unit {0}
  IsTaken (member p ks x) = Unit {0}
  IsTaken _ = ⊥

  -- ---- what covers an expression covers it where more is read

  kind_more : (l k : List Expr) (z : DeclKind) (e : Expr) → IsKindRead ds l z e → IsKindRead ds (l ++ k) z e
  kind_more l k Tele e i = tt
  kind_more l k Sensor e i = in_more l k e i
  kind_more l k Header e i = tt
  kind_more l k Control e i = in_more l k e i

  name_more : (l k : List Expr) (o : Option Decl) (e : Expr) → IsNameRead ds l o e → IsNameRead ds (l ++ k) o e
  name_more l k None e i = tt
  name_more l k (Some c) e i = kind_more l k c.kind e i

  covers_more : (l k : List Expr) (e : Expr) → Covers ds l e → Covers ds (l ++ k) e
  covers_more l k (num p n) i = tt
  covers_more l k (flag p b) i = tt
  covers_more l k (read p x) i = name_more l k (lookup ds x) (read p x) i
  covers_more l k (count p x) i = tt
  covers_more l k (index p x ks) i = in_more l k (index p x ks) i
  covers_more l k (member p ks x) i = in_more l k (member p ks x) i
  covers_more l k (negation p e) i = covers_more l k e i
  covers_more l k (inversion p e) i = covers_more l k e i
  covers_more l k (binary p o e f) i = (covers_more l k e i.0, covers_more l k f i.1)
  covers_more l k (cast p w e) i = covers_more l k e i

module _ (exits : Bool) (v : Seen) where
  abbrev decls : List Decl
  decls = v.hop.decls

  -- ---- reads in turn

  -- a read that is none of those before it, and whose key asks for them alone
  pub record IsNext (l : List Expr) (e : Expr) : Type 0 where
    pub new : is_in l e ≡ false
    pub taken : IsTaken decls e
    pub suits : Suits exits v e
    pub suit : AllSuit exits v (keys_of e)
    pub covered : AllCovered decls l (keys_of e)

  abbrev pub InTurn : (before : List Expr) → List Expr → Type 0
  InTurn l [] = Unit {0}
  InTurn l (e ∷ es) = IsNext l e × InTurn (l ++ e ∷ []) es

  turn_both : (l k j : List Expr) → InTurn l k → InTurn (l ++ k) j → InTurn l (k ++ j)
  turn_both l [] j h i = subst (λ m. InTurn m j) (append-nil l) i
  turn_both l (e ∷ k) j h i = (h.0, turn_both (l ++ e ∷ []) k j h.1 (subst (λ m. InTurn m j) (sym (append_assoc l (e ∷ []) k)) i))

  -- the list m is l and then reads in turn
  pub record GoesOn (l m : List Expr) : Type 0 where
    pub extra : List Expr
    pub is : m ≡ l ++ extra
    pub turn : InTurn l extra

  goes_none : (l : List Expr) → GoesOn l l
  goes_none l = record { extra = []; is = sym (append-nil l); turn = tt }

  pub goes_then : (l m n : List Expr) → GoesOn l m → GoesOn m n → GoesOn l n
  goes_then l m n x y =
      record {
        extra = x.extra ++ y.extra;
        is = y.is ∙ ap (λ t. t ++ y.extra) x.is ∙ append_assoc l x.extra y.extra;
        turn = turn_both l x.extra y.extra x.turn (subst (λ m. InTurn m y.extra) x.is y.turn);
      }

  pub covers_on : (l m : List Expr) (e : Expr) → GoesOn l m → Covers decls l e → Covers decls m e
  covers_on l m e x i = subst (λ m. Covers decls m e) (sym x.is) (covers_more decls l x.extra e i)

  -- one read
  with_one : (l : List Expr) (e : Expr) → IsTaken decls e → Suits exits v e → AllSuit exits v (keys_of e) → AllCovered decls l (keys_of e) → GoesOn l (with_read l e) × (is_in (with_read l e) e ≡ true)
  with_one l e taken suits suit covered = go (is_in l e) refl
    where
      go : (b : Bool) → is_in l e ≡ b → GoesOn l (cond b l (l ++ e ∷ [])) × (is_in (cond b l (l ++ e ∷ [])) e ≡ true)
      go true i = (goes_none l, i)
      go false i = (record { extra = e ∷ []; is = refl; turn = (record { new = i; taken = taken; suits = suits; suit = suit; covered = covered }, tt) }, in_last l e)

  with_kind : (k : DeclKind) (p : ℕ) (x : List ℕ) (c : Decl) (l : List Expr) → lookup decls x ≡ Some c → c.kind ≡ k → Suits exits v (read p x) → GoesOn l (reads_by_kind k (read p x) l) × IsKindRead decls (reads_by_kind k (read p x) l) k (read p x)
  with_kind Tele p x c l is k s = (goes_none l, tt)
  with_kind Sensor p x c l is k s = with_one l (read p x) (subst (IsNameTaken decls) (sym is) (subst (IsKindTaken decls) (sym k) tt)) s tt tt
  with_kind Header p x c l is k s = (goes_none l, tt)
  with_kind Control p x c l is k s = with_one l (read p x) (subst (IsNameTaken decls) (sym is) (subst (IsKindTaken decls) (sym k) tt)) s tt tt

  with_name : (o : Option Decl) (p : ℕ) (x : List ℕ) (l : List Expr) → lookup decls x ≡ o → Suits exits v (read p x) → GoesOn l (name_reads o (read p x) l) × IsNameRead decls (name_reads o (read p x) l) o (read p x)
  with_name None p x l is s = (goes_none l, tt)
  with_name (Some c) p x l is s = with_kind c.kind p x c l is refl s

  mutual
    pub expr_reads : (e : Expr) (l : List Expr) → Suits exits v e → GoesOn l (reads decls e l) × Covers decls (reads decls e l) e
    expr_reads (num p n) l s = (goes_none l, tt)
    expr_reads (flag p b) l s = (goes_none l, tt)
    expr_reads (read p x) l s = with_name (lookup decls x) p x l refl s
    expr_reads (count p x) l s = absurd s
    expr_reads (index p x ks) l s =
        let m = all_reads decls ks l in
        let key = exprs_read ks l s.1 in
        let one = with_one m (index p x ks) tt s s.1 key.1 in
        (goes_then l m (with_read m (index p x ks)) key.0 one.0, one.1)
    expr_reads (member p ks x) l s =
        let m = all_reads decls ks l in
        let key = exprs_read ks l s.1 in
        let one = with_one m (member p ks x) tt s s.1 key.1 in
        (goes_then l m (with_read m (member p ks x)) key.0 one.0, one.1)
    expr_reads (negation p e) l s = expr_reads e l s
    expr_reads (inversion p e) l s = expr_reads e l s.1
    expr_reads (binary p o e f) l s =
        let m = reads decls e l in
        let one = expr_reads e l s.0 in
        let two = expr_reads f m s.1 in
        (goes_then l m (reads decls f m) one.0 two.0, (covers_on m (reads decls f m) e two.0 one.1, two.1))
    expr_reads (cast p w e) l s = expr_reads e l s

    pub exprs_read : (es : Exprs) (l : List Expr) → AllSuit exits v es → GoesOn l (all_reads decls es l) × AllCovered decls (all_reads decls es l) es
    exprs_read none l s = (goes_none l, tt)
    exprs_read (more e es) l s =
        let m = reads decls e l in
        let one = expr_reads e l s.0 in
        let two = exprs_read es m s.1 in
        (goes_then l m (all_reads decls es m) one.0 two.0, (covers_on m (all_reads decls es m) e two.0 one.1, two.1))

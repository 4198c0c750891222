-- How often flat code reads: no more often than the property's text, for what one flat statement reads twice is read once.
use Rattle.std.proofs.Common.{◌≡◌, ℕ, zero, suc, ◌+◌, ◌-◌, ◌/◌, ◌≤◌, List, [], ◌∷◌, ◌++◌, Bool, true, false, cond, Option, Some, None, refl, sym, ap, ◌∙◌, subst, arith, append_assoc, append-nil}
use Rattle.std.specs.Prelude.{nat_le}
use Rattle.indus_tree.specs.Tree.{Expr, Exprs, num, flag, read, count, index, member, negation, inversion, binary, cast, none, more, Decl}
use Rattle.indus_tree.specs.State.{lookup}
use Rattle.indus_tree.specs.Hops.{variable_number}
use Rattle.indus_tree.specs.declared.tree.DeclKind.{DeclKind}
use Rattle.indus_tree.specs.declared.tree.DeclKind.TheVariants.{Tele, Sensor, Header, Control}
use Rattle.indus_tree.specs.declared.tree.Op.{Op}
use Rattle.indus_tree.specs.declared.tree.Op.TheVariants.{Either}
use Rattle.lower_lists.specs.Names.{item_name, count_name}
use Rattle.lower_lists.specs.Flat.{list_of, list_number, name_of_kind, name_in, target, found, or_item, source, has_item, is_item, halves, joined, any_item, flat_member, flat_expr, flat_exprs}
use Rattle.lower_lists.specs.declared.place.ListPlace.{ListPlace}
use Rattle.lower_lists.specs.declared.place.Bound.{Bound}
use Rattle.lowered_code.specs.Expressions.{is_in}
use Rattle.lowered_code.specs.Reads.{with_read, reads_by_kind, name_reads, reads, all_reads}
use Rattle.lowered_code.proofs.Lists.{in_more, in_last}
use Rattle.whole_properties.proofs.TextReads.{expr_reads, exprs_reads}

-- ---- lists that go on

-- the list m is the list l and more
abbrev Extends : List Expr → List Expr → Type 0
Extends l m = (k : List Expr) × (m ≡ l ++ k)

extends_same : (l : List Expr) → Extends l l
extends_same l = ([], sym (append-nil l))

extends_then : (l m n : List Expr) → Extends l m → Extends m n → Extends l n
extends_then l m n x y = (x.0 ++ y.0, y.1 ∙ ap (λ t. t ++ y.0) x.1 ∙ append_assoc l x.0 y.0)

in_extends : (l m : List Expr) (e : Expr) → Extends l m → is_in l e ≡ true → is_in m e ≡ true
in_extends l m e x i = subst (λ t. is_in t e ≡ true) (sym x.1) (in_more l x.0 e i)

with_extends : (e : Expr) (l : List Expr) → Extends l (with_read l e) × (is_in (with_read l e) e ≡ true)
with_extends e l = go (is_in l e) refl
  where
    go : (b : Bool) → is_in l e ≡ b → Extends l (cond b l (l ++ e ∷ [])) × (is_in (cond b l (l ++ e ∷ [])) e ≡ true)
    go true i = (extends_same l, i)
    go false i = ((e ∷ [], refl), in_last l e)

-- ---- what a list has of an expression: all that it reads, the parts of keys too

module _ (ds : List Decl) where
  abbrev HasKind : List Expr → DeclKind → Expr → Type 0
  HasKind l Tele e = Unit {0}
  HasKind l Sensor e = is_in l e ≡ true
  HasKind l Header e = Unit {0}
  HasKind l Control e = is_in l e ≡ true

  abbrev HasName : List Expr → Option Decl → Expr → Type 0
  HasName l None e = Unit {0}
  HasName l (Some c) e = HasKind l c.kind e

  abbrev mutual
    Has : List Expr → Expr → Type 0
    Has l (num p n) = Unit {0}
    Has l (flag p b) = Unit {0}
    Has l (read p x) = HasName l (lookup ds x) (read p x)
    Has l (count p x) = Unit {0}
    Has l (index p x ks) = (is_in l (index p x ks) ≡ true) × HasAll l ks
    Has l (member p ks x) = (is_in l (member p ks x) ≡ true) × HasAll l ks
    Has l (negation p a) = Has l a
    Has l (inversion p a) = Has l a
    Has l (binary p o a b) = Has l a × Has l b
    Has l (cast p w a) = Has l a

    HasAll : List Expr → Exprs → Type 0
    HasAll l none = Unit {0}
    HasAll l (more e es) = Has l e × HasAll l es

  kind_more : (l m : List Expr) (k : DeclKind) (e : Expr) → Extends l m → HasKind l k e → HasKind m k e
  kind_more l m Tele e x i = tt
  kind_more l m Sensor e x i = in_extends l m e x i
  kind_more l m Header e x i = tt
  kind_more l m Control e x i = in_extends l m e x i

  name_more : (l m : List Expr) (o : Option Decl) (e : Expr) → Extends l m → HasName l o e → HasName m o e
  name_more l m None e x i = tt
  name_more l m (Some c) e x i = kind_more l m c.kind e x i

  mutual
    has_more : (l m : List Expr) (e : Expr) → Extends l m → Has l e → Has m e
    has_more l m (num p n) x i = tt
    has_more l m (flag p b) x i = tt
    has_more l m (read p y) x i = name_more l m (lookup ds y) (read p y) x i
    has_more l m (count p y) x i = tt
    has_more l m (index p y ks) x i = (in_extends l m (index p y ks) x i.0, all_more l m ks x i.1)
    has_more l m (member p ks y) x i = (in_extends l m (member p ks y) x i.0, all_more l m ks x i.1)
    has_more l m (negation p a) x i = has_more l m a x i
    has_more l m (inversion p a) x i = has_more l m a x i
    has_more l m (binary p o a b) x i = (has_more l m a x i.0, has_more l m b x i.1)
    has_more l m (cast p w a) x i = has_more l m a x i

    all_more : (l m : List Expr) (es : Exprs) → Extends l m → HasAll l es → HasAll m es
    all_more l m none x i = tt
    all_more l m (more e es) x i = (has_more l m e x i.0, all_more l m es x i.1)

  kind_there :
      (k : DeclKind) (e : Expr) (l : List Expr) → Extends l (reads_by_kind k e l) × HasKind (reads_by_kind k e l) k e
  kind_there Tele e l = (extends_same l, tt)
  kind_there Sensor e l = with_extends e l
  kind_there Header e l = (extends_same l, tt)
  kind_there Control e l = with_extends e l

  name_there :
      (o : Option Decl) (e : Expr) (l : List Expr) → Extends l (name_reads o e l) × HasName (name_reads o e l) o e
  name_there None e l = (extends_same l, tt)
  name_there (Some c) e l = kind_there c.kind e l

  -- behind the reads of an expression the list has it
  mutual
    there : (e : Expr) (l : List Expr) → Extends l (reads ds e l) × Has (reads ds e l) e
    there (num p n) l = (extends_same l, tt)
    there (flag p b) l = (extends_same l, tt)
    there (read p x) l = name_there (lookup ds x) (read p x) l
    there (count p x) l = (extends_same l, tt)
    there (index p x ks) l =
        let m = all_reads ds ks l in
        let a = all_there ks l in
        let t = with_extends (index p x ks) m in
        (extends_then l m (with_read m (index p x ks)) a.0 t.0, (t.1, all_more m (with_read m (index p x ks)) ks t.0 a.1))
    there (member p ks x) l =
        let m = all_reads ds ks l in
        let a = all_there ks l in
        let t = with_extends (member p ks x) m in
        (extends_then l m (with_read m (member p ks x)) a.0 t.0, (t.1, all_more m (with_read m (member p ks x)) ks t.0 a.1))
    there (negation p a) l = there a l
    there (inversion p a) l = there a l
    there (binary p o a b) l =
        let m = reads ds a l in
        let x = there a l in
        let y = there b m in
        (extends_then l m (reads ds b m) x.0 y.0, (has_more m (reads ds b m) a y.0 x.1, y.1))
    there (cast p w a) l = there a l

    all_there : (es : Exprs) (l : List Expr) → Extends l (all_reads ds es l) × HasAll (all_reads ds es l) es
    all_there none l = (extends_same l, tt)
    all_there (more e es) l =
        let m = reads ds e l in
        let x = there e l in
        let y = all_there es m in
        (extends_then l m (all_reads ds es m) x.0 y.0, (has_more m (all_reads ds es m) e y.0 x.1, y.1))

  -- what a list has is not read again
  again : (e : Expr) (l : List Expr) → is_in l e ≡ true → with_read l e ≡ l
  again e l i = ap (λ b. cond b l (l ++ e ∷ [])) i

  kind_again : (k : DeclKind) (e : Expr) (l : List Expr) → HasKind l k e → reads_by_kind k e l ≡ l
  kind_again Tele e l i = refl
  kind_again Sensor e l i = again e l i
  kind_again Header e l i = refl
  kind_again Control e l i = again e l i

  name_again : (o : Option Decl) (e : Expr) (l : List Expr) → HasName l o e → name_reads o e l ≡ l
  name_again None e l i = refl
  name_again (Some c) e l i = kind_again c.kind e l i

  mutual
    expr_again : (e : Expr) (l : List Expr) → Has l e → reads ds e l ≡ l
    expr_again (num p n) l i = refl
    expr_again (flag p b) l i = refl
    expr_again (read p x) l i = name_again (lookup ds x) (read p x) l i
    expr_again (count p x) l i = refl
    expr_again (index p x ks) l i = ap (λ t. with_read t (index p x ks)) (exprs_again ks l i.1) ∙ again (index p x ks) l i.0
    expr_again (member p ks x) l i = ap (λ t. with_read t (member p ks x)) (exprs_again ks l i.1) ∙ again (member p ks x) l i.0
    expr_again (negation p a) l i = expr_again a l i
    expr_again (inversion p a) l i = expr_again a l i
    expr_again (binary p o a b) l i = ap (λ t. reads ds b t) (expr_again a l i.0) ∙ expr_again b l i.1
    expr_again (cast p w a) l i = expr_again a l i

    exprs_again : (es : Exprs) (l : List Expr) → HasAll l es → all_reads ds es l ≡ l
    exprs_again none l i = refl
    exprs_again (more e es) l i = ap (λ t. all_reads ds es t) (expr_again e l i.0) ∙ exprs_again es l i.1

-- ---- how much is read

-- how much one read counts
module _ (m : Expr → ℕ) where
  abbrev pub counted : List Expr → ℕ
  counted [] = 0
  counted (e ∷ l) = m e + counted l

  counted_behind : (l : List Expr) (e : Expr) → counted (l ++ e ∷ []) ≡ counted l + m e
  counted_behind [] e = omega arith
  counted_behind (f ∷ l) e = let r = counted_behind l e in omega (arith, r)

  pub with_few : (e : Expr) (l : List Expr) → counted (with_read l e) ≤ counted l + m e
  with_few e l = go (is_in l e)
    where
      go : (b : Bool) → counted (cond b l (l ++ e ∷ [])) ≤ counted l + m e
      go true = omega arith
      go false = let r = counted_behind l e in omega (arith, r)

-- how much a name counts, as `TextReads` has it; numbered scalars count nothing
pub record AreCounted (ds : List Decl) (m : Expr → ℕ) (c d : List ℕ → ℕ) : Type 0 where
  pub name : (p : ℕ) (x : List ℕ) (l : List Expr) → counted m (reads ds (read p x) l) ≤ counted m l + c x
  pub key : (p : ℕ) (x : List ℕ) (ks : Exprs) → m (index p x ks) ≤ d x
  pub holding : (p : ℕ) (ks : Exprs) (x : List ℕ) → m (member p ks x) ≤ d x
  pub item : (v i : ℕ) → c (item_name v i) ≡ 0
  pub length : (v : ℕ) → c (count_name v) ≡ 0

module _ (ds : List Decl) (m : Expr → ℕ) (c d : List ℕ → ℕ) (are : AreCounted ds m c d) where
  -- an expression adds so much at most
  abbrev pub Few : ℕ → Expr → Type 0
  Few k e = (l : List Expr) → counted m (reads ds e l) ≤ counted m l + k

  abbrev pub AllFew : ℕ → Exprs → Type 0
  AllFew k es = (l : List Expr) → counted m (all_reads ds es l) ≤ counted m l + k

  -- ---- tests that read one expression, which they have

  pub record Once (k : ℕ) (e t : Expr) : Type 0 where
    few : Few k t
    has : (l : List Expr) → Has ds (reads ds t l) e
    more_none : (l : List Expr) → Has ds l e → counted m (reads ds t l) ≤ counted m l

  once_both : (k : ℕ) (e t u : Expr) (p : ℕ) (o : Op) → Once k e t → Once k e u → Once k e (binary p o t u)
  once_both k e t u p o a b =
      record {
        few = λ l. (let n = reads ds t l in let x = a.few l in let y = b.more_none n (a.has l) in omega (arith, x, y));
        has = λ l. b.has (reads ds t l);
        more_none = λ l i. (let n = reads ds t l in let x = a.more_none l i in let y = b.more_none n (has_more ds l n e (there ds t l).0 i) in omega (arith, x, y));
      }

  halves_once :
      (k : ℕ) (e : Expr) (p : ℕ) (o : Op) (test : ℕ → Expr) → ((i : ℕ) → Once k e (test i)) → (fuel first n : ℕ) →
      Once k e (halves p o test fuel first n)
  halves_once k e p o test h zero first n = h first
  halves_once k e p o test h (suc fuel) first n = go (nat_le n 1) (halves_once k e p o test h fuel first (n / 2)) (halves_once k e p o test h fuel (first + n / 2) (n - n / 2))
    where
      go :
          (b : Bool) → Once k e (halves p o test fuel first (n / 2)) →
          Once k e (halves p o test fuel (first + n / 2) (n - n / 2)) →
          Once k e (elim b [ true ↦ test first | false ↦ binary p o (halves p o test fuel first (n / 2)) (halves p o test fuel (first + n / 2) (n - n / 2)) ])
      go true x y = h first
      go false x y = once_both k e (halves p o test fuel first (n / 2)) (halves p o test fuel (first + n / 2) (n - n / 2)) p o x y

  pub joined_few :
      (k : ℕ) (e : Expr) (p : ℕ) (o : Op) (b : Bool) (test : ℕ → Expr) → ((i : ℕ) → Once k e (test i)) → (n : ℕ) →
      Few k (joined p o b test n)
  joined_few k e p o b test h zero l = omega arith
  joined_few k e p o b test h (suc n) l = (halves_once k e p o test h (suc n) 0 (suc n)).few l

  pub item_few : (p v i : ℕ) → Few 0 (read p (item_name v i))
  item_few p v i l = let r = are.name p (item_name v i) l in let z = are.item v i in omega (arith, r, z)

  pub count_few : (p v : ℕ) → Few 0 (read p (count_name v))
  count_few p v l = let r = are.name p (count_name v) l in let z = are.length v in omega (arith, r, z)

  has_few : (p v i : ℕ) → Few 0 (has_item p v i)
  has_few p v i l = count_few p v l

  pub has_once : (p v i : ℕ) → Once 0 (flag p true) (has_item p v i)
  has_once p v i = record { few = has_few p v i; has = λ l. tt; more_none = λ l j. (let r = has_few p v i l in omega (arith, r)) }

  is_once : (k : ℕ) (e : Expr) → Few k e → (p v i : ℕ) → Once k e (is_item p e v i)
  is_once k e h p v i =
      record {
        few = λ l.
            let a = has_few p v i l in
            let n = reads ds (has_item p v i) l in
            let b = item_few p v i n in
            let c = h (reads ds (read p (item_name v i)) n) in
            omega (arith, a, b, c);
        has = λ l. (there ds e (reads ds (read p (item_name v i)) (reads ds (has_item p v i) l))).1;
        more_none = λ l j.
            let n = reads ds (has_item p v i) l in
            let o = reads ds (read p (item_name v i)) n in
            let a = has_few p v i l in
            let b = item_few p v i n in
            let on = extends_then l n o (there ds (has_item p v i) l).0 (there ds (read p (item_name v i)) n).0 in
            let same : counted m (reads ds e o) ≡ counted m o = ap (counted m) (expr_again ds e o (has_more ds l o e on j)) in
            omega (arith, a, b, same);
      }

  any_few : (k : ℕ) (e : Expr) → Few k e → (p : ℕ) (l : ListPlace) → Few k (any_item p e l)
  any_few k e h p l = joined_few k e p Either false (is_item p e l.number) (is_once k e h p l.number) l.size

  -- ---- an expression in flat code

  module _ (os : List Decl) (bs : List Bound) where
    kind_name : (k : DeclKind) (v : ℕ) (x : List ℕ) → c (name_of_kind k v x) ≤ c x
    kind_name Tele v x = let z = are.item v 0 in omega (arith, z)
    kind_name Sensor v x = omega arith
    kind_name Header v x = omega arith
    kind_name Control v x = omega arith

    in_name : (n : Option ℕ) (o : Option Decl) (x : List ℕ) → c (name_in n o x) ≤ c x
    in_name None None x = omega arith
    in_name None (Some e) x = omega arith
    in_name (Some v) None x = omega arith
    in_name (Some v) (Some e) x = kind_name e.kind v x

    source_name : (b : Option Bound) (x : List ℕ) → c (or_item b (target os x)) ≤ c x
    source_name None x = in_name (variable_number os x) (lookup os x) x
    source_name (Some b) x = let z = are.item b.list b.turn in omega (arith, z)

    all_few :
        (e : Expr) (es : Exprs) → Few (expr_reads c d e) (flat_expr os bs e) →
        AllFew (exprs_reads c d es) (flat_exprs os bs es) →
        AllFew (expr_reads c d e + exprs_reads c d es) (flat_exprs os bs (more e es))
    all_few e es h k l = let x = h l in let y = k (reads ds (flat_expr os bs e) l) in omega (arith, x, y)

    -- a membership reads its first part once for a list, and else all of its parts and the variable
    member_none : (p : ℕ) (x : List ℕ) (o : Option ListPlace) → Few (0 + d x) (flat_member p none x o)
    member_none p x None l = let t = with_few m (member p none x) l in let z = are.holding p none x in omega (arith, t, z)
    member_none p x (Some i) l = omega arith

    member_few :
        (p : ℕ) (e : Expr) (es : Exprs) (x : List ℕ) (o : Option ListPlace) → Few (expr_reads c d e) (flat_expr os bs e) → AllFew (expr_reads c d e + exprs_reads c d es) (flat_exprs os bs (more e es)) →
        Few (expr_reads c d e + exprs_reads c d es + d x) (flat_member p (flat_exprs os bs (more e es)) x o)
    member_few p e es x None h k l =
        let t = with_few m (member p (flat_exprs os bs (more e es)) x) (all_reads ds (flat_exprs os bs (more e es)) l) in
        let z = are.holding p (flat_exprs os bs (more e es)) x in
        let r = k l in
        omega (arith, t, z, r)
    member_few p e es x (Some i) h k l = let r = any_few (expr_reads c d e) (flat_expr os bs e) h p i l in omega (arith, r)

    mutual
      pub expr_few : (e : Expr) → Few (expr_reads c d e) (flat_expr os bs e)
      expr_few (num p n) l = omega arith
      expr_few (flag p b) l = omega arith
      expr_few (read p x) l = let r = are.name p (source os bs x) l in let n = source_name (found bs x) x in omega (arith, r, n)
      expr_few (count p x) l = count_few p (list_number os x) l
      expr_few (index p x ks) l =
          let t = with_few m (index p x (flat_exprs os bs ks)) (all_reads ds (flat_exprs os bs ks) l) in
          let z = are.key p x (flat_exprs os bs ks) in
          let r = exprs_few ks l in
          omega (arith, t, z, r)
      expr_few (member p none x) l = member_none p x (list_of os x) l
      expr_few (member p (more e es) x) l = member_few p e es x (list_of os x) (expr_few e) (all_few e es (expr_few e) (exprs_few es)) l
      expr_few (negation p a) l = expr_few a l
      expr_few (inversion p a) l = expr_few a l
      expr_few (binary p o a b) l = let x = expr_few a l in let y = expr_few b (reads ds (flat_expr os bs a) l) in omega (arith, x, y)
      expr_few (cast p w a) l = expr_few a l

      pub exprs_few : (es : Exprs) → AllFew (exprs_reads c d es) (flat_exprs os bs es)
      exprs_few none l = omega arith
      exprs_few (more e es) l = all_few e es (expr_few e) (exprs_few es) l

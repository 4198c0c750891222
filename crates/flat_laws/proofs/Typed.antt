-- What well-typedness says of declarations and of names.
use Rattle.std.proofs.Common.{◌≡◌, ◌⊎◌, inl, inr, ℕ, zero, suc, ◌+◌, ◌<◌, ◌≤◌, ◌^◌, List, [], ◌∷◌, ◌++◌, length, Bool, true, false, ◌&&◌, ◌||◌, cond, Option, Some, None, refl, sym, ap, ◌∙◌, subst, arith, nat_eq, nat_lt}
use Rattle.std.specs.Prelude.{not}
use Rattle.std.proofs.lemmas.Bool.{ltb-false}
use Rattle.lex_text.specs.Names.{same_text}
use Rattle.indus_tree.specs.Tree.{Shape, one, list, set, dict, Decl, Expr, Exprs, none, more, num, flag, read, count, index, member, negation, inversion, binary, cast, Stmt, Stmts, done, next, assign, cell, push, choice, loop, reject, report, Property}
use Rattle.indus_tree.specs.State.{lookup, width_of, shape_size}
use Rattle.indus_types.specs.Sums.{size_of, size_in}
use Rattle.indus_tree.specs.declared.tree.DeclKind.{DeclKind}
use Rattle.indus_tree.specs.declared.tree.DeclKind.TheVariants.{Tele}
use Rattle.indus_tree.specs.declared.tree.Ty.{Ty}
use Rattle.indus_tree.specs.declared.tree.Ty.TheVariants as ty
use Rattle.indus_scopes.specs.Kinds.{kinds_differ, as_number, join, left_want, right_want}
use Rattle.indus_scopes.specs.Scopes.{Sight, role_of, own, read_kind, index_kind}
use Rattle.indus_scopes.specs.Uses.{is_missing, reads, counts, indexed, may_hold, may_index, writable}
use Rattle.indus_scopes.specs.Items.{within, repeats}
use Rattle.indus_scopes.specs.declared.kind.Kind.{Kind}
use Rattle.indus_scopes.specs.declared.kind.Kind.TheVariants.{Number, Truth}
use Rattle.indus_scopes.specs.declared.scope.Block.{Block}
use Rattle.indus_scopes.specs.declared.scope.Block.TheVariants as block
use Rattle.indus_rules.specs.Sites.{Site, at_decl, Wants, head_want, tail_wants, index_wants, member_wants, push_want, free, expr_sites, all_sites, stmt_sites, block_sites, decl_sites, sight}
use Rattle.indus_rules.specs.Rules.{Fine, IsWellTyped, broken, bad_bits, bad_width, bad_shape, misshapen, ill_started, ill_headed, ill_declared, any_missing, all_count, same_count, paired}
use Rattle.indus_rules.specs.declared.rule.Rule.{Rule}
use Rattle.indus_rules.specs.declared.rule.Rule.TheVariants.{NameTwice, NoSuchName, KindDiffers, NotWritable, LoopListChanged, BadSize}
use Rattle.indus_types.specs.StaticWidths.{IsWidth}
use Rattle.indus_types.proofs.Widths.{neither}
use Rattle.indus_types.proofs.SoundSights.{both_hold, good_bits, block_sound}
use Rattle.indus_types.proofs.Checked.{each_fine}
use Rattle.flat_laws.specs.Numbered.{ArePlain}
use Rattle.flat_laws.proofs.Suits.{IsKnown, Suits, AllSuit, AreLists, StmtSuits, BlockSuits}
use Rattle.flat_laws.proofs.Roles.{AreShapely}
use Rattle.flat_laws.proofs.Values.{IsReady}

not_true : (b : Bool) → not b ≡ false → b ≡ true
not_true true e = refl
not_true false e = absurd (let c : true ≡ false = e in cc)

-- ---- declarations

-- no rule is broken at the declaration
pub record IsFineDecl (d : Decl) : Type 0 where
  pub before : List Decl
  pub fine : (r : Rule) → broken r (at_decl before d) ≡ false

fine_step : (b : Bool) (v d : Decl) (o : Option Decl) → IsFineDecl v → (o ≡ Some d → IsFineDecl d) → cond b (Some v) o ≡ Some d → IsFineDecl d
fine_step true v d o f rest e = let same : v ≡ d = cc in subst IsFineDecl same f
fine_step false v d o f rest e = rest e

-- a declaration that is found breaks no rule
pub fine_decl : (ds before : List Decl) (x : List ℕ) (d : Decl) → Fine (decl_sites before ds) → lookup ds x ≡ Some d → IsFineDecl d
fine_decl [] before x d f e = absurd (cc e)
fine_decl (v ∷ vs) before x d f e = fine_step (same_text v.name x) v d (lookup vs x) (record { before = before; fine = f.0.0 }) (fine_decl vs (before ++ v ∷ []) x d f.1) e

-- its size is no more than 255
small_list : (t : Ty) (n : ℕ) → bad_shape (list t n) ≡ false → n ≤ 255
small_list t n h = ltb-false 255 n (neither (bad_width t || nat_eq n 0) (nat_lt 255 n) h).1

one_bit : IsWidth 1
one_bit = record { least = omega arith; most = omega arith }

good_type : (t : Ty) → bad_width t ≡ false → IsWidth (width_of t)
good_type (ty.Bit w) h = good_bits w h
good_type ty.Bool h = one_bit

wide_list : (t : Ty) (n : ℕ) → bad_shape (list t n) ≡ false → IsWidth (width_of t)
wide_list t n h = good_type t (neither (bad_width t) (nat_eq n 0) (neither (bad_width t || nat_eq n 0) (nat_lt 255 n) h).0).0

no_shape : (k : DeclKind) (s : Shape) → k ≡ Tele → misshapen Tele s ≡ true → misshapen k s ≡ false → ⊥
no_shape k s e h n = let both : true ≡ false = sym h ∙ ap (λ q. misshapen q s) (sym e) ∙ n in cc

pub shaped_well : (d : Decl) → IsFineDecl d → misshapen d.kind d.shape ≡ false
shaped_well d f =
    (neither (misshapen d.kind d.shape) (ill_started d.kind d.start)
    (neither (misshapen d.kind d.shape || ill_started d.kind d.start) (ill_headed d.kind d.shape d.path d.valid) (f.fine KindDiffers)).0).0

pub ready : (p : Property) → IsWellTyped p → ArePlain p.decls → length p.decls ≤ 2 ^ 32 → IsReady p.decls
ready p h plain few =
    let f = each_fine p h in
    record {
      plain = plain;
      few = few;
      small = λ x d t n e q. small_list t n (subst (λ (s : Shape). bad_shape s ≡ false) q ((fine_decl p.decls [] x d f.1.0 e).fine BadSize));
      wide = λ x d t n e q. (let w = wide_list t n (subst (λ (s : Shape). bad_shape s ≡ false) q ((fine_decl p.decls [] x d f.1.0 e).fine BadSize)) in (w.least, w.most));
      shapely = record {
        no_set = λ x d ks e q k. no_shape d.kind d.shape k (ap (misshapen Tele) q) (shaped_well d (fine_decl p.decls [] x d f.1.0 e));
        no_dict = λ x d ks t e q k. no_shape d.kind d.shape k (ap (misshapen Tele) q) (shaped_well d (fine_decl p.decls [] x d f.1.0 e));
      };
      own = λ x d e. (block_sound p h block.Init).apart x d e;
    }

-- ---- names

mutual
  pub expr_suits : (g : Sight) (e : Expr) (want : Kind) → Fine (expr_sites g want e) → Suits g e
  expr_suits g (num p n) want f = tt
  expr_suits g (flag p b) want f = tt
  expr_suits g (read p x) want f = (f NoSuchName, not_true (reads (role_of g x)) (neither (kinds_differ (own g (read p x)) want) (not (reads (role_of g x))) (f KindDiffers)).1)
  expr_suits g (count p x) want f = (f NoSuchName, not_true (counts (role_of g x)) (neither (kinds_differ (own g (count p x)) want) (not (counts (role_of g x))) (f KindDiffers)).1)
  expr_suits g (index p x ks) want f = (
    f.0 NoSuchName,
    not_true (indexed (role_of g x) ks) (neither (kinds_differ (own g (index p x ks)) want) (not (indexed (role_of g x) ks)) (f.0 KindDiffers)).1,
    all_suit g ks (index_wants (role_of g x)) f.1,
  )
  expr_suits g (member p ks x) want f = (
    f.0 NoSuchName,
    not_true (may_hold (role_of g x) ks) (neither (kinds_differ (own g (member p ks x)) want) (not (may_hold (role_of g x) ks)) (f.0 KindDiffers)).1,
    all_suit g ks (member_wants (role_of g x)) f.1,
  )
  expr_suits g (negation p a) want f = expr_suits g a Truth f.1
  expr_suits g (inversion p a) want f = expr_suits g a (as_number (join (own g a) want)) f.1
  expr_suits g (binary p op a b) want f = (expr_suits g a (left_want op (own g a) (own g b) want) f.1.0, expr_suits g b (right_want op (own g a) (own g b) want) f.1.1)
  expr_suits g (cast p w a) want f = expr_suits g a (as_number (own g a)) f.1

  pub all_suit : (g : Sight) (es : Exprs) (ws : Wants) → Fine (all_sites g ws es) → AllSuit g es
  all_suit g none ws f = tt
  all_suit g (more e es) ws f = (expr_suits g e (head_want ws (own g e)) f.0, all_suit g es (tail_wants ws) f.1)

same_length : (ns ls : List (List ℕ)) → same_count ns ls ≡ true → length ns ≡ length ls
same_length [] [] e = refl
same_length [] (l ∷ ls) e = absurd (let c : false ≡ true = e in cc)
same_length (n ∷ ns) [] e = absurd (let c : false ≡ true = e in cc)
same_length (n ∷ ns) (l ∷ ls) e = ap suc (same_length ns ls e)

even : (ns ls : List (List ℕ)) → paired ns ls ≡ true → length ns ≡ length ls
even [] ls e = absurd (let c : false ≡ true = e in cc)
even (n ∷ ns) [] e = absurd (let c : false ≡ true = e in cc)
even (n ∷ ns) (l ∷ ls) e = ap suc (same_length ns ls e)

lists_suit : (g : Sight) (ls : List (List ℕ)) → any_missing g ls ≡ false → all_count g ls ≡ true → AreLists g ls
lists_suit g [] m c = tt
lists_suit g (l ∷ ls) m c =
    let n = neither (is_missing (role_of g l)) (any_missing g ls) m in
    let b = both_hold (counts (role_of g l)) (all_count g ls) c in
    (n.0, b.0, lists_suit g ls n.1 b.1)

mutual
  pub stmt_suits : (c : Stmt) (g : Sight) → Fine (stmt_sites g c) → StmtSuits c g
  stmt_suits (assign p x e) g f = (f.0 NoSuchName, not_true (reads (role_of g x)) (f.0 KindDiffers), not_true (writable (role_of g x)) (f.0 NotWritable), expr_suits g e (read_kind (role_of g x)) f.1)
  stmt_suits (cell p x i e) g f = (
    f.0 NoSuchName,
    not_true (may_index (role_of g x)) (f.0 KindDiffers),
    not_true (writable (role_of g x)) (f.0 NotWritable),
    expr_suits g i (as_number (join (own g i) (Number 128))) f.1.0,
    expr_suits g e (index_kind (role_of g x)) f.1.1,
  )
  stmt_suits (push p x e) g f = (f.0 NoSuchName, not_true (counts (role_of g x)) (f.0 KindDiffers), f.0 LoopListChanged, expr_suits g e (push_want (role_of g x)) f.1)
  stmt_suits (choice p t a b) g f = (expr_suits g t Truth f.1.0, block_suits a g f.1.1.0, block_suits b g f.1.1.1)
  stmt_suits (loop p ns ls a) g f =
      let b = both_hold (paired ns ls) (all_count g ls) (not_true (paired ns ls && all_count g ls) (f.0 KindDiffers)) in
      (f.0 NameTwice, even ns ls b.0, lists_suit g ls (f.0 NoSuchName) b.1, block_suits a (within g ns ls) f.1)
  stmt_suits (reject p) g f = tt
  stmt_suits (report p n es) g f = all_suit g es free f.1

  pub block_suits : (c : Stmts) (g : Sight) → Fine (block_sites g c) → BlockSuits c g
  block_suits done g f = tt
  block_suits (next c rest) g f = (stmt_suits c g f.0, block_suits rest g f.1)

-- ---- sizes

small_shape : (s : Shape) → bad_shape s ≡ false → shape_size s ≤ 255
small_shape (one t) h = omega arith
small_shape (list t n) h = small_list t n h
small_shape (set ks) h = omega arith
small_shape (dict ks t) h = omega arith

pub small_sizes : (p : Property) → IsWellTyped p → (x : List ℕ) → size_of p.decls x ≤ 255
small_sizes p h x = by_decl (lookup p.decls x) refl
  where
    by_decl : (o : Option Decl) → lookup p.decls x ≡ o → size_in o ≤ 255
    by_decl None e = omega arith
    by_decl (Some d) e = small_shape d.shape ((fine_decl p.decls [] x d (each_fine p h).1.0 e).fine BadSize)

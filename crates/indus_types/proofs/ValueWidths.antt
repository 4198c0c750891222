-- The value of a fine expression has its static width: an operator casts its operands to their place's width, a number
-- takes that of its place, and what is read has a declared width; only `~` rests on its operand. Then the same of each
-- expression of a well-typed property, by induction on its statements.
use Rattle.std.proofs.Common.{◌≡◌, ℕ, List, [], ◌∷◌, ◌++◌, Option, Some, None, refl, sym, ap, ◌∙◌, subst, true, false}
use Rattle.bit_values.specs.Bits.{Word}
use Rattle.bit_values.specs.Widths.{either_width, sound_width, cast_word}
use Rattle.indus_tree.specs.Tree.{Expr, Exprs, num, flag, read, count, index, member, negation, inversion, binary, cast, none, more, Stmt, Stmts, assign, cell, push, choice, loop, reject, report, done, next, Shape, Decl, Property}
use Rattle.indus_tree.specs.State.{lookup, held_width}
use Rattle.indus_tree.specs.declared.tree.Op.{Op}
use Rattle.indus_tree.specs.declared.tree.Op.TheVariants.{Mul, Add, Sub, Shl, Shr, BitAnd, BitXor, BitOr, Less, LessEq, More, MoreEq, Equal, Differ, Both, Either}
use Rattle.bit_values.specs.Operators.{own_of, left_place, right_place}
use Rattle.indus_tree.specs.Operators.{class_of, operate}
use Rattle.indus_tree.specs.Reads.{Seen}
use Rattle.indus_tree.specs.Keys.{at_key, widths_for, index_widths}
use Rattle.indus_tree.specs.Value.{own_width, value_of, key_of}
use Rattle.indus_scopes.specs.Scopes.{Sight, role_from, item_of, builtin_of, own}
use Rattle.indus_scopes.specs.Uses.{is_missing, indexed}
use Rattle.indus_rules.specs.Sites.{Wants, expr_sites, all_sites, head_want, tail_wants, stmt_sites, block_sites, decl_sites, start_sites, property_sites, sight}
use Rattle.indus_scopes.specs.Items.{within}
use Rattle.std.specs.Option.{is_some}
use Rattle.indus_rules.specs.Rules.{Fine, IsWellTyped}
use Rattle.indus_rules.specs.declared.rule.Rule.TheVariants.{NoSuchName, KindDiffers, BadSize}
use Rattle.indus_scopes.specs.declared.kind.Kind.{Kind}
use Rattle.indus_scopes.specs.declared.scope.Block.TheVariants as block
use Rattle.indus_types.specs.Fits.{kind_width}
use Rattle.indus_types.specs.StaticWidths.{static_width, IsWidth, IsSound, SeesDeclared, Serves, HasStaticWidth, EachExpr, ValuesHaveStaticWidths}
use Rattle.indus_types.proofs.Widths.{neither, twice_not, own_static}
use Rattle.indus_types.proofs.Checked.{each_fine}
use Rattle.indus_types.proofs.SoundSights.{good_bits, block_sound, loop_sound, nothing_sound}
use Rattle.indus_types.proofs.StaticWidthsLemmas.{kept, sound_is, read_wide, index_wide, static_sound}
use Rattle.indus_types.proofs.SeenWidths.{at_key_has, sees_fits}

-- an operator's result has the width that the operator's class gives
operated : (op : Op) (v u w : ℕ) (a b : Word) → (operate op (cast_word (sound_width (left_place (class_of op) v u w)) a) (cast_word (sound_width (right_place (class_of op) v u w)) b)).width ≡ sound_width (either_width (own_of (class_of op) v u) w)
operated Mul v u w a b = refl
operated Add v u w a b = refl
operated Sub v u w a b = refl
operated Shl v u w a b = refl
operated Shr v u w a b = refl
operated BitAnd v u w a b = refl
operated BitXor v u w a b = refl
operated BitOr v u w a b = refl
operated Less v u w a b = refl
operated LessEq v u w a b = refl
operated More v u w a b = refl
operated MoreEq v u w a b = refl
operated Equal v u w a b = refl
operated Differ v u w a b = refl
operated Both v u w a b = refl
operated Either v u w a b = refl

-- a word of a width that can be one, whatever the place gives
whole : (n v w : ℕ) → n ≡ v → IsWidth v → n ≡ sound_width (either_width n w)
whole n v w e is = let wide : IsWidth n = subst IsWidth (sym e) is in sym (ap sound_width (kept n w wide) ∙ sound_is n wide)

-- a name that stands for something and may stand before brackets is declared
declared_step : (i b : Option Kind) (o : Option Decl) (ks : Exprs) → is_missing (role_from i b o) ≡ false → indexed (role_from i b o) ks ≡ true → is_some o ≡ true
declared_step (Some k) b o ks m h = absurd (let c : false ≡ true = h in cc)
declared_step None (Some k) o ks m h = absurd (let c : false ≡ true = h in cc)
declared_step None None (Some d) ks m h = refl
declared_step None None None ks m h = absurd (let c : true ≡ false = m in cc)

module _ (g : Sight) (s : Seen) (is : IsSound g) (sees : SeesDeclared g s) where
  key_step : (x : List ℕ) (ks : List Word) (v w : ℕ) → held_width (lookup s.hop.decls x) ≡ v → IsWidth v → is_some (lookup g.decls x) ≡ true → (at_key s x (lookup s.hop.decls x) ks).width ≡ sound_width (either_width (held_width (lookup s.hop.decls x)) w)
  key_step x ks v w e wide h =
      let has = subst (λ ds. (at_key s x (lookup ds x) ks).width ≡ sound_width (held_width (lookup ds x))) (sym sees.decls) (at_key_has g s sees x ks (lookup g.decls x) refl h) in
      let held : IsWidth (held_width (lookup s.hop.decls x)) = subst IsWidth (sym e) wide in
      has ∙ sym (ap sound_width (kept (held_width (lookup s.hop.decls x)) w held))

  value_width : (e : Expr) (want : Kind) → Fine (expr_sites g want e) → (w : ℕ) → (value_of s e w).width ≡ sound_width (either_width (own_width s e) w)
  value_width (num p n) want f w = refl
  value_width (flag p b) want f w = refl
  value_width (read p x) want f w = whole _ _ w (own_static g s (sees_fits g s is sees) (read p x) want f) (read_wide g is x (f NoSuchName) (twice_not _ (neither _ _ (f KindDiffers)).1))
  value_width (count p x) want f w = refl
  value_width (index p x ks) want f w =
      let known = f.0 NoSuchName in
      let used = twice_not _ (neither _ _ (f.0 KindDiffers)).1 in
      key_step x (key_of s ks (widths_for index_widths (lookup s.hop.decls x))) _ w (own_static g s (sees_fits g s is sees) (index p x ks) want f) (index_wide g is x ks known used) (declared_step (item_of g.decls g.loops x) (builtin_of x) (lookup g.decls x) ks known used)
  value_width (member p ks x) want f w = refl
  value_width (negation p a) want f w = refl
  value_width (inversion p a) want f w = value_width a _ f.1 w
  value_width (binary p op a b) want f w =
      operated op (own_width s a) (own_width s b) w (value_of s a (left_place (class_of op) (own_width s a) (own_width s b) w)) (value_of s b (right_place (class_of op) (own_width s a) (own_width s b) w))
  value_width (cast p v a) want f w = sym (ap sound_width (kept v w (good_bits v (f.0 BadSize))))

  value_static : (want : Kind) (e : Expr) → Fine (expr_sites g want e) → (w : ℕ) → Serves g want e w → (value_of s e w).width ≡ static_width g want e
  value_static want e f w serves =
      value_width e want f w
      ∙ ap (λ v. sound_width (either_width v w)) (own_static g s (sees_fits g s is sees) e want f)
      ∙ ap sound_width serves
      ∙ sound_is (static_width g want e) (static_sound g is e want f)

pub fine_has_static : (g : Sight) → IsSound g → (want : Kind) (e : Expr) → Fine (expr_sites g want e) → HasStaticWidth g want e
fine_has_static g is want e f =
    record {
      sound = static_sound g is e want f;
      wanted = λ s sees. value_static g s is sees want e f (kind_width want) refl;
      served = λ s sees w serves. value_static g s is sees want e f w serves;
    }

-- ---- each expression of a property

module _ (g : Sight) (is : IsSound g) where
  mutual
    each_part : (e : Expr) (want : Kind) → Fine (expr_sites g want e) → EachExpr HasStaticWidth (expr_sites g want e)
    each_part (num p n) want f = fine_has_static g is want (num p n) f
    each_part (flag p b) want f = fine_has_static g is want (flag p b) f
    each_part (read p x) want f = fine_has_static g is want (read p x) f
    each_part (count p x) want f = fine_has_static g is want (count p x) f
    each_part (index p x ks) want f = (fine_has_static g is want (index p x ks) f, each_of_list ks _ f.1)
    each_part (member p ks x) want f = (fine_has_static g is want (member p ks x) f, each_of_list ks _ f.1)
    each_part (negation p a) want f = (fine_has_static g is want (negation p a) f, each_part a _ f.1)
    each_part (inversion p a) want f = (fine_has_static g is want (inversion p a) f, each_part a _ f.1)
    each_part (binary p op a b) want f = (fine_has_static g is want (binary p op a b) f, (each_part a _ f.1.0, each_part b _ f.1.1))
    each_part (cast p v a) want f = (fine_has_static g is want (cast p v a) f, each_part a _ f.1)

    each_of_list : (es : Exprs) (ws : Wants) → Fine (all_sites g ws es) → EachExpr HasStaticWidth (all_sites g ws es)
    each_of_list none ws f = tt
    each_of_list (more a rest) ws f = (each_part a (head_want ws (own g a)) f.0, each_of_list rest (tail_wants ws) f.1)

mutual
  each_in_stmt : (c : Stmt) (g : Sight) → IsSound g → Fine (stmt_sites g c) → EachExpr HasStaticWidth (stmt_sites g c)
  each_in_stmt (assign p x e) g is f = (tt, each_part g is e _ f.1)
  each_in_stmt (cell p x i e) g is f = (tt, (each_part g is i _ f.1.0, each_part g is e _ f.1.1))
  each_in_stmt (push p x e) g is f = (tt, each_part g is e _ f.1)
  each_in_stmt (choice p t a b) g is f = (tt, (each_part g is t _ f.1.0, (each_in_block a g is f.1.1.0, each_in_block b g is f.1.1.1)))
  each_in_stmt (loop p ns ls a) g is f = (tt, each_in_block a (within g ns ls) (loop_sound g is p ns ls a f) f.1)
  each_in_stmt (reject p) g is f = tt
  each_in_stmt (report p n es) g is f = (tt, each_of_list g is es _ f.1)

  each_in_block : (cs : Stmts) (g : Sight) → IsSound g → Fine (block_sites g cs) → EachExpr HasStaticWidth (block_sites g cs)
  each_in_block done g is f = tt
  each_in_block (next c rest) g is f = (each_in_stmt c g is f.0, each_in_block rest g is f.1)

each_start : (o : Option Expr) (h : Shape) → Fine (start_sites o h) → EachExpr HasStaticWidth (start_sites o h)
each_start None h f = tt
each_start (Some e) h f = each_part (record { edition = 1; decls = []; loops = []; block = block.Init }) (nothing_sound block.Init) e _ f

each_in_decls : (ds before : List Decl) → Fine (decl_sites before ds) → EachExpr HasStaticWidth (decl_sites before ds)
each_in_decls [] before f = tt
each_in_decls (d ∷ ds) before f = ((tt, each_start d.start d.shape f.0.1), each_in_decls ds (before ++ d ∷ []) f.1)

each_in_property : (p : Property) → IsWellTyped p → EachExpr HasStaticWidth (property_sites p)
each_in_property p h =
    let f = each_fine p h in
    (tt, (each_in_decls p.decls [] f.1.0, (each_in_block p.init (sight p block.Init) (block_sound p h block.Init) f.1.1.0, (each_in_block p.tele (sight p block.Tele) (block_sound p h block.Tele) f.1.1.1.0, each_in_block p.check (sight p block.Check) (block_sound p h block.Check) f.1.1.1.1))))

pub have_static : ValuesHaveStaticWidths
have_static = record { fine = fine_has_static; each = each_in_property }

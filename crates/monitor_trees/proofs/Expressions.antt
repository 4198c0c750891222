-- An expression as it is written is, under a scope, the one that runs.
use Rattle.std.proofs.Common.{◌≡◌, codes, ℕ, ◌+◌, List, [], ◌∷◌, map, Bool, true, false, ◌||◌, cond, Option, Some, None, refl, ap, ap₂, ◌∙◌}
use Rattle.bit_values.specs.Bits.{Word, cast as cast_number}
use Rattle.bit_values.proofs.BitsLemmas.{cast_of_cast}
use Rattle.lex_text.specs.Names.{same_text, parent}
use Rattle.indus_tree.specs.Tree.{Expr, Exprs, num, flag, read as reads, count, index, member, negation, inversion, binary, cast, none, more, Decl}
use Rattle.indus_tree.specs.State.{lookup}
use Rattle.indus_tree.specs.declared.tree.DeclKind.{DeclKind}
use Rattle.indus_tree.specs.declared.tree.DeclKind.TheVariants.{Tele, Sensor, Header, Control}
use Rattle.indus_tree.specs.declared.tree.Ty.{Ty}
use Rattle.indus_tree.specs.declared.tree.Ty.TheVariants as ty
use Rattle.p4_tree.specs.Tree as p4
use Rattle.p4_tree.specs.declared.statement.PTy.TheVariants as type
use Rattle.p4_meaning.specs.Standard.{headers_root, metadata_root, standard_root}
use Rattle.p4_meaning.specs.Scope.{Scope, Roots, first_name as name_in}
use Rattle.p4_meaning.specs.Under.{constant_or_path, expr_under}
use Rattle.p4_typing_laws.proofs.CallCounts.{text_is}
use Rattle.own_code.specs.Regions.{is_mine}
use Rattle.monitor_laws.specs.Names.{first_name, last_name}
use Rattle.monitor_laws.specs.Trees.{number}
use Rattle.lookup_names.specs.Names.{found_name}
use Rattle.lookup_names.specs.Keys.{variable}
use Rattle.lowered_code.specs.Names.{tele_name}
use Rattle.lowered_code.specs.Environment.{Environment, tele_path, view_of, on_switch, rooted, rooted_path, rooted_view, in_control, switch_name}
use Rattle.lowered_code.specs.Expressions.{lowered_op, value_type, of_bits, as_bit, to_bits, place_in, lowered, lowered_all, name_by_kind, name_for, found_for, built_in}
use Rattle.linked_programs.specs.Gives.{switch_word}
use Rattle.monitor_trees.specs.Stage.{is_root, IsRooted, AreRooted, Stage}

word_is : (s : ℕ) → constant_or_path 0 (Some (switch_word s)) (switch_name ∷ []) ≡ number 16 (cast_number 16 s)
word_is s = ap (number 16) (cast_of_cast 16 16 s)

module _ (s : ℕ) (r : Roots) (sc : Scope) (g : Stage s r sc) where
  pub variable_under : (x : List ℕ) → is_mine x ≡ true → same_text switch_name x ≡ false → expr_under sc (variable x) ≡ variable x
  variable_under x m n = ap₂ (λ (o : Option Word) (y : List ℕ). constant_or_path 0 o (y ∷ [])) (g.constants x m n) (g.mine x m)

  pub of_bits_under : (t : Ty) (e f : p4.Expr) → expr_under sc e ≡ f → expr_under sc (of_bits t e) ≡ of_bits t f
  of_bits_under (ty.Bit w) e f h = h
  of_bits_under ty.Bool e f h = ap (p4.cast 0 type.Bool) h

  -- bits of a type that stand at a path, as one bit
  stored_under : (t : Ty) (p q : List (List ℕ)) → expr_under sc (p4.path 0 p) ≡ p4.path 0 q → expr_under sc (as_bit (of_bits t (p4.path 0 p))) ≡ as_bit (of_bits t (p4.path 0 q))
  stored_under (ty.Bit w) p q h = ap (p4.cast 0 (type.Bit 1)) h
  stored_under ty.Bool p q h = h

  pub found_under : (n : ℕ) → expr_under sc (variable (found_name n)) ≡ variable (found_name n)
  found_under n = variable_under (found_name n) refl refl

  -- ---- header variables

  pub rooted_under : (x : List ℕ) → is_root x ≡ true → name_in sc (rooted r x) ≡ x
  rooted_under x k =
      go (same_text headers_root x) (same_text metadata_root x) (same_text standard_root x)
      (λ e. g.roots.headers ∙ text_is headers_root x e) (λ e. g.roots.metadata ∙ text_is metadata_root x e) (λ e. g.roots.standard ∙ text_is standard_root x e) k
    where
      go :
          (a b c : Bool) → (a ≡ true → name_in sc r.headers ≡ x) → (b ≡ true → name_in sc r.metadata ≡ x) → (c ≡ true → name_in sc r.standard ≡ x)
          → (a || (b || c)) ≡ true → name_in sc (cond a r.headers (cond b r.metadata (cond c r.standard x))) ≡ x
      go true b c h m d i = h refl
      go false true c h m d i = m refl
      go false false true h m d i = d refl
      go false false false h m d i = absurd (cc i)

  path_is : (xs : List (List ℕ)) → IsRooted (p4.path 0 xs) → expr_under sc (p4.path 0 (rooted_path r xs)) ≡ p4.path 0 xs
  path_is [] k = absurd k
  path_is (x ∷ []) k = absurd k
  path_is (x ∷ y ∷ xs) k = ap (λ (z : List ℕ). p4.path 0 (z ∷ y ∷ xs)) (rooted_under x k)

  valid_is : (xs : List (List ℕ)) → IsRooted (p4.valid 0 xs) → expr_under sc (p4.valid 0 (rooted_path r xs)) ≡ p4.valid 0 xs
  valid_is [] k = absurd k
  valid_is (x ∷ xs) k = ap (λ (z : List ℕ). p4.valid 0 (z ∷ xs)) (rooted_under x k)

  view_under : (d : Decl) → IsRooted (view_of d) → expr_under sc (rooted_view r d) ≡ view_of d
  view_under d = go d.valid
    where
      go : (b : Bool) → IsRooted (cond b (p4.valid 0 (parent d.path)) (p4.path 0 d.path))
          → expr_under sc (cond b (p4.valid 0 (rooted_path r (parent d.path))) (p4.path 0 (rooted_path r d.path))) ≡ cond b (p4.valid 0 (parent d.path)) (p4.path 0 d.path)
      go true = valid_is (parent d.path)
      go false = path_is d.path

  view_bit_under : (d : Decl) → IsRooted (view_of d) → expr_under sc (as_bit (rooted_view r d)) ≡ as_bit (view_of d)
  view_bit_under d = go d.valid
    where
      go : (b : Bool) → IsRooted (cond b (p4.valid 0 (parent d.path)) (p4.path 0 d.path))
          → expr_under sc (as_bit (cond b (p4.valid 0 (rooted_path r (parent d.path))) (p4.path 0 (rooted_path r d.path)))) ≡ as_bit (cond b (p4.valid 0 (parent d.path)) (p4.path 0 d.path))
      go true k = ap (p4.cast 0 (type.Bit 1)) (valid_is (parent d.path) k)
      go false k = ap (p4.cast 0 (type.Bit 1)) (path_is d.path k)

  -- ---- expressions

  module _ (c : List ℕ) where
    abbrev pub Here : Environment
    Here = on_switch s c

    built_in_under : (x : List ℕ) → expr_under sc (built_in (in_control r) x) ≡ built_in Here x
    built_in_under x = go (same_text x (codes "first_hop")) (same_text x (codes "last_hop"))
      where
        go : (a b : Bool) → expr_under sc (cond a (variable first_name) (cond b (variable last_name) (p4.path 0 (switch_name ∷ [])))) ≡ cond a (variable first_name) (cond b (variable last_name) (number 16 (cast_number 16 s)))
        go true b = variable_under first_name refl refl
        go false true = variable_under last_name refl refl
        go false false = ap (λ (o : Option Word). constant_or_path 0 o (name_in sc switch_name ∷ [])) g.switch ∙ word_is s

    built_in_bit_under : (x : List ℕ) → expr_under sc (as_bit (built_in (in_control r) x)) ≡ as_bit (built_in Here x)
    built_in_bit_under x = go (same_text x (codes "first_hop")) (same_text x (codes "last_hop"))
      where
        go : (a b : Bool) → expr_under sc (as_bit (cond a (variable first_name) (cond b (variable last_name) (p4.path 0 (switch_name ∷ []))))) ≡ as_bit (cond a (variable first_name) (cond b (variable last_name) (number 16 (cast_number 16 s))))
        go true b = ap (p4.cast 0 (type.Bit 1)) (variable_under first_name refl refl)
        go false true = ap (p4.cast 0 (type.Bit 1)) (variable_under last_name refl refl)
        go false false = ap (p4.cast 0 (type.Bit 1)) (ap (λ (o : Option Word). constant_or_path 0 o (name_in sc switch_name ∷ [])) g.switch ∙ word_is s)

    pub tele_under : (x : List ℕ) → expr_under sc (p4.path 0 (tele_path (in_control r) x)) ≡ p4.path 0 (tele_path Here x)
    tele_under x = ap (λ (z : List ℕ). p4.path 0 (z ∷ codes "hydra_tele" ∷ tele_name x ∷ [])) g.roots.headers

    module _ (ds : List Decl) (are_rooted : AreRooted ds) (base : ℕ) (l : List Expr) where
      abbrev here : Expr → p4.Expr
      here e = variable (found_name (base + place_in l e))

      kind_under : (k : DeclKind) (e : Expr) (x : List ℕ) (d : Decl) → (k ≡ Header → IsRooted (view_of d)) → expr_under sc (name_by_kind (in_control r) ds base l k e x d) ≡ name_by_kind Here ds base l k e x d
      kind_under Tele e x d h = of_bits_under (value_type d.shape) (p4.path 0 (tele_path (in_control r) x)) (p4.path 0 (tele_path Here x)) (tele_under x)
      kind_under Sensor e x d h = of_bits_under (value_type d.shape) (here e) (here e) (found_under (base + place_in l e))
      kind_under Header e x d h = view_under d (h refl)
      kind_under Control e x d h = of_bits_under (value_type d.shape) (here e) (here e) (found_under (base + place_in l e))

      name_under : (o : Option Decl) (e : Expr) (x : List ℕ) → ((d : Decl) → o ≡ Some d → d.kind ≡ Header → IsRooted (view_of d)) → expr_under sc (name_for (in_control r) ds base l o e x) ≡ name_for Here ds base l o e x
      name_under None e x h = built_in_under x
      name_under (Some d) e x h = kind_under d.kind e x d (h d refl)

      found_for_under : (o : Option Decl) (e : Expr) → expr_under sc (found_for (in_control r) ds base l o e) ≡ found_for Here ds base l o e
      found_for_under None e = refl
      found_for_under (Some d) e = of_bits_under (value_type d.shape) (here e) (here e) (found_under (base + place_in l e))

      pub lowered_under : (e : Expr) → expr_under sc (lowered (in_control r) ds base l e) ≡ lowered Here ds base l e
      lowered_under (num p n) = refl
      lowered_under (flag p b) = refl
      lowered_under (reads p x) = name_under (lookup ds x) (reads p x) x (are_rooted x)
      lowered_under (count p x) = refl
      lowered_under (index p x ks) = found_for_under (lookup ds x) (index p x ks)
      lowered_under (member p ks x) = found_for_under (lookup ds x) (member p ks x)
      lowered_under (negation p a) = ap (p4.negation 0) (lowered_under a)
      lowered_under (inversion p a) = ap (p4.inversion 0) (lowered_under a)
      lowered_under (binary p o a b) = ap₂ (p4.binary 0 (lowered_op o)) (lowered_under a) (lowered_under b)
      lowered_under (cast p w a) = ap (p4.cast 0 (type.Bit w)) (lowered_under a)

      -- ---- as bits

      found_bit_under : (e : Expr) (d : Decl) → expr_under sc (as_bit (of_bits (value_type d.shape) (here e))) ≡ as_bit (of_bits (value_type d.shape) (here e))
      found_bit_under e d = (let x = found_name (base + place_in l e) ∷ [] in stored_under (value_type d.shape) x x (found_under (base + place_in l e)))

      kind_bit_under : (k : DeclKind) (e : Expr) (x : List ℕ) (d : Decl) → (k ≡ Header → IsRooted (view_of d)) → expr_under sc (as_bit (name_by_kind (in_control r) ds base l k e x d)) ≡ as_bit (name_by_kind Here ds base l k e x d)
      kind_bit_under Tele e x d h = stored_under (value_type d.shape) (tele_path (in_control r) x) (tele_path Here x) (tele_under x)
      kind_bit_under Sensor e x d h = found_bit_under e d
      kind_bit_under Header e x d h = view_bit_under d (h refl)
      kind_bit_under Control e x d h = found_bit_under e d

      name_bit_under : (o : Option Decl) (e : Expr) (x : List ℕ) → ((d : Decl) → o ≡ Some d → d.kind ≡ Header → IsRooted (view_of d)) → expr_under sc (as_bit (name_for (in_control r) ds base l o e x)) ≡ as_bit (name_for Here ds base l o e x)
      name_bit_under None e x h = built_in_bit_under x
      name_bit_under (Some d) e x h = kind_bit_under d.kind e x d (h d refl)

      found_for_bit_under : (o : Option Decl) (e : Expr) → expr_under sc (as_bit (found_for (in_control r) ds base l o e)) ≡ as_bit (found_for Here ds base l o e)
      found_for_bit_under None e = refl
      found_for_bit_under (Some d) e = found_bit_under e d

      bit_under : (e : Expr) → expr_under sc (as_bit (lowered (in_control r) ds base l e)) ≡ as_bit (lowered Here ds base l e)
      bit_under (num p n) = refl
      bit_under (flag p b) = refl
      bit_under (reads p x) = name_bit_under (lookup ds x) (reads p x) x (are_rooted x)
      bit_under (count p x) = refl
      bit_under (index p x ks) = found_for_bit_under (lookup ds x) (index p x ks)
      bit_under (member p ks x) = found_for_bit_under (lookup ds x) (member p ks x)
      bit_under (negation p a) = ap (p4.cast 0 (type.Bit 1)) (lowered_under (negation p a))
      bit_under (inversion p a) = ap (p4.cast 0 (type.Bit 1)) (lowered_under (inversion p a))
      bit_under (binary p o a b) = ap (p4.cast 0 (type.Bit 1)) (lowered_under (binary p o a b))
      bit_under (cast p w a) = ap (p4.cast 0 (type.Bit 1)) (lowered_under (cast p w a))

      pub bits_under : (t : Ty) (e : Expr) → expr_under sc (to_bits t (lowered (in_control r) ds base l e)) ≡ to_bits t (lowered Here ds base l e)
      bits_under (ty.Bit w) e = lowered_under e
      bits_under ty.Bool e = bit_under e

      pub all_under : (es : Exprs) → map (expr_under sc) (lowered_all (in_control r) ds base l es) ≡ lowered_all Here ds base l es
      all_under none = refl
      all_under (more e es) = ap₂ (λ (x : p4.Expr) (xs : List p4.Expr). x ∷ xs) (lowered_under e) (all_under es)

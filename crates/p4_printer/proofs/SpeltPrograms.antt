-- What can be spelled is spelled but for places: controls and programs.
use Rattle.std.proofs.Common.{◌≡◌, ℕ, ◌+◌, Bool, true, false, List, [], ◌∷◌, ◌++◌, length, map, Option, Some, None, refl, sym, ap, subst, arith, append_assoc}
use Rattle.std.proofs.lemmas.List.{append-nil}
use Rattle.lex_words.specs.Seen.{Lexeme, name, key}
use Rattle.lex_words.specs.declared.key.Key.TheVariants as k
use Rattle.p4_tree.specs.Tree.{Expr, Stmts, Action, Table, Local, local_action, local_table, local_register, local_const, local_var, Control, Top, constant, typedef, header_type, struct_type, register, parser, control, Program}
use Rattle.p4_tree.specs.Places.{plain, plain_action, plain_key, plain_default, plain_table, plain_local, plain_control, plain_top, plain_program}
use Rattle.p4_tree.specs.declared.statement.PTy.{PTy}
use Rattle.p4_tree.specs.declared.program.Param.{Param}
use Rattle.p4_spelling.specs.Operators.{top}
use Rattle.p4_spelling.specs.Lists.{SpellsList, SpellsEach, no_more, one_more}
use Rattle.p4_spelling.specs.Types.{SpellsArgument, SpellsField}
use Rattle.p4_spelling.specs.Expressions.{Spells}
use Rattle.p4_spelling.specs.Controls as controls
use Rattle.p4_spelling.specs.Controls.{SpellsAction, TableProp, keys, size, actions, default, SpellsKey, a_key, SpellsActionName, SpellsFixed, fixed, free, SpellsTableProp, the_keys, the_size, the_actions, the_default, AreOnce, table_of, SpellsTable, SpellsLocal, SpellsControl, a_control}
use Rattle.p4_spelling.specs.Programs as programs
use Rattle.p4_spelling.specs.Programs.{SpellsTop, SpellsIncludes, no_include, an_include, SpellsPart, a_part, SpellsProgram, a_program}
use Rattle.p4_printer.specs.Layout.{bare, in_row, separated, braced}
use Rattle.p4_printer.specs.Expressions.{lexemes_of_expr, lexemes_of_exprs}
use Rattle.p4_printer.specs.Programs.{lexemes_of_params, lexemes_of_action_param, lexemes_of_action_params, lexemes_of_action, lexemes_of_key, lexemes_of_listed, lexemes_of_key_list, lexemes_of_action_list, lexemes_of_size, lexemes_of_fixed, lexemes_of_default, lexemes_of_table, lexemes_of_local, lexemes_of_control, lexemes_of_field, lexemes_of_top, lexemes_of_part, lexemes_of_program}
use Rattle.p4_printer.specs.CanSpell.{EachCan, IsName, CanSpellExpr, CanSpellField, CanSpellAction, CanSpellKey, CanSpellTable, CanSpellLocal, CanSpellControl, CanSpellTop, CanSpell}
use Rattle.p4_printer.proofs.Spelt.{Spelt, two, spelt_each, spelt_list, spelt_some, spelt_type, spelt_expr}
use Rattle.p4_printer.proofs.SpeltStatements.{spelt_var, spelt_const, spelt_block}
use Rattle.p4_printer.proofs.SpeltParsers.{spelt_argument, spelt_field, plain_list, spelt_register, spelt_params, spelt_parser}
use Rattle.p4_spelling.specs.Controls.{SpellsArguments}
use Rattle.p4_printer.specs.Programs.{lexemes_of_includes}
use Rattle.p4_printer.specs.CanSpell.{CanSpellDefault}
use Rattle.p4_printer.proofs.Spelt.{three}
use Rattle.p4_spelling.specs.Words.{default_name}

-- ---- controls

abbrev action_with : List ℕ → List (PTy × List ℕ) → Stmts → Action
action_with x ps ss = record { at = 0; name = x; params = ps; body = ss }

spelt_action : (d : Action) → CanSpellAction d → (p : ℕ) → Spelt plain_action SpellsAction p d (lexemes_of_action d)
spelt_action d c p =
    let x = spelt_some (λ z. z) SpellsArgument CanSpellField lexemes_of_action_param spelt_argument d.params c.1 (p + 1 + 1 + 1) in
    let y = spelt_block d.body c.2 (p + 1 + 1 + 1 + length (lexemes_of_action_params d.params) + 1) in
    record { tree = record { at = p; name = d.name; params = x.tree; body = y.tree }; same = two (action_with d.name) (plain_list x.tree d.params x.same) y.same; spells = controls.an_action d.name x.spells y.spells }

spelt_key : (e : Expr × List ℕ) → CanSpellKey e → (p : ℕ) → Spelt plain_key SpellsKey p e (lexemes_of_key e)
spelt_key e c p = let r = spelt_expr e.0 c.0 p in record { tree = (r.tree, e.1); same = ap (λ (z : Expr). let x : Expr × List ℕ = (z, e.1) in x) r.same; spells = a_key e.1 r.spells }

spelt_listed : (x : List ℕ) → IsName x → (p : ℕ) → Spelt (λ z. z) SpellsActionName p x (lexemes_of_listed x)
spelt_listed x c p = record { tree = x; same = refl; spells = controls.a_name x }

-- ---- tables

abbrev KeysProp : (p : ℕ) → List (Expr × List ℕ) → List Lexeme → Type 0
KeysProp p es u = SpellsTableProp p (keys es) u

abbrev ActionsProp : (p : ℕ) → List (List ℕ) → List Lexeme → Type 0
ActionsProp p xs u = SpellsTableProp p (actions xs) u

abbrev DefaultProp : Bool → (p : ℕ) → List ℕ × List Expr → List Lexeme → Type 0
DefaultProp b p d u = SpellsTableProp p (default b d) u

keys_prop : (es : List (Expr × List ℕ)) → EachCan CanSpellKey es → (p : ℕ) → Spelt (map plain_key) KeysProp p es (lexemes_of_key_list es)
keys_prop es c p = let r = spelt_each plain_key SpellsKey CanSpellKey lexemes_of_key spelt_key es c (p + 1 + 1 + 1) in record { tree = r.tree; same = r.same; spells = the_keys r.spells }

actions_prop : (xs : List (List ℕ)) → EachCan IsName xs → (p : ℕ) → ActionsProp p xs (lexemes_of_action_list xs)
actions_prop xs c p =
    let r = spelt_each (λ z. z) SpellsActionName IsName lexemes_of_listed spelt_listed xs c (p + 1 + 1 + 1) in
    subst (λ z. ActionsProp p z (lexemes_of_action_list xs)) (plain_list r.tree xs r.same) (the_actions r.spells)

spelt_fixed : (b : Bool) → SpellsFixed b (lexemes_of_fixed b)
spelt_fixed true = fixed
spelt_fixed false = free

default_prop : (b : Bool) (d : List ℕ × List Expr) → IsName d.0 × EachCan CanSpellExpr d.1 → (p : ℕ) → Spelt plain_default (DefaultProp b) p d (lexemes_of_default b (Some d))
default_prop b d c p =
    let u = lexemes_of_fixed b in
    let v = lexemes_of_exprs d.1 in
    let r = spelt_some plain (Spells top) CanSpellExpr lexemes_of_expr spelt_expr d.1 c.1 (p + length u + 1 + 1 + 1 + 1) in
    record {
      tree = (d.0, r.tree);
      same = ap (λ (z : List Expr). let x : List ℕ × List Expr = (d.0, z) in x) r.same;
      spells = subst (λ z. DefaultProp b p (d.0, r.tree) (u ++ name default_name ∷ key k.Assign ∷ name d.0 ∷ key k.Open ∷ z)) (append_assoc v (key k.Close ∷ []) (key k.Semicolon ∷ []))
          (the_default d.0 (spelt_fixed b) (controls.in_brackets r.spells));
    }

abbrev table_with : List ℕ → List (Expr × List ℕ) → Bool → Option (List ℕ × List Expr) → List (List ℕ) → Option ℕ → Table
table_with x es b d xs n = record { at = 0; name = x; keys = es; actions = xs; default = d; fixed = b; size = n }

abbrev table_from : (q : ℕ) → List ℕ → List (Expr × List ℕ) → Bool → Option (List ℕ × List Expr) → List (List ℕ) → Option ℕ → Table
table_from q x es b d xs n = record { at = q; name = x; keys = es; actions = xs; default = d; fixed = b; size = n }

module _ (q : ℕ) (x : List ℕ) (es : List (Expr × List ℕ)) (xs : List (List ℕ)) (c : EachCan CanSpellKey es) (a : EachCan IsName xs) (p : ℕ) where
  abbrev behind_keys : ℕ
  behind_keys = p + 1 + 1 + 1 + length (lexemes_of_key_list es)

  abbrev behind : ℕ
  behind = p + 1 + 1 + 1 + length (lexemes_of_key_list es) + length (lexemes_of_action_list xs)

  spelt_parts : (b : Bool) (n : Option ℕ) (d : Option (List ℕ × List Expr)) → CanSpellDefault b d → Spelt plain_table SpellsTable p (table_from q x es b d xs n) (lexemes_of_table (table_from q x es b d xs n))
  spelt_parts b None None e =
      let r = keys_prop es c (p + 1 + 1 + 1) in
      let s = actions_prop xs a behind_keys in
      record {
        tree = table_of p x (keys r.tree ∷ actions xs ∷ []);
        same = two (λ y z. table_with x y z None xs None) r.same (sym e);
        spells = controls.a_table x (one_more r.spells (one_more s no_more)) ((λ f. absurd (omega (arith, f)), tt), (tt, tt));
      }
  spelt_parts b (Some n) None e =
      let r = keys_prop es c (p + 1 + 1 + 1) in
      let s = actions_prop xs a behind_keys in
      record {
        tree = table_of p x (keys r.tree ∷ actions xs ∷ size n ∷ []);
        same = two (λ y z. table_with x y z None xs (Some n)) r.same (sym e);
        spells = controls.a_table x (one_more r.spells (one_more s (one_more (the_size (bare n)) no_more)))
            ((λ f. absurd (omega (arith, f)), (λ f. absurd (omega (arith, f)), tt)), ((λ f. absurd (omega (arith, f)), tt), (tt, tt)));
      }
  spelt_parts b None (Some d) e =
      let r = keys_prop es c (p + 1 + 1 + 1) in
      let s = actions_prop xs a behind_keys in
      let t = default_prop b d e behind in
      record {
        tree = table_of p x (keys r.tree ∷ actions xs ∷ default b t.tree ∷ []);
        same = two (λ y z. table_with x y b (Some z) xs None) r.same t.same;
        spells = subst (λ z. SpellsTable p (table_of p x (keys r.tree ∷ actions xs ∷ default b t.tree ∷ [])) (key k.Table ∷ name x ∷ braced (lexemes_of_key_list es ++ (lexemes_of_action_list xs ++ z)))) (append-nil (lexemes_of_default b (Some d)))
            (controls.a_table x (one_more r.spells (one_more s (one_more t.spells no_more)))
            ((λ f. absurd (omega (arith, f)), (λ f. absurd (omega (arith, f)), tt)), ((λ f. absurd (omega (arith, f)), tt), (tt, tt))));
      }
  spelt_parts b (Some n) (Some d) e =
      let r = keys_prop es c (p + 1 + 1 + 1) in
      let s = actions_prop xs a behind_keys in
      let t = default_prop b d e (behind + length (lexemes_of_size (Some n))) in
      record {
        tree = table_of p x (keys r.tree ∷ actions xs ∷ size n ∷ default b t.tree ∷ []);
        same = two (λ y z. table_with x y b (Some z) xs (Some n)) r.same t.same;
        spells = subst (λ z. SpellsTable p (table_of p x (keys r.tree ∷ actions xs ∷ size n ∷ default b t.tree ∷ [])) (key k.Table ∷ name x ∷ braced (lexemes_of_key_list es ++ (lexemes_of_action_list xs ++ (lexemes_of_size (Some n) ++ z))))) (append-nil (lexemes_of_default b (Some d)))
            (controls.a_table x (one_more r.spells (one_more s (one_more (the_size (bare n)) (one_more t.spells no_more))))
            ((λ f. absurd (omega (arith, f)), (λ f. absurd (omega (arith, f)), (λ f. absurd (omega (arith, f)), tt))), ((λ f. absurd (omega (arith, f)), (λ f. absurd (omega (arith, f)), tt)), ((λ f. absurd (omega (arith, f)), tt), (tt, tt)))));
      }

spelt_table : (d : Table) → CanSpellTable d → (p : ℕ) → Spelt plain_table SpellsTable p d (lexemes_of_table d)
spelt_table d c p = spelt_parts d.at d.name d.keys d.actions c.1 c.2 p d.fixed d.size d.default c.4

-- ---- controls

spelt_local : (d : Local) → CanSpellLocal d → (p : ℕ) → Spelt plain_local SpellsLocal p d (lexemes_of_local d)
spelt_local (local_action q d) c p = let r = spelt_action d c p in record { tree = local_action p r.tree; same = ap (local_action 0) r.same; spells = controls.an_action r.spells }
spelt_local (local_table q d) c p = let r = spelt_table d c p in record { tree = local_table p r.tree; same = ap (local_table 0) r.same; spells = controls.a_table r.spells }
spelt_local (local_register q d) c p = let r = spelt_register d c p in record { tree = local_register p r.tree; same = ap (local_register 0) r.same; spells = controls.a_register r.spells }
spelt_local (local_const q t x e) c p = let r = spelt_const t x e c p in record { tree = local_const p t x r.tree; same = ap (local_const 0 t x) r.same; spells = controls.a_const r.spells }
spelt_local (local_var q t x e) c p = let r = spelt_var t x e c.1 p in record { tree = local_var p t x r.tree; same = ap (local_var 0 t x) r.same; spells = controls.a_var c.0 r.spells }

abbrev control_with : List ℕ → List Param → List Local → Stmts → Control
control_with x ps ds ss = record { at = 0; name = x; params = ps; locals = ds; apply = ss }

spelt_control : (d : Control) → CanSpellControl d → (p : ℕ) → Spelt plain_control SpellsControl p d (lexemes_of_control d)
spelt_control d c p =
    let u = lexemes_of_params d.params in
    let v = in_row (map lexemes_of_local d.locals) in
    let x = spelt_params d.params c.1 (p + 1 + 1 + 1) in
    let y = spelt_each plain_local SpellsLocal CanSpellLocal lexemes_of_local spelt_local d.locals c.2 (p + 1 + 1 + 1 + length u + 1 + 1) in
    let z = spelt_block d.apply c.3 (p + 1 + 1 + 1 + length u + 1 + 1 + length v + 1) in
    record { tree = record { at = p; name = d.name; params = x.tree; locals = y.tree; apply = z.tree }; same = three (control_with d.name) x.same y.same z.same; spells = a_control d.name x.spells y.spells z.spells }

-- ---- programs

spelt_fields : (fs : List (PTy × List ℕ)) → EachCan CanSpellField fs → (p : ℕ) → SpellsEach SpellsField p fs (in_row (map lexemes_of_field fs))
spelt_fields fs c p =
    let r = spelt_each (λ z. z) SpellsField CanSpellField lexemes_of_field spelt_field fs c p in
    subst (λ z. SpellsEach SpellsField p z (in_row (map lexemes_of_field fs))) (plain_list r.tree fs r.same) r.spells

spelt_top : (d : Top) → CanSpellTop d → (p : ℕ) → Spelt plain_top SpellsTop p d (lexemes_of_top d)
spelt_top (constant q t x e) c p = let r = spelt_const t x e c p in record { tree = constant p t x r.tree; same = ap (constant 0 t x) r.same; spells = programs.a_const r.spells }
spelt_top (typedef q t x) c p = record { tree = typedef p t x; same = refl; spells = programs.a_typedef x (spelt_type t c.0) }
spelt_top (header_type q x fs) c p = record { tree = header_type p x fs; same = refl; spells = programs.a_header x (spelt_fields fs c.1 (p + 1 + 1 + 1)) }
spelt_top (struct_type q x fs) c p = record { tree = struct_type p x fs; same = refl; spells = programs.a_struct x (spelt_fields fs c.1 (p + 1 + 1 + 1)) }
spelt_top (register q d) c p = let r = spelt_register d c p in record { tree = register p r.tree; same = ap (register 0) r.same; spells = programs.a_register r.spells }
spelt_top (parser q d) c p = let r = spelt_parser d c p in record { tree = parser p r.tree; same = ap (parser 0) r.same; spells = programs.a_parser r.spells }
spelt_top (control q d) c p = let r = spelt_control d c p in record { tree = control p r.tree; same = ap (control 0) r.same; spells = programs.a_control r.spells }

spelt_part : (x : List ℕ) → IsName x → (p : ℕ) → Spelt (λ z. z) SpellsPart p x (lexemes_of_part x)
spelt_part x c p = record { tree = x; same = refl; spells = a_part x }

-- a program that can be spelled is spelled, but for places, by its lexemes
pub record SpeltProgram (t : Program) : Type 0 where
  pub tree : Program
  pub same : plain_program tree ≡ plain_program t
  pub spells : SpellsProgram tree (lexemes_of_program t)

abbrev program_with : List (List ℕ) → List Top → Program
program_with xs ts = record { at = 0; tops = ts; main = xs }

pub spelt_program : (t : Program) → CanSpell t → SpeltProgram t
spelt_program t c =
    let x = spelt_each plain_top SpellsTop CanSpellTop lexemes_of_top spelt_top t.tops c.tops (length lexemes_of_includes) in
    let u = in_row (map lexemes_of_top t.tops) in
    let y = spelt_list (λ z. z) SpellsPart IsName lexemes_of_part spelt_part t.main c.main (length lexemes_of_includes + length u + 1 + 1) in
    let main = subst (λ z. SpellsList SpellsPart (length lexemes_of_includes + length u + 1 + 1) z (separated (key k.Comma) (map lexemes_of_part t.main))) (plain_list y.tree t.main y.same) y.spells in
    record { tree = record { at = 0; tops = x.tree; main = t.main }; same = ap (program_with t.main) x.same; spells = a_program (an_include _ (an_include _ no_include)) x.spells main }

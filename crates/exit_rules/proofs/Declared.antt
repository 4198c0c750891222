-- Local declarations without exits: actions have other bodies, which are fine where the flags are in sight or free, and
-- no declaration of an old name hides a flag.
use Rattle.std.proofs.Common.{◌≡◌, ℕ, List, [], ◌∷◌, map, Bool, true, false, if◌then◌else◌, refl, sym, ap, ◌∙◌, subst}
use Rattle.std.specs.List.{list_any}
use Rattle.rule_tests.specs.Tests.{IsFine}
use Rattle.p4_tree.specs.Tree.{Stmts, next, Local, local_action, local_table, local_register, local_const, local_var, Top, constant, typedef, header_type, struct_type, register, parser, control}
use Rattle.p4_tree.specs.declared.statement.PTy.{PTy}
use Rattle.p4_tree.specs.declared.statement.PTy.TheVariants as type
use Rattle.p4_tree.specs.declared.program.Param.{Param}
use Rattle.p4_scopes.specs.Scopes.{is_missing, Scope, What, alias, fields, value, action, table, part, declare, fields_bits, add_up}
use Rattle.p4_scopes.specs.Scopes as scope
use Rattle.p4_scopes.specs.declared.thing.Thing.TheVariants.{Header, Struct}
use Rattle.p4_scopes.specs.declared.thing.Access.TheVariants.{Writable, Fixed, Constant}
use Rattle.p4_statement_rules.specs.Forms.{takes_any}
use Rattle.p4_statement_rules.specs.Statements.{block_tests}
use Rattle.p4_statement_rules.specs.declared.rule.Part.{Part}
use Rattle.p4_statement_rules.specs.declared.rule.Part.TheVariants as place
use Rattle.p4_declaration_rules.specs.Digests.{most_of, most_of_table}
use Rattle.p4_declaration_rules.specs.Declarations.{with_params}
use Rattle.p4_declaration_rules.specs.Parsers.{way_access, with_ways}
use Rattle.p4_declaration_rules.specs.Controls.{action_part, after_local, after_locals, after_top}
use Rattle.p4_rule_laws.specs.Old.{Names, Alike, OldFields, OldStmts}
use Rattle.p4_rule_laws.specs.OldPrograms.{OldWays, OldLocal, OldLocals, OldTop}
use Rattle.p4_rule_laws.specs.Guards.{IsFlag}
use Rattle.p4_rule_laws.specs.Growth.{LocalsGrow, no_local, same_local, other_local}
use Rattle.p4_rule_laws.proofs.AlikeScopes.{skip_alike}
use Rattle.p4_rule_laws.proofs.AlikeStmts.{block_alike, most_alike}
use Rattle.p4_rule_laws.proofs.GuardLemmas.{not_true, flag_declared}
use Rattle.p4_rule_laws.proofs.GrowthLemmas.{action_in_place}
use Rattle.p4_rule_laws.proofs.JoinedLemmas.{most_within}
use Rattle.p4_rule_laws.proofs.KeepsLemmas.{undeclared}
use Rattle.p4_rule_laws.proofs.WiderLemmas.{old_is_other}
use Rattle.exit_statements.specs.Without.{in_action, no_exits, stmts_leave, stmts_without}
use Rattle.exit_statements.specs.Actions.{lowered, body_without, stmts_exit}
use Rattle.exit_programs.specs.Programs.{flags, action_without, local_without, local_exits}
use Rattle.exit_rules.proofs.Guarded.{or_first, or_second, stmts_fine}
use Rattle.exit_rules.proofs.Counted.{stmts_count}

-- ---- a name that is not old stands for what it stood for, behind declarations of old names

module _ (old : Names) (x : List ℕ) (new : old x ≡ false) where
  left_by : (t : Scope) (y : List ℕ) (w : What) → old y ≡ true → declare t y w (x ∷ []) ≡ t (x ∷ [])
  left_by t y w o = undeclared t y w x [] (old_is_other old y x o new)

  pub left_params : (t : Scope) (qs : List (PTy × List ℕ)) → OldFields old qs → with_params t qs (x ∷ []) ≡ t (x ∷ [])
  left_params t [] o = refl
  left_params t (q ∷ qs) o = left_params (declare t q.1 (value Fixed q.0)) qs o.2 ∙ left_by t q.1 (value Fixed q.0) o.1

  pub left_ways : (t : Scope) (qs : List Param) → OldWays old qs → with_ways t qs (x ∷ []) ≡ t (x ∷ [])
  left_ways t [] o = refl
  left_ways t (q ∷ qs) o = left_ways (declare t q.name (value (way_access q.way) q.ty)) qs o.2 ∙ left_by t q.name (value (way_access q.way) q.ty) o.1

  pub left_local : (t : Scope) (l : Local) → OldLocal old l → after_local t (local_without l) (x ∷ []) ≡ t (x ∷ [])
  left_local t (local_action p a) o = left_by t a.name (action a.params (most_of t (body_without flags a.body))) o.0
  left_local t (local_table p b) o = left_by t b.name (table (most_of_table t b.actions b.default)) o.name
  left_local t (local_register p r) o = left_by t r.name (scope.register r.ty) o.0
  left_local t (local_const p y z e) o = left_by t z (value Constant y) o.1
  left_local t (local_var p y z e) o = left_by t z (value Writable y) o.1

  pub left_locals : (t : Scope) (ls : List Local) → OldLocals old ls → after_locals t (map local_without ls) (x ∷ []) ≡ t (x ∷ [])
  left_locals t [] o = refl
  left_locals t (l ∷ ls) o = left_locals (after_local t (local_without l)) ls o.1 ∙ left_local t l o.0

  pub left_top : (t : Scope) (y : Top) → OldTop old y → after_top t y (x ∷ []) ≡ t (x ∷ [])
  left_top t (constant p y z e) o = left_by t z (value Constant y) o.1
  left_top t (typedef p y z) o = left_by t z (alias y) o.1
  left_top t (header_type p z fs) o = left_by t z (fields (Header (fields_bits t fs)) fs) o.0
  left_top t (struct_type p z fs) o = left_by t z (fields Struct fs) o.0
  left_top t (register p r) o = left_by t r.name (scope.register r.ty) o.0
  left_top t (parser p d) o = left_by t d.name part o.name
  left_top t (control p c) o = left_by t c.name part o.name

-- ---- actions

pub actions_take : (h : Part) → takes_any (action_part h) ≡ true
actions_take place.Apply = refl
actions_take place.State = refl
actions_take place.Verify = refl
actions_take place.Action = refl
actions_take place.Compute = refl
actions_take place.Deparser = refl
actions_take place.Other = refl

module _ (old : Names) (left_new : old flags.left ≡ false) (returned_new : old flags.returned ≡ false) where
  body_fine :
      (h : Part) → takes_any h ≡ true → (s t : Scope) → Alike old s t → (b : Stmts) → OldStmts old b → is_missing (t (flags.returned ∷ [])) ≡ true → (stmts_exit b ≡ true → IsFlag t flags.left)
      → IsFine (block_tests h s b) → IsFine (block_tests h t (body_without flags b))
  body_fine h k s t a b o free i f = by (stmts_leave no_exits b)
    where
      by : (l : Bool) → IsFine (block_tests h t (if l then next (lowered flags.returned) (stmts_without flags no_exits in_action false b) else b))
      by false = subst IsFine (block_alike old s t a h b o) f
      by true =
          let w : What = value Writable type.Bool in
          let u : Scope = declare t flags.returned w in (
            (not_true (takes_any h) k, (not_true (is_missing (t (flags.returned ∷ []))) free, ((tt, refl), (refl, refl)))),
            stmts_fine flags no_exits in_action old h k returned_new left_new s u (skip_alike old s t a flags.returned w returned_new) false b o
                (record { guard = flag_declared t flags.returned; left = λ e. undeclared t flags.returned w flags.left [] refl ∙ i e }) f,
          )

  body_count : (s t : Scope) → Alike old s t → (b : Stmts) → OldStmts old b → most_of t (body_without flags b) ≡ most_of s b
  body_count s t a b o = by (stmts_leave no_exits b)
    where
      by : (l : Bool) → most_of t (if l then next (lowered flags.returned) (stmts_without flags no_exits in_action false b) else b) ≡ most_of s b
      by false = sym (most_alike old s t a b o)
      by true = ap (add_up 0) (stmts_count flags no_exits in_action old s t a false b o) ∙ most_within s b

  -- the control's flag is in sight where an action may exit, and that of actions is free
  pub locals_without :
      (h : Part) (v s t : Scope) (ls : List Local) → OldLocals old ls → is_missing (t (flags.returned ∷ [])) ≡ true → (list_any local_exits ls ≡ true → IsFlag t flags.left)
      → LocalsGrow old h v s t ls (map local_without ls)
  locals_without h v s t [] o free i = no_local
  locals_without h v s t (local_action p a ∷ ls) o free i =
      other_local (local_action p a) (local_action p (action_without a))
      (action_in_place old h v s t p a (body_without flags a.body) o.0.0 o.0.1
      (λ k. record {
        fine = λ w e f. body_fine (action_part h) (actions_take h) (with_params s a.params) (with_params t a.params) w a.body o.0.2
            (ap is_missing (left_params old flags.returned returned_new t a.params o.0.1) ∙ free)
            (λ e. left_params old flags.left left_new t a.params o.0.1 ∙ i (or_first (stmts_exit a.body) (list_any local_exits ls) e)) f;
      })
      (λ k w f. body_count s t w a.body o.0.2))
      (locals_without h v (after_local s (local_action p a)) (after_local t (local_action p (action_without a))) ls o.1
      (ap is_missing (left_local old flags.returned returned_new t (local_action p a) o.0) ∙ free)
      (λ e. left_local old flags.left left_new t (local_action p a) o.0 ∙ i (or_second (stmts_exit a.body) (list_any local_exits ls) e)))
  locals_without h v s t (local_table p b ∷ ls) o free i =
      same_local (local_table p b) o.0
      (locals_without h v (after_local s (local_table p b)) (after_local t (local_table p b)) ls o.1 (ap is_missing (left_local old flags.returned returned_new t (local_table p b) o.0) ∙ free)
      (λ e. left_local old flags.left left_new t (local_table p b) o.0 ∙ i e))
  locals_without h v s t (local_register p r ∷ ls) o free i =
      same_local (local_register p r) o.0
      (locals_without h v (after_local s (local_register p r)) (after_local t (local_register p r)) ls o.1 (ap is_missing (left_local old flags.returned returned_new t (local_register p r) o.0) ∙ free)
      (λ e. left_local old flags.left left_new t (local_register p r) o.0 ∙ i e))
  locals_without h v s t (local_const p y x e ∷ ls) o free i =
      same_local (local_const p y x e) o.0
      (locals_without h v (after_local s (local_const p y x e)) (after_local t (local_const p y x e)) ls o.1 (ap is_missing (left_local old flags.returned returned_new t (local_const p y x e) o.0) ∙ free)
      (λ f. left_local old flags.left left_new t (local_const p y x e) o.0 ∙ i f))
  locals_without h v s t (local_var p y x e ∷ ls) o free i =
      same_local (local_var p y x e) o.0
      (locals_without h v (after_local s (local_var p y x e)) (after_local t (local_var p y x e)) ls o.1 (ap is_missing (left_local old flags.returned returned_new t (local_var p y x e) o.0) ∙ free)
      (λ f. left_local old flags.left left_new t (local_var p y x e) o.0 ∙ i f))

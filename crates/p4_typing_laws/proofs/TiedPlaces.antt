-- Both scopes are tied at each place of a well-typed program: along the declarations of controls and of the program, the
-- full names of what is still to be declared are found among what is left.
use Rattle.std.proofs.Common.{◌≡◌, inr, ℕ, List, [], ◌∷◌, ◌++◌, Bool, true, false, cond, Option, Some, is_some, refl, sym, ap, ◌∙◌, subst}
use Rattle.std.specs.List.{AllByRecursion}
use Rattle.rule_tests.specs.Tests.{IsFine}
use Rattle.p4_tree.specs.Tree as tree
use Rattle.p4_tree.specs.Tree.{Local, local_action, local_table, local_register, local_const, local_var, Control, Top, constant, typedef, header_type, struct_type, register, parser, control, Program}
use Rattle.p4_tree.specs.declared.statement.PTy.{PTy}
use Rattle.p4_tree.specs.declared.program.Register.{Register}
use Rattle.p4_meaning.specs.Value.{width_of}
use Rattle.p4_meaning.specs.Scope as meaning
use Rattle.p4_meaning.specs.Scope.{is_among, full, full_name, type_under, own_names}
use Rattle.p4_meaning.specs.Under as under
use Rattle.p4_meaning.specs.Under.{no_scope, in_parser, behind_top, behind_local}
use Rattle.p4_meaning.specs.Actions.{Action, in_action, action_under, actions_in, actions_of, action_named}
use Rattle.p4_meaning.specs.Tables.{Table, table_under, tables_in, tables_of, table_named}
use Rattle.p4_meaning.specs.Parts.{Cells, Parts, cells_under, registers_in, registers_of, parts_of}
use Rattle.p4_scopes.specs.Scopes.{Stands, is_missing, Scope, What, alias, fields, value, part, action, table, behind, declare, kind_in, kinds_in, core}
use Rattle.p4_scopes.specs.Scopes as scope
use Rattle.p4_scopes.specs.declared.thing.Thing.TheVariants.{Header, Struct}
use Rattle.p4_scopes.specs.declared.thing.Access.TheVariants.{Writable, Constant}
use Rattle.p4_statement_rules.specs.declared.rule.Part.{Part}
use Rattle.p4_declaration_rules.specs.Digests.{most_of, most_of_table}
use Rattle.p4_declaration_rules.specs.Parsers.{with_ways, before_states, parser_tests}
use Rattle.p4_declaration_rules.specs.Controls.{action_part, local_tests, after_local, locals_tests, control_tests, part_in, top_tests, after_top, tops_tests}
use Rattle.p4_rules.specs.ProgramRules.{IsWellTyped}
use Rattle.p4_typing_laws.specs.Soundness.{IsSound}
use Rattle.p4_typing_laws.specs.Plain.{IsPlain, IsPlainLocal, HavePlainNames}
use Rattle.p4_typing_laws.specs.Tied.{register_named, RegisterIs, ActionIs, IsTied, LocalsPlaces, ControlPlaces, ParserPlaces, TopsPlaces, EachPlace}
use Rattle.p4_typing_laws.proofs.Fine.{twice_not, typed_fine}
use Rattle.p4_typing_laws.proofs.SoundScopes.{params_scalar, part_sound, core_sound}
use Rattle.p4_typing_laws.proofs.SoundPlaces.{local_sound, ways_sound, top_sound}
use Rattle.p4_typing_laws.proofs.CallCounts.{text_same}
use Rattle.p4_typing_laws.proofs.FullNames.{full_apart, plain_not_full, other_text, among_head, Knows, known_full, knows_rest, knows_all, named_other, table_other, skip_actions, skip_tables}
use Rattle.p4_typing_laws.proofs.CountedNames.{was_missing}
use Rattle.p4_typing_laws.proofs.CountedLocals.{own_missing}
use Rattle.p4_typing_laws.proofs.TiedNames.{tied_moved, type_width, plain_tied, value_tied, writable_no_constant, IsOuter, constant_tied, alias_tied, ways_tied, states_tied, in_action_tied, params_are, core_tied, ends_tied}

broken : {A : Type 0} → true ≡ false → A
broken h = absurd (cc)

-- ---- what a full name finds

register_other : (cs : List Cells) (c : Cells) (y : List ℕ) → (c.name ≡ y → ⊥) → register_named (c ∷ cs) y ≡ register_named cs y
register_other cs c y h = ap (λ (b : Bool). cond b (Some c) (register_named cs y)) (other_text c.name y h)

register_here : (cs : List Cells) (c : Cells) (y : List ℕ) → c.name ≡ y → register_named (c ∷ cs) y ≡ Some c
register_here cs c y e = ap (λ (b : Bool). cond b (Some c) (register_named cs y)) (text_same c.name y e)

named_here : (a : Action) (rest : List Action) (y : List ℕ) → a.name ≡ y → action_named (a ∷ rest) y ≡ Some a
named_here a rest y e = ap (λ (b : Bool). cond b (Some a) (action_named rest y)) (text_same a.name y e)

table_here : (t : Table) (rest : List Table) (y : List ℕ) → t.name ≡ y → table_named (t ∷ rest) y ≡ Some t
table_here t rest y e = ap (λ (b : Bool). cond b (Some t) (table_named rest y)) (text_same t.name y e)

-- a scope that knows declarations knows those behind the first
same_knows : (c : List ℕ) (sc : meaning.Scope) (l : Local) (ls : List Local) → Knows c sc (l ∷ ls) → Knows c sc ls
same_knows c sc (local_action p a) ls k = knows_rest c sc (local_action p a) ls k
same_knows c sc (local_table p t) ls k = knows_rest c sc (local_table p t) ls k
same_knows c sc (local_register p r) ls k = knows_rest c sc (local_register p r) ls k
same_knows c sc (local_const p t x e) ls k = record { control = k.control; names = k.names }
same_knows c sc (local_var p t x e) ls k = record { control = k.control; names = k.names }

skip_registers : (c y : List ℕ) → ((x : List ℕ) → IsPlain x → full c x ≡ y → ⊥) → (ls : List Local) (sc : meaning.Scope) → Knows c sc ls → AllByRecursion IsPlainLocal ls → (rest : List Cells) → register_named (registers_in sc ls ++ rest) y ≡ register_named rest y
skip_registers c y apart [] sc k h rest = refl
skip_registers c y apart (local_action p a ∷ ls) sc k h rest = skip_registers c y apart ls sc (same_knows c sc (local_action p a) ls k) h.1 rest
skip_registers c y apart (local_table p t ∷ ls) sc k h rest = skip_registers c y apart ls sc (same_knows c sc (local_table p t) ls k) h.1 rest
skip_registers c y apart (local_register p r ∷ ls) sc k h rest =
    register_other _ _ y (λ e. apart r.name h.0 (sym (known_full c sc (local_register p r ∷ ls) k r.name (among_head r.name (own_names ls))) ∙ e))
    ∙ skip_registers c y apart ls sc (same_knows c sc (local_register p r) ls k) h.1 rest
skip_registers c y apart (local_const p t x e ∷ ls) sc k h rest = skip_registers c y apart ls sc (same_knows c sc (local_const p t x e) ls k) h.1 rest
skip_registers c y apart (local_var p t x e ∷ ls) sc k h rest = skip_registers c y apart ls sc (same_knows c sc (local_var p t x e) ls k) h.1 rest

-- ---- along the declarations of a control

module _ (pt : Parts) (c : List ℕ) (acts : List Action) (tabs : List Table) (regs : List Cells) (sr : meaning.Scope) (h : Part) where
  -- what is known in front of declarations. sc: the scope with the roots of ingress, sd: that of the place, sr: that at
  -- the beginning
  pub record IsAt (sc sd : meaning.Scope) (ls : List Local) (s : Scope) : Type 0 where
    pub tied : IsTied pt s sd
    pub sound : IsSound s
    pub outer : IsOuter sd
    pub there : Knows c sd ls
    pub knows : Knows c sc ls
    pub first : Knows c sr ls
    pub types : sc.types ≡ sd.types
    pub first_types : sr.types ≡ sd.types
    pub finds_actions : (x : List ℕ) → IsPlain x → is_missing (s (x ∷ [])) ≡ true → action_named pt.actions (full c x) ≡ action_named (actions_in sc ls ++ acts) (full c x)
    pub finds_tables : (x : List ℕ) → IsPlain x → is_missing (s (x ∷ [])) ≡ true → table_named pt.tables (full c x) ≡ table_named (tables_in sc pt.actions ls ++ tabs) (full c x)
    pub finds_registers : (x : List ℕ) → IsPlain x → is_missing (s (x ∷ [])) ≡ true → register_named pt.registers (full c x) ≡ register_named (registers_in sr ls ++ regs) (full c x)

  at_action : (sc sd : meaning.Scope) (p : ℕ) (a : tree.Action) (ls : List Local) (s : Scope) → IsAt sc sd (local_action p a ∷ ls) s → IsPlain a.name → IsFine (local_tests h s (local_action p a)) → IsAt sc sd ls (after_local s (local_action p a))
  at_action sc sd p a ls s b plain f =
      record {
        tied = plain_tied pt s sd a.name (action a.params (most_of s a.body)) b.tied (inr it);
        sound = local_sound h s b.sound (local_action p a) f;
        outer = b.outer;
        there = knows_rest c sd (local_action p a) ls b.there;
        knows = knows_rest c sc (local_action p a) ls b.knows;
        first = same_knows c sr (local_action p a) ls b.first;
        types = b.types;
        first_types = b.first_types;
        finds_actions = λ x q m. (let was = was_missing s a.name (action a.params (most_of s a.body)) refl x m in b.finds_actions x q was.before ∙ named_other _ (action_under sc a) (full c x) (λ e. was.apart (full_apart a.name x c c plain q (sym named ∙ e)).0));
        finds_tables = λ x q m. b.finds_tables x q (was_missing s a.name (action a.params (most_of s a.body)) refl x m).before;
        finds_registers = λ x q m. b.finds_registers x q (was_missing s a.name (action a.params (most_of s a.body)) refl x m).before;
      }
    where
      named : full_name sc a.name ≡ full c a.name
      named = known_full c sc (local_action p a ∷ ls) b.knows a.name (among_head a.name (own_names ls))

      found : action_named pt.actions (full_name sd a.name) ≡ Some (action_under sc a)
      found =
          ap (action_named pt.actions) (known_full c sd (local_action p a ∷ ls) b.there a.name (among_head a.name (own_names ls)))
          ∙ b.finds_actions a.name plain (twice_not _ f.1.0) ∙ named_here (action_under sc a) _ (full c a.name) named

      it : ActionIs (kinds_in s a.params) (action_named pt.actions (full_name sd a.name))
      it = subst (λ (o : Option Action). ActionIs (kinds_in s a.params) o) (sym found) (params_are pt a.at s sd (in_action sc a) b.tied b.types a.params (params_scalar a.at a.params s f.1.1.0))

  at_table : (sc sd : meaning.Scope) (p : ℕ) (t : tree.Table) (ls : List Local) (s : Scope) → IsAt sc sd (local_table p t ∷ ls) s → IsPlain t.name → IsFine (local_tests h s (local_table p t)) → IsAt sc sd ls (after_local s (local_table p t))
  at_table sc sd p t ls s b plain f =
      record {
        tied = plain_tied pt s sd t.name (table (most_of_table s t.actions t.default)) b.tied it;
        sound = local_sound h s b.sound (local_table p t) f;
        outer = b.outer;
        there = knows_rest c sd (local_table p t) ls b.there;
        knows = knows_rest c sc (local_table p t) ls b.knows;
        first = same_knows c sr (local_table p t) ls b.first;
        types = b.types;
        first_types = b.first_types;
        finds_actions = λ x q m. b.finds_actions x q (was_missing s t.name (table (most_of_table s t.actions t.default)) refl x m).before;
        finds_tables = λ x q m. (let was = was_missing s t.name (table (most_of_table s t.actions t.default)) refl x m in b.finds_tables x q was.before ∙ table_other _ (table_under sc pt.actions t) (full c x) (λ e. was.apart (full_apart t.name x c c plain q (sym named ∙ e)).0));
        finds_registers = λ x q m. b.finds_registers x q (was_missing s t.name (table (most_of_table s t.actions t.default)) refl x m).before;
      }
    where
      named : full_name sc t.name ≡ full c t.name
      named = known_full c sc (local_table p t ∷ ls) b.knows t.name (among_head t.name (own_names ls))

      found : table_named pt.tables (full_name sd t.name) ≡ Some (table_under sc pt.actions t)
      found =
          ap (table_named pt.tables) (known_full c sd (local_table p t ∷ ls) b.there t.name (among_head t.name (own_names ls)))
          ∙ b.finds_tables t.name plain (twice_not _ f.1.0) ∙ table_here (table_under sc pt.actions t) _ (full c t.name) named

      it : is_some (table_named pt.tables (full_name sd t.name)) ≡ true
      it = ap is_some found

  at_register : (sc sd : meaning.Scope) (p : ℕ) (r : Register) (ls : List Local) (s : Scope) → IsAt sc sd (local_register p r ∷ ls) s → IsPlain r.name → IsFine (local_tests h s (local_register p r)) → IsAt sc sd ls (after_local s (local_register p r))
  at_register sc sd p r ls s b plain f =
      record {
        tied = plain_tied pt s sd r.name (scope.register r.ty) b.tied it;
        sound = local_sound h s b.sound (local_register p r) f;
        outer = b.outer;
        there = knows_rest c sd (local_register p r) ls b.there;
        knows = knows_rest c sc (local_register p r) ls b.knows;
        first = same_knows c sr (local_register p r) ls b.first;
        types = b.types;
        first_types = b.first_types;
        finds_actions = λ x q m. b.finds_actions x q (was_missing s r.name (scope.register r.ty) refl x m).before;
        finds_tables = λ x q m. b.finds_tables x q (was_missing s r.name (scope.register r.ty) refl x m).before;
        finds_registers = λ x q m. (let was = was_missing s r.name (scope.register r.ty) refl x m in b.finds_registers x q was.before ∙ register_other _ (cells_under sr r) (full c x) (λ e. was.apart (full_apart r.name x c c plain q (sym named ∙ e)).0));
      }
    where
      named : full_name sr r.name ≡ full c r.name
      named = known_full c sr (local_register p r ∷ ls) b.first r.name (among_head r.name (own_names ls))

      found : register_named pt.registers (full_name sd r.name) ≡ Some (cells_under sr r)
      found =
          ap (register_named pt.registers) (known_full c sd (local_register p r ∷ ls) b.there r.name (among_head r.name (own_names ls)))
          ∙ b.finds_registers r.name plain (twice_not _ f.1.0) ∙ register_here _ (cells_under sr r) (full c r.name) named

      it : RegisterIs (kind_in s r.ty) (register_named pt.registers (full_name sd r.name))
      it = subst (λ (o : Option Cells). RegisterIs (kind_in s r.ty) o) (sym found) (ap (λ (ts : List (List ℕ × PTy)). width_of (type_under ts r.ty)) b.first_types ∙ type_width pt s sd b.tied r.at r.ty f.1.1.0)

  at_const : (sc sd : meaning.Scope) (p : ℕ) (t : PTy) (x : List ℕ) (e : tree.Expr) (ls : List Local) (s : Scope) → IsAt sc sd (local_const p t x e ∷ ls) s → IsFine (local_tests h s (local_const p t x e)) → IsAt (behind_local sc (local_const p t x e)) (behind_local sd (local_const p t x e)) ls (after_local s (local_const p t x e))
  at_const sc sd p t x e ls s b f =
      record {
        tied = constant_tied pt p s sd t x e b.outer b.sound b.tied f.1.1.0;
        sound = local_sound h s b.sound (local_const p t x e) f;
        outer = record { inner = b.outer.inner };
        there = knows_rest c sd (local_const p t x e) ls b.there;
        knows = knows_rest c sc (local_const p t x e) ls b.knows;
        first = same_knows c sr (local_const p t x e) ls b.first;
        types = b.types;
        first_types = b.first_types;
        finds_actions = λ y q m. b.finds_actions y q (was_missing s x (value Constant t) refl y m).before;
        finds_tables = λ y q m. b.finds_tables y q (was_missing s x (value Constant t) refl y m).before;
        finds_registers = λ y q m. b.finds_registers y q (was_missing s x (value Constant t) refl y m).before;
      }

  at_var : (sc sd : meaning.Scope) (p : ℕ) (t : PTy) (x : List ℕ) (e : Option tree.Expr) (ls : List Local) (s : Scope) → IsAt sc sd (local_var p t x e ∷ ls) s → IsFine (local_tests h s (local_var p t x e)) → IsAt sc sd ls (after_local s (local_var p t x e))
  at_var sc sd p t x e ls s b f =
      record {
        tied = value_tied pt s sd x Writable t writable_no_constant b.tied (twice_not _ f.1.0);
        sound = local_sound h s b.sound (local_var p t x e) f;
        outer = b.outer;
        there = knows_rest c sd (local_var p t x e) ls b.there;
        knows = knows_rest c sc (local_var p t x e) ls b.knows;
        first = same_knows c sr (local_var p t x e) ls b.first;
        types = b.types;
        first_types = b.first_types;
        finds_actions = λ y q m. b.finds_actions y q (was_missing s x (value Writable t) refl y m).before;
        finds_tables = λ y q m. b.finds_tables y q (was_missing s x (value Writable t) refl y m).before;
        finds_registers = λ y q m. b.finds_registers y q (was_missing s x (value Writable t) refl y m).before;
      }

  locals_tied : (ls : List Local) (sc sd : meaning.Scope) (s : Scope) → IsAt sc sd ls s → AllByRecursion IsPlainLocal ls → IsFine (locals_tests h s ls) → LocalsPlaces (IsTied pt) s sd ls
  locals_tied [] sc sd s b plain f = b.tied
  locals_tied (local_action p a ∷ ls) sc sd s b plain f =
      ((b.tied, in_action_tied pt (action_part h) s sd a b.outer b.tied f.0.1), locals_tied ls sc sd (after_local s (local_action p a)) (at_action sc sd p a ls s b plain.0 f.0) plain.1 f.1)
  locals_tied (local_table p t ∷ ls) sc sd s b plain f = (b.tied, locals_tied ls sc sd (after_local s (local_table p t)) (at_table sc sd p t ls s b plain.0 f.0) plain.1 f.1)
  locals_tied (local_register p r ∷ ls) sc sd s b plain f = (b.tied, locals_tied ls sc sd (after_local s (local_register p r)) (at_register sc sd p r ls s b plain.0 f.0) plain.1 f.1)
  locals_tied (local_const p t x e ∷ ls) sc sd s b plain f = (b.tied, locals_tied ls (behind_local sc (local_const p t x e)) (behind_local sd (local_const p t x e)) (after_local s (local_const p t x e)) (at_const sc sd p t x e ls s b f.0) plain.1 f.1)
  locals_tied (local_var p t x e ∷ ls) sc sd s b plain f = (b.tied, locals_tied ls sc sd (after_local s (local_var p t x e)) (at_var sc sd p t x e ls s b f.0) plain.1 f.1)

-- ---- along the declarations of a program

module _ (pt : Parts) (main : List (List ℕ)) where
  pub record IsAtTop (sc : meaning.Scope) (ts : List Top) (s : Scope) : Type 0 where
    pub tied : IsTied pt s sc
    pub sound : IsSound s
    pub outer : IsOuter sc
    pub owns : sc.own ≡ []
    pub finds_actions : (c x : List ℕ) → IsPlain x → is_missing (s (c ∷ [])) ≡ true → action_named pt.actions (full c x) ≡ action_named (actions_of sc ts) (full c x)
    pub finds_tables : (c x : List ℕ) → IsPlain x → is_missing (s (c ∷ [])) ≡ true → table_named pt.tables (full c x) ≡ table_named (tables_of sc pt.actions ts) (full c x)
    pub finds_registers : (c x : List ℕ) → IsPlain x → is_missing (s (c ∷ [])) ≡ true → register_named pt.registers (full c x) ≡ register_named (registers_of sc ts) (full c x)
    -- those of no control
    pub finds_here : (x : List ℕ) → IsPlain x → is_missing (s (x ∷ [])) ≡ true → register_named pt.registers x ≡ register_named (registers_of sc ts) x

  -- outside of controls a name is its full name
  top_full : (sc : meaning.Scope) → sc.own ≡ [] → (x : List ℕ) → full_name sc x ≡ x
  top_full sc e x = ap (λ (o : List (List ℕ)). cond (is_among o x) (full sc.control x) x) e

  -- a declaration that is no register and no control
  quiet_top : (sc sd : meaning.Scope) (t : Top) (ts : List Top) (s : Scope) (n : List ℕ) (w : What) → IsAtTop sc (t ∷ ts) s → IsTied pt (declare s n w) sd → IsSound (declare s n w) → IsOuter sd → sd.own ≡ []
      → ((y : List ℕ) → action_named (actions_of sc (t ∷ ts)) y ≡ action_named (actions_of sd ts) y) → ((y : List ℕ) → table_named (tables_of sc pt.actions (t ∷ ts)) y ≡ table_named (tables_of sd pt.actions ts) y)
      → ((y : List ℕ) → register_named (registers_of sc (t ∷ ts)) y ≡ register_named (registers_of sd ts) y) → is_missing (behind s w []) ≡ false → IsAtTop sd ts (declare s n w)
  quiet_top sc sd t ts s n w b tied sound outer owns acts tables registers some =
      record {
        tied = tied;
        sound = sound;
        outer = outer;
        owns = owns;
        finds_actions = λ c x q m. b.finds_actions c x q (was_missing s n w some c m).before ∙ acts (full c x);
        finds_tables = λ c x q m. b.finds_tables c x q (was_missing s n w some c m).before ∙ tables (full c x);
        finds_registers = λ c x q m. b.finds_registers c x q (was_missing s n w some c m).before ∙ registers (full c x);
        finds_here = λ x q m. b.finds_here x q (was_missing s n w some x m).before ∙ registers x;
      }

  at_top_register : (sc : meaning.Scope) (p : ℕ) (r : Register) (ts : List Top) (s : Scope) → IsAtTop sc (register p r ∷ ts) s → IsPlain r.name → IsFine (top_tests main s (register p r)) → IsAtTop sc ts (after_top s (register p r))
  at_top_register sc p r ts s b plain f =
      record {
        tied = plain_tied pt s sc r.name (scope.register r.ty) b.tied it;
        sound = top_sound main s b.sound (register p r) f;
        outer = b.outer;
        owns = b.owns;
        finds_actions = λ c x q m. b.finds_actions c x q (was_missing s r.name (scope.register r.ty) refl c m).before;
        finds_tables = λ c x q m. b.finds_tables c x q (was_missing s r.name (scope.register r.ty) refl c m).before;
        finds_registers = λ c x q m. b.finds_registers c x q (was_missing s r.name (scope.register r.ty) refl c m).before ∙ register_other _ (cells_under sc r) (full c x) (λ e. plain_not_full r.name plain c x (sym (top_full sc b.owns r.name) ∙ e));
        finds_here = λ x q m. (let was = was_missing s r.name (scope.register r.ty) refl x m in b.finds_here x q was.before ∙ register_other _ (cells_under sc r) x (λ e. was.apart (sym (top_full sc b.owns r.name) ∙ e)));
      }
    where
      found : register_named pt.registers (full_name sc r.name) ≡ Some (cells_under sc r)
      found = ap (register_named pt.registers) (top_full sc b.owns r.name) ∙ b.finds_here r.name plain (twice_not _ f.0) ∙ register_here _ (cells_under sc r) r.name (top_full sc b.owns r.name)

      it : RegisterIs (kind_in s r.ty) (register_named pt.registers (full_name sc r.name))
      it = subst (λ (o : Option Cells). RegisterIs (kind_in s r.ty) o) (sym found) (type_width pt s sc b.tied r.at r.ty f.1.0)

  at_control : (h : Part) (sc : meaning.Scope) (p : ℕ) (c : Control) (ts : List Top) (s : Scope) → IsAtTop sc (control p c ∷ ts) s → AllByRecursion IsPlainLocal c.locals → IsFine (control_tests h s c) → IsAtTop sc ts (declare s c.name part)
  at_control h sc p c ts s b plain f =
      record {
        tied = plain_tied pt s sc c.name part b.tied tt;
        sound = part_sound s b.sound c.name;
        outer = b.outer;
        owns = b.owns;
        finds_actions = λ d x q m. (let was = was_missing s c.name part refl d m in b.finds_actions d x q was.before ∙ skip_actions c.name (full d x) (λ y r e. was.apart (full_apart y x c.name d r q e).1) c.locals (under.in_control 0 1 2 sc c) (knows_all 0 1 2 sc c) plain (actions_of sc ts));
        finds_tables = λ d x q m. (let was = was_missing s c.name part refl d m in b.finds_tables d x q was.before ∙ skip_tables pt.actions c.name (full d x) (λ y r e. was.apart (full_apart y x c.name d r q e).1) c.locals (under.in_control 0 1 2 sc c) (knows_all 0 1 2 sc c) plain (tables_of sc pt.actions ts));
        finds_registers = λ d x q m. (let was = was_missing s c.name part refl d m in b.finds_registers d x q was.before ∙ skip_registers c.name (full d x) (λ y r e. was.apart (full_apart y x c.name d r q e).1) c.locals (under.in_control 0 1 2 sc c) (knows_all 0 1 2 sc c) plain (registers_of sc ts));
        finds_here = λ x q m. b.finds_here x q (was_missing s c.name part refl x m).before ∙ skip_registers c.name x (λ y r e. plain_not_full x q c.name y (sym e)) c.locals (under.in_control 0 1 2 sc c) (knows_all 0 1 2 sc c) plain (registers_of sc ts);
      }

  -- inside a control, where the three parameters stand at these places
  inside_tied : (h : Part) (sc : meaning.Scope) (p : ℕ) (c : Control) (ts : List Top) (s : Scope) → IsAtTop sc (control p c ∷ ts) s → AllByRecursion IsPlainLocal c.locals → IsFine (control_tests h s c) → (i m n : ℕ) → ControlPlaces (IsTied pt) i m n s sc c
  inside_tied h sc p c ts s b plain f i m n =
      locals_tied pt c.name (actions_of sc ts) (tables_of sc pt.actions ts) (registers_of sc ts) (under.in_control 0 1 2 sc c) h c.locals (under.in_control 0 1 2 sc c) (under.in_control i m n sc c) (with_ways s c.params)
      (record {
        tied = tied_moved pt (with_ways s c.params) sc (under.in_control i m n sc c) (λ x. record { constants = refl; types = refl; full = λ k. top_full sc b.owns x ∙ sym (not_own x k) }) (ways_tied pt c.params s sc b.tied f.1.0);
        sound = ways_sound c.params s b.sound f.1.0;
        outer = record { inner = b.outer.inner };
        there = knows_all i m n sc c;
        knows = knows_all 0 1 2 sc c;
        first = knows_all 0 1 2 sc c;
        types = refl;
        first_types = refl;
        finds_actions = λ x q k. b.finds_actions c.name x q (twice_not _ f.0);
        finds_tables = λ x q k. b.finds_tables c.name x q (twice_not _ f.0);
        finds_registers = λ x q k. b.finds_registers c.name x q (twice_not _ f.0);
      }) plain f.1.1.0
    where
      by : (x : List ℕ) → is_missing (with_ways s c.params (x ∷ [])) ≡ false → (o : Bool) → is_among (own_names c.locals) x ≡ o → full_name (under.in_control i m n sc c) x ≡ x
      by x k true e = (let new_name = own_missing h c.locals (with_ways s c.params) f.1.1.0 x e in let d : true ≡ false = sym new_name ∙ k in absurd (cc))
      by x k false e = ap (λ (o : Bool). cond o (full c.name x) x) e

      not_own : (x : List ℕ) → is_missing (with_ways s c.params (x ∷ [])) ≡ false → full_name (under.in_control i m n sc c) x ≡ x
      not_own x k = by x k (is_among (own_names c.locals) x) refl

  -- inside a parser
  parser_tied : (sc : meaning.Scope) (d : tree.Parser) (s : Scope) → IsTied pt s sc → IsFine (parser_tests s d) → ParserPlaces (IsTied pt) s sc d
  parser_tied sc d s t f =
      states_tied pt d.states (before_states s d) (in_parser sc d)
      (ends_tied pt (with_ways s d.params) (in_parser sc d)
      (tied_moved pt (with_ways s d.params) sc (in_parser sc d) (λ x. record { constants = refl; types = refl; full = λ k. refl }) (ways_tied pt d.params s sc t f.1.0)))

  tops_tied : (ts : List Top) (s : Scope) (sc : meaning.Scope) → IsAtTop sc ts s → HavePlainNames ts → IsFine (tops_tests main s ts) → TopsPlaces (IsTied pt) s sc ts
  tops_tied [] s sc b plain f = b.tied
  tops_tied (constant p t x e ∷ ts) s sc b plain f = (
    b.tied,
    tops_tied ts (after_top s (constant p t x e)) (behind_top sc (constant p t x e))
        (quiet_top sc (behind_top sc (constant p t x e)) (constant p t x e) ts s x (value Constant t) b (constant_tied pt p s sc t x e b.outer b.sound b.tied f.0.1.0) (top_sound main s b.sound (constant p t x e) f.0) (record { inner = b.outer.inner }) b.owns (λ y. refl) (λ y. refl) (λ y. refl) refl) plain.1 f.1,
  )
  tops_tied (typedef p t x ∷ ts) s sc b plain f = (
    b.tied,
    tops_tied ts (after_top s (typedef p t x)) (behind_top sc (typedef p t x))
        (quiet_top sc (behind_top sc (typedef p t x)) (typedef p t x) ts s x (alias t) b (alias_tied pt p s sc t x b.tied f.0.1) (top_sound main s b.sound (typedef p t x) f.0) (record { inner = b.outer.inner }) b.owns (λ y. refl) (λ y. refl) (λ y. refl) refl) plain f.1,
  )
  tops_tied (header_type p x fs ∷ ts) s sc b plain f = (
    b.tied,
    tops_tied ts (after_top s (header_type p x fs)) sc
        (quiet_top sc sc (header_type p x fs) ts s x (fields (Header _) fs) b (plain_tied pt s sc x (fields (Header _) fs) b.tied tt) (top_sound main s b.sound (header_type p x fs) f.0) b.outer b.owns (λ y. refl) (λ y. refl) (λ y. refl) refl) plain f.1,
  )
  tops_tied (struct_type p x fs ∷ ts) s sc b plain f = (
    b.tied,
    tops_tied ts (after_top s (struct_type p x fs)) sc
        (quiet_top sc sc (struct_type p x fs) ts s x (fields Struct fs) b (plain_tied pt s sc x (fields Struct fs) b.tied tt) (top_sound main s b.sound (struct_type p x fs) f.0) b.outer b.owns (λ y. refl) (λ y. refl) (λ y. refl) refl) plain f.1,
  )
  tops_tied (register p r ∷ ts) s sc b plain f = (b.tied, tops_tied ts (after_top s (register p r)) sc (at_top_register sc p r ts s b plain.0 f.0) plain.1 f.1)
  tops_tied (parser p d ∷ ts) s sc b plain f = (
    (b.tied, parser_tied sc d s b.tied f.0),
    tops_tied ts (after_top s (parser p d)) sc
        (quiet_top sc sc (parser p d) ts s d.name part b (plain_tied pt s sc d.name part b.tied tt) (top_sound main s b.sound (parser p d) f.0) b.outer b.owns (λ y. refl) (λ y. refl) (λ y. refl) refl) plain f.1,
  )
  tops_tied (control p c ∷ ts) s sc b plain f =
      ((b.tied, inside_tied (part_in main c.name) sc p c ts s b plain.0.0 f.0), tops_tied ts (after_top s (control p c)) sc (at_control (part_in main c.name) sc p c ts s b plain.0.0 f.0) plain.1 f.1)

pub each_tied : (p : Program) → IsWellTyped p → HavePlainNames p.tops → EachPlace (IsTied (parts_of p)) p
each_tied p h plain =
    tops_tied (parts_of p) p.main p.tops core no_scope
    (record {
      tied = core_tied (parts_of p) no_scope refl (record { inner = refl });
      sound = core_sound;
      outer = record { inner = refl };
      owns = refl;
      finds_actions = λ c x q m. refl;
      finds_tables = λ c x q m. refl;
      finds_registers = λ c x q m. refl;
      finds_here = λ x q m. refl;
    }) plain (typed_fine p h).0

-- The parts of a well-typed program, one after another.
use Rattle.std.proofs.Common.{◌≡◌, inl, inr, ℕ, List, [], ◌∷◌, Bool, true, false, cond, codes, Option, Some, None, refl, sym, ap, ◌∙◌, subst}
use Rattle.std.specs.List.{list_any, AllByRecursion}
use Rattle.lex_text.specs.Names.{same_text}
use Rattle.rule_tests.specs.Tests.{IsFine}
use Rattle.p4_tree.specs.Tree.{Local, Control, Top, constant, typedef, header_type, struct_type, register, parser, control, Program}
use Rattle.p4_tree.specs.declared.statement.PTy.TheVariants as type
use Rattle.p4_meaning.specs.Scope as meaning
use Rattle.p4_meaning.specs.Scope.{roots_of, full_name}
use Rattle.p4_meaning.specs.Under as under
use Rattle.p4_meaning.specs.Under.{stmts_under, settings_under, no_scope, in_parser, behind_top, behind_locals}
use Rattle.p4_meaning.specs.Actions.{Action, actions_in, actions_of, action_named}
use Rattle.p4_meaning.specs.Tables.{tables_in, tables_of}
use Rattle.p4_meaning.specs.Parts.{Cells, registers_in, whole, parser_named, control_named, scope_at_parser, scope_at_control, struct_fields, registers_of, body_of, states_of, emits_of}
use Rattle.p4_scopes.specs.Scopes.{is_missing, thing_in, Scope, What, alias, fields, value, part, core}
use Rattle.p4_scopes.specs.Scopes as scope
use Rattle.p4_scopes.specs.Uses.{is_scalar, is_header}
use Rattle.p4_scopes.specs.declared.thing.Thing.TheVariants.{Header, Struct}
use Rattle.p4_scopes.specs.declared.thing.Access.TheVariants.{Constant}
use Rattle.p4_statement_rules.specs.Forms.{has_calls_alone}
use Rattle.p4_statement_rules.specs.declared.rule.Part.{Part}
use Rattle.p4_statement_rules.specs.declared.rule.Part.TheVariants as place
use Rattle.p4_declaration_rules.specs.Parsers.{with_ways, ways_tests, before_states, in_states, parser_tests}
use Rattle.p4_declaration_rules.specs.Controls.{locals_tests, in_control, control_tests, part_in, after_top, tops_tests, after_tops}
use Rattle.p4_declaration_rules.proofs.FirstsLemmas.{all_first}
use Rattle.p4_rules.specs.Mains.{Wanted, checksum_wants, is_struct, all_fields, Structs, structs_of, wanted_tests}
use Rattle.p4_rules.specs.ProgramRules.{program_scope, IsWellTyped}
use Rattle.p4_rule_laws.specs.OldPrograms.{OldControl, OldTops}
use Rattle.p4_rule_laws.specs.Roles.{wants_of, is_main_part, In}
use Rattle.p4_rule_laws.proofs.RoleFacts.{parts_in_role}
use Rattle.p4_typing_laws.proofs.Fine.{neither, typed_fine}
use Rattle.p4_typing_laws.proofs.CallCounts.{text_is}
use Rattle.p4_typing_laws.proofs.FullNames.{other_text, knows_all}
use Rattle.p4_typing_laws.proofs.CountedNames.{was_missing}
use Rattle.p4_typing_laws.proofs.KnownScopes.{stays}
use Rattle.p4_typing_laws.proofs.HiddenParams.{struct_if, GoesOn}
use Rattle.exit_statements.specs.Without.{no_exits, stmts_leave}
use Rattle.exit_programs.specs.Laws.{local_leaves, top_leaves}
use Rattle.own_code.specs.Regions.{is_mine, is_own_header}
use Rattle.own_code.specs.Forwarding.{AreOwnStmts, AreVars, IsOwnState, IsOwnBody, IsOwnAction, IsOwnTable}
use Rattle.own_programs.specs.OwnPrograms.{is_own, stmts_tell_reports, local_tells_reports, top_tells_reports}
use Rattle.own_programs.proofs.Names.{broken, own_not, name_own}
use Rattle.own_programs.proofs.Places.{IsPlace, place_locals}
use Rattle.own_programs.proofs.Blocks.{block_own, and_own, all_and, emits_own, states_own}
use Rattle.own_programs.proofs.Controls.{settings_own, settings_vars, tables_own, registers_own, actions_own, no_action_in}
use Rattle.own_programs.proofs.Fields.{Types, types_top, core_types}
use Rattle.own_programs.proofs.Params.{place_ends, both_hold, Holds, holds_before, place_states, apply_holds, checksum_holds, deparser_holds, parser_holds}

-- ---- registers and tables, whose names alone count

pub registers_are : (ts : List Top) (sc : meaning.Scope) → OldTops is_own ts → AllByRecursion (λ c. is_mine c.name ≡ false) (registers_of sc ts)
registers_are [] sc o = tt
registers_are (register p r ∷ ts) sc o = (own_not (full_name sc r.name) (name_own sc r.name o.0.0), registers_are ts sc o.1)
registers_are (control p c ∷ ts) sc o = all_and (λ (k : Cells). is_mine k.name ≡ false) (registers_in (under.in_control 0 1 2 sc c) c.locals) (registers_of sc ts) (registers_own c.locals (under.in_control 0 1 2 sc c) o.0.locals) (registers_are ts sc o.1)
registers_are (constant p t x e ∷ ts) sc o = registers_are ts (behind_top sc (constant p t x e)) o.1
registers_are (typedef p t x ∷ ts) sc o = registers_are ts (behind_top sc (typedef p t x)) o.1
registers_are (header_type p x fs ∷ ts) sc o = registers_are ts sc o.1
registers_are (struct_type p x fs ∷ ts) sc o = registers_are ts sc o.1
registers_are (parser p d ∷ ts) sc o = registers_are ts sc o.1

pub tables_are : (as' : List Action) (ts : List Top) (sc : meaning.Scope) → OldTops is_own ts → AllByRecursion IsOwnTable (tables_of sc as' ts)
tables_are as' [] sc o = tt
tables_are as' (control p c ∷ ts) sc o = all_and IsOwnTable (tables_in (under.in_control 0 1 2 sc c) as' c.locals) (tables_of sc as' ts) (tables_own as' c.locals (under.in_control 0 1 2 sc c) o.0.locals) (tables_are as' ts sc o.1)
tables_are as' (constant p t x e ∷ ts) sc o = tables_are as' ts (behind_top sc (constant p t x e)) o.1
tables_are as' (typedef p t x ∷ ts) sc o = tables_are as' ts (behind_top sc (typedef p t x)) o.1
tables_are as' (header_type p x fs ∷ ts) sc o = tables_are as' ts sc o.1
tables_are as' (struct_type p x fs ∷ ts) sc o = tables_are as' ts sc o.1
tables_are as' (register p r ∷ ts) sc o = tables_are as' ts sc o.1
tables_are as' (parser p d ∷ ts) sc o = tables_are as' ts sc o.1

pub none_is_no_action : (ts : List Top) (sc : meaning.Scope) → action_named (actions_of sc ts) (codes "NoAction") ≡ None
none_is_no_action [] sc = refl
none_is_no_action (control p c ∷ ts) sc = no_action_in c.name c.locals (under.in_control 0 1 2 sc c) (knows_all 0 1 2 sc c) (actions_of sc ts) ∙ none_is_no_action ts sc
none_is_no_action (constant p t x e ∷ ts) sc = none_is_no_action ts (behind_top sc (constant p t x e))
none_is_no_action (typedef p t x ∷ ts) sc = none_is_no_action ts (behind_top sc (typedef p t x))
none_is_no_action (header_type p x fs ∷ ts) sc = none_is_no_action ts sc
none_is_no_action (struct_type p x fs ∷ ts) sc = none_is_no_action ts sc
none_is_no_action (register p r ∷ ts) sc = none_is_no_action ts sc
none_is_no_action (parser p d ∷ ts) sc = none_is_no_action ts sc

-- ---- a control of each part

-- a control that has its one call alone declares nothing
pub no_locals : (h : Part) → has_calls_alone h ≡ true → (ls : List Local) (s : Scope) → IsFine (locals_tests h s ls) → ls ≡ []
no_locals h alone [] s f = refl
no_locals h alone (l ∷ ls) s f = broken (sym alone ∙ f.0.0)

-- its variables and its statements, where its parameters are in sight
module _ (h : Part) (s : Scope) (sd : meaning.Scope) (c : Control) (b : IsPlace (with_ways s c.params) sd) (f : IsFine (control_tests h s c)) (o : OldControl is_own c) where
  statements_own : stmts_leave no_exits c.apply ≡ false → stmts_tell_reports c.apply ≡ false → AreOwnStmts (stmts_under (behind_locals sd c.locals) c.apply)
  statements_own l t = block_own (behind_locals sd c.locals) c.apply h (in_control s c) (place_locals h c.locals (with_ways s c.params) sd b f.1.1.0) o.apply l t f.1.1.1.0

module _ (p : Program) (well : IsWellTyped p) where
  abbrev S : Scope
  S = program_scope p

  abbrev R : Structs
  R = structs_of S p

  pub headers_struct : is_struct (thing_in S (type.Named R.headers_type)) ≡ true
  headers_struct = struct_if is_header S p.tops R.headers_type (parts_in_role.headers p well)

  pub metadata_struct : is_struct (thing_in S (type.Named R.metadata_type)) ≡ true
  metadata_struct = struct_if is_scalar S p.tops R.metadata_type (parts_in_role.metadata p well)

  -- what is known in front of declarations at top level
  pub record IsAt (ts : List Top) (s : Scope) (sc : meaning.Scope) : Type 0 where
    pub types : Types R.metadata_type s
    pub outer : sc.inner ≡ None
    pub all : after_tops s ts ≡ S
    pub within : (y : Top) → In y ts → In y p.tops
    -- where the struct of metadata is not declared yet, its fields are single values behind all declarations
    pub fields : is_missing (s (R.metadata_type ∷ [])) ≡ true → all_fields is_scalar S (struct_fields ts R.metadata_type) ≡ true

  pub goes_on : (ts : List Top) (s : Scope) (sc : meaning.Scope) → IsAt ts s sc → IsFine (tops_tests p.main s ts) → GoesOn s S
  goes_on ts s sc b f = record { stays = λ x h. ap (λ (g : Scope). g (x ∷ [])) (sym b.all) ∙ stays p.main ts s f x h }

  pub next_at : (t : Top) (ts : List Top) (s : Scope) (sc : meaning.Scope) → IsAt (t ∷ ts) s sc → IsFine (tops_tests p.main s (t ∷ ts)) → IsAt ts (after_top s t) (behind_top sc t)
  next_at t ts s sc b f =
      record {
        types = types_top R.metadata_type s b.types S (goes_on (t ∷ ts) s sc b f) p.main t ts f.0 b.fields;
        outer = still_outer t;
        all = b.all;
        within = λ y i. b.within y (inr i);
        fields = λ m. fields_after t m b.fields;
      }
    where
      still_outer : (t : Top) → (behind_top sc t).inner ≡ None
      still_outer (constant q u x e) = b.outer
      still_outer (typedef q u x) = b.outer
      still_outer (header_type q x fs) = b.outer
      still_outer (struct_type q x fs) = b.outer
      still_outer (register q r) = b.outer
      still_outer (parser q d) = b.outer
      still_outer (control q c) = b.outer

      fields_after : (t : Top) → is_missing (after_top s t (R.metadata_type ∷ [])) ≡ true → (is_missing (s (R.metadata_type ∷ [])) ≡ true → all_fields is_scalar S (struct_fields (t ∷ ts) R.metadata_type) ≡ true) → all_fields is_scalar S (struct_fields ts R.metadata_type) ≡ true
      fields_after (constant q u x e) m k = k (was_missing s x (value Constant u) refl R.metadata_type m).before
      fields_after (typedef q u x) m k = k (was_missing s x (alias u) refl R.metadata_type m).before
      fields_after (header_type q x fs) m k = k (was_missing s x (fields (Header _) fs) refl R.metadata_type m).before
      fields_after (struct_type q x fs) m k =
          (let was = was_missing s x (fields Struct fs) refl R.metadata_type m in
          ap (λ (c : Bool). all_fields is_scalar S (cond c fs (struct_fields ts R.metadata_type))) (sym (other_text x R.metadata_type was.apart)) ∙ k was.before)
      fields_after (register q r) m k = k (was_missing s r.name (scope.register r.ty) refl R.metadata_type m).before
      fields_after (parser q d) m k = k (was_missing s d.name part refl R.metadata_type m).before
      fields_after (control q c) m k = k (was_missing s c.name part refl R.metadata_type m).before

  pub first_at : IsAt p.tops core no_scope
  first_at = record { types = core_types R.metadata_type; outer = refl; all = sym (all_first p.main core p.tops (typed_fine p well).0); within = λ y i. i; fields = λ m. metadata_fields }
    where
      metadata_fields : all_fields is_scalar S (struct_fields p.tops R.metadata_type) ≡ true
      metadata_fields = (both_hold (is_struct (thing_in S (type.Named R.metadata_type))) (all_fields is_scalar S (struct_fields p.tops R.metadata_type)) (parts_in_role.metadata p well)).1

  -- ---- at a control

  module _ (q : ℕ) (c : Control) (ts : List Top) (s : Scope) (sc : meaning.Scope) (b : IsAt (control q c ∷ ts) s sc) (f : IsFine (tops_tests p.main s (control q c ∷ ts))) (h : Part) (is : part_in p.main c.name ≡ h) where
    pub fine : IsFine (control_tests h s c)
    fine = subst (λ (g : Part). IsFine (control_tests g s c)) is f.0

    pub wanted : IsFine (wanted_tests p.at R (wants_of h) c.params)
    wanted = subst (λ (g : Part). IsFine (wanted_tests p.at R (wants_of g) c.params)) is (parts_in_role.control_params p well q c (b.within (control q c) (inl refl)))

    pub before : (n m : List ℕ) → Holds R.headers_type R.metadata_type n m s
    before n m = holds_before R.headers_type R.metadata_type n m s S b.types (goes_on (control q c ∷ ts) s sc b f) headers_struct metadata_struct

    pub ways : IsFine (ways_tests s c.params)
    ways = fine.1.0

  -- what is known of it: its names are own, nothing leaves it, and it tells no reports
  pub record Stands (c : Control) : Type 0 where
    pub old : OldControl is_own c
    pub locals_stay : list_any local_leaves c.locals ≡ false
    pub body_stays : stmts_leave no_exits c.apply ≡ false
    pub locals_quiet : list_any local_tells_reports c.locals ≡ false
    pub body_quiet : stmts_tell_reports c.apply ≡ false

  stands_of : (q : ℕ) (c : Control) → OldControl is_own c → top_leaves (control q c) ≡ false → top_tells_reports (control q c) ≡ false → Stands c
  stands_of q c o l t =
      (let l1 = neither (list_any local_leaves c.locals) (stmts_leave no_exits c.apply) l in
      let t1 = neither (list_any local_tells_reports c.locals) (stmts_tell_reports c.apply) t in
      record { old = o; locals_stay = l1.0; body_stays = l1.1; locals_quiet = t1.0; body_quiet = t1.1 })

  module _ (q : ℕ) (c : Control) (ts : List Top) (s : Scope) (sc : meaning.Scope) (b : IsAt (control q c ∷ ts) s sc) (f : IsFine (tops_tests p.main s (control q c ∷ ts))) where
    pub apply_place : part_in p.main c.name ≡ place.Apply → IsPlace (with_ways s c.params) (under.in_control 0 1 2 sc c)
    apply_place is = apply_holds R p.at s (before q c ts s sc b f place.Apply is) (under.in_control 0 1 2 sc c) b.outer c.params refl (wanted q c ts s sc b f place.Apply is) (ways q c ts s sc b f place.Apply is)

    pub sums_place : (h : Part) → part_in p.main c.name ≡ h → wants_of h ≡ checksum_wants → IsPlace (with_ways s c.params) (under.in_control 0 1 9 sc c)
    sums_place h is w = checksum_holds R p.at s (before q c ts s sc b f h is) (under.in_control 0 1 9 sc c) b.outer c.params refl (subst (λ (ws : List Wanted). IsFine (wanted_tests p.at R ws c.params)) w (wanted q c ts s sc b f h is)) (ways q c ts s sc b f h is)

    pub deparser_place : part_in p.main c.name ≡ place.Deparser → IsPlace (with_ways s c.params) (under.in_control 1 9 9 sc c)
    deparser_place is = deparser_holds R p.at s (before q c ts s sc b f place.Deparser is) (under.in_control 1 9 9 sc c) b.outer c.params refl (wanted q c ts s sc b f place.Deparser is) (ways q c ts s sc b f place.Deparser is)

    module _ (k : Stands c) where
      pub apply_body : part_in p.main c.name ≡ place.Apply → IsOwnBody (body_of 0 1 2 sc (Some c)) × AreVars (body_of 0 1 2 sc (Some c)).locals
      apply_body is = (
        record {
          locals = settings_own c.locals (under.in_control 0 1 2 sc c) k.old.locals;
          body = statements_own place.Apply s (under.in_control 0 1 2 sc c) c (apply_place is) (fine q c ts s sc b f place.Apply is) k.old k.body_stays k.body_quiet;
        },
        settings_vars c.locals (under.in_control 0 1 2 sc c),
      )

      pub sums_body : (h : Part) → part_in p.main c.name ≡ h → wants_of h ≡ checksum_wants → AreOwnStmts (whole (body_of 0 1 9 sc (Some c)))
      sums_body h is w = and_own (settings_under (under.in_control 0 1 9 sc c) c.locals) (stmts_under (behind_locals (under.in_control 0 1 9 sc c) c.locals) c.apply) (settings_own c.locals (under.in_control 0 1 9 sc c) k.old.locals) (statements_own h s (under.in_control 0 1 9 sc c) c (sums_place h is w) (fine q c ts s sc b f h is) k.old k.body_stays k.body_quiet)

      pub deparser_body : part_in p.main c.name ≡ place.Deparser → AllByRecursion (λ x. is_own_header x ≡ true) (emits_of (body_of 1 9 9 sc (Some c)).body)
      deparser_body is =
          (let g = fine q c ts s sc b f place.Deparser is in
          emits_own (behind_locals (under.in_control 1 9 9 sc c) c.locals) c.apply (in_control s c) (place_locals place.Deparser c.locals (with_ways s c.params) (under.in_control 1 9 9 sc c) (deparser_place is) g.1.1.0) k.old.apply g.1.1.1.0)

      -- no part but ingress and egress has actions
      alone_actions : (h : Part) → has_calls_alone h ≡ true → part_in p.main c.name ≡ h → AllByRecursion IsOwnAction (actions_in (under.in_control 0 1 2 sc c) c.locals)
      alone_actions h alone is = subst (λ (ls : List Local). AllByRecursion IsOwnAction (actions_in (under.in_control 0 1 2 sc c) ls)) (sym (no_locals h alone c.locals (with_ways s c.params) (fine q c ts s sc b f h is).1.1.0)) tt

      pub control_actions : (h : Part) → part_in p.main c.name ≡ h → is_main_part h ≡ true → AllByRecursion IsOwnAction (actions_in (under.in_control 0 1 2 sc c) c.locals)
      control_actions place.Apply is m = actions_own place.Apply c.locals (with_ways s c.params) (under.in_control 0 1 2 sc c) b.outer (apply_place is) k.old.locals k.locals_stay k.locals_quiet (fine q c ts s sc b f place.Apply is).1.1.0
      control_actions place.Verify is m = alone_actions place.Verify refl is
      control_actions place.Compute is m = alone_actions place.Compute refl is
      control_actions place.Deparser is m = alone_actions place.Deparser refl is
      control_actions place.State is m = broken (sym m)
      control_actions place.Action is m = broken (sym m)
      control_actions place.Other is m = broken (sym m)

  pub actions_are : (ts : List Top) (s : Scope) (sc : meaning.Scope) → IsAt ts s sc → OldTops is_own ts → list_any top_leaves ts ≡ false → list_any top_tells_reports ts ≡ false → IsFine (tops_tests p.main s ts) → AllByRecursion IsOwnAction (actions_of sc ts)
  actions_are [] s sc b o l t f = tt
  actions_are (control q c ∷ ts) s sc b o l t f =
      (let l1 = neither (top_leaves (control q c)) (list_any top_leaves ts) l in
      let t1 = neither (top_tells_reports (control q c)) (list_any top_tells_reports ts) t in
      all_and IsOwnAction (actions_in (under.in_control 0 1 2 sc c) c.locals) (actions_of sc ts) (control_actions q c ts s sc b f (stands_of q c o.0 l1.0 t1.0) (part_in p.main c.name) refl (parts_in_role.controls p well q c (b.within (control q c) (inl refl)))) (actions_are ts _ sc (next_at (control q c) ts s sc b f) o.1 l1.1 t1.1 f.1))
  actions_are (constant q u x e ∷ ts) s sc b o l t f = actions_are ts _ _ (next_at (constant q u x e) ts s sc b f) o.1 l t f.1
  actions_are (typedef q u x ∷ ts) s sc b o l t f = actions_are ts _ _ (next_at (typedef q u x) ts s sc b f) o.1 l t f.1
  actions_are (header_type q x fs ∷ ts) s sc b o l t f = actions_are ts _ _ (next_at (header_type q x fs) ts s sc b f) o.1 l t f.1
  actions_are (struct_type q x fs ∷ ts) s sc b o l t f = actions_are ts _ _ (next_at (struct_type q x fs) ts s sc b f) o.1 l t f.1
  actions_are (register q r ∷ ts) s sc b o l t f = actions_are ts _ _ (next_at (register q r) ts s sc b f) o.1 l t f.1
  actions_are (parser q d ∷ ts) s sc b o l t f = actions_are ts _ _ (next_at (parser q d) ts s sc b f) o.1 l t f.1

  -- ---- the control of a name, and the parser of a name

  module _ (Goal : meaning.Scope → Option Control → Type 0) (x : List ℕ) (nothing : (sc : meaning.Scope) → Goal sc None)
      (there : (q : ℕ) (c : Control) (ts : List Top) (s : Scope) (sc : meaning.Scope) → IsAt (control q c ∷ ts) s sc → IsFine (tops_tests p.main s (control q c ∷ ts)) → Stands c → c.name ≡ x → Goal sc (Some c)) where
    pub at_control : (ts : List Top) (s : Scope) (sc : meaning.Scope) → IsAt ts s sc → OldTops is_own ts → list_any top_leaves ts ≡ false → list_any top_tells_reports ts ≡ false → IsFine (tops_tests p.main s ts) → Goal (scope_at_control sc ts x) (control_named ts x)
    at_control [] s sc b o l t f = nothing sc
    at_control (control q c ∷ ts) s sc b o l t f =
        (let l1 = neither (top_leaves (control q c)) (list_any top_leaves ts) l in
        let t1 = neither (top_tells_reports (control q c)) (list_any top_tells_reports ts) t in
        go (same_text c.name x) refl (stands_of q c o.0 l1.0 t1.0) (at_control ts _ sc (next_at (control q c) ts s sc b f) o.1 l1.1 t1.1 f.1))
      where
        go : (i : Bool) → same_text c.name x ≡ i → Stands c → Goal (scope_at_control sc ts x) (control_named ts x) → Goal (cond i sc (scope_at_control sc ts x)) (cond i (Some c) (control_named ts x))
        go true e k more = there q c ts s sc b f k (text_is c.name x e)
        go false e k more = more
    at_control (constant q u y e ∷ ts) s sc b o l t f = at_control ts _ _ (next_at (constant q u y e) ts s sc b f) o.1 l t f.1
    at_control (typedef q u y ∷ ts) s sc b o l t f = at_control ts _ _ (next_at (typedef q u y) ts s sc b f) o.1 l t f.1
    at_control (header_type q y fs ∷ ts) s sc b o l t f = at_control ts _ _ (next_at (header_type q y fs) ts s sc b f) o.1 l t f.1
    at_control (struct_type q y fs ∷ ts) s sc b o l t f = at_control ts _ _ (next_at (struct_type q y fs) ts s sc b f) o.1 l t f.1
    at_control (register q r ∷ ts) s sc b o l t f = at_control ts _ _ (next_at (register q r) ts s sc b f) o.1 l t f.1
    at_control (parser q d ∷ ts) s sc b o l t f = at_control ts _ _ (next_at (parser q d) ts s sc b f) o.1 l t f.1

  pub states_are : (x : List ℕ) (ts : List Top) (s : Scope) (sc : meaning.Scope) → IsAt ts s sc → OldTops is_own ts → IsFine (tops_tests p.main s ts) → AllByRecursion IsOwnState (states_of (scope_at_parser sc ts x) (parser_named ts x))
  states_are x [] s sc b o f = tt
  states_are x (parser q d ∷ ts) s sc b o f = go (same_text d.name x) (states_are x ts _ sc (next_at (parser q d) ts s sc b f) o.1 f.1)
    where
      fine_parser : IsFine (parser_tests s d)
      fine_parser = f.0

      parser_place : IsPlace (with_ways s d.params) (in_parser sc d)
      parser_place =
          parser_holds R p.at s (λ n m. holds_before R.headers_type R.metadata_type n m s S b.types (goes_on (parser q d ∷ ts) s sc b f) headers_struct metadata_struct) (in_parser sc d) b.outer d.params refl
          (parts_in_role.parser_params p well q d (b.within (parser q d) (inl refl))) fine_parser.1.0

      here : AllByRecursion IsOwnState (states_of sc (Some d))
      here = states_own (in_parser sc d) d.states d.states (in_states s d) (place_states d.states (before_states s d) (in_parser sc d) (place_ends (with_ways s d.params) (in_parser sc d) parser_place)) o.0.states fine_parser.1.1.1.1

      go : (i : Bool) → AllByRecursion IsOwnState (states_of (scope_at_parser sc ts x) (parser_named ts x)) → AllByRecursion IsOwnState (states_of (cond i sc (scope_at_parser sc ts x)) (cond i (Some d) (parser_named ts x)))
      go true more = here
      go false more = more
  states_are x (control q c ∷ ts) s sc b o f = states_are x ts _ _ (next_at (control q c) ts s sc b f) o.1 f.1
  states_are x (constant q u y e ∷ ts) s sc b o f = states_are x ts _ _ (next_at (constant q u y e) ts s sc b f) o.1 f.1
  states_are x (typedef q u y ∷ ts) s sc b o f = states_are x ts _ _ (next_at (typedef q u y) ts s sc b f) o.1 f.1
  states_are x (header_type q y fs ∷ ts) s sc b o f = states_are x ts _ _ (next_at (header_type q y fs) ts s sc b f) o.1 f.1
  states_are x (struct_type q y fs ∷ ts) s sc b o f = states_are x ts _ _ (next_at (struct_type q y fs) ts s sc b f) o.1 f.1
  states_are x (register q r ∷ ts) s sc b o f = states_are x ts _ _ (next_at (register q r) ts s sc b f) o.1 f.1

-- What each control counts, along the declarations of a program, and what a passage counts.
use Rattle.std.proofs.Common.{◌≡◌, ◌⊎◌, inl, inr, ℕ, ◌+◌, List, [], ◌∷◌, true, false, not, codes, Some, None, refl, sym, ap, ◌∙◌, subst, arith}
use Rattle.std.specs.List.{AllByRecursion}
use Rattle.rule_tests.specs.Tests.{IsFine}
use Rattle.p4_tree.specs.Tree.{Stmts, nothing, block, var, assign, choice, return_, exit_, call, done, next, and_then, Local, local_action, local_table, local_register, local_const, local_var, Control, Top, constant, typedef, header_type, struct_type, register, parser, control}
use Rattle.p4_tree.specs.declared.program.Param.{Param}
use Rattle.p4_meaning.specs.Scope as meaning
use Rattle.p4_meaning.specs.Scope.{is_among, full, full_name, own_names}
use Rattle.p4_meaning.specs.Under as under
use Rattle.p4_meaning.specs.Under.{stmt_under, stmts_under, no_scope, behind_top, behind_local, behind_locals, settings_under}
use Rattle.p4_meaning.specs.Actions.{Action, actions_of, action_named}
use Rattle.p4_meaning.specs.Tables.{Table, tables_of, table_named}
use Rattle.p4_meaning.specs.Parts.{whole, body_of}
use Rattle.p4_meaning.specs.DigestBound as bound
use Rattle.p4_meaning.specs.DigestBound.{none_told, most_named, most_applied}
use Rattle.p4_scopes.specs.Scopes.{Stands, missing, typed, held, cells, act, rows, state, function, algorithm, other, is_missing, Scope, What, alias, fields, value, part, behind, declare, core, add_up}
use Rattle.p4_scopes.specs.Scopes as scope
use Rattle.p4_scopes.specs.declared.thing.Thing.TheVariants.{Header, Struct}
use Rattle.p4_scopes.specs.declared.thing.Access.TheVariants.{Constant}
use Rattle.p4_statement_rules.specs.Forms as form
use Rattle.p4_statement_rules.specs.Forms.{Form, takes_runs, takes_call, form_of}
use Rattle.p4_statement_rules.specs.Statements.{block_tests}
use Rattle.p4_statement_rules.specs.declared.rule.Part.{Part}
use Rattle.p4_statement_rules.specs.declared.rule.Part.TheVariants as place
use Rattle.p4_declaration_rules.specs.Digests.{most_of_form, most_of}
use Rattle.p4_declaration_rules.specs.Parsers.{way_access, with_ways, ways_tests}
use Rattle.p4_declaration_rules.specs.Controls.{in_control, control_tests, part_in, top_tests, after_top, tops_tests}
use Rattle.p4_typing_laws.specs.Plain.{IsPlain, IsPlainLocal, HavePlainNames}
use Rattle.p4_typing_laws.proofs.Fine.{twice_not}
use Rattle.p4_typing_laws.proofs.Cut.{IsCut, uncut}
use Rattle.p4_typing_laws.proofs.CallCounts.{IsQuiet, block_counts, no_more_values}
use Rattle.p4_typing_laws.proofs.FullNames.{full_apart, knows_all, skip_actions, skip_tables}
use Rattle.p4_typing_laws.proofs.CountedNames.{was_missing, other_kept, KeepsCore, declare_keeps, IsNoAction, Calls, quiet_calls, Nothing}
use Rattle.p4_typing_laws.proofs.CountedLocals.{IsNew, own_missing, own_new, counts_of, body_counts, IsBefore, behind_each}

broken : {A : Type 0} → true ≡ false → A
broken h = absurd (cc)

-- ---- statements behind each other

then_counts : (action table : List ℕ → ℕ) (a b : Stmts) → bound.most_of action table (and_then a b) ≡ bound.most_of action table a + bound.most_of action table b
then_counts action table done b = omega arith
then_counts action table (next c a) b = (let h = then_counts action table a b in omega (arith, h))

settings_none : (action table : List ℕ → ℕ) (sc : meaning.Scope) (ls : List Local) → bound.most_of action table (settings_under sc ls) ≡ 0
settings_none action table sc [] = refl
settings_none action table sc (local_action p a ∷ ls) = settings_none action table sc ls
settings_none action table sc (local_table p t ∷ ls) = settings_none action table sc ls
settings_none action table sc (local_register p r ∷ ls) = settings_none action table sc ls
settings_none action table sc (local_const p t x e ∷ ls) = settings_none action table (behind_local sc (local_const p t x e)) ls
settings_none action table sc (local_var p t x e ∷ ls) = (let h = settings_none action table sc ls in omega (arith, h))

-- what a control runs counts what its body counts
whole_counts : (action table : List ℕ → ℕ) (h m s : ℕ) (sc : meaning.Scope) (c : Control) → bound.most_of action table (whole (body_of h m s sc (Some c))) ≡ bound.most_of action table (stmts_under (behind_locals (under.in_control h m s sc c) c.locals) c.apply)
whole_counts action table h m s sc c =
    (let two = then_counts action table (settings_under (under.in_control h m s sc c) c.locals) (stmts_under (behind_locals (under.in_control h m s sc c) c.locals) c.apply) in
    let none = settings_none action table (under.in_control h m s sc c) c.locals in
    omega (arith, two, none))

-- ---- verify checksum tells nothing

sums_alone : (f : Form) → not (takes_call place.Verify f) ≡ false → (s : Scope) (x : List (List ℕ)) → most_of_form s f x ≡ 0
sums_alone form.unknown h s x = broken h
sums_alone form.ill h s x = broken h
sums_alone form.drops h s x = broken h
sums_alone form.digests h s x = broken h
sums_alone (form.sums v) h s x = refl
sums_alone form.extracts h s x = broken h
sums_alone form.emits h s x = broken h
sums_alone form.applies h s x = broken h
sums_alone (form.reads_cell k) h s x = broken h
sums_alone (form.writes_cell k) h s x = broken h
sums_alone form.makes_valid h s x = broken h
sums_alone (form.acts ks) h s x = broken h

add_none : (a b : ℕ) → a ≡ 0 → b ≡ 0 → add_up a b ≡ 0
add_none a b h k = omega arith

verify_none : (b : Stmts) (s : Scope) → IsFine (block_tests place.Verify s b) → most_of s b ≡ 0
verify_none done s f = refl
verify_none (next (nothing p) rest) s f = broken f.0
verify_none (next (block p b) rest) s f = broken f.0.0
verify_none (next (var p t x e) rest) s f = broken f.0.0
verify_none (next (assign p x e) rest) s f = broken f.0.0
verify_none (next (choice p e a b) rest) s f = broken f.0.0
verify_none (next (return_ p) rest) s f = broken f.0
verify_none (next (exit_ p) rest) s f = broken f.0
verify_none (next (call p x args) rest) s f = add_none _ _ (sums_alone (form_of s x) f.0.0 s x) (verify_none rest s f.1)

-- ---- parameters

ways_keep : (qs : List Param) (s : Scope) → KeepsCore s → IsFine (ways_tests s qs) → KeepsCore (with_ways s qs)
ways_keep [] s k f = k
ways_keep (q ∷ qs) s k f = ways_keep qs (declare s q.name (value (way_access q.way) q.ty)) (declare_keeps s k q.name (value (way_access q.way) q.ty) (twice_not _ f.0.0)) f.1

ways_calls : (L T : List ℕ → ℕ → Type 0) (qs : List Param) (s : Scope) → Calls L T s → Calls L T (with_ways s qs)
ways_calls L T [] s c = c
ways_calls L T (q ∷ qs) s c = ways_calls L T qs (declare s q.name (value (way_access q.way) q.ty)) (quiet_calls L T s c q.name (value (way_access q.way) q.ty) tt)

-- what is known of calls at top level is known in a control
inner_calls : (L T : List ℕ → ℕ → Type 0) (s : Scope) → Calls Nothing Nothing s → Calls L T s
inner_calls L T s c = record { functions = c.functions; actions = λ x ks m e. go x m (c.actions x ks m e); tables = λ x m e. absurd (c.tables x m e); inner = c.inner }
  where
    go : (x : List ℕ) (m : ℕ) → IsNoAction x m ⊎ Nothing x m → IsNoAction x m ⊎ L x m
    go x m (inl e) = inl e
    go x m (inr e) = absurd e

-- ---- controls

-- what a control counts as ingress or egress, and as verify checksum
pub record ControlCounts (as' : List Action) (tabs : List Table) (main : List (List ℕ)) (s : Scope) (sc : meaning.Scope) (c : Control) : Type 0 where
  pub runs : IsCut (bound.most_of (most_named as') (most_applied as' tabs) (whole (body_of 0 1 2 sc (Some c)))) (most_of (in_control s c) c.apply)
  pub verifies : part_in main c.name ≡ place.Verify → bound.most_of none_told none_told (whole (body_of 0 1 9 sc (Some c))) ≡ 0

module _ (as' : List Action) (tabs : List Table) (main : List (List ℕ)) where
  -- what is known in front of declarations at top level
  pub record IsBeforeTops (sc : meaning.Scope) (ts : List Top) (s : Scope) : Type 0 where
    pub core : KeepsCore s
    pub calls : Calls Nothing Nothing s
    pub finds_actions : (c x : List ℕ) → IsPlain x → is_missing (s (c ∷ [])) ≡ true → action_named as' (full c x) ≡ action_named (actions_of sc ts) (full c x)
    pub finds_tables : (c x : List ℕ) → IsPlain x → is_missing (s (c ∷ [])) ≡ true → table_named tabs (full c x) ≡ table_named (tables_of sc as' ts) (full c x)

  -- each control of some declarations counts so
  abbrev pub EachCounts : Scope → meaning.Scope → List Top → Type 0
  EachCounts s sc [] = Unit {0}
  EachCounts s sc (constant p t x e ∷ ts) = EachCounts (after_top s (constant p t x e)) (behind_top sc (constant p t x e)) ts
  EachCounts s sc (typedef p t x ∷ ts) = EachCounts (after_top s (typedef p t x)) (behind_top sc (typedef p t x)) ts
  EachCounts s sc (header_type p x fs ∷ ts) = EachCounts (after_top s (header_type p x fs)) sc ts
  EachCounts s sc (struct_type p x fs ∷ ts) = EachCounts (after_top s (struct_type p x fs)) sc ts
  EachCounts s sc (register p r ∷ ts) = EachCounts (after_top s (register p r)) sc ts
  EachCounts s sc (parser p d ∷ ts) = EachCounts (after_top s (parser p d)) sc ts
  EachCounts s sc (control p c ∷ ts) = ControlCounts as' tabs main s sc c × EachCounts (after_top s (control p c)) sc ts

-- what stands at a name stands there behind a declaration
pub top_stays : (main : List (List ℕ)) (s : Scope) (t : Top) → IsFine (top_tests main s t) → (x : List ℕ) → is_missing (s (x ∷ [])) ≡ false → after_top s t (x ∷ []) ≡ s (x ∷ [])
top_stays main s t f x h = one t f
  where
    kept : (n : List ℕ) (w : What) → is_missing (s (n ∷ [])) ≡ true → declare s n w (x ∷ []) ≡ s (x ∷ [])
    kept n w new = other_kept s n w x (λ e. (let c : true ≡ false = sym new ∙ ap (λ (y : List ℕ). is_missing (s (y ∷ []))) e ∙ h in cc))

    one : (t : Top) → IsFine (top_tests main s t) → after_top s t (x ∷ []) ≡ s (x ∷ [])
    one (constant p ty y e) g = kept y (value Constant ty) (twice_not _ g.0)
    one (typedef p ty y) g = kept y (alias ty) (twice_not _ g.0)
    one (header_type p y fs) g = kept y (fields (Header _) fs) (twice_not _ g.0)
    one (struct_type p y fs) g = kept y (fields Struct fs) (twice_not _ g.0)
    one (register p r) g = kept r.name (scope.register r.ty) (twice_not _ g.0)
    one (parser p d) g = kept d.name part (twice_not _ g.0)
    one (control p c) g = kept c.name part (twice_not _ g.0)

module _ (as' : List Action) (tabs : List Table) (none : action_named as' (codes "NoAction") ≡ None) (main : List (List ℕ)) where
  behind_names : (sc : meaning.Scope) (ls : List Local) → ((behind_locals sc ls).own ≡ sc.own) × ((behind_locals sc ls).control ≡ sc.control)
  behind_names sc [] = (refl, refl)
  behind_names sc (local_action p a ∷ ls) = behind_names sc ls
  behind_names sc (local_table p t ∷ ls) = behind_names sc ls
  behind_names sc (local_register p r ∷ ls) = behind_names sc ls
  behind_names sc (local_const p t x e ∷ ls) = behind_names (behind_local sc (local_const p t x e)) ls
  behind_names sc (local_var p t x e ∷ ls) = behind_names sc ls

  none_left : (n m : ℕ) → IsCut n m → m ≡ 0 → n ≡ 0
  none_left n m cut e = uncut n m cut (let k = e in omega (arith, k)) ∙ e

  control_counts : (h : Part) (p : ℕ) (c : Control) (ts : List Top) (s : Scope) (sc : meaning.Scope) → IsBeforeTops as' tabs main sc (control p c ∷ ts) s → AllByRecursion IsPlainLocal c.locals → part_in main c.name ≡ h → IsFine (control_tests h s c) → ControlCounts as' tabs main s sc c
  control_counts h p c ts s sc b plain e f =
      record {
        runs = subst (λ (n : ℕ). IsCut n (most_of (in_control s c) c.apply)) (sym (whole_counts (most_named as') (most_applied as' tabs) 0 1 2 sc c)) runs;
        verifies = λ v. whole_counts none_told none_told 0 1 9 sc c ∙ none_left _ _ (verifies (sym e ∙ v)) (verify_none c.apply (in_control s c) (subst (λ (g : Part). IsFine (block_tests g (in_control s c) c.apply)) (sym e ∙ v) f.1.1.1.0));
      }
    where
      keeps : KeepsCore (with_ways s c.params)
      keeps = ways_keep c.params s b.core f.1.0

      new : IsNew (own_names c.locals)
      new = own_new (own_names c.locals) (with_ways s c.params) keeps (own_missing h c.locals (with_ways s c.params) f.1.1.0)

      starts : IsBefore as' tabs none c.name (own_names c.locals) new (actions_of sc ts) (tables_of sc as' ts) (under.in_control 0 1 2 sc c) c.locals (with_ways s c.params)
      starts =
          record {
            knows = knows_all 0 1 2 sc c;
            owns = refl;
            core = keeps;
            calls = inner_calls _ _ (with_ways s c.params) (ways_calls Nothing Nothing c.params s b.calls);
            finds_actions = λ x q m. b.finds_actions c.name x q (twice_not _ f.0);
            finds_tables = λ x q m. b.finds_tables c.name x q (twice_not _ f.0);
          }

      end : IsBefore as' tabs none c.name (own_names c.locals) new (actions_of sc ts) (tables_of sc as' ts) (behind_locals (under.in_control 0 1 2 sc c) c.locals) [] (in_control s c)
      end = behind_each as' tabs none c.name (own_names c.locals) new (actions_of sc ts) (tables_of sc as' ts) h c.locals (under.in_control 0 1 2 sc c) (with_ways s c.params) starts plain f.1.1.0

      runs : IsCut (bound.most_of (most_named as') (most_applied as' tabs) (stmts_under (behind_locals (under.in_control 0 1 2 sc c) c.locals) c.apply)) (most_of (in_control s c) c.apply)
      runs =
          block_counts (behind_locals (under.in_control 0 1 2 sc c) c.locals) (most_named as') (most_applied as' tabs) h (in_control s c)
          (counts_of as' tabs none c.name (own_names c.locals) new (behind_locals (under.in_control 0 1 2 sc c) c.locals) end.owns end.knows.control _ (in_control s c) end.calls)
          c.apply (in_control s c) (no_more_values (in_control s c)) f.1.1.1.0

      verifies : h ≡ place.Verify → IsCut (bound.most_of none_told none_told (stmts_under (behind_locals (under.in_control 0 1 9 sc c) c.locals) c.apply)) (most_of (in_control s c) c.apply)
      verifies v =
          (let names = behind_names (under.in_control 0 1 9 sc c) c.locals in
          block_counts (behind_locals (under.in_control 0 1 9 sc c) c.locals) none_told none_told h (in_control s c)
          (body_counts as' tabs none c.name (own_names c.locals) new (behind_locals (under.in_control 0 1 9 sc c) c.locals) names.0 names.1 _ (ap takes_runs v) (in_control s c) end.calls)
          c.apply (in_control s c) (no_more_values (in_control s c)) f.1.1.1.0)

  -- ---- along the declarations of a program

  quiet_tops : (sc sd : meaning.Scope) (t : Top) (ts : List Top) (s : Scope) (n : List ℕ) (w : What) → IsBeforeTops as' tabs main sc (t ∷ ts) s
      → ((y : List ℕ) → action_named (actions_of sc (t ∷ ts)) y ≡ action_named (actions_of sd ts) y) → ((y : List ℕ) → table_named (tables_of sc as' (t ∷ ts)) y ≡ table_named (tables_of sd as' ts) y)
      → is_missing (s (n ∷ [])) ≡ true → is_missing (behind s w []) ≡ false → IsQuiet (behind s w []) → IsBeforeTops as' tabs main sd ts (declare s n w)
  quiet_tops sc sd t ts s n w b acts tables new_name some quiet =
      record {
        core = declare_keeps s b.core n w new_name;
        calls = quiet_calls Nothing Nothing s b.calls n w quiet;
        finds_actions = λ c x q m. b.finds_actions c x q (was_missing s n w some c m).before ∙ acts (full c x);
        finds_tables = λ c x q m. b.finds_tables c x q (was_missing s n w some c m).before ∙ tables (full c x);
      }

  -- a control's own names are none of another's
  behind_control : (h : Part) (sc : meaning.Scope) (p : ℕ) (c : Control) (ts : List Top) (s : Scope) → IsBeforeTops as' tabs main sc (control p c ∷ ts) s → AllByRecursion IsPlainLocal c.locals → IsFine (control_tests h s c) → IsBeforeTops as' tabs main sc ts (declare s c.name part)
  behind_control h sc p c ts s b plain f =
      record {
        core = declare_keeps s b.core c.name part (twice_not _ f.0);
        calls = quiet_calls Nothing Nothing s b.calls c.name part tt;
        finds_actions = λ d x q m. (let was = was_missing s c.name part refl d m in b.finds_actions d x q was.before ∙ skip_actions c.name (full d x) (λ y r e. was.apart (full_apart y x c.name d r q e).1) c.locals (under.in_control 0 1 2 sc c) (knows_all 0 1 2 sc c) plain (actions_of sc ts));
        finds_tables = λ d x q m. (let was = was_missing s c.name part refl d m in b.finds_tables d x q was.before ∙ skip_tables as' c.name (full d x) (λ y r e. was.apart (full_apart y x c.name d r q e).1) c.locals (under.in_control 0 1 2 sc c) (knows_all 0 1 2 sc c) plain (tables_of sc as' ts));
      }

  pub each_counts : (ts : List Top) (s : Scope) (sc : meaning.Scope) → IsBeforeTops as' tabs main sc ts s → HavePlainNames ts → IsFine (tops_tests main s ts) → EachCounts as' tabs main s sc ts
  each_counts [] s sc b plain f = tt
  each_counts (constant p t x e ∷ ts) s sc b plain f = each_counts ts _ (behind_top sc (constant p t x e)) (quiet_tops sc (behind_top sc (constant p t x e)) (constant p t x e) ts s x (value Constant t) b (λ y. refl) (λ y. refl) (twice_not _ f.0.0) refl tt) plain.1 f.1
  each_counts (typedef p t x ∷ ts) s sc b plain f = each_counts ts _ (behind_top sc (typedef p t x)) (quiet_tops sc (behind_top sc (typedef p t x)) (typedef p t x) ts s x (alias t) b (λ y. refl) (λ y. refl) (twice_not _ f.0.0) refl tt) plain f.1
  each_counts (header_type p x fs ∷ ts) s sc b plain f = each_counts ts _ sc (quiet_tops sc sc (header_type p x fs) ts s x (fields (Header _) fs) b (λ y. refl) (λ y. refl) (twice_not _ f.0.0) refl tt) plain f.1
  each_counts (struct_type p x fs ∷ ts) s sc b plain f = each_counts ts _ sc (quiet_tops sc sc (struct_type p x fs) ts s x (fields Struct fs) b (λ y. refl) (λ y. refl) (twice_not _ f.0.0) refl tt) plain f.1
  each_counts (register p r ∷ ts) s sc b plain f = each_counts ts _ sc (quiet_tops sc sc (register p r) ts s r.name (scope.register r.ty) b (λ y. refl) (λ y. refl) (twice_not _ f.0.0) refl tt) plain.1 f.1
  each_counts (parser p d ∷ ts) s sc b plain f = each_counts ts _ sc (quiet_tops sc sc (parser p d) ts s d.name part b (λ y. refl) (λ y. refl) (twice_not _ f.0.0) refl tt) plain f.1
  each_counts (control p c ∷ ts) s sc b plain f = (control_counts (part_in main c.name) p c ts s sc b plain.0.0 refl f.0, each_counts ts _ sc (behind_control (part_in main c.name) sc p c ts s b plain.0.0 f.0) plain.1 f.1)

-- A control without exits is fine where the given one is, and gives as many digests.
use Rattle.std.proofs.Common.{◌≡◌, ◌⊎◌, inl, inr, ℕ, List, [], ◌∷◌, map, Bool, true, false, cond, refl, sym, ap, ◌∙◌, subst, Some}
use Rattle.std.specs.List.{list_any}
use Rattle.lex_text.specs.Names.{same_text}
use Rattle.rule_tests.specs.Tests.{IsFine}
use Rattle.p4_tree.specs.Tree.{flag, Stmts, Local, local_var, Control}
use Rattle.p4_tree.specs.declared.statement.PTy.TheVariants as type
use Rattle.p4_scopes.specs.Scopes.{is_missing, Scope, What, value, declare}
use Rattle.p4_scopes.specs.declared.thing.Access.TheVariants.{Writable}
use Rattle.p4_statement_rules.specs.Forms.{has_calls_alone, takes_any}
use Rattle.p4_statement_rules.specs.declared.rule.Part.{Part}
use Rattle.p4_statement_rules.specs.declared.rule.Part.TheVariants as place
use Rattle.p4_declaration_rules.specs.Parsers.{with_ways}
use Rattle.p4_declaration_rules.specs.Controls.{after_locals, once_tests, in_control, part_in, control_tests, most_of_part}
use Rattle.p4_rule_laws.specs.Old.{Names, Alike}
use Rattle.p4_rule_laws.specs.OldPrograms.{OldControl}
use Rattle.p4_rule_laws.specs.Guards.{IsFlag}
use Rattle.p4_rule_laws.specs.Growth.{BodyGrows, LocalsGrow, new_local, control_with}
use Rattle.p4_rule_laws.proofs.AlikeScopes.{alike_self}
use Rattle.p4_rule_laws.proofs.BodiesGrow.{same_body}
use Rattle.p4_rule_laws.proofs.GrowthLemmas.{locals_grow, same_params, control_grows}
use Rattle.p4_rule_laws.proofs.GuardLemmas.{not_true, flag_declared}
use Rattle.p4_rule_laws.proofs.KeepsLemmas.{keeps_self, undeclared}
use Rattle.exit_statements.specs.Without.{in_control as of_control, Exits, stmts_leave, stmts_without}
use Rattle.exit_statements.proofs.Left.{stmts_same}
use Rattle.exit_statements.proofs.Runs.{or_left}
use Rattle.exit_programs.specs.Programs.{flags, exits_at, local_exits, local_without, control_leaves, with_flag, control_without}
use Rattle.exit_rules.specs.Laws.{HasOwnSums}
use Rattle.exit_rules.proofs.Guarded.{or_second, stmts_fine}
use Rattle.exit_rules.proofs.Counted.{stmts_count}
use Rattle.exit_rules.proofs.Declared.{left_ways, left_locals, locals_without}
use Rattle.exit_rules.proofs.Alone.{alone_same}

-- ---- parts

not_alone : (h : Part) → takes_any h ≡ true → has_calls_alone h ≡ false
not_alone place.Apply e = refl
not_alone place.Action e = refl
not_alone place.Other e = refl
not_alone place.State e = refl
not_alone place.Verify e = sym e
not_alone place.Compute e = sym e
not_alone place.Deparser e = sym e

-- where anything stands nothing is emitted
nothing_once : (h : Part) (s : Scope) (b : Stmts) → takes_any h ≡ true → IsFine (once_tests h s b)
nothing_once place.Deparser s b e = absurd (let c : false ≡ true = e in cc)
nothing_once place.State s b e = tt
nothing_once place.Verify s b e = tt
nothing_once place.Apply s b e = tt
nothing_once place.Action s b e = tt
nothing_once place.Compute s b e = tt
nothing_once place.Other s b e = tt

-- a control has its one call alone, or anything stands in it
abbrev IsEither : Part → Type 0
IsEither h = (has_calls_alone h ≡ true) ⊎ (takes_any h ≡ true)

choose : (b : Bool) (h k : Part) → IsEither h → IsEither k → IsEither (cond b h k)
choose true h k x y = x
choose false h k x y = y

part_either : (main : List (List ℕ)) (x : List ℕ) → IsEither (part_in main x)
part_either [] x = inr refl
part_either (d ∷ []) x = inr refl
part_either (d ∷ v ∷ []) x = inr refl
part_either (d ∷ v ∷ i ∷ []) x = inr refl
part_either (d ∷ v ∷ i ∷ e ∷ []) x = inr refl
part_either (d ∷ v ∷ i ∷ e ∷ k ∷ []) x = inr refl
part_either (d ∷ v ∷ i ∷ e ∷ k ∷ m ∷ []) x =
    choose (same_text v x) place.Verify _ (inl refl)
    (choose (same_text i x) place.Apply _ (inr refl)
    (choose (same_text e x) place.Apply _ (inr refl)
    (choose (same_text k x) place.Compute _ (inl refl)
    (choose (same_text m x) place.Deparser place.Other (inl refl) (inr refl)))))
part_either (d ∷ v ∷ i ∷ e ∷ k ∷ m ∷ n ∷ r) x = inr refl

-- ---- controls in which anything stands

-- the declaration of the flag
abbrev flag_local : Local
flag_local = local_var 0 type.Bool flags.left (Some (flag 0 false))

abbrev flag_what : What
flag_what = value Writable type.Bool

-- both flags are free
pub record AreFree (s : Scope) : Type 0 where
  pub left : is_missing (s (flags.left ∷ [])) ≡ true
  pub returned : is_missing (s (flags.returned ∷ [])) ≡ true

module _ (old : Names) (left_new : old flags.left ≡ false) (returned_new : old flags.returned ≡ false) (m : Exits) (s : Scope) (free : AreFree s) (c : Control) (o : OldControl old c) where
  abbrev v : Scope
  v = with_ways s c.params

  left_free : is_missing (v (flags.left ∷ [])) ≡ true
  left_free = ap is_missing (left_ways old flags.left left_new s c.params o.params) ∙ free.left

  returned_free : is_missing (v (flags.returned ∷ [])) ≡ true
  returned_free = ap is_missing (left_ways old flags.returned returned_new s c.params o.params) ∙ free.returned

  -- local declarations, behind the flag where something may end the control
  locals_by : (h : Part) → takes_any h ≡ true → (b : Bool) → (list_any local_exits c.locals ≡ true → b ≡ true) → LocalsGrow old h v v v c.locals (with_flag b (map local_without c.locals))
  locals_by h k true i =
      new_local flag_local left_new (λ e. (not_alone h k, (not_true (is_missing (v (flags.left ∷ []))) left_free, ((tt, refl), (refl, refl)))))
      (locals_without old left_new returned_new h v v (declare v flags.left flag_what) c.locals o.locals (ap is_missing (undeclared v flags.left flag_what flags.returned [] refl) ∙ returned_free) (λ e. flag_declared v flags.left))
  locals_by h k false i = locals_without old left_new returned_new h v v v c.locals o.locals returned_free (λ e. let d : false ≡ true = i e in absurd (cc))

  locals_fine : (h : Part) → takes_any h ≡ true → LocalsGrow old h v v v c.locals (with_flag (control_leaves m c) (map local_without c.locals))
  locals_fine h k = locals_by h k (control_leaves m c) (or_second (stmts_leave (exits_at m c) c.apply) (list_any local_exits c.locals))

  -- the apply block
  abbrev body : Stmts
  body = stmts_without flags (exits_at m c) of_control false c.apply

  apply_fine : (h : Part) → takes_any h ≡ true → (b : Bool) → control_leaves m c ≡ b → BodyGrows old h (in_control s c) (in_control s (control_with c c.params (with_flag b (map local_without c.locals)) body)) c.apply body
  apply_fine h k true e =
      let t : Scope = after_locals (declare v flags.left flag_what) (map local_without c.locals) in
      let g : IsFlag t flags.left = left_locals old flags.left left_new (declare v flags.left flag_what) c.locals o.locals ∙ flag_declared v flags.left in
      record {
        fine = λ a f. stmts_fine flags (exits_at m c) of_control old h k left_new left_new (in_control s c) t a false c.apply o.apply (record { guard = g; left = λ e. g }) f;
        once = λ a f. nothing_once h t body k;
      }
  apply_fine h k false e =
      let t : Scope = after_locals v (map local_without c.locals) in
      let P : Stmts → Type 0 = λ b. BodyGrows old h (in_control s c) t c.apply b in
      subst P (sym (stmts_same flags (exits_at m c) of_control c.apply (or_left (stmts_leave (exits_at m c) c.apply) (list_any local_exits c.locals) e))) (same_body old h (in_control s c) t c.apply o.apply)

  any_fine : (h : Part) → takes_any h ≡ true → IsFine (control_tests h s c) → IsFine (control_tests h s (control_without m c))
  any_fine h k f = control_grows old h s s c c.params (with_flag (control_leaves m c) (map local_without c.locals)) body o.name (same_params old s s c.params o.params) (locals_fine h k) (λ e. apply_fine h k (control_leaves m c) refl) (alike_self old s) f

  either_fine : (h : Part) → IsEither h → HasOwnSums s → IsFine (control_tests h s c) → IsFine (control_tests h s (control_without m c))
  either_fine h (inr k) w f = any_fine h k f
  either_fine h (inl a) w f = let P : Control → Type 0 = λ d. IsFine (control_tests h s d) in subst P (sym (alone_same m h s c w a f)) f

  pub control_fine : (main : List (List ℕ)) → HasOwnSums s → IsFine (control_tests (part_in main c.name) s c) → IsFine (control_tests (part_in main c.name) s (control_without m c))
  control_fine main w f = either_fine (part_in main c.name) (part_either main c.name) w f

  -- ---- digests

  scopes_alike : (h : Part) → takes_any h ≡ true → IsFine (control_tests h s c) → Alike old (in_control s c) (in_control s (control_without m c))
  scopes_alike h k f = (locals_grow (locals_fine h k) (keeps_self v) (alike_self old v) f.1.1.0).1

  pub control_count : (h : Part) → IsFine (control_tests h s c) → most_of_part h s (control_without m c) ≡ most_of_part h s c
  control_count place.Apply f = stmts_count flags (exits_at m c) of_control old (in_control s c) (in_control s (control_without m c)) (scopes_alike place.Apply refl f) false c.apply o.apply
  control_count place.State f = refl
  control_count place.Verify f = refl
  control_count place.Action f = refl
  control_count place.Compute f = refl
  control_count place.Deparser f = refl
  control_count place.Other f = refl

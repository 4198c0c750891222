-- Ingress and egress of a linked program grow from the given ones.
use Rattle.std.proofs.Common.{codes, ◌≡◌, ℕ, List, [], ◌∷◌, ◌++◌, map, true, false, not, Some, None, refl, sym, ap, ◌∙◌, subst}
use Rattle.std.specs.List.{AllByRecursion}
use Rattle.rule_tests.specs.Tests.{IsFine}
use Rattle.p4_tree.specs.Tree.{Stmt, Stmts, nothing, block, var, assign, choice, return_, exit_, call, done, next, and_then, Local, local_action, local_table, local_register, local_const, local_var, Control}
use Rattle.p4_meaning.specs.Scope.{Roots}
use Rattle.p4_scopes.specs.Scopes.{held, is_missing, Scope, What, value, action, table, declare, kind_in}
use Rattle.p4_scopes.specs.Scopes as scope
use Rattle.p4_scopes.specs.declared.thing.Access.TheVariants.{Writable, Constant}
use Rattle.p4_statement_rules.specs.Statements.{after, after_all, stmt_tests, block_tests}
use Rattle.p4_statement_rules.specs.declared.rule.Part.{Part}
use Rattle.p4_statement_rules.specs.declared.rule.Part.TheVariants as place
use Rattle.p4_declaration_rules.specs.Digests.{most_of, most_of_table}
use Rattle.p4_declaration_rules.specs.Declarations.{with_params}
use Rattle.p4_declaration_rules.specs.Parsers.{with_ways}
use Rattle.p4_declaration_rules.specs.Controls.{action_part, local_tests, after_local, locals_tests, after_locals, in_control, control_tests}
use Rattle.p4_rule_laws.specs.Old.{Alike, OldStmts}
use Rattle.p4_rule_laws.specs.OldPrograms.{OldLocal, OldLocals, OldControl}
use Rattle.p4_rule_laws.specs.Kept.{Keeps, local_name}
use Rattle.p4_rule_laws.specs.Growth.{LocalsGrow, new_local, control_with}
use Rattle.p4_rule_laws.proofs.AlikeStmts.{block_alike}
use Rattle.p4_rule_laws.proofs.AlikePrograms.{with_ways_alike}
use Rattle.p4_rule_laws.proofs.KeepsLemmas.{keeps_self, keeps_trans, with_params_keeps, after_local_keeps, after_locals_keeps, after_all_keeps, undeclared}
use Rattle.p4_rule_laws.proofs.JoinedLemmas.{locals_append, locals_parts, block_joined}
use Rattle.p4_rule_laws.proofs.WiderLemmas.{old_is_other}
use Rattle.p4_rule_laws.proofs.GrowthLemmas.{locals_grow, same_params, control_grows}
use Rattle.p4_rule_laws.proofs.ReplacedLemmas as old_lemmas
use Rattle.own_programs.specs.OwnPrograms.{is_own}
use Rattle.monitor_laws.specs.Names.{first_name, last_name, rejected_name}
use Rattle.linked_halves.specs.Statements.{count_name}
use Rattle.linked_programs.specs.Lowered.{Lowered}
use Rattle.linked_programs.specs.Rewritten.{stmts_with, local_with}
use Rattle.linked_programs.specs.Linked.{entry_stmt, exit_stmt, is_ingress, is_egress, locals_at, apply_at, control_roots}
use Rattle.linked_programs.specs.Gives.{IsLoweredLocal}
use Rattle.linked_rules.specs.Lengths.{HasLength}
use Rattle.linked_rules.specs.Passes.{front_scope, Offers, IsFresh, Shows, Passes}
use Rattle.linked_rules.proofs.LengthFine.{length_kept, expr_replaced, block_replaced}
use Rattle.linked_rules.proofs.LocalsFine.{stmts_most, keys_fine, matched_same, locals_with_grow}
use Rattle.linked_rules.proofs.LinkerFine.{entry_fine, exit_fine}

-- ---- what is offered further in

pub offers_kept : (r : Roots) (u z y : Scope) → Keeps z y → Offers r u z → Offers r u y
offers_kept r u z y k o =
    (let std : is_missing (z (r.standard ∷ [])) ≡ false = ap is_missing o.standard in
    record {
      front = keeps_trans u z y o.front k;
      core = keeps_trans scope.core z y o.core k;
      headers = ap is_missing (k.kept r.headers [] o.headers) ∙ o.headers;
      metadata = ap is_missing (k.kept r.metadata [] o.metadata) ∙ o.metadata;
      standard = k.kept r.standard [] std ∙ o.standard;
      tele = λ xs. k.kept r.headers _ o.headers ∙ o.tele xs;
      length = k.kept r.metadata _ o.metadata ∙ o.length;
      fields = λ x. k.kept r.standard (x ∷ []) std ∙ o.fields x;
    })

pub shows_kept : (S : Scope) (H M : List ℕ) (r : Roots) (u z y : Scope) → Keeps z y → Offers r u z → Shows S H M r z → Shows S H M r y
shows_kept S H M r u z y k o h = record { headers = λ x xs p. k.kept r.headers (x ∷ xs) o.headers ∙ h.headers x xs p; metadata = λ x xs p. k.kept r.metadata (x ∷ xs) o.metadata ∙ h.metadata x xs p }

pub has_length : (r : Roots) (u z : Scope) → Offers r u z → HasLength r z
has_length r u z o = record { standard = ap is_missing o.standard; metadata = o.metadata; from = o.fields (codes "packet_length"); onto = o.length }

-- ---- the lowering's declarations, with other reads

pub after_with : (r : Roots) (t : Scope) (l : Local) → after_local t (local_with r l) ≡ after_local t l
after_with r t (local_action p a) = ap (λ (m : ℕ). declare t a.name (action a.params m)) (stmts_most r t a.body)
after_with r t (local_table p b) = refl
after_with r t (local_register p d) = refl
after_with r t (local_const p y x e) = refl
after_with r t (local_var p y x e) = refl

locals_after : (r : Roots) (t : Scope) (ls : List Local) → after_locals t (map (local_with r) ls) ≡ after_locals t ls
locals_after r t [] = refl
locals_after r t (l ∷ ls) = ap (λ (z : Scope). after_locals z (map (local_with r) ls)) (after_with r t l) ∙ locals_after r (after_local t l) ls

local_fine : (r : Roots) (h : Part) (t : Scope) → HasLength r t → (l : Local) → IsFine (local_tests h t l) → IsFine (local_tests h t (local_with r l))
local_fine r h t has (local_action p a) f =
    (f.0, (f.1.0, (f.1.1.0, old_lemmas.block_replaced (block_replaced r (action_part h) (with_params t a.params) (length_kept r t (with_params t a.params) (with_params_keeps a.at t a.params f.1.1.0) has) a.body f.1.1.1) (action_part h) f.1.1.1)))
local_fine r h t has (local_table p b) f = (f.0, (f.1.0, (matched_same r b.keys ∙ f.1.1.0, (keys_fine r t has b.keys f.1.1.1.0, f.1.1.1.1))))
local_fine r h t has (local_register p d) f = f
local_fine r h t has (local_const p y x e) f = f
local_fine r h t has (local_var p y x None) f = f
local_fine r h t has (local_var p y x (Some e)) f = (f.0, (f.1.0, (f.1.1.0, ((expr_replaced r t has e).wherever (kind_in t y) f.1.1.1).fine)))

pub locals_fine : (r : Roots) (h : Part) (t : Scope) → HasLength r t → (ls : List Local) → IsFine (locals_tests h t ls) → IsFine (locals_tests h t (map (local_with r) ls))
locals_fine r h t has [] f = tt
locals_fine r h t has (l ∷ ls) f = (
  local_fine r h t has l f.0,
  subst (λ (z : Scope). IsFine (locals_tests h z (map (local_with r) ls))) (sym (after_with r t l)) (locals_fine r h (after_local t l) (length_kept r t (after_local t l) (after_local_keeps h t l f.0) has) ls f.1),
)

-- their names are the monitor's
pub new_name : (r : Roots) (l : Local) → IsLoweredLocal l → is_own (local_name (local_with r l)) ≡ false
new_name r (local_action p a) m = ap not m
new_name r (local_table p t) m = ap not m
new_name r (local_var p ty x e) m = ap not m
new_name r (local_register p d) m = absurd m
new_name r (local_const p ty x e) m = absurd m

new_locals : (r : Roots) (h : Part) (v s t : Scope) (a ls ms : List Local) → AllByRecursion IsLoweredLocal a → IsFine (locals_tests h t (map (local_with r) a)) → LocalsGrow is_own h v s (after_locals t (map (local_with r) a)) ls ms → LocalsGrow is_own h v s t ls (map (local_with r) a ++ ms)
new_locals r h v s t [] ls ms m f g = g
new_locals r h v s t (l ∷ a) ls ms m f g = new_local (local_with r l) (new_name r l m.0) (λ k. f.0) (new_locals r h v s (after_local t (local_with r l)) a ls ms m.1 f.1 g)

pub map_both : (r : Roots) (a b : List Local) → map (local_with r) (a ++ b) ≡ map (local_with r) a ++ map (local_with r) b
map_both r [] b = refl
map_both r (l ∷ a) b = ap (λ (xs : List Local). local_with r l ∷ xs) (map_both r a b)

-- ---- names of the monitor's stand for what they stood for behind own declarations and own statements

module _ (r : Roots) (x : List ℕ) (mine : is_own x ≡ false) where
  left_by : (t : Scope) (y : List ℕ) (w : What) → is_own y ≡ true → declare t y w (x ∷ []) ≡ t (x ∷ [])
  left_by t y w o = undeclared t y w x [] (old_is_other is_own y x o mine)

  left_local : (t : Scope) (l : Local) → OldLocal is_own l → after_local t (local_with r l) (x ∷ []) ≡ t (x ∷ [])
  left_local t (local_action p a) o = left_by t a.name (action a.params (most_of t (stmts_with r a.body))) o.0
  left_local t (local_table p b) o = left_by t b.name (table (most_of_table t b.actions b.default)) o.name
  left_local t (local_register p d) o = left_by t d.name (scope.register d.ty) o.0
  left_local t (local_const p y z e) o = left_by t z (value Constant y) o.1
  left_local t (local_var p y z e) o = left_by t z (value Writable y) o.1

  pub left_locals : (t : Scope) (ls : List Local) → OldLocals is_own ls → after_locals t (map (local_with r) ls) (x ∷ []) ≡ t (x ∷ [])
  left_locals t [] o = refl
  left_locals t (l ∷ ls) o = left_locals (after_local t (local_with r l)) ls o.1 ∙ left_local t l o.0

  left_stmt : (t : Scope) (c : Stmt) (b : Stmts) → OldStmts is_own (next c b) → after t c (x ∷ []) ≡ t (x ∷ [])
  left_stmt t (var p y z e) b o = left_by t z (value Writable y) o.0.1
  left_stmt t (nothing p) b o = refl
  left_stmt t (block p ss) b o = refl
  left_stmt t (assign p z e) b o = refl
  left_stmt t (choice p e c d) b o = refl
  left_stmt t (return_ p) b o = refl
  left_stmt t (exit_ p) b o = refl
  left_stmt t (call p z args) b o = refl

  pub left_block : (t : Scope) (b : Stmts) → OldStmts is_own b → after_all t b (x ∷ []) ≡ t (x ∷ [])
  left_block t done o = refl
  left_block t (next c b) o = left_block (after t c) b o.1 ∙ left_stmt t c b o

-- ---- the controls

module _ (l : Lowered) (S : Scope) (H M : List ℕ) (r q : Roots) (passes : Passes l S H M r q) (low_entry : AllByRecursion IsLoweredLocal l.entry_locals) (low_exit : AllByRecursion IsLoweredLocal l.exit_locals) (n : ℕ) (links : List ℕ) where
  abbrev u : Scope
  u = front_scope l n

  module _ (s t : Scope) (c : Control) (o : OldControl is_own c) (alike : Alike is_own s t) where
    abbrev v : Scope
    v = with_ways t c.params

    abbrev k : Roots
    k = control_roots c

    -- with local declarations of the lowering in front
    module _ (a : List Local) (low : AllByRecursion IsLoweredLocal a) (has : HasLength k v) (fine : IsFine (locals_tests place.Apply v a)) (f : IsFine (control_tests place.Apply s c)) where
      abbrev made : List Local
      made = map (local_with k) (a ++ c.locals)

      abbrev pub z : Scope
      z = after_locals v made

      abbrev behind : Scope
      behind = after_locals v a

      fine_with : IsFine (locals_tests place.Apply v (map (local_with k) a))
      fine_with = locals_fine k place.Apply v has a fine

      locals : LocalsGrow is_own place.Apply v (with_ways s c.params) v c.locals made
      locals =
          subst (λ (ms : List Local). LocalsGrow is_own place.Apply v (with_ways s c.params) v c.locals ms) (sym (map_both k a c.locals))
          (new_locals k place.Apply v (with_ways s c.params) v a c.locals (map (local_with k) c.locals) low fine_with
          (locals_with_grow is_own k place.Apply v has (with_ways s c.params) (after_locals v (map (local_with k) a)) c.locals o.locals))

      all_fine : IsFine (locals_tests place.Apply v (map (local_with k) a ++ map (local_with k) c.locals))
      all_fine = subst (λ (ms : List Local). IsFine (locals_tests place.Apply v ms)) (map_both k a c.locals) (locals_grow locals (keeps_self v) (with_ways_alike is_own s t alike c.params o.params) f.1.1.0).0

      z_is : z ≡ after_locals behind (map (local_with k) c.locals)
      z_is =
          ap (after_locals v) (map_both k a c.locals) ∙ locals_append v (map (local_with k) a) (map (local_with k) c.locals)
          ∙ ap (λ (y : Scope). after_locals y (map (local_with k) c.locals)) (locals_after k v a)

      own_fine : IsFine (locals_tests place.Apply behind (map (local_with k) c.locals))
      own_fine = subst (λ (y : Scope). IsFine (locals_tests place.Apply y (map (local_with k) c.locals))) (locals_after k v a) (locals_parts place.Apply v (map (local_with k) a) (map (local_with k) c.locals) all_fine).1

      pub from_behind : Keeps behind z
      from_behind = subst (Keeps behind) (sym z_is) (after_locals_keeps place.Apply behind (map (local_with k) c.locals) own_fine)

      -- own names stand for the same before the statements
      pub inside : Alike is_own (in_control s c) z
      inside = (locals_grow locals (keeps_self v) (with_ways_alike is_own s t alike c.params o.params) f.1.1.0).1

      pub keeps_z : Keeps v z
      keeps_z = after_locals_keeps place.Apply v made (locals_grow locals (keeps_self v) (with_ways_alike is_own s t alike c.params o.params) f.1.1.0).0

      -- the given statements
      given_fine : Alike is_own (in_control s c) z → IsFine (block_tests place.Apply (in_control s c) c.apply) → IsFine (block_tests place.Apply z c.apply)
      given_fine al g = subst IsFine (block_alike is_own (in_control s c) z al place.Apply c.apply o.apply) g

      -- what stands for what it stood for
      left_z : (x : List ℕ) → is_own x ≡ false → z (x ∷ []) ≡ behind (x ∷ [])
      left_z x m = ap (λ (y : Scope). y (x ∷ [])) z_is ∙ left_locals k x m behind c.locals o.locals

      grows : (b : Stmts) → (Keeps v z → Alike is_own (in_control s c) z → IsFine (block_tests place.Apply z c.apply) → IsFine (block_tests place.Apply z b)) → IsFine (control_tests place.Apply t (control_with c c.params made (stmts_with k b)))
      grows b more =
          control_grows is_own place.Apply s t c c.params made (stmts_with k b) o.name (same_params is_own s t c.params o.params) locals
          (λ keeps.
          (record {
            fine = λ al g.
                (let h = more keeps al (given_fine al g) in
                old_lemmas.block_replaced (block_replaced k place.Apply z (length_kept k v z keeps has) b h) place.Apply h);
            once = λ al g. tt;
          }))
          alike f

    pub ingress_grows : k ≡ r → Offers r u v → Shows S H M r v → IsFresh u v → IsFine (control_tests place.Apply s c) → IsFine (control_tests place.Apply t (control_with c c.params (locals_at l links is_ingress c) (apply_at l links is_ingress c)))
    ingress_grows is offers shows fresh f =
        (let has = subst (λ (x : Roots). HasLength x v) (sym is) (has_length r u v offers) in
        let entry = passes.entry_locals n v offers shows fresh in
        grows l.entry_locals low_entry has entry f (next (entry_stmt k links l.mark l.entry) c.apply)
        (λ keeps al g.
        (let oz = offers_kept r u v (z l.entry_locals low_entry has entry f) keeps offers in (
          subst (λ (x : Roots). IsFine (stmt_tests place.Apply (z l.entry_locals low_entry has entry f) (entry_stmt x links l.mark l.entry))) (sym is)
              (entry_fine r u (z l.entry_locals low_entry has entry f) oz passes.bits (passes.tele_type n) (passes.mark n) links l.mark passes.marked l.entry
              (passes.entry n v (z l.entry_locals low_entry has entry f) oz (shows_kept S H M r u v (z l.entry_locals low_entry has entry f) keeps offers shows) (from_behind l.entry_locals low_entry has entry f))),
          g,
        ))))

    pub egress_grows : k ≡ q → Offers q u v → Shows S H M q v → IsFresh u v → IsFine (control_tests place.Apply s c) → IsFine (control_tests place.Apply t (control_with c c.params (locals_at l links is_egress c) (apply_at l links is_egress c)))
    egress_grows is offers shows fresh f =
        (let has = subst (λ (x : Roots). HasLength x v) (sym is) (has_length q u v offers) in
        let fine = passes.exit_locals n v offers shows fresh in
        grows l.exit_locals low_exit has fine f (and_then c.apply (next (exit_stmt k links l.exit) done))
        (λ keeps al g.
        (let y = after_all (z l.exit_locals low_exit has fine f) c.apply in
        let ky : Keeps (z l.exit_locals low_exit has fine f) y = after_all_keeps place.Apply (z l.exit_locals low_exit has fine f) c.apply g in
        let vy : Keeps v y = keeps_trans v (z l.exit_locals low_exit has fine f) y keeps ky in
        let by : Keeps (after_locals v l.exit_locals) y = keeps_trans (after_locals v l.exit_locals) (z l.exit_locals low_exit has fine f) y (from_behind l.exit_locals low_exit has fine f) ky in
        let oy = offers_kept q u v y vy offers in
        let count : is_missing (y (count_name ∷ [])) ≡ true =
        ap is_missing (left_block k count_name refl (z l.exit_locals low_exit has fine f) c.apply o.apply ∙ left_z l.exit_locals low_exit has fine f count_name refl ∙ passes.count v) ∙ fresh count_name refl (passes.no_count n) in
        let exit = exit_fine q u y oy passes.bits (passes.tele_type n) (passes.rejects n) count
        (by.kept first_name [] (ap is_missing (passes.first v)) ∙ passes.first v) (by.kept last_name [] (ap is_missing (passes.last v)) ∙ passes.last v) (by.kept rejected_name [] (ap is_missing (passes.rejected v)) ∙ passes.rejected v)
        links l.exit (passes.exit n v y oy (shows_kept S H M q u v y vy offers shows) by) (passes.stays y) in
        block_joined place.Apply (z l.exit_locals low_exit has fine f) c.apply (next (exit_stmt k links l.exit) done) g
        (subst (λ (x : Roots). IsFine (stmt_tests place.Apply y (exit_stmt x links l.exit))) (sym is) exit, tt))))

-- A control that has its one call alone is left as it is: it declares nothing, and its calls can't leave, since what
-- stands for a checksum's function is named so, and what emits is no table.
use Rattle.std.proofs.Common.{codes, ◌≡◌, inl, inr, ℕ, List, [], ◌∷◌, map, Bool, true, false, cond, not, ◌||◌, refl, sym, ap, ap₂, ◌∙◌, subst}
use Rattle.std.specs.List.{list_any}
use Rattle.std.proofs.lemmas.Slice.Eq.{bytes_eq-Decides}
use Rattle.lex_text.specs.Names.{same_text}
use Rattle.rule_tests.specs.Tests.{IsFine}
use Rattle.rule_tests.proofs.FirstBroken.{unbroken_fine}
use Rattle.p4_tree.specs.Tree.{path, Arg, one, many, Stmts, nothing, block, var, assign, choice, return_, exit_, call, done, next, Local, Control, Top, constant, typedef, header_type, struct_type, register, parser, control, Program}
use Rattle.p4_tree.specs.declared.program.Param.{Param}
use Rattle.p4_meaning.specs.Statements.{makes, idle, sum_of, act_on_header, act_of}
use Rattle.p4_scopes.specs.Scopes.{Stands, missing, typed, held, cells, act, rows, state, function, algorithm, other, Scope, What, alias, fields, value, part, behind, declare, core, fields_bits}
use Rattle.p4_scopes.specs.Scopes as scope
use Rattle.p4_scopes.specs.declared.kind.Kind.{Kind}
use Rattle.p4_scopes.specs.declared.thing.Thing.{Thing}
use Rattle.p4_scopes.specs.declared.thing.Thing.TheVariants.{Scalar, Header, Struct, Standard, PacketIn, PacketOut}
use Rattle.p4_scopes.specs.declared.thing.Access.TheVariants.{Constant}
use Rattle.p4_scopes.specs.declared.thing.Function.TheVariants.{MarkToDrop, Digest, VerifyChecksum, UpdateChecksum}
use Rattle.p4_statement_rules.specs.Forms.{ill, emits, extracts, makes_valid, reads_cell, writes_cell, applies, plain_form, thing_form, verb_form, form_of, has_calls_alone, takes_any, takes_assignments, takes_effects, takes_runs, takes_extracts, takes_call}
use Rattle.p4_statement_rules.specs.Statements.{block_tests}
use Rattle.p4_statement_rules.specs.declared.rule.Part.{Part}
use Rattle.p4_statement_rules.specs.declared.rule.Part.TheVariants as place
use Rattle.p4_declaration_rules.specs.Parsers.{way_access, with_ways}
use Rattle.p4_declaration_rules.specs.Controls.{part_in, after_top, after_tops, after_locals, control_tests, locals_tests, top_tests, tops_tests}
use Rattle.p4_rules.specs.ProgramRules.{program_tests, IsWellTyped}
use Rattle.p4_rule_laws.specs.Roles.{In}
use Rattle.p4_rule_laws.proofs.KeepsLemmas.{declared, undeclared}
use Rattle.exit_statements.specs.Without.{in_control as of_control, Exits, call_leaves, stmts_leave}
use Rattle.exit_statements.proofs.Left.{stmts_same}
use Rattle.exit_statements.proofs.Written.{on_leaves}
use Rattle.exit_programs.specs.Programs.{flags, exits_at, control_leaves, control_without, local_exits, local_without, with_flag}
use Rattle.exit_rules.specs.Laws.{stands_sums, HasOwnSums}

no_case : {A : Type 0} → true ≡ false → A
no_case e = absurd (cc)

not_false : (b : Bool) → not b ≡ false → b ≡ true
not_false true e = refl
not_false false e = no_case e

-- ---- only their own names stand for the functions of checksums

abbrev is_sums : List ℕ → Bool
is_sums x = same_text x (codes "verify_checksum") || same_text x (codes "update_checksum")

passed : (b : Bool) (a u : Stands) (g : Bool) → stands_sums a ≡ false → (stands_sums u ≡ true → g ≡ true) → stands_sums (cond b a u) ≡ true → g ≡ true
passed true a u g n i e = no_case (sym e ∙ n)
passed false a u g n i e = i e

first_one : (b c : Bool) (u : Stands) → (stands_sums u ≡ true → (b || c) ≡ true) → stands_sums (cond b (function VerifyChecksum) u) ≡ true → (b || c) ≡ true
first_one true c u i e = refl
first_one false c u i e = i e

second_one : (b c : Bool) (u : Stands) → (stands_sums u ≡ true → (b || c) ≡ true) → stands_sums (cond c (function UpdateChecksum) u) ≡ true → (b || c) ≡ true
second_one true c u i e = refl
second_one false true u i e = refl
second_one false false u i e = i e

no_more : (b : Bool) (g : Bool) → stands_sums (cond b other missing) ≡ true → g ≡ true
no_more true g e = no_case (sym e)
no_more false g e = no_case (sym e)

core_only : (x : List ℕ) → stands_sums (core (x ∷ [])) ≡ true → is_sums x ≡ true
unfolding core
core_only x =
    let v = same_text x (codes "verify_checksum") in
    let u = same_text x (codes "update_checksum") in
    passed (same_text x (codes "standard_metadata_t")) _ _ (v || u) refl
    (passed (same_text x (codes "packet_in")) _ _ (v || u) refl
    (passed (same_text x (codes "packet_out")) _ _ (v || u) refl
    (passed (same_text x (codes "NoAction")) _ _ (v || u) refl
    (passed (same_text x (codes "mark_to_drop")) _ _ (v || u) refl
    (passed (same_text x (codes "digest")) _ _ (v || u) refl
    (first_one v u _
    (second_one v u _
    (no_more (same_text x (codes "HashAlgorithm")) (v || u)))))))))

pub core_sums : HasOwnSums core
core_sums = record { only = core_only }

declare_only : (s : Scope) → HasOwnSums s → (n : List ℕ) (w : What) → stands_sums (behind s w []) ≡ false → (x : List ℕ) → stands_sums (declare s n w (x ∷ [])) ≡ true → is_sums x ≡ true
declare_only s h n w k x e = by (same_text n x) refl
  where
    by : (b : Bool) → same_text n x ≡ b → is_sums x ≡ true
    by true f =
        let same : n ≡ x = (bytes_eq-Decides n x).0 f in
        no_case (sym e ∙ (ap (λ (y : List ℕ). stands_sums (declare s n w (y ∷ []))) (sym same) ∙ (ap stands_sums (declared s n w []) ∙ k)))
    by false f = h.only x (sym (ap stands_sums (undeclared s n w x [] f)) ∙ e)

declare_sums : (s : Scope) → HasOwnSums s → (n : List ℕ) (w : What) → stands_sums (behind s w []) ≡ false → HasOwnSums (declare s n w)
declare_sums s h n w k = record { only = declare_only s h n w k }

ways_sums : (s : Scope) → HasOwnSums s → (qs : List Param) → HasOwnSums (with_ways s qs)
ways_sums s h [] = h
ways_sums s h (q ∷ qs) = ways_sums (declare s q.name (value (way_access q.way) q.ty)) (declare_sums s h q.name (value (way_access q.way) q.ty) refl) qs

pub top_sums : (s : Scope) → HasOwnSums s → (y : Top) → HasOwnSums (after_top s y)
top_sums s h (constant p t x e) = declare_sums s h x (value Constant t) refl
top_sums s h (typedef p t x) = declare_sums s h x (alias t) refl
top_sums s h (header_type p x fs) = declare_sums s h x (fields (Header (fields_bits s fs)) fs) refl
top_sums s h (struct_type p x fs) = declare_sums s h x (fields Struct fs) refl
top_sums s h (register p r) = declare_sums s h r.name (scope.register r.ty) refl
top_sums s h (parser p d) = declare_sums s h d.name part refl
top_sums s h (control p c) = declare_sums s h c.name part refl

pub tops_sums : (s : Scope) → HasOwnSums s → (ys : List Top) → HasOwnSums (after_tops s ys)
tops_sums s h [] = h
tops_sums s h (y ∷ ys) = tops_sums (after_top s y) (top_sums s h y) ys

-- ---- where one call stands alone, nothing else does

no_any : (h : Part) → has_calls_alone h ≡ true → takes_any h ≡ true → ⊥
no_any place.Verify a e = no_case (sym e)
no_any place.Compute a e = no_case (sym e)
no_any place.Deparser a e = no_case (sym e)
no_any place.State a e = no_case (sym a)
no_any place.Apply a e = no_case (sym a)
no_any place.Action a e = no_case (sym a)
no_any place.Other a e = no_case (sym a)

no_effects : (h : Part) → has_calls_alone h ≡ true → takes_effects h ≡ true → ⊥
no_effects place.Verify a e = no_case (sym e)
no_effects place.Compute a e = no_case (sym e)
no_effects place.Deparser a e = no_case (sym e)
no_effects place.State a e = no_case (sym a)
no_effects place.Apply a e = no_case (sym a)
no_effects place.Action a e = no_case (sym a)
no_effects place.Other a e = no_case (sym a)

no_runs : (h : Part) → has_calls_alone h ≡ true → takes_runs h ≡ true → ⊥
no_runs place.Verify a e = no_case (sym e)
no_runs place.Compute a e = no_case (sym e)
no_runs place.Deparser a e = no_case (sym e)
no_runs place.State a e = no_case (sym a)
no_runs place.Apply a e = no_case (sym a)
no_runs place.Action a e = no_case (sym a)
no_runs place.Other a e = no_case (sym a)

no_extracts : (h : Part) → has_calls_alone h ≡ true → takes_extracts h ≡ true → ⊥
no_extracts place.Verify a e = no_case (sym e)
no_extracts place.Compute a e = no_case (sym e)
no_extracts place.Deparser a e = no_case (sym e)
no_extracts place.State a e = no_case (sym a)
no_extracts place.Apply a e = no_case (sym a)
no_extracts place.Action a e = no_case (sym a)
no_extracts place.Other a e = no_case (sym a)

no_assignments : (h : Part) → has_calls_alone h ≡ true → takes_assignments h ≡ true → ⊥
no_assignments place.Verify a e = no_case (sym e)
no_assignments place.Compute a e = no_case (sym e)
no_assignments place.Deparser a e = no_case (sym e)
no_assignments place.State a e = no_case (sym a)
no_assignments place.Apply a e = no_case (sym a)
no_assignments place.Action a e = no_case (sym a)
no_assignments place.Other a e = no_case (sym a)

-- a call of a checksum's function does not leave
sum_stays : (m : Exits) (v : Bool) (args : List Arg) → call_leaves m (sum_of v args) ≡ false
sum_stays m v (one p c ∷ many q es ∷ one r (path t field) ∷ one u g ∷ []) = refl
sum_stays m v _ = refl

-- nor does a call on a header
header_stays : (m : Exits) (x : List (List ℕ)) (verb : List ℕ) → call_leaves m (act_on_header x verb) ≡ false
header_stays m x verb = go (same_text verb (codes "setValid")) (same_text verb (codes "setInvalid"))
  where
    go : (a b : Bool) → call_leaves m (cond a (makes x true) (cond b (makes x false) idle)) ≡ false
    go true b = refl
    go false true = refl
    go false false = refl

module _ (h : Part) (a : has_calls_alone h ≡ true) where
  -- a call by one name is of a checksum
  is_sum : (st : Stands) → takes_call h (plain_form st) ≡ true → stands_sums st ≡ true
  is_sum (function VerifyChecksum) e = refl
  is_sum (function UpdateChecksum) e = refl
  is_sum (function MarkToDrop) e = absurd (no_effects h a e)
  is_sum (function Digest) e = absurd (no_effects h a e)
  is_sum (act ks m) e = absurd (no_runs h a e)
  is_sum missing e = absurd (no_any h a e)
  is_sum (typed f t) e = absurd (no_any h a e)
  is_sum (held c t) e = absurd (no_any h a e)
  is_sum (cells k) e = absurd (no_any h a e)
  is_sum (rows m) e = absurd (no_any h a e)
  is_sum state e = absurd (no_any h a e)
  is_sum algorithm e = absurd (no_any h a e)
  is_sum other e = absurd (no_any h a e)

  -- one by more names emits
  cell_no : (b c : Bool) (k : Kind) → takes_call h (cond b (reads_cell k) (cond c (writes_cell k) ill)) ≡ true → ⊥
  cell_no true c k e = no_effects h a e
  cell_no false true k e = no_effects h a e
  cell_no false false k e = no_any h a e

  valid_no : (b : Bool) → takes_call h (cond b makes_valid ill) ≡ true → ⊥
  valid_no true e = no_any h a e
  valid_no false e = no_any h a e

  extracts_no : (b : Bool) → takes_call h (cond b extracts ill) ≡ true → ⊥
  extracts_no true e = no_extracts h a e
  extracts_no false e = no_any h a e

  applies_no : (b : Bool) → takes_call h (cond b applies ill) ≡ true → ⊥
  applies_no true e = no_runs h a e
  applies_no false e = no_any h a e

  emits_is : (b : Bool) → takes_call h (cond b emits ill) ≡ true → b ≡ true
  emits_is true e = refl
  emits_is false e = absurd (no_any h a e)

  thing_emits : (t : Thing) (verb : List ℕ) → takes_call h (thing_form t verb) ≡ true → same_text verb (codes "emit") ≡ true
  thing_emits PacketOut verb e = emits_is (same_text verb (codes "emit")) e
  thing_emits (Header n) verb e = absurd (valid_no (same_text verb (codes "setValid") || same_text verb (codes "setInvalid")) e)
  thing_emits PacketIn verb e = absurd (extracts_no (same_text verb (codes "extract")) e)
  thing_emits (Scalar k) verb e = absurd (no_any h a e)
  thing_emits Struct verb e = absurd (no_any h a e)
  thing_emits Standard verb e = absurd (no_any h a e)

  is_emit : (st : Stands) (verb : List ℕ) → takes_call h (verb_form st verb) ≡ true → same_text verb (codes "emit") ≡ true
  is_emit (held c t) verb e = thing_emits t verb e
  is_emit missing verb e = absurd (no_any h a e)
  is_emit (rows m) verb e = absurd (applies_no (same_text verb (codes "apply")) e)
  is_emit (cells k) verb e = absurd (cell_no (same_text verb (codes "read")) (same_text verb (codes "write")) k e)
  is_emit (typed f t) verb e = absurd (no_any h a e)
  is_emit (act ks m) verb e = absurd (no_any h a e)
  is_emit (function f) verb e = absurd (no_any h a e)
  is_emit state verb e = absurd (no_any h a e)
  is_emit algorithm verb e = absurd (no_any h a e)
  is_emit other verb e = absurd (no_any h a e)

  -- ---- so nothing leaves

  module _ (m : Exits) (s : Scope) (w : HasOwnSums s) where
    by_text : (x y : List ℕ) → same_text x y ≡ true → (args : List Arg) → call_leaves m (act_of (y ∷ []) args) ≡ false → call_leaves m (act_of (x ∷ []) args) ≡ false
    by_text x y e args f =
        let same : x ≡ y = (bytes_eq-Decides x y).0 e in
        ap (λ z. call_leaves m (act_of (z ∷ []) args)) same ∙ f

    sums_stay : (x : List ℕ) (args : List Arg) → is_sums x ≡ true → call_leaves m (act_of (x ∷ []) args) ≡ false
    sums_stay x args e = by (same_text x (codes "verify_checksum")) (same_text x (codes "update_checksum")) refl refl e
      where
        by : (b c : Bool) → same_text x (codes "verify_checksum") ≡ b → same_text x (codes "update_checksum") ≡ c → (b || c) ≡ true → call_leaves m (act_of (x ∷ []) args) ≡ false
        by true c f g i = by_text x (codes "verify_checksum") f args (sum_stays m true args)
        by false true f g i = by_text x (codes "update_checksum") g args (sum_stays m false args)
        by false false f g i = no_case (sym i)

    emit_stays : (x y : List ℕ) (args : List Arg) → same_text y (codes "emit") ≡ true → call_leaves m (act_of (x ∷ y ∷ []) args) ≡ false
    emit_stays x y args e =
        let same : y ≡ codes "emit" = (bytes_eq-Decides y (codes "emit")).0 e in
        ap (λ z. call_leaves m (act_of (x ∷ z ∷ []) args)) same ∙ on_leaves m x (codes "emit") args

    call_stays : (x : List (List ℕ)) (args : List Arg) → takes_call h (form_of s x) ≡ true → call_leaves m (act_of x args) ≡ false
    call_stays [] args e = refl
    call_stays (x ∷ []) args e = sums_stay x args (w.only x (is_sum (s (x ∷ [])) e))
    call_stays (x ∷ y ∷ []) args e = emit_stays x y args (is_emit (s (x ∷ [])) y e)
    call_stays (x ∷ y ∷ z ∷ []) args e = header_stays m (x ∷ y ∷ []) z
    call_stays (x ∷ y ∷ z ∷ v ∷ r) args e = refl

    stmts_stay : (b : Stmts) → IsFine (block_tests h s b) → stmts_leave m b ≡ false
    stmts_stay done f = refl
    stmts_stay (next (call p x args) b) f = ap₂ (λ c d. c || d) (call_stays x args (not_false (takes_call h (form_of s x)) f.0.0)) (stmts_stay b f.1)
    stmts_stay (next (nothing p) b) f = absurd (no_any h a (not_false (takes_any h) f.0))
    stmts_stay (next (block p c) b) f = absurd (no_any h a (not_false (takes_any h) f.0.0))
    stmts_stay (next (var p y x e) b) f = absurd (no_any h a (not_false (takes_any h) f.0.0))
    stmts_stay (next (assign p x e) b) f = absurd (no_assignments h a (not_false (takes_assignments h) f.0.0))
    stmts_stay (next (choice p e c d) b) f = absurd (no_any h a (not_false (takes_any h) f.0.0))
    stmts_stay (next (return_ p) b) f = absurd (no_effects h a (not_false (takes_effects h) f.0))
    stmts_stay (next (exit_ p) b) f = absurd (no_effects h a (not_false (takes_effects h) f.0))

-- ---- controls

nothing_declared : (h : Part) (s : Scope) (ls : List Local) → has_calls_alone h ≡ true → IsFine (locals_tests h s ls) → ls ≡ []
nothing_declared h s [] a f = refl
nothing_declared h s (l ∷ ls) a f = no_case (sym a ∙ f.0.0)

pub alone_same : (m : Exits) (h : Part) (s : Scope) (c : Control) → HasOwnSums s → has_calls_alone h ≡ true → IsFine (control_tests h s c) → control_without m c ≡ c
alone_same m h s c w a f =
    let v : Scope = with_ways s c.params in
    let none : c.locals ≡ [] = nothing_declared h v c.locals a f.1.1.0 in
    let P : List Local → Type 0 = λ ls. IsFine (block_tests h (after_locals v ls) c.apply) in
    let stays = stmts_stay h a (exits_at m c) v (ways_sums s w c.params) c.apply (subst P none f.1.1.1.0) in
    let no_flag : control_leaves m c ≡ false = ap₂ (λ b ls. b || list_any local_exits ls) stays none in
    let locals_same : with_flag (control_leaves m c) (map local_without c.locals) ≡ c.locals = ap₂ (λ b ls. with_flag b (map local_without ls)) no_flag none ∙ sym none in
    ap₂ (λ ls b. record c { locals = ls; apply = b }) locals_same (stmts_same flags (exits_at m c) of_control c.apply stays)

within : (main : List (List ℕ)) (s : Scope) → HasOwnSums s → (ys : List Top) → IsFine (tops_tests main s ys) → (m : Exits) (q : ℕ) (c : Control) → In (control q c) ys → has_calls_alone (part_in main c.name) ≡ true → control_without m c ≡ c
within main s w [] f m q c i a = absurd i
within main s w (y ∷ ys) f m q c (inl e) a =
    let P : Top → Type 0 = λ z. IsFine (top_tests main s z) in
    alone_same m (part_in main c.name) s c w a (subst P (sym e) f.0)
within main s w (y ∷ ys) f m q c (inr i) a = within main (after_top s y) (top_sums s w y) ys f.1 m q c i a

pub alone_in : (m : Exits) (p : Program) → IsWellTyped p → (q : ℕ) (c : Control) → In (control q c) p.tops → has_calls_alone (part_in p.main c.name) ≡ true → control_without m c ≡ c
alone_in m p w q c i a = within p.main core core_sums p.tops (unbroken_fine (program_tests p) w).0 m q c i a

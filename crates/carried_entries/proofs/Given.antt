-- What tables and actions hold by the rules is the same of a program with its exits and of what is linked of it.
use Rattle.std.proofs.Common.{◌≡◌, inl, inr, ℕ, List, [], ◌∷◌, ◌++◌, map, Bool, true, false, cond, ◌||◌, refl, sym, ap, ap₂, ◌∙◌, subst}
use Rattle.std.specs.List.{list_any}
use Rattle.lex_text.specs.Names.{same_text}
use Rattle.rule_tests.specs.Tests.{IsFine}
use Rattle.p4_tree.specs.Tree.{Expr, Local, local_action, local_table, local_register, local_const, local_var, Control, Top, constant, typedef, header_type, struct_type, register, parser, control, Program}
use Rattle.p4_tree.specs.declared.program.Param.{Param}
use Rattle.p4_tree.specs.declared.program.Way.TheVariants.{Both}
use Rattle.p4_tree.specs.declared.statement.PTy.TheVariants as type
use Rattle.p4_scopes.specs.Scopes.{Scope, fields, is_missing, value, declare, core}
use Rattle.p4_scopes.specs.declared.thing.Thing.TheVariants.{Struct}
use Rattle.p4_scopes.specs.declared.kind.Kind.{Kind}
use Rattle.p4_scopes.specs.declared.thing.Access.TheVariants.{Writable}
use Rattle.p4_statement_rules.specs.declared.rule.Part.{Part}
use Rattle.p4_declaration_rules.specs.Parsers.{with_ways, ways_tests}
use Rattle.p4_declaration_rules.specs.Controls.{after_local, locals_tests, part_in, after_top, tops_tests}
use Rattle.p4_rules.specs.Mains.{Structs, apply_wants, checksum_wants, structs_of, wanted_tests}
use Rattle.p4_rules.specs.ProgramRules.{program_scope, IsWellTyped}
use Rattle.p4_rule_laws.specs.Old.{Names, Alike}
use Rattle.p4_rule_laws.specs.OldPrograms.{OldKeys, OldLocal, OldLocals, OldControl, OldTop, OldTops, OldWays}
use Rattle.p4_rule_laws.specs.Kept.{Keeps}
use Rattle.p4_rule_laws.specs.Guards.{IsFlag}
use Rattle.p4_rule_laws.specs.Growth.{ParamsGrow}
use Rattle.p4_rule_laws.specs.Roles.{wants_of}
use Rattle.p4_rule_laws.proofs.AlikeScopes.{kinds_alike, alike_self, skip_alike}
use Rattle.p4_rule_laws.proofs.AlikeExprs.{own_alike}
use Rattle.p4_rule_laws.proofs.AlikePrograms.{after_local_alike, after_top_alike}
use Rattle.p4_rule_laws.proofs.GrowthLemmas.{locals_grow, params_grow, same_params}
use Rattle.p4_rule_laws.proofs.GuardLemmas.{flag_declared}
use Rattle.p4_rule_laws.proofs.KeepsLemmas.{keeps_self, keeps_trans, undeclared, after_top_keeps, after_tops_keeps}
use Rattle.p4_rule_laws.proofs.RoleFacts.{parts_in_role}
use Rattle.p4_typing_laws.proofs.Fine.{typed_fine}
use Rattle.p4_typing_laws.proofs.FineUses.{parts_named}
use Rattle.p4_typing_laws.proofs.CallCounts.{text_is}
use Rattle.exit_statements.specs.Without.{Exits, stmts_leave}
use Rattle.exit_programs.specs.Programs.{flags, exits_in, exits_at, local_exits, local_without, control_leaves, with_flag, control_without, top_without, program_without}
use Rattle.exit_programs.specs.Names.{is_given, HasGivenNames}
use Rattle.exit_programs.proofs.MainParts.{HaveParts, have_parts}
use Rattle.exit_rules.proofs.Guarded.{or_second}
use Rattle.exit_rules.proofs.Declared.{left_ways, left_local, left_top, locals_without}
use Rattle.exit_rules.proofs.Controls.{AreFree}
use Rattle.own_programs.proofs.Params.{of_metadata}
use Rattle.own_programs.specs.OwnPrograms.{is_own}
use Rattle.linked_hosts.proofs.ReadyByRules.{IsAtPlace, place_part}
use Rattle.linked_programs.specs.Linked.{Place, headers_type, metadata_type, is_ingress, is_egress, is_deparser, is_other, place_in}
use Rattle.linked_rules.specs.Held.{key_kinds, holds, locals_hold, tops_hold}
use Rattle.parted_programs.specs.Parted.{new_metadata, params_parted, top_parted, with_two, parted}
use Rattle.parted_programs.specs.Laws.{is_other_name}
use Rattle.parted_programs.proofs.EmptyStruct.{IsEmptyStruct, empty_struct}
use Rattle.parted_programs.proofs.Retyped.{IsOfType, is_typed, typed_there, retyped_grows}
use Rattle.parted_programs.proofs.TopsGrow.{At, first_at, new_scope, new_is_empty}

-- ---- in scopes that are alike

keys_alike : (old : Names) (s t : Scope) → Alike old s t → (ks : List (Expr × List ℕ)) → OldKeys old ks → key_kinds t ks ≡ key_kinds s ks
keys_alike old s t a [] o = refl
keys_alike old s t a (k ∷ ks) o = ap₂ (λ (x : Kind) (xs : List Kind). x ∷ xs) (sym (own_alike old s t a k.0 o.0)) (keys_alike old s t a ks o.1)

-- a declaration, which may have lost its exits
without_holds : (old : Names) (s t : Scope) → Alike old s t → (l : Local) → OldLocal old l → holds t (local_without l) ≡ holds s l
without_holds old s t a (local_action p b) o = ap (λ (ks : List Kind). cond (is_own b.name) ((b.name, ks) ∷ []) []) (sym (kinds_alike old s t a b.params o.1))
without_holds old s t a (local_table p b) o = ap (λ (ks : List Kind). cond (is_own b.name) ((b.name, ks) ∷ []) []) (keys_alike old s t a b.keys o.keys)
without_holds old s t a (local_register p d) o = refl
without_holds old s t a (local_const p y x e) o = refl
without_holds old s t a (local_var p y x e) o = refl

same_holds : (t : Scope) (l : Local) → holds t (local_without l) ≡ holds t l
same_holds t (local_action p b) = refl
same_holds t (local_table p b) = refl
same_holds t (local_register p d) = refl
same_holds t (local_const p y x e) = refl
same_holds t (local_var p y x e) = refl

alike_hold : (old : Names) (s t : Scope) → Alike old s t → (ls : List Local) → OldLocals old ls → locals_hold t ls ≡ locals_hold s ls
alike_hold old s t a [] o = refl
alike_hold old s t a (l ∷ ls) o =
    ap₂ (λ (x y : List (List ℕ × List Kind)). x ++ y) (sym (same_holds t l) ∙ without_holds old s t a l o.0)
    (alike_hold old (after_local s l) (after_local t l) (after_local_alike old s t a l o.0) ls o.1)

-- ---- without exits

left_new : is_given flags.left ≡ false
left_new = refl

returned_new : is_given flags.returned ≡ false
returned_new = refl

alone : (a b : Bool) → (a || false) ≡ true → (a || b) ≡ true
alone true b h = refl
alone false b h = absurd (let c : false ≡ true = h in cc)

-- behind a declaration old names stand for the same
next_alike : (h : Part) (s t : Scope) → Alike is_given s t → (l : Local) (ls : List Local) → OldLocal is_given l → is_missing (t (flags.returned ∷ [])) ≡ true → (list_any local_exits (l ∷ ls) ≡ true → IsFlag t flags.left)
    → IsFine (locals_tests h s (l ∷ [])) → Alike is_given (after_local s l) (after_local t (local_without l))
next_alike h s t a l ls o free i f =
    (locals_grow (locals_without is_given left_new returned_new h t s t (l ∷ []) (o, tt) free (λ e. i (alone (local_exits l) (list_any local_exits ls) e))) (keeps_self t) a f).1

locals_same : (h : Part) (ls : List Local) (s t : Scope) → Alike is_given s t → OldLocals is_given ls → is_missing (t (flags.returned ∷ [])) ≡ true → (list_any local_exits ls ≡ true → IsFlag t flags.left) → IsFine (locals_tests h s ls)
    → locals_hold t (map local_without ls) ≡ locals_hold s ls
locals_same h [] s t a o free i f = refl
locals_same h (l ∷ ls) s t a o free i f =
    ap₂ (λ (x y : List (List ℕ × List Kind)). x ++ y) (without_holds is_given s t a l o.0)
    (locals_same h ls (after_local s l) (after_local t (local_without l)) (next_alike h s t a l ls o.0 free i (f.0, tt)) o.1
    (ap is_missing (left_local is_given flags.returned returned_new t l o.0) ∙ free)
    (λ e. left_local is_given flags.left left_new t l o.0 ∙ i (or_second (local_exits l) (list_any local_exits ls) e)) f.1)

control_same : (m : Exits) (h : Part) (s : Scope) (c : Control) → AreFree s → OldControl is_given c → IsFine (locals_tests h (with_ways s c.params) c.locals)
    → locals_hold (with_ways s c.params) (control_without m c).locals ≡ locals_hold (with_ways s c.params) c.locals
control_same m h s c free o f = by (control_leaves m c) (or_second (stmts_leave (exits_at m c) c.apply) (list_any local_exits c.locals))
  where
    returned_free : is_missing (with_ways s c.params (flags.returned ∷ [])) ≡ true
    returned_free = ap is_missing (left_ways is_given flags.returned returned_new s c.params o.params) ∙ free.returned

    by : (b : Bool) → (list_any local_exits c.locals ≡ true → b ≡ true) → locals_hold (with_ways s c.params) (with_flag b (map local_without c.locals)) ≡ locals_hold (with_ways s c.params) c.locals
    by true i =
        locals_same h c.locals (with_ways s c.params) (declare (with_ways s c.params) flags.left (value Writable type.Bool))
        (skip_alike is_given (with_ways s c.params) (with_ways s c.params) (alike_self is_given (with_ways s c.params)) flags.left (value Writable type.Bool) left_new) o.locals
        (ap is_missing (undeclared (with_ways s c.params) flags.left (value Writable type.Bool) flags.returned [] refl) ∙ returned_free) (λ e. flag_declared (with_ways s c.params) flags.left) f
    by false i = locals_same h c.locals (with_ways s c.params) (with_ways s c.params) (alike_self is_given (with_ways s c.params)) o.locals returned_free (λ e. let d : false ≡ true = i e in absurd (cc)) f

core_free : AreFree core
unfolding core
core_free = record { left = refl; returned = refl }

top_free : (s : Scope) (y : Top) → OldTop is_given y → AreFree s → AreFree (after_top s y)
top_free s y o f = record {
  left = ap is_missing (left_top is_given flags.left left_new s y o) ∙ f.left;
  returned = ap is_missing (left_top is_given flags.returned returned_new s y o) ∙ f.returned;
}

tops_same : (m : Exits) (main : List (List ℕ)) (ys : List Top) (s : Scope) → OldTops is_given ys → AreFree s → IsFine (tops_tests main s ys) → tops_hold s (map (top_without m) ys) ≡ tops_hold s ys
tops_same m main [] s o a f = refl
tops_same m main (control p c ∷ ys) s o a f =
    ap₂ (λ (x : List (List ℕ × List Kind)) (zs : List (List ℕ × List (List ℕ × List Kind))). (c.name, x) ∷ zs) (control_same m (part_in main c.name) s c a o.0 f.0.1.1.0)
    (tops_same m main ys (after_top s (control p c)) o.1 (top_free s (control p c) o.0 a) f.1)
tops_same m main (constant p t x e ∷ ys) s o a f = tops_same m main ys (after_top s (constant p t x e)) o.1 (top_free s (constant p t x e) o.0 a) f.1
tops_same m main (typedef p t x ∷ ys) s o a f = tops_same m main ys (after_top s (typedef p t x)) o.1 (top_free s (typedef p t x) o.0 a) f.1
tops_same m main (header_type p x fs ∷ ys) s o a f = tops_same m main ys (after_top s (header_type p x fs)) o.1 (top_free s (header_type p x fs) o.0 a) f.1
tops_same m main (struct_type p x fs ∷ ys) s o a f = tops_same m main ys (after_top s (struct_type p x fs)) o.1 (top_free s (struct_type p x fs) o.0 a) f.1
tops_same m main (register p r ∷ ys) s o a f = tops_same m main ys (after_top s (register p r)) o.1 (top_free s (register p r) o.0 a) f.1
tops_same m main (parser p d ∷ ys) s o a f = tops_same m main ys (after_top s (parser p d)) o.1 (top_free s (parser p d) o.0 a) f.1

pub without_same : (p : Program) → IsWellTyped p → HasGivenNames p → tops_hold core (program_without p).tops ≡ tops_hold core p.tops
without_same p well given = tops_same (exits_in p) p.main p.tops core given.tops core_free (typed_fine p well).0

-- ---- with two structs

module _ (p : Program) (well : IsWellTyped p) (same : headers_type p ≡ metadata_type p) (free : OldTops is_other_name p.tops) where
  abbrev R : Structs
  R = structs_of (program_scope p) p

  abbrev M : List ℕ
  M = metadata_type p

  abbrev Here : List Top → Scope → Type 0
  Here = At p well same free

  parts : HaveParts p.main
  parts = have_parts p.tops p.main (parts_named p well)

  next_here : (y : Top) (ts : List Top) (s : Scope) → Here (y ∷ ts) s → Here ts (after_top s y)
  next_here y ts s b = record { fine = b.fine.1; all = b.all; within = λ z i. b.within z (inr i) }

  -- where the struct in both roles is a type, it is empty
  empty_here : (ts : List Top) (s : Scope) → Here ts s → is_typed (s (M ∷ [])) ≡ true → IsEmptyStruct s M
  empty_here ts s b h =
      (let k : Keeps s (program_scope p) = subst (Keeps s) b.all (after_tops_keeps p.main s ts b.fine) in
      let i = empty_struct p well same in
      let there = typed_there (s (M ∷ [])) h in
      record { self = sym (k.kept M [] there) ∙ i.self; below = λ y ys. sym (k.kept M (y ∷ ys) there) ∙ i.below y ys })

  new_here : (t : Scope) → Keeps new_scope t → IsEmptyStruct t new_metadata
  new_here t k =
      (let there = ap is_missing new_is_empty.self in
      record { self = k.kept new_metadata [] there ∙ new_is_empty.self; below = λ y ys. k.kept new_metadata (y ∷ ys) there ∙ new_is_empty.below y ys })

  apply_types : (qs : List Param) → IsFine (wanted_tests p.at R apply_wants qs) → IsOfType M 1 qs
  apply_types [] x = tt
  apply_types (a ∷ []) x = tt
  apply_types (a ∷ c ∷ qs) x = of_metadata R Both c x.1.0

  checksum_types : (qs : List Param) → IsFine (wanted_tests p.at R checksum_wants qs) → IsOfType M 1 qs
  checksum_types [] x = tt
  checksum_types (a ∷ []) x = tt
  checksum_types (a ∷ c ∷ qs) x = of_metadata R Both c x.1.0

  -- the parameters of a control, by its place
  ways_grow : (k : Place) (h : Part) (qs : List Param) → IsAtPlace p well parts k h → IsFine (wanted_tests p.at R (wants_of h) qs) → (ts : List Top) (s t : Scope) → Here ts s → OldWays is_other_name qs → Keeps new_scope t → IsFine (ways_tests s qs)
      → ParamsGrow is_other_name s t qs (params_parted k qs)
  ways_grow is_ingress h qs is x ts s t b o k f = retyped_grows M 1 qs s t o (apply_types qs (subst (λ (g : Part). IsFine (wanted_tests p.at R (wants_of g) qs)) is x)) (empty_here ts s b) (new_here t k) f
  ways_grow is_egress h qs is x ts s t b o k f = retyped_grows M 1 qs s t o (apply_types qs (subst (λ (g : Part). IsFine (wanted_tests p.at R (wants_of g) qs)) is x)) (empty_here ts s b) (new_here t k) f
  ways_grow is_deparser h qs is x ts s t b o k f = same_params is_other_name s t qs o
  ways_grow is_other h qs (inl is) x ts s t b o k f = retyped_grows M 1 qs s t o (checksum_types qs (subst (λ (g : Part). IsFine (wanted_tests p.at R (wants_of g) qs)) is x)) (empty_here ts s b) (new_here t k) f
  ways_grow is_other h qs (inr is) x ts s t b o k f = retyped_grows M 1 qs s t o (checksum_types qs (subst (λ (g : Part). IsFine (wanted_tests p.at R (wants_of g) qs)) is x)) (empty_here ts s b) (new_here t k) f

  control_parted_same : (q : ℕ) (c : Control) (ts : List Top) (s t : Scope) → Here (control q c ∷ ts) s → OldControl is_other_name c → Alike is_other_name s t → Keeps new_scope t
      → locals_hold (with_ways t (params_parted (place_in p.main c.name) c.params)) c.locals ≡ locals_hold (with_ways s c.params) c.locals
  control_parted_same q c ts s t b o a k =
      (let place = place_part p well parts c.name (parts_in_role.controls p well q c (b.within (control q c) (inl refl))) in
      let wanted = parts_in_role.control_params p well q c (b.within (control q c) (inl refl)) in
      let grown = ways_grow (place_in p.main c.name) (part_in p.main c.name) c.params place wanted (control q c ∷ ts) s t b o.params k b.fine.0.1.0 in
      alike_hold is_other_name (with_ways s c.params) (with_ways t (params_parted (place_in p.main c.name) c.params)) (params_grow grown a b.fine.0.1.0).1 c.locals o.locals)

  after_same : (t : Scope) (y : Top) → after_top t (top_parted p.main y) ≡ after_top t y
  after_same t (constant q ty x e) = refl
  after_same t (typedef q ty x) = refl
  after_same t (header_type q x fs) = refl
  after_same t (struct_type q x fs) = refl
  after_same t (register q r) = refl
  after_same t (parser q d) = refl
  after_same t (control q c) = refl

  -- what is known of both scopes in front of declarations
  record BothAt (ts : List Top) (s t : Scope) : Type 0 where
    here : Here ts s
    alike : Alike is_other_name s t
    front : Keeps new_scope t
    fine : IsFine (tops_tests p.main t (map (top_parted p.main) ts))
    old : OldTops is_other_name ts

  next_both : (y : Top) (ts : List Top) (s t : Scope) → BothAt (y ∷ ts) s t → BothAt ts (after_top s y) (after_top t (top_parted p.main y))
  next_both y ts s t b =
      record {
        here = next_here y ts s b.here;
        alike = subst (λ (u : Scope). Alike is_other_name (after_top s y) u) (sym (after_same t y)) (after_top_alike is_other_name s t b.alike y b.old.0);
        front = keeps_trans new_scope t (after_top t (top_parted p.main y)) b.front (after_top_keeps p.main t (top_parted p.main y) b.fine.0);
        fine = b.fine.1;
        old = b.old.1;
      }

  tops_parted_same : (ts : List Top) (s t : Scope) → BothAt ts s t → tops_hold t (map (top_parted p.main) ts) ≡ tops_hold s ts
  tops_parted_same [] s t b = refl
  tops_parted_same (control q c ∷ ts) s t b =
      ap₂ (λ (x : List (List ℕ × List Kind)) (zs : List (List ℕ × List (List ℕ × List Kind))). (c.name, x) ∷ zs) (control_parted_same q c ts s t b.here b.old.0 b.alike b.front)
      (tops_parted_same ts _ _ (next_both (control q c) ts s t b))
  tops_parted_same (constant q ty x e ∷ ts) s t b = tops_parted_same ts _ _ (next_both (constant q ty x e) ts s t b)
  tops_parted_same (typedef q ty x ∷ ts) s t b = tops_parted_same ts _ _ (next_both (typedef q ty x) ts s t b)
  tops_parted_same (header_type q x fs ∷ ts) s t b = tops_parted_same ts _ _ (next_both (header_type q x fs) ts s t b)
  tops_parted_same (struct_type q x fs ∷ ts) s t b = tops_parted_same ts _ _ (next_both (struct_type q x fs) ts s t b)
  tops_parted_same (register q r ∷ ts) s t b = tops_parted_same ts _ _ (next_both (register q r) ts s t b)
  tops_parted_same (parser q d ∷ ts) s t b = tops_parted_same ts _ _ (next_both (parser q d) ts s t b)

  two_same : IsWellTyped (with_two p) → tops_hold core (with_two p).tops ≡ tops_hold core p.tops
  two_same two =
      tops_parted_same p.tops core new_scope
      (record {
        here = first_at p well same free;
        alike = skip_alike is_other_name core core (alike_self is_other_name core) new_metadata (fields Struct []) refl;
        front = keeps_self new_scope;
        fine = (typed_fine (with_two p) two).0.1;
        old = free;
      })

pub parted_same : (p : Program) → IsWellTyped p → OldTops is_other_name p.tops → IsWellTyped (parted p) → tops_hold core (parted p).tops ≡ tops_hold core p.tops
parted_same p well free = go (same_text (headers_type p) (metadata_type p)) refl
  where
    go : (b : Bool) → same_text (headers_type p) (metadata_type p) ≡ b → IsWellTyped (cond b (with_two p) p) → tops_hold core (cond b (with_two p) p).tops ≡ tops_hold core p.tops
    go true e two = two_same p well (text_is (headers_type p) (metadata_type p) e) free two
    go false e two = refl

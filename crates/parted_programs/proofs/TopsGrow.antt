-- The declarations of a program with two structs grow from the given ones.
use Rattle.std.proofs.Common.{◌≡◌, ◌∷◌, [], ◌∙◌, ℕ, inl, inr, List, map, true, refl, sym, ap, ap₂, subst}
use Rattle.std.proofs.lemmas.List.{append-nil}
use Rattle.exit_programs.proofs.MainParts.{HaveParts, have_parts}
use Rattle.linked_hosts.proofs.ReadyByRules.{IsAtPlace, place_part}
use Rattle.linked_programs.specs.Linked.{Place, headers_type, is_deparser, is_egress, is_ingress, is_other, metadata_type, place_in}
use Rattle.own_programs.proofs.Params.{of_metadata}
use Rattle.p4_declaration_rules.proofs.FirstsLemmas.{all_first}
use Rattle.p4_declaration_rules.specs.Controls.{after_local, after_top, after_tops, control_tests, in_control, most_of_part, most_of_top, most_of_tops, part_in, tops_tests}
use Rattle.p4_declaration_rules.specs.Digests.{most_of}
use Rattle.p4_declaration_rules.specs.Parsers.{parser_tests, ways_tests}
use Rattle.p4_rule_laws.proofs.AlikePrograms.{after_locals_alike}
use Rattle.p4_rule_laws.proofs.AlikeStmts.{most_alike}
use Rattle.p4_rule_laws.proofs.BodiesGrow.{same_body}
use Rattle.p4_rule_laws.proofs.GrowthLemmas.{same_params}
use Rattle.p4_rule_laws.proofs.KeepsLemmas.{after_tops_keeps, declared}
use Rattle.p4_rule_laws.proofs.RoleFacts.{parts_in_role}
use Rattle.p4_rule_laws.proofs.StatesGrow.{same_states}
use Rattle.p4_rule_laws.specs.Growth.{LocalsGrow, More, NewInFront, ParamsGrow, Sees, TopsGrow, control_with, no_local, no_top, other_control, other_states, parser_with, same_local, same_top, wider_struct}
use Rattle.p4_rule_laws.specs.Kept.{Keeps}
use Rattle.p4_rule_laws.specs.Old.{Alike, Names}
use Rattle.p4_rule_laws.specs.OldPrograms.{OldControl, OldLocals, OldParser, OldTop, OldTops, OldWays}
use Rattle.p4_rule_laws.specs.Roles.{In, wants_of}
use Rattle.p4_rules.specs.Mains.{Structs, apply_wants, checksum_wants, parser_wants, structs_of, wanted_tests}
use Rattle.p4_rules.specs.ProgramRules.{IsWellTyped, program_scope}
use Rattle.p4_scopes.specs.Scopes.{Scope, add_up, core, fields, is_missing}
use Rattle.p4_scopes.specs.declared.thing.Thing.TheVariants.{Struct}
use Rattle.p4_statement_rules.specs.declared.rule.Part.{Part}
use Rattle.p4_tree.specs.Tree.{Control, Local, Parser, Program, Top, constant, control, header_type, parser, register, struct_type, typedef}
use Rattle.p4_tree.specs.declared.program.Param.{Param}
use Rattle.p4_tree.specs.declared.program.Way.TheVariants.{Both}
use Rattle.p4_tree.specs.declared.statement.PTy.{PTy}
use Rattle.p4_typing_laws.proofs.Fine.{typed_fine}
use Rattle.p4_typing_laws.proofs.FineUses.{parts_named}
use Rattle.parted_programs.proofs.EmptyStruct.{IsEmptyStruct, empty_struct}
use Rattle.parted_programs.proofs.Retyped.{IsOfType, is_typed, retyped_grows, typed_there}
use Rattle.parted_programs.specs.Laws.{is_other_name}
use Rattle.parted_programs.specs.Parted.{control_parted, new_metadata, params_parted, retyped, top_parted}
use Rattle.rule_tests.specs.Tests.{IsFine}
use Rattle.p4_statement_rules.specs.declared.rule.Part.TheVariants as place
use Rattle.p4_rule_laws.proofs.GrowthLemmas as growth

-- no struct gets more fields
abbrev pub no_more : List ℕ → More
no_more x = record { front = []; back = [] }

-- the new struct, in front
abbrev pub new_struct : List Top
new_struct = struct_type 0 new_metadata [] ∷ []

abbrev pub new_scope : Scope
new_scope = after_tops core new_struct

pub new_in_front : NewInFront is_other_name new_struct
new_in_front = (refl, refl, tt)

pub new_fine : (main : List (List ℕ)) → IsFine (tops_tests main core new_struct)
unfolding core
new_fine main = ((refl, (refl, tt)), tt)

pub new_is_empty : IsEmptyStruct new_scope new_metadata
new_is_empty = record { self = declared core new_metadata (fields Struct []) []; below = λ y ys. declared core new_metadata (fields Struct []) (y ∷ ys) }

same_locals : (old : Names) (h : Part) (v s t : Scope) (ls : List Local) → OldLocals old ls → LocalsGrow old h v s t ls ls
same_locals old h v s t [] o = no_local
same_locals old h v s t (l ∷ ls) o = same_local l o.0 (same_locals old h v (after_local s l) (after_local t l) ls o.1)

module _ (p : Program) (well : IsWellTyped p) (same : headers_type p ≡ metadata_type p) (free : OldTops is_other_name p.tops) where
  abbrev S : Scope
  S = program_scope p

  abbrev R : Structs
  R = structs_of (program_scope p) p

  abbrev M : List ℕ
  M = metadata_type p

  abbrev u : Scope
  u = new_scope

  parts : HaveParts p.main
  parts = have_parts p.tops p.main (parts_named p well)

  -- ---- a place among the given declarations

  pub record At (ts : List Top) (s : Scope) : Type 0 where
    pub fine : IsFine (tops_tests p.main s ts)
    pub all : after_tops s ts ≡ S
    pub within : (y : Top) → In y ts → In y p.tops

  pub first_at : At p.tops core
  first_at = record { fine = (typed_fine p well).0; all = sym (all_first p.main core p.tops (typed_fine p well).0); within = λ y i. i }

  next_at : (y : Top) (ts : List Top) (s : Scope) → At (y ∷ ts) s → At ts (after_top s y)
  next_at y ts s b = record { fine = b.fine.1; all = b.all; within = λ z i. b.within z (inr i) }

  -- where the struct in both roles is a type, it is empty
  empty_at : (ts : List Top) (s : Scope) → At ts s → is_typed (s (M ∷ [])) ≡ true → IsEmptyStruct s M
  empty_at ts s b h =
      (let k : Keeps s S = subst (Keeps s) b.all (after_tops_keeps p.main s ts b.fine) in
      let i = empty_struct p well same in
      let there = typed_there (s (M ∷ [])) h in
      record { self = sym (k.kept M [] there) ∙ i.self; below = λ y ys. sym (k.kept M (y ∷ ys) there) ∙ i.below y ys })

  new_at : (t : Scope) → Keeps u t → IsEmptyStruct t new_metadata
  new_at t k =
      (let there = ap is_missing new_is_empty.self in
      record { self = k.kept new_metadata [] there ∙ new_is_empty.self; below = λ y ys. k.kept new_metadata (y ∷ ys) there ∙ new_is_empty.below y ys })

  -- ---- parameters

  parser_types : (qs : List Param) → IsFine (wanted_tests p.at R parser_wants qs) → IsOfType M 2 qs
  parser_types [] x = tt
  parser_types (k ∷ []) x = tt
  parser_types (k ∷ a ∷ []) x = tt
  parser_types (k ∷ a ∷ c ∷ qs) x = of_metadata R Both c x.1.1.0

  apply_types : (qs : List Param) → IsFine (wanted_tests p.at R apply_wants qs) → IsOfType M 1 qs
  apply_types [] x = tt
  apply_types (a ∷ []) x = tt
  apply_types (a ∷ c ∷ qs) x = of_metadata R Both c x.1.0

  checksum_types : (qs : List Param) → IsFine (wanted_tests p.at R checksum_wants qs) → IsOfType M 1 qs
  checksum_types [] x = tt
  checksum_types (a ∷ []) x = tt
  checksum_types (a ∷ c ∷ qs) x = of_metadata R Both c x.1.0

  -- of a control, by its place
  control_types : (k : Place) (h : Part) (qs : List Param) → IsAtPlace p well parts k h → IsFine (wanted_tests p.at R (wants_of h) qs) → (ts : List Top) (s t : Scope) → At ts s → OldWays is_other_name qs → Keeps u t → IsFine (ways_tests s qs)
      → ParamsGrow is_other_name s t qs (params_parted k qs)
  control_types is_ingress h qs is x ts s t b o k f = retyped_grows M 1 qs s t o (apply_types qs (subst (λ (g : Part). IsFine (wanted_tests p.at R (wants_of g) qs)) is x)) (empty_at ts s b) (new_at t k) f
  control_types is_egress h qs is x ts s t b o k f = retyped_grows M 1 qs s t o (apply_types qs (subst (λ (g : Part). IsFine (wanted_tests p.at R (wants_of g) qs)) is x)) (empty_at ts s b) (new_at t k) f
  control_types is_deparser h qs is x ts s t b o k f = same_params is_other_name s t qs o
  control_types is_other h qs (inl is) x ts s t b o k f = retyped_grows M 1 qs s t o (checksum_types qs (subst (λ (g : Part). IsFine (wanted_tests p.at R (wants_of g) qs)) is x)) (empty_at ts s b) (new_at t k) f
  control_types is_other h qs (inr is) x ts s t b o k f = retyped_grows M 1 qs s t o (checksum_types qs (subst (λ (g : Part). IsFine (wanted_tests p.at R (wants_of g) qs)) is x)) (empty_at ts s b) (new_at t k) f

  -- ---- parsers and controls

  parser_fine : (q : ℕ) (d : Parser) (ts : List Top) (s t : Scope) → At (parser q d ∷ ts) s → OldParser is_other_name d → Sees is_other_name no_more u s t → IsFine (parser_tests s d) → IsFine (parser_tests t (parser_with d (retyped 2 d.params) d.states))
  parser_fine q d ts s t b o w f =
      growth.parser_grows is_other_name s t d (retyped 2 d.params) d.states o.name
      (retyped_grows M 2 d.params s t o.params (parser_types d.params (parts_in_role.parser_params p well q d (b.within (parser q d) (inl refl)))) (empty_at (parser q d ∷ ts) s b) (new_at t w.front) f.1.0)
      (λ g. same_states is_other_name _ _ d.states o.states o.start) w.alike f

  control_place : (q : ℕ) (c : Control) (ts : List Top) (s : Scope) → At (control q c ∷ ts) s → IsAtPlace p well parts (place_in p.main c.name) (part_in p.main c.name)
  control_place q c ts s b = place_part p well parts c.name (parts_in_role.controls p well q c (b.within (control q c) (inl refl)))

  control_ways : (q : ℕ) (c : Control) (ts : List Top) (s t : Scope) → At (control q c ∷ ts) s → OldControl is_other_name c → Sees is_other_name no_more u s t → IsFine (ways_tests s c.params) → ParamsGrow is_other_name s t c.params (params_parted (place_in p.main c.name) c.params)
  control_ways q c ts s t b o w f =
      control_types (place_in p.main c.name) (part_in p.main c.name) c.params (control_place q c ts s b) (parts_in_role.control_params p well q c (b.within (control q c) (inl refl))) (control q c ∷ ts) s t b o.params w.front f

  control_fine : (q : ℕ) (c : Control) (ts : List Top) (s t : Scope) → At (control q c ∷ ts) s → OldControl is_other_name c → Sees is_other_name no_more u s t → IsFine (control_tests (part_in p.main c.name) s c)
      → IsFine (control_tests (part_in p.main c.name) t (control_with c (params_parted (place_in p.main c.name) c.params) c.locals c.apply))
  control_fine q c ts s t b o w f =
      growth.control_grows is_other_name (part_in p.main c.name) s t c (params_parted (place_in p.main c.name) c.params) c.locals c.apply o.name (control_ways q c ts s t b o w f.1.0)
      (same_locals is_other_name (part_in p.main c.name) _ _ _ c.locals o.locals) (λ k. same_body is_other_name (part_in p.main c.name) _ _ c.apply o.apply) w.alike f

  -- ---- along the declarations

  abbrev pub Grow : Scope → Scope → List Top → List Top → Type 0
  Grow s t ys zs = TopsGrow is_other_name no_more true p.main u s t ys zs

  step : (y : Top) (ts : List Top) (s t : Scope) → At (y ∷ ts) s → OldTop is_other_name y → (ys zs : List Top) → Grow (after_top s y) (after_top t (top_parted p.main y)) ys zs → Grow s t (y ∷ ys) (top_parted p.main y ∷ zs)
  step (constant q k x z) ts s t b o ys zs rest = same_top (constant q k x z) refl o rest
  step (typedef q k x) ts s t b o ys zs rest = same_top (typedef q k x) refl o rest
  step (header_type q x fs) ts s t b o ys zs rest = same_top (header_type q x fs) refl o rest
  step (register q d) ts s t b o ys zs rest = same_top (register q d) refl o rest
  step (struct_type q x fs) ts s t b o ys zs rest =
      (let P : List (PTy × List ℕ) → Type 0 = λ gs. Grow (after_top s (struct_type q x fs)) (after_top t (struct_type q x gs)) ys zs in
      let Q : List (PTy × List ℕ) → Type 0 = λ gs. Grow s t (struct_type q x fs ∷ ys) (struct_type q x gs ∷ zs) in
      subst Q (append-nil fs)
      (wider_struct q x fs o.0 o.1 (record { front = tt; back = tt }) (record { once = refl; front = tt; back = tt }) (subst P (sym (append-nil fs)) rest)))
  step (parser q d) ts s t b o ys zs rest = other_states q d (retyped 2 d.params) d.states tt o.params (λ w f. parser_fine q d ts s t b o w f) rest
  step (control q c) ts s t b o ys zs rest = other_control q c (params_parted (place_in p.main c.name) c.params) c.locals c.apply tt (λ w f. control_fine q c ts s t b o w f) rest

  pub tops_grow : (ts : List Top) (s t : Scope) → At ts s → OldTops is_other_name ts → Grow s t ts (map (top_parted p.main) ts)
  tops_grow [] s t b o = no_top
  tops_grow (y ∷ ts) s t b o = step y ts s t b o.0 ts (map (top_parted p.main) ts) (tops_grow ts _ _ (next_at y ts s b) o.1)

  pub grow : Grow core u p.tops (map (top_parted p.main) p.tops)
  grow = tops_grow p.tops core u first_at free

  -- what is seen behind a declaration
  sees_next : (y : Top) (ts : List Top) (s t : Scope) → At (y ∷ ts) s → OldTop is_other_name y → Sees is_other_name no_more u s t → Sees is_other_name no_more u (after_top s y) (after_top t (top_parted p.main y))
  sees_next y ts s t b o w = (growth.tops_grow (step y ts s t b o [] [] no_top) w (b.fine.0, tt)).1

  -- ---- digests

  part_told : (h : Part) (s t : Scope) (c d : Control) → d.apply ≡ c.apply → OldControl is_other_name c → Alike is_other_name (in_control s c) (in_control t d) → most_of_part h t d ≡ most_of_part h s c
  part_told place.Apply s t c d e o a = ap (most_of (in_control t d)) e ∙ sym (most_alike is_other_name (in_control s c) (in_control t d) a c.apply o.apply)
  part_told place.State s t c d e o a = refl
  part_told place.Verify s t c d e o a = refl
  part_told place.Action s t c d e o a = refl
  part_told place.Compute s t c d e o a = refl
  part_told place.Deparser s t c d e o a = refl
  part_told place.Other s t c d e o a = refl

  top_told : (y : Top) (ts : List Top) (s t : Scope) → At (y ∷ ts) s → OldTop is_other_name y → Sees is_other_name no_more u s t → most_of_top p.main t (top_parted p.main y) ≡ most_of_top p.main s y
  top_told (constant q k x z) ts s t b o w = refl
  top_told (typedef q k x) ts s t b o w = refl
  top_told (header_type q x fs) ts s t b o w = refl
  top_told (struct_type q x fs) ts s t b o w = refl
  top_told (register q d) ts s t b o w = refl
  top_told (parser q d) ts s t b o w = refl
  top_told (control q c) ts s t b o w =
      part_told (part_in p.main c.name) s t c (control_parted (place_in p.main c.name) c) refl o
      (after_locals_alike is_other_name _ _ (growth.params_grow (control_ways q c ts s t b o w b.fine.0.1.0) w.alike b.fine.0.1.0).1 c.locals o.locals)

  pub tops_told : (ts : List Top) (s t : Scope) → At ts s → OldTops is_other_name ts → Sees is_other_name no_more u s t → most_of_tops p.main t (map (top_parted p.main) ts) ≡ most_of_tops p.main s ts
  tops_told [] s t b o w = refl
  tops_told (y ∷ ts) s t b o w = ap₂ add_up (top_told y ts s t b o.0 w) (tops_told ts _ _ (next_at y ts s b) o.1 (sees_next y ts s t b o.0 w))

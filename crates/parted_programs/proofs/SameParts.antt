-- A program with two structs has the parts of the given one: a parameter's type is none of them, and neither struct has a
-- field.
use Rattle.std.proofs.Common.{◌≡◌, ◌∷◌, [], ◌++◌, ◌&&◌, ◌∙◌, ℕ, List, map, Bool, true, false, cond, Option, Some, None, is_some, refl, sym, ap, ap₂, zero, suc}
use Rattle.lex_text.specs.Names.{same_text}
use Rattle.linked_programs.specs.Linked.{Place, headers_type, is_deparser, is_egress, is_ingress, is_other, metadata_type, place_in}
use Rattle.own_programs.proofs.Names.{broken}
use Rattle.p4_meaning.specs.Actions.{actions_in, actions_of}
use Rattle.p4_meaning.specs.Parts.{Cells, body_of, cells_under, control_named, emits_of, field_of, header_of, named_in, parser_in, parser_named, parser_type, parts_of, registers_in, registers_of, scope_at_control, scope_at_parser, states_of, struct_fields, types_of, whole}
use Rattle.p4_meaning.specs.Scope.{Roots, param_at, param_name, param_type, roots_of}
use Rattle.p4_meaning.specs.Tables.{tables_in, tables_of}
use Rattle.p4_meaning.specs.Under.{behind_locals, behind_top, behind_tops, in_parser, no_scope, settings_under, state_under, stmts_under}
use Rattle.p4_rules.specs.Mains.{Structs, has_controls, names_parts, parser_params, parser_wants, parts_params, structs_of, wanted_tests}
use Rattle.p4_rules.specs.ProgramRules.{IsWellTyped, program_scope}
use Rattle.p4_tree.specs.Tree.{Control, Parser, Program, Top, constant, control, header_type, parser, register, struct_type, typedef}
use Rattle.p4_tree.specs.declared.program.Param.{Param}
use Rattle.p4_tree.specs.declared.statement.PTy.{PTy}
use Rattle.p4_typing_laws.proofs.CallCounts.{text_is}
use Rattle.p4_typing_laws.proofs.Fine.{typed_fine}
use Rattle.p4_typing_laws.proofs.FineUses.{parts_named}
use Rattle.parted_programs.proofs.EmptyStruct.{empty_headers}
use Rattle.parted_programs.specs.Laws.{PartedHasSameParts}
use Rattle.parted_programs.specs.Parted.{control_parted, new_metadata, params_parted, parser_parted, retyped, top_parted, with_two}
use Rattle.rule_tests.specs.Tests.{IsFine}
use Rattle.std.specs.Option.{option_map}
use Rattle.p4_meaning.specs.Scope as meaning
use Rattle.p4_meaning.specs.Under as under
use Rattle.p4_meaning.specs.Actions as actions
use Rattle.p4_meaning.specs.Tables as tables

-- ---- names of parameters

name_same : (n : ℕ) (qs : List Param) (i : ℕ) → param_name (param_at (retyped n qs) i) ≡ param_name (param_at qs i)
name_same n [] i = refl
name_same zero (q ∷ qs) zero = refl
name_same zero (q ∷ qs) (suc i) = refl
name_same (suc n) (q ∷ qs) zero = refl
name_same (suc n) (q ∷ qs) (suc i) = name_same n qs i

retyped_roots : (n : ℕ) (qs : List Param) (h m s : ℕ) → roots_of (retyped n qs) h m s ≡ roots_of qs h m s
retyped_roots n qs h m s = λ j. record { headers = name_same n qs h j; metadata = name_same n qs m j; standard = name_same n qs s j }

roots_same : (k : Place) (qs : List Param) (h m s : ℕ) → roots_of (params_parted k qs) h m s ≡ roots_of qs h m s
roots_same is_ingress qs h m s = retyped_roots 1 qs h m s
roots_same is_egress qs h m s = retyped_roots 1 qs h m s
roots_same is_deparser qs h m s = refl
roots_same is_other qs h m s = retyped_roots 1 qs h m s

control_same : (h m s : ℕ) (sc : meaning.Scope) (k : Place) (c : Control) → under.in_control h m s sc (control_parted k c) ≡ under.in_control h m s sc c
control_same h m s sc k c = ap (λ (r : Roots). record (under.in_control h m s sc c) { roots = r }) (roots_same k c.params h m s)

parser_same : (sc : meaning.Scope) (d : Parser) → in_parser sc (parser_parted d) ≡ in_parser sc d
parser_same sc d = ap (λ (r : Roots). record (in_parser sc d) { roots = r }) (retyped_roots 2 d.params 1 2 3)

-- ---- along the declarations

module _ (main : List (List ℕ)) where
  abbrev made : List Top → List Top
  made ts = map (top_parted main) ts

  abbrev control_made : Control → Control
  control_made c = control_parted (place_in main c.name) c

  behind_same : (sc : meaning.Scope) (y : Top) → behind_top sc (top_parted main y) ≡ behind_top sc y
  behind_same sc (constant p ty x e) = refl
  behind_same sc (typedef p ty x) = refl
  behind_same sc (header_type p x fs) = refl
  behind_same sc (struct_type p x fs) = refl
  behind_same sc (register p r) = refl
  behind_same sc (parser p d) = refl
  behind_same sc (control p c) = refl

  behind_all : (ts : List Top) (sc : meaning.Scope) → behind_tops sc (made ts) ≡ behind_tops sc ts
  behind_all [] sc = refl
  behind_all (y ∷ ts) sc = ap (λ (sd : meaning.Scope). behind_tops sd (made ts)) (behind_same sc y) ∙ behind_all ts (behind_top sc y)

  registers_same : (ts : List Top) (sc : meaning.Scope) → registers_of sc (made ts) ≡ registers_of sc ts
  registers_same [] sc = refl
  registers_same (register p r ∷ ts) sc = ap (λ (rs : List Cells). cells_under sc r ∷ rs) (registers_same ts sc)
  registers_same (control p c ∷ ts) sc = ap₂ (λ (sd : meaning.Scope) (rs : List Cells). registers_in sd c.locals ++ rs) (control_same 0 1 2 sc (place_in main c.name) c) (registers_same ts sc)
  registers_same (constant p ty x e ∷ ts) sc = registers_same ts (behind_top sc (constant p ty x e))
  registers_same (typedef p ty x ∷ ts) sc = registers_same ts (behind_top sc (typedef p ty x))
  registers_same (header_type p x fs ∷ ts) sc = registers_same ts sc
  registers_same (struct_type p x fs ∷ ts) sc = registers_same ts sc
  registers_same (parser p d ∷ ts) sc = registers_same ts sc

  actions_same : (ts : List Top) (sc : meaning.Scope) → actions_of sc (made ts) ≡ actions_of sc ts
  actions_same [] sc = refl
  actions_same (control p c ∷ ts) sc = ap₂ (λ (sd : meaning.Scope) (rs : List actions.Action). actions_in sd c.locals ++ rs) (control_same 0 1 2 sc (place_in main c.name) c) (actions_same ts sc)
  actions_same (constant p ty x e ∷ ts) sc = actions_same ts (behind_top sc (constant p ty x e))
  actions_same (typedef p ty x ∷ ts) sc = actions_same ts (behind_top sc (typedef p ty x))
  actions_same (header_type p x fs ∷ ts) sc = actions_same ts sc
  actions_same (struct_type p x fs ∷ ts) sc = actions_same ts sc
  actions_same (register p r ∷ ts) sc = actions_same ts sc
  actions_same (parser p d ∷ ts) sc = actions_same ts sc

  tables_same : (as' : List actions.Action) (ts : List Top) (sc : meaning.Scope) → tables_of sc as' (made ts) ≡ tables_of sc as' ts
  tables_same as' [] sc = refl
  tables_same as' (control p c ∷ ts) sc = ap₂ (λ (sd : meaning.Scope) (rs : List tables.Table). tables_in sd as' c.locals ++ rs) (control_same 0 1 2 sc (place_in main c.name) c) (tables_same as' ts sc)
  tables_same as' (constant p ty x e ∷ ts) sc = tables_same as' ts (behind_top sc (constant p ty x e))
  tables_same as' (typedef p ty x ∷ ts) sc = tables_same as' ts (behind_top sc (typedef p ty x))
  tables_same as' (header_type p x fs ∷ ts) sc = tables_same as' ts sc
  tables_same as' (struct_type p x fs ∷ ts) sc = tables_same as' ts sc
  tables_same as' (register p r ∷ ts) sc = tables_same as' ts sc
  tables_same as' (parser p d ∷ ts) sc = tables_same as' ts sc

  pub structs_same : (ts : List Top) (x : List ℕ) → struct_fields (made ts) x ≡ struct_fields ts x
  structs_same [] x = refl
  structs_same (struct_type p y fs ∷ ts) x = ap (cond (same_text y x) fs) (structs_same ts x)
  structs_same (constant p ty y e ∷ ts) x = structs_same ts x
  structs_same (typedef p ty y ∷ ts) x = structs_same ts x
  structs_same (header_type p y fs ∷ ts) x = structs_same ts x
  structs_same (register p r ∷ ts) x = structs_same ts x
  structs_same (parser p d ∷ ts) x = structs_same ts x
  structs_same (control p c ∷ ts) x = structs_same ts x

  pub parser_made : (ts : List Top) (x : List ℕ) → parser_named (made ts) x ≡ option_map parser_parted (parser_named ts x)
  parser_made [] x = refl
  parser_made (parser p d ∷ ts) x = go (same_text d.name x) (parser_made ts x)
    where
      go : (b : Bool) → parser_named (made ts) x ≡ option_map parser_parted (parser_named ts x) → cond b (Some (parser_parted d)) (parser_named (made ts) x) ≡ option_map parser_parted (cond b (Some d) (parser_named ts x))
      go true e = refl
      go false e = e
  parser_made (struct_type p y fs ∷ ts) x = parser_made ts x
  parser_made (constant p ty y e ∷ ts) x = parser_made ts x
  parser_made (typedef p ty y ∷ ts) x = parser_made ts x
  parser_made (header_type p y fs ∷ ts) x = parser_made ts x
  parser_made (register p r ∷ ts) x = parser_made ts x
  parser_made (control p c ∷ ts) x = parser_made ts x

  pub controls_made : (ts : List Top) (x : List ℕ) → control_named (made ts) x ≡ option_map control_made (control_named ts x)
  controls_made [] x = refl
  controls_made (control p c ∷ ts) x = go (same_text c.name x) (controls_made ts x)
    where
      go : (b : Bool) → control_named (made ts) x ≡ option_map control_made (control_named ts x) → cond b (Some (control_made c)) (control_named (made ts) x) ≡ option_map control_made (cond b (Some c) (control_named ts x))
      go true e = refl
      go false e = e
  controls_made (struct_type p y fs ∷ ts) x = controls_made ts x
  controls_made (constant p ty y e ∷ ts) x = controls_made ts x
  controls_made (typedef p ty y ∷ ts) x = controls_made ts x
  controls_made (header_type p y fs ∷ ts) x = controls_made ts x
  controls_made (register p r ∷ ts) x = controls_made ts x
  controls_made (parser p d ∷ ts) x = controls_made ts x

  at_parser_same : (ts : List Top) (x : List ℕ) (sc : meaning.Scope) → scope_at_parser sc (made ts) x ≡ scope_at_parser sc ts x
  at_parser_same [] x sc = refl
  at_parser_same (parser p d ∷ ts) x sc = ap (cond (same_text d.name x) sc) (at_parser_same ts x sc)
  at_parser_same (struct_type p y fs ∷ ts) x sc = at_parser_same ts x sc
  at_parser_same (constant p ty y e ∷ ts) x sc = at_parser_same ts x (behind_top sc (constant p ty y e))
  at_parser_same (typedef p ty y ∷ ts) x sc = at_parser_same ts x (behind_top sc (typedef p ty y))
  at_parser_same (header_type p y fs ∷ ts) x sc = at_parser_same ts x sc
  at_parser_same (register p r ∷ ts) x sc = at_parser_same ts x sc
  at_parser_same (control p c ∷ ts) x sc = at_parser_same ts x sc

  at_control_same : (ts : List Top) (x : List ℕ) (sc : meaning.Scope) → scope_at_control sc (made ts) x ≡ scope_at_control sc ts x
  at_control_same [] x sc = refl
  at_control_same (control p c ∷ ts) x sc = ap (cond (same_text c.name x) sc) (at_control_same ts x sc)
  at_control_same (struct_type p y fs ∷ ts) x sc = at_control_same ts x sc
  at_control_same (constant p ty y e ∷ ts) x sc = at_control_same ts x (behind_top sc (constant p ty y e))
  at_control_same (typedef p ty y ∷ ts) x sc = at_control_same ts x (behind_top sc (typedef p ty y))
  at_control_same (header_type p y fs ∷ ts) x sc = at_control_same ts x sc
  at_control_same (register p r ∷ ts) x sc = at_control_same ts x sc
  at_control_same (parser p d ∷ ts) x sc = at_control_same ts x sc

  states_made : (sc : meaning.Scope) (o : Option Parser) → states_of sc (option_map parser_parted o) ≡ states_of sc o
  states_made sc None = refl
  states_made sc (Some d) = ap (λ (sd : meaning.Scope). map (state_under sd) d.states) (parser_same sc d)

  body_made : (h m s : ℕ) (sc : meaning.Scope) (o : Option Control) → body_of h m s sc (option_map control_made o) ≡ body_of h m s sc o
  body_made h m s sc None = refl
  body_made h m s sc (Some c) = ap (λ (sd : meaning.Scope). record { locals = settings_under sd c.locals; body = stmts_under (behind_locals sd c.locals) c.apply }) (control_same h m s sc (place_in main c.name) c)

  states_same : (ts : List Top) (x : List ℕ) → states_of (scope_at_parser no_scope (made ts) x) (parser_named (made ts) x) ≡ states_of (scope_at_parser no_scope ts x) (parser_named ts x)
  states_same ts x = ap₂ (λ (sc : meaning.Scope) (o : Option Parser). states_of sc o) (at_parser_same ts x no_scope) (parser_made ts x) ∙ states_made (scope_at_parser no_scope ts x) (parser_named ts x)

  body_same : (h m s : ℕ) (ts : List Top) (x : List ℕ) → body_of h m s (scope_at_control no_scope (made ts) x) (control_named (made ts) x) ≡ body_of h m s (scope_at_control no_scope ts x) (control_named ts x)
  body_same h m s ts x = ap₂ (λ (sc : meaning.Scope) (o : Option Control). body_of h m s sc o) (at_control_same ts x no_scope) (controls_made ts x) ∙ body_made h m s (scope_at_control no_scope ts x) (control_named ts x)

-- ---- the parser

-- the parser that `main` names, with its parameters
pub record HasParser (p : Program) : Type 0 where
  pub found : Parser
  pub is : parser_in p ≡ Some found
  pub wanted : IsFine (wanted_tests p.at (structs_of (program_scope p) p) parser_wants found.params)

main_parser : (main : List (List ℕ)) (ts : List Top) (a : ℕ) (r : Structs) → names_parts ts main ≡ true → IsFine (parts_params a r ts main) → (is_some (parser_named ts (named_in main 0)) ≡ true) × IsFine (parser_params a r (parser_named ts (named_in main 0)))
main_parser [] ts a r h f = broken (sym h)
main_parser (d ∷ []) ts a r h f = broken (sym h)
main_parser (d ∷ v ∷ []) ts a r h f = broken (sym h)
main_parser (d ∷ v ∷ i ∷ []) ts a r h f = broken (sym h)
main_parser (d ∷ v ∷ i ∷ e ∷ []) ts a r h f = broken (sym h)
main_parser (d ∷ v ∷ i ∷ e ∷ k ∷ []) ts a r h f = broken (sym h)
main_parser (d ∷ v ∷ i ∷ e ∷ k ∷ m ∷ []) ts a r h f = (first (is_some (parser_named ts d)) (has_controls ts (v ∷ i ∷ e ∷ k ∷ m ∷ [])) _ h, f.0)
  where
    first : (a b c : Bool) → (a && b && c) ≡ true → a ≡ true
    first true b c e = refl
    first false b c e = e
main_parser (d ∷ v ∷ i ∷ e ∷ k ∷ m ∷ n ∷ rest) ts a r h f = broken (sym h)

pub has_parser : (p : Program) → IsWellTyped p → HasParser p
has_parser p well =
    (let both = main_parser p.main p.tops p.at (structs_of (program_scope p) p) (parts_named p well) (typed_fine p well).1.0.1.1 in
    by (parser_in p) refl both.0 both.1)
  where
    by : (o : Option Parser) → parser_in p ≡ o → is_some o ≡ true → IsFine (parser_params p.at (structs_of (program_scope p) p) o) → HasParser p
    by None e i f = broken (sym i)
    by (Some d) e i f = record { found = d; is = e; wanted = f }

-- ---- the types that its parameters name

headers_kept : (qs : List Param) → param_type (param_at (retyped 2 qs) 1) ≡ param_type (param_at qs 1)
headers_kept [] = refl
headers_kept (a ∷ []) = refl
headers_kept (a ∷ b ∷ qs) = refl

metadata_new : (a : ℕ) (r : Structs) (qs : List Param) → IsFine (wanted_tests a r parser_wants qs) → param_type (param_at (retyped 2 qs) 2) ≡ new_metadata
metadata_new a r [] f = broken f
metadata_new a r (k ∷ []) f = broken f.1
metadata_new a r (k ∷ h ∷ []) f = broken f.1.1
metadata_new a r (k ∷ h ∷ m ∷ qs) f = refl

module _ (p : Program) (well : IsWellTyped p) where
  parser_there : parser_in (with_two p) ≡ Some (parser_parted (has_parser p well).found)
  parser_there = parser_made p.main p.tops (named_in p.main 0) ∙ ap (option_map parser_parted) (has_parser p well).is

  pub headers_type_same : headers_type (with_two p) ≡ headers_type p
  headers_type_same = ap (λ (o : Option Parser). parser_type o 1) parser_there ∙ headers_kept (has_parser p well).found.params ∙ ap (λ (o : Option Parser). parser_type o 1) (sym (has_parser p well).is)

  pub metadata_type_new : metadata_type (with_two p) ≡ new_metadata
  metadata_type_new = ap (λ (o : Option Parser). parser_type o 2) parser_there ∙ metadata_new p.at (structs_of (program_scope p) p) (has_parser p well).found.params (has_parser p well).wanted

  module _ (same : headers_type p ≡ metadata_type p) where
    either_none : (b : Bool) (fs : List (PTy × List ℕ)) → fs ≡ [] → cond b [] fs ≡ []
    either_none true fs e = refl
    either_none false fs e = e

    pub headers_none : struct_fields (with_two p).tops (headers_type (with_two p)) ≡ []
    headers_none =
        ap (struct_fields (with_two p).tops) headers_type_same
        ∙ either_none (same_text new_metadata (headers_type p)) _ (structs_same p.main p.tops (headers_type p) ∙ empty_headers p well same)

    pub metadata_none : struct_fields (with_two p).tops (metadata_type (with_two p)) ≡ []
    metadata_none = ap (struct_fields (with_two p).tops) metadata_type_new

    given_metadata : struct_fields p.tops (metadata_type p) ≡ []
    given_metadata = ap (struct_fields p.tops) (sym same) ∙ empty_headers p well same

    pub parts_same : parts_of (with_two p) ≡ parts_of p
    parts_same =
        λ j.
        record {
          registers = registers_same p.main p.tops no_scope j;
          headers = (ap (map (header_of (with_two p).tops)) headers_none ∙ sym (ap (map (header_of p.tops)) (empty_headers p well same))) j;
          metadata = (ap (map (field_of (types_of (with_two p).tops))) metadata_none ∙ sym (ap (map (field_of (types_of p.tops))) given_metadata)) j;
          states = states_same p.main p.tops (named_in p.main 0) j;
          actions = actions_same p.main p.tops no_scope j;
          tables = (ap (λ (as' : List actions.Action). tables_of no_scope as' (with_two p).tops) (actions_same p.main p.tops no_scope) ∙ tables_same p.main (actions_of no_scope p.tops) p.tops no_scope) j;
          verify = whole (body_same p.main 0 1 9 p.tops (named_in p.main 1) j);
          ingress = body_same p.main 0 1 2 p.tops (named_in p.main 2) j;
          egress = body_same p.main 0 1 2 p.tops (named_in p.main 3) j;
          compute = whole (body_same p.main 0 1 9 p.tops (named_in p.main 4) j);
          emits = emits_of (body_same p.main 1 9 9 p.tops (named_in p.main 5) j).body;
        }

pub parted_has_same_parts : PartedHasSameParts
parted_has_same_parts p well = go (same_text (headers_type p) (metadata_type p)) refl
  where
    go : (b : Bool) → same_text (headers_type p) (metadata_type p) ≡ b → parts_of (cond b (with_two p) p) ≡ parts_of p
    go true e = parts_same p well (text_is (headers_type p) (metadata_type p) e)
    go false e = refl

-- Programs with other values: they break no rule where the given ones break none, and what is counted of them is the same.
use Rattle.std.proofs.Common.{◌≡◌, ℕ, List, [], ◌∷◌, Bool, true, false, cond, not, ◌&&◌, ◌||◌, nat_lt, Option, Some, None, is_some, refl, sym, ap, ap₂, ◌∙◌, subst}
use Rattle.std.specs.List.{AllZip}
use Rattle.lex_text.specs.Names.{same_text}
use Rattle.rule_tests.specs.Tests.{IsFine}
use Rattle.rule_tests.proofs.FirstBroken.{fine_unbroken}
use Rattle.p4_tree.specs.Tree.{Local, Control, Parser, Top, control, Program}
use Rattle.p4_tree.specs.declared.statement.PTy.{PTy}
use Rattle.p4_tree.specs.declared.statement.PTy.TheVariants as type
use Rattle.p4_meaning.specs.Parts.{parser_named, control_named, struct_fields, parser_type, parser_in}
use Rattle.p4_scopes.specs.Scopes.{Scope, core, thing_in, add_up}
use Rattle.p4_scopes.specs.Uses.{is_scalar, is_header}
use Rattle.p4_declaration_rules.specs.Declarations.{has_twice}
use Rattle.p4_declaration_rules.specs.Controls.{part_in, control_tests, top_tests, after_top, tops_tests, most_of_part, most_of_top, most_of_tops}
use Rattle.p4_declaration_rules.specs.Firsts.{first_top, first_tops}
use Rattle.p4_rules.specs.Mains.{leaves_out, leaves_some_out, has_controls, names_parts, Structs, structs_of, is_struct, all_fields, Wanted, checksum_wants, apply_wants, deparser_wants, parser_params, control_params, parts_params, main_tests}
use Rattle.p4_rules.specs.Limits.{fields_bytes, header_bytes, most_of_program, add_cells, local_cells, locals_cells, top_cells, tops_cells, cells, limit_tests}
use Rattle.p4_rules.specs.ProgramRules.{program_scope, program_tests, IsWellTyped}
use Rattle.p4_typing_laws.proofs.Fine.{typed_fine}
use Rattle.rewriting_laws.specs.Standing.{MayStandFor}
use Rattle.rewritten_programs.specs.Rewritten.{LocalRewritten, in_action, in_table, local_register_stays, local_const_stays, in_local_var, ControlRewritten, TopRewritten, constant_stays, typedef_stays, header_stays, struct_stays, register_stays, parser_stays, in_control, ProgramRewritten}
use Rattle.rewriting_rules.specs.Knows.{Knows}
use Rattle.rewriting_rules.proofs.Knows.{core_knows, top_knows}
use Rattle.rewriting_rules.proofs.Controls.{control_fine, control_most}

abbrev pub TopsRewritten : List Top → List Top → Type 0
TopsRewritten = AllZip (TopRewritten MayStandFor)

pub name_same : (c d : Control) → ControlRewritten MayStandFor c d → d.name ≡ c.name
name_same c d r = ap (λ (e : Control). e.name) r.rest

-- ---- what is tested, and what is in sight

top_fine : (main : List (List ℕ)) (s : Scope) → Knows s → (t u : Top) → TopRewritten MayStandFor t u → IsFine (top_tests main s t) → IsFine (top_tests main s u)
top_fine main s k _ _ (constant_stays p t x e) f = f
top_fine main s k _ _ (typedef_stays p t x) f = f
top_fine main s k _ _ (header_stays p x fs) f = f
top_fine main s k _ _ (struct_stays p x fs) f = f
top_fine main s k _ _ (register_stays p r) f = f
top_fine main s k _ _ (parser_stays p d) f = f
top_fine main s k _ _ (in_control {c = c} {d = d} p r) f =
    subst (λ (x : List ℕ). IsFine (control_tests (part_in main x) s d)) (sym (name_same c d r)) (control_fine (part_in main c.name) s k c d r f)

top_after : (s : Scope) (t u : Top) → TopRewritten MayStandFor t u → after_top s u ≡ after_top s t
top_after s _ _ (constant_stays p t x e) = refl
top_after s _ _ (typedef_stays p t x) = refl
top_after s _ _ (header_stays p x fs) = refl
top_after s _ _ (struct_stays p x fs) = refl
top_after s _ _ (register_stays p r) = refl
top_after s _ _ (parser_stays p d) = refl
top_after s _ _ (in_control {c = c} {d = d} p r) = ap (λ (e : Control). after_top s (control p e)) r.rest

top_first : (s : Scope) (t u : Top) → TopRewritten MayStandFor t u → first_top s u ≡ first_top s t
top_first s _ _ (constant_stays p t x e) = refl
top_first s _ _ (typedef_stays p t x) = refl
top_first s _ _ (header_stays p x fs) = refl
top_first s _ _ (struct_stays p x fs) = refl
top_first s _ _ (register_stays p r) = refl
top_first s _ _ (parser_stays p d) = refl
top_first s _ _ (in_control {c = c} {d = d} p r) = ap (λ (e : Control). first_top s (control p e)) r.rest

tops_fine : (main : List (List ℕ)) (ts us : List Top) (s : Scope) → Knows s → TopsRewritten ts us → IsFine (tops_tests main s ts) → IsFine (tops_tests main s us)
tops_fine main [] [] s k r f = tt
tops_fine main [] (u ∷ us) s k r f = absurd r
tops_fine main (t ∷ ts) [] s k r f = absurd r
tops_fine main (t ∷ ts) (u ∷ us) s k r f =
    (top_fine main s k t u r.0 f.0, subst (λ (v : Scope). IsFine (tops_tests main v us)) (sym (top_after s t u r.0)) (tops_fine main ts us (after_top s t) (top_knows main s k t f.0) r.1 f.1))

firsts_same : (ts us : List Top) (s : Scope) → TopsRewritten ts us → first_tops s us ≡ first_tops s ts
firsts_same [] [] s r = refl
firsts_same [] (u ∷ us) s r = absurd r
firsts_same (t ∷ ts) [] s r = absurd r
firsts_same (t ∷ ts) (u ∷ us) s r = ap (λ (v : Scope). first_tops v us) (top_first s t u r.0) ∙ firsts_same ts us (first_top s t) r.1

-- ---- digests and cells

top_most : (main : List (List ℕ)) (s : Scope) → Knows s → (t u : Top) → TopRewritten MayStandFor t u → IsFine (top_tests main s t) → most_of_top main s u ≡ most_of_top main s t
top_most main s k _ _ (constant_stays p t x e) f = refl
top_most main s k _ _ (typedef_stays p t x) f = refl
top_most main s k _ _ (header_stays p x fs) f = refl
top_most main s k _ _ (struct_stays p x fs) f = refl
top_most main s k _ _ (register_stays p r) f = refl
top_most main s k _ _ (parser_stays p d) f = refl
top_most main s k _ _ (in_control {c = c} {d = d} p r) f =
    ap (λ (x : List ℕ). most_of_part (part_in main x) s d) (name_same c d r) ∙ control_most (part_in main c.name) s k c d r f

tops_most : (main : List (List ℕ)) (ts us : List Top) (s : Scope) → Knows s → TopsRewritten ts us → IsFine (tops_tests main s ts) → most_of_tops main s us ≡ most_of_tops main s ts
tops_most main [] [] s k r f = refl
tops_most main [] (u ∷ us) s k r f = absurd r
tops_most main (t ∷ ts) [] s k r f = absurd r
tops_most main (t ∷ ts) (u ∷ us) s k r f =
    ap₂ add_up (top_most main s k t u r.0 f.0) (ap (λ (v : Scope). most_of_tops main v us) (top_after s t u r.0) ∙ tops_most main ts us (after_top s t) (top_knows main s k t f.0) r.1 f.1)

local_cells_same : (l m : Local) → LocalRewritten MayStandFor l m → local_cells m ≡ local_cells l
local_cells_same _ _ (in_action p r) = refl
local_cells_same _ _ (in_table p r) = refl
local_cells_same _ _ (local_register_stays p r) = refl
local_cells_same _ _ (local_const_stays p t x e) = refl
local_cells_same _ _ (in_local_var p t x r) = refl

locals_cells_same : (ls ms : List Local) → AllZip (LocalRewritten MayStandFor) ls ms → locals_cells ms ≡ locals_cells ls
locals_cells_same [] [] r = refl
locals_cells_same [] (m ∷ ms) r = absurd r
locals_cells_same (l ∷ ls) [] r = absurd r
locals_cells_same (l ∷ ls) (m ∷ ms) r = ap₂ add_cells (local_cells_same l m r.0) (locals_cells_same ls ms r.1)

top_cells_same : (t u : Top) → TopRewritten MayStandFor t u → top_cells u ≡ top_cells t
top_cells_same _ _ (constant_stays p t x e) = refl
top_cells_same _ _ (typedef_stays p t x) = refl
top_cells_same _ _ (header_stays p x fs) = refl
top_cells_same _ _ (struct_stays p x fs) = refl
top_cells_same _ _ (register_stays p r) = refl
top_cells_same _ _ (parser_stays p d) = refl
top_cells_same _ _ (in_control {c = c} {d = d} p r) = locals_cells_same c.locals d.locals r.locals

tops_cells_same : (ts us : List Top) → TopsRewritten ts us → tops_cells us ≡ tops_cells ts
tops_cells_same [] [] r = refl
tops_cells_same [] (u ∷ us) r = absurd r
tops_cells_same (t ∷ ts) [] r = absurd r
tops_cells_same (t ∷ ts) (u ∷ us) r = ap₂ add_cells (top_cells_same t u r.0) (tops_cells_same ts us r.1)

-- ---- what names find

pub parser_found : (ts us : List Top) → TopsRewritten ts us → (x : List ℕ) → parser_named us x ≡ parser_named ts x
parser_found [] [] r x = refl
parser_found [] (u ∷ us) r x = absurd r
parser_found (t ∷ ts) [] r x = absurd r
parser_found (t ∷ ts) (u ∷ us) r x = go t u r.0 (parser_found ts us r.1 x)
  where
    go : (a b : Top) → TopRewritten MayStandFor a b → parser_named us x ≡ parser_named ts x → parser_named (b ∷ us) x ≡ parser_named (a ∷ ts) x
    go _ _ (constant_stays p t x e) h = h
    go _ _ (typedef_stays p t x) h = h
    go _ _ (header_stays p x fs) h = h
    go _ _ (struct_stays p x fs) h = h
    go _ _ (register_stays p r) h = h
    go _ _ (parser_stays p d) h = ap (λ (o : Option Parser). cond (same_text d.name x) (Some d) o) h
    go _ _ (in_control p r) h = h

pub fields_found : (ts us : List Top) → TopsRewritten ts us → (x : List ℕ) → struct_fields us x ≡ struct_fields ts x
fields_found [] [] r x = refl
fields_found [] (u ∷ us) r x = absurd r
fields_found (t ∷ ts) [] r x = absurd r
fields_found (t ∷ ts) (u ∷ us) r x = go t u r.0 (fields_found ts us r.1 x)
  where
    go : (a b : Top) → TopRewritten MayStandFor a b → struct_fields us x ≡ struct_fields ts x → struct_fields (b ∷ us) x ≡ struct_fields (a ∷ ts) x
    go _ _ (constant_stays p t y e) h = h
    go _ _ (typedef_stays p t y) h = h
    go _ _ (header_stays p y fs) h = h
    go _ _ (struct_stays p y fs) h = ap (λ (o : List (PTy × List ℕ)). cond (same_text y x) fs o) h
    go _ _ (register_stays p r) h = h
    go _ _ (parser_stays p d) h = h
    go _ _ (in_control p r) h = h

-- a control that is found, or none
abbrev pub FoundRewritten : Option Control → Option Control → Type 0
FoundRewritten None None = Unit {0}
FoundRewritten (Some c) (Some d) = ControlRewritten MayStandFor c d
FoundRewritten _ _ = ⊥

pub control_found : (ts us : List Top) → TopsRewritten ts us → (x : List ℕ) → FoundRewritten (control_named ts x) (control_named us x)
control_found [] [] r x = tt
control_found [] (u ∷ us) r x = absurd r
control_found (t ∷ ts) [] r x = absurd r
control_found (t ∷ ts) (u ∷ us) r x = go t u r.0 (control_found ts us r.1 x)
  where
    pick : (b : Bool) (c d : Control) → ControlRewritten MayStandFor c d → (o q : Option Control) → FoundRewritten o q → FoundRewritten (cond b (Some c) o) (cond b (Some d) q)
    pick true c d r o q h = r
    pick false c d r o q h = h

    go : (a b : Top) → TopRewritten MayStandFor a b → FoundRewritten (control_named ts x) (control_named us x) → FoundRewritten (control_named (a ∷ ts) x) (control_named (b ∷ us) x)
    go _ _ (constant_stays p t y e) h = h
    go _ _ (typedef_stays p t y) h = h
    go _ _ (header_stays p y fs) h = h
    go _ _ (struct_stays p y fs) h = h
    go _ _ (register_stays p r) h = h
    go _ _ (parser_stays p d) h = h
    go _ _ (in_control {c = c} {d = d} p r) h =
        subst (λ (y : List ℕ). FoundRewritten (control_named (control p c ∷ ts) x) (cond (same_text y x) (Some d) (control_named us x))) (sym (name_same c d r))
        (pick (same_text c.name x) c d r (control_named ts x) (control_named us x) h)

found_some : (o q : Option Control) → FoundRewritten o q → is_some q ≡ is_some o
found_some None None r = refl
found_some None (Some d) r = absurd r
found_some (Some c) None r = absurd r
found_some (Some c) (Some d) r = refl

found_params : (p : ℕ) (s : Structs) (ws : List Wanted) (o q : Option Control) → FoundRewritten o q → control_params p s ws q ≡ control_params p s ws o
found_params p s ws None None r = refl
found_params p s ws None (Some d) r = absurd r
found_params p s ws (Some c) None r = absurd r
found_params p s ws (Some c) (Some d) r = ap (λ (e : Control). control_params p s ws (Some e)) r.rest

-- ---- main

module _ (ts us : List Top) (r : TopsRewritten ts us) where
  left_out_same : (main : List (List ℕ)) → leaves_some_out main us ≡ leaves_some_out main ts
  left_out_same main = go ts us r
    where
      one : (t u : Top) → TopRewritten MayStandFor t u → leaves_out main u ≡ leaves_out main t
      one _ _ (constant_stays p t x e) = refl
      one _ _ (typedef_stays p t x) = refl
      one _ _ (header_stays p x fs) = refl
      one _ _ (struct_stays p x fs) = refl
      one _ _ (register_stays p r) = refl
      one _ _ (parser_stays p d) = refl
      one _ _ (in_control {c = c} {d = d} p r) = ap (λ (e : Control). leaves_out main (control p e)) r.rest

      go : (ts us : List Top) → TopsRewritten ts us → leaves_some_out main us ≡ leaves_some_out main ts
      go [] [] r = refl
      go [] (u ∷ us) r = absurd r
      go (t ∷ ts) [] r = absurd r
      go (t ∷ ts) (u ∷ us) r = ap₂ (λ (a b : Bool). a || b) (one t u r.0) (go ts us r.1)

  has_same : (xs : List (List ℕ)) → has_controls us xs ≡ has_controls ts xs
  has_same [] = refl
  has_same (x ∷ xs) = ap₂ (λ (a b : Bool). a && b) (found_some (control_named ts x) (control_named us x) (control_found ts us r x)) (has_same xs)

  names_same : (main : List (List ℕ)) → names_parts us main ≡ names_parts ts main
  names_same (d ∷ v ∷ i ∷ e ∷ k ∷ m ∷ []) =
      ap₂ (λ (a b : Bool). a && b && not (has_twice (v ∷ i ∷ e ∷ k ∷ m ∷ []))) (ap is_some (parser_found ts us r d)) (has_same (v ∷ i ∷ e ∷ k ∷ m ∷ []))
  names_same [] = refl
  names_same (a ∷ []) = refl
  names_same (a ∷ b ∷ []) = refl
  names_same (a ∷ b ∷ c ∷ []) = refl
  names_same (a ∷ b ∷ c ∷ d ∷ []) = refl
  names_same (a ∷ b ∷ c ∷ d ∷ e ∷ []) = refl
  names_same (a ∷ b ∷ c ∷ d ∷ e ∷ g ∷ h ∷ xs) = refl

  params_same : (p : ℕ) (s : Structs) (main : List (List ℕ)) → IsFine (parts_params p s ts main) → IsFine (parts_params p s us main)
  params_same p s (d ∷ v ∷ i ∷ e ∷ k ∷ m ∷ []) f = (
    subst IsFine (sym (ap (parser_params p s) (parser_found ts us r d))) f.0,
    (each checksum_wants v f.1.0, (each apply_wants i f.1.1.0, (each apply_wants e f.1.1.1.0, (each checksum_wants k f.1.1.1.1.0, each deparser_wants m f.1.1.1.1.1)))),
  )
    where
      each : (ws : List Wanted) (x : List ℕ) → IsFine (control_params p s ws (control_named ts x)) → IsFine (control_params p s ws (control_named us x))
      each ws x f = subst IsFine (sym (found_params p s ws (control_named ts x) (control_named us x) (control_found ts us r x))) f
  params_same p s [] f = f
  params_same p s (a ∷ []) f = f
  params_same p s (a ∷ b ∷ []) f = f
  params_same p s (a ∷ b ∷ c ∷ []) f = f
  params_same p s (a ∷ b ∷ c ∷ d ∷ []) f = f
  params_same p s (a ∷ b ∷ c ∷ d ∷ e ∷ []) f = f
  params_same p s (a ∷ b ∷ c ∷ d ∷ e ∷ g ∷ h ∷ xs) f = f

  all_found : struct_fields us ≡ struct_fields ts
  all_found = λ i x. fields_found ts us r x i

-- the structs, by the parser and by what names of structs find
abbrev structs_by : Scope → Option Parser → (List ℕ → List (PTy × List ℕ)) → Structs
structs_by s d fs =
    record {
      headers_type = parser_type d 1;
      metadata_type = parser_type d 2;
      has_headers = is_struct (thing_in s (type.Named (parser_type d 1))) && all_fields is_header s (fs (parser_type d 1));
      has_metadata = is_struct (thing_in s (type.Named (parser_type d 2))) && all_fields is_scalar s (fs (parser_type d 2));
    }

-- ---- programs

module _ (p q : Program) (r : ProgramRewritten MayStandFor p q) where
  pub main_is : q.main ≡ p.main
  main_is = ap (λ (x : Program). x.main) r.rest

  at_is : q.at ≡ p.at
  at_is = ap (λ (x : Program). x.at) r.rest

  scope_is : program_scope q ≡ program_scope p
  scope_is = firsts_same p.tops q.tops core r.tops

  parser_is : parser_in q ≡ parser_in p
  parser_is = ap (λ (xs : List (List ℕ)). parser_in (record q { main = xs })) main_is ∙ parser_found p.tops q.tops r.tops _

  structs_same : (s : Scope) → structs_of s q ≡ structs_of s p
  structs_same s = ap₂ (structs_by s) parser_is (all_found p.tops q.tops r.tops)

  pub headers_same : header_bytes (program_scope q) q ≡ header_bytes (program_scope p) p
  headers_same =
      ap₂ (λ (s : Scope) (fs : List ℕ → List (PTy × List ℕ)). fields_bytes s (fs (parser_type (parser_in q) 1))) scope_is (all_found p.tops q.tops r.tops)
      ∙ ap (λ (d : Option Parser). fields_bytes (program_scope p) (struct_fields p.tops (parser_type d 1))) parser_is

  pub digests_same : IsFine (program_tests p) → most_of_program q ≡ most_of_program p
  digests_same f = ap (λ (main : List (List ℕ)). most_of_tops main core q.tops) main_is ∙ tops_most p.main p.tops q.tops core core_knows r.tops f.0

  pub cells_same : cells q ≡ cells p
  cells_same = tops_cells_same p.tops q.tops r.tops

  main_fine : IsFine (main_tests (program_scope p) p) → IsFine (main_tests (program_scope q) q)
  main_fine f =
      let names = ap not (ap (names_parts q.tops) main_is ∙ names_same p.tops q.tops r.tops p.main) in
      let left = ap (λ (main : List (List ℕ)). leaves_some_out main q.tops) main_is ∙ left_out_same p.tops q.tops r.tops p.main in
      let params = params_same p.tops q.tops r.tops p.at (structs_of (program_scope p) p) p.main f.1.1 in
      let structs = structs_same (program_scope q) ∙ ap (λ (s : Scope). structs_of s p) scope_is in (
        names ∙ f.0,
        (
          left ∙ f.1.0,
          subst (λ (n : ℕ). IsFine (parts_params n (structs_of (program_scope q) q) q.tops q.main)) (sym at_is)
              (subst (λ (s : Structs). IsFine (parts_params p.at s q.tops q.main)) (sym structs)
              (subst (λ (main : List (List ℕ)). IsFine (parts_params p.at (structs_of (program_scope p) p) q.tops main)) (sym main_is) params)),
        ),
      )

  limits_fine : IsFine (program_tests p) → IsFine (limit_tests (program_scope q) q)
  limits_fine f = (ap (nat_lt 2304) headers_same ∙ f.1.1.0, (ap (nat_lt 20480) (digests_same f) ∙ f.1.1.1.0, ap (nat_lt 4210689) cells_same ∙ f.1.1.1.1))

  program_fine : IsFine (program_tests p) → IsFine (program_tests q)
  program_fine f = (
    subst (λ (main : List (List ℕ)). IsFine (tops_tests main core q.tops)) (sym main_is) (tops_fine p.main p.tops q.tops core core_knows r.tops f.0),
    (main_fine f.1.0, limits_fine f),
  )

  pub stays_well_typed : IsWellTyped p → IsWellTyped q
  stays_well_typed h = fine_unbroken (program_tests q) (program_fine (typed_fine p h))

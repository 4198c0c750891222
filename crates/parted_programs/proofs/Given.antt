-- A program with two structs is well typed, as is the given one, and one that is linked.
use Rattle.std.proofs.Common.{◌≡◌, ◌∷◌, [], ◌&&◌, ◌∙◌, ℕ, List, map, Bool, true, false, cond, not, Some, refl, sym, ap, ap₂, subst, zero, suc, nat_lt}
use Rattle.exit_programs.proofs.MainParts.{have_parts}
use Rattle.lex_text.specs.Names.{same_text}
use Rattle.linked_hosts.proofs.ReadyByRules.{core_no_struct, names_struct}
use Rattle.linked_hosts.specs.Linkable.{IsGiven}
use Rattle.linked_programs.specs.Linked.{Place, headers_type, is_deparser, is_egress, is_ingress, is_other, metadata_type, place_in}
use Rattle.own_programs.proofs.Names.{broken}
use Rattle.own_programs.proofs.Params.{of_headers}
use Rattle.own_programs.proofs.Programs.{headers_struct}
use Rattle.own_programs.specs.OwnPrograms.{HasOwnNames, is_own}
use Rattle.p4_declaration_rules.specs.Controls.{tops_tests}
use Rattle.p4_meaning.specs.Parts.{named_in, parser_named}
use Rattle.p4_printer.specs.CanSpell.{CanSpell, CanSpellParam, CanSpellTop, EachCan, IsName, SomeCan}
use Rattle.p4_rule_laws.proofs.AlikeScopes.{alike_self, thing_alike}
use Rattle.p4_rule_laws.proofs.KeepsLemmas.{keeps_self, skip_tops}
use Rattle.p4_rule_laws.proofs.LimitsGrow.{cells_add, digests_add}
use Rattle.p4_rule_laws.proofs.MainGrow.{left_out_grow}
use Rattle.p4_rule_laws.proofs.RolesGrow.{made_fine, scopes_see}
use Rattle.p4_rule_laws.proofs.WiderLemmas.{old_is_other}
use Rattle.p4_rule_laws.specs.Growth.{Sees}
use Rattle.p4_rule_laws.specs.Old.{Names, OldType}
use Rattle.p4_rule_laws.specs.OldPrograms.{OldTop, OldTops, OldWays}
use Rattle.p4_rules.specs.Limits.{add_cells, cells, fields_bytes, header_bytes, limit_tests, most_of_program, top_cells, tops_cells}
use Rattle.p4_rules.specs.Mains.{Structs, all_fields, is_struct, main_tests, parser_wants, parts_params, structs_of, wanted_tests}
use Rattle.p4_rules.specs.ProgramRules.{IsWellTyped, program_scope, program_tests}
use Rattle.p4_scopes.specs.Scopes.{Scope, Stands, as_typed, core, is_missing, thing_in, typed, typed_thing}
use Rattle.p4_scopes.specs.Uses.{is_header, is_scalar}
use Rattle.p4_scopes.specs.declared.thing.Thing.TheVariants.{Struct}
use Rattle.p4_tree.specs.Tree.{Parser, Program, Top, constant, control, header_type, parser, register, struct_type, typedef}
use Rattle.p4_tree.specs.declared.program.Param.{Param}
use Rattle.p4_tree.specs.declared.program.Way.TheVariants.{Out}
use Rattle.p4_tree.specs.declared.statement.PTy.{PTy}
use Rattle.p4_typing_laws.proofs.CallCounts.{text_is}
use Rattle.p4_typing_laws.proofs.Fine.{typed_fine}
use Rattle.p4_typing_laws.proofs.FineUses.{parts_named}
use Rattle.parted_programs.proofs.EmptyStruct.{empty_headers}
use Rattle.parted_programs.proofs.Roles.{names_same, new_roles, parts_fit, structs_are}
use Rattle.parted_programs.proofs.SameParts.{has_parser, headers_none, headers_type_same, metadata_none, metadata_type_new}
use Rattle.parted_programs.proofs.TopsGrow.{first_at, grow, new_fine, new_in_front, new_is_empty, new_scope, new_struct, no_more, tops_told}
use Rattle.parted_programs.specs.Laws.{CanBeParted, CountsSame, PartedCountsSame, PartedIsGiven, is_other_name}
use Rattle.parted_programs.specs.Parted.{new_metadata, params_parted, retyped, top_parted, with_two}
use Rattle.rule_tests.proofs.FirstBroken.{fine_unbroken}
use Rattle.rule_tests.specs.Tests.{IsFine}
use Rattle.p4_tree.specs.declared.statement.PTy.TheVariants as type

-- ---- the rules

-- before the first declaration there is no struct
sees_front : Sees is_other_name no_more new_scope core new_scope
sees_front =
    record {
      alike = skip_tops is_other_name core core (alike_self is_other_name core) new_struct (refl, tt);
      front = keeps_self new_scope;
      wider = λ x o e y xs j. broken (ap names_struct (sym e) ∙ core_no_struct x);
    }

-- the parameters of a parser that is found
found_ways : (old : Names) (ts : List Top) (x : List ℕ) (d : Parser) → OldTops old ts → parser_named ts x ≡ Some d → OldWays old d.params
found_ways old [] x d o e = absurd (cc e)
found_ways old (constant a ty y v ∷ ts) x d o e = found_ways old ts x d o.1 e
found_ways old (typedef a ty y ∷ ts) x d o e = found_ways old ts x d o.1 e
found_ways old (header_type a y fs ∷ ts) x d o e = found_ways old ts x d o.1 e
found_ways old (struct_type a y fs ∷ ts) x d o e = found_ways old ts x d o.1 e
found_ways old (register a r ∷ ts) x d o e = found_ways old ts x d o.1 e
found_ways old (control a c ∷ ts) x d o e = found_ways old ts x d o.1 e
found_ways old (parser a c ∷ ts) x d o e = go (same_text c.name x) e (found_ways old ts x d o.1)
  where
    go : (b : Bool) → cond b (Some c) (parser_named ts x) ≡ Some d → (parser_named ts x ≡ Some d → OldWays old d.params) → OldWays old d.params
    go true i more = subst (λ (k : Parser). OldWays old k.params) (let same : c ≡ d = cc in same) o.0.params
    go false i more = more i

module _ (p : Program) (can : CanBeParted p) (same : headers_type p ≡ metadata_type p) where
  abbrev q : Program
  q = with_two p

  abbrev zs : List Top
  zs = map (top_parted p.main) p.tops

  abbrev S : Scope
  S = program_scope q

  well : IsWellTyped p
  well = can.typed

  fine : IsFine (tops_tests p.main core p.tops) × (IsFine (main_tests (program_scope p) p) × IsFine (limit_tests (program_scope p) p))
  fine = typed_fine p well

  sees : Sees is_other_name no_more new_scope (program_scope p) S
  sees = scopes_see is_other_name no_more true p p.at new_struct zs new_in_front (grow p well same can.free) (new_fine p.main) fine.0

  -- ---- roles

  new_there : S (new_metadata ∷ []) ≡ typed false Struct
  new_there = sees.front.kept new_metadata [] (ap is_missing new_is_empty.self) ∙ new_is_empty.self

  -- the struct of headers has another name
  headers_other : is_other_name (headers_type p) ≡ true
  headers_other = go (has_parser p well).found.params (found_ways is_other_name p.tops (named_in p.main 0) (has_parser p well).found can.free (has_parser p well).is) (has_parser p well).wanted
    where
      go : (qs : List Param) → OldWays is_other_name qs → IsFine (wanted_tests p.at (structs_of (program_scope p) p) parser_wants qs) → is_other_name (headers_type p) ≡ true
      go [] o f = broken f
      go (k ∷ []) o f = broken f.1
      go (k ∷ a ∷ qs) o f = subst (λ (t : PTy). OldType is_other_name t) (of_headers (structs_of (program_scope p) p) Out a f.1.0) o.2.0

  headers_there : is_struct (thing_in S (type.Named (headers_type p))) ≡ true
  headers_there = ap is_struct (sym (thing_alike is_other_name (program_scope p) S sees.alike (type.Named (headers_type p)) headers_other)) ∙ headers_struct p well

  roles : structs_of S q ≡ new_roles (structs_of (program_scope p) p)
  roles =
      structs_are (structs_of (program_scope p) p) (structs_of S q) (headers_type_same p well) (metadata_type_new p well)
      (ap₂ (λ (x : List ℕ) (fs : List (PTy × List ℕ)). is_struct (thing_in S (type.Named x)) && all_fields is_header S fs) (headers_type_same p well) (headers_none p well same) ∙ ap (λ (b : Bool). b && true) headers_there)
      (ap₂ (λ (x : List ℕ) (fs : List (PTy × List ℕ)). is_struct (thing_in S (type.Named x)) && all_fields is_scalar S fs) (metadata_type_new p well) (metadata_none p well same)
      ∙ ap (λ (st : Stands). is_struct (typed_thing (as_typed st)) && true) new_there)

  main_fine : IsFine (main_tests S q)
  main_fine = (
    ap not (names_same p.main p.tops p.main) ∙ fine.1.0.0,
    (
      sym (left_out_grow (grow p well same can.free) p.main) ∙ fine.1.0.1.0,
      subst (λ (r : Structs). IsFine (parts_params p.at r q.tops p.main)) (sym roles)
          (parts_fit p well (have_parts p.tops p.main (parts_named p well)) (structs_of (program_scope p) p) p.at p.at p.main refl fine.1.0.1.1),
    ),
  )

  -- ---- counts

  bytes : header_bytes S q ≡ header_bytes (program_scope p) p
  bytes = ap (fields_bytes S) (headers_none p well same) ∙ ap (fields_bytes (program_scope p)) (sym (empty_headers p well same))

  digests : most_of_program q ≡ most_of_program p
  digests =
      digests_add p.main core new_struct zs ∙ sym (digests_add p.main new_scope [] zs)
      ∙ tops_told p well same can.free p.tops core new_scope (first_at p well same can.free) can.free sees_front

  top_same : (y : Top) → top_cells (top_parted p.main y) ≡ top_cells y
  top_same (constant a ty x e) = refl
  top_same (typedef a ty x) = refl
  top_same (header_type a x fs) = refl
  top_same (struct_type a x fs) = refl
  top_same (register a r) = refl
  top_same (parser a d) = refl
  top_same (control a c) = refl

  tops_same : (ts : List Top) → tops_cells (map (top_parted p.main) ts) ≡ tops_cells ts
  tops_same [] = refl
  tops_same (y ∷ ts) = ap₂ add_cells (top_same y) (tops_same ts)

  cells_same : cells q ≡ cells p
  cells_same = cells_add new_struct zs ∙ sym (cells_add [] zs) ∙ tops_same p.tops

  pub counts : CountsSame p q
  counts = record { bytes = bytes; digests = digests; cells = cells_same }

  limits_fine : IsFine (limit_tests S q)
  limits_fine = (ap (nat_lt 2304) bytes ∙ fine.1.1.0, (ap (nat_lt 20480) digests ∙ fine.1.1.1.0, ap (nat_lt 4210689) cells_same ∙ fine.1.1.1.1))

  pub well_typed : IsWellTyped q
  well_typed =
      fine_unbroken (program_tests q)
      (made_fine is_other_name no_more true p p.at new_struct zs new_in_front (grow p well same can.free) (new_fine p.main) fine.0, (main_fine, limits_fine))

  pub two_structs : same_text (headers_type q) (metadata_type q) ≡ false
  two_structs = ap₂ same_text (headers_type_same p well) (metadata_type_new p well) ∙ old_is_other is_other_name (headers_type p) new_metadata headers_other refl

-- ---- names

retyped_old : (old : Names) → old new_metadata ≡ true → (n : ℕ) (qs : List Param) → OldWays old qs → OldWays old (retyped n qs)
retyped_old old h n [] o = tt
retyped_old old h zero (q ∷ qs) o = (h, o.1, o.2)
retyped_old old h (suc n) (q ∷ qs) o = (o.0, o.1, retyped_old old h n qs o.2)

params_old : (old : Names) → old new_metadata ≡ true → (k : Place) (qs : List Param) → OldWays old qs → OldWays old (params_parted k qs)
params_old old h is_ingress qs o = retyped_old old h 1 qs o
params_old old h is_egress qs o = retyped_old old h 1 qs o
params_old old h is_deparser qs o = o
params_old old h is_other qs o = retyped_old old h 1 qs o

top_old : (old : Names) → old new_metadata ≡ true → (main : List (List ℕ)) (y : Top) → OldTop old y → OldTop old (top_parted main y)
top_old old h main (constant a ty x e) o = o
top_old old h main (typedef a ty x) o = o
top_old old h main (header_type a x fs) o = o
top_old old h main (struct_type a x fs) o = o
top_old old h main (register a r) o = o
top_old old h main (parser a d) o = record { name = o.name; params = retyped_old old h 2 d.params o.params; states = o.states; start = o.start }
top_old old h main (control a c) o = record { name = o.name; params = params_old old h (place_in main c.name) c.params o.params; locals = o.locals; apply = o.apply }

tops_old : (old : Names) → old new_metadata ≡ true → (main : List (List ℕ)) (ts : List Top) → OldTops old ts → OldTops old (map (top_parted main) ts)
tops_old old h main [] o = tt
tops_old old h main (y ∷ ts) o = (top_old old h main y o.0, tops_old old h main ts o.1)

names_own : (p : Program) → HasOwnNames p → HasOwnNames (with_two p)
names_own p h = record { tops = ((refl, tt), tops_old is_own refl p.main p.tops h.tops); main = h.main }

-- ---- spelling

new_spelled : IsName new_metadata
new_spelled = (refl, refl)

each_retyped : (n : ℕ) (qs : List Param) → EachCan CanSpellParam qs → EachCan CanSpellParam (retyped n qs)
each_retyped n [] h = tt
each_retyped zero (q ∷ qs) h = ((new_spelled, h.0.1), h.1)
each_retyped (suc n) (q ∷ qs) h = (h.0, each_retyped n qs h.1)

some_retyped : (n : ℕ) (qs : List Param) → SomeCan CanSpellParam qs → SomeCan CanSpellParam (retyped n qs)
some_retyped n [] h = absurd h
some_retyped zero (q ∷ qs) h = ((new_spelled, h.0.1), h.1)
some_retyped (suc n) (q ∷ qs) h = (h.0, each_retyped n qs h.1)

params_spelled : (k : Place) (qs : List Param) → SomeCan CanSpellParam qs → SomeCan CanSpellParam (params_parted k qs)
params_spelled is_ingress qs h = some_retyped 1 qs h
params_spelled is_egress qs h = some_retyped 1 qs h
params_spelled is_deparser qs h = h
params_spelled is_other qs h = some_retyped 1 qs h

top_spelled : (main : List (List ℕ)) (y : Top) → CanSpellTop y → CanSpellTop (top_parted main y)
top_spelled main (constant a ty x e) h = h
top_spelled main (typedef a ty x) h = h
top_spelled main (header_type a x fs) h = h
top_spelled main (struct_type a x fs) h = h
top_spelled main (register a r) h = h
top_spelled main (parser a d) h = (h.0, some_retyped 2 d.params h.1, h.2)
top_spelled main (control a c) h = (h.0, params_spelled (place_in main c.name) c.params h.1, h.2, h.3)

tops_spelled : (main : List (List ℕ)) (ts : List Top) → EachCan CanSpellTop ts → EachCan CanSpellTop (map (top_parted main) ts)
tops_spelled main [] h = tt
tops_spelled main (y ∷ ts) h = (top_spelled main y h.0, tops_spelled main ts h.1)

can_be_spelled : (p : Program) → CanSpell p → CanSpell (with_two p)
can_be_spelled p h = record { tops = ((new_spelled, tt), tops_spelled p.main p.tops h.tops); main = h.main }

-- ---- the laws

pub parted_is_given : PartedIsGiven
parted_is_given p can = go (same_text (headers_type p) (metadata_type p)) refl
  where
    go : (b : Bool) → same_text (headers_type p) (metadata_type p) ≡ b → IsGiven (cond b (with_two p) p)
    go false e = record { typed = can.parts.typed; names = can.names; spelled = can.spelled; two = e }
    go true e =
        (let same = text_is (headers_type p) (metadata_type p) e in
        record { typed = well_typed p can.parts same; names = names_own p can.names; spelled = can_be_spelled p can.spelled; two = two_structs p can.parts same })

pub parted_counts_same : PartedCountsSame
parted_counts_same p can = go (same_text (headers_type p) (metadata_type p)) refl
  where
    go : (b : Bool) → same_text (headers_type p) (metadata_type p) ≡ b → CountsSame p (cond b (with_two p) p)
    go false e = record { bytes = refl; digests = refl; cells = refl }
    go true e = counts p can (text_is (headers_type p) (metadata_type p) e)

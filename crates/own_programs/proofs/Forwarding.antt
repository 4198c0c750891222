-- A well-typed program with own names, of which nothing leaves and that tells no reports, is a forwarding program.
use Rattle.std.proofs.Common.{◌≡◌, ℕ, List, [], ◌∷◌, map, Bool, true, false, cond, refl, ap, ◌∙◌}
use Rattle.std.specs.List.{AllByRecursion}
use Rattle.lex_text.specs.Names.{same_text}
use Rattle.p4_tree.specs.Tree.{Top, constant, typedef, header_type, struct_type, register, parser, control, Program}
use Rattle.p4_tree.specs.declared.statement.PTy.{PTy}
use Rattle.p4_meaning.specs.Under.{no_scope}
use Rattle.p4_meaning.specs.Actions.{actions_of}
use Rattle.p4_meaning.specs.Parts.{field_of, header_of, types_of, whole, struct_fields, body_of, body_in, parser_type, parser_in, named_in, emits_of, parts_of}
use Rattle.p4_scopes.specs.Scopes.{core}
use Rattle.p4_statement_rules.specs.declared.rule.Part.TheVariants as place
use Rattle.p4_declaration_rules.specs.Controls.{part_in}
use Rattle.p4_rules.specs.ProgramRules.{IsWellTyped}
use Rattle.p4_rule_laws.specs.Old.{OldFields}
use Rattle.p4_rule_laws.specs.OldPrograms.{OldTops}
use Rattle.p4_typing_laws.proofs.Fine.{typed_fine}
use Rattle.p4_typing_laws.proofs.FineUses.{parts_named}
use Rattle.exit_programs.specs.Laws.{program_leaves}
use Rattle.exit_programs.proofs.MainParts.{HaveParts, have_parts}
use Rattle.own_code.specs.Regions.{is_mine, is_own_header}
use Rattle.own_code.specs.Forwarding.{AreOwnStmts, AreVars, IsOwnBody, IsForwarding}
use Rattle.own_programs.specs.OwnPrograms.{is_own, HasOwnNames, program_tells_reports}
use Rattle.own_programs.specs.Laws.{OwnProgramsForward}
use Rattle.own_programs.proofs.Names.{own_not}
use Rattle.own_programs.proofs.Programs.{registers_are, tables_are, none_is_no_action, first_at, apply_body, sums_body, deparser_body, actions_are, at_control, states_are}

-- ---- headers and metadata: the fields of a struct

fields_old : (ts : List Top) (x : List ℕ) → OldTops is_own ts → OldFields is_own (struct_fields ts x)
fields_old [] x o = tt
fields_old (struct_type p y fs ∷ ts) x o = go (same_text y x) (fields_old ts x o.1)
  where
    go : (b : Bool) → OldFields is_own (struct_fields ts x) → OldFields is_own (cond b fs (struct_fields ts x))
    go true h = o.0.1
    go false h = h
fields_old (constant p t y e ∷ ts) x o = fields_old ts x o.1
fields_old (typedef p t y ∷ ts) x o = fields_old ts x o.1
fields_old (header_type p y fs ∷ ts) x o = fields_old ts x o.1
fields_old (register p r ∷ ts) x o = fields_old ts x o.1
fields_old (parser p d ∷ ts) x o = fields_old ts x o.1
fields_old (control p c ∷ ts) x o = fields_old ts x o.1

headers_own : (ts : List Top) (fs : List (PTy × List ℕ)) → OldFields is_own fs → AllByRecursion (λ h. is_own_header h.path ≡ true) (map (header_of ts) fs)
headers_own ts [] o = tt
headers_own ts (f ∷ fs) o = (o.1, headers_own ts fs o.2)

metadata_own : (ts : List Top) (fs : List (PTy × List ℕ)) → OldFields is_own fs → AllByRecursion (λ m. is_mine m.name ≡ false) (map (field_of (types_of ts)) fs)
metadata_own ts [] o = tt
metadata_own ts (f ∷ fs) o = (own_not f.1 o.1, metadata_own ts fs o.2)

-- ---- the parts

module _ (p : Program) (well : IsWellTyped p) (names : HasOwnNames p) (stays : program_leaves p ≡ false) (quiet : program_tells_reports p ≡ false) where
  main : HaveParts p.main
  main = have_parts p.tops p.main (parts_named p well)

  apply_own : (n : ℕ) → part_in p.main (named_in p.main n) ≡ place.Apply → IsOwnBody (body_in 0 1 2 p n) × AreVars (body_in 0 1 2 p n).locals
  apply_own n is =
      at_control p well (λ sc o. IsOwnBody (body_of 0 1 2 sc o) × AreVars (body_of 0 1 2 sc o).locals) (named_in p.main n) (λ sc. (record { locals = tt; body = tt }, tt))
      (λ q c ts s sc b f k e. apply_body p well q c ts s sc b f k (ap (part_in p.main) e ∙ is)) p.tops core no_scope (first_at p well) names.tops stays quiet (typed_fine p well).0

  verify_own : AreOwnStmts (whole (body_in 0 1 9 p 1))
  verify_own =
      at_control p well (λ sc o. AreOwnStmts (whole (body_of 0 1 9 sc o))) (named_in p.main 1) (λ sc. tt)
      (λ q c ts s sc b f k e. sums_body p well q c ts s sc b f k place.Verify (ap (part_in p.main) e ∙ main.verify) refl) p.tops core no_scope (first_at p well) names.tops stays quiet (typed_fine p well).0

  compute_own : AreOwnStmts (whole (body_in 0 1 9 p 4))
  compute_own =
      at_control p well (λ sc o. AreOwnStmts (whole (body_of 0 1 9 sc o))) (named_in p.main 4) (λ sc. tt)
      (λ q c ts s sc b f k e. sums_body p well q c ts s sc b f k place.Compute (ap (part_in p.main) e ∙ main.compute) refl) p.tops core no_scope (first_at p well) names.tops stays quiet (typed_fine p well).0

  emits_are : AllByRecursion (λ x. is_own_header x ≡ true) (emits_of (body_in 1 9 9 p 5).body)
  emits_are =
      at_control p well (λ sc o. AllByRecursion (λ x. is_own_header x ≡ true) (emits_of (body_of 1 9 9 sc o).body)) (named_in p.main 5) (λ sc. tt)
      (λ q c ts s sc b f k e. deparser_body p well q c ts s sc b f k (ap (part_in p.main) e ∙ main.deparser)) p.tops core no_scope (first_at p well) names.tops stays quiet (typed_fine p well).0

  forwarding : IsForwarding (parts_of p)
  forwarding =
      record {
        registers = registers_are p.tops no_scope names.tops;
        headers = headers_own p.tops (struct_fields p.tops (parser_type (parser_in p) 1)) (fields_old p.tops (parser_type (parser_in p) 1) names.tops);
        metadata = metadata_own p.tops (struct_fields p.tops (parser_type (parser_in p) 2)) (fields_old p.tops (parser_type (parser_in p) 2) names.tops);
        states = states_are p well (named_in p.main 0) p.tops core no_scope (first_at p well) names.tops (typed_fine p well).0;
        actions = actions_are p well p.tops core no_scope (first_at p well) names.tops stays quiet (typed_fine p well).0;
        no_action = none_is_no_action p.tops no_scope;
        tables = tables_are (actions_of no_scope p.tops) p.tops no_scope names.tops;
        verify = verify_own;
        ingress = (apply_own 2 main.ingress).0;
        ingress_vars = (apply_own 2 main.ingress).1;
        egress = (apply_own 3 main.egress).0;
        compute = compute_own;
        emits = emits_are;
      }

pub own_programs_forward : OwnProgramsForward
own_programs_forward p well names stays quiet = forwarding p well names stays quiet

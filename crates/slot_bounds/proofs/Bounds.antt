-- The bounds of a program: its deparser emits each header once, and all headers have the bytes that the rules count.
use Rattle.std.proofs.Common.{◌≡◌, ℕ, ◌*◌, ◌≤◌, List, [], ◌∷◌, map, Bool, true, false, nat_lt, Option, Some, None, refl, sym, ap, ◌∙◌, subst, arith}
use Rattle.std.proofs.lemmas.Bool.Decides.{nat_tests}
use Rattle.rule_tests.specs.Tests.{IsFine}
use Rattle.p4_tree.specs.Tree.{Control, Program}
use Rattle.p4_tree.specs.declared.statement.PTy.{PTy}
use Rattle.p4_meaning.specs.Scope as meaning
use Rattle.p4_meaning.specs.Under.{no_scope, in_control, behind_locals}
use Rattle.p4_meaning.specs.Parts.{struct_fields, header_fields, header_of, scope_at_control, body_of, emits_of, named_in, control_in, parts_of}
use Rattle.p4_scopes.specs.Scopes.{Stands, is_missing, Scope, core}
use Rattle.p4_scopes.specs.Uses.{is_header}
use Rattle.p4_statement_rules.specs.declared.rule.Part.{Part}
use Rattle.p4_declaration_rules.specs.Controls.{control_tests, part_in, after_tops}
use Rattle.p4_declaration_rules.proofs.FirstsLemmas.{all_first}
use Rattle.p4_rules.specs.Mains.{deparser_wants, structs_of, control_params, main_tests}
use Rattle.p4_rules.specs.Limits.{fields_bytes, header_bytes}
use Rattle.p4_rules.specs.ProgramRules.{program_scope, program_tests, IsWellTyped}
use Rattle.p4_typing_laws.proofs.Fine.{typed_fine}
use Rattle.p4_typing_laws.proofs.CountedPassages.{program_bound}
use Rattle.p4_typing_laws.proofs.FineUses.{parts_named}
use Rattle.p4_typing_laws.proofs.SoundScopes.{core_sound}
use Rattle.passage_stores.proofs.DeclaredTypes.{broken, all_stays, thing_at}
use Rattle.passage_stores.proofs.BegunSights.{core_is, core_no_header}
use Rattle.passage_stores.proofs.SeenPassages.{AreParts, parts_are}
use Rattle.passage_stores.proofs.SightFits.{and_parts}
use Rattle.slot_places.specs.ProgramRows.{first_header}
use Rattle.slot_bounds.specs.Bounds.{emitted_most, ProgramsAreBounded}
use Rattle.slot_bounds.proofs.Emitted.{all_bits, bits_of, most_is, once_at_most}
use Rattle.slot_bounds.proofs.Types.{core_knows, tops_known}
use Rattle.slot_bounds.proofs.HeaderBits.{IsCounted, counted, all_counted}
use Rattle.slot_bounds.proofs.Outer.{core_outer, at_control}
use Rattle.slot_bounds.proofs.Deparser.{deparser_params, deparser_once}

-- ---- a program

within : (n : ℕ) → nat_lt 2304 n ≡ false → n ≤ 2304
within n h = grind (arith, nat_tests)

module _ (p : Program) (well : IsWellTyped p) where
  fine : IsFine (program_tests p)
  fine = typed_fine p well

  -- behind all declarations
  abbrev Last : Scope
  Last = after_tops core p.tops

  last_is : program_scope p ≡ Last
  last_is = all_first p.main core p.tops fine.0

  abbrev Fields : List (PTy × List ℕ)
  Fields = struct_fields p.tops (structs_of Last p).headers_type

  few : header_bytes (program_scope p) p ≤ 2304
  few = within (header_bytes (program_scope p) p) fine.1.1.0

  few_last : fields_bytes Last Fields ≤ 2304
  few_last = subst (λ (s : Scope). header_bytes s p ≤ 2304) last_is few

  parts : AreParts p.tops (structs_of Last p) p.at p.main
  parts = parts_are p.tops (structs_of Last p) p.at p.main (parts_named p well) (subst (λ (s : Scope). IsFine (main_tests s p)) last_is fine.1.0).1.1

  found : (x : List ℕ) → is_header (thing_at (Last (x ∷ []))) ≡ true → IsCounted Last (header_fields p.tops x) x
  found x h = counted p.main p.tops core fine.0 core_sound x (new (is_missing (core (x ∷ []))) refl) h
    where
      new : (b : Bool) → is_missing (core (x ∷ [])) ≡ b → is_missing (core (x ∷ [])) ≡ true
      new true e = e
      new false e = broken (sym h ∙ ap (λ (v : Stands). is_header (thing_at v)) (all_stays p.main p.tops core fine.0 x [] e ∙ core_is x) ∙ core_no_header x)

  -- all headers together
  all_are : (structs_of Last p).has_headers ≡ true → all_bits (map (header_of p.tops) Fields) ≡ 8 * fields_bytes Last Fields
  all_are h = all_counted Last p.tops (tops_known p.main p.tops core no_scope core_sound (core_knows no_scope) fine.0) found Fields (and_parts _ _ h).1 few_last

  -- those that are emitted
  emitted_by : (c : Control) → control_in p 5 ≡ Some c → (sc : meaning.Scope) → bits_of (map (header_of p.tops) Fields) (emits_of (body_of 1 9 9 sc (Some c)).body) ≤ 8 * fields_bytes Last Fields
  emitted_by c e sc =
      (let at = at_control p.main p.tops core core_outer fine.0 (named_in p.main 5) c e in
      let wanted = subst (λ (o : Option Control). IsFine (control_params p.at (structs_of Last p) deparser_wants o)) e parts.deparser_wanted in
      let params = deparser_params at.scope at.outer (structs_of Last p) p.at c.params wanted in
      let tests = subst (λ (h : Part). IsFine (control_tests h at.scope c)) (ap (part_in p.main) at.named ∙ parts.deparser) at.fine in
      let once = deparser_once at.scope c params.name params.headers tests in
      let a = once_at_most (map (header_of p.tops) Fields) (emits_of (body_of 1 9 9 sc (Some c)).body) (once (behind_locals (in_control 1 9 9 sc c) c.locals)) in
      let b = all_are params.structs in
      omega (arith, a, b))

  emitted_in : (o : Option Control) → control_in p 5 ≡ o → (sc : meaning.Scope) → bits_of (map (header_of p.tops) Fields) (emits_of (body_of 1 9 9 sc o).body) ≤ 8 * fields_bytes Last Fields
  emitted_in None e sc = omega arith
  emitted_in (Some c) e sc = emitted_by c e sc

  frame_last : emitted_most (parts_of p) ≤ 8 * fields_bytes Last Fields
  frame_last =
      (let a = most_is (map (header_of p.tops) Fields) (first_header (parts_of p)) (parts_of p).emits in
      let b = emitted_in (control_in p 5) refl (scope_at_control no_scope p.tops (named_in p.main 5)) in
      subst (λ (n : ℕ). n ≤ 8 * fields_bytes Last Fields) (sym a) b)

  frame : emitted_most (parts_of p) ≤ 8 * header_bytes (program_scope p) p
  frame = subst (λ (s : Scope). emitted_most (parts_of p) ≤ 8 * header_bytes s p) (sym last_is) frame_last

pub bounded : ProgramsAreBounded
bounded p well =
    record {
      frame = frame p well;
      short = (let h = few p well in omega (arith, h));
      digests = λ plain. (let e = program_bound p well plain in omega (arith, e));
    }

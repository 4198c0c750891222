-- A linked program is well typed.
use Rattle.std.proofs.Common.{codes, ◌≡◌, ℕ, ◌<◌, ◌≤◌, ◌^◌, List, [], ◌∷◌, ◌++◌, map, true, false, not, ◌&&◌, ◌/◌, ◌+◌, min, nat_lt, arith, le-ltb, Option, Some, refl, sym, ap, ap₂, ◌∙◌, subst}
use Rattle.std.specs.List.{AllByRecursion}
use Rattle.std.specs.Option.{option_map}
use Rattle.rule_tests.specs.Tests.{IsFine}
use Rattle.p4_parser_states.specs.Laws.{ReachesIsExact}
use Rattle.p4_tree.specs.Tree.{Local, local_action, local_table, local_register, local_const, local_var, Parser, Top, constant, typedef, header_type, struct_type, register, parser, control, Control, Program}
use Rattle.p4_tree.specs.declared.statement.PTy.{PTy}
use Rattle.p4_meaning.specs.Scope.{Roots}
use Rattle.p4_meaning.specs.Parts.{named_in, parser_type, parser_in, struct_fields}
use Rattle.p4_meaning.specs.Under.{no_scope}
use Rattle.p4_scopes.specs.Scopes.{add_up, Stands, typed, as_typed, typed_thing, is_missing, Scope, core}
use Rattle.p4_scopes.specs.Uses.{header_bits, is_header, is_scalar}
use Rattle.p4_scopes.specs.declared.thing.Thing.TheVariants.{Header, Struct}
use Rattle.p4_declaration_rules.specs.Controls.{tops_tests, after_tops, most_of_tops}
use Rattle.p4_rules.specs.Mains.{all_fields}
use Rattle.p4_rules.specs.Limits.{most_of_program, fields_bytes, header_bytes, add_cells, local_cells, locals_cells, top_cells, tops_cells, limit_tests}
use Rattle.p4_rules.specs.ProgramRules.{program_scope, IsWellTyped}
use Rattle.p4_rule_laws.specs.Kept.{NewTops}
use Rattle.p4_rule_laws.specs.Growth.{Sees, NewInFront, TopsGrow, InRole}
use Rattle.p4_rule_laws.proofs.AlikeScopes.{alike_self}
use Rattle.p4_rule_laws.proofs.KeepsLemmas.{keeps_self, skip_tops}
use Rattle.p4_rule_laws.proofs.LimitsGrow.{digests_add, bytes_alike, local_cells_add, cells_add}
use Rattle.p4_rule_laws.proofs.RolesGrow.{scopes_see, program_grows}
use Rattle.p4_typing_laws.proofs.Fine.{typed_fine}
use Rattle.p4_typing_laws.proofs.FineUses.{parts_named}
use Rattle.own_programs.specs.OwnPrograms.{is_own}
use Rattle.own_programs.proofs.Names.{broken}
use Rattle.own_programs.proofs.Programs as of
use Rattle.exit_programs.proofs.MainParts.{HaveParts, have_parts}
use Rattle.linked_programs.specs.Lowered.{Lowered}
use Rattle.linked_programs.specs.Linked.{tele_field, Place, is_ingress, is_egress, is_deparser, is_other, place_in, locals_at, linked_parser, linked_top, control_roots, headers_type, metadata_type, front, rejects_top, switch_top, linked}
use Rattle.linked_programs.specs.Gives.{IsLoweredTop, IsLoweredLocal}
use Rattle.linked_programs.specs.Rewritten.{local_with}
use Rattle.linked_programs.proofs.LinkedTops.{no_parser, no_struct as no_front_struct, found_parser, structs}
use Rattle.linked_programs.proofs.PartsLinked.{fields_old}
use Rattle.linked_hosts.specs.Linkable.{IsGiven, Linkable}
use Rattle.linked_rules.specs.Passes.{front_scope, Passes}
use Rattle.linked_rules.specs.Digests.{Tells, told}
use Rattle.linked_rules.specs.Fine.{LinkedIsWellTyped, Counts, LinkedCounts, LinkedTells, LinkedWithin, SwitchesCountAlike}
use Rattle.linked_hosts.proofs.Spots.{core_sum}
use Rattle.linked_hosts.proofs.ReadyByRules.{names_struct, core_no_struct}
use Rattle.linked_rules.proofs.Offered.{core_fixed}
use Rattle.linked_rules.proofs.Told.{told_once}
use Rattle.linked_rules.specs.Held.{tops_hold, LinkedHolds}
use Rattle.linked_rules.proofs.TopsFine.{tops_told, tops_same_hold, Pair, more_of, struct_own, tops_grow, new, more_H, more_M}

-- ---- what stands in front

new_front : (ts : List Top) (n : ℕ) → AllByRecursion IsLoweredTop ts → NewInFront is_own (ts ++ switch_top n ∷ [])
new_front [] n h = (refl, refl, tt)
new_front (header_type p x fs ∷ ts) n h = (refl, ap not h.0, new_front ts n h.1)
new_front (register p r ∷ ts) n h = (refl, ap not h.0, new_front ts n h.1)
new_front (constant p k x e ∷ ts) n h = absurd h.0
new_front (typedef p k x ∷ ts) n h = absurd h.0
new_front (struct_type p x fs ∷ ts) n h = absurd h.0
new_front (parser p d ∷ ts) n h = absurd h.0
new_front (control p c ∷ ts) n h = absurd h.0

new_tops : (front : List Top) → NewInFront is_own front → NewTops is_own front
new_tops [] n = tt
new_tops (z ∷ front) n = (n.1, new_tops front n.2)

-- before the first declaration there is no struct
no_struct : (x : List ℕ) → core (x ∷ []) ≡ typed false Struct → ⊥
no_struct x h = broken (ap names_struct (sym h) ∙ core_no_struct x)

-- ---- the whole

module _ (exact : ReachesIsExact) (l : Lowered) (p : Program) (g : IsGiven p) (k : Linkable p)
    (passes : Passes l (program_scope p) (headers_type p) (metadata_type p) (control_roots k.ingress) (control_roots k.egress)) (low_tops : AllByRecursion IsLoweredTop l.tops) (low_entry : AllByRecursion IsLoweredLocal l.entry_locals) (low_exit : AllByRecursion IsLoweredLocal l.exit_locals)
    (size s : ℕ) (links : List ℕ) (small : s < 2 ^ 16) where
  abbrev u : Scope
  u = front_scope l s

  abbrev H : List ℕ
  H = headers_type p

  abbrev M : List ℕ
  M = metadata_type p

  parts : HaveParts p.main
  parts = have_parts p.tops p.main (parts_named p g.typed)

  own_H : is_own (headers_type p) ≡ true
  own_H = struct_own p.tops H k.ready.names.tops k.ready.headers

  own_M : is_own (metadata_type p) ≡ true
  own_M = struct_own p.tops M k.ready.names.tops k.ready.metadata

  abbrev behind : List Top
  behind = new exact p g.typed parts g.two own_H own_M l k.ingress k.egress passes low_entry low_exit s small size links p.tops

  pair : Pair exact p g.typed parts g.two own_H own_M l k.ingress k.egress passes low_entry low_exit s small size links p.tops core no_scope u
  pair =
      record {
        here = record { at = of.first_at p g.typed; sums = core_sum; known = tt };
        fine = (typed_fine p g.typed).0;
        fixed = core_fixed;
        fresh = λ x mine. refl;
      }

  grow : TopsGrow is_own (more_of p) false p.main u core u p.tops behind
  grow =
      tops_grow exact p g.typed parts g.two own_H own_M l k.ingress k.egress passes low_entry low_exit s small size links p.tops core no_scope u pair
      k.ready.names.tops g.spelled.tops k.ready.ones

  in_front : NewInFront is_own (front l s)
  in_front = (refl, refl, new_front l.tops s low_tops)

  front_fine : IsFine (tops_tests p.main core (front l s))
  front_fine = passes.front s small p.main

  sees : Sees is_own (more_of p) u core u
  sees =
      record {
        alike = skip_tops is_own core core (alike_self is_own core) (front l s) (new_tops (front l s) in_front);
        front = keeps_self u;
        wider = λ x o e y xs j. absurd (no_struct x e);
      }

  abbrev made : Program
  made = linked l size s links p

  -- the given program is seen in the made one
  seen : Sees is_own (more_of p) u (program_scope p) (program_scope made)
  seen = scopes_see is_own (more_of p) false p p.at (front l s) behind in_front grow front_fine (typed_fine p g.typed).0

  tele_type : program_scope made (codes "hydra_tele_t" ∷ []) ≡ typed false (Header passes.bits)
  tele_type = seen.front.kept (codes "hydra_tele_t") [] (ap is_missing (passes.tele_type s)) ∙ passes.tele_type s

  in_headers : InRole is_header (program_scope made) (more_of p H)
  in_headers =
      record {
        front = ap (λ (fs : List (PTy × List ℕ)). all_fields is_header (program_scope made) fs) (more_H exact p g.typed parts g.two own_H own_M l k.ingress k.egress passes low_entry low_exit s small size links)
            ∙ ap (λ (st : Stands). is_header (typed_thing (as_typed st)) && true) tele_type;
        back = refl;
      }

  in_metadata : InRole is_scalar (program_scope made) (more_of p M)
  in_metadata =
      record {
        front = ap (λ (fs : List (PTy × List ℕ)). all_fields is_scalar (program_scope made) fs) (more_M exact p g.typed parts g.two own_H own_M l k.ingress k.egress passes low_entry low_exit s small size links);
        back = refl;
      }

  well : IsFine (limit_tests (program_scope made) made) → IsWellTyped made
  well limits = program_grows is_own (more_of p) p p.at (front l s) behind in_front grow front_fine g.typed in_headers in_metadata limits

  -- ---- digests

  front_quiet : (ts : List Top) (a : Scope) → AllByRecursion IsLoweredTop ts → most_of_tops p.main a (ts ++ switch_top s ∷ []) ≡ 0
  front_quiet [] a h = refl
  front_quiet (header_type q x fs ∷ ts) a h = ap (add_up 0) (front_quiet ts _ h.1)
  front_quiet (register q d ∷ ts) a h = ap (add_up 0) (front_quiet ts _ h.1)
  front_quiet (constant q y x v ∷ ts) a h = absurd h.0
  front_quiet (typedef q y x ∷ ts) a h = absurd h.0
  front_quiet (struct_type q x fs ∷ ts) a h = absurd h.0
  front_quiet (parser q d ∷ ts) a h = absurd h.0
  front_quiet (control q c ∷ ts) a h = absurd h.0

  tells_all : (e x : ℕ) → Tells l (program_scope p) (headers_type p) (metadata_type p) (control_roots k.ingress) (control_roots k.egress) e x → most_of_program made ≡ told p.main e x core p.tops
  tells_all e x tells =
      digests_add p.main core (front l s) behind ∙ ap (λ (n : ℕ). add_up n (most_of_tops p.main u behind)) (ap (add_up 0) (front_quiet l.tops _ low_tops)) ∙ sym (digests_add p.main u [] behind)
      ∙ tops_told exact p g.typed parts g.two own_H own_M l k.ingress k.egress passes low_entry low_exit s small size links e x tells p.tops core no_scope u pair k.ready.names.tops g.spelled.tops k.ready.ones sees

  -- ---- what tables and actions hold

  behind_front : (zs ts : List Top) (a : Scope) → NewInFront is_own zs → tops_hold a (zs ++ ts) ≡ tops_hold (after_tops a zs) ts
  behind_front [] ts a h = refl
  behind_front (constant q y x v ∷ zs) ts a h = behind_front zs ts _ h.2
  behind_front (typedef q y x ∷ zs) ts a h = behind_front zs ts _ h.2
  behind_front (header_type q x fs ∷ zs) ts a h = behind_front zs ts _ h.2
  behind_front (struct_type q x fs ∷ zs) ts a h = behind_front zs ts _ h.2
  behind_front (register q d ∷ zs) ts a h = behind_front zs ts _ h.2
  behind_front (parser q d ∷ zs) ts a h = behind_front zs ts _ h.2
  behind_front (control q c ∷ zs) ts a h = broken h.0

  same_hold : tops_hold core made.tops ≡ tops_hold core p.tops
  same_hold =
      behind_front (front l s) behind core in_front
      ∙ tops_same_hold exact p g.typed parts g.two own_H own_M l k.ingress k.egress passes low_entry low_exit s small size links p.tops core no_scope u pair k.ready.names.tops g.spelled.tops k.ready.ones sees

  -- ---- counts

  parser_whole : parser_in made ≡ Some (linked_parser size links k.parser)
  parser_whole = no_parser s behind l.tops (named_in p.main 0) low_tops ∙ found_parser l size s links p p.tops (named_in p.main 0) ∙ ap (option_map (linked_parser size links)) k.ready.parser

  type_same : parser_type (parser_in made) 1 ≡ H
  type_same = ap (λ (o : Option Parser). parser_type o 1) parser_whole ∙ ap (λ (o : Option Parser). parser_type o 1) (sym k.ready.parser)

  fields_whole : struct_fields made.tops H ≡ tele_field ∷ struct_fields p.tops H
  fields_whole =
      no_front_struct s behind l.tops H low_tops ∙ structs l size s links p p.tops H k.ready.headers
      ∙ ap (λ (fs : List (PTy × List ℕ)). fs ++ struct_fields p.tops H) (more_H exact p g.typed parts g.two own_H own_M l k.ingress k.egress passes low_entry low_exit s small size links)

  bytes : header_bytes (program_scope made) made ≡ add_up (passes.bits / 8) (header_bytes (program_scope p) p)
  bytes =
      ap (λ (x : List ℕ). fields_bytes (program_scope made) (struct_fields made.tops x)) type_same ∙ ap (fields_bytes (program_scope made)) fields_whole
      ∙ ap₂ (λ (st : Stands) (b : ℕ). add_up (header_bits (typed_thing (as_typed st)) / 8) b) tele_type (sym (bytes_alike is_own (program_scope p) (program_scope made) seen.alike (struct_fields p.tops H) (fields_old p.tops H k.ready.names.tops)))

  local_cells_same : (r : Roots) (x : Local) → local_cells (local_with r x) ≡ local_cells x
  local_cells_same r (local_action q a) = refl
  local_cells_same r (local_table q t) = refl
  local_cells_same r (local_register q d) = refl
  local_cells_same r (local_const q y x e) = refl
  local_cells_same r (local_var q y x e) = refl

  locals_cells_same : (r : Roots) (ls : List Local) → locals_cells (map (local_with r) ls) ≡ locals_cells ls
  locals_cells_same r [] = refl
  locals_cells_same r (x ∷ ls) = ap₂ add_cells (local_cells_same r x) (locals_cells_same r ls)

  none_within : (ls : List Local) → add_cells 0 (locals_cells ls) ≡ locals_cells ls
  none_within ls = sym (local_cells_add [] ls)

  no_cells : (ls : List Local) → AllByRecursion IsLoweredLocal ls → locals_cells ls ≡ 0
  no_cells [] h = refl
  no_cells (local_action q a ∷ ls) h = ap (add_cells 0) (no_cells ls h.1)
  no_cells (local_table q t ∷ ls) h = ap (add_cells 0) (no_cells ls h.1)
  no_cells (local_var q y x e ∷ ls) h = ap (add_cells 0) (no_cells ls h.1)
  no_cells (local_register q d ∷ ls) h = absurd h.0
  no_cells (local_const q y x e ∷ ls) h = absurd h.0

  with_more_locals : (r : Roots) (as' ls : List Local) → AllByRecursion IsLoweredLocal as' → locals_cells (map (local_with r) (as' ++ ls)) ≡ locals_cells ls
  with_more_locals r as' ls h = locals_cells_same r (as' ++ ls) ∙ local_cells_add as' ls ∙ ap (λ (n : ℕ). add_cells n (locals_cells ls)) (no_cells as' h) ∙ none_within ls

  control_cells : (h : Place) (c : Control) → locals_cells (locals_at l links h c) ≡ locals_cells c.locals
  control_cells is_ingress c = with_more_locals (control_roots c) l.entry_locals c.locals low_entry
  control_cells is_egress c = with_more_locals (control_roots c) l.exit_locals c.locals low_exit
  control_cells is_deparser c = refl
  control_cells is_other c = refl

  top_same : (t : Top) → top_cells (linked_top l size links p t) ≡ top_cells t
  top_same (constant q y x e) = refl
  top_same (typedef q y x) = refl
  top_same (header_type q x fs) = refl
  top_same (struct_type q x fs) = refl
  top_same (register q d) = refl
  top_same (parser q d) = refl
  top_same (control q c) = control_cells (place_in p.main c.name) c

  tops_same : (ts : List Top) → tops_cells (map (linked_top l size links p) ts) ≡ tops_cells ts
  tops_same [] = refl
  tops_same (t ∷ ts) = ap₂ add_cells (top_same t) (tops_same ts)

  counts : Counts l s p made passes.bits
  counts = record { bytes = bytes; cells = cells_add (front l s) behind ∙ ap (add_cells (tops_cells (front l s))) (tops_same p.tops) }

pub linked_counts : ReachesIsExact → LinkedCounts
linked_counts exact l p g k rules size s links small = counts exact l p g k rules.passes rules.tops rules.entry_locals rules.exit_locals size s links small

pub linked_holds : ReachesIsExact → LinkedHolds
linked_holds exact l p g k rules size s links small = same_hold exact l p g k rules.passes rules.tops rules.entry_locals rules.exit_locals size s links small

pub linked_tells : ReachesIsExact → LinkedTells
linked_tells exact l p g k rules size s links small e x tells =
    subst (λ (n : ℕ). n ≤ add_up e (add_up x (most_of_program p))) (sym (tells_all exact l p g k rules.passes rules.tops rules.entry_locals rules.exit_locals size s links small e x tells))
    (told_once p.main e x p.tops core (typed_fine p g.typed).0)

same_front : (ts : List Top) (s r : ℕ) → tops_cells (ts ++ switch_top s ∷ []) ≡ tops_cells (ts ++ switch_top r ∷ [])
same_front [] s r = refl
same_front (t ∷ ts) s r = ap (add_cells (top_cells t)) (same_front ts s r)

pub switches_count_alike : ReachesIsExact → SwitchesCountAlike
switches_count_alike exact l p g k rules e x tells size s links small r ports low =
    let one = linked_counts exact l p g k rules size s links small in
    let other = linked_counts exact l p g k rules size r ports low in
    record {
      bytes = one.bytes ∙ sym other.bytes;
      digests =
          tells_all exact l p g k rules.passes rules.tops rules.entry_locals rules.exit_locals size s links small e x tells
          ∙ sym (tells_all exact l p g k rules.passes rules.tops rules.entry_locals rules.exit_locals size r ports low e x tells);
      cells = one.cells ∙ ap (λ (n : ℕ). add_cells (add_cells (top_cells rejects_top) n) (tops_cells p.tops)) (same_front l.tops s r) ∙ sym other.cells;
    }

pub linked_is_well_typed : ReachesIsExact → LinkedIsWellTyped
linked_is_well_typed exact l p g k rules size s links small limits = well exact l p g k rules.passes rules.tops rules.entry_locals rules.exit_locals size s links small limits

pub linked_within : ReachesIsExact → LinkedWithin
linked_within exact l p g k rules size s links small e x tells bytes digests registers =
    (let counts = linked_counts exact l p g k rules size s links small in
    let told = linked_tells exact l p g k rules size s links small e x tells in
    linked_is_well_typed exact l p g k rules size s links small (
      subst (λ (n : ℕ). nat_lt 2304 n ≡ false) (sym counts.bytes) (low 2304 4294967295 (rules.passes.bits / 8) (header_bytes (program_scope p) p) bytes),
      (
        few (most_of_program (linked l size s links p)) e x (most_of_program p) told digests,
        subst (λ (n : ℕ). nat_lt 4210689 n ≡ false) (sym counts.cells) (low 4210689 18446744073709551615 (tops_cells (front l s)) (tops_cells p.tops) registers),
      ),
    ))
  where
    low : (limit top a b : ℕ) → a + b ≤ limit → nat_lt limit (min (a + b) top) ≡ false
    low limit top a b h = le-ltb limit (min (a + b) top) (omega (arith, h))

    few : (n a b c : ℕ) → n ≤ add_up a (add_up b c) → a + b + c ≤ 20480 → nat_lt 20480 n ≡ false
    few n a b c h k = le-ltb 20480 n (omega (arith, h, k))

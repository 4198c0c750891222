-- What of a program without exits runs.
use Rattle.std.proofs.Common.{◌≡◌, ℕ, List, [], ◌∷◌, ◌++◌, map, Bool, true, false, cond, Option, Some, None, refl, sym, ap, ap₂, ◌∙◌, subst}
use Rattle.std.specs.Option.{option_map}
use Rattle.lex_text.specs.Names.{same_text}
use Rattle.p4_tree.specs.Tree.{Control, Parser, Top, constant, typedef, header_type, struct_type, register, parser, control, Program}
use Rattle.p4_tree.specs.declared.statement.PTy.{PTy}
use Rattle.p4_meaning.specs.Parsing.{Header}
use Rattle.p4_meaning.specs.Scope.{Scope, type_name}
use Rattle.p4_meaning.specs.Under.{no_scope, with_constant, with_type, in_control, behind_tops}
use Rattle.p4_meaning.specs.Actions.{Action, actions_in, actions_of}
use Rattle.p4_meaning.specs.Tables.{Table, tables_in, tables_of}
use Rattle.p4_meaning.specs.Parts.{Cells, whole, parser_named, control_named, scope_at_parser, scope_at_control, struct_fields, header_fields, types_of, field_of, header_of, cells_under, registers_in, registers_of, body_of, states_of, parser_type, emits_of, named_in, control_in, body_in, parser_in, states_in, parts_of}
use Rattle.p4_rule_laws.specs.OldPrograms.{OldTops, OldControl}
use Rattle.exit_statements.specs.Without.{Exits}
use Rattle.exit_programs.specs.Programs.{exits_in, control_leaves, control_without, top_without, program_without}
use Rattle.exit_programs.specs.Names.{is_given, HasGivenNames}
use Rattle.exit_programs.specs.Owned.{all_actions, all_tables}
use Rattle.exit_programs.specs.Without.{leaves_if, body_at, parts_without}
use Rattle.exit_programs.proofs.Controls.{bare, rewritten, map_both, Clear, NoFunctions, clear_constant, clear_type, inside_clear, first_clear, scope_same, registers_same, actions_same, tables_same, body_same}
use Rattle.exit_programs.proofs.Apart.{OwnApart}

-- ---- what is found by a name

module _ (m : Exits) where
  abbrev new : List Top → List Top
  new ts = map (top_without m) ts

  found : (ts : List Top) (x : List ℕ) → control_named (new ts) x ≡ option_map (control_without m) (control_named ts x)
  found [] x = refl
  found (constant p ty y e ∷ ts) x = found ts x
  found (typedef p ty y ∷ ts) x = found ts x
  found (header_type p y fs ∷ ts) x = found ts x
  found (struct_type p y fs ∷ ts) x = found ts x
  found (register p r ∷ ts) x = found ts x
  found (parser p d ∷ ts) x = found ts x
  found (control p c ∷ ts) x = go (same_text c.name x) (found ts x)
    where
      go : (b : Bool) → control_named (new ts) x ≡ option_map (control_without m) (control_named ts x) → cond b (Some (control_without m c)) (control_named (new ts) x) ≡ option_map (control_without m) (cond b (Some c) (control_named ts x))
      go true e = refl
      go false e = e

  found_parser : (ts : List Top) (x : List ℕ) → parser_named (new ts) x ≡ parser_named ts x
  found_parser [] x = refl
  found_parser (constant p ty y e ∷ ts) x = found_parser ts x
  found_parser (typedef p ty y ∷ ts) x = found_parser ts x
  found_parser (header_type p y fs ∷ ts) x = found_parser ts x
  found_parser (struct_type p y fs ∷ ts) x = found_parser ts x
  found_parser (register p r ∷ ts) x = found_parser ts x
  found_parser (parser p d ∷ ts) x = ap (cond (same_text d.name x) (Some d)) (found_parser ts x)
  found_parser (control p c ∷ ts) x = found_parser ts x

  at_control : (ts : List Top) (sc : Scope) (x : List ℕ) → scope_at_control sc (new ts) x ≡ scope_at_control sc ts x
  at_control [] sc x = refl
  at_control (constant p ty y e ∷ ts) sc x = at_control ts (with_constant sc ty y e) x
  at_control (typedef p ty y ∷ ts) sc x = at_control ts (with_type sc ty y) x
  at_control (header_type p y fs ∷ ts) sc x = at_control ts sc x
  at_control (struct_type p y fs ∷ ts) sc x = at_control ts sc x
  at_control (register p r ∷ ts) sc x = at_control ts sc x
  at_control (parser p d ∷ ts) sc x = at_control ts sc x
  at_control (control p c ∷ ts) sc x = ap (cond (same_text c.name x) sc) (at_control ts sc x)

  at_parser : (ts : List Top) (sc : Scope) (x : List ℕ) → scope_at_parser sc (new ts) x ≡ scope_at_parser sc ts x
  at_parser [] sc x = refl
  at_parser (constant p ty y e ∷ ts) sc x = at_parser ts (with_constant sc ty y e) x
  at_parser (typedef p ty y ∷ ts) sc x = at_parser ts (with_type sc ty y) x
  at_parser (header_type p y fs ∷ ts) sc x = at_parser ts sc x
  at_parser (struct_type p y fs ∷ ts) sc x = at_parser ts sc x
  at_parser (register p r ∷ ts) sc x = at_parser ts sc x
  at_parser (parser p d ∷ ts) sc x = ap (cond (same_text d.name x) sc) (at_parser ts sc x)
  at_parser (control p c ∷ ts) sc x = at_parser ts sc x

  structs : (ts : List Top) (x : List ℕ) → struct_fields (new ts) x ≡ struct_fields ts x
  structs [] x = refl
  structs (constant p ty y e ∷ ts) x = structs ts x
  structs (typedef p ty y ∷ ts) x = structs ts x
  structs (header_type p y fs ∷ ts) x = structs ts x
  structs (struct_type p y fs ∷ ts) x = ap (cond (same_text y x) fs) (structs ts x)
  structs (register p r ∷ ts) x = structs ts x
  structs (parser p d ∷ ts) x = structs ts x
  structs (control p c ∷ ts) x = structs ts x

  headers : (ts : List Top) (x : List ℕ) → header_fields (new ts) x ≡ header_fields ts x
  headers [] x = refl
  headers (constant p ty y e ∷ ts) x = headers ts x
  headers (typedef p ty y ∷ ts) x = headers ts x
  headers (header_type p y fs ∷ ts) x = ap (cond (same_text y x) fs) (headers ts x)
  headers (struct_type p y fs ∷ ts) x = headers ts x
  headers (register p r ∷ ts) x = headers ts x
  headers (parser p d ∷ ts) x = headers ts x
  headers (control p c ∷ ts) x = headers ts x

  scopes : (ts : List Top) (sc : Scope) → behind_tops sc (new ts) ≡ behind_tops sc ts
  scopes [] sc = refl
  scopes (constant p ty y e ∷ ts) sc = scopes ts (with_constant sc ty y e)
  scopes (typedef p ty y ∷ ts) sc = scopes ts (with_type sc ty y)
  scopes (header_type p y fs ∷ ts) sc = scopes ts sc
  scopes (struct_type p y fs ∷ ts) sc = scopes ts sc
  scopes (register p r ∷ ts) sc = scopes ts sc
  scopes (parser p d ∷ ts) sc = scopes ts sc
  scopes (control p c ∷ ts) sc = scopes ts sc

  types_same : (ts : List Top) → types_of (new ts) ≡ types_of ts
  types_same ts = ap (λ (sc : Scope). sc.types) (scopes ts no_scope)

  fields_same : (ts : List Top) (fs : List (PTy × List ℕ)) → map (field_of (types_of (new ts))) fs ≡ map (field_of (types_of ts)) fs
  fields_same ts fs = ap (λ (types : List (List ℕ × PTy)). map (field_of types) fs) (types_same ts)

  header_same : (ts : List Top) (f : PTy × List ℕ) → header_of (new ts) f ≡ header_of ts f
  header_same ts f = λ i. record { path = (header_of ts f).path; fields = map (field_of (types_same ts i)) (headers ts (type_name f.0) i) }

  headers_same : (ts : List Top) (fs : List (PTy × List ℕ)) → map (header_of (new ts)) fs ≡ map (header_of ts) fs
  headers_same ts [] = refl
  headers_same ts (f ∷ fs) = ap₂ (λ (x : Header) (xs : List Header). x ∷ xs) (header_same ts f) (headers_same ts fs)

  registers : (ts : List Top) (sc : Scope) → registers_of sc (new ts) ≡ registers_of sc ts
  registers [] sc = refl
  registers (constant p ty y e ∷ ts) sc = registers ts (with_constant sc ty y e)
  registers (typedef p ty y ∷ ts) sc = registers ts (with_type sc ty y)
  registers (header_type p y fs ∷ ts) sc = registers ts sc
  registers (struct_type p y fs ∷ ts) sc = registers ts sc
  registers (register p r ∷ ts) sc = ap (λ (xs : List Cells). cells_under sc r ∷ xs) (registers ts sc)
  registers (parser p d ∷ ts) sc = registers ts sc
  registers (control p c ∷ ts) sc =
      ap₂ (λ (xs ys : List Cells). xs ++ ys)
      (ap (λ (x : Scope). registers_in x (control_without m c).locals) (scope_same 0 1 2 sc m c) ∙ registers_same (control_leaves m c) c.locals (in_control 0 1 2 sc c))
      (registers ts sc)

  -- ---- actions and tables

  actions : (ts : List Top) (sc : Scope) → OldTops is_given ts → OwnApart ts → Clear sc → actions_of sc (new ts) ≡ map bare (actions_of sc ts)
  actions [] sc o a k = refl
  actions (constant p ty y e ∷ ts) sc o a k = actions ts (with_constant sc ty y e) o.1 a (clear_constant sc ty y e o.0.1 k)
  actions (typedef p ty y ∷ ts) sc o a k = actions ts (with_type sc ty y) o.1 a (clear_type sc ty y k)
  actions (header_type p y fs ∷ ts) sc o a k = actions ts sc o.1 a k
  actions (struct_type p y fs ∷ ts) sc o a k = actions ts sc o.1 a k
  actions (register p r ∷ ts) sc o a k = actions ts sc o.1 a k
  actions (parser p d ∷ ts) sc o a k = actions ts sc o.1 a k
  actions (control p c ∷ ts) sc o a k =
      ap₂ (λ (xs ys : List Action). xs ++ ys)
      (ap (λ (x : Scope). actions_in x (control_without m c).locals) (scope_same 0 1 2 sc m c)
      ∙ actions_same (control_leaves m c) c.locals (in_control 0 1 2 sc c) o.0.locals (inside_clear 0 1 2 sc c k o.0 a.0) (λ x h. h))
      (actions ts sc o.1 a.1 k)
      ∙ sym (map_both bare (actions_in (in_control 0 1 2 sc c) c.locals) (actions_of sc ts))

  tables : (as' : List Action) (ts : List Top) (sc : Scope) → tables_of sc (map bare as') (new ts) ≡ tables_of sc as' ts
  tables as' [] sc = refl
  tables as' (constant p ty y e ∷ ts) sc = tables as' ts (with_constant sc ty y e)
  tables as' (typedef p ty y ∷ ts) sc = tables as' ts (with_type sc ty y)
  tables as' (header_type p y fs ∷ ts) sc = tables as' ts sc
  tables as' (struct_type p y fs ∷ ts) sc = tables as' ts sc
  tables as' (register p r ∷ ts) sc = tables as' ts sc
  tables as' (parser p d ∷ ts) sc = tables as' ts sc
  tables as' (control p c ∷ ts) sc =
      ap₂ (λ (xs ys : List Table). xs ++ ys)
      (ap (λ (x : Scope). tables_in x (map bare as') (control_without m c).locals) (scope_same 0 1 2 sc m c) ∙ tables_same (control_leaves m c) c.locals (in_control 0 1 2 sc c) as')
      (tables as' ts sc)

-- ---- what controls run

-- where a control of a name stands, and what is known there
pub record Stands (ts : List Top) (sc : Scope) (x : List ℕ) (c : Control) : Type 0 where
  pub clear : Clear (scope_at_control sc ts x)
  pub given : OldControl is_given c
  pub apart : NoFunctions c

further : (t : Top) (ts : List Top) (sc sd : Scope) (x : List ℕ) (c : Control) → scope_at_control sc (t ∷ ts) x ≡ scope_at_control sd ts x → Stands ts sd x c → Stands (t ∷ ts) sc x c
further t ts sc sd x c e h = record { clear = subst Clear (sym e) h.clear; given = h.given; apart = h.apart }

pub stands : (ts : List Top) (sc : Scope) → OldTops is_given ts → OwnApart ts → Clear sc → (x : List ℕ) (c : Control) → control_named ts x ≡ Some c → Stands ts sc x c
stands [] sc o a k x c e = absurd (cc e)
stands (constant p ty y v ∷ ts) sc o a k x c e = further (constant p ty y v) ts sc (with_constant sc ty y v) x c refl (stands ts (with_constant sc ty y v) o.1 a (clear_constant sc ty y v o.0.1 k) x c e)
stands (typedef p ty y ∷ ts) sc o a k x c e = further (typedef p ty y) ts sc (with_type sc ty y) x c refl (stands ts (with_type sc ty y) o.1 a (clear_type sc ty y k) x c e)
stands (header_type p y fs ∷ ts) sc o a k x c e = further (header_type p y fs) ts sc sc x c refl (stands ts sc o.1 a k x c e)
stands (struct_type p y fs ∷ ts) sc o a k x c e = further (struct_type p y fs) ts sc sc x c refl (stands ts sc o.1 a k x c e)
stands (register p r ∷ ts) sc o a k x c e = further (register p r) ts sc sc x c refl (stands ts sc o.1 a k x c e)
stands (parser p d ∷ ts) sc o a k x c e = further (parser p d) ts sc sc x c refl (stands ts sc o.1 a k x c e)
stands (control p d ∷ ts) sc o a k x c e = go (same_text d.name x) refl e (λ f. stands ts sc o.1 a.1 k x c f)
  where
    go : (b : Bool) → same_text d.name x ≡ b → cond b (Some d) (control_named ts x) ≡ Some c → (control_named ts x ≡ Some c → Stands ts sc x c) → Stands (control p d ∷ ts) sc x c
    go true i f more =
        (let same : d ≡ c = cc f in
        record {
          clear = subst (λ (b : Bool). Clear (cond b sc (scope_at_control sc ts x))) (sym i) k;
          given = subst (OldControl is_given) same o.0;
          apart = subst NoFunctions same a.0;
        })
    go false i f more = further (control p d) ts sc sc x c (ap (λ (b : Bool). cond b sc (scope_at_control sc ts x)) i) (more f)

-- ---- a program

module _ (p : Program) (given : HasGivenNames p) (apart : OwnApart p.tops) where
  abbrev m : Exits
  m = exits_in p

  abbrev q : Program
  q = program_without p

  control_at : (n : ℕ) → control_in q n ≡ option_map (control_without m) (control_in p n)
  control_at n = found m p.tops (named_in p.main n)

  scope_at : (n : ℕ) → scope_at_control no_scope q.tops (named_in p.main n) ≡ scope_at_control no_scope p.tops (named_in p.main n)
  scope_at n = at_control m p.tops no_scope (named_in p.main n)

  bodies : (h k s : ℕ) (sc : Scope) (o : Option Control) → ((c : Control) → o ≡ Some c → Clear sc × (OldControl is_given c × NoFunctions c))
      → body_of h k s sc (option_map (control_without m) o) ≡ rewritten (leaves_if m o) m (body_of h k s sc o)
  bodies h k s sc None u = refl
  bodies h k s sc (Some c) u = let v = u c refl in body_same h k s sc m c v.1.0.locals (inside_clear h k s sc c v.0 v.1.0 v.1.1)

  body_same_at : (n : ℕ) → body_in 0 1 2 q n ≡ body_at p n
  body_same_at n =
      ap₂ (body_of 0 1 2) (scope_at n) (control_at n)
      ∙ bodies 0 1 2 (scope_at_control no_scope p.tops (named_in p.main n)) (control_in p n)
      (λ c e. (let v = stands p.tops no_scope given.tops apart first_clear (named_in p.main n) c e in (v.clear, (v.given, v.apart))))

  -- a control that stays as it is
  kept_at : (h k s n : ℕ) → option_map (control_without m) (control_in p n) ≡ control_in p n → body_in h k s q n ≡ body_in h k s p n
  kept_at h k s n e = ap₂ (body_of h k s) (scope_at n) (control_at n ∙ e)

  actions_all : actions_of no_scope q.tops ≡ map bare (all_actions p)
  actions_all = actions m p.tops no_scope given.tops apart first_clear

  tables_all : tables_of no_scope (actions_of no_scope q.tops) q.tops ≡ all_tables p
  tables_all = ap (λ (as' : List Action). tables_of no_scope as' q.tops) actions_all ∙ tables m (all_actions p) p.tops no_scope

  parser_at : parser_in q ≡ parser_in p
  parser_at = found_parser m p.tops (named_in p.main 0)

  states_at : states_in q ≡ states_in p
  states_at = ap₂ states_of (at_parser m p.tops no_scope (named_in p.main 0)) parser_at

  fields_at : (n : ℕ) → struct_fields q.tops (parser_type (parser_in q) n) ≡ struct_fields p.tops (parser_type (parser_in p) n)
  fields_at n = structs m p.tops (parser_type (parser_in q) n) ∙ ap (λ (d : Option Parser). struct_fields p.tops (parser_type d n)) parser_at

  headers_at : map (header_of q.tops) (struct_fields q.tops (parser_type (parser_in q) 1)) ≡ map (header_of p.tops) (struct_fields p.tops (parser_type (parser_in p) 1))
  headers_at = headers_same m p.tops (struct_fields q.tops (parser_type (parser_in q) 1)) ∙ ap (map (header_of p.tops)) (fields_at 1)

  metadata_at : map (field_of (types_of q.tops)) (struct_fields q.tops (parser_type (parser_in q) 2)) ≡ map (field_of (types_of p.tops)) (struct_fields p.tops (parser_type (parser_in p) 2))
  metadata_at = fields_same m p.tops (struct_fields q.tops (parser_type (parser_in q) 2)) ∙ ap (map (field_of (types_of p.tops))) (fields_at 2)

  pub parts_agree : option_map (control_without m) (control_in p 1) ≡ control_in p 1 → option_map (control_without m) (control_in p 4) ≡ control_in p 4 → option_map (control_without m) (control_in p 5) ≡ control_in p 5 → parts_of q ≡ parts_without p
  parts_agree verify compute deparser =
      λ i.
      record {
        registers = registers m p.tops no_scope i;
        headers = headers_at i;
        metadata = metadata_at i;
        states = states_at i;
        actions = actions_all i;
        tables = tables_all i;
        verify = whole (kept_at 0 1 9 1 verify i);
        ingress = body_same_at 2 i;
        egress = body_same_at 3 i;
        compute = whole (kept_at 0 1 9 4 compute i);
        emits = emits_of (kept_at 1 9 9 5 deparser i).body;
      }

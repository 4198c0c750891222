-- The parts of a linked program.
use Rattle.std.proofs.Common.{codes, ◌≡◌, ℕ, suc, List, [], ◌∷◌, ◌++◌, map, Bool, true, false, cond, ◌||◌, not, Option, Some, None, refl, sym, ap, ap₂, ◌∙◌, subst}
use Rattle.std.specs.List.{AllByRecursion}
use Rattle.std.specs.Option.{option_map}
use Rattle.bit_values.specs.Bits.{Word}
use Rattle.bit_values.specs.Widths.{sound_width}
use Rattle.lex_text.specs.Names.{same_text}
use Rattle.p4_tree.specs.Tree.{Expr, path, negation, binary, one, Stmt, Stmts, assign, call, done, next, and_then, Case, Transition, nowhere, to, select, ParserState, Local, local_action, local_table, local_register, local_const, local_var, Control, Parser, Top, constant, typedef, header_type, struct_type, register, parser, control, Program}
use Rattle.p4_tree.specs.declared.statement.PTy.{PTy}
use Rattle.p4_tree.specs.declared.statement.PTy.TheVariants as type
use Rattle.p4_tree.specs.declared.statement.Op.TheVariants as p4
use Rattle.p4_meaning.specs.Standard.{headers_root, metadata_root, standard_root, ingress_port, egress_spec, egress_port}
use Rattle.p4_meaning.specs.Parsing.{Field, Header}
use Rattle.p4_meaning.specs.Scope.{Scope, Inner, Roots, root_of, param_at, param_name, is_inner, inner_name, own_names, first_name, full, full_name, type_name, is_among}
use Rattle.p4_meaning.specs.Under.{no_scope, with_constant, with_type, in_parser, in_control, behind_top, behind_locals, settings_under, stmt_under, stmts_under, state_under, keyset_under, expr_under, case_under, transition_under}
use Rattle.p4_meaning.specs.Actions.{Action, action_under, actions_in, actions_of, action_named}
use Rattle.p4_meaning.specs.Tables.{Table, table_under, tables_in, tables_of, table_named}
use Rattle.p4_meaning.specs.Parts.{Cells, Body, whole, parser_named, control_named, scope_at_parser, scope_at_control, struct_fields, header_fields, types_of, field_of, header_of, registers_in, registers_of, body_of, states_of, parser_type, emits_of, named_in, control_in, body_in, parser_in, states_in, parts_of, cells_under}
use Rattle.p4_meaning.specs.Pass.{zero_cells, start_cells}
use Rattle.own_code.specs.Regions.{is_mine}
use Rattle.own_code.proofs.Apart.{text_decides, apart_names}
use Rattle.packet_lengths.specs.Lengths.{plain_stmts, plain_action, plain_table, plain_state}
use Rattle.monitor_laws.specs.Names.{mark_path, tele_header, rejects_register, first_name as first_flag, last_name as last_flag}
use Rattle.monitor_laws.specs.Trees.{number, only_if}
use Rattle.monitor_laws.specs.Telemetry.{mark_field}
use Rattle.monitor_laws.specs.Monitor.{Monitor, flag_locals}
use Rattle.linked_halves.specs.Statements as around
use Rattle.linked_halves.specs.Statements.{is_port_of, vars_of}
use Rattle.linked_halves.specs.ParserStates as states
use Rattle.linked_halves.specs.ParserStates.{link_case, link_cases, renamed_case, renamed_state, renamed_transition, own_name}
use Rattle.linked_halves.specs.LinkedParts.{Joins, rejects_cells, linked_parts, telemetry, length_field, plain_body}
use Rattle.own_programs.specs.OwnPrograms.{is_own}
use Rattle.p4_rule_laws.specs.Old.{OldType, OldFields}
use Rattle.p4_rule_laws.specs.OldPrograms.{OldLocals, OldTops, OldControl, OldStates}
use Rattle.linked_programs.specs.Lowered.{Lowered}
use Rattle.linked_programs.specs.Rewritten.{state_with}
use Rattle.linked_programs.specs.Linked as tree
use Rattle.linked_programs.specs.Linked.{Place, is_ingress, is_egress, is_deparser, is_other, place_in, control_roots, parser_roots, packet_name, tele_name, entry_stmt, exit_stmt, locals_at, control_at, linked_parser, linked_top, linked, more_fields, headers_type, metadata_type, tele_field}
use Rattle.linked_programs.specs.Gives.{Halves, FindsMonitors, Sees, StandForRoots, GivesMonitor, IsLoweredLocal}
use Rattle.linked_programs.specs.Reads.{StmtsReadIn}
use Rattle.p4_rule_laws.specs.Growth.{has_struct}
use Rattle.linked_programs.specs.Ready.{ReadyApply, ReadyControl, ReadyParser, AreReady, AreTheOnes, IsReady}
use Rattle.linked_programs.specs.Woven.{added, woven, action_blocks, table_blocks, declared, PartsAreLinked}
use Rattle.own_programs.proofs.Names.{own_not, name_own}
use Rattle.linked_programs.proofs.RewrittenUnder.{states_same}
use Rattle.linked_programs.proofs.WiderScopes.{wider, full_wider, with_constant_wider, stmts_wider, states_wider, behind_wider, registers_wider}
use Rattle.linked_programs.proofs.LinkedTops.{switch_constants, switch_mine, no_control, no_parser, no_struct, own_header, scope_control, scope_parser, scope_behind, front_registers, front_actions, front_tables, found_header, found, found_parser, at_control, at_parser, scopes, structs, headers}
use Rattle.linked_programs.proofs.Joined.{at_ingress, at_egress, has, woven_own, woven_mine, action_app, table_app, no_action_named, no_table_named, flat_actions, flat_tables}
use Rattle.linked_programs.proofs.LinkerCode.{entry_under, exit_under, then_under, entry_reads, exit_reads, reads_then}
use Rattle.linked_programs.proofs.LinkedControls as of
use Rattle.linked_programs.proofs.LinkedControls.{OwnScope, behind_is, vars_then, sums_same}

map_both : {A B : Type 0} (f : A → B) (xs ys : List A) → map f (xs ++ ys) ≡ map f xs ++ map f ys
map_both f [] ys = refl
map_both {B = B} f (x ∷ xs) ys = ap (λ (zs : List B). f x ∷ zs) (map_both f xs ys)

all_parts : {A : Type 0} (P : A → Type 0) (xs ys : List A) → AllByRecursion P (xs ++ ys) → AllByRecursion P xs × AllByRecursion P ys
all_parts P [] ys a = (tt, a)
all_parts P (x ∷ xs) ys a = (let more = all_parts P xs ys a.1 in ((a.0, more.0), more.1))

either_true : (a b : Bool) → b ≡ true → (a || b) ≡ true
either_true true b f = refl
either_true false b f = f

-- ---- the parser

cases_under : (sc : Scope) (linked_ports : List ℕ) → map (case_under sc) (link_cases linked_ports) ≡ link_cases linked_ports
cases_under sc [] = refl
cases_under sc (n ∷ ns) = ap (λ (cs : List Case). link_case n ∷ cs) (cases_under sc ns)

cases_renamed : (sc : Scope) (cs : List Case) → map (case_under sc) (map renamed_case cs) ≡ map renamed_case (map (case_under sc) cs)
cases_renamed sc [] = refl
cases_renamed sc (c ∷ cs) = ap (λ (xs : List Case). (record { keys = map (keyset_under sc) c.keys; next = own_name c.next }) ∷ xs) (cases_renamed sc cs)

renamed_under : (sc : Scope) (s : ParserState) → state_under sc (renamed_state s) ≡ renamed_state (state_under sc s)
renamed_under sc s = ap (λ (t : Transition). record { at = s.at; name = own_name s.name; body = map (stmt_under sc) s.body; next = t }) (go s.next)
  where
    go : (t : Transition) → transition_under sc (renamed_transition t) ≡ renamed_transition (transition_under sc t)
    go (nowhere p) = refl
    go (to p x) = refl
    go (select p es cs) = ap (select p (map (expr_under sc) es)) (cases_renamed sc cs)

module _ (sc : Scope) (r : Roots) where
  own_states : (ss : List ParserState) → map (state_under sc) (map (tree.own_state r) ss) ≡ map renamed_state (map (state_under sc) (map (state_with r) ss))
  own_states [] = refl
  own_states (s ∷ ss) = ap₂ (λ (x : ParserState) (xs : List ParserState). x ∷ xs) (renamed_under sc (state_with r s)) (own_states ss)

renamed_plain : (ss : List ParserState) → map renamed_state (map plain_state ss) ≡ map states.own_state ss
renamed_plain [] = refl
renamed_plain (s ∷ ss) = ap (λ (xs : List ParserState). states.own_state s ∷ xs) (renamed_plain ss)

outside : (o : Option Inner) (c x y : List ℕ) → o ≡ None → cond (is_inner o x) (inner_name o c x) y ≡ y
outside None c x y e = refl
outside (Some i) c x y e = absurd (cc e)

-- outside parsers and controls
pub record TopScope (sc : Scope) : Type 0 where
  pub is_own_scope : OwnScope sc
  pub none_own : sc.own ≡ []

module _ (size s : ℕ) (links : List ℕ) (sc : Scope) (top : TopScope sc) (d : Parser) (ready : ReadyParser sc d) (o : OldStates is_own d.states) where
  abbrev pr : Roots
  pr = parser_roots d

  abbrev PS : Scope
  PS = in_parser sc d

  abbrev PX : Scope
  PX = wider [] (switch_constants s) PS

  abbrev first_form : (meta standard : List ℕ) → List Case → ParserState
  first_form m x cs =
      record {
        at = 0;
        name = codes "start";
        body = assign 0 (m ∷ codes "hydra_length" ∷ []) (path 0 (x ∷ codes "packet_length" ∷ [])) ∷ [];
        next = select 0 (path 0 (x ∷ codes "ingress_port" ∷ []) ∷ []) cs;
      }

  abbrev taken_form : (packet headers meta standard : List ℕ) → ParserState
  taken_form p h m x =
      record {
        at = 0;
        name = codes "hydra_taken";
        body =
            call 0 (p ∷ codes "extract" ∷ []) (one 0 (path 0 (h ∷ tele_name ∷ [])) ∷ [])
            ∷ assign 0 (m ∷ codes "hydra_length" ∷ []) (binary 0 p4.Sub (path 0 (x ∷ codes "packet_length" ∷ [])) (number 0 size)) ∷ [];
        next = to 0 (codes "hydra_start");
      }

  packet_same : full_name PX (packet_name d) ≡ packet_name d
  packet_same = ap (λ (xs : List (List ℕ)). cond (is_among xs (packet_name d)) (full sc.control (packet_name d)) (packet_name d)) top.none_own

  pub parser_linked : states_of (wider [] (switch_constants s) sc) (Some (linked_parser size links d)) ≡ states.first_state links ∷ states.taken_state (packet_name d) size ∷ map states.own_state (states_of sc (Some d))
  parser_linked =
      λ i.
      first_form (ready.roots.metadata i) (ready.roots.standard i) (cases_under PX links i)
      ∷ taken_form (packet_same i) (ready.roots.headers i) (ready.roots.metadata i) (ready.roots.standard i)
      ∷ (own_states PX pr d.states ∙ ap (map renamed_state) (states_same PX pr ready.roots.metadata d.states ready.states ∙ ap (map plain_state) (states_wider [] (switch_constants s) tt (switch_mine s) PS d.states o)) ∙ renamed_plain (map (state_under PS) d.states)) i

-- ---- registers

cells_behind : (ms fs : List Cells) (x : List ℕ) → AllByRecursion (λ (c : Cells). is_mine c.name ≡ true) ms → is_mine x ≡ false → start_cells (ms ++ fs) x ≡ start_cells fs x
cells_behind [] fs x a n = refl
cells_behind (c ∷ ms) fs x a n = ap (λ (b : Bool). cond b (zero_cells (sound_width c.width) c.count) (start_cells (ms ++ fs) x)) (apart_names is_mine c.name x a.0 n) ∙ cells_behind ms fs x a.1 n

no_cells : (fs : List Cells) (x : List ℕ) → AllByRecursion (λ (c : Cells). is_own c.name ≡ true) fs → is_mine x ≡ true → start_cells fs x ≡ []
no_cells [] x a n = refl
no_cells (c ∷ fs) x a n = ap (λ (b : Bool). cond b (zero_cells (sound_width c.width) c.count) (start_cells fs x)) (apart_names is_own c.name x a.0 (ap not n)) ∙ no_cells fs x a.1 n

cells_front : (ms fs : List Cells) (x : List ℕ) → AllByRecursion (λ (c : Cells). is_own c.name ≡ true) fs → is_mine x ≡ true → start_cells (ms ++ fs) x ≡ start_cells ms x
cells_front [] fs x a n = no_cells fs x a n
cells_front (c ∷ ms) fs x a n = ap (cond (same_text c.name x) (zero_cells (sound_width c.width) c.count)) (cells_front ms fs x a n)

locals_own : (ls : List Local) (sc : Scope) (rest : List Cells) → OldLocals is_own ls → AllByRecursion (λ (c : Cells). is_own c.name ≡ true) rest → AllByRecursion (λ (c : Cells). is_own c.name ≡ true) (registers_in sc ls ++ rest)
locals_own [] sc rest o a = a
locals_own (local_action q k ∷ ls) sc rest o a = locals_own ls sc rest o.1 a
locals_own (local_table q k ∷ ls) sc rest o a = locals_own ls sc rest o.1 a
locals_own (local_register q k ∷ ls) sc rest o a = (name_own sc k.name o.0.0, locals_own ls sc rest o.1 a)
locals_own (local_const q ty y v ∷ ls) sc rest o a = locals_own ls sc rest o.1 a
locals_own (local_var q ty y v ∷ ls) sc rest o a = locals_own ls sc rest o.1 a

registers_own : (ts : List Top) (sc : Scope) → OldTops is_own ts → AllByRecursion (λ (c : Cells). is_own c.name ≡ true) (registers_of sc ts)
registers_own [] sc o = tt
registers_own (constant q ty y v ∷ ts) sc o = registers_own ts (behind_top sc (constant q ty y v)) o.1
registers_own (typedef q ty y ∷ ts) sc o = registers_own ts (behind_top sc (typedef q ty y)) o.1
registers_own (header_type q y fs ∷ ts) sc o = registers_own ts sc o.1
registers_own (struct_type q y fs ∷ ts) sc o = registers_own ts sc o.1
registers_own (register q d ∷ ts) sc o = (name_own sc d.name o.0.0, registers_own ts sc o.1)
registers_own (parser q d ∷ ts) sc o = registers_own ts sc o.1
registers_own (control q c ∷ ts) sc o = locals_own c.locals (in_control 0 1 2 sc c) (registers_of sc ts) o.0.locals (registers_own ts sc o.1)

-- ---- fields

pub fields_old : (ts : List Top) (x : List ℕ) → OldTops is_own ts → OldFields is_own (struct_fields ts x)
fields_old [] x o = tt
fields_old (struct_type p y fs ∷ ts) x o = go (same_text y x) (fields_old ts x o.1)
  where
    go : (b : Bool) → OldFields is_own (struct_fields ts x) → OldFields is_own (cond b fs (struct_fields ts x))
    go true h = o.0.1
    go false h = h
fields_old (constant p t y e ∷ ts) x o = fields_old ts x o.1
fields_old (typedef p t y ∷ ts) x o = fields_old ts x o.1
fields_old (header_type p y fs ∷ ts) x o = fields_old ts x o.1
fields_old (register p r ∷ ts) x o = fields_old ts x o.1
fields_old (parser p d ∷ ts) x o = fields_old ts x o.1
fields_old (control p c ∷ ts) x o = fields_old ts x o.1

type_own : (ty : PTy) → OldType is_own ty → is_own (type_name ty) ≡ true
type_own (type.Bit w) o = refl
type_own type.Bool o = refl
type_own (type.Named t) o = o

abbrev around_entry : (mark : ℕ) → Expr → Stmts → Stmt
around_entry n t b = only_if (negation 0 t) (next (around.on_header (codes "setValid")) (next (assign 0 mark_path (number 8 n)) b))

abbrev around_exit : (arrived leaves : Expr) → Stmts → Stmt
around_exit a l b =
    only_if (binary 0 p4.Differ (path 0 egress_spec) (number 0 511))
    (next (assign 0 (first_flag ∷ []) (negation 0 a)) (next (assign 0 (last_flag ∷ []) (negation 0 l)) (and_then b around.last_test)))

-- ---- controls

module _ {T Z C : Type 0} (l : Lowered) (m : Monitor T Z C) (h : Halves) (p : Program) (i e : Control) (gives : GivesMonitor l m h i.name e.name (control_roots i) (control_roots e)) (s : ℕ) (links : List ℕ) where
  abbrev size : ℕ
  size = suc m.room

  abbrev new : List Top → List Top
  new ts = map (linked_top l size links p) ts

  abbrev ks : List (List ℕ × Word)
  ks = switch_constants s

  abbrev W : Scope → Scope
  W sc = wider [] ks sc

  -- what a lowering gives holds of the control that is ingress, and of the one that is egress
  at_entry : (c : Control) → i ≡ c → GivesMonitor l m h c.name e.name (control_roots c) (control_roots e)
  at_entry c same = subst (λ (z : Control). GivesMonitor l m h z.name e.name (control_roots z) (control_roots e)) same gives

  at_exit : (c : Control) → e ≡ c → GivesMonitor l m h i.name c.name (control_roots i) (control_roots c)
  at_exit c same = subst (λ (z : Control). GivesMonitor l m h i.name z.name (control_roots i) (control_roots z)) same gives

  module _ (sc : Scope) (top : TopScope sc) (c : Control) (o : OldControl is_own c) where
    own : OwnScope sc
    own = top.is_own_scope

    abbrev S : Scope
    S = in_control 0 1 2 sc c

    at_front : (ready : ReadyApply sc c) (a : List Local) → AllByRecursion IsLoweredLocal a → Sees s c.name (control_roots c) (own_names a) (wider (own_names a) ks S) × StandForRoots (control_roots c) (wider (own_names a) ks S)
    at_front ready a low = (of.sees_front s sc own c o ready a low, of.roots_front s sc own c o ready a low)

    at_body : (ready : ReadyApply sc c) (a : List Local) → AllByRecursion IsLoweredLocal a → Sees s c.name (control_roots c) (own_names a) (wider (own_names a) ks (behind_locals S c.locals)) × StandForRoots (control_roots c) (wider (own_names a) ks (behind_locals S c.locals))
    at_body ready a low = (of.sees_body s sc own c o ready a low, of.roots_body s sc own c o ready a low)

    control_registers : (k : Place) → ReadyControl k sc c → registers_in (in_control 0 1 2 (W sc) (control_at l links k c)) (locals_at l links k c) ≡ registers_in S c.locals
    control_registers is_ingress ready = of.half_registers s sc own c o ready l.entry_locals gives.entry_locals
    control_registers is_egress ready = of.half_registers s sc own c o ready l.exit_locals gives.exit_locals
    control_registers is_deparser ready = registers_wider [] ks tt (switch_mine s) c.locals S o.locals
    control_registers is_other ready = registers_wider [] ks tt (switch_mine s) c.locals S o.locals

    abbrev IsPlaced : Place → Type 0
    IsPlaced k = (k ≡ is_ingress → i ≡ c) × (k ≡ is_egress → e ≡ c)

    control_actions : (k : Place) → ReadyControl k sc c → IsPlaced k → actions_in (in_control 0 1 2 (W sc) (control_at l links k c)) (locals_at l links k c) ≡ map plain_action (added h.entry_actions h.exit_actions k ++ actions_in S c.locals)
    control_actions is_ingress ready places =
        let g = at_entry c (places.0 refl) in
        let at = at_front ready l.entry_locals gives.entry_locals in
        of.half_actions s sc own c o ready l.entry_locals gives.entry_locals (g.entry_reads s (wider (own_names l.entry_locals) ks S) at).0 h.entry_actions (g.entry_actions s (wider (own_names l.entry_locals) ks S) at)
    control_actions is_egress ready places =
        let g = at_exit c (places.1 refl) in
        let at = at_front ready l.exit_locals gives.exit_locals in
        of.half_actions s sc own c o ready l.exit_locals gives.exit_locals (g.exit_reads s (wider (own_names l.exit_locals) ks S) at).0 h.exit_actions (g.exit_actions s (wider (own_names l.exit_locals) ks S) at)
    control_actions is_deparser ready places = subst (λ (ls : List Local). actions_in (W S) ls ≡ map plain_action (actions_in S ls)) (sym ready) refl
    control_actions is_other ready places = subst (λ (ls : List Local). actions_in (W S) ls ≡ map plain_action (actions_in S ls)) (sym ready.locals) refl

    control_tables : (as' bs : List Action) → ((x : List ℕ) → is_own x ≡ true → action_named bs x ≡ action_named as' x) → FindsMonitors bs m.actions → (k : Place) → ReadyControl k sc c → IsPlaced k
        → tables_in (in_control 0 1 2 (W sc) (control_at l links k c)) (map plain_action bs) (locals_at l links k c) ≡ map plain_table (added h.entry_tables h.exit_tables k ++ tables_in S as' c.locals)
    control_tables as' bs same finds is_ingress ready places =
        let g = at_entry c (places.0 refl) in
        let at = at_front ready l.entry_locals gives.entry_locals in
        of.half_tables s sc own c o ready l.entry_locals gives.entry_locals (g.entry_reads s (wider (own_names l.entry_locals) ks S) at).0 as' bs same h.entry_tables (g.entry_tables s (wider (own_names l.entry_locals) ks S) at bs finds)
    control_tables as' bs same finds is_egress ready places =
        let g = at_exit c (places.1 refl) in
        let at = at_front ready l.exit_locals gives.exit_locals in
        of.half_tables s sc own c o ready l.exit_locals gives.exit_locals (g.exit_reads s (wider (own_names l.exit_locals) ks S) at).0 as' bs same h.exit_tables (g.exit_tables s (wider (own_names l.exit_locals) ks S) at bs finds)
    control_tables as' bs same finds is_deparser ready places = subst (λ (ls : List Local). tables_in (W S) (map plain_action bs) ls ≡ map plain_table (tables_in S as' ls)) (sym ready) refl
    control_tables as' bs same finds is_other ready places = subst (λ (ls : List Local). tables_in (W S) (map plain_action bs) ls ≡ map plain_table (tables_in S as' ls)) (sym ready.locals) refl

    -- ---- what controls run

    ingress_body : (ready : ReadyControl is_ingress sc c) → i ≡ c → body_of 0 1 2 (W sc) (Some (control_at l links is_ingress c))
        ≡ plain_body (record { locals = vars_of m.entry_locals (settings_under S c.locals); body = next (around.entry_stmt m s links) (stmts_under (behind_locals S c.locals) c.apply) })
    ingress_body ready same =
        let g = at_entry c same in
        let es = own_names l.entry_locals in
        let B = behind_locals S c.locals in
        let r = control_roots c in
        let low = gives.entry_locals in
        let at = at_front ready l.entry_locals low in
        let in_body = at_body ready l.entry_locals low in
        let settings = of.half_settings s sc own c o ready l.entry_locals low (g.entry_reads s (wider es ks S) at).0 (vars_of m.entry_locals done) (g.entry_vars s (wider es ks S) at) ∙ ap plain_stmts (vars_then m.entry_locals (settings_under S c.locals)) in
        let reads : StmtsReadIn (wider es ks B) r (next (entry_stmt r links l.mark l.entry) c.apply) = (entry_reads (first_name (wider es ks B)) r links l.mark l.entry (g.entry_reads s (wider es ks B) in_body).1, ready.apply) in
        let code = of.half_body s sc own c o ready l.entry_locals low (next (entry_stmt r links l.mark l.entry) c.apply) reads in
        let entry = entry_under r (wider es ks B) in_body.1 links l.mark l.entry ∙ ap (λ n. around_entry n (is_port_of ingress_port links) (stmts_under (wider es ks B) l.entry)) g.marked ∙ ap (around_entry m.mark (is_port_of ingress_port links)) (g.entry s (wider es ks B) in_body) in
        let both = ap₂ next entry (of.apply_wider s sc own c o ready l.entry_locals low) in
        ap₂ (λ (a b : Stmts). record { locals = a; body = b }) settings (code ∙ ap plain_stmts both)

    egress_body : (ready : ReadyControl is_egress sc c) → e ≡ c → body_of 0 1 2 (W sc) (Some (control_at l links is_egress c))
        ≡ plain_body (record { locals = vars_of (flag_locals ++ m.exit_locals) (settings_under S c.locals); body = and_then (stmts_under (behind_locals S c.locals) c.apply) (next (around.exit_stmt m s links) done) })
    egress_body ready same =
        let g = at_exit c same in
        let es = own_names l.exit_locals in
        let B = behind_locals S c.locals in
        let r = control_roots c in
        let low = gives.exit_locals in
        let at = at_front ready l.exit_locals low in
        let in_body = at_body ready l.exit_locals low in
        let settings = of.half_settings s sc own c o ready l.exit_locals low (g.exit_reads s (wider es ks S) at).0 (vars_of (flag_locals ++ m.exit_locals) done) (g.exit_vars s (wider es ks S) at) ∙ ap plain_stmts (vars_then (flag_locals ++ m.exit_locals) (settings_under S c.locals)) in
        let reads = reads_then (first_name (wider es ks B)) r c.apply (next (exit_stmt r links l.exit) done) ready.apply (exit_reads (first_name (wider es ks B)) r links l.exit (g.exit_reads s (wider es ks B) in_body).1, tt) in
        let code = of.half_body s sc own c o ready l.exit_locals low (and_then c.apply (next (exit_stmt r links l.exit) done)) reads in
        let exit = exit_under r (wider es ks B) (of.stage s sc own c o ready l.exit_locals low gives.no_rejects) links l.exit ∙ ap (around_exit (is_port_of ingress_port links) (is_port_of egress_port links)) (g.exit s (wider es ks B) in_body) in
        let both = then_under (wider es ks B) c.apply (next (exit_stmt r links l.exit) done) ∙ ap₂ and_then (of.apply_wider s sc own c o ready l.exit_locals low) (ap (λ (z : Stmt). next z done) exit) in
        ap₂ (λ (a b : Stmts). record { locals = a; body = b }) settings (code ∙ ap plain_stmts both)

    sums_body : ReadyControl is_other sc c → whole (body_of 0 1 9 (W sc) (Some (control_at l links is_other c))) ≡ plain_stmts (whole (body_of 0 1 9 sc (Some c)))
    sums_body ready = sums_same s sc c o ready

    emit_root : first_name (behind_locals (in_control 1 9 9 sc c) c.locals) (param_name (param_at c.params 1)) ≡ headers_root
    emit_root =
        ap (λ (z : Scope). first_name z (param_name (param_at c.params 1))) (behind_is c.locals (in_control 1 9 9 sc c))
        ∙ outside sc.inner c.name (param_name (param_at c.params 1)) (root_of (in_control 1 9 9 sc c).roots (param_name (param_at c.params 1))) own.outer
        ∙ ap (λ (b : Bool). cond b headers_root (cond (same_text (param_name (param_at c.params 9)) (param_name (param_at c.params 1))) metadata_root (cond (same_text (param_name (param_at c.params 9)) (param_name (param_at c.params 1))) standard_root (param_name (param_at c.params 1))))) ((text_decides (param_name (param_at c.params 1)) (param_name (param_at c.params 1))).1 refl)

    deparser_emits : emits_of (body_of 1 9 9 (W sc) (Some (control_at l links is_deparser c))).body ≡ tele_header ∷ emits_of (body_of 1 9 9 sc (Some c)).body
    deparser_emits =
        ap (λ (z : Scope). emits_of (stmts_under z (next (tree.emit_call c) c.apply))) (behind_wider [] ks tt (switch_mine s) c.locals (in_control 1 9 9 sc c) o.locals)
        ∙ ap₂ (λ (x : List ℕ) (b : Stmts). (x ∷ tele_name ∷ []) ∷ emits_of b) emit_root (stmts_wider [] ks tt (switch_mine s) (behind_locals (in_control 1 9 9 sc c) c.locals) c.apply o.apply)

  -- ---- along the declarations

  next_constant : (sc : Scope) (ty : PTy) (y : List ℕ) (v : Expr) → is_own y ≡ true → TopScope sc → TopScope (with_constant sc ty y v)
  next_constant sc ty y v n top = record { is_own_scope = record { outer = top.is_own_scope.outer; constants = (n, top.is_own_scope.constants) }; none_own = top.none_own }

  next_type : (sc : Scope) (ty : PTy) (y : List ℕ) → TopScope sc → TopScope (with_type sc ty y)
  next_type sc ty y top = record { is_own_scope = record { outer = top.is_own_scope.outer; constants = top.is_own_scope.constants }; none_own = top.none_own }

  registers_walk : (ts : List Top) (sc : Scope) → TopScope sc → OldTops is_own ts → AreReady p.main sc ts → registers_of (W sc) (new ts) ≡ registers_of sc ts
  registers_walk [] sc top o g = refl
  registers_walk (constant q ty y v ∷ ts) sc top o g = ap (λ (sd : Scope). registers_of sd (new ts)) (with_constant_wider [] ks tt (switch_mine s) sc ty y v o.0.2) ∙ registers_walk ts (with_constant sc ty y v) (next_constant sc ty y v o.0.1 top) o.1 g
  registers_walk (typedef q ty y ∷ ts) sc top o g = registers_walk ts (with_type sc ty y) (next_type sc ty y top) o.1 g
  registers_walk (header_type q y fs ∷ ts) sc top o g = registers_walk ts sc top o.1 g
  registers_walk (struct_type q y fs ∷ ts) sc top o g = registers_walk ts sc top o.1 g
  registers_walk (register q d ∷ ts) sc top o g = ap₂ (λ (x : List ℕ) (xs : List Cells). (record (cells_under sc d) { name = x }) ∷ xs) (full_wider [] ks tt (switch_mine s) sc d.name o.0.0) (registers_walk ts sc top o.1 g)
  registers_walk (parser q d ∷ ts) sc top o g = registers_walk ts sc top o.1 g.1
  registers_walk (control q c ∷ ts) sc top o g = ap₂ (λ (xs ys : List Cells). xs ++ ys) (control_registers sc top c o.0 (place_in p.main c.name) g.0) (registers_walk ts sc top o.1 g.1)

  actions_walk : (ts : List Top) (sc : Scope) → TopScope sc → OldTops is_own ts → AreReady p.main sc ts → AreTheOnes p.main i e ts → actions_of (W sc) (new ts) ≡ map plain_action (woven h.entry_actions h.exit_actions (action_blocks p.main sc ts))
  actions_walk [] sc top o g u = refl
  actions_walk (constant q ty y v ∷ ts) sc top o g u = ap (λ (sd : Scope). actions_of sd (new ts)) (with_constant_wider [] ks tt (switch_mine s) sc ty y v o.0.2) ∙ actions_walk ts (with_constant sc ty y v) (next_constant sc ty y v o.0.1 top) o.1 g u
  actions_walk (typedef q ty y ∷ ts) sc top o g u = actions_walk ts (with_type sc ty y) (next_type sc ty y top) o.1 g u
  actions_walk (header_type q y fs ∷ ts) sc top o g u = actions_walk ts sc top o.1 g u
  actions_walk (struct_type q y fs ∷ ts) sc top o g u = actions_walk ts sc top o.1 g u
  actions_walk (register q d ∷ ts) sc top o g u = actions_walk ts sc top o.1 g u
  actions_walk (parser q d ∷ ts) sc top o g u = actions_walk ts sc top o.1 g.1 u
  actions_walk (control q c ∷ ts) sc top o g u =
      ap₂ (λ (xs ys : List Action). xs ++ ys) (control_actions sc top c o.0 (place_in p.main c.name) g.0 (u.0, u.1)) (actions_walk ts sc top o.1 g.1 u.2)
      ∙ sym (map_both plain_action (added h.entry_actions h.exit_actions (place_in p.main c.name) ++ actions_in (in_control 0 1 2 sc c) c.locals) (woven h.entry_actions h.exit_actions (action_blocks p.main sc ts)))

  module _ (as' bs : List Action) (same : (x : List ℕ) → is_own x ≡ true → action_named bs x ≡ action_named as' x) (finds : FindsMonitors bs m.actions) where
    tables_walk : (ts : List Top) (sc : Scope) → TopScope sc → OldTops is_own ts → AreReady p.main sc ts → AreTheOnes p.main i e ts → tables_of (W sc) (map plain_action bs) (new ts) ≡ map plain_table (woven h.entry_tables h.exit_tables (table_blocks p.main sc as' ts))
    tables_walk [] sc top o g u = refl
    tables_walk (constant q ty y v ∷ ts) sc top o g u = ap (λ (sd : Scope). tables_of sd (map plain_action bs) (new ts)) (with_constant_wider [] ks tt (switch_mine s) sc ty y v o.0.2) ∙ tables_walk ts (with_constant sc ty y v) (next_constant sc ty y v o.0.1 top) o.1 g u
    tables_walk (typedef q ty y ∷ ts) sc top o g u = tables_walk ts (with_type sc ty y) (next_type sc ty y top) o.1 g u
    tables_walk (header_type q y fs ∷ ts) sc top o g u = tables_walk ts sc top o.1 g u
    tables_walk (struct_type q y fs ∷ ts) sc top o g u = tables_walk ts sc top o.1 g u
    tables_walk (register q d ∷ ts) sc top o g u = tables_walk ts sc top o.1 g u
    tables_walk (parser q d ∷ ts) sc top o g u = tables_walk ts sc top o.1 g.1 u
    tables_walk (control q c ∷ ts) sc top o g u =
        ap₂ (λ (xs ys : List Table). xs ++ ys) (control_tables sc top c o.0 as' bs same finds (place_in p.main c.name) g.0 (u.0, u.1)) (tables_walk ts sc top o.1 g.1 u.2)
        ∙ sym (map_both plain_table (added h.entry_tables h.exit_tables (place_in p.main c.name) ++ tables_in (in_control 0 1 2 sc c) as' c.locals) (woven h.entry_tables h.exit_tables (table_blocks p.main sc as' ts)))

  -- where a control of a name stands, and what is known there
  record Stands (ts : List Top) (sc : Scope) (x : List ℕ) (c : Control) : Type 0 where
    top : TopScope (scope_at_control sc ts x)
    old : OldControl is_own c
    ready : ReadyControl (place_in p.main c.name) (scope_at_control sc ts x) c
    named : c.name ≡ x
    entry : place_in p.main c.name ≡ is_ingress → i ≡ c
    exit : place_in p.main c.name ≡ is_egress → e ≡ c

  further : (t : Top) (ts : List Top) (sc sd : Scope) (x : List ℕ) (c : Control) → scope_at_control sc (t ∷ ts) x ≡ scope_at_control sd ts x → Stands ts sd x c → Stands (t ∷ ts) sc x c
  further t ts sc sd x c same k =
      record { top = subst TopScope (sym same) k.top; old = k.old; ready = subst (λ (z : Scope). ReadyControl (place_in p.main c.name) z c) (sym same) k.ready; named = k.named; entry = k.entry; exit = k.exit }

  stands : (ts : List Top) (sc : Scope) → TopScope sc → OldTops is_own ts → AreReady p.main sc ts → AreTheOnes p.main i e ts → (x : List ℕ) (c : Control) → control_named ts x ≡ Some c → Stands ts sc x c
  stands [] sc top o g u x c f = absurd (cc f)
  stands (constant q ty y v ∷ ts) sc top o g u x c f = further (constant q ty y v) ts sc (with_constant sc ty y v) x c refl (stands ts (with_constant sc ty y v) (next_constant sc ty y v o.0.1 top) o.1 g u x c f)
  stands (typedef q ty y ∷ ts) sc top o g u x c f = further (typedef q ty y) ts sc (with_type sc ty y) x c refl (stands ts (with_type sc ty y) (next_type sc ty y top) o.1 g u x c f)
  stands (header_type q y fs ∷ ts) sc top o g u x c f = further (header_type q y fs) ts sc sc x c refl (stands ts sc top o.1 g u x c f)
  stands (struct_type q y fs ∷ ts) sc top o g u x c f = further (struct_type q y fs) ts sc sc x c refl (stands ts sc top o.1 g u x c f)
  stands (register q d ∷ ts) sc top o g u x c f = further (register q d) ts sc sc x c refl (stands ts sc top o.1 g u x c f)
  stands (parser q d ∷ ts) sc top o g u x c f = further (parser q d) ts sc sc x c refl (stands ts sc top o.1 g.1 u x c f)
  stands (control q d ∷ ts) sc top o g u x c f = go (same_text d.name x) refl f (stands ts sc top o.1 g.1 u.2 x c)
    where
      go : (b : Bool) → same_text d.name x ≡ b → cond b (Some d) (control_named ts x) ≡ Some c → (control_named ts x ≡ Some c → Stands ts sc x c) → Stands (control q d ∷ ts) sc x c
      go true a f more =
          (let same : d ≡ c = cc f in
          let at : scope_at_control sc (control q d ∷ ts) x ≡ sc = ap (λ (b : Bool). cond b sc (scope_at_control sc ts x)) a in
          record {
            top = subst TopScope (sym at) top;
            old = subst (OldControl is_own) same o.0;
            ready = subst (λ (z : Scope). ReadyControl (place_in p.main c.name) z c) (sym at) (subst (λ (z : Control). ReadyControl (place_in p.main z.name) sc z) same g.0);
            named = sym (ap (λ (z : Control). z.name) same) ∙ (text_decides d.name x).0 a;
            entry = subst (λ (z : Control). place_in p.main z.name ≡ is_ingress → i ≡ z) same u.0;
            exit = subst (λ (z : Control). place_in p.main z.name ≡ is_egress → e ≡ z) same u.1;
          })
      go false a f more = further (control q d) ts sc sc x c (ap (λ (b : Bool). cond b sc (scope_at_control sc ts x)) a) (more f)

  -- where the parser stands
  record ParserStands (ts : List Top) (sc : Scope) (x : List ℕ) (d : Parser) : Type 0 where
    top : TopScope (scope_at_parser sc ts x)
    old : OldStates is_own d.states
    ready : ReadyParser (scope_at_parser sc ts x) d

  parser_further : (t : Top) (ts : List Top) (sc sd : Scope) (x : List ℕ) (d : Parser) → scope_at_parser sc (t ∷ ts) x ≡ scope_at_parser sd ts x → ParserStands ts sd x d → ParserStands (t ∷ ts) sc x d
  parser_further t ts sc sd x d same k = record { top = subst TopScope (sym same) k.top; old = k.old; ready = subst (λ (z : Scope). ReadyParser z d) (sym same) k.ready }

  parsers : (ts : List Top) (sc : Scope) → TopScope sc → OldTops is_own ts → AreReady p.main sc ts → (x : List ℕ) (d : Parser) → parser_named ts x ≡ Some d → ParserStands ts sc x d
  parsers [] sc top o g x d f = absurd (cc f)
  parsers (constant q ty y v ∷ ts) sc top o g x d f = parser_further (constant q ty y v) ts sc (with_constant sc ty y v) x d refl (parsers ts (with_constant sc ty y v) (next_constant sc ty y v o.0.1 top) o.1 g x d f)
  parsers (typedef q ty y ∷ ts) sc top o g x d f = parser_further (typedef q ty y) ts sc (with_type sc ty y) x d refl (parsers ts (with_type sc ty y) (next_type sc ty y top) o.1 g x d f)
  parsers (header_type q y fs ∷ ts) sc top o g x d f = parser_further (header_type q y fs) ts sc sc x d refl (parsers ts sc top o.1 g x d f)
  parsers (struct_type q y fs ∷ ts) sc top o g x d f = parser_further (struct_type q y fs) ts sc sc x d refl (parsers ts sc top o.1 g x d f)
  parsers (register q r ∷ ts) sc top o g x d f = parser_further (register q r) ts sc sc x d refl (parsers ts sc top o.1 g x d f)
  parsers (control q c ∷ ts) sc top o g x d f = parser_further (control q c) ts sc sc x d refl (parsers ts sc top o.1 g.1 x d f)
  parsers (parser q b ∷ ts) sc top o g x d f = go (same_text b.name x) refl f (parsers ts sc top o.1 g.1 x d)
    where
      go : (t : Bool) → same_text b.name x ≡ t → cond t (Some b) (parser_named ts x) ≡ Some d → (parser_named ts x ≡ Some d → ParserStands ts sc x d) → ParserStands (parser q b ∷ ts) sc x d
      go true a f more =
          (let same : b ≡ d = cc f in
          let at : scope_at_parser sc (parser q b ∷ ts) x ≡ sc = ap (λ (t : Bool). cond t sc (scope_at_parser sc ts x)) a in
          record {
            top = subst TopScope (sym at) top;
            old = subst (λ (z : Parser). OldStates is_own z.states) same o.0.states;
            ready = subst (λ (z : Scope). ReadyParser z d) (sym at) (subst (ReadyParser sc) same g.0);
          })
      go false a f more = parser_further (parser q b) ts sc sc x d (ap (λ (t : Bool). cond t sc (scope_at_parser sc ts x)) a) (more f)

  -- ---- what is found among the program's own and the monitor's

  no_own_action : (sc : Scope) (ls : List Local) (x : List ℕ) → OldLocals is_own ls → is_mine x ≡ true → action_named (actions_in sc ls) x ≡ None
  no_own_action sc [] x o n = refl
  no_own_action sc (local_action q a ∷ ls) x o n = ap (λ (b : Bool). cond b (Some (action_under sc a)) (action_named (actions_in sc ls) x)) (apart_names is_own (full_name sc a.name) x (name_own sc a.name o.0.0) (ap not n)) ∙ no_own_action sc ls x o.1 n
  no_own_action sc (local_table q t ∷ ls) x o n = no_own_action sc ls x o.1 n
  no_own_action sc (local_register q d ∷ ls) x o n = no_own_action sc ls x o.1 n
  no_own_action sc (local_const q ty y v ∷ ls) x o n = no_own_action (with_constant sc ty y v) ls x o.1 n
  no_own_action sc (local_var q ty y v ∷ ls) x o n = no_own_action sc ls x o.1 n

  no_own_table : (sc : Scope) (as' : List Action) (ls : List Local) (x : List ℕ) → OldLocals is_own ls → is_mine x ≡ true → table_named (tables_in sc as' ls) x ≡ None
  no_own_table sc as' [] x o n = refl
  no_own_table sc as' (local_action q a ∷ ls) x o n = no_own_table sc as' ls x o.1 n
  no_own_table sc as' (local_table q t ∷ ls) x o n = ap (λ (b : Bool). cond b (Some (table_under sc as' t)) (table_named (tables_in sc as' ls) x)) (apart_names is_own (full_name sc t.name) x (name_own sc t.name o.0.name) (ap not n)) ∙ no_own_table sc as' ls x o.1 n
  no_own_table sc as' (local_register q d ∷ ls) x o n = no_own_table sc as' ls x o.1 n
  no_own_table sc as' (local_const q ty y v ∷ ls) x o n = no_own_table (with_constant sc ty y v) as' ls x o.1 n
  no_own_table sc as' (local_var q ty y v ∷ ls) x o n = no_own_table sc as' ls x o.1 n

  no_block_action : (ts : List Top) (sc : Scope) (x : List ℕ) → OldTops is_own ts → is_mine x ≡ true → AllByRecursion (λ (b : Place × List Action). action_named b.1 x ≡ None) (action_blocks p.main sc ts)
  no_block_action [] sc x o n = tt
  no_block_action (constant q ty y v ∷ ts) sc x o n = no_block_action ts (with_constant sc ty y v) x o.1 n
  no_block_action (typedef q ty y ∷ ts) sc x o n = no_block_action ts (with_type sc ty y) x o.1 n
  no_block_action (header_type q y fs ∷ ts) sc x o n = no_block_action ts sc x o.1 n
  no_block_action (struct_type q y fs ∷ ts) sc x o n = no_block_action ts sc x o.1 n
  no_block_action (register q d ∷ ts) sc x o n = no_block_action ts sc x o.1 n
  no_block_action (parser q d ∷ ts) sc x o n = no_block_action ts sc x o.1 n
  no_block_action (control q c ∷ ts) sc x o n = (no_own_action (in_control 0 1 2 sc c) c.locals x o.0.locals n, no_block_action ts sc x o.1 n)

  no_block_table : (as' : List Action) (ts : List Top) (sc : Scope) (x : List ℕ) → OldTops is_own ts → is_mine x ≡ true → AllByRecursion (λ (b : Place × List Table). table_named b.1 x ≡ None) (table_blocks p.main sc as' ts)
  no_block_table as' [] sc x o n = tt
  no_block_table as' (constant q ty y v ∷ ts) sc x o n = no_block_table as' ts (with_constant sc ty y v) x o.1 n
  no_block_table as' (typedef q ty y ∷ ts) sc x o n = no_block_table as' ts (with_type sc ty y) x o.1 n
  no_block_table as' (header_type q y fs ∷ ts) sc x o n = no_block_table as' ts sc x o.1 n
  no_block_table as' (struct_type q y fs ∷ ts) sc x o n = no_block_table as' ts sc x o.1 n
  no_block_table as' (register q d ∷ ts) sc x o n = no_block_table as' ts sc x o.1 n
  no_block_table as' (parser q d ∷ ts) sc x o n = no_block_table as' ts sc x o.1 n
  no_block_table as' (control q c ∷ ts) sc x o n = (no_own_table (in_control 0 1 2 sc c) as' c.locals x o.0.locals n, no_block_table as' ts sc x o.1 n)

  -- a control that is found is among the blocks, at its place
  action_place : (at : Place → Bool) (x : List ℕ) → at (place_in p.main x) ≡ true → (ts : List Top) (sc : Scope) (c : Control) → control_named ts x ≡ Some c → has at (action_blocks p.main sc ts) ≡ true
  action_place at x here [] sc c f = absurd (cc f)
  action_place at x here (constant q ty y v ∷ ts) sc c f = action_place at x here ts (with_constant sc ty y v) c f
  action_place at x here (typedef q ty y ∷ ts) sc c f = action_place at x here ts (with_type sc ty y) c f
  action_place at x here (header_type q y fs ∷ ts) sc c f = action_place at x here ts sc c f
  action_place at x here (struct_type q y fs ∷ ts) sc c f = action_place at x here ts sc c f
  action_place at x here (register q d ∷ ts) sc c f = action_place at x here ts sc c f
  action_place at x here (parser q d ∷ ts) sc c f = action_place at x here ts sc c f
  action_place at x here (control q d ∷ ts) sc c f = go (same_text d.name x) refl f (action_place at x here ts sc c)
    where
      go : (b : Bool) → same_text d.name x ≡ b → cond b (Some d) (control_named ts x) ≡ Some c → (control_named ts x ≡ Some c → has at (action_blocks p.main sc ts) ≡ true) → (at (place_in p.main d.name) || has at (action_blocks p.main sc ts)) ≡ true
      go true a k more = ap (λ (y : List ℕ). at (place_in p.main y) || has at (action_blocks p.main sc ts)) ((text_decides d.name x).0 a) ∙ ap (λ (b : Bool). b || has at (action_blocks p.main sc ts)) here
      go false a k more = either_true (at (place_in p.main d.name)) (has at (action_blocks p.main sc ts)) (more k)

  table_place : (as' : List Action) (at : Place → Bool) (ts : List Top) (sc : Scope) → has at (table_blocks p.main sc as' ts) ≡ has at (action_blocks p.main sc ts)
  table_place as' at [] sc = refl
  table_place as' at (constant q ty y v ∷ ts) sc = table_place as' at ts (with_constant sc ty y v)
  table_place as' at (typedef q ty y ∷ ts) sc = table_place as' at ts (with_type sc ty y)
  table_place as' at (header_type q y fs ∷ ts) sc = table_place as' at ts sc
  table_place as' at (struct_type q y fs ∷ ts) sc = table_place as' at ts sc
  table_place as' at (register q d ∷ ts) sc = table_place as' at ts sc
  table_place as' at (parser q d ∷ ts) sc = table_place as' at ts sc
  table_place as' at (control q d ∷ ts) sc = ap (λ (b : Bool). at (place_in p.main d.name) || b) (table_place as' at ts sc)

  module _ (d : Parser) (k : Control) (ready : IsReady p i e d k) where
    abbrev own_actions : List Action
    own_actions = actions_of no_scope p.tops

    abbrev all_actions : List Action
    all_actions = woven h.entry_actions h.exit_actions (action_blocks p.main no_scope p.tops)

    abbrev all_tables : List Table
    all_tables = woven h.entry_tables h.exit_tables (table_blocks p.main no_scope own_actions p.tops)

    has_entry : has at_ingress (action_blocks p.main no_scope p.tops) ≡ true
    has_entry = action_place at_ingress (named_in p.main 2) (ap at_ingress ready.at_ingress) p.tops no_scope i ready.ingress

    has_exit : has at_egress (action_blocks p.main no_scope p.tops) ≡ true
    has_exit = action_place at_egress (named_in p.main 3) (ap at_egress ready.at_egress) p.tops no_scope e ready.egress

    -- names of the monitor's are not the program's
    monitors : (x : List ℕ) → is_own x ≡ true → is_mine x ≡ false
    monitors x o = own_not x o

    entry_actions_mine : AllByRecursion (λ (a : Action). is_mine a.name ≡ true) h.entry_actions × AllByRecursion (λ (a : Action). is_mine a.name ≡ true) h.exit_actions
    entry_actions_mine = all_parts (λ (a : Action). is_mine a.name ≡ true) h.entry_actions h.exit_actions (subst (λ (xs : List Action). AllByRecursion (λ (a : Action). is_mine a.name ≡ true) xs) (sym gives.actions) gives.actions_named)

    entry_tables_mine : AllByRecursion (λ (a : Table). is_mine a.name ≡ true) h.entry_tables × AllByRecursion (λ (a : Table). is_mine a.name ≡ true) h.exit_tables
    entry_tables_mine = all_parts (λ (a : Table). is_mine a.name ≡ true) h.entry_tables h.exit_tables (subst (λ (xs : List Table). AllByRecursion (λ (a : Table). is_mine a.name ≡ true) xs) (sym gives.tables) gives.tables_named)

    own_action : (x : List ℕ) → is_mine x ≡ false → action_named all_actions x ≡ action_named own_actions x
    own_action x n =
        woven_own action_named (λ y. refl) action_app h.entry_actions h.exit_actions (action_blocks p.main no_scope p.tops) x
        (no_action_named is_mine h.entry_actions x entry_actions_mine.0 n) (no_action_named is_mine h.exit_actions x entry_actions_mine.1 n)
        ∙ ap (λ (xs : List Action). action_named xs x) (flat_actions p.main p.tops no_scope)

    own_table : (x : List ℕ) → is_mine x ≡ false → table_named all_tables x ≡ table_named (tables_of no_scope own_actions p.tops) x
    own_table x n =
        woven_own table_named (λ y. refl) table_app h.entry_tables h.exit_tables (table_blocks p.main no_scope own_actions p.tops) x
        (no_table_named is_mine h.entry_tables x entry_tables_mine.0 n) (no_table_named is_mine h.exit_tables x entry_tables_mine.1 n)
        ∙ ap (λ (xs : List Table). table_named xs x) (flat_tables p.main own_actions p.tops no_scope)

    monitor_action : (x : List ℕ) → is_mine x ≡ true → action_named all_actions x ≡ action_named m.actions x
    monitor_action x n =
        woven_mine action_named (λ y. refl) action_app h.entry_actions h.exit_actions (action_blocks p.main no_scope p.tops) x (no_block_action p.tops no_scope x ready.names.tops n) (gives.apart_actions x) has_entry has_exit
        ∙ ap (λ (xs : List Action). action_named xs x) gives.actions

    monitor_table : (x : List ℕ) → is_mine x ≡ true → table_named all_tables x ≡ table_named m.tables x
    monitor_table x n =
        woven_mine table_named (λ y. refl) table_app h.entry_tables h.exit_tables (table_blocks p.main no_scope own_actions p.tops) x (no_block_table own_actions p.tops no_scope x ready.names.tops n) (gives.apart_tables x)
        (table_place own_actions at_ingress p.tops no_scope ∙ has_entry) (table_place own_actions at_egress p.tops no_scope ∙ has_exit)
        ∙ ap (λ (xs : List Table). table_named xs x) gives.tables

    pub joins : (packet : List ℕ) → Joins m (parts_of p) (declared m h packet p)
    joins packet =
        record {
          own_registers = λ x n. ap (λ (b : Bool). cond b (zero_cells (sound_width 32) 1) (start_cells (m.registers ++ registers_of no_scope p.tops) x)) (apart_names is_mine rejects_register x refl n) ∙ cells_behind m.registers (registers_of no_scope p.tops) x gives.registers_named n;
          monitor_registers = λ x n. ap (cond (same_text rejects_register x) (zero_cells (sound_width 32) 1)) (cells_front m.registers (registers_of no_scope p.tops) x (registers_own p.tops no_scope ready.names.tops) n);
          own_actions = own_action;
          monitor_actions = monitor_action;
          own_tables = own_table;
          monitor_tables = monitor_table;
        }

    -- ---- the whole

    abbrev q : Program
    q = linked l size s links p

    control_at_place : (n : ℕ) → control_in q n ≡ option_map (λ (c : Control). control_at l links (place_in p.main c.name) c) (control_in p n)
    control_at_place n = no_control s (new p.tops) l.tops (named_in p.main n) gives.tops ∙ found l size s links p p.tops (named_in p.main n)

    scope_at_place : (n : ℕ) → scope_at_control no_scope q.tops (named_in p.main n) ≡ W (scope_at_control no_scope p.tops (named_in p.main n))
    scope_at_place n = scope_control s (new p.tops) no_scope l.tops (named_in p.main n) gives.tops ∙ at_control l size s links p p.tops no_scope (named_in p.main n) ready.names.tops

    first_top : TopScope no_scope
    first_top = record { is_own_scope = record { outer = refl; constants = tt }; none_own = refl }

    stands_at : (n : ℕ) (c : Control) → control_in p n ≡ Some c → Stands p.tops no_scope (named_in p.main n) c
    stands_at n c f = stands p.tops no_scope first_top ready.names.tops ready.tops ready.ones (named_in p.main n) c f

    place_of : (n : ℕ) (c : Control) (k : Place) → control_in p n ≡ Some c → place_in p.main (named_in p.main n) ≡ k → place_in p.main c.name ≡ k
    place_of n c k f at = ap (place_in p.main) (stands_at n c f).named ∙ at

    body_at : (b h' k' : ℕ) (n : ℕ) (c : Control) (k : Place) → control_in p n ≡ Some c → place_in p.main (named_in p.main n) ≡ k → body_in b h' k' q n ≡ body_of b h' k' (W (scope_at_control no_scope p.tops (named_in p.main n))) (Some (control_at l links k c))
    body_at b h' k' n c k f at =
        ap₂ (body_of b h' k') (scope_at_place n) (control_at_place n ∙ ap (option_map (λ (z : Control). control_at l links (place_in p.main z.name) z)) f)
        ∙ ap (λ (z : Place). body_of b h' k' (W (scope_at_control no_scope p.tops (named_in p.main n))) (Some (control_at l links z c))) (place_of n c k f at)

    ready_at : (n : ℕ) (c : Control) (k : Place) → control_in p n ≡ Some c → place_in p.main (named_in p.main n) ≡ k → ReadyControl k (scope_at_control no_scope p.tops (named_in p.main n)) c
    ready_at n c k f at = subst (λ (z : Place). ReadyControl z (scope_at_control no_scope p.tops (named_in p.main n)) c) (place_of n c k f at) (stands_at n c f).ready

    given_body : (b h' k' n : ℕ) (c : Control) → control_in p n ≡ Some c → body_of b h' k' (scope_at_control no_scope p.tops (named_in p.main n)) (Some c) ≡ body_in b h' k' p n
    given_body b h' k' n c f = ap (body_of b h' k' (scope_at_control no_scope p.tops (named_in p.main n))) (sym f)

    ingress_whole : body_in 0 1 2 q 2 ≡ plain_body (record { locals = vars_of m.entry_locals (body_in 0 1 2 p 2).locals; body = next (around.entry_stmt m s links) (body_in 0 1 2 p 2).body })
    ingress_whole =
        body_at 0 1 2 2 i is_ingress ready.ingress ready.at_ingress
        ∙ ingress_body (scope_at_control no_scope p.tops (named_in p.main 2)) (stands_at 2 i ready.ingress).top i (stands_at 2 i ready.ingress).old (ready_at 2 i is_ingress ready.ingress ready.at_ingress) refl
        ∙ ap (λ (b : Body). plain_body (record { locals = vars_of m.entry_locals b.locals; body = next (around.entry_stmt m s links) b.body })) (given_body 0 1 2 2 i ready.ingress)

    egress_whole : body_in 0 1 2 q 3 ≡ plain_body (record { locals = vars_of (flag_locals ++ m.exit_locals) (body_in 0 1 2 p 3).locals; body = and_then (body_in 0 1 2 p 3).body (next (around.exit_stmt m s links) done) })
    egress_whole =
        body_at 0 1 2 3 e is_egress ready.egress ready.at_egress
        ∙ egress_body (scope_at_control no_scope p.tops (named_in p.main 3)) (stands_at 3 e ready.egress).top e (stands_at 3 e ready.egress).old (ready_at 3 e is_egress ready.egress ready.at_egress) refl
        ∙ ap (λ (b : Body). plain_body (record { locals = vars_of (flag_locals ++ m.exit_locals) b.locals; body = and_then b.body (next (around.exit_stmt m s links) done) })) (given_body 0 1 2 3 e ready.egress)

    sums_whole : (n : ℕ) → place_in p.main (named_in p.main n) ≡ is_other → whole (body_in 0 1 9 q n) ≡ plain_stmts (whole (body_in 0 1 9 p n))
    sums_whole n at = go (control_in p n) refl
      where
        go : (o : Option Control) → control_in p n ≡ o → whole (body_in 0 1 9 q n) ≡ plain_stmts (whole (body_in 0 1 9 p n))
        go None f =
            ap₂ (λ (sc : Scope) (o : Option Control). whole (body_of 0 1 9 sc o)) (scope_at_place n) (control_at_place n ∙ ap (option_map (λ (z : Control). control_at l links (place_in p.main z.name) z)) f)
            ∙ ap (λ (o : Option Control). plain_stmts (whole (body_of 0 1 9 (scope_at_control no_scope p.tops (named_in p.main n)) o))) (sym f)
        go (Some c) f =
            ap whole (body_at 0 1 9 n c is_other f at)
            ∙ sums_body (scope_at_control no_scope p.tops (named_in p.main n)) (stands_at n c f).top c (stands_at n c f).old (ready_at n c is_other f at)
            ∙ ap (λ (b : Body). plain_stmts (whole b)) (given_body 0 1 9 n c f)

    emits_whole : emits_of (body_in 1 9 9 q 5).body ≡ tele_header ∷ emits_of (body_in 1 9 9 p 5).body
    emits_whole =
        ap (λ (b : Body). emits_of b.body) (body_at 1 9 9 5 k is_deparser ready.deparser ready.at_deparser)
        ∙ deparser_emits (scope_at_control no_scope p.tops (named_in p.main 5)) (stands_at 5 k ready.deparser).top k (stands_at 5 k ready.deparser).old
        ∙ ap (λ (b : Body). tele_header ∷ emits_of b.body) (given_body 1 9 9 5 k ready.deparser)

    registers_whole : registers_of no_scope q.tops ≡ rejects_cells ∷ (m.registers ++ registers_of no_scope p.tops)
    registers_whole =
        ap (λ (xs : List Cells). rejects_cells ∷ xs)
        (front_registers s (new p.tops) no_scope l.tops gives.tops ∙ ap₂ (λ (xs ys : List Cells). xs ++ ys) (gives.registers no_scope refl) (registers_walk p.tops no_scope first_top ready.names.tops ready.tops))

    actions_whole : actions_of no_scope q.tops ≡ map plain_action all_actions
    actions_whole = front_actions s (new p.tops) no_scope l.tops gives.tops ∙ actions_walk p.tops no_scope first_top ready.names.tops ready.tops ready.ones

    tables_whole : tables_of no_scope (actions_of no_scope q.tops) q.tops ≡ map plain_table all_tables
    tables_whole =
        ap (λ (as' : List Action). tables_of no_scope as' q.tops) actions_whole ∙ front_tables s (new p.tops) no_scope (map plain_action all_actions) l.tops gives.tops
        ∙ tables_walk own_actions all_actions (λ x o. own_action x (own_not x o)) monitor_action p.tops no_scope first_top ready.names.tops ready.tops ready.ones

    types_whole : types_of q.tops ≡ types_of p.tops
    types_whole = ap (λ (sc : Scope). sc.types) (scope_behind s (new p.tops) no_scope l.tops gives.tops ∙ scopes l size s links p p.tops no_scope ready.names.tops)

    parser_whole : parser_in q ≡ Some (linked_parser size links d)
    parser_whole = no_parser s (new p.tops) l.tops (named_in p.main 0) gives.tops ∙ found_parser l size s links p p.tops (named_in p.main 0) ∙ ap (option_map (linked_parser size links)) ready.parser

    type_same : (n : ℕ) → parser_type (parser_in q) n ≡ parser_type (parser_in p) n
    type_same n = ap (λ (o : Option Parser). parser_type o n) parser_whole ∙ ap (λ (o : Option Parser). parser_type o n) (sym ready.parser)

    struct_whole : (x : List ℕ) → has_struct p.tops x ≡ true → struct_fields q.tops x ≡ more_fields p x ++ struct_fields p.tops x
    struct_whole x there = no_struct s (new p.tops) l.tops x gives.tops ∙ structs l size s links p p.tops x there

    same : (x : List ℕ) → same_text x x ≡ true
    same x = (text_decides x x).1 refl

    headers_more : more_fields p (headers_type p) ≡ tele_field ∷ []
    headers_more = ap (λ (b : Bool). cond b (tele_field ∷ []) (cond (same_text (metadata_type p) (headers_type p)) (tree.length_field ∷ []) [])) (same (headers_type p))

    metadata_more : more_fields p (metadata_type p) ≡ tree.length_field ∷ []
    metadata_more = ap₂ (λ (a b : Bool). cond a (tele_field ∷ []) (cond b (tree.length_field ∷ []) [])) ready.two (same (metadata_type p))

    header_same : (f : PTy × List ℕ) → OldType is_own f.0 → header_of q.tops f ≡ header_of p.tops f
    header_same f o =
        ap₂ (λ (types : List (List ℕ × PTy)) (fs : List (PTy × List ℕ)). record { path = headers_root ∷ f.1 ∷ []; fields = map (field_of types) fs }) types_whole
        (own_header s (new p.tops) l.tops (type_name f.0) (type_own f.0 o) gives.tops ∙ headers l size s links p p.tops (type_name f.0))

    headers_same : (fs : List (PTy × List ℕ)) → OldFields is_own fs → map (header_of q.tops) fs ≡ map (header_of p.tops) fs
    headers_same [] o = refl
    headers_same (f ∷ fs) o = ap₂ (λ (x : Header) (xs : List Header). x ∷ xs) (header_same f o.0) (headers_same fs o.2)

    tele_found : (fs : List (PTy × List ℕ)) → header_fields l.tops (codes "hydra_tele_t") ≡ fs → map (field_of []) fs ≡ mark_field ∷ m.fields → header_fields q.tops (codes "hydra_tele_t") ≡ header_fields l.tops (codes "hydra_tele_t")
    tele_found [] f g = absurd (cc g)
    tele_found (y ∷ ys) f g =
        (let near = found_header l.tops (tree.switch_top s ∷ []) (codes "hydra_tele_t") y ys f in
        found_header (l.tops ++ tree.switch_top s ∷ []) (new p.tops) (codes "hydra_tele_t") y ys (near ∙ f) ∙ near)

    tele_header_same : header_of q.tops tele_field ≡ telemetry m.fields
    tele_header_same =
        ap (λ (fs : List Field). record { path = tele_header; fields = fs })
        (ap (map (field_of (types_of q.tops))) (tele_found (header_fields l.tops (codes "hydra_tele_t")) refl (gives.fields [])) ∙ gives.fields (types_of q.tops))

    headers_whole : map (header_of q.tops) (struct_fields q.tops (parser_type (parser_in q) 1)) ≡ telemetry m.fields ∷ (parts_of p).headers
    headers_whole =
        ap (λ (x : List ℕ). map (header_of q.tops) (struct_fields q.tops x)) (type_same 1)
        ∙ ap (map (header_of q.tops)) (struct_whole (headers_type p) ready.headers ∙ ap (λ (fs : List (PTy × List ℕ)). fs ++ struct_fields p.tops (headers_type p)) headers_more)
        ∙ ap₂ (λ (x : Header) (xs : List Header). x ∷ xs) tele_header_same (headers_same (struct_fields p.tops (headers_type p)) (fields_old p.tops (headers_type p) ready.names.tops))

    metadata_whole : map (field_of (types_of q.tops)) (struct_fields q.tops (parser_type (parser_in q) 2)) ≡ length_field ∷ (parts_of p).metadata
    metadata_whole =
        ap₂ (λ (types : List (List ℕ × PTy)) (x : List ℕ). map (field_of types) (struct_fields q.tops x)) types_whole (type_same 2)
        ∙ ap (map (field_of (types_of p.tops))) (struct_whole (metadata_type p) ready.metadata ∙ ap (λ (fs : List (PTy × List ℕ)). fs ++ struct_fields p.tops (metadata_type p)) metadata_more)

    states_whole : states_in q ≡ states.first_state links ∷ states.taken_state (packet_name d) size ∷ map states.own_state (states_in p)
    states_whole =
        (let at = parsers p.tops no_scope first_top ready.names.tops ready.tops (named_in p.main 0) d ready.parser in
        ap₂ states_of (scope_parser s (new p.tops) no_scope l.tops (named_in p.main 0) gives.tops ∙ at_parser l size s links p p.tops no_scope (named_in p.main 0) ready.names.tops) parser_whole
        ∙ parser_linked size s links (scope_at_parser no_scope p.tops (named_in p.main 0)) at.top d at.ready at.old
        ∙ ap (λ (o : Option Parser). states.first_state links ∷ states.taken_state (packet_name d) size ∷ map states.own_state (states_of (scope_at_parser no_scope p.tops (named_in p.main 0)) o)) (sym ready.parser))

    pub parts : parts_of q ≡ linked_parts m s links (parts_of p) (declared m h (packet_name d) p)
    parts =
        λ z.
        record {
          registers = registers_whole z;
          headers = headers_whole z;
          metadata = metadata_whole z;
          states = states_whole z;
          actions = actions_whole z;
          tables = tables_whole z;
          verify = sums_whole 1 ready.at_verify z;
          ingress = ingress_whole z;
          egress = egress_whole z;
          compute = sums_whole 4 ready.at_compute z;
          emits = emits_whole z;
        }

pub parts_are_linked : (T Z C : Type 0) → PartsAreLinked T Z C
parts_are_linked T Z C l m h p i e d k ready gives s links = record { parts = parts l m h p i e gives s links d k ready; joins = joins l m h p i e gives s links d k ready (packet_name d) }

-- The names, actions, tables and registers of a program stand in its linked program.
use Rattle.std.proofs.Common.{codes, ◌≡◌, ℕ, List, [], ◌∷◌, ◌++◌, map, Bool, true, false, cond, not, ◌||◌, Option, Some, refl, sym, ap, ap₂, ◌∙◌}
use Rattle.std.specs.Option.{option_map}
use Rattle.lex_text.specs.Names.{same_text}
use Rattle.rule_tests.specs.Tests.{IsFine}
use Rattle.p4_parser_states.specs.Cycles as cycles
use Rattle.p4_tree.specs.Tree.{Stmts, done, next, and_then, ParserState, Local, local_action, local_table, local_register, local_const, local_var, Control, Top, constant, typedef, header_type, struct_type, register, parser, control, Program}
use Rattle.p4_tree.specs.declared.statement.PTy.{PTy}
use Rattle.p4_meaning.specs.Scope.{Roots, is_among, names_in, names_in_stmt}
use Rattle.p4_meaning.specs.Actions.{params_in, action_named}
use Rattle.p4_meaning.specs.Tables.{Table, table_named}
use Rattle.p4_meaning.specs.Parts.{Parts}
use Rattle.p4_scopes.specs.Scopes.{Scope, core}
use Rattle.p4_declaration_rules.specs.Parsers.{in_states}
use Rattle.p4_declaration_rules.specs.Controls.{tops_tests}
use Rattle.p4_rule_laws.proofs.OwnStates.{start_among}
use Rattle.p4_rule_laws.proofs.WiderLemmas.{new_is_other}
use Rattle.p4_typing_laws.proofs.Fine.{typed_fine}
use Rattle.p4_typing_laws.proofs.CallCounts.{text_is}
use Rattle.packet_lengths.specs.Lengths.{plain_action, plain_table}
use Rattle.packet_lengths.proofs.LengthCalls.{plain_action_named}
use Rattle.own_programs.specs.OwnPrograms.{is_own}
use Rattle.exit_programs.specs.Laws.{param_names, local_names, locals_names, top_names, tops_names}
use Rattle.monitor_laws.specs.Names.{rejects_register}
use Rattle.linked_halves.specs.Statements.{count_name}
use Rattle.linked_programs.specs.Lowered.{Lowered}
use Rattle.linked_programs.specs.Rewritten.{stmts_with, local_with}
use Rattle.linked_programs.specs.Linked.{packet_name, tele_name, tele_field, length_field, switch_name, switch_top, own_state, parser_roots, linked_parser, Place, is_ingress, is_egress, is_deparser, is_other, place_in, control_roots, entry_stmt, exit_stmt, last_test, locals_at, apply_at, more_fields, headers_type, metadata_type, front, linked_top, linked}
use Rattle.linked_programs.specs.Woven.{declared}
use Rattle.linked_programs.proofs.RewrittenUnder.{names_same}
use Rattle.linked_rules.specs.Form.{AreMine, DeclaresItsOwn, LinkedNamesStand, TablesStand}
use Rattle.linked_hosts.proofs.ReadyByRules.{linked_has_parts}

-- ---- each parser has a start

names_are : (sts : List ParserState) (x : List ℕ) → cycles.is_among (cycles.state_names sts) x ≡ is_among (map (λ (s : ParserState). s.name) sts) x
names_are [] x = refl
names_are (st ∷ sts) x = ap (λ (b : Bool). same_text st.name x || b) (names_are sts x)

abbrev AllStart : List Top → Type 0
AllStart [] = Unit {0}
AllStart (parser q d ∷ ts) = (is_among (map (λ (s : ParserState). s.name) d.states) (codes "start") ≡ true) × AllStart ts
AllStart (t ∷ ts) = AllStart ts

all_start : (main : List (List ℕ)) (ts : List Top) (s : Scope) → IsFine (tops_tests main s ts) → AllStart ts
all_start main [] s f = tt
all_start main (constant q k x z ∷ ts) s f = all_start main ts _ f.1
all_start main (typedef q k x ∷ ts) s f = all_start main ts _ f.1
all_start main (header_type q x fs ∷ ts) s f = all_start main ts _ f.1
all_start main (struct_type q x fs ∷ ts) s f = all_start main ts _ f.1
all_start main (register q d ∷ ts) s f = all_start main ts _ f.1
all_start main (control q c ∷ ts) s f = all_start main ts _ f.1
all_start main (parser q d ∷ ts) s f = (sym (names_are d.states (codes "start")) ∙ start_among d.at (in_states s d) d.states f.0.1.1.1.0, all_start main ts _ f.1)

-- ---- one name of the program's

module _ (x : List ℕ) (own : is_own x ≡ true) where
  mine_is_other : (y : List ℕ) → is_own y ≡ false → same_text y x ≡ false
  mine_is_other y h = new_is_other is_own y x h own

  joined : (ys zs : List (List ℕ)) → is_among (ys ++ zs) x ≡ (is_among ys x || is_among zs x)
  joined [] zs = refl
  joined (y ∷ ys) zs = ap (λ (b : Bool). same_text y x || b) (joined ys zs) ∙ turned (same_text y x) (is_among ys x) (is_among zs x)
    where
      turned : (a b c : Bool) → (a || (b || c)) ≡ ((a || b) || c)
      turned true b c = refl
      turned false b c = refl

  both : (xs ys us vs : List (List ℕ)) → is_among us x ≡ is_among xs x → is_among vs x ≡ is_among ys x → is_among (us ++ vs) x ≡ is_among (xs ++ ys) x
  both xs ys us vs e f = joined us vs ∙ (ap₂ (λ (a b : Bool). a || b) e f ∙ sym (joined xs ys))

  passed : (us vs : List (List ℕ)) → is_among us x ≡ false → is_among (us ++ vs) x ≡ is_among vs x
  passed us vs e = joined us vs ∙ ap (λ (b : Bool). b || is_among vs x) e

  ended : (us vs : List (List ℕ)) → is_among vs x ≡ false → is_among (us ++ vs) x ≡ is_among us x
  ended us vs e = joined us vs ∙ ap (λ (b : Bool). is_among us x || b) e ∙ none (is_among us x)
    where
      none : (b : Bool) → (b || false) ≡ b
      none true = refl
      none false = refl

  missing : (ys : List (List ℕ)) → AreMine ys → is_among ys x ≡ false
  missing [] h = refl
  missing (y ∷ ys) h = ap₂ (λ (a b : Bool). a || b) (mine_is_other y (ap not h.0)) (missing ys h.1)

  -- ---- statements and local declarations

  after_those : (a b : Stmts) → is_among (names_in (and_then a b)) x ≡ (is_among (names_in a) x || is_among (names_in b) x)
  after_those done b = refl
  after_those (next s a) b =
      joined (names_in_stmt s) (names_in (and_then a b)) ∙ ap (λ (c : Bool). is_among (names_in_stmt s) x || c) (after_those a b)
      ∙ turned (is_among (names_in_stmt s) x) (is_among (names_in a) x) (is_among (names_in b) x) ∙ ap (λ (c : Bool). c || is_among (names_in b) x) (sym (joined (names_in_stmt s) (names_in a)))
    where
      turned : (a b c : Bool) → (a || (b || c)) ≡ ((a || b) || c)
      turned true b c = refl
      turned false b c = refl

  with_same : (r : Roots) (ss : Stmts) → is_among (names_in (stmts_with r ss)) x ≡ is_among (names_in ss) x
  with_same r ss = ap (λ (ys : List (List ℕ)). is_among ys x) (names_same r ss)

  local_same : (r : Roots) (l : Local) → is_among (local_names (local_with r l)) x ≡ is_among (local_names l) x
  local_same r (local_action p a) = ap (λ (ys : List (List ℕ)). same_text a.name x || is_among (params_in a.params ++ ys) x) (names_same r a.body)
  local_same r (local_table p t) = refl
  local_same r (local_register p d) = refl
  local_same r (local_const p ty y e) = refl
  local_same r (local_var p ty y e) = refl

  locals_same : (r : Roots) (ls : List Local) → is_among (locals_names (map (local_with r) ls)) x ≡ is_among (locals_names ls) x
  locals_same r [] = refl
  locals_same r (l ∷ ls) = both (local_names l) (locals_names ls) (local_names (local_with r l)) (locals_names (map (local_with r) ls)) (local_same r l) (locals_same r ls)

  locals_joined : (as' ls : List Local) → is_among (locals_names (as' ++ ls)) x ≡ (is_among (locals_names as') x || is_among (locals_names ls) x)
  locals_joined [] ls = refl
  locals_joined (a ∷ as') ls =
      joined (local_names a) (locals_names (as' ++ ls)) ∙ ap (λ (c : Bool). is_among (local_names a) x || c) (locals_joined as' ls)
      ∙ turned (is_among (local_names a) x) (is_among (locals_names as') x) (is_among (locals_names ls) x) ∙ ap (λ (c : Bool). c || is_among (locals_names ls) x) (sym (joined (local_names a) (locals_names as')))
    where
      turned : (a b c : Bool) → (a || (b || c)) ≡ ((a || b) || c)
      turned true b c = refl
      turned false b c = refl

  more_locals : (r : Roots) (as' ls : List Local) → AreMine (locals_names as') → is_among (locals_names (map (local_with r) (as' ++ ls))) x ≡ is_among (locals_names ls) x
  more_locals r as' ls h = locals_same r (as' ++ ls) ∙ locals_joined as' ls ∙ ap (λ (b : Bool). b || is_among (locals_names ls) x) (missing (locals_names as') h)

  module _ (l : Lowered) (low : DeclaresItsOwn l) (links : List ℕ) where
    control_locals : (k : Place) (c : Control) → is_among (locals_names (locals_at l links k c)) x ≡ is_among (locals_names c.locals) x
    control_locals is_ingress c = more_locals (control_roots c) l.entry_locals c.locals low.entry_locals
    control_locals is_egress c = more_locals (control_roots c) l.exit_locals c.locals low.exit_locals
    control_locals is_deparser c = refl
    control_locals is_other c = refl

    none_last : (r : Roots) → is_among (names_in (last_test r)) x ≡ false
    none_last r = ap (λ (b : Bool). b || false) (mine_is_other count_name refl)

    entry_names : (r : Roots) → is_among (names_in_stmt (entry_stmt r links l.mark l.entry)) x ≡ false
    entry_names r = ended (names_in l.entry) [] refl ∙ missing (names_in l.entry) low.entry

    exit_names : (r : Roots) → is_among (names_in (next (exit_stmt r links l.exit) done)) x ≡ false
    exit_names r =
        ended (names_in_stmt (exit_stmt r links l.exit)) [] refl ∙ ended (names_in (and_then l.exit (last_test r))) [] refl
        ∙ after_those l.exit (last_test r) ∙ ap₂ (λ (a b : Bool). a || b) (missing (names_in l.exit) low.exit) (none_last r)

    control_apply : (k : Place) (c : Control) → is_among (names_in (apply_at l links k c)) x ≡ is_among (names_in c.apply) x
    control_apply is_ingress c =
        with_same (control_roots c) (next (entry_stmt (control_roots c) links l.mark l.entry) c.apply)
        ∙ passed (names_in_stmt (entry_stmt (control_roots c) links l.mark l.entry)) (names_in c.apply) (entry_names (control_roots c))
    control_apply is_egress c =
        with_same (control_roots c) (and_then c.apply (next (exit_stmt (control_roots c) links l.exit) done)) ∙ after_those c.apply (next (exit_stmt (control_roots c) links l.exit) done)
        ∙ ap (λ (b : Bool). is_among (names_in c.apply) x || b) (exit_names (control_roots c)) ∙ none (is_among (names_in c.apply) x)
      where
        none : (b : Bool) → (b || false) ≡ b
        none true = refl
        none false = refl
    control_apply is_deparser c = refl
    control_apply is_other c = with_same (control_roots c) c.apply

    -- ---- states

    renamed : (r : Roots) (sts : List ParserState) → same_text (codes "start") x ≡ false → is_among (map (λ (s : ParserState). s.name) (map (own_state r) sts)) x ≡ is_among (map (λ (s : ParserState). s.name) sts) x
    renamed r [] e = refl
    renamed r (st ∷ sts) e = ap₂ (λ (a b : Bool). a || b) (go (same_text st.name (codes "start")) refl) (renamed r sts e)
      where
        go : (b : Bool) → same_text st.name (codes "start") ≡ b → same_text (cond b (codes "hydra_start") st.name) x ≡ same_text st.name x
        go true h = mine_is_other (codes "hydra_start") refl ∙ sym (ap (λ (y : List ℕ). same_text y x) (text_is st.name (codes "start") h) ∙ e)
        go false h = refl

    states_stand : (r : Roots) (sts : List ParserState) → is_among (map (λ (s : ParserState). s.name) sts) (codes "start") ≡ true
        → (same_text (codes "start") x || (same_text (codes "hydra_taken") x || is_among (map (λ (s : ParserState). s.name) (map (own_state r) sts)) x)) ≡ is_among (map (λ (s : ParserState). s.name) sts) x
    states_stand r sts has = go (same_text (codes "start") x) refl
      where
        go : (b : Bool) → same_text (codes "start") x ≡ b → (b || (same_text (codes "hydra_taken") x || is_among (map (λ (s : ParserState). s.name) (map (own_state r) sts)) x)) ≡ is_among (map (λ (s : ParserState). s.name) sts) x
        go true h = sym has ∙ ap (λ (y : List ℕ). is_among (map (λ (s : ParserState). s.name) sts) y) (text_is (codes "start") x h)
        go false h = ap (λ (b : Bool). b || is_among (map (λ (s : ParserState). s.name) (map (own_state r) sts)) x) (mine_is_other (codes "hydra_taken") refl) ∙ renamed r sts h

    -- ---- fields

    fields_stand : (a b : Bool) (fs : List (PTy × List ℕ)) → is_among (map (λ f. f.1) (cond a (tele_field ∷ []) (cond b (length_field ∷ []) []) ++ fs)) x ≡ is_among (map (λ f. f.1) fs) x
    fields_stand true b fs = ap (λ (c : Bool). c || is_among (map (λ f. f.1) fs) x) (mine_is_other tele_name refl)
    fields_stand false true fs = ap (λ (c : Bool). c || is_among (map (λ f. f.1) fs) x) (mine_is_other (codes "hydra_length") refl)
    fields_stand false false fs = refl

    -- ---- declarations

    module _ (size : ℕ) (p : Program) where
      control_stands : (q : ℕ) (c : Control) → is_among (top_names (linked_top l size links p (control q c))) x ≡ is_among (top_names (control q c)) x
      control_stands q c =
          (let k = place_in p.main c.name in
          ap (λ (b : Bool). same_text c.name x || b)
          (both (param_names c.params) (locals_names c.locals ++ names_in c.apply) (param_names c.params) (locals_names (locals_at l links k c) ++ names_in (apply_at l links k c)) refl
          (both (locals_names c.locals) (names_in c.apply) (locals_names (locals_at l links k c)) (names_in (apply_at l links k c)) (control_locals k c) (control_apply k c))))

      tops_stand : (ts : List Top) → AllStart ts → is_among (tops_names (map (linked_top l size links p) ts)) x ≡ is_among (tops_names ts) x
      tops_stand [] h = refl
      tops_stand (constant q k y z ∷ ts) h = both (top_names (constant q k y z)) (tops_names ts) (top_names (constant q k y z)) (tops_names (map (linked_top l size links p) ts)) refl (tops_stand ts h)
      tops_stand (typedef q k y ∷ ts) h = both (top_names (typedef q k y)) (tops_names ts) (top_names (typedef q k y)) (tops_names (map (linked_top l size links p) ts)) refl (tops_stand ts h)
      tops_stand (header_type q y fs ∷ ts) h = both (top_names (header_type q y fs)) (tops_names ts) (top_names (header_type q y fs)) (tops_names (map (linked_top l size links p) ts)) refl (tops_stand ts h)
      tops_stand (register q d ∷ ts) h = both (top_names (register q d)) (tops_names ts) (top_names (register q d)) (tops_names (map (linked_top l size links p) ts)) refl (tops_stand ts h)
      tops_stand (struct_type q y fs ∷ ts) h =
          both (top_names (struct_type q y fs)) (tops_names ts) (top_names (struct_type q y (more_fields p y ++ fs))) (tops_names (map (linked_top l size links p) ts))
          (ap (λ (b : Bool). same_text y x || b) (fields_stand (same_text (headers_type p) y) (same_text (metadata_type p) y) fs)) (tops_stand ts h)
      tops_stand (parser q d ∷ ts) h =
          both (top_names (parser q d)) (tops_names ts) (top_names (parser q (linked_parser size links d))) (tops_names (map (linked_top l size links p) ts))
          (ap (λ (b : Bool). same_text d.name x || b)
          (both (param_names d.params) (map (λ (s : ParserState). s.name) d.states) (param_names d.params) (map (λ (s : ParserState). s.name) (linked_parser size links d).states) refl (states_stand (parser_roots d) d.states h.0)))
          (tops_stand ts h.1)
      tops_stand (control q c ∷ ts) h = both (top_names (control q c)) (tops_names ts) (top_names (linked_top l size links p (control q c))) (tops_names (map (linked_top l size links p) ts)) (control_stands q c) (tops_stand ts h)

      tops_joined : (as' ts : List Top) → is_among (tops_names (as' ++ ts)) x ≡ (is_among (tops_names as') x || is_among (tops_names ts) x)
      tops_joined [] ts = refl
      tops_joined (a ∷ as') ts =
          joined (top_names a) (tops_names (as' ++ ts)) ∙ ap (λ (c : Bool). is_among (top_names a) x || c) (tops_joined as' ts)
          ∙ turned (is_among (top_names a) x) (is_among (tops_names as') x) (is_among (tops_names ts) x) ∙ ap (λ (c : Bool). c || is_among (tops_names ts) x) (sym (joined (top_names a) (tops_names as')))
        where
          turned : (a b c : Bool) → (a || (b || c)) ≡ ((a || b) || c)
          turned true b c = refl
          turned false b c = refl

      front_none : (s : ℕ) → is_among (tops_names (front l s)) x ≡ false
      front_none s =
          ap₂ (λ (a b : Bool). a || b) (mine_is_other rejects_register refl)
          (tops_joined l.tops (switch_top s ∷ []) ∙ ap₂ (λ (a b : Bool). a || (b || false)) (missing (tops_names l.tops) low.tops) (mine_is_other switch_name refl))

      all_stand : (s : ℕ) → AllStart p.tops → is_among (tops_names (linked l size s links p).tops) x ≡ is_among (tops_names p.tops) x
      all_stand s h =
          tops_joined (front l s) (map (linked_top l size links p) p.tops) ∙ ap (λ (b : Bool). b || is_among (tops_names (map (linked_top l size links p) p.tops)) x) (front_none s) ∙ tops_stand p.tops h

pub linked_names_stand : LinkedNamesStand
linked_names_stand l low p g size s links x own = all_stand x own l low links size p s (all_start p.main p.tops core (typed_fine p g.typed).0)

-- ---- tables, actions, registers

either_option : {A B : Type 0} (f : A → B) (b : Bool) (k : A) (o : Option A) (q : Option B) → q ≡ option_map f o → cond b (Some (f k)) q ≡ option_map f (cond b (Some k) o)
either_option f true k o q e = refl
either_option f false k o q e = e

plain_table_named : (ts : List Table) (x : List ℕ) → table_named (map plain_table ts) x ≡ option_map plain_table (table_named ts x)
plain_table_named [] x = refl
plain_table_named (t ∷ ts) x = either_option plain_table (same_text t.name x) t (table_named ts x) (table_named (map plain_table ts) x) (plain_table_named ts x)

pub tables_stand : (T Z C : Type 0) → TablesStand T Z C
tables_stand T Z C l m h p g k gives s links =
    (let has = linked_has_parts T Z C l m h p g k gives s links in
    let d = declared m h (packet_name k.parser) p in
    record {
      actions = λ x own. ap (λ (f : Parts). action_named f.actions x) has.parts ∙ plain_action_named d.actions x ∙ ap (option_map plain_action) (has.joins.own_actions x own);
      tables = λ x own. ap (λ (f : Parts). table_named f.tables x) has.parts ∙ plain_table_named d.tables x ∙ ap (option_map plain_table) (has.joins.own_tables x own);
      monitor_actions = λ x mine. ap (λ (f : Parts). action_named f.actions x) has.parts ∙ plain_action_named d.actions x ∙ ap (option_map plain_action) (has.joins.monitor_actions x mine);
      monitor_tables = λ x mine. ap (λ (f : Parts). table_named f.tables x) has.parts ∙ plain_table_named d.tables x ∙ ap (option_map plain_table) (has.joins.monitor_tables x mine);
      registers = ap (λ (f : Parts). f.registers) has.parts;
    })

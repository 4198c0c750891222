-- Worked rows: a block behind a flag, an expression in the place of another, and a program that grows. Names that begin
-- with `hydra_` are new.
use Rattle.std.proofs.Common.{◌≡◌, ℕ, List, [], ◌∷◌, Bool, true, false, cond, not, if◌then◌else◌, take, refl, Some, None, codes}
use Rattle.lex_text.specs.Names.{same_text}
use Rattle.rule_tests.specs.Tests.{IsFine}
use Rattle.rule_tests.proofs.FirstBroken.{fine_unbroken, none_is_fine}
use Rattle.p4_tree.specs.Tree as tree
use Rattle.p4_tree.specs.Tree.{Expr, num, flag, path, negation, binary, one, Stmt, Stmts, stmts_from, block, var, assign, choice, call, next, without, and_then, Keyset, any, only, nowhere, to, select, ParserState, Local, local_var, Control, Parser, Top, header_type, struct_type, register, parser, control, Program}
use Rattle.p4_tree.specs.declared.statement.PTy.TheVariants.{Bit, Bool as Bool_, Named}
use Rattle.p4_tree.specs.declared.statement.Op.TheVariants.{Add}
use Rattle.p4_tree.specs.declared.program.Way.{Way}
use Rattle.p4_tree.specs.declared.program.Way.TheVariants as way
use Rattle.p4_tree.specs.declared.program.Param.{Param}
use Rattle.p4_parser_states.specs.Cycles.{state_names}
use Rattle.p4_parser_states.specs.Laws.{ReachesIsExact}
use Rattle.p4_scopes.specs.Scopes.{Scope, fields, value, declare, core}
use Rattle.p4_scopes.specs.Scopes.{is_missing}
use Rattle.p4_scopes.specs.declared.thing.Thing.TheVariants.{Struct}
use Rattle.p4_scopes.specs.declared.thing.Access.TheVariants.{Writable}
use Rattle.p4_statement_rules.specs.Ranks.{rank, first_broken}
use Rattle.p4_statement_rules.specs.Statements.{after_all, stmt_tests, block_tests}
use Rattle.p4_statement_rules.specs.declared.rule.ProgramRule.TheVariants.{NameTwice, WidthDiffers, WrongPlace}
use Rattle.p4_statement_rules.specs.declared.rule.Part.TheVariants as place
use Rattle.p4_declaration_rules.specs.Parsers.{is_state_name, with_ends, with_ways, with_states, states_names, transition_tests}
use Rattle.p4_declaration_rules.specs.Controls.{in_control, control_tests, tops_tests, after_top, after_tops}
use Rattle.p4_rules.specs.ProgramRules.{program_tests, first_fault, IsWellTyped}
use Rattle.p4_rule_laws.specs.Old.{Names, OldPath, Alike}
use Rattle.p4_rule_laws.specs.OldPrograms.{OldWays, OldStates, OldControl}
use Rattle.p4_rule_laws.specs.Kept.{Keeps}
use Rattle.p4_rule_laws.specs.Guards.{flagged}
use Rattle.p4_rule_laws.specs.Replaced.{Replaces, unchanged, replaced, in_binary}
use Rattle.p4_rule_laws.specs.Growth.{More, with_more, MoreIsNew, MoreFits, BodyGrows, LocalsGrow, no_local, new_local, StatesGrow, parser_with, control_with, TopsGrow, no_top, same_top, wider_struct, other_states, other_control, grown}
use Rattle.p4_rule_laws.specs.Entered.{entered, renamed_to, Begins, FineFlows}
use Rattle.p4_rule_laws.proofs.WiderLemmas.{new_is_other}
use Rattle.p4_rule_laws.proofs.GuardLemmas.{flagged_fine}
use Rattle.p4_rule_laws.proofs.ReplacesLemmas.{parts_replaced}
use Rattle.p4_rule_laws.proofs.GrowthLemmas.{same_params, parser_grows, control_grows}
use Rattle.p4_rule_laws.proofs.RolesGrow.{program_grows}
use Rattle.p4_rule_laws.proofs.EnteredLemmas.{entered_grow}
use Rattle.p4_rule_laws.proofs.BodiesGrow.{same_body, around_body, emitted_body}
use Rattle.p4_rule_laws.proofs.BeginsLemmas.{begins_enter}

-- a name that does not begin with `hydra_`
old : Names
old x = not (same_text (take 6 x) (codes "hydra_"))

-- ---- a block

-- struct metadata { bit<8> m; bit<8> n; bit<16> w; }, inout metadata meta
abbrev sight : Scope
sight = declare (declare core (codes "metadata") (fields Struct ((Bit 8, codes "m") ∷ (Bit 8, codes "n") ∷ (Bit 16, codes "w") ∷ []))) (codes "meta") (value Writable (Named (codes "metadata")))

abbrev meta : List ℕ → List (List ℕ)
meta f = codes "meta" ∷ f ∷ []

abbrev read : ℕ → List ℕ → Expr
read p f = path p (meta f)

-- meta.m = meta.m + 1;
abbrev body : Stmts
body = stmts_from (assign 10 (meta (codes "m")) (binary 14 Add (read 14 (codes "m")) (num 18 (record { width = 0; value = 1 }))) ∷ [])

fine_body : IsFine (block_tests place.Apply sight body)
unfolding declare core
fine_body = none_is_fine rank (block_tests place.Apply sight body) refl

-- bool hydra_f; if (!hydra_f) { meta.m = meta.m + 1; }
behind_flag : IsFine (block_tests place.Apply sight (flagged 7 (codes "hydra_f") body))
unfolding declare core old
behind_flag = flagged_fine old place.Apply sight (codes "hydra_f") 7 body refl (((refl, (refl, tt)), ((refl, (refl, tt)), tt)), tt) refl refl fine_body

-- a flag of a name that stands for something is none
name_taken : first_broken (block_tests place.Apply sight (flagged 7 (codes "meta") body)) ≡ Some (7, NameTwice)
unfolding declare core
name_taken = refl

-- blocks don't stand in a deparser
no_place : first_broken (block_tests place.Deparser sight (flagged 7 (codes "hydra_f") body)) ≡ Some (7, WrongPlace)
unfolding declare core
no_place = refl

-- ---- an expression

-- meta.n in the place of meta.m, which has as many bits
same_bits : Replaces sight (read 4 (codes "m")) (read 4 (codes "n"))
unfolding declare core
same_bits = record { wherever = λ w f. record { kind = refl; named = refl; fine = f } }

within : Replaces sight (binary 0 Add (read 0 (codes "m")) (read 4 (codes "m"))) (binary 0 Add (read 0 (codes "m")) (read 4 (codes "n")))
within = parts_replaced (in_binary 0 Add unchanged (replaced same_bits))

-- meta.w, which has more, does not stand there
more_bits : first_broken (block_tests place.Apply sight (stmts_from (assign 5 (meta (codes "m")) (path 9 (meta (codes "w"))) ∷ []))) ≡ Some (9, WidthDiffers)
unfolding declare core
more_bits = refl

-- ---- a program that grows

abbrev number : ℕ → ℕ → Expr
number w v = num 0 (record { width = w; value = v })

abbrev param : Way → List ℕ → List ℕ → Param
param w t x = record { at = 0; way = w; ty = Named t; name = x }

abbrev headers_param : Way → Param
headers_param w = param w (codes "headers") (codes "hdr")

abbrev metadata_param : Param
metadata_param = param way.Both (codes "metadata") (codes "meta")

abbrev standard_param : Param
standard_param = param way.Both (codes "standard_metadata_t") (codes "sm")

abbrev header_call : List ℕ → List ℕ → Stmt
header_call verb h = call 0 (codes "packet" ∷ verb ∷ []) (one 0 (path 0 (codes "hdr" ∷ h ∷ [])) ∷ [])

abbrev state : List ℕ → List Stmt → tree.Transition → ParserState
state x ss onward = record { at = 0; name = x; body = ss; next = onward }

abbrev the_parser : Parser
the_parser = record { at = 0; name = codes "P"; params = param way.Plain (codes "packet_in") (codes "packet") ∷ headers_param way.Out ∷ metadata_param ∷ standard_param ∷ []; states = state (codes "start") (header_call (codes "extract") (codes "e") ∷ []) (to 0 (codes "accept")) ∷ [] }

abbrev checksums : List ℕ → Control
checksums x = record { at = 0; name = x; params = headers_param way.Both ∷ metadata_param ∷ []; locals = []; apply = stmts_from [] }

abbrev applying : List ℕ → List Stmt → Control
applying x ss = record { at = 0; name = x; params = headers_param way.Both ∷ metadata_param ∷ standard_param ∷ []; locals = []; apply = stmts_from ss }

abbrev deparser : Control
deparser = record { at = 0; name = codes "D"; params = param way.Plain (codes "packet_out") (codes "packet") ∷ headers_param way.Into ∷ []; locals = []; apply = stmts_from (header_call (codes "emit") (codes "e") ∷ []) }

-- header e_t { bit<8> x; }  struct headers { e_t e; }  struct metadata { bit<8> m; }, and six parts, of which ingress has
-- meta.m = hdr.e.x;
abbrev ingress : Control
ingress = applying (codes "I") (assign 0 (codes "meta" ∷ codes "m" ∷ []) (path 0 (codes "hdr" ∷ codes "e" ∷ codes "x" ∷ [])) ∷ [])

abbrev given : Program
given =
    record {
      at = 0;
      tops =
          header_type 0 (codes "e_t") ((Bit 8, codes "x") ∷ [])
          ∷ struct_type 0 (codes "headers") ((Named (codes "e_t"), codes "e") ∷ [])
          ∷ struct_type 0 (codes "metadata") ((Bit 8, codes "m") ∷ [])
          ∷ parser 0 the_parser
          ∷ control 0 (checksums (codes "V"))
          ∷ control 0 ingress
          ∷ control 0 (applying (codes "E") [])
          ∷ control 0 (checksums (codes "K"))
          ∷ control 0 deparser
          ∷ [];
      main = codes "P" ∷ codes "V" ∷ codes "I" ∷ codes "E" ∷ codes "K" ∷ codes "D" ∷ [];
    }

given_fine : first_fault given ≡ None
unfolding declare core
given_fine = refl

-- ---- what is added: header hydra_t { bit<8> hydra_v; }, hydra_t hydra_tele; behind the headers' fields

abbrev front : List Top
front = header_type 0 (codes "hydra_t") ((Bit 8, codes "hydra_v") ∷ []) ∷ []

more : List ℕ → More
more x = record { front = []; back = if same_text x (codes "headers") then (Named (codes "hydra_t"), codes "hydra_tele") ∷ [] else [] }

-- `start` chooses: at port 1 the new header is extracted, and then the given parser begins, at `hydra_start`
abbrev renamed : List ℕ → List ℕ
renamed = renamed_to (codes "start") (codes "hydra_start")

abbrev choosing : tree.Transition
choosing = select 0 (path 0 (codes "sm" ∷ codes "ingress_port" ∷ []) ∷ []) (record { keys = only 0 (number 9 1) ∷ []; next = codes "hydra_taken" } ∷ record { keys = any 0 ∷ []; next = codes "hydra_start" } ∷ [])

abbrev taking : List Stmt
taking = header_call (codes "extract") (codes "hydra_tele") ∷ []

abbrev added : List ParserState
added = state (codes "start") [] choosing ∷ state (codes "hydra_taken") taking (to 0 (codes "hydra_start")) ∷ []

-- bool hydra_f = true; hdr.hydra_tele.setValid(); .. if (hydra_f) { hdr.hydra_tele.hydra_v = 8w1; }
abbrev new_locals : List Local
new_locals = local_var 0 Bool_ (codes "hydra_f") (Some (flag 0 true)) ∷ []

abbrev entry : Stmts
entry = stmts_from (call 0 (codes "hdr" ∷ codes "hydra_tele" ∷ codes "setValid" ∷ []) [] ∷ [])

abbrev exit : Stmts
exit = stmts_from (choice 0 (path 0 (codes "hydra_f" ∷ [])) (block 0 (stmts_from (assign 0 (codes "hdr" ∷ codes "hydra_tele" ∷ codes "hydra_v" ∷ []) (number 8 1) ∷ []))) without ∷ [])

abbrev behind : List Top
behind =
    header_type 0 (codes "e_t") ((Bit 8, codes "x") ∷ [])
    ∷ struct_type 0 (codes "headers") (with_more (more (codes "headers")) ((Named (codes "e_t"), codes "e") ∷ []))
    ∷ struct_type 0 (codes "metadata") (with_more (more (codes "metadata")) ((Bit 8, codes "m") ∷ []))
    ∷ parser 0 (parser_with the_parser the_parser.params (entered renamed added the_parser.states))
    ∷ control 0 (checksums (codes "V"))
    ∷ control 0 (control_with ingress ingress.params new_locals (and_then entry (and_then ingress.apply exit)))
    ∷ control 0 (applying (codes "E") [])
    ∷ control 0 (checksums (codes "K"))
    ∷ control 0 (control_with deparser deparser.params [] (next (header_call (codes "emit") (codes "hydra_tele")) deparser.apply))
    ∷ []

grown_fine : first_fault (grown given 0 front behind) ≡ None
unfolding declare core more
grown_fine = refl

-- ---- the same by the law

old_params : (w : Way) → OldWays old (headers_param w ∷ metadata_param ∷ [])
unfolding old
old_params w = (refl, refl, (refl, refl, tt))

old_checksums : (x : List ℕ) → old x ≡ true → OldControl old (checksums x)
unfolding old
old_checksums x o = record { name = o; params = old_params way.Both; locals = tt; apply = tt }

old_applying : (x : List ℕ) → old x ≡ true → OldControl old (applying x [])
unfolding old
old_applying x o = record { name = o; params = (refl, refl, (refl, refl, (refl, refl, tt))); locals = tt; apply = tt }

old_states : OldStates old the_parser.states
unfolding old
old_states = (refl, ((((refl, (refl, tt)), (((refl, (refl, tt)), tt))), tt)), refl, tt)

-- the new names are new
is_new : (x : List ℕ) → MoreIsNew old (more x)
unfolding old more
is_new x = by (same_text x (codes "headers"))
  where
    by : (b : Bool) → MoreIsNew old (record { front = []; back = cond b ((Named (codes "hydra_t"), codes "hydra_tele") ∷ []) [] })
    by true = record { front = tt; back = (refl, tt) }
    by false = record { front = tt; back = tt }

begins : (t : Scope) → (is_missing (t (codes "hydra_start" ∷ [])) ≡ true) → IsFine (states_names t added) → (Keeps t (with_states t (entered renamed added the_parser.states)) → FineFlows (entered renamed added the_parser.states) (with_states t (entered renamed added the_parser.states)) added) → Begins old (codes "start") (codes "hydra_start") t added the_parser.states
unfolding old
begins t f n w =
    record {
      given = old_states;
      start = refl;
      is_given = refl;
      is_taken = refl;
      is_new = refl;
      is_free = f;
      is_apart = refl;
      others = λ x o e. (let f = new_is_other old (codes "hydra_taken") x refl o in cc);
      names = n;
      cycles = (refl, (refl, tt));
      flows = w;
    }

-- what is declared where the parser's states stand, and in ingress
behind_types : Scope → Scope
behind_types s = after_top (after_top (after_top s (header_type 0 (codes "e_t") ((Bit 8, codes "x") ∷ []))) (struct_type 0 (codes "headers") (with_more (more (codes "headers")) ((Named (codes "e_t"), codes "e") ∷ [])))) (struct_type 0 (codes "metadata") (with_more (more (codes "metadata")) ((Bit 8, codes "m") ∷ [])))

before_states : Scope
before_states = with_ends (with_ways (behind_types (after_tops core front)) the_parser.params)

states_grow : ReachesIsExact → (s : Scope) → StatesGrow old s before_states the_parser.states (entered renamed added the_parser.states)
unfolding declare core more behind_types before_states
states_grow exact s =
    entered_grow exact old renamed s before_states added the_parser.states
    (begins_enter old (codes "start") (codes "hydra_start") before_states added the_parser.states
    (begins before_states refl (refl, (refl, tt)) (λ k. flows)))
  where
    made : Scope
    made = with_states before_states (entered renamed added the_parser.states)

    all : List ParserState
    all = entered renamed added the_parser.states

    flows : FineFlows all made added
    flows = (
      tt,
      none_is_fine rank (transition_tests (is_state_name (state_names all)) made choosing) refl,
      (none_is_fine rank (block_tests place.State made (stmts_from taking)) refl, none_is_fine rank (transition_tests (is_state_name (state_names all)) made (to 0 (codes "hydra_start"))) refl, tt),
    )

-- ingress, and what is in sight in its statements
at_ingress : Scope
at_ingress = after_top (after_top (behind_types (after_tops core front)) (parser 0 (parser_with the_parser the_parser.params (entered renamed added the_parser.states)))) (control 0 (checksums (codes "V")))

abbrev made_ingress : Control
made_ingress = control_with ingress ingress.params new_locals (and_then entry (and_then ingress.apply exit))

ingress_grows : (s : Scope) → Alike old s at_ingress → IsFine (control_tests place.Apply s ingress) → IsFine (control_tests place.Apply at_ingress made_ingress)
unfolding declare core old more behind_types at_ingress
ingress_grows s a f = control_grows old place.Apply s at_ingress ingress ingress.params new_locals made_ingress.apply refl (same_params old s at_ingress ingress.params (refl, refl, (refl, refl, (refl, refl, tt)))) locals (λ k. body_grows) a f
  where
    v : Scope
    v = with_ways at_ingress ingress.params

    locals : LocalsGrow old place.Apply v (with_ways s ingress.params) v [] new_locals
    locals = new_local (local_var 0 Bool_ (codes "hydra_f") (Some (flag 0 true))) refl (λ k. (refl, (refl, ((tt, refl), (refl, refl))))) no_local

    t : Scope
    t = in_control at_ingress made_ingress

    body_grows : BodyGrows old place.Apply (in_control s ingress) t ingress.apply made_ingress.apply
    body_grows =
        around_body old place.Apply (in_control s ingress) t entry ingress.apply ingress.apply exit refl (none_is_fine rank (block_tests place.Apply t entry) refl) (tt, tt)
        (same_body old place.Apply (in_control s ingress) (after_all t entry) ingress.apply (((refl, (refl, tt)), (refl, (refl, (refl, tt)))), tt))
        (λ k. none_is_fine rank (block_tests place.Apply (after_all (after_all t entry) ingress.apply) exit) refl)

-- the deparser
at_deparser : Scope
at_deparser = after_top (after_top (after_top at_ingress (control 0 made_ingress)) (control 0 (applying (codes "E") []))) (control 0 (checksums (codes "K")))

abbrev first_emit : Stmt
first_emit = header_call (codes "emit") (codes "hydra_tele")

abbrev made_deparser : Control
made_deparser = control_with deparser deparser.params [] (next first_emit deparser.apply)

not_old : OldPath old (codes "hdr" ∷ codes "hydra_tele" ∷ []) → ⊥
unfolding old
not_old o = let c : false ≡ true = o.1.0 in cc

deparser_grows : (s : Scope) → Alike old s at_deparser → IsFine (control_tests place.Deparser s deparser) → IsFine (control_tests place.Deparser at_deparser made_deparser)
unfolding declare core old more behind_types at_ingress at_deparser
deparser_grows s a f = control_grows old place.Deparser s at_deparser deparser deparser.params [] made_deparser.apply refl (same_params old s at_deparser deparser.params (refl, refl, (refl, refl, tt))) no_local (λ k. body_grows) a f
  where
    t : Scope
    t = in_control at_deparser made_deparser

    body_grows : BodyGrows old place.Deparser (in_control s deparser) t deparser.apply made_deparser.apply
    body_grows =
        emitted_body old (in_control s deparser) t 0 (codes "packet" ∷ codes "emit" ∷ []) (one 0 (path 0 (codes "hdr" ∷ codes "hydra_tele" ∷ [])) ∷ []) (codes "hdr" ∷ codes "hydra_tele" ∷ []) deparser.apply
        ((((refl, (refl, tt)), ((refl, (refl, tt)), tt)), tt))
        (none_is_fine rank (stmt_tests place.Deparser t first_emit) refl) refl not_old

fits_headers : MoreFits 0 (after_tops core front) (more (codes "headers"))
unfolding declare core more
fits_headers = record { once = refl; front = tt; back = (((refl, refl), refl), tt) }

fits_metadata : MoreFits 0 (after_tops core front) (more (codes "metadata"))
unfolding declare core more
fits_metadata = record { once = refl; front = tt; back = tt }

grows : ReachesIsExact → TopsGrow old more false given.main (after_tops core front) core (after_tops core front) given.tops behind
unfolding old behind_types before_states at_ingress at_deparser
grows exact =
    same_top (header_type 0 (codes "e_t") ((Bit 8, codes "x") ∷ [])) refl (refl, (tt, refl, tt))
    (wider_struct 0 (codes "headers") ((Named (codes "e_t"), codes "e") ∷ []) refl (refl, refl, tt) (is_new (codes "headers")) fits_headers
    (wider_struct 0 (codes "metadata") ((Bit 8, codes "m") ∷ []) refl (tt, refl, tt) (is_new (codes "metadata")) fits_metadata
    (other_states 0 the_parser the_parser.params (entered renamed added the_parser.states) refl parser_ways (λ w f. parser_grows old _ _ the_parser the_parser.params (entered renamed added the_parser.states) refl (same_params old _ _ the_parser.params parser_ways) (λ e. states_grow exact _) w.alike f)
    (same_top (control 0 (checksums (codes "V"))) refl (old_checksums (codes "V") refl)
    (other_control 0 ingress ingress.params new_locals made_ingress.apply refl (λ w f. ingress_grows _ w.alike f)
    (same_top (control 0 (applying (codes "E") [])) refl (old_applying (codes "E") refl)
    (same_top (control 0 (checksums (codes "K"))) refl (old_checksums (codes "K") refl)
    (other_control 0 deparser deparser.params [] made_deparser.apply refl (λ w f. deparser_grows _ w.alike f) no_top))))))))
  where
    parser_ways : OldWays old the_parser.params
    parser_ways = (refl, refl, (refl, refl, (refl, refl, (refl, refl, tt))))

well_typed : IsWellTyped given
unfolding declare core
well_typed = fine_unbroken (program_tests given) (none_is_fine rank (program_tests given) refl)

grown_well_typed : ReachesIsExact → IsWellTyped (grown given 0 front behind)
unfolding declare core old more
grown_well_typed exact =
    program_grows old more given 0 front behind (refl, refl, tt) (grows exact) (none_is_fine rank (tops_tests given.main core front) refl) well_typed (record { front = refl; back = refl }) (record { front = refl; back = refl }) (refl, (refl, refl))

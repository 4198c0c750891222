-- The parser of a linked program grows from the given one.
use Rattle.std.proofs.Common.{codes, ◌≡◌, ℕ, List, [], ◌∷◌, Bool, true, false, cond, not, ◌&&◌, ◌||◌, refl, sym, ap, ap₂, ◌∙◌, subst}
use Rattle.lex_text.specs.Names.{same_text}
use Rattle.rule_tests.specs.Tests.{Tests, IsFine, both}
use Rattle.p4_parser_states.specs.Cycles.{is_among, case_targets, state_names, is_on_cycle}
use Rattle.p4_tree.specs.Operators.{class_of}
use Rattle.p4_tree.specs.Tree.{Expr, path, binary, one, assign, call, nowhere, ParserState}
use Rattle.p4_tree.specs.declared.statement.Op.TheVariants as p4
use Rattle.p4_meaning.specs.Scope.{Roots}
use Rattle.p4_scopes.specs.Kinds.{as_value, binary_kind, left_want, right_want}
use Rattle.p4_scopes.specs.Scopes.{Stands, held, is_missing, value_kind, Scope}
use Rattle.p4_scopes.specs.Uses.{holds_header}
use Rattle.p4_scopes.specs.declared.kind.Kind.TheVariants.{Number}
use Rattle.p4_scopes.specs.declared.thing.Thing.TheVariants.{Header, PacketIn}
use Rattle.p4_scopes.specs.declared.thing.Access.TheVariants.{Writable}
use Rattle.p4_statement_rules.specs.Expressions.{fit_tests, class_tests, read_tests, number_tests, expr_tests}
use Rattle.p4_statement_rules.specs.Forms.{takes_call, takes_assignments, verb_form}
use Rattle.p4_statement_rules.specs.Calls.{target_tests, form_tests}
use Rattle.p4_statement_rules.specs.Statements.{stands_tests, stmt_tests}
use Rattle.p4_statement_rules.specs.declared.rule.ProgramRule.{ProgramRule}
use Rattle.p4_statement_rules.specs.declared.rule.Part.TheVariants as place
use Rattle.p4_declaration_rules.specs.Parsers.{is_state_name, with_state, with_ends, cases_tests, with_states, states_names}
use Rattle.p4_rule_laws.specs.OldPrograms.{OldStates}
use Rattle.p4_rule_laws.specs.Entered.{renamed_states, entered, renamed_to, Begins, FineFlows}
use Rattle.p4_rule_laws.proofs.EnteredLemmas.{onto_fine, with_others}
use Rattle.p4_rule_laws.proofs.WiderLemmas.{new_is_other}
use Rattle.p4_typing_laws.proofs.CallCounts.{text_is}
use Rattle.own_programs.specs.OwnPrograms.{is_own}
use Rattle.own_programs.proofs.Names.{broken}
use Rattle.monitor_laws.specs.Trees.{number}
use Rattle.linked_halves.specs.ParserStates.{link_cases}
use Rattle.linked_programs.specs.Rewritten.{length_at}
use Rattle.linked_programs.specs.Linked.{tele_name, header_at, standard_at, first_state, taken_state}
use Rattle.linked_rules.specs.Passes.{Offers}
use Rattle.linked_rules.proofs.ControlsFine.{offers_kept}

abbrev pub added_states : (packet : List ℕ) → Roots → (size : ℕ) (links : List ℕ) → List ParserState
added_states packet r size links = first_state r links ∷ taken_state packet r size ∷ []

-- ---- no state reaches itself

no_start : (links : List ℕ) → is_among (case_targets (link_cases links)) (codes "start") ≡ false
no_start [] = refl
no_start (n ∷ ns) = no_start ns

never : (b c : Bool) → b ≡ false → (((b || false) || ((c || false) && false)) || (((b || false) || ((c || false) && false)) && ((b || false) || ((c || false) && false)))) ≡ false
never true c h = broken h
never false true h = refl
never false false h = refl

first_cycle : (packet : List ℕ) (r : Roots) (size : ℕ) (links : List ℕ) → is_on_cycle (added_states packet r size links) (first_state r links) ≡ false
first_cycle packet r size links = never (is_among (case_targets (link_cases links)) (codes "start")) (is_among (case_targets (link_cases links)) (codes "hydra_taken")) (no_start links)

taken_cycle : (packet : List ℕ) (r : Roots) (size : ℕ) (links : List ℕ) → is_on_cycle (added_states packet r size links) (taken_state packet r size) ≡ false
taken_cycle packet r size links = refl

-- ---- the states are fine

module _ (packet : List ℕ) (r : Roots) (size : ℕ) (links : List ℕ) (u m : Scope) (o : Offers r u m) (packet_in : m (packet ∷ []) ≡ held Writable PacketIn) (header : holds_header (m (header_at r)) ≡ true) (header_there : is_missing (m (header_at r)) ≡ false)
    (all : List ParserState) (taken : is_state_name (state_names all) (codes "hydra_taken") ≡ true) (start : is_state_name (state_names all) (codes "hydra_start") ≡ true) where
  length_set : (e : Expr) → IsFine (expr_tests m (Number 32) e) → IsFine (stmt_tests place.State m (assign 0 (length_at r) e))
  length_set e f = subst (λ (st : Stands). IsFine (both (stands_tests 0 (takes_assignments place.State)) (both (target_tests 0 st) (expr_tests m (value_kind st) e)))) (sym o.length) (refl, ((refl, (refl, refl)), f))

  length_read : IsFine (expr_tests m (Number 32) (path 0 (standard_at r (codes "packet_length"))))
  length_read = subst (λ (st : Stands). IsFine (read_tests 0 st (Number 32))) (sym (o.fields (codes "packet_length"))) (refl, (refl, (refl, refl)))

  abbrev shorter : Stands → Tests ProgramRule
  shorter st =
      both (fit_tests 0 (binary_kind p4.Sub (value_kind st) (Number 0)) (Number 32))
      (both (class_tests 0 (class_of p4.Sub) (value_kind st) (Number 0) (path 0 (standard_at r (codes "packet_length"))) (number 0 size))
      (both (read_tests 0 st (left_want p4.Sub (value_kind st) (Number 0) (Number 32)))
      (number_tests 0 (record { width = 0; value = size }) (right_want p4.Sub (value_kind st) (Number 0) (Number 32)))))

  shorter_fine : IsFine (expr_tests m (Number 32) (binary 0 p4.Sub (path 0 (standard_at r (codes "packet_length"))) (number 0 size)))
  shorter_fine = subst (λ (st : Stands). IsFine (shorter st)) (sym (o.fields (codes "packet_length"))) ((refl, refl), (tt, ((refl, (refl, (refl, refl))), ((refl, refl), (refl, refl)))))

  port_read : IsFine (read_tests 0 (m (standard_at r (codes "ingress_port"))) (as_value (value_kind (m (standard_at r (codes "ingress_port"))))))
  port_read = subst (λ (st : Stands). IsFine (read_tests 0 st (as_value (value_kind st)))) (sym (o.fields (codes "ingress_port"))) (refl, (refl, (refl, refl)))

  port_key : (n : ℕ) → IsFine (number_tests 0 (record { width = 0; value = n }) (as_value (value_kind (m (standard_at r (codes "ingress_port"))))))
  port_key n = subst (λ (st : Stands). IsFine (number_tests 0 (record { width = 0; value = n }) (as_value (value_kind st)))) (sym (o.fields (codes "ingress_port"))) ((refl, refl), (refl, refl))

  cases_fine : (ns : List ℕ) → IsFine (cases_tests (is_state_name (state_names all)) 0 m (path 0 (standard_at r (codes "ingress_port")) ∷ []) (link_cases ns))
  cases_fine [] = ((tt, onto_fine 0 (is_state_name (state_names all) (codes "hydra_start")) (m (codes "hydra_start" ∷ [])) start), tt)
  cases_fine (n ∷ ns) = (((refl, ((port_key n, tt), tt)), onto_fine 0 (is_state_name (state_names all) (codes "hydra_taken")) (m (codes "hydra_taken" ∷ [])) taken), cases_fine ns)

  extract_fine : IsFine (stmt_tests place.State m (call 0 (packet ∷ codes "extract" ∷ []) (one 0 (path 0 (header_at r)) ∷ [])))
  extract_fine =
      subst (λ (st : Stands). IsFine (both (stands_tests 0 (takes_call place.State (verb_form st (codes "extract")))) (form_tests 0 m (verb_form st (codes "extract")) (one 0 (path 0 (header_at r)) ∷ [])))) (sym packet_in)
      (refl, (header_there, ap not header))

  flows_fine : FineFlows all m (added_states packet r size links)
  flows_fine = ((length_set (path 0 (standard_at r (codes "packet_length"))) length_read, tt), ((port_read, tt), cases_fine links), ((extract_fine, (length_set (binary 0 p4.Sub (path 0 (standard_at r (codes "packet_length"))) (number 0 size)) shorter_fine, tt)), onto_fine 0 (is_state_name (state_names all) (codes "hydra_start")) (m (codes "hydra_start" ∷ [])) start, tt))

-- ---- the parser begins with them

either_true : (a b : Bool) → b ≡ true → (a || b) ≡ true
either_true true b h = refl
either_true false b h = h

start_renamed : (sts : List ParserState) → is_among (state_names sts) (codes "start") ≡ true → is_among (state_names (renamed_states (renamed_to (codes "start") (codes "hydra_start")) sts)) (codes "hydra_start") ≡ true
start_renamed [] h = broken (sym h)
start_renamed (st ∷ sts) h = go (same_text st.name (codes "start")) h (start_renamed sts)
  where
    go : (b : Bool) → (b || is_among (state_names sts) (codes "start")) ≡ true → (is_among (state_names sts) (codes "start") ≡ true → is_among (state_names (renamed_states (renamed_to (codes "start") (codes "hydra_start")) sts)) (codes "hydra_start") ≡ true)
        → (same_text (cond b (codes "hydra_start") st.name) (codes "hydra_start") || is_among (state_names (renamed_states (renamed_to (codes "start") (codes "hydra_start")) sts)) (codes "hydra_start")) ≡ true
    go true k more = refl
    go false k more = either_true (same_text st.name (codes "hydra_start")) (is_among (state_names (renamed_states (renamed_to (codes "start") (codes "hydra_start")) sts)) (codes "hydra_start")) (more k)

-- a state of this name, and nothing else of it
abbrev bare_state : List ℕ → ParserState
bare_state x = record { at = 0; name = x; body = []; next = nowhere 0 }

other_state : (s : Scope) (n x : List ℕ) → same_text n x ≡ false → with_state s n (x ∷ []) ≡ s (x ∷ [])
other_state s n x e = with_others s (bare_state n ∷ []) x [] (ap (λ (b : Bool). b || false) e)

-- behind the states that each parser has, other names stand for what they stood for
pub other_ends : (s : Scope) (x : List ℕ) → is_among (codes "accept" ∷ codes "reject" ∷ []) x ≡ false → with_ends s (x ∷ []) ≡ s (x ∷ [])
other_ends s x e = with_others s (bare_state (codes "accept") ∷ bare_state (codes "reject") ∷ []) x [] e

-- a state's name stands for nothing before the states
pub names_missing : (s : Scope) (sts : List ParserState) (x : List ℕ) → IsFine (states_names s sts) → is_among (state_names sts) x ≡ true → is_missing (s (x ∷ [])) ≡ true
names_missing s [] x f h = broken (sym h)
names_missing s (st ∷ sts) x f h = go (same_text st.name x) refl h (names_missing (with_state s st.name) sts x f.1)
  where
    missing_not : (b : Bool) → not b ≡ false → b ≡ true
    missing_not true h = refl
    missing_not false h = broken h

    go : (b : Bool) → same_text st.name x ≡ b → (b || is_among (state_names sts) x) ≡ true → (is_among (state_names sts) x ≡ true → is_missing (with_state s st.name (x ∷ [])) ≡ true) → is_missing (s (x ∷ [])) ≡ true
    go true e k more = ap (λ (y : List ℕ). is_missing (s (y ∷ []))) (sym (text_is st.name x e)) ∙ missing_not (is_missing (s (st.name ∷ []))) f.0
    go false e k more = ap is_missing (sym (other_state s st.name x e)) ∙ more k

module _ (packet : List ℕ) (r : Roots) (size : ℕ) (links : List ℕ) (u t : Scope) (o : Offers r u t) (packet_in : t (packet ∷ []) ≡ held Writable PacketIn) (bits : ℕ) (header : t (header_at r) ≡ held Writable (Header bits))
    (no_taken : is_missing (t (codes "hydra_taken" ∷ [])) ≡ true) (no_other : is_missing (t (codes "hydra_start" ∷ [])) ≡ true) (sts : List ParserState) (given : OldStates is_own sts) (has : is_among (state_names sts) (codes "start") ≡ true) (free : is_missing (t (codes "start" ∷ [])) ≡ true) where
  abbrev made : List ParserState
  made = entered (renamed_to (codes "start") (codes "hydra_start")) (added_states packet r size links) sts

  pub parser_begins : Begins is_own (codes "start") (codes "hydra_start") t (added_states packet r size links) sts
  parser_begins =
      record {
        given = given;
        start = refl;
        is_given = has;
        is_taken = refl;
        is_new = refl;
        is_free = no_other;
        is_apart = refl;
        others = λ x own e. (ap₂ (λ (a b : Bool). a || (b || false)) e (new_is_other is_own (codes "hydra_taken") x refl own));
        names = (ap not free, (ap not (ap is_missing (other_state t (codes "start") (codes "hydra_taken") refl) ∙ no_taken), tt));
        cycles = (first_cycle packet r size links, (taken_cycle packet r size links, tt));
        flows = λ keeps.
            flows_fine packet r size links u (with_states t made) (offers_kept r u t (with_states t made) keeps o)
            (keeps.kept packet [] (ap is_missing packet_in) ∙ packet_in)
            (ap holds_header (keeps.kept r.headers (tele_name ∷ []) o.headers ∙ header)) (ap is_missing (keeps.kept r.headers (tele_name ∷ []) o.headers ∙ header))
            made refl (start_renamed sts has);
      }

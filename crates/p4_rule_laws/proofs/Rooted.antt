-- In the scopes of a program a name that stands for nothing has no path behind it.
use Rattle.std.proofs.Common.{◌≡◌, ℕ, List, [], ◌∷◌, Bool, true, false, cond, ◌&&◌, refl, sym, ◌∙◌, codes}
use Rattle.lex_text.specs.Names.{same_text}
use Rattle.p4_tree.specs.Tree.{Stmts, done, next, ParserState, Local, local_action, local_table, local_register, local_const, local_var, Top, constant, typedef, header_type, struct_type, register, parser, control}
use Rattle.p4_tree.specs.declared.statement.PTy.{PTy}
use Rattle.p4_tree.specs.declared.program.Param.{Param}
use Rattle.p4_scopes.specs.Scopes.{Stands, missing, state, algorithm, other, Scope, is_missing, standard_at, alias, fields, value, action, table, parser_state, part, declare, core, fields_bits}
use Rattle.p4_scopes.specs.Scopes as scope
use Rattle.p4_scopes.specs.declared.thing.Thing.TheVariants.{Header, Struct}
use Rattle.p4_scopes.specs.declared.thing.Access.TheVariants.{Writable, Fixed, Constant}
use Rattle.p4_statement_rules.specs.Statements.{after, after_all}
use Rattle.p4_declaration_rules.specs.Digests.{most_of, most_of_table}
use Rattle.p4_declaration_rules.specs.Declarations.{with_params}
use Rattle.p4_declaration_rules.specs.Parsers.{way_access, with_ways, with_state, with_ends, with_states}
use Rattle.p4_declaration_rules.specs.Controls.{after_local, after_locals, after_top, after_tops}
use Rattle.p4_rule_laws.specs.Kept.{IsRooted}
use Rattle.p4_rule_laws.proofs.KeptFine.{declare_rooted, after_rooted}

passed : (b : Bool) (a u : Stands) → is_missing a ≡ false → is_missing (cond b a u) ≡ true → (b ≡ false) × (is_missing u ≡ true)
passed true a u n e = absurd (let c : true ≡ false = sym e ∙ n in cc)
passed false a u n e = (refl, e)

neither : (b c d : Bool) (u : Stands) → b ≡ false → c ≡ false → is_missing (cond b u (cond (c && d) algorithm missing)) ≡ true
neither true c d u e f = absurd (let c : true ≡ false = e in cc)
neither false true d u e f = absurd (let c : true ≡ false = f in cc)
neither false false d u e f = refl

core_behind : (x : List ℕ) (xs : List (List ℕ)) → is_missing (core (x ∷ [])) ≡ true → is_missing (core (x ∷ xs)) ≡ true
unfolding core
core_behind x [] m = m
core_behind x (y ∷ []) m =
    let a = passed (same_text x (codes "standard_metadata_t")) _ _ refl m in
    let b = passed (same_text x (codes "packet_in")) _ _ refl a.1 in
    let c = passed (same_text x (codes "packet_out")) _ _ refl b.1 in
    let d = passed (same_text x (codes "NoAction")) _ _ refl c.1 in
    let e = passed (same_text x (codes "mark_to_drop")) _ _ refl d.1 in
    let f = passed (same_text x (codes "digest")) _ _ refl e.1 in
    let g = passed (same_text x (codes "verify_checksum")) _ _ refl f.1 in
    let h = passed (same_text x (codes "update_checksum")) _ _ refl g.1 in
    let j = passed (same_text x (codes "HashAlgorithm")) other missing refl h.1 in
    neither (same_text x (codes "standard_metadata_t")) (same_text x (codes "HashAlgorithm")) (same_text y (codes "csum16")) (standard_at y) a.0 j.0
core_behind x (y ∷ z ∷ zs) m = refl

core_none : is_missing (core []) ≡ true
unfolding core
core_none = refl

pub core_rooted : IsRooted core
core_rooted = record { nowhere = core_none; behind = core_behind }

pub after_all_rooted : (s : Scope) → IsRooted s → (b : Stmts) → IsRooted (after_all s b)
after_all_rooted s r done = r
after_all_rooted s r (next c b) = after_all_rooted (after s c) (after_rooted s r c) b

pub with_params_rooted : (s : Scope) → IsRooted s → (qs : List (PTy × List ℕ)) → IsRooted (with_params s qs)
with_params_rooted s r [] = r
with_params_rooted s r (q ∷ qs) = with_params_rooted (declare s q.1 (value Fixed q.0)) (declare_rooted s r q.1 (value Fixed q.0)) qs

pub with_ways_rooted : (s : Scope) → IsRooted s → (qs : List Param) → IsRooted (with_ways s qs)
with_ways_rooted s r [] = r
with_ways_rooted s r (q ∷ qs) = with_ways_rooted (declare s q.name (value (way_access q.way) q.ty)) (declare_rooted s r q.name (value (way_access q.way) q.ty)) qs

pub with_state_rooted : (s : Scope) → IsRooted s → (n : List ℕ) → IsRooted (with_state s n)
with_state_rooted s r n = by (is_missing (s (n ∷ [])))
  where
    by : (b : Bool) → IsRooted (cond b (declare s n parser_state) s)
    by true = declare_rooted s r n parser_state
    by false = r

pub with_ends_rooted : (s : Scope) → IsRooted s → IsRooted (with_ends s)
with_ends_rooted s r = with_state_rooted (with_state s (codes "accept")) (with_state_rooted s r (codes "accept")) (codes "reject")

pub with_states_rooted : (s : Scope) → IsRooted s → (sts : List ParserState) → IsRooted (with_states s sts)
with_states_rooted s r [] = r
with_states_rooted s r (st ∷ sts) = with_states_rooted (with_state s st.name) (with_state_rooted s r st.name) sts

after_local_rooted : (s : Scope) → IsRooted s → (l : Local) → IsRooted (after_local s l)
after_local_rooted s r (local_action p a) = declare_rooted s r a.name (action a.params (most_of s a.body))
after_local_rooted s r (local_table p t) = declare_rooted s r t.name (table (most_of_table s t.actions t.default))
after_local_rooted s r (local_register p q) = declare_rooted s r q.name (scope.register q.ty)
after_local_rooted s r (local_const p t x e) = declare_rooted s r x (value Constant t)
after_local_rooted s r (local_var p t x e) = declare_rooted s r x (value Writable t)

pub after_locals_rooted : (s : Scope) → IsRooted s → (ls : List Local) → IsRooted (after_locals s ls)
after_locals_rooted s r [] = r
after_locals_rooted s r (l ∷ ls) = after_locals_rooted (after_local s l) (after_local_rooted s r l) ls

after_top_rooted : (s : Scope) → IsRooted s → (y : Top) → IsRooted (after_top s y)
after_top_rooted s r (constant p t x e) = declare_rooted s r x (value Constant t)
after_top_rooted s r (typedef p t x) = declare_rooted s r x (alias t)
after_top_rooted s r (header_type p x fs) = declare_rooted s r x (fields (Header (fields_bits s fs)) fs)
after_top_rooted s r (struct_type p x fs) = declare_rooted s r x (fields Struct fs)
after_top_rooted s r (register p q) = declare_rooted s r q.name (scope.register q.ty)
after_top_rooted s r (parser p d) = declare_rooted s r d.name part
after_top_rooted s r (control p c) = declare_rooted s r c.name part

pub after_tops_rooted : (s : Scope) → IsRooted s → (ys : List Top) → IsRooted (after_tops s ys)
after_tops_rooted s r [] = r
after_tops_rooted s r (y ∷ ys) = after_tops_rooted (after_top s y) (after_top_rooted s r y) ys

-- A control of a linked program, and what of it runs.
use Rattle.std.proofs.Common.{codes, ◌≡◌, ℕ, zero, suc, List, [], ◌∷◌, ◌++◌, map, Bool, true, false, cond, not, ◌||◌, Option, Some, None, refl, sym, ap, ap₂, ◌∙◌, subst}
use Rattle.std.specs.List.{AllByRecursion}
use Rattle.bit_values.specs.Bits.{Word}
use Rattle.lex_text.specs.Names.{same_text}
use Rattle.p4_tree.specs.Tree.{Stmts, var, done, next, and_then, Local, local_action, local_table, local_register, local_const, local_var, Control}
use Rattle.p4_tree.specs.declared.statement.PTy.{PTy}
use Rattle.p4_tree.specs.declared.program.Param.{Param}
use Rattle.p4_meaning.specs.Standard.{headers_root, metadata_root, standard_root}
use Rattle.p4_meaning.specs.Scope.{Scope, Roots, root_of, param_at, param_name, Inner, is_inner, inner_name, is_among, own_names, first_name, constant_named, full, full_name}
use Rattle.p4_meaning.specs.Under.{with_constant, in_control, stmt_under, stmts_under, behind_locals, settings_under}
use Rattle.p4_meaning.specs.Actions.{Action, in_action, action_under, actions_in, action_named}
use Rattle.p4_meaning.specs.Tables.{Table, table_under, tables_in}
use Rattle.p4_meaning.specs.Parts.{registers_in}
use Rattle.own_code.specs.Regions.{is_mine}
use Rattle.own_code.proofs.Apart.{apart_names}
use Rattle.packet_lengths.specs.Lengths.{plain_stmts, plain_action, plain_table}
use Rattle.monitor_laws.specs.Names.{rejects_register}
use Rattle.linked_halves.specs.Statements.{vars_of}
use Rattle.own_programs.specs.OwnPrograms.{is_own}
use Rattle.p4_rule_laws.specs.Old.{OldPath}
use Rattle.p4_rule_laws.specs.OldPrograms.{OldWays, OldLocals, OldControl}
use Rattle.linked_programs.specs.Rewritten.{stmts_with, local_with}
use Rattle.linked_programs.specs.Linked.{control_roots, switch_name}
use Rattle.linked_programs.specs.Reads.{LocalsReadBy, LocalsReadIn, StmtsReadIn}
use Rattle.linked_programs.specs.Gives.{switch_word, Sees, StandForRoots, IsLoweredLocal}
use Rattle.linked_programs.specs.Ready.{ReadyApply, ReadySums}
use Rattle.linked_programs.proofs.RewrittenUnder.{stmts_same, own_with, behind_with, registers_with, settings_with, actions_with, tables_with}
use Rattle.linked_programs.proofs.WiderScopes.{wider, AreMine, among_own, named_own, stmts_wider, behind_wider, settings_wider, registers_wider, actions_wider, tables_wider}
use Rattle.linked_programs.proofs.LinkedTops.{switch_constants, switch_mine}
use Rattle.linked_programs.proofs.LinkerCode.{Stage}

-- ---- local declarations of the lowering, before others

pub own_both : (a b : List Local) → own_names (a ++ b) ≡ own_names a ++ own_names b
own_both [] b = refl
own_both (local_action p k ∷ a) b = ap (λ (xs : List (List ℕ)). k.name ∷ xs) (own_both a b)
own_both (local_table p k ∷ a) b = ap (λ (xs : List (List ℕ)). k.name ∷ xs) (own_both a b)
own_both (local_register p k ∷ a) b = ap (λ (xs : List (List ℕ)). k.name ∷ xs) (own_both a b)
own_both (local_const p ty x e ∷ a) b = own_both a b
own_both (local_var p ty x e ∷ a) b = own_both a b

pub mine_names : (a : List Local) → AllByRecursion IsLoweredLocal a → AreMine (own_names a)
mine_names [] h = tt
mine_names (local_action p k ∷ a) h = (h.0, mine_names a h.1)
mine_names (local_table p k ∷ a) h = (h.0, mine_names a h.1)
mine_names (local_register p k ∷ a) h = absurd h.0
mine_names (local_const p ty x e ∷ a) h = absurd h.0
mine_names (local_var p ty x e ∷ a) h = mine_names a h.1

module _ (b : List Local) (sc : Scope) where
  pub lowered_behind : (a : List Local) → AllByRecursion IsLoweredLocal a → behind_locals sc (a ++ b) ≡ behind_locals sc b
  lowered_behind [] h = refl
  lowered_behind (local_action p k ∷ a) h = lowered_behind a h.1
  lowered_behind (local_table p k ∷ a) h = lowered_behind a h.1
  lowered_behind (local_register p k ∷ a) h = absurd h.0
  lowered_behind (local_const p ty x e ∷ a) h = absurd h.0
  lowered_behind (local_var p ty x e ∷ a) h = lowered_behind a h.1

  pub lowered_settings : (a : List Local) → AllByRecursion IsLoweredLocal a → settings_under sc (a ++ b) ≡ and_then (settings_under sc a) (settings_under sc b)
  lowered_settings [] h = refl
  lowered_settings (local_action p k ∷ a) h = lowered_settings a h.1
  lowered_settings (local_table p k ∷ a) h = lowered_settings a h.1
  lowered_settings (local_register p k ∷ a) h = absurd h.0
  lowered_settings (local_const p ty x e ∷ a) h = absurd h.0
  lowered_settings (local_var p ty x e ∷ a) h = ap (next (stmt_under sc (var p ty x e))) (lowered_settings a h.1)

  pub lowered_registers : (a : List Local) → AllByRecursion IsLoweredLocal a → registers_in sc (a ++ b) ≡ registers_in sc b
  lowered_registers [] h = refl
  lowered_registers (local_action p k ∷ a) h = lowered_registers a h.1
  lowered_registers (local_table p k ∷ a) h = lowered_registers a h.1
  lowered_registers (local_register p k ∷ a) h = absurd h.0
  lowered_registers (local_const p ty x e ∷ a) h = absurd h.0
  lowered_registers (local_var p ty x e ∷ a) h = lowered_registers a h.1

  pub lowered_actions : (a : List Local) → AllByRecursion IsLoweredLocal a → actions_in sc (a ++ b) ≡ actions_in sc a ++ actions_in sc b
  lowered_actions [] h = refl
  lowered_actions (local_action p k ∷ a) h = ap (λ (xs : List Action). action_under sc k ∷ xs) (lowered_actions a h.1)
  lowered_actions (local_table p k ∷ a) h = lowered_actions a h.1
  lowered_actions (local_register p k ∷ a) h = absurd h.0
  lowered_actions (local_const p ty x e ∷ a) h = absurd h.0
  lowered_actions (local_var p ty x e ∷ a) h = lowered_actions a h.1

  pub lowered_tables : (as' : List Action) (a : List Local) → AllByRecursion IsLoweredLocal a → tables_in sc as' (a ++ b) ≡ tables_in sc as' a ++ tables_in sc as' b
  lowered_tables as' [] h = refl
  lowered_tables as' (local_action p k ∷ a) h = lowered_tables as' a h.1
  lowered_tables as' (local_table p k ∷ a) h = ap (λ (xs : List Table). table_under sc as' k ∷ xs) (lowered_tables as' a h.1)
  lowered_tables as' (local_register p k ∷ a) h = absurd h.0
  lowered_tables as' (local_const p ty x e ∷ a) h = absurd h.0
  lowered_tables as' (local_var p ty x e ∷ a) h = lowered_tables as' a h.1

pub reads_both : (f : List ℕ → List ℕ) (g : _) (r : Roots) (a b : List Local) → LocalsReadBy f g r a → LocalsReadBy f g r b → LocalsReadBy f g r (a ++ b)
reads_both f g r [] b h k = k
reads_both f g r (l ∷ a) b h k = (h.0, reads_both f g r a b h.1 k)

pub vars_then : (ls : List (PTy × List ℕ)) (ss : Stmts) → and_then (vars_of ls done) ss ≡ vars_of ls ss
vars_then [] ss = refl
vars_then (l ∷ ls) ss = ap (next (var 0 l.0 l.1 None)) (vars_then ls ss)

-- ---- own scopes: outside actions, with constants of own names

pub record OwnScope (sc : Scope) : Type 0 where
  pub outer : sc.inner ≡ None
  pub constants : AllByRecursion (λ (k : List ℕ × Word). is_own k.0 ≡ true) sc.constants

-- behind local declarations there are constants more, and nothing else
pub behind_is : (ls : List Local) (sc : Scope) → behind_locals sc ls ≡ record sc { constants = (behind_locals sc ls).constants }
behind_is [] sc = refl
behind_is (local_action p a ∷ ls) sc = behind_is ls sc
behind_is (local_table p t ∷ ls) sc = behind_is ls sc
behind_is (local_register p d ∷ ls) sc = behind_is ls sc
behind_is (local_const p ty x e ∷ ls) sc = behind_is ls (with_constant sc ty x e)
behind_is (local_var p ty x e ∷ ls) sc = behind_is ls sc

pub behind_own : (ls : List Local) (sc : Scope) → OldLocals is_own ls → OwnScope sc → OwnScope (behind_locals sc ls)
behind_own [] sc o h = h
behind_own (local_action p a ∷ ls) sc o h = behind_own ls sc o.1 h
behind_own (local_table p t ∷ ls) sc o h = behind_own ls sc o.1 h
behind_own (local_register p d ∷ ls) sc o h = behind_own ls sc o.1 h
behind_own (local_const p ty x e ∷ ls) sc o h = behind_own ls (with_constant sc ty x e) o.1 (record { outer = h.outer; constants = (o.0.1, h.constants) })
behind_own (local_var p ty x e ∷ ls) sc o h = behind_own ls sc o.1 h

not_own : (x : List ℕ) → is_mine x ≡ true → is_own x ≡ false
not_own x m = ap not m

none_mine : (cs ks : List (List ℕ × Word)) (x : List ℕ) → AllByRecursion (λ (k : List ℕ × Word). is_own k.0 ≡ true) cs → is_mine x ≡ true → constant_named (cs ++ ks) x ≡ constant_named ks x
none_mine [] ks x h m = refl
none_mine (c ∷ cs) ks x h m = ap (λ (b : Bool). cond b (Some c.1) (constant_named (cs ++ ks) x)) (apart_names is_own c.0 x h.0 (not_own x m)) ∙ none_mine cs ks x h.1 m

among_none : (ys : List (List ℕ)) (x : List ℕ) → OldPath is_own ys → is_mine x ≡ true → is_among ys x ≡ false
among_none [] x o m = refl
among_none (y ∷ ys) x o m = ap₂ (λ (a b : Bool). a || b) (apart_names is_own y x o.0 (not_own x m)) (among_none ys x o.1 m)

among_mine : (es ys : List (List ℕ)) (x : List ℕ) → OldPath is_own ys → is_mine x ≡ true → is_among (es ++ ys) x ≡ is_among es x
among_mine [] ys x o m = among_none ys x o m
among_mine (e ∷ es) ys x o m = ap (λ (b : Bool). same_text e x || b) (among_mine es ys x o m)

pub names_old : (ls : List Local) → OldLocals is_own ls → OldPath is_own (own_names ls)
names_old [] o = tt
names_old (local_action p a ∷ ls) o = (o.0.0, names_old ls o.1)
names_old (local_table p t ∷ ls) o = (o.0.name, names_old ls o.1)
names_old (local_register p d ∷ ls) o = (o.0.0, names_old ls o.1)
names_old (local_const p ty x e ∷ ls) o = names_old ls o.1
names_old (local_var p ty x e ∷ ls) o = names_old ls o.1

-- ---- roots of own names

pub name_given : (ps : List Param) (n : ℕ) → OldWays is_own ps → is_own (param_name (param_at ps n)) ≡ true
name_given [] n o = refl
name_given (p ∷ ps) zero o = o.1
name_given (p ∷ ps) (suc n) o = name_given ps n o.2

pub root_mine : (r : Roots) (x : List ℕ) → is_own r.headers ≡ true → is_own r.metadata ≡ true → is_own r.standard ≡ true → is_mine x ≡ true → root_of r x ≡ x
root_mine r x a b c m =
    go (same_text r.headers x) (same_text r.metadata x) (same_text r.standard x)
    (apart_names is_own r.headers x a (not_own x m)) (apart_names is_own r.metadata x b (not_own x m)) (apart_names is_own r.standard x c (not_own x m))
  where
    go : (a b c : Bool) → a ≡ false → b ≡ false → c ≡ false → cond a headers_root (cond b metadata_root (cond c standard_root x)) ≡ x
    go true b c d e f = absurd (cc d)
    go false true c d e f = absurd (cc e)
    go false false true d e f = absurd (cc f)
    go false false false d e f = refl

outside : (o : Option Inner) (c x y : List ℕ) → o ≡ None → cond (is_inner o x) (inner_name o c x) y ≡ y
outside None c x y e = refl
outside (Some i) c x y e = absurd (cc e)

outside_none : (o : Option Inner) (x : List ℕ) (w : Option Word) → o ≡ None → cond (is_inner o x) None w ≡ w
outside_none None x w e = refl
outside_none (Some i) x w e = absurd (cc e)

-- ---- ingress or egress, with local declarations of the lowering in front of its own

module _ (s : ℕ) (sc : Scope) (own : OwnScope sc) (c : Control) (o : OldControl is_own c) (ready : ReadyApply sc c) (a : List Local) (low : AllByRecursion IsLoweredLocal a) where
  abbrev r : Roots
  r = control_roots c

  abbrev es : List (List ℕ)
  es = own_names a

  abbrev ks : List (List ℕ × Word)
  ks = switch_constants s

  -- the scope of the given control, and behind its declarations
  abbrev S : Scope
  S = in_control 0 1 2 sc c

  abbrev B : Scope
  B = behind_locals S c.locals

  own_S : OwnScope S
  own_S = record { outer = own.outer; constants = own.constants }

  own_B : OwnScope B
  own_B = behind_own c.locals S o.locals own_S

  -- no own declaration has this name
  not_among : (x : List ℕ) → is_own x ≡ true → is_among (own_names c.locals) x ≡ false → is_among (es ++ own_names c.locals) x ≡ false
  not_among x o e = among_own es (own_names c.locals) x (mine_names a low) o ∙ e

  pub sees_front : Sees s c.name r es (wider es ks S)
  sees_front =
      record {
        control = refl;
        roots = refl;
        outer = own.outer;
        own = λ x m. among_mine es (own_names c.locals) x (names_old c.locals o.locals) m;
        digest = not_among (codes "digest") refl ready.digest;
        no_action = not_among (codes "NoAction") refl ready.no_action;
        switch = none_mine sc.constants ks switch_name own.constants refl;
        constants = λ x m n. none_mine sc.constants ks x own.constants m ∙ ap (λ (b : Bool). cond b (Some (switch_word s)) None) n;
      }

  pub roots_front : StandForRoots r (wider es ks S)
  roots_front = record { headers = ready.roots.headers; metadata = ready.roots.metadata; standard = ready.roots.standard }

  pub sees_body : Sees s c.name r es (wider es ks B)
  sees_body =
      record {
        control = ap (λ (z : Scope). z.control) (behind_is c.locals S);
        roots = ap (λ (z : Scope). z.roots) (behind_is c.locals S);
        outer = own_B.outer;
        own = λ x m. ap (λ (z : Scope). is_among (es ++ z.own) x) (behind_is c.locals S) ∙ among_mine es (own_names c.locals) x (names_old c.locals o.locals) m;
        digest = ap (λ (z : Scope). is_among (es ++ z.own) (codes "digest")) (behind_is c.locals S) ∙ not_among (codes "digest") refl ready.digest;
        no_action = ap (λ (z : Scope). is_among (es ++ z.own) (codes "NoAction")) (behind_is c.locals S) ∙ not_among (codes "NoAction") refl ready.no_action;
        switch = none_mine B.constants ks switch_name own_B.constants refl;
        constants = λ x m n. none_mine B.constants ks x own_B.constants m ∙ ap (λ (b : Bool). cond b (Some (switch_word s)) None) n;
      }

  first_body : (x : List ℕ) → first_name (wider es ks B) x ≡ first_name S x
  first_body x = ap (λ (z : Scope). first_name (wider es ks z) x) (behind_is c.locals S)

  pub roots_body : StandForRoots r (wider es ks B)
  roots_body = record { headers = first_body r.headers ∙ ready.roots.headers; metadata = first_body r.metadata ∙ ready.roots.metadata; standard = first_body r.standard ∙ ready.roots.standard }

  own_name : is_own r.standard ≡ true
  own_name = name_given c.params 2 o.params

  full_at : (x : List ℕ) → is_among (es ++ own_names c.locals) x ≡ false → full_name (wider es ks B) x ≡ x
  full_at x e = ap (λ (z : Scope). cond (is_among (es ++ z.own) x) (full z.control x) x) (behind_is c.locals S) ∙ ap (λ (b : Bool). cond b (full c.name x) x) e

  pub stage : is_among es rejects_register ≡ false → Stage r (wider es ks B)
  stage none =
      record {
        roots = roots_body;
        mine = λ x m. first_body x ∙ outside sc.inner c.name x (root_of r x) own.outer ∙ root_mine r x (name_given c.params 0 o.params) (name_given c.params 1 o.params) own_name m;
        constants = λ x m n. outside_none B.inner x (constant_named (B.constants ++ ks) x) own_B.outer ∙ sees_body.constants x m n;
        standard = outside_none B.inner r.standard (constant_named (B.constants ++ ks) r.standard) own_B.outer ∙ named_own B.constants ks r.standard (switch_mine s) own_name ∙ ready.standard;
        rejects = full_at rejects_register (among_mine es (own_names c.locals) rejects_register (names_old c.locals o.locals) refl ∙ none);
        drops = full_at (codes "mark_to_drop") (not_among (codes "mark_to_drop") refl ready.mark_to_drop);
      }

  -- the scope in the linked control
  pub inside : (λ (xs : List (List ℕ)). record (wider [] ks S) { own = xs }) (own_names (map (local_with r) (a ++ c.locals))) ≡ wider es ks S
  inside = ap (λ (xs : List (List ℕ)). record (wider [] ks S) { own = xs }) (own_with r (a ++ c.locals) ∙ own_both a c.locals)

  -- ---- what of the linked control runs

  abbrev linked_locals : List Local
  linked_locals = map (local_with r) (a ++ c.locals)

  abbrev L : Scope
  L = record (wider [] ks S) { own = own_names linked_locals }

  abbrev W : Scope
  W = wider es ks S

  mine : AreMine es
  mine = mine_names a low

  behind : behind_locals L linked_locals ≡ wider es ks B
  behind =
      ap (λ (z : Scope). behind_locals z linked_locals) inside ∙ behind_with r (a ++ c.locals) W ∙ lowered_behind c.locals W a low
      ∙ behind_wider es ks mine (switch_mine s) c.locals S o.locals

  pub half_registers : registers_in L linked_locals ≡ registers_in S c.locals
  half_registers =
      ap (λ (z : Scope). registers_in z linked_locals) inside ∙ registers_with r (a ++ c.locals) W ∙ lowered_registers c.locals W a low
      ∙ registers_wider es ks mine (switch_mine s) c.locals S o.locals

  module _ (reads : LocalsReadIn W r a) where
    all_read : LocalsReadIn W r (a ++ c.locals)
    all_read = reads_both (first_name W) (λ b. first_name (in_action W b)) r a c.locals reads ready.locals

    pub half_actions : (xs : List Action) → actions_in W a ≡ xs → actions_in L linked_locals ≡ map plain_action (xs ++ actions_in S c.locals)
    half_actions xs e =
        ap (λ (z : Scope). actions_in z linked_locals) inside ∙ actions_with r (a ++ c.locals) W all_read
        ∙ ap (map plain_action) (lowered_actions c.locals W a low ∙ ap₂ (λ (x y : List Action). x ++ y) e (actions_wider es ks mine (switch_mine s) c.locals S o.locals))

    pub half_tables : (as' bs : List Action) → ((x : List ℕ) → is_own x ≡ true → action_named bs x ≡ action_named as' x) → (xs : List Table) → tables_in W bs a ≡ xs → tables_in L (map plain_action bs) linked_locals ≡ map plain_table (xs ++ tables_in S as' c.locals)
    half_tables as' bs same xs e =
        ap (λ (z : Scope). tables_in z (map plain_action bs) linked_locals) inside ∙ tables_with r bs (a ++ c.locals) W roots_front.metadata all_read
        ∙ ap (map plain_table) (lowered_tables c.locals W bs a low ∙ ap₂ (λ (x y : List Table). x ++ y) e (tables_wider es ks mine (switch_mine s) as' bs same c.locals S o.locals))

    pub half_settings : (vars : Stmts) → settings_under W a ≡ vars → settings_under L linked_locals ≡ plain_stmts (and_then vars (settings_under S c.locals))
    half_settings vars e =
        ap (λ (z : Scope). settings_under z linked_locals) inside ∙ settings_with r (a ++ c.locals) W roots_front.metadata all_read
        ∙ ap plain_stmts (lowered_settings c.locals W a low ∙ ap₂ and_then e (settings_wider es ks mine (switch_mine s) c.locals S o.locals))

  pub half_body : (b : Stmts) → StmtsReadIn (wider es ks B) r b → stmts_under (behind_locals L linked_locals) (stmts_with r b) ≡ plain_stmts (stmts_under (wider es ks B) b)
  half_body b h = ap (λ (z : Scope). stmts_under z (stmts_with r b)) behind ∙ stmts_same (wider es ks B) r roots_body.metadata b h

  pub apply_wider : stmts_under (wider es ks B) c.apply ≡ stmts_under B c.apply
  apply_wider = stmts_wider es ks mine (switch_mine s) B c.apply o.apply

-- ---- verify checksum and compute checksum

pub sums_same : (s : ℕ) (sc : Scope) (c : Control) → OldControl is_own c → ReadySums sc c
    → and_then (settings_under (wider [] (switch_constants s) (in_control 0 1 9 sc c)) c.locals) (stmts_under (behind_locals (wider [] (switch_constants s) (in_control 0 1 9 sc c)) c.locals) (stmts_with (control_roots c) c.apply))
    ≡ plain_stmts (and_then (settings_under (in_control 0 1 9 sc c) c.locals) (stmts_under (behind_locals (in_control 0 1 9 sc c) c.locals) c.apply))
sums_same s sc c o ready =
    subst (λ (ls : List Local). and_then (settings_under (wider [] (switch_constants s) (in_control 0 1 9 sc c)) ls) (stmts_under (behind_locals (wider [] (switch_constants s) (in_control 0 1 9 sc c)) ls) (stmts_with (control_roots c) c.apply)) ≡ plain_stmts (and_then (settings_under (in_control 0 1 9 sc c) ls) (stmts_under (behind_locals (in_control 0 1 9 sc c) ls) c.apply))) (sym ready.locals)
    (stmts_same (wider [] (switch_constants s) (in_control 0 1 9 sc c)) (control_roots c) ready.metadata c.apply ready.apply ∙ ap plain_stmts (stmts_wider [] (switch_constants s) tt (switch_mine s) (in_control 0 1 9 sc c) c.apply o.apply))

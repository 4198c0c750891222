-- Actions, keys and calls of programs with other values do the same.
use Rattle.std.proofs.Common.{◌≡◌, ℕ, List, [], ◌∷◌, ◌++◌, map, Bool, true, false, codes, ◌||◌, Option, Some, None, refl, ap, ap₂, ◌∙◌, subst}
use Rattle.std.specs.List.{AllZip, AllByRecursion}
use Rattle.bit_values.specs.Bits.{Word}
use Rattle.lex_text.specs.Names.{same_text}
use Rattle.rule_tests.specs.Tests.{IsFine}
use Rattle.p4_tree.specs.Tree as tree
use Rattle.p4_tree.specs.Tree.{Expr, Stmt, Stmts, MaybeStmt}
use Rattle.p4_tree.specs.declared.statement.PTy.{PTy}
use Rattle.p4_meaning.specs.Store.{Store}
use Rattle.p4_meaning.specs.Statements.{Run, Ended, in_store, no_calls, meaning_of}
use Rattle.p4_meaning.specs.Choice.{Entry, IsChoice, choice_of}
use Rattle.p4_meaning.proofs.Choices.{choice_is, below}
use Rattle.p4_meaning.specs.Parts.{Parts}
use Rattle.p4_meaning.specs.Scope as meaning
use Rattle.p4_meaning.specs.Scope.{full_name, names_in_stmt, names_in_else, names_in}
use Rattle.p4_meaning.specs.Under.{stmts_under}
use Rattle.p4_meaning.specs.Actions as meant
use Rattle.p4_meaning.specs.Actions.{Param, params_in, in_action, param_under, action_under, bound, flow_behind, act, action_named, params_of, args_of, act_if}
use Rattle.p4_meaning.specs.Tables.{key_under, Chosen, Table, Entries, table_named, has_ternary, key_words, test_behind, chosen_runs, apply_if}
use Rattle.p4_scopes.specs.Kinds.{as_value}
use Rattle.p4_scopes.specs.Scopes.{Scope, own}
use Rattle.p4_statement_rules.specs.declared.rule.Part.{Part}
use Rattle.p4_declaration_rules.specs.Declarations.{with_params, action_tests}
use Rattle.p4_declaration_rules.specs.Tables.{keys_tests}
use Rattle.p4_typing_laws.specs.Along.{Along}
use Rattle.p4_typing_laws.proofs.SoundPlaces.{free_most}
use Rattle.p4_statement_rules.specs.Statements.{block_tests}
use Rattle.passage_stores.specs.SeenStores.{Sees}
use Rattle.passage_stores.proofs.SeenBlocks.{turned_block}
use Rattle.rewriting_laws.specs.Standing.{MayStandFor}
use Rattle.rewritten_programs.specs.Rewritten.{StmtRewritten, lone, returns, exits, in_block, in_var, in_assign, in_choice, in_call, ElseRewritten, no_else, in_else, BlockRewritten, none_left, first_then, ActionRewritten, KeyRewritten}
use Rattle.rewriting_meaning.specs.Sights.{HaveSameValues, DoSame, IsSeen, IsFitlySeen, ActionsDoSame, KeysAgree, TablesAgree}
use Rattle.rewriting_meaning.specs.Laws.{ProgramsCallsDoSame}
use Rattle.rewriting_meaning.proofs.Runs.{runs_same}
use Rattle.rewriting_meaning.proofs.Called.{statements_same}

-- ---- actions

-- the names that a block declares stay
mutual
  names_in_statement : {c d : Stmt} → StmtRewritten MayStandFor c d → names_in_stmt d ≡ names_in_stmt c
  names_in_statement (lone p) = refl
  names_in_statement (returns p) = refl
  names_in_statement (exits p) = refl
  names_in_statement (in_block p r) = names_stay r
  names_in_statement (in_var p t x r) = refl
  names_in_statement (in_assign p x r) = refl
  names_in_statement (in_choice p t r q) = ap₂ (λ (xs ys : List (List ℕ)). xs ++ ys) (names_in_statement r) (names_in_other q)
  names_in_statement (in_call p x r) = refl

  names_in_other : {c d : MaybeStmt} → ElseRewritten MayStandFor c d → names_in_else d ≡ names_in_else c
  names_in_other no_else = refl
  names_in_other (in_else r) = names_in_statement r

  pub names_stay : {a b : Stmts} → BlockRewritten MayStandFor a b → names_in b ≡ names_in a
  names_stay none_left = refl
  names_stay (first_then r q) = ap₂ (λ (xs ys : List (List ℕ)). xs ++ ys) (names_in_statement r) (names_stay q)

-- where nothing is called, calls do the same
pub bare_same : (s : Scope) (sc : meaning.Scope) (r : Run) → DoSame s sc no_calls no_calls r
bare_same s sc r = record { tables = λ x m e. refl; actions = λ x ks m e es fs h. refl }

bare_seen : (pt : Parts) (h : Part) (sc : meaning.Scope) (b : Stmts) (s : Scope) → IsFine (block_tests h s b) → (r : Run) → Along no_calls (λ t td c u. IsFitlySeen pt t td u) s sc b r → Along no_calls (IsSeen pt no_calls no_calls) s sc b r
bare_seen pt h sc b s f r w = turned_block (λ t. Unit {0}) (λ g t k c i. tt) no_calls sc (λ t td c u. IsFitlySeen pt t td u) (IsSeen pt no_calls no_calls) (λ t c u k v. (v.0, bare_same t sc u)) b h s tt f r w

-- how an action ends
abbrev behind : Ended → Ended
behind e = (e.0, flow_behind e.1)

-- the names in sight in an action, by its name, its parameters and the names that it declares
abbrev sight : meaning.Scope → tree.Action → List (List ℕ) → meaning.Scope
sight sc a xs = record sc { inner = Some (record { action = a.name; names = params_in a.params ++ xs }) }

module _ (sc : meaning.Scope) (a b : tree.Action) (r : ActionRewritten MayStandFor a b) where
  inside_same : in_action sc b ≡ in_action sc a
  inside_same = ap (λ (c : tree.Action). sight sc c (names_in b.body)) r.rest ∙ ap (sight sc a) (names_stay r.body)

  pub name_stays : (action_under sc b).name ≡ (action_under sc a).name
  name_stays = ap (λ (c : tree.Action). full_name sc c.name) r.rest

  pub params_stay : (action_under sc b).params ≡ (action_under sc a).params
  params_stay = ap₂ (λ (u : meaning.Scope) (qs : List (PTy × List ℕ)). map (param_under u) qs) inside_same (ap (λ (c : tree.Action). c.params) r.rest)

  pub acts_same : (pt : Parts) (h : Part) (s : Scope) → IsFine (action_tests h s a) → (ws : List Word) (q : Run)
      → Along no_calls (λ t td c u. IsFitlySeen pt t td u) (with_params s a.params) (in_action sc a) a.body (in_store q (bound (action_under sc a).params ws q.store))
      → act (action_under sc b) ws q ≡ act (action_under sc a) ws q
  acts_same pt h s f ws q w =
      let start = in_store q (bound (action_under sc a).params ws q.store) in
      ap₂ (λ (u : meaning.Scope) (ps : List Param). behind (meaning_of no_calls (stmts_under u b.body) (in_store q (bound ps ws q.store)))) inside_same params_stay
      ∙ ap behind (statements_same pt no_calls no_calls h (with_params s a.params) (in_action sc a) a.body b.body r.body f.1.1 start (bare_seen pt h (in_action sc a) a.body (with_params s a.params) f.1.1 start w))

-- ---- keys

module _ (pt : Parts) (s : Scope) (sc : meaning.Scope) (st : Store) (sees : Sees pt s sc st) where
  ways_same : (ks ls : List (Expr × List ℕ)) → AllZip (KeyRewritten MayStandFor) ks ls → has_ternary (map (key_under sc) ls) ≡ has_ternary (map (key_under sc) ks)
  ways_same [] [] r = refl
  ways_same [] (l ∷ ls) r = absurd r
  ways_same (k ∷ ks) [] r = absurd r
  ways_same (k ∷ ks) (l ∷ ls) r = ap₂ (λ (x : List ℕ) (b : Bool). same_text x (codes "ternary") || b) r.0.1 (ways_same ks ls r.1)

  words_same : (ks ls : List (Expr × List ℕ)) → AllZip (KeyRewritten MayStandFor) ks ls → IsFine (keys_tests s ks) → key_words (map (key_under sc) ls) st ≡ key_words (map (key_under sc) ks) st
  words_same [] [] r f = refl
  words_same [] (l ∷ ls) r f = absurd r
  words_same (k ∷ ks) [] r f = absurd r
  words_same (k ∷ ks) (l ∷ ls) r f =
      ap₂ (λ (w : Word) (ws : List Word). w ∷ ws)
      (runs_same pt s sc st sees k.0 l.0 r.0.0 (as_value (own s k.0)) (free_most s sees.sound k.0 (as_value (own s k.0)) f.0) f.0 0)
      (words_same ks ls r.1 f.1)

  pub keys_stay : (ks ls : List (Expr × List ℕ)) → AllZip (KeyRewritten MayStandFor) ks ls → IsFine (keys_tests s ks) → KeysAgree (map (key_under sc) ks) (map (key_under sc) ls) st
  keys_stay ks ls r f = record { ways = ways_same ks ls r; words = words_same ks ls r f }

-- ---- calls of whole programs

-- what holds of all entries holds of the one that is chosen
chosen_there : (b : Bool) (ks : List Word) (P : Entry → Type 0) (es : List Entry) (e : Entry) → AllByRecursion P es → choice_of b es ks ≡ Some e → P e
chosen_there b ks P es e h i = below b ks P es e (subst (λ (o : Option Entry). IsChoice b es ks o) i (choice_is b ks es)).listed h

args_same : (ps : List Param) (es fs : List Expr) (st : Store) → HaveSameValues st es fs → args_of ps fs st ≡ args_of ps es st
args_same [] es fs st h = refl
args_same (p ∷ ps) [] [] st h = refl
args_same (p ∷ ps) [] (f ∷ fs) st h = absurd h
args_same (p ∷ ps) (e ∷ es) [] st h = absurd h
args_same (p ∷ ps) (e ∷ es) (f ∷ fs) st h = ap₂ (λ (w : Word) (ws : List Word). w ∷ ws) (h.0 p.width) (args_same ps es fs st h.1)

-- an action that is called
run_same : (as' bs : List meant.Action) (x : List ℕ) (r : Run) → ActionsDoSame as' bs x r → (es fs : List Expr) → HaveSameValues r.store es fs
    → act_if (action_named bs x) (args_of (params_of (action_named bs x)) fs r.store) r ≡ act_if (action_named as' x) (args_of (params_of (action_named as' x)) es r.store) r
run_same as' bs x r same es fs h =
    ap (λ (qs : List Param). act_if (action_named bs x) (args_of qs fs r.store) r) same.params
    ∙ (ap (λ (ws : List Word). act_if (action_named bs x) ws r) (args_same (params_of (action_named as' x)) es fs r.store h)
    ∙ same.acts (args_of (params_of (action_named as' x)) es r.store))

-- a table that is applied
chosen_same : (as' bs : List meant.Action) (r : Run) (d : Chosen) (o : Option Entry) → ActionsDoSame as' bs d.action r → ((e : Entry) → o ≡ Some e → ActionsDoSame as' bs e.action r) → chosen_runs bs d o r ≡ chosen_runs as' d o r
chosen_same as' bs r d None h k = ap (λ (e : Ended). test_behind e false) (h.acts d.args)
chosen_same as' bs r d (Some e) h k = ap (λ (x : Ended). test_behind x true) ((k e refl).acts e.args)

pub table_same : (as' bs : List meant.Action) (t u : Option Table) (h : Entries) (r : Run) → TablesAgree as' bs t u h r → apply_if bs u h r ≡ apply_if as' t h r
table_same as' bs None None h r k = refl
table_same as' bs None (Some u) h r k = absurd k
table_same as' bs (Some t) None h r k = absurd k
table_same as' bs (Some t) (Some u) h r k =
    ap₂ (λ (b : Bool) (ws : List Word). chosen_runs bs h.default (choice_of b h.listed ws) r) k.keys.ways k.keys.words
    ∙ chosen_same as' bs r h.default (choice_of (has_ternary t.keys) h.listed (key_words t.keys r.store)) k.default (λ e i. chosen_there (has_ternary t.keys) (key_words t.keys r.store) (λ f. ActionsDoSame as' bs f.action r) h.listed e k.listed i)

pub programs_calls : ProgramsCallsDoSame
programs_calls s sc as' bs ts us held r acts found =
    record {
      tables = λ x m e. table_same as' bs (table_named ts (full_name sc x)) (table_named us (full_name sc x)) (held (full_name sc x)) r (found x m e);
      actions = λ x ks m e es fs h. run_same as' bs (full_name sc x) r (acts x ks m e) es fs h;
    }

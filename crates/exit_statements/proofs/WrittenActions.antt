-- Written actions without exits are, under a scope, those under the scope without exits.
use Rattle.std.proofs.Common.{◌≡◌, ℕ, List, [], ◌∷◌, ◌++◌, map, Bool, true, false, ◌||◌, if◌then◌else◌, Option, Some, None, refl, sym, ap, ap₂, ◌∙◌}
use Rattle.std.specs.Option.{option_map}
use Rattle.std.specs.List.{AllByRecursion}
use Rattle.std.proofs.lemmas.List.{append_assoc}
use Rattle.lex_text.specs.Names.{same_text}
use Rattle.bit_values.specs.Bits.{Word}
use Rattle.p4_tree.specs.Tree as tree
use Rattle.p4_tree.specs.Tree.{Expr, num, flag, path, valid, applied, error_name, negation, inversion, opposite, binary, conditional, slice, cast, Arg, one, many, Stmt, Stmts, MaybeStmt, nothing, block, var, assign, choice, return_, exit_, call, done, next, without, otherwise}
use Rattle.p4_tree.specs.declared.statement.PTy.{PTy}
use Rattle.p4_meaning.specs.Scope.{Scope, is_among, full, full_name, first_name, path_under, constant_at, constant_named, root_of, type_under, names_in}
use Rattle.p4_meaning.specs.Under.{constant_or_path, callee_under, expr_under, arg_under, stmt_under, else_under, stmts_under}
use Rattle.p4_meaning.specs.Actions.{Action, params_in, in_action as in_action_of, param_under, action_under}
use Rattle.exit_statements.specs.Without.{in_action, Flags, no_exits, stmts_leave, stmts_without}
use Rattle.exit_statements.specs.Actions.{lowered, flags_in}
use Rattle.exit_statements.specs.Written.{flags_under, ShowsFlags}
use Rattle.exit_statements.proofs.Values.{text_decides}
use Rattle.exit_statements.proofs.Runs.{or_true}
use Rattle.exit_statements.proofs.Written.{leave, names_agree}
use Rattle.exit_statements.proofs.Declared.{declare_same}
use Rattle.exit_statements.specs.WrittenActions.{is_returned, returned_in, HasNoFlag, ActionsAgree, AvoidsPath, AvoidsExpr, AvoidsIf, AvoidsArg, AvoidsStmt, AvoidsElse, AvoidStmts}

-- two names of a scope agree but for hidden ones
record Agree (hides : List ℕ → Bool) (sc sd : Scope) : Type 0 where
  firsts : (x : List ℕ) → hides x ≡ false → first_name sd x ≡ first_name sc x
  constants : (x : List ℕ) → hides x ≡ false → constant_at sd (x ∷ []) ≡ constant_at sc (x ∷ [])
  fulls : (x : List ℕ) → full_name sd x ≡ full_name sc x
  types : sd.types ≡ sc.types

module _ (hides : List ℕ → Bool) (sc sd : Scope) (h : Agree hides sc sd) where
  paths : (names : List (List ℕ)) → AvoidsPath hides names → path_under sd names ≡ path_under sc names
  paths [] o = refl
  paths (x ∷ rest) o = ap (λ y. y ∷ rest) (h.firsts x o)

  words : (names : List (List ℕ)) → AvoidsPath hides names → constant_at sd names ≡ constant_at sc names
  words [] o = refl
  words (x ∷ []) o = h.constants x o
  words (x ∷ y ∷ rest) o = refl

  exprs : (e : Expr) → AvoidsExpr hides e → expr_under sd e ≡ expr_under sc e
  exprs (num p n) o = refl
  exprs (flag p b) o = refl
  exprs (path p names) o = ap₂ (constant_or_path p) (words names o) (paths names o)
  exprs (valid p header) o = ap (valid p) (paths header o)
  exprs (applied p table hit) o = ap (λ t. applied p t hit) (h.fulls table)
  exprs (error_name p x) o = refl
  exprs (negation p a) o = ap (negation p) (exprs a o)
  exprs (inversion p a) o = ap (inversion p) (exprs a o)
  exprs (opposite p a) o = ap (opposite p) (exprs a o)
  exprs (binary p op a b) o = ap₂ (binary p op) (exprs a o.0) (exprs b o.1)
  exprs (conditional p t a b) o = λ i. conditional p (exprs t o.0 i) (exprs a o.1 i) (exprs b o.2 i)
  exprs (slice p a high low) o = ap (λ a. slice p a high low) (exprs a o)
  exprs (cast p ty a) o = ap (cast p ty) (exprs a o)

  ifs : (e : Option Expr) → AvoidsIf hides e → option_map (expr_under sd) e ≡ option_map (expr_under sc) e
  ifs None o = refl
  ifs (Some e) o = ap Some (exprs e o)

  lists : (es : List Expr) → AllByRecursion (AvoidsExpr hides) es → map (expr_under sd) es ≡ map (expr_under sc) es
  lists [] o = refl
  lists (e ∷ es) o = ap₂ (λ (a : Expr) (b : List Expr). a ∷ b) (exprs e o.0) (lists es o.1)

  arg : (a : Arg) → AvoidsArg hides a → arg_under sd a ≡ arg_under sc a
  arg (one p e) o = ap (one p) (exprs e o)
  arg (many p es) o = ap (many p) (lists es o)

  args : (as' : List Arg) → AllByRecursion (AvoidsArg hides) as' → map (arg_under sd) as' ≡ map (arg_under sc) as'
  args [] o = refl
  args (a ∷ as') o = ap₂ (λ (a : Arg) (b : List Arg). a ∷ b) (arg a o.0) (args as' o.1)

  callees : (names : List (List ℕ)) → AvoidsPath hides names → callee_under sd names ≡ callee_under sc names
  callees [] o = refl
  callees (x ∷ []) o = ap (λ y. y ∷ []) (h.fulls x)
  callees (x ∷ verb ∷ []) o = ap (λ y. y ∷ verb ∷ []) (h.fulls x)
  callees (x ∷ y ∷ z ∷ rest) o = ap (λ x. x ∷ y ∷ z ∷ rest) (h.firsts x o)

  mutual
    stmts : (s : Stmt) → AvoidsStmt hides s → stmt_under sd s ≡ stmt_under sc s
    stmts (nothing p) o = refl
    stmts (block p ss) o = ap (block p) (all ss o)
    stmts (var p ty x e) o = λ i. var p (type_under (h.types i) ty) (h.firsts x o.0 i) (ifs e o.1 i)
    stmts (assign p target e) o = ap₂ (assign p) (paths target o.0) (exprs e o.1)
    stmts (choice p e s t) o = λ i. choice p (exprs e o.0 i) (stmts s o.1.0 i) (elses t o.1.1 i)
    stmts (return_ p) o = refl
    stmts (exit_ p) o = refl
    stmts (call p callee as') o = ap₂ (call p) (callees callee o.0) (args as' o.1)

    elses : (s : MaybeStmt) → AvoidsElse hides s → else_under sd s ≡ else_under sc s
    elses without o = refl
    elses (otherwise s) o = ap otherwise (stmts s o)

    all : (ss : Stmts) → AvoidStmts hides ss → stmts_under sd ss ≡ stmts_under sc ss
    all done o = refl
    all (next s ss) o = ap₂ next (stmts s o.0) (all ss o.1)

-- ---- names

among_more : (ps ns ms : List (List ℕ)) (r x : List ℕ) → ns ≡ ms → same_text r x ≡ false → is_among (ps ++ r ∷ ns) x ≡ is_among (ps ++ ms) x
among_more [] ns ms r x e off = ap₂ (λ a b. a || b) off (ap (λ l. is_among l x) e)
among_more (p ∷ ps) ns ms r x e off = ap (λ b. same_text p x || b) (among_more ps ns ms r x e off)

among_own : (ps ns : List (List ℕ)) (r : List ℕ) → is_among (ps ++ r ∷ ns) r ≡ true
among_own [] ns r = ap (λ b. b || is_among ns r) ((text_decides r r).1 refl)
among_own (p ∷ ps) ns r = ap (λ b. same_text p r || b) (among_own ps ns r) ∙ or_true (same_text p r)

none_either : (b : Bool) (o : Option Word) → o ≡ None → (if b then None else o) ≡ None
none_either true o e = refl
none_either false o e = e

-- ---- actions

module _ (sc : Scope) (n : Flags) (a : tree.Action) (h : HasNoFlag sc n a) where
  abbrev inner : Stmts
  inner = stmts_without n no_exits in_action false a.body

  abbrev flagged : tree.Action
  flagged = record a { body = next (lowered n.returned) inner }

  abbrev sd : Scope
  sd = in_action_of sc flagged

  abbrev before : Scope
  before = in_action_of sc a

  declared : names_in inner ≡ names_in a.body
  declared = declare_same n no_exits in_action false a.body

  among : (x : List ℕ) → is_returned n x ≡ false → is_among (params_in a.params ++ n.returned ∷ names_in inner) x ≡ is_among (params_in a.params ++ names_in a.body) x
  among x off = among_more (params_in a.params) (names_in inner) (names_in a.body) n.returned x declared off

  agree : Agree (is_returned n) before sd
  agree = record {
    firsts = λ x off. ap (λ b. if b then full sc.control (full a.name x) else root_of sc.roots x) (among x off);
    constants = λ x off. ap (λ b. if b then None else constant_named sc.constants x) (among x off);
    fulls = λ x. refl;
    types = refl;
  }

  own_inner : is_among (params_in a.params ++ n.returned ∷ names_in inner) n.returned ≡ true
  own_inner = among_own (params_in a.params) (names_in inner) n.returned

  shown : ShowsFlags sd n
  shown = record {
    functions = h.functions;
    left = none_either (is_among (params_in a.params ++ n.returned ∷ names_in inner) n.left) (constant_named sc.constants n.left) h.constant;
    returned = ap (λ b. if b then None else constant_named sc.constants n.returned) own_inner;
  }

  left_same : first_name sd n.left ≡ n.left
  left_same = ap (λ b. if b then full sc.control (full a.name n.left) else root_of sc.roots n.left) (among n.left h.two ∙ h.not_inner) ∙ h.root

  returned_same : first_name sd n.returned ≡ returned_in n (full_name sc a.name)
  returned_same =
      ap (λ b. if b then full sc.control (full a.name n.returned) else root_of sc.roots n.returned) own_inner
      ∙ (append_assoc n.returned (46 ∷ a.name) (46 ∷ sc.control)
      ∙ ap (λ b. full (if b then full sc.control a.name else a.name) n.returned) (sym h.own))

  flags_same : flags_under sd n ≡ flags_in n.left (returned_in n) (full_name sc a.name)
  flags_same = λ i. record { left = left_same i; returned = returned_same i }

  bodies : stmts_under sd a.body ≡ stmts_under before a.body
  bodies = all (is_returned n) before sd agree a.body h.body

  param_lists : (ps : List (PTy × List ℕ)) → AllByRecursion (λ p. same_text n.returned p.1 ≡ false) ps → map (param_under sd) ps ≡ map (param_under before) ps
  param_lists [] o = refl
  param_lists (p ∷ ps) o = λ i. record { name = agree.firsts p.1 o.0 i; width = (param_under before p).width } ∷ param_lists ps o.1 i

  leaves_same : stmts_leave no_exits (stmts_under before a.body) ≡ stmts_leave no_exits a.body
  leaves_same = ap (stmts_leave no_exits) (sym bodies) ∙ leave sd n no_exits shown a.body

  inner_same : stmts_under sd inner ≡ stmts_without (flags_in n.left (returned_in n) (full_name sc a.name)) no_exits in_action false (stmts_under before a.body)
  inner_same = names_agree sd n no_exits in_action false a.body shown ∙ ap₂ (λ (k : Flags) (ss : Stmts). stmts_without k no_exits in_action false ss) flags_same bodies

  abbrev given : Bool → tree.Action
  given l = record a { body = if l then next (lowered n.returned) inner else a.body }

  abbrev wanted : Bool → Action
  wanted l =
      record {
        name = full_name sc a.name;
        params = map (param_under before) a.params;
        body = if l then next (lowered (returned_in n (full_name sc a.name))) (stmts_without (flags_in n.left (returned_in n) (full_name sc a.name)) no_exits in_action false (stmts_under before a.body)) else stmts_under before a.body;
      }

  either : (l : Bool) → action_under sc (given l) ≡ wanted l
  either true = λ i. record { name = full_name sc a.name; params = param_lists a.params h.params i; body = next (lowered (returned_same i)) (inner_same i) }
  either false = refl

  action_same : action_under sc (given (stmts_leave no_exits a.body)) ≡ wanted (stmts_leave no_exits (stmts_under before a.body))
  action_same = either (stmts_leave no_exits a.body) ∙ ap wanted (sym leaves_same)

pub actions_agree : ActionsAgree
actions_agree sc n a h = action_same sc n a h

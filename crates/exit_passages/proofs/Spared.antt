-- Parsers and verify checksum of programs of given names do not write the flag's place.
use Rattle.std.proofs.Common.{codes, ◌≡◌, ℕ, List, [], ◌∷◌, map, Bool, true, false, cond, Option, Some, None, refl, subst}
use Rattle.std.specs.List.{AllByRecursion}
use Rattle.bit_values.specs.Bits.{Word}
use Rattle.lex_text.specs.Names.{same_text, same_path}
use Rattle.p4_tree.specs.Tree.{num, flag, path, valid, applied, error_name, negation, inversion, opposite, binary, conditional, slice, cast, Arg, one, many, Stmt, Stmts, MaybeStmt, nothing, block, var, assign, choice, return_, exit_, call, done, next, without, otherwise, stmts_from, and_then, ParserState, Local, local_action, local_table, local_register, local_const, local_var, Control, Parser, Top, constant, typedef, header_type, struct_type, register, parser, control, Program}
use Rattle.p4_meaning.specs.Standard.{headers_root, metadata_root, standard_root}
use Rattle.p4_meaning.specs.Statements.{idle, drops, runs, applies, act_of, act_named, act_on, act_on_header, read_of, write_of, digest_of, sum_of, values_in, makes}
use Rattle.p4_meaning.specs.Scope.{Scope, Inner, Roots, root_of, full_name, first_name, is_inner, inner_name, path_under, constant_at}
use Rattle.p4_meaning.specs.Under.{no_scope, with_constant, with_type, in_parser, in_control, behind_locals, settings_under, constant_or_path, callee_under, arg_under, stmt_under, else_under, stmts_under, state_under}
use Rattle.p4_meaning.specs.Parts.{whole, parser_named, scope_at_parser, scope_at_control, body_of, states_of, named_in, control_in, body_in, parser_in, states_in, header_of, struct_fields, parser_type, parts_of}
use Rattle.p4_rule_laws.specs.Old.{OldPath, OldArg, OldArgs, OldStmt, OldStmts, OldElse}
use Rattle.p4_rule_laws.specs.OldPrograms.{OldStates, OldParser, OldLocals, OldTops}
use Rattle.exit_statements.specs.Controls.{AreLong}
use Rattle.exit_statements.proofs.Values.{text_decides, path_decides, not_both}
use Rattle.exit_programs.specs.Programs.{flags}
use Rattle.exit_programs.specs.Names.{is_given, HasGivenNames}
use Rattle.exit_programs.proofs.Given.{other_way}
use Rattle.exit_programs.proofs.Controls.{Clear, clear_constant, clear_type, first_clear, inside_clear, clear_locals}
use Rattle.exit_programs.proofs.Apart.{OwnApart}
use Rattle.exit_programs.proofs.Parts.{stands}
use Rattle.exit_passages.proofs.Starts.{SparesAct, SparesStmt, SparesElse, SpareStmts, SparesTarget, StatesSpare}

abbrev left : List ℕ
left = flags.left

root_off : (r : Roots) (x : List ℕ) → is_given x ≡ true → same_text (root_of r x) left ≡ false
root_off r x o = go (same_text r.headers x) (same_text r.metadata x) (same_text r.standard x)
  where
    go : (a b c : Bool) → same_text (cond a headers_root (cond b metadata_root (cond c standard_root x))) left ≡ false
    go true b c = refl
    go false true c = refl
    go false false true = refl
    go false false false = other_way x left o refl

one_off : (y : List ℕ) (rest : List (List ℕ)) → same_text y left ≡ false → same_path (y ∷ rest) (left ∷ []) ≡ false
one_off y rest o = go (same_path (y ∷ rest) (left ∷ [])) refl
  where
    go : (b : Bool) → same_path (y ∷ rest) (left ∷ []) ≡ b → b ≡ false
    go true e = (let same = (path_decides (y ∷ rest) (left ∷ [])).0 e in let head : y ≡ left = cc in not_both (same_text y left) ((text_decides y left).1 head) o)
    go false e = refl

module _ (sc : Scope) (outer : sc.inner ≡ None) where
  name_off : (x : List ℕ) → is_given x ≡ true → same_text (first_name sc x) left ≡ false
  name_off x o = go sc.inner outer
    where
      go : (i : Option Inner) → i ≡ None → same_text (cond (is_inner i x) (inner_name i sc.control x) (root_of sc.roots x)) left ≡ false
      go None e = root_off sc.roots x o
      go (Some i) e = absurd (cc e)

  path_off : (p : List (List ℕ)) → OldPath is_given p → same_path (path_under sc p) (left ∷ []) ≡ false
  path_off [] o = refl
  path_off (x ∷ rest) o = one_off (first_name sc x) rest (name_off x o.0)

  -- an argument that is a path is another place
  abbrev ArgSpares : Arg → Type 0
  ArgSpares (one p (path q t)) = same_path t (left ∷ []) ≡ false
  ArgSpares _ = Unit {0}

  known_spares : (p q : ℕ) (o : Option Word) (t : List (List ℕ)) → same_path t (left ∷ []) ≡ false → ArgSpares (one p (constant_or_path q o t))
  known_spares p q None t f = f
  known_spares p q (Some w) t f = tt

  arg_spares : (a : Arg) → OldArg is_given a → ArgSpares (arg_under sc a)
  arg_spares (one p (num q n)) o = tt
  arg_spares (one p (flag q b)) o = tt
  arg_spares (one p (path q t)) o = known_spares p q (constant_at sc t) (path_under sc t) (path_off t o)
  arg_spares (one p (valid q h)) o = tt
  arg_spares (one p (applied q t h)) o = tt
  arg_spares (one p (error_name q x)) o = tt
  arg_spares (one p (negation q a)) o = tt
  arg_spares (one p (inversion q a)) o = tt
  arg_spares (one p (opposite q a)) o = tt
  arg_spares (one p (binary q op a b)) o = tt
  arg_spares (one p (conditional q t a b)) o = tt
  arg_spares (one p (slice q a h l)) o = tt
  arg_spares (one p (cast q ty a)) o = tt
  arg_spares (many p es) o = tt

  args_spare : (as' : List Arg) → OldArgs is_given as' → AllByRecursion ArgSpares (map (arg_under sc) as')
  args_spare [] o = tt
  args_spare (a ∷ as') o = (arg_spares a o.0, args_spare as' o.1)

  -- what is called with such arguments
  read_spares : (x : List ℕ) (as' : List Arg) → AllByRecursion ArgSpares as' → SparesAct left (read_of x as')
  read_spares x (one p (path q t) ∷ one r i ∷ []) f = f.0
  read_spares x _ f = tt

  write_spares : (x : List ℕ) (as' : List Arg) → SparesAct left (write_of x as')
  write_spares x (one p i ∷ one q v ∷ []) = tt
  write_spares x _ = tt

  digest_spares : (as' : List Arg) → SparesAct left (digest_of as')
  digest_spares (one p (num q n) ∷ many r es ∷ []) = tt
  digest_spares _ = tt

  sum_spares : (v : Bool) (as' : List Arg) → AllByRecursion ArgSpares as' → SparesAct left (sum_of v as')
  sum_spares v (one p c ∷ many q es ∷ one r (path t field) ∷ one u h ∷ []) f = f.1.1.0
  sum_spares v _ f = tt

  named_spares : (x : List ℕ) (as' : List Arg) → AllByRecursion ArgSpares as' → SparesAct left (act_named x as')
  named_spares x as' f = go (same_text x (codes "mark_to_drop")) (same_text x (codes "digest")) (same_text x (codes "verify_checksum")) (same_text x (codes "update_checksum"))
    where
      go : (a b c d : Bool) → SparesAct left (cond a drops (cond b (digest_of as') (cond c (sum_of true as') (cond d (sum_of false as') (runs x (values_in as'))))))
      go true b c d = tt
      go false true c d = digest_spares as'
      go false false true d = sum_spares true as' f
      go false false false true = sum_spares false as' f
      go false false false false = tt

  on_spares : (x verb : List ℕ) (as' : List Arg) → AllByRecursion ArgSpares as' → SparesAct left (act_on x verb as')
  on_spares x verb as' f = go (same_text verb (codes "read")) (same_text verb (codes "write")) (same_text verb (codes "apply"))
    where
      go : (a b c : Bool) → SparesAct left (cond a (read_of x as') (cond b (write_of x as') (cond c (applies x) idle)))
      go true b c = read_spares x as' f
      go false true c = write_spares x as'
      go false false true = tt
      go false false false = tt

  header_spares : (h : List (List ℕ)) (verb : List ℕ) → SparesAct left (act_on_header h verb)
  header_spares h verb = go (same_text verb (codes "setValid")) (same_text verb (codes "setInvalid"))
    where
      go : (a b : Bool) → SparesAct left (cond a (makes h true) (cond b (makes h false) idle))
      go true b = tt
      go false true = tt
      go false false = tt

  call_spares : (callee : List (List ℕ)) (as' : List Arg) → AllByRecursion ArgSpares as' → SparesAct left (act_of (callee_under sc callee) as')
  call_spares [] as' f = tt
  call_spares (x ∷ []) as' f = named_spares (full_name sc x) as' f
  call_spares (x ∷ verb ∷ []) as' f = on_spares (full_name sc x) verb as' f
  call_spares (x ∷ y ∷ verb ∷ []) as' f = header_spares (first_name sc x ∷ y ∷ []) verb
  call_spares (x ∷ y ∷ z ∷ u ∷ rest) as' f = tt

  mutual
    stmt_spares : (s : Stmt) → OldStmt is_given s → SparesStmt left (stmt_under sc s)
    stmt_spares (nothing p) o = tt
    stmt_spares (block p ss) o = stmts_spare ss o
    stmt_spares (var p ty x e) o = one_off (first_name sc x) [] (name_off x o.1)
    stmt_spares (assign p t e) o = path_off t o.0
    stmt_spares (choice p e a b) o = (stmt_spares a o.1, else_spares b o.2)
    stmt_spares (return_ p) o = tt
    stmt_spares (exit_ p) o = tt
    stmt_spares (call p callee as') o = call_spares callee (map (arg_under sc) as') (args_spare as' o.1)

    else_spares : (s : MaybeStmt) → OldElse is_given s → SparesElse left (else_under sc s)
    else_spares without o = tt
    else_spares (otherwise s) o = stmt_spares s o

    stmts_spare : (ss : Stmts) → OldStmts is_given ss → SpareStmts left (stmts_under sc ss)
    stmts_spare done o = tt
    stmts_spare (next s ss) o = (stmt_spares s o.0, stmts_spare ss o.1)

  target_spares : (s : Stmt) → OldStmt is_given s → SparesTarget left (stmt_under sc s)
  target_spares (nothing p) o = tt
  target_spares (block p ss) o = tt
  target_spares (var p ty x e) o = tt
  target_spares (assign p t e) o = path_off t o.0
  target_spares (choice p e a b) o = tt
  target_spares (return_ p) o = tt
  target_spares (exit_ p) o = tt
  target_spares (call p callee as') o = tt

  targets_spare : (ss : List Stmt) → OldStmts is_given (stmts_from ss) → AllByRecursion (SparesTarget left) (map (stmt_under sc) ss)
  targets_spare [] o = tt
  targets_spare (s ∷ ss) o = (target_spares s o.0, targets_spare ss o.1)

  states_spare : (sts : List ParserState) → OldStates is_given sts → StatesSpare left (map (state_under sc) sts)
  states_spare [] o = tt
  states_spare (st ∷ sts) o = (targets_spare st.body o.1, states_spare sts o.3)

-- ---- a control's variables

settings_spare : (ls : List Local) (sc : Scope) → sc.inner ≡ None → OldLocals is_given ls → SpareStmts left (settings_under sc ls)
settings_spare [] sc e o = tt
settings_spare (local_action p a ∷ ls) sc e o = settings_spare ls sc e o.1
settings_spare (local_table p t ∷ ls) sc e o = settings_spare ls sc e o.1
settings_spare (local_register p r ∷ ls) sc e o = settings_spare ls sc e o.1
settings_spare (local_const p ty x v ∷ ls) sc e o = settings_spare ls (with_constant sc ty x v) e o.1
settings_spare (local_var p ty x v ∷ ls) sc e o = (stmt_spares sc e (var p ty x v) o.0, settings_spare ls sc e o.1)

both_spare : (a b : Stmts) → SpareStmts left a → SpareStmts left b → SpareStmts left (and_then a b)
both_spare done b f g = g
both_spare (next s ss) b f g = (f.0, both_spare ss b f.1 g)

-- ---- a program

parser_stands : (ts : List Top) (sc : Scope) → OldTops is_given ts → Clear sc → (x : List ℕ) (d : Parser) → parser_named ts x ≡ Some d → ((scope_at_parser sc ts x).inner ≡ None) × OldParser is_given d
parser_stands [] sc o k x d e = absurd (cc e)
parser_stands (constant p ty y v ∷ ts) sc o k x d e = parser_stands ts (with_constant sc ty y v) o.1 (clear_constant sc ty y v o.0.1 k) x d e
parser_stands (typedef p ty y ∷ ts) sc o k x d e = parser_stands ts (with_type sc ty y) o.1 (clear_type sc ty y k) x d e
parser_stands (header_type p y fs ∷ ts) sc o k x d e = parser_stands ts sc o.1 k x d e
parser_stands (struct_type p y fs ∷ ts) sc o k x d e = parser_stands ts sc o.1 k x d e
parser_stands (register p r ∷ ts) sc o k x d e = parser_stands ts sc o.1 k x d e
parser_stands (control p c ∷ ts) sc o k x d e = parser_stands ts sc o.1 k x d e
parser_stands (parser p c ∷ ts) sc o k x d e = go (same_text c.name x) e (parser_stands ts sc o.1 k x d)
  where
    go : (b : Bool) → cond b (Some c) (parser_named ts x) ≡ Some d → (parser_named ts x ≡ Some d → ((scope_at_parser sc ts x).inner ≡ None) × OldParser is_given d) → ((cond b sc (scope_at_parser sc ts x)).inner ≡ None) × OldParser is_given d
    go true f more = (let same : c ≡ d = cc f in (k.outer, subst (OldParser is_given) same o.0))
    go false f more = more f

module _ (p : Program) (given : HasGivenNames p) (apart : OwnApart p.tops) where
  pub states_spared : StatesSpare left (states_in p)
  states_spared = go (parser_in p) refl
    where
      go : (o : Option Parser) → parser_in p ≡ o → StatesSpare left (states_of (scope_at_parser no_scope p.tops (named_in p.main 0)) o)
      go None e = tt
      go (Some d) e = (let k = parser_stands p.tops no_scope given.tops first_clear (named_in p.main 0) d e in states_spare (in_parser (scope_at_parser no_scope p.tops (named_in p.main 0)) d) k.0 d.states k.1.states)

  pub verify_spared : SpareStmts left (whole (body_in 0 1 9 p 1))
  verify_spared = go (control_in p 1) refl
    where
      go : (o : Option Control) → control_in p 1 ≡ o → SpareStmts left (whole (body_of 0 1 9 (scope_at_control no_scope p.tops (named_in p.main 1)) o))
      go None e = tt
      go (Some c) e =
          (let k = stands p.tops no_scope given.tops apart first_clear (named_in p.main 1) c e in
          let inside = in_control 0 1 9 (scope_at_control no_scope p.tops (named_in p.main 1)) c in
          let clear = inside_clear 0 1 9 (scope_at_control no_scope p.tops (named_in p.main 1)) c k.clear k.given k.apart in
          both_spare (settings_under inside c.locals) (stmts_under (behind_locals inside c.locals) c.apply) (settings_spare c.locals inside clear.outer k.given.locals)
          (stmts_spare (behind_locals inside c.locals) (clear_locals c.locals inside k.given.locals clear).outer c.apply k.given.apply))

  pub headers_long : AreLong (parts_of p).headers
  headers_long = all (struct_fields p.tops (parser_type (parser_in p) 1))
    where
      all : (fs : _) → AreLong (map (header_of p.tops) fs)
      all [] = tt
      all (f ∷ fs) = (refl, all fs)

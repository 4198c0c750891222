-- The names of a program stand in the one without exits, and what is new begins with `hydra_`.
use Rattle.std.proofs.Common.{◌≡◌, ℕ, List, [], ◌∷◌, ◌++◌, map, Bool, true, false, ◌||◌, refl, sym, ap, ap₂, ◌∙◌}
use Rattle.std.specs.Prelude.{if◌then◌else◌}
use Rattle.lex_text.specs.Names.{same_text}
use Rattle.p4_tree.specs.Tree.{Stmts, next, Local, local_action, local_table, local_register, local_const, local_var, Control, Top, constant, typedef, header_type, struct_type, register, parser, control}
use Rattle.p4_meaning.specs.Scope.{is_among, names_in}
use Rattle.p4_meaning.specs.Actions.{params_in}
use Rattle.exit_statements.specs.Without.{in_action, in_control, Exits, no_exits, stmts_leave, stmts_without}
use Rattle.exit_statements.specs.Actions.{lowered, body_without}
use Rattle.exit_statements.proofs.Declared.{declare_same}
use Rattle.exit_programs.specs.Programs.{flags, exits_in, exits_at, local_without, control_leaves, with_flag, control_without, top_without}
use Rattle.exit_programs.specs.Names.{is_given}
use Rattle.exit_programs.specs.Laws.{param_names, local_names, locals_names, top_names, tops_names, NamesStand}
use Rattle.exit_programs.proofs.Given.{other}

module _ (x : List ℕ) (given : is_given x ≡ true) where
  both : (xs ys us vs : List (List ℕ)) → is_among us x ≡ is_among xs x → is_among vs x ≡ is_among ys x → is_among (us ++ vs) x ≡ is_among (xs ++ ys) x
  both xs ys us vs e f = joined us vs ∙ (ap₂ (λ (a b : Bool). a || b) e f ∙ sym (joined xs ys))
    where
      rest : (y : List ℕ) (zs ws : List (List ℕ)) → is_among (zs ++ ws) x ≡ (is_among zs x || is_among ws x) → (same_text y x || is_among (zs ++ ws) x) ≡ ((same_text y x || is_among zs x) || is_among ws x)
      rest y zs ws e = go (same_text y x) e
        where
          go : (b : Bool) → is_among (zs ++ ws) x ≡ (is_among zs x || is_among ws x) → (b || is_among (zs ++ ws) x) ≡ ((b || is_among zs x) || is_among ws x)
          go true k = refl
          go false k = k

      joined : (zs ws : List (List ℕ)) → is_among (zs ++ ws) x ≡ (is_among zs x || is_among ws x)
      joined [] ws = refl
      joined (z ∷ zs) ws = rest z zs ws (joined zs ws)

  one : (y : List ℕ) (us xs : List (List ℕ)) → is_among us x ≡ is_among xs x → is_among (y ∷ us) x ≡ is_among (y ∷ xs) x
  one y us xs e = ap (λ (b : Bool). same_text y x || b) e

  body_names : (ss : Stmts) → is_among (names_in (body_without flags ss)) x ≡ is_among (names_in ss) x
  body_names ss = go (stmts_leave no_exits ss)
    where
      go : (b : Bool) → is_among (names_in (if b then next (lowered flags.returned) (stmts_without flags no_exits in_action false ss) else ss)) x ≡ is_among (names_in ss) x
      go true = ap (λ (b : Bool). b || is_among (names_in (stmts_without flags no_exits in_action false ss)) x) (other flags.returned x refl given) ∙ ap (λ (xs : List (List ℕ)). is_among xs x) (declare_same flags no_exits in_action false ss)
      go false = refl

  local_stands : (l : Local) → is_among (local_names (local_without l)) x ≡ is_among (local_names l) x
  local_stands (local_action p a) = one a.name (params_in a.params ++ names_in (body_without flags a.body)) (params_in a.params ++ names_in a.body) (both (params_in a.params) (names_in a.body) (params_in a.params) (names_in (body_without flags a.body)) refl (body_names a.body))
  local_stands (local_table p t) = refl
  local_stands (local_register p r) = refl
  local_stands (local_const p ty y e) = refl
  local_stands (local_var p ty y e) = refl

  locals_stand : (ls : List Local) → is_among (locals_names (map local_without ls)) x ≡ is_among (locals_names ls) x
  locals_stand [] = refl
  locals_stand (l ∷ ls) = both (local_names l) (locals_names ls) (local_names (local_without l)) (locals_names (map local_without ls)) (local_stands l) (locals_stand ls)

  flag_stands : (b : Bool) (ls : List Local) → is_among (locals_names (with_flag b ls)) x ≡ is_among (locals_names ls) x
  flag_stands true ls = ap (λ (c : Bool). c || is_among (locals_names ls) x) (other flags.left x refl given)
  flag_stands false ls = refl

  control_stands : (m : Exits) (p : ℕ) (c : Control) → is_among (top_names (control p (control_without m c))) x ≡ is_among (top_names (control p c)) x
  control_stands m p c =
      let body = stmts_without flags (exits_at m c) in_control false c.apply in
      let ls = with_flag (control_leaves m c) (map local_without c.locals) in
      one c.name (param_names c.params ++ (locals_names ls ++ names_in body)) (param_names c.params ++ (locals_names c.locals ++ names_in c.apply))
      (both (param_names c.params) (locals_names c.locals ++ names_in c.apply) (param_names c.params) (locals_names ls ++ names_in body) refl
      (both (locals_names c.locals) (names_in c.apply) (locals_names ls) (names_in body) (flag_stands (control_leaves m c) (map local_without c.locals) ∙ locals_stand c.locals)
      (ap (λ (xs : List (List ℕ)). is_among xs x) (declare_same flags (exits_at m c) in_control false c.apply))))

  tops_stand : (m : Exits) (ts : List Top) → is_among (tops_names (map (top_without m) ts)) x ≡ is_among (tops_names ts) x
  tops_stand m [] = refl
  tops_stand m (constant p ty y e ∷ ts) = both (top_names (constant p ty y e)) (tops_names ts) (top_names (constant p ty y e)) (tops_names (map (top_without m) ts)) refl (tops_stand m ts)
  tops_stand m (typedef p ty y ∷ ts) = both (top_names (typedef p ty y)) (tops_names ts) (top_names (typedef p ty y)) (tops_names (map (top_without m) ts)) refl (tops_stand m ts)
  tops_stand m (header_type p y fs ∷ ts) = both (top_names (header_type p y fs)) (tops_names ts) (top_names (header_type p y fs)) (tops_names (map (top_without m) ts)) refl (tops_stand m ts)
  tops_stand m (struct_type p y fs ∷ ts) = both (top_names (struct_type p y fs)) (tops_names ts) (top_names (struct_type p y fs)) (tops_names (map (top_without m) ts)) refl (tops_stand m ts)
  tops_stand m (register p r ∷ ts) = both (top_names (register p r)) (tops_names ts) (top_names (register p r)) (tops_names (map (top_without m) ts)) refl (tops_stand m ts)
  tops_stand m (parser p d ∷ ts) = both (top_names (parser p d)) (tops_names ts) (top_names (parser p d)) (tops_names (map (top_without m) ts)) refl (tops_stand m ts)
  tops_stand m (control p c ∷ ts) = both (top_names (control p c)) (tops_names ts) (top_names (control p (control_without m c))) (tops_names (map (top_without m) ts)) (control_stands m p c) (tops_stand m ts)

pub names_stand : NamesStand
names_stand p x given = tops_stand x given (exits_in p) p.tops

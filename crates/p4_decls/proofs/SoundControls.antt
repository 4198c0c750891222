-- Controls: what is read is spelled so, and what was read up to a fault begins it.
use Rattle.std.proofs.Common.{◌≡◌, ℕ, zero, suc, ◌+◌, ◌-◌, ◌≤◌, Bool, true, false, List, [], ◌∷◌, ◌++◌, length, Option, Some, None, Ok, refl, sym, ap, ◌∙◌, subst, arith, append_assoc, length-append}
use Rattle.std.proofs.lemmas.List.{append-nil}
use Rattle.std.specs.Prelude.{slice_get, is_some}
use Rattle.lex_text.specs.Names.{same_text}
use Rattle.lex_words.specs.declared.key.Key.TheVariants as k
use Rattle.lex_words.specs.Seen.{Lexeme, name, key, at_key, name_in}
use Rattle.lex_words.specs.Reading.{Read, ◌>>=◌}
use Rattle.lex_words.proofs.Standing.{Stands-length}
use Rattle.lex_words.proofs.Spelled.{Ends, Reads, Reads-bind, Reads-map, Reads-ok, Reads-spent, Reads-cond, Reads-expect, Reads-named}
use Rattle.p4_tree.specs.Tree.{Expr, Stmt, Stmts, done, stmts_from, Action, Local, local_action, local_table, local_register, local_const, local_var, Control}
use Rattle.p4_tree.specs.Height.{height_if, expr_height, stmts_height, action_height, table_height, local_height, control_height}
use Rattle.p4_tree.specs.declared.statement.PTy.{PTy}
use Rattle.p4_tree.specs.declared.statement.PTy.TheVariants as type
use Rattle.p4_tree.specs.declared.program.Param.{Param}
use Rattle.p4_spelling.specs.Words.{apply_name}
use Rattle.p4_spelling.specs.Lists.{SpellsList, last, SpellsSome, no_item, SpellsEach, no_more}
use Rattle.p4_spelling.specs.Types.{SpellsScalar, a_bool, a_bit, bits, SpellsType, a_scalar, a_name, SpellsArgument, SpellsParam, SpellsRegister}
use Rattle.p4_spelling.specs.Statements.{SpellsStart, no_start, SpellsVar, a_var, SpellsConst, SpellsBlock, in_braces, no_more as no_statement}
use Rattle.p4_spelling.specs.Controls.{SpellsAction, an_action, SpellsTable, is_apply, SpellsLocal, an_action as a_local_action, a_table, a_register, a_const, a_var as a_local_var, SpellsControl, a_control}
use Rattle.p4_expressions.proofs.SoundSteps.{some_name, Any, text_is, Reads-scalar}
use Rattle.p4_reader.specs.Declaring.{Variable, var_from}
use Rattle.p4_reader.proofs.SoundDeclared.{Reads-start, Reads-const}
use Rattle.p4_reader.proofs.SoundStatements.{Reads-body}
use Rattle.p4_decls.specs.Declaring.{argument_at, param_at}
use Rattle.p4_decls.specs.Controls.{action_at, variable_at, behind_name_at, variable_or_apply_at, local_at, goes_on, locals_at, control_at}
use Rattle.p4_decls.proofs.Repeats.{Each, Reads-list, Reads-some}
use Rattle.p4_decls.proofs.SoundDeclaring.{least_param, least_argument, Reads-register, Reads-param, Reads-argument}
use Rattle.p4_decls.proofs.SoundParsers.{each_low, each_one}
use Rattle.p4_decls.proofs.SoundTables.{each_push, Reads-table}

-- ---- trees, where their parts stand

-- a block with nothing in it
abbrev empty : List Lexeme
empty = key k.BraceOpen ∷ key k.BraceClose ∷ []

pub an_empty : (p : ℕ) → SpellsBlock p done empty
an_empty p = in_braces no_statement

abbrev made : ℕ → List ℕ → List (PTy × List ℕ) → Stmts → Action
made p x ps ss = record { at = p; name = x; params = ps; body = ss }

action_of : (p i : ℕ) (x : List ℕ) (ps : List (PTy × List ℕ)) (ss : Stmts) (u v : List Lexeme) → i ≡ p + 1 + 1 + 1 + length u → SpellsSome SpellsArgument (p + 1 + 1 + 1) ps u → SpellsBlock (i + 1) ss v
    → SpellsAction p (made p x ps ss) (key k.Action ∷ name x ∷ key k.Open ∷ (u ++ key k.Close ∷ v))
action_of p i x ps ss u v at s r = an_action x s (subst (λ q. SpellsBlock (q + 1) ss v) at r)

var_of : (p i : ℕ) (t : PTy) (x : List ℕ) (e : Option Expr) (u v : List Lexeme) → i ≡ p + length u → SpellsType t u → SpellsStart (i + 1) e v → SpellsVar p t x e (u ++ name x ∷ (v ++ key k.Semicolon ∷ []))
var_of p i t x e u v at s r = a_var x s (subst (λ q. SpellsStart (q + 1) e v) at r)

-- a declaration, or `apply`
abbrev MaybeLocal : ℕ → Option Local → List Lexeme → Type 0
MaybeLocal p None w = w ≡ name apply_name ∷ []
MaybeLocal p (Some d) w = SpellsLocal p d w

-- declarations and `apply`
pub record Locals (q : ℕ) (ds : List Local) (w : List Lexeme) : Type 0 where
  pub front : List Lexeme
  pub spells : SpellsEach SpellsLocal q ds front
  pub same : w ≡ front ++ name apply_name ∷ []

scalar_no_apply : {t : PTy} {u : List Lexeme} → SpellsScalar t u → is_apply t ≡ false
scalar_no_apply a_bool = refl
scalar_no_apply a_bit = refl
scalar_no_apply (bits n low) = refl

abbrev control_made : ℕ → List ℕ → List Param → List Local → Stmts → Control
control_made p x ps ds ss = record { at = p; name = x; params = ps; locals = ds; apply = ss }

-- i: where the parameters' bracket closes
control_of : (p i : ℕ) (x : List ℕ) (ps : List Param) (ds : List Local) (ss : Stmts) (u r w : List Lexeme) → i ≡ p + 1 + 1 + 1 + length u → SpellsList SpellsParam (p + 1 + 1 + 1) ps u → Locals (i + 1 + 1) ds r
    → SpellsBlock (i + 1 + 1 + length r) ss w
    → SpellsControl p (control_made p x ps ds ss) (key k.Control ∷ name x ∷ key k.Open ∷ (u ++ key k.Close ∷ key k.BraceOpen ∷ (r ++ (w ++ key k.BraceClose ∷ []))))
control_of p i x ps ds ss u r w at s l t =
    let v = l.front in
    let end = w ++ key k.BraceClose ∷ [] in
    let far : i + 1 + 1 + length r ≡ p + 1 + 1 + 1 + length u + 1 + 1 + length v + 1 = omega (arith, at, ap length l.same, length-append v (name apply_name ∷ [])) in
    let same : r ++ end ≡ v ++ name apply_name ∷ end = ap (λ z. z ++ end) l.same ∙ append_assoc v (name apply_name ∷ []) end in
    subst (λ z. SpellsControl p (control_made p x ps ds ss) (key k.Control ∷ name x ∷ key k.Open ∷ (u ++ key k.Close ∷ key k.BraceOpen ∷ z))) (sym same)
    (a_control x s (subst (λ q. SpellsEach SpellsLocal (q + 1 + 1) ds v) at l.spells) (subst (λ q. SpellsBlock q ss w) far t))

each_snoc : {A : Type 0} (P : A → Type 0) (xs : List A) (a : A) → Each P xs → P a → Each P (xs ++ a ∷ [])
each_snoc P [] a r p = (p, tt)
each_snoc P (x ∷ xs) a r p = (r.0, each_snoc P xs a r.1 p)

-- three: what is inside a table may have a node. b: how many brackets may be opened, but for one.
module _ (ws : List Lexeme) (n b h : ℕ) (three : 3 ≤ h) where
  abbrev StmtsLow : ℕ → List Stmt → Type 0
  StmtsLow g ss = stmts_height (stmts_from ss) ≤ g

  abbrev Block : ℕ → List Stmt → List Lexeme → Type 0
  Block i ss w = SpellsBlock i (stmts_from ss) w

  abbrev ActionLow : Action → Type 0
  ActionLow a = action_height a + 1 ≤ h

  Reads-action : (p : ℕ) → Reads ws (SpellsAction p) ActionLow (suc b) (suc b) p (action_at ws n (suc b) h p)
  unfolding action_at
  Reads-action p =
      let a = some_name in
      let i = p + 1 + 1 + 1 in
      let low : 2 ≤ h = omega (arith, three) in
      let none = key k.Close ∷ empty in
      let least = λ (x : List ℕ). action_of p i x [] done [] empty (omega arith) no_item (an_empty (i + 1)) in
      Reads-expect ws _ _ (suc b) (suc b) (suc b) p k.Action _ (made p a [] done) (name a ∷ key k.Open ∷ none) refl (least a) low
      (Reads-named ws n _ _ (suc b) (suc b) (p + 1) _ (λ x. (made p x [] done, key k.Open ∷ none, least x, low))
      (λ x _. Reads-expect ws _ _ (suc b) b (suc b) (p + 1 + 1) k.Open _ (made p x [] done) none refl (least x) low
      (Reads-bind ws (SpellsSome SpellsArgument i) _ (Each Any) _ b b (suc b) i _ _ (Reads-some ws SpellsArgument Any (argument_at ws n) b (Reads-argument ws n b) least_argument n i)
      (λ ps u s. (made p x ps done, none, action_of p (i + length u) x ps done u empty refl s (an_empty (i + length u + 1)), λ _. low))
      (λ ps u st s _. let at = Stands-length ws i ps.1 u st in
      Reads-expect ws _ _ b (suc b) (suc b) ps.1 k.Close _ (made p x ps.0 done) empty refl (action_of p ps.1 x ps.0 done u empty at s (an_empty (ps.1 + 1))) low
      (Reads-bind ws (Block (ps.1 + 1)) _ (StmtsLow (h - 2)) _ (suc b) (suc b) (suc b) (ps.1 + 1) _ _ (Reads-body ws n (h - 2) b (ps.1 + 1))
      (λ ss v r. (made p x ps.0 (stmts_from ss), [], rw (append-nil v) (action_of p ps.1 x ps.0 (stmts_from ss) u v at s r), λ q. omega (arith, three, q)))
      (λ ss v st' r q. Reads-ok ws _ _ (suc b) ss.1 (made p x ps.0 (stmts_from ss.0)) (rw (append-nil v) (action_of p ps.1 x ps.0 (stmts_from ss.0) u v at s r)) (omega (arith, three, q))))))))

  -- ---- variables

  abbrev VarLow : Variable → Type 0
  VarLow v = height_if expr_height v.start + 1 ≤ h

  abbrev a_variable : PTy → List ℕ → Option Expr → Variable
  a_variable t x e = record { ty = t; name = x; start = e }

  -- behind the type t, which begins at p and whose lexemes are u
  Reads-var_from : (p i : ℕ) (t : PTy) (u : List Lexeme) → SpellsType t u → i ≡ p + length u
      → Reads ws (λ v w. (v.ty ≡ t) × SpellsVar p v.ty v.name v.start (u ++ w)) VarLow (suc b) (suc b) i (var_from ws n (suc b) h t i)
  unfolding var_from
  Reads-var_from p i t u s at =
      let low : 1 ≤ h = omega (arith, three) in
      Reads-named ws n _ _ (suc b) (suc b) i _ (λ x. (a_variable t x None, key k.Semicolon ∷ [], (refl, var_of p i t x None u [] at s no_start), low))
      (λ x _. Reads-bind ws (SpellsStart (i + 1)) _ (λ e. height_if expr_height e + 1 ≤ h) _ (suc b) (suc b) (suc b) (i + 1) _ _ (Reads-start ws n h (suc b) (i + 1) low)
      (λ e v r. (a_variable t x e, key k.Semicolon ∷ [], (refl, var_of p i t x e u v at s r), λ q. q))
      (λ e v st r q. Reads-expect ws _ _ (suc b) (suc b) (suc b) e.1 k.Semicolon _ (a_variable t x e.0) [] refl (refl, var_of p i t x e.0 u v at s r) q
      (Reads-ok ws _ _ (suc b) (e.1 + 1) (a_variable t x e.0) (refl, var_of p i t x e.0 u v at s r) q)))

  abbrev LocalLow : Local → Type 0
  LocalLow d = local_height d ≤ h

  abbrev MaybeLow : Option Local → Type 0
  MaybeLow None = Unit {0}
  MaybeLow (Some d) = local_height d ≤ h

  local_var_of : (p : ℕ) (t : PTy) (v : Variable) (w : List Lexeme) → is_apply t ≡ false → (v.ty ≡ t) × SpellsVar p v.ty v.name v.start w → SpellsLocal p (local_var p v.ty v.name v.start) w
  local_var_of p t v w other r = a_local_var (ap is_apply r.0 ∙ other) r.1

  Reads-variable : (p i : ℕ) (t : PTy) (u : List Lexeme) → SpellsType t u → i ≡ p + length u → is_apply t ≡ false → Reads ws (λ d w. SpellsLocal p d (u ++ w)) LocalLow (suc b) (suc b) i (variable_at ws n (suc b) h p t i)
  unfolding variable_at
  Reads-variable p i t u s at other =
      Reads-bind ws (λ v w. (v.ty ≡ t) × SpellsVar p v.ty v.name v.start (u ++ w)) _ VarLow _ (suc b) (suc b) (suc b) i _ _ (Reads-var_from p i t u s at)
      (λ v w r. (local_var p v.ty v.name v.start, [], rw (append-nil w) (local_var_of p t v (u ++ w) other r), λ q. q))
      (λ v w st r q. Reads-ok ws _ _ (suc b) v.1 (local_var p v.0.ty v.0.name v.0.start) (rw (append-nil w) (local_var_of p t v.0 (u ++ w) other r)) q)

  -- the same, as what may be there
  Reads-some_variable : (p i : ℕ) (t : PTy) (u : List Lexeme) → SpellsType t u → i ≡ p + length u → is_apply t ≡ false
      → Reads ws (λ o w. MaybeLocal p o (u ++ w)) MaybeLow (suc b) (suc b) i (variable_at ws n (suc b) h p t i >>= λ d. Ok (Some d.0, d.1))
  Reads-some_variable p i t u s at other =
      Reads-bind ws (λ d w. SpellsLocal p d (u ++ w)) _ LocalLow _ (suc b) (suc b) (suc b) i _ _ (Reads-variable p i t u s at other)
      (λ d w r. (Some d, [], rw (append-nil w) r, λ q. q))
      (λ d w st r q. Reads-ok ws _ _ (suc b) d.1 (Some d.0) (rw (append-nil w) r) q)

  -- ---- declarations

  -- what a name begins
  behind_short : (p : ℕ) (x : List ℕ) → Ends (MaybeLocal p) MaybeLow (name x ∷ [])
  behind_short p x = go (same_text x apply_name) refl
    where
      go : (y : Bool) → same_text x apply_name ≡ y → Ends (MaybeLocal p) MaybeLow (name x ∷ [])
      go true e = (None, [], ap (λ z. name z ∷ []) (text_is x apply_name e), tt)
      go false e = (Some (local_var p (type.Named x) some_name None), name some_name ∷ key k.Semicolon ∷ [], a_local_var e (a_var some_name (a_name x) no_start), omega (arith, three))

  Reads-behind_name : (p : ℕ) (x : List ℕ) → Reads ws (λ o w. MaybeLocal p o (name x ∷ w)) MaybeLow (suc b) (suc b) (p + 1) (behind_name_at ws n (suc b) h p x (p + 1))
  unfolding behind_name_at
  Reads-behind_name p x =
      Reads-cond ws _ _ (suc b) (suc b) (p + 1) (same_text x apply_name) _ _
      (λ e. Reads-ok ws _ _ (suc b) (p + 1) None (ap (λ z. name z ∷ []) (text_is x apply_name e)) tt)
      (λ e. Reads-some_variable p (p + 1) (type.Named x) (name x ∷ []) (a_name x) refl e)

  Reads-variable_or_apply : (p : ℕ) → Reads ws (MaybeLocal p) MaybeLow (suc b) (suc b) p (variable_or_apply_at ws n (suc b) h p)
  unfolding variable_or_apply_at
  Reads-variable_or_apply p =
      Reads-cond ws _ _ (suc b) (suc b) p (is_some (name_in (slice_get ws p))) _ _
      (λ _. Reads-named ws n _ _ (suc b) (suc b) p _ (behind_short p) (λ x _. Reads-behind_name p x))
      (λ _. Reads-bind ws SpellsScalar _ Any _ (suc b) (suc b) (suc b) p _ _ (Reads-scalar ws n (suc b) p)
      (λ t u s. (Some (local_var p t some_name None), name some_name ∷ key k.Semicolon ∷ [], a_local_var (scalar_no_apply s) (a_var some_name (a_scalar s) no_start), λ _. omega (arith, three)))
      (λ t u st s _. Reads-some_variable p t.1 t.0 u (a_scalar s) (Stands-length ws p t.1 u st) (scalar_no_apply s)))

  -- f: the local of what is read
  Reads-one : {A : Type 0} (p : ℕ) (S : A → List Lexeme → Type 0) (H : A → Type 0) (f : A → Local) (r : Read A) → Reads ws S H (suc b) (suc b) p r → ((a : A) (u : List Lexeme) → S a u → SpellsLocal p (f a) u) → ((a : A) → H a → LocalLow (f a))
      → Reads ws (MaybeLocal p) MaybeLow (suc b) (suc b) p (r >>= λ d. Ok (Some (f d.0), d.1))
  Reads-one p S H f r sound spells low =
      Reads-bind ws S _ H _ (suc b) (suc b) (suc b) p r _ sound (λ a u s. (Some (f a), [], rw (append-nil u) (spells a u s), λ q. low a q))
      (λ d u st s q. Reads-ok ws _ _ (suc b) d.1 (Some (f d.0)) (rw (append-nil u) (spells d.0 u s)) (low d.0 q))

  Reads-local : (p : ℕ) → Reads ws (MaybeLocal p) MaybeLow (suc b) (suc b) p (local_at ws n (suc b) h p)
  unfolding local_at
  Reads-local p =
      Reads-cond ws _ _ (suc b) (suc b) p (at_key k.Action (slice_get ws p)) _ _ (λ _. Reads-one p (SpellsAction p) ActionLow (local_action p) _ (Reads-action p) (λ a u s. a_local_action s) (λ a q. q))
      (λ _. Reads-cond ws _ _ (suc b) (suc b) p (at_key k.Table (slice_get ws p)) _ _
      (λ _. Reads-one p (SpellsTable p) (λ t. table_height t ≤ h - 2 + 1) (local_table p) _ (Reads-table ws n b (h - 2) (omega (arith, three)) p) (λ a u s. a_table s) (λ a q. omega (arith, three, q)))
      (λ _. Reads-cond ws _ _ (suc b) (suc b) p (at_key k.Register (slice_get ws p)) _ _ (λ _. Reads-one p (SpellsRegister p) Any (local_register p) _ (Reads-register ws n b p) (λ a u s. a_register s) (λ a q. omega (arith, three)))
      (λ _. Reads-cond ws _ _ (suc b) (suc b) p (at_key k.Const (slice_get ws p)) _ _
      (λ _. Reads-one p (λ v u. SpellsConst p v.ty v.name v.value u) (λ v. expr_height v.value + 1 ≤ h) (λ v. local_const p v.ty v.name v.value) _ (Reads-const ws n h (suc b) p (omega (arith, three))) (λ a u s. a_const s) (λ a q. q))
      (λ _. Reads-variable_or_apply p))))

  -- behind the declarations ds, which begin at q and whose lexemes are u
  Reads-locals : (j q p : ℕ) (ds : List Local) (u : List Lexeme) → SpellsEach SpellsLocal q ds u → p ≡ q + length u → Each LocalLow ds
      → Reads ws (λ es v. Locals q es (u ++ v)) (Each LocalLow) (suc b) (suc b) p (locals_at ws n (suc b) h j ds p)
  unfolding locals_at
  Reads-locals zero q p ds u s at low = Reads-spent ws _ _ (suc b) (suc b) p
  Reads-locals (suc j) q p ds u s at low =
      Reads-bind ws (MaybeLocal p) _ MaybeLow _ (suc b) (suc b) (suc b) p _ _ (Reads-local p) short
      (λ x w st r fits. go (λ i es v t e l. Reads-locals j q i es v t e l) x.0 x.1 w r fits (Stands-length ws p x.1 w st))
    where
      ended : (w : List Lexeme) → w ≡ name apply_name ∷ [] → Locals q ds (u ++ (w ++ []))
      ended w e = record { front = u; spells = s; same = ap (λ z. u ++ z) (append-nil w ∙ e) }

      pushed : (d : Local) (w : List Lexeme) → SpellsLocal p d w → SpellsEach SpellsLocal q (ds ++ d ∷ []) (u ++ w)
      pushed d w r = each_push SpellsLocal q ds u d w s (subst (λ i. SpellsLocal i d w) at r)

      short : (o : Option Local) (w : List Lexeme) → MaybeLocal p o w → (y : List Local) × (post : List Lexeme) × Locals q y (u ++ (w ++ post)) × (MaybeLow o → Each LocalLow y)
      short None w r = (ds, [], ended w r, λ _. low)
      short (Some d) w r = (ds ++ d ∷ [], name apply_name ∷ [], record { front = u ++ w; spells = pushed d w r; same = sym (append_assoc u w (name apply_name ∷ [])) }, λ q. each_snoc LocalLow ds d low q)

      go : ((i : ℕ) (es : List Local) (v : List Lexeme) → SpellsEach SpellsLocal q es v → i ≡ q + length v → Each LocalLow es
          → Reads ws (λ fs z. Locals q fs (v ++ z)) (Each LocalLow) (suc b) (suc b) i (locals_at ws n (suc b) h j es i)) → (o : Option Local) (i : ℕ) (w : List Lexeme) → MaybeLocal p o w → MaybeLow o → i ≡ p + length w
          → Reads ws (λ y v. Locals q y (u ++ (w ++ v))) (Each LocalLow) (suc b) (suc b) i (goes_on ws n (suc b) h ds i o (λ es. locals_at ws n (suc b) h j es i))
      go again None i w r fits on = Reads-ok ws _ _ (suc b) i ds (ended w r) low
      go again (Some d) i w r fits on =
          Reads-map ws _ _ _ _ (suc b) (suc b) i _ (λ es v z. subst (Locals q es) (append_assoc u w v) z) (λ es z. z)
          (again i (ds ++ d ∷ []) (u ++ w) (pushed d w r) (omega (arith, at, on, length-append u w)) (each_snoc LocalLow ds d low fits))

  abbrev ControlLow : Control → Type 0
  ControlLow d = control_height d ≤ h + 1

  -- declarations alone are `apply`
  no_locals : (q : ℕ) → Locals q [] (name apply_name ∷ [])
  no_locals q = record { front = []; spells = no_more; same = refl }

  pub Reads-control : (p : ℕ) → Reads ws (SpellsControl p) ControlLow (suc b) (suc b) p (control_at ws n (suc b) h p)
  unfolding control_at
  Reads-control p =
      let a = some_name in
      let i = p + 1 + 1 + 1 in
      let l = least_param i in
      let o = l.item ∷ [] in
      let u = l.lexemes in
      let r = name apply_name ∷ [] in
      let close = key k.BraceClose ∷ [] in
      let end = r ++ (empty ++ close) in
      let none = key k.Close ∷ key k.BraceOpen ∷ end in
      let first : 2 ≤ h + 1 = omega (arith, three) in
      let bare = λ (j : ℕ) (x : List ℕ) (ps : List Param) (v : List Lexeme) (at : j ≡ i + length v) (s : SpellsList SpellsParam i ps v). control_of p j x ps [] done v r empty at s (no_locals (j + 1 + 1)) (an_empty (j + 1 + 1 + length r)) in
      Reads-expect ws _ _ (suc b) (suc b) (suc b) p k.Control _ (control_made p a o [] done) (name a ∷ key k.Open ∷ (u ++ none)) refl (bare (i + length u) a o u refl (last l.spells)) first
      (Reads-named ws n _ _ (suc b) (suc b) (p + 1) _ (λ x. (control_made p x o [] done, key k.Open ∷ (u ++ none), bare (i + length u) x o u refl (last l.spells), first))
      (λ x _. Reads-expect ws _ _ (suc b) b (suc b) (p + 1 + 1) k.Open _ (control_made p x o [] done) (u ++ none) refl (bare (i + length u) x o u refl (last l.spells)) first
      (Reads-bind ws (SpellsList SpellsParam i) _ (Each Any) _ b b (suc b) i _ _ (Reads-list ws SpellsParam Any (param_at ws n) b (Reads-param ws n b) least_param n i)
      (λ ps v s. (control_made p x ps [] done, none, bare (i + length v) x ps v refl s, λ _. omega (arith, three, each_one ps)))
      (λ ps v st s _. let at = Stands-length ws i ps.1 v st in
      let few = each_one ps.0 in
      let least = bare ps.1 x ps.0 v at s in
      let fit : control_height (control_made p x ps.0 [] done) ≤ h + 1 = omega (arith, three, few) in
      Reads-expect ws _ _ b (suc b) (suc b) ps.1 k.Close _ (control_made p x ps.0 [] done) (key k.BraceOpen ∷ end) refl least fit
      (Reads-expect ws _ _ (suc b) (suc b) (suc b) (ps.1 + 1) k.BraceOpen _ (control_made p x ps.0 [] done) end refl least fit
      (Reads-bind ws (Locals (ps.1 + 1 + 1)) _ (Each LocalLow) _ (suc b) (suc b) (suc b) (ps.1 + 1 + 1) _ _ (Reads-locals n (ps.1 + 1 + 1) (ps.1 + 1 + 1) [] [] no_more (omega arith) tt)
      (λ ds w t. (control_made p x ps.0 ds done, empty ++ close, control_of p ps.1 x ps.0 ds done v w empty at s t (an_empty (ps.1 + 1 + 1 + length w)), λ q. omega (arith, three, few, each_low local_height h ds q)))
      (λ ds w st' t q. let on = Stands-length ws (ps.1 + 1 + 1) ds.1 w st' in
      let low = each_low local_height h ds.0 q in
      let whole = λ (ss : Stmts) (z : List Lexeme) (y : SpellsBlock ds.1 ss z). control_of p ps.1 x ps.0 ds.0 ss v w z at s t (subst (λ m. SpellsBlock m ss z) on y) in
      Reads-bind ws (Block ds.1) _ (StmtsLow h) _ (suc b) (suc b) (suc b) ds.1 _ _ (Reads-body ws n h b ds.1)
      (λ ss z y. (control_made p x ps.0 ds.0 (stmts_from ss), close, whole (stmts_from ss) z y, λ f. omega (arith, three, few, low, f)))
      (λ ss z st'' y f. Reads-expect ws _ _ (suc b) (suc b) (suc b) ss.1 k.BraceClose _ (control_made p x ps.0 ds.0 (stmts_from ss.0)) [] refl (whole (stmts_from ss.0) z y) (omega (arith, three, few, low, f))
      (Reads-ok ws _ _ (suc b) (ss.1 + 1) (control_made p x ps.0 ds.0 (stmts_from ss.0)) (whole (stmts_from ss.0) z y) (omega (arith, three, few, low, f)))))))))))

-- Names that are plain and no flag's, and trees of such names.
use Rattle.std.proofs.Common.{◌≡◌, ◌⊎◌, inl, inr, ℕ, List, [], ◌∷◌, Bool, true, false, not, ◌||◌, refl, sym, ap, ◌∙◌, subst}
use Rattle.std.proofs.lemmas.List.{append_assoc, append_cancel_right}
use Rattle.std.specs.List.{AllByRecursion}
use Rattle.lex_text.specs.Names.{same_text}
use Rattle.p4_tree.specs.Tree.{Stmt, Stmts, MaybeStmt, block, var, choice, done, next, without, otherwise, Local, local_action, local_table, local_register, local_const, local_var, Top, constant, typedef, header_type, struct_type, register, parser, control}
use Rattle.p4_tree.specs.declared.statement.PTy.{PTy}
use Rattle.p4_meaning.specs.Scope.{is_among, full, names_in_stmt, names_in_else, names_in}
use Rattle.p4_meaning.specs.Actions.{params_in}
use Rattle.p4_rule_laws.specs.Old.{Names, OldFields, OldStmt, OldElse, OldStmts}
use Rattle.p4_rule_laws.specs.OldPrograms.{OldLocal, OldLocals, OldTops}
use Rattle.p4_typing_laws.specs.Plain.{has_point, is_plain, IsPlain, HasName, HaveNames}
use Rattle.p4_typing_laws.proofs.CallCounts.{text_is}
use Rattle.p4_typing_laws.proofs.FullNames.{full_has, among_head, among_tail, other_text}
use Rattle.p4_typing_laws.proofs.TiedNames.{among_either}
use Rattle.exit_statements.specs.Free.{is_flag}
use Rattle.exit_statements.specs.Actions.{flags_in}
use Rattle.exit_statements.specs.WrittenActions.{returned_in}
use Rattle.exit_programs.specs.Programs.{flags}
use Rattle.exit_programs.specs.Names.{is_given}

pub broken : {A : Type 0} → true ≡ false → A
broken h = absurd (cc)

pub false_if : (b : Bool) → (b ≡ true → ⊥) → b ≡ false
false_if true h = absurd (h refl)
false_if false h = refl

pub not_true : (b : Bool) → not b ≡ true → b ≡ false
not_true b h = false_if b (λ e. broken (sym h ∙ ap not e))

-- ---- points

pub point_other : (x y : List ℕ) → has_point x ≡ true → has_point y ≡ false → x ≡ y → ⊥
point_other x y h k e = broken (sym h ∙ ap has_point e ∙ k)

-- ---- flags

kept_name : (x y : List ℕ) → is_given x ≡ true → is_given y ≡ false → y ≡ x → ⊥
kept_name x y h k e = broken (sym h ∙ sym (ap is_given e) ∙ k)

-- a given name is no flag's
pub given_no_flag : (x : List ℕ) → is_given x ≡ true → is_flag flags x ≡ false
given_no_flag x h = (let left = other_text flags.left x (kept_name x flags.left h refl) in let returned = other_text flags.returned x (kept_name x flags.returned h refl) in cc)

-- the full name of what an action declares
abbrev pub inner_full : (control action x : List ℕ) → List ℕ
inner_full c a x = full c (full a x)

pub inner_one : (c a x y : List ℕ) → inner_full c a x ≡ inner_full c a y → x ≡ y
inner_one c a x y e = append_cancel_right x y (46 ∷ a) (append_cancel_right (full a x) (full a y) (46 ∷ c) e)

-- nor is the full name of a given name one of an action's flags
pub inner_no_flag : (c a x : List ℕ) → is_given x ≡ true → is_flag (flags_in flags.left (returned_in flags) (full c a)) (inner_full c a x) ≡ false
inner_no_flag c a x h =
    (let left = other_text flags.left (inner_full c a x) (λ e. point_other (inner_full c a x) flags.left (full_has c (full a x)) refl (sym e)) in
    let returned = other_text (returned_in flags (full c a)) (inner_full c a x) (λ e. kept_name x flags.returned h refl (inner_one c a flags.returned x (append_assoc flags.returned (46 ∷ a) (46 ∷ c) ∙ e))) in cc)

-- ---- of trees whose names pass a test each declared name does

module _ (old : Names) (m : List ℕ) where
  among_first : (x : List ℕ) (xs : List (List ℕ)) → old x ≡ true → (is_among xs m ≡ true → old m ≡ true) → is_among (x ∷ xs) m ≡ true → old m ≡ true
  among_first x xs h more i = go (same_text x m) refl i
    where
      go : (b : Bool) → same_text x m ≡ b → (b || is_among xs m) ≡ true → old m ≡ true
      go true e k = subst (λ (y : List ℕ). old y ≡ true) (text_is x m e) h
      go false e k = more k

  either : {A B : Type 0} → A ⊎ B → (A → old m ≡ true) → (B → old m ≡ true) → old m ≡ true
  either (inl a) f g = f a
  either (inr b) f g = g b

  pub old_params : (ps : List (PTy × List ℕ)) → OldFields old ps → is_among (params_in ps) m ≡ true → old m ≡ true
  old_params [] o i = broken (sym i)
  old_params (p ∷ ps) o i = among_first p.1 (params_in ps) o.1 (λ k. old_params ps o.2 k) i

  mutual
    old_stmt : (c : Stmt) → OldStmt old c → is_among (names_in_stmt c) m ≡ true → old m ≡ true
    old_stmt (block p b) o i = old_names b o i
    old_stmt (var p t x e) o i = among_first x [] o.1 (λ k. broken (sym k)) i
    old_stmt (choice p e a b) o i = either (among_either (names_in_stmt a) (names_in_else b) m i) (λ k. old_stmt a o.1 k) (λ k. old_else b o.2 k)
    old_stmt _ o i = broken (sym i)

    old_else : (c : MaybeStmt) → OldElse old c → is_among (names_in_else c) m ≡ true → old m ≡ true
    old_else without o i = broken (sym i)
    old_else (otherwise c) o i = old_stmt c o i

    pub old_names : (b : Stmts) → OldStmts old b → is_among (names_in b) m ≡ true → old m ≡ true
    old_names done o i = broken (sym i)
    old_names (next c b) o i = either (among_either (names_in_stmt c) (names_in b) m i) (λ k. old_stmt c o.0 k) (λ k. old_names b o.1 k)

-- ---- plain names

-- where all names are plain, what is asked of plain names holds
module _ (Thing Value : List ℕ → Type 0) (thing : (x : List ℕ) → IsPlain x → Thing x) (value : (x : List ℕ) → IsPlain x → Value x) where
  pub local_names : (l : Local) → OldLocal is_plain l → HasName Thing Value l
  local_names (local_action p a) o = thing a.name o.0
  local_names (local_table p t) o = thing t.name o.name
  local_names (local_register p r) o = thing r.name o.0
  local_names (local_const p t x e) o = value x o.1
  local_names (local_var p t x e) o = value x o.1

  pub locals_names : (ls : List Local) → OldLocals is_plain ls → AllByRecursion (HasName Thing Value) ls
  locals_names [] o = tt
  locals_names (l ∷ ls) o = (local_names l o.0, locals_names ls o.1)

  each_value : (xs : List (List ℕ)) → ((m : List ℕ) → is_among xs m ≡ true → IsPlain m) → AllByRecursion Value xs
  each_value [] h = tt
  each_value (x ∷ xs) h = (value x (h x (among_head x xs)), each_value xs (λ m i. h m (among_tail x xs m i)))

  pub tops_names : (ts : List Top) → OldTops is_plain ts → HaveNames Thing Value ts
  tops_names [] o = tt
  tops_names (constant p t x e ∷ ts) o = (value x o.0.1, tops_names ts o.1)
  tops_names (typedef p t x ∷ ts) o = tops_names ts o.1
  tops_names (header_type p x fs ∷ ts) o = tops_names ts o.1
  tops_names (struct_type p x fs ∷ ts) o = tops_names ts o.1
  tops_names (register p r ∷ ts) o = (thing r.name o.0.0, tops_names ts o.1)
  tops_names (parser p d ∷ ts) o = tops_names ts o.1
  tops_names (control p c ∷ ts) o =
      ((locals_names c.locals o.0.locals, each_value (names_in c.apply) (λ m i. old_names is_plain m c.apply o.0.apply i)), tops_names ts o.1)

-- With which lexemes an expression goes on. Where no expression begins with its lexemes and the one behind them, reading ends there.
use Rattle.std.proofs.Common.{◌≡◌, ℕ, suc, ◌+◌, ◌≤◌, Bool, true, false, inl, inr, List, [], ◌∷◌, ◌++◌, length, Option, Some, None, refl, sym, ap, subst, ◌∙◌, append_assoc, arith}
use Rattle.std.proofs.lemmas.Bool.{cases_lt, eq-eqb}
use Rattle.std.specs.Prelude.{◌==◌}
use Rattle.lex_text.specs.Names.{same_text, parent}
use Rattle.lex_words.specs.declared.key.Key.{Key}
use Rattle.lex_words.specs.declared.key.Key.TheVariants.{Question, Colon, Dot, Open, Close, SquareOpen, SquareClose}
use Rattle.lex_words.specs.Seen.{Lexeme, name, number, key, key_in, at_key}
use Rattle.lex_words.proofs.KeyCodes.{at_key-is}
use Rattle.lex_words.proofs.Joins.{join_lexeme, level_join}
use Rattle.p4_tree.specs.Tree.{Expr, num, path, valid, applied, negation, inversion, opposite, binary, conditional, slice, cast}
use Rattle.p4_tree.specs.declared.statement.Op.{Op}
use Rattle.p4_spelling.specs.Words.{valid_name, apply_name, outcome_name}
use Rattle.p4_spelling.specs.Operators.{top, op_at}
use Rattle.p4_spelling.specs.Expressions.{SpellsPath, SpellsPostfix, a_number, a_true, a_false, an_error, a_path, a_validity, an_application, in_brackets, a_slice, Spells, a_postfix, a_not, an_inversion, an_opposite, a_cast, tighter, joined, a_conditional}
use Rattle.p4_expressions.specs.Reading.{last_of, op_in, is_called}
use Rattle.p4_expressions.proofs.Behind.{Ends, NoJoin, op-low}
use Rattle.p4_expressions.proofs.Tails.{operand_path, last_path, Quiet}
use Rattle.p4_expressions.proofs.CompleteSteps.{path_more}
use Rattle.p4_expressions.proofs.SoundSteps.{zero_lexeme, some_name, text_is, a_number_up}
use Rattle.p4_expressions.proofs.SoundPaths.{path_split, path_single, called_long, called_apply, length-parent}

-- an expression begins with the lexemes u and then w
pub record Longer (l p : ℕ) (u : List Lexeme) (w : Lexeme) : Type 0 where
  pub tree : Expr
  pub back : List Lexeme
  pub spells : Spells l p tree (u ++ w ∷ back)

-- an operand does
record LongerOperand (p : ℕ) (u : List Lexeme) (w : Lexeme) : Type 0 where
  tree : Expr
  back : List Lexeme
  spells : SpellsPostfix p tree (u ++ w ∷ back)

-- lexemes behind those of a part
behind_part : (u v z : List Lexeme) (w : Lexeme) → u ++ w ∷ (v ++ z) ≡ (u ++ w ∷ v) ++ z
behind_part u v z w = sym (append_assoc u (w ∷ v) z)

-- ---- what goes on with the last operand. P: said of it, where it is a path

module _ (w : Lexeme) (P : Option (List (List ℕ)) → Type 0) (grow : (p : ℕ) (t : Expr) (u : List Lexeme) (s : SpellsPostfix p t u) → P (operand_path s) → LongerOperand p u w) where
  longer : {l p : ℕ} {t : Expr} {u : List Lexeme} (s : Spells l p t u) → P (last_path s) → Longer l p u w
  longer {p = p} {t = t} {u = u} (a_postfix s) x = let g = grow p t u s x in record { tree = g.tree; back = g.back; spells = a_postfix g.spells }
  longer {p = p} (a_not s) x = let g = longer s x in record { tree = negation p g.tree; back = g.back; spells = a_not g.spells }
  longer {p = p} (an_inversion s) x = let g = longer s x in record { tree = inversion p g.tree; back = g.back; spells = an_inversion g.spells }
  longer {p = p} (an_opposite s) x = let g = longer s x in record { tree = opposite p g.tree; back = g.back; spells = an_opposite g.spells }
  longer {p = p} (a_cast {t = ty} {u = u} {v = v} t s) x =
      let g = longer s x in
      record { tree = cast p ty g.tree; back = g.back; spells = subst (λ z. Spells 0 p (cast p ty g.tree) (key Open ∷ z)) (behind_part u v (w ∷ g.back) (key Close)) (a_cast t g.spells) }
  longer (tighter s) x = let g = longer s x in record { tree = g.tree; back = g.back; spells = tighter g.spells }
  longer {p = p} (joined {l = l} {a = a} {u = u} {v = v} k op o s t) x =
      let g = longer t x in
      record { tree = binary p op a g.tree; back = g.back; spells = subst (λ z. Spells (suc l) p (binary p op a g.tree) z) (behind_part u v (w ∷ g.back) (key k)) (joined k op o s g.spells) }
  longer {p = p} (a_conditional {a = a} {b = b} {u = u} {v = v} {w = y} s t r) x =
      let g = longer r x in
      let e : u ++ key Question ∷ (v ++ key Colon ∷ (y ++ w ∷ g.back)) ≡ (u ++ key Question ∷ (v ++ key Colon ∷ y)) ++ w ∷ g.back = ap (λ z. u ++ key Question ∷ z) (behind_part v y (w ∷ g.back) (key Colon)) ∙ behind_part u (v ++ key Colon ∷ y) (w ∷ g.back) (key Question) in
      record { tree = conditional p a b g.tree; back = g.back; spells = subst (λ z. Spells top p (conditional p a b g.tree) z) e (a_conditional s t g.spells) }

-- ---- a slice, a further name, a call

slice_longer : {p : ℕ} {t : Expr} {u : List Lexeme} → SpellsPostfix p t u → LongerOperand p u (key SquareOpen)
slice_longer {p = p} {t = t} s = record { tree = slice p t 0 0; back = number zero_lexeme ∷ key Colon ∷ number zero_lexeme ∷ key SquareClose ∷ []; spells = a_slice zero_lexeme zero_lexeme (omega arith) (omega arith) s }

-- the names of a path
abbrev Names : Option (List (List ℕ)) → Type 0
Names o = (xs : List (List ℕ)) × (o ≡ Some xs)

no_names : {A : Type 0} → Names None → A
no_names x = absurd (let e = x.1 in cc)

dot_longer : {p : ℕ} {t : Expr} {u : List Lexeme} (s : SpellsPostfix p t u) → Names (operand_path s) → LongerOperand p u (key Dot)
dot_longer {p = p} (a_path {xs = xs} s) x = record { tree = path p (xs ++ some_name ∷ []); back = name some_name ∷ []; spells = a_path (path_more some_name s) }
dot_longer (a_number n) x = no_names x
dot_longer a_true x = no_names x
dot_longer a_false x = no_names x
dot_longer (an_error y) x = no_names x
dot_longer (a_validity s) x = no_names x
dot_longer (an_application t hit) x = no_names x
dot_longer (in_brackets s) x = no_names x
dot_longer (a_slice high low h l s) x = no_names x

-- the names of a path that is called
abbrev Called : Option (List (List ℕ)) → Type 0
Called o = (xs : List (List ℕ)) × (o ≡ Some xs) × (is_called xs ≡ true)

not_called : {A : Type 0} → Called None → A
not_called x = absurd (let e = x.1 in cc)

-- x: the last name; v and a: whether it is `isValid`, `apply`
path_called : (p : ℕ) {xs : List (List ℕ)} {u : List Lexeme} → SpellsPath xs u → is_called xs ≡ true → (o : Option (List ℕ)) → last_of xs ≡ o → LongerOperand p u (key Open)
path_called p {xs = xs} {u = u} s is None e = absurd (none_called xs e is)
  where
    none_called : (xs : List (List ℕ)) → last_of xs ≡ None → is_called xs ≡ true → ⊥
    none_called [] e is = absurd (let f : false ≡ true = is in cc)
    none_called (x ∷ []) e is = absurd cc
    none_called (x ∷ y ∷ rest) e is = some_last y rest e
      where
        some_last : (y : List ℕ) (rest : List (List ℕ)) → last_of (y ∷ rest) ≡ None → ⊥
        some_last y [] e = absurd cc
        some_last y (z ∷ rest) e = some_last z rest e
path_called p {xs = xs} {u = u} s is (Some x) e = by (same_text x valid_name) refl
  where
    long : 1 ≤ length (parent xs)
    long = omega (arith, called_long xs is, length-parent xs)

    by : (b : Bool) → same_text x valid_name ≡ b → LongerOperand p u (key Open)
    by true v =
        let r = path_split s x e long in
        let f : u ≡ r.front ++ key Dot ∷ name valid_name ∷ [] = r.same ∙ ap (λ y. r.front ++ key Dot ∷ name y ∷ []) (text_is x valid_name v) in
        let g : u ++ key Open ∷ key Close ∷ [] ≡ r.front ++ key Dot ∷ name valid_name ∷ key Open ∷ key Close ∷ [] = ap (λ y. y ++ key Open ∷ key Close ∷ []) f ∙ append_assoc r.front (key Dot ∷ name valid_name ∷ []) (key Open ∷ key Close ∷ []) in
        record { tree = valid p (parent xs); back = key Close ∷ []; spells = subst (λ y. SpellsPostfix p (valid p (parent xs)) y) (sym g) (a_validity r.spells) }
    by false v = one (last_of (parent xs)) refl
      where
        asked : List Lexeme
        asked = key Close ∷ key Dot ∷ name (outcome_name true) ∷ []

        one : (o : Option (List ℕ)) → last_of (parent xs) ≡ o → LongerOperand p u (key Open)
        one None f = absurd (some_last (parent xs) long f)
          where
            some_last : (ys : List (List ℕ)) → 1 ≤ length ys → last_of ys ≡ None → ⊥
            some_last [] le f = absurd (omega (arith, le))
            some_last (y ∷ []) le f = absurd cc
            some_last (y ∷ z ∷ rest) le f = some_last (z ∷ rest) (omega arith) f
        one (Some t) f =
            let two = called_apply xs x e is v in
            let r = path_split s x e long in
            let g : r.front ≡ name t ∷ [] = path_single r.spells t (omega (arith, two.1, length-parent xs)) f in
            let h : u ≡ name t ∷ key Dot ∷ name apply_name ∷ [] = r.same ∙ ap (λ y. r.front ++ key Dot ∷ name y ∷ []) (text_is x apply_name two.0) ∙ ap (λ y. y ++ key Dot ∷ name apply_name ∷ []) g in
            record { tree = applied p t true; back = key Close ∷ key Dot ∷ name (outcome_name true) ∷ []; spells = subst (λ y. SpellsPostfix p (applied p t true) (y ++ key Open ∷ key Close ∷ key Dot ∷ name (outcome_name true) ∷ [])) (sym h) (an_application t true) }

call_longer : {p : ℕ} {t : Expr} {u : List Lexeme} (s : SpellsPostfix p t u) → Called (operand_path s) → LongerOperand p u (key Open)
call_longer {p = p} (a_path {xs = xs} s) x =
    let e : xs ≡ x.0 = (let f : Some xs ≡ Some x.0 = x.1 in cc) in
    path_called p s (ap is_called e ∙ x.2) (last_of xs) refl
call_longer (a_number n) x = not_called x
call_longer a_true x = not_called x
call_longer a_false x = not_called x
call_longer (an_error y) x = not_called x
call_longer (a_validity s) x = not_called x
call_longer (an_application t hit) x = not_called x
call_longer (in_brackets s) x = not_called x
call_longer (a_slice high low h l s) x = not_called x

-- ---- operators and `? :`

-- behind a left side of the operator's level
number_joined : {l p : ℕ} {t : Expr} {u : List Lexeme} (k : Key) (op : Op) → op_at k ≡ Some (suc l, op) → Spells (suc l) p t u → Longer (suc l) p u (key k)
number_joined {l = l} {p = p} {t = t} {u = u} k op o s =
    let q = p + length u + 1 in
    record { tree = binary p op t (num q zero_lexeme); back = number zero_lexeme ∷ []; spells = joined k op o s (a_number_up l q zero_lexeme) }

same_level : (m l : ℕ) (k : Key) (op : Op) → op_at k ≡ Some (suc m, op) → l ≤ m → suc m ≤ suc l → op_at k ≡ Some (suc l, op)
same_level m l k op o le lt = o ∙ ap (λ (x : ℕ). Some (suc x, op)) (omega (arith, le, lt))

-- m + 1: the operator's level
join_longer : {l p : ℕ} {t : Expr} {u : List Lexeme} → Spells l p t u → (k : Key) (op : Op) (m : ℕ) → op_at k ≡ Some (suc m, op) → suc m ≤ l → Longer l p u (key k)
join_longer (a_postfix s) k op m o le = absurd (omega (arith, le))
join_longer (a_not s) k op m o le = absurd (omega (arith, le))
join_longer (an_inversion s) k op m o le = absurd (omega (arith, le))
join_longer (an_opposite s) k op m o le = absurd (omega (arith, le))
join_longer (a_cast t s) k op m o le = absurd (omega (arith, le))
join_longer (tighter {l = l} s) k op m o le = elim (cases_lt m l) [
  | inl lt ↦ let g = join_longer s k op m o (omega (arith, lt)) in record { tree = g.tree; back = g.back; spells = tighter g.spells }
  | inr ge ↦ number_joined k op (same_level m l k op o ge le) (tighter s)
]
join_longer {p = p} (joined {l = l} {a = a} {u = u} {v = v} x y z s t) k op m o le = elim (cases_lt m l) [
  | inl lt ↦
      let g = join_longer t k op m o (omega (arith, lt)) in
      record { tree = binary p y a g.tree; back = g.back; spells = subst (λ r. Spells (suc l) p (binary p y a g.tree) r) (behind_part u v (key k ∷ g.back) (key x)) (joined x y z s g.spells) }
  | inr ge ↦ number_joined k op (same_level m l k op o ge le) (joined x y z s t)
]
join_longer {p = p} (a_conditional {a = a} {b = b} {u = u} {v = v} {w = w} s t r) k op m o le =
    let g = join_longer r k op m o le in
    let e : u ++ key Question ∷ (v ++ key Colon ∷ (w ++ key k ∷ g.back)) ≡ (u ++ key Question ∷ (v ++ key Colon ∷ w)) ++ key k ∷ g.back = ap (λ z. u ++ key Question ∷ z) (behind_part v w (key k ∷ g.back) (key Colon)) ∙ behind_part u (v ++ key Colon ∷ w) (key k ∷ g.back) (key Question) in
    record { tree = conditional p a b g.tree; back = g.back; spells = subst (λ z. Spells top p (conditional p a b g.tree) z) e (a_conditional s t g.spells) }

question_longer : {l p : ℕ} {t : Expr} {u : List Lexeme} → Spells l p t u → l ≡ top → Longer top p u (key Question)
question_longer (a_postfix s) e = absurd (omega (arith, e))
question_longer (a_not s) e = absurd (omega (arith, e))
question_longer (an_inversion s) e = absurd (omega (arith, e))
question_longer (an_opposite s) e = absurd (omega (arith, e))
question_longer (a_cast t s) e = absurd (omega (arith, e))
question_longer {p = p} {t = t} {u = u} (tighter {l = l} s) e =
    let ten : l ≡ 10 = omega (arith, e) in
    let q = p + length u + 1 in
    let r = q + 1 + 1 in
    record { tree = conditional p t (num q zero_lexeme) (num r zero_lexeme); back = number zero_lexeme ∷ key Colon ∷ number zero_lexeme ∷ []; spells = a_conditional (subst (λ x. Spells x p t u) ten s) (a_number_up top q zero_lexeme) (a_number_up top r zero_lexeme) }
question_longer (joined {l = l} k op o s t) e = absurd (let f : (l == 10) ≡ true = eq-eqb l 10 (omega (arith, e)) in let g = op-low k l op o in cc)
question_longer {p = p} (a_conditional {a = a} {b = b} {u = u} {v = v} {w = w} s t r) e =
    let g = question_longer r refl in
    let f : u ++ key Question ∷ (v ++ key Colon ∷ (w ++ key Question ∷ g.back)) ≡ (u ++ key Question ∷ (v ++ key Colon ∷ w)) ++ key Question ∷ g.back = ap (λ z. u ++ key Question ∷ z) (behind_part v w (key Question ∷ g.back) (key Colon)) ∙ behind_part u (v ++ key Colon ∷ w) (key Question ∷ g.back) (key Question) in
    record { tree = conditional p a b g.tree; back = g.back; spells = subst (λ z. Spells top p (conditional p a b g.tree) z) f (a_conditional s t g.spells) }

-- ---- where none goes on

-- no expression begins with these lexemes and what stands behind them
abbrev pub IsLast : (p : ℕ) → List Lexeme → Option Lexeme → Type 0
IsLast p u o = (w : Lexeme) → o ≡ Some w → Longer top p u w → ⊥

module _ {p : ℕ} {t : Expr} {u : List Lexeme} (s : Spells top p t u) (o : Option Lexeme) (last : IsLast p u o) where
  not_key : (k : Key) → (at_key k o ≡ true → Longer top p u (key k)) → at_key k o ≡ false
  not_key k longer = by (at_key k o) refl
    where
      by : (b : Bool) → at_key k o ≡ b → b ≡ false
      by false e = refl
      by true e = absurd (last (key k) (at_key-is k o e) (longer e))

  no_join : NoJoin top o
  no_join m lt = by (op_in (m + 1) (key_in o)) refl
    where
      by : (x : Option Op) → op_in (m + 1) (key_in o) ≡ x → x ≡ None
      by None e = refl
      by (Some op) e =
          let j = join_lexeme op_at (m + 1) o op e in
          let level : level_join (m + 1) op ≡ Some (suc m, op) = ap (λ (x : ℕ). Some (x, op)) (omega arith) in
          absurd (last (key j.0) j.1 (join_longer s j.0 op m (j.2 ∙ level) (omega (arith, lt))))

  pub last_ends : Ends top o
  last_ends = record { joins = no_join; question = λ le. not_key Question (λ e. question_longer s refl); square = not_key SquareOpen (λ e. longer (key SquareOpen) (λ x. Unit {0}) (λ p t u a x. slice_longer a) s tt) }

  pub last_quiet : Quiet (last_path s) o
  last_quiet = by (last_path s) refl
    where
      by : (x : Option (List (List ℕ))) → last_path s ≡ x → Quiet x o
      by None e = tt
      by (Some xs) e = (not_key Dot (λ is. longer (key Dot) Names (λ p t u a x. dot_longer a x) s (xs, e)), λ is. uncalled is (is_called xs) refl)
        where
          uncalled : at_key Open o ≡ true → (b : Bool) → is_called xs ≡ b → b ≡ false
          uncalled is false f = refl
          uncalled is true f = absurd (last (key Open) (at_key-is Open o is) (longer (key Open) Called (λ p t u a x. call_longer a x) s (xs, e, f)))

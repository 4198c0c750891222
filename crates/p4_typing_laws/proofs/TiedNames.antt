-- Declarations keep both scopes tied, one by one.
use Rattle.std.proofs.Common.{◌≡◌, ◌⊎◌, inl, inr, ℕ, List, [], ◌∷◌, ◌++◌, map, Bool, true, false, cond, not, ◌||◌, codes, Option, Some, None, is_some, refl, sym, ap, ◌∙◌, subst}
use Rattle.bit_values.specs.Bits.{Word}
use Rattle.bit_values.specs.Widths.{sound_width}
use Rattle.lex_text.specs.Names.{same_text}
use Rattle.rule_tests.specs.Tests.{IsFine}
use Rattle.p4_tree.specs.Tree as tree
use Rattle.p4_tree.specs.Tree.{Expr, Stmt, Stmts, MaybeStmt, nothing, block, var, assign, choice, return_, exit_, call, done, next, without, otherwise, ParserState}
use Rattle.p4_tree.specs.declared.statement.PTy.{PTy}
use Rattle.p4_tree.specs.declared.statement.PTy.TheVariants as type
use Rattle.p4_tree.specs.declared.program.Way.{Way}
use Rattle.p4_tree.specs.declared.program.Way.TheVariants as way
use Rattle.p4_tree.specs.declared.program.Param.{Param}
use Rattle.p4_meaning.specs.Store.{blank}
use Rattle.p4_meaning.specs.Value.{width_of, value_of}
use Rattle.p4_meaning.specs.Statements.{start_of}
use Rattle.p4_meaning.specs.Scope as meaning
use Rattle.p4_meaning.specs.Scope.{Inner, is_among, is_inner, constant_named, constant_at, full_name, type_named, type_under, names_in_stmt, names_in_else, names_in}
use Rattle.p4_meaning.specs.Under.{expr_under, with_constant, with_type}
use Rattle.p4_meaning.specs.Actions.{params_in, in_action, action_named, param_under}
use Rattle.p4_meaning.specs.Tables.{table_named}
use Rattle.p4_meaning.specs.Parts.{Parts}
use Rattle.p4_meaning.proofs.Words.{sound, cast_is_word}
use Rattle.p4_scopes.specs.Scopes.{Stands, missing, typed, held, cells, act, rows, state, function, algorithm, other, is_missing, typed_thing, as_typed, thing_kind, thing_in, kind_in, kinds_in, Scope, What, alias, value, parser_state, behind, declare, core_name, core}
use Rattle.p4_scopes.specs.Uses.{is_scalar, is_type}
use Rattle.p4_scopes.specs.declared.thing.Thing.{Thing}
use Rattle.p4_scopes.specs.declared.thing.Thing.TheVariants.{Scalar, Header, Struct, Standard, PacketIn, PacketOut}
use Rattle.p4_scopes.specs.declared.thing.Access.{Access}
use Rattle.p4_scopes.specs.declared.thing.Access.TheVariants.{Writable, Fixed, Constant}
use Rattle.p4_statement_rules.specs.Expressions.{scalar_tests}
use Rattle.p4_statement_rules.specs.Statements.{after, stmt_tests, block_tests, else_tests}
use Rattle.p4_statement_rules.specs.declared.rule.Part.{Part}
use Rattle.p4_declaration_rules.specs.Declarations.{params_tests, with_params, action_tests}
use Rattle.p4_declaration_rules.specs.Parsers.{way_access, with_ways, ways_tests, with_state, with_ends, with_states}
use Rattle.p4_typing_laws.specs.Soundness.{kind_width, IsSound}
use Rattle.p4_typing_laws.specs.Tied.{ConstantIs, TypeIs, ValueIs, RegisterIs, ParamsAre, ActionIs, register_named, HasIt, IsTied}
use Rattle.p4_typing_laws.proofs.Fine.{twice_not}
use Rattle.p4_typing_laws.proofs.StaticWidths.{sound_width_of}
use Rattle.p4_typing_laws.proofs.SoundScopes.{kind_sound, AllScalar}
use Rattle.p4_typing_laws.proofs.CallCounts.{text_is, text_same}
use Rattle.p4_typing_laws.proofs.FullNames.{other_text}
use Rattle.p4_typing_laws.proofs.CountedNames.{was_missing}

broken : {A : Type 0} → true ≡ false → A
broken h = absurd (cc)

-- ---- what a name has, under another scope of the meaning

-- the name has the same constant, the same type and, where it stands for something, the same full name
pub record SameName (sc sd : meaning.Scope) (x : List ℕ) (st : Stands) : Type 0 where
  pub constants : constant_at sc (x ∷ []) ≡ constant_at sd (x ∷ [])
  pub types : type_under sc.types (type.Named x) ≡ type_under sd.types (type.Named x)
  pub full : is_missing st ≡ false → full_name sc x ≡ full_name sd x

type_moved : (sc sd : meaning.Scope) (x : List ℕ) (t : Thing) → type_under sc.types (type.Named x) ≡ type_under sd.types (type.Named x) → TypeIs sc x t → TypeIs sd x t
type_moved sc sd x (Scalar k) e h = sym (ap width_of e) ∙ h
type_moved sc sd x (Header n) e h = tt
type_moved sc sd x Struct e h = tt
type_moved sc sd x Standard e h = tt
type_moved sc sd x PacketIn e h = tt
type_moved sc sd x PacketOut e h = tt

value_moved : (sc sd : meaning.Scope) (x : List ℕ) (a : Access) (t : Thing) → constant_at sc (x ∷ []) ≡ constant_at sd (x ∷ []) → ValueIs sc x a t → ValueIs sd x a t
value_moved sc sd x Writable t e h = sym e ∙ h
value_moved sc sd x Fixed t e h = sym e ∙ h
value_moved sc sd x Constant t e h = subst (λ (o : Option Word). ConstantIs (thing_kind t) o) e h

pub has_moved : (p : Parts) (sc sd : meaning.Scope) (x : List ℕ) (st : Stands) → SameName sc sd x st → HasIt p sc x st → HasIt p sd x st
has_moved p sc sd x missing e h = sym e.constants ∙ h
has_moved p sc sd x (typed f t) e h = type_moved sc sd x t e.types h
has_moved p sc sd x (held a t) e h = value_moved sc sd x a t e.constants h
has_moved p sc sd x (cells k) e h = subst (λ (y : List ℕ). RegisterIs k (register_named p.registers y)) (e.full refl) h
has_moved p sc sd x (act ks m) e (inl h) = inl h
has_moved p sc sd x (act ks m) e (inr h) = inr (subst (λ (y : List ℕ). ActionIs ks (action_named p.actions y)) (e.full refl) h)
has_moved p sc sd x (rows m) e h = subst (λ (y : List ℕ). is_some (table_named p.tables y) ≡ true) (e.full refl) h
has_moved p sc sd x state e h = tt
has_moved p sc sd x (function f) e h = tt
has_moved p sc sd x algorithm e h = tt
has_moved p sc sd x other e h = tt

pub tied_moved : (p : Parts) (s : Scope) (sc sd : meaning.Scope) → ((x : List ℕ) → SameName sc sd x (s (x ∷ []))) → IsTied p s sc → IsTied p s sd
tied_moved p s sc sd same t = record { names = λ x. has_moved p sc sd x (s (x ∷ [])) (same x) (t.names x) }

-- a name that stands for nothing has no constant
pub new_constant : (p : Parts) (s : Scope) (sc : meaning.Scope) → IsTied p s sc → (x : List ℕ) → is_missing (s (x ∷ [])) ≡ true → constant_at sc (x ∷ []) ≡ None
new_constant p s sc t x h = by (s (x ∷ [])) h (t.names x)
  where
    by : (st : Stands) → is_missing st ≡ true → HasIt p sc x st → constant_at sc (x ∷ []) ≡ None
    by missing e k = k
    by (typed f u) e k = broken (sym e)
    by (held a u) e k = broken (sym e)
    by (cells c) e k = broken (sym e)
    by (act ks m) e k = broken (sym e)
    by (rows m) e k = broken (sym e)
    by state e k = broken (sym e)
    by (function f) e k = broken (sym e)
    by algorithm e k = broken (sym e)
    by other e k = broken (sym e)

-- a type of single values has the width of its kind
pub type_width : (p : Parts) (s : Scope) (sc : meaning.Scope) → IsTied p s sc → (q : ℕ) (t : PTy) → IsFine (scalar_tests q s t) → width_of (type_under sc.types t) ≡ kind_width (kind_in s t)
type_width p s sc tied q (type.Bit w) f = refl
type_width p s sc tied q type.Bool f = refl
type_width p s sc tied q (type.Named x) f = by (s (x ∷ [])) f (tied.names x)
  where
    scalar : (t : Thing) → not (is_scalar t) ≡ false → TypeIs sc x t → width_of (type_under sc.types (type.Named x)) ≡ kind_width (thing_kind t)
    scalar (Scalar k) e h = h
    scalar (Header n) e h = broken e
    scalar Struct e h = broken e
    scalar Standard e h = broken e
    scalar PacketIn e h = broken e
    scalar PacketOut e h = broken e

    by : (st : Stands) → ((is_missing st ≡ false) × (not (is_type st) ≡ false)) × (not (is_scalar (typed_thing (as_typed st))) ≡ false) → HasIt p sc x st → width_of (type_under sc.types (type.Named x)) ≡ kind_width (thing_kind (typed_thing (as_typed st)))
    by missing e h = broken e.0.0
    by (typed g t) e h = scalar t e.1 h
    by (held a t) e h = broken e.0.1
    by (cells c) e h = broken e.0.1
    by (act ks m) e h = broken e.0.1
    by (rows m) e h = broken e.0.1
    by state e h = broken e.0.1
    by (function g) e h = broken e.0.1
    by algorithm e h = broken e.0.1
    by other e h = broken e.0.1

-- ---- declarations

-- a declaration of a name that stood for nothing
pub declared_tied : (p : Parts) (s : Scope) (sc sd : meaning.Scope) (n : List ℕ) (w : What) → IsTied p s sc → ((x : List ℕ) → (n ≡ x → ⊥) → SameName sc sd x (s (x ∷ []))) → HasIt p sd n (behind s w []) → IsTied p (declare s n w) sd
unfolding declare
declared_tied p s sc sd n w t same it = record { names = λ x. go x (same_text n x) refl }
  where
    go : (x : List ℕ) (b : Bool) → same_text n x ≡ b → HasIt p sd x (cond b (behind s w []) (s (x ∷ [])))
    go x true e = subst (λ (y : List ℕ). HasIt p sd y (behind s w [])) (text_is n x e) it
    go x false e = has_moved p sc sd x (s (x ∷ [])) (same x (λ q. (let c : true ≡ false = sym (text_same n x q) ∙ e in cc))) (t.names x)

same_scope : (sc : meaning.Scope) (x : List ℕ) (st : Stands) → SameName sc sc x st
same_scope sc x st = record { constants = refl; types = refl; full = λ h. refl }

-- what leaves the scope of the meaning as it is
pub plain_tied : (p : Parts) (s : Scope) (sc : meaning.Scope) (n : List ℕ) (w : What) → IsTied p s sc → HasIt p sc n (behind s w []) → IsTied p (declare s n w) sc
plain_tied p s sc n w t it = declared_tied p s sc sc n w t (λ x apart. same_scope sc x (s (x ∷ []))) it

-- a variable or a parameter
pub value_tied : (p : Parts) (s : Scope) (sc : meaning.Scope) (n : List ℕ) (a : Access) (ty : PTy) → (a ≡ Constant → ⊥) → IsTied p s sc → is_missing (s (n ∷ [])) ≡ true → IsTied p (declare s n (value a ty)) sc
value_tied p s sc n a ty no_constant t new_name = plain_tied p s sc n (value a ty) t (by a no_constant)
  where
    by : (b : Access) → (b ≡ Constant → ⊥) → ValueIs sc n b (thing_in s ty)
    by Writable h = new_constant p s sc t n new_name
    by Fixed h = new_constant p s sc t n new_name
    by Constant h = absurd (h refl)

-- no action is around
pub record IsOuter (sc : meaning.Scope) : Type 0 where
  pub inner : sc.inner ≡ None

outer_constant : (sc : meaning.Scope) → IsOuter sc → (x : List ℕ) → constant_at sc (x ∷ []) ≡ constant_named sc.constants x
outer_constant sc o x = ap (λ (i : Option Inner). cond (is_inner i x) None (constant_named sc.constants x)) o.inner

pub constant_tied : (p : Parts) (q : ℕ) (s : Scope) (sc : meaning.Scope) (ty : PTy) (n : List ℕ) (e : Expr) → IsOuter sc → IsSound s → IsTied p s sc → IsFine (scalar_tests q s ty) → IsTied p (declare s n (value Constant ty)) (with_constant sc ty n e)
constant_tied p q s sc ty n e o is t f = declared_tied p s sc (with_constant sc ty n e) n (value Constant ty) t (λ x apart. same x apart) it
  where
    w : Word
    w = start_of (type_under sc.types ty) (Some (expr_under sc e)) blank

    outer : IsOuter (with_constant sc ty n e)
    outer = record { inner = o.inner }

    same : (x : List ℕ) → (n ≡ x → ⊥) → SameName sc (with_constant sc ty n e) x (s (x ∷ []))
    same x apart =
        record {
          constants = outer_constant sc o x ∙ sym (ap (λ (b : Bool). cond b (Some (start_of (type_under sc.types ty) (Some (expr_under sc e)) blank)) (constant_named sc.constants x)) (other_text n x apart)) ∙ sym (outer_constant (with_constant sc ty n e) outer x);
          types = refl;
          full = λ h. refl;
        }

    found : constant_at (with_constant sc ty n e) (n ∷ []) ≡ Some (start_of (type_under sc.types ty) (Some (expr_under sc e)) blank)
    found = outer_constant (with_constant sc ty n e) outer n ∙ ap (λ (b : Bool). cond b (Some (start_of (type_under sc.types ty) (Some (expr_under sc e)) blank)) (constant_named sc.constants n)) (text_same n n refl)

    wide : sound_width (width_of (type_under sc.types ty)) ≡ kind_width (kind_in s ty)
    wide = (let k = sound_width_of (kind_in s ty) (kind_sound q s is ty f) in ap sound_width (type_width p s sc t q ty f) ∙ sound (kind_width (kind_in s ty)) k.least k.most)

    it : ConstantIs (kind_in s ty) (constant_at (with_constant sc ty n e) (n ∷ []))
    it = subst (λ (v : Option Word). ConstantIs (kind_in s ty) v) (sym found) (record { word = cast_is_word (width_of (type_under sc.types ty)) (value_of (expr_under sc e) (width_of (type_under sc.types ty)) blank); width = wide })

pub alias_tied : (p : Parts) (q : ℕ) (s : Scope) (sc : meaning.Scope) (ty : PTy) (n : List ℕ) → IsTied p s sc → IsFine (scalar_tests q s ty) → IsTied p (declare s n (alias ty)) (with_type sc ty n)
alias_tied p q s sc ty n t f = declared_tied p s sc (with_type sc ty n) n (alias ty) t (λ x apart. same x apart) (it (thing_in s ty) (type_width p s sc t q ty f))
  where
    same : (x : List ℕ) → (n ≡ x → ⊥) → SameName sc (with_type sc ty n) x (s (x ∷ []))
    same x apart =
        record {
          constants = refl;
          types = sym (ap (λ (b : Bool). cond b (type_under sc.types ty) (type_named sc.types x)) (other_text n x apart));
          full = λ h. refl;
        }

    found : type_under (with_type sc ty n).types (type.Named n) ≡ type_under sc.types ty
    found = ap (λ (b : Bool). cond b (type_under sc.types ty) (type_named sc.types n)) (text_same n n refl)

    it : (u : Thing) → width_of (type_under sc.types ty) ≡ kind_width (thing_kind u) → TypeIs (with_type sc ty n) n u
    it (Scalar k) e = ap width_of found ∙ e
    it (Header m) e = tt
    it Struct e = tt
    it Standard e = tt
    it PacketIn e = tt
    it PacketOut e = tt

-- ---- parameters and states

way_no_constant : (w : Way) → way_access w ≡ Constant → ⊥
way_no_constant way.Plain e = cc
way_no_constant way.Into e = cc
way_no_constant way.Out e = cc
way_no_constant way.Both e = cc

pub ways_tied : (p : Parts) (qs : List Param) (s : Scope) (sc : meaning.Scope) → IsTied p s sc → IsFine (ways_tests s qs) → IsTied p (with_ways s qs) sc
ways_tied p [] s sc t f = t
ways_tied p (q ∷ qs) s sc t f = ways_tied p qs (declare s q.name (value (way_access q.way) q.ty)) sc (value_tied p s sc q.name (way_access q.way) q.ty (way_no_constant q.way) t (twice_not _ f.0.0)) f.1

pub state_tied : (p : Parts) (s : Scope) (sc : meaning.Scope) (n : List ℕ) → IsTied p s sc → IsTied p (with_state s n) sc
state_tied p s sc n t = by (is_missing (s (n ∷ [])))
  where
    by : (b : Bool) → IsTied p (cond b (declare s n parser_state) s) sc
    by true = plain_tied p s sc n parser_state t tt
    by false = t

pub ends_tied : (p : Parts) (s : Scope) (sc : meaning.Scope) → IsTied p s sc → IsTied p (with_ends s) sc
ends_tied p s sc t = state_tied p (with_state s (codes "accept")) sc (codes "reject") (state_tied p s sc (codes "accept") t)

pub states_tied : (p : Parts) (sts : List ParserState) (s : Scope) (sc : meaning.Scope) → IsTied p s sc → IsTied p (with_states s sts) sc
states_tied p [] s sc t = t
states_tied p (st ∷ sts) s sc t = states_tied p sts (with_state s st.name) sc (state_tied p s sc st.name t)

pub fixed_no_constant : Fixed ≡ Constant → ⊥
fixed_no_constant e = cc

pub writable_no_constant : Writable ≡ Constant → ⊥
writable_no_constant e = cc

pub params_tied : (p : Parts) (q : ℕ) (ps : List (PTy × List ℕ)) (s : Scope) (sc : meaning.Scope) → IsTied p s sc → IsFine (params_tests q s ps) → IsTied p (with_params s ps) sc
params_tied p q [] s sc t f = t
params_tied p q (a ∷ ps) s sc t f = params_tied p q ps (declare s a.1 (value Fixed a.0)) sc (value_tied p s sc a.1 Fixed a.0 fixed_no_constant t (twice_not _ f.0.0)) f.1

-- a variable of a block
pub after_tied : (p : Parts) (h : Part) (s : Scope) (sc : meaning.Scope) → IsTied p s sc → (c : Stmt) → IsFine (stmt_tests h s c) → IsTied p (after s c) sc
after_tied p h s sc t (nothing q) f = t
after_tied p h s sc t (block q b) f = t
after_tied p h s sc t (var q ty x e) f = value_tied p s sc x Writable ty writable_no_constant t (twice_not _ f.1.0)
after_tied p h s sc t (assign q x e) f = t
after_tied p h s sc t (choice q e a b) f = t
after_tied p h s sc t (return_ q) f = t
after_tied p h s sc t (exit_ q) f = t
after_tied p h s sc t (call q x args) f = t

-- ---- the names that an action declares are new

pub among_either : (xs ys : List (List ℕ)) (x : List ℕ) → is_among (xs ++ ys) x ≡ true → (is_among xs x ≡ true) ⊎ (is_among ys x ≡ true)
among_either [] ys x h = inr h
among_either (y ∷ xs) ys x h = go (same_text y x) (among_either xs ys x) h
  where
    go : (b : Bool) → (is_among (xs ++ ys) x ≡ true → (is_among xs x ≡ true) ⊎ (is_among ys x ≡ true)) → (b || is_among (xs ++ ys) x) ≡ true → ((b || is_among xs x) ≡ true) ⊎ (is_among ys x ≡ true)
    go true more k = inl refl
    go false more k = more k

missing_before_param : (ps : List (PTy × List ℕ)) (s : Scope) (x : List ℕ) → is_missing (with_params s ps (x ∷ [])) ≡ true → is_missing (s (x ∷ [])) ≡ true
missing_before_param [] s x h = h
missing_before_param (a ∷ ps) s x h = (was_missing s a.1 (value Fixed a.0) refl x (missing_before_param ps (declare s a.1 (value Fixed a.0)) x h)).before

pub missing_before : (s : Scope) (c : Stmt) (x : List ℕ) → is_missing (after s c (x ∷ [])) ≡ true → is_missing (s (x ∷ [])) ≡ true
missing_before s (nothing q) x h = h
missing_before s (block q b) x h = h
missing_before s (var q ty y e) x h = (was_missing s y (value Writable ty) refl x h).before
missing_before s (assign q y e) x h = h
missing_before s (choice q e a b) x h = h
missing_before s (return_ q) x h = h
missing_before s (exit_ q) x h = h
missing_before s (call q y args) x h = h

params_missing : (q : ℕ) (ps : List (PTy × List ℕ)) (s : Scope) → IsFine (params_tests q s ps) → (x : List ℕ) → is_among (params_in ps) x ≡ true → is_missing (s (x ∷ [])) ≡ true
params_missing q [] s f x h = broken (sym h)
params_missing q (a ∷ ps) s f x h = go (same_text a.1 x) refl h (params_missing q ps (declare s a.1 (value Fixed a.0)) f.1 x)
  where
    go : (b : Bool) → same_text a.1 x ≡ b → (b || is_among (params_in ps) x) ≡ true → (is_among (params_in ps) x ≡ true → is_missing (declare s a.1 (value Fixed a.0) (x ∷ [])) ≡ true) → is_missing (s (x ∷ [])) ≡ true
    go true e k more = subst (λ (y : List ℕ). is_missing (s (y ∷ [])) ≡ true) (text_is a.1 x e) (twice_not _ f.0.0)
    go false e k more = (was_missing s a.1 (value Fixed a.0) refl x (more k)).before

pub either_of : {A B C : Type 0} → A ⊎ B → (A → C) → (B → C) → C
either_of (inl a) f g = f a
either_of (inr b) f g = g b

mutual
  pub stmt_missing : (c : Stmt) (h : Part) (s : Scope) → IsFine (stmt_tests h s c) → (x : List ℕ) → is_among (names_in_stmt c) x ≡ true → is_missing (s (x ∷ [])) ≡ true
  stmt_missing (nothing q) h s f x e = broken (sym e)
  stmt_missing (block q b) h s f x e = block_missing b h s f.1 x e
  stmt_missing (var q ty y v) h s f x e = either_of (among_one y x e) (λ k. subst (λ (z : List ℕ). is_missing (s (z ∷ [])) ≡ true) k (twice_not _ f.1.0)) (λ k. absurd k)
    where
      among_one : (y x : List ℕ) → is_among (y ∷ []) x ≡ true → (y ≡ x) ⊎ ⊥
      among_one y x k = one_step (same_text y x) refl k
        where
          one_step : (b : Bool) → same_text y x ≡ b → (b || false) ≡ true → (y ≡ x) ⊎ ⊥
          one_step true i j = inl (text_is y x i)
          one_step false i j = broken (sym j)
  stmt_missing (assign q y v) h s f x e = broken (sym e)
  stmt_missing (choice q v a b) h s f x e = either_of (among_either (names_in_stmt a) (names_in_else b) x e) (λ k. stmt_missing a h s f.1.1.0 x k) (λ k. else_missing b h s f.1.1.1 x k)
  stmt_missing (return_ q) h s f x e = broken (sym e)
  stmt_missing (exit_ q) h s f x e = broken (sym e)
  stmt_missing (call q y args) h s f x e = broken (sym e)

  else_missing : (o : MaybeStmt) (h : Part) (s : Scope) → IsFine (else_tests h s o) → (x : List ℕ) → is_among (names_in_else o) x ≡ true → is_missing (s (x ∷ [])) ≡ true
  else_missing without h s f x e = broken (sym e)
  else_missing (otherwise c) h s f x e = stmt_missing c h s f x e

  pub block_missing : (b : Stmts) (h : Part) (s : Scope) → IsFine (block_tests h s b) → (x : List ℕ) → is_among (names_in b) x ≡ true → is_missing (s (x ∷ [])) ≡ true
  block_missing done h s f x e = broken (sym e)
  block_missing (next c rest) h s f x e = either_of (among_either (names_in_stmt c) (names_in rest) x e) (λ k. stmt_missing c h s f.0 x k) (λ k. missing_before s c x (block_missing rest h (after s c) f.1 x k))

pub inner_missing : (h : Part) (s : Scope) (a : tree.Action) → IsFine (action_tests h s a) → (x : List ℕ) → is_among (params_in a.params ++ names_in a.body) x ≡ true → is_missing (s (x ∷ [])) ≡ true
inner_missing h s a f x e =
    either_of (among_either (params_in a.params) (names_in a.body) x e) (λ k. params_missing a.at a.params s f.1.0 x k)
    (λ k. missing_before_param a.params s x (block_missing a.body h (with_params s a.params) f.1.1 x k))

-- ---- actions

missing_has : (p : Parts) (sc : meaning.Scope) (x : List ℕ) (st : Stands) → is_missing st ≡ true → constant_at sc (x ∷ []) ≡ None → HasIt p sc x st
missing_has p sc x missing e h = h
missing_has p sc x (typed f t) e h = broken (sym e)
missing_has p sc x (held a t) e h = broken (sym e)
missing_has p sc x (cells k) e h = broken (sym e)
missing_has p sc x (act ks m) e h = broken (sym e)
missing_has p sc x (rows m) e h = broken (sym e)
missing_has p sc x state e h = broken (sym e)
missing_has p sc x (function f) e h = broken (sym e)
missing_has p sc x algorithm e h = broken (sym e)
missing_has p sc x other e h = broken (sym e)

-- at the beginning of an action
pub enter_tied : (p : Parts) (h : Part) (s : Scope) (sc : meaning.Scope) (a : tree.Action) → IsOuter sc → IsTied p s sc → IsFine (action_tests h s a) → IsTied p s (in_action sc a)
enter_tied p h s sc a o t f = record { names = λ x. go x (is_among (params_in a.params ++ names_in a.body) x) refl }
  where
    go : (x : List ℕ) (b : Bool) → is_among (params_in a.params ++ names_in a.body) x ≡ b → HasIt p (in_action sc a) x (s (x ∷ []))
    go x true e = missing_has p (in_action sc a) x (s (x ∷ [])) (inner_missing h s a f x e) (ap (λ (b : Bool). cond b None (constant_named sc.constants x)) e)
    go x false e =
        has_moved p sc (in_action sc a) x (s (x ∷ []))
        (record {
          constants = outer_constant sc o x ∙ sym (ap (λ (b : Bool). cond b None (constant_named sc.constants x)) e);
          types = refl;
          full = λ k. refl;
        }) (t.names x)

pub in_action_tied : (p : Parts) (h : Part) (s : Scope) (sc : meaning.Scope) (a : tree.Action) → IsOuter sc → IsTied p s sc → IsFine (action_tests h s a) → IsTied p (with_params s a.params) (in_action sc a)
in_action_tied p h s sc a o t f = params_tied p a.at a.params s (in_action sc a) (enter_tied p h s sc a o t f) f.1.0

-- the widths of an action's parameters are those of their kinds
pub params_are : (p : Parts) (q : ℕ) (s : Scope) (sc sd : meaning.Scope) → IsTied p s sc → sd.types ≡ sc.types → (ps : List (PTy × List ℕ)) → AllScalar q s ps → ParamsAre (kinds_in s ps) (map (param_under sd) ps)
params_are p q s sc sd t e [] f = tt
params_are p q s sc sd t e (a ∷ ps) f = (ap (λ (ts : List (List ℕ × PTy)). width_of (type_under ts a.0)) e ∙ type_width p s sc t q a.0 f.0, params_are p q s sc sd t e ps f.1)

-- ---- before the first declaration

core_has : (p : Parts) (sc : meaning.Scope) (x : List ℕ) → sc.constants ≡ [] → IsOuter sc → HasIt p sc x (core_name x)
core_has p sc x e o =
    if_has (same_text x (codes "standard_metadata_t")) _ _ tt
    (if_has (same_text x (codes "packet_in")) _ _ tt
    (if_has (same_text x (codes "packet_out")) _ _ tt
    (no_action (same_text x (codes "NoAction")) _ refl
    (if_has (same_text x (codes "mark_to_drop")) _ _ tt
    (if_has (same_text x (codes "digest")) _ _ tt
    (if_has (same_text x (codes "verify_checksum")) _ _ tt
    (if_has (same_text x (codes "update_checksum")) _ _ tt
    (if_has (same_text x (codes "HashAlgorithm")) _ _ tt (outer_constant sc o x ∙ ap (λ (cs : List (List ℕ × Word)). constant_named cs x) e)))))))))
  where
    if_has : (b : Bool) (u v : Stands) → HasIt p sc x u → HasIt p sc x v → HasIt p sc x (cond b u v)
    if_has true u v h k = h
    if_has false u v h k = k

    no_action : (b : Bool) (v : Stands) → same_text x (codes "NoAction") ≡ b → HasIt p sc x v → HasIt p sc x (cond b (act [] 0) v)
    no_action true v i k = inl (text_is x (codes "NoAction") i, refl)
    no_action false v i k = k

pub core_tied : (p : Parts) (sc : meaning.Scope) → sc.constants ≡ [] → IsOuter sc → IsTied p core sc
unfolding core
core_tied p sc e o = record { names = λ x. core_has p sc x e o }

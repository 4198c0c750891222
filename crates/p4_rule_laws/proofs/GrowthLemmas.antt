-- What is made of a fine program by growth is fine: the program's own parts have the tests that they had, part by part.
use Rattle.std.proofs.Common.{◌≡◌, ℕ, List, true, sym, subst, not, Bool, false, cond, ap, ◌∙◌, refl, [], ◌∷◌, ◌++◌, Some}
use Rattle.std.proofs.lemmas.Slice.Eq.{bytes_eq-Decides}
use Rattle.lex_text.specs.Names.{same_text}
use Rattle.rule_tests.specs.Tests.{IsFine}
use Rattle.p4_tree.specs.Tree.{Stmts, ParserState, Action, Local, local_action, Control, Parser, Top, struct_type, parser, control, constant, typedef, header_type, register, Expr, local_var}
use Rattle.p4_tree.specs.declared.statement.PTy.{PTy}
use Rattle.p4_tree.specs.declared.program.Param.{Param}
use Rattle.p4_scopes.specs.Uses.{is_scalar}
use Rattle.p4_scopes.specs.Scopes.{Scope, action, part, declare, typed, other, is_missing, What, alias, value, behind, field_at, fields_bits, thing_in, fields, kind_in}
use Rattle.p4_scopes.specs.Scopes as scope
use Rattle.p4_scopes.specs.declared.thing.Thing.{Thing}
use Rattle.p4_scopes.specs.declared.thing.Access.TheVariants.{Constant, Writable}
use Rattle.p4_scopes.specs.declared.thing.Thing.TheVariants.{Struct, Header}
use Rattle.p4_statement_rules.specs.Statements.{var_tests, block_tests}
use Rattle.p4_statement_rules.specs.declared.rule.Part.{Part}
use Rattle.p4_declaration_rules.specs.Digests.{most_of}
use Rattle.p4_declaration_rules.specs.Declarations.{action_tests, params_tests, with_params}
use Rattle.p4_declaration_rules.specs.Parsers.{way_access, with_ways, ways_tests, before_states, parser_tests}
use Rattle.p4_declaration_rules.specs.Controls.{action_part, local_tests, after_local, locals_tests, after_locals, in_control, control_tests, top_tests, after_top, tops_tests, after_tops}
use Rattle.p4_declaration_rules.specs.Firsts.{top_name}
use Rattle.p4_rule_laws.specs.Old.{Names, OldPath, Alike, OldFields, OldType, OldExpr, OldStmts}
use Rattle.p4_rule_laws.specs.OldPrograms.{OldWays, OldTop}
use Rattle.p4_rule_laws.specs.Kept.{Keeps}
use Rattle.p4_rule_laws.specs.Replaced.{Replaces, BlockReplaced}
use Rattle.p4_rule_laws.specs.Growth.{More, with_more, MoreIsNew, MoreFits, Sees, ParamsGrow, no_param, same_param, other_type, BodyGrows, ActionGrows, with_body, LocalGrows, LocalsGrow, no_local, same_local, new_local, other_local, StatesGrow, is_struct_type, parser_with, control_with, TopsGrow, no_top, same_top, new_top, wider_struct, other_states, other_control}
use Rattle.p4_rule_laws.proofs.AlikeScopes.{declare_alike, skip_alike}
use Rattle.p4_rule_laws.proofs.AlikeExprs.{new_alike}
use Rattle.p4_rule_laws.proofs.AlikeStmts.{var_alike, block_alike, most_alike}
use Rattle.p4_rule_laws.proofs.AlikePrograms.{params_alike, with_params_alike, local_alike, after_local_alike, ways_alike, with_ends_alike, top_alike, after_top_alike}
use Rattle.p4_rule_laws.proofs.KeepsLemmas.{keeps_self, keeps_trans, declare_keeps, declared, undeclared, with_params_keeps, skip_local, after_local_keeps, after_locals_keeps, after_top_keeps}
use Rattle.p4_rule_laws.proofs.WiderLemmas.{wider_alike, new_is_other}
use Rattle.p4_rule_laws.proofs.ReplacedLemmas.{block_replaced, most_replaced}
use Rattle.p4_rule_laws.proofs.FieldsGrow.{struct_grows, more_fields}

-- ---- local declarations

action_grows : (old : Names) (h : Part) (s t : Scope) → Alike old s t → (a : Action) (c : Stmts) → old a.name ≡ true → OldFields old a.params → ActionGrows old h s t a c → IsFine (action_tests h s a) → IsFine (action_tests h t (with_body a c))
action_grows old h s t w a c o u g f =
    let k = subst IsFine (params_alike old s t w a.at a.params u) f.1.0 in
    (subst IsFine (new_alike old s t w a.at a.name o) f.0, (k, g.fine (with_params_alike old s t w a.params u) k f.1.1))

pub action_in_place :
    (old : Names) (h : Part) (v s t : Scope) (p : ℕ) (a : Action) (c : Stmts) → old a.name ≡ true → OldFields old a.params → (Keeps v t → ActionGrows old (action_part h) s t a c)
    → (Keeps v t → Alike old s t → IsFine (action_tests (action_part h) s a) → most_of t c ≡ most_of s a.body) → LocalGrows old h v s t (local_action p a) (local_action p (with_body a c))
action_in_place old h v s t p a c o u g d = record { fine = λ k w f. (f.0, action_grows old (action_part h) s t w a c o u (g k) f.1); alike = after }
  where
    after : Keeps v t → Alike old s t → IsFine (local_tests h s (local_action p a)) → Alike old (after_local s (local_action p a)) (after_local t (local_action p (with_body a c)))
    after k w f =
        let P : ℕ → Type 0 = λ m. Alike old (declare s a.name (action a.params (most_of s a.body))) (declare t a.name (action a.params m)) in
        subst P (sym (d k w f.1)) (declare_alike old s t w a.name (action a.params (most_of s a.body)) u)

-- an action with other expressions
pub action_replaced :
    (old : Names) (h : Part) (v s t : Scope) (p : ℕ) (a : Action) (c : Stmts) → old a.name ≡ true → OldFields old a.params → OldStmts old a.body → (Keeps v (with_params t a.params) → BlockReplaced (with_params t a.params) a.body c)
    → LocalGrows old h v s t (local_action p a) (local_action p (with_body a c))
action_replaced old h v s t p a c o u b r = action_in_place old h v s t p a c o u (λ k. record { fine = λ w e f. block_replaced (at k e) (action_part h) (own w f) }) digests
  where
    at : Keeps v t → IsFine (params_tests a.at t a.params) → BlockReplaced (with_params t a.params) a.body c
    at k e = r (keeps_trans v t (with_params t a.params) k (with_params_keeps a.at t a.params e))

    own : Alike old (with_params s a.params) (with_params t a.params) → IsFine (block_tests (action_part h) (with_params s a.params) a.body) → IsFine (block_tests (action_part h) (with_params t a.params) a.body)
    own w f = subst IsFine (block_alike old (with_params s a.params) (with_params t a.params) w (action_part h) a.body b) f

    digests : Keeps v t → Alike old s t → IsFine (action_tests (action_part h) s a) → most_of t c ≡ most_of s a.body
    digests k w f = most_replaced (at k (subst IsFine (params_alike old s t w a.at a.params u) f.1.0)) (action_part h) t (own (with_params_alike old s t w a.params u) f.1.1) ∙ sym (most_alike old s t w a.body b)

-- a variable with another first value
pub value_replaced :
    (old : Names) (h : Part) (v s t : Scope) (p : ℕ) (y : PTy) (x : List ℕ) (e f : Expr) → OldType old y → old x ≡ true → OldExpr old e → (Keeps v t → Replaces t e f)
    → LocalGrows old h v s t (local_var p y x (Some e)) (local_var p y x (Some f))
value_replaced old h v s t p y x e f o u b r = record { fine = λ k w g. (g.0, start k w g.1); alike = λ k w g. declare_alike old s t w x (value Writable y) o }
  where
    start : Keeps v t → Alike old s t → IsFine (var_tests p s y x (Some e)) → IsFine (var_tests p t y x (Some f))
    start k w g = let n = subst IsFine (var_alike old s t w p y x (Some e) o u b) g in (n.0, (n.1.0, ((r k).wherever (kind_in t y) n.1.1).fine))

pub locals_grow : {old : Names} {h : Part} {v s t : Scope} {ls ms : List Local} → LocalsGrow old h v s t ls ms → Keeps v t → Alike old s t → IsFine (locals_tests h s ls) → IsFine (locals_tests h t ms) × Alike old (after_locals s ls) (after_locals t ms)
locals_grow no_local n w f = (tt, w)
locals_grow {old = old} {h = h} {v = v} (same_local {s = s} {t = t} l o g) n w f =
    let e = subst IsFine (local_alike old s t w h l o) f.0 in
    let r = locals_grow g (keeps_trans v t (after_local t l) n (after_local_keeps h t l e)) (after_local_alike old s t w l o) f.1 in
    ((e, r.0), r.1)
locals_grow {old = old} {h = h} {v = v} (new_local {s = s} {t = t} m i j g) n w f =
    let r = locals_grow g (keeps_trans v t (after_local t m) n (after_local_keeps h t m (j n))) (skip_local old s t w m (i, tt)) f in
    ((j n, r.0), r.1)
locals_grow {old = old} {h = h} {v = v} (other_local {s = s} {t = t} l m i g) n w f =
    let e = i.fine n w f.0 in
    let r = locals_grow g (keeps_trans v t (after_local t m) n (after_local_keeps h t m e)) (i.alike n w f.0) f.1 in
    ((e, r.0), r.1)

-- ---- parameters

module _ (old : Names) (s t : Scope) (w : Alike old s t) where
  retyped_step : (b : Bool) (u v : What) (x : List ℕ) (xs : List (List ℕ)) → ((ys : List (List ℕ)) → OldPath old ys → behind s u ys ≡ behind t v ys) → OldPath old (x ∷ xs) → cond b (behind s u xs) (s (x ∷ xs)) ≡ cond b (behind t v xs) (t (x ∷ xs))
  retyped_step true u v x xs e o = e xs o.1
  retyped_step false u v x xs e o = w.same (x ∷ xs) o

  retyped_same : (n : List ℕ) (u v : What) → ((ys : List (List ℕ)) → OldPath old ys → behind s u ys ≡ behind t v ys) → (xs : List (List ℕ)) → OldPath old xs → declare s n u xs ≡ declare t n v xs
  unfolding declare
  retyped_same n u v e [] o = w.same [] o
  retyped_same n u v e (x ∷ xs) o = retyped_step (same_text n x) u v x xs e o

  -- what is declared stands for the same
  retyped_alike : (n : List ℕ) (u v : What) → ((ys : List (List ℕ)) → OldPath old ys → behind s u ys ≡ behind t v ys) → Alike old (declare s n u) (declare t n v)
  retyped_alike n u v e = record { same = retyped_same n u v e }

pub params_grow : {old : Names} {s t : Scope} {qs rs : List Param} → ParamsGrow old s t qs rs → Alike old s t → IsFine (ways_tests s qs) → IsFine (ways_tests t rs) × Alike old (with_ways s qs) (with_ways t rs)
params_grow no_param w f = (tt, w)
params_grow {old = old} (same_param {s = s} {t = t} q o n g) w f =
    let e = subst IsFine (ways_alike old s t w (q ∷ []) (o, n, tt)) (f.0, tt) in
    let r = params_grow g (declare_alike old s t w q.name (value (way_access q.way) q.ty) o) f.1 in
    ((e.0, r.0), r.1)
params_grow {old = old} (other_type {s = s} {t = t} q z n k g) w f =
    let r = params_grow g (retyped_alike old s t w q.name (value (way_access q.way) q.ty) (value (way_access q.way) z) (k.alike w)) f.1 in
    (((subst IsFine (new_alike old s t w q.at q.name n) f.0.0, k.fine w f.0.1), r.0), r.1)

pub same_params : (old : Names) (s t : Scope) (qs : List Param) → OldWays old qs → ParamsGrow old s t qs qs
same_params old s t [] o = no_param
same_params old s t (q ∷ qs) o = same_param q o.0 o.1 (same_params old (declare s q.name (value (way_access q.way) q.ty)) (declare t q.name (value (way_access q.way) q.ty)) qs o.2)

-- ---- parsers and controls

pub parser_grows :
    (old : Names) (s t : Scope) (d : Parser) (rs : List Param) (tts : List ParserState) → old d.name ≡ true → ParamsGrow old s t d.params rs
    → (IsFine (ways_tests t rs) → StatesGrow old (before_states s d) (before_states t (parser_with d rs tts)) d.states tts) → Alike old s t → IsFine (parser_tests s d) → IsFine (parser_tests t (parser_with d rs tts))
parser_grows old s t d rs tts o u i w f =
    let p = params_grow u w f.1.0 in
    let v = with_ends_alike old (with_ways s d.params) (with_ways t rs) p.1 in
    let g = i p.0 in (
      subst IsFine (new_alike old s t w d.at d.name o) f.0,
      (p.0, (g.names v f.1.1.0, (g.start d.at v f.1.1.1.0, g.states v f.1.1.0 f.1.1.1.1))),
    )

pub control_grows :
    (old : Names) (h : Part) (s t : Scope) (c : Control) (rs : List Param) (ms : List Local) (b : Stmts) → old c.name ≡ true → ParamsGrow old s t c.params rs
    → LocalsGrow old h (with_ways t rs) (with_ways s c.params) (with_ways t rs) c.locals ms
    → (Keeps (with_ways t rs) (in_control t (control_with c rs ms b)) → BodyGrows old h (in_control s c) (in_control t (control_with c rs ms b)) c.apply b)
    → Alike old s t → IsFine (control_tests h s c) → IsFine (control_tests h t (control_with c rs ms b))
control_grows old h s t c rs ms b o u l g w f =
    let p = params_grow u w f.1.0 in
    let j = locals_grow l (keeps_self (with_ways t rs)) p.1 f.1.1.0 in
    let y = g (after_locals_keeps h (with_ways t rs) ms j.0) in (
      subst IsFine (new_alike old s t w c.at c.name o) f.0,
      (p.0, (j.0, (y.fine j.1 f.1.1.1.0, y.once j.1 f.1.1.1.1))),
    )

-- ---- programs

not_struct : {A : Type 0} (k : Thing) → is_scalar k ≡ true → typed false k ≡ typed false Struct → A
not_struct k i e = let same : k ≡ Struct = cc in absurd (let c : false ≡ true = ap is_scalar (sym same) ∙ i in cc)

scalar_is : (b : Bool) → not b ≡ false → b ≡ true
scalar_is true e = refl
scalar_is false e = let c : true ≡ false = e in absurd (cc)

-- what a declaration declares
abbrev top_what : Scope → Top → What
top_what s (constant p t n x) = value Constant t
top_what s (typedef p t n) = alias t
top_what s (header_type p n fs) = fields (Header (fields_bits s fs)) fs
top_what s (struct_type p n fs) = fields Struct fs
top_what s (register p r) = scope.register r.ty
top_what s (parser p d) = part
top_what s (control p c) = part

-- a fine declaration that is no struct's declares no struct
no_struct : {A : Type 0} (main : List (List ℕ)) (s : Scope) (y : Top) → is_struct_type y ≡ false → IsFine (top_tests main s y) → behind s (top_what s y) [] ≡ typed false Struct → A
no_struct main s (struct_type p n fs) i f e = absurd (let c : true ≡ false = i in cc)
no_struct main s (constant p t n x) i f e = absurd (cc)
no_struct main s (typedef p t n) i f e = not_struct (thing_in s t) (scalar_is (is_scalar (thing_in s t)) f.1.1) e
no_struct main s (header_type p n fs) i f e = absurd (cc)
no_struct main s (register p r) i f e = absurd (cc)
no_struct main s (parser p d) i f e = absurd (cc)
no_struct main s (control p c) i f e = absurd (cc)

-- behind a declaration of an old name, which is no struct, in both
module _ (old : Names) (more : List ℕ → More) (u s t : Scope) (w : Sees old more u s t) where
  sees_old : (n : List ℕ) (a b : What) → Alike old (declare s n a) (declare t n b) → Keeps t (declare t n b) → (behind s a [] ≡ typed false Struct → (y : List ℕ) (xs : List (List ℕ)) → old y ≡ false → behind t b (y ∷ xs) ≡ field_at u ((more n).front ++ (more n).back) y xs) → Sees old more u (declare s n a) (declare t n b)
  sees_old n a b v k own = record { alike = v; front = keeps_trans u t (declare t n b) w.front k; wider = λ x o e y xs i. by x o e y xs i (same_text n x) refl }
    where
      by : (x : List ℕ) → old x ≡ true → declare s n a (x ∷ []) ≡ typed false Struct → (y : List ℕ) (xs : List (List ℕ)) → old y ≡ false → (b' : Bool) → same_text n x ≡ b' → declare t n b (x ∷ y ∷ xs) ≡ field_at u ((more x).front ++ (more x).back) y xs
      by x o e y xs i true f =
          let same : n ≡ x = (bytes_eq-Decides n x).0 f in
          let P : List ℕ → Type 0 = λ z. declare s n a (z ∷ []) ≡ typed false Struct → declare t n b (z ∷ y ∷ xs) ≡ field_at u ((more z).front ++ (more z).back) y xs in
          subst P same (λ h. declared t n b (y ∷ xs) ∙ own (sym (declared s n a []) ∙ h) y xs i) e
      by x o e y xs i false f = undeclared t n b x (y ∷ xs) f ∙ w.wider x o (sym (undeclared s n a x [] f) ∙ e) y xs i

  sees_new : (n : List ℕ) (b : What) → old n ≡ false → Keeps t (declare t n b) → Sees old more u s (declare t n b)
  sees_new n b i k =
      record {
        alike = skip_alike old s t w.alike n b i;
        front = keeps_trans u t (declare t n b) w.front k;
        wider = λ x o e y xs j. undeclared t n b x (y ∷ xs) (new_is_other old n x i o) ∙ w.wider x o e y xs j;
      }

  sees_same : (main : List (List ℕ)) (y : Top) → is_struct_type y ≡ false → OldTop old y → IsFine (top_tests main s y) → IsFine (top_tests main t y) → Sees old more u (after_top s y) (after_top t y)
  sees_same main (constant p ty n x) i o f e = sees_old n (value Constant ty) (value Constant ty) (after_top_alike old s t w.alike (constant p ty n x) o) (after_top_keeps main t (constant p ty n x) e) (λ h. no_struct main s (constant p ty n x) i f h)
  sees_same main (typedef p ty n) i o f e = sees_old n (alias ty) (alias ty) (after_top_alike old s t w.alike (typedef p ty n) o) (after_top_keeps main t (typedef p ty n) e) (λ h. no_struct main s (typedef p ty n) i f h)
  sees_same main (header_type p n fs) i o f e = sees_old n (fields (Header (fields_bits s fs)) fs) (fields (Header (fields_bits t fs)) fs) (after_top_alike old s t w.alike (header_type p n fs) o) (after_top_keeps main t (header_type p n fs) e) (λ h. no_struct main s (header_type p n fs) i f h)
  sees_same main (struct_type p n fs) i o f e = absurd (let c : true ≡ false = i in cc)
  sees_same main (register p r) i o f e = sees_old r.name (scope.register r.ty) (scope.register r.ty) (after_top_alike old s t w.alike (register p r) o) (after_top_keeps main t (register p r) e) (λ h. no_struct main s (register p r) i f h)
  sees_same main (parser p d) i o f e = sees_old d.name part part (after_top_alike old s t w.alike (parser p d) o) (after_top_keeps main t (parser p d) e) (λ h. no_struct main s (parser p d) i f h)
  sees_same main (control p c) i o f e = sees_old c.name part part (after_top_alike old s t w.alike (control p c) o) (after_top_keeps main t (control p c) e) (λ h. no_struct main s (control p c) i f h)

  sees_added : (main : List (List ℕ)) (z : Top) → old (top_name z) ≡ false → IsFine (top_tests main t z) → Sees old more u s (after_top t z)
  sees_added main (constant p ty n x) i e = sees_new n (value Constant ty) i (after_top_keeps main t (constant p ty n x) e)
  sees_added main (typedef p ty n) i e = sees_new n (alias ty) i (after_top_keeps main t (typedef p ty n) e)
  sees_added main (header_type p n fs) i e = sees_new n (fields (Header (fields_bits t fs)) fs) i (after_top_keeps main t (header_type p n fs) e)
  sees_added main (struct_type p n fs) i e = sees_new n (fields Struct fs) i (after_top_keeps main t (struct_type p n fs) e)
  sees_added main (register p r) i e = sees_new r.name (scope.register r.ty) i (after_top_keeps main t (register p r) e)
  sees_added main (parser p d) i e = sees_new d.name part i (after_top_keeps main t (parser p d) e)
  sees_added main (control p c) i e = sees_new c.name part i (after_top_keeps main t (control p c) e)

  sees_wider : (main : List (List ℕ)) (p : ℕ) (n : List ℕ) (fs : List (PTy × List ℕ)) → OldFields old fs → MoreIsNew old (more n) → MoreFits p u (more n) → IsFine (top_tests main t (struct_type p n (with_more (more n) fs))) → Sees old more u (after_top s (struct_type p n fs)) (after_top t (struct_type p n (with_more (more n) fs)))
  sees_wider main p n fs o i j e =
      sees_old n (fields Struct fs) (fields Struct (with_more (more n) fs)) (wider_alike old s t w.alike (more n).front (more n).back i.front i.back n Struct fs o) (after_top_keeps main t (struct_type p n (with_more (more n) fs)) e)
      (λ h y xs k. more_fields old u t w.front p (more n) j fs o y xs k)

  sees_part : (n : List ℕ) → not (is_missing (t (n ∷ []))) ≡ false → Sees old more u (declare s n part) (declare t n part)
  sees_part n f = sees_old n part part (declare_alike old s t w.alike n part tt) (declare_keeps t n part f) (λ h. absurd (let c : other ≡ typed false Struct = h in cc))

pub tops_grow : {old : Names} {more : List ℕ → More} {change : Bool} {main : List (List ℕ)} {u s t : Scope} {ys zs : List Top} → TopsGrow old more change main u s t ys zs → Sees old more u s t → IsFine (tops_tests main s ys) → IsFine (tops_tests main t zs) × Sees old more u (after_tops s ys) (after_tops t zs)
tops_grow no_top w f = (tt, w)
tops_grow {old = old} {more = more} {main = main} {u = u} (same_top {s = s} {t = t} y i o g) w f =
    let e = subst IsFine (top_alike old s t w.alike main y o) f.0 in
    let r = tops_grow g (sees_same old more u s t w main y i o f.0 e) f.1 in
    ((e, r.0), r.1)
tops_grow {old = old} {more = more} {main = main} {u = u} (new_top {s = s} {t = t} z i j l g) w f =
    let r = tops_grow g (sees_added old more u s t w main z j (l w)) f in
    ((l w, r.0), r.1)
tops_grow {old = old} {more = more} {main = main} {u = u} (wider_struct {s = s} {t = t} p x fs ox o i j g) w f =
    let e : IsFine (top_tests main t (struct_type p x (with_more (more x) fs))) = struct_grows old s t w.alike p x fs (more x) ox o u w.front i j f.0 in
    let r = tops_grow g (sees_wider old more u s t w main p x fs o i j e) f.1 in
    ((e, r.0), r.1)
tops_grow {old = old} {more = more} {u = u} (other_states {s = s} {t = t} p d rs tts m o b g) w f =
    let e = b w f.0 in
    let r = tops_grow g (sees_part old more u s t w d.name e.0) f.1 in
    ((e, r.0), r.1)
tops_grow {old = old} {more = more} {u = u} (other_control {s = s} {t = t} p c rs ms b m i g) w f =
    let e = i w f.0 in
    let r = tops_grow g (sees_part old more u s t w c.name e.0) f.1 in
    ((e, r.0), r.1)

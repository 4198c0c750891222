-- The deparser of a well-typed program emits headers below its parameter for headers alone, each once.
use Rattle.std.proofs.Common.{◌≡◌, ◌⊎◌, inl, inr, ℕ, List, [], ◌∷◌, ◌++◌, map, Bool, true, false, cond, ◌||◌, codes, Option, Some, None, refl, sym, ap, ◌∙◌, subst}
use Rattle.bit_values.specs.Bits.{Word}
use Rattle.lex_text.specs.Names.{same_text, same_path}
use Rattle.rule_tests.specs.Tests.{IsFine}
use Rattle.p4_tree.specs.Tree.{num, flag, path, valid, applied, error_name, negation, inversion, opposite, binary, conditional, slice, cast, Arg, one, many, Stmts, nothing, block, var, assign, choice, return_, exit_, call, done, next, Local, Control}
use Rattle.p4_tree.specs.declared.statement.PTy.{PTy}
use Rattle.p4_tree.specs.declared.statement.PTy.TheVariants as type
use Rattle.p4_tree.specs.declared.program.Param.{Param}
use Rattle.p4_meaning.specs.Scope as meaning
use Rattle.p4_meaning.specs.Scope.{first_name, path_under, constant_at}
use Rattle.p4_meaning.specs.Under.{constant_or_path, stmts_under, arg_under}
use Rattle.p4_meaning.specs.Parts.{emitted, emits_of}
use Rattle.p4_scopes.specs.Scopes.{Stands, is_missing, typed_thing, as_typed, as_held, type_at, thing_in, Scope, What, value, behind, declare, core}
use Rattle.p4_scopes.specs.Uses.{is_header, holds_header}
use Rattle.p4_scopes.specs.declared.thing.Access.{Access}
use Rattle.p4_statement_rules.specs.Forms.{Form, unknown, ill, drops, digests, sums, extracts, emits, applies, reads_cell, writes_cell, makes_valid, acts, form_of, takes_call}
use Rattle.p4_statement_rules.specs.Calls.{form_tests}
use Rattle.p4_statement_rules.specs.Statements.{stands_tests, block_tests}
use Rattle.p4_statement_rules.specs.declared.rule.Part.TheVariants as place
use Rattle.p4_declaration_rules.specs.Parsers.{way_access, with_ways}
use Rattle.p4_declaration_rules.specs.Controls.{locals_tests, after_locals, in_control, control_tests, form_emits, is_one_of, emit_tests, emitted_behind, emits_tests}
use Rattle.p4_rules.specs.Mains.{deparser_wants, Structs, wanted_tests}
use Rattle.p4_typing_laws.proofs.Fine.{twice_not, neither}
use Rattle.p4_typing_laws.proofs.CallCounts.{text_is}
use Rattle.p4_typing_laws.proofs.FullNames.{tail_same}
use Rattle.p4_typing_laws.proofs.KeptPlaces.{path_is, path_same}
use Rattle.passage_stores.proofs.DeclaredTypes.{broken}
use Rattle.passage_stores.proofs.BegunSights.{core_is, named_type}
use Rattle.passage_stores.proofs.SightFits.{and_parts}
use Rattle.slot_bounds.proofs.Emitted.{Once}
use Rattle.slot_bounds.proofs.Outer.{Outer}

-- ---- headers below one name

-- the path begins with the name
abbrev pub IsBelow : List ℕ → List (List ℕ) → Type 0
IsBelow x [] = ⊥
IsBelow x (y ∷ rest) = y ≡ x

-- all headers in sight are below one name
pub record HeadersBelow (s : Scope) (x : List ℕ) : Type 0 where
  pub below : (n : List (List ℕ)) → is_missing (s n) ≡ false → holds_header (s n) ≡ true → IsBelow x n

-- paths below one name differ where they do under a scope
under_apart : (sc : meaning.Scope) (x : List ℕ) (m n : List (List ℕ)) → IsBelow x m → IsBelow x n → path_under sc m ≡ path_under sc n → m ≡ n
under_apart sc x [] n h k e = absurd h
under_apart sc x (y ∷ ys) [] h k e = absurd k
under_apart sc x (y ∷ ys) (z ∷ zs) h k e = (let same : y ≡ z = h ∙ sym k in let rest = tail_same (first_name sc y) (first_name sc z) ys zs e in cc)

-- ---- what is emitted

module _ (s : Scope) (sc : meaning.Scope) (x : List ℕ) (headers : HeadersBelow s x) where
  -- a path under the scope of one below the name that is none of others
  record IsNew (before : List (List (List ℕ))) (e : List (List ℕ)) : Type 0 where
    written : List (List ℕ)
    is : path_under sc written ≡ e
    below : IsBelow x written
    apart : is_one_of before written ≡ false

  abbrev AreNew : List (List (List ℕ)) → List (List (List ℕ)) → Type 0
  AreNew before [] = Unit {0}
  AreNew before (e ∷ es) = IsNew before e × AreNew before es

  record IsEmitted (before es : List (List (List ℕ))) : Type 0 where
    new : AreNew before es
    once : Once es

  fewer : (n : List (List ℕ)) (before es : List (List (List ℕ))) → AreNew (n ∷ before) es → AreNew before es
  fewer n before [] h = tt
  fewer n before (e ∷ es) h =
      (let k = neither (same_path n h.0.written) (is_one_of before h.0.written) h.0.apart in
      (record { written = h.0.written; is = h.0.is; below = h.0.below; apart = k.1 }, fewer n before es h.1))

  -- what was emitted is not among what follows
  not_again : (n : List (List ℕ)) → IsBelow x n → (before es : List (List (List ℕ))) → AreNew (n ∷ before) es → is_one_of es (path_under sc n) ≡ false
  not_again n b before [] h = refl
  not_again n b before (e ∷ es) h = go (same_path e (path_under sc n)) refl (not_again n b before es h.1)
    where
      go : (c : Bool) → same_path e (path_under sc n) ≡ c → is_one_of es (path_under sc n) ≡ false → (c || is_one_of es (path_under sc n)) ≡ false
      go true i more =
          (let same = under_apart sc x h.0.written n h.0.below b (h.0.is ∙ path_is e (path_under sc n) i) in
          let k = neither (same_path n h.0.written) (is_one_of before h.0.written) h.0.apart in
          broken (sym (path_same n h.0.written (sym same)) ∙ k.0))
      go false i more = more

  -- a header in front, which may be written as a constant
  in_front : (n : List (List ℕ)) (q r : ℕ) (o : Option Word) → IsBelow x n → (before es : List (List (List ℕ))) → is_one_of before n ≡ false → IsEmitted (n ∷ before) es → IsEmitted before (emitted (one q (constant_or_path r o (path_under sc n)) ∷ []) ++ es)
  in_front n q r None b before es i more =
      record {
        new = (record { written = n; is = refl; below = b; apart = i }, fewer n before es more.new);
        once = (not_again n b before es more.new, more.once);
      }
  in_front n q r (Some w) b before es i more = record { new = fewer n before es more.new; once = more.once }

  -- a call of the deparser
  one_emitted : (p : ℕ) (form : Form) (args : List Arg) → IsFine (stands_tests p (takes_call place.Deparser form)) → IsFine (form_tests p s form args) → (before es : List (List (List ℕ))) → IsFine (emit_tests before p (form_emits form args))
      → IsEmitted (emitted_behind (form_emits form args) before) es → IsEmitted before (emitted (map (arg_under sc) args) ++ es)
  one_emitted p emits [] g f before es i more = broken f
  one_emitted p emits (a ∷ b ∷ rest) g f before es i more = broken f
  one_emitted p emits (many q ys ∷ []) g f before es i more = broken f
  one_emitted p emits (one q (path r n) ∷ []) g f before es i more = in_front n q r (constant_at sc n) (headers.below n f.0 (twice_not (holds_header (s n)) f.1)) before es i more
  one_emitted p emits (one q (num r n) ∷ []) g f before es i more = broken f
  one_emitted p emits (one q (flag r b) ∷ []) g f before es i more = broken f
  one_emitted p emits (one q (valid r n) ∷ []) g f before es i more = broken f
  one_emitted p emits (one q (applied r t b) ∷ []) g f before es i more = broken f
  one_emitted p emits (one q (error_name r n) ∷ []) g f before es i more = broken f
  one_emitted p emits (one q (negation r a) ∷ []) g f before es i more = broken f
  one_emitted p emits (one q (inversion r a) ∷ []) g f before es i more = broken f
  one_emitted p emits (one q (opposite r a) ∷ []) g f before es i more = broken f
  one_emitted p emits (one q (binary r op a b) ∷ []) g f before es i more = broken f
  one_emitted p emits (one q (conditional r c a b) ∷ []) g f before es i more = broken f
  one_emitted p emits (one q (slice r a hi lo) ∷ []) g f before es i more = broken f
  one_emitted p emits (one q (cast r t a) ∷ []) g f before es i more = broken f
  one_emitted p unknown args g f before es i more = broken g
  one_emitted p ill args g f before es i more = broken g
  one_emitted p drops args g f before es i more = broken g
  one_emitted p digests args g f before es i more = broken g
  one_emitted p (sums v) args g f before es i more = broken g
  one_emitted p extracts args g f before es i more = broken g
  one_emitted p applies args g f before es i more = broken g
  one_emitted p (reads_cell k) args g f before es i more = broken g
  one_emitted p (writes_cell k) args g f before es i more = broken g
  one_emitted p makes_valid args g f before es i more = broken g
  one_emitted p (acts ks) args g f before es i more = broken g

  all_emitted : (ss : Stmts) (before : List (List (List ℕ))) → IsFine (block_tests place.Deparser s ss) → IsFine (emits_tests s before ss) → IsEmitted before (emits_of (stmts_under sc ss))
  all_emitted done before f i = record { new = tt; once = tt }
  all_emitted (next (nothing p) ss) before f i = broken f.0
  all_emitted (next (block p b) ss) before f i = broken f.0.0
  all_emitted (next (var p t y e) ss) before f i = broken f.0.0
  all_emitted (next (assign p y e) ss) before f i = broken f.0.0
  all_emitted (next (choice p e a b) ss) before f i = broken f.0.0
  all_emitted (next (return_ p) ss) before f i = broken f.0
  all_emitted (next (exit_ p) ss) before f i = broken f.0
  all_emitted (next (call p y args) ss) before f i = one_emitted p (form_of s y) args f.0.0 f.0.1 before (emits_of (stmts_under sc ss)) i.0 (all_emitted ss (emitted_behind (form_emits (form_of s y) args) before) f.1 i.1)

  pub emitted_once : (ss : Stmts) → IsFine (block_tests place.Deparser s ss) → IsFine (emits_tests s [] ss) → Once (emits_of (stmts_under sc ss))
  emitted_once ss f i = (all_emitted ss [] f i).once

-- ---- the deparser's parameters

-- a path at which a header stands
record Holds (v : Stands) : Type 0 where
  there : is_missing v ≡ false
  header : holds_header v ≡ true

-- behind a declaration a header stands below its name, or it stood there before
record IsBehind (s : Scope) (n : List ℕ) (w : What) (x : List (List ℕ)) : Type 0 where
  rest : List (List ℕ)
  is : x ≡ n ∷ rest
  holds : Holds (behind s w rest)

peel : (s : Scope) (n : List ℕ) (w : What) (x : List (List ℕ)) → Holds (declare s n w x) → IsBehind s n w x ⊎ Holds (s x)
unfolding declare
peel s n w [] h = inr h
peel s n w (y ∷ ys) h = go (same_text n y) refl h
  where
    go : (b : Bool) → same_text n y ≡ b → Holds (cond b (behind s w ys) (s (y ∷ ys))) → IsBehind s n w (y ∷ ys) ⊎ Holds (s (y ∷ ys))
    go true e i = inl (record { rest = ys; is = ap (λ (z : List ℕ). z ∷ ys) (sym (text_is n y e)); holds = i })
    go false e i = inr i

-- what a deparser writes holds no header
packet_whole : (s : Scope) → Outer s → is_header (thing_in s (type.Named (codes "packet_out"))) ≡ false
packet_whole s o = ap (λ (v : Stands). is_header (typed_thing (as_typed v))) (o.core (codes "packet_out") [] refl ∙ core_is (codes "packet_out"))

packet_behind : (a : Access) (y : List ℕ) (rest : List (List ℕ)) → is_missing (as_held a (as_typed (core (codes "packet_out" ∷ y ∷ rest)))) ≡ true
unfolding core
packet_behind a y [] = refl
packet_behind a y (z ∷ zs) = refl

packet_none : (s : Scope) → Outer s → (a : Access) (t : PTy) → t ≡ type.Named (codes "packet_out") → (xs : List (List ℕ)) → Holds (behind s (value a t) xs) → ⊥
packet_none s o a t e [] h = broken (sym h.header ∙ ap (λ (u : PTy). is_header (thing_in s u)) e ∙ packet_whole s o)
packet_none s o a t e (y ∷ ys) h =
    broken (sym (ap (λ (u : PTy). is_missing (as_held a (type_at s u (y ∷ ys)))) e ∙ ap (λ (v : Stands). is_missing (as_held a (as_typed v))) (o.core (codes "packet_out") (y ∷ ys) refl) ∙ packet_behind a y ys) ∙ h.there)

-- what the parameters of the deparser say
pub record AreDeparserParams (s : Scope) (R : Structs) (qs : List Param) : Type 0 where
  pub name : List ℕ
  pub headers : HeadersBelow (with_ways s qs) name
  pub structs : R.has_headers ≡ true

module _ (s : Scope) (outer : Outer s) (R : Structs) (at : ℕ) where
  only_two : (k a : Param) → k.ty ≡ type.Named (codes "packet_out") → HeadersBelow (with_ways s (k ∷ a ∷ [])) a.name
  only_two k a e = record { below = λ n h j. first n (peel t a.name (value (way_access a.way) a.ty) n (record { there = h; header = j })) }
    where
      t : Scope
      t = declare s k.name (value (way_access k.way) k.ty)

      second : (n : List (List ℕ)) → IsBehind s k.name (value (way_access k.way) k.ty) n ⊎ Holds (s n) → IsBelow a.name n
      second n (inl b) = absurd (packet_none s outer (way_access k.way) k.ty e b.rest b.holds)
      second n (inr h) = broken (sym (outer.none n h.header) ∙ h.there)

      first : (n : List (List ℕ)) → IsBehind t a.name (value (way_access a.way) a.ty) n ⊎ Holds (t n) → IsBelow a.name n
      first n (inl b) = subst (IsBelow a.name) (sym b.is) refl
      first n (inr h) = second n (peel s k.name (value (way_access k.way) k.ty) n h)

  pub deparser_params : (qs : List Param) → IsFine (wanted_tests at R deparser_wants qs) → AreDeparserParams s R qs
  deparser_params [] w = broken w
  deparser_params (k ∷ []) w = broken w.1
  deparser_params (k ∷ a ∷ []) w =
      record {
        name = a.name;
        headers = only_two k a (named_type k.ty (codes "packet_out") (and_parts _ _ (twice_not _ w.0)).1);
        structs = (and_parts _ _ (and_parts _ _ (twice_not _ w.1.0)).1).1;
      }
  deparser_params (k ∷ a ∷ b ∷ rest) w = broken w.1.1.0

-- ---- a deparser

no_locals : (ls : List Local) (s : Scope) → IsFine (locals_tests place.Deparser s ls) → ls ≡ []
no_locals [] s f = refl
no_locals (l ∷ ls) s f = broken f.0.0

-- no path is emitted twice, whatever the scope of the meaning
pub deparser_once : (s : Scope) (c : Control) (x : List ℕ) → HeadersBelow (with_ways s c.params) x → IsFine (control_tests place.Deparser s c) → (sc : meaning.Scope) → Once (emits_of (stmts_under sc c.apply))
deparser_once s c x below f sc =
    (let same : in_control s c ≡ with_ways s c.params = ap (after_locals (with_ways s c.params)) (no_locals c.locals (with_ways s c.params) f.1.1.0) in
    emitted_once (in_control s c) sc x (subst (λ (t : Scope). HeadersBelow t x) (sym same) below) c.apply f.1.1.1.0 f.1.1.1.1)

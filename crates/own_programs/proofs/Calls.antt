-- Calls of a well-typed program are own: they make headers of the struct of headers valid, write where they may, and tell
-- no reports.
use Rattle.std.proofs.Common.{◌≡◌, ◌⊎◌, inl, inr, ℕ, List, [], ◌∷◌, map, Bool, true, false, cond, not, codes, Option, Some, None, refl, sym, ap, ◌∙◌, subst}
use Rattle.bit_values.specs.Bits.{Word}
use Rattle.lex_text.specs.Names.{same_text}
use Rattle.rule_tests.specs.Tests.{IsFine}
use Rattle.p4_tree.specs.Tree.{Expr, num, path, Arg, one, many}
use Rattle.p4_meaning.specs.Statements.{makes, drops, runs, applies, idle, read_of, write_of, digest_of, sum_of, values_in, act_named, act_on, act_on_header, act_of}
use Rattle.p4_meaning.specs.Scope as meaning
use Rattle.p4_meaning.specs.Scope.{is_among, full, full_name, first_name, path_under, constant_at}
use Rattle.p4_meaning.specs.Under.{constant_or_path, expr_under, arg_under, callee_under}
use Rattle.p4_scopes.specs.Scopes.{Stands, missing, typed, held, cells, act, rows, state, function, algorithm, other, is_missing, Scope, core_name, core}
use Rattle.p4_scopes.specs.Uses.{is_header, reads}
use Rattle.p4_scopes.specs.declared.kind.Kind.{Kind}
use Rattle.p4_scopes.specs.declared.thing.Thing.{Thing}
use Rattle.p4_scopes.specs.declared.thing.Thing.TheVariants.{Scalar, Header, Struct, Standard, PacketIn, PacketOut}
use Rattle.p4_statement_rules.specs.Forms.{plain_form, thing_form, verb_form, form_of}
use Rattle.p4_statement_rules.specs.Calls.{is_known, digest_tests, cell_read, field_arg, sum_tests, form_tests}
use Rattle.p4_rule_laws.specs.Old.{OldPath, OldExpr, OldExprs, OldArgs}
use Rattle.p4_typing_laws.proofs.Fine.{twice_not, neither}
use Rattle.p4_typing_laws.proofs.CallCounts.{text_is}
use Rattle.p4_typing_laws.proofs.FullNames.{full_has}
use Rattle.p4_typing_laws.specs.Plain.{has_point}
use Rattle.own_code.specs.Regions.{is_writable}
use Rattle.own_code.specs.Forwarding.{IsOwnAct}
use Rattle.own_programs.specs.OwnPrograms.{is_own, act_tells_report}
use Rattle.own_programs.proofs.Names.{broken, own_not, name_own, path_own, expr_own, exprs_own, values_own}
use Rattle.own_programs.proofs.Places.{is_held_header, IsPlace, header_own, target_own}

-- ---- functions of the architecture's own go by their names

-- a name without a point is no full name
plain_is : (sc : meaning.Scope) (x n : List ℕ) → has_point n ≡ false → full_name sc x ≡ n → x ≡ n
plain_is sc x n plain e = go (is_among sc.own x) e
  where
    go : (b : Bool) → cond b (full sc.control x) x ≡ n → x ≡ n
    go true k = broken (sym (full_has sc.control x) ∙ ap has_point k ∙ plain)
    go false k = k

core_is : (x : List ℕ) → core (x ∷ []) ≡ core_name x
unfolding core
core_is x = refl

module _ (s : Scope) (sc : meaning.Scope) (b : IsPlace s sc) where
  stands_there : (x : List ℕ) → is_missing (core_name x) ≡ false → s (x ∷ []) ≡ core_name x
  stands_there x h = b.keeps.kept x [] (ap is_missing (core_is x) ∙ h) ∙ core_is x

  -- ---- digests

  digest_own : (p : ℕ) (args : List Arg) → OldArgs is_own args → IsFine (digest_tests p s args) → act_tells_report (digest_of args) ≡ false → IsOwnAct (digest_of (map (arg_under sc) args))
  digest_own p (one q (num r n) ∷ many t es ∷ []) o f h = (h, exprs_own sc es o.1.0)
  digest_own p (one q (num r n) ∷ one t e ∷ []) o f h = broken f.1
  digest_own p (one q e ∷ a ∷ []) o f h = broken f.0
  digest_own p (many q es ∷ a ∷ []) o f h = broken f.0
  digest_own p _ o f h = broken f

  -- ---- checksums

  -- a field that is no constant
  field_own : (v : Bool) (p q r t u : ℕ) (c h : Expr) (es : List Expr) (x : List (List ℕ)) (w : Option Word) → OldExpr is_own c → OldExprs is_own es → OldPath is_own x → is_writable (path_under sc x) ≡ true
      → IsOwnAct (sum_of v (one p (expr_under sc c) ∷ many q (map (expr_under sc) es) ∷ one r (constant_or_path t w (path_under sc x)) ∷ one u h ∷ []))
  field_own v p q r t u c h es x None oc oe ox k = (expr_own sc c oc, exprs_own sc es oe, path_own sc x ox, k)
  field_own v p q r t u c h es x (Some w) oc oe ox k = tt

  field_written : (v : Bool) (r t : ℕ) (x : List (List ℕ)) → OldPath is_own x → IsFine (field_arg v s (one r (path t x))) → is_writable (path_under sc x) ≡ true
  field_written true r t x o f = target_own s sc b x o f.0.0 (twice_not _ (neither (not (reads (s x))) (is_known (s x)) f.0.1).0) (inr (f.1.0, f.1.1))
  field_written false r t x o f = target_own s sc b x o f.0.0 (twice_not _ f.0.1.0) (inl (twice_not _ f.0.1.1))

  sum_own : (p : ℕ) (v : Bool) (args : List Arg) → OldArgs is_own args → IsFine (sum_tests p v s args) → IsOwnAct (sum_of v (map (arg_under sc) args))
  sum_own i v (one p c ∷ many q es ∷ one r (path t x) ∷ one u h ∷ []) o f = field_own v p q r t u c (expr_under sc h) es x (constant_at sc x) o.0 o.1.0 o.1.1.0 (field_written v r t x o.1.1.0 f.1.1.0)
  sum_own i v (one p c ∷ many q es ∷ one r (path t x) ∷ many u hs ∷ []) o f = broken f.1.1.1
  sum_own i v (one p c ∷ many q es ∷ one r e ∷ h ∷ []) o f = broken f.1.1.0
  sum_own i v (one p c ∷ many q es ∷ many r xs ∷ h ∷ []) o f = broken f.1.1.0
  sum_own i v (one p c ∷ one q e ∷ x ∷ h ∷ []) o f = broken f.1.0
  sum_own i v (many p cs ∷ l ∷ x ∷ h ∷ []) o f = broken f.0
  sum_own i v _ o f = broken f

  -- ---- calls by one name

  -- a function's own name stands for it
  function_form : (p : ℕ) (x n : List ℕ) (args : List Arg) → has_point n ≡ false → is_missing (core_name n) ≡ false → same_text (full_name sc x) n ≡ true → IsFine (form_tests p s (plain_form (s (x ∷ []))) args) → (x ≡ n) × IsFine (form_tests p s (plain_form (core_name n)) args)
  function_form p x n args plain there e f =
      (let same = plain_is sc x n plain (text_is (full_name sc x) n e) in
      (same, subst (λ (st : Stands). IsFine (form_tests p s (plain_form st) args)) (ap (λ (y : List ℕ). s (y ∷ [])) same ∙ stands_there n there) f))

  named_own : (p : ℕ) (x : List ℕ) (args : List Arg) → is_own x ≡ true → OldArgs is_own args → IsFine (form_tests p s (plain_form (s (x ∷ []))) args) → act_tells_report (act_of (x ∷ []) args) ≡ false → IsOwnAct (act_named (full_name sc x) (map (arg_under sc) args))
  named_own p x args ox o f h = go (same_text (full_name sc x) (codes "mark_to_drop")) (same_text (full_name sc x) (codes "digest")) (same_text (full_name sc x) (codes "verify_checksum")) (same_text (full_name sc x) (codes "update_checksum")) refl refl refl
    where
      go : (i j k l : Bool) → same_text (full_name sc x) (codes "digest") ≡ j → same_text (full_name sc x) (codes "verify_checksum") ≡ k → same_text (full_name sc x) (codes "update_checksum") ≡ l
          → IsOwnAct (cond i drops (cond j (digest_of (map (arg_under sc) args)) (cond k (sum_of true (map (arg_under sc) args)) (cond l (sum_of false (map (arg_under sc) args)) (runs (full_name sc x) (values_in (map (arg_under sc) args)))))))
      go true j k l ej ek el = tt
      go false true k l ej ek el = (let is = function_form p x (codes "digest") args refl refl ej f in digest_own p args o is.1 (subst (λ (y : List ℕ). act_tells_report (act_of (y ∷ []) args) ≡ false) is.0 h))
      go false false true l ej ek el = sum_own p true args o (function_form p x (codes "verify_checksum") args refl refl ek f).1
      go false false false true ej ek el = sum_own p false args o (function_form p x (codes "update_checksum") args refl refl el f).1
      go false false false false ej ek el = (own_not (full_name sc x) (name_own sc x ox), values_own sc args o)

  -- ---- calls on registers and tables

  target_reads : (p q r : ℕ) (y : List ℕ) (x : List (List ℕ)) (w : Option Word) (i : Expr) → is_own y ≡ true → OldPath is_own x → is_writable (path_under sc x) ≡ true → OldExpr is_own i → IsOwnAct (read_of y (one p (constant_or_path q w (path_under sc x)) ∷ one r (expr_under sc i) ∷ []))
  target_reads p q r y x None i oy ox k oi = (own_not y oy, path_own sc x ox, k, expr_own sc i oi)
  target_reads p q r y x (Some w) i oy ox k oi = tt

  read_own : (p : ℕ) (k : Kind) (y : List ℕ) (args : List Arg) → is_own y ≡ true → OldArgs is_own args → IsFine (cell_read p s k args) → IsOwnAct (read_of y (map (arg_under sc) args))
  read_own p k y (one q (path t x) ∷ one r i ∷ []) oy o f = target_reads q t r y x (constant_at sc x) i oy o.0 (target_own s sc b x o.0 f.0.0.0 (twice_not _ f.0.0.1.0) (inl (twice_not _ f.0.0.1.1))) o.1.0
  read_own p k y (one q (path t x) ∷ many r is ∷ []) oy o f = broken f.1
  read_own p k y (one q e ∷ i ∷ []) oy o f = broken f.0
  read_own p k y (many q es ∷ i ∷ []) oy o f = broken f.0
  read_own p k y _ oy o f = broken f

  thing_reads : (p : ℕ) (t : Thing) (args : List Arg) → IsFine (form_tests p s (thing_form t (codes "read")) args) → ⊥
  thing_reads p (Scalar k) args f = broken f
  thing_reads p (Header n) args f = broken f
  thing_reads p Struct args f = broken f
  thing_reads p Standard args f = broken f
  thing_reads p PacketIn args f = broken f
  thing_reads p PacketOut args f = broken f

  reads_own : (p : ℕ) (st : Stands) (y : List ℕ) (args : List Arg) → is_own y ≡ true → OldArgs is_own args → IsFine (form_tests p s (verb_form st (codes "read")) args) → IsOwnAct (read_of y (map (arg_under sc) args))
  reads_own p (cells k) y args oy o f = read_own p k y args oy o f
  reads_own p (held a t) y args oy o f = absurd (thing_reads p t args f)
  reads_own p missing y args oy o f = broken f
  reads_own p (typed g t) y args oy o f = broken f
  reads_own p (act ks m) y args oy o f = broken f
  reads_own p (rows m) y args oy o f = broken f
  reads_own p state y args oy o f = broken f
  reads_own p (function g) y args oy o f = broken f
  reads_own p algorithm y args oy o f = broken f
  reads_own p other y args oy o f = broken f

  write_own : (y : List ℕ) (args : List Arg) → is_own y ≡ true → OldArgs is_own args → IsOwnAct (write_of y (map (arg_under sc) args))
  write_own y (one p i ∷ one q v ∷ []) oy o = (own_not y oy, expr_own sc i o.0, expr_own sc v o.1.0)
  write_own y [] oy o = tt
  write_own y (one p i ∷ []) oy o = tt
  write_own y (many p i ∷ []) oy o = tt
  write_own y (one p i ∷ many q vs ∷ []) oy o = tt
  write_own y (many p is ∷ v ∷ []) oy o = tt
  write_own y (one p i ∷ one q v ∷ a ∷ args) oy o = tt
  write_own y (one p i ∷ many q v ∷ a ∷ args) oy o = tt
  write_own y (many p i ∷ v ∷ a ∷ args) oy o = tt

  on_own : (p : ℕ) (x verb : List ℕ) (args : List Arg) → is_own x ≡ true → OldArgs is_own args → IsFine (form_tests p s (verb_form (s (x ∷ [])) verb) args) → IsOwnAct (act_on (full_name sc x) verb (map (arg_under sc) args))
  on_own p x verb args ox o f = go (same_text verb (codes "read")) (same_text verb (codes "write")) (same_text verb (codes "apply")) refl
    where
      go : (i j k : Bool) → same_text verb (codes "read") ≡ i → IsOwnAct (cond i (read_of (full_name sc x) (map (arg_under sc) args)) (cond j (write_of (full_name sc x) (map (arg_under sc) args)) (cond k (applies (full_name sc x)) idle)))
      go true j k e = reads_own p (s (x ∷ [])) (full_name sc x) args (name_own sc x ox) o (subst (λ (v : List ℕ). IsFine (form_tests p s (verb_form (s (x ∷ [])) v) args)) (text_is verb (codes "read") e) f)
      go false true k e = write_own (full_name sc x) args (name_own sc x ox) o
      go false false true e = own_not (full_name sc x) (name_own sc x ox)
      go false false false e = tt

  -- ---- calls on headers

  -- what makes a header valid or invalid is called on a header
  valid_thing : (p : ℕ) (t : Thing) (v : List ℕ) (args : List Arg) → (v ≡ codes "setValid") ⊎ (v ≡ codes "setInvalid") → IsFine (form_tests p s (thing_form t v) args) → is_header t ≡ true
  valid_thing p (Header n) v args e f = refl
  valid_thing p PacketIn v args (inl e) f = broken (subst (λ (w : List ℕ). IsFine (form_tests p s (thing_form PacketIn w) args)) e f)
  valid_thing p PacketIn v args (inr e) f = broken (subst (λ (w : List ℕ). IsFine (form_tests p s (thing_form PacketIn w) args)) e f)
  valid_thing p PacketOut v args (inl e) f = broken (subst (λ (w : List ℕ). IsFine (form_tests p s (thing_form PacketOut w) args)) e f)
  valid_thing p PacketOut v args (inr e) f = broken (subst (λ (w : List ℕ). IsFine (form_tests p s (thing_form PacketOut w) args)) e f)
  valid_thing p (Scalar k) v args e f = broken f
  valid_thing p Struct v args e f = broken f
  valid_thing p Standard v args e f = broken f

  valid_held : (p : ℕ) (st : Stands) (v : List ℕ) (args : List Arg) → (v ≡ codes "setValid") ⊎ (v ≡ codes "setInvalid") → IsFine (form_tests p s (verb_form st v) args) → is_held_header st ≡ true
  valid_held p (held a t) v args e f = valid_thing p t v args e f
  valid_held p (rows m) v args (inl e) f = broken (subst (λ (w : List ℕ). IsFine (form_tests p s (verb_form (rows m) w) args)) e f)
  valid_held p (rows m) v args (inr e) f = broken (subst (λ (w : List ℕ). IsFine (form_tests p s (verb_form (rows m) w) args)) e f)
  valid_held p (cells k) v args (inl e) f = broken (subst (λ (w : List ℕ). IsFine (form_tests p s (verb_form (cells k) w) args)) e f)
  valid_held p (cells k) v args (inr e) f = broken (subst (λ (w : List ℕ). IsFine (form_tests p s (verb_form (cells k) w) args)) e f)
  valid_held p missing v args e f = broken f
  valid_held p (typed g t) v args e f = broken f
  valid_held p (act ks m) v args e f = broken f
  valid_held p state v args e f = broken f
  valid_held p (function g) v args e f = broken f
  valid_held p algorithm v args e f = broken f
  valid_held p other v args e f = broken f

  makes_own : (p : ℕ) (x y verb : List ℕ) (args : List Arg) → is_own x ≡ true → is_own y ≡ true → IsFine (form_tests p s (verb_form (s (x ∷ y ∷ [])) verb) args) → IsOwnAct (act_on_header (first_name sc x ∷ y ∷ []) verb)
  makes_own p x y verb args ox oy f = go (same_text verb (codes "setValid")) (same_text verb (codes "setInvalid")) refl refl
    where
      go : (i j : Bool) → same_text verb (codes "setValid") ≡ i → same_text verb (codes "setInvalid") ≡ j → IsOwnAct (cond i (makes (first_name sc x ∷ y ∷ []) true) (cond j (makes (first_name sc x ∷ y ∷ []) false) idle))
      go true j e g = header_own s sc b (x ∷ y ∷ []) (ox, (oy, tt)) (valid_held p (s (x ∷ y ∷ [])) verb args (inl (text_is verb (codes "setValid") e)) f)
      go false true e g = header_own s sc b (x ∷ y ∷ []) (ox, (oy, tt)) (valid_held p (s (x ∷ y ∷ [])) verb args (inr (text_is verb (codes "setInvalid") g)) f)
      go false false e g = tt

  -- ---- calls

  pub call_own : (p : ℕ) (callee : List (List ℕ)) (args : List Arg) → OldPath is_own callee → OldArgs is_own args → IsFine (form_tests p s (form_of s callee) args) → act_tells_report (act_of callee args) ≡ false → IsOwnAct (act_of (callee_under sc callee) (map (arg_under sc) args))
  call_own p [] args ox o f h = tt
  call_own p (x ∷ []) args ox o f h = named_own p x args ox.0 o f h
  call_own p (x ∷ verb ∷ []) args ox o f h = on_own p x verb args ox.0 o f
  call_own p (x ∷ y ∷ verb ∷ []) args ox o f h = makes_own p x y verb args ox.0 ox.1.0 f
  call_own p (x ∷ y ∷ z ∷ verb ∷ rest) args ox o f h = tt

-- Registers, parameters and fields: what is read is spelled so, and what was read up to a fault begins it.
use Rattle.std.proofs.Common.{ℕ, suc, ◌+◌, List, [], ◌∷◌, ◌++◌, refl, sym, subst, arith, append_assoc}
use Rattle.std.specs.Prelude.{slice_get}
use Rattle.lex_text.specs.declared.literal.Literal.{Literal}
use Rattle.lex_words.specs.declared.key.Key.TheVariants as k
use Rattle.lex_words.specs.Seen.{Lexeme, name, number, key, at_key}
use Rattle.lex_words.proofs.KeyCodes.{at_key-is}
use Rattle.lex_words.proofs.Spelled.{Reads, Reads-bind, Reads-lexeme, Reads-ok, Reads-cond, Reads-expect, Reads-named, Reads-numbered}
use Rattle.p4_tree.specs.declared.statement.PTy.{PTy}
use Rattle.p4_tree.specs.declared.statement.PTy.TheVariants as type
use Rattle.p4_tree.specs.declared.program.Way.{Way}
use Rattle.p4_tree.specs.declared.program.Way.TheVariants as way
use Rattle.p4_tree.specs.declared.program.Param.{Param}
use Rattle.p4_tree.specs.declared.program.Register.{Register}
use Rattle.p4_spelling.specs.Types.{a_bool, a_bit, bits, SpellsType, a_scalar, SpellsClosed, closed, both_closed, SpellsRegister, a_register, SpellsWay, plain, into, out, both, SpellsParam, a_param, SpellsArgument, an_argument, SpellsField, a_field}
use Rattle.p4_expressions.proofs.SoundSteps.{zero_lexeme, some_name, Any, Reads-small}
use Rattle.p4_reader.proofs.SoundDeclared.{Reads-type}
use Rattle.p4_decls.specs.Declaring.{closed_width_at, closed_bits_at, closed_at, register_at, way_at, param_at, argument_at, field_at}
use Rattle.p4_decls.proofs.Repeats.{Least}

-- what stands behind the type of a register
abbrev register_end : Literal → List ℕ → List Lexeme
register_end v x = key k.Open ∷ number v ∷ key k.Close ∷ name x ∷ key k.Semicolon ∷ []

abbrev made : ℕ → PTy → Literal → List ℕ → Register
made p t v x = record { at = p; ty = t; count = v.value; name = x }

abbrev parameter : ℕ → Way → PTy → List ℕ → Param
parameter p w t x = record { at = p; way = w; ty = t; name = x }

-- a shortest parameter
pub least_param : (p : ℕ) → Least SpellsParam Any p
least_param p = record { item = parameter p way.Plain type.Bool some_name; lexemes = key k.Bool ∷ name some_name ∷ []; spells = a_param some_name plain (a_scalar a_bool); bound = tt }

pub least_argument : (p : ℕ) → Least SpellsArgument Any p
least_argument p = record { item = (type.Bool, some_name); lexemes = key k.Bool ∷ name some_name ∷ []; spells = an_argument some_name (a_scalar a_bool); bound = tt }

-- a semicolon makes a field of it
field_of : {p : ℕ} {a : PTy × List ℕ} {w : List Lexeme} → SpellsArgument p a w → SpellsField p a (w ++ key k.Semicolon ∷ [])
field_of {p = p} {a = a} (an_argument {u = u} x s) = subst (SpellsField p a) (sym (append_assoc u (name x ∷ []) (key k.Semicolon ∷ []))) (a_field x s)

module _ (ws : List Lexeme) (n : ℕ) where
  -- ---- registers

  Reads-closed_width : (b i : ℕ) → Reads ws (λ t v. SpellsClosed t (key k.Bit ∷ v)) Any b b i (closed_width_at ws n i)
  unfolding closed_width_at
  Reads-closed_width b i =
      Reads-expect ws _ _ b b b i k.Less _ (type.Bit 0) (number zero_lexeme ∷ key k.ShiftRight ∷ []) refl (both_closed zero_lexeme (omega arith)) tt
      (Reads-small ws n _ _ b b (i + 1) _ (λ v low. (type.Bit v.value, key k.ShiftRight ∷ [], both_closed v low, tt)) (λ v low w.
      Reads-cond ws _ _ b b (i + 1 + 1) (at_key k.ShiftRight (slice_get ws (i + 1 + 1))) _ _
      (λ e. Reads-lexeme ws _ _ b b b (i + 1 + 1) (key k.ShiftRight) _ (at_key-is k.ShiftRight (slice_get ws (i + 1 + 1)) e) refl (type.Bit v.value, [], both_closed v low, tt)
      (Reads-ok ws _ _ b (i + 1 + 1 + 1) (type.Bit v.value) (both_closed v low) tt))
      (λ _. Reads-expect ws _ _ b b b (i + 1 + 1) k.More _ (type.Bit v.value) (key k.More ∷ []) refl (closed (a_scalar (bits v low))) tt
      (Reads-expect ws _ _ b b b (i + 1 + 1 + 1) k.More _ (type.Bit v.value) [] refl (closed (a_scalar (bits v low))) tt
      (Reads-ok ws _ _ b (i + 1 + 1 + 1 + 1) (type.Bit v.value) (closed (a_scalar (bits v low))) tt)))))

  Reads-closed_bits : (b i : ℕ) → Reads ws SpellsClosed Any b b i (closed_bits_at ws n i)
  unfolding closed_bits_at
  Reads-closed_bits b i =
      Reads-expect ws _ _ b b b i k.Bit _ (type.Bit 1) (key k.More ∷ []) refl (closed (a_scalar a_bit)) tt
      (Reads-cond ws _ _ b b (i + 1) (at_key k.Less (slice_get ws (i + 1))) _ _ (λ _. Reads-closed_width b (i + 1))
      (λ _. Reads-expect ws _ _ b b b (i + 1) k.More _ (type.Bit 1) [] refl (closed (a_scalar a_bit)) tt
      (Reads-ok ws _ _ b (i + 1 + 1) (type.Bit 1) (closed (a_scalar a_bit)) tt)))

  Reads-closed : (b i : ℕ) → Reads ws SpellsClosed Any b b i (closed_at ws n i)
  unfolding closed_at
  Reads-closed b i =
      Reads-cond ws _ _ b b i (at_key k.Bit (slice_get ws i)) _ _ (λ _. Reads-closed_bits b i)
      (λ _. Reads-bind ws SpellsType _ Any _ b b b i _ _ (Reads-type ws n b i)
      (λ t u s. (t, key k.More ∷ [], closed s, λ _. tt))
      (λ t u st s _. Reads-expect ws _ _ b b b t.1 k.More _ t.0 [] refl (closed s) tt (Reads-ok ws _ _ b (t.1 + 1) t.0 (closed s) tt)))

  pub Reads-register : (b p : ℕ) → Reads ws (SpellsRegister p) Any (suc b) (suc b) p (register_at ws n p)
  unfolding register_at
  Reads-register b p =
      let a = some_name in
      let z = zero_lexeme in
      let o = closed (a_scalar a_bool) in
      Reads-expect ws _ _ (suc b) (suc b) (suc b) p k.Register _ (made p type.Bool z a) (key k.Less ∷ key k.Bool ∷ key k.More ∷ register_end z a) refl (a_register z a o) tt
      (Reads-expect ws _ _ (suc b) (suc b) (suc b) (p + 1) k.Less _ (made p type.Bool z a) (key k.Bool ∷ key k.More ∷ register_end z a) refl (a_register z a o) tt
      (Reads-bind ws SpellsClosed _ Any _ (suc b) (suc b) (suc b) (p + 1 + 1) _ _ (Reads-closed (suc b) (p + 1 + 1))
      (λ t u s. (made p t z a, register_end z a, a_register z a s, λ _. tt))
      (λ t u st s _. Reads-expect ws _ _ (suc b) b (suc b) t.1 k.Open _ (made p t.0 z a) (number z ∷ key k.Close ∷ name a ∷ key k.Semicolon ∷ []) refl (a_register z a s) tt
      (Reads-numbered ws n _ _ b (suc b) (t.1 + 1) _ (λ v. (made p t.0 v a, key k.Close ∷ name a ∷ key k.Semicolon ∷ [], a_register v a s, tt))
      (λ v _. Reads-expect ws _ _ b (suc b) (suc b) (t.1 + 1 + 1) k.Close _ (made p t.0 v a) (name a ∷ key k.Semicolon ∷ []) refl (a_register v a s) tt
      (Reads-named ws n _ _ (suc b) (suc b) (t.1 + 1 + 1 + 1) _ (λ x. (made p t.0 v x, key k.Semicolon ∷ [], a_register v x s, tt))
      (λ x _. Reads-expect ws _ _ (suc b) (suc b) (suc b) (t.1 + 1 + 1 + 1 + 1) k.Semicolon _ (made p t.0 v x) [] refl (a_register v x s) tt
      (Reads-ok ws _ _ (suc b) (t.1 + 1 + 1 + 1 + 1 + 1) (made p t.0 v x) (a_register v x s) tt))))))))

  -- ---- parameters and fields

  Reads-way : (b p : ℕ) → Reads ws SpellsWay Any b b p (way_at ws n p)
  unfolding way_at
  Reads-way b p =
      Reads-cond ws _ _ b b p (at_key k.In (slice_get ws p)) _ _
      (λ e. Reads-lexeme ws _ _ b b b p (key k.In) _ (at_key-is k.In (slice_get ws p) e) refl (way.Into, [], into, tt) (Reads-ok ws _ _ b (p + 1) way.Into into tt))
      (λ _. Reads-cond ws _ _ b b p (at_key k.Out (slice_get ws p)) _ _
      (λ e. Reads-lexeme ws _ _ b b b p (key k.Out) _ (at_key-is k.Out (slice_get ws p) e) refl (way.Out, [], out, tt) (Reads-ok ws _ _ b (p + 1) way.Out out tt))
      (λ _. Reads-cond ws _ _ b b p (at_key k.Inout (slice_get ws p)) _ _
      (λ e. Reads-lexeme ws _ _ b b b p (key k.Inout) _ (at_key-is k.Inout (slice_get ws p) e) refl (way.Both, [], both, tt) (Reads-ok ws _ _ b (p + 1) way.Both both tt))
      (λ _. Reads-ok ws _ _ b p way.Plain plain tt)))

  pub Reads-param : (b p : ℕ) → Reads ws (SpellsParam p) Any b b p (param_at ws n p)
  unfolding param_at
  Reads-param b p =
      let a = some_name in
      Reads-bind ws SpellsWay _ Any _ b b b p _ _ (Reads-way b p)
      (λ w u s. (parameter p w type.Bool a, key k.Bool ∷ name a ∷ [], a_param a s (a_scalar a_bool), λ _. tt))
      (λ w u st s _. Reads-bind ws SpellsType _ Any _ b b b w.1 _ _ (Reads-type ws n b w.1)
      (λ t v r. (parameter p w.0 t a, name a ∷ [], a_param a s r, λ _. tt))
      (λ t v st' r _. Reads-named ws n _ _ b b t.1 _ (λ x. (parameter p w.0 t.0 x, [], a_param x s r, tt))
      (λ x _. Reads-ok ws _ _ b (t.1 + 1) (parameter p w.0 t.0 x) (a_param x s r) tt)))

  pub Reads-argument : (b p : ℕ) → Reads ws (SpellsArgument p) Any b b p (argument_at ws n p)
  unfolding argument_at
  Reads-argument b p =
      Reads-bind ws SpellsType _ Any _ b b b p _ _ (Reads-type ws n b p)
      (λ t u s. ((t, some_name), name some_name ∷ [], an_argument some_name s, λ _. tt))
      (λ t u st s _. Reads-named ws n _ _ b b t.1 _ (λ x. ((t.0, x), [], an_argument x s, tt))
      (λ x _. Reads-ok ws _ _ b (t.1 + 1) (t.0, x) (an_argument x s) tt))

  pub Reads-field : (b p : ℕ) → Reads ws (SpellsField p) Any b b p (field_at ws n p)
  unfolding field_at
  Reads-field b p =
      Reads-bind ws (SpellsArgument p) _ Any _ b b b p _ _ (Reads-argument b p)
      (λ t u s. (t, key k.Semicolon ∷ [], field_of s, λ _. tt))
      (λ t u st s _. Reads-expect ws _ _ b b b t.1 k.Semicolon _ t.0 [] refl (field_of s) tt (Reads-ok ws _ _ b (t.1 + 1) t.0 (field_of s) tt))

-- The left side on level 7. Where it begins with a bracket and no cast, it is read as on level 6, or there are several values in the brackets.
use Rattle.std.proofs.Common.{◌≡◌, ℕ, zero, suc, ◌+◌, ◌≤◌, ◌<◌, Bool, true, false, cond, List, Some, Ok, Err, refl, sym, ap, ◌∙◌, arith}
use Rattle.std.proofs.lemmas.Bool.{lt-ltb, le-ltb, ne_eqb}
use Rattle.std.specs.Prelude.{slice_get, nat_lt, ◌==◌}
use Rattle.lex_words.specs.declared.key.Key.{Key}
use Rattle.lex_words.specs.declared.key.Key.TheVariants.{Bit, Open, Close, Comma}
use Rattle.lex_words.specs.Seen.{Lexeme, key, at_key}
use Rattle.lex_words.specs.Reading.{high, deep, Read, ◌>>=◌, expect_at, room_at, open_at}
use Rattle.indus_tree.specs.Tree.{Expr}
use Rattle.indus_spelling.specs.Operators.{top}
use Rattle.indus_expressions.specs.Reading.{Reader, cast_at, bracket_at, opened_at, operand_at, chain, climb, tuple_at, group_at, head_at, layer}

-- ---- steps

pub bind_bind : {A B C : Type 0} (r : Read A) (f : A × ℕ → Read B) (g : B × ℕ → Read C) → ((r >>= f) >>= g) ≡ (r >>= λ x. f x >>= g)
bind_bind (Ok x) f g = refl
bind_bind (Err e) f g = refl

pub bind_ok : {A : Type 0} (r : Read A) → (r >>= λ x. Ok (x.0, x.1)) ≡ r
bind_ok (Ok x) = refl
bind_ok (Err e) = refl

pub room_ok : (m h i : ℕ) → m ≤ h → room_at m h i ≡ Ok (m, i)
unfolding room_at
room_ok m h i le = rw (le-ltb h m le) refl

pub room_high : (m h i : ℕ) → h < m → room_at m h i ≡ Err (high i)
unfolding room_at
room_high m h i lt = rw (lt-ltb h m lt) refl

module _ (ws : List Lexeme) (n : ℕ) where
  pub open_ok : (b i : ℕ) → slice_get ws i ≡ Some (key Open) → 0 < b → open_at ws n b i ≡ Ok (Open, i + 1)
  unfolding open_at
  open_ok b i w lt = rw (w, le-ltb b 1 (omega (arith, lt))) refl

  pub open_deep : (b i : ℕ) → slice_get ws i ≡ Some (key Open) → b ≡ 0 → open_at ws n b i ≡ Err (deep i)
  unfolding open_at
  open_deep b i w z = let t : nat_lt b 1 ≡ true = lt-ltb b 1 (omega (arith, z)) in rw (w, t) refl

  module _ (inside below under : Reader) (h b : ℕ) where
    -- ---- levels up to 6

    -- a level is an operand and what is joined behind it
    pub layer_climb : (l i : ℕ) → l ≤ 6 → layer ws n inside below under h b l i ≡ (operand_at ws n inside below h b i >>= λ x. climb ws n below h i l x.0 x.1)
    unfolding layer climb
    layer_climb zero i le = sym (bind_ok (operand_at ws n inside below h b i))
    layer_climb (suc l) i le =
        let f : (l == 6) ≡ false = ne_eqb l 6 (λ x. omega (arith, x, le)) in
        rw f (ap (λ (r : Read Expr). r >>= λ x. chain ws n below h l i n x.0 x.1) (layer_climb l i (omega (arith, le)))
        ∙ bind_bind (operand_at ws n inside below h b i) (λ x. climb ws n below h i l x.0 x.1) (λ x. chain ws n below h l i n x.0 x.1))

    -- ---- behind a bracket

    -- a cast, or what stands in brackets
    abbrev pub Opened : ℕ → Read Expr
    Opened p = cond (at_key Bit (slice_get ws (p + 1))) (room_at 2 h (p + 1) >>= λ z. cast_at ws n below p z.1) (bracket_at ws n inside (p + 1))

    -- one value in brackets and what is joined behind it, or several
    abbrev pub Grouped : ℕ → Read Expr
    Grouped p = inside top (p + 1) >>= λ x. cond (at_key Comma (slice_get ws x.1)) (tuple_at ws n under h p x.0 x.1) (expect_at ws Close x.1 >>= λ r. climb ws n below h p 6 x.0 r.1)

    -- a left side on level 7 that begins with a bracket
    abbrev pub Headed : ℕ → Read Expr
    Headed p = cond (at_key Bit (slice_get ws (p + 1))) (Opened p >>= λ x. climb ws n below h p 6 x.0 x.1) (Grouped p)

    module _ (p : ℕ) where
      operand_opens : slice_get ws p ≡ Some (key Open) → operand_at ws n inside below h b p ≡ (room_at 1 h p >>= λ z. opened_at ws n inside below h b z.1)
      unfolding operand_at
      operand_opens w = rw w refl

      pub operand_high : slice_get ws p ≡ Some (key Open) → h ≡ 0 → operand_at ws n inside below h b p ≡ Err (high p)
      operand_high w z = operand_opens w ∙ ap (λ (r : Read ℕ). r >>= λ z. opened_at ws n inside below h b z.1) (room_high 1 h p (omega (arith, z)))

      pub operand_deep : slice_get ws p ≡ Some (key Open) → 0 < h → b ≡ 0 → operand_at ws n inside below h b p ≡ Err (deep p)
      unfolding opened_at
      operand_deep w lt z =
          operand_opens w ∙ ap (λ (r : Read ℕ). r >>= λ z. opened_at ws n inside below h b z.1) (room_ok 1 h p lt)
          ∙ ap (λ (r : Read Key). r >>= λ a. cond (at_key Bit (slice_get ws a.1)) (room_at 2 h a.1 >>= λ z. cast_at ws n below p z.1) (bracket_at ws n inside a.1)) (open_deep b p w z)

      pub operand_open : slice_get ws p ≡ Some (key Open) → 0 < h → 0 < b → operand_at ws n inside below h b p ≡ Opened p
      unfolding opened_at
      operand_open w lt lb =
          operand_opens w ∙ ap (λ (r : Read ℕ). r >>= λ z. opened_at ws n inside below h b z.1) (room_ok 1 h p lt)
          ∙ ap (λ (r : Read Key). r >>= λ a. cond (at_key Bit (slice_get ws a.1)) (room_at 2 h a.1 >>= λ z. cast_at ws n below p z.1) (bracket_at ws n inside a.1)) (open_ok b p w lb)

      -- what stands in brackets, and what is done with it
      abbrev In : (Expr × ℕ → Read Expr) → Key × ℕ → Read Expr
      In f a = inside top a.1 >>= f

      abbrev Behind : Expr × ℕ → Read Expr
      Behind x = cond (at_key Comma (slice_get ws x.1)) (tuple_at ws n under h p x.0 x.1) (expect_at ws Close x.1 >>= λ r. climb ws n below h p 6 x.0 r.1)

      group_high : h ≡ 0 → group_at ws n inside below under h b p ≡ Err (high p)
      unfolding group_at
      group_high z = ap (λ (r : Read ℕ). r >>= λ z. open_at ws n b z.1 >>= In Behind) (room_high 1 h p (omega (arith, z)))

      group_opens : 0 < h → group_at ws n inside below under h b p ≡ (open_at ws n b p >>= In Behind)
      unfolding group_at
      group_opens lt = ap (λ (r : Read ℕ). r >>= λ z. open_at ws n b z.1 >>= In Behind) (room_ok 1 h p lt)

      group_deep : slice_get ws p ≡ Some (key Open) → 0 < h → b ≡ 0 → group_at ws n inside below under h b p ≡ Err (deep p)
      group_deep w lt z = group_opens lt ∙ ap (λ (r : Read Key). r >>= In Behind) (open_deep b p w z)

      pub group_open : slice_get ws p ≡ Some (key Open) → 0 < h → 0 < b → group_at ws n inside below under h b p ≡ Grouped p
      group_open w lt lb = group_opens lt ∙ ap (λ (r : Read Key). r >>= In Behind) (open_ok b p w lb)

      -- ---- the left side on level 7

      abbrev pub Head : Read Expr
      Head = head_at ws n inside below under h b (layer ws n inside below under h b 6 p) p

      pub head_other : at_key Open (slice_get ws p) ≡ false → Head ≡ layer ws n inside below under h b 6 p
      unfolding head_at
      head_other e = rw e refl

      pub head_opens : slice_get ws p ≡ Some (key Open) → Head ≡ cond (at_key Bit (slice_get ws (p + 1))) (layer ws n inside below under h b 6 p) (group_at ws n inside below under h b p)
      unfolding head_at
      head_opens w = rw w refl

      same_cond : {A : Type 0} (t : Bool) (x y : A) → x ≡ y → cond t x y ≡ y
      same_cond true x y e = e
      same_cond false x y e = refl

      pub climbs : layer ws n inside below under h b 6 p ≡ (operand_at ws n inside below h b p >>= λ x. climb ws n below h p 6 x.0 x.1)
      climbs = layer_climb 6 p (omega arith)

      pub head_high : slice_get ws p ≡ Some (key Open) → h ≡ 0 → Head ≡ Err (high p)
      head_high w z =
          let r : layer ws n inside below under h b 6 p ≡ Err (high p) = climbs ∙ ap (λ (r : Read Expr). r >>= λ x. climb ws n below h p 6 x.0 x.1) (operand_high w z) in
          head_opens w ∙ same_cond (at_key Bit (slice_get ws (p + 1))) _ _ (r ∙ sym (group_high z)) ∙ group_high z

      pub head_deep : slice_get ws p ≡ Some (key Open) → 0 < h → b ≡ 0 → Head ≡ Err (deep p)
      head_deep w lt z =
          let r : layer ws n inside below under h b 6 p ≡ Err (deep p) = climbs ∙ ap (λ (r : Read Expr). r >>= λ x. climb ws n below h p 6 x.0 x.1) (operand_deep w lt z) in
          head_opens w ∙ same_cond (at_key Bit (slice_get ws (p + 1))) _ _ (r ∙ sym (group_deep w lt z)) ∙ group_deep w lt z

      pub head_open : slice_get ws p ≡ Some (key Open) → 0 < h → 0 < b → Head ≡ Headed p
      head_open w lt lb =
          let r : layer ws n inside below under h b 6 p ≡ (Opened p >>= λ x. climb ws n below h p 6 x.0 x.1) = climbs ∙ ap (λ (r : Read Expr). r >>= λ x. climb ws n below h p 6 x.0 x.1) (operand_open w lt lb) in
          head_opens w ∙ ap (λ (r : Read Expr). cond (at_key Bit (slice_get ws (p + 1))) r (group_at ws n inside below under h b p)) r
          ∙ ap (λ (r : Read Expr). cond (at_key Bit (slice_get ws (p + 1))) (Opened p >>= λ x. climb ws n below h p 6 x.0 x.1) r) (group_open w lt lb)

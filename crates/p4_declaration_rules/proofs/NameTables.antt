-- What a table of names holds.
use Rattle.std.proofs.Common.{◌≡◌, ℕ, ◌+◌, ◌<◌, length, drop, get_or, Bool, true, false, cond, ◌||◌, List, [], ◌∷◌, ◌++◌, map, Bor, refl, sym, ap, ◌∙◌}
use Rattle.std.specs.List.{list_any}
use Rattle.std.specs.Str.{bytes_eq}
use Rattle.std.specs.Cmp.Lexicographic.{nat_list_eq_equiv}
use Rattle.std.proofs.lemmas.Slice.Eq.{bytes_eq-Decides}
use Rattle.lex_text.specs.Names.{same_text}
use Rattle.p4_tree.specs.View.{state_of}
use Rattle.p4_tree.specs.declared.program.ParserState as code
use Rattle.p4_parser_states.specs.Cycles.{is_among, state_names}
use Rattle.p4_declaration_rules.specs.Loops.{named}
use Rattle.p4_declaration_rules.proofs.Seen.{or_none, regroup, named_push, left_at}

pub any_among : (ks : List (Bor (List ℕ))) (x : List ℕ) → list_any (λ k. bytes_eq x k.now) ks ≡ is_among (named ks) x
any_among [] x = refl
any_among (k ∷ ks) x = ap (λ (b : Bool). b || list_any (λ j. bytes_eq x j.now) ks) (nat_list_eq_equiv.symm x k.now) ∙ ap (λ (b : Bool). same_text k.now x || b) (any_among ks x)

among_push : (xs : List (List ℕ)) (n x : List ℕ) → is_among (xs ++ n ∷ []) x ≡ (is_among xs x || same_text n x)
among_push [] n x = or_none (same_text n x)
among_push (y ∷ xs) n x = ap (λ (b : Bool). same_text y x || b) (among_push xs n x) ∙ sym (regroup (same_text y x) (is_among xs x) (same_text n x))

-- a name that is there is so once more
still_there : (xs : List (List ℕ)) (n x : List ℕ) → is_among xs n ≡ true → is_among xs x ≡ (is_among xs x || same_text n x)
still_there xs n x there = by (same_text n x) refl
  where
    by : (b : Bool) → same_text n x ≡ b → is_among xs x ≡ (is_among xs x || b)
    by false e = sym (or_none (is_among xs x))
    by true e =
        let is : is_among xs x ≡ true = ap (is_among xs) (sym ((bytes_eq-Decides n x).0 e)) ∙ there in
        is ∙ sym (ap (λ (b : Bool). b || true) is)

-- a name is put into the table
module _ (ks new : List (Bor (List ℕ))) (k : Bor (List ℕ)) (n : List ℕ) (same : k.now ≡ n) (put : new ≡ cond (list_any (λ j. bytes_eq k.now j.now) ks) ks (ks ++ k ∷ [])) where
  table_more : (x : List ℕ) → is_among (named new) x ≡ (is_among (named ks) x || same_text n x)
  table_more x = by (list_any (λ j. bytes_eq k.now j.now) ks) refl
    where
      by : (b : Bool) → list_any (λ j. bytes_eq k.now j.now) ks ≡ b → is_among (named new) x ≡ (is_among (named ks) x || same_text n x)
      by true e =
          ap (λ us. is_among (named us) x) (put ∙ ap (λ (b : Bool). cond b ks (ks ++ k ∷ [])) e)
          ∙ still_there (named ks) n x (ap (is_among (named ks)) (sym same) ∙ (sym (any_among ks k.now) ∙ e))
      by false e =
          ap (λ us. is_among (named us) x) (put ∙ ap (λ (b : Bool). cond b ks (ks ++ k ∷ [])) e)
          ∙ ap (λ us. is_among us x) (named_push ks k)
          ∙ among_push (named ks) k.now x
          ∙ ap (λ m. is_among (named ks) x || same_text m x) same

  pub table_next : (names : List (List ℕ)) (i : ℕ) → i < length names → n ≡ get_or names i n → (x : List ℕ) → (is_among (named ks) x || is_among (drop i names) x) ≡ is_among names x → (is_among (named new) x || is_among (drop (i + 1) names) x) ≡ is_among names x
  table_next names i lt is x before =
      ap (λ (b : Bool). b || is_among (drop (i + 1) names) x) (table_more x)
      ∙ regroup (is_among (named ks) x) (same_text n x) (is_among (drop (i + 1) names) x)
      ∙ ap (λ ns. is_among (named ks) x || is_among ns x) (sym (left_at names i n lt is))
      ∙ before

-- the name of one state more is put into the table
pub states_table_next : (ks new : List (Bor (List ℕ))) (k : Bor (List ℕ)) (st : code.ParserState) → k.now ≡ st.name → new ≡ cond (list_any (λ j. bytes_eq k.now j.now) ks) ks (ks ++ k ∷ [])
    → (states : List code.ParserState) (i : ℕ) → i < length states → st ≡ get_or states i st
    → (x : List ℕ) → (is_among (named ks) x || is_among (state_names (map state_of (drop i states))) x) ≡ is_among (state_names (map state_of states)) x
    → (is_among (named new) x || is_among (state_names (map state_of (drop (i + 1) states))) x) ≡ is_among (state_names (map state_of states)) x
states_table_next ks new k st same put states i lt is x before =
    ap (λ (b : Bool). b || is_among (state_names (map state_of (drop (i + 1) states))) x) (table_more ks new k st.name same put x)
    ∙ regroup (is_among (named ks) x) (same_text st.name x) (is_among (state_names (map state_of (drop (i + 1) states))) x)
    ∙ ap (λ sts. is_among (named ks) x || is_among (state_names (map state_of sts)) x) (sym (left_at states i st lt is))
    ∙ before
